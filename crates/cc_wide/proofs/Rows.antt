-- A worked program, computed.
-- int main(void){int n=0;while(n<4){n=n+1;switch(n){case 1:write_word(10);case 2:write_word(20);break;default:continue;}write_word(n);}return n;}
use Rattle.std.proofs.Common.{arith}
use Rattle.std.specs.Prelude.{◌≡◌, refl, ℕ, zero, suc, ◌*◌, ◌%◌, Bool, true, false, ◌==◌, List, [], ◌∷◌, Some, None, codes}
use Rattle.cc_ast.specs.Tree.{Name, Expr, Number, Variable, Call, Binary, Conditional, more, none, AtVariable, Assign, Evaluate, IfElse}
use Rattle.cc_ast.specs.scalar.Scalar.TheVariants.{Int, Unsigned}
use Rattle.cc_ast.specs.declared.ast.BinaryOperator.TheVariants.{Add, Less}
use Rattle.cc_ast.specs.declared.ast.AssignmentOperator.TheVariants.{Plain}
use Rattle.cc_c_semantics.specs.Outcome.{Going, Ended}
use Rattle.cc_c_semantics.specs.Meaning.{observed_behavior, source_behavior}
use Rattle.cc_wide.specs.WideTree.{Case, Default, WideStmt, Block, Local, Perform, Return, Break, Continue, While, Switch, WideStmts, end, next, Sections, last, section, WideExternal, Definition}
use Rattle.cc_wide.specs.WideMeaning.{observed_wide_behavior, wide_behavior}
use Rattle.cc_wide.specs.Lowering.{sets, equals, less_than, cases_of, choice, choice_of, lowered_unit, UnitLowers}

abbrev name : List ℕ → Name
name text = record { text = text; at = 0 }

abbrev n : Expr
n = Variable (name (codes "n"))

abbrev writes : Expr → WideStmt
writes e = Perform (Some (Evaluate (Call (name (codes "write_word")) (more e none))))

abbrev switched : WideStmt
switched =
    Switch n (section (Case (record { at = 0; expr = Number Int 1 }) ∷ []) (next (writes (Number Int 10)) end)
    (section (Case (record { at = 0; expr = Number Int 2 }) ∷ []) (next (writes (Number Int 20)) (next (Break 0) end))
    (section (Default ∷ []) (next (Continue 0) end) last)))

abbrev program : List WideExternal
program =
    Definition (record { result = Some Int; name = name (codes "main"); parameters = [] })
    (next (Local Int (record { name = name (codes "n"); initial = Some (Number Int 0) } ∷ []))
    (next (While (Binary Less n (Number Int 4)) (Block (next (Perform (Some (Assign Plain (AtVariable (name (codes "n"))) (Binary Add n (Number Int 1))))) (next switched (next (writes n) end)))))
    (next (Return 0 (Some n)) end))) ∷ []

-- main, four turns and four switches spend nine steps
nine_steps : wide_behavior program [] 9 ≡ record { stop = Ended 4; output = 10 ∷ 20 ∷ 1 ∷ 20 ∷ 2 ∷ [] }
nine_steps = refl

eight_steps : wide_behavior program [] 8 ≡ record { stop = Going; output = 10 ∷ 20 ∷ 1 ∷ 20 ∷ 2 ∷ [] }
eight_steps = refl

lowered_nine : source_behavior (record { text = []; externals = lowered_unit program }) [] 9 ≡ record { stop = Ended 4; output = 10 ∷ 20 ∷ 1 ∷ 20 ∷ 2 ∷ [] }
lowered_nine = refl

lowered_eight : source_behavior (record { text = []; externals = lowered_unit program }) [] 8 ≡ record { stop = Going; output = 10 ∷ 20 ∷ 1 ∷ 20 ∷ 2 ∷ [] }
lowered_eight = refl

-- the premise of the law holds
lowers : UnitLowers program
lowers =
    (((refl, tt, tt), (((refl, tt), ((refl, (refl, tt)), ((omega arith, refl, (((refl, (tt, tt)), tt), (((refl, (tt, tt)), (tt, tt)), ((tt, tt), tt)))), ((refl, (refl, tt)), tt)))), (refl, tt))), tt)

-- int main(void){switch(read_word()){case 7:write_word(1);default:return read_word();}return 0;}
abbrev read_word : Expr
read_word = Call (name (codes "read_word")) none

abbrev reader : List WideExternal
reader =
    Definition (record { result = Some Int; name = name (codes "main"); parameters = [] })
    (next (Switch read_word (section (Case (record { at = 0; expr = Number Int 7 }) ∷ []) (next (writes (Number Int 1)) end)
    (section (Default ∷ []) (next (Return 0 (Some read_word)) end) last))) (next (Return 0 (Some (Number Int 0))) end)) ∷ []

-- the reads are at their places among the words, in the program and in the one to which it is lowered
reads_are_marked : observed_wide_behavior reader (7 ∷ 5 ∷ []) 2 ≡ record { stop = Ended 5; output = 4294967296 ∷ 1 ∷ 4294967296 ∷ [] }
reads_are_marked = refl

lowered_reads : observed_behavior (record { text = []; externals = lowered_unit reader }) (7 ∷ 5 ∷ []) 2 ≡ record { stop = Ended 5; output = 4294967296 ∷ 1 ∷ 4294967296 ∷ [] }
lowered_reads = refl

words_alone : wide_behavior reader (7 ∷ 5 ∷ []) 2 ≡ record { stop = Ended 5; output = 1 ∷ [] }
words_alone = refl

-- A switch whose choice is halved and whose sections stand in groups: sections 12 to 1, each with one case, three times its number. The odd
-- ones end with `break`.
abbrev ends_if : Bool → WideStmts
ends_if true = next (Break 0) end
ends_if false = end

abbrev many : ℕ → Sections
many zero = last
many (suc k) = section (Case (record { at = 0; expr = Number Int (suc k * 3) }) ∷ []) (next (writes (Number Int (suc k))) (ends_if (suc k % 2 == 1))) (many k)

abbrev chooser : List WideExternal
chooser =
    Definition (record { result = Some Int; name = name (codes "main"); parameters = [] })
    (next (While read_word (Block (next (Switch read_word (many 12)) end))) (next (Return 0 (Some (Number Int 0))) end)) ∷ []

-- the last label first, then one in the middle, the first, and words that no label has
abbrev words : List ℕ
words = 1 ∷ 3 ∷ 1 ∷ 18 ∷ 1 ∷ 36 ∷ 1 ∷ 19 ∷ 1 ∷ 39 ∷ 1 ∷ 0 ∷ []

abbrev read : ℕ
read = 4294967296

abbrev found : List ℕ
found = read ∷ read ∷ 1 ∷ read ∷ read ∷ 6 ∷ 5 ∷ read ∷ read ∷ 12 ∷ 11 ∷ read ∷ read ∷ read ∷ read ∷ read ∷ read ∷ read ∷ []

many_found : observed_wide_behavior chooser words 20 ≡ record { stop = Ended 0; output = found }
many_found = refl

lowered_found : observed_behavior (record { text = []; externals = lowered_unit chooser }) words 20 ≡ record { stop = Ended 0; output = found }
lowered_found = refl

-- main, six turns and six switches spend thirteen steps
many_spent : observed_wide_behavior chooser words 12 ≡ record { stop = Going; output = read ∷ read ∷ 1 ∷ read ∷ read ∷ 6 ∷ 5 ∷ read ∷ read ∷ 12 ∷ 11 ∷ read ∷ read ∷ read ∷ read ∷ read ∷ read ∷ [] }
many_spent = refl

lowered_spent : observed_behavior (record { text = []; externals = lowered_unit chooser }) words 12 ≡ observed_wide_behavior chooser words 12
lowered_spent = refl

-- twelve cases are halved at the seventh smallest, 21; twelve sections stand in two groups of six
is_halved : choice_of 0 (many 12) ≡ IfElse (less_than 0 21) (choice 11 0 13 0 (Some 21) (cases_of 1 (many 12))) (choice 11 0 13 21 None (cases_of 1 (many 12)))
is_halved = refl

is_chained : choice 9 0 13 30 None (cases_of 1 (many 12)) ≡ sets 0 (Conditional (equals 0 36) (Number Unsigned 1) (Conditional (equals 0 33) (Number Unsigned 2) (Conditional (equals 0 30) (Number Unsigned 3) (Number Unsigned 13))))
is_chained = refl
