-- Instructions are written from last to first: the names of a list come into scope first, and when a member is written, the
-- instructions after it are already there.
use Rattle.std.proofs.Common.{◌≡◌, ℕ, ◌+◌, ◌-◌, ◌≤◌, List, [], ◌∷◌, ◌++◌, length, length-append, reverse, set, refl, sym, ap, ◌∙◌, append_assoc, arith}
use Rattle.std.proofs.lemmas.List.{set-append_right}
use Rattle.cc_ast.specs.Erase.{optional_tree, declarator_trees, statement_tree, statements_of}
use Rattle.cc_ast.specs.Tree as tree
use Rattle.cc_tokens.specs.declared.scalar.Scalar.{Scalar}
use Rattle.cc_ast.specs.declared.ast.Declarator.{Declarator}
use Rattle.cc_ast.specs.declared.ast.Statement.{Statement}
use Rattle.cc_meaning.specs.internal.Writing.{exits_of}
use Rattle.cc_meaning.specs.internal.Form as code
use Rattle.cc_layout.specs.Environment.{Environment, with_local, with_locals, behind}
use Rattle.cc_meaning.specs.internal.Form.{further, initial_code, declared_code, exits_of_body, turns_code, statement_code, statements_code}
use Rattle.cc_meaning.specs.declared.form.Instruction.{Instruction}
use Rattle.cc_meaning.specs.declared.form.Instruction.TheVariants.{Clear, Step, Repeat}
use Rattle.cc_meaning.specs.declared.writer.statements.Exits.{Exits}
use Rattle.cc_meaning.proofs.Emitting.{reverse-prefix}

-- ---- declarations

-- the environment after some names in a declaration, given the last one first
abbrev pub with_reversed : Scalar → List Declarator → Environment → Environment
with_reversed t [] w = w
with_reversed t (d ∷ before) w = with_local t d.name.bytes.items (with_reversed t before w)

with_reversed-append : (t : Scalar) (xs ys : List Declarator) (w : Environment) → with_reversed t (xs ++ ys) w ≡ with_reversed t xs (with_reversed t ys w)
with_reversed-append t [] ys w = refl
with_reversed-append t (d ∷ xs) ys w = ap (with_local t d.name.bytes.items) (with_reversed-append t xs ys w)

pub with_locals-reversed : (t : Scalar) (ds : List Declarator) (w : Environment) → with_locals t (declarator_trees ds) w ≡ with_reversed t (reverse ds) w
with_locals-reversed t [] w = refl
with_locals-reversed t (d ∷ ds) w =
    with_locals-reversed t ds (with_local t d.name.bytes.items w) ∙ sym (with_reversed-append t (reverse ds) (d ∷ []) w)
    ∙ sym (ap (λ l. with_reversed t l w) (reverse-prefix d ds))

-- the instructions of one name in a declaration, given the environment `w` before it
abbrev pub declarator_code : Scalar → Declarator → Environment → List Instruction
declarator_code t d w = Clear (length w.locals) ∷ initial_code (with_local t d.name.bytes.items w) (length w.locals) (optional_tree d.initial)

-- the instructions of names in a declaration (given the last one first), followed by the instructions `c`
abbrev pub declared_onto : Scalar → List Declarator → Environment → List Instruction → List Instruction
declared_onto t [] w c = c
declared_onto t (d ∷ before) w c = declared_onto t before w (declarator_code t d (with_reversed t before w) ++ c)

declared_onto-append : (t : Scalar) (xs ys : List Declarator) (w : Environment) (c : List Instruction)
    → declared_onto t (xs ++ ys) w c ≡ declared_onto t ys w (declared_onto t xs (with_reversed t ys w) c)
declared_onto-append t [] ys w c = refl
declared_onto-append t (d ∷ xs) ys w c =
    ap (λ v. declared_onto t (xs ++ ys) w (declarator_code t d v ++ c)) (with_reversed-append t xs ys w)
    ∙ declared_onto-append t xs ys w (declarator_code t d (with_reversed t xs (with_reversed t ys w)) ++ c)

pub declared-is : (t : Scalar) (ds : List Declarator) (w : Environment) (c : List Instruction) → declared_onto t (reverse ds) w c ≡ declared_code w t (declarator_trees ds) ++ c
declared-is t [] w c = refl
declared-is t (d ∷ ds) w c =
    let there = with_local t d.name.bytes.items w in
    ap (λ l. declared_onto t l w c) (reverse-prefix d ds) ∙ declared_onto-append t (reverse ds) (d ∷ []) w c
    ∙ ap (λ l. declarator_code t d w ++ l) (declared-is t ds there c)
    ∙ sym (append_assoc (declarator_code t d w) (declared_code there t (declarator_trees ds)) c)

-- while the names of a declaration are removed, the code so far and the names that are left together make up the whole
pub record Undeclaring (t : Scalar) (w : Environment) (all : List Declarator) (c0 : List Instruction) (v : Environment) (c : List Instruction) (rest : List Declarator) : Type 0 where
  pub names : v ≡ with_reversed t rest w
  pub code : declared_onto t rest w c ≡ declared_onto t all w c0

pub Undeclaring-next : (t : Scalar) (w : Environment) (all : List Declarator) (c0 : List Instruction) (v : Environment) (c : List Instruction) (d : Declarator) (rest : List Declarator)
    (v' : Environment) (c' : List Instruction)
    → Undeclaring t w all c0 v c (d ∷ rest)
    → ((t : Scalar) (w : Environment) → v ≡ with_local t d.name.bytes.items w → v' ≡ w)
    → ((t : Scalar) (w : Environment) → v ≡ with_local t d.name.bytes.items w → c' ≡ Clear (length w.locals) ∷ initial_code v (length w.locals) (optional_tree d.initial) ++ c)
    → Undeclaring t w all c0 v' c' rest
Undeclaring-next t w all c0 v c d rest v' c' before en ec =
    let behind_rest = with_reversed t rest w in
    record {
      names = en t behind_rest before.names;
      code =
          ap (declared_onto t rest w) (ec t behind_rest before.names ∙ ap (λ u. Clear (length behind_rest.locals) ∷ initial_code u (length behind_rest.locals) (optional_tree d.initial) ++ c) before.names)
          ∙ before.code;
    }

-- ---- statements

-- the environment after some statements, given in the order of the text, or the last one first
abbrev pub behind_all : List Statement → Environment → Environment
behind_all [] w = w
behind_all (s ∷ rest) w = behind_all rest (behind (statement_tree s) w)

abbrev pub behind_reversed : List Statement → Environment → Environment
behind_reversed [] w = w
behind_reversed (s ∷ before) w = behind (statement_tree s) (behind_reversed before w)

behind_reversed-append : (xs ys : List Statement) (w : Environment) → behind_reversed (xs ++ ys) w ≡ behind_reversed xs (behind_reversed ys w)
behind_reversed-append [] ys w = refl
behind_reversed-append (s ∷ xs) ys w = ap (behind (statement_tree s)) (behind_reversed-append xs ys w)

pub behind_all-reversed : (ss : List Statement) (w : Environment) → behind_all ss w ≡ behind_reversed (reverse ss) w
behind_all-reversed [] w = refl
behind_all-reversed (s ∷ ss) w =
    behind_all-reversed ss (behind (statement_tree s) w) ∙ sym (behind_reversed-append (reverse ss) (s ∷ []) w)
    ∙ sym (ap (λ l. behind_reversed l w) (reverse-prefix s ss))

-- the instructions of statements (given the last one first), followed by the instructions `c`
abbrev pub written_onto : Exits → List Statement → Environment → List Instruction → List Instruction
written_onto x [] w c = c
written_onto x (s ∷ before) w c = written_onto x before w (statement_code (behind_reversed before w) (exits_of (length c) x) (statement_tree s) ++ c)

written_onto-append : (x : Exits) (xs ys : List Statement) (w : Environment) (c : List Instruction)
    → written_onto x (xs ++ ys) w c ≡ written_onto x ys w (written_onto x xs (behind_reversed ys w) c)
written_onto-append x [] ys w c = refl
written_onto-append x (s ∷ xs) ys w c =
    ap (λ v. written_onto x (xs ++ ys) w (statement_code v (exits_of (length c) x) (statement_tree s) ++ c)) (behind_reversed-append xs ys w)
    ∙ written_onto-append x xs ys w (statement_code (behind_reversed xs (behind_reversed ys w)) (exits_of (length c) x) (statement_tree s) ++ c)

-- a target's distance from an instruction n places earlier is larger by n
further-minus : (n m k : ℕ) → k ≤ m → (n + m) - k ≡ n + (m - k)
further-minus n m k h = omega arith

pub further-exits : (x : Exits) (c others : List Instruction) → x.breaks ≤ length c → x.continues ≤ length c
    → exits_of (length (others ++ c)) x ≡ further (length others) (exits_of (length c) x)
further-exits x c others hb hc =
    ap (λ n. exits_of n x) (length-append others c) ∙ (λ i. record {
      breaks = further-minus (length others) (length c) x.breaks hb i;
      continues = further-minus (length others) (length c) x.continues hc i;
    })

pub written-is : (x : Exits) (ss : List Statement) (w : Environment) (c : List Instruction) → x.breaks ≤ length c → x.continues ≤ length c
    → written_onto x (reverse ss) w c ≡ statements_code w (exits_of (length c) x) (statements_of ss) ++ c
written-is x [] w c hb hc = refl
written-is x (s ∷ ss) w c hb hc =
    let there = behind (statement_tree s) w in
    let others = statements_code there (exits_of (length c) x) (statements_of ss) in
    ap (λ l. written_onto x l w c) (reverse-prefix s ss) ∙ written_onto-append x (reverse ss) (s ∷ []) w c
    ∙ ap (λ l. statement_code w (exits_of (length l) x) (statement_tree s) ++ l) (written-is x ss there c hb hc)
    ∙ ap (λ e. statement_code w e (statement_tree s) ++ (others ++ c)) (further-exits x c others hb hc)
    ∙ sym (append_assoc (statement_code w (further (length others) (exits_of (length c) x)) (statement_tree s)) others c)

-- while the statements of a list are written, the code so far and the statements that are left together make up the whole
pub record Writing (x : Exits) (w : Environment) (all : List Statement) (c0 : List Instruction) (v : Environment) (c : List Instruction) (rest : List Statement) : Type 0 where
  pub names : v ≡ behind_reversed rest w
  pub code : written_onto x rest w c ≡ written_onto x all w c0
  pub longer : length c0 ≤ length c

pub Writing-next : (x : Exits) (w : Environment) (all : List Statement) (c0 : List Instruction) (v : Environment) (c : List Instruction) (s : Statement) (rest : List Statement)
    (v' : Environment) (c' : List Instruction)
    → Writing x w all c0 v c (s ∷ rest)
    → ((w : Environment) → v ≡ behind (statement_tree s) w → v' ≡ w)
    → ((w : Environment) → v ≡ behind (statement_tree s) w → c' ≡ statement_code w (exits_of (length c) x) (statement_tree s) ++ c)
    → Writing x w all c0 v' c' rest
Writing-next x w all c0 v c s rest v' c' before en ec =
    let behind_rest = behind_reversed rest w in
    let this = statement_code behind_rest (exits_of (length c) x) (statement_tree s) in
    let is : c' ≡ this ++ c = ec behind_rest before.names in
    let long : length c' ≡ length this + length c = ap length is ∙ length-append this c in
    let was : length c0 ≤ length c = before.longer in
    record {
      names = en behind_rest before.names;
      code = ap (written_onto x rest w) is ∙ before.code;
      longer = omega arith;
    }

-- the code of a statement that declares nothing in the scope around it does not depend on which of two equal statements the
-- walk meets
pub statement-is : (s met : tree.Stmt) (v w : Environment) (x : code.Exits) (c c' : List Instruction) → s ≡ met → v ≡ behind s w → behind met w ≡ w
    → c' ≡ statement_code v x met ++ c → c' ≡ statement_code w x s ++ c
statement-is s met v w x c c' is e stays written =
    let same : v ≡ w = e ∙ ap (λ u. behind u w) is ∙ stays in
    written ∙ ap (λ u. statement_code u x met ++ c) same ∙ sym (ap (λ u. statement_code w x u ++ c) is)

-- ---- loops

-- the targets of break and continue in a loop's body, as numbers of written instructions
pub exits-of-body : (following test rest c : List Instruction) (breaks : ℕ) → c ≡ following ++ (test ++ Repeat 0 ∷ rest) → breaks ≡ length rest
    → exits_of (length c) (record { breaks = breaks; continues = length c }) ≡ exits_of_body following test
exits-of-body following test rest c breaks e b =
    let long : length c ≡ length following + (length test + (length rest + 1)) = ap length e ∙ length-append following (test ++ Repeat 0 ∷ rest) ∙ ap (λ n. length following + n) (length-append test (Repeat 0 ∷ rest) ∙ ap (λ n. length test + n) (let k : length (Repeat 0 ∷ rest) ≡ length rest + 1 = omega arith in k)) in
    let breaks-at : length c - breaks ≡ length following + length test + 1 = omega arith in
    let none : length c - length c ≡ 0 = omega arith in
    λ i. record { breaks = breaks-at i; continues = none i }

-- the turns are complete once the backward jump has its distance
pub turns-are : (body following test rest c0 c1 c2 c3 : List Instruction) (breaks : ℕ) → c0 ≡ following ++ (test ++ Repeat 0 ∷ rest) → breaks ≡ length rest
    → c1 ≡ body ++ c0 → c2 ≡ set c1 (length c1 - (breaks + 1)) (Repeat (length c1 - breaks)) → c3 ≡ Step ∷ c2
    → c3 ≡ turns_code body following test ++ rest
turns-are body following test rest c0 c1 c2 c3 breaks e0 b e1 e2 e3 =
    let prefix = body ++ following ++ test in
    let is : c1 ≡ prefix ++ Repeat 0 ∷ rest =
    e1 ∙ ap (λ l. body ++ l) e0 ∙ sym (append_assoc body following (test ++ Repeat 0 ∷ rest)) ∙ sym (append_assoc (body ++ following) test (Repeat 0 ∷ rest)) in
    let prefix-long : length prefix ≡ length body + length following + length test = length-append (body ++ following) test ∙ ap (λ n. n + length test) (length-append body following) in
    let long : length c1 ≡ length prefix + length (Repeat 0 ∷ rest) = ap length is ∙ length-append prefix (Repeat 0 ∷ rest) in
    let tail : length (Repeat 0 ∷ rest) ≡ length rest + 1 = omega arith in
    let at : length c1 - (breaks + 1) ≡ length prefix = omega arith in
    let back : length c1 - breaks ≡ 1 + length body + length following + length test = omega arith in
    let le : length prefix ≤ length prefix = omega arith in
    let none : length prefix - length prefix ≡ 0 = omega arith in
    let jump = Repeat (1 + length body + length following + length test) in
    e3 ∙ ap (λ l. Step ∷ l)
    (e2 ∙ ap (λ n. set c1 n (Repeat (length c1 - breaks))) at ∙ ap (λ n. set c1 (length prefix) (Repeat n)) back ∙ ap (λ l. set l (length prefix) jump) is
    ∙ set-append_right prefix (Repeat 0 ∷ rest) (length prefix) (length prefix) jump refl le
    ∙ ap (λ n. prefix ++ set (Repeat 0 ∷ rest) n jump) none
    ∙ sym (append_assoc prefix (jump ∷ []) rest))
