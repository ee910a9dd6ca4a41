-- Worked units and the rules that they break, computed. An offset counts bytes from 0.
use Rattle.std.specs.Prelude.{◌≡◌, refl, ℕ, zero, suc, replicate, ◌+◌, ◌/◌, ◌%◌, true, false, List, [], ◌∷◌, ◌++◌, Some, None, codes}
use Rattle.cc_ast.specs.Tree as tree
use Rattle.cc_ast.specs.Tree.{Name, Stmt, External}
use Rattle.cc_ast.specs.scalar.Scalar.TheVariants.{Int, Unsigned}
use Rattle.cc_ast.specs.declared.ast.UnaryOperator.TheVariants.{Minus, Not}
use Rattle.cc_ast.specs.declared.ast.BinaryOperator.TheVariants.{Divide, Add, Less}
use Rattle.cc_ast.specs.declared.ast.AssignmentOperator.TheVariants as assignment
use Rattle.cc_ast.specs.declared.ast.StepOperator.TheVariants.{Increment}
use Rattle.cc_types.specs.Rules.{broken, errors, defines_main, undefined_calls}
use Rattle.cc_types.specs.Limits.{excesses}
use Rattle.cc_types.specs.declared.rule.Rule.TheVariants.{Unknown, Redeclared, WrongKind, WrongCount, VoidValue, BadReturn, BadAssign, BadBreak, Undefined, TooMany}

abbrev name : List ℕ → ℕ → Name
name text at = record { text = text; at = at }

-- int x;int x;int main(void){}
redeclared : errors (tree.Objects Int (tree.Single (name (codes "x") 4) None ∷ []) ∷ tree.Objects Int (tree.Single (name (codes "x") 10) None ∷ []) ∷ tree.Definition (record { result = (Some Int); name = (name (codes "main") 16); parameters = [] }) tree.end ∷ []) ≡ broken Redeclared 10
redeclared = refl

-- int a[2];int main(void){a;}
array_as_value : errors (tree.Objects Int (tree.Array (name (codes "a") 4) (Some (record { at = 6; expr = (tree.Number Int 2) })) [] ∷ []) ∷ tree.Definition (record { result = (Some Int); name = (name (codes "main") 13); parameters = [] }) (tree.next (tree.Perform (Some (tree.Evaluate (tree.Variable (name (codes "a") 24))))) tree.end) ∷ []) ≡ broken WrongKind 24
array_as_value = refl

-- int main(void){write_word();}
no_argument : errors (tree.Definition (record { result = (Some Int); name = (name (codes "main") 4); parameters = [] }) (tree.next (tree.Perform (Some (tree.Evaluate (tree.Call (name (codes "write_word") 15) tree.none)))) tree.end) ∷ []) ≡ broken WrongCount 15
no_argument = refl

-- int a[0];int main(void){}
no_elements : errors (tree.Objects Int (tree.Array (name (codes "a") 4) (Some (record { at = 6; expr = (tree.Number Int 0) })) [] ∷ []) ∷ tree.Definition (record { result = (Some Int); name = (name (codes "main") 13); parameters = [] }) tree.end ∷ []) ≡ broken WrongCount 4
no_elements = refl

-- void f(void){}int main(void){write_word(f());}
void_used : errors (tree.Definition (record { result = None; name = (name (codes "f") 5); parameters = [] }) tree.end ∷ tree.Definition (record { result = (Some Int); name = (name (codes "main") 18); parameters = [] }) (tree.next (tree.Perform (Some (tree.Evaluate (tree.Call (name (codes "write_word") 29) (tree.more (tree.Call (name (codes "f") 40) tree.none) tree.none))))) tree.end) ∷ []) ≡ broken VoidValue 40
void_used = refl

-- void f(void){return 1;}int main(void){}
value_in_void : errors (tree.Definition (record { result = None; name = (name (codes "f") 5); parameters = [] }) (tree.next (tree.Return 13 (Some (tree.Number Int 1))) tree.end) ∷ tree.Definition (record { result = (Some Int); name = (name (codes "main") 27); parameters = [] }) tree.end ∷ []) ≡ broken BadReturn 13
value_in_void = refl

-- int a[2];int main(void){a=1;}
array_as_target : errors (tree.Objects Int (tree.Array (name (codes "a") 4) (Some (record { at = 6; expr = (tree.Number Int 2) })) [] ∷ []) ∷ tree.Definition (record { result = (Some Int); name = (name (codes "main") 13); parameters = [] }) (tree.next (tree.Perform (Some (tree.Assign assignment.Plain (tree.AtVariable (name (codes "a") 24)) (tree.Number Int 1)))) tree.end) ∷ []) ≡ broken BadAssign 24
array_as_target = refl

-- int main(void){break;}
break_outside : errors (tree.Definition (record { result = (Some Int); name = (name (codes "main") 4); parameters = [] }) (tree.next (tree.Break 15) tree.end) ∷ []) ≡ broken BadBreak 15
break_outside = refl

-- int main(void){x=1;}
unknown : errors (tree.Definition (record { result = (Some Int); name = (name (codes "main") 4); parameters = [] }) (tree.next (tree.Perform (Some (tree.Assign assignment.Plain (tree.AtVariable (name (codes "x") 15)) (tree.Number Int 1)))) tree.end) ∷ []) ≡ broken Unknown 15
unknown = refl

-- int a[-1];int main(void){}
length_below_1 : errors (tree.Objects Int (tree.Array (name (codes "a") 4) (Some (record { at = 6; expr = (tree.Unary Minus (tree.Number Int 1)) })) [] ∷ []) ∷ tree.Definition (record { result = (Some Int); name = (name (codes "main") 14); parameters = [] }) tree.end ∷ []) ≡ broken WrongCount 4
length_below_1 = refl

-- int a[2]={1,2,3};int main(void){}
too_many_values : errors (tree.Objects Int (tree.Array (name (codes "a") 4) (Some (record { at = 6; expr = (tree.Number Int 2) })) ((record { at = 10; expr = (tree.Number Int 1) }) ∷ (record { at = 12; expr = (tree.Number Int 2) }) ∷ (record { at = 14; expr = (tree.Number Int 3) }) ∷ []) ∷ []) ∷ tree.Definition (record { result = (Some Int); name = (name (codes "main") 21); parameters = [] }) tree.end ∷ []) ≡ broken WrongCount 4
too_many_values = refl

-- int a[];int main(void){}
no_list : errors (tree.Objects Int (tree.Array (name (codes "a") 4) None [] ∷ []) ∷ tree.Definition (record { result = (Some Int); name = (name (codes "main") 12); parameters = [] }) tree.end ∷ []) ≡ broken WrongCount 4
no_list = refl

-- int a[a];int main(void){}
array_names_itself : errors (tree.Objects Int (tree.Array (name (codes "a") 4) (Some (record { at = 6; expr = (tree.Variable (name (codes "a") 6)) })) [] ∷ []) ∷ tree.Definition (record { result = (Some Int); name = (name (codes "main") 13); parameters = [] }) tree.end ∷ []) ≡ broken Unknown 6 ++ broken WrongKind 6
array_names_itself = refl

-- int x=x;int main(void){}
initialiser_names_itself : errors (tree.Objects Int (tree.Single (name (codes "x") 4) (Some (record { at = 6; expr = (tree.Variable (name (codes "x") 6)) })) ∷ []) ∷ tree.Definition (record { result = (Some Int); name = (name (codes "main") 12); parameters = [] }) tree.end ∷ []) ≡ broken WrongKind 6
initialiser_names_itself = refl

-- int x=1/0;int main(void){}
constant_goes_wrong : errors (tree.Objects Int (tree.Single (name (codes "x") 4) (Some (record { at = 6; expr = (tree.Binary Divide (tree.Number Int 1) (tree.Number Int 0)) })) ∷ []) ∷ tree.Definition (record { result = (Some Int); name = (name (codes "main") 14); parameters = [] }) tree.end ∷ []) ≡ broken WrongKind 6
constant_goes_wrong = refl

-- int y;int x=(1?2:y);int main(void){}
name_in_a_part_not_evaluated : errors (tree.Objects Int (tree.Single (name (codes "y") 4) None ∷ []) ∷ tree.Objects Int (tree.Single (name (codes "x") 10) (Some (record { at = 12; expr = (tree.Parenthesised (tree.Conditional (tree.Number Int 1) (tree.Number Int 2) (tree.Variable (name (codes "y") 17)))) })) ∷ []) ∷ tree.Definition (record { result = (Some Int); name = (name (codes "main") 24); parameters = [] }) tree.end ∷ []) ≡ broken WrongKind 12
name_in_a_part_not_evaluated = refl

-- void f(void){}int main(void){f[0]=1;}
function_indexed : errors (tree.Definition (record { result = None; name = (name (codes "f") 5); parameters = [] }) tree.end ∷ tree.Definition (record { result = (Some Int); name = (name (codes "main") 18); parameters = [] }) (tree.next (tree.Perform (Some (tree.Assign assignment.Plain (tree.AtElement (name (codes "f") 29) (tree.Number Int 0)) (tree.Number Int 1)))) tree.end) ∷ []) ≡ broken WrongKind 29
function_indexed = refl

-- int x;int main(void){x[0]=1;}
scalar_indexed : errors (tree.Objects Int (tree.Single (name (codes "x") 4) None ∷ []) ∷ tree.Definition (record { result = (Some Int); name = (name (codes "main") 10); parameters = [] }) (tree.next (tree.Perform (Some (tree.Assign assignment.Plain (tree.AtElement (name (codes "x") 21) (tree.Number Int 0)) (tree.Number Int 1)))) tree.end) ∷ []) ≡ broken WrongKind 21
scalar_indexed = refl

-- int a[2];int main(void){a+=1;}
array_added_to : errors (tree.Objects Int (tree.Array (name (codes "a") 4) (Some (record { at = 6; expr = (tree.Number Int 2) })) [] ∷ []) ∷ tree.Definition (record { result = (Some Int); name = (name (codes "main") 13); parameters = [] }) (tree.next (tree.Perform (Some (tree.Assign assignment.Add (tree.AtVariable (name (codes "a") 24)) (tree.Number Int 1)))) tree.end) ∷ []) ≡ broken BadAssign 24
array_added_to = refl

-- int f;void f(void){}int main(void){}
object_and_function : errors (tree.Objects Int (tree.Single (name (codes "f") 4) None ∷ []) ∷ tree.Definition (record { result = None; name = (name (codes "f") 11); parameters = [] }) tree.end ∷ tree.Definition (record { result = (Some Int); name = (name (codes "main") 24); parameters = [] }) tree.end ∷ []) ≡ broken Redeclared 11
object_and_function = refl

-- int read_word;int main(void){}
object_named_as_builtin : errors (tree.Objects Int (tree.Single (name (codes "read_word") 4) None ∷ []) ∷ tree.Definition (record { result = (Some Int); name = (name (codes "main") 18); parameters = [] }) tree.end ∷ []) ≡ broken Redeclared 4
object_named_as_builtin = refl

-- int read_word(void){}int main(void){}
defined_builtin : errors (tree.Definition (record { result = (Some Int); name = (name (codes "read_word") 4); parameters = [] }) tree.end ∷ tree.Definition (record { result = (Some Int); name = (name (codes "main") 25); parameters = [] }) tree.end ∷ []) ≡ broken Redeclared 4
defined_builtin = refl

-- int f(int);int f(unsigned);int main(void){}
other_types : errors (tree.Declaration (record { result = (Some Int); name = (name (codes "f") 4); parameters = (record { scalar = Int; name = None } ∷ []) }) ∷ tree.Declaration (record { result = (Some Int); name = (name (codes "f") 15); parameters = (record { scalar = Unsigned; name = None } ∷ []) }) ∷ tree.Definition (record { result = (Some Int); name = (name (codes "main") 31); parameters = [] }) tree.end ∷ []) ≡ broken Redeclared 15
other_types = refl

-- int f(void){}int f(void){}int main(void){}
second_definition : errors (tree.Definition (record { result = (Some Int); name = (name (codes "f") 4); parameters = [] }) tree.end ∷ tree.Definition (record { result = (Some Int); name = (name (codes "f") 17); parameters = [] }) tree.end ∷ tree.Definition (record { result = (Some Int); name = (name (codes "main") 30); parameters = [] }) tree.end ∷ []) ≡ broken Redeclared 17
second_definition = refl

-- int f(int x){int x;}int main(void){}
parameter_and_local : errors (tree.Definition (record { result = (Some Int); name = (name (codes "f") 4); parameters = (record { scalar = Int; name = (Some (name (codes "x") 10)) } ∷ []) }) (tree.next (tree.Local Int (record { name = (name (codes "x") 17); initial = None } ∷ [])) tree.end) ∷ tree.Definition (record { result = (Some Int); name = (name (codes "main") 24); parameters = [] }) tree.end ∷ []) ≡ broken Redeclared 17
parameter_and_local = refl

-- int f(int x,int x);int main(void){}
parameters_of_a_declaration : errors (tree.Declaration (record { result = (Some Int); name = (name (codes "f") 4); parameters = (record { scalar = Int; name = (Some (name (codes "x") 10)) } ∷ record { scalar = Int; name = (Some (name (codes "x") 16)) } ∷ []) }) ∷ tree.Definition (record { result = (Some Int); name = (name (codes "main") 23); parameters = [] }) tree.end ∷ []) ≡ broken Redeclared 16
parameters_of_a_declaration = refl

-- int main(void){for(int i=0;;){}i=1;}
loop_scope_ends : errors (tree.Definition (record { result = (Some Int); name = (name (codes "main") 4); parameters = [] }) (tree.next (tree.For (tree.Declares Int (record { name = (name (codes "i") 23); initial = (Some (tree.Number Int 0)) } ∷ [])) None None (tree.Block tree.end)) (tree.next (tree.Perform (Some (tree.Assign assignment.Plain (tree.AtVariable (name (codes "i") 31)) (tree.Number Int 1)))) tree.end)) ∷ []) ≡ broken Unknown 31
loop_scope_ends = refl

-- void f(void){}int main(void){!f();}
negated_void : errors (tree.Definition (record { result = None; name = (name (codes "f") 5); parameters = [] }) tree.end ∷ tree.Definition (record { result = (Some Int); name = (name (codes "main") 18); parameters = [] }) (tree.next (tree.Perform (Some (tree.Evaluate (tree.Unary Not (tree.Call (name (codes "f") 30) tree.none))))) tree.end) ∷ []) ≡ broken VoidValue 30
negated_void = refl

-- int main(void){return;}
missing_value : errors (tree.Definition (record { result = (Some Int); name = (name (codes "main") 4); parameters = [] }) (tree.next (tree.Return 15 None) tree.end) ∷ []) ≡ broken BadReturn 15
missing_value = refl

-- a unit with each kind of statement, part by part int a[3]={1,2};
abbrev a_listed : External
a_listed = tree.Objects Int (tree.Array (name (codes "a") 4) (Some (record { at = 6; expr = (tree.Number Int 3) })) ((record { at = 10; expr = (tree.Number Int 1) }) ∷ (record { at = 12; expr = (tree.Number Int 2) }) ∷ []) ∷ [])

-- unsigned g;
abbrev g_declared : External
g_declared = tree.Objects Unsigned (tree.Single (name (codes "g") 24) None ∷ [])

-- int f(int,int);
abbrev f_declared : External
f_declared = tree.Declaration (record { result = (Some Int); name = (name (codes "f") 30); parameters = (record { scalar = Int; name = None } ∷ record { scalar = Int; name = None } ∷ []) })

-- void h(void){(f(1,2));for(;;)break;}
abbrev h_defined : External
h_defined = tree.Definition (record { result = None; name = (name (codes "h") 46); parameters = [] }) (tree.next (tree.Perform (Some (tree.Evaluate (tree.Parenthesised (tree.Call (name (codes "f") 55) (tree.more (tree.Number Int 1) (tree.more (tree.Number Int 2) tree.none))))))) (tree.next (tree.For (tree.Performs None) None None (tree.Break 70)) tree.end))

-- int f(int a,int b){if(a)return b;else return a;}
abbrev f_defined : External
f_defined = tree.Definition (record { result = (Some Int); name = (name (codes "f") 81); parameters = (record { scalar = Int; name = (Some (name (codes "a") 87)) } ∷ record { scalar = Int; name = (Some (name (codes "b") 93)) } ∷ []) }) (tree.next (tree.IfElse (tree.Variable (name (codes "a") 99)) (tree.Return 101 (Some (tree.Variable (name (codes "b") 108)))) (tree.Return 115 (Some (tree.Variable (name (codes "a") 122))))) tree.end)

-- int x=x+1;
abbrev x_declared : Stmt
x_declared = tree.Local Int (record { name = (name (codes "x") 144); initial = (Some (tree.Binary Add (tree.Variable (name (codes "x") 146)) (tree.Number Int 1))) } ∷ [])

-- int write_word;
abbrev write_word_hidden : Stmt
write_word_hidden = tree.Local Int (record { name = (name (codes "write_word") 154); initial = None } ∷ [])

-- do{continue;}while(x<1u);
abbrev do_loop : Stmt
do_loop = tree.DoWhile (tree.Block (tree.next (tree.Continue 168) tree.end)) (tree.Binary Less (tree.Variable (name (codes "x") 184)) (tree.Number Unsigned 1))

-- for(int i=0;i<2;i++){int i;i=g;}
abbrev for_loop : Stmt
for_loop = tree.For (tree.Declares Int (record { name = (name (codes "i") 198); initial = (Some (tree.Number Int 0)) } ∷ [])) (Some (tree.Binary Less (tree.Variable (name (codes "i") 202)) (tree.Number Int 2))) (Some (tree.Step Increment (tree.AtVariable (name (codes "i") 206)))) (tree.Block (tree.next (tree.Local Int (record { name = (name (codes "i") 215); initial = None } ∷ [])) (tree.next (tree.Perform (Some (tree.Assign assignment.Plain (tree.AtVariable (name (codes "i") 217)) (tree.Variable (name (codes "g") 219))))) tree.end)))

-- a[x]+=f(x,(int)g);
abbrev element_added_to : Stmt
element_added_to = tree.Perform (Some (tree.Assign assignment.Add (tree.AtElement (name (codes "a") 222) (tree.Variable (name (codes "x") 224))) (tree.Call (name (codes "f") 228) (tree.more (tree.Variable (name (codes "x") 230)) (tree.more (tree.Cast Int (tree.Variable (name (codes "g") 237))) tree.none)))))

-- while(0);
abbrev while_loop : Stmt
while_loop = tree.While (tree.Number Int 0) (tree.Perform None)

-- h();
abbrev h_called : Stmt
h_called = tree.Perform (Some (tree.Evaluate (tree.Call (name (codes "h") 249) tree.none)))

-- int main(void){ followed by those seven statements and }
abbrev main_defined : External
main_defined = tree.Definition (record { result = (Some Int); name = (name (codes "main") 129); parameters = [] }) (tree.next x_declared (tree.next write_word_hidden (tree.next do_loop (tree.next for_loop (tree.next element_added_to (tree.next while_loop (tree.next h_called tree.end)))))))

-- int a[3]={1,2};unsigned g;int f(int,int);void h(void){(f(1,2));for(;;)break;}int f(int a,int b){if(a)return b;else return a;}int main(void){int x=x+1;int write_word;do{continue;}while(x<1u);for(int i=0;i<2;i++){int i;i=g;}a[x]+=f(x,(int)g);while(0);h();}
abbrev each_statement : List External
each_statement = a_listed ∷ g_declared ∷ f_declared ∷ h_defined ∷ f_defined ∷ main_defined ∷ []

all_statements : errors each_statement ≡ []
all_statements = refl

-- void write_word(int);int read_word(void);int main(void){write_word(read_word());}
a_builtin_declared : errors (tree.Declaration (record { result = None; name = (name (codes "write_word") 5); parameters = (record { scalar = Int; name = None } ∷ []) }) ∷ tree.Declaration (record { result = (Some Int); name = (name (codes "read_word") 25); parameters = [] }) ∷ tree.Definition (record { result = (Some Int); name = (name (codes "main") 45); parameters = [] }) (tree.next (tree.Perform (Some (tree.Evaluate (tree.Call (name (codes "write_word") 56) (tree.more (tree.Call (name (codes "read_word") 67) tree.none) tree.none))))) tree.end) ∷ []) ≡ []
a_builtin_declared = refl

-- int x=1?2:1/0;int main(void){}
wrong_part_not_evaluated : errors (tree.Objects Int (tree.Single (name (codes "x") 4) (Some (record { at = 6; expr = (tree.Conditional (tree.Number Int 1) (tree.Number Int 2) (tree.Binary Divide (tree.Number Int 1) (tree.Number Int 0))) })) ∷ []) ∷ tree.Definition (record { result = (Some Int); name = (name (codes "main") 18); parameters = [] }) tree.end ∷ []) ≡ []
wrong_part_not_evaluated = refl

-- int a[1<2u];int main(void){}
unsigned_and_signed : errors (tree.Objects Int (tree.Array (name (codes "a") 4) (Some (record { at = 6; expr = (tree.Binary Less (tree.Number Int 1) (tree.Number Unsigned 2)) })) [] ∷ []) ∷ tree.Definition (record { result = (Some Int); name = (name (codes "main") 16); parameters = [] }) tree.end ∷ []) ≡ []
unsigned_and_signed = refl

-- the unit `each_statement` calls no function that is not defined
none_is_undefined : undefined_calls each_statement ≡ []
none_is_undefined = refl

-- int f(void);int main(void){f();}
undefined : undefined_calls (tree.Declaration (record { result = (Some Int); name = (name (codes "f") 4); parameters = [] }) ∷ tree.Definition (record { result = (Some Int); name = (name (codes "main") 16); parameters = [] }) (tree.next (tree.Perform (Some (tree.Evaluate (tree.Call (name (codes "f") 27) tree.none)))) tree.end) ∷ []) ≡ broken Undefined 27
undefined = refl

-- unsigned main(void){return 0;}
main_is_int : defines_main (tree.Definition (record { result = (Some Unsigned); name = (name (codes "main") 9); parameters = [] }) (tree.next (tree.Return 20 (Some (tree.Number Int 0))) tree.end) ∷ []) ≡ false
main_is_int = refl

-- int main(int x){}
main_has_no_parameters : defines_main (tree.Definition (record { result = (Some Int); name = (name (codes "main") 4); parameters = (record { scalar = Int; name = (Some (name (codes "x") 13)) } ∷ []) }) tree.end ∷ []) ≡ false
main_has_no_parameters = refl

-- int main(void){}
main : defines_main (tree.Definition (record { result = (Some Int); name = (name (codes "main") 4); parameters = [] }) tree.end ∷ []) ≡ true
main = refl

-- int
abbrev one_parameter : tree.Parameter
one_parameter = record { scalar = Int; name = None }

-- int f(int,int,int,int,int,int,int,int,int);int main(void){}
nine_parameters : excesses (tree.Declaration (record { result = (Some Int); name = (name (codes "f") 4); parameters = replicate 9 one_parameter }) ∷ tree.Definition (record { result = (Some Int); name = (name (codes "main") 47); parameters = [] }) tree.end ∷ []) ≡ broken TooMany 4
nine_parameters = refl

-- int f(int,int,int,int,int,int,int,int);int main(void){}
eight_parameters : excesses (tree.Declaration (record { result = (Some Int); name = (name (codes "f") 4); parameters = replicate 8 one_parameter }) ∷ tree.Definition (record { result = (Some Int); name = (name (codes "main") 43); parameters = [] }) tree.end ∷ []) ≡ []
eight_parameters = refl

-- int a[65536];int main(void){}
all_words : excesses (tree.Objects Int (tree.Array (name (codes "a") 4) (Some (record { at = 6; expr = (tree.Number Int 65536) })) [] ∷ []) ∷ tree.Definition (record { result = (Some Int); name = (name (codes "main") 17); parameters = [] }) tree.end ∷ []) ≡ []
all_words = refl

-- int a[65536];int b;int main(void){}
one_word_more : excesses (tree.Objects Int (tree.Array (name (codes "a") 4) (Some (record { at = 6; expr = (tree.Number Int 65536) })) [] ∷ []) ∷ tree.Objects Int (tree.Single (name (codes "b") 17) None ∷ []) ∷ tree.Definition (record { result = (Some Int); name = (name (codes "main") 23); parameters = [] }) tree.end ∷ []) ≡ broken TooMany 17
one_word_more = refl

-- int a[0x80000000];int main(void){}
large_length : excesses (tree.Objects Int (tree.Array (name (codes "a") 4) (Some (record { at = 6; expr = (tree.Number Unsigned 2147483648) })) [] ∷ []) ∷ tree.Definition (record { result = (Some Int); name = (name (codes "main") 22); parameters = [] }) tree.end ∷ []) ≡ broken TooMany 4
large_length = refl

-- a body with this many blocks {int a;}, beginning at this offset
abbrev blocks : ℕ → ℕ → tree.Stmts
blocks zero at = tree.end
blocks (suc n) at = tree.next (tree.Block (tree.next (tree.Local Int (record { name = name (codes "a") (at + 5); initial = None } ∷ [])) tree.end)) (blocks n (at + 8))

-- int main(void) with this many blocks {int a;}
abbrev with_blocks : ℕ → List External
with_blocks n = tree.Definition (record { result = Some Int; name = name (codes "main") 4; parameters = [] }) (blocks n 15) ∷ []

locals_within : excesses (with_blocks 256) ≡ []
locals_within = refl

one_local_more : excesses (with_blocks 257) ≡ broken TooMany 2068
one_local_more = refl

-- this many definitions int f10(){}, int f11(){}, .., beginning at this offset, and then int main(void){}
abbrev functions_from : ℕ → ℕ → ℕ → List External
functions_from zero number at = tree.Definition (record { result = Some Int; name = name (codes "main") (at + 4); parameters = [] }) tree.end ∷ []
functions_from (suc n) number at = tree.Definition (record { result = Some Int; name = name (102 ∷ (48 + number / 10) ∷ (48 + number % 10) ∷ []) (at + 4); parameters = [] }) tree.end ∷ functions_from n (number + 1) (at + 11)

functions_within : excesses (functions_from 63 10 0) ≡ []
functions_within = refl

one_function_more : excesses (functions_from 64 10 0) ≡ broken TooMany 708
one_function_more = refl
