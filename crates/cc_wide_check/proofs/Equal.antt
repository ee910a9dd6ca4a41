-- The tests of equal trees hold exactly of equal trees.
use Rattle.std.proofs.Common.{◌≡◌, ℕ, Bool, true, ◌==◌, nat_eq, if◌then◌else◌, List, [], ◌∷◌, Option, Some, None, refl, ap, ◌∙◌, sym, subst}
use Rattle.std.specs.Bool.{Decides}
use Rattle.std.specs.Cmp.Lexicographic.{pointwise}
use Rattle.std.proofs.lemmas.Bool.{and_parts, and_from, false≢true, eqb-true, eq-eqb}
use Rattle.std.proofs.lemmas.Slice.Eq.{bytes_eq-Decides}
use Rattle.cc_ast.specs.scalar.Scalar.{Scalar}
use Rattle.cc_ast.specs.scalar.Scalar.TheVariants.{Int, Unsigned}
use Rattle.cc_ast.specs.declared.ast.UnaryOperator.{UnaryOperator}
use Rattle.cc_ast.specs.declared.ast.UnaryOperator.TheVariants as unary
use Rattle.cc_ast.specs.declared.ast.BinaryOperator.{BinaryOperator}
use Rattle.cc_ast.specs.declared.ast.BinaryOperator.TheVariants as binary
use Rattle.cc_ast.specs.declared.ast.AssignmentOperator.{AssignmentOperator}
use Rattle.cc_ast.specs.declared.ast.AssignmentOperator.TheVariants as assignment
use Rattle.cc_ast.specs.declared.ast.StepOperator.{StepOperator}
use Rattle.cc_ast.specs.declared.ast.StepOperator.TheVariants as step
use Rattle.cc_ast.specs.Tree.{Name, Expr, Exprs, none, more, Number, Variable, Element, Call, Parenthesised, Unary, Cast, Binary, Conditional, Target, AtVariable, AtElement, Action, Assign, Step, Evaluate, Declarator, Beginning, Declares, Performs, Stmt, Stmts, end, next, Block, Local, Perform, Return, Break, Continue, If, IfElse, While, DoWhile, For, ConstantExpr, Parameter, Signature, Object, Single, Array, Bytes, External, Declaration, Definition, Objects}
use Rattle.cc_wide_check.specs.internal.Equal.{equal_option, unary_number, binary_number, assignment_number, step_number, equal_unary, equal_binary, equal_assignment, equal_step, equal_scalar, equal_name, equal_expression, equal_expressions, equal_target, equal_action, equal_declarator, equal_beginning, equal_statement, equal_statements, equal_constant, equal_parameter, equal_signature, equal_object, equal_external}

-- ---- what a test says, from two facts

-- a test that holds of equal values only, and of each value and itself
pub decided : {A : Type 0} (E : A → A → Bool) → ((a b : A) → E a b ≡ true → a ≡ b) → ((a : A) → E a a ≡ true) → (a b : A) → Decides (E a b) (a ≡ b)
decided E is same a b = (is a b, λ e. subst (λ x. E a x ≡ true) e (same a))

-- ---- numbers, names, operators

number-is : (a b : ℕ) → nat_eq a b ≡ true → a ≡ b
number-is a b h = eqb-true a b h

number-same : (a : ℕ) → nat_eq a a ≡ true
number-same a = eq-eqb a a refl

unary_of : ℕ → UnaryOperator
unary_of n = if n == 0 then unary.Plus else (if n == 1 then unary.Minus else (if n == 2 then unary.Complement else unary.Not))

unary_of-number : (op : UnaryOperator) → unary_of (unary_number op) ≡ op
unfolding unary_of
unary_of-number unary.Plus = refl
unary_of-number unary.Minus = refl
unary_of-number unary.Complement = refl
unary_of-number unary.Not = refl

unary-is : (a b : UnaryOperator) → equal_unary a b ≡ true → a ≡ b
unary-is a b h = sym (unary_of-number a) ∙ ap unary_of (number-is (unary_number a) (unary_number b) h) ∙ unary_of-number b

binary_of : ℕ → BinaryOperator
binary_of n =
    if n == 0 then binary.Multiply
    else (if n == 1 then binary.Divide
    else (if n == 2 then binary.Remainder
    else (if n == 3 then binary.Add
    else (if n == 4 then binary.Subtract
    else (if n == 5 then binary.ShiftLeft
    else (if n == 6 then binary.ShiftRight
    else (if n == 7 then binary.Less
    else (if n == 8 then binary.Greater
    else (if n == 9 then binary.LessOrEqual
    else (if n == 10 then binary.GreaterOrEqual
    else (if n == 11 then binary.Equal
    else (if n == 12 then binary.NotEqual
    else (if n == 13 then binary.And
    else (if n == 14 then binary.Xor
    else (if n == 15 then binary.Or
    else (if n == 16 then binary.LogicalAnd
    else binary.LogicalOr))))))))))))))))

binary_of-number : (op : BinaryOperator) → binary_of (binary_number op) ≡ op
unfolding binary_of
binary_of-number binary.Multiply = refl
binary_of-number binary.Divide = refl
binary_of-number binary.Remainder = refl
binary_of-number binary.Add = refl
binary_of-number binary.Subtract = refl
binary_of-number binary.ShiftLeft = refl
binary_of-number binary.ShiftRight = refl
binary_of-number binary.Less = refl
binary_of-number binary.Greater = refl
binary_of-number binary.LessOrEqual = refl
binary_of-number binary.GreaterOrEqual = refl
binary_of-number binary.Equal = refl
binary_of-number binary.NotEqual = refl
binary_of-number binary.And = refl
binary_of-number binary.Xor = refl
binary_of-number binary.Or = refl
binary_of-number binary.LogicalAnd = refl
binary_of-number binary.LogicalOr = refl

binary-is : (a b : BinaryOperator) → equal_binary a b ≡ true → a ≡ b
binary-is a b h = sym (binary_of-number a) ∙ ap binary_of (number-is (binary_number a) (binary_number b) h) ∙ binary_of-number b

assignment_of : ℕ → AssignmentOperator
assignment_of n =
    if n == 0 then assignment.Plain
    else (if n == 1 then assignment.Multiply
    else (if n == 2 then assignment.Divide
    else (if n == 3 then assignment.Remainder
    else (if n == 4 then assignment.Add
    else (if n == 5 then assignment.Subtract
    else (if n == 6 then assignment.ShiftLeft
    else (if n == 7 then assignment.ShiftRight
    else (if n == 8 then assignment.And
    else (if n == 9 then assignment.Xor
    else assignment.Or)))))))))

assignment_of-number : (op : AssignmentOperator) → assignment_of (assignment_number op) ≡ op
unfolding assignment_of
assignment_of-number assignment.Plain = refl
assignment_of-number assignment.Multiply = refl
assignment_of-number assignment.Divide = refl
assignment_of-number assignment.Remainder = refl
assignment_of-number assignment.Add = refl
assignment_of-number assignment.Subtract = refl
assignment_of-number assignment.ShiftLeft = refl
assignment_of-number assignment.ShiftRight = refl
assignment_of-number assignment.And = refl
assignment_of-number assignment.Xor = refl
assignment_of-number assignment.Or = refl

assignment-is : (a b : AssignmentOperator) → equal_assignment a b ≡ true → a ≡ b
assignment-is a b h = sym (assignment_of-number a) ∙ ap assignment_of (number-is (assignment_number a) (assignment_number b) h) ∙ assignment_of-number b

step-is : (a b : StepOperator) → equal_step a b ≡ true → a ≡ b
step-is step.Increment step.Increment h = refl
step-is step.Decrement step.Decrement h = refl
step-is a b h = absurd (false≢true h)

pub scalar-is : (a b : Scalar) → equal_scalar a b ≡ true → a ≡ b
scalar-is Int Int h = refl
scalar-is Unsigned Unsigned h = refl
scalar-is a b h = absurd (false≢true h)

pub scalar-same : (a : Scalar) → equal_scalar a a ≡ true
scalar-same Int = refl
scalar-same Unsigned = refl

name-is : (x y : Name) → equal_name x y ≡ true → x ≡ y
name-is x y h =
    let p = and_parts _ _ h in
    let at = number-is x.at y.at p.0 in
    let text = (bytes_eq-Decides x.text y.text).0 p.1 in
    (λ i. record { text = text i; at = at i })

name-same : (x : Name) → equal_name x x ≡ true
name-same x = and_from _ _ (number-same x.at) ((bytes_eq-Decides x.text x.text).1 refl)

-- ---- values that may be absent, and lists

option-is : {A : Type 0} (E : A → A → Bool) → ((a b : A) → E a b ≡ true → a ≡ b) → (a b : Option A) → equal_option E a b ≡ true → a ≡ b
option-is E is None None h = refl
option-is E is None (Some y) h = absurd (false≢true h)
option-is E is (Some x) None h = absurd (false≢true h)
option-is E is (Some x) (Some y) h = ap Some (is x y h)

option-same : {A : Type 0} (E : A → A → Bool) → ((a : A) → E a a ≡ true) → (a : Option A) → equal_option E a a ≡ true
option-same E same None = refl
option-same E same (Some x) = same x

list-is : {A : Type 0} (E : A → A → Bool) → ((a b : A) → E a b ≡ true → a ≡ b) → (a b : List A) → pointwise E a b ≡ true → a ≡ b
list-is E is [] [] h = refl
list-is E is [] (y ∷ ys) h = absurd (false≢true h)
list-is E is (x ∷ xs) [] h = absurd (false≢true h)
list-is E is (x ∷ xs) (y ∷ ys) h =
    let p = and_parts _ _ h in
    let first = is x y p.0 in
    let rest = list-is E is xs ys p.1 in
    (λ i. first i ∷ rest i)

list-same : {A : Type 0} (E : A → A → Bool) → ((a : A) → E a a ≡ true) → (a : List A) → pointwise E a a ≡ true
list-same E same [] = refl
list-same E same (x ∷ xs) = and_from _ _ (same x) (list-same E same xs)

-- ---- expressions

mutual
  pub expression-is : (a b : Expr) → equal_expression a b ≡ true → a ≡ b
  expression-is (Number t n) (Number u m) h =
      let p = and_parts _ _ h in let x = scalar-is t u p.0 in let y = number-is n m p.1 in (λ i. Number (x i) (y i))
  expression-is (Variable x) (Variable y) h = ap Variable (name-is x y h)
  expression-is (Element x e) (Element y f) h =
      let p = and_parts _ _ h in let n = name-is x y p.0 in let r = expression-is e f p.1 in (λ i. Element (n i) (r i))
  expression-is (Call x es) (Call y fs) h =
      let p = and_parts _ _ h in let n = name-is x y p.0 in let r = expressions-are es fs p.1 in (λ i. Call (n i) (r i))
  expression-is (Parenthesised e) (Parenthesised f) h = ap Parenthesised (expression-is e f h)
  expression-is (Unary o e) (Unary q f) h =
      let p = and_parts _ _ h in let n = unary-is o q p.0 in let r = expression-is e f p.1 in (λ i. Unary (n i) (r i))
  expression-is (Cast t e) (Cast u f) h =
      let p = and_parts _ _ h in let n = scalar-is t u p.0 in let r = expression-is e f p.1 in (λ i. Cast (n i) (r i))
  expression-is (Binary o a b) (Binary q c d) h =
      let p = and_parts _ _ h in
      let s = and_parts _ _ p.1 in
      let n = binary-is o q p.0 in
      let l = expression-is a c s.0 in
      let r = expression-is b d s.1 in
      (λ i. Binary (n i) (l i) (r i))
  expression-is (Conditional c a b) (Conditional d e f) h =
      let p = and_parts _ _ h in
      let s = and_parts _ _ p.1 in
      let n = expression-is c d p.0 in
      let l = expression-is a e s.0 in
      let r = expression-is b f s.1 in
      (λ i. Conditional (n i) (l i) (r i))
  expression-is a b h = absurd (false≢true h)

  expressions-are : (a b : Exprs) → equal_expressions a b ≡ true → a ≡ b
  expressions-are none none h = refl
  expressions-are (more e es) (more f fs) h =
      let p = and_parts _ _ h in let l = expression-is e f p.0 in let r = expressions-are es fs p.1 in (λ i. more (l i) (r i))
  expressions-are a b h = absurd (false≢true h)

mutual
  pub expression-same : (a : Expr) → equal_expression a a ≡ true
  expression-same (Number t n) = and_from _ _ (scalar-same t) (number-same n)
  expression-same (Variable x) = name-same x
  expression-same (Element x e) = and_from _ _ (name-same x) (expression-same e)
  expression-same (Call x es) = and_from _ _ (name-same x) (expressions-same es)
  expression-same (Parenthesised e) = expression-same e
  expression-same (Unary o e) = and_from _ _ (number-same (unary_number o)) (expression-same e)
  expression-same (Cast t e) = and_from _ _ (scalar-same t) (expression-same e)
  expression-same (Binary o a b) = and_from _ _ (number-same (binary_number o)) (and_from _ _ (expression-same a) (expression-same b))
  expression-same (Conditional c a b) = and_from _ _ (expression-same c) (and_from _ _ (expression-same a) (expression-same b))

  expressions-same : (a : Exprs) → equal_expressions a a ≡ true
  expressions-same none = refl
  expressions-same (more e es) = and_from _ _ (expression-same e) (expressions-same es)

-- ---- actions and declarations

target-is : (a b : Target) → equal_target a b ≡ true → a ≡ b
target-is (AtVariable x) (AtVariable y) h = ap AtVariable (name-is x y h)
target-is (AtElement x e) (AtElement y f) h =
    let p = and_parts _ _ h in let n = name-is x y p.0 in let r = expression-is e f p.1 in (λ i. AtElement (n i) (r i))
target-is a b h = absurd (false≢true h)

target-same : (a : Target) → equal_target a a ≡ true
target-same (AtVariable x) = name-same x
target-same (AtElement x e) = and_from _ _ (name-same x) (expression-same e)

action-is : (a b : Action) → equal_action a b ≡ true → a ≡ b
action-is (Assign o a e) (Assign q b f) h =
    let p = and_parts _ _ h in
    let s = and_parts _ _ p.1 in
    let n = assignment-is o q p.0 in
    let l = target-is a b s.0 in
    let r = expression-is e f s.1 in
    (λ i. Assign (n i) (l i) (r i))
action-is (Step o a) (Step q b) h =
    let p = and_parts _ _ h in let n = step-is o q p.0 in let r = target-is a b p.1 in (λ i. Step (n i) (r i))
action-is (Evaluate e) (Evaluate f) h = ap Evaluate (expression-is e f h)
action-is a b h = absurd (false≢true h)

action-same : (a : Action) → equal_action a a ≡ true
action-same (Assign o a e) = and_from _ _ (number-same (assignment_number o)) (and_from _ _ (target-same a) (expression-same e))
action-same (Step o a) = and_from _ _ (number-same (step_number o)) (target-same a)
action-same (Evaluate e) = expression-same e

declarator-is : (a b : Declarator) → equal_declarator a b ≡ true → a ≡ b
declarator-is a b h =
    let p = and_parts _ _ h in
    let n = name-is a.name b.name p.0 in
    let r = option-is equal_expression expression-is a.initial b.initial p.1 in
    (λ i. record { name = n i; initial = r i })

declarator-same : (a : Declarator) → equal_declarator a a ≡ true
declarator-same a = and_from _ _ (name-same a.name) (option-same equal_expression expression-same a.initial)

beginning-is : (a b : Beginning) → equal_beginning a b ≡ true → a ≡ b
beginning-is (Declares t ds) (Declares u es) h =
    let p = and_parts _ _ h in
    let n = scalar-is t u p.0 in
    let r = list-is equal_declarator declarator-is ds es p.1 in
    (λ i. Declares (n i) (r i))
beginning-is (Performs a) (Performs b) h = ap Performs (option-is equal_action action-is a b h)
beginning-is a b h = absurd (false≢true h)

beginning-same : (a : Beginning) → equal_beginning a a ≡ true
beginning-same (Declares t ds) = and_from _ _ (scalar-same t) (list-same equal_declarator declarator-same ds)
beginning-same (Performs a) = option-same equal_action action-same a

-- ---- statements

mutual
  statement-is : (a b : Stmt) → equal_statement a b ≡ true → a ≡ b
  statement-is (Block a) (Block b) h = ap Block (statements-are a b h)
  statement-is (Local t ds) (Local u es) h =
      let p = and_parts _ _ h in
      let n = scalar-is t u p.0 in
      let r = list-is equal_declarator declarator-is ds es p.1 in
      (λ i. Local (n i) (r i))
  statement-is (Perform a) (Perform b) h = ap Perform (option-is equal_action action-is a b h)
  statement-is (Return at e) (Return by f) h =
      let p = and_parts _ _ h in
      let n = number-is at by p.0 in
      let r = option-is equal_expression expression-is e f p.1 in
      (λ i. Return (n i) (r i))
  statement-is (Break at) (Break by) h = ap Break (number-is at by h)
  statement-is (Continue at) (Continue by) h = ap Continue (number-is at by h)
  statement-is (If c s) (If d t) h =
      let p = and_parts _ _ h in let n = expression-is c d p.0 in let r = statement-is s t p.1 in (λ i. If (n i) (r i))
  statement-is (IfElse c s a) (IfElse d t b) h =
      let p = and_parts _ _ h in
      let q = and_parts _ _ p.1 in
      let n = expression-is c d p.0 in
      let l = statement-is s t q.0 in
      let r = statement-is a b q.1 in
      (λ i. IfElse (n i) (l i) (r i))
  statement-is (While c s) (While d t) h =
      let p = and_parts _ _ h in let n = expression-is c d p.0 in let r = statement-is s t p.1 in (λ i. While (n i) (r i))
  statement-is (DoWhile s c) (DoWhile t d) h =
      let p = and_parts _ _ h in let n = statement-is s t p.0 in let r = expression-is c d p.1 in (λ i. DoWhile (n i) (r i))
  statement-is (For f c a s) (For g d b t) h =
      let p = and_parts _ _ h in
      let q = and_parts _ _ p.1 in
      let r = and_parts _ _ q.1 in
      let first = beginning-is f g p.0 in
      let test = option-is equal_expression expression-is c d q.0 in
      let step = option-is equal_action action-is a b r.0 in
      let body = statement-is s t r.1 in
      (λ i. For (first i) (test i) (step i) (body i))
  statement-is a b h = absurd (false≢true h)

  pub statements-are : (a b : Stmts) → equal_statements a b ≡ true → a ≡ b
  statements-are end end h = refl
  statements-are (next s ss) (next t ts) h =
      let p = and_parts _ _ h in let l = statement-is s t p.0 in let r = statements-are ss ts p.1 in (λ i. next (l i) (r i))
  statements-are a b h = absurd (false≢true h)

mutual
  statement-same : (a : Stmt) → equal_statement a a ≡ true
  statement-same (Block a) = statements-same a
  statement-same (Local t ds) = and_from _ _ (scalar-same t) (list-same equal_declarator declarator-same ds)
  statement-same (Perform a) = option-same equal_action action-same a
  statement-same (Return at e) = and_from _ _ (number-same at) (option-same equal_expression expression-same e)
  statement-same (Break at) = number-same at
  statement-same (Continue at) = number-same at
  statement-same (If c s) = and_from _ _ (expression-same c) (statement-same s)
  statement-same (IfElse c s a) = and_from _ _ (expression-same c) (and_from _ _ (statement-same s) (statement-same a))
  statement-same (While c s) = and_from _ _ (expression-same c) (statement-same s)
  statement-same (DoWhile s c) = and_from _ _ (statement-same s) (expression-same c)
  statement-same (For f c a s) =
      and_from _ _ (beginning-same f)
      (and_from _ _ (option-same equal_expression expression-same c) (and_from _ _ (option-same equal_action action-same a) (statement-same s)))

  pub statements-same : (a : Stmts) → equal_statements a a ≡ true
  statements-same end = refl
  statements-same (next s ss) = and_from _ _ (statement-same s) (statements-same ss)

-- ---- functions and units

constant-is : (a b : ConstantExpr) → equal_constant a b ≡ true → a ≡ b
constant-is a b h =
    let p = and_parts _ _ h in let n = number-is a.at b.at p.0 in let r = expression-is a.expr b.expr p.1 in (λ i. record { at = n i; expr = r i })

constant-same : (a : ConstantExpr) → equal_constant a a ≡ true
constant-same a = and_from _ _ (number-same a.at) (expression-same a.expr)

parameter-is : (a b : Parameter) → equal_parameter a b ≡ true → a ≡ b
parameter-is a b h =
    let p = and_parts _ _ h in
    let n = scalar-is a.scalar b.scalar p.0 in
    let r = option-is equal_name name-is a.name b.name p.1 in
    (λ i. record { scalar = n i; name = r i })

parameter-same : (a : Parameter) → equal_parameter a a ≡ true
parameter-same a = and_from _ _ (scalar-same a.scalar) (option-same equal_name name-same a.name)

pub signature-is : (a b : Signature) → equal_signature a b ≡ true → a ≡ b
signature-is a b h =
    let p = and_parts _ _ h in
    let q = and_parts _ _ p.1 in
    let n = option-is equal_scalar scalar-is a.result b.result p.0 in
    let l = name-is a.name b.name q.0 in
    let r = list-is equal_parameter parameter-is a.parameters b.parameters q.1 in
    (λ i. record { result = n i; name = l i; parameters = r i })

pub signature-same : (a : Signature) → equal_signature a a ≡ true
signature-same a =
    and_from _ _ (option-same equal_scalar scalar-same a.result) (and_from _ _ (name-same a.name) (list-same equal_parameter parameter-same a.parameters))

object-is : (a b : Object) → equal_object a b ≡ true → a ≡ b
object-is (Single x e) (Single y f) h =
    let p = and_parts _ _ h in
    let n = name-is x y p.0 in
    let r = option-is equal_constant constant-is e f p.1 in
    (λ i. Single (n i) (r i))
object-is (Array x n es) (Array y m fs) h =
    let p = and_parts _ _ h in
    let q = and_parts _ _ p.1 in
    let name = name-is x y p.0 in
    let long = option-is equal_constant constant-is n m q.0 in
    let items = list-is equal_constant constant-is es fs q.1 in
    (λ i. Array (name i) (long i) (items i))
object-is (Bytes x n es) (Bytes y m fs) h =
    let p = and_parts _ _ h in
    let q = and_parts _ _ p.1 in
    let name = name-is x y p.0 in
    let long = option-is equal_constant constant-is n m q.0 in
    let items = list-is equal_constant constant-is es fs q.1 in
    (λ i. Bytes (name i) (long i) (items i))
object-is a b h = absurd (false≢true h)

object-same : (a : Object) → equal_object a a ≡ true
object-same (Single x e) = and_from _ _ (name-same x) (option-same equal_constant constant-same e)
object-same (Array x n es) =
    and_from _ _ (name-same x) (and_from _ _ (option-same equal_constant constant-same n) (list-same equal_constant constant-same es))
object-same (Bytes x n es) =
    and_from _ _ (name-same x) (and_from _ _ (option-same equal_constant constant-same n) (list-same equal_constant constant-same es))

external-is : (a b : External) → equal_external a b ≡ true → a ≡ b
external-is (Declaration s) (Declaration t) h = ap Declaration (signature-is s t h)
external-is (Definition s a) (Definition t b) h =
    let p = and_parts _ _ h in let l = signature-is s t p.0 in let r = statements-are a b p.1 in (λ i. Definition (l i) (r i))
external-is (Objects t os) (Objects u ps) h =
    let p = and_parts _ _ h in
    let l = scalar-is t u p.0 in
    let r = list-is equal_object object-is os ps p.1 in
    (λ i. Objects (l i) (r i))
external-is a b h = absurd (false≢true h)

external-same : (a : External) → equal_external a a ≡ true
external-same (Declaration s) = signature-same s
external-same (Definition s a) = and_from _ _ (signature-same s) (statements-same a)
external-same (Objects t os) = and_from _ _ (scalar-same t) (list-same equal_object object-same os)

pub units-decided : (a b : List External) → Decides (pointwise equal_external a b) (a ≡ b)
units-decided a b = decided (pointwise equal_external) (list-is equal_external external-is) (list-same equal_external external-same) a b

pub declarators-are : (a b : List Declarator) → pointwise equal_declarator a b ≡ true → a ≡ b
declarators-are a b h = list-is equal_declarator declarator-is a b h

pub declarators-same : (a : List Declarator) → pointwise equal_declarator a a ≡ true
declarators-same a = list-same equal_declarator declarator-same a

pub objects-are : (a b : List Object) → pointwise equal_object a b ≡ true → a ≡ b
objects-are a b h = list-is equal_object object-is a b h

pub objects-same : (a : List Object) → pointwise equal_object a a ≡ true
objects-same a = list-same equal_object object-same a
