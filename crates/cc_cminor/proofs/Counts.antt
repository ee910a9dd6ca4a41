-- The lowering makes at most 12 statements and expressions for each token.
use Rattle.std.proofs.Common.{◌≡◌, ℕ, zero, suc, ◌+◌, ◌*◌, ◌≤◌, ◌&&◌, Bool, true, false, if◌then◌else◌, List, [], ◌∷◌, ◌++◌, Option, Some, None, refl, arith}
use Rattle.cc_tokens.specs.declared.scalar.Scalar.{Scalar}
use Rattle.cc_tokens.specs.declared.scalar.Scalar.TheVariants.{Int}
use Rattle.cc_ast.specs.declared.ast.BinaryOperator.{BinaryOperator}
use Rattle.cc_ast.specs.declared.ast.UnaryOperator.{UnaryOperator}
use Rattle.cc_types.specs.Operators.{working_type, applied_operator, step_operator}
use Rattle.cc_types.specs.Types.{value_type, target_type}
use Rattle.cc_ast.specs.Tree as tree
use Rattle.cc_ast.specs.Tree.{Expr, Exprs, none, more, Number, Variable, Element, Parenthesised, Cast, Conditional, Target, AtVariable, AtElement, Action, Assign, Step, Evaluate, Declarator, Beginning, Declares, Performs, Stmt, Stmts, end, next, Perform, Break, Continue, IfElse, While, DoWhile, For}
use Rattle.cc_layout.specs.Layout.{Layout, callee}
use Rattle.cc_layout.specs.Environment.{Environment, number_in, types_in, inner, with_local, behind, behind_beginning}
use Rattle.cc_resolve.specs.Operations.{operation, unary_operation}
use Rattle.cc_layout.specs.declared.layout.Callee.{Callee}
use Rattle.cc_layout.specs.declared.layout.Callee.TheVariants.{WriteWord, ReadWord, Defined}
use Rattle.cc_resolve.specs.declared.operations.UnaryOperation.{UnaryOperation}
use Rattle.cc_resolve.specs.declared.operations.UnaryOperation.TheVariants as single
use Rattle.cc_resolve.specs.declared.operations.BinaryOperation.{BinaryOperation}
use Rattle.cc_resolve.specs.declared.operations.BinaryOperation.TheVariants as word
use Rattle.cc_words.specs.declared.operators.Unary.TheVariants as one
use Rattle.cc_words.specs.declared.operators.Binary as binary
use Rattle.cc_words.specs.declared.operators.Binary.TheVariants as two
use Rattle.cc_cminor_language.specs.Cminor.{Expression, Constant, Local, Unary, Binary, Load, Statement, Skip, Set, Store, Sequence, If, Block, Exit, Return}
use Rattle.cc_cminor_language.specs.Code.{in_sequence}
use Rattle.cc_cminor_language.specs.Size.{expression_size, expressions_size, statement_size}
use Rattle.cc_cminor.specs.internal.Lowering.{free, object_of, width_of, read_of, write_to, variable_of, variable_set, single_or, unary_of, is_truth, truth_of, is_nothing, is_constant, compared, condition, is_reversed, branch, operation_of, binary_of, Kind, Conjunction, Disjunction, Strict, kind, is_plain, are_plain, plain, all_plain, used, called_on, count, locals_from, last_value, invoked, connected, put_expr, put_all, using, using_or, combined, assigned, performed, performed_optional, initialised, declared_code, started, leaving, lowered, all_lowered, body_code}
use Rattle.cc_cminor.proofs.Tokens.{tokens, tokens_all, tokens_or, target_tokens, action_tokens, optional_tokens, declared_tokens, beginning_tokens, statement_tokens, statements_tokens}

read_size : (o : Option ℕ) (n : ℕ) → expression_size (read_of o n) ≤ 2
read_size None n = omega arith
read_size (Some i) n = omega arith

write_size : (o : Option ℕ) (n : ℕ) (e : Expression) → statement_size (write_to o n e) ≤ expression_size e + 2
write_size None n e = omega arith
write_size (Some i) n e = omega arith

single_size : (op : Option UnaryOperation) (e : Expression) → expression_size (single_or op e) ≤ expression_size e + 1
single_size None e = omega arith
single_size (Some single.Negate) e = omega arith
single_size (Some single.Complement) e = omega arith
single_size (Some single.IsZero) e = omega arith

unary_size : (op : UnaryOperator) (e : Expression) → expression_size (unary_of op e) ≤ expression_size e + 1
unary_size op e = single_size (unary_operation op) e

operation_size : (op : BinaryOperation) (a b : Expression) → expression_size (operation_of op a b) ≤ expression_size a + expression_size b + 1
operation_size word.Multiply a b = omega arith
operation_size word.DivideSigned a b = omega arith
operation_size word.DivideUnsigned a b = omega arith
operation_size word.RemainderSigned a b = omega arith
operation_size word.RemainderUnsigned a b = omega arith
operation_size word.Add a b = omega arith
operation_size word.Subtract a b = omega arith
operation_size word.ShiftLeft a b = omega arith
operation_size word.ShiftRightSigned a b = omega arith
operation_size word.ShiftRightUnsigned a b = omega arith
operation_size word.LessSigned a b = omega arith
operation_size word.LessUnsigned a b = omega arith
operation_size word.GreaterSigned a b = omega arith
operation_size word.GreaterUnsigned a b = omega arith
operation_size word.LessOrEqualSigned a b = omega arith
operation_size word.LessOrEqualUnsigned a b = omega arith
operation_size word.GreaterOrEqualSigned a b = omega arith
operation_size word.GreaterOrEqualUnsigned a b = omega arith
operation_size word.Equal a b = omega arith
operation_size word.NotEqual a b = omega arith
operation_size word.And a b = omega arith
operation_size word.Xor a b = omega arith
operation_size word.Or a b = omega arith

binary_size : (op : BinaryOperator) (t : Scalar) (a b : Expression) → expression_size (binary_of op t a b) ≤ expression_size a + expression_size b + 1
binary_size op t a b = operation_size (operation op t) a b

plain_size : (g : Layout) (v : Environment) (e : Expr) → expression_size (plain g v e) + 1 ≤ 6 * tokens e
plain_size g v (Number t n) = omega arith
plain_size g v (Variable x) = let a = read_size (number_in v.locals x.text) (object_of g x.text) in omega arith
plain_size g v (Element x e) = let a = plain_size g v e in omega arith
plain_size g v (tree.Call f es) = omega arith
plain_size g v (Parenthesised e) = let a = plain_size g v e in omega arith
plain_size g v (tree.Unary op e) = let a = plain_size g v e in let b = unary_size op (plain g v e) in omega arith
plain_size g v (Cast t e) = let a = plain_size g v e in omega arith
plain_size g v (tree.Binary op a b) =
    let x = plain_size g v a in let y = plain_size g v b in
    let z = binary_size op (working_type op (value_type (types_in v) a) (value_type (types_in v) b)) (plain g v a) (plain g v b) in omega arith
plain_size g v (Conditional c a b) = omega arith

all_plain_size : (g : Layout) (v : Environment) (es : Exprs) → expressions_size (all_plain g v es) ≤ 6 * tokens_all es
all_plain_size g v none = omega arith
all_plain_size g v (more e rest) = let a = plain_size g v e in let b = all_plain_size g v rest in omega arith

used_size : (b : Bool) (e : Expression) (code : Statement) (k m t : ℕ) (f : Expression → Statement) → expression_size e + 1 ≤ t → statement_size code + 3 ≤ t → ((x : Expression) → statement_size (f x) ≤ expression_size x + m) → statement_size (used b e code k f) + 1 ≤ t + m
used_size true e code k m t f p q h = let a = h e in omega arith
used_size false e code k m t f p q h = let a = h (Local k) in omega arith

truth_size : (e : Expression) → expression_size (truth_of e) ≤ expression_size e + 2
truth_size e = by (is_truth e)
  where
    by : (b : Bool) → expression_size (if b then e else Unary one.IsZero (Unary one.IsZero e)) ≤ expression_size e + 2
    by true = omega arith
    by false = omega arith

equality_size : (a b : Expression) (n : Bool) → expression_size (if n then a else Binary two.Xor a b) ≤ suc (expression_size a + expression_size b)
equality_size a b true = omega arith
equality_size a b false = omega arith

either_size : (op under : binary.Binary) (a b : Expression) (c : Bool) → expression_size (if c then Binary op a b else Binary under b a) ≤ suc (expression_size a + expression_size b)
either_size op under a b true = omega arith
either_size op under a b false = omega arith

compared_size : (op : binary.Binary) (a b : Expression) → expression_size (compared op a b) ≤ suc (expression_size a + expression_size b)
compared_size two.LeS a b = either_size two.LeS two.LtS a b (is_constant b)
compared_size two.LeU a b = either_size two.LeU two.LtU a b (is_constant b)
compared_size two.Eq a b = equality_size a b (is_nothing b)
compared_size two.Ne a b = equality_size a b (is_nothing b)
compared_size op a b = omega arith

condition_size : (e : Expression) → expression_size (condition e) ≤ expression_size e
condition_size (Constant w) = omega arith
condition_size (Local x) = omega arith
condition_size (Load width o a) = omega arith
condition_size (Unary one.IsZero a) = let h = condition_size a in omega arith
condition_size (Unary one.Neg a) = omega arith
condition_size (Unary one.Complement a) = omega arith
condition_size (Binary op a b) = compared_size op a b

branch_size : (e : Expression) (a b : Statement) → statement_size (branch e a b) ≤ suc (expression_size e + (statement_size a + statement_size b))
branch_size e a b = by (is_reversed e)
  where
    by : (r : Bool) → statement_size (if r then If (condition e) b a else If (condition e) a b) ≤ suc (expression_size e + (statement_size a + statement_size b))
    by true = let h = condition_size e in omega arith
    by false = let h = condition_size e in omega arith

last_size : (us : List Expression) → expression_size (last_value us) ≤ expressions_size us + 1
last_size [] = omega arith
last_size (e ∷ []) = omega arith
last_size (e ∷ f ∷ rest) = let a = last_size (f ∷ rest) in omega arith

-- the size of the statements of a list, each with what joins it to the next one
abbrev total : List Statement → ℕ
total [] = 0
total (s ∷ rest) = suc (statement_size s) + total rest

total_append : (ss ts : List Statement) → total (ss ++ ts) ≡ total ss + total ts
total_append [] ts = omega arith
total_append (s ∷ ss) ts = let a = total_append ss ts in omega arith

sequence_size : (all : List Statement) → statement_size (in_sequence all) ≤ suc (total all)
sequence_size [] = omega arith
sequence_size (a ∷ []) = omega arith
sequence_size (a ∷ b ∷ rest) = let h = sequence_size (b ∷ rest) in omega arith

invoked_size : (c : Callee) (k : ℕ) (us : List Expression) → statement_size (invoked c k us) ≤ expressions_size us + 5
invoked_size WriteWord k us = let a = last_size us in omega arith
invoked_size ReadWord k us = omega arith
invoked_size (Defined f) k us = omega arith

locals_size : (k n : ℕ) → expressions_size (locals_from k n) ≡ n
locals_size k zero = refl
locals_size k (suc n) = let a = locals_size (suc k) n in omega arith

called_size : (b : Bool) (es : List Expression) (code : Statement) (k n t : ℕ) (c : Callee) → expressions_size es ≤ 12 * t → statement_size code + 2 * n ≤ 12 * t + 1 → statement_size (called_on b es code k n (λ us. invoked c k us)) + 3 ≤ 12 * (3 + t)
called_size true es code k n t c p q = let a = invoked_size c k es in omega arith
called_size false es code k n t c p q = let a = invoked_size c k (locals_from k n) in let b = locals_size k n in omega arith

connected_size : (kd : Kind) (op : BinaryOperator) (u : Scalar) (p q : Bool) (a b : Expression) (left right here : Statement) (k s t : ℕ) → expression_size a + 1 ≤ 6 * s → expression_size b + 1 ≤ 6 * t → statement_size left + 3 ≤ 12 * s → statement_size right + 3 ≤ 12 * t → statement_size here + 3 ≤ 12 * t
    → statement_size (connected kd op u p q a b left right here k) + 3 ≤ 12 * (1 + s + t)
connected_size Conjunction op u p q a b left right here k s t ea eb el er eh =
    let right_part = used_size q b here k 3 (12 * t) (λ y. Set k (truth_of y)) (omega arith) eh (λ x. let h = truth_size x in omega arith) in
    let whole = used_size p a left k (1 + statement_size (used q b here k (λ y. Set k (truth_of y))) + 2) (12 * s) (λ x. branch x (used q b here k (λ y. Set k (truth_of y))) (Set k (Constant 0))) (omega arith) el (λ x. let h = branch_size x (used q b here k (λ y. Set k (truth_of y))) (Set k (Constant 0)) in omega arith) in
    omega arith
connected_size Disjunction op u p q a b left right here k s t ea eb el er eh =
    let right_part = used_size q b here k 3 (12 * t) (λ y. Set k (truth_of y)) (omega arith) eh (λ x. let h = truth_size x in omega arith) in
    let whole = used_size p a left k (1 + statement_size (used q b here k (λ y. Set k (truth_of y))) + 2) (12 * s) (λ x. branch x (Set k (Constant 1)) (used q b here k (λ y. Set k (truth_of y)))) (omega arith) el (λ x. let h = branch_size x (Set k (Constant 1)) (used q b here k (λ y. Set k (truth_of y))) in omega arith) in
    omega arith
connected_size Strict op u p q a b left right here k s t ea eb el er eh = by (p && q)
  where
    by : (both : Bool) → statement_size (if both then Set k (binary_of op u a b) else Sequence left (used q b right (suc k) (λ y. Set k (binary_of op u (Local k) y)))) + 3 ≤ 12 * (1 + s + t)
    by true = let z = binary_size op u a b in omega arith
    by false =
        let part = used_size q b right (suc k) 7 (12 * t) (λ y. Set k (binary_of op u (Local k) y)) (omega arith) er (λ x. let z = binary_size op u (Local k) x in omega arith) in
        omega arith

module _ (g : Layout) where
  mutual
    pub put_size : (e : Expr) (v : Environment) (k : ℕ) → statement_size (put_expr g v k e) + 3 ≤ 12 * tokens e
    put_size (Number t n) v k = omega arith
    put_size (Variable x) v k = let a = read_size (number_in v.locals x.text) (object_of g x.text) in omega arith
    put_size (Element x e) v k =
        let a = plain_size g v e in
        let b = used_size (is_plain e) (plain g v e) (put_expr g v k e) k 2 (12 * tokens e) (λ i. Set k (Load (width_of g x.text) (object_of g x.text) i)) (omega arith) (put_size e v k) (λ x. omega arith) in
        omega arith
    put_size (tree.Call f es) v k =
        let a = all_plain_size g v es in
        let b = put_all_size es v k in
        let c = sequence_size (put_all g v k es) in
        called_size (are_plain es) (all_plain g v es) (in_sequence (put_all g v k es)) k (count es) (tokens_all es) (callee g f.text) (omega arith) (omega arith)
    put_size (Parenthesised e) v k = let a = put_size e v k in omega arith
    put_size (tree.Unary op e) v k =
        let a = plain_size g v e in
        let b = used_size (is_plain e) (plain g v e) (put_expr g v k e) k 2 (12 * tokens e) (λ a. Set k (unary_of op a)) (omega arith) (put_size e v k) (λ x. let z = unary_size op x in omega arith) in
        omega arith
    put_size (Cast t e) v k = let a = put_size e v k in omega arith
    put_size (tree.Binary op a b) v k =
        connected_size (kind op) op (working_type op (value_type (types_in v) a) (value_type (types_in v) b)) (is_plain a) (is_plain b) (plain g v a) (plain g v b) (put_expr g v k a) (put_expr g v (suc k) b) (put_expr g v k b) k (tokens a) (tokens b)
        (plain_size g v a) (plain_size g v b) (put_size a v k) (put_size b v (suc k)) (put_size b v k)
    put_size (Conditional c a b) v k =
        let p = plain_size g v c in
        let x = put_size a v k in
        let y = put_size b v k in
        let z = used_size (is_plain c) (plain g v c) (put_expr g v k c) k (1 + statement_size (put_expr g v k a) + statement_size (put_expr g v k b)) (12 * tokens c) (λ x. branch x (put_expr g v k a) (put_expr g v k b)) (omega arith) (put_size c v k) (λ x. let h = branch_size x (put_expr g v k a) (put_expr g v k b) in omega arith) in
        omega arith

    put_all_size : (es : Exprs) (v : Environment) (k : ℕ) → total (put_all g v k es) + 2 * count es ≤ 12 * tokens_all es
    put_all_size none v k = omega arith
    put_all_size (more e rest) v k = let a = put_size e v k in let b = put_all_size rest v (suc k) in omega arith

  using_size : (e : Expr) (v : Environment) (k m : ℕ) (f : Expression → Statement) → ((x : Expression) → statement_size (f x) ≤ expression_size x + m) → statement_size (using g v k e f) + 1 ≤ 12 * tokens e + m
  using_size e v k m f h = let a = plain_size g v e in used_size (is_plain e) (plain g v e) (put_expr g v k e) k m (12 * tokens e) f (omega arith) (put_size e v k) h

  using_or_size : (e : Option Expr) (v : Environment) (k w m : ℕ) (f : Expression → Statement) → ((x : Expression) → statement_size (f x) ≤ expression_size x + m) → statement_size (using_or g v k w e f) ≤ 12 * tokens_or e + m + 1
  using_or_size None v k w m f h = let a = h (Constant w) in omega arith
  using_or_size (Some e) v k w m f h = let a = using_size e v k m f h in omega arith

  combined_size : (op : Option BinaryOperator) (t u : Scalar) (old e : Expression) → expression_size (combined op t u old e) ≤ expression_size old + expression_size e + 5
  combined_size None t u old e = omega arith
  combined_size (Some op) t u old e = let a = binary_size op (working_type op t u) old e in omega arith

  -- the size of the code that sets a target, if `code` uses a value within r + m
  assigned_size : (target : Target) (op : Option BinaryOperator) (u : Scalar) (v : Environment) (code : ℕ → (Expression → Statement) → Statement) (r : ℕ) → ((k m : ℕ) (f : Expression → Statement) → ((x : Expression) → statement_size (f x) ≤ expression_size x + m) → statement_size (code k f) ≤ r + m)
      → statement_size (assigned g v target (λ t old new. combined op t u old new) code) ≤ 12 * target_tokens target + r
  assigned_size (AtVariable x) op u v code r h =
      let t : Scalar = target_type (types_in v) (AtVariable x) in
      let a = read_size (number_in v.locals x.text) (object_of g x.text) in
      let b = h (free v) 9 (λ e. variable_set g v x.text (combined op t u (variable_of g v x.text) e))
      (λ y. let c = combined_size op t u (variable_of g v x.text) y in let d = write_size (number_in v.locals x.text) (object_of g x.text) (combined op t u (variable_of g v x.text) y) in omega arith) in
      omega arith
  assigned_size (AtElement x i) op u v code r h =
      let t : Scalar = target_type (types_in v) (AtElement x i) in
      let o : ℕ = object_of g x.text in
      let a = put_size i v (free v) in
      let b = h (suc (free v)) 9 (λ e. Store (width_of g x.text) o (Local (free v)) (combined op t u (Load (width_of g x.text) o (Local (free v))) e))
      (λ y. let c = combined_size op t u (Load (width_of g x.text) o (Local (free v))) y in omega arith) in
      omega arith

  performed_size : (a : Action) (v : Environment) → statement_size (performed g v a) ≤ 12 * action_tokens a
  performed_size (Assign op target e) v =
      let a = assigned_size target (applied_operator op) (value_type (types_in v) e) v (λ k f. using g v k e f) (12 * tokens e) (λ k m f h. let b = using_size e v k m f h in omega arith) in omega arith
  performed_size (Step op target) v =
      let a = assigned_size target (applied_operator (step_operator op)) Int v (λ k f. f (Constant 1)) 1 (λ k m f h. let b = h (Constant 1) in omega arith) in omega arith
  performed_size (Evaluate e) v = let a = put_size e v (free v) in omega arith

  optional_size : (a : Option Action) (v : Environment) → statement_size (performed_optional g v a) ≤ 12 * optional_tokens a + 1
  optional_size None v = omega arith
  optional_size (Some a) v = let b = performed_size a v in omega arith

  initialised_size : (e : Option Expr) (v : Environment) (i : ℕ) → total (initialised g v i e) ≤ 12 * tokens_or e + 1
  initialised_size None v i = omega arith
  initialised_size (Some e) v i = let a = using_size e v (suc i) 1 (λ x. Set i x) (λ x. omega arith) in omega arith

  declared_size : (t : Scalar) (ds : List Declarator) (v : Environment) → total (declared_code g t ds v) ≤ 12 * declared_tokens ds
  declared_size t [] v = omega arith
  declared_size t (d ∷ rest) v =
      let a = initialised_size d.initial (with_local t d.name.text v) (free v) in
      let b = declared_size t rest (with_local t d.name.text v) in
      let c = total_append (initialised g (with_local t d.name.text v) (free v) d.initial) (declared_code g t rest (with_local t d.name.text v)) in omega arith

  started_size : (first : Beginning) (v : Environment) → statement_size (started g first v) ≤ 12 * beginning_tokens first + 1
  started_size (Declares t ds) v = let a = declared_size t ds v in let b = sequence_size (declared_code g t ds v) in omega arith
  started_size (Performs a) v = optional_size a v

  leaving_size : (b : Bool) (i : ℕ) → statement_size (leaving b i) ≤ 2
  leaving_size true i = omega arith
  leaving_size false i = omega arith

  mutual
    pub lowered_size : (st : Stmt) (b : Bool) (v : Environment) → statement_size (lowered g b v st) + 1 ≤ 12 * statement_tokens st
    lowered_size (tree.Block all) b v = let a = all_lowered_size all b (inner v) in let c = sequence_size (all_lowered g b (inner v) all) in omega arith
    lowered_size (tree.Local t ds) b v = let a = declared_size t ds v in let c = sequence_size (declared_code g t ds v) in omega arith
    lowered_size (Perform a) b v = let c = optional_size a v in omega arith
    lowered_size (tree.Return at e) b v = let a = using_or_size e v (free v) 0 1 (λ x. Return x) (λ x. omega arith) in omega arith
    lowered_size (Break at) b v = let a = leaving_size b 1 in omega arith
    lowered_size (Continue at) b v = let a = leaving_size b 0 in omega arith
    lowered_size (tree.If c a) b v =
        let x = lowered_size a b (inner v) in
        let y = using_size c v (free v) (statement_size (lowered g b (inner v) a) + 2) (λ x. branch x (lowered g b (inner v) a) Skip) (λ x. let h = branch_size x (lowered g b (inner v) a) Skip in omega arith) in omega arith
    lowered_size (IfElse c a e) b v =
        let x = lowered_size a b (inner v) in
        let z = lowered_size e b (inner v) in
        let y = using_size c v (free v) (statement_size (lowered g b (inner v) a) + statement_size (lowered g b (inner v) e) + 1) (λ x. branch x (lowered g b (inner v) a) (lowered g b (inner v) e)) (λ x. let h = branch_size x (lowered g b (inner v) a) (lowered g b (inner v) e) in omega arith) in omega arith
    lowered_size (While c body) b v =
        let A : Statement = lowered g true (inner v) body in
        let x = lowered_size body true (inner v) in
        let y = using_size c v (free v) (statement_size A + 5) (λ x. branch x (Sequence (Block A) Skip) (Exit 0)) (λ x. let h = branch_size x (Sequence (Block A) Skip) (Exit 0) in omega arith) in omega arith
    lowered_size (DoWhile body c) b v =
        let x = lowered_size body true (inner v) in
        let y = using_size c v (free v) 3 (λ x. branch x Skip (Exit 0)) (λ x. let h = branch_size x Skip (Exit 0) in omega arith) in omega arith
    lowered_size (For first c a body) b v =
        let w : Environment = behind_beginning first (inner v) in
        let A : Statement = lowered g true (inner w) body in
        let X : Statement = performed_optional g w a in
        let p = started_size first (inner v) in
        let q = optional_size a w in
        let x = lowered_size body true (inner w) in
        let y = using_or_size c w (free w) 1 (statement_size A + statement_size X + 4) (λ x. branch x (Sequence (Block A) X) (Exit 0)) (λ x. let h = branch_size x (Sequence (Block A) X) (Exit 0) in omega arith) in omega arith

    pub all_lowered_size : (ss : Stmts) (b : Bool) (v : Environment) → total (all_lowered g b v ss) ≤ 12 * statements_tokens ss
    all_lowered_size end b v = omega arith
    all_lowered_size (next first rest) b v = let x = lowered_size first b v in let y = all_lowered_size rest b (behind first v) in omega arith

  -- a body's code has at most 12 statements and expressions for each token, counting its two braces
  pub body_size : (v : Environment) (body : Stmts) → statement_size (body_code g v body) ≤ 12 * (2 + statements_tokens body)
  body_size v body = let a = all_lowered_size body false v in let c = sequence_size (all_lowered g false v body) in omega arith
