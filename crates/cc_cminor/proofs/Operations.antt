-- Lowered code has at most one operation that can lack a value for each token.
use Rattle.std.proofs.Common.{◌≡◌, ℕ, zero, suc, ◌+◌, ◌*◌, ◌≤◌, ◌&&◌, Bool, true, false, List, [], ◌∷◌, ◌++◌, Option, Some, None, refl, arith}
use Rattle.std.specs.Prelude.{if◌then◌else◌}
use Rattle.cc_tokens.specs.declared.scalar.Scalar.{Scalar}
use Rattle.cc_tokens.specs.declared.scalar.Scalar.TheVariants.{Int}
use Rattle.cc_ast.specs.declared.ast.BinaryOperator.{BinaryOperator}
use Rattle.cc_ast.specs.declared.ast.UnaryOperator.{UnaryOperator}
use Rattle.cc_types.specs.Operators.{working_type, applied_operator, step_operator}
use Rattle.cc_types.specs.Types.{value_type, target_type}
use Rattle.cc_ast.specs.Tree as tree
use Rattle.cc_ast.specs.Tree.{Expr, Exprs, none, more, Number, Variable, Element, Parenthesised, Cast, Conditional, Target, AtVariable, AtElement, Action, Assign, Step, Evaluate, Declarator, Beginning, Declares, Performs, Stmt, Stmts, end, next, Perform, Break, Continue, IfElse, While, DoWhile, For}
use Rattle.cc_layout.specs.Layout.{Layout, callee}
use Rattle.cc_layout.specs.Environment.{Environment, number_in, types_in, inner, with_local, behind, behind_beginning}
use Rattle.cc_resolve.specs.Operations.{operation, unary_operation}
use Rattle.cc_layout.specs.declared.layout.Callee.{Callee}
use Rattle.cc_layout.specs.declared.layout.Callee.TheVariants.{WriteWord, ReadWord, Defined}
use Rattle.cc_resolve.specs.declared.operations.UnaryOperation.{UnaryOperation}
use Rattle.cc_resolve.specs.declared.operations.UnaryOperation.TheVariants as single
use Rattle.cc_resolve.specs.declared.operations.BinaryOperation.{BinaryOperation}
use Rattle.cc_resolve.specs.declared.operations.BinaryOperation.TheVariants as word
use Rattle.cc_words.specs.declared.operators.Unary.TheVariants as one
use Rattle.cc_words.specs.declared.operators.Binary as binary
use Rattle.cc_words.specs.declared.operators.Binary.TheVariants as two
use Rattle.cc_cminor_language.specs.Cminor.{Expression, Constant, Local, Unary, Binary, Load, Statement, Skip, Set, Store, Sequence, If, Block, Exit, Return}
use Rattle.cc_cminor_language.specs.Code.{in_sequence}
use Rattle.cc_cminor.specs.internal.Lowering.{free, object_of, width_of, read_of, write_to, variable_of, variable_set, single_or, unary_of, operation_of, binary_of, is_truth, truth_of, is_nothing, is_constant, compared, condition, is_reversed, branch, Kind, Conjunction, Disjunction, Strict, kind, is_plain, are_plain, plain, all_plain, used, count, locals_from, last_value, invoked, called_on, connected, put_expr, put_all, using, using_or, combined, assigned, performed, performed_optional, initialised, declared_code, started, leaving, lowered, all_lowered, body_code}
use Rattle.cc_cminor.proofs.Tokens.{tokens, tokens_all, tokens_or, target_tokens, action_tokens, optional_tokens, declared_tokens, beginning_tokens, statement_tokens, statements_tokens}
use Rattle.cc_cminor_language.specs.Size.{partial, partials, all_partials, code_partials}

read_ops : (o : Option ℕ) (n : ℕ) → partials (read_of o n) ≤ 1
read_ops None n = omega arith
read_ops (Some i) n = omega arith

write_ops : (o : Option ℕ) (n : ℕ) (e : Expression) → code_partials (write_to o n e) ≤ partials e + 1
write_ops None n e = omega arith
write_ops (Some i) n e = omega arith

single_ops : (op : Option UnaryOperation) (e : Expression) → partials (single_or op e) ≤ partials e
single_ops None e = omega arith
single_ops (Some single.Negate) e = omega arith
single_ops (Some single.Complement) e = omega arith
single_ops (Some single.IsZero) e = omega arith

unary_ops : (op : UnaryOperator) (e : Expression) → partials (unary_of op e) ≤ partials e
unary_ops op e = single_ops (unary_operation op) e

operation_ops : (op : BinaryOperation) (a b : Expression) → partials (operation_of op a b) ≤ partials a + partials b + 1
operation_ops word.Multiply a b = omega arith
operation_ops word.DivideSigned a b = omega arith
operation_ops word.DivideUnsigned a b = omega arith
operation_ops word.RemainderSigned a b = omega arith
operation_ops word.RemainderUnsigned a b = omega arith
operation_ops word.Add a b = omega arith
operation_ops word.Subtract a b = omega arith
operation_ops word.ShiftLeft a b = omega arith
operation_ops word.ShiftRightSigned a b = omega arith
operation_ops word.ShiftRightUnsigned a b = omega arith
operation_ops word.LessSigned a b = omega arith
operation_ops word.LessUnsigned a b = omega arith
operation_ops word.GreaterSigned a b = omega arith
operation_ops word.GreaterUnsigned a b = omega arith
operation_ops word.LessOrEqualSigned a b = omega arith
operation_ops word.LessOrEqualUnsigned a b = omega arith
operation_ops word.GreaterOrEqualSigned a b = omega arith
operation_ops word.GreaterOrEqualUnsigned a b = omega arith
operation_ops word.Equal a b = omega arith
operation_ops word.NotEqual a b = omega arith
operation_ops word.And a b = omega arith
operation_ops word.Xor a b = omega arith
operation_ops word.Or a b = omega arith

binary_ops : (op : BinaryOperator) (t : Scalar) (a b : Expression) → partials (binary_of op t a b) ≤ partials a + partials b + 1
binary_ops op t a b = operation_ops (operation op t) a b

plain_ops : (g : Layout) (v : Environment) (e : Expr) → partials (plain g v e) ≤ tokens e
plain_ops g v (Number t n) = omega arith
plain_ops g v (Variable x) = let a = read_ops (number_in v.locals x.text) (object_of g x.text) in omega arith
plain_ops g v (Element x e) = let a = plain_ops g v e in omega arith
plain_ops g v (tree.Call f es) = omega arith
plain_ops g v (Parenthesised e) = let a = plain_ops g v e in omega arith
plain_ops g v (tree.Unary op e) = let a = plain_ops g v e in let b = unary_ops op (plain g v e) in omega arith
plain_ops g v (Cast t e) = let a = plain_ops g v e in omega arith
plain_ops g v (tree.Binary op a b) =
    let x = plain_ops g v a in let y = plain_ops g v b in
    let z = binary_ops op (working_type op (value_type (types_in v) a) (value_type (types_in v) b)) (plain g v a) (plain g v b) in omega arith
plain_ops g v (Conditional c a b) = omega arith

all_plain_ops : (g : Layout) (v : Environment) (es : Exprs) → all_partials (all_plain g v es) ≤ tokens_all es
all_plain_ops g v none = omega arith
all_plain_ops g v (more e rest) = let a = plain_ops g v e in let b = all_plain_ops g v rest in omega arith

used_ops : (b : Bool) (e : Expression) (code : Statement) (k m t : ℕ) (f : Expression → Statement) → partials e ≤ t → code_partials code ≤ t → ((x : Expression) → code_partials (f x) ≤ partials x + m) → code_partials (used b e code k f) ≤ t + m
used_ops true e code k m t f p q h = let a = h e in omega arith
used_ops false e code k m t f p q h = let a = h (Local k) in omega arith

truth_ops : (e : Expression) → partials (truth_of e) ≤ partials e
truth_ops e = by (is_truth e)
  where
    by : (b : Bool) → partials (if b then e else Unary one.IsZero (Unary one.IsZero e)) ≤ partials e
    by true = omega arith
    by false = omega arith

equality_ops : (a b : Expression) (n : Bool) → partials (if n then a else Binary two.Xor a b) ≤ partials a + partials b
equality_ops a b true = omega arith
equality_ops a b false = omega arith

signed_ops : (a b : Expression) (c : Bool) → partials (if c then Binary two.LeS a b else Binary two.LtS b a) ≤ partials a + partials b
signed_ops a b true = omega arith
signed_ops a b false = omega arith

unsigned_ops : (a b : Expression) (c : Bool) → partials (if c then Binary two.LeU a b else Binary two.LtU b a) ≤ partials a + partials b
unsigned_ops a b true = omega arith
unsigned_ops a b false = omega arith

compared_ops : (op : binary.Binary) (a b : Expression) → partials (compared op a b) ≤ partials (Binary op a b)
compared_ops two.LeS a b = let h = signed_ops a b (is_constant b) in omega arith
compared_ops two.LeU a b = let h = unsigned_ops a b (is_constant b) in omega arith
compared_ops two.Eq a b = let h = equality_ops a b (is_nothing b) in omega arith
compared_ops two.Ne a b = let h = equality_ops a b (is_nothing b) in omega arith
compared_ops op a b = omega arith

condition_ops : (e : Expression) → partials (condition e) ≤ partials e
condition_ops (Constant w) = omega arith
condition_ops (Local x) = omega arith
condition_ops (Load width o a) = omega arith
condition_ops (Unary one.IsZero a) = let h = condition_ops a in omega arith
condition_ops (Unary one.Neg a) = omega arith
condition_ops (Unary one.Complement a) = omega arith
condition_ops (Binary op a b) = compared_ops op a b

branch_ops : (e : Expression) (a b : Statement) → code_partials (branch e a b) ≤ partials e + (code_partials a + code_partials b)
branch_ops e a b = by (is_reversed e)
  where
    by : (r : Bool) → code_partials (if r then If (condition e) b a else If (condition e) a b) ≤ partials e + (code_partials a + code_partials b)
    by true = let h = condition_ops e in omega arith
    by false = let h = condition_ops e in omega arith

last_ops : (us : List Expression) → partials (last_value us) ≤ all_partials us
last_ops [] = omega arith
last_ops (e ∷ []) = omega arith
last_ops (e ∷ f ∷ rest) = let a = last_ops (f ∷ rest) in omega arith

abbrev total : List Statement → ℕ
total [] = 0
total (s ∷ rest) = code_partials s + total rest

total_append : (ss ts : List Statement) → total (ss ++ ts) ≡ total ss + total ts
total_append [] ts = omega arith
total_append (s ∷ ss) ts = let a = total_append ss ts in omega arith

sequence_ops : (all : List Statement) → code_partials (in_sequence all) ≤ total all
sequence_ops [] = omega arith
sequence_ops (a ∷ []) = omega arith
sequence_ops (a ∷ b ∷ rest) = let h = sequence_ops (b ∷ rest) in omega arith

invoked_ops : (c : Callee) (k : ℕ) (us : List Expression) → code_partials (invoked c k us) ≤ all_partials us
invoked_ops WriteWord k us = let a = last_ops us in omega arith
invoked_ops ReadWord k us = omega arith
invoked_ops (Defined f) k us = omega arith

locals_ops : (k n : ℕ) → all_partials (locals_from k n) ≡ 0
locals_ops k zero = refl
locals_ops k (suc n) = let a = locals_ops (suc k) n in omega arith

called_ops : (b : Bool) (es : List Expression) (code : Statement) (k n t : ℕ) (c : Callee) → all_partials es ≤ t → code_partials code ≤ t → code_partials (called_on b es code k n (λ us. invoked c k us)) ≤ t
called_ops true es code k n t c p q = let a = invoked_ops c k es in omega arith
called_ops false es code k n t c p q = let a = invoked_ops c k (locals_from k n) in let b = locals_ops k n in omega arith

connected_ops : (kd : Kind) (op : BinaryOperator) (u : Scalar) (p q : Bool) (a b : Expression) (left right here : Statement) (k s t : ℕ) → partials a ≤ s → partials b ≤ t → code_partials left ≤ s → code_partials right ≤ t → code_partials here ≤ t
    → code_partials (connected kd op u p q a b left right here k) ≤ 1 + s + t
connected_ops Conjunction op u p q a b left right here k s t ea eb el er eh =
    let right_part = used_ops q b here k 0 t (λ y. Set k (truth_of y)) eb eh (λ x. let h = truth_ops x in omega arith) in
    let whole = used_ops p a left k (code_partials (used q b here k (λ y. Set k (truth_of y)))) s (λ x. branch x (used q b here k (λ y. Set k (truth_of y))) (Set k (Constant 0))) ea el (λ x. let h = branch_ops x (used q b here k (λ y. Set k (truth_of y))) (Set k (Constant 0)) in omega arith) in
    omega arith
connected_ops Disjunction op u p q a b left right here k s t ea eb el er eh =
    let right_part = used_ops q b here k 0 t (λ y. Set k (truth_of y)) eb eh (λ x. let h = truth_ops x in omega arith) in
    let whole = used_ops p a left k (code_partials (used q b here k (λ y. Set k (truth_of y)))) s (λ x. branch x (Set k (Constant 1)) (used q b here k (λ y. Set k (truth_of y)))) ea el (λ x. let h = branch_ops x (Set k (Constant 1)) (used q b here k (λ y. Set k (truth_of y))) in omega arith) in
    omega arith
connected_ops Strict op u p q a b left right here k s t ea eb el er eh = by (p && q)
  where
    by : (both : Bool) → code_partials (if both then Set k (binary_of op u a b) else Sequence left (used q b right (suc k) (λ y. Set k (binary_of op u (Local k) y)))) ≤ 1 + s + t
    by true = let z = binary_ops op u a b in omega arith
    by false =
        let part = used_ops q b right (suc k) 1 t (λ y. Set k (binary_of op u (Local k) y)) eb er (λ x. let z = binary_ops op u (Local k) x in omega arith) in
        omega arith

module _ (g : Layout) where
  mutual
    put_ops : (e : Expr) (v : Environment) (k : ℕ) → code_partials (put_expr g v k e) ≤ tokens e
    put_ops (Number t n) v k = omega arith
    put_ops (Variable x) v k = let a = read_ops (number_in v.locals x.text) (object_of g x.text) in omega arith
    put_ops (Element x e) v k =
        let a = plain_ops g v e in
        let b = used_ops (is_plain e) (plain g v e) (put_expr g v k e) k 1 (tokens e) (λ i. Set k (Load (width_of g x.text) (object_of g x.text) i)) a (put_ops e v k) (λ x. omega arith) in
        omega arith
    put_ops (tree.Call f es) v k =
        let a = all_plain_ops g v es in
        let b = put_all_ops es v k in
        let c = sequence_ops (put_all g v k es) in
        let d = called_ops (are_plain es) (all_plain g v es) (in_sequence (put_all g v k es)) k (count es) (tokens_all es) (callee g f.text) a (omega arith) in omega arith
    put_ops (Parenthesised e) v k = let a = put_ops e v k in omega arith
    put_ops (tree.Unary op e) v k =
        let a = plain_ops g v e in
        let b = used_ops (is_plain e) (plain g v e) (put_expr g v k e) k 0 (tokens e) (λ a. Set k (unary_of op a)) a (put_ops e v k) (λ x. let z = unary_ops op x in omega arith) in
        omega arith
    put_ops (Cast t e) v k = let a = put_ops e v k in omega arith
    put_ops (tree.Binary op a b) v k =
        let z = connected_ops (kind op) op (working_type op (value_type (types_in v) a) (value_type (types_in v) b)) (is_plain a) (is_plain b) (plain g v a) (plain g v b) (put_expr g v k a) (put_expr g v (suc k) b) (put_expr g v k b) k (tokens a) (tokens b)
        (plain_ops g v a) (plain_ops g v b) (put_ops a v k) (put_ops b v (suc k)) (put_ops b v k) in omega arith
    put_ops (Conditional c a b) v k =
        let x = put_ops a v k in
        let y = put_ops b v k in
        let z = used_ops (is_plain c) (plain g v c) (put_expr g v k c) k (code_partials (put_expr g v k a) + code_partials (put_expr g v k b)) (tokens c) (λ x. branch x (put_expr g v k a) (put_expr g v k b)) (plain_ops g v c) (put_ops c v k) (λ x. branch_ops x (put_expr g v k a) (put_expr g v k b)) in
        omega arith

    put_all_ops : (es : Exprs) (v : Environment) (k : ℕ) → total (put_all g v k es) ≤ tokens_all es
    put_all_ops none v k = omega arith
    put_all_ops (more e rest) v k = let a = put_ops e v k in let b = put_all_ops rest v (suc k) in omega arith

  using_ops : (e : Expr) (v : Environment) (k m : ℕ) (f : Expression → Statement) → ((x : Expression) → code_partials (f x) ≤ partials x + m) → code_partials (using g v k e f) ≤ tokens e + m
  using_ops e v k m f h = used_ops (is_plain e) (plain g v e) (put_expr g v k e) k m (tokens e) f (plain_ops g v e) (put_ops e v k) h

  using_or_ops : (e : Option Expr) (v : Environment) (k w m : ℕ) (f : Expression → Statement) → ((x : Expression) → code_partials (f x) ≤ partials x + m) → code_partials (using_or g v k w e f) ≤ tokens_or e + m
  using_or_ops None v k w m f h = let a = h (Constant w) in omega arith
  using_or_ops (Some e) v k w m f h = using_ops e v k m f h

  combined_ops : (op : Option BinaryOperator) (t u : Scalar) (old e : Expression) → partials (combined op t u old e) ≤ partials old + partials e + 1
  combined_ops None t u old e = omega arith
  combined_ops (Some op) t u old e = binary_ops op (working_type op t u) old e

  assigned_ops : (target : Target) (op : Option BinaryOperator) (u : Scalar) (v : Environment) (code : ℕ → (Expression → Statement) → Statement) (r : ℕ) → ((k m : ℕ) (f : Expression → Statement) → ((x : Expression) → code_partials (f x) ≤ partials x + m) → code_partials (code k f) ≤ r + m)
      → code_partials (assigned g v target (λ t old new. combined op t u old new) code) ≤ target_tokens target + r + 2
  assigned_ops (AtVariable x) op u v code r h =
      let t : Scalar = target_type (types_in v) (AtVariable x) in
      let a = read_ops (number_in v.locals x.text) (object_of g x.text) in
      let b = h (free v) 3 (λ e. variable_set g v x.text (combined op t u (variable_of g v x.text) e))
      (λ y. let c = combined_ops op t u (variable_of g v x.text) y in let d = write_ops (number_in v.locals x.text) (object_of g x.text) (combined op t u (variable_of g v x.text) y) in omega arith) in
      omega arith
  assigned_ops (AtElement x i) op u v code r h =
      let t : Scalar = target_type (types_in v) (AtElement x i) in
      let o : ℕ = object_of g x.text in
      let a = put_ops i v (free v) in
      let b = h (suc (free v)) 3 (λ e. Store (width_of g x.text) o (Local (free v)) (combined op t u (Load (width_of g x.text) o (Local (free v))) e))
      (λ y. let c = combined_ops op t u (Load (width_of g x.text) o (Local (free v))) y in omega arith) in
      omega arith

  performed_ops : (a : Action) (v : Environment) → code_partials (performed g v a) ≤ action_tokens a + 1
  performed_ops (Assign op target e) v =
      let a = assigned_ops target (applied_operator op) (value_type (types_in v) e) v (λ k f. using g v k e f) (tokens e) (λ k m f h. using_ops e v k m f h) in omega arith
  performed_ops (Step op target) v =
      let a = assigned_ops target (applied_operator (step_operator op)) Int v (λ k f. f (Constant 1)) 0 (λ k m f h. let b = h (Constant 1) in omega arith) in omega arith
  performed_ops (Evaluate e) v = let a = put_ops e v (free v) in omega arith

  optional_ops : (a : Option Action) (v : Environment) → code_partials (performed_optional g v a) ≤ optional_tokens a + 1
  optional_ops None v = omega arith
  optional_ops (Some a) v = performed_ops a v

  initialised_ops : (e : Option Expr) (v : Environment) (i : ℕ) → total (initialised g v i e) ≤ tokens_or e
  initialised_ops None v i = omega arith
  initialised_ops (Some e) v i = let a = using_ops e v (suc i) 0 (λ x. Set i x) (λ x. omega arith) in omega arith

  declared_ops : (t : Scalar) (ds : List Declarator) (v : Environment) → total (declared_code g t ds v) ≤ declared_tokens ds
  declared_ops t [] v = omega arith
  declared_ops t (d ∷ rest) v =
      let a = initialised_ops d.initial (with_local t d.name.text v) (free v) in
      let b = declared_ops t rest (with_local t d.name.text v) in
      let c = total_append (initialised g (with_local t d.name.text v) (free v) d.initial) (declared_code g t rest (with_local t d.name.text v)) in omega arith

  started_ops : (first : Beginning) (v : Environment) → code_partials (started g first v) ≤ beginning_tokens first + 1
  started_ops (Declares t ds) v = let a = declared_ops t ds v in let b = sequence_ops (declared_code g t ds v) in omega arith
  started_ops (Performs a) v = optional_ops a v

  leaving_ops : (b : Bool) (i : ℕ) → code_partials (leaving b i) ≤ 0
  leaving_ops true i = omega arith
  leaving_ops false i = omega arith

  mutual
    lowered_ops : (st : Stmt) (b : Bool) (v : Environment) → code_partials (lowered g b v st) ≤ statement_tokens st
    lowered_ops (tree.Block all) b v = let a = all_lowered_ops all b (inner v) in let c = sequence_ops (all_lowered g b (inner v) all) in omega arith
    lowered_ops (tree.Local t ds) b v = let a = declared_ops t ds v in let c = sequence_ops (declared_code g t ds v) in omega arith
    lowered_ops (Perform a) b v = let c = optional_ops a v in omega arith
    lowered_ops (tree.Return at e) b v = let a = using_or_ops e v (free v) 0 0 (λ x. Return x) (λ x. omega arith) in omega arith
    lowered_ops (Break at) b v = let a = leaving_ops b 1 in omega arith
    lowered_ops (Continue at) b v = let a = leaving_ops b 0 in omega arith
    lowered_ops (tree.If c a) b v =
        let x = lowered_ops a b (inner v) in
        let y = using_ops c v (free v) (code_partials (lowered g b (inner v) a)) (λ x. branch x (lowered g b (inner v) a) Skip) (λ x. let h = branch_ops x (lowered g b (inner v) a) Skip in omega arith) in omega arith
    lowered_ops (IfElse c a e) b v =
        let x = lowered_ops a b (inner v) in
        let z = lowered_ops e b (inner v) in
        let y = using_ops c v (free v) (code_partials (lowered g b (inner v) a) + code_partials (lowered g b (inner v) e)) (λ x. branch x (lowered g b (inner v) a) (lowered g b (inner v) e)) (λ x. branch_ops x (lowered g b (inner v) a) (lowered g b (inner v) e)) in omega arith
    lowered_ops (While c body) b v =
        let A : Statement = lowered g true (inner v) body in
        let x = lowered_ops body true (inner v) in
        let y = using_ops c v (free v) (code_partials A) (λ x. branch x (Sequence (Block A) Skip) (Exit 0)) (λ x. let h = branch_ops x (Sequence (Block A) Skip) (Exit 0) in omega arith) in omega arith
    lowered_ops (DoWhile body c) b v =
        let x = lowered_ops body true (inner v) in
        let y = using_ops c v (free v) 0 (λ x. branch x Skip (Exit 0)) (λ x. let h = branch_ops x Skip (Exit 0) in omega arith) in omega arith
    lowered_ops (For first c a body) b v =
        let w : Environment = behind_beginning first (inner v) in
        let A : Statement = lowered g true (inner w) body in
        let X : Statement = performed_optional g w a in
        let p = started_ops first (inner v) in
        let q = optional_ops a w in
        let x = lowered_ops body true (inner w) in
        let y = using_or_ops c w (free w) 1 (code_partials A + code_partials X) (λ x. branch x (Sequence (Block A) X) (Exit 0)) (λ x. let h = branch_ops x (Sequence (Block A) X) (Exit 0) in omega arith) in omega arith

    all_lowered_ops : (ss : Stmts) (b : Bool) (v : Environment) → total (all_lowered g b v ss) ≤ statements_tokens ss
    all_lowered_ops end b v = omega arith
    all_lowered_ops (next first rest) b v = let x = lowered_ops first b v in let y = all_lowered_ops rest b (behind first v) in omega arith

  pub body_ops : (v : Environment) (body : Stmts) → code_partials (body_code g v body) ≤ statements_tokens body
  body_ops v body = let a = all_lowered_ops body false v in let c = sequence_ops (all_lowered g false v body) in omega arith
