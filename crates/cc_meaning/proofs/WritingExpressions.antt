-- Instructions that are written before others.
use Rattle.std.proofs.Common.{◌≡◌, ℕ, ◌+◌, ◌-◌, ◌≤◌, List, [], ◌∷◌, ◌++◌, length, set, refl, sym, ap, ◌∙◌, append_assoc, length-append, arith}
use Rattle.std.proofs.lemmas.List.{set-append_right}
use Rattle.cc_ast.specs.declared.ast.BinaryOperator.{BinaryOperator}
use Rattle.cc_ast.specs.declared.ast.BinaryOperator.TheVariants as source
use Rattle.cc_ast.specs.Tree as tree
use Rattle.cc_ast.specs.Tree.{Name, Expr, Exprs}
use Rattle.cc_layout.specs.Environment.{Environment}
use Rattle.cc_meaning.specs.internal.Form.{call_of, joined, expression_code, arguments_code}
use Rattle.cc_meaning.specs.internal.Emitted.{short_cut, some_code, operated}
use Rattle.cc_resolve.specs.declared.operations.BinaryOperation.{BinaryOperation}
use Rattle.cc_meaning.specs.declared.form.Instruction.{Instruction}
use Rattle.cc_meaning.specs.declared.form.Instruction.TheVariants.{Binary, Truth, AndThen, OrElse}

-- two parts, each written before what was there, precede the old instructions in order
pub behind : {A : Type 0} (xs ys old mid new : List A) → new ≡ xs ++ mid → mid ≡ ys ++ old → new ≡ (xs ++ ys) ++ old
behind xs ys old mid new en em = en ∙ ap (λ l. xs ++ l) em ∙ sym (append_assoc xs ys old)

-- the item that is followed by n others can be replaced
pub set_behind : {A : Type 0} (xs old new : List A) (x y : A) (n : ℕ) → new ≡ xs ++ x ∷ old → n ≡ length old → set new (length new - (n + 1)) y ≡ xs ++ y ∷ old
set_behind xs old new x y n e en =
    let long : length new ≡ length xs + length (x ∷ old) = ap length e ∙ length-append xs (x ∷ old) in
    let at : length new - (n + 1) ≡ length xs = omega (arith, long, en) in
    let le : length xs ≤ length xs = omega arith in
    let none : length xs - length xs ≡ 0 = omega arith in
    ap (λ i. set new i y) at ∙ ap (λ l. set l (length xs) y) e ∙ set-append_right xs (x ∷ old) (length xs) (length xs) y refl le ∙ ap (λ i. xs ++ set (x ∷ old) i y) none

-- the instructions of the arguments, followed by the instruction of the call, are the code of the call
pub call-code : (v : Environment) (f : Name) (es : Exprs) (e : Expr) (old mid new : List Instruction) → e ≡ tree.Call f es → mid ≡ call_of v f.text ∷ old → new ≡ arguments_code v es ++ mid
    → new ≡ expression_code v e ++ old
call-code v f es e old mid new ee em en = behind (arguments_code v es) (call_of v f.text ∷ []) old mid new en em ∙ sym (ap (λ t. expression_code v t ++ old) ee)

module _ (op : BinaryOperation) (left right old second cut first new : List Instruction) (n : ℕ) (en : n ≡ length old) (e2 : second ≡ right ++ Truth ∷ old) (e4 : first ≡ left ++ cut) where
  -- the instructions of both operands are right for an operator that has a short cut
  with_cut : (jump : ℕ → Instruction) → cut ≡ jump (length second - n) ∷ second → new ≡ first → new ≡ (left ++ jump (length right + 1) ∷ right ++ Truth ∷ []) ++ old
  with_cut jump e3 e5 =
      let long : length second ≡ length right + length (Truth ∷ old) = ap length e2 ∙ length-append right (Truth ∷ old) in
      let distance : length second - n ≡ length right + 1 = omega (arith, long, en) in
      let mid : cut ≡ (jump (length right + 1) ∷ right) ++ Truth ∷ old = e3 ∙ ap (λ k. jump k ∷ second) distance ∙ ap (λ l. jump (length right + 1) ∷ l) e2 in
      behind (left ++ jump (length right + 1) ∷ right) (Truth ∷ []) old (Truth ∷ old) new (behind left (jump (length right + 1) ∷ right) (Truth ∷ old) cut new (e5 ∙ e4) mid) refl

  -- the instructions of both operands are right for an operator without a short cut
  without_cut : cut ≡ second → new ≡ set first (length first - (n + 1)) (Binary op) → new ≡ (left ++ right ++ Binary op ∷ []) ++ old
  without_cut e3 e5 =
      let stands : first ≡ (left ++ right) ++ Truth ∷ old = behind left right (Truth ∷ old) cut first e4 (e3 ∙ e2) in
      e5 ∙ set_behind (left ++ right) old first Truth (Binary op) n stands en ∙ sym (append_assoc (left ++ right) (Binary op ∷ []) old)

  pub joined-code : (o : BinaryOperator) → cut ≡ some_code (short_cut o (length second - n)) ++ second → new ≡ operated (short_cut o 0) op n first → new ≡ joined o op left right ++ old
  joined-code source.Multiply e3 e5 = without_cut e3 e5
  joined-code source.Divide e3 e5 = without_cut e3 e5
  joined-code source.Remainder e3 e5 = without_cut e3 e5
  joined-code source.Add e3 e5 = without_cut e3 e5
  joined-code source.Subtract e3 e5 = without_cut e3 e5
  joined-code source.ShiftLeft e3 e5 = without_cut e3 e5
  joined-code source.ShiftRight e3 e5 = without_cut e3 e5
  joined-code source.Less e3 e5 = without_cut e3 e5
  joined-code source.Greater e3 e5 = without_cut e3 e5
  joined-code source.LessOrEqual e3 e5 = without_cut e3 e5
  joined-code source.GreaterOrEqual e3 e5 = without_cut e3 e5
  joined-code source.Equal e3 e5 = without_cut e3 e5
  joined-code source.NotEqual e3 e5 = without_cut e3 e5
  joined-code source.And e3 e5 = without_cut e3 e5
  joined-code source.Xor e3 e5 = without_cut e3 e5
  joined-code source.Or e3 e5 = without_cut e3 e5
  joined-code source.LogicalAnd e3 e5 = with_cut AndThen e3 e5
  joined-code source.LogicalOr e3 e5 = with_cut OrElse e3 e5
