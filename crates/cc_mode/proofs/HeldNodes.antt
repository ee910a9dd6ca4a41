-- Words that are held in variables cost at most one node each.
use Rattle.std.proofs.Common.{◌≡◌, ◌==◌, ℕ, suc, ◌+◌, ◌≤◌, Bool, true, false, List, [], ◌∷◌, length, inl, inr, sym, ap, subst, arith}
use Rattle.std.specs.Prelude.{if◌then◌else◌}
use Rattle.cc_cminor_language.specs.Cminor.{Expression, Constant, Local, Unary, Binary, Load, Statement, Skip, Set, Store, Call, Read, Write, Sequence, If, Loop, Block, Exit, Return}
use Rattle.cc_cminor_language.specs.Variables.{above_statement}
use Rattle.cc_rtl.specs.Size.{operand_nodes, statement_nodes, function_nodes}
use Rattle.cc_guard.specs.Held.{held_word, held_operand, held_test, held_in, put_first, with_words, Holding, IsHeld}

word_nodes : (ws : List ℕ) (m w : ℕ) → operand_nodes (held_word ws m w) ≤ 1
word_nodes [] m w = omega arith
word_nodes (v ∷ vs) m w = by (v == w) (word_nodes vs (suc m) w)
  where
    by : (b : Bool) → operand_nodes (held_word vs (suc m) w) ≤ 1 → operand_nodes (if b then Local m else held_word vs (suc m) w) ≤ 1
    by true rest = omega arith
    by false rest = rest

module _ (ws : List ℕ) (m : ℕ) where
  held_operand_nodes : (e : Expression) → operand_nodes (held_operand ws m e) ≤ operand_nodes e
  held_operand_nodes (Constant w) = word_nodes ws m w
  held_operand_nodes (Local x) = omega arith
  held_operand_nodes (Unary op e) = omega arith
  held_operand_nodes (Binary op a b) = omega arith
  held_operand_nodes (Load w o i) = omega arith

  held_test_nodes : (e : Expression) → operand_nodes (held_test ws m e) ≤ operand_nodes e
  held_test_nodes (Constant w) = omega arith
  held_test_nodes (Local x) = omega arith
  held_test_nodes (Unary op e) = omega arith
  held_test_nodes (Binary op a b) = let x = held_operand_nodes a in let y = held_operand_nodes b in omega arith
  held_test_nodes (Load w o i) = omega arith

  held_in_nodes : (s : Statement) → statement_nodes (held_in ws m s) ≤ statement_nodes s
  held_in_nodes Skip = omega arith
  held_in_nodes (Set x e) = omega arith
  held_in_nodes (Store w o i e) = omega arith
  held_in_nodes (Call to f es) = omega arith
  held_in_nodes (Read to) = omega arith
  held_in_nodes (Write e) = omega arith
  held_in_nodes (Sequence s t) = let x = held_in_nodes s in let y = held_in_nodes t in omega arith
  held_in_nodes (If e s t) = let z = held_test_nodes e in let x = held_in_nodes s in let y = held_in_nodes t in omega arith
  held_in_nodes (Loop s) = let x = held_in_nodes s in omega arith
  held_in_nodes (Block s) = held_in_nodes s
  held_in_nodes (Exit k) = omega arith
  held_in_nodes (Return e) = omega arith

first_nodes : (ws : List ℕ) (m : ℕ) (s : Statement) → statement_nodes (put_first ws m s) ≤ length ws + statement_nodes s
first_nodes [] m s = omega arith
first_nodes (w ∷ ws) m s = let x = first_nodes ws (suc m) s in omega arith

holding_nodes : (s t : Statement) → Holding s t → function_nodes t ≤ function_nodes s + 8
holding_nodes s t p =
    let m = above_statement 0 s in
    let x = first_nodes p.words m (held_in p.words m s) in
    let y = held_in_nodes p.words m s in
    let few = p.few in
    let is : function_nodes t ≡ function_nodes (with_words p.words m s) = ap function_nodes p.is in
    omega arith

pub held_nodes : (s t : Statement) → IsHeld s t → function_nodes t ≤ function_nodes s + 8
held_nodes s t (inl e) = let is : function_nodes t ≡ function_nodes s = ap function_nodes e in omega arith
held_nodes s t (inr p) = holding_nodes s t p
