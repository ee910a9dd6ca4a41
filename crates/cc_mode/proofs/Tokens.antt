-- The definition of a function whose code is too large is long. Checked code of t tokens has at most 12 t statements and
-- expressions, and t operations that can lack a value, each with eleven nodes more. With the loop at the end, that is at most 23
-- t + 4 of the 4,096 nodes.
use Rattle.std.proofs.Common.{ℕ, ◌<◌, ◌≤◌, List, [], ◌∷◌, length, Option, Some, None, arith}
use Rattle.std.proofs.lemmas.Bool.Decides.{nat_tests}
use Rattle.cc_ast.specs.Tree.{External}
use Rattle.cc_c_semantics.specs.declared.mode.Mode.TheVariants.{Plain, Checked}
use Rattle.cc_simulation.specs.World.{Size}
use Rattle.cc_cminor_language.specs.Cminor.{Expression, Constant, Local, Unary, Binary, Load, Statement, Skip, Set, Store, Call, Read, Write, Sequence, If, Loop, Block, Exit, Return}
use Rattle.cc_cminor_language.specs.Numbers.{ExpressionBelow, ExpressionsBelow, ResultBelow, StatementBelow}
use Rattle.cc_cminor_language.specs.Size.{AtMostTwelveAToken, AtMostOnePartialAToken}
use Rattle.cc_cminor_language.specs.Variables.{above, above_result, above_expression, above_expressions, above_statement}
use Rattle.cc_guard.specs.Guard.{guarded_function, variables_in}
use Rattle.cc_guard.specs.Held.{IsHeld}
use Rattle.cc_guard.specs.Laws.{GuardsSetFew}
use Rattle.cc_rtl.specs.Size.{function_nodes}
use Rattle.cc_rtl.proofs.Sizes.{nodes_few}
use Rattle.cc_mode.specs.Long.{IsLongIn}
use Rattle.cc_mode.proofs.GuardedNodes.{guarded_nodes}
use Rattle.cc_mode.proofs.HeldNodes.{held_nodes}

-- ---- variables below a number are that many

module _ (m : ℕ) where
  above_low : (count x : ℕ) → count ≤ m → x < m → above count x ≤ m
  above_low count x le lt = grind (arith, nat_tests)

  result_low : (to : Option ℕ) (count : ℕ) → count ≤ m → ResultBelow m to → above_result count to ≤ m
  result_low None count le b = le
  result_low (Some x) count le b = above_low count x le b

  expression_low : (e : Expression) (count : ℕ) → count ≤ m → ExpressionBelow m e → above_expression count e ≤ m
  expression_low (Constant w) count le b = le
  expression_low (Local x) count le b = above_low count x le b
  expression_low (Unary op e) count le b = expression_low e count le b
  expression_low (Binary op d e) count le b = expression_low e (above_expression count d) (expression_low d count le b.0) b.1
  expression_low (Load w o e) count le b = expression_low e count le b.1

  expressions_low : (es : List Expression) (count : ℕ) → count ≤ m → ExpressionsBelow m es → above_expressions count es ≤ m
  expressions_low [] count le b = le
  expressions_low (e ∷ es) count le b = expressions_low es (above_expression count e) (expression_low e count le b.0) b.1

  statement_low : (s : Statement) (count : ℕ) → count ≤ m → StatementBelow m s → above_statement count s ≤ m
  statement_low Skip count le b = le
  statement_low (Set x e) count le b = expression_low e (above count x) (above_low count x le b.0) b.1
  statement_low (Store w o i e) count le b = expression_low e (above_expression count i) (expression_low i count le b.1) b.2
  statement_low (Call to f es) count le b = expressions_low es (above_result count to) (result_low to count le b.0) b.2
  statement_low (Read to) count le b = result_low to count le b
  statement_low (Write e) count le b = expression_low e count le b
  statement_low (Sequence s t) count le b = statement_low t (above_statement count s) (statement_low s count le b.0) b.1
  statement_low (If e s t) count le b = statement_low t (above_statement (above_expression count e) s) (statement_low s (above_expression count e) (expression_low e count le b.0) b.1) b.2
  statement_low (Loop s) count le b = statement_low s count le b
  statement_low (Block s) count le b = statement_low s count le b
  statement_low (Exit k) count le b = le
  statement_low (Return e) count le b = expression_low e count le b

-- ---- more than 256 tokens, or 177

pub plain_long : (unit : List External) (f : ℕ) (s : Statement) → AtMostTwelveAToken unit f s → 4096 < function_nodes s → IsLongIn Plain unit f
plain_long unit f s small large definition at tokens spelled =
    let a = nodes_few s in
    let b = small definition at tokens spelled in
    omega arith

module _ (unit : List External) (f : ℕ) (s : Statement) (objects : List Size) (few : AtMostOnePartialAToken unit f s) where
  pub nodes_long : AtMostTwelveAToken unit f s → (n : ℕ) (t : Statement) → IsHeld (guarded_function objects n s) t → 4096 < function_nodes t → IsLongIn Checked unit f
  nodes_long small n t held large definition at tokens spelled =
      let a = guarded_nodes objects n (length tokens) s (small definition at tokens spelled) (few definition at tokens spelled) in
      let b = held_nodes (guarded_function objects n s) t held in
      omega arith

  pub variables_long : GuardsSetFew → StatementBelow 1024 s → 2048 < variables_in objects (above_statement 0 s) s → IsLongIn Checked unit f
  variables_long law below large definition at tokens spelled =
      let a = law objects (above_statement 0 s) s in
      let b = statement_low 1024 s 0 (omega arith) below in
      let c = few definition at tokens spelled in
      omega arith
