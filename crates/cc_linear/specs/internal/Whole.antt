-- What is made from a function: its blocks in some order, without the labels to which nothing leads.
use Rattle.std.specs.Prelude.{◌≡◌, ℕ, List}
use Rattle.cc_ltl.specs.Ltl.{Ltl}
use Rattle.cc_linear_language.specs.declared.item.LinearItem.{LinearItem}
use Rattle.cc_linear.specs.Targets.{targets}
use Rattle.cc_linear.specs.internal.Layout.{AreEnds, IsOrder, linear_code}
use Rattle.cc_linear.specs.internal.Idle.{kept}

pub record IsMadeOf (ltl : Ltl) (items : List LinearItem) : Type 0 where
  pub end : ℕ → ℕ
  pub far : ℕ → ℕ
  pub most : ℕ
  pub order : List ℕ
  pub ends : AreEnds ltl end far most
  pub ordered : IsOrder ltl end order
  pub made : items ≡ kept (targets (linear_code ltl end order)) (linear_code ltl end order)
