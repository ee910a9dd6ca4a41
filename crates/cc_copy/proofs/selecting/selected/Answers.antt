-- The names that are taken are those of the texts.
use Rattle.std.proofs.Common.{List, ℕ, ◌∙◌, subst}
use Rattle.cc_copy.specs.Selected.{AreOf}
use Rattle.cc_copy.proofs.selecting.selected.Goals as goal

pub returns-in-Ok-selection-clause-selected : goal.returns-in-Ok-selection-clause-selected
returns-in-Ok-selection-clause-selected g c =
    let units = c.in-Ok-taken.units in
    (units, subst (λ (names : List (List ℕ)). AreOf c.args.units.now names units) (c.as_slice.ensures.value ∙ c.in-Ok.ensures.names) c.in-Ok-taken.ensures.taken, c.in-Ok-selection.ensures)
