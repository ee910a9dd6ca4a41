use Rattle.std.proofs.Common.{◌≡◌, ◌++◌, length, drop}
use Rattle.std.specs.Prelude.{slice_index}
use Rattle.cc_link.specs.Link.{fill_all, encoded}
use Rattle.cc_link.specs.internal.Filling.{lent, CanAllStand}
use Rattle.cc_link.proofs.words.add_functions.Given as goal

-- the words so far, followed by those of the functions that are left, are all the words; these functions can
-- be at their places
abbrev pub invariant-loop-items : goal.invariant-loop-items
invariant-loop-items l = record {
  stand : CanAllStand (length l.places) l.place (lent (drop l.items-index l.bodies));
  words : l.words.items ++ encoded (fill_all (λ f. slice_index l.places f) l.place (lent (drop l.items-index l.bodies))) ≡ l.fn.words.items ++ encoded (fill_all (λ f. slice_index l.places f) 65548 (lent l.bodies));
}
