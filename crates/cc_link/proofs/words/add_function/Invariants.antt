use Rattle.std.proofs.Common.{◌≡◌, ◌+◌, ◌*◌, ◌++◌, drop}
use Rattle.std.specs.Prelude.{slice_index}
use Rattle.cc_link.specs.Link.{fill, encoded}
use Rattle.cc_link.proofs.words.add_function.Given as goal

-- the words so far, followed by those of the items that are left, are all the words
abbrev pub invariant-loop-item : goal.invariant-loop-item
invariant-loop-item l = record {
  at : l.at ≡ l.place + 4 * l.item-index;
  words : l.words.items ++ encoded (fill (λ f. slice_index l.places f) l.place l.at (drop l.item-index l.items)) ≡ l.fn.words.items ++ encoded (fill (λ f. slice_index l.places f) l.place l.place l.items);
}
