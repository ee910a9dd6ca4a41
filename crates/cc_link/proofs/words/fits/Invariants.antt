use Rattle.std.proofs.Common.{◌≡◌, ◌+◌, ◌≤◌, drop}
use Rattle.cc_link.specs.Link.{size_of}
use Rattle.cc_link.specs.internal.Filling.{lent}
use Rattle.cc_link.proofs.words.fits.Given as goal

-- all functions fit exactly if those that are left fit in the room that is left
abbrev pub invariant-loop-items : goal.invariant-loop-items
invariant-loop-items l = record {
  few : l.room ≤ 131069;
  left : size_of (lent l.bodies) + l.room ≡ size_of (lent (drop l.items-index l.bodies)) + 131069;
}
