-- The number of the name is that among the names that are left.
use Rattle.std.proofs.Common.{◌≡◌, drop, map}
use Rattle.cc_wide_text.specs.Numbers.{word_of}
use Rattle.cc_wide_text.specs.internal.Views.{number}
use Rattle.cc_wide_text.proofs.numbers.Numbered.find.Given as goal

abbrev pub invariant-loop-one : goal.invariant-loop-one
invariant-loop-one l = word_of (map number (drop l.one-index l.all)) l.name ≡ word_of (map number l.all) l.name
