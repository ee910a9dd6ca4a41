-- The numbers of all enumerators are those so far, and those of the enumerators that are left.
use Rattle.std.proofs.Common.{List, [], drop, map}
use Rattle.cc_wide_text.specs.Numbers.{Number, AreNumbers}
use Rattle.cc_wide_text.specs.internal.Views.{enumerator, number}
use Rattle.cc_wide_text.proofs.numbers.numbers_of.Given as goal

abbrev pub invariant-loop-one : goal.invariant-loop-one
invariant-loop-one l =
    (all : List Number) →
    (AreNumbers (map number l.numbers.items) (map enumerator (drop l.one-index l.enumerators)) all → AreNumbers [] (map enumerator l.enumerators) all)
    × (AreNumbers [] (map enumerator l.enumerators) all → AreNumbers (map number l.numbers.items) (map enumerator (drop l.one-index l.enumerators)) all)
