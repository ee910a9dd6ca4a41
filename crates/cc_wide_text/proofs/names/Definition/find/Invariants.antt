-- The type of the name is that among the names that are left.
use Rattle.std.proofs.Common.{◌≡◌, drop, map}
use Rattle.cc_wide_text.specs.Names.{type_of}
use Rattle.cc_wide_text.specs.internal.Views.{known}
use Rattle.cc_wide_text.proofs.names.Definition.find.Given as goal

abbrev pub invariant-loop-one : goal.invariant-loop-one
invariant-loop-one l = type_of (map known (drop l.one-index l.all)) l.name ≡ type_of (map known l.all) l.name
