-- The name's meaning is that among the names that are left.
use Rattle.std.proofs.Common.{◌≡◌, drop, map}
use Rattle.cc_wide_text.specs.Macros.{meaning_of}
use Rattle.cc_wide_text.specs.internal.Views.{meaning}
use Rattle.cc_wide_text.proofs.macros.Macro.body_of.Given as goal

abbrev pub invariant-loop-known : goal.invariant-loop-known
invariant-loop-known l = meaning_of (map meaning (drop l.known-index l.macros)) l.name ≡ meaning_of (map meaning l.macros) l.name
