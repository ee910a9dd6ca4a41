-- The name is a tag if it is one of those that are left.
use Rattle.std.proofs.Common.{◌≡◌, drop, map}
use Rattle.cc_wide_text.specs.Names.{is_tag}
use Rattle.cc_wide_text.specs.internal.Views.{tag}
use Rattle.cc_wide_text.proofs.names.Tag.is_tag.Given as goal

abbrev pub invariant-loop-one : goal.invariant-loop-one
invariant-loop-one l = is_tag (map tag (drop l.one-index l.all)) l.name ≡ is_tag (map tag l.all) l.name
