-- The lines so far are those of the names so far.
use Rattle.std.proofs.Common.{◌≡◌, take}
use Rattle.std.specs.List.{flat_map}
use Rattle.std.specs.FinMap as map
use Rattle.cc_diff.specs.Diff.{lines_of}
use Rattle.cc_diff.proofs.maps.diff_maps.Given as goal

abbrev pub invariant-loop-name : goal.invariant-loop-name
invariant-loop-name l = l.lines.items ≡ flat_map (λ name. lines_of name (map.get l.left name) (map.get l.right name)) (take l.name-index l.name-items)
