use Rattle.std.proofs.Common.{◌++◌, take}
use Rattle.std.specs.Prelude.{codes}
use Rattle.std.specs.List.{flat_map}
use Rattle.std.specs.Fmt.{HasWritten, IsPlainFormatter, decimal}
use Rattle.cc_ltl.specs.declared.operation.Move.{Move}
use Rattle.cc_ltl.specs.Listing.{move_text, operation_text}
use Rattle.cc_ltl.proofs.listing.BlockDisplay.fmt.Given as goal

abbrev pub invariant-loop-before : goal.invariant-loop-before
invariant-loop-before g l =
    IsPlainFormatter l.fn.f → HasWritten g.W.Write.write_str_gives l.fn.f
    (decimal l.self.label ++ codes ": " ++ flat_map (λ (m : Move). move_text m ++ codes "; ") (take l.before-index l.self.before)) l.f

abbrev pub invariant-loop-after : goal.invariant-loop-after
invariant-loop-after g l =
    IsPlainFormatter l.fn.f → HasWritten g.W.Write.write_str_gives l.fn.f
    (decimal l.self.label ++ codes ": " ++ flat_map (λ (m : Move). move_text m ++ codes "; ") l.self.before ++ operation_text l.self.operation ++ flat_map (λ (m : Move). codes "; " ++ move_text m) (take l.after-index l.self.after)) l.f
