use Rattle.std.proofs.Common.{arith, drop, length-drop}
use Rattle.std.proofs.lemmas.List.{take_rest}
use Rattle.cc_tokens.proofs.Loops.{close_fits}
use Rattle.cc_tokens.proofs.scan.comment_head.Goals as goal

pub comment_of-requires : goal.comment_of-requires
comment_of-requires c =
    let body = drop 2 c.args.bytes.now in
    let n = c.offset_within-n.result in
    omega (arith, close_fits (drop n body) (rw (take_rest c.args.bytes.now 2) at (c.offset_within-n.ensures.here (omega arith))), length-drop n body, length-drop 2 c.args.bytes.now)
