-- The set holds what was live after the node, without the node's result, and what the node reads.
use Rattle.std.proofs.Common.{◌∙◌, ap, sym, ◌||◌, ◌&&◌, not, ℕ, List}
use Rattle.cc_rtl_language.specs.Code.{node_of}
use Rattle.cc_rtl_language.specs.Live.{reads, result, among}
use Rattle.cc_bits.specs.Rows.{holds}
use Rattle.cc_live.specs.internal.Facts.{is_result}
use Rattle.cc_live.specs.internal.Holding.{live_before_made}
use Rattle.cc_live.proofs.transfer.live_before.Goals as goal

pub returns : goal.returns
returns c r =
    let n = node_of c.args.node.now in
    live_before_made c.args.strong n c.args.behind.now r (holds c.add_reads.new.before r) (sym c.is_left_out.ensures ∙ c.if-is_left_out.false)
    (c.in_ok-add_reads.ensures r ∙ ap (λ b. among (reads n) r || b) (c.drop_result.ensures r ∙ ap (λ (x : List ℕ). holds x r && not (is_result (result n) r)) c.in_ok-before.ensures))
