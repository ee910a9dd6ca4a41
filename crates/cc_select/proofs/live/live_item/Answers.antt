use Rattle.std.proofs.Common.{sym, ap, ◌∙◌}
use Rattle.cc_select.specs.Live.{live_item}
use Rattle.cc_select.specs.internal.Sets.{holds, table_of}
use Rattle.cc_select.proofs.live.live_item.Goals as goal

pub returns-in-Return : goal.returns-in-Return
returns-in-Return c = c.result.ensures ∙ sym (ap (λ i. live_item i (table_of c.args.table.now) (holds c.args.behind)) c.in-Return.is)
