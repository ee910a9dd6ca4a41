use Rattle.std.proofs.Common.{sym, ap, ◌∙◌}
use Rattle.cc_select.specs.Live.{with, either, live_before}
use Rattle.cc_select.specs.internal.Sets.{holds, table_of}
use Rattle.cc_select.proofs.live.live_before.Goals as goal

pub returns-in-Branch : goal.returns-in-Branch
returns-in-Branch c =
    let table = table_of c.args.table.now in
    let behind = holds c.args.behind in
    let all = either (table c.in-Branch.to) behind in
    c.with-in-Branch-2.ensures
    ∙ ap (with c.number-in-Branch-2.result) (c.with-in-Branch.ensures ∙ ap (with c.number-in-Branch.result) (c.or.ensures ∙ ap (λ s. either (holds s) behind) c.row.ensures))
    ∙ ap (λ n. with n (with c.number-in-Branch.result all)) c.number-in-Branch-2.ensures.number
    ∙ ap (λ n. with c.in-Branch.left (with n all)) c.number-in-Branch.ensures.number
    ∙ sym (ap (λ s. live_before s table behind) c.in-Branch.is)
