-- The nodes that are dropped by the least strongly live sets are all the nodes that nothing needs.
use Rattle.std.proofs.Common.{◌≡◌, ◌∙◌, true, ap, sym, subst, List, ℕ, length}
use Rattle.cc_rtl_language.specs.Rtl.{Rtl}
use Rattle.cc_rtl_language.specs.Pair.{Pair}
use Rattle.cc_rtl_language.proofs.Nops.{length_turned}
use Rattle.cc_live.specs.Rows.{rows_at}
use Rattle.cc_live.specs.internal.Facts.{AreLeastAs}
use Rattle.cc_live.proofs.Solved.{strongly}
use Rattle.cc_live.specs.Liveness.{AreLeastLive}
use Rattle.cc_live.proofs.Dropped.{dead, is_without_faint, least_rows, nothing_dead}
use Rattle.cc_live.proofs.dead.drop_faint.Goals as goal

-- the sets in the form in which `drop_by` takes them
least : (rtl code : Rtl) (rows solved : List (List ℕ)) → code ≡ rtl → rows ≡ solved → AreLeastAs true code.nodes (rows_at code.nodes solved) → AreLeastAs true rtl.nodes (rows_at rtl.nodes rows)
least rtl code rows solved e f h =
    subst (λ (rows : List (List ℕ)). AreLeastAs true rtl.nodes (rows_at rtl.nodes rows)) (sym f) (subst (λ (r : Rtl). AreLeastAs true r.nodes (rows_at r.nodes solved)) e h)

pub drop_by-requires : goal.drop_by-requires
drop_by-requires c =
    let nodes = c.args.pair.now.rtl.nodes in
    strongly nodes (rows_at nodes c.as_slice.result.now)
    (least c.args.pair.now.rtl c.code.result.now c.as_slice.result.now c.in_ok-live.live.items c.code.ensures.code c.as_slice.ensures.value c.in_ok-live.ensures.least).are_live

pub returns-clause-without : goal.returns-clause-without
returns-clause-without c =
    let nodes = c.args.pair.now.rtl.nodes in
    is_without_faint c.args.pair.now.rtl c.drop_by.new.pair.rtl (rows_at nodes c.as_slice.result.now)
    (least c.args.pair.now.rtl c.code.result.now c.as_slice.result.now c.in_ok-live.live.items c.code.ensures.code c.as_slice.ensures.value c.in_ok-live.ensures.least)
    (ap (λ (p : Pair). p.rtl) c.in_ok-drop_by.ensures.dropped)

pub returns-clause-nothing_dead : goal.returns-clause-nothing_dead
returns-clause-nothing_dead c = nothing_dead c.args.pair.now.rtl c.drop_by.new.pair.rtl (returns-clause-without c)

pub returns-clause-long : goal.returns-clause-long
returns-clause-long c =
    let nodes = c.args.pair.now.rtl.nodes in
    let rows = c.as_slice.result.now in
    ap (λ (rows : List (List ℕ)). length rows) (c.new.ensures ∙ sym c.as_slice.ensures.value)
    ∙ (ap (λ (rows : List (List ℕ)). length rows) c.as_slice.ensures.value ∙ (c.in_ok-live.ensures.long ∙ (ap (λ (r : Rtl). length r.nodes) c.code.ensures.code
    ∙ (sym (length_turned (dead (rows_at nodes rows)) nodes) ∙ sym (ap (λ (p : Pair). length p.rtl.nodes) c.in_ok-drop_by.ensures.dropped)))))

pub returns-clause-live : goal.returns-clause-live
returns-clause-live c =
    let nodes = c.args.pair.now.rtl.nodes in
    let left = c.drop_by.new.pair.rtl.nodes in
    subst (λ (rows : List (List ℕ)). AreLeastLive left (rows_at left rows)) (c.as_slice.ensures.value ∙ sym c.new.ensures)
    (least_rows c.args.pair.now.rtl c.drop_by.new.pair.rtl c.as_slice.result.now
    (least c.args.pair.now.rtl c.code.result.now c.as_slice.result.now c.in_ok-live.live.items c.code.ensures.code c.as_slice.ensures.value c.in_ok-live.ensures.least)
    (ap (λ (p : Pair). p.rtl) c.in_ok-drop_by.ensures.dropped))
