use Rattle.std.proofs.Common.{◌≡◌, ℕ, List, Bool, false, get_or, length, rules, ◌∙◌, ap, sym, arith}
use Rattle.cc_emit.specs.declared.item.PieceItem.{PieceItem}
use Rattle.cc_link.specs.Linked.{all_items, lent_pieces}
use Rattle.cc_size.specs.internal.Reached.{reaches}
use Rattle.cc_size.proofs.Reaching.{bodies_long, first_long, nearer_long, reach_first, reach_next}
use Rattle.cc_size.proofs.recursion.leading.Goals as goal

pub loop-call-init : goal.loop-call-init
loop-call-init c = record {
  long = first_long (length c.args.pieces.now) c.args.target _ (search rules);
  each = reach_first (all_items (lent_pieces c.args.pieces.now)) c.args.target (length c.args.pieces.now) _ c.requires (search rules);
}

pub loop-call-preserved : goal.loop-call-preserved
loop-call-preserved c =
    let bodies : List (List PieceItem) = all_items (lent_pieces c.args.pieces.now) in
    let table : List Bool = c.as_slice.result.now in
    let long : length table ≡ length c.args.pieces.now = ap (λ (l : List Bool). length l) c.as_slice.ensures.value ∙ c.loop-call.invariant.long in
    let count : length table ≡ length bodies = long ∙ sym (bodies_long c.args.pieces.now) in
    record {
      long = ap (λ (l : List Bool). length l) c.in_ok-more.ensures ∙ nearer_long (λ g. get_or table g false) table bodies count ∙ long;
      each = reach_next bodies c.args.target c.loop-call._call table c.in_ok-more.more.items count (λ g. ap (λ (l : List Bool). get_or l g false) c.as_slice.ensures.value ∙ c.loop-call.invariant.each g) c.in_ok-more.ensures;
    }

pub returns-clause-each : goal.returns-clause-each
returns-clause-each c = λ f.
    let least = c.loop-call-test.false in
    let most = c.loop-call.auto._call-end in
    let all : c.loop-call._call ≡ length c.args.pieces.now = omega arith in
    c.loop-call.invariant.each f ∙ ap (λ (k : ℕ). reaches (all_items (lent_pieces c.args.pieces.now)) c.args.target k f) all
