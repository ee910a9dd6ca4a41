use Rattle.std.proofs.Common.{◌≡◌, ℕ, List, get_or, length, ◌∙◌, ap, sym, arith}
use Rattle.cc_emit.specs.declared.item.PieceItem.{PieceItem}
use Rattle.cc_link.specs.Linked.{all_items, lent_pieces}
use Rattle.cc_link.specs.Stack.{need}
use Rattle.cc_size.proofs.Deepening.{need_low, need_next, need_none, bodies_long}
use Rattle.cc_size.proofs.needs.needs.Goals as goal

pub loop-call-init : goal.loop-call-init
loop-call-init c = λ f. ap (λ (l : List ℕ). get_or l f 0) c.new-table.ensures.items ∙ sym (need_none c.args.own.now (all_items (lent_pieces c.args.pieces.now)) f)

pub deeper-requires-clause-table : goal.deeper-requires-clause-table
deeper-requires-clause-table c = λ f.
    let bodies : List (List PieceItem) = all_items (lent_pieces c.args.pieces.now) in
    let is : get_or c.as_slice.result.now f 0 ≡ need c.args.own.now bodies c.loop-call._call f = ap (λ (l : List ℕ). get_or l f 0) c.as_slice.ensures.value ∙ c.loop-call.invariant f in
    let low = need_low c.args.own.now bodies c.requires.own c.loop-call._call f in
    let less = c.loop-call-test.true in
    let most = c.requires.calls in
    omega arith

pub loop-call-preserved : goal.loop-call-preserved
loop-call-preserved c = λ f.
    let bodies : List (List PieceItem) = all_items (lent_pieces c.args.pieces.now) in
    let count : length bodies ≡ length c.args.own.now = bodies_long c.args.pieces.now ∙ c.requires.count in
    need_next c.args.own.now bodies c.as_slice.result.now c.in_ok-more.more.items c.loop-call._call count
    (λ g. ap (λ (l : List ℕ). get_or l g 0) c.as_slice.ensures.value ∙ c.loop-call.invariant g) c.in_ok-more.ensures f

pub returns : goal.returns
returns c = λ f.
    let least = c.loop-call-test.false in
    let most = c.loop-call.auto._call-end in
    let all : c.loop-call._call ≡ c.args.calls = omega arith in
    c.loop-call.invariant f ∙ ap (λ (k : ℕ). need c.args.own.now (all_items (lent_pieces c.args.pieces.now)) k f) all
