-- One more row is added to the block so far.
use Rattle.std.proofs.Common.{◌≡◌, ℕ, suc, ◌+◌, ◌-◌, List, ◌++◌, length, take, drop, min, sym, ap, ◌∙◌, arith, append_assoc}
use Rattle.std.specs.Ordering.{ord_min, nat_cmp}
use Rattle.std.proofs.lemmas.Bool.Decides.{nat_tests}
use Rattle.std.proofs.lemmas.List.{take_min, drop_min}
use Rattle.cc_hex.specs.Layout.{row, rows}
use Rattle.cc_hex.proofs.image.push_block.Goals as goal

least : (a b : ℕ) → ord_min nat_cmp a b ≡ min a b
least a b = grind (arith, nat_tests)

row_written : (k n a : ℕ) (text new all rest front back : List ℕ) → k ≡ suc n → front ≡ take (min 16 (length rest)) rest → back ≡ drop (min 16 (length rest)) rest →
    new ≡ text ++ row a front → text ++ rows k a rest ≡ all → new ++ rows n (a + 16) back ≡ all
row_written k n a text new all rest front back more e_front e_back written so_far =
    let first : front ≡ take 16 rest = e_front ∙ take_min 16 rest in
    let others : back ≡ drop 16 rest = e_back ∙ drop_min 16 rest in
    ap (λ bs. new ++ rows n (a + 16) bs) others
    ∙ ap (λ t. t ++ rows n (a + 16) (drop 16 rest)) (written ∙ ap (λ bs. text ++ row a bs) first)
    ∙ append_assoc text (row a (take 16 rest)) (rows n (a + 16) (drop 16 rest))
    ∙ ap (λ k. text ++ rows k a rest) (sym more)
    ∙ so_far

pub loop-preserved : goal.loop-preserved
loop-preserved c =
    let taken : c.min.result ≡ min 16 (length c.loop.rest.now) = c.min.ensures ∙ least 16 (length c.loop.rest.now) in
    let left : length c.split_at.result.1.now + c.min.result ≡ length c.loop.rest.now = c.split_at.ensures.back_len in
    let front : c.split_at.result.0.now ≡ take (min 16 (length c.loop.rest.now)) c.loop.rest.now = c.split_at.ensures.front ∙ ap (λ k. take k c.loop.rest.now) taken in
    let back : c.split_at.result.1.now ≡ drop (min 16 (length c.loop.rest.now)) c.loop.rest.now = c.split_at.ensures.back ∙ ap (λ k. drop k c.loop.rest.now) taken in
    record {
      address = omega arith;
      rest = omega arith;
      end = c.loop.invariant.end;
      rows = row_written (c.div_ceil-end.result - c.loop.counter) (c.div_ceil-end.result - (c.loop.counter + 1)) c.loop.address c.loop.text.items c.push_row.new.text.items
          (c.args.text.now.items ++ rows c.div_ceil-end.result c.args.from c.args.bytes.now) c.loop.rest.now c.split_at.result.0.now c.split_at.result.1.now (omega arith) front back c.in_ok-push_row.ensures c.loop.invariant.rows;
    }
