-- The bit's number is added, and lies before the end of the last row.
use Rattle.std.proofs.Common.{◌∙◌, ◌&&◌, ◌||◌, ◌==◌, ◌*◌, ◌<◌, ◌≤◌, ap, subst, sym, arith, length, List, ℕ}
use Rattle.std.proofs.Math.Nat.{mul-le-mul_left}
use Rattle.cc_bits.specs.Rows.{has, Table, most_rows}
use Rattle.cc_bits.proofs.Keys.{next_row}
use Rattle.cc_bits.proofs.Tables.{put_bit}
use Rattle.cc_bits.proofs.rows.BitRows.put.Goals as goal

pub invariant_of-self : goal.invariant_of-self
invariant_of-self c = record {
  narrow = c.self.invariant.narrow;
  low = c.self.invariant.low;
  few = subst (λ (x : List ℕ). length x ≤ c.self.inside.width * c.self.inside.rows) (sym c.in_err-insert.ensures.leaves) c.self.invariant.few;
}

pub invariant_of-self-2 : goal.invariant_of-self-2
invariant_of-self-2 c =
    let w = c.self.inside.width in
    let rows = c.greater-self-inside.result in
    let here : c.args.c < 64 * w = subst (λ (t : Table). c.args.c < 64 * t.width) (sym c.self.view_is) c.requires.column in
    let more = mul-le-mul_left {m = c.self.inside.rows} {n = rows} w c.greater-self-inside.ensures.one in
    let n = next_row w c.args.r rows (let o = c.greater-self-inside.ensures.other in omega (arith, o)) in
    let few = c.self.invariant.few in
    record {
      narrow = c.self.invariant.narrow;
      low = c.greater-self-inside.ensures.least most_rows c.self.invariant.low (let r = c.requires.row in omega (arith, r));
      few = c.insert.ensures.few (w * rows) (omega (arith, few, more)) (omega (arith, n, here));
    }

pub returns-clause-added : goal.returns-clause-added
returns-clause-added c i j =
    let w = c.self.inside.width in
    let here : c.args.c < 64 * w = subst (λ (t : Table). c.args.c < 64 * t.width) (sym c.self.view_is) c.requires.column in
    put_bit w c.args.r c.args.c c.self.inside.bits c.insert.new.self here c.in_ok-insert.ensures.added i j
    ∙ ap (λ (t : Table). (c.args.r == i && c.args.c == j) || has t i j) c.self.view_is
