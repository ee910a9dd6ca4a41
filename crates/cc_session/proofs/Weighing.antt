-- The bytes that a client's receipts hold since a script's beginning are counted as the script goes on.
use Rattle.std.proofs.Common.{◌≡◌, ◌∙◌, ℕ, ◌+◌, ◌<◌, ◌≤◌, List, [], ◌++◌, drop, length, sym, ap, subst, append_assoc, arith}
use Rattle.std.proofs.Math.Seq.{drop-append_seam}
use Rattle.std.proofs.lemmas.List.{append-nil}
use Rattle.std.proofs.lemmas.List.Sums.{sum_by-append}
use Rattle.cc_history.specs.Held.{at_most_told, entry_bytes, receipts_bytes}
use Rattle.cc_history.specs.History.{MemberView}
use Rattle.cc_history.specs.declared.entry.Receipt.{Receipt}
use Rattle.cc_session.specs.Playing.{held_since}
use Rattle.cc_session.specs.internal.Steps.{CountsSince}
use Rattle.cc_session.specs.declared.held.Held.{Held}

-- nothing has been counted so far
pub counts_none : (first : List Receipt) (held : Held) → held.seen ≡ length first → held.bytes ≡ 0 → CountsSince first first held
counts_none first held seen bytes = record { more = []; now_is = sym (append-nil first); seen = seen; bytes = bytes }

-- adding two counts, each capped at the largest number that can be reported, gives the capped sum
told_both : (a b : ℕ) → at_most_told (at_most_told a + at_most_told b) ≡ at_most_told (a + b)
told_both a b = grind (arith)

-- the receipts after the first `held.seen` are those that came since the last count
new_ones : (first old now grown : List Receipt) (held : Held) → held.seen ≡ length old → now ≡ old ++ grown → drop held.seen now ≡ grown
new_ones first old now grown held seen is =
    subst (λ (n : ℕ). drop n now ≡ grown) (sym seen) (subst (λ (l : List Receipt). drop (length old) l ≡ grown) (sym is) (drop-append_seam old grown))

-- the receipts of one more line are counted
pub counts_on : (first old now : List Receipt) (held next : Held) → CountsSince first old held → ((grown : List Receipt) × (now ≡ old ++ grown)) → next.seen ≡ length now
    → next.bytes ≡ at_most_told (held.bytes + at_most_told (receipts_bytes (drop held.seen now))) → CountsSince first now next
counts_on first old now held next counts grows seen bytes =
    let grown = grows.0 in
    let those = new_ones first old now grown held counts.seen grows.1 in
    let both : receipts_bytes (counts.more ++ grown) ≡ receipts_bytes counts.more + receipts_bytes grown = sum_by-append (λ (r : Receipt). entry_bytes r.entry) counts.more grown in
    record {
      more = counts.more ++ grown;
      now_is = grows.1 ∙ (ap (λ (l : List Receipt). l ++ grown) counts.now_is ∙ append_assoc first counts.more grown);
      seen = seen;
      bytes = bytes ∙ (ap (λ (l : List Receipt). at_most_told (held.bytes + at_most_told (receipts_bytes l))) those
          ∙ (ap (λ (n : ℕ). at_most_told (n + at_most_told (receipts_bytes grown))) counts.bytes
          ∙ (told_both (receipts_bytes counts.more) (receipts_bytes grown) ∙ sym (ap at_most_told both))));
    }

-- the count is the bytes of the receipts that came since, capped
counted : (first now : MemberView) (held : Held) → CountsSince first.receipts now.receipts held → held.bytes ≡ at_most_told (held_since first now)
counted first now held counts =
    counts.bytes ∙ ap (λ (l : List Receipt). at_most_told (receipts_bytes l))
    (sym (subst (λ (l : List Receipt). drop (length first.receipts) l ≡ counts.more) (sym counts.now_is) (drop-append_seam first.receipts counts.more)))

-- a count can report this many bytes, so it exceeds them only if the receipts do
pub much : (first now : MemberView) (held : Held) → CountsSince first.receipts now.receipts held → 268435456 < held.bytes → 268435456 < held_since first now
much first now held counts more = let is = counted first now held counts in grind (arith, is, more)

pub light : (first now : MemberView) (held : Held) → CountsSince first.receipts now.receipts held → held.bytes ≤ 268435456 → held_since first now ≤ 268435456
light first now held counts few = let is = counted first now held counts in grind (arith, is, few)
