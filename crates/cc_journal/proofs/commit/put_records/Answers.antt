use Rattle.std.proofs.Common.{◌≡◌, ◌+◌, ◌<◌, ◌++◌, ◌∷◌, [], ℕ, List, length, drop, sym, ap, ◌∙◌, append_assoc, arith}
use Rattle.std.specs.Int.{w32, to_le_bytes}
use Rattle.std.proofs.lemmas.List.{append-nil, drop_all}
use Rattle.cc_journal.specs.Format.{records, record_bytes, open_gate}
use Rattle.cc_journal.proofs.Records.{next_body, length-records_next, length-records_from}
use Rattle.cc_journal.proofs.commit.put_records.Goals as goal

pub put_body-requires : goal.put_body-requires
put_body-requires c =
    let bodies : List (List ℕ) = c.args.bodies.now in
    let within : c.loop-body.body-index < length bodies = omega arith in
    let long = ap length c.as_slice.ensures in
    omega (arith, long, c.requires, length-records_next bodies c.loop-body.body-index c.body-item.result within c.body-item.is, length-records_from c.loop-body.body-index bodies)

pub loop-body-preserved : goal.loop-body-preserved
loop-body-preserved c =
    let bodies : List (List ℕ) = c.args.bodies.now in
    let i = c.loop-body.body-index in
    let within : i < length bodies = omega arith in
    let so_far = c.loop-body.bytes.items in
    let body = c.body-item.result in
    let behind = drop (i + 1) bodies in
    let one : c.put_body.new.bytes.items ≡ so_far ++ record_bytes body =
    c.in_ok-put_body.ensures ∙ (λ k. c.in_ok-push.ensures.items k ++ (to_le_bytes w32 (length (c.as_slice.ensures k)) ++ c.as_slice.ensures k))
    ∙ append_assoc so_far (open_gate ∷ []) (to_le_bytes w32 (length body) ++ body) in
    ap (λ (l : List ℕ). l ++ records behind) one ∙ append_assoc so_far (record_bytes body) (records behind)
    ∙ ap (λ (l : List (List ℕ)). so_far ++ records l) (sym (next_body bodies i body within c.body-item.is)) ∙ c.loop-body.invariant

pub returns : goal.returns
returns c =
    let bodies : List (List ℕ) = c.args.bodies.now in
    let none : drop c.loop-body.body-index bodies ≡ [] = drop_all c.loop-body.body-index bodies (omega arith) in
    sym (append-nil c.loop-body.bytes.items) ∙ ap (λ (l : List (List ℕ)). c.loop-body.bytes.items ++ records l) (sym none) ∙ c.loop-body.invariant
