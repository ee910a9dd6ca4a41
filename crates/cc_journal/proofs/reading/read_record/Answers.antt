use Rattle.std.proofs.Common.{◌≡◌, ◌+◌, ◌≤◌, ℕ, List, [], ◌∷◌, get_or, length, take, drop, sym, ◌∙◌, ap, arith}
use Rattle.std.proofs.lemmas.Result.{err_from_is_err_and}
use Rattle.std.proofs.lemmas.List.{drop-drop, get_or-take, length-take-le}
use Rattle.cc_journal.proofs.Ahead.{finds_none, gate_shown, length_shown}
use Rattle.cc_journal.proofs.Bytes.{gate_read, record_read, length_read}
use Rattle.cc_journal.proofs.reading.read_record.Goals as goal

pub returns-clause-finds : goal.returns-clause-finds
returns-clause-finds g c = λ h.
    let S = g.D.Disk.seen c.args.disk.now in
    let bytes = drop c.args.offset S in
    let prefix = c.from-prefix.result.now in
    let shown = c.from-prefix.ensures.shows S (c.in_ok-look.ensures.shown h) in
    let some : 5 ≤ length prefix = omega (arith, c.from-prefix.ensures.all c.in_ok-look.ensures.begins, c.in_ok-look.ensures.enough) in
    let n = c.length_of-length.result in
    let four = get_or prefix 1 0 ∷ get_or prefix 2 0 ∷ get_or prefix 3 0 ∷ get_or prefix 4 0 ∷ [] in
    let rest : c.new.result ≡ take n (drop 5 bytes) =
    c.new.ensures ∙ c.in_ok-bytes.ensures.read h ∙ ap (λ (l : List ℕ). take n (drop (c.args.offset + 5) l)) (c.look.ensures.reads h).same ∙ ap (λ (l : List ℕ). take n l) (sym (drop-drop 5 c.args.offset S)) in (
      _,
      record_read bytes (take 1 prefix) four c.new.result n (gate_shown prefix bytes shown (omega arith)) (length-take-le 1 prefix (omega arith)) (get_or-take 1 prefix 0 0 (omega arith) ∙ c.if-prefix.false)
          (length_shown prefix bytes shown some) c.length_of-length.ensures.bytes rest (ap length c.new.ensures ∙ c.in_ok-bytes.ensures.count),
    )

pub returns-then-left-length-clause-finds : goal.returns-then-left-length-clause-finds
returns-then-left-length-clause-finds g c = λ h.
    let S = g.D.Disk.seen c.args.disk.now in
    let bytes = drop c.args.offset S in
    let prefix = c.from-prefix.result.now in
    let shown = c.from-prefix.ensures.shows S (c.in_ok-look.ensures.shown h) in
    let some : 5 ≤ length prefix = omega (arith, c.from-prefix.ensures.all c.in_ok-look.ensures.begins, c.in_ok-look.ensures.enough) in
    let four = get_or prefix 1 0 ∷ get_or prefix 2 0 ∷ get_or prefix 3 0 ∷ get_or prefix 4 0 ∷ [] in (
      (_, gate_read bytes (take 1 prefix) (gate_shown prefix bytes shown (omega arith)) (length-take-le 1 prefix (omega arith)) (get_or-take 1 prefix 0 0 (omega arith) ∙ c.if-prefix.false)),
      λ body rest is small.
          let same = length_read bytes four body rest c.length_of-length.result (length_shown prefix bytes shown some) c.length_of-length.ensures.value is small in
          omega (arith, same, c.if-left-length.true),
    )

pub returns-in_err-look-clause-finds : goal.returns-in_err-look-clause-finds
returns-in_err-look-clause-finds g c = λ h.
    let p = err_from_is_err_and c.from_residual.result c.from_residual.ensures.1 in
    rw (p.1, p.2) (finds_none (drop c.args.offset (g.D.Disk.seen c.args.disk.now)) c.args.left c.in_err-look.field-0.0 c.in_err-look.ensures.others)

pub returns-in_err-bytes-clause-finds : goal.returns-in_err-bytes-clause-finds
returns-in_err-bytes-clause-finds g c = λ h.
    let p = err_from_is_err_and c.from_residual-in_err-bytes.result c.from_residual-in_err-bytes.ensures.1 in
    rw (p.1, p.2) (finds_none (drop c.args.offset (g.D.Disk.seen c.args.disk.now)) c.args.left c.in_err-bytes.field-0.0 c.in_err-bytes.ensures.others)
