use Rattle.std.proofs.Common.{◌≡◌, ℕ, ◌+◌, ◌≤◌, List, IsTrue, IfSome, take, sym, ◌∙◌, ap, subst}
use Rattle.std.proofs.lemmas.List.{take_at}
use Rattle.cc_journal.specs.Format.{header, IsArea}
use Rattle.cc_journal.specs.internal.Reading.{BeginsWith}
use Rattle.cc_journal.proofs.Bytes.{begins_whole, each_found}
use Rattle.cc_journal.proofs.Records.{length-header}
use Rattle.cc_journal.proofs.reading.read_header.Goals as goal

pub returns-clause-right : goal.returns-clause-right
returns-clause-right g c =
    let size = g.D.Disk.size c.args.disk.now in
    let bytes = g.D.Disk.seen c.args.disk.now in
    each_found c.parse_header.result
    (λ at. IsArea size at.1 × (at.0 ≤ 16 + at.1) × BeginsWith c.read_at.new.buffer at.0 at.1)
    (λ at. IsArea size at.1 × (at.0 ≤ 16 + at.1) × (IsTrue g.D.Disk.honest → BeginsWith bytes at.0 at.1))
    (λ at found. (found.0, found.1, λ h. begins_whole bytes at.0 at.1 (subst (λ (l : List ℕ). BeginsWith l at.0 at.1) (c.in_ok-read_at.ensures.read h) found.2)))
    (subst (λ (n : ℕ). IfSome c.parse_header.result (λ at. IsArea n at.1 × (at.0 ≤ 16 + at.1) × BeginsWith c.read_at.new.buffer at.0 at.1)) c.size-size.ensures c.parse_header.ensures.right)

pub returns-clause-wrong : goal.returns-clause-wrong
returns-clause-wrong g c = λ none h area found.
    let bytes = g.D.Disk.seen c.args.disk.now in
    let read : c.read_at.new.buffer ≡ header found.area_byte area =
    c.in_ok-read_at.ensures.read h ∙ ap (λ (l : List ℕ). take 16 l) found.bytes ∙ take_at (header found.area_byte area) found.rest 16 (length-header found.area_byte area) in
    c.parse_header.ensures.wrong none found.area_byte area read (subst (λ (n : ℕ). IsArea n area) (g.met.D.Disk.has_size c.args.disk.now h ∙ sym c.size-size.ensures) found.is_area)
