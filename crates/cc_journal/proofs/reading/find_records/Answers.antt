use Rattle.std.proofs.Common.{◌+◌, ◌≤◌, List, ℕ, IsNone, Err, if◌then◌else◌, drop, sym, ◌∙◌, ap, subst, arith, rules}
use Rattle.std.proofs.lemmas.Result.{err_from_is_err_and}
use Rattle.cc_journal.specs.Format.{IsArea, HasHeader, room_of}
use Rattle.cc_journal.specs.Journal.{HoldsFrom}
use Rattle.cc_journal.specs.internal.Reading.{BeginsWith, EndsClosed}
use Rattle.cc_journal.specs.internal.Reading.{is_fault_of_disk}
use Rattle.cc_journal.proofs.Scan.{holds_from, ends_of, header_of, reading_faults}
use Rattle.cc_journal.proofs.reading.find_records.Goals as goal

pub returns-in_default-clause-faults : goal.returns-in_default-clause-faults
returns-in_default-clause-faults g c =
    let none : IsNone c.in_ok-start.field-0 = search rules in (
      c.in_ok-start.ensures.failures ∙ c.in_ok-sync.ensures.failures,
      λ h area found. c.in_ok-start.ensures.wrong none h area (subst (λ (l : List ℕ). HasHeader l area) (sym (c.sync.ensures.seen h)) found),
    )

pub returns-in_err-bodies-clause-faults : goal.returns-in_err-bodies-clause-faults
returns-in_err-bodies-clause-faults g c =
    let D = g.D.Disk in
    let S = D.seen c.args.disk.now in
    let fault = c.in_err-bodies.field-0.0 in
    let start = c.in-Some.start in
    let area = c.in-Some.area in
    let right = rw c.in-Some.is at c.in_ok-start.ensures.right in
    let p = err_from_is_err_and c.from_residual-in_err-bodies.result c.from_residual-in_err-bodies.ensures.1 in
    let count = c.in_err-bodies.ensures.failures ∙ ap (λ (n : ℕ). if is_fault_of_disk {T = ℕ} (Err fault) then n + 1 else n) (c.in_ok-start.ensures.failures ∙ c.in_ok-sync.ensures.failures) in
    rw (p.1, p.2)
    (
    reading_faults fault D.honest S (D.failures c.args.disk.now) (D.failures c.read_records.new.disk) c.in_err-bodies.ensures.others count
    (λ damaged h.
    let begins = subst (λ (l : List ℕ). BeginsWith l start area) (c.sync.ensures.seen h) (right.2 h) in
    let size = g.met.D.Disk.has_size c.args.disk.now h ∙ sym c.sync.ensures.size in
    let same = c.sync.ensures.seen h in
    let after = (c.read_header.ensures.reads h).same ∙ same in (
      (area, header_of S start area begins (subst (λ (n : ℕ). IsArea n area) (sym size) right.0)),
      λ other bodies holds.
          let ends = ends_of S start area other bodies begins right.0.most holds in
          c.in_err-bodies.ensures.damaged (λ i. Err (damaged i)) h bodies (subst (λ (l : List ℕ). EndsClosed (drop start l) bodies) (sym after) ends.0) ends.1,
    ))
    )

pub returns-clause-kept : goal.returns-clause-kept
returns-clause-kept g c =
    let D = g.D.Disk in
    let start = c.in-Some.start in
    let area = c.in-Some.area in
    let bodies = c.in_ok-bodies.bodies.items in
    let right = rw c.in-Some.is at c.in_ok-start.ensures.right in
    let room = c.in_ok-bodies.ensures.room in
    let fits : room_of bodies ≤ area = omega (arith, room.0, room.1) in
    record {
      is_area = subst (λ (n : ℕ). IsArea n area) (sym (c.read_records.ensures.size ∙ c.read_header.ensures.size)) right.0;
      begins = right.1;
      taken = room.0;
      fits = fits;
      alone = λ h _ image now.
          let settled = c.in_ok-sync.ensures.settled h image ((c.read_header.ensures.reads h).images image ((c.read_records.ensures.reads h).images image now)) in
          settled ∙ sym ((c.read_records.ensures.reads h).same ∙ (c.read_header.ensures.reads h).same ∙ c.sync.ensures.seen h);
      holds = λ h _.
          let S = D.seen c.sync.new.self in
          let ends = subst (λ (l : List ℕ). EndsClosed (drop start l) bodies) ((c.read_header.ensures.reads h).same) (c.in_ok-bodies.ensures.records h) in
          let found = holds_from S start area bodies (right.2 h) (subst (λ (n : ℕ). IsArea n area) (sym (g.met.D.Disk.has_size c.sync.new.self h)) right.0) ends fits in
          subst (λ (l : List ℕ). HoldsFrom l start area bodies) (sym ((c.read_records.ensures.reads h).same ∙ (c.read_header.ensures.reads h).same)) found;
    }
