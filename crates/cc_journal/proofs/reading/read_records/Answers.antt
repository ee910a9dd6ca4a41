use Rattle.std.proofs.Common.{◌≡◌, ◌+◌, ◌-◌, ◌≤◌, List, ℕ, ◌++◌, ◌∷◌, [], IfSome, Option, Ok, Err, length, drop, sym, ◌∙◌, ap, subst, arith}
use Rattle.std.proofs.lemmas.Result.{err_from_is_err_and}
use Rattle.std.proofs.lemmas.Grind.{common_steps}
use Rattle.cc_journal.specs.Format.{records, record_bytes}
use Rattle.cc_journal.specs.declared.fault.JournalFault.TheVariants.{Damaged}
use Rattle.cc_journal.specs.internal.Reading.{FindsRecord, Shows}
use Rattle.cc_journal.proofs.Records.{length-records_push}
use Rattle.cc_journal.proofs.Scan.{record_on, none_ends, reads_on}
use Rattle.cc_journal.proofs.reading.read_records.Goals as goal

pub loop-window-preserved : goal.loop-window-preserved
loop-window-preserved g c =
    let D = g.D.Disk in
    let so_far = c.loop-window.invariant in
    let body = c.in-Some.body in
    let pushed : c.push.new.self.items ≡ c.loop-window.bodies.items ++ body ∷ [] = grind (arith, common_steps) in
    let long : length c.as_slice.result.now ≡ length body = ap length c.as_slice.ensures in
    let back = sym pushed in
    let size = sym long in
    let room : length body + 6 ≤ c.args.area - c.loop-window.used = subst (λ (o : Option (List ℕ)). IfSome o (λ b. length b + 6 ≤ c.args.area - c.loop-window.used)) c.in-Some.is c.in_ok-body.ensures.fits in
    record {
      size = c.read_record.ensures.size ∙ so_far.size;
      failures = c.in_ok-body.ensures.failures ∙ so_far.failures;
      taken = omega (arith, so_far.taken, long, ap (λ (l : List (List ℕ)). length (records l)) pushed, length-records_push c.loop-window.bodies.items body);
      fits = omega (arith, long, room);
      reads = λ h. reads_on D.seen D.may_leave D.moment D.left_since c.args.disk.now c.loop-window.disk c.read_record.new.disk (so_far.reads h) (c.read_record.ensures.reads h);
      shown = λ h. subst (λ (l : List ℕ). Shows c.read_record.new.window.offset c.read_record.new.window.bytes.items l) (so_far.reads h).same (c.in_ok-body.ensures.shown h);
      prefix = λ h.
          let S = D.seen c.args.disk.now in
          let offset = c.args.start + c.loop-window.used in
          let found : (rest : List ℕ) × (drop offset (D.seen c.loop-window.disk) ≡ record_bytes body ++ rest) =
          subst (λ (o : Option (List ℕ)). FindsRecord (drop offset (D.seen c.loop-window.disk)) (c.args.area - c.loop-window.used) (Ok o)) c.in-Some.is (c.in_ok-body.ensures.finds h) in
          let at : drop offset S ≡ record_bytes body ++ found.0 = ap (λ (l : List ℕ). drop offset l) (sym (so_far.reads h).same) ∙ found.1 in
          record_on S c.args.start c.loop-window.used c.loop-window.bodies.items body found.0 (so_far.prefix h) at
          ∙ (λ i. records (back i) ++ drop (c.args.start + (c.loop-window.used + (size i + 5))) S);
    }

pub returns-in_err-body-clause-damaged : goal.returns-in_err-body-clause-damaged
returns-in_err-body-clause-damaged g c = λ e h bodies ends room.
    let D = g.D.Disk in
    let S = D.seen c.args.disk.now in
    let offset = c.args.start + c.loop-window.used in
    let left = c.args.area - c.loop-window.used in
    let so_far = c.loop-window.invariant in
    let p = err_from_is_err_and c.from_residual.result c.from_residual.ensures.1 in
    let fault : c.in_err-body.field-0.0 ≡ Damaged = cc in
    let found = subst (λ k. FindsRecord (drop offset (D.seen c.loop-window.disk)) left (Err k)) fault (c.in_err-body.ensures.finds h) in
    let same : drop offset (D.seen c.loop-window.disk) ≡ drop offset S = ap (λ (l : List ℕ). drop offset l) (so_far.reads h).same in
    none_ends S c.args.start c.loop-window.used c.args.area c.loop-window.bodies.items bodies c.requires.is_area.most so_far.taken so_far.fits (so_far.prefix h)
    found.0.0 (sym same ∙ found.0.1) (λ body rest is. found.1 body rest (same ∙ is)) ends room
