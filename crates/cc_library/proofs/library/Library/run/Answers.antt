-- Each turn carries out one more edit and keeps its number; after the last turn all edits have been carried
-- out.
use Rattle.std.proofs.Common.{◌≡◌, ◌+◌, ◌++◌, ◌∷◌, [], List, ℕ, inr, false, IsTrue, length, vec_len, ap, sym, subst, ◌∙◌, append_assoc, length-append, refl, arith}
use Rattle.std.proofs.lemmas.List.{append-nil, nil_from_length}
use Rattle.cc_library.specs.declared.command.Edit.{Edit}
use Rattle.cc_library.specs.Apply.{Units, after_all}
use Rattle.cc_library.specs.Recovered.{RecoversAlone, View}
use Rattle.cc_disk.specs.Images.{LeavesOnly}
use Rattle.cc_library.specs.Runs.{AreEdited, RecoversAmong}
use Rattle.cc_library.specs.internal.Steps.{IsMidEdit}
use Rattle.cc_library.proofs.Standing.{holds_recovers, joined}
use Rattle.cc_library.proofs.Refused.{still_map}
use Rattle.cc_library.proofs.Running.{one_edit_more, folds, stays_open, among_none, among_more, among_all, among_next}
use Rattle.cc_library.proofs.library.Library.run.Goals as goal

-- if no edits are left, those taken are all the edits
all_taken : (taken rest edits : List Edit) (n : ℕ) → n ≡ length rest → n ≡ 0 → taken ++ rest ≡ edits → taken ≡ edits
all_taken taken rest edits n counted none parts =
    let nothing : rest ≡ [] = nil_from_length rest (sym counted ∙ none) in
    sym (append-nil taken) ∙ ap (λ (l : List Edit). taken ++ l) (sym nothing) ∙ parts

pub loop-edit-init : goal.loop-edit-init
loop-edit-init g c =
    let counted : vec_len c.args.edits ≡ length c.args.edits.items = c.args.edits.ok.0 in
    record {
      edited = subst (λ (ns : List ℕ). AreEdited g.D.Disk.honest g.D.Disk.failures c.args.self [] ns c.args.self) (sym c.in-Ok.ensures.items) refl;
      size = refl;
      edits = c.into_iter-edit-iterator.ensures.into_iter_gives.0;
      room = omega (arith, counted, c.len.ensures, c.in-Ok.ensures.capacity);
      count = ap length c.in-Ok.ensures.items;
      stays = λ not_closed. not_closed;
      moments = λ h not_closed.
          let D = g.D.Disk in
          let i = c.self.inside in
          let old = c.args.self in
          subst (λ (ns : List ℕ). LeavesOnly D.moment D.left_since old.disk old.disk (RecoversAmong old.units [] ns)) (sym c.in-Ok.ensures.items)
          (still_map (RecoversAmong old.units [] []) D.honest D.moment D.left_since D.may_leave i.log i.units i.closed old c.self.view_is c.self.invariant.stand c.self.invariant.same c.is_closed-kept.ensures.kept
          (λ q image left. g.met.D.Disk.only_now i.log.disk image q left) old.disk refl (λ image recovers. among_none old.units [] image recovers) h not_closed);
    }

pub unwrap-requires : goal.unwrap-requires
unwrap-requires g c =
    let inv = c.loop-edit.invariant in
    let counted : vec_len c.loop-edit.numbers ≡ length c.loop-edit.numbers.items = c.loop-edit.numbers.ok.0 in
    let parts : length c.args.edits.items ≡ length c.loop-edit.yielded + length (c.in-Some.edit ∷ c.next.new.self.rest.items) =
    ap length (sym inv.edits) ∙ length-append c.loop-edit.yielded c.loop-edit.edit-iterator.rest.items
    ∙ ap (λ (l : List Edit). length c.loop-edit.yielded + length l) c.in-Some.ensures.steps.0 in
    c.push.ensures.succeeds (omega (arith, counted, inv.room, inv.count, parts))

pub loop-edit-preserved : goal.loop-edit-preserved
loop-edit-preserved g c =
    let D = g.D.Disk in
    let inv = c.loop-edit.invariant in
    let one = rw c.in-Ok-left.is at c.edited-number.ensures.edited in
    let same = rw c.in-Ok-left.is at c.edited-number.ensures.size in
    let pushed : c.push.new.self.items ≡ c.loop-edit.numbers.items ++ c.edited-number.result.0 ∷ [] = rw c.unwrap.ensures at c.push.ensures.items in
    record {
      edited = subst (λ (ns : List ℕ). AreEdited D.honest D.failures c.args.self (c.loop-edit.yielded ++ c.in-Some.edit ∷ []) ns c.in-Ok-left.left) (sym pushed)
          (one_edit_more D.honest D.failures c.args.self c.loop-edit.library c.in-Ok-left.left c.loop-edit.yielded c.loop-edit.numbers.items c.in-Some.edit c.edited-number.result.0 inv.edited one);
      size = same ∙ inv.size;
      edits = append_assoc c.loop-edit.yielded (c.in-Some.edit ∷ []) c.next.new.self.rest.items ∙ ap (λ (l : List Edit). c.loop-edit.yielded ++ l) (sym c.in-Some.ensures.steps.0) ∙ inv.edits;
      room = omega (arith, inv.room, c.push.ensures.capacity);
      count = ap length pushed ∙ length-append c.loop-edit.numbers.items (c.edited-number.result.0 ∷ []) ∙ ap (λ (n : ℕ). n + 1) inv.count ∙ sym (length-append c.loop-edit.yielded (c.in-Some.edit ∷ []));
      stays = λ not_closed. stays_open D.honest D.failures c.loop-edit.library c.in-Ok-left.left c.in-Some.edit c.edited-number.result.0 one (inv.stays not_closed);
      moments = λ h not_closed.
          let old = c.args.self in
          let mid = c.loop-edit.library in
          let n = c.edited-number.result.0 in
          let fold = folds D.honest D.failures old mid c.loop-edit.yielded c.loop-edit.numbers.items inv.edited h in
          let step = rw c.in-Ok-left.is at c.edited-number.ensures.moments in
          subst (λ (ns : List ℕ). LeavesOnly D.moment D.left_since old.disk c.in-Ok-left.left.disk (RecoversAmong old.units (c.loop-edit.yielded ++ c.in-Some.edit ∷ []) ns)) (sym pushed)
          (joined D.moment D.left_since old.disk mid.disk c.in-Ok-left.left.disk
          (RecoversAmong old.units c.loop-edit.yielded c.loop-edit.numbers.items) (IsMidEdit mid.units c.in-Some.edit n) (RecoversAmong old.units (c.loop-edit.yielded ++ c.in-Some.edit ∷ []) (c.loop-edit.numbers.items ++ n ∷ []))
          (inv.moments h not_closed) (step h (inv.stays not_closed))
          (λ image p. among_more old.units c.loop-edit.yielded (c.in-Some.edit ∷ []) c.loop-edit.numbers.items (n ∷ []) image p)
          (λ image q. among_next old.units mid.units c.loop-edit.yielded c.loop-edit.numbers.items c.in-Some.edit n image fold q));
    }

pub returns-in-Err-clause-refused : goal.returns-in-Err-clause-refused
returns-in-Err-clause-refused g c =
    let inv = c.loop-edit.invariant in
    let stops = rw c.in-Err.is at c.edited-number.ensures.refused in
    let pushed : c.push.new.self.items ≡ c.loop-edit.numbers.items ++ c.edited-number.result.0 ∷ [] = rw c.unwrap.ensures at c.push.ensures.items in
    inr (record {
      prefix = c.loop-edit.yielded;
      edit = c.in-Some.edit;
      behind = c.next.new.self.rest.items;
      earlier = c.loop-edit.numbers.items;
      mid = c.loop-edit.library;
      edits_are = sym inv.edits ∙ ap (λ (l : List Edit). c.loop-edit.yielded ++ l) c.in-Some.ensures.steps.0;
      numbers_are = pushed ∙ ap (λ (n : ℕ). c.loop-edit.numbers.items ++ n ∷ []) stops.0;
      edited = inv.edited;
      refused = stops.1;
    })

pub returns-in-Err-clause-size : goal.returns-in-Err-clause-size
returns-in-Err-clause-size g c =
    let same = rw c.in-Err.is at c.edited-number.ensures.size in
    same ∙ c.loop-edit.invariant.size

pub returns-in_default-clause-moments : goal.returns-in_default-clause-moments
returns-in_default-clause-moments g c =
    let D = g.D.Disk in
    let i = c.self.inside in
    let old = c.args.self in
    let edits = c.args.edits.items in
    still_map (RecoversAmong old.units edits c.new.result.items) D.honest D.moment D.left_since D.may_leave i.log i.units i.closed old c.self.view_is c.self.invariant.stand c.self.invariant.same c.is_closed-kept.ensures.kept
    (λ h image left. g.met.D.Disk.only_now i.log.disk image h left) c.into_disk.result c.into_disk.ensures
    (λ image recovers. subst (λ (ns : List ℕ). RecoversAmong old.units edits ns image) (sym c.new.ensures.items) (among_none old.units edits image recovers))

pub returns-in-Err-clause-moments : goal.returns-in-Err-clause-moments
returns-in-Err-clause-moments g c = λ h not_closed.
    let D = g.D.Disk in
    let inv = c.loop-edit.invariant in
    let old = c.args.self in
    let mid = c.loop-edit.library in
    let n = c.edited-number.result.0 in
    let taken = c.loop-edit.yielded ++ c.in-Some.edit ∷ [] in
    let rest = c.next.new.self.rest.items in
    let pushed : c.push.new.self.items ≡ c.loop-edit.numbers.items ++ n ∷ [] = rw c.unwrap.ensures at c.push.ensures.items in
    let all : taken ++ rest ≡ c.args.edits.items =
    append_assoc c.loop-edit.yielded (c.in-Some.edit ∷ []) rest ∙ ap (λ (l : List Edit). c.loop-edit.yielded ++ l) (sym c.in-Some.ensures.steps.0) ∙ inv.edits in
    let fold = folds D.honest D.failures old mid c.loop-edit.yielded c.loop-edit.numbers.items inv.edited h in
    let step = rw c.in-Err.is at c.edited-number.ensures.moments in
    joined D.moment D.left_since old.disk mid.disk c.in-Err.refused.1
    (RecoversAmong old.units c.loop-edit.yielded c.loop-edit.numbers.items) (IsMidEdit mid.units c.in-Some.edit n) (RecoversAmong old.units c.args.edits.items c.push.new.self.items)
    (inv.moments h not_closed) (step h (inv.stays not_closed))
    (λ image p. among_all old.units taken rest c.args.edits.items (c.loop-edit.numbers.items ++ n ∷ []) c.push.new.self.items image all (sym pushed)
    (among_more old.units c.loop-edit.yielded (c.in-Some.edit ∷ []) c.loop-edit.numbers.items (n ∷ []) image p))
    (λ image q. among_all old.units taken rest c.args.edits.items (c.loop-edit.numbers.items ++ n ∷ []) c.push.new.self.items image all (sym pushed)
    (among_next old.units mid.units c.loop-edit.yielded c.loop-edit.numbers.items c.in-Some.edit n image fold q))

pub returns-clause-moments : goal.returns-clause-moments
returns-clause-moments g c = λ h not_closed.
    let D = g.D.Disk in
    let old = c.args.self in
    let rest = c.loop-edit.edit-iterator.rest in
    let all = all_taken c.loop-edit.yielded rest.items c.args.edits.items rest.len rest.ok.0 c.in-None.ensures.steps.0 c.loop-edit.invariant.edits in
    subst (λ (es : List Edit). LeavesOnly D.moment D.left_since old.disk c.loop-edit.library.disk (RecoversAmong old.units es c.loop-edit.numbers.items)) all (c.loop-edit.invariant.moments h not_closed)

pub returns-clause-numbers : goal.returns-clause-numbers
returns-clause-numbers g c =
    let D = g.D.Disk in
    let rest = c.loop-edit.edit-iterator.rest in
    let all = all_taken c.loop-edit.yielded rest.items c.args.edits.items rest.len rest.ok.0 c.in-None.ensures.steps.0 c.loop-edit.invariant.edits in
    subst (λ (es : List Edit). AreEdited D.honest D.failures c.args.self es c.loop-edit.numbers.items c.loop-edit.library) all c.loop-edit.invariant.edited

pub returns-clause-folded : goal.returns-clause-folded
returns-clause-folded g c =
    let D = g.D.Disk in
    let rest = c.loop-edit.edit-iterator.rest in
    let all = all_taken c.loop-edit.yielded rest.items c.args.edits.items rest.len rest.ok.0 c.in-None.ensures.steps.0 c.loop-edit.invariant.edits in
    let run : AreEdited D.honest D.failures c.args.self c.args.edits.items c.loop-edit.numbers.items c.loop-edit.library =
    subst (λ (es : List Edit). AreEdited D.honest D.failures c.args.self es c.loop-edit.numbers.items c.loop-edit.library) all c.loop-edit.invariant.edited in
    λ h. folds D.honest D.failures c.args.self c.loop-edit.library c.args.edits.items c.loop-edit.numbers.items run h

pub returns-clause-from_new : goal.returns-clause-from_new
returns-clause-from_new g c =
    let D = g.D.Disk in
    let rest = c.loop-edit.edit-iterator.rest in
    let all = all_taken c.loop-edit.yielded rest.items c.args.edits.items rest.len rest.ok.0 c.in-None.ensures.steps.0 c.loop-edit.invariant.edits in
    let run : AreEdited D.honest D.failures c.args.self c.args.edits.items c.loop-edit.numbers.items c.loop-edit.library =
    subst (λ (es : List Edit). AreEdited D.honest D.failures c.args.self es c.loop-edit.numbers.items c.loop-edit.library) all c.loop-edit.invariant.edited in
    λ h new.
    let fold = folds D.honest D.failures c.args.self c.loop-edit.library c.args.edits.items c.loop-edit.numbers.items run h in
    (fold.0, fold.1, fold.2 ∙ ap (λ (m : Units). after_all m fold.0) new)

pub returns-clause-kept : goal.returns-clause-kept
returns-clause-kept g c =
    let D = g.D.Disk in
    let i = c.library.inside in
    subst (λ (v : View g.row.D.Denot). IsTrue D.honest → v.closed ≡ false → (image : List ℕ) → D.may_leave v.disk image → RecoversAlone image v.units) c.library.view_is
    (λ h not_closed image now. holds_recovers image i.log.area i.log.bodies i.units (c.is_closed-kept-2.ensures.kept h (sym c.library.invariant.same ∙ not_closed) image now) c.library.invariant.stand)

pub returns-clause-size : goal.returns-clause-size
returns-clause-size g c = c.loop-edit.invariant.size
