-- Runs of edits: one more edit at the end, the map that a run leads to, and what opening the disk again shows after a
-- failure.
use Rattle.std.proofs.Common.{◌≡◌, ◌≢◌, ◌⊎◌, inl, inr, ℕ, ◌≤◌, Bool, false, IsTrue, List, [], ◌∷◌, ◌++◌, refl, sym, ap, subst, ◌∙◌, arith, append_assoc}
use Rattle.std.specs.Prelude.{Result, Ok, Err}
use Rattle.cc_disk.specs.Images.{LeavesOnly}
use Rattle.cc_journal.specs.Format.{HasHeader, HoldsRecords}
use Rattle.cc_library.specs.Change.{LibraryCommand}
use Rattle.cc_library.specs.declared.command.Edit.{Edit}
use Rattle.cc_library.specs.declared.command.Edit.TheVariants.{Change, Compact}
use Rattle.cc_library.specs.declared.fault.LibraryFault.{LibraryFault}
use Rattle.cc_library.specs.declared.fault.LibraryFault.TheVariants.{Exists, Absent, Full, DiskFault, Closed, Damaged, NotALibrary, OutOfMemory}
use Rattle.cc_library.specs.Apply.{Units, after, after_all}
use Rattle.cc_library.specs.Recovered.{Recovers, RecoversAlone, View}
use Rattle.cc_library.specs.internal.Steps.{IsOldOrNew, IsMidEdit}
use Rattle.cc_library.specs.Answers.{OpenFaults}
use Rattle.cc_library.proofs.Opening.{has_header}
use Rattle.cc_library.specs.Runs.{answer_number, after_edit, AreDone, AreEdited, EditAnswers, EditLeaves, GoesOn, IsEdited, RecoversAmong}
use Rattle.std.proofs.lemmas.List.{append-nil}

-- ---- what opening the disk again shows

pub reopened_as : (image : List ℕ) (area : ℕ) (bodies : List (List ℕ)) (old : Units) (made : List (List ℕ)) (new : Units) → IsOldOrNew area bodies old made new image
    → (size : ℕ) (found : List (List ℕ)) (units : Units) → HoldsRecords image size found → Recovers image units
    → (size ≡ area) × (((found ≡ bodies) × (units ≡ old)) ⊎ ((found ≡ made) × (units ≡ new)))
reopened_as image area bodies old made new (inl p) size found units holds recovers =
    let same = p.0.alone size found holds in
    (same.0, inl (same.1, p.1.alone units recovers))
reopened_as image area bodies old made new (inr p) size found units holds recovers =
    let same = p.0.alone size found holds in
    (same.0, inr (same.1, p.1.alone units recovers))

has_area : (image : List ℕ) (area : ℕ) (bodies : List (List ℕ)) (old : Units) (made : List (List ℕ)) (new : Units) → IsOldOrNew area bodies old made new image → HasHeader image area
has_area image area bodies old made new (inl p) = has_header image area bodies p.0.holds
has_area image area bodies old made new (inr p) = has_header image area made p.0.holds

recovers_some : (image : List ℕ) (area : ℕ) (bodies : List (List ℕ)) (old : Units) (made : List (List ℕ)) (new : Units) → IsOldOrNew area bodies old made new image → (units : Units) × Recovers image units
recovers_some image area bodies old made new (inl p) = (old, p.1.recovers)
recovers_some image area bodies old made new (inr p) = (new, p.1.recovers)

-- if opening an honest disk is refused after an edit, the device failed or memory ran out
pub cause_of : (honest : Bool) (image : List ℕ) (area : ℕ) (bodies : List (List ℕ)) (old : Units) (made : List (List ℕ)) (new : Units) (before behind : ℕ) (fault : LibraryFault)
    → OpenFaults honest image before behind fault → IsTrue honest → IsOldOrNew area bodies old made new image → (fault ≡ DiskFault) ⊎ (fault ≡ OutOfMemory)
cause_of honest image area bodies old made new before behind DiskFault refused h p = inl refl
cause_of honest image area bodies old made new before behind OutOfMemory refused h p = inr refl
cause_of honest image area bodies old made new before behind NotALibrary refused h p = absurd (refused.1 h area (has_area image area bodies old made new p))
cause_of honest image area bodies old made new before behind Damaged refused h p =
    let some = recovers_some image area bodies old made new p in
    absurd ((refused.1 h).1 some.0 some.1)
cause_of honest image area bodies old made new before behind Exists refused h p = absurd refused
cause_of honest image area bodies old made new before behind Absent refused h p = absurd refused
cause_of honest image area bodies old made new before behind Full refused h p = absurd refused
cause_of honest image area bodies old made new before behind Closed refused h p = absurd refused

-- if a crash at any moment of a call leaves only `P`, each image after the call has `P`
pub of_now : {D : Type 0} (may_leave : D → List ℕ → Type 0) (moment : D → ℕ) (left_since : D → ℕ → List ℕ → Type 0) (old new : D) (P : List ℕ → Type 0) → LeavesOnly moment left_since old new P
    → ((t : ℕ) (image : List ℕ) → t ≤ moment new → may_leave new image → left_since new t image) → (image : List ℕ) → may_leave new image → P image
of_now may_leave moment left_since old new P run counts image now = run.each image (counts (moment old) image run.later now)

-- ---- edits

module _ {D : Type 0} where
  -- if the device failed in an edit, the library was not closed before it
  pub was_open : (old : View D) (edit : Edit) (before behind : ℕ) → EditAnswers {T = Unit {0}} old edit before behind (Err DiskFault) → old.closed ≡ false
  was_open old (Change command) before behind answers = answers.0.0
  was_open old Compact before behind answers = answers.0

  done_units : (old left : View D) (edit : Edit) (done : Unit {0}) → EditLeaves edit old left (Ok done) → left.units ≡ after_edit old.units edit
  done_units old left (Change command) done leaves = ap (λ (v : View D). v.units) leaves
  done_units old left Compact done leaves = ap (λ (v : View D). v.units) leaves

  done_open : (old left : View D) (edit : Edit) (done : Unit {0}) → EditLeaves edit old left (Ok done) → left.closed ≡ false
  done_open old left (Change command) done leaves = ap (λ (v : View D). v.closed) leaves
  done_open old left Compact done leaves = ap (λ (v : View D). v.closed) leaves

  -- if an edit is refused without 35, it leaves everything as it was
  pub same_left : (old left : View D) (edit : Edit) (fault : LibraryFault) → fault ≢ DiskFault → EditLeaves {T = Unit {0}} edit old left (Err fault) → left ≡ old
  same_left old left (Change command) DiskFault other leaves = absurd (other refl)
  same_left old left (Change command) Exists other leaves = leaves
  same_left old left (Change command) Absent other leaves = leaves
  same_left old left (Change command) Full other leaves = leaves
  same_left old left (Change command) Closed other leaves = leaves
  same_left old left (Change command) OutOfMemory other leaves = leaves
  same_left old left (Change command) Damaged other leaves = leaves
  same_left old left (Change command) NotALibrary other leaves = leaves
  same_left old left Compact DiskFault other leaves = absurd (other refl)
  same_left old left Compact Exists other leaves = leaves
  same_left old left Compact Absent other leaves = leaves
  same_left old left Compact Full other leaves = leaves
  same_left old left Compact Closed other leaves = leaves
  same_left old left Compact OutOfMemory other leaves = leaves
  same_left old left Compact Damaged other leaves = leaves
  same_left old left Compact NotALibrary other leaves = leaves

-- ---- runs

module _ {D : Type 0} (honest : Bool) (failures : D → ℕ) where
  pub one_edit_more : (old mid new : View D) (edits : List Edit) (numbers : List ℕ) (edit : Edit) (number : ℕ) → AreEdited honest failures old edits numbers mid
      → IsEdited honest failures mid edit number new → AreEdited honest failures old (edits ++ edit ∷ []) (numbers ++ number ∷ []) new
  one_edit_more old mid new [] [] edit number run one = (new, subst (λ (v : View D). IsEdited honest failures v edit number new) run one, refl)
  one_edit_more old mid new [] (n ∷ numbers) edit number run one = absurd run
  one_edit_more old mid new (e ∷ edits) [] edit number run one = absurd run
  one_edit_more old mid new (e ∷ edits) (n ∷ numbers) edit number run one = (run.0, run.1, one_edit_more run.0 mid new edits numbers edit number run.2 one)

  -- if an edit is refused without 35, the run goes on with the library as the edit left it
  pub goes_on_same : (old left : View D) (edit : Edit) (fault : LibraryFault) → fault ≢ DiskFault → GoesOn {T = Unit {0}} honest failures old edit (Err fault) left left
  goes_on_same old left edit DiskFault other = absurd (other refl)
  goes_on_same old left edit Exists other = refl
  goes_on_same old left edit Absent other = refl
  goes_on_same old left edit Full other = refl
  goes_on_same old left edit Closed other = refl
  goes_on_same old left edit OutOfMemory other = refl
  goes_on_same old left edit Damaged other = refl
  goes_on_same old left edit NotALibrary other = refl

  left_on : (old mid left : View D) (edit : Edit) (fault : LibraryFault) → fault ≢ DiskFault → GoesOn {T = Unit {0}} honest failures old edit (Err fault) left mid → mid ≡ left
  left_on old mid left edit DiskFault other on = absurd (other refl)
  left_on old mid left edit Exists other on = on
  left_on old mid left edit Absent other on = on
  left_on old mid left edit Full other on = on
  left_on old mid left edit Closed other on = on
  left_on old mid left edit OutOfMemory other on = on
  left_on old mid left edit Damaged other on = on
  left_on old mid left edit NotALibrary other on = on

  -- if an edit is refused without 35, the run goes on with the library as it was before the edit
  no_change : (old mid left : View D) (edit : Edit) (fault : LibraryFault) → fault ≢ DiskFault → EditLeaves {T = Unit {0}} edit old left (Err fault) → GoesOn {T = Unit {0}} honest failures old edit (Err fault) left mid → mid ≡ old
  no_change old mid left edit fault other leaves on = left_on old mid left edit fault other on ∙ same_left old left edit fault other leaves

  abbrev Folds : View D → View D → Edit → ℕ → Type 0
  Folds old mid edit number = (((number ≡ 0) ⊎ (number ≡ 35)) × (mid.units ≡ after_edit old.units edit)) ⊎ ((number ≢ 0) × (mid.units ≡ old.units))

  one_edit_folds : (old mid : View D) (edit : Edit) (number : ℕ) (answer : Result (Unit {0}) LibraryFault) (left : View D) → number ≡ answer_number answer → EditLeaves edit old left answer
      → GoesOn honest failures old edit answer left mid → IsTrue honest → Folds old mid edit number
  one_edit_folds old mid edit number (Ok done) left is leaves on h = inl (inl is, ap (λ (v : View D). v.units) on ∙ done_units old left edit done leaves)
  one_edit_folds old mid edit number (Err DiskFault) left is leaves on h =
      let ne : number ≢ 0 = omega (arith, is) in
      elim (on.2 h).1 [ inl p ↦ inr (ne, p.1) | inr p ↦ inl (inr is, p.1) ]
  one_edit_folds old mid edit number (Err Exists) left is leaves on h = let ne : number ≢ 0 = omega (arith, is) in inr (ne, ap (λ (v : View D). v.units) (no_change old mid left edit Exists (λ e. absurd (cc e)) leaves on))
  one_edit_folds old mid edit number (Err Absent) left is leaves on h = let ne : number ≢ 0 = omega (arith, is) in inr (ne, ap (λ (v : View D). v.units) (no_change old mid left edit Absent (λ e. absurd (cc e)) leaves on))
  one_edit_folds old mid edit number (Err Full) left is leaves on h = let ne : number ≢ 0 = omega (arith, is) in inr (ne, ap (λ (v : View D). v.units) (no_change old mid left edit Full (λ e. absurd (cc e)) leaves on))
  one_edit_folds old mid edit number (Err Closed) left is leaves on h = let ne : number ≢ 0 = omega (arith, is) in inr (ne, ap (λ (v : View D). v.units) (no_change old mid left edit Closed (λ e. absurd (cc e)) leaves on))
  one_edit_folds old mid edit number (Err OutOfMemory) left is leaves on h = let ne : number ≢ 0 = omega (arith, is) in inr (ne, ap (λ (v : View D). v.units) (no_change old mid left edit OutOfMemory (λ e. absurd (cc e)) leaves on))
  one_edit_folds old mid edit number (Err Damaged) left is leaves on h = let ne : number ≢ 0 = omega (arith, is) in inr (ne, ap (λ (v : View D). v.units) (no_change old mid left edit Damaged (λ e. absurd (cc e)) leaves on))
  one_edit_folds old mid edit number (Err NotALibrary) left is leaves on h = let ne : number ≢ 0 = omega (arith, is) in inr (ne, ap (λ (v : View D). v.units) (no_change old mid left edit NotALibrary (λ e. absurd (cc e)) leaves on))

  stays : (old mid left : View D) (answer : Result (Unit {0}) LibraryFault) (edit : Edit) → EditLeaves edit old left answer → GoesOn honest failures old edit answer left mid → old.closed ≡ false → mid.closed ≡ false
  stays old mid left (Ok done) edit leaves on was = ap (λ (v : View D). v.closed) on ∙ done_open old left edit done leaves
  stays old mid left (Err DiskFault) edit leaves on was = on.0
  stays old mid left (Err Exists) edit leaves on was = ap (λ (v : View D). v.closed) (no_change old mid left edit Exists (λ e. absurd (cc e)) leaves on) ∙ was
  stays old mid left (Err Absent) edit leaves on was = ap (λ (v : View D). v.closed) (no_change old mid left edit Absent (λ e. absurd (cc e)) leaves on) ∙ was
  stays old mid left (Err Full) edit leaves on was = ap (λ (v : View D). v.closed) (no_change old mid left edit Full (λ e. absurd (cc e)) leaves on) ∙ was
  stays old mid left (Err Closed) edit leaves on was = ap (λ (v : View D). v.closed) (no_change old mid left edit Closed (λ e. absurd (cc e)) leaves on) ∙ was
  stays old mid left (Err OutOfMemory) edit leaves on was = ap (λ (v : View D). v.closed) (no_change old mid left edit OutOfMemory (λ e. absurd (cc e)) leaves on) ∙ was
  stays old mid left (Err Damaged) edit leaves on was = ap (λ (v : View D). v.closed) (no_change old mid left edit Damaged (λ e. absurd (cc e)) leaves on) ∙ was
  stays old mid left (Err NotALibrary) edit leaves on was = ap (λ (v : View D). v.closed) (no_change old mid left edit NotALibrary (λ e. absurd (cc e)) leaves on) ∙ was

  -- a library that was not closed is not closed after an edit
  pub stays_open : (old mid : View D) (edit : Edit) (number : ℕ) → IsEdited honest failures old edit number mid → old.closed ≡ false → mid.closed ≡ false
  stays_open old mid edit number one was = stays old mid one.left one.answer edit one.leaves one.goes_on was

  -- on an honest disk, the map after a run is the old map after the changes that were made
  pub folds : (old new : View D) (edits : List Edit) (numbers : List ℕ) → AreEdited honest failures old edits numbers new → IsTrue honest
      → (done : List LibraryCommand) × AreDone edits numbers done × (new.units ≡ after_all old.units done)
  folds old new [] [] run h = ([], refl, ap (λ (v : View D). v.units) run)
  folds old new [] (n ∷ numbers) run h = absurd run
  folds old new (e ∷ edits) [] run h = absurd run
  folds old new (Change command ∷ edits) (n ∷ numbers) run h =
      let rest = folds run.0 new edits numbers run.2 h in
      let one = run.1 in
      elim (one_edit_folds old run.0 (Change command) n one.answer one.left one.number_is one.leaves one.goes_on h) [
        | inl p ↦ (command ∷ rest.0, inl (rest.0, p.0, refl, rest.1), rest.2 ∙ ap (λ (m : Units). after_all m rest.0) p.1)
        | inr p ↦ (rest.0, inr (p.0, rest.1), rest.2 ∙ ap (λ (m : Units). after_all m rest.0) p.1)
      ]
  folds old new (Compact ∷ edits) (n ∷ numbers) run h =
      let rest = folds run.0 new edits numbers run.2 h in
      let one = run.1 in
      elim (one_edit_folds old run.0 Compact n one.answer one.left one.number_is one.leaves one.goes_on h) [
        | inl p ↦ (rest.0, rest.1, rest.2 ∙ ap (λ (m : Units). after_all m rest.0) p.1)
        | inr p ↦ (rest.0, rest.1, rest.2 ∙ ap (λ (m : Units). after_all m rest.0) p.1)
      ]

-- ---- the moments of a run

pub mid_edit : (area : ℕ) (bodies : List (List ℕ)) (units : Units) (made : List (List ℕ)) (edit : Edit) (number : ℕ) (image : List ℕ) → (number ≡ 0) ⊎ (number ≡ 35)
    → IsOldOrNew area bodies units made (after_edit units edit) image → IsMidEdit units edit number image
mid_edit area bodies units made edit number image was (inl p) = inl p.1
mid_edit area bodies units made edit number image was (inr p) = inr (was, p.1)

-- if one more change was made, with number 0 or 35, it is added to the changes made
done_push : (edits : List Edit) (numbers : List ℕ) (done : List LibraryCommand) (command : LibraryCommand) (number : ℕ) → AreDone edits numbers done → (number ≡ 0) ⊎ (number ≡ 35)
    → AreDone (edits ++ Change command ∷ []) (numbers ++ number ∷ []) (done ++ command ∷ [])
done_push [] [] done command number are was = inl ([], was, ap (λ (l : List LibraryCommand). l ++ command ∷ []) are, refl)
done_push [] (n ∷ numbers) done command number are was = absurd are
done_push (e ∷ edits) [] done command number are was = absurd are
done_push (Change first ∷ edits) (n ∷ numbers) done command number are was = elim are [
  | inl p ↦ inl (p.0 ++ command ∷ [], p.1, ap (λ (l : List LibraryCommand). l ++ command ∷ []) p.2, done_push edits numbers p.0 command number p.3 was)
  | inr p ↦ inr (p.0, done_push edits numbers done command number p.1 was)
]
done_push (Compact ∷ edits) (n ∷ numbers) done command number are was = done_push edits numbers done command number are was

compact_push : (edits : List Edit) (numbers : List ℕ) (done : List LibraryCommand) (number : ℕ) → AreDone edits numbers done → AreDone (edits ++ Compact ∷ []) (numbers ++ number ∷ []) done
compact_push [] [] done number are = are
compact_push [] (n ∷ numbers) done number are = absurd are
compact_push (e ∷ edits) [] done number are = absurd are
compact_push (Change first ∷ edits) (n ∷ numbers) done number are = elim are [
  | inl p ↦ inl (p.0, p.1, p.2, compact_push edits numbers p.0 number p.3)
  | inr p ↦ inr (p.0, compact_push edits numbers done number p.1)
]
compact_push (Compact ∷ edits) (n ∷ numbers) done number are = compact_push edits numbers done number are

after_push : (units : Units) (done : List LibraryCommand) (command : LibraryCommand) → after_all units (done ++ command ∷ []) ≡ after (after_all units done) command
after_push units [] command = refl
after_push units (first ∷ done) command = after_push (after units first) done command

-- if no edit has been carried out and an image recovers to the map, it recovers among the edits
pub among_none : (units : Units) (edits : List Edit) (image : List ℕ) → RecoversAlone image units → RecoversAmong units edits [] image
among_none units edits image recovers = record { prefix = []; behind = edits; earlier = []; later = []; done = []; edits_are = refl; numbers_are = refl; are_done = refl; recovers = recovers }

-- an image that recovers among some edits also recovers among these and more
pub among_more : (units : Units) (edits more : List Edit) (numbers others : List ℕ) (image : List ℕ) → RecoversAmong units edits numbers image → RecoversAmong units (edits ++ more) (numbers ++ others) image
among_more units edits more numbers others image p = record {
  prefix = p.prefix;
  behind = p.behind ++ more;
  earlier = p.earlier;
  later = p.later ++ others;
  done = p.done;
  edits_are = ap (λ (l : List Edit). l ++ more) p.edits_are ∙ append_assoc p.prefix p.behind more;
  numbers_are = ap (λ (l : List ℕ). l ++ others) p.numbers_are ∙ append_assoc p.earlier p.later others;
  are_done = p.are_done;
  recovers = p.recovers;
}

-- an image that recovers among the first edits of a run also recovers among all its edits
pub among_all : (units : Units) (edits more all : List Edit) (numbers shown : List ℕ) (image : List ℕ) → edits ++ more ≡ all → numbers ≡ shown → RecoversAmong units edits numbers image → RecoversAmong units all shown image
among_all units edits more all numbers shown image edits_are same p = record {
  prefix = p.prefix;
  behind = p.behind ++ more;
  earlier = p.earlier;
  later = p.later;
  done = p.done;
  edits_are = sym edits_are ∙ ap (λ (l : List Edit). l ++ more) p.edits_are ∙ append_assoc p.prefix p.behind more;
  numbers_are = sym same ∙ p.numbers_are;
  are_done = p.are_done;
  recovers = p.recovers;
}

-- an image that a crash leaves in the middle of the next edit recovers among the edits up to that one
pub among_next : (units now : Units) (edits : List Edit) (numbers : List ℕ) (edit : Edit) (number : ℕ) (image : List ℕ) → (done : List LibraryCommand) × AreDone edits numbers done × (now ≡ after_all units done) → IsMidEdit now edit number image
    → RecoversAmong units (edits ++ edit ∷ []) (numbers ++ number ∷ []) image
among_next units now edits numbers edit number image (done, are, is) (inl recovers) = record {
  prefix = edits;
  behind = edit ∷ [];
  earlier = numbers;
  later = number ∷ [];
  done = done;
  edits_are = refl;
  numbers_are = refl;
  are_done = are;
  recovers = subst (λ (m : Units). RecoversAlone image m) is recovers;
}
among_next units now edits numbers (Change command) number image (done, are, is) (inr (was, recovers)) = record {
  prefix = edits ++ Change command ∷ [];
  behind = [];
  earlier = numbers ++ number ∷ [];
  later = [];
  done = done ++ command ∷ [];
  edits_are = sym (append-nil (edits ++ Change command ∷ []));
  numbers_are = sym (append-nil (numbers ++ number ∷ []));
  are_done = done_push edits numbers done command number are was;
  recovers = subst (λ (m : Units). RecoversAlone image m) (ap (λ (m : Units). after m command) is ∙ sym (after_push units done command)) recovers;
}
among_next units now edits numbers Compact number image (done, are, is) (inr (was, recovers)) = record {
  prefix = edits ++ Compact ∷ [];
  behind = [];
  earlier = numbers ++ number ∷ [];
  later = [];
  done = done;
  edits_are = sym (append-nil (edits ++ Compact ∷ []));
  numbers_are = sym (append-nil (numbers ++ number ∷ []));
  are_done = compact_push edits numbers done number are;
  recovers = subst (λ (m : Units). RecoversAlone image m) is recovers;
}
