-- What the type of a journal keeps, and how an `append` and a `rewrite` keep it.
use Rattle.std.proofs.Common.{◌≡◌, ℕ, ◌≢◌, ◌+◌, ◌*◌, ◌%◌, ◌≤◌, Bool, false, inl, ⊎_elim, IsTrue, List, [], ◌∷◌, ◌++◌, length, get_or, sym, ap, ◌∙◌, subst, arith, append_assoc}
use Rattle.std.specs.Int.{w32, to_le_bytes}
use Rattle.cc_disk.specs.Images.{IsWritten, LeavesAlone, LeavesOnly}
use Rattle.cc_journal.specs.Format.{record_bytes, records, room_of, IsArea, HoldsAlone, HoldsOldOrNew, HoldsOneOf, HasAreaByte}
use Rattle.cc_journal.specs.Journal.{IsKept, HoldsFrom}
use Rattle.cc_journal.specs.Commit.{Commit, append_commit, rewrite_commit, area_begin, other_area, IsCommitted}
use Rattle.cc_journal.specs.internal.Commit.{IsMidCommit}
use Rattle.cc_journal.proofs.Records.{holds_alone, length-records_push}
use Rattle.cc_journal.proofs.Images.{mid_commit, committed, appended}
use Rattle.cc_journal.proofs.Rewriting.{sides, rewriting, rewritten}
use Rattle.std.proofs.lemmas.Bool.{cases_eq}
use Rattle.cc_journal.proofs.Moments.{started, weakened}

-- while a journal is not closed, every image of an honest disk has exactly its records
pub kept_alone : (honest : Bool) (size : ℕ) (seen : List ℕ) (may_leave : List ℕ → Type 0) (start area used : ℕ) (bodies : List (List ℕ)) (closed : Bool) → IsKept honest size seen may_leave start area used bodies closed
    → IsTrue honest → closed ≡ false → (image : List ℕ) → may_leave image → HoldsAlone image area bodies
kept_alone honest size seen may_leave start area used bodies closed kept h not_closed image now =
    subst (λ (l : List ℕ). HoldsAlone l area bodies) (sym (kept.alone h not_closed image now)) (holds_alone seen area bodies (kept.holds h not_closed).holds)

-- one more record and the closed gate take the record's body and 6 bytes in addition to the records
pub room_push : (bodies : List (List ℕ)) (body : List ℕ) (used : ℕ) → used ≡ length (records bodies) → room_of (bodies ++ body ∷ []) ≡ used + (length body + 6)
room_push bodies body used taken = omega (arith, taken, length-records_push bodies body)

-- if the code works out the area byte from the area's offset, that byte names the same other area as the
-- disk's area byte
same_other : (start area b side : ℕ) → 1 ≤ area → start ≡ 16 + b % 2 * area → (start ≡ 16 → side ≡ 0) → (start ≢ 16 → side ≡ 1) → other_area side ≡ other_area b
same_other start area b side some is zero one =
    ⊎_elim
    (λ even. let first : start ≡ 16 = is ∙ ap (λ (k : ℕ). 16 + k * area) even ∙ omega arith in omega (arith, even, zero first))
    (λ odd.
    let bit : b % 2 ≡ 1 = omega (arith, odd) in
    let second : start ≡ 16 + area = is ∙ ap (λ (k : ℕ). 16 + k * area) bit ∙ omega arith in
    let behind : start ≢ 16 = λ e. absurd (omega (arith, e, second, some)) in
    omega (arith, bit, one behind))
    (cases_eq (b % 2) 0)

module _ {D : Type 0} (honest : Bool) (size : D → ℕ) (seen : D → List ℕ) (may_leave : D → List ℕ → Type 0) (moment : D → ℕ) (left_since : D → ℕ → List ℕ → Type 0)
    (disk : D) (start area used : ℕ) (bodies : List (List ℕ)) (closed : Bool) (kept : IsKept honest (size disk) (seen disk) (may_leave disk) start area used bodies closed) (body : List ℕ) where
  -- if no device call was made, a crash leaves the old records
  pub still : ((image : List ℕ) → left_since disk (moment disk) image → may_leave disk image) → IsTrue honest → closed ≡ false → LeavesOnly moment left_since disk disk (HoldsOldOrNew area bodies body)
  still only_now h not_closed =
      started moment left_since disk (HoldsOldOrNew area bodies body) (λ image left. inl (kept_alone honest (size disk) (seen disk) (may_leave disk) start area used bodies closed kept h not_closed image (only_now image left)))

  -- if an append was committed, or broke off, a crash leaves the old records, or those and the new one
  pub in_commit : (new : D) (commit : Commit) → commit ≡ append_commit (start + used) body → used + length body + 6 ≤ area → IsTrue honest → closed ≡ false
      → (LeavesAlone (seen disk) (may_leave disk) → LeavesOnly moment left_since disk new (IsMidCommit commit (seen disk))) → LeavesOnly moment left_since disk new (HoldsOldOrNew area bodies body)
  in_commit new commit is room h not_closed run =
      weakened moment left_since disk new (IsMidCommit commit (seen disk)) (HoldsOldOrNew area bodies body) (run (kept.alone h not_closed))
      (λ image mid. mid_commit (seen disk) start area used bodies (kept.holds h not_closed) kept.taken body image room (subst (λ (c : Commit). IsMidCommit c (seen disk) image) is mid))

  -- a committed append amounts to one write of the record and a closed gate
  pub appended_bytes : (new : D) (commit : Commit) → commit ≡ append_commit (start + used) body → used + length body + 6 ≤ area → IsTrue honest → closed ≡ false
      → IsCommitted commit (seen disk) (seen new) → IsWritten (seen disk) (start + used) (record_bytes body ++ 0 ∷ []) (seen new)
  appended_bytes new commit is room h not_closed done =
      subst (λ (l : List ℕ). IsWritten (seen disk) (start + used) l (seen new)) (ap (λ (l : List ℕ). 0xa5 ∷ l) (sym (append_assoc (to_le_bytes w32 (length body)) body (0 ∷ []))))
      (appended (seen disk) start area used bodies (kept.holds h not_closed) kept.taken body (seen new) room (subst (λ (c : Commit). IsCommitted c (seen disk) (seen new)) is done))

  -- after an append the journal again has what its type keeps
  pub kept_more : (new : D) (commit : Commit) (more : List (List ℕ)) (taken : ℕ) → commit ≡ append_commit (start + used) body → more ≡ bodies ++ body ∷ [] → taken ≡ used + (length body + 5)
      → used + length body + 6 ≤ area → size new ≡ size disk → closed ≡ false
      → (IsTrue honest → IsCommitted commit (seen disk) (seen new)) → (IsTrue honest → LeavesAlone (seen new) (may_leave new))
      → IsKept honest (size new) (seen new) (may_leave new) start area taken more closed
  kept_more new commit more taken is pushed counted room same not_closed done alone = record {
    is_area = subst (λ (n : ℕ). IsArea n area) (sym same) kept.is_area;
    begins = kept.begins;
    taken = omega (arith, counted, kept.taken, length-records_push bodies body, ap (λ (l : List (List ℕ)). length (records l)) pushed);
    fits = omega (arith, room, kept.taken, length-records_push bodies body, ap (λ (l : List (List ℕ)). length (records l)) pushed);
    alone = λ h _. alone h;
    holds = λ h _.
        let from = kept.holds h not_closed in
        subst (λ (l : List (List ℕ)). HoldsFrom (seen new) start area l) (sym pushed)
        (committed (seen disk) start area used bodies from kept.taken body (seen new) room
        (appended (seen disk) start area used bodies from kept.taken body (seen new) room (subst (λ (c : Commit). IsCommitted c (seen disk) (seen new)) is (done h))));
  }

module _ {D : Type 0} (honest : Bool) (size : D → ℕ) (seen : D → List ℕ) (may_leave : D → List ℕ → Type 0) (moment : D → ℕ) (left_since : D → ℕ → List ℕ → Type 0)
    (disk : D) (start area used : ℕ) (bodies : List (List ℕ)) (closed : Bool) (kept : IsKept honest (size disk) (seen disk) (may_leave disk) start area used bodies closed) (more : List (List ℕ)) where
  -- if no device call was made, a crash leaves the old records
  pub still_either : ((image : List ℕ) → left_since disk (moment disk) image → may_leave disk image) → IsTrue honest → closed ≡ false → LeavesOnly moment left_since disk disk (HoldsOneOf area bodies more)
  still_either only_now h not_closed =
      started moment left_since disk (HoldsOneOf area bodies more) (λ image left. inl (kept_alone honest (size disk) (seen disk) (may_leave disk) start area used bodies closed kept h not_closed image (only_now image left)))

  module _ (new : D) (commit : Commit) (side : ℕ) (is : commit ≡ rewrite_commit side area more) (zero : start ≡ 16 → side ≡ 0) (one : start ≢ 16 → side ≡ 1) (room : room_of more ≤ area) (not_closed : closed ≡ false) where
    -- the commit is the rewrite for the disk's own area byte
    by_disk : (h : IsTrue honest) → commit ≡ rewrite_commit (kept.holds h not_closed).holds.area_byte area more
    by_disk h =
        let from = kept.holds h not_closed in
        let other = same_other start area from.holds.area_byte side (omega (arith, kept.is_area.least)) (from.begins ∙ ap (λ (n : ℕ). 16 + n) from.holds.offset) zero one in
        is ∙ (λ i. record { offset = area_begin (other i) area; bytes = records more ++ 0 ∷ []; deciding_offset = 0; deciding_byte = other i })

    -- if a rewrite was committed, or broke off, a crash leaves the old records or the new ones
    pub in_rewrite : IsTrue honest → (LeavesAlone (seen disk) (may_leave disk) → LeavesOnly moment left_since disk new (IsMidCommit commit (seen disk))) → LeavesOnly moment left_since disk new (HoldsOneOf area bodies more)
    in_rewrite h run =
        weakened moment left_since disk new (IsMidCommit commit (seen disk)) (HoldsOneOf area bodies more) (run (kept.alone h not_closed))
        (λ image mid. rewriting (seen disk) start area bodies (kept.holds h not_closed) more room image (subst (λ (c : Commit). IsMidCommit c (seen disk) image) (by_disk h) mid))

    -- after a rewrite the disk has the bytes that the commit makes, given the disk's area byte
    pub rewritten_bytes : IsTrue honest → IsCommitted commit (seen disk) (seen new) → (area_byte : ℕ) × HasAreaByte (seen disk) area_byte area × IsCommitted (rewrite_commit area_byte area more) (seen disk) (seen new)
    rewritten_bytes h done =
        let holds = (kept.holds h not_closed).holds in
        (holds.area_byte, (_, holds.bytes), subst (λ (c : Commit). IsCommitted c (seen disk) (seen new)) (by_disk h) done)

    -- if `X` is true of the commit, it is true of the rewrite for any area byte that the disk has, since the
    -- disk has only one
    pub at_byte : (h : IsTrue honest) (area_byte : ℕ) (X : Commit → Type 0) → HasAreaByte (seen disk) area_byte area → X commit → X (rewrite_commit area_byte area more)
    at_byte h area_byte X has it =
        let holds = (kept.holds h not_closed).holds in
        let same : area_byte ≡ holds.area_byte = sym (ap (λ (l : List ℕ). get_or l 0 0) has.1) ∙ ap (λ (l : List ℕ). get_or l 0 0) holds.bytes in
        subst X (by_disk h ∙ ap (λ (b : ℕ). rewrite_commit b area more) (sym same)) it

    -- after a rewrite the journal again has what its type keeps
    pub kept_rewritten : (begin taken : ℕ) → begin ≡ commit.offset → taken ≡ length (records more) → size new ≡ size disk
        → (IsTrue honest → IsCommitted commit (seen disk) (seen new)) → (IsTrue honest → LeavesAlone (seen new) (may_leave new))
        → IsKept honest (size new) (seen new) (may_leave new) begin area taken more closed
    kept_rewritten begin taken begins counted same done alone =
        let offset : begin ≡ area_begin (other_area side) area = begins ∙ ap (λ (c : Commit). c.offset) is in
        record {
          is_area = subst (λ (n : ℕ). IsArea n area) (sym same) kept.is_area;
          begins = ⊎_elim (λ a. omega (arith, offset, a.1)) (λ z. omega (arith, offset, z.1)) (sides side area);
          taken = counted;
          fits = room;
          alone = λ h _. alone h;
          holds = λ h _.
              subst (λ (n : ℕ). HoldsFrom (seen new) n area more) (sym (begins ∙ ap (λ (c : Commit). c.offset) (by_disk h)))
              (rewritten (seen disk) start area bodies (kept.holds h not_closed) more room (seen new) (subst (λ (c : Commit). IsCommitted c (seen disk) (seen new)) (by_disk h) (done h)));
        }
