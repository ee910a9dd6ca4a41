-- What the images of a commit hold. How: a disk that holds records is a prefix, the closed gate, and the bytes after it; an
-- append changes the bytes after the gate, and then only the gate.
use Rattle.std.proofs.Common.{◌≡◌, ◌≢◌, inl, inr, ⊎_elim, ℕ, ◌+◌, ◌*◌, ◌%◌, ◌<◌, ◌≤◌, List, [], ◌∷◌, ◌++◌, length, get_or, take, drop, sym, ◌∙◌, ap, subst, arith, length-append, append_assoc, take-append-drop}
use Rattle.std.proofs.lemmas.Bool.{cases_eq}
use Rattle.std.proofs.lemmas.List.{take_at, drop_at, drop_more, length-take-le, length-drop, take-append-le}
use Rattle.std.specs.Int.{w32, to_le_bytes}
use Rattle.std.proofs.Math.Nat.{mul-le-mul_right}
use Rattle.cc_disk.specs.Images.{IsWritten, DiffersWithin}
use Rattle.cc_journal.specs.Format.{open_gate, header, record_bytes, records, IsArea, HoldsRecords, HoldsOldOrNew}
use Rattle.cc_journal.specs.Journal.{HoldsFrom}
use Rattle.cc_journal.specs.Commit.{append_commit, IsCommitted}
use Rattle.cc_journal.specs.internal.Commit.{IsMidCommit}
use Rattle.cc_journal.proofs.Records.{length-header, length-four_bytes, records_push, length-records_push, holds_alone}

-- the bytes that an append writes after a gate
abbrev pub frame : List ℕ → List ℕ
frame body = to_le_bytes w32 (length body) ++ (body ++ 0 ∷ [])

pub length-frame : (body : List ℕ) → length (frame body) ≡ length body + 5
length-frame body = omega (arith, length-append (to_le_bytes w32 (length body)) (body ++ 0 ∷ []), length-append body (0 ∷ []), length-four_bytes (length body))

-- ---- two writes

module _ (old new : List ℕ) where
  -- a write within the bytes keeps their length
  pub length_written : (offset : ℕ) (bytes : List ℕ) → offset + length bytes ≤ length old → IsWritten old offset bytes new → length new ≡ length old
  length_written offset bytes fits is =
      ap length is ∙ length-append (take offset old) (bytes ++ drop (offset + length bytes) old)
      ∙ omega (arith, fits, length-append bytes (drop (offset + length bytes) old), length-take-le offset old (omega (arith, fits)), length-drop (offset + length bytes) old)

  -- a write changes nothing before its range or after it
  pub written_differs : (offset : ℕ) (bytes : List ℕ) → offset + length bytes ≤ length old → IsWritten old offset bytes new → DiffersWithin offset (length bytes) old new
  written_differs offset bytes fits is =
      let Z = drop (offset + length bytes) old in
      let long = length-take-le offset old (omega (arith, fits)) in
      record {
        before = ap (λ (l : List ℕ). take offset l) is ∙ take_at (take offset old) (bytes ++ Z) offset long;
        behind = ap (λ (l : List ℕ). drop (offset + length bytes) l) (is ∙ sym (append_assoc (take offset old) bytes Z))
            ∙ drop_at (take offset old ++ bytes) Z (offset + length bytes) (omega (arith, length-append (take offset old) bytes, long));
        size = length_written offset bytes fits is;
      }

  -- writing bytes, and then one byte just before them, is the same as writing all of them at once
  pub in_one_write : (staged : List ℕ) (gate byte : ℕ) (bytes : List ℕ) → gate + 1 + length bytes ≤ length old → IsWritten old (gate + 1) bytes staged → IsWritten staged gate (byte ∷ []) new → IsWritten old gate (byte ∷ bytes) new
  in_one_write staged gate byte bytes fits first second =
      let Z = drop (gate + 1 + length bytes) old in
      let long = length-take-le (gate + 1) old (omega (arith, fits)) in
      let prefix : take gate staged ≡ take gate old =
      ap (λ (l : List ℕ). take gate l) first ∙ take-append-le gate (take (gate + 1) old) (bytes ++ Z) (omega (arith, long))
      ∙ sym (take-append-le gate (take (gate + 1) old) (drop (gate + 1) old) (omega (arith, long))) ∙ ap (λ (l : List ℕ). take gate l) (take-append-drop (gate + 1) old) in
      let rest : drop (gate + 1) staged ≡ bytes ++ Z = ap (λ (l : List ℕ). drop (gate + 1) l) first ∙ drop_at (take (gate + 1) old) (bytes ++ Z) (gate + 1) long in
      let tail : Z ≡ drop (gate + length (byte ∷ bytes)) old = ap (λ (n : ℕ). drop n old) (omega arith) in
      second ∙ (λ i. prefix i ++ byte ∷ rest i) ∙ ap (λ (l : List ℕ). take gate old ++ byte ∷ (bytes ++ l)) tail

module _ (image : List ℕ) (start area used : ℕ) (bodies : List (List ℕ)) (from : HoldsFrom image start area bodies) (taken : used ≡ length (records bodies)) where
  abbrev h : HoldsRecords image area bodies
  h = from.holds

  -- the bytes before the closed gate
  abbrev prefix : List ℕ
  prefix = header h.area_byte area ++ (h.other ++ records bodies)

  length-prefix : length prefix ≡ start + used
  length-prefix = omega (arith, length-append (header h.area_byte area) (h.other ++ records bodies), length-header h.area_byte area, length-append h.other (records bodies), from.begins, taken)

  regroup : (tail : List ℕ) → prefix ++ tail ≡ header h.area_byte area ++ (h.other ++ (records bodies ++ tail))
  regroup tail = append_assoc (header h.area_byte area) (h.other ++ records bodies) tail ∙ ap (λ (l : List ℕ). header h.area_byte area ++ l) (append_assoc h.other (records bodies) tail)

  pub in_two : image ≡ prefix ++ h.gate ∷ h.behind
  in_two = h.bytes ∙ sym (regroup (h.gate ∷ h.behind))

  -- an image that has this prefix and then a closed gate holds the old records
  pub holds_old : (other : List ℕ) (gate : ℕ) (behind : List ℕ) → length other ≡ length image → other ≡ prefix ++ gate ∷ behind → gate ≢ open_gate → HoldsRecords other area bodies
  holds_old other gate behind long is closed = record {
    area_byte = h.area_byte;
    other = h.other;
    gate = gate;
    behind = behind;
    bytes = is ∙ regroup (gate ∷ behind);
    offset = h.offset;
    closed = closed;
    fits = h.fits;
    is_area = subst (λ (n : ℕ). IsArea n area) (sym long) h.is_area;
  }

  -- if the new record comes after the old ones, with its gate open, an image holds the new record too
  pub holds_new : (other body behind : List ℕ) → length other ≡ length image → used + length body + 6 ≤ area → other ≡ prefix ++ open_gate ∷ (frame body ++ behind) → HoldsFrom other start area (bodies ++ body ∷ [])
  holds_new other body behind long room is = record {
    holds = record {
      area_byte = h.area_byte;
      other = h.other;
      gate = 0;
      behind = behind;
      bytes = is ∙ regroup (open_gate ∷ (frame body ++ behind)) ∙ ap (λ (l : List ℕ). header h.area_byte area ++ (h.other ++ l)) pushed;
      offset = h.offset;
      closed = λ e. absurd (omega (arith, e));
      fits = omega (arith, length-records_push bodies body, taken);
      is_area = subst (λ (n : ℕ). IsArea n area) (sym long) h.is_area;
    };
    begins = from.begins;
  }
    where
      pushed : records bodies ++ open_gate ∷ (frame body ++ behind) ≡ records (bodies ++ body ∷ []) ++ 0 ∷ behind
      pushed = ap (λ (l : List ℕ). records bodies ++ open_gate ∷ l) (append_assoc (to_le_bytes w32 (length body)) (body ++ 0 ∷ []) behind ∙ ap (λ (l : List ℕ). to_le_bytes w32 (length body) ++ l) (append_assoc body (0 ∷ []) behind) ∙ sym (append_assoc (to_le_bytes w32 (length body)) body (0 ∷ behind)))
          ∙ sym (append_assoc (records bodies) (record_bytes body) (0 ∷ behind)) ∙ ap (λ (l : List ℕ). l ++ 0 ∷ behind) (sym (records_push bodies body))

  take-prefix : take (start + used) image ≡ prefix
  take-prefix = ap (λ (l : List ℕ). take (start + used) l) in_two ∙ take_at prefix (h.gate ∷ h.behind) (start + used) length-prefix

  prefix_gate : prefix ++ h.gate ∷ [] ≡ take (start + used + 1) image
  prefix_gate = sym (ap (λ (l : List ℕ). take (start + used + 1) l) (in_two ∙ sym (append_assoc prefix (h.gate ∷ []) h.behind)) ∙ take_at (prefix ++ h.gate ∷ []) h.behind (start + used + 1) (omega (arith, length-append prefix (h.gate ∷ []), length-prefix)))

  -- whatever the write of the body leaves, it leaves the closed gate, and so the old records
  pub behind_gate : (other : List ℕ) (n : ℕ) → DiffersWithin (start + used + 1) n image other → HoldsRecords other area bodies
  behind_gate other n differs =
      let is : other ≡ prefix ++ h.gate ∷ drop (start + used + 1) other =
      sym (take-append-drop (start + used + 1) other) ∙ ap (λ (l : List ℕ). l ++ drop (start + used + 1) other) (differs.before ∙ sym prefix_gate) ∙ append_assoc prefix (h.gate ∷ []) (drop (start + used + 1) other) in
      holds_old other h.gate (drop (start + used + 1) other) differs.size is h.closed

  -- the write of the gate leaves the old records, or those and the new one
  pub at_gate : (body written other : List ℕ) → used + length body + 6 ≤ area → IsWritten image (start + used + 1) (frame body) written → length written ≡ length image → DiffersWithin (start + used) 1 written other
      → HoldsOldOrNew area bodies body other
  at_gate body written other room is long differs =
      let g = start + used in
      let Z = drop (g + 1 + length (frame body)) image in
      let staged : written ≡ prefix ++ h.gate ∷ (frame body ++ Z) = is ∙ ap (λ (l : List ℕ). l ++ (frame body ++ Z)) (sym prefix_gate) ∙ append_assoc prefix (h.gate ∷ []) (frame body ++ Z) in
      let x = get_or other g 0 in
      let before : take g other ≡ prefix = differs.before ∙ ap (λ (l : List ℕ). take g l) staged ∙ take_at prefix (h.gate ∷ (frame body ++ Z)) g length-prefix in
      let rest : drop (g + 1) other ≡ frame body ++ Z =
      differs.behind ∙ ap (λ (l : List ℕ). drop (g + 1) l) (staged ∙ sym (append_assoc prefix (h.gate ∷ []) (frame body ++ Z))) ∙ drop_at (prefix ++ h.gate ∷ []) (frame body ++ Z) (g + 1) (omega (arith, length-append prefix (h.gate ∷ []), length-prefix)) in
      let within : g < length other = omega (arith, differs.size, ap length staged, length-append prefix (h.gate ∷ (frame body ++ Z)), length-prefix) in
      let whole : other ≡ prefix ++ x ∷ (frame body ++ Z) =
      sym (take-append-drop g other) ∙ ap (λ (l : List ℕ). l ++ drop g other) before ∙ ap (λ (l : List ℕ). prefix ++ l) (drop_more other g 0 within ∙ ap (λ (l : List ℕ). x ∷ l) rest) in
      ⊎_elim
      (λ is_open. inr (holds_alone other area (bodies ++ body ∷ []) (holds_new other body Z (differs.size ∙ long) room (whole ∙ ap (λ (k : ℕ). prefix ++ k ∷ (frame body ++ Z)) is_open)).holds))
      (λ shut. inl (holds_alone other area bodies (holds_old other x (frame body ++ Z) (differs.size ∙ long) whole shut)))
      (cases_eq x open_gate)

  -- a write within the image keeps the image's length
  pub length-written : (offset : ℕ) (bytes written : List ℕ) → offset + length bytes ≤ length image → IsWritten image offset bytes written → length written ≡ length image
  length-written offset bytes written fits is =
      ap length is ∙ length-append (take offset image) (bytes ++ drop (offset + length bytes) image)
      ∙ omega (arith, fits, length-append bytes (drop (offset + length bytes) image), length-take-le offset image (omega (arith, fits)), length-drop (offset + length bytes) image)

  in_area : (n : ℕ) → used + n ≤ area → start + used + n ≤ length image
  in_area n room = omega (arith, room, from.begins, h.is_area.room, start_most)
    where
      start_most : length h.other ≤ area
      start_most = at_most h.area_byte (length h.other) h.offset
        where
          at_most : (b n : ℕ) → n ≡ b % 2 * area → n ≤ area
          at_most b n is = omega (arith, is, mul-le-mul_right {m = b % 2} {n = 1} area (omega arith))

  pub mid_commit : (body other : List ℕ) → used + length body + 6 ≤ area → IsMidCommit (append_commit (start + used) body) image other → HoldsOldOrNew area bodies body other
  mid_commit body other room (inl differs) = inl (holds_alone other area bodies (behind_gate other (length (frame body)) differs))
  mid_commit body other room (inr (written, is, differs)) =
      at_gate body written other room is (length-written (start + used + 1) (frame body) written (omega (arith, in_area (1 + length (frame body)) (omega (arith, room, length-frame body)))) is) differs

  -- one write of a whole record leaves the old records and the new one
  pub committed : (body written : List ℕ) → used + length body + 6 ≤ area → IsWritten image (start + used) (open_gate ∷ frame body) written → HoldsFrom written start area (bodies ++ body ∷ [])
  committed body written room is =
      let Z = drop (start + used + length (open_gate ∷ frame body)) image in
      holds_new written body Z
      (length-written (start + used) (open_gate ∷ frame body) written (omega (arith, in_area (1 + length (frame body)) (omega (arith, room, length-frame body)))) is)
      room (is ∙ ap (λ (l : List ℕ). l ++ open_gate ∷ (frame body ++ Z)) take-prefix)

  -- a committed append amounts to one write of the record, with its gate open, and a closed gate
  pub appended : (body new : List ℕ) → used + length body + 6 ≤ area → IsCommitted (append_commit (start + used) body) image new → IsWritten image (start + used) (open_gate ∷ frame body) new
  appended body new room done =
      in_one_write image new done.0 (start + used) open_gate (frame body) (omega (arith, in_area (1 + length (frame body)) (omega (arith, room, length-frame body)))) done.1 done.2
