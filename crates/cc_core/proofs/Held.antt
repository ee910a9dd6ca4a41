-- What the images of the disk hold during a commit, one device step after the other. The reason: after a write each image is an
-- earlier image, except in the range of the write; after a sync there is only one image; and the journal's lemmas say what such
-- bytes hold.
use Rattle.std.proofs.Common.{◌≡◌, ◌⊎◌, inl, inr, ⊎_elim, true, false, cond, ℕ, ◌+◌, zero, suc, ◌*◌, ◌%◌, ◌<◌, ◌≤◌, List, [], ◌∷◌, ◌++◌, length, take, drop, get_or, refl, sym, ◌∙◌, ap, subst, arith, length-append}
use Rattle.std.proofs.lemmas.Nat.{mod_below}
use Rattle.std.proofs.lemmas.List.{take_at, drop_at, drop_more, take-take, take-append-le, length-take-le, length-map}
use Rattle.cc_disk.specs.Model.{Cell, bytes_of, IsImage, written, crashed, settled, left}
use Rattle.cc_disk.specs.internal.Laws.{bytes_are_image}
use Rattle.cc_disk.specs.Images.{IsWritten, DiffersWithin, LeavesAlone}
use Rattle.cc_disk.proofs.Images.{length-image, written_images, bytes_of-written, synced_alone, bytes_of-synced, synced_adds_none}
use Rattle.cc_journal.specs.Format.{header, open_gate, record_bytes, records, HoldsRecords}
use Rattle.cc_journal.specs.Commit.{area_begin}
use Rattle.cc_journal.specs.Journal.{HoldsFrom}
use Rattle.cc_journal.proofs.Records.{length-records_push, length-record_bytes}
use Rattle.cc_journal.proofs.Images.{frame, length-frame, behind_gate, at_gate, committed, length-written}
use Rattle.cc_library.specs.Change.{LibraryCommand}
use Rattle.cc_library.specs.Body.{body_of}
use Rattle.cc_core.specs.declared.contents.Due.{Due}
use Rattle.cc_core.specs.declared.contents.Due.TheVariants.{WriteBody, SyncBody, WriteGate, SyncGate, Acknowledge}
use Rattle.cc_core.specs.StoreState.{StoreState}
use Rattle.cc_core.specs.Store.{gate_of, stepped, due_after, FailsTo}
use Rattle.cc_core.specs.internal.Ready.{HasRoom}

-- the image holds these records, in the area that this area byte names
pub record HoldsIn (byte area : ℕ) (bodies : List (List ℕ)) (image : List ℕ) : Type 0 where
  pub holds : HoldsRecords image area bodies
  pub header_is : take 16 image ≡ header byte area

-- the image holds these records, or these and one more
abbrev pub HoldsInOneOf : ℕ → ℕ → List (List ℕ) → List ℕ → List ℕ → Type 0
HoldsInOneOf byte area bodies body image = HoldsIn byte area bodies image ⊎ HoldsIn byte area (bodies ++ body ∷ []) image

-- if `b` is 0 or 1, `b * n` is at most `n`
part_most : (b n : ℕ) → b < 2 → b * n ≤ n
part_most zero n lt = omega arith
part_most (suc zero) n lt = omega arith
part_most (suc (suc b)) n lt = absurd (omega arith)

pub begin_most : (byte area : ℕ) → area_begin byte area ≤ 16 + area
begin_most byte area = let le = part_most (byte % 2) area (mod_below byte 2 (omega arith)) in omega arith

pub begin_least : (byte area : ℕ) → 16 ≤ area_begin byte area
begin_least byte area = omega arith

first_of : List ℕ → ℕ
first_of [] = 0
first_of (x ∷ xs) = x

first_of-header : (b c area : ℕ) → header b area ≡ header c area → b ≡ c
unfolding first_of
first_of-header b c area same = ap first_of same

pub begins_behind : (b byte area n : ℕ) → b ≡ byte → n ≡ b % 2 * area → area_begin byte area ≡ 16 + n
begins_behind b byte area n same is = ap (λ (k : ℕ). 16 + k) (ap (λ (k : ℕ). k % 2 * area) (sym same) ∙ sym is)

-- if an image holds records in the area that `byte` names, its area byte is `byte`
pub byte_of : (byte area : ℕ) (bodies : List (List ℕ)) (image : List ℕ) (a : HoldsIn byte area bodies image) → a.holds.area_byte ≡ byte
byte_of byte area bodies image a =
    let h = a.holds in
    let prefix : header h.area_byte area ≡ header byte area =
    sym (take_at (header h.area_byte area) (h.other ++ (records bodies ++ h.gate ∷ h.behind)) 16 refl) ∙ sym (ap (λ (l : List ℕ). take 16 l) h.bytes) ∙ a.header_is in
    first_of-header h.area_byte byte area prefix

-- an image that holds records holds them in the area that its header names
pub holds_in : (area : ℕ) (bodies : List (List ℕ)) (image : List ℕ) (h : HoldsRecords image area bodies) → HoldsIn h.area_byte area bodies image
holds_in area bodies image h = record {
  holds = h;
  header_is = ap (λ (l : List ℕ). take 16 l) h.bytes ∙ take_at (header h.area_byte area) (h.other ++ (records bodies ++ h.gate ∷ h.behind)) 16 refl;
}

abbrev pub holds_from : (byte area : ℕ) (bodies : List (List ℕ)) (image : List ℕ) → HoldsIn byte area bodies image → HoldsFrom image (area_begin byte area) area bodies
holds_from byte area bodies image a =
    record { holds = a.holds; begins = begins_behind a.holds.area_byte byte area (length a.holds.other) (byte_of byte area bodies image a) a.holds.offset }

-- if two images differ only within a range after the header, they have the same header
same_header : (place n : ℕ) (old new : List ℕ) (prefix : List ℕ) → 16 ≤ place → DiffersWithin place n old new → take 16 old ≡ prefix → take 16 new ≡ prefix
same_header place n old new prefix le differs is =
    sym (take-take 16 place new le) ∙ ap (λ (l : List ℕ). take 16 l) differs.before ∙ take-take 16 place old le ∙ is

-- if bytes were written after the header, the header is the same
pub written_header : (place : ℕ) (bytes old new prefix : List ℕ) → 16 ≤ place → place ≤ length old → IsWritten old place bytes new → take 16 old ≡ prefix → take 16 new ≡ prefix
written_header place bytes old new prefix le within is same =
    ap (λ (l : List ℕ). take 16 l) is
    ∙ take-append-le 16 (take place old) (bytes ++ drop (place + length bytes) old) (omega (arith, le, length-take-le place old within))
    ∙ take-take 16 place old le ∙ same

-- writing bytes, and then one byte just before them, is the same as writing all of them at once
pub two_writes : (old : List ℕ) (g x : ℕ) (xs written new : List ℕ) → g + 1 ≤ length old → IsWritten old (g + 1) xs written → IsWritten written g (x ∷ []) new → IsWritten old g (x ∷ xs) new
two_writes old g x xs written new within first second =
    let rest = drop (g + 1 + length xs) old in
    let prefix : take g written ≡ take g old =
    ap (λ (l : List ℕ). take g l) first ∙ take-append-le g (take (g + 1) old) (xs ++ rest) (omega (arith, length-take-le (g + 1) old within)) ∙ take-take g (g + 1) old (omega arith) in
    let back : drop (g + 1) written ≡ xs ++ rest =
    ap (λ (l : List ℕ). drop (g + 1) l) first ∙ drop_at (take (g + 1) old) (xs ++ rest) (g + 1) (length-take-le (g + 1) old within) in
    let place : g + 1 + length xs ≡ g + length (x ∷ xs) = omega arith in
    second ∙ ap (λ (l : List ℕ). l ++ x ∷ drop (g + 1) written) prefix ∙ ap (λ (l : List ℕ). take g old ++ x ∷ l) (back ∙ ap (λ (k : ℕ). xs ++ drop k old) place)

module _ (byte area used : ℕ) (bodies : List (List ℕ)) (taken : used ≡ length (records bodies)) where
  -- if an image differs from the old bytes only after the closed gate, it still holds the old records
  behind_held : (n : ℕ) (old image : List ℕ) → HoldsIn byte area bodies old → DiffersWithin (area_begin byte area + used + 1) n old image → HoldsIn byte area bodies image
  behind_held n old image a differs =
      let least = begin_least byte area in
      record {
        holds = behind_gate old (area_begin byte area) area used bodies (holds_from byte area bodies old a) taken image n differs;
        header_is = same_header (area_begin byte area + used + 1) n old image (header byte area) (omega (arith, least)) differs a.header_is;
      }

  -- if a body was written after the gate, the image holds the old records, or these and the new one, whatever byte the gate is
  at_gate_held : (body old written image : List ℕ) → HoldsIn byte area bodies old → used + length body + 6 ≤ area → IsWritten old (area_begin byte area + used + 1) (frame body) written → length written ≡ length old
      → DiffersWithin (area_begin byte area + used) 1 written image → HoldsInOneOf byte area bodies body image
  at_gate_held body old written image a room is long differs =
      let least = begin_least byte area in
      let most = begin_most byte area in
      let begin = area_begin byte area in
      let within : begin + used + 1 ≤ length old = omega (arith, room, most, a.holds.is_area.room) in
      let head : take 16 image ≡ header byte area =
      same_header (begin + used) 1 written image (header byte area) (omega (arith, least)) differs (written_header (begin + used + 1) (frame body) old written (header byte area) (omega (arith, least)) within is a.header_is) in
      ⊎_elim
      (λ alone. inl (record { holds = alone.holds; header_is = head }))
      (λ alone. inr (record { holds = alone.holds; header_is = head }))
      (at_gate old begin area used bodies (holds_from byte area bodies old a) taken body written image room is long differs)

  -- if a body was written after the gate and the gate is open, the image holds the new record too
  opened_held : (body old written new : List ℕ) → HoldsIn byte area bodies old → used + length body + 6 ≤ area → IsWritten old (area_begin byte area + used + 1) (frame body) written
      → IsWritten written (area_begin byte area + used) (open_gate ∷ []) new → HoldsIn byte area (bodies ++ body ∷ []) new
  opened_held body old written new a room first second =
      let least = begin_least byte area in
      let most = begin_most byte area in
      let begin = area_begin byte area in
      let within : begin + used + 1 ≤ length old = omega (arith, room, most, a.holds.is_area.room) in
      let both = two_writes old (begin + used) open_gate (frame body) written new within first second in
      record {
        holds = (committed old begin area used bodies (holds_from byte area bodies old a) taken body new room both).holds;
        header_is = written_header (begin + used) (open_gate ∷ frame body) old new (header byte area) (omega (arith, least)) (omega (arith, within)) both a.header_is;
      }

-- ---- the disk at each point of a commit

-- the disk holds the records, and nothing unsettled could change them
pub record IsAtRest (store : StoreState) (bodies : List (List ℕ)) : Type 0 where
  pub taken : store.used ≡ length (records bodies)
  pub images : (image : List ℕ) → IsImage store.cells image → HoldsIn store.area_byte store.area bodies image

-- a body was written after the gate
pub record IsBodyWritten (store : StoreState) (bodies : List (List ℕ)) (body : List ℕ) : Type 0 where
  pub rest : IsAtRest store bodies
  pub before : List ℕ
  pub held : HoldsIn store.area_byte store.area bodies before
  pub long : length (bytes_of store.cells) ≡ length before
  pub seen : IsWritten before (gate_of store + 1) (frame body) (bytes_of store.cells)

-- the body was written and is settled
pub record IsBodySettled (store : StoreState) (bodies : List (List ℕ)) (body : List ℕ) : Type 0 where
  pub body_written : IsBodyWritten store bodies body
  pub alone : LeavesAlone (bytes_of store.cells) (IsImage store.cells)

-- the gate was written
pub record IsGateWritten (store : StoreState) (bodies : List (List ℕ)) (body : List ℕ) : Type 0 where
  pub taken : store.used ≡ length (records bodies)
  pub images : (image : List ℕ) → IsImage store.cells image → HoldsInOneOf store.area_byte store.area bodies body image
  pub seen : HoldsIn store.area_byte store.area (bodies ++ body ∷ []) (bytes_of store.cells)

-- the point of the commit at which this step is due
abbrev pub InCommit : Due → StoreState → List (List ℕ) → List ℕ → Type 0
InCommit WriteBody store bodies body = IsAtRest store bodies
InCommit SyncBody store bodies body = IsBodyWritten store bodies body
InCommit WriteGate store bodies body = IsBodySettled store bodies body
InCommit SyncGate store bodies body = IsGateWritten store bodies body
InCommit Acknowledge store bodies body = IsAtRest store (bodies ++ body ∷ [])

-- at each point of a commit, every image holds the old records, or these and the new one
pub commit_images : (due : Due) (store : StoreState) (bodies : List (List ℕ)) (body : List ℕ) → InCommit due store bodies body
    → (image : List ℕ) → IsImage store.cells image → HoldsInOneOf store.area_byte store.area bodies body image
commit_images WriteBody store bodies body c image now = inl (c.images image now)
commit_images SyncBody store bodies body c image now = inl (c.rest.images image now)
commit_images WriteGate store bodies body c image now = inl (c.body_written.rest.images image now)
commit_images SyncGate store bodies body c image now = c.images image now
commit_images Acknowledge store bodies body c image now = inr (c.images image now)

pub length-bytes_of : (cells : List Cell) → length (bytes_of cells) ≡ length cells
length-bytes_of cells = length-map cells (λ (c : Cell). c.byte)

-- a disk that holds records has room for the header and two areas
pub size_of : (store : StoreState) (bodies : List (List ℕ)) → HoldsIn store.area_byte store.area bodies (bytes_of store.cells) → 16 + 2 * store.area ≤ length store.cells
size_of store bodies a = omega (arith, a.holds.is_area.room, length-bytes_of store.cells)

-- whatever bytes are written after the gate, each image still holds the old records
body_images : (store : StoreState) (bodies : List (List ℕ)) (bytes : List ℕ) → IsAtRest store bodies → store.used + length bytes + 1 ≤ store.area
    → (image : List ℕ) → IsImage (written store.cells (gate_of store + 1) bytes) image → HoldsIn store.area_byte store.area bodies image
body_images store bodies bytes rest room image now =
    let size = size_of store bodies (rest.images (bytes_of store.cells) (bytes_are_image store.cells)) in
    let from = written_images store.cells (gate_of store + 1) bytes (omega (arith, size, room, begin_most store.area_byte store.area)) image now in
    behind_held store.area_byte store.area store.used bodies rest.taken (length bytes) from.0 image (rest.images from.0 from.1) from.2

-- whatever byte is written as the gate, each image holds the old records, or these and the new one
gate_images : (store : StoreState) (bodies : List (List ℕ)) (body : List ℕ) (byte : ℕ) → IsBodySettled store bodies body → store.used + length body + 6 ≤ store.area
    → (image : List ℕ) → IsImage (written store.cells (gate_of store) (byte ∷ [])) image → HoldsInOneOf store.area_byte store.area bodies body image
gate_images store bodies body byte s room image now =
    let w = s.body_written in
    let size = size_of store bodies (w.rest.images (bytes_of store.cells) (bytes_are_image store.cells)) in
    let from = written_images store.cells (gate_of store) (byte ∷ []) (omega (arith, size, room, begin_most store.area_byte store.area)) image now in
    let differs = subst (λ (old : List ℕ). DiffersWithin (gate_of store) 1 old image) (s.alone from.0 from.1) from.2 in
    at_gate_held store.area_byte store.area store.used bodies w.rest.taken body w.before (bytes_of store.cells) image w.held room w.seen w.long differs

-- each device step leads to the next point of the commit
pub commit_goes_on : (due : Due) (store : StoreState) (bodies : List (List ℕ)) (command : LibraryCommand) → HasRoom due store command → InCommit due store bodies (body_of command)
    → InCommit (due_after due) (stepped due command store) bodies (body_of command)
commit_goes_on WriteBody store bodies command room c =
    let body = body_of command in
    let size = size_of store bodies (c.images (bytes_of store.cells) (bytes_are_image store.cells)) in
    let is = bytes_of-written store.cells (gate_of store + 1) (frame body) in
    let held = c.images (bytes_of store.cells) (bytes_are_image store.cells) in
    record {
      rest = record { taken = c.taken; images = body_images store bodies (frame body) c (omega (arith, room.0, length-frame body)) };
      before = bytes_of store.cells;
      held = held;
      long = length-written (bytes_of store.cells) (area_begin store.area_byte store.area) store.area store.used bodies (holds_from store.area_byte store.area bodies (bytes_of store.cells) held) c.taken (gate_of store + 1) (frame body) _
          (omega (arith, room.0, length-frame body, size, length-bytes_of store.cells, begin_most store.area_byte store.area)) is;
      seen = is;
    }
commit_goes_on SyncBody store bodies command room c =
    let same = sym (bytes_of-synced store.cells) in
    record {
      body_written = record {
        rest = record { taken = c.rest.taken; images = λ image now. c.rest.images image (synced_adds_none store.cells image now) };
        before = c.before;
        held = c.held;
        long = subst (λ (l : List ℕ). length l ≡ length c.before) same c.long;
        seen = subst (λ (l : List ℕ). IsWritten c.before (gate_of store + 1) (frame (body_of command)) l) same c.seen;
      };
      alone = λ image now. synced_alone store.cells image now ∙ same;
    }
commit_goes_on WriteGate store bodies command room c =
    let body = body_of command in
    let w = c.body_written in
    let fits : store.used + length body + 6 ≤ store.area = omega (arith, room.0) in
    record {
      taken = w.rest.taken;
      images = gate_images store bodies body open_gate c fits;
      seen = opened_held store.area_byte store.area store.used bodies w.rest.taken body w.before (bytes_of store.cells) _ w.held fits w.seen (bytes_of-written store.cells (gate_of store) (open_gate ∷ []));
    }
commit_goes_on SyncGate store bodies command room c =
    let body = body_of command in
    record {
      taken = omega (arith, c.taken, length-records_push bodies body);
      images = λ image now. subst (λ (l : List ℕ). HoldsIn store.area_byte store.area (bodies ++ body ∷ []) l) (sym (synced_alone store.cells image now)) c.seen;
    }
commit_goes_on Acknowledge store bodies command room c = c

-- after a step there is still room for the command
pub room_goes_on : (due : Due) (store : StoreState) (command : LibraryCommand) → HasRoom due store command → HasRoom (due_after due) (stepped due command store) command
room_goes_on WriteBody store command room = room
room_goes_on SyncBody store command room = room
room_goes_on WriteGate store command room = room
room_goes_on SyncGate store command room = tt
room_goes_on Acknowledge store command room = tt

-- after a failed step, each image holds the old records, or these and the new one
pub failed_images : (due : Due) (store new : StoreState) (bodies : List (List ℕ)) (command : LibraryCommand) → HasRoom due store command → InCommit due store bodies (body_of command) → FailsTo due command store new
    → (image : List ℕ) → IsImage new.cells image → HoldsInOneOf new.area_byte new.area bodies (body_of command) image
failed_images WriteBody store new bodies command room c f =
    let body = body_of command in
    let P : StoreState → Type 0 = λ s. (image : List ℕ) → IsImage s.cells image → HoldsInOneOf s.area_byte s.area bodies body image in
    subst P (sym f.2) (λ image now. inl (body_images store bodies f.0 c (omega (arith, room.0, length-frame body, f.1)) image now))
failed_images SyncBody store new bodies command room c f =
    let P : StoreState → Type 0 = λ s. (image : List ℕ) → IsImage s.cells image → HoldsInOneOf s.area_byte s.area bodies (body_of command) image in
    subst P (sym f) (commit_images SyncBody store bodies (body_of command) c)
failed_images WriteGate store new bodies command room c f =
    let P : StoreState → Type 0 = λ s. (image : List ℕ) → IsImage s.cells image → HoldsInOneOf s.area_byte s.area bodies (body_of command) image in
    subst P (sym f.1) (gate_images store bodies (body_of command) f.0 c (omega (arith, room.0)))
failed_images SyncGate store new bodies command room c f =
    let P : StoreState → Type 0 = λ s. (image : List ℕ) → IsImage s.cells image → HoldsInOneOf s.area_byte s.area bodies (body_of command) image in
    subst P (sym f) (commit_images SyncGate store bodies (body_of command) c)
failed_images Acknowledge store new bodies command room c f = absurd f

-- ---- a crash

-- a crash leaves one of the images
pub crashed_image : (cells : List Cell) (choice : List ℕ) → IsImage cells (bytes_of (crashed cells choice))
crashed_image [] choice = tt
crashed_image (cell ∷ cells) [] = (left_byte cell 0, crashed_image cells [])
  where
    left_byte : (cell : Cell) (byte : ℕ) → cell.settled ≡ true → (left cell byte).byte ≡ cell.byte
    left_byte cell byte is = ap (λ b. (cond b (settled cell.byte) (settled byte)).byte) is
crashed_image (cell ∷ cells) (byte ∷ choice) = (left_byte cell byte, crashed_image cells choice)
  where
    left_byte : (cell : Cell) (byte : ℕ) → cell.settled ≡ true → (left cell byte).byte ≡ cell.byte
    left_byte cell byte is = ap (λ b. (cond b (settled cell.byte) (settled byte)).byte) is

-- after a crash every byte is settled
pub crashed_alone : (cells : List Cell) (choice : List ℕ) → LeavesAlone (bytes_of (crashed cells choice)) (IsImage (crashed cells choice))
crashed_alone [] choice [] now = refl
crashed_alone [] choice (b ∷ image) now = absurd now
crashed_alone (cell ∷ cells) [] [] now = absurd now
crashed_alone (cell ∷ cells) [] (b ∷ image) now = (λ i. now.0 (left_settled cell 0) i ∷ crashed_alone cells [] image now.1 i)
  where
    left_settled : (cell : Cell) (byte : ℕ) → (left cell byte).settled ≡ true
    left_settled cell byte = elim (cell.settled) as (λ b. (cond b (settled cell.byte) (settled byte)).settled ≡ true) [ true ↦ refl | false ↦ refl ]
crashed_alone (cell ∷ cells) (byte ∷ choice) [] now = absurd now
crashed_alone (cell ∷ cells) (byte ∷ choice) (b ∷ image) now = (λ i. now.0 (left_settled cell byte) i ∷ crashed_alone cells choice image now.1 i)
  where
    left_settled : (cell : Cell) (byte : ℕ) → (left cell byte).settled ≡ true
    left_settled cell byte = elim (cell.settled) as (λ b. (cond b (settled cell.byte) (settled byte)).settled ≡ true) [ true ↦ refl | false ↦ refl ]

-- if nothing on a disk is unsettled, a crash leaves its bytes unchanged
pub crashed_same : (cells : List Cell) (choice : List ℕ) → LeavesAlone (bytes_of cells) (IsImage cells) → bytes_of (crashed cells choice) ≡ bytes_of cells
crashed_same cells choice alone = alone (bytes_of (crashed cells choice)) (crashed_image cells choice)

pub length-crashed : (cells : List Cell) (choice : List ℕ) → length (crashed cells choice) ≡ length cells
length-crashed cells choice = sym (length-bytes_of (crashed cells choice)) ∙ length-image cells (bytes_of (crashed cells choice)) (crashed_image cells choice)

-- ---- the number of bytes that records take

-- if `taken` and the bytes of the records from `i` on make up the bytes of all records, this still holds once record `i` has
-- been counted
pub taken_more : (bodies : List (List ℕ)) (i taken : ℕ) (d : List ℕ) → i < length bodies → taken + length (records (drop i bodies)) ≡ length (records bodies)
    → taken + (length (get_or bodies i d) + 5) + length (records (drop (i + 1) bodies)) ≡ length (records bodies)
taken_more bodies i taken d within so_far =
    let body = get_or bodies i d in
    let parts : length (records (drop i bodies)) ≡ length (record_bytes body) + length (records (drop (i + 1) bodies)) =
    ap (λ (l : List (List ℕ)). length (records l)) (drop_more bodies i d within) ∙ length-append (record_bytes body) (records (drop (i + 1) bodies)) in
    omega (arith, so_far, parts, length-record_bytes body)
