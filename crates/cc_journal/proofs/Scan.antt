-- What is found by reading one record after the other. How: the bytes of the area are the records read so far, followed by the
-- rest; any list of records that the bytes begin with continues those that were read.
use Rattle.std.proofs.Common.{◌≡◌, Bool, IsTrue, Err, if◌then◌else◌, ℕ, ◌+◌, ◌-◌, ◌*◌, ◌%◌, ◌^◌, ◌<◌, ◌≤◌, List, [], ◌∷◌, ◌++◌, length, take, drop, refl, sym, ◌∙◌, ap, arith, length-append, append_assoc, take-append-drop}
use Rattle.std.proofs.lemmas.List.{drop_at, drop-drop, length-take-le}
use Rattle.std.proofs.Math.Nat.{mul-le-mul_right}
use Rattle.cc_disk.specs.Images.{OnlyReads}
use Rattle.cc_journal.specs.Format.{open_gate, header, record_bytes, records, room_of, IsArea, HoldsRecords, HasHeader}
use Rattle.cc_journal.specs.Journal.{HoldsFrom}
use Rattle.cc_journal.specs.internal.Reading.{BeginsWith, EndsClosed}
use Rattle.cc_journal.specs.Answers.{OpenFaults}
use Rattle.cc_journal.specs.internal.Reading.{IsReadingFault, is_fault_of_disk}
use Rattle.cc_journal.specs.declared.fault.JournalFault.{JournalFault}
use Rattle.cc_journal.specs.declared.fault.JournalFault.TheVariants.{Full, DiskFault, Closed, Damaged, NotALibrary, OutOfMemory}
use Rattle.cc_journal.proofs.Records.{length-header, header_same, length-record_bytes, records-append, records_push, records_prefix}

-- after one more record was read, the bytes are again the records read so far, followed by the rest
pub record_on : (bytes : List ℕ) (start used : ℕ) (bodies : List (List ℕ)) (body rest : List ℕ) → drop start bytes ≡ records bodies ++ drop (start + used) bytes → drop (start + used) bytes ≡ record_bytes body ++ rest
    → drop start bytes ≡ records (bodies ++ body ∷ []) ++ drop (start + (used + (length body + 5))) bytes
record_on bytes start used bodies body rest so_far is =
    let tail : rest ≡ drop (start + (used + (length body + 5))) bytes =
    sym (drop_at (record_bytes body) rest (length body + 5) (length-record_bytes body)) ∙ ap (λ (l : List ℕ). drop (length body + 5) l) (sym is) ∙ drop-drop (length body + 5) (start + used) bytes
    ∙ ap (λ (k : ℕ). drop k bytes) (omega arith) in
    let pushed = sym (records_push bodies body) in
    so_far ∙ ap (λ (l : List ℕ). records bodies ++ l) is ∙ sym (append_assoc (records bodies) (record_bytes body) rest) ∙ (λ i. pushed i ++ tail i)

-- if an open gate comes before a record that does not fit, the bytes hold no list of records
pub none_ends : (bytes : List ℕ) (start used area : ℕ) (bodies others : List (List ℕ)) → area ≤ 2 ^ 30 → used ≡ length (records bodies) → used + 1 ≤ area → drop start bytes ≡ records bodies ++ drop (start + used) bytes
    → (rest : List ℕ) → drop (start + used) bytes ≡ open_gate ∷ rest → ((body rest : List ℕ) → drop (start + used) bytes ≡ record_bytes body ++ rest → length body < 2 ^ 32 → area - used < length body + 6)
    → EndsClosed (drop start bytes) others → room_of others ≤ area → ⊥
none_ends bytes start used area bodies others small taken fits so_far rest is_open too_long ends room =
    let on = records_prefix bodies others (drop (start + used) bytes) ends.gate ends.behind (omega (arith, taken)) (omega (arith, room)) ends.closed (sym so_far ∙ ends.is) in
    by_more on.0 on.1 on.2
  where
    by_more : (more : List (List ℕ)) → others ≡ bodies ++ more → drop (start + used) bytes ≡ records more ++ ends.gate ∷ ends.behind → ⊥
    by_more [] same is = absurd (ends.closed (first_same ends.gate open_gate ends.behind rest (sym is ∙ is_open)))
      where
        first_same : (x y : ℕ) (xs ys : List ℕ) → x ∷ xs ≡ y ∷ ys → x ≡ y
        first_same x y xs ys e = cc
    by_more (body ∷ more) same is =
        let total = ap (λ (l : List (List ℕ)). length (records l)) same ∙ ap length (records-append bodies (body ∷ more)) in
        let parts = length-append (records bodies) (records (body ∷ more)) in
        let record-long = length-append (record_bytes body) (records more) in
        let long = length-record_bytes body in
        let at : drop (start + used) bytes ≡ record_bytes body ++ (records more ++ ends.gate ∷ ends.behind) = is ∙ append_assoc (record_bytes body) (records more) (ends.gate ∷ ends.behind) in
        let past = too_long body (records more ++ ends.gate ∷ ends.behind) at (omega (arith, total, parts, record-long, long, room)) in
        omega (arith, total, parts, record-long, long, room, past, taken)

module _ {D : Type 0} (seen : D → List ℕ) (may_leave : D → List ℕ → Type 0) (moment : D → ℕ) (left_since : D → ℕ → List ℕ → Type 0) where
  -- if each of two calls only reads the disk, the two together only read it
  pub reads_on : (a b c : D) → OnlyReads seen may_leave moment left_since a b → OnlyReads seen may_leave moment left_since b c → OnlyReads seen may_leave moment left_since a c
  reads_on a b c first second = record {
    same = second.same ∙ first.same;
    images = λ image now. first.images image (second.images image now);
    later = omega (arith, first.later, second.later);
    moments = λ t image le left. first.moments t image le (second.moments t image (omega (arith, le, first.later)) left);
  }

-- ---- what a scan found, and what a refusal says

at_most_area : (b area n : ℕ) → n ≡ b % 2 * area → n ≤ area
at_most_area b area n is = omega (arith, is, mul-le-mul_right area (half b))
  where
    half : (b : ℕ) → b % 2 ≤ 1
    half b = omega arith

pub holds_from : (bytes : List ℕ) (start area : ℕ) (bodies : List (List ℕ)) → BeginsWith bytes start area → IsArea (length bytes) area → EndsClosed (drop start bytes) bodies → room_of bodies ≤ area → HoldsFrom bytes start area bodies
holds_from bytes start area bodies b is_area ends room =
    let k = b.area_byte % 2 * area in
    let head = header b.area_byte area in
    let total : length bytes ≡ 16 + length b.rest = ap length b.is ∙ length-append head b.rest in
    let other-long : length (take k b.rest) ≡ k = length-take-le k b.rest (omega (arith, total, is_area.room, at_most_area b.area_byte area k refl)) in
    let tail : drop k b.rest ≡ drop start bytes =
    ap (λ (l : List ℕ). drop k l) (sym (ap (λ (l : List ℕ). drop 16 l) b.is ∙ drop_at head b.rest 16 (length-header b.area_byte area))) ∙ drop-drop k 16 bytes ∙ ap (λ (n : ℕ). drop n bytes) (sym b.begins) in
    record {
      holds = record {
        area_byte = b.area_byte;
        other = take k b.rest;
        gate = ends.gate;
        behind = ends.behind;
        bytes = b.is ∙ ap (λ (l : List ℕ). head ++ l) (sym (take-append-drop k b.rest) ∙ ap (λ (l : List ℕ). take k b.rest ++ l) (tail ∙ ends.is));
        offset = other-long;
        closed = ends.closed;
        fits = room;
        is_area = is_area;
      };
      begins = b.begins ∙ ap (λ (n : ℕ). 16 + n) (sym other-long);
    }

pub ends_of : (bytes : List ℕ) (start area size : ℕ) (bodies : List (List ℕ)) → BeginsWith bytes start area → area ≤ 2 ^ 30 → HoldsRecords bytes size bodies → EndsClosed (drop start bytes) bodies × (room_of bodies ≤ area)
ends_of bytes start area size bodies b small h =
    let heads = header_same h.area_byte size b.area_byte area _ _ (omega (arith, h.is_area.most)) (omega (arith, small)) (sym h.bytes ∙ b.is) in
    let same_area = heads.1 in
    let other-long : length h.other ≡ b.area_byte % 2 * area = h.offset ∙ both h.area_byte b.area_byte size area heads.0 same_area in
    let head = header h.area_byte size in
    let prefix-long : length (head ++ h.other) ≡ start = length-append head h.other ∙ omega (arith, other-long, b.begins, length-header h.area_byte size) in (
      record {
        gate = h.gate;
        behind = h.behind;
        is = ap (λ (l : List ℕ). drop start l) (h.bytes ∙ sym (append_assoc head h.other (records bodies ++ h.gate ∷ h.behind))) ∙ drop_at (head ++ h.other) (records bodies ++ h.gate ∷ h.behind) start prefix-long;
        closed = h.closed;
      },
      omega (arith, h.fits, same_area),
    )
  where
    both : (b c s t : ℕ) → b ≡ c → s ≡ t → b % 2 * s ≡ c % 2 * t
    both b c s t e f = (λ i. e i % 2 * f i)

pub header_of : (bytes : List ℕ) (start area : ℕ) → BeginsWith bytes start area → IsArea (length bytes) area → HasHeader bytes area
header_of bytes start area b is_area = record { area_byte = b.area_byte; rest = b.rest; bytes = b.is; is_area = is_area }

pub reading_faults : (fault : JournalFault) (honest : Bool) (seen : List ℕ) (before after : ℕ) → IsReadingFault fault → after ≡ (if is_fault_of_disk {T = ℕ} (Err fault) then before + 1 else before)
    → (fault ≡ Damaged → IsTrue honest → ((area : ℕ) × HasHeader seen area) × ((area : ℕ) (bodies : List (List ℕ)) → HoldsRecords seen area bodies → ⊥)) → OpenFaults honest seen before after fault
reading_faults DiskFault honest seen before after reading count damaged = count
reading_faults OutOfMemory honest seen before after reading count damaged = count
reading_faults Damaged honest seen before after reading count damaged = (count, damaged refl)
reading_faults Full honest seen before after reading count damaged = absurd reading
reading_faults Closed honest seen before after reading count damaged = absurd reading
reading_faults NotALibrary honest seen before after reading count damaged = absurd reading
