-- The bytes of a journal: a header of 16 bytes, area A, and area B right after it. An area has records, and a closed gate after
-- the last one.
use Rattle.std.specs.Prelude.{◌≡◌, ◌≢◌, ◌⊎◌, ℕ, ◌+◌, ◌*◌, ◌%◌, ◌^◌, ◌≤◌, List, [], ◌∷◌, ◌++◌, length}
use Rattle.std.specs.Int.{w32, to_le_bytes}

-- a gate that is open; every other value is closed
abbrev pub open_gate : ℕ
open_gate = 0xa5

-- the header: the area byte, `CCLIB01`, the size of an area as four bytes, the lowest first, and four zeros
abbrev pub header : ℕ → ℕ → List ℕ
header area_byte area = area_byte ∷ 0x43 ∷ 0x43 ∷ 0x4c ∷ 0x49 ∷ 0x42 ∷ 0x30 ∷ 0x31 ∷ (to_le_bytes w32 area ++ (0 ∷ 0 ∷ 0 ∷ 0 ∷ []))

-- a record: an open gate, the length of its body as four bytes, the lowest first, and the body
abbrev pub record_bytes : List ℕ → List ℕ
record_bytes body = open_gate ∷ (to_le_bytes w32 (length body) ++ body)

-- records, one after the other
abbrev pub records : List (List ℕ) → List ℕ
records [] = []
records (body ∷ bodies) = record_bytes body ++ records bodies

-- how many bytes of an area these records and their one closed gate take
abbrev pub room_of : List (List ℕ) → ℕ
room_of bodies = length (records bodies) + 1

-- an area of this size is within its limits, and a disk of `size` bytes has room for two of them
pub record IsArea (size area : ℕ) : Type 0 where
  pub least : 64 ≤ area
  pub most : area ≤ 2 ^ 30
  pub room : 16 + 2 * area ≤ size

-- the image begins with a valid header for areas of this size
pub record HasHeader (image : List ℕ) (area : ℕ) : Type 0 where
  pub area_byte : ℕ
  pub rest : List ℕ
  pub bytes : image ≡ header area_byte area ++ rest
  pub is_area : IsArea (length image) area

-- the image begins with the header for this area byte and for areas of this size
abbrev pub HasAreaByte : List ℕ → (area_byte area : ℕ) → Type 0
HasAreaByte image area_byte area = (rest : List ℕ) × (image ≡ header area_byte area ++ rest)

-- The image has a valid header, and these records, with a closed gate after them, in the area that the area byte names (A if even, else B).
pub record HoldsRecords (image : List ℕ) (area : ℕ) (bodies : List (List ℕ)) : Type 0 where
  pub area_byte : ℕ
  pub other : List ℕ
  pub gate : ℕ
  pub behind : List ℕ
  pub bytes : image ≡ header area_byte area ++ (other ++ (records bodies ++ gate ∷ behind))
  pub offset : length other ≡ area_byte % 2 * area
  pub closed : gate ≢ open_gate
  pub fits : room_of bodies ≤ area
  pub is_area : IsArea (length image) area

-- the image holds these records, in areas of this size, and no others
pub record HoldsAlone (image : List ℕ) (area : ℕ) (bodies : List (List ℕ)) : Type 0 where
  pub holds : HoldsRecords image area bodies
  pub alone : (size : ℕ) (others : List (List ℕ)) → HoldsRecords image size others → (size ≡ area) × (others ≡ bodies)

-- every one of these images has exactly these records, in areas of this size
abbrev pub AllHold : (List ℕ → Type 0) → ℕ → List (List ℕ) → Type 0
AllHold may_leave area bodies = (image : List ℕ) → may_leave image → HoldsAlone image area bodies

-- the image holds exactly the old records, or exactly the new ones
abbrev pub HoldsOneOf : ℕ → (old new : List (List ℕ)) → List ℕ → Type 0
HoldsOneOf area old new image = HoldsAlone image area old ⊎ HoldsAlone image area new

-- the image holds exactly these records, or exactly these and one more
abbrev pub HoldsOldOrNew : ℕ → List (List ℕ) → List ℕ → List ℕ → Type 0
HoldsOldOrNew area bodies body image = HoldsAlone image area bodies ⊎ HoldsAlone image area (bodies ++ body ∷ [])
