-- What bytes that were read ahead show about the bytes of a disk. How: the bytes read ahead are a prefix of the disk's bytes
-- from their offset on, and each part of them is a prefix of the disk's bytes from the part's own offset on.
use Rattle.std.proofs.Common.{◌≡◌, ◌⊎◌, ℕ, ◌+◌, ◌-◌, ◌≤◌, List, [], ◌∷◌, ◌++◌, length, get_or, take, drop, ⊎_elim, Err, refl, sym, ◌∙◌, ap, subst, arith, append_assoc, length-append}
use Rattle.std.proofs.Math.Seq.{take-add}
use Rattle.std.proofs.lemmas.List.{drop-drop, drop-take, drop_all, length-drop, length-take-le, take-take, take_all, take_at}
use Rattle.cc_journal.specs.internal.Reading.{FindsRecord, IsBytesFault, IsReadingFault, Shows}
use Rattle.cc_journal.specs.declared.fault.JournalFault.{JournalFault}
use Rattle.cc_journal.specs.declared.fault.JournalFault.TheVariants.{Full, DiskFault, Closed, Damaged, NotALibrary, OutOfMemory}

-- `prefix` has the first bytes of `all`
abbrev IsPrefix : (prefix all : List ℕ) → Type 0
IsPrefix prefix all = prefix ≡ take (length prefix) all

at_most_or_more : (m n : ℕ) → (m ≤ n) ⊎ (n ≤ m)
at_most_or_more m n = grind arith

prefix_of_prefix : (m : ℕ) (prefix all : List ℕ) → IsPrefix prefix all → IsPrefix (take m prefix) all
prefix_of_prefix m prefix all is =
    ⊎_elim
    (λ few.
    let long : length (take m prefix) ≡ m = length-take-le m prefix few in
    ap (λ (l : List ℕ). take m l) is ∙ take-take m (length prefix) all few ∙ ap (λ (k : ℕ). take k all) (sym long))
    (λ many. let same : take m prefix ≡ prefix = take_all m prefix many in same ∙ is ∙ ap (λ (l : List ℕ). take (length l) all) (sym same))
    (at_most_or_more m (length prefix))

prefix_behind : (k : ℕ) (prefix all : List ℕ) → IsPrefix prefix all → IsPrefix (drop k prefix) (drop k all)
prefix_behind k prefix all is =
    ⊎_elim
    (λ within.
    let rest = length prefix - k in
    let long : length (drop k prefix) ≡ rest = length-drop k prefix in
    let sum : length prefix ≡ k + rest = omega arith in
    ap (λ (l : List ℕ). drop k l) is ∙ ap (λ (n : ℕ). drop k (take n all)) sum ∙ drop-take k rest all ∙ ap (λ (n : ℕ). take n (drop k all)) (sym long))
    (λ past. let none : drop k prefix ≡ [] = drop_all k prefix past in none ∙ ap (λ (l : List ℕ). take (length l) (drop k all)) (sym none))
    (at_most_or_more k (length prefix))

-- a window also shows what is at a later offset
pub shows_from : (offset later m : ℕ) (bytes seen : List ℕ) → offset ≤ later → Shows offset bytes seen → Shows later (take m (drop (later - offset) bytes)) seen
shows_from offset later m bytes seen le shown =
    let same : drop (later - offset) (drop offset seen) ≡ drop later seen = drop-drop (later - offset) offset seen ∙ ap (λ (n : ℕ). drop n seen) (omega arith) in
    subst (λ (l : List ℕ). IsPrefix (take m (drop (later - offset) bytes)) l) same (prefix_of_prefix m (drop (later - offset) bytes) (drop (later - offset) (drop offset seen)) (prefix_behind (later - offset) bytes (drop offset seen) shown))

-- a window cut to its first m bytes is still right
pub shows_first : (offset m : ℕ) (bytes seen : List ℕ) → Shows offset bytes seen → Shows offset (take m bytes) seen
shows_first offset m bytes seen shown = prefix_of_prefix m bytes (drop offset seen) shown

-- the bytes that a window shows, followed by those read after them, are the disk's bytes from the offset on
pub shown_and_read : (offset done count : ℕ) (first rest seen : List ℕ) → Shows offset first seen → length first ≡ done → done ≤ count
    → rest ≡ take (count - done) (drop (offset + done) seen) → first ++ rest ≡ take count (drop offset seen)
shown_and_read offset done count first rest seen shown long le read =
    let behind : rest ≡ take (count - done) (drop done (drop offset seen)) = read ∙ ap (λ (l : List ℕ). take (count - done) l) (sym (drop-drop done offset seen)) in
    let prefix : first ≡ take done (drop offset seen) = shown ∙ ap (λ (n : ℕ). take n (drop offset seen)) long in
    let sum : done + (count - done) ≡ count = omega arith in
    (λ i. prefix i ++ behind i) ∙ sym (take-add done (count - done) (drop offset seen)) ∙ ap (λ (n : ℕ). take n (drop offset seen)) sum

-- a window without bytes is right for every disk
pub shows_none : (offset : ℕ) (bytes seen : List ℕ) → bytes ≡ [] → Shows offset bytes seen
shows_none offset bytes seen none = none ∙ ap (λ (l : List ℕ). take (length l) (drop offset seen)) (sym none)

-- if bytes are written into a list after its first d bytes, the list begins with those d bytes and the written ones
pub filled : (d n : ℕ) (bytes read rest tail : List ℕ) → d ≤ length bytes → n ≡ d + length read → take n ((take d bytes ++ (read ++ rest)) ++ tail) ≡ take d bytes ++ read
filled d n bytes read rest tail le size =
    let first = take d bytes in
    let long : length (first ++ read) ≡ n = length-append first read ∙ ap (λ (k : ℕ). k + length read) (length-take-le d bytes le) ∙ sym size in
    ap (λ (l : List ℕ). take n l) (append_assoc first (read ++ rest) tail ∙ ap (λ (l : List ℕ). first ++ l) (append_assoc read rest tail) ∙ sym (append_assoc first read (rest ++ tail)))
    ∙ take_at (first ++ read) (rest ++ tail) n long

pub read_as : (buffer l : List ℕ) (n m : ℕ) → buffer ≡ take n l → n ≡ m → buffer ≡ take m l
read_as buffer l n m is same = is ∙ ap (λ (k : ℕ). take k l) same

-- if a record's bytes cannot be read, the fault of reading them is a right answer
pub finds_none : (bytes : List ℕ) (left : ℕ) (fault : JournalFault) → IsBytesFault fault → FindsRecord bytes left (Err fault)
finds_none bytes left DiskFault is = tt
finds_none bytes left OutOfMemory is = tt
finds_none bytes left Damaged is = absurd is
finds_none bytes left Full is = absurd is
finds_none bytes left Closed is = absurd is
finds_none bytes left NotALibrary is = absurd is

pub reading_of_bytes : (fault : JournalFault) → IsBytesFault fault → IsReadingFault fault
reading_of_bytes DiskFault is = tt
reading_of_bytes OutOfMemory is = tt
reading_of_bytes Damaged is = absurd is
reading_of_bytes Full is = absurd is
reading_of_bytes Closed is = absurd is
reading_of_bytes NotALibrary is = absurd is

-- ---- a record's gate and length

-- the first byte that is shown is the gate
pub prefix_gate : (prefix bytes : List ℕ) → IsPrefix prefix bytes → 1 ≤ length prefix → bytes ≡ get_or prefix 0 0 ∷ drop 1 bytes
prefix_gate [] bytes is some = absurd (omega arith)
prefix_gate (x ∷ prefix) [] is some = cc
prefix_gate (x ∷ prefix) (y ∷ bytes) is some = ap (λ (k : ℕ). k ∷ bytes) (first_same x y prefix (take (length prefix) bytes) is)
  where
    first_same : (x y : ℕ) (xs ys : List ℕ) → x ∷ xs ≡ y ∷ ys → y ≡ x
    first_same x y xs ys e = cc

pub gate_shown : (prefix bytes : List ℕ) → IsPrefix prefix bytes → 1 ≤ length prefix → take 1 prefix ≡ take 1 bytes
gate_shown prefix bytes is some = prefix_of_prefix 1 prefix bytes is ∙ ap (λ (n : ℕ). take n bytes) (length-take-le 1 prefix some)

pub length_shown : (prefix bytes : List ℕ) → IsPrefix prefix bytes → 5 ≤ length prefix → get_or prefix 1 0 ∷ get_or prefix 2 0 ∷ get_or prefix 3 0 ∷ get_or prefix 4 0 ∷ [] ≡ take 4 (drop 1 bytes)
length_shown prefix bytes is long =
    let behind = prefix_of_prefix 4 (drop 1 prefix) (drop 1 bytes) (prefix_behind 1 prefix bytes is) in
    let four : length (take 4 (drop 1 prefix)) ≡ 4 = length-take-le 4 (drop 1 prefix) (omega (arith, length-drop 1 prefix)) in
    spelled prefix long ∙ behind ∙ ap (λ (n : ℕ). take n (drop 1 bytes)) four
  where
    spelled : (l : List ℕ) → 5 ≤ length l → get_or l 1 0 ∷ get_or l 2 0 ∷ get_or l 3 0 ∷ get_or l 4 0 ∷ [] ≡ take 4 (drop 1 l)
    spelled [] few = absurd (omega arith)
    spelled (a ∷ []) few = absurd (omega arith)
    spelled (a ∷ b ∷ []) few = absurd (omega arith)
    spelled (a ∷ b ∷ c ∷ []) few = absurd (omega arith)
    spelled (a ∷ b ∷ c ∷ d ∷ []) few = absurd (omega arith)
    spelled (a ∷ b ∷ c ∷ d ∷ e ∷ l) enough = refl
