-- What an opened disk shows: the fields of its header, the commands of its records in order, and that a run can begin there. The reason:
-- a body spells only one command, so the commands read from the bodies are those that lead to the map.
use Rattle.std.proofs.Common.{◌≡◌, inl, inr, ℕ, ◌+◌, List, [], ◌∷◌, ◌++◌, length, get_or, take, drop, true, Some, refl, sym, ap, subst, ◌∙◌, arith, append_assoc}
use Rattle.std.specs.Prelude.{slice_get}
use Rattle.std.specs.Int.{w32, from_le_bytes}
use Rattle.std.specs.FinMap.{empty}
use Rattle.std.proofs.lemmas.List.{append-nil, take_at, map-append, length-append}
use Rattle.std.proofs.lemmas.Option.{slice_get_within}
use Rattle.cc_journal.specs.Format.{HoldsRecords, header, records}
use Rattle.cc_journal.proofs.Bytes.{header_area}
use Rattle.cc_journal.proofs.Records.{holds_same}
use Rattle.cc_library.specs.Change.{LibraryCommand}
use Rattle.cc_library.specs.declared.fault.LibraryFault.{LibraryFault}
use Rattle.cc_library.specs.declared.fault.LibraryFault.TheVariants.{Exists, Absent, Full, DiskFault, Closed, Damaged, NotALibrary, OutOfMemory}
use Rattle.cc_library.specs.Answers.{OpenFaults}
use Rattle.cc_library.specs.Apply.{Units, AreAccepted, library_of}
use Rattle.cc_library.specs.Body.{Spells}
use Rattle.cc_library.specs.Recovered.{AreSpelled, Recovers, StandFor}
use Rattle.cc_library.proofs.Commands.{one_command}
use Rattle.cc_library.proofs.Opening.{has_header}
use Rattle.cc_core.specs.declared.command.Numbered.{Numbered}
use Rattle.cc_core.specs.declared.contents.Phase.TheVariants.{Idle}
use Rattle.cc_core.specs.declared.opening.Opened.{Opened}
use Rattle.cc_core.specs.declared.sequence_number.SequenceNumber.{SequenceNumber}
use Rattle.cc_core.specs.Step.{commands}
use Rattle.cc_core.specs.Run.{IsOpened, IsOrderOf}
use Rattle.cc_core.specs.internal.Opening.{IsOpenedAt}
use Rattle.cc_core.proofs.Lists.{slice_get-push}

-- ---- the header

-- if an image holds records, its first 16 bytes give the size of an area and the area byte
pub header_read : (image : List ℕ) (area : ℕ) (bodies : List (List ℕ)) (h : HoldsRecords image area bodies) (prefix : List ℕ) → prefix ≡ take 16 (drop 0 image)
    → (area ≡ from_le_bytes w32 (get_or prefix 8 0 ∷ get_or prefix 9 0 ∷ get_or prefix 10 0 ∷ get_or prefix 11 0 ∷ [])) × (h.area_byte ≡ get_or prefix 0 0)
header_read image area bodies h prefix read =
    let rest = h.other ++ (records bodies ++ h.gate ∷ h.behind) in
    let is : prefix ≡ header h.area_byte area = read ∙ ap (λ (l : List ℕ). take 16 l) h.bytes ∙ take_at (header h.area_byte area) rest 16 refl in
    (sym (header_area prefix h.area_byte area is (omega (arith, h.is_area.most))), sym (ap (λ (l : List ℕ). get_or l 0 0) is))

-- equal bytes hold the same records, in areas of equal size
pub holds_at : (image other : List ℕ) (area size : ℕ) (bodies : List (List ℕ)) (h : HoldsRecords image area bodies) → image ≡ other → area ≡ size
    → (k : HoldsRecords other size bodies) × (k.area_byte ≡ h.area_byte)
holds_at image other area size bodies h same is =
    subst (λ (l : List ℕ). (k : HoldsRecords l size bodies) × (k.area_byte ≡ h.area_byte)) same
    (subst (λ (n : ℕ). (k : HoldsRecords image n bodies) × (k.area_byte ≡ h.area_byte)) is (h, refl))

-- ---- the commands

same_commands : (bodies : List (List ℕ)) (xs ys : List LibraryCommand) → AreSpelled bodies xs → AreSpelled bodies ys → xs ≡ ys
same_commands [] [] [] p q = refl
same_commands [] [] (y ∷ ys) p q = absurd q
same_commands [] (x ∷ xs) ys p q = absurd p
same_commands (body ∷ bodies) [] ys p q = absurd p
same_commands (body ∷ bodies) (x ∷ xs) [] p q = absurd q
same_commands (body ∷ bodies) (x ∷ xs) (y ∷ ys) p q =
    let first : x ≡ y = one_command body x y p.0 q.0 in
    let others : xs ≡ ys = same_commands bodies xs ys p.1 q.1 in
    ap (λ (z : LibraryCommand). z ∷ xs) first ∙ ap (λ (zs : List LibraryCommand). y ∷ zs) others

-- if records represent a map, and an order has their commands, the order is accepted and leads to this map
pub order_leads : (bodies : List (List ℕ)) (library : Units) (order : List Numbered) (upcoming : SequenceNumber) → StandFor bodies library → IsOrderOf bodies order upcoming
    → (library ≡ library_of (commands order)) × AreAccepted empty (commands order)
order_leads bodies library order upcoming stand o =
    let same = same_commands bodies stand.commands (commands order) stand.spelled o.spelled in
    (stand.map_is ∙ ap library_of same, subst (AreAccepted empty) same stand.accepted)

-- the order has the commands of the bodies read so far, numbered from 0 on; the bodies `behind` have not been read yet
pub record IsReadTo (bodies behind : List (List ℕ)) (order : List Numbered) (upcoming : ℕ) : Type 0 where
  pub leads : (rest : List LibraryCommand) → AreSpelled behind rest → AreSpelled bodies (commands order ++ rest)
  pub counted : (k : ℕ) (a : Numbered) → slice_get order k ≡ Some a → a.number.value ≡ k
  pub next : upcoming ≡ length order

pub read_none : (bodies : List (List ℕ)) (order : List Numbered) (upcoming : ℕ) → order ≡ [] → upcoming ≡ 0 → IsReadTo bodies bodies order upcoming
read_none bodies order upcoming none first = record {
  leads = λ rest spelled. subst (λ (l : List Numbered). AreSpelled bodies (commands l ++ rest)) (sym none) spelled;
  counted = λ k a is. let gone = sym (ap (λ (l : List Numbered). slice_get l k) none) ∙ is in absurd (cc);
  next = first ∙ sym (ap length none);
}

pub read_more : (bodies : List (List ℕ)) (body : List ℕ) (behind : List (List ℕ)) (order : List Numbered) (upcoming : ℕ) (last : Numbered) → IsReadTo bodies (body ∷ behind) order upcoming
    → Spells body last.command → last.number.value ≡ upcoming → IsReadTo bodies behind (order ++ last ∷ []) (upcoming + 1)
read_more bodies body behind order upcoming last r spelled number = record {
  leads = λ rest others.
      subst (AreSpelled bodies)
      (sym (ap (λ (l : List LibraryCommand). l ++ rest) (map-append (λ (p : Numbered). p.command) order (last ∷ [])) ∙ append_assoc (commands order) (last.command ∷ []) rest))
      (r.leads (last.command ∷ rest) (spelled, others));
  counted = λ k a is. elim (slice_get-push order last k a is) [
    | inl h ↦ r.counted k a h
    | inr h ↦ sym (ap (λ (p : Numbered). p.number.value) h.1) ∙ number ∙ r.next ∙ sym h.0
  ];
  next = let n = r.next in omega (arith, length-append order (last ∷ []));
}

pub read_all : (bodies : List (List ℕ)) (order : List Numbered) (upcoming : SequenceNumber) → IsReadTo bodies [] order upcoming.value → IsOrderOf bodies order upcoming
read_all bodies order upcoming r = record {
  spelled = subst (AreSpelled bodies) (append-nil (commands order)) (r.leads [] tt);
  counted = r.counted;
  next = r.next;
}

-- ---- refusals

-- if an image recovers to a map, opening it can only fail with `OutOfMemory`
pub only_memory : (image : List ℕ) (units : Units) → Recovers image units → (fault : LibraryFault) → OpenFaults true image 0 0 fault → fault ≡ OutOfMemory
only_memory image units r DiskFault o = absurd (omega (arith, o))
only_memory image units r NotALibrary o = absurd (o.1 refl r.area (has_header image r.area r.bodies r.holds))
only_memory image units r Damaged o = absurd ((o.1 refl).1 units r)
only_memory image units r OutOfMemory o = refl
only_memory image units r Exists o = absurd o
only_memory image units r Absent o = absurd o
only_memory image units r Full o = absurd o
only_memory image units r Closed o = absurd o

-- opening a disk on which no call fails does not end with `DiskFault`
pub no_failure : (image : List ℕ) (fault : LibraryFault) → OpenFaults true image 0 0 fault → fault ≡ DiskFault → ⊥
no_failure image fault o is = let no = subst (OpenFaults true image 0 0) is o in absurd (omega (arith, no))

-- ---- a beginning

-- if the bytes hold these records, the order of the opened disk has their commands
pub order_of : (image : List ℕ) (o : Opened) → IsOpenedAt image o → (area : ℕ) (bodies : List (List ℕ)) → HoldsRecords image area bodies → IsOrderOf bodies o.order o.upcoming
order_of image o at area bodies h =
    let there : HoldsRecords image o.store.area at.bodies = subst (λ (l : List ℕ). HoldsRecords l o.store.area at.bodies) at.bytes at.holds in
    subst (λ (bs : List (List ℕ)). IsOrderOf bs o.order o.upcoming) (holds_same image area o.store.area bodies at.bodies h there).1 at.order

pub recovers_to : (image : List ℕ) (o : Opened) → IsOpenedAt image o → Recovers image o.library
recovers_to image o at = subst (λ (l : List ℕ). Recovers l o.library) at.bytes (record { area = o.store.area; bodies = at.bodies; holds = at.holds; stand = at.stand })

module _ {P : Type 0} where
  pub opened_begins : (image : List ℕ) (o : Opened) → IsOpenedAt image o → (acknowledged : List Numbered) → acknowledged ≡ o.order
      → IsOpened {P = P} (record { core = record { library = o.library; order = o.order; acknowledged = acknowledged; phase = Idle; store = o.store; upcoming = o.upcoming }; jobs = empty; workers = empty })
  opened_begins image o at acknowledged same =
      let leads = order_leads at.bodies o.library o.order o.upcoming at.stand at.order in
      record {
        phase = refl;
        library = leads.0;
        accepted = leads.1;
        rising = λ i j a b lt first second. let p = at.order.counted i a first in let q = at.order.counted j b second in omega arith;
        below = λ k a is. let p = at.order.counted k a is in let within = slice_get_within o.order k a is in let n = at.order.next in omega arith;
        acknowledged = same;
        jobs = refl;
        workers = refl;
        alone = at.alone;
        bodies = at.bodies;
        holds = at.holds;
        area_byte = at.area_byte;
        stand = at.stand;
        used = at.used;
      }
