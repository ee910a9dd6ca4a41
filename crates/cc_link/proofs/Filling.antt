-- Items filled in one after the other, and then functions filled in one after the other.
use Rattle.std.proofs.Common.{◌≡◌, ℕ, zero, suc, ◌+◌, ◌-◌, ◌*◌, ◌%◌, ◌^◌, ◌<◌, ◌≤◌, List, [], ◌∷◌, ◌++◌, length, get_or, take, drop, refl, sym, ap, ◌∙◌, subst, arith, append_assoc}
use Rattle.std.proofs.lemmas.List.{at_drop_more, drop_more, map-append}
use Rattle.std.specs.Borrow.{Bor}
use Rattle.cc_rv32.specs.declared.instr.Instr.{Instr}
use Rattle.cc_rv32.specs.declared.instr.Instr.TheVariants.{Jal}
use Rattle.cc_rv32.specs.Table.{encoding_of}
use Rattle.cc_emit.specs.declared.item.PieceItem.{PieceItem}
use Rattle.cc_emit.specs.declared.item.PieceItem.TheVariants.{Plain, Call, Go}
use Rattle.cc_emit.specs.Contract.{filled, IsPlace}
use Rattle.cc_link.specs.Link.{fill, fill_all, size_of, head, place_of, linked_code, encoded}
use Rattle.cc_link.specs.internal.Filling.{lent, StaysIn, StayIn, AllStayIn, ArePlaces, Leads, CanStand, CanAllStand, places_from}

-- ---- one function

stays_at : (functions long i : ℕ) (items : List PieceItem) (d : PieceItem) → i < length items → StayIn functions long items → StaysIn functions long (get_or items i d)
stays_at functions long i [] d lt stay = absurd (omega arith)
stays_at functions long zero (x ∷ items) d lt stay = stay.0
stays_at functions long (suc i) (x ∷ items) d lt stay = stays_at functions long i items d (omega arith) stay.1

pub place_at : (functions place i : ℕ) (items : List PieceItem) → CanStand functions place items → i ≤ length items → IsPlace (place + 4 * i)
place_at functions place i items h le =
    let a = h.from.aligned in let b = h.from.from in let c = h.to.to in
    record { aligned = omega arith; from = omega arith; to = omega arith }

leads_of : (places : List ℕ) (place : ℕ) (items : List PieceItem) (i : PieceItem) → ArePlaces places → CanStand (length places) place items → StaysIn (length places) (length items) i → Leads places place i
leads_of places place items (Plain i) are h stay = tt
leads_of places place items (Call f) are h stay = (stay, are f stay)
leads_of places place items (Go n) are h stay = place_at (length places) place n items h stay

pub leads_at : (places : List ℕ) (place i : ℕ) (items : List PieceItem) (d : PieceItem) → ArePlaces places → CanStand (length places) place items → i < length items → Leads places place (get_or items i d)
leads_at places place i items d are h lt = leads_of places place items (get_or items i d) are h (stays_at (length places) (length items) i items d lt h.stay)

-- once the word of item i is added, the words so far and those of the items left make up the same list
pub word_added : (p : ℕ → ℕ) (place a i w : ℕ) (items : List PieceItem) (d : PieceItem) (instr : Instr) (ws all : List ℕ) → i < length items → w ≡ encoding_of instr → instr ≡ filled p place a (get_or items i d)
    → ws ++ encoded (fill p place a (drop i items)) ≡ all → (ws ++ (w ∷ [])) ++ encoded (fill p place (a + 4) (drop (i + 1) items)) ≡ all
word_added p place a i w items d instr ws all lt e f h =
    let next = at_drop_more (λ (is : List PieceItem). encoded (fill p place a is)) items i d lt in
    let word : w ≡ encoding_of (filled p place a (get_or items i d)) = e ∙ ap encoding_of f in
    append_assoc ws (w ∷ []) _ ∙ ap (λ v. ws ++ (v ∷ encoded (fill p place (a + 4) (drop (i + 1) items)))) word ∙ ap (λ l. ws ++ l) (sym next) ∙ h

-- ---- all functions

abbrev Lent : Type 0
Lent = Bor (List PieceItem)

pub size_next : (i : ℕ) (bodies : List Lent) (d : Lent) → i < length bodies → size_of (lent (drop i bodies)) ≡ length (get_or bodies i d).now + size_of (lent (drop (i + 1) bodies))
size_next i bodies d lt = at_drop_more (λ (bs : List Lent). size_of (lent bs)) bodies i d lt

pub place_added : (a i : ℕ) (bodies : List Lent) (d : Lent) (ps all : List ℕ) → i < length bodies → ps ++ places_from a (lent (drop i bodies)) ≡ all → (ps ++ (a ∷ [])) ++ places_from (a + 4 * length (get_or bodies i d).now) (lent (drop (i + 1) bodies)) ≡ all
place_added a i bodies d ps all lt h =
    append_assoc ps (a ∷ []) _ ∙ ap (λ l. ps ++ l) (sym (at_drop_more (λ (bs : List Lent). places_from a (lent bs)) bodies i d lt)) ∙ h

-- if all functions from number i on can be at their places, so can function i, and so can those after it
pub stand_next : (functions a i : ℕ) (bodies : List Lent) (d : Lent) → i < length bodies → d ≡ get_or bodies i d → CanAllStand functions a (lent (drop i bodies)) → CanStand functions a d.now × CanAllStand functions (a + 4 * length d.now) (lent (drop (i + 1) bodies))
stand_next functions a i bodies d lt is h =
    subst (λ (b : Lent). CanStand functions a b.now × CanAllStand functions (a + 4 * length b.now) (lent (drop (i + 1) bodies))) (sym is)
    (subst (λ (bs : List Lent). CanAllStand functions a (lent bs)) (drop_more bodies i d lt) h)

pub function_added : (p : ℕ → ℕ) (a i : ℕ) (bodies : List Lent) (d : Lent) (ws new all : List ℕ) → i < length bodies → d ≡ get_or bodies i d → new ≡ ws ++ encoded (fill p a a d.now)
    → ws ++ encoded (fill_all p a (lent (drop i bodies))) ≡ all → new ++ encoded (fill_all p (a + 4 * length d.now) (lent (drop (i + 1) bodies))) ≡ all
function_added p a i bodies d ws new all lt is e h =
    let first : List Instr = fill p a a d.now in
    let rest : List Instr = fill_all p (a + 4 * length d.now) (lent (drop (i + 1) bodies)) in
    let split : drop i bodies ≡ d ∷ drop (i + 1) bodies = drop_more bodies i d lt ∙ ap (λ (b : Lent). b ∷ drop (i + 1) bodies) (sym is) in
    ap (λ l. l ++ encoded rest) e ∙ append_assoc ws (encoded first) (encoded rest) ∙ ap (λ l. ws ++ l) (sym (map-append encoding_of first rest))
    ∙ ap (λ (bs : List Lent). ws ++ encoded (fill_all p a (lent bs))) (sym split) ∙ h

-- ---- the places of functions

pub places_long : (a : ℕ) (fs : List (List PieceItem)) → length (places_from a fs) ≡ length fs
places_long a [] = refl
places_long a (f ∷ fs) = ap suc (places_long (a + 4 * length f) fs)

place_is : (a g : ℕ) (fs : List (List PieceItem)) → g < length fs → get_or (places_from a fs) g 0 ≡ a + 4 * size_of (take g fs)
place_is a g [] lt = absurd (omega arith)
place_is a zero (f ∷ fs) lt = omega arith
place_is a (suc g) (f ∷ fs) lt = let h = place_is (a + 4 * length f) g fs (omega arith) in omega arith

taken_small : (g : ℕ) (fs : List (List PieceItem)) → size_of (take g fs) ≤ size_of fs
taken_small zero fs = omega arith
taken_small (suc g) [] = omega arith
taken_small (suc g) (f ∷ fs) = let h = taken_small g fs in omega arith

is_place : (n : ℕ) → n ≤ 131069 → IsPlace (0x1000c + 4 * n)
is_place n le = record { aligned = omega arith; from = omega arith; to = omega arith }

pub are_places : (fs : List (List PieceItem)) → size_of fs ≤ 131069 → ArePlaces (places_from 0x1000c fs)
are_places fs le g lt =
    let few = taken_small g fs in
    let long = places_long 0x1000c fs in
    subst IsPlace (sym (place_is 0x1000c g fs (omega arith))) (is_place (size_of (take g fs)) (omega arith))

stand_from : (functions n : ℕ) (fs : List (List PieceItem)) → n + size_of fs ≤ 131069 → AllStayIn functions fs → CanAllStand functions (0x1000c + 4 * n) fs
stand_from functions n [] le stay = tt
stand_from functions n (f ∷ fs) le stay =
    let e : 0x1000c + 4 * (n + length f) ≡ 0x1000c + 4 * n + 4 * length f = omega arith in (
      record { from = is_place n (omega arith); to = subst IsPlace e (is_place (n + length f) (omega arith)); stay = stay.0 },
      subst (λ a. CanAllStand functions a fs) e (stand_from functions (n + length f) fs (omega arith) stay.1),
    )

pub all_stand : (functions : ℕ) (fs : List (List PieceItem)) → size_of fs ≤ 131069 → AllStayIn functions fs → CanAllStand functions 0x1000c fs
all_stand functions fs le stay = stand_from functions 0 fs (omega arith) stay

-- ---- the places as a list are those of the image

module _ (functions : ℕ) (p q : ℕ → ℕ) (same : (g : ℕ) → g < functions → p g ≡ q g) where
  filled_same : (long place a : ℕ) (i : PieceItem) → StaysIn functions long i → filled p place a i ≡ filled q place a i
  filled_same long place a (Plain i) stay = refl
  filled_same long place a (Call g) stay = ap (λ to. Jal 1 ((to + (2 ^ 32 - a)) % 2 ^ 32)) (same g stay)
  filled_same long place a (Go n) stay = refl

  fill_same : (long place a : ℕ) (items : List PieceItem) → StayIn functions long items → fill p place a items ≡ fill q place a items
  fill_same long place a [] stay = refl
  fill_same long place a (i ∷ is) stay = ap (λ x. x ∷ fill p place (a + 4) is) (filled_same long place a i stay.0) ∙ ap (λ l. filled q place a i ∷ l) (fill_same long place (a + 4) is stay.1)

  fill_all_same : (a : ℕ) (fs : List (List PieceItem)) → AllStayIn functions fs → fill_all p a fs ≡ fill_all q a fs
  fill_all_same a [] stay = refl
  fill_all_same a (f ∷ fs) stay =
      ap (λ l. l ++ fill_all p (a + 4 * length f) fs) (fill_same (length f) a a f stay.0) ∙ ap (λ l. fill q a a f ++ l) (fill_all_same (a + 4 * length f) fs stay.1)

pub linked_is : (main : ℕ) (fs : List (List PieceItem)) (places ws all : List ℕ) → main < length fs → AllStayIn (length fs) fs → places ≡ places_from 0x1000c fs
    → ws ≡ encoded (fill (λ g. get_or places g 0) 0x10000 0x10000 (head main)) → all ≡ ws ++ encoded (fill_all (λ g. get_or places g 0) 0x1000c fs) → all ≡ encoded (linked_code main fs)
unfolding place_of
linked_is main fs places ws all below stay is e f =
    let p : ℕ → ℕ = λ g. get_or places g 0 in
    let same : (g : ℕ) → g < length fs → p g ≡ place_of fs g = λ g lt. ap (λ l. get_or l g 0) is ∙ place_is 0x1000c g fs lt in
    let first = fill_same (length fs) p (place_of fs) same 3 0x10000 0x10000 (head main) (below, (tt, (tt, tt))) in
    let rest = fill_all_same (length fs) p (place_of fs) same 0x1000c fs stay in
    f ∙ ap (λ l. l ++ encoded (fill_all p 0x1000c fs)) e ∙ sym (map-append encoding_of (fill p 0x10000 0x10000 (head main)) (fill_all p 0x1000c fs))
    ∙ ap (λ l. encoded (l ++ fill_all p 0x1000c fs)) first ∙ ap (λ l. encoded (fill (place_of fs) 0x10000 0x10000 (head main) ++ l)) rest
