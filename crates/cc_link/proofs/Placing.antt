-- Pieces joined in order are at their places as words, and the call of main does what the source's call of
-- main does.
use Rattle.std.proofs.Common.{◌≡◌, ℕ, zero, suc, ◌+◌, ◌-◌, ◌*◌, ◌/◌, ◌%◌, ◌<◌, ◌≤◌, List, [], ◌∷◌, ◌++◌, Some, None, length, get_or, take, option_map, option_and_then, refl, sym, ap, ◌∙◌, subst, ◌⊎◌, inl, inr, arith, append_assoc}
use Rattle.std.specs.Prelude.{slice_get, nat_le, ◌&&◌, ◌==◌, if◌then◌else◌}
use Rattle.std.proofs.lemmas.Bool.{le-leb, cases_lt}
use Rattle.std.proofs.lemmas.List.{length-append}
use Rattle.std.proofs.lemmas.Option.{slice_get_read, slice_get-map}
use Rattle.std.proofs.Math.Seq.{get_or-append_seam}
use Rattle.cc_rv32.specs.declared.instr.Instr.{Instr}
use Rattle.cc_rv32.specs.Machine.{State, code_from, instruction_at}
use Rattle.cc_rv32.specs.Table.{IsEncodable, encoding_of, instruction_of}
use Rattle.cc_rv32.proofs.RoundTrip.{decoded}
use Rattle.cc_simulation.specs.World.{World}
use Rattle.cc_simulation.specs.Meaning.{Meaning}
use Rattle.cc_emit.specs.declared.item.PieceItem.{PieceItem}
use Rattle.cc_emit.specs.declared.item.PieceItem.TheVariants.{Plain, Call, Go}
use Rattle.cc_emit.specs.Contract.{ObjectLayout, filled, Placed, IsEnough, IsPlace, PieceMeets, Enters, Meets, IsFit, AreFit, IsPiece}
use Rattle.cc_link.specs.Link.{fill, fill_all, size_of, head, place_of, linked_code, encoded}
use Rattle.cc_link.proofs.Machine.{Stack, on_stack}
use Rattle.cc_link.proofs.CallsMeet.{Pieces, slower_piece, power, calls_meet}

fetch_at : (code : List ℕ) (k : ℕ) → instruction_at code (0x10000 + 4 * k) ≡ option_and_then instruction_of (slice_get code k)
unfolding instruction_at
fetch_at code k =
    let a = 0x10000 + 4 * k in
    let e : a % 4 ≡ 0 = omega arith in
    let f : (a - 0x10000) / 4 ≡ k = omega arith in
    ap (λ n. if (n == 0) && nat_le code_from a then option_and_then instruction_of (slice_get code ((a - code_from) / 4)) else None) e
    ∙ ap (λ b. if b then option_and_then instruction_of (slice_get code ((a - code_from) / 4)) else None) (le-leb code_from a (omega arith))
    ∙ ap (λ n. option_and_then instruction_of (slice_get code n)) f

seam : (xs : List Instr) (y : Instr) (ys : List Instr) → slice_get (xs ++ y ∷ ys) (length xs) ≡ Some y
seam xs y ys =
    let e = length-append xs (y ∷ ys) in
    slice_get_read (xs ++ y ∷ ys) (length (xs ++ y ∷ ys)) (length xs) y refl (omega arith) (sym (get_or-append_seam xs y ys y))

-- decoding the word of an instruction at its place yields that instruction
worded : (xs : List Instr) (y : Instr) (ys : List Instr) → IsEncodable y → option_and_then instruction_of (slice_get (encoded (xs ++ y ∷ ys)) (length xs)) ≡ Some y
worded xs y ys fit =
    ap (option_and_then instruction_of) (slice_get-map encoding_of (xs ++ y ∷ ys) (length xs))
    ∙ ap (λ o. option_and_then instruction_of (option_map encoding_of o)) (seam xs y ys)
    ∙ decoded y fit

-- ---- what is filled in has a word

abbrev pub AreEncodable : (places : ℕ → ℕ) (place a : ℕ) → List PieceItem → Type 0
AreEncodable places place a [] = Unit {0}
AreEncodable places place a (i ∷ is) = IsEncodable (filled places place a i) × AreEncodable places place (a + 4) is

module _ (functions long place : ℕ) (places : ℕ → ℕ) (called : (g : ℕ) → g < functions → IsPlace (places g)) (from : IsPlace place) (to : IsPlace (place + 4 * long)) where
  filled_encodable : (k : ℕ) (i : PieceItem) → k < long → IsFit functions long i → IsEncodable (filled places place (place + 4 * k) i)
  filled_encodable k (Plain i) lt e = e
  filled_encodable k (Call g) lt e = (let p = called g e in let x = p.to in let y = p.from in let z = p.aligned in let u = from.from in let v = to.to in let w = from.aligned in (omega arith, (omega arith, omega arith, omega arith)))
  filled_encodable k (Go n) lt e = (let u = from.from in let v = to.to in let w = from.aligned in (omega arith, (omega arith, omega arith, omega arith)))

  items_encodable : (items : List PieceItem) (k a : ℕ) → a ≡ place + 4 * k → k + length items ≡ long → AreFit functions long items → AreEncodable places place a items
  items_encodable [] k a e f fit = tt
  items_encodable (i ∷ is) k a e f fit =
      (subst (λ b. IsEncodable (filled places place b i)) (sym e) (filled_encodable k i (omega arith) fit.0), items_encodable is (suc k) (a + 4) (omega arith) (omega arith) fit.1)

pub length_fill : (places : ℕ → ℕ) (place a : ℕ) (xs : List PieceItem) → length (fill places place a xs) ≡ length xs
length_fill places place a [] = refl
length_fill places place a (x ∷ xs) = ap suc (length_fill places place (a + 4) xs)

pub placed_behind : (stack : Stack) (code : List Instr) (places : ℕ → ℕ) (place : ℕ) (prefix : List Instr) (items : List PieceItem) (back : List Instr) (a : ℕ) → code ≡ prefix ++ (fill places place a items ++ back) → a ≡ 0x10000 + 4 * length prefix → AreEncodable places place a items → Placed (on_stack stack (instruction_at (encoded code))) places place a items
placed_behind stack code places place prefix [] back a e at fit = tt
placed_behind stack code places place prefix (x ∷ items) back a e at fit =
    let y = filled places place a x in
    let more = prefix ++ (y ∷ []) in
    let g : prefix ++ (y ∷ (fill places place (a + 4) items ++ back)) ≡ more ++ (fill places place (a + 4) items ++ back) = sym (append_assoc prefix (y ∷ []) (fill places place (a + 4) items ++ back)) in
    let n : length more ≡ length prefix + 1 = length-append prefix (y ∷ []) in (
      ap (instruction_at (encoded code)) at ∙ fetch_at (encoded code) (length prefix) ∙ ap (λ c. option_and_then instruction_of (slice_get (encoded c) (length prefix))) e ∙ worded prefix y (fill places place (a + 4) items ++ back) fit.0,
      placed_behind stack code places place more items back (a + 4) (e ∙ g) (omega arith) fit.1,
    )

-- the instructions of all pieces, split before and after those of piece f
record Split (places : ℕ → ℕ) (a : ℕ) (pieces : List (List PieceItem)) (f : ℕ) : Type 0 where
  prefix : List Instr
  back : List Instr
  is : fill_all places a pieces ≡ prefix ++ (fill places (a + 4 * size_of (take f pieces)) (a + 4 * size_of (take f pieces)) (get_or pieces f []) ++ back)
  long : length prefix ≡ size_of (take f pieces)

split : (places : ℕ → ℕ) (a : ℕ) (pieces : List (List PieceItem)) (f : ℕ) → f < length pieces → Split places a pieces f
split places a [] f lt = absurd (omega arith)
split places a (p ∷ ps) zero lt =
    let e : a ≡ a + 4 * 0 = omega arith in
    record { prefix = []; back = fill_all places (a + 4 * length p) ps; is = ap (λ n. fill places n n p ++ fill_all places (a + 4 * length p) ps) e; long = refl }
split places a (p ∷ ps) (suc f) lt =
    let r = split places (a + 4 * length p) ps f (omega arith) in
    let first = fill places a a p in
    let n = length-append first r.prefix in
    let k = length_fill places a a p in
    let m = r.long in
    let e : a + 4 * length p + 4 * size_of (take f ps) ≡ a + 4 * (length p + size_of (take f ps)) = omega arith in
    record {
      prefix = first ++ r.prefix;
      back = r.back;
      is = ap (λ l. first ++ l) r.is ∙ sym (append_assoc first r.prefix _) ∙ ap (λ b. (first ++ r.prefix) ++ (fill places b b (get_or ps f []) ++ r.back)) e;
      long = omega arith;
    }

room_of : (pieces : List (List PieceItem)) (f : ℕ) → f < length pieces → size_of (take f pieces) + length (get_or pieces f []) ≤ size_of pieces
room_of [] f lt = absurd (omega arith)
room_of (p ∷ ps) zero lt = omega arith
room_of (p ∷ ps) (suc f) lt = let r = room_of ps f (omega arith) in omega arith

module _ (meaning : Meaning) (layout : ObjectLayout meaning.objects) (main : ℕ) (pieces : List (List PieceItem)) (is_function : main < meaning.functions) (count : length pieces ≡ meaning.functions) (fits : 3 + size_of pieces ≤ 131072)
    (stack : Stack) (frames : ℕ → ℕ) (all : (f : ℕ) → f < meaning.functions → IsPiece meaning layout f (frames f) (get_or pieces f [])) (enough : (f : ℕ) → f < meaning.functions → IsEnough stack.need f (frames f) (get_or pieces f [])) where
  abbrev code : List Instr
  code = linked_code main pieces

  pub from : (f : ℕ) → f < meaning.functions → IsPlace (place_of pieces f)
  unfolding place_of
  from f lt = let r = room_of pieces f (omega arith) in record { aligned = omega arith; from = omega arith; to = omega arith }

  to : (f : ℕ) → f < meaning.functions → IsPlace (place_of pieces f + 4 * length (get_or pieces f []))
  unfolding place_of
  to f lt = let r = room_of pieces f (omega arith) in record { aligned = omega arith; from = omega arith; to = omega arith }

  piece_encodable : (f : ℕ) → f < meaning.functions → AreEncodable (place_of pieces) (place_of pieces f) (place_of pieces f) (get_or pieces f [])
  piece_encodable f lt = items_encodable meaning.functions (length (get_or pieces f [])) (place_of pieces f) (place_of pieces) from (from f lt) (to f lt) (get_or pieces f []) 0 (place_of pieces f) (omega arith) (omega arith) (all f lt).fit

  placed : (f : ℕ) → f < meaning.functions → Placed (on_stack stack (instruction_at (encoded code))) (place_of pieces) (place_of pieces f) (place_of pieces f) (get_or pieces f [])
  unfolding place_of
  placed f lt =
      let places = place_of pieces in
      let s = split places 0x1000c pieces f (omega arith) in
      let long = s.long in
      let first = fill places 0x10000 0x10000 (head main) in
      let n = length-append first s.prefix in
      let k = length_fill places 0x10000 0x10000 (head main) in
      placed_behind stack code places _ (first ++ s.prefix) (get_or pieces f []) s.back _ (ap (λ l. first ++ l) s.is ∙ sym (append_assoc first s.prefix _)) (omega arith) (piece_encodable f lt)

  head_place : (k : ℕ) → k < 4 → IsPlace (0x10000 + 4 * k)
  head_place k lt = record { aligned = omega arith; from = omega arith; to = omega arith }

  head_encodable : AreEncodable (place_of pieces) 0x10000 0x10000 (head main)
  head_encodable = items_encodable meaning.functions 3 0x10000 (place_of pieces) from (head_place 0 (omega arith)) (head_place 3 (omega arith)) (head main) 0 0x10000 refl refl (is_function, ((omega arith, omega arith, (omega arith, omega arith)), (tt, tt)))

  pub begins : Placed (on_stack stack (instruction_at (encoded code))) (place_of pieces) 0x10000 0x10000 (head main)
  begins = placed_behind stack code (place_of pieces) 0x10000 [] (head main) (fill_all (place_of pieces) 0x1000c pieces) 0x10000 refl (omega arith) head_encodable

  common_at : (k a b f : ℕ) → (f < k) ⊎ (k ≤ f) → f < suc k → ((f : ℕ) → f < k → PieceMeets meaning layout f (frames f) a (get_or pieces f [])) → PieceMeets meaning layout k (frames k) b (get_or pieces k []) → PieceMeets meaning layout f (frames f) (a + b) (get_or pieces f [])
  common_at k a b f (inl less) lt g h = slower_piece meaning layout f (frames f) a (a + b) (get_or pieces f []) (omega arith) (g f less)
  common_at k a b f (inr le) lt g h =
      let e : k ≡ f = omega arith in
      subst (λ x. PieceMeets meaning layout x (frames x) (a + b) (get_or pieces x [])) e (slower_piece meaning layout k (frames k) b (a + b) (get_or pieces k []) (omega arith) h)

  -- if each piece meets its contract at some rate, all of them meet it at one common rate
  common : (k : ℕ) → ((f : ℕ) → f < k → IsPiece meaning layout f (frames f) (get_or pieces f [])) → (rate : ℕ) × ((f : ℕ) → f < k → PieceMeets meaning layout f (frames f) rate (get_or pieces f []))
  common zero h = (0, λ f lt. absurd (omega arith))
  common (suc k) h =
      let less = common k (λ f lt. h f (omega arith)) in
      let last = h k (omega arith) in
      (less.0 + last.rate, λ f lt. common_at k less.0 last.rate f (cases_lt f k) lt less.1 last.meets)

  -- wherever main is entered with no other call open, the machine does what the source's call of main does
  pub linked_meets : (rate : ℕ) × ((h : World) (s : State) (n : ℕ) → Enters meaning layout (on_stack stack (instruction_at (encoded (linked_code main pieces)))) main 0 (place_of pieces main) [] h s → Meets layout (on_stack stack (instruction_at (encoded (linked_code main pieces)))) (power rate 1024) (power rate 1024) n s (meaning.call n 0 main [] h))
  linked_meets =
      let rate = common meaning.functions all in
      let made : Pieces meaning layout rate.0 (on_stack stack (instruction_at (encoded code))) (place_of pieces) = record { items = λ f. get_or pieces f []; frames = frames; enough = enough; meets = rate.1; placed = placed; from = from; to = to } in
      (rate.0, λ h s n enters. calls_meet meaning layout rate.0 (on_stack stack (instruction_at (encoded code))) (place_of pieces) made 1024 0 (omega arith) main [] h s n is_function enters)
