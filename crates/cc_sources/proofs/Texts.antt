-- One text after another.
use Rattle.std.proofs.Common.{◌≡◌, ◌∙◌, ◌+◌, ◌≤◌, ◌<◌, ℕ, zero, suc, Bool, true, false, List, [], ◌∷◌, ◌++◌, length, drop, get_or, Some, refl, sym, ap, subst, inl, inr, arith, append_assoc, append-nil, length-append, length-drop, drop-cons}
use Rattle.std.specs.Prelude.{◌⊎◌, slice_get, if◌then◌else◌}
use Rattle.std.proofs.lemmas.Option.{slice_get_read}
use Rattle.cc_tokens.specs.Place.{place_of}
use Rattle.cc_sources.specs.Joined.{closed, joined, lacks_newline, newline_after}
use Rattle.cc_sources.specs.Places.{begin_of, IsIn}
use Rattle.cc_sources.specs.declared.place.TextPlace.{TextPlace}
use Rattle.cc_sources.specs.declared.text.NamedText.{NamedText}

-- the next text begins after this one and the newline that is added to it
begin-next : (texts : List NamedText) (k : ℕ) (text : NamedText) (further : List NamedText) → drop k texts ≡ text ∷ further → begin_of texts (suc k) ≡ begin_of texts k + length (closed text further)
begin-next [] zero text further e = absurd (cc)
begin-next [] (suc k) text further e = absurd (cc)
begin-next (t ∷ ts) zero text further e = grind (arith, e)
begin-next (t ∷ ts) (suc k) text further e = grind (arith, begin-next ts k text further e)

-- the whole consists of what comes before a text, and that text joined with the further ones
length-joined : (texts : List NamedText) (k : ℕ) → k ≤ length texts → length (joined texts) ≡ begin_of texts k + length (joined (drop k texts))
length-joined texts zero few = grind arith
length-joined [] (suc k) few = grind arith
length-joined (t ∷ ts) (suc k) few = grind (arith, length-append, length-joined ts k (omega (arith, few)))

-- one newline or none is at most one byte
few_of : (b : Bool) (some : List ℕ) → length some ≡ 1 → length (if b then some else []) ≤ 1
few_of true some one = omega (arith, one)
few_of false some one = omega (arith, one)

few_after : (bytes : List ℕ) → length (newline_after bytes) ≤ 1
few_after bytes = few_of (lacks_newline bytes) (10 ∷ []) refl

-- a text that others follow contributes its bytes, and the newline that is added to it
length-closed : (text : NamedText) (further : List NamedText) → 0 < length further → length (closed text further) ≡ length text.bytes.items + length (newline_after text.bytes.items)
length-closed text [] some = absurd (omega (arith, some))
length-closed text (next ∷ further) some = length-append text.bytes.items (newline_after text.bytes.items)

-- the last text adds only its bytes
length-last : (text : NamedText) (further : List NamedText) → length further ≡ 0 → length (joined (text ∷ further)) ≡ length text.bytes.items
length-last text [] none = ap length (append-nil text.bytes.items)
length-last text (next ∷ further) none = absurd (omega (arith, none))

-- the texts from index `k` on are the text at `k` and those after it
from_one : (texts : List NamedText) (k : ℕ) (text : NamedText) → k < length texts → text ≡ get_or texts k text → drop k texts ≡ text ∷ drop (suc k) texts
from_one texts k text few is = drop-cons texts k text few ∙ ap (λ (t : NamedText). t ∷ drop (suc k) texts) (sym is)

-- if one more text is appended, what was joined so far and the further texts still make up the whole
pub one_more : (text : NamedText) (further : List NamedText) (old new all : List ℕ) → old ++ joined (text ∷ further) ≡ all → new ≡ old ++ closed text further → new ++ joined further ≡ all
one_more text further old new all so_far is =
    ap (λ (l : List ℕ). l ++ joined further) is ∙ (append_assoc old (closed text further) (joined further) ∙ so_far)

-- a byte that comes after a text is at or after the beginning of the next one
pub moved : (texts : List NamedText) (k next at left now : ℕ) (text : NamedText) → next ≡ suc k → next < length texts → text ≡ get_or texts k text → at ≡ begin_of texts k + left
    → now + (length text.bytes.items + length (newline_after text.bytes.items)) ≡ left → at ≡ begin_of texts next + now
moved texts k next at left now text e few is so_far by =
    let here : k < length texts = omega (arith, e, few) in
    let some : 0 < length (drop (suc k) texts) = omega (arith, length-drop (suc k) texts, e, few) in
    let begins = begin-next texts k text (drop (suc k) texts) (from_one texts k text here is) in
    let whole = length-closed text (drop (suc k) texts) some in
    let there : begin_of texts next ≡ begin_of texts (suc k) = ap (begin_of texts) e in
    omega (arith, begins, whole, there, so_far, by)

-- what precedes the byte in its text is no longer than the text, if it is the last text, or if the byte is in it or in the
-- newline after it
within : (texts : List NamedText) (k at left : ℕ) (text : NamedText) → k < length texts → text ≡ get_or texts k text → at ≡ begin_of texts k + left → at ≤ length (joined texts)
    → (suc k ≡ length texts) ⊎ (left < length text.bytes.items + length (newline_after text.bytes.items)) → left ≤ length text.bytes.items
within texts k at left text here is so_far inside (inl last) =
    let none : length (drop (suc k) texts) ≡ 0 = omega (arith, length-drop (suc k) texts, last) in
    let one = from_one texts k text here is in
    let all = length-joined texts k (omega (arith, here)) in
    let rest : length (joined (drop k texts)) ≡ length text.bytes.items = ap (λ (l : List NamedText). length (joined l)) one ∙ length-last text (drop (suc k) texts) none in
    omega (arith, all, rest, so_far, inside)
within texts k at left text here is so_far inside (inr before) = omega (arith, before, few_after text.bytes.items)

-- the next text, if there is one, begins after the byte
before : (texts : List NamedText) (k at left : ℕ) (text : NamedText) → k < length texts → text ≡ get_or texts k text → at ≡ begin_of texts k + left
    → (suc k ≡ length texts) ⊎ (left < length text.bytes.items + length (newline_after text.bytes.items)) → suc k < length texts → at < begin_of texts (suc k)
before texts k at left text here is so_far (inl last) more = absurd (omega (arith, last, more))
before texts k at left text here is so_far (inr inside) more =
    let some : 0 < length (drop (suc k) texts) = omega (arith, length-drop (suc k) texts, more) in
    let begins = begin-next texts k text (drop (suc k) texts) (from_one texts k text here is) in
    omega (arith, begins, length-closed text (drop (suc k) texts) some, so_far, inside)

-- the byte is at the place that was found
pub lies : (texts : List NamedText) (k at left : ℕ) (text : NamedText) (found : TextPlace) → k < length texts → text ≡ get_or texts k text → at ≡ begin_of texts k + left
    → (suc k ≡ length texts) ⊎ (left < length text.bytes.items + length (newline_after text.bytes.items))
    → found.number ≡ k → (left ≤ length text.bytes.items → found.at ≡ left) → found.at ≤ length text.bytes.items → found.place ≡ place_of text.bytes.items found.at
    → at ≤ length (joined texts) → IsIn texts at found
lies texts k at left text found here is so_far why number same few place inside =
    let left_there : found.at ≡ left = same (within texts k at left text here is so_far inside why) in
    let begin_there : begin_of texts found.number ≡ begin_of texts k = ap (begin_of texts) number in
    let next_there : begin_of texts (suc found.number) ≡ begin_of texts (suc k) = ap (λ (n : ℕ). begin_of texts (suc n)) number in
    record {
      text = text;
      there = ap (λ (n : ℕ). slice_get texts n) number ∙ slice_get_read texts (length texts) k text refl here is;
      begins = omega (arith, so_far, left_there, begin_there);
      within = few;
      before_next = λ more. let first = before texts k at left text here is so_far why (omega (arith, more, number)) in omega (arith, first, next_there);
      place = place;
    }
