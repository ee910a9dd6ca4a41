-- Cutting a text into pieces: one more piece can be added at the end, and no text can be cut in two ways.
use Rattle.std.proofs.Common.{◌≡◌, ℕ, suc, ◌+◌, ◌<◌, true, List, [], ◌∷◌, ◌++◌, length, get_or, take, drop, refl, sym, ap, ◌∙◌, arith, subst, ⊎_elim, length-append, append_assoc}
use Rattle.std.specs.List.{flat_map}
use Rattle.std.specs.Char.{is_ascii_digit}
use Rattle.std.proofs.lemmas.Bool.{false≢true}
use Rattle.std.proofs.lemmas.List.{take_at, drop_at, append-nil}
use Rattle.cc_tokens.specs.declared.lexical_error.LexicalError.{LexicalError}
use Rattle.cc_tokens.specs.declared.lexical_error.LexicalError.TheVariants.{BadByte, UnclosedComment, BadConstant, ConstantTooLarge}
use Rattle.cc_tokens.specs.declared.scan.Head.TheVariants as head
use Rattle.cc_tokens.specs.Tokens.{TextPiece, blank, comment, token, piece_bytes, StandsBefore, IsCut, tokens_of, IsLexicalError, IsStray, IsSpliced, IsNumber, TokensAreOne, TokensHaveNoLexicalError, FirstLexicalErrorIsOne}
use Rattle.cc_tokens.specs.internal.Scan.{head_of, punctuator_at}
use Rattle.cc_tokens.proofs.ConstantForms.{constant_begins}
use Rattle.cc_tokens.proofs.Complete.{answer_of, piece_complete, error_complete}

-- One more piece can be added at the end of a cut.
pub cut_more : (ps : List TextPiece) (p : TextPiece) (text rest after : List ℕ) → IsCut ps text rest → rest ≡ piece_bytes p ++ after → StandsBefore p after → IsCut (ps ++ p ∷ []) text after
cut_more [] p text rest after cut whole stands = (after, cut ∙ whole, stands, refl)
cut_more (q ∷ ps) p text rest after cut whole stands = (cut.0, cut.1, cut.2, cut_more ps p cut.0 rest after cut.3 whole stands)

pub bytes_more : (ps : List TextPiece) (p : TextPiece) → length (flat_map piece_bytes (ps ++ p ∷ [])) ≡ length (flat_map piece_bytes ps) + length (piece_bytes p)
bytes_more [] p = ap length (append-nil (piece_bytes p)) ∙ omega arith
bytes_more (q ∷ ps) p =
    let ih = bytes_more ps p in
    omega (arith, length-append (piece_bytes q) (flat_map piece_bytes (ps ++ p ∷ [])), length-append (piece_bytes q) (flat_map piece_bytes ps))

pub tokens_more : (at : ℕ) (ps : List TextPiece) (p : TextPiece) → tokens_of at (ps ++ p ∷ []) ≡ tokens_of at ps ++ tokens_of (at + length (flat_map piece_bytes ps)) (p ∷ [])
tokens_more at [] p = ap (λ i. tokens_of i (p ∷ [])) (let e : at ≡ at + 0 = omega arith in e)
tokens_more at (blank b ∷ ps) p = tokens_more (at + 1) ps p ∙ ap (λ i. tokens_of (at + 1) ps ++ tokens_of i (p ∷ [])) (let e : at + 1 + length (flat_map piece_bytes ps) ≡ at + suc (length (flat_map piece_bytes ps)) = omega arith in e)
tokens_more at (comment c ∷ ps) p = tokens_more (at + length c) ps p ∙ ap (λ i. tokens_of (at + length c) ps ++ tokens_of i (p ∷ [])) (let e : at + length c + length (flat_map piece_bytes ps) ≡ at + length (c ++ flat_map piece_bytes ps) = omega (arith, length-append c (flat_map piece_bytes ps)) in e)
tokens_more at (token k text ∷ ps) p = ap (λ ts. record { kind = k; text = text; at = at } ∷ ts) (tokens_more (at + length text) ps p ∙ ap (λ i. tokens_of (at + length text) ps ++ tokens_of i (p ∷ [])) (let e : at + length text + length (flat_map piece_bytes ps) ≡ at + length (text ++ flat_map piece_bytes ps) = omega (arith, length-append text (flat_map piece_bytes ps)) in e))

pub cut_whole : (ps : List TextPiece) (text rest : List ℕ) → IsCut ps text rest → text ≡ flat_map piece_bytes ps ++ rest
cut_whole [] text rest cut = cut
cut_whole (p ∷ ps) text rest cut = cut.1 ∙ ap (λ bs. piece_bytes p ++ bs) (cut_whole ps cut.0 rest cut.3) ∙ sym (append_assoc (piece_bytes p) (flat_map piece_bytes ps) rest)

-- No text can be cut in two ways.
same_bytes : (c d a b : List ℕ) → c ++ a ≡ d ++ b → length c ≡ length d → (c ≡ d) × (a ≡ b)
same_bytes c d a b e size = (
  sym (take_at c a (length c) refl) ∙ ap (take (length c)) e ∙ take_at d b (length c) (sym size),
  sym (drop_at c a (length c) refl) ∙ ap (drop (length c)) e ∙ drop_at d b (length c) (sym size),
)

same_piece : (p q : TextPiece) (a b : List ℕ) → piece_bytes p ++ a ≡ piece_bytes q ++ b → answer_of p ≡ answer_of q → (p ≡ q) × (a ≡ b)
same_piece (blank x) (blank y) a b e same = (cc, cc)
same_piece (blank x) (comment d) a b e same = absurd (let h : ⊥ = cc in h)
same_piece (blank x) (token k d) a b e same = absurd (let h : ⊥ = cc in h)
same_piece (comment c) (blank y) a b e same = absurd (let h : ⊥ = cc in h)
same_piece (comment c) (comment d) a b e same = let size : length c ≡ length d = cc in let parts = same_bytes c d a b e size in (ap comment parts.0, parts.1)
same_piece (comment c) (token k d) a b e same = absurd (let h : ⊥ = cc in h)
same_piece (token j c) (blank y) a b e same = absurd (let h : ⊥ = cc in h)
same_piece (token j c) (comment d) a b e same = absurd (let h : ⊥ = cc in h)
same_piece (token j c) (token k d) a b e same =
    let size : length c ≡ length d = cc in
    let kinds : j ≡ k = cc in
    let parts = same_bytes c d a b e size in
    (ap (λ i. token i c) kinds ∙ ap (token k) parts.0, parts.1)

-- two pieces that a text begins with are the same
head_piece : (p q : TextPiece) (text a b : List ℕ) → text ≡ piece_bytes p ++ a → StandsBefore p a → text ≡ piece_bytes q ++ b → StandsBefore q b → (p ≡ q) × (a ≡ b)
head_piece p q text a b whole stands whole' stands' = same_piece p q a b (sym whole ∙ whole') (sym (piece_complete p a stands) ∙ ap head_of (sym whole ∙ whole') ∙ piece_complete q b stands')

-- a piece is not an error, and has bytes; an error has bytes
piece_no_error : (p : TextPiece) (error : LexicalError) (k : ℕ) → answer_of p ≡ head.Error error k → ⊥
piece_no_error (blank b) error k e = let h : ⊥ = cc in h
piece_no_error (comment c) error k e = let h : ⊥ = cc in h
piece_no_error (token j c) error k e = let h : ⊥ = cc in h

head_error : (p : TextPiece) (text a : List ℕ) (error : LexicalError) (k : ℕ) → text ≡ piece_bytes p ++ a → StandsBefore p a → IsLexicalError error text k → ⊥
head_error p text a error k whole stands erroneous = piece_no_error p error k (sym (piece_complete p a stands) ∙ ap head_of (sym whole) ∙ error_complete error text k erroneous)

head_of_nothing : head_of [] ≡ head.Error BadByte 0
unfolding head_of punctuator_at
head_of_nothing = refl

piece_has_bytes : (p : TextPiece) (a : List ℕ) → [] ≡ piece_bytes p ++ a → StandsBefore p a → ⊥
piece_has_bytes p a whole stands = piece_no_error p BadByte 0 (sym (piece_complete p a stands) ∙ ap head_of (sym whole) ∙ head_of_nothing)

begins_nonempty : (text : List ℕ) → is_ascii_digit (get_or text 0 0) ≡ true → 0 < length text
begins_nonempty [] digit = absurd (false≢true digit)
begins_nonempty (b ∷ bs) digit = omega arith

number_nonempty : (text : List ℕ) → IsNumber text → 0 < length text
number_nonempty [] w = absurd w
number_nonempty (b ∷ bs) w = omega arith

head_nonempty : (text after bytes : List ℕ) → bytes ≡ text ++ after → 0 < length text → 0 < length bytes
head_nonempty text after bytes whole some = omega (arith, ap length whole, length-append text after)

pub error_has_bytes : (error : LexicalError) (bytes : List ℕ) (k : ℕ) → IsLexicalError error bytes k → 0 < length bytes
error_has_bytes BadByte bytes k erroneous = ⊎_elim
    (λ (s : IsStray bytes × (k ≡ 0)). omega (arith, ap length s.0.whole))
    (λ (s : IsSpliced bytes k). head_nonempty (s.prefix ++ s.back) s.after bytes s.whole (omega (arith, s.inside, length-append s.prefix s.back)))
    erroneous
error_has_bytes UnclosedComment bytes k erroneous = omega (arith, ap length erroneous.0.whole)
error_has_bytes BadConstant bytes k erroneous = head_nonempty erroneous.0.text erroneous.0.after bytes erroneous.0.whole (number_nonempty erroneous.0.text erroneous.0.number)
error_has_bytes ConstantTooLarge bytes k erroneous = head_nonempty erroneous.0.text erroneous.0.after bytes erroneous.0.whole (begins_nonempty erroneous.0.text (constant_begins erroneous.0.constant erroneous.0.text erroneous.0.spelled))

cut_one : (ps qs : List TextPiece) (text : List ℕ) → IsCut ps text [] → IsCut qs text [] → ps ≡ qs
cut_one [] [] text cut cut' = refl
cut_one [] (q ∷ qs) text cut cut' = absurd (piece_has_bytes q cut'.0 (sym cut ∙ cut'.1) cut'.2)
cut_one (p ∷ ps) [] text cut cut' = absurd (piece_has_bytes p cut.0 (sym cut' ∙ cut.1) cut.2)
cut_one (p ∷ ps) (q ∷ qs) text cut cut' =
    let same = head_piece p q text cut.0 cut'.0 cut.1 cut.2 cut'.1 cut'.2 in
    let ih = cut_one ps qs cut.0 cut.3 (subst (λ bs. IsCut qs bs []) (sym same.1) cut'.3) in
    ap (λ x. x ∷ ps) same.0 ∙ ap (λ xs. q ∷ xs) ih

cut_no_error : (ps qs : List TextPiece) (text rest : List ℕ) (error : LexicalError) (k : ℕ) → IsCut ps text rest → IsLexicalError error rest k → IsCut qs text [] → ⊥
cut_no_error [] [] text rest error k cut erroneous cut' = let some = error_has_bytes error rest k erroneous in let size = ap length (sym cut' ∙ cut) in omega arith
cut_no_error [] (q ∷ qs) text rest error k cut erroneous cut' = head_error q rest cut'.0 error k (sym cut ∙ cut'.1) cut'.2 erroneous
cut_no_error (p ∷ ps) [] text rest error k cut erroneous cut' = piece_has_bytes p cut.0 (sym cut' ∙ cut.1) cut.2
cut_no_error (p ∷ ps) (q ∷ qs) text rest error k cut erroneous cut' =
    let same = head_piece p q text cut.0 cut'.0 cut.1 cut.2 cut'.1 cut'.2 in
    cut_no_error ps qs cut.0 rest error k cut.3 erroneous (subst (λ bs. IsCut qs bs []) (sym same.1) cut'.3)

error_one : (ps qs : List TextPiece) (text rest rest' : List ℕ) (f g : LexicalError) (i j : ℕ) → IsCut ps text rest → IsLexicalError f rest i → IsCut qs text rest' → IsLexicalError g rest' j → (f ≡ g) × (length (flat_map piece_bytes ps) + i ≡ length (flat_map piece_bytes qs) + j)
error_one [] [] text rest rest' f g i j cut erroneous cut' erroneous' =
    let same : head.Error f i ≡ head.Error g j = sym (error_complete f rest i erroneous) ∙ ap head_of (sym cut ∙ cut') ∙ error_complete g rest' j erroneous' in
    (cc, (let places : i ≡ j = cc in ap (λ n. 0 + n) places))
error_one [] (q ∷ qs) text rest rest' f g i j cut erroneous cut' erroneous' = absurd (head_error q rest cut'.0 f i (sym cut ∙ cut'.1) cut'.2 erroneous)
error_one (p ∷ ps) [] text rest rest' f g i j cut erroneous cut' erroneous' = absurd (head_error p rest' cut.0 g j (sym cut' ∙ cut.1) cut.2 erroneous')
error_one (p ∷ ps) (q ∷ qs) text rest rest' f g i j cut erroneous cut' erroneous' =
    let same = head_piece p q text cut.0 cut'.0 cut.1 cut.2 cut'.1 cut'.2 in
    let ih = error_one ps qs cut.0 rest rest' f g i j cut.3 erroneous (subst (λ bs. IsCut qs bs rest') (sym same.1) cut'.3) erroneous' in
    let sizes = ap (λ x. length (piece_bytes x)) same.0 in
    (ih.0, omega (arith, ih.1, sizes, length-append (piece_bytes p) (flat_map piece_bytes ps), length-append (piece_bytes q) (flat_map piece_bytes qs)))

-- **the three laws**
pub tokens_are_one : TokensAreOne
tokens_are_one text a b one other = one.tokens ∙ ap (tokens_of 0) (cut_one one.pieces other.pieces text one.cut other.cut) ∙ sym other.tokens

pub tokens_have_no_error : TokensHaveNoLexicalError
tokens_have_no_error text ts error at one f = cut_no_error f.pieces one.pieces text f.rest error f.offset f.cut f.erroneous one.cut

pub first_error_is_one : FirstLexicalErrorIsOne
first_error_is_one text f g i j one other =
    let same = error_one one.pieces other.pieces text one.rest other.rest f g one.offset other.offset one.cut one.erroneous other.cut other.erroneous in
    (same.0, one.where_at ∙ same.1 ∙ sym other.where_at)
