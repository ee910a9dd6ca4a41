-- Each text can be cut into pieces as far as its end or an error: what is left begins with the next piece or
-- with the error.
use Rattle.std.proofs.Common.{ℕ, suc, zero, ◌+◌, ◌≤◌, ◌⊎◌, List, [], ◌∷◌, ◌++◌, length, refl, ap, arith, inl, inr, ⊎_elim, length-append}
use Rattle.std.specs.List.{flat_map}
use Rattle.cc_tokens.specs.declared.lexical_error.LexicalError.{LexicalError}
use Rattle.cc_tokens.specs.declared.scan.Head.{Head}
use Rattle.cc_tokens.specs.declared.scan.Head.TheVariants as head
use Rattle.cc_tokens.specs.Tokens.{TextPiece, blank, comment, token, piece_bytes, IsCut, tokens_of, FirstLexicalError, TokensOrLexicalError}
use Rattle.cc_tokens.specs.internal.Scan.{head_of}
use Rattle.cc_tokens.proofs.Heads.{StandsAt, IsHead, head_sound}
use Rattle.cc_tokens.proofs.Cuts.{cut_more}

-- the text is cut to its end, or has a first error
Ends : List ℕ → Type 0
Ends text = ((ps : List TextPiece) × IsCut ps text []) ⊎ ((error : LexicalError) × (at : ℕ) × FirstLexicalError text error at)

-- if the rest begins with a piece, the text is cut up to the end of that piece
goes : (text : List ℕ) (ps : List TextPiece) (rest : List ℕ) (n most : ℕ) (p : TextPiece) → IsCut ps text rest → length rest ≤ suc most → StandsAt rest n p
    → ((qs : List TextPiece) (left : List ℕ) → IsCut qs text left → length left ≤ most → Ends text) → Ends text
goes text ps rest n most p cut size stands on =
    let whole = stands.whole in
    let total = ap length whole in
    let parts = length-append (piece_bytes p) stands.after in
    let taken = stands.size in
    let some = stands.some in
    on (ps ++ p ∷ []) stands.after (cut_more ps p text rest stands.after cut whole stands.stands) (omega arith)

-- the text is cut further, depending on what the rest begins with
by_head : (text : List ℕ) (ps : List TextPiece) (rest : List ℕ) (most : ℕ) (f : Head) → IsCut ps text rest → length rest ≤ suc most → IsHead rest f
    → ((qs : List TextPiece) (left : List ℕ) → IsCut qs text left → length left ≤ most → Ends text) → Ends text
unfolding Ends
by_head text ps rest most head.Blank cut size stands on = goes text ps rest 1 most (blank stands.0) cut size stands.1 on
by_head text ps rest most (head.Comment n) cut size stands on = goes text ps rest n most (comment stands.0) cut size stands.1 on
by_head text ps rest most (head.Token k n) cut size stands on = goes text ps rest n most (token k stands.0) cut size stands.1 on
by_head text ps rest most (head.Error error k) cut size stands on =
    inr (error, length (flat_map piece_bytes ps) + k, record { pieces = ps; rest = rest; offset = k; cut = cut; erroneous = stands.1; where_at = refl })

-- a text that is cut up to a rest of at most `most` bytes is cut to its end, or has a first error
cut_on : (most : ℕ) (text : List ℕ) (ps : List TextPiece) (rest : List ℕ) → IsCut ps text rest → length rest ≤ most → Ends text
unfolding Ends
cut_on most text ps [] cut size = inl (ps, cut)
cut_on zero text ps (b ∷ bs) cut size = absurd (omega arith)
cut_on (suc most) text ps (b ∷ bs) cut size = by_head text ps (b ∷ bs) most (head_of (b ∷ bs)) cut size (head_sound (b ∷ bs) (omega arith)) (λ qs left cut' size'. cut_on most text qs left cut' size')

pub tokens_or_error : TokensOrLexicalError
unfolding Ends
tokens_or_error text = ⊎_elim
    (λ (done : (ps : List TextPiece) × IsCut ps text []). inl (tokens_of 0 done.0, record { pieces = done.0; cut = done.1; tokens = refl }))
    (λ (erroneous : (error : LexicalError) × (at : ℕ) × FirstLexicalError text error at). inr erroneous)
    (cut_on (length text) text [] text refl (omega arith))
