-- What `tokens` has found before an offset: the text up to the offset is cut into pieces, and the tokens among them are those
-- found. Each result of the scanner adds a piece or is the first error.
use Rattle.std.proofs.Common.{◌≡◌, ℕ, ◌+◌, ◌-◌, ◌<◌, ◌≤◌, List, [], ◌∷◌, ◌++◌, length, take, drop, refl, sym, ap, ◌∙◌, arith, subst, length-append, length-drop}
use Rattle.std.specs.List.{flat_map}
use Rattle.std.proofs.lemmas.List.{take_at, drop_at, append-nil, drop-drop, take_rest, drop_all, map_push}
use Rattle.cc_tokens.specs.declared.lexical_error.LexicalError.{LexicalError}
use Rattle.cc_tokens.specs.declared.lexical_error.LexicalError.TheVariants.{BadByte, UnclosedComment, BadConstant, ConstantTooLarge}
use Rattle.cc_tokens.specs.declared.scan.Head.{Head}
use Rattle.cc_tokens.specs.declared.token.Token.{Token}
use Rattle.cc_tokens.specs.declared.token.TokenKind.{TokenKind}
use Rattle.cc_tokens.specs.Place.{place_of}
use Rattle.cc_tokens.specs.Token.{lexeme, lexemes}
use Rattle.cc_tokens.specs.Tokens.{TextPiece, blank, comment, token, piece_bytes, IsCut, tokens_of, IsTokens, FirstLexicalError, IsLexicalError, AreInOrder, IsTokenRefusal, lexical_fault}
use Rattle.cc_tokens.specs.Reading.{FoundBefore}
use Rattle.cc_tokens.specs.internal.Scan.{head_of}
use Rattle.cc_tokens.proofs.Heads.{StandsAt, IsHead, head_sound}
use Rattle.cc_tokens.proofs.Cuts.{cut_more, bytes_more, tokens_more}

pub found_none : (text : List ℕ) → FoundBefore text [] 0
found_none text = record { within = omega arith; pieces = []; cut = refl; consumed = refl; tokens = refl; ordered = omega arith }

-- tokens in order stay in order with more room after them, and with one more token
order_grows : (low : ℕ) (ts : List Token) (at high : ℕ) → AreInOrder low ts at → at ≤ high → AreInOrder low ts high
order_grows low [] at high ordered le = omega arith
order_grows low (t ∷ ts) at high ordered le = (ordered.0, ordered.1, order_grows t.to ts at high ordered.2 le)

order_more : (low : ℕ) (ts : List Token) (at : ℕ) (t : Token) → AreInOrder low ts at → at ≤ t.from → t.from < t.to → AreInOrder low (ts ++ t ∷ []) t.to
order_more low [] at t ordered le some = (omega arith, some, omega arith)
order_more low (u ∷ ts) at t ordered le some = (ordered.0, ordered.1, order_more u.to ts at t ordered.2 le some)

module _ (text : List ℕ) (ts : List Token) (at n : ℕ) (found : FoundBefore text ts at) where
  -- if a piece follows, the tokens found before the offset, with the piece's own, are those before its end
  found_piece : (p : TextPiece) (ts' : List Token) → StandsAt (drop at text) n p → lexemes text ts' ≡ lexemes text ts ++ tokens_of at (p ∷ []) → AreInOrder 0 ts' (at + n) → FoundBefore text ts' (at + n)
  found_piece p ts' stands tokens ordered =
      let size = stands.size in
      let whole = stands.whole in
      let consumed = found.consumed in
      let total = ap length whole ∙ length-append (piece_bytes p) stands.after in
      let behind : stands.after ≡ drop (at + n) text = sym (drop_at (piece_bytes p) stands.after n size) ∙ ap (drop n) (sym whole) ∙ drop-drop n at text in
      let at_is : 0 + length (flat_map piece_bytes found.pieces) ≡ at = omega arith in
      record {
        within = omega (arith, found.within, total, length-drop at text, size);
        pieces = found.pieces ++ p ∷ [];
        cut = subst (λ rest. IsCut (found.pieces ++ p ∷ []) text rest) behind (cut_more found.pieces p text (drop at text) stands.after found.cut whole stands.stands);
        consumed = omega (arith, bytes_more found.pieces p, size);
        tokens = tokens ∙ ap (λ ls. ls ++ tokens_of at (p ∷ [])) found.tokens ∙ ap (λ i. tokens_of 0 found.pieces ++ tokens_of i (p ∷ [])) (sym at_is) ∙ sym (tokens_more 0 found.pieces p);
        ordered = ordered;
      }

  pub found_blank : (b : ℕ) → StandsAt (drop at text) n (blank b) → FoundBefore text ts (at + n)
  found_blank b stands = found_piece (blank b) ts stands (sym (append-nil (lexemes text ts))) (order_grows 0 ts at (at + n) found.ordered (omega arith))

  pub found_comment : (c : List ℕ) → StandsAt (drop at text) n (comment c) → FoundBefore text ts (at + n)
  found_comment c stands = found_piece (comment c) ts stands (sym (append-nil (lexemes text ts))) (order_grows 0 ts at (at + n) found.ordered (omega arith))

  pub found_token : (k : TokenKind) (bytes : List ℕ) → StandsAt (drop at text) n (token k bytes) → FoundBefore text (ts ++ record { kind = k; from = at; to = at + n } ∷ []) (at + n)
  found_token k bytes stands =
      let some = stands.some in
      let t : Token = record { kind = k; from = at; to = at + n } in
      let count : at + n - at ≡ n = omega arith in
      let bytes_are : take (at + n - at) (drop at text) ≡ bytes = ap (λ i. take i (drop at text)) count ∙ ap (take n) stands.whole ∙ take_at bytes stands.after n stands.size in
      let same : lexeme text t ≡ record { kind = k; text = bytes; at = at } = ap (λ bs. record { kind = k; text = bs; at = at }) bytes_are in
      found_piece (token k bytes) (ts ++ t ∷ []) stands (map_push (lexeme text) ts t ∙ ap (λ l. lexemes text ts ++ l ∷ []) same) (order_more 0 ts at t found.ordered (omega arith) (omega arith))

-- what the scanner returns for the rest of the text is what the rest begins with
pub head_at : (text : List ℕ) (at : ℕ) (f : Head) → at < length text → f ≡ head_of (take (length text - at) (drop at text)) → IsHead (drop at text) f
head_at text at f below e =
    subst (IsHead (drop at text)) (sym (e ∙ ap head_of (take_rest text at))) (head_sound (drop at text) (omega (arith, length-drop at text)))

-- at the end of the text, the tokens that were found are all its tokens
pub found_all : (text : List ℕ) (ts : List Token) (at : ℕ) → FoundBefore text ts at → length text ≤ at → IsTokens text (lexemes text ts)
found_all text ts at found past = record {
  pieces = found.pieces;
  cut = subst (λ rest. IsCut found.pieces text rest) (drop_all at text past) found.cut;
  tokens = found.tokens;
}

pub order_all : (text : List ℕ) (ts : List Token) (at : ℕ) → FoundBefore text ts at → AreInOrder 0 ts (length text)
order_all text ts at found = order_grows 0 ts at (length text) found.ordered found.within

-- an error at the offset is the text's first
pub found_error : (text : List ℕ) (ts : List Token) (at k : ℕ) (error : LexicalError) → FoundBefore text ts at → IsLexicalError error (drop at text) k → FirstLexicalError text error (at + k)
found_error text ts at k error found erroneous = record {
  pieces = found.pieces;
  rest = drop at text;
  offset = k;
  cut = found.cut;
  erroneous = erroneous;
  where_at = ap (λ i. i + k) found.consumed;
}

pub error_refused : (text : List ℕ) (error : LexicalError) (at : ℕ) → length text ≤ 65536 → FirstLexicalError text error at → IsTokenRefusal text (lexical_fault error (place_of text at))
error_refused text BadByte at fits first = record { fits = fits; error = BadByte; at = at; first = first; is = refl }
error_refused text UnclosedComment at fits first = record { fits = fits; error = UnclosedComment; at = at; first = first; is = refl }
error_refused text BadConstant at fits first = record { fits = fits; error = BadConstant; at = at; first = first; is = refl }
error_refused text ConstantTooLarge at fits first = record { fits = fits; error = ConstantTooLarge; at = at; first = first; is = refl }

-- a piece is within the bytes
pub stands_within : (text : List ℕ) (at n : ℕ) (p : TextPiece) → at < length text → StandsAt (drop at text) n p → at + n ≤ length text
stands_within text at n p below stands = omega (arith, ap length stands.whole, length-append (piece_bytes p) stands.after, length-drop at text, stands.size)
