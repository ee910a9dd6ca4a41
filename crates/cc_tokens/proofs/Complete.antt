-- If the bytes begin with a piece or an error, the scanner returns that piece or error. So the bytes cannot begin with two
-- different ones, and a text has at most one list of tokens, or one first error, and not both.
use Rattle.std.proofs.Common.{◌≡◌, ◌≢◌, ℕ, suc, true, false, List, [], ◌∷◌, ◌++◌, length, get_or, take, drop, refl, sym, ap, ◌∙◌, arith, subst, ⊎_elim, Option, Some, None}
use Rattle.std.specs.Char.{is_ascii_digit}
use Rattle.std.proofs.lemmas.Bool.{false≢true, and_left, ne_eqb, cases_Bool}
use Rattle.std.proofs.lemmas.List.{append-nil, take_at}
use Rattle.cc_tokens.specs.declared.lexical_error.LexicalError.{LexicalError}
use Rattle.cc_tokens.specs.declared.lexical_error.LexicalError.TheVariants.{BadByte, UnclosedComment, BadConstant, ConstantTooLarge}
use Rattle.cc_tokens.specs.declared.scan.Head.{Head}
use Rattle.cc_tokens.specs.declared.scan.Head.TheVariants as head
use Rattle.cc_tokens.specs.declared.token.Keyword.{Keyword}
use Rattle.cc_tokens.specs.declared.token.Punctuator.{Punctuator}
use Rattle.cc_tokens.specs.declared.token.TokenKind.{TokenKind}
use Rattle.cc_tokens.specs.declared.token.TokenKind.TheVariants as kind
use Rattle.cc_tokens.specs.Spelling.{keyword_bytes, punctuator_bytes}
use Rattle.cc_tokens.specs.Constant.{Constant, SpellsConstant, digits_value, constant_type}
use Rattle.cc_tokens.specs.Tokens.{is_blank, is_nondigit, CanBeToken, word, number, punctuator, IsIdentifierText, IsNumber, SpellsToken, IsLongest, begins_comment, IsComment, block, line, TextPiece, blank, comment, token, piece_bytes, StandsBefore, IsStray, IsSpliced, IsUnclosed, IsBadConstant, IsTooLarge, IsLexicalError}
use Rattle.cc_tokens.specs.internal.Scan.{head_of, comment_of, number_head, punctuator_head, punctuator_at, keyword_named, word_kind, constant_kind, constant_spelled, typed}
use Rattle.cc_tokens.proofs.Tables.{keyword_named-bytes, keyword_is_word}
use Rattle.cc_tokens.proofs.ConstantForms.{constant_sound, constant_complete, constant_begins}
use Rattle.cc_tokens.proofs.Words.{digit_not_nondigit, nondigit_not_blank, digit_not_blank, digit_is_no_nondigit, punctuator_marks, punctuator_some, word_takes, number_takes, word_spells}
use Rattle.cc_tokens.proofs.Punctuators.{punctuator_found, punctuator_longest, punctuator_missing, punctuator_one}
use Rattle.cc_tokens.proofs.Comments.{comment_is_found, unclosed_is_found, plain_is_found, splice_is_found}
use Rattle.cc_tokens.proofs.Heads.{head_blank, head_comment, head_word, head_number, head_mark}

-- what the scanner returns for a piece
abbrev pub answer_of : TextPiece → Head
answer_of (blank b) = head.Blank
answer_of (comment c) = head.Comment (length c)
answer_of (token k text) = head.Token k (length text)

-- Words.
word_complete : (text after : List ℕ) → IsLongest text after → begins_comment (text ++ after) ≡ false → IsIdentifierText text → head_of (text ++ after) ≡ head.Token (word_kind (keyword_named text)) (length text)
word_complete [] after longest no_comment w = absurd w
word_complete (b ∷ bs) after longest no_comment w =
    head_word b (bs ++ after) (nondigit_not_blank b w.0) no_comment w.0
    ∙ ap (λ n. head.Token (word_kind (keyword_named (take (suc n) (b ∷ (bs ++ after))))) (suc n)) (word_takes b bs after longest w)
    ∙ ap (λ t. head.Token (word_kind (keyword_named (b ∷ t))) (suc (length bs))) (take_at bs after (length bs) refl)

identifier_kind : (text : List ℕ) (o : Option Keyword) → keyword_named text ≡ o → IsIdentifierText text → ((k : Keyword) → text ≢ keyword_bytes k) → word_kind o ≡ kind.Identifier
identifier_kind text None e w no_keyword = refl
identifier_kind text (Some k) e w no_keyword = absurd (no_keyword k (subst (λ o. SpellsToken (word_kind o) text) e (word_spells text w)))

-- Numbers.
is_number_by : (text : List ℕ) → CanBeToken text → is_ascii_digit (get_or text 0 0) ≡ true → IsNumber text
is_number_by [] (word w) digit = absurd w
is_number_by (b ∷ bs) (word w) digit = absurd (digit_not_nondigit b w.0 digit)
is_number_by text (number w) digit = w
is_number_by [] (punctuator p is) digit = absurd (false≢true digit)
is_number_by (b ∷ bs) (punctuator p is) digit = absurd (false≢true (sym (punctuator_marks b bs (b ∷ bs) [] p is (sym (append-nil (b ∷ bs)))).no_digit ∙ digit))

-- a number begins no comment
digit_no_comment : (b : ℕ) (bs : List ℕ) → is_ascii_digit b ≡ true → begins_comment (b ∷ bs) ≡ false
digit_no_comment b bs digit = and_left _ _ (ne_eqb b 47 (λ e. false≢true (subst (λ x. is_ascii_digit x ≡ true) e digit)))

number_complete : (text after : List ℕ) → IsLongest text after → IsNumber text → head_of (text ++ after) ≡ number_head (length text) (constant_kind (constant_spelled text))
number_complete [] after longest w = absurd w
number_complete (b ∷ bs) after longest w =
    head_number b (bs ++ after) (digit_not_blank b w.0) (digit_no_comment b (bs ++ after) w.0) (digit_is_no_nondigit b w.0) w.0
    ∙ ap (λ n. number_head (suc n) (constant_kind (constant_spelled (take (suc n) (b ∷ (bs ++ after)))))) (number_takes b bs after longest w)
    ∙ ap (λ t. number_head (suc (length bs)) (constant_kind (constant_spelled (b ∷ t)))) (take_at bs after (length bs) refl)

constant_complete_at : (c : Constant) (text after : List ℕ) → IsLongest text after → SpellsConstant c text → head_of (text ++ after) ≡ number_head (length text) (typed (constant_type c) (digits_value c))
constant_complete_at c text after longest spelled =
    number_complete text after longest (is_number_by text longest.can_be (constant_begins c text spelled))
    ∙ ap (λ o. number_head (length text) (constant_kind o)) (constant_complete c text spelled)

-- Punctuators.
mark_by : (bytes text after : List ℕ) (p : Punctuator) (o : Option Punctuator) → bytes ≡ text ++ after → text ≡ punctuator_bytes p → IsLongest text after → punctuator_at bytes ≡ o → punctuator_head o ≡ head.Token (kind.Punctuator p) (length text)
mark_by bytes text after p None whole is longest e = absurd (punctuator_missing bytes p after e (whole ∙ ap (λ t. t ++ after) is))
mark_by bytes text after p (Some q) whole is longest e =
    let found = punctuator_found bytes q e in
    let rest = drop (length (punctuator_bytes q)) bytes in
    let head_is : bytes ≡ punctuator_bytes p ++ after = whole ∙ ap (λ t. t ++ after) is in
    let at_least = punctuator_longest bytes q p after e head_is in
    let at_most = longest.longest (punctuator_bytes q) rest (punctuator q refl) (sym whole ∙ found) in
    let size = ap length is in
    let same : p ≡ q = punctuator_one p q after rest (sym head_is ∙ found) (omega arith) in
    ap (λ r. head.Token (kind.Punctuator r) (length (punctuator_bytes r))) (sym same) ∙ ap (λ n. head.Token (kind.Punctuator p) n) (sym size)

mark_complete : (text after : List ℕ) (p : Punctuator) → IsLongest text after → begins_comment (text ++ after) ≡ false → text ≡ punctuator_bytes p → head_of (text ++ after) ≡ head.Token (kind.Punctuator p) (length text)
mark_complete [] after p longest no_comment is = absurd (let some = punctuator_some p in let size = ap length is in omega arith)
mark_complete (b ∷ bs) after p longest no_comment is =
    let mark = punctuator_marks b (bs ++ after) (b ∷ bs) after p is refl in
    head_mark b (bs ++ after) mark.no_blank no_comment mark.no_nondigit mark.no_digit
    ∙ mark_by (b ∷ (bs ++ after)) (b ∷ bs) after p (punctuator_at (b ∷ (bs ++ after))) refl is longest refl

-- Comments.
comment_complete : (c after : List ℕ) → IsComment c after → head_of (c ++ after) ≡ comment_of (length c) (c ++ after)
comment_complete _ after (block body none) =
    let c = 47 ∷ 42 ∷ body ++ (42 ∷ 47 ∷ []) in
    head_comment 47 (42 ∷ body ++ (42 ∷ 47 ∷ []) ++ after) refl refl ∙ comment_is_found c after (c ++ after) (block body none) refl
comment_complete _ after (line body none ends) =
    head_comment 47 (47 ∷ body ++ after) refl refl ∙ comment_is_found (47 ∷ 47 ∷ body) after ((47 ∷ 47 ∷ body) ++ after) (line body none ends) refl

-- **the scanner returns what the bytes begin with**
token_complete : (k : TokenKind) (text after : List ℕ) → StandsBefore (token k text) after → head_of (text ++ after) ≡ head.Token k (length text)
token_complete kind.Identifier text after stands =
    word_complete text after stands.1 stands.0 stands.2.0 ∙ ap (λ k. head.Token k (length text)) (identifier_kind text (keyword_named text) refl stands.2.0 stands.2.1)
token_complete (kind.Keyword k) text after stands =
    word_complete text after stands.1 stands.0 (subst IsIdentifierText (sym stands.2) (keyword_is_word k)) ∙ ap (λ o. head.Token (word_kind o) (length text)) (ap keyword_named stands.2 ∙ keyword_named-bytes k)
token_complete (kind.Number type n) text after stands =
    let c = stands.2.0 in
    constant_complete_at c text after stands.1 stands.2.1 ∙ ap (λ t. number_head (length text) (typed t (digits_value c))) stands.2.2 ∙ ap (λ v. head.Token (kind.Number type v) (length text)) (sym stands.2.3)
token_complete (kind.Punctuator p) text after stands = mark_complete text after p stands.1 stands.0 stands.2

pub piece_complete : (p : TextPiece) (after : List ℕ) → StandsBefore p after → head_of (piece_bytes p ++ after) ≡ answer_of p
piece_complete (blank b) after stands = head_blank b after stands
piece_complete (comment c) after stands = comment_complete c after stands.0 ∙ plain_is_found c after stands.1
piece_complete (token k text) after stands = token_complete k text after stands

stray_by : (b : ℕ) (bs : List ℕ) (o : Option Punctuator) → ((text after : List ℕ) → CanBeToken text → b ∷ bs ≢ text ++ after) → punctuator_at (b ∷ bs) ≡ o → punctuator_head o ≡ head.Error BadByte 0
stray_by b bs None no_token e = refl
stray_by b bs (Some p) no_token e = absurd (no_token (punctuator_bytes p) (drop (length (punctuator_bytes p)) (b ∷ bs)) (punctuator p refl) (punctuator_found (b ∷ bs) p e))

stray_complete : (b : ℕ) (bs : List ℕ) → is_blank b ≡ false → begins_comment (b ∷ bs) ≡ false → ((text after : List ℕ) → CanBeToken text → b ∷ bs ≢ text ++ after) → head_of (b ∷ bs) ≡ head.Error BadByte 0
stray_complete b bs no_blank no_comment no_token = ⊎_elim
    (λ (w : is_nondigit b ≡ true). absurd (no_token (b ∷ []) bs (word (w, tt)) refl))
    (λ (w : is_nondigit b ≡ false). ⊎_elim
    (λ (d : is_ascii_digit b ≡ true). absurd (no_token (b ∷ []) bs (number (d, tt)) refl))
    (λ (d : is_ascii_digit b ≡ false). head_mark b bs no_blank no_comment w d ∙ stray_by b bs (punctuator_at (b ∷ bs)) no_token refl)
    (cases_Bool (is_ascii_digit b)))
    (cases_Bool (is_nondigit b))

stray_is : (bytes : List ℕ) → IsStray bytes → head_of bytes ≡ head.Error BadByte 0
stray_is bytes stray =
    let whole = stray.whole in
    ap head_of whole ∙ stray_complete stray.first stray.rest stray.no_blank (sym (ap begins_comment whole) ∙ stray.no_comment) (λ text after can is. stray.no_token text after can (whole ∙ is))

spliced_is : (bytes : List ℕ) (k : ℕ) → IsSpliced bytes k → head_of bytes ≡ head.Error BadByte k
spliced_is bytes k s =
    ap head_of s.whole ∙ comment_complete (s.prefix ++ s.back) s.after s.commented ∙ splice_is_found s.prefix s.back s.after s.none_before s.inside s.here ∙ ap (λ n. head.Error BadByte n) (sym s.at)

unclosed_is : (bytes : List ℕ) → IsUnclosed bytes → head_of bytes ≡ head.Error UnclosedComment 0
unclosed_is bytes s = ap head_of s.whole ∙ head_comment 47 (42 ∷ s.body) refl refl ∙ unclosed_is_found s.body s.never_closed

bad_by : (text : List ℕ) (o : Option Constant) → IsNumber text → ((c : Constant) → SpellsConstant c text → ⊥) → constant_spelled text ≡ o → number_head (length text) (constant_kind o) ≡ head.Error BadConstant 0
bad_by text None w no_constant e = refl
bad_by [] (Some c) w no_constant e = absurd w
bad_by (b ∷ bs) (Some c) w no_constant e = absurd (no_constant c (constant_sound b bs c e))

bad_is : (bytes : List ℕ) → IsBadConstant bytes → head_of bytes ≡ head.Error BadConstant 0
bad_is bytes s = ap head_of s.whole ∙ number_complete s.text s.after s.longest s.number ∙ bad_by s.text (constant_spelled s.text) s.number s.no_constant refl

large_is : (bytes : List ℕ) → IsTooLarge bytes → head_of bytes ≡ head.Error ConstantTooLarge 0
large_is bytes s = ap head_of s.whole ∙ constant_complete_at s.constant s.text s.after s.longest s.spelled ∙ ap (λ t. number_head (length s.text) (typed t (digits_value s.constant))) s.no_type

pub error_complete : (error : LexicalError) (bytes : List ℕ) (k : ℕ) → IsLexicalError error bytes k → head_of bytes ≡ head.Error error k
error_complete BadByte bytes k erroneous = ⊎_elim (λ (s : IsStray bytes × (k ≡ 0)). stray_is bytes s.0 ∙ ap (λ n. head.Error BadByte n) (sym s.1)) (λ (s : IsSpliced bytes k). spliced_is bytes k s) erroneous
error_complete UnclosedComment bytes k erroneous = unclosed_is bytes erroneous.0 ∙ ap (λ n. head.Error UnclosedComment n) (sym erroneous.1)
error_complete BadConstant bytes k erroneous = bad_is bytes erroneous.0 ∙ ap (λ n. head.Error BadConstant n) (sym erroneous.1)
error_complete ConstantTooLarge bytes k erroneous = large_is bytes erroneous.0 ∙ ap (λ n. head.Error ConstantTooLarge n) (sym erroneous.1)
