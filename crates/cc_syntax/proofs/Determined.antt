-- Each text has exactly one answer. There is at least one, because a text has tokens or a first error, and the parser runs over
-- the tokens (Verdict). There is at most one, because the text determines its tokens, its error and its tree, and only one
-- token is the first that breaks the grammar or a limit.
use Rattle.std.proofs.Common.{◌≡◌, ◌<◌, ◌≤◌, ◌+◌, ◌⊎◌, inl, inr, ℕ, zero, suc, List, [], ◌∷◌, ◌++◌, length, take, drop, get_or, Option, Some, None, Result, Ok, Err, refl, sym, ap, subst, ◌∙◌, arith, append_assoc}
use Rattle.std.proofs.lemmas.List.{map-append, take-append-drop, take_all}
use Rattle.std.proofs.lemmas.Bool.{cases_lt, cases_order}
use Rattle.std.proofs.Math.Seq.{take-suc}
use Rattle.cc_tokens.specs.declared.lexical_error.LexicalError.{LexicalError}
use Rattle.cc_tokens.specs.declared.lexical_error.LexicalError.TheVariants.{BadByte, UnclosedComment, BadConstant, ConstantTooLarge}
use Rattle.cc_tokens.specs.declared.fault.SyntaxFault.{SyntaxFault}
use Rattle.cc_tokens.specs.declared.fault.SyntaxFault.TheVariants as fault
use Rattle.cc_tokens.specs.declared.token.TokenKind.TheVariants.{Identifier}
use Rattle.cc_tokens.specs.Place.{place_of}
use Rattle.cc_tokens.specs.Token.{Lexeme}
use Rattle.cc_tokens.specs.Tokens.{IsTokens, FirstLexicalError, IsLexicalFault, lexical_fault}
use Rattle.cc_ast.specs.Tree.{External}
use Rattle.cc_ast.specs.Grammar.{Measured, plain_tokens, Begins}
use Rattle.cc_ast.specs.Limits.{IsWithin, PassesLimit, SpellsWithin, UnexpectedAt, TooDeepAt, IsFineBefore}
use Rattle.cc_ast.specs.Parse.{place_at_token, IsParseAnswer, ParseAnswersAreOne, TextsHaveAnswers}
use Rattle.cc_syntax.specs.internal.Parser.{State, start, step, standing, tree_of}
use Rattle.cc_tokens.proofs.Cuts.{tokens_are_one, tokens_have_no_error, first_error_is_one}
use Rattle.cc_tokens.proofs.Total.{tokens_or_error}
use Rattle.cc_syntax.proofs.Verdict.{Reached, IsCutAt, at_start, reach, fine_before, unexpected, unexpected_end, too_deep, take-less, spelled_within, spelled_have_no_fault}
use Rattle.cc_syntax.proofs.ReadsTokens.{unit_state}
use Rattle.cc_syntax.proofs.Parsed.{same_tree}

-- ---- at most one

-- token number k is refused, with this fault
abbrev RefusedAt : List ℕ → List Lexeme → ℕ → SyntaxFault → Type 0
RefusedAt text tokens k f =
    (UnexpectedAt tokens k × (f ≡ fault.Unexpected (place_at_token text tokens k)))
    ⊎ (TooDeepAt tokens k × (f ≡ fault.TooDeep (place_at_token text tokens k)))

-- the text has tokens, and one of them is refused
record Broken (text : List ℕ) (f : SyntaxFault) : Type 0 where
  fits : length text ≤ 65536
  tokens : List Lexeme
  are : IsTokens text tokens
  number : ℕ
  before : IsFineBefore tokens number
  here : RefusedAt text tokens number f

-- the three reasons for a refusal: the text is too long, it has a lexical error, or one of its tokens is refused
data Kind (text : List ℕ) (f : SyntaxFault) : Type 0 where
  long : f ≡ fault.SourceTooLarge → 65536 < length text → Kind text f
  erroneous : IsLexicalFault text f → Kind text f
  broken : Broken text f → Kind text f

kind_of : (text : List ℕ) (f : SyntaxFault) → IsParseAnswer text (Err f) → Kind text f
kind_of text (fault.BadByte p) h = erroneous h
kind_of text (fault.UnclosedComment p) h = erroneous h
kind_of text (fault.BadConstant p) h = erroneous h
kind_of text (fault.ConstantTooLarge p) h = erroneous h
kind_of text (fault.Unexpected p) h =
    broken (record { fits = h.fits; tokens = h.tokens; are = h.are; number = h.number; before = h.before; here = inl (h.here, ap fault.Unexpected h.place) })
kind_of text (fault.TooDeep p) h =
    broken (record { fits = h.fits; tokens = h.tokens; are = h.are; number = h.number; before = h.before; here = inr (h.here, ap fault.TooDeep h.place) })
kind_of text fault.SourceTooLarge h = long refl h
kind_of text fault.OutOfMemory h = absurd h

error_one : (text : List ℕ) (e f : SyntaxFault) → IsLexicalFault text e → IsLexicalFault text f → e ≡ f
error_one text e f h k =
    let same = first_error_is_one text h.error k.error h.at k.at h.first k.first in
    h.is ∙ ap (λ x. lexical_fault x (place_of text h.at)) same.0 ∙ ap (λ i. lexical_fault k.error (place_of text i)) same.1 ∙ sym k.is

plain_append : (a b : List Measured) → plain_tokens (a ++ b) ≡ plain_tokens a ++ plain_tokens b
plain_append a b = map-append (λ (p : Measured). p.token) a b

-- if some unit begins with the first m tokens, that unit also begins with the first n, for each n up to m
begins_prefix : (tokens : List Lexeme) (n m : ℕ) → n ≤ m → Begins (take m tokens) → Begins (take n tokens)
begins_prefix tokens n m h b =
    let cut : take m tokens ≡ take n tokens ++ drop n (take m tokens) =
    sym (take-append-drop n (take m tokens)) ∙ ap (λ (z : List Lexeme). z ++ drop n (take m tokens)) (take-less n m tokens h) in (
      drop n (take m tokens) ++ b.0,
      b.1,
      (b.2.0, b.2.1, b.2.2 ∙ ap (λ (z : List Lexeme). z ++ b.0) cut ∙ append_assoc (take n tokens) (drop n (take m tokens)) b.0),
    )

-- if token number k is too deep, some unit begins with the tokens up to and including it
deep_begins : (tokens : List Lexeme) (k : ℕ) → TooDeepAt tokens k → Begins (take (suc k) tokens)
deep_begins tokens k d =
    let whole : plain_tokens (d.0 ++ d.2 ∷ d.1) ≡ take (suc k) tokens ++ plain_tokens d.1 =
    ap (λ (z : List Measured). plain_tokens z) (sym (append_assoc d.0 (d.2 ∷ []) d.1)) ∙ plain_append (d.0 ++ d.2 ∷ []) d.1
    ∙ ap (λ (z : List Lexeme). z ++ plain_tokens d.1) d.7 in
    (plain_tokens d.1, d.3, (d.0 ++ d.2 ∷ d.1, d.6, whole))

-- no token is both unexpected and too deep
not_both : (tokens : List Lexeme) (k : ℕ) → UnexpectedAt tokens k → TooDeepAt tokens k → ⊥
not_both tokens k (inl u) d = u.1 (deep_begins tokens k d)
not_both tokens k (inr u) d = let inside = d.4 in let end = u.0 in omega arith

refused_within : (text : List ℕ) (tokens : List Lexeme) (k : ℕ) (f : SyntaxFault) → RefusedAt text tokens k f → k ≤ length tokens
refused_within text tokens k f (inl (inl u, e)) = let inside = u.0 in omega arith
refused_within text tokens k f (inl (inr u, e)) = let end = u.0 in omega arith
refused_within text tokens k f (inr (d, e)) = let inside = d.4 in omega arith

-- if all is fine before token number j, no earlier token is refused
not_before : (text : List ℕ) (tokens : List Lexeme) (k j : ℕ) (f : SyntaxFault) → k < j → j ≤ length tokens → RefusedAt text tokens k f → IsFineBefore tokens j → ⊥
not_before text tokens k j f h i (inl (inl u, e)) fine = u.1 (begins_prefix tokens (suc k) j (omega (arith, h)) fine.0)
not_before text tokens k j f h i (inl (inr u, e)) fine = let end = u.0 in omega arith
not_before text tokens k j f h i (inr (d, e)) fine = fine.1 k h d

at_one : (text : List ℕ) (tokens : List Lexeme) (k : ℕ) (f g : SyntaxFault) → RefusedAt text tokens k f → RefusedAt text tokens k g → f ≡ g
at_one text tokens k f g (inl (u, e)) (inl (v, i)) = e ∙ sym i
at_one text tokens k f g (inl (u, e)) (inr (d, i)) = absurd (not_both tokens k u d)
at_one text tokens k f g (inr (d, e)) (inl (v, i)) = absurd (not_both tokens k v d)
at_one text tokens k f g (inr (d, e)) (inr (c, i)) = e ∙ sym i

-- the first refused token is refused with one fault only
refused_one : (text : List ℕ) (tokens : List Lexeme) (k j : ℕ) (f g : SyntaxFault) → IsFineBefore tokens k → RefusedAt text tokens k f → IsFineBefore tokens j → RefusedAt text tokens j g → f ≡ g
refused_one text tokens k j f g fine here fine' here' = by (cases_order k j)
  where
    by : (k ≡ j) ⊎ ((k < j) ⊎ (j < k)) → f ≡ g
    by (inl same) = at_one text tokens j f g (subst (λ (n : ℕ). RefusedAt text tokens n f) same here) here'
    by (inr (inl less)) = absurd (not_before text tokens k j f less (refused_within text tokens j g here') here fine')
    by (inr (inr more)) = absurd (not_before text tokens j k g more (refused_within text tokens k f here) here' fine)

broken_one : (text : List ℕ) (f g : SyntaxFault) → Broken text f → Broken text g → f ≡ g
broken_one text f g b c =
    let same = tokens_are_one text c.tokens b.tokens c.are b.are in
    refused_one text b.tokens b.number c.number f g b.before b.here
    (subst (λ (ts : List Lexeme). IsFineBefore ts c.number) same c.before) (subst (λ (ts : List Lexeme). RefusedAt text ts c.number g) same c.here)

kinds_one : (text : List ℕ) (f g : SyntaxFault) → Kind text f → Kind text g → f ≡ g
kinds_one text f g (long e h) (long i k) = e ∙ sym i
kinds_one text f g (long e h) (erroneous k) = let fits = k.fits in absurd (omega arith)
kinds_one text f g (long e h) (broken k) = let fits = k.fits in absurd (omega arith)
kinds_one text f g (erroneous h) (long i k) = let fits = h.fits in absurd (omega arith)
kinds_one text f g (erroneous h) (erroneous k) = error_one text f g h k
kinds_one text f g (erroneous h) (broken k) = absurd (tokens_have_no_error text k.tokens h.error h.at k.are h.first)
kinds_one text f g (broken h) (long i k) = let fits = h.fits in absurd (omega arith)
kinds_one text f g (broken h) (erroneous k) = absurd (tokens_have_no_error text h.tokens k.error k.at h.are k.first)
kinds_one text f g (broken h) (broken k) = broken_one text f g h k

-- a text that spells a tree is never refused
not_refused : (text : List ℕ) (tree : List External) (f : SyntaxFault) → IsParseAnswer text (Ok tree) → Kind text f → ⊥
not_refused text tree f s (long e h) = let fits = s.0 in omega arith
not_refused text tree f s (erroneous h) = tokens_have_no_error text s.1.tokens h.error h.at s.1.are h.first
not_refused text tree f s (broken b) =
    let same = tokens_are_one text s.1.tokens b.tokens s.1.are b.are in
    let none = spelled_have_no_fault b.tokens tree b.number (subst (λ (ts : List Lexeme). SpellsWithin ts tree) same s.1.spelled) in
    elim b.here [ inl u ↦ none.0 u.0 | inr d ↦ none.1 d.0 ]

pub answers_are_one : ParseAnswersAreOne
answers_are_one text (Ok a) (Ok b) h k = ap Ok (same_tree text a b h.1 k.1)
answers_are_one text (Ok a) (Err f) h k = absurd (not_refused text a f h (kind_of text f k))
answers_are_one text (Err e) (Ok b) h k = absurd (not_refused text b e k (kind_of text e h))
answers_are_one text (Err e) (Err f) h k = ap Err (kinds_one text e f (kind_of text e h) (kind_of text f k))

-- ---- at least one

Answers : List ℕ → Type 0
Answers text = (a : Result (List External) SyntaxFault) × IsParseAnswer text a

error_answers : (text : List ℕ) (error : LexicalError) (at : ℕ) → length text ≤ 65536 → FirstLexicalError text error at → Answers text
unfolding Answers
error_answers text BadByte at fits first = (Err (fault.BadByte (place_of text at)), record { fits = fits; error = BadByte; at = at; first = first; is = refl })
error_answers text UnclosedComment at fits first = (Err (fault.UnclosedComment (place_of text at)), record { fits = fits; error = UnclosedComment; at = at; first = first; is = refl })
error_answers text BadConstant at fits first = (Err (fault.BadConstant (place_of text at)), record { fits = fits; error = BadConstant; at = at; first = first; is = refl })
error_answers text ConstantTooLarge at fits first = (Err (fault.ConstantTooLarge (place_of text at)), record { fits = fits; error = ConstantTooLarge; at = at; first = first; is = refl })

module _ (text : List ℕ) (tokens : List Lexeme) (fits : length text ≤ 65536) (are : IsTokens text tokens) where
  unexpected_answers : (k : ℕ) → IsFineBefore tokens k → UnexpectedAt tokens k → Answers text
  unfolding Answers
  unexpected_answers k before here =
      (Err (fault.Unexpected (place_at_token text tokens k)), record { fits = fits; tokens = tokens; are = are; number = k; before = before; here = here; place = refl })

  deep_answers : (k : ℕ) → IsFineBefore tokens k → TooDeepAt tokens k → Answers text
  unfolding Answers
  deep_answers k before here =
      (Err (fault.TooDeep (place_at_token text tokens k)), record { fits = fits; tokens = tokens; are = are; number = k; before = before; here = here; place = refl })

  tree_answers : (tree : List External) → SpellsWithin tokens tree → Answers text
  unfolding Answers
  tree_answers tree spelled = (Ok tree, (fits, record { tokens = tokens; are = are; spelled = spelled }))

  -- if the parser has read all tokens, the text has an answer
  at_end : (s : State) (o : Option (List External)) → tree_of s ≡ o → Reached s tokens → Answers text
  at_end s (Some tree) e r =
      let unit = unit_state s tree e in
      tree_answers tree (spelled_within tree tokens unit.1 (subst (λ (z : State). Reached z tokens) unit.0 r))
  at_end s None e r =
      let all : Reached s (take (length tokens) tokens) = subst (λ (z : List Lexeme). Reached s z) (sym (take_all (length tokens) tokens (omega arith))) r in
      unexpected_answers (length tokens) (fine_before s tokens (length tokens) all) (unexpected_end s tokens (length tokens) r refl e)

  no_token : Lexeme
  no_token = record { kind = Identifier; text = []; at = 0 }

  cut_here : (k : ℕ) → k < length tokens → IsCutAt tokens k (get_or tokens k no_token)
  cut_here k h = record { inside = h; next = take-suc tokens k no_token h }

  within_or_past : (p : Measured) → IsWithin p ⊎ PassesLimit p
  within_or_past p = by (cases_lt 512 p.count) (cases_lt 64 p.level)
    where
      by : (512 < p.count) ⊎ (p.count ≤ 512) → (64 < p.level) ⊎ (p.level ≤ 64) → IsWithin p ⊎ PassesLimit p
      by (inl c) l = inr (inl c)
      by (inr c) (inl l) = inr (inr l)
      by (inr c) (inr l) = inl (c, l)

  abbrev token_number : ℕ → Lexeme
  token_number k = get_or tokens k no_token

  -- if the parser comes to token number k, the text has an answer, provided it has one in each state after that token
  at_token : (k : ℕ) (s : State) → k < length tokens → Reached s (take k tokens) → ((m : State) → Reached m (take (suc k) tokens) → Answers text) → Answers text
  at_token k s inside r on = by (step s (token_number k)) refl
    where
      by_limits : (m : State) → step s (token_number k) ≡ Some m → IsWithin (standing s (token_number k) m) ⊎ PassesLimit (standing s (token_number k) m) → Answers text
      by_limits m goes (inl within) = on m (reach s m tokens k (token_number k) r (cut_here k inside) goes within)
      by_limits m goes (inr past) = deep_answers k (fine_before s tokens k r) (too_deep s m tokens k (token_number k) r (cut_here k inside) goes past)

      by : (o : Option State) → step s (token_number k) ≡ o → Answers text
      by None h = unexpected_answers k (fine_before s tokens k r) (unexpected s tokens k (token_number k) r (cut_here k inside) h)
      by (Some m) h = by_limits m h (within_or_past (standing s (token_number k) m))

  -- if the parser has read all but n of the tokens, the text has an answer
  from : (n k : ℕ) (s : State) → k + n ≡ length tokens → Reached s (take k tokens) → Answers text
  from zero k s e r = at_end s (tree_of s) refl (subst (λ (z : List Lexeme). Reached s z) (take_all k tokens (omega arith)) r)
  from (suc n) k s e r = at_token k s (omega arith) r (λ m next. from n (suc k) m (omega arith) next)

pub texts_have_answers : TextsHaveAnswers
unfolding Answers
texts_have_answers text = by (cases_lt 65536 (length text))
  where
    by_tokens : length text ≤ 65536 → ((ts : List Lexeme) × IsTokens text ts) ⊎ ((error : LexicalError) × (at : ℕ) × FirstLexicalError text error at) → Answers text
    by_tokens fits (inl t) = from text t.0 fits t.1 (length t.0) 0 start (omega arith) at_start
    by_tokens fits (inr f) = error_answers text f.0 f.1 fits f.2

    by : (65536 < length text) ⊎ (length text ≤ 65536) → Answers text
    by (inl past) = (Err fault.SourceTooLarge, past)
    by (inr fits) = by_tokens fits (tokens_or_error text)
