-- What the stages of reading answer, from what their parts answer.
use Rattle.std.proofs.Common.{◌≡◌, ◌∙◌, Result, Ok, Err, IfOk, IfErr, ℕ, ◌≤◌, inl, inr, List, [], length, map, subst, sym, refl, arith}
use Rattle.cc_tokens.specs.declared.fault.SyntaxFault.{SyntaxFault}
use Rattle.cc_tokens.specs.declared.fault.SyntaxFault.TheVariants as fault
use Rattle.cc_tokens.specs.declared.token.Token.{Token}
use Rattle.cc_tokens.specs.Token.{Lexeme, lexemes}
use Rattle.cc_tokens.specs.Tokens.{IsTokens, IsTokenRefusal, TokensAreOne, TokensHaveNoLexicalError, most_bytes}
use Rattle.cc_ast.specs.Tree.{External}
use Rattle.cc_ast.specs.Limits.{TreesAreOne}
use Rattle.cc_ast.specs.Parse.{SpellsText}
use Rattle.cc_ast.specs.Source.{source}
use Rattle.cc_wide_text.specs.Plain.{plain}
use Rattle.cc_wide_text.specs.Macros.{expanded}
use Rattle.cc_wide_text.specs.Marks.{marked}
use Rattle.cc_wide_text.specs.Names.{named, enumerators, HaveNumbers}
use Rattle.cc_wide_text.specs.Numbers.{Number, AreNumbers}
use Rattle.cc_wide_text.specs.Program.{IsNumberedTree, IsKnownTree, IsReplacedTree, IsMarkedTree, GrowNumbered, GrowKnown, GrowWords, IsTooLong, Refuses, IsReadRefusal}
use Rattle.cc_wide_text.specs.declared.numbers.Numbered.{Numbered}
use Rattle.cc_wide_text.specs.declared.reading.WideText.{WideText}
use Rattle.cc_wide_text.specs.internal.Views.{number}
use Rattle.cc_wide_text.specs.internal.Answers.{IsWrong, IsPlaced, IsNumberedAnswer, IsKnownAnswer, IsReplacedAnswer}
use Rattle.cc_wide_text.proofs.Ones.{one_list}
use Rattle.cc_wide_text.proofs.Refusals.{passes, placed, refuses}

-- ---- tokens that are refused

pub no_tokens : TokensHaveNoLexicalError → (text : List ℕ) (f : SyntaxFault) → length text ≤ most_bytes → IsTokenRefusal text f → (f ≡ fault.OutOfMemory → ⊥) → (ts : List Lexeme) → IsTokens text ts → ⊥
no_tokens law text fault.SourceTooLarge fits h never ts are = absurd (omega (arith, fits, h))
no_tokens law text fault.OutOfMemory fits h never ts are = never refl
no_tokens law text (fault.BadByte p) fits h never ts are = law text ts h.error h.at are h.first
no_tokens law text (fault.UnclosedComment p) fits h never ts are = law text ts h.error h.at are h.first
no_tokens law text (fault.BadConstant p) fits h never ts are = law text ts h.error h.at are h.first
no_tokens law text (fault.ConstantTooLarge p) fits h never ts are = law text ts h.error h.at are h.first
no_tokens law text (fault.Unexpected p) fits h never ts are = absurd h
no_tokens law text (fault.TooDeep p) fits h never ts are = absurd h

-- ---- without names of types

pub known_short : (words : List Lexeme) → length (named words) ≤ most_bytes → ((ts : List Lexeme) → IsTokens (named words) ts → ⊥) → GrowKnown words → ⊥
known_short words fits never (inl long) = absurd (omega (arith, fits, long))
known_short words fits never (inr h) = never h.0 h.1

pub known_no_numbers : (words : List Lexeme) → length (named words) ≤ most_bytes → ((ns : List Number) → HaveNumbers words ns → ⊥) → GrowKnown words → ⊥
known_no_numbers words fits never (inl long) = absurd (omega (arith, fits, long))
known_no_numbers words fits never (inr h) = never h.2.0 h.2.1

module _ (tokens : TokensAreOne) (trees : TreesAreOne) (words known : List Lexeme) (numbers : List Number) (are : IsTokens (named words) known) (have : HaveNumbers words numbers) where
  pub known_tree : (tree : List External) → IsKnownTree words tree → IsNumberedTree numbers known tree
  known_tree tree k =
      let same : k.known ≡ known = tokens (named words) k.known known k.become are in
      let numbered : k.numbers ≡ numbers = one_list tokens trees [] (enumerators words) k.numbers numbers k.have have in
      subst (λ (z : List Lexeme). IsNumberedTree numbers z tree) same (subst (λ (ns : List Number). IsNumberedTree ns k.known tree) numbered k.read)

  pub known_long : length (named words) ≤ most_bytes → GrowKnown words → GrowNumbered numbers known
  known_long fits (inl long) = absurd (omega (arith, fits, long))
  known_long fits (inr h) =
      let same : h.0 ≡ known = tokens (named words) h.0 known h.1 are in
      let numbered : h.2.0 ≡ numbers = one_list tokens trees [] (enumerators words) h.2.0 numbers h.2.1 have in
      subst (λ (z : List Lexeme). GrowNumbered numbers z) same (subst (λ (ns : List Number). GrowNumbered ns h.0) numbered h.2.2)

  pub known_answer : length (named words) ≤ most_bytes → (r : Result WideText SyntaxFault) → IsNumberedAnswer numbers known r → IsKnownAnswer words r
  known_answer fits (Ok w) h = record { fits = fits; known = known; become = are; numbers = numbers; have = have; read = h }
  known_answer fits (Err f) h =
      passes (GrowNumbered numbers known) (GrowKnown words) (λ tree. IsNumberedTree numbers known tree) (λ tree. IsKnownTree words tree) f
      (λ long. inr (known, are, (numbers, have, long))) (known_long fits) known_tree h

-- ---- without `#define`

pub words_short : (words : List Lexeme) → length (expanded words) ≤ most_bytes → ((ts : List Lexeme) → IsTokens (expanded words) ts → ⊥) → GrowWords words → ⊥
words_short words fits never (inl long) = absurd (omega (arith, fits, long))
words_short words fits never (inr h) = never h.0 h.1

module _ (tokens : TokensAreOne) (words replaced : List Lexeme) (are : IsTokens (expanded words) replaced) where
  pub replaced_tree : (tree : List External) → IsReplacedTree words tree → IsKnownTree replaced tree
  replaced_tree tree k =
      let same : k.replaced ≡ replaced = tokens (expanded words) k.replaced replaced k.become are in
      subst (λ (z : List Lexeme). IsKnownTree z tree) same k.read

  pub replaced_long : length (expanded words) ≤ most_bytes → GrowWords words → GrowKnown replaced
  replaced_long fits (inl long) = absurd (omega (arith, fits, long))
  replaced_long fits (inr h) =
      let same : h.0 ≡ replaced = tokens (expanded words) h.0 replaced h.1 are in
      subst (λ (z : List Lexeme). GrowKnown z) same h.2

  pub replaced_answer : length (expanded words) ≤ most_bytes → (r : Result WideText SyntaxFault) → IsKnownAnswer replaced r → IsReplacedAnswer words r
  replaced_answer fits (Ok w) h = record { fits = fits; replaced = replaced; become = are; read = h }
  replaced_answer fits (Err f) h =
      passes (GrowKnown replaced) (GrowWords words) (λ tree. IsKnownTree replaced tree) (λ tree. IsReplacedTree words tree) f
      (λ long. inr (replaced, are, long)) (replaced_long fits) replaced_tree h

-- ---- a text

pub text_short : (text : List ℕ) → length text ≤ most_bytes → ((ts : List Lexeme) → IsTokens (plain text) ts → ⊥) → IsTooLong text → ⊥
text_short text fits never (inl long) = absurd (omega (arith, fits, long))
text_short text fits never (inr h) = never h.0 h.1

module _ (tokens : TokensAreOne) (text : List ℕ) (words : List Lexeme) (are : IsTokens (plain text) words) where
  pub marked_tree : (tree : List External) → IsMarkedTree text tree → IsReplacedTree words tree
  marked_tree tree k =
      let same : k.words ≡ words = tokens (plain text) k.words words k.are are in
      subst (λ (z : List Lexeme). IsReplacedTree z tree) same k.read

  pub text_long : length text ≤ most_bytes → IsTooLong text → GrowWords words
  text_long fits (inl long) = absurd (omega (arith, fits, long))
  text_long fits (inr h) =
      let same : h.0 ≡ words = tokens (plain text) h.0 words h.1 are in
      subst (λ (z : List Lexeme). GrowWords z) same h.2

  pub text_read : length text ≤ most_bytes → (r : Result WideText SyntaxFault) → IsReplacedAnswer words r → IfOk r (λ w. IsMarkedTree text (source w.unit).externals)
  text_read fits (Ok w) h = record { fits = fits; words = words; are = are; read = h }
  text_read fits (Err f) h = tt

  pub text_refused : length text ≤ most_bytes → (r : Result WideText SyntaxFault) → IsReplacedAnswer words r → IfErr r (λ f. IsReadRefusal text f)
  text_refused fits (Ok w) h = tt
  text_refused fits (Err f) h =
      passes (GrowWords words) (IsTooLong text) (λ tree. IsReplacedTree words tree) (λ tree. IsMarkedTree text tree) f
      (λ long. inr (words, are, long)) (text_long fits) marked_tree h

-- ---- refusals of the stages' texts

pub marked_refused : (numbers : List Number) (words : List Lexeme) (text : List ℕ) (before after : SyntaxFault) → text ≡ marked numbers words → length (marked numbers words) ≤ most_bytes → IsPlaced before after
    → ((tree : List External) → length text ≤ most_bytes → SpellsText text tree → before ≡ fault.OutOfMemory) → Refuses (GrowNumbered numbers words) (λ tree. IsNumberedTree numbers words tree) after
marked_refused numbers words text before after same fits h only =
    placed (GrowNumbered numbers words) (λ tree. IsNumberedTree numbers words tree) before after h (λ never long. absurd (omega (arith, fits, long)))
    (λ never tree k. never (only tree (subst (λ (bytes : List ℕ). length bytes ≤ most_bytes) (sym same) fits) (subst (λ (bytes : List ℕ). SpellsText bytes tree) (sym same) k.spelled)))

pub known_refused : TokensHaveNoLexicalError → (words : List Lexeme) (text : List ℕ) (before after : SyntaxFault) → text ≡ named words → length (named words) ≤ most_bytes → IsPlaced before after
    → IsTokenRefusal text before → Refuses (GrowKnown words) (λ tree. IsKnownTree words tree) after
known_refused law words text before after same fits h refusal =
    let r : IsTokenRefusal (named words) before = subst (λ (bytes : List ℕ). IsTokenRefusal bytes before) same refusal in
    placed (GrowKnown words) (λ tree. IsKnownTree words tree) before after h
    (λ never. known_short words fits (λ ts. no_tokens law (named words) before fits r never ts))
    (λ never tree k. no_tokens law (named words) before fits r never k.known k.become)

pub known_uncounted : (words : List Lexeme) (f : SyntaxFault) → IsWrong f → length (named words) ≤ most_bytes → ((ns : List Number) → HaveNumbers words ns → ⊥) → Refuses (GrowKnown words) (λ tree. IsKnownTree words tree) f
known_uncounted words f w fits never =
    refuses (GrowKnown words) (λ tree. IsKnownTree words tree) f w (known_no_numbers words fits never) (λ tree k. never k.numbers k.have)

pub words_refused : TokensHaveNoLexicalError → (words : List Lexeme) (text : List ℕ) (before after : SyntaxFault) → text ≡ expanded words → length (expanded words) ≤ most_bytes → IsPlaced before after
    → IsTokenRefusal text before → Refuses (GrowWords words) (λ tree. IsReplacedTree words tree) after
words_refused law words text before after same fits h refusal =
    let r : IsTokenRefusal (expanded words) before = subst (λ (bytes : List ℕ). IsTokenRefusal bytes before) same refusal in
    placed (GrowWords words) (λ tree. IsReplacedTree words tree) before after h
    (λ never. words_short words fits (λ ts. no_tokens law (expanded words) before fits r never ts))
    (λ never tree k. no_tokens law (expanded words) before fits r never k.replaced k.become)

pub plain_refused : TokensHaveNoLexicalError → (text bytes : List ℕ) (before after : SyntaxFault) → bytes ≡ plain text → length text ≤ most_bytes → length (plain text) ≤ most_bytes → IsPlaced before after
    → IsTokenRefusal bytes before → IsReadRefusal text after
plain_refused law text bytes before after same fits short h refusal =
    let r : IsTokenRefusal (plain text) before = subst (λ (z : List ℕ). IsTokenRefusal z before) same refusal in
    placed (IsTooLong text) (λ tree. IsMarkedTree text tree) before after h
    (λ never. text_short text fits (λ ts. no_tokens law (plain text) before short r never ts))
    (λ never tree k. no_tokens law (plain text) before short r never k.words k.are)

-- ---- answers, passed on: each text and each list of tokens is borrowed anew

again : (bytes text given : List ℕ) (found tokens : List Token) → text ≡ bytes → given ≡ text → tokens ≡ found → IsTokens text (lexemes text found) → IsTokens bytes (lexemes given tokens)
again bytes text given found tokens e g t are =
    subst (λ (z : List ℕ). IsTokens z (lexemes given tokens)) (g ∙ e)
    (subst (λ (z : List ℕ). IsTokens z (lexemes z tokens)) (sym g) (subst (λ (z : List Token). IsTokens text (lexemes text z)) (sym t) are))

pub known_goes : TokensAreOne → TreesAreOne → (words : List Lexeme) (text given : List ℕ) (found tokens : List Token) (ns ms : List Numbered) → text ≡ named words → given ≡ text → tokens ≡ found → ms ≡ ns
    → length (named words) ≤ most_bytes → IsTokens text (lexemes text found) → AreNumbers [] (enumerators words) (map number ns) → (r : Result WideText SyntaxFault)
    → IsNumberedAnswer (map number ms) (lexemes given tokens) r → IsKnownAnswer words r
known_goes one trees words text given found tokens ns ms e g t m fits are have r h =
    known_answer one trees words (lexemes given tokens) (map number ms) (again (named words) text given found tokens e g t are)
    (subst (λ (z : List Numbered). AreNumbers [] (enumerators words) (map number z)) (sym m) have) fits r h

pub replaced_goes : TokensAreOne → (words : List Lexeme) (text given : List ℕ) (found tokens : List Token) → text ≡ expanded words → given ≡ text → tokens ≡ found → length (expanded words) ≤ most_bytes
    → IsTokens text (lexemes text found) → (r : Result WideText SyntaxFault) → IsKnownAnswer (lexemes given tokens) r → IsReplacedAnswer words r
replaced_goes one words text given found tokens e g t fits are r h =
    replaced_answer one words (lexemes given tokens) (again (expanded words) text given found tokens e g t are) fits r h

pub text_goes : TokensAreOne → (wide text given : List ℕ) (found tokens : List Token) → text ≡ plain wide → given ≡ text → tokens ≡ found → length wide ≤ most_bytes → IsTokens text (lexemes text found)
    → (r : Result WideText SyntaxFault) → IsReplacedAnswer (lexemes given tokens) r
    → IfOk r (λ w. IsMarkedTree wide (source w.unit).externals) × IfErr r (λ f. IsReadRefusal wide f)
text_goes one wide text given found tokens e g t fits are r h =
    let words : IsTokens (plain wide) (lexemes given tokens) = again (plain wide) text given found tokens e g t are in
    (text_read one wide (lexemes given tokens) words fits r h, text_refused one wide (lexemes given tokens) words fits r h)
