-- A search looks only through the few keywords or punctuators that begin with the first byte: the others fail its test.
use Rattle.std.proofs.Common.{◌≡◌, ℕ, ◌≤◌, Bool, true, false, ◌==◌, List, ◌++◌, length, drop, refl, sym, ap, ◌∙◌, subst, arith, Option, Some, None}
use Rattle.std.specs.Prelude.{slice_index}
use Rattle.std.specs.List.{find, starts_with, AllByRecursion}
use Rattle.std.specs.Str.{bytes_eq}
use Rattle.std.proofs.lemmas.Bool.{false≢true}
use Rattle.std.proofs.lemmas.Slice.Eq.{bytes_eq-Decides}
use Rattle.cc_tokens.specs.declared.token.Keyword.{Keyword}
use Rattle.cc_tokens.specs.declared.token.Keyword.TheVariants as keyword
use Rattle.cc_tokens.specs.declared.token.Punctuator.{Punctuator}
use Rattle.cc_tokens.specs.declared.token.Punctuator.TheVariants as punctuator
use Rattle.cc_tokens.specs.declared.token.TheConstants.{KEYWORDS}
use Rattle.cc_tokens.specs.Spelling.{keyword_bytes, punctuator_bytes}
use Rattle.cc_tokens.specs.internal.Scan.{keyword_named, punctuator_at, keywords_with, punctuators_with}
use Rattle.cc_tokens.proofs.Tables.{keyword_named-bytes}
use Rattle.cc_tokens.proofs.Words.{found_passes, missing_fails}
use Rattle.cc_tokens.proofs.Punctuators.{is_descending, longest_first, head_test, punctuator_found, punctuator_longest, punctuator_missing, punctuator_one}

-- a search for a keyword among those with its first byte finds that keyword
keyword_among : (k : Keyword) → find (λ j. bytes_eq (keyword_bytes j) (keyword_bytes k)) (keywords_with (slice_index (keyword_bytes k) 0)) ≡ Some k
keyword_among keyword.Auto = refl
keyword_among keyword.Break = refl
keyword_among keyword.Case = refl
keyword_among keyword.Char = refl
keyword_among keyword.Const = refl
keyword_among keyword.Continue = refl
keyword_among keyword.Default = refl
keyword_among keyword.Do = refl
keyword_among keyword.Double = refl
keyword_among keyword.Else = refl
keyword_among keyword.Enum = refl
keyword_among keyword.Extern = refl
keyword_among keyword.Float = refl
keyword_among keyword.For = refl
keyword_among keyword.Goto = refl
keyword_among keyword.If = refl
keyword_among keyword.Inline = refl
keyword_among keyword.Int = refl
keyword_among keyword.Long = refl
keyword_among keyword.Register = refl
keyword_among keyword.Restrict = refl
keyword_among keyword.Return = refl
keyword_among keyword.Short = refl
keyword_among keyword.Signed = refl
keyword_among keyword.Sizeof = refl
keyword_among keyword.Static = refl
keyword_among keyword.Struct = refl
keyword_among keyword.Switch = refl
keyword_among keyword.Typedef = refl
keyword_among keyword.Union = refl
keyword_among keyword.Unsigned = refl
keyword_among keyword.Void = refl
keyword_among keyword.Volatile = refl
keyword_among keyword.While = refl
keyword_among keyword.Bool = refl
keyword_among keyword.Complex = refl
keyword_among keyword.Imaginary = refl

-- a keyword that passes the test is the one that the word spells
passes_named : (word : List ℕ) (k : Keyword) → bytes_eq (keyword_bytes k) word ≡ true → word ≡ keyword_bytes k
passes_named word k e = sym ((bytes_eq-Decides (keyword_bytes k) word).0 e)

named_bytes : (word : List ℕ) (k : Keyword) → keyword_named word ≡ Some k → word ≡ keyword_bytes k
unfolding keyword_named
named_bytes word k e = passes_named word k (found_passes (λ j. bytes_eq (keyword_bytes j) word) KEYWORDS k e)

pub keyword_among_few : (word : List ℕ) → find (λ k. bytes_eq (keyword_bytes k) word) (keywords_with (slice_index word 0)) ≡ keyword_named word
keyword_among_few word = by (find (λ k. bytes_eq (keyword_bytes k) word) (keywords_with (slice_index word 0))) (keyword_named word) refl refl
  where
    by : (few all : Option Keyword) → find (λ k. bytes_eq (keyword_bytes k) word) (keywords_with (slice_index word 0)) ≡ few → keyword_named word ≡ all → few ≡ all
    by (Some k) all f a =
        let is : word ≡ keyword_bytes k = passes_named word k (found_passes (λ j. bytes_eq (keyword_bytes j) word) (keywords_with (slice_index word 0)) k f) in
        sym (keyword_named-bytes k) ∙ sym (ap keyword_named is) ∙ a
    by None None f a = refl
    by None (Some k) f a =
        let is : word ≡ keyword_bytes k = named_bytes word k a in
        sym f ∙ ap (λ w. find (λ j. bytes_eq (keyword_bytes j) w) (keywords_with (slice_index w 0))) is ∙ keyword_among k

-- the punctuators with the same first byte are ordered longest first
begun_descend : (p : Punctuator) → is_descending 3 (punctuators_with (slice_index (punctuator_bytes p) 0)) ≡ true
begun_descend punctuator.ShiftLeftAssign = refl
begun_descend punctuator.ShiftRightAssign = refl
begun_descend punctuator.ShiftLeft = refl
begun_descend punctuator.ShiftRight = refl
begun_descend punctuator.LessOrEqual = refl
begun_descend punctuator.GreaterOrEqual = refl
begun_descend punctuator.Equal = refl
begun_descend punctuator.NotEqual = refl
begun_descend punctuator.AndAnd = refl
begun_descend punctuator.OrOr = refl
begun_descend punctuator.PlusAssign = refl
begun_descend punctuator.MinusAssign = refl
begun_descend punctuator.StarAssign = refl
begun_descend punctuator.SlashAssign = refl
begun_descend punctuator.PercentAssign = refl
begun_descend punctuator.AmpersandAssign = refl
begun_descend punctuator.BarAssign = refl
begun_descend punctuator.CaretAssign = refl
begun_descend punctuator.PlusPlus = refl
begun_descend punctuator.MinusMinus = refl
begun_descend punctuator.OpenParenthesis = refl
begun_descend punctuator.CloseParenthesis = refl
begun_descend punctuator.OpenBracket = refl
begun_descend punctuator.CloseBracket = refl
begun_descend punctuator.OpenBrace = refl
begun_descend punctuator.CloseBrace = refl
begun_descend punctuator.Semicolon = refl
begun_descend punctuator.Comma = refl
begun_descend punctuator.Question = refl
begun_descend punctuator.Colon = refl
begun_descend punctuator.Plus = refl
begun_descend punctuator.Minus = refl
begun_descend punctuator.Star = refl
begun_descend punctuator.Slash = refl
begun_descend punctuator.Percent = refl
begun_descend punctuator.Less = refl
begun_descend punctuator.Greater = refl
begun_descend punctuator.Ampersand = refl
begun_descend punctuator.Bar = refl
begun_descend punctuator.Caret = refl
begun_descend punctuator.Tilde = refl
begun_descend punctuator.Exclamation = refl
begun_descend punctuator.Assign = refl

-- what holds of each punctuator with the same first byte as `p` holds of `p`
of_each_begun : (P : Punctuator → Type 0) (p : Punctuator) → AllByRecursion P (punctuators_with (slice_index (punctuator_bytes p) 0)) → P p
of_each_begun P punctuator.ShiftLeftAssign all = all.0
of_each_begun P punctuator.ShiftLeft all = all.1.0
of_each_begun P punctuator.LessOrEqual all = all.1.1.0
of_each_begun P punctuator.Less all = all.1.1.1.0
of_each_begun P punctuator.ShiftRightAssign all = all.0
of_each_begun P punctuator.ShiftRight all = all.1.0
of_each_begun P punctuator.GreaterOrEqual all = all.1.1.0
of_each_begun P punctuator.Greater all = all.1.1.1.0
of_each_begun P punctuator.Equal all = all.0
of_each_begun P punctuator.Assign all = all.1.0
of_each_begun P punctuator.NotEqual all = all.0
of_each_begun P punctuator.Exclamation all = all.1.0
of_each_begun P punctuator.AndAnd all = all.0
of_each_begun P punctuator.AmpersandAssign all = all.1.0
of_each_begun P punctuator.Ampersand all = all.1.1.0
of_each_begun P punctuator.OrOr all = all.0
of_each_begun P punctuator.BarAssign all = all.1.0
of_each_begun P punctuator.Bar all = all.1.1.0
of_each_begun P punctuator.PlusAssign all = all.0
of_each_begun P punctuator.PlusPlus all = all.1.0
of_each_begun P punctuator.Plus all = all.1.1.0
of_each_begun P punctuator.MinusAssign all = all.0
of_each_begun P punctuator.MinusMinus all = all.1.0
of_each_begun P punctuator.Minus all = all.1.1.0
of_each_begun P punctuator.StarAssign all = all.0
of_each_begun P punctuator.Star all = all.1.0
of_each_begun P punctuator.SlashAssign all = all.0
of_each_begun P punctuator.Slash all = all.1.0
of_each_begun P punctuator.PercentAssign all = all.0
of_each_begun P punctuator.Percent all = all.1.0
of_each_begun P punctuator.CaretAssign all = all.0
of_each_begun P punctuator.Caret all = all.1.0
of_each_begun P punctuator.OpenParenthesis all = all.0
of_each_begun P punctuator.CloseParenthesis all = all.0
of_each_begun P punctuator.OpenBracket all = all.0
of_each_begun P punctuator.CloseBracket all = all.0
of_each_begun P punctuator.OpenBrace all = all.0
of_each_begun P punctuator.CloseBrace all = all.0
of_each_begun P punctuator.Semicolon all = all.0
of_each_begun P punctuator.Comma all = all.0
of_each_begun P punctuator.Question all = all.0
of_each_begun P punctuator.Colon all = all.0
of_each_begun P punctuator.Tilde all = all.0

-- a punctuator followed by further bytes has the same first byte as the punctuator alone
first_is : (p : Punctuator) (rest : List ℕ) → slice_index (punctuator_bytes p ++ rest) 0 ≡ slice_index (punctuator_bytes p) 0
first_is punctuator.ShiftLeftAssign rest = refl
first_is punctuator.ShiftRightAssign rest = refl
first_is punctuator.ShiftLeft rest = refl
first_is punctuator.ShiftRight rest = refl
first_is punctuator.LessOrEqual rest = refl
first_is punctuator.GreaterOrEqual rest = refl
first_is punctuator.Equal rest = refl
first_is punctuator.NotEqual rest = refl
first_is punctuator.AndAnd rest = refl
first_is punctuator.OrOr rest = refl
first_is punctuator.PlusAssign rest = refl
first_is punctuator.MinusAssign rest = refl
first_is punctuator.StarAssign rest = refl
first_is punctuator.SlashAssign rest = refl
first_is punctuator.PercentAssign rest = refl
first_is punctuator.AmpersandAssign rest = refl
first_is punctuator.BarAssign rest = refl
first_is punctuator.CaretAssign rest = refl
first_is punctuator.PlusPlus rest = refl
first_is punctuator.MinusMinus rest = refl
first_is punctuator.OpenParenthesis rest = refl
first_is punctuator.CloseParenthesis rest = refl
first_is punctuator.OpenBracket rest = refl
first_is punctuator.CloseBracket rest = refl
first_is punctuator.OpenBrace rest = refl
first_is punctuator.CloseBrace rest = refl
first_is punctuator.Semicolon rest = refl
first_is punctuator.Comma rest = refl
first_is punctuator.Question rest = refl
first_is punctuator.Colon rest = refl
first_is punctuator.Plus rest = refl
first_is punctuator.Minus rest = refl
first_is punctuator.Star rest = refl
first_is punctuator.Slash rest = refl
first_is punctuator.Percent rest = refl
first_is punctuator.Less rest = refl
first_is punctuator.Greater rest = refl
first_is punctuator.Ampersand rest = refl
first_is punctuator.Bar rest = refl
first_is punctuator.Caret rest = refl
first_is punctuator.Tilde rest = refl
first_is punctuator.Exclamation rest = refl
first_is punctuator.Assign rest = refl

abbrev test : List ℕ → Punctuator → Bool
test bytes p = starts_with (λ a b. a == b) bytes (punctuator_bytes p)

-- the first byte of bytes that begin with a punctuator is that punctuator's
same_first : (bytes : List ℕ) (p : Punctuator) (rest : List ℕ) → bytes ≡ punctuator_bytes p ++ rest → slice_index bytes 0 ≡ slice_index (punctuator_bytes p) 0
same_first bytes p rest e = ap (λ bs. slice_index bs 0) e ∙ first_is p rest

pub punctuator_among_few : (bytes : List ℕ) → find (λ p. starts_with (λ a b. a == b) bytes (punctuator_bytes p)) (punctuators_with (slice_index bytes 0)) ≡ punctuator_at bytes
punctuator_among_few bytes = by (find (test bytes) (punctuators_with (slice_index bytes 0))) (punctuator_at bytes) refl refl
  where
    head_of_found : (p : Punctuator) → find (test bytes) (punctuators_with (slice_index bytes 0)) ≡ Some p → bytes ≡ punctuator_bytes p ++ drop (length (punctuator_bytes p)) bytes
    head_of_found p f = (head_test bytes p).0 (found_passes (test bytes) (punctuators_with (slice_index bytes 0)) p f)

    by : (few all : Option Punctuator) → find (test bytes) (punctuators_with (slice_index bytes 0)) ≡ few → punctuator_at bytes ≡ all → few ≡ all
    by None None f a = refl
    by (Some p) None f a = absurd (punctuator_missing bytes p (drop (length (punctuator_bytes p)) bytes) a (head_of_found p f))
    by None (Some q) f a =
        let stands = punctuator_found bytes q a in
        let passes : test bytes q ≡ true = (head_test bytes q).1 (drop (length (punctuator_bytes q)) bytes) stands in
        let first = same_first bytes q (drop (length (punctuator_bytes q)) bytes) stands in
        let fails : test bytes q ≡ false = of_each_begun (λ p. test bytes p ≡ false) q (subst (λ b. AllByRecursion (λ p. test bytes p ≡ false) (punctuators_with b)) first (missing_fails (test bytes) (punctuators_with (slice_index bytes 0)) f)) in
        absurd (false≢true (sym fails ∙ passes))
    by (Some p) (Some q) f a =
        let stands = punctuator_found bytes q a in
        let passes : test bytes q ≡ true = (head_test bytes q).1 (drop (length (punctuator_bytes q)) bytes) stands in
        let first = same_first bytes q (drop (length (punctuator_bytes q)) bytes) stands in
        let few : find (test bytes) (punctuators_with (slice_index (punctuator_bytes q) 0)) ≡ Some p = ap (λ b. find (test bytes) (punctuators_with b)) (sym first) ∙ f in
        let below : length (punctuator_bytes q) ≤ length (punctuator_bytes p) = of_each_begun (λ r. test bytes r ≡ true → length (punctuator_bytes r) ≤ length (punctuator_bytes p)) q (longest_first (test bytes) 3 (punctuators_with (slice_index (punctuator_bytes q) 0)) p (begun_descend q) few) passes in
        let above : length (punctuator_bytes p) ≤ length (punctuator_bytes q) = punctuator_longest bytes q p (drop (length (punctuator_bytes p)) bytes) a (head_of_found p f) in
        ap Some (punctuator_one p q (drop (length (punctuator_bytes p)) bytes) (drop (length (punctuator_bytes q)) bytes) (sym (head_of_found p f) ∙ stands) (omega (arith, below, above)))
