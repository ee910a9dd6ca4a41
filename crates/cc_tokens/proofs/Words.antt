-- Words, numbers and punctuators at the beginning of the bytes: the scanner takes the longest prefix that can be a token. The
-- first byte decides which of the three it can be.
use Rattle.std.proofs.Common.{◌≡◌, ℕ, suc, ◌<◌, ◌≤◌, Bool, true, false, List, [], ◌∷◌, ◌++◌, length, take, drop, refl, sym, ap, ◌∙◌, arith, subst, Option, Some, None}
use Rattle.std.specs.List.{find, AllByRecursion}
use Rattle.std.specs.Str.{bytes_eq}
use Rattle.std.specs.Char.{is_ascii_digit}
use Rattle.std.proofs.lemmas.Bool.{cond_both, false≢true, and_parts, not-true}
use Rattle.std.proofs.lemmas.Bool.Decides.{nat_tests}
use Rattle.std.proofs.lemmas.Slice.Eq.{bytes_eq-Decides}
use Rattle.std.proofs.lemmas.List.{take-append-drop, length-take-le}
use Rattle.cc_tokens.specs.declared.token.Keyword.{Keyword}
use Rattle.cc_tokens.specs.declared.token.Punctuator.{Punctuator}
use Rattle.cc_tokens.specs.declared.token.TheConstants.{KEYWORDS}
use Rattle.cc_tokens.specs.Spelling.{keyword_bytes, punctuator_bytes}
use Rattle.cc_tokens.specs.Tokens.{is_blank, is_nondigit, continues_word, continues_number, Continues, IsIdentifierText, IsNumber, CanBeToken, word, number, punctuator, SpellsToken, IsLongest}
use Rattle.cc_tokens.specs.internal.Scan.{run_length, keyword_named, word_kind}
use Rattle.cc_tokens.proofs.Tables.{keyword_named-bytes, begins_as_punctuator, punctuator_begins}
use Rattle.cc_tokens.proofs.Runs.{run_fits, run_continues, run_longest}

-- a byte is at most one of these: a letter or `_`, a digit, white space
pub digit_not_nondigit : (b : ℕ) → is_nondigit b ≡ true → is_ascii_digit b ≡ true → ⊥
digit_not_nondigit b letter digit = grind (arith, nat_tests)

pub nondigit_not_blank : (b : ℕ) → is_nondigit b ≡ true → is_blank b ≡ false
nondigit_not_blank b letter = grind (arith, nat_tests)

pub digit_not_blank : (b : ℕ) → is_ascii_digit b ≡ true → is_blank b ≡ false
digit_not_blank b digit = grind (arith, nat_tests)

pub digit_is_no_nondigit : (b : ℕ) → is_ascii_digit b ≡ true → is_nondigit b ≡ false
digit_is_no_nondigit b digit = grind (arith, nat_tests)

-- the byte may begin a punctuator: it is not white space, a letter, `_` or a digit
pub record IsMark (b : ℕ) : Type 0 where
  pub no_blank : is_blank b ≡ false
  pub no_nondigit : is_nondigit b ≡ false
  pub no_digit : is_ascii_digit b ≡ false

marked : (b : ℕ) (bs : List ℕ) → begins_as_punctuator (b ∷ bs) ≡ true → IsMark b
marked b bs e =
    let both = and_parts _ _ e in
    let blank = and_parts _ _ both.0 in
    let word_or_number = and_parts _ _ both.1 in
    record { no_blank = not-true _ blank.1; no_nondigit = not-true _ word_or_number.0; no_digit = not-true _ word_or_number.1 }

-- a prefix has the same first byte as the whole
record IsPrefixOf (b : ℕ) (bs other rest : List ℕ) : Type 0 where
  pub behind : List ℕ
  pub whole : other ≡ b ∷ behind
  pub others : bs ≡ behind ++ rest

head_split : (b : ℕ) (bs other rest : List ℕ) → 0 < length other → b ∷ bs ≡ other ++ rest → IsPrefixOf b bs other rest
head_split b bs [] rest some e = absurd (omega arith)
head_split b bs (c ∷ behind) rest some e = record { behind = behind; whole = cc; others = cc }

pub punctuator_marks : (b : ℕ) (bs other rest : List ℕ) (p : Punctuator) → other ≡ punctuator_bytes p → b ∷ bs ≡ other ++ rest → IsMark b
punctuator_marks b bs [] rest p is e = absurd (false≢true (ap begins_as_punctuator is ∙ punctuator_begins p))
punctuator_marks b bs (c ∷ behind) rest p is e =
    let same : c ≡ b = cc in
    subst IsMark same (marked c behind (ap begins_as_punctuator is ∙ punctuator_begins p))

-- a punctuator has at least one byte
some_bytes : (bytes : List ℕ) → begins_as_punctuator bytes ≡ true → 0 < length bytes
some_bytes [] e = absurd (false≢true e)
some_bytes (b ∷ bs) e = omega arith

pub punctuator_some : (p : Punctuator) → 0 < length (punctuator_bytes p)
punctuator_some p = some_bytes (punctuator_bytes p) (punctuator_begins p)

-- a prefix that can be a token is a run of the kind that its first byte decides
record IsRunFrom (may : ℕ → ℕ → Bool) (b : ℕ) (bs other rest : List ℕ) : Type 0 where
  pub behind : List ℕ
  pub whole : other ≡ b ∷ behind
  pub others : bs ≡ behind ++ rest
  pub goes : Continues may b behind

word_head : (b : ℕ) (bs other rest : List ℕ) → is_nondigit b ≡ true → CanBeToken other → b ∷ bs ≡ other ++ rest → IsRunFrom continues_word b bs other rest
word_head b bs [] rest letter (word w) e = absurd w
word_head b bs (c ∷ behind) rest letter (word w) e =
    let same : c ≡ b = cc in
    record { behind = behind; whole = cc; others = cc; goes = subst (λ x. Continues continues_word x behind) same w.1 }
word_head b bs [] rest letter (number w) e = absurd w
word_head b bs (c ∷ behind) rest letter (number w) e =
    let same : c ≡ b = cc in
    absurd (digit_not_nondigit b letter (subst (λ x. is_ascii_digit x ≡ true) same w.0))
word_head b bs other rest letter (punctuator p is) e = absurd (false≢true (sym (punctuator_marks b bs other rest p is e).no_nondigit ∙ letter))

number_head : (b : ℕ) (bs other rest : List ℕ) → is_ascii_digit b ≡ true → CanBeToken other → b ∷ bs ≡ other ++ rest → IsRunFrom continues_number b bs other rest
number_head b bs [] rest digit (word w) e = absurd w
number_head b bs (c ∷ behind) rest digit (word w) e =
    let same : c ≡ b = cc in
    absurd (digit_not_nondigit b (subst (λ x. is_nondigit x ≡ true) same w.0) digit)
number_head b bs [] rest digit (number w) e = absurd w
number_head b bs (c ∷ behind) rest digit (number w) e =
    let same : c ≡ b = cc in
    record { behind = behind; whole = cc; others = cc; goes = subst (λ x. Continues continues_number x behind) same w.1 }
number_head b bs other rest digit (punctuator p is) e = absurd (false≢true (sym (punctuator_marks b bs other rest p is e).no_digit ∙ digit))

-- a token at the beginning is at most as long as the run there
run_bounds : (may : ℕ → ℕ → Bool) (b : ℕ) (bs other rest : List ℕ) → IsRunFrom may b bs other rest → length other ≤ suc (run_length may b bs)
run_bounds may b bs other rest run =
    let longest = run_longest may b run.behind rest run.goes in
    let same = ap (run_length may b) run.others in
    let size = ap length run.whole in
    omega arith

taken_length : (may : ℕ → ℕ → Bool) (b : ℕ) (bs : List ℕ) → length (take (run_length may b bs) bs) ≡ run_length may b bs
taken_length may b bs = length-take-le (run_length may b bs) bs (run_fits may b bs)

-- the word or the number at the beginning is the longest token there
pub word_is_longest : (b : ℕ) (bs : List ℕ) → is_nondigit b ≡ true → IsLongest (b ∷ take (run_length continues_word b bs) bs) (drop (run_length continues_word b bs) bs)
word_is_longest b bs letter = record {
  can_be = word (letter, run_continues continues_word b bs);
  longest = λ other rest can e.
      let run = word_head b bs other rest letter can (sym (ap (λ xs. b ∷ xs) (take-append-drop (run_length continues_word b bs) bs)) ∙ e) in
      let bound = run_bounds continues_word b bs other rest run in
      let size = taken_length continues_word b bs in
      omega arith;
}

pub number_is_longest : (b : ℕ) (bs : List ℕ) → is_ascii_digit b ≡ true → IsLongest (b ∷ take (run_length continues_number b bs) bs) (drop (run_length continues_number b bs) bs)
number_is_longest b bs digit = record {
  can_be = number (digit, run_continues continues_number b bs);
  longest = λ other rest can e.
      let run = number_head b bs other rest digit can (sym (ap (λ xs. b ∷ xs) (take-append-drop (run_length continues_number b bs) bs)) ∙ e) in
      let bound = run_bounds continues_number b bs other rest run in
      let size = taken_length continues_number b bs in
      omega arith;
}

-- the longest token at the beginning has the length of the run
longest_takes : (may : ℕ → ℕ → Bool) (b : ℕ) (bs after : List ℕ) → IsLongest (b ∷ bs) after → Continues may b bs
    → CanBeToken (b ∷ take (run_length may b (bs ++ after)) (bs ++ after)) → run_length may b (bs ++ after) ≡ length bs
longest_takes may b bs after longest goes can =
    let n = run_length may b (bs ++ after) in
    let upper = longest.longest (b ∷ take n (bs ++ after)) (drop n (bs ++ after)) can (ap (λ xs. b ∷ xs) (sym (take-append-drop n (bs ++ after)))) in
    let lower = run_longest may b bs after goes in
    let size = taken_length may b (bs ++ after) in
    omega arith

pub word_takes : (b : ℕ) (bs after : List ℕ) → IsLongest (b ∷ bs) after → IsIdentifierText (b ∷ bs) → run_length continues_word b (bs ++ after) ≡ length bs
word_takes b bs after longest w = longest_takes continues_word b bs after longest w.1 (word (w.0, run_continues continues_word b (bs ++ after)))

pub number_takes : (b : ℕ) (bs after : List ℕ) → IsLongest (b ∷ bs) after → IsNumber (b ∷ bs) → run_length continues_number b (bs ++ after) ≡ length bs
number_takes b bs after longest w = longest_takes continues_number b bs after longest w.1 (number (w.0, run_continues continues_number b (bs ++ after)))

-- what a search of a table finds passes the test, and the search finds nothing only if nothing passes
pub found_passes : {X : Type 0} (test : X → Bool) (xs : List X) (x : X) → find test xs ≡ Some x → test x ≡ true
found_passes test [] x e = absurd (let h : ⊥ = cc in h)
found_passes {X} test (y ∷ xs) x e =
    let ih = found_passes test xs x in
    cond_both (test y) (Some y) (find test xs) (λ o. o ≡ Some x → test x ≡ true) (λ here e'. let same : y ≡ x = cc in subst (λ z. test z ≡ true) same here) (λ not_here e'. ih e') e

pub missing_fails : {X : Type 0} (test : X → Bool) (xs : List X) → find test xs ≡ None → AllByRecursion (λ x. test x ≡ false) xs
missing_fails test [] e = tt
missing_fails {X} test (y ∷ xs) e =
    let ih = missing_fails test xs in
    cond_both (test y) (Some y) (find test xs) (λ o. o ≡ None → AllByRecursion (λ x. test x ≡ false) (y ∷ xs)) (λ here e'. absurd (let h : ⊥ = cc in h)) (λ not_here e'. (not_here, ih e')) e

-- a word that is found in the table spells that keyword; a word that is not found spells no keyword
word_spells_by : (text : List ℕ) (o : Option Keyword) → keyword_named text ≡ o → IsIdentifierText text → SpellsToken (word_kind o) text
unfolding keyword_named
word_spells_by text None e w = (w, λ k is. let h : None ≡ Some k = sym e ∙ ap keyword_named is ∙ keyword_named-bytes k in absurd (let g : ⊥ = cc in g))
word_spells_by text (Some k) e w = sym ((bytes_eq-Decides (keyword_bytes k) text).0 (found_passes (λ k'. bytes_eq (keyword_bytes k') text) KEYWORDS k e))

pub word_spells : (text : List ℕ) → IsIdentifierText text → SpellsToken (word_kind (keyword_named text)) text
word_spells text w = word_spells_by text (keyword_named text) refl w
