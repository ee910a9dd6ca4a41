-- What the scanner returns agrees with the definition of a text's tokens. The scanner returns a piece or an error only if the
-- bytes begin with it (sound), and returns each piece or error that the bytes begin with (complete).
use Rattle.std.proofs.Common.{◌≡◌, ℕ, suc, ◌+◌, ◌<◌, ◌≤◌, ◌⊎◌, Bool, true, false, ◌||◌, ◌==◌, List, [], ◌∷◌, ◌++◌, length, take, drop, refl, sym, ap, ◌∙◌, arith, subst, ⊎_elim, inl, inr, append_assoc, length-append, length-drop, Option, Some, None}
use Rattle.std.specs.Prelude.{nat_lt, IsTrue}
use Rattle.std.specs.Char.{is_ascii_digit}
use Rattle.std.proofs.lemmas.Bool.{cond-true, cond-false, cond_both, false≢true, and_parts, or_cases, eqb-true, ltb-true, ltb-false, cases_Bool, cases_lt}
use Rattle.std.proofs.lemmas.List.{take-append-drop, take_at, drop_at, length-take-le, take-append-le, drop-append-le, drop_all, take_all}
use Rattle.cc_tokens.specs.declared.scalar.Scalar.{Scalar}
use Rattle.cc_tokens.specs.declared.lexical_error.LexicalError.TheVariants.{BadByte, UnclosedComment}
use Rattle.cc_tokens.specs.declared.scan.Head.{Head}
use Rattle.cc_tokens.specs.declared.scan.Head.TheVariants as head
use Rattle.cc_tokens.specs.declared.token.Punctuator.{Punctuator}
use Rattle.cc_tokens.specs.Spelling.{punctuator_bytes}
use Rattle.cc_tokens.specs.Constant.{Constant, SpellsConstant, digits_value, constant_type}
use Rattle.cc_tokens.specs.Tokens.{is_blank, is_nondigit, continues_word, continues_number, CanBeToken, word, number, punctuator, begins_comment, begins_close, begins_line_end, begins_splice, Nowhere, IsComment, block, line, TextPiece, blank, comment, token, piece_bytes, StandsBefore, IsLexicalError}
use Rattle.cc_tokens.specs.internal.Scan.{run_of, run_length, head_of, comment_head, comment_of, block_comment, offset_within, number_head, punctuator_head, punctuator_at, keyword_named, word_kind, constant_kind, constant_spelled, typed}
use Rattle.cc_tokens.proofs.Runs.{run_fits, run_continues, place_fits, place_nowhere, place_here}
use Rattle.cc_tokens.proofs.ConstantForms.{constant_sound, constant_complete}
use Rattle.cc_tokens.proofs.Words.{punctuator_some, word_is_longest, number_is_longest, word_spells}
use Rattle.cc_tokens.proofs.Punctuators.{punctuator_found, punctuator_longest, punctuator_missing}
use Rattle.cc_tokens.proofs.Comments.{close_shape}

-- the bytes begin with a piece of n bytes, which is right given what follows it
pub record StandsAt (bytes : List ℕ) (n : ℕ) (p : TextPiece) : Type 0 where
  pub after : List ℕ
  pub whole : bytes ≡ piece_bytes p ++ after
  pub stands : StandsBefore p after
  pub size : length (piece_bytes p) ≡ n
  pub some : 0 < n

-- what each answer of the scanner means for the bytes
abbrev pub IsHead : List ℕ → Head → Type 0
IsHead bytes head.Blank = (b : ℕ) × StandsAt bytes 1 (blank b)
IsHead bytes (head.Comment n) = (c : List ℕ) × StandsAt bytes n (comment c)
IsHead bytes (head.Token k n) = (text : List ℕ) × StandsAt bytes n (token k text)
IsHead bytes (head.Error error k) = (k < length bytes) × IsLexicalError error bytes k

-- the five cases of the first byte
module _ (b : ℕ) (bs : List ℕ) where
  pub head_blank : is_blank b ≡ true → head_of (b ∷ bs) ≡ head.Blank
  unfolding head_of
  head_blank e = cond-true _ _ _ e

  pub head_comment : is_blank b ≡ false → begins_comment (b ∷ bs) ≡ true → head_of (b ∷ bs) ≡ comment_head (b ∷ bs)
  unfolding head_of
  head_comment e c = cond-false _ _ _ e ∙ cond-true _ _ _ c

  pub head_word : is_blank b ≡ false → begins_comment (b ∷ bs) ≡ false → is_nondigit b ≡ true → head_of (b ∷ bs) ≡ head.Token (word_kind (keyword_named (take (run_of continues_word (b ∷ bs)) (b ∷ bs)))) (run_of continues_word (b ∷ bs))
  unfolding head_of
  head_word e c w = cond-false _ _ _ e ∙ cond-false _ _ _ c ∙ cond-true _ _ _ w

  pub head_number : is_blank b ≡ false → begins_comment (b ∷ bs) ≡ false → is_nondigit b ≡ false → is_ascii_digit b ≡ true → head_of (b ∷ bs) ≡ number_head (run_of continues_number (b ∷ bs)) (constant_kind (constant_spelled (take (run_of continues_number (b ∷ bs)) (b ∷ bs))))
  unfolding head_of
  head_number e c w d = cond-false _ _ _ e ∙ cond-false _ _ _ c ∙ cond-false _ _ _ w ∙ cond-true _ _ _ d

  pub head_mark : is_blank b ≡ false → begins_comment (b ∷ bs) ≡ false → is_nondigit b ≡ false → is_ascii_digit b ≡ false → head_of (b ∷ bs) ≡ punctuator_head (punctuator_at (b ∷ bs))
  unfolding head_of
  head_mark e c w d = cond-false _ _ _ e ∙ cond-false _ _ _ c ∙ cond-false _ _ _ w ∙ cond-false _ _ _ d

-- Sound.

-- the bytes are the run of a word or a number, followed by the rest
run_whole : (may : ℕ → ℕ → Bool) (b : ℕ) (bs : List ℕ) → b ∷ bs ≡ (b ∷ take (run_length may b bs) bs) ++ drop (run_length may b bs) bs
run_whole may b bs = ap (λ xs. b ∷ xs) (sym (take-append-drop (run_length may b bs) bs))

run_size : (may : ℕ → ℕ → Bool) (b : ℕ) (bs : List ℕ) → length (b ∷ take (run_length may b bs) bs) ≡ suc (run_length may b bs)
run_size may b bs = ap suc (length-take-le (run_length may b bs) bs (run_fits may b bs))

word_sound : (b : ℕ) (bs : List ℕ) → begins_comment (b ∷ bs) ≡ false → is_nondigit b ≡ true → IsHead (b ∷ bs) (head.Token (word_kind (keyword_named (take (run_of continues_word (b ∷ bs)) (b ∷ bs)))) (run_of continues_word (b ∷ bs)))
word_sound b bs no_comment letter =
    let text = b ∷ take (run_length continues_word b bs) bs in
    let longest = word_is_longest b bs letter in (
      text,
      record {
        after = drop (run_length continues_word b bs) bs;
        whole = run_whole continues_word b bs;
        stands = (sym (ap begins_comment (run_whole continues_word b bs)) ∙ no_comment, longest, word_spells text (letter, run_continues continues_word b bs));
        size = run_size continues_word b bs;
        some = omega arith;
      },
    )

typed_sound : (b : ℕ) (bs : List ℕ) (c : Constant) (t : Option Scalar) → begins_comment (b ∷ bs) ≡ false → is_ascii_digit b ≡ true
    → SpellsConstant c (b ∷ take (run_length continues_number b bs) bs) → constant_type c ≡ t
    → IsHead (b ∷ bs) (number_head (suc (run_length continues_number b bs)) (typed t (digits_value c)))
typed_sound b bs c None no_comment digit spelled e = (
  omega arith,
  (
    record {
      text = b ∷ take (run_length continues_number b bs) bs;
      after = drop (run_length continues_number b bs) bs;
      whole = run_whole continues_number b bs;
      longest = number_is_longest b bs digit;
      constant = c;
      spelled = spelled;
      no_type = e;
    },
    refl,
  ),
)
typed_sound b bs c (Some type) no_comment digit spelled e = (
  b ∷ take (run_length continues_number b bs) bs,
  record {
    after = drop (run_length continues_number b bs) bs;
    whole = run_whole continues_number b bs;
    stands = (sym (ap begins_comment (run_whole continues_number b bs)) ∙ no_comment, number_is_longest b bs digit, (c, spelled, e, refl));
    size = run_size continues_number b bs;
    some = omega arith;
  },
)

number_sound : (b : ℕ) (bs : List ℕ) (o : Option Constant) → begins_comment (b ∷ bs) ≡ false → is_ascii_digit b ≡ true
    → constant_spelled (b ∷ take (run_length continues_number b bs) bs) ≡ o
    → IsHead (b ∷ bs) (number_head (suc (run_length continues_number b bs)) (constant_kind o))
number_sound b bs None no_comment digit e = (
  omega arith,
  (
    record {
      text = b ∷ take (run_length continues_number b bs) bs;
      after = drop (run_length continues_number b bs) bs;
      whole = run_whole continues_number b bs;
      longest = number_is_longest b bs digit;
      number = (digit, run_continues continues_number b bs);
      no_constant = λ c spelled. let h : None ≡ Some c = sym e ∙ constant_complete c _ spelled in let g : ⊥ = cc in g;
    },
    refl,
  ),
)
number_sound b bs (Some c) no_comment digit e = typed_sound b bs c (constant_type c) no_comment digit (constant_sound b _ c e) refl

-- if the first byte is not a letter, `_` or a digit, the bytes can begin with no token except a punctuator
marks_punctuator : (b : ℕ) (bs other rest : List ℕ) → is_nondigit b ≡ false → is_ascii_digit b ≡ false → CanBeToken other → b ∷ bs ≡ other ++ rest → (p : Punctuator) × (other ≡ punctuator_bytes p)
marks_punctuator b bs [] rest no_word no_number (word w) is = absurd w
marks_punctuator b bs (c ∷ other) rest no_word no_number (word w) is =
    let same : c ≡ b = cc in
    absurd (false≢true (sym no_word ∙ subst (λ x. is_nondigit x ≡ true) same w.0))
marks_punctuator b bs [] rest no_word no_number (number w) is = absurd w
marks_punctuator b bs (c ∷ other) rest no_word no_number (number w) is =
    let same : c ≡ b = cc in
    absurd (false≢true (sym no_number ∙ subst (λ x. is_ascii_digit x ≡ true) same w.0))
marks_punctuator b bs other rest no_word no_number (punctuator p spelled) is = (p, spelled)

mark_sound : (b : ℕ) (bs : List ℕ) (o : Option Punctuator) → is_blank b ≡ false → begins_comment (b ∷ bs) ≡ false → is_nondigit b ≡ false → is_ascii_digit b ≡ false → punctuator_at (b ∷ bs) ≡ o → IsHead (b ∷ bs) (punctuator_head o)
mark_sound b bs None no_blank no_comment no_word no_number e = (
  omega arith,
  inl (
    record {
      first = b;
      rest = bs;
      whole = refl;
      no_blank = no_blank;
      no_comment = no_comment;
      no_token = λ text after can is.
          let found = marks_punctuator b bs text after no_word no_number can is in
          punctuator_missing (b ∷ bs) found.0 after e (is ∙ ap (λ t. t ++ after) found.1);
    },
    refl,
  ),
)
mark_sound b bs (Some p) no_blank no_comment no_word no_number e =
    let whole = punctuator_found (b ∷ bs) p e in (
      punctuator_bytes p,
      record {
        after = drop (length (punctuator_bytes p)) (b ∷ bs);
        whole = whole;
        stands = (
          sym (ap begins_comment whole) ∙ no_comment,
          record {
            can_be = punctuator p refl;
            longest = λ other rest can is.
                let is_head : b ∷ bs ≡ other ++ rest = whole ∙ is in
                let found = marks_punctuator b bs other rest no_word no_number can is_head in
                let bound = punctuator_longest (b ∷ bs) p found.0 rest e (is_head ∙ ap (λ t. t ++ rest) found.1) in
                let same = ap length found.1 in
                omega arith;
          },
          refl,
        );
        size = refl;
        some = punctuator_some p;
      },
    )

-- if a comment is at the beginning of the bytes, what `comment_of` returns is right, whether there is a line splice in the
-- comment or not
splices_sound : (c after bytes : List ℕ) → IsComment c after → 0 < length c → bytes ≡ c ++ after → IsHead bytes (comment_of (length c) bytes)
splices_sound c after bytes commented some whole =
    let n = length c in
    let k = offset_within begins_splice n bytes in
    let total = ap length whole ∙ length-append c after in
    let fits : n ≤ length bytes = omega arith in
    let bound = place_fits begins_splice n bytes in
    let nowhere = place_nowhere begins_splice n bytes fits in
    cond_both (nat_lt k n) (head.Error BadByte k) (head.Comment n) (IsHead bytes)
    (λ inside.
    let below : k < n = ltb-true k n inside in
    let parts = take-append-drop k c in
    let head_is : take k bytes ≡ take k c = ap (take k) whole ∙ take-append-le k c after (omega arith) in
    let back_is : drop k bytes ≡ drop k c ++ after = ap (drop k) whole ∙ drop-append-le k c after (omega arith) in
    let back_size = length-drop k c in (
      omega arith,
      inr (record {
        prefix = take k c;
        back = drop k c;
        after = after;
        whole = whole ∙ ap (λ xs. xs ++ after) (sym parts);
        commented = subst (λ xs. IsComment xs after) (sym parts) commented;
        none_before = subst (λ xs. Nowhere begins_splice (take k c) xs) back_is (subst (λ xs. Nowhere begins_splice xs (drop k bytes)) head_is nowhere);
        inside = omega arith;
        here = sym (ap begins_splice back_is) ∙ place_here begins_splice n bytes fits below;
        at = sym (length-take-le k c (omega arith));
      }),
    ))
    (λ outside.
    let whole_place : k ≡ n = (let past = ltb-false k n outside in omega arith) in
    let head_is : take k bytes ≡ c = ap (λ i. take i bytes) whole_place ∙ ap (take n) whole ∙ take_at c after n refl in
    let back_is : drop k bytes ≡ after = ap (λ i. drop i bytes) whole_place ∙ ap (drop n) whole ∙ drop_at c after n refl in (
      c,
      record {
        after = after;
        whole = whole;
        stands = (commented, subst (λ xs. Nowhere begins_splice c xs) back_is (subst (λ xs. Nowhere begins_splice xs (drop k bytes)) head_is nowhere));
        size = refl;
        some = some;
      },
    ))

block_sound : (body : List ℕ) → IsHead (47 ∷ 42 ∷ body) (block_comment (offset_within begins_close (length body) body) (47 ∷ 42 ∷ body))
block_sound body =
    let n = offset_within begins_close (length body) body in
    let bound = place_fits begins_close (length body) body in
    let nowhere = place_nowhere begins_close (length body) body (omega arith) in
    cond_both (nat_lt n (length body)) (comment_of (n + 4) (47 ∷ 42 ∷ body)) (head.Error UnclosedComment 0) (IsHead (47 ∷ 42 ∷ body))
    (λ inside.
    let below = ltb-true n (length body) inside in
    let after = drop 2 (drop n body) in
    let close : drop n body ≡ 42 ∷ 47 ∷ after = close_shape (drop n body) (place_here begins_close (length body) body (omega arith) below) in
    let prefix = take n body in
    let c = 47 ∷ 42 ∷ prefix ++ (42 ∷ 47 ∷ []) in
    let whole : 47 ∷ 42 ∷ body ≡ c ++ after = ap (λ xs. 47 ∷ 42 ∷ xs) (sym (take-append-drop n body) ∙ ap (λ xs. prefix ++ xs) close ∙ sym (append_assoc prefix (42 ∷ 47 ∷ []) after)) in
    let head_size = length-take-le n body bound in
    let size : length c ≡ n + 4 = omega (arith, length-append prefix (42 ∷ 47 ∷ [])) in
    subst (λ i. IsHead (47 ∷ 42 ∷ body) (comment_of i (47 ∷ 42 ∷ body))) size
    (splices_sound c after (47 ∷ 42 ∷ body) (block prefix (subst (λ xs. Nowhere begins_close prefix xs) close nowhere)) (omega arith) whole))
    (λ outside.
    let whole_place : n ≡ length body = (let past = ltb-false n (length body) outside in omega arith) in
    let head_is : take n body ≡ body = ap (λ i. take i body) whole_place ∙ take_all (length body) body (omega arith) in
    let back_is : drop n body ≡ [] = drop_all n body (omega arith) in (
      omega arith,
      (
        record {
          body = body;
          whole = refl;
          never_closed = subst (λ xs. Nowhere begins_close body xs) back_is (subst (λ xs. Nowhere begins_close xs (drop n body)) head_is nowhere);
        },
        refl,
      ),
    ))

line_sound : (body : List ℕ) → IsHead (47 ∷ 47 ∷ body) (comment_of (offset_within begins_line_end (length body) body + 2) (47 ∷ 47 ∷ body))
line_sound body =
    let n = offset_within begins_line_end (length body) body in
    let bound = place_fits begins_line_end (length body) body in
    let nowhere = place_nowhere begins_line_end (length body) body (omega arith) in
    let prefix = take n body in
    let after = drop n body in
    let head_size = length-take-le n body bound in
    let size : length (47 ∷ 47 ∷ prefix) ≡ n + 2 = omega arith in
    let ends : (after ≡ []) ⊎ IsTrue (begins_line_end after)
    = ⊎_elim (λ (below : n < length body). inr (place_here begins_line_end (length body) body (omega arith) below)) (λ (past : length body ≤ n). inl (drop_all n body past)) (cases_lt n (length body)) in
    subst (λ i. IsHead (47 ∷ 47 ∷ body) (comment_of i (47 ∷ 47 ∷ body))) size
    (splices_sound (47 ∷ 47 ∷ prefix) after (47 ∷ 47 ∷ body) (line prefix nowhere ends) (omega arith) (ap (λ xs. 47 ∷ 47 ∷ xs) (sym (take-append-drop n body))))

comment_sound : (bytes : List ℕ) → begins_comment bytes ≡ true → IsHead bytes (comment_head bytes)
comment_sound [] e = absurd (false≢true e)
comment_sound (a ∷ []) e = absurd (false≢true ((and_parts (a == 47) _ e).1))
comment_sound (a ∷ s ∷ body) e =
    let both = and_parts (a == 47) (s == 42 || s == 47) e in
    let slash = eqb-true a 47 both.0 in
    subst (λ x. IsHead (x ∷ s ∷ body) (comment_head (x ∷ s ∷ body))) (sym slash)
    (⊎_elim
    (λ star. subst (λ x. IsHead (47 ∷ x ∷ body) (comment_head (47 ∷ x ∷ body))) (sym (eqb-true s 42 star)) (block_sound body))
    (λ again. subst (λ x. IsHead (47 ∷ x ∷ body) (comment_head (47 ∷ x ∷ body))) (sym (eqb-true s 47 again)) (line_sound body))
    (or_cases (s == 42) (s == 47) both.1))

-- **the bytes begin with what the scanner returns**
pub head_sound : (bytes : List ℕ) → 0 < length bytes → IsHead bytes (head_of bytes)
head_sound [] some = absurd (omega arith)
head_sound (b ∷ bs) some = ⊎_elim
    (λ (e : is_blank b ≡ true). subst (IsHead (b ∷ bs)) (sym (head_blank b bs e)) (b, record { after = bs; whole = refl; stands = e; size = refl; some = omega arith }))
    (λ (e : is_blank b ≡ false). ⊎_elim
    (λ (c : begins_comment (b ∷ bs) ≡ true). subst (IsHead (b ∷ bs)) (sym (head_comment b bs e c)) (comment_sound (b ∷ bs) c))
    (λ (c : begins_comment (b ∷ bs) ≡ false). ⊎_elim
    (λ (w : is_nondigit b ≡ true). subst (IsHead (b ∷ bs)) (sym (head_word b bs e c w)) (word_sound b bs c w))
    (λ (w : is_nondigit b ≡ false). ⊎_elim
    (λ (d : is_ascii_digit b ≡ true). subst (IsHead (b ∷ bs)) (sym (head_number b bs e c w d)) (number_sound b bs _ c d refl))
    (λ (d : is_ascii_digit b ≡ false). subst (IsHead (b ∷ bs)) (sym (head_mark b bs e c w d)) (mark_sound b bs _ e c w d refl))
    (cases_Bool (is_ascii_digit b)))
    (cases_Bool (is_nondigit b)))
    (cases_Bool (begins_comment (b ∷ bs))))
    (cases_Bool (is_blank b))
