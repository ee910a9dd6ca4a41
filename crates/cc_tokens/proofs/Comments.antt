-- Comments at the beginning of the bytes: the scanner's two searches find the one comment that begins there, and the first line
-- splice in it.
use Rattle.std.proofs.Common.{◌≡◌, ℕ, ◌+◌, ◌<◌, ◌⊎◌, true, ◌==◌, List, [], ◌∷◌, ◌++◌, length, get_or, drop, refl, sym, ap, ◌∙◌, arith, ⊎_elim, append_assoc, length-append}
use Rattle.std.specs.Prelude.{IsTrue}
use Rattle.std.proofs.lemmas.Bool.{cond-true, cond-false, false≢true, and_parts, eqb-true, lt-ltb, le-ltb}
use Rattle.std.proofs.lemmas.List.{append-nil}
use Rattle.cc_tokens.specs.declared.lexical_error.LexicalError.TheVariants.{BadByte, UnclosedComment}
use Rattle.cc_tokens.specs.declared.scan.Head.TheVariants as head
use Rattle.cc_tokens.specs.Tokens.{begins_close, begins_line_end, begins_splice, Nowhere, IsComment, block, line}
use Rattle.cc_tokens.specs.internal.Scan.{offset_within, comment_of, comment_head, block_comment, spliced}
use Rattle.cc_tokens.proofs.Runs.{place_is, place_none_before}

-- if the bytes begin with `*/`, they are `*/` and the rest
pub close_shape : (xs : List ℕ) → begins_close xs ≡ true → xs ≡ 42 ∷ 47 ∷ drop 2 xs
close_shape [] here = absurd (false≢true here)
close_shape (a ∷ []) here = absurd (false≢true ((and_parts (a == 42) _ here).1))
close_shape (a ∷ b ∷ xs) here =
    let both = and_parts (a == 42) (b == 47) here in
    let first = eqb-true a 42 both.0 in
    let second = eqb-true b 47 both.1 in
    cc

-- a line's end is a byte of the text
line_end_fits : (xs : List ℕ) → begins_line_end xs ≡ true → 0 < length xs
line_end_fits [] here = absurd (false≢true here)
line_end_fits (a ∷ xs) here = omega arith

-- **what the scanner returns for a comment depends on the comment's length**
block_is_found : (body after : List ℕ) → Nowhere begins_close body (42 ∷ 47 ∷ after) → (bytes : List ℕ) → bytes ≡ (47 ∷ 42 ∷ body ++ (42 ∷ 47 ∷ [])) ++ after → comment_head bytes ≡ comment_of (length (47 ∷ 42 ∷ body ++ (42 ∷ 47 ∷ []))) bytes
block_is_found body after none bytes whole =
    let rest : drop 2 bytes ≡ body ++ (42 ∷ 47 ∷ after) = ap (drop 2) whole ∙ append_assoc body (42 ∷ 47 ∷ []) after in
    let size = ap length rest ∙ length-append body (42 ∷ 47 ∷ after) in
    let below : length body < length (drop 2 bytes) = omega arith in
    let place : offset_within begins_close (length (drop 2 bytes)) (drop 2 bytes) ≡ length body
    = ap (offset_within begins_close (length (drop 2 bytes))) rest ∙ place_is begins_close body (42 ∷ 47 ∷ after) (length (drop 2 bytes)) (omega arith) none below refl in
    let comment : length body + 4 ≡ length (47 ∷ 42 ∷ body ++ (42 ∷ 47 ∷ [])) = omega (arith, length-append body (42 ∷ 47 ∷ [])) in
    cond-true _ _ _ (ap (λ bs. get_or bs 1 0 == 42) whole)
    ∙ ap (λ n. block_comment n bytes) place
    ∙ cond-true _ _ _ (lt-ltb _ _ below)
    ∙ ap (λ n. comment_of n bytes) comment

line_is_found : (body after : List ℕ) → Nowhere begins_line_end body after → (after ≡ []) ⊎ IsTrue (begins_line_end after) → (bytes : List ℕ) → bytes ≡ (47 ∷ 47 ∷ body) ++ after → comment_head bytes ≡ comment_of (length (47 ∷ 47 ∷ body)) bytes
line_is_found body after none ends bytes whole =
    let rest : drop 2 bytes ≡ body ++ after = ap (drop 2) whole in
    let size = ap length rest ∙ length-append body after in
    let place : offset_within begins_line_end (length (drop 2 bytes)) (drop 2 bytes) ≡ length body
    = ap (offset_within begins_line_end (length (drop 2 bytes))) rest
    ∙ ⊎_elim
    (λ (empty : after ≡ []). let same : length (drop 2 bytes) ≡ length body = omega (arith, ap length empty) in ap (λ n. offset_within begins_line_end n (body ++ after)) same ∙ place_none_before begins_line_end body after none)
    (λ (here : begins_line_end after ≡ true). let some = line_end_fits after here in place_is begins_line_end body after (length (drop 2 bytes)) (omega arith) none (omega arith) here)
    ends in
    let comment : length body + 2 ≡ length (47 ∷ 47 ∷ body) = omega arith in
    cond-false _ _ _ (ap (λ bs. get_or bs 1 0 == 42) whole)
    ∙ ap (λ n. comment_of (n + 2) bytes) place
    ∙ ap (λ n. comment_of n bytes) comment

pub comment_is_found : (c after bytes : List ℕ) → IsComment c after → bytes ≡ c ++ after → comment_head bytes ≡ comment_of (length c) bytes
comment_is_found _ after bytes (block body none) whole = block_is_found body after none bytes whole
comment_is_found _ after bytes (line body none ends) whole = line_is_found body after none ends bytes whole

-- if no `*/` follows, the scanner finds that the comment is unclosed
pub unclosed_is_found : (body : List ℕ) → Nowhere begins_close body [] → comment_head (47 ∷ 42 ∷ body) ≡ head.Error UnclosedComment 0
unclosed_is_found body none =
    let place : offset_within begins_close (length body) body ≡ length body = ap (offset_within begins_close (length body)) (sym (append-nil body)) ∙ place_none_before begins_close body [] none in
    ap (λ n. block_comment n (47 ∷ 42 ∷ body)) place ∙ cond-false _ _ _ (le-ltb (length body) (length body) (omega arith))

-- the scanner finds a comment without a line splice, and the first line splice in any other comment
pub plain_is_found : (c after : List ℕ) → Nowhere begins_splice c after → comment_of (length c) (c ++ after) ≡ head.Comment (length c)
plain_is_found c after none =
    ap (spliced (length c)) (place_none_before begins_splice c after none) ∙ cond-false _ _ _ (le-ltb (length c) (length c) (omega arith))

pub splice_is_found : (before back after : List ℕ) → Nowhere begins_splice before (back ++ after) → 0 < length back → begins_splice (back ++ after) ≡ true → comment_of (length (before ++ back)) ((before ++ back) ++ after) ≡ head.Error BadByte (length before)
splice_is_found before back after none some here =
    let size = length-append before back in
    let more = length-append back after in
    let below : length before < length (before ++ back) = omega arith in
    ap (spliced (length (before ++ back))) (ap (offset_within begins_splice (length (before ++ back))) (append_assoc before back after) ∙ place_is begins_splice before (back ++ after) (length (before ++ back)) (omega arith) none below here)
    ∙ cond-true _ _ _ (lt-ltb _ _ below)
