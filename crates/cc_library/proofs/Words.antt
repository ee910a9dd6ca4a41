-- Reading words one after the other, as a loop does: the words read so far come before those still to be
-- read.
use Rattle.std.proofs.Common.{◌≡◌, ℕ, zero, suc, ◌-◌, ◌+◌, ◌*◌, ◌≤◌, ◌<◌, Bool, true, false, cond, ltb, List, [], ◌∷◌, ◌++◌, length, get_or, take, drop, slice_set, Option, Some, None, refl, sym, ap, ◌∙◌, append_assoc, arith}
use Rattle.std.specs.Int.{w32, from_le_bytes}
use Rattle.std.proofs.lemmas.Bool.{ltb-true, ltb-false, le-ltb}
use Rattle.std.proofs.lemmas.Option.{none-some}
use Rattle.std.proofs.lemmas.List.{append-nil, length-drop, get_or-drop, drop-drop, take_more_set}
use Rattle.cc_library.specs.declared.reading.ReadFault.{ReadFault}
use Rattle.cc_library.specs.declared.reading.ReadFault.TheVariants.{NoCommand, OutOfMemory}
use Rattle.cc_library.specs.internal.Reading.{◌>>=◌, taken, number_in, words_in}
use Rattle.cc_library.specs.Answers.{Gives}
use Rattle.std.specs.Prelude.{Err}

-- the words read so far, put before those still to be read
abbrev pub with_prefix : List ℕ → Option (List ℕ × List ℕ) → Option (List ℕ × List ℕ)
with_prefix prefix read = read >>= λ x. Some (prefix ++ x.0, x.1)

regroup : (prefix : List ℕ) (n : ℕ) (read : Option (List ℕ × List ℕ)) → with_prefix prefix (read >>= λ x. Some (n ∷ x.0, x.1)) ≡ with_prefix (prefix ++ n ∷ []) read
regroup prefix n (Some x) = ap (λ (ns : List ℕ). Some (ns, x.1)) (simp append_assoc)
regroup prefix n None = refl

pub goes_on : (prefix : List ℕ) (count i : ℕ) (bytes : List ℕ) (n : ℕ) (after : List ℕ) (total : Option (List ℕ × List ℕ)) → i < count → number_in bytes ≡ Some (n, after)
    → with_prefix prefix (words_in (count - i) bytes) ≡ total → with_prefix (prefix ++ n ∷ []) (words_in (count - (i + 1)) after) ≡ total
unfolding words_in
goes_on prefix count i bytes n after total lt h so_far =
    let k : count - i ≡ suc (count - (i + 1)) = omega arith in
    let one : with_prefix prefix (words_in (count - i) bytes) ≡ with_prefix (prefix ++ n ∷ []) (words_in (count - (i + 1)) after) = rw (k, h) (regroup prefix n (words_in (count - (i + 1)) after)) in
    sym one ∙ so_far

pub is_done : (prefix : List ℕ) (count i : ℕ) (bytes : List ℕ) (total : Option (List ℕ × List ℕ)) → count ≤ i → with_prefix prefix (words_in (count - i) bytes) ≡ total → total ≡ Some (prefix, bytes)
unfolding words_in
is_done prefix count i bytes total le so_far =
    let k : count - i ≡ 0 = omega arith in
    let one : with_prefix prefix (words_in (count - i) bytes) ≡ Some (prefix, bytes) = rw k (ap (λ (ns : List ℕ). Some (ns, bytes)) (append-nil prefix)) in
    sym so_far ∙ one

-- ---- words in a separate buffer

-- a number is read from its four bytes
number_prefix : (bytes : List ℕ) → 4 ≤ length bytes → number_in bytes ≡ Some (from_le_bytes w32 (get_or bytes 0 0 ∷ get_or bytes 1 0 ∷ get_or bytes 2 0 ∷ get_or bytes 3 0 ∷ []), drop 4 bytes)
number_prefix [] long = absurd (omega (arith, long))
number_prefix (a ∷ []) long = absurd (omega (arith, long))
number_prefix (a ∷ b ∷ []) long = absurd (omega (arith, long))
number_prefix (a ∷ b ∷ c ∷ []) long = absurd (omega (arith, long))
number_prefix (a ∷ b ∷ c ∷ d ∷ bytes) long = rw (le-ltb (length (a ∷ b ∷ c ∷ d ∷ bytes)) 4 (omega (arith, long))) refl

-- if there are too few bytes, no words are read
none_in_few : (n : ℕ) (bytes : List ℕ) (short : Bool) → short ≡ ltb (length bytes) 4 → length bytes < 4 * suc n → (length (drop 4 bytes) < 4 * n → words_in n (drop 4 bytes) ≡ None) → words_in (suc n) bytes ≡ None
unfolding words_in
none_in_few n bytes true e few later = rw (sym e) refl
none_in_few n bytes false e few later =
    let long : 4 ≤ length bytes = ltb-false _ _ (sym e) in
    rw (sym e, later (omega (arith, few, long, length-drop 4 bytes))) refl

pub too_few : (n : ℕ) (bytes : List ℕ) → length bytes < 4 * n → words_in n bytes ≡ None
too_few zero bytes few = absurd (omega (arith, few))
too_few (suc n) bytes few = none_in_few n bytes (ltb (length bytes) 4) refl few (λ fewer. too_few n (drop 4 bytes) fewer)

-- if word `i` is set to the next four bytes, the words read and those still to be read are together the same
-- as before
pub sets_on : (words bytes : List ℕ) (n i word : ℕ) (total : Option (List ℕ × List ℕ)) → i < n → i < length words → 4 * n ≤ length bytes
    → word ≡ from_le_bytes w32 (get_or bytes (4 * i) 0 ∷ get_or bytes (4 * i + 1) 0 ∷ get_or bytes (4 * i + 2) 0 ∷ get_or bytes (4 * i + 3) 0 ∷ [])
    → with_prefix (take i words) (words_in (n - i) (drop (4 * i) bytes)) ≡ total → with_prefix (take (i + 1) (slice_set words i word)) (words_in (n - (i + 1)) (drop (4 * (i + 1)) bytes)) ≡ total
sets_on words bytes n i word total lt within long is so_far =
    let prefix = drop (4 * i) bytes in
    let some : 4 ≤ length prefix = omega (arith, long, lt, length-drop (4 * i) bytes) in
    let at = λ (k : ℕ). get_or-drop (4 * i) bytes k 0 in
    let first : get_or prefix 0 0 ≡ get_or bytes (4 * i) 0 = at 0 ∙ ap (λ (k : ℕ). get_or bytes k 0) (omega arith) in
    let rest : drop 4 prefix ≡ drop (4 * (i + 1)) bytes = drop-drop 4 (4 * i) bytes ∙ ap (λ (k : ℕ). drop k bytes) (omega arith) in
    let found : number_in prefix ≡ Some (word, drop (4 * (i + 1)) bytes) =
    number_prefix prefix some ∙ (λ j. Some (from_le_bytes w32 (first j ∷ at 1 j ∷ at 2 j ∷ at 3 j ∷ []), rest j)) ∙ ap (λ (w : ℕ). Some (w, drop (4 * (i + 1)) bytes)) (sym is) in
    ap (λ (ws : List ℕ). with_prefix ws (words_in (n - (i + 1)) (drop (4 * (i + 1)) bytes))) (take_more_set words i word within)
    ∙ goes_on (take i words) n i prefix word (drop (4 * (i + 1)) bytes) total lt found so_far

-- if taking `4 * n` bytes fails, reading `n` words fails
refused : (n : ℕ) (bytes : List ℕ) (short : Bool) → short ≡ ltb (length bytes) (4 * n) → cond {A = Option (List ℕ × List ℕ)} short None (Some (take (4 * n) bytes, drop (4 * n) bytes)) ≡ None → words_in n bytes ≡ None
refused n bytes true e none = too_few n bytes (ltb-true _ _ (sym e))
refused n bytes false e none = let found : List ℕ × List ℕ = (take (4 * n) bytes, drop (4 * n) bytes) in absurd (none-some found (sym none))

pub not_enough : (e : ReadFault) (n : ℕ) (bytes : List ℕ) → Gives {X = ℕ} {Y = List ℕ × List ℕ} (λ x. ([], [])) (Err e) (taken (4 * n) bytes) → Gives {X = ℕ} {Y = List ℕ × List ℕ} (λ x. ([], [])) (Err e) (words_in n bytes)
not_enough OutOfMemory n bytes given = tt
not_enough NoCommand n bytes given = refused n bytes (ltb (length bytes) (4 * n)) refl given
