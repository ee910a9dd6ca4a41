-- The lines of a text, and what they carry.
use Rattle.std.proofs.Common.{◌≡◌, ℕ, Bool, true, false, List, [], ◌∷◌, ◌++◌, ◌==◌, Option, Some, None, refl, sym, ap, ◌∙◌, append_assoc, if◌then◌else◌}
use Rattle.std.specs.Option.{option_or, option_map}
use Rattle.cc_translate.specs.Carried.{marked, after_mark, before, lines, both, carried_by, carried}

-- ---- the mark of a line

-- a byte at which no mark begins
pub after_skipped : (bytes : List ℕ) (b : ℕ) (rest : List ℕ) → bytes ≡ b ∷ rest → marked bytes ≡ None → after_mark rest ≡ after_mark bytes
after_skipped bytes b rest e h =
    sym (ap (λ (z : List ℕ). after_mark z) e ∙ ap (λ (o : Option (List ℕ)). option_or o (after_mark rest)) (sym (ap (λ (z : List ℕ). marked z) e) ∙ h))

-- ---- lines

before_before : (xs ys : List ℕ) (ls : List (List ℕ)) → before xs (before ys ls) ≡ before (xs ++ ys) ls
before_before xs ys [] = refl
before_before xs ys (l ∷ ls) = ap (λ (z : List ℕ). z ∷ ls) (sym (append_assoc xs ys l))

-- before the first line there is nothing
pub lines_begin : (text : List ℕ) → lines text ≡ before [] (lines text)
lines_begin [] = refl
lines_begin (b ∷ rest) =
    elim (b == 10) as (λ (v : Bool). (if v then [] ∷ lines rest else before (b ∷ []) (lines rest)) ≡ before [] (if v then [] ∷ lines rest else before (b ∷ []) (lines rest))) [
      | true ↦ refl
      | false ↦ sym (before_before [] (b ∷ []) (lines rest))
    ]

-- ---- what lines carry

-- there are lines
pub data HasLines (ls : List (List ℕ)) : Type 0 where
  has : (l : List ℕ) (rest : List (List ℕ)) → ls ≡ l ∷ rest → HasLines ls

before_has : (xs : List ℕ) (ls : List (List ℕ)) → HasLines (before xs ls)
before_has xs [] = has xs [] refl
before_has xs (l ∷ rest) = has (xs ++ l) rest refl

lines_have : (text : List ℕ) → HasLines (lines text)
lines_have [] = has [] [] refl
lines_have (b ∷ rest) =
    elim (b == 10) as (λ (v : Bool). HasLines (if v then [] ∷ lines rest else before (b ∷ []) (lines rest))) [
      | true ↦ has [] (lines rest) refl
      | false ↦ before_has (b ∷ []) (lines rest)
    ]

carried_before : (line : List ℕ) (ls : List (List ℕ)) → HasLines ls → carried_by (line ∷ ls) ≡ both (after_mark line) (carried_by ls)
carried_before line ls (has l rest e) =
    ap (λ (z : List (List ℕ)). carried_by (line ∷ z)) e ∙ ap (λ (z : List (List ℕ)). both (after_mark line) (carried_by z)) (sym e)

carried_more : (text line rest : List ℕ) → lines text ≡ line ∷ lines rest → carried text ≡ both (after_mark line) (carried rest)
carried_more text line rest e = ap (λ (ls : List (List ℕ)). carried_by ls) e ∙ carried_before line (lines rest) (lines_have rest)

-- what has been found, and what is still to come
abbrev pub prefixed : List ℕ → Option (List ℕ) → Option (List ℕ)
prefixed found o = option_map (λ (w : List ℕ). found ++ w) o

prefixed_both : (found line : List ℕ) (o : Option (List ℕ)) → prefixed found (both (Some line) o) ≡ prefixed ((found ++ line) ++ 10 ∷ []) o
prefixed_both found line None = refl
prefixed_both found line (Some rest) = ap (λ (z : List ℕ). Some z) (sym (append_assoc (found ++ line) (10 ∷ []) rest ∙ append_assoc found line (10 ∷ rest)))

-- another line follows
pub goes_on : (found text rest line w next : List ℕ) → prefixed found (carried rest) ≡ carried text → lines rest ≡ line ∷ lines next → Some w ≡ after_mark line
    → prefixed ((found ++ w) ++ 10 ∷ []) (carried next) ≡ carried text
goes_on found text rest line w next inv e h =
    sym (ap (λ (o : Option (List ℕ)). prefixed found o) (carried_more rest line next e ∙ ap (λ (o : Option (List ℕ)). both o (carried next)) (sym h)) ∙ prefixed_both found w (carried next)) ∙ inv
