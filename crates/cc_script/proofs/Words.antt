-- A line's words: the first ends at the first space, and a line of more than four words asks for nothing.
use Rattle.std.proofs.Common.{◌≡◌, ◌≢◌, ◌≤◌, ℕ, ◌+◌, ◌<◌, ◌==◌, List, [], ◌∷◌, ◌++◌, length, take, drop, get_or, false, true, refl, sym, subst, arith}
use Rattle.std.specs.Prelude.{All, None}
use Rattle.std.proofs.lemmas.List.{take-append-drop, take_all}
use Rattle.std.proofs.lemmas.List.Splits.{slice_split_at, slice_split_none, length-slice_split}
use Rattle.std.proofs.Math.Seq.{drop-cons}
use Rattle.std.proofs.lemmas.Grind.{common_steps}
use Rattle.cc_script.specs.Line.{words, asked_in, asked_of}
use Rattle.cc_script.specs.declared.command.Dialect.{Dialect}

-- if a byte is 32, the test for a space is true
pub is_space : (byte : ℕ) → byte ≡ 32 → (byte == 32) ≡ true
is_space byte same = search (arith, same)

pub is_no_space : (byte : ℕ) → byte ≢ 32 → (byte == 32) ≡ false
is_no_space byte other = search (arith, other)

-- the line is its first bytes, the byte at an index, and the rest
parts : (line : List ℕ) (i : ℕ) → i < length line → take i line ++ get_or line i 0 ∷ drop (i + 1) line ≡ line
parts line i within = grind (arith, common_steps, take-append-drop i line, drop-cons line i 0 within)

-- if the first space of a line is at `i`, its words are the bytes before it, and the words of what comes
-- after it
pub cut_at : (line : List ℕ) (i rest : ℕ) → i < length line → All (λ b. (b == 32) ≡ false) (take i line) → get_or line i 0 ≡ 32 → length line ≤ rest + (i + 1)
    → words line ≡ take i line ∷ words (take rest (drop (i + 1) line))
cut_at line i rest within none space whole =
    let e = take_all rest (drop (i + 1) line) (grind (arith, common_steps)) in
    rw e
    (subst (λ (l : List ℕ). words l ≡ take i line ∷ words (drop (i + 1) line)) (parts line i within)
    (slice_split_at (λ b. b == 32) (take i line) (get_or line i 0) (drop (i + 1) line) none (is_space (get_or line i 0) space)))

-- a line without a space is one word
pub uncut : (line : List ℕ) (i : ℕ) → length line ≤ i → All (λ b. (b == 32) ≡ false) (take i line) → words line ≡ line ∷ []
uncut line i past none =
    slice_split_none (λ b. b == 32) line (subst (λ (l : List ℕ). All (λ b. (b == 32) ≡ false) l) (take_all i line past) none)

-- a line of more than four words asks for nothing
more : (dialect : Dialect) (verb name first second : List ℕ) (rest : List (List ℕ)) → 0 < length rest → asked_in dialect (verb ∷ name ∷ first ∷ second ∷ rest) ≡ None
more dialect verb name first second [] some = absurd (omega arith)
more dialect verb name first second (one ∷ others) some = refl

-- a line with a space after its fourth word asks for nothing
pub too_many : (dialect : Dialect) (line verb name first fourth behind second third next : List ℕ) → words line ≡ verb ∷ words second → words second ≡ name ∷ words third → words third ≡ first ∷ words next
    → words next ≡ fourth ∷ words behind → None ≡ asked_of dialect line
too_many dialect line verb name first fourth behind second third next one two three four =
    rw (one, two, three, four) (sym (more dialect verb name first fourth (words behind) (let n = length-slice_split (λ (b : ℕ). b == 32) behind in omega (arith, n))))
