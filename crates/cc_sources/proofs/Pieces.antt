-- What is read from a reader, piece by piece.
use Rattle.std.proofs.Common.{◌≡◌, ◌∙◌, ◌≤◌, ◌<◌, ℕ, List, [], ◌++◌, length, take, Option, Some, None, refl, sym, ap, subst, arith, append-nil, take_all}
use Rattle.std.proofs.KnownBytes.{Consumes-trans}
use Rattle.std.specs.Io.KnownBytes.{Consumes, IsAtEnd}
use lib.Seq.{take-append_seam}
use Rattle.std.specs.Prelude.{IfSome}

-- if as many bytes were read as may be read, they are the reader's text
pub read_full : (most : ℕ) (a b : Option (List ℕ)) (text : List ℕ) → Consumes a b text → length text ≡ most → IfSome a (λ all. text ≡ take most all)
read_full most None b text one full = tt
read_full most (Some x) None text one full = absurd one
read_full most (Some x) (Some y) text one full = sym (ap (take most) one ∙ (ap (λ (n : ℕ). take n (text ++ y)) (sym full) ∙ take-append_seam text y))

-- if all bytes of the reader were read, and they are not too many, they are the reader's text
pub read_whole : (most : ℕ) (a b : Option (List ℕ)) (text : List ℕ) → Consumes a b text → IsAtEnd b → length text ≤ most → IfSome a (λ all. text ≡ take most all)
read_whole most None b text one over few = tt
read_whole most (Some x) None text one over few = absurd one
read_whole most (Some x) (Some y) text one over few =
    let all : x ≡ text = one ∙ (ap (λ (l : List ℕ). text ++ l) over ∙ append-nil text) in
    sym (ap (take most) all ∙ take_all most text few)

-- if a text was read, and then no more bytes, then just that text was read
pub at_end : (a b c : Option (List ℕ)) (text : List ℕ) → Consumes a b text → Consumes b c [] → Consumes a c text
at_end a b c text one none = subst (λ (l : List ℕ). Consumes a c l) (append-nil text) (Consumes-trans a b c text [] one none)
