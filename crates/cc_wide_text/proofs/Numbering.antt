-- The numbers of enumerators, one after another.
use Rattle.std.proofs.Common.{◌≡◌, ℕ, ◌+◌, ◌<◌, List, [], ◌∷◌, ◌++◌, length, get_or, drop, map, sym, ap, ◌∙◌, subst}
use Rattle.std.proofs.lemmas.List.{map-append, drop_more}
use Rattle.cc_tokens.specs.Tokens.{TokensAreOne}
use Rattle.cc_ast.specs.Limits.{TreesAreOne}
use Rattle.cc_wide_text.specs.declared.numbers.Constant.{Constant}
use Rattle.cc_wide_text.specs.declared.numbers.Numbered.{Numbered}
use Rattle.cc_wide_text.specs.internal.Views.{enumerator, number}
use Rattle.cc_wide_text.specs.Numbers.{Enumerator, Number, HasNumber, AreNumbers}
use Rattle.cc_wide_text.proofs.Ones.{one_number}

-- the numbers of all enumerators are those so far, and those of the ones that are left
abbrev pub Splits : (ns : List Number) (left es : List Enumerator) → Type 0
Splits ns left es = (all : List Number) → (AreNumbers ns left all → AreNumbers [] es all) × (AreNumbers [] es all → AreNumbers ns left all)

pub one_more : TokensAreOne → TreesAreOne → (ns ms : List Number) (left rest es : List Enumerator) (e : Enumerator) (w : ℕ) → left ≡ e ∷ rest → ms ≡ ns ++ record { name = e.name; word = w } ∷ []
    → HasNumber ns e w → Splits ns left es → Splits ms rest es
one_more tokens trees ns ms left rest es e w d m h s all =
    let goes : AreNumbers ms rest all → AreNumbers [] es all =
    λ k. (s all).0 (subst (λ (l : List Enumerator). AreNumbers ns l all) (sym d) (w, h, subst (λ (z : List Number). AreNumbers z rest all) m k)) in
    let comes : AreNumbers [] es all → AreNumbers ms rest all =
    λ k. let p = subst (λ (l : List Enumerator). AreNumbers ns l all) d ((s all).1 k) in
    let same : p.0 ≡ w = one_number tokens trees ns e p.0 w p.1 h in
    subst (λ (z : List Number). AreNumbers z rest all) (sym m) (subst (λ (v : ℕ). AreNumbers (ns ++ record { name = e.name; word = v } ∷ []) rest all) same p.2) in
    (goes, comes)

pub none_left : (ns : List Number) (left rest es : List Enumerator) (e : Enumerator) → left ≡ e ∷ rest → ((w : ℕ) → HasNumber ns e w → ⊥) → Splits ns left es → (all : List Number) → AreNumbers [] es all → ⊥
none_left ns left rest es e d never s all k =
    let p = subst (λ (l : List Enumerator). AreNumbers ns l all) d ((s all).1 k) in
    never p.0 p.1

pub more_numbers : (all ns : List Numbered) (n : Numbered) (name : List ℕ) → all ≡ ns ++ n ∷ [] → n.name.items ≡ name → map number all ≡ map number ns ++ record { name = name; word = n.word } ∷ []
more_numbers all ns n name e m =
    ap (λ (l : List Numbered). map number l) e
    ∙ map-append number ns (n ∷ [])
    ∙ ap (λ (x : List ℕ). let one : Number = record { name = x; word = n.word } in map number ns ++ one ∷ []) m

pub next_left : (es : List Constant) (i : ℕ) (e : Constant) → i < length es → e ≡ get_or es i e → map enumerator (drop i es) ≡ enumerator e ∷ map enumerator (drop (i + 1) es)
next_left es i e lt is =
    ap (λ (l : List Constant). map enumerator l) (drop_more es i e lt) ∙ ap (λ (x : Constant). enumerator x ∷ map enumerator (drop (i + 1) es)) (sym is)
