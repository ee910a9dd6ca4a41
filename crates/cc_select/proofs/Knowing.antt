-- Known words, as the code keeps them: a set of registers and a word for each.
use Rattle.std.proofs.Common.{◌≡◌, ℕ, ◌<◌, List, length, get_or, set, refl, sym, ap, ◌∙◌, Bool, true, false, ◌==◌, ◌&&◌, ◌||◌, not, if◌then◌else◌, Option, Some, None, inl, inr}
use Rattle.std.proofs.Math.Path.{fun_ext}
use Rattle.std.proofs.lemmas.List.{get_or-set_same, get_or-set_other}
use Rattle.std.proofs.lemmas.Bool.Decides.{eqb_tells}
use Rattle.cc_simulation.specs.Unknown.{survives}
use Rattle.cc_select.specs.declared.registers.Registers as bits
use Rattle.cc_select.specs.declared.known.Known as found
use Rattle.cc_select.specs.Live.{nothing, with, without}
use Rattle.cc_select.specs.Known.{unknown, forget, learn}
use Rattle.cc_select.specs.internal.Sets.{holds, surviving, known_in, kept_by_call}

abbrev made : (some : bits.Registers) → (words : List ℕ) → found.Known
made s words = record { some = s; words = words }

-- ---- what is known

pub none_known : (s : bits.Registers) (words : List ℕ) → holds s ≡ nothing → known_in (made s words) ≡ unknown
none_known s words e = fun_ext (λ r. ap (λ (b : Bool). if b then Some (get_or words r 0) else None) (ap (λ f. f r) e))

pub one_forgotten : (s s' : bits.Registers) (words : List ℕ) (a : ℕ) → holds s' ≡ without a (holds s) → known_in (made s' words) ≡ forget a (known_in (made s words))
one_forgotten s s' words a e = fun_ext (λ r. ap (λ (b : Bool). if b then Some (get_or words r 0) else None) (ap (λ f. f r) e) ∙ here (a == r) (holds s r) (Some (get_or words r 0)))
  where
    here : (b h : Bool) (x : Option ℕ) → (if not b && h then x else None) ≡ (if b then None else (if h then x else None))
    here true h x = refl
    here false h x = refl

pub one_learnt : (s s' : bits.Registers) (words : List ℕ) (a w : ℕ) → a < length words → holds s' ≡ with a (holds s) → known_in (made s' (set words a w)) ≡ learn a w (known_in (made s words))
one_learnt s s' words a w lt e = fun_ext (λ r. ap (λ (b : Bool). if b then Some (get_or (set words a w) r 0) else None) (ap (λ f. f r) e) ∙ at r)
  where
    at : (r : ℕ) → (if (a == r) || holds s r then Some (get_or (set words a w) r 0) else None) ≡ (if a == r then Some w else (if holds s r then Some (get_or words r 0) else None))
    at r = elim (eqb_tells a r) [
      | inl q ↦
          ap (λ (b : Bool). if b || holds s r then Some (get_or (set words a w) r 0) else None) q.0
          ∙ ap (λ i. Some (get_or (set words a w) i 0)) (sym q.1)
          ∙ ap (λ n. Some n) (get_or-set_same words a w 0 lt)
          ∙ sym (ap (λ (b : Bool). if b then Some w else (if holds s r then Some (get_or words r 0) else None)) q.0)
      | inr q ↦
          ap (λ (b : Bool). if b || holds s r then Some (get_or (set words a w) r 0) else None) q.0
          ∙ ap (λ n. if holds s r then Some n else None) (get_or-set_other words a r w 0 (λ d. q.1 (sym d)))
          ∙ sym (ap (λ (b : Bool). if b then Some w else (if holds s r then Some (get_or words r 0) else None)) q.0)
    ]

pub some_survive : (s s' : bits.Registers) (words : List ℕ) → holds s' ≡ surviving (holds s) → known_in (made s' words) ≡ kept_by_call (known_in (made s words))
some_survive s s' words e = fun_ext (λ r. ap (λ (b : Bool). if b then Some (get_or words r 0) else None) (ap (λ f. f r) e) ∙ here (survives r) (holds s r) (Some (get_or words r 0)))
  where
    here : (b h : Bool) (x : Option ℕ) → (if b && h then x else None) ≡ (if b then (if h then x else None) else None)
    here true h x = refl
    here false h x = refl
