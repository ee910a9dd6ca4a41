-- Texts that are names, and why nothing is selected.
use Rattle.std.proofs.Common.{◌≡◌, ◌∙◌, ℕ, ◌+◌, ◌<◌, Bool, false, IsTrue, List, [], ◌∷◌, ◌++◌, length, map, take, get_or, refl, sym, ap, subst, arith}
use Rattle.std.specs.Prelude.{All}
use Rattle.std.proofs.lemmas.List.{get_or-map, map-append, take_more}
use Rattle.std.proofs.lemmas.List.Elements.{All-push}
use Rattle.cc_library.specs.Apply.{Units}
use Rattle.cc_library.specs.Name.{is_name}
use Rattle.cc_library.specs.Recovered.{Recovers}
use Rattle.cc_tasks.specs.declared.part.PartFault.{PartFault}
use Rattle.cc_tasks.specs.declared.part.PartFault.TheVariants.{BadName, Absent, Library, OutOfMemory}
use Rattle.cc_copy.specs.Selected.{IsNoName, IsNotSelectedIn, IsNotSelectedOn}
use Rattle.cc_copy.specs.internal.Named.{IsNotTaken, IsUnnamed}

module _ {X : Type 0} (f : X → List ℕ) where
  long : (texts : List X) → length (map f texts) ≡ length texts
  long [] = refl
  long (text ∷ texts) = let e = long texts in omega (arith, e)

  -- the names of one more text are the earlier ones followed by its own
  pub names_more : (texts : List X) (i : ℕ) (text : X) → i < length texts → text ≡ get_or texts i text → map f (take (i + 1) texts) ≡ map f (take i texts) ++ f text ∷ []
  names_more texts i text within is =
      let more : take i texts ++ text ∷ [] ≡ take (i + 1) texts = ap (λ x. take i texts ++ x ∷ []) is ∙ sym (take_more texts i text within) in
      sym (ap (map f) more) ∙ map-append f (take i texts) (text ∷ [])

  -- if the texts so far are names, and so is the next one, all of them are names
  pub all_more : (texts : List X) (i : ℕ) (text : X) → i < length texts → text ≡ get_or texts i text → IsTrue (is_name (f text)) → All (λ name. IsTrue (is_name name)) (map f (take i texts))
      → All (λ name. IsTrue (is_name name)) (map f (take (i + 1) texts))
  all_more texts i text within is one all =
      let P : List ℕ → Type 0 = λ name. IsTrue (is_name name) in
      subst (All P) (sym (names_more texts i text within is)) (All-push P (map f (take i texts)) (f text) all one)

  -- if the text at an index is not a name, `IsNoName` holds of that index
  pub no_name : (texts : List X) (i : ℕ) (text : X) → i < length texts → text ≡ get_or texts i text → is_name (f text) ≡ false → IsNoName (map f texts) i
  no_name texts i text within is none =
      let same : get_or (map f texts) i [] ≡ f text = get_or-map f texts i text [] within ∙ ap f (sym is) in
      (subst (λ (n : ℕ). i < n) (sym (long texts)) within, ap is_name same ∙ none)

-- ---- refusals

pub unnamed : (units : Units) (names : List (List ℕ)) (fault : PartFault) → IsUnnamed names fault → IsNotSelectedIn units names fault
unnamed units names BadName why = why
unnamed units names OutOfMemory why = tt
unnamed units names Absent why = absurd why
unnamed units names (Library f) why = absurd why

pub not_taken : (units : Units) (names : List (List ℕ)) (fault : PartFault) → All (λ name. IsTrue (is_name name)) names → IsNotTaken units names fault → IsNotSelectedIn units names fault
not_taken units names Absent all why = (all, why)
not_taken units names OutOfMemory all why = tt
not_taken units names BadName all why = absurd why
not_taken units names (Library f) all why = absurd why

-- a reason why nothing is selected from the map to which the disk recovers is a reason why nothing is
-- selected from the disk
pub not_selected_on : (honest : Bool) (seen : List ℕ) (before after : ℕ) (names : List (List ℕ)) (units : Units) (fault : PartFault) → after ≡ before → (IsTrue honest → Recovers seen units) → IsNotSelectedIn units names fault
    → IsNotSelectedOn honest seen before after names fault
not_selected_on honest seen before after names units BadName same recovers why = (same, λ h. (units, recovers h, why))
not_selected_on honest seen before after names units Absent same recovers why = (same, λ h. (units, recovers h, why))
not_selected_on honest seen before after names units OutOfMemory same recovers why = same
not_selected_on honest seen before after names units (Library f) same recovers why = absurd why
