-- One more defined name.
use Rattle.std.proofs.Common.{◌≡◌, ℕ, List, [], ◌∷◌, ◌++◌, map, ap, ◌∙◌}
use Rattle.std.proofs.lemmas.List.{map-append}
use Rattle.cc_wide_text.specs.declared.macros.Macro.{Macro}
use Rattle.cc_wide_text.specs.Macros.{Meaning}
use Rattle.cc_wide_text.specs.internal.Views.{meaning}

pub more_meanings : (all ms : List Macro) (m : Macro) (name body : List ℕ) → all ≡ ms ++ m ∷ [] → m.name.items ≡ name → m.body.items ≡ body
    → map meaning all ≡ map meaning ms ++ record { name = name; body = body } ∷ []
more_meanings all ms m name body e n b =
    ap (λ (l : List Macro). map meaning l) e
    ∙ map-append meaning ms (m ∷ [])
    ∙ ap (λ (x : List ℕ). let one : Meaning = record { name = x; body = m.body.items } in map meaning ms ++ one ∷ []) n
    ∙ ap (λ (x : List ℕ). let one : Meaning = record { name = name; body = x } in map meaning ms ++ one ∷ []) b
