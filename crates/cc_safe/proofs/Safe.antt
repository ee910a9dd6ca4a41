-- What follows if no function needs a guard and there is no cycle.
use Rattle.std.proofs.Common.{◌≡◌, ℕ, List, [], refl, subst, Contains, inl, inr, arith}
use Rattle.std.proofs.Math.Logic.{∥∥₁_elim}
use Rattle.cc_ast.specs.Tree.{External, Source}
use Rattle.cc_ast.specs.Parse.{SpellsText}
use Rattle.cc_types.specs.Typed.{IsTyped}
use Rattle.cc_types.specs.Limits.{objects}
use Rattle.cc_c_semantics.specs.Outcome.{Wrong}
use Rattle.cc_c_semantics.specs.Meaning.{initial_globals, source_behavior}
use Rattle.cc_c_semantics.specs.Calls.{first_shared}
use Rattle.cc_c_semantics.specs.Numbered.{objects_in, objects_of, world_of}
use Rattle.cc_c_semantics.specs.declared.cause.Cause.{Cause}
use Rattle.cc_simulation.specs.Behavior.{AreWords}
use Rattle.cc_simulation.specs.World.{IsWorld}
use Rattle.cc_depth.specs.Cycles.{HasNoCycle}
use Rattle.cc_depth.specs.Laws.{AcyclicProgramsAreNeverDeep}
use Rattle.cc_guard.specs.Safe.{NoneNeedsGuard, OnlyDepthIsLeft}
use Rattle.cc_link.proofs.Constants.{constants_are_kept}
use Rattle.cc_link.proofs.Laying.{kept_are_words, object_in}
use Rattle.cc_link.proofs.Sizes.{kept_at}
use Rattle.cc_safe.specs.Safe.{IsSafe, AreGuarded}

-- if none of a unit's functions needs a guard, each has code that needs none
pub none_is_guarded : (unit : List External) (numbers : List ℕ) → AreGuarded unit numbers → numbers ≡ [] → NoneNeedsGuard unit
none_is_guarded unit numbers are empty f below =
    elim (are.others f below) [
      | inl has ↦ (let in_none = subst (λ (l : List ℕ). Contains l f) empty has in let lt = in_none.1 in absurd (omega (arith, lt)))
      | inr none ↦ none
    ]

-- what the functions share before the run is a world of words
first_world : (s : Source) → SpellsText s.text s.externals → (input : List ℕ) → AreWords input → IsWorld (objects_in s.externals) (world_of (first_shared s.externals input))
first_world s spelled input words =
    let initial = objects_of (initial_globals s.externals) in record {
      sizes = refl;
      globals = λ g. kept_are_words (object_in initial g).width (object_in initial g).words (kept_at (objects s.externals) (constants_are_kept s.text s.externals spelled) g);
      input = words;
    }

pub never_wrong : OnlyDepthIsLeft → AcyclicProgramsAreNeverDeep → (s : Source) → ∥ SpellsText s.text s.externals ∥₁ → IsTyped s.externals → NoneNeedsGuard s.externals → HasNoCycle s.externals → IsSafe s
never_wrong only never s spelled typed none acyclic input words n cause e =
    let nothing : IsProp ⊥ = hlevel in
    ∥∥₁_elim spelled nothing (λ (h : SpellsText s.text s.externals).
    let deep = only s typed none input (first_world s h input words) n cause e in
    never s acyclic input n (subst (λ (c : Cause). (source_behavior s input n).stop ≡ Wrong c) deep e))
