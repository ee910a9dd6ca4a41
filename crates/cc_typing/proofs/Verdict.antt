-- What is found in a whole unit decides whether it is typed.
use Rattle.std.proofs.Common.{◌≡◌, inl, inr, true, false, List, [], ◌∷◌, ◌++◌, length, Option, Some, None, refl, sym, ap, ◌∙◌}
use Rattle.cc_ast.specs.Tree.{Source, External}
use Rattle.cc_tokens.specs.Place.{place_of}
use Rattle.cc_types.specs.Checked.{IsChecked}
use Rattle.cc_typing.specs.internal.Counts.{all_defined}
use Rattle.cc_types.specs.Fault.{fault_of}
use Rattle.cc_scope.specs.Bindings.{file_level, file_with}
use Rattle.cc_typing.specs.internal.Findings.{Found, noted, nothing_found}
use Rattle.cc_typing.specs.internal.Functions.{Functions}
use Rattle.cc_types.specs.Limits.{excesses}
use Rattle.cc_types.specs.Rules.{errors, defines_main, undefined_among, undefined_calls, called, externals_errors}
use Rattle.cc_types.specs.Scope.{Visible, FileScope, first_file_scope, file_scope_behind, file_scope_behind_all}
use Rattle.cc_types.specs.Typed.{IsTypeRefusal, all_errors}
use Rattle.cc_types.specs.declared.fault.TypeFault.{TypeFault}
use Rattle.cc_types.specs.declared.fault.TypeFault.TheVariants.{NoMain}
use Rattle.cc_types.specs.declared.rule.RuleError.{RuleError}
use Rattle.cc_typing.proofs.First.{IsFirst-noted, noted-none}
use Rattle.cc_typing.proofs.FileScopes.{defined-behind}
use Rattle.cc_typing.proofs.Parts.{noted-append}

-- if two lists together are empty, each of them is empty
pub both_empty : {A : Type 0} (xs ys : List A) → xs ++ ys ≡ [] → (xs ≡ []) × (ys ≡ [])
both_empty [] ys e = (refl, e)
both_empty (x ∷ xs) ys e = absurd (let c : ⊥ = cc in c)

module _ (s : Source) where
  pub refused-first : (o : RuleError) (fault : TypeFault) → noted None (all_errors s.externals) ≡ Some o → fault ≡ fault_of o.rule (place_of s.text o.at) → IsTypeRefusal s fault
  refused-first o fault e at = inl (o, IsFirst-noted (all_errors s.externals) o e, at)

  pub refused-main : (fault : TypeFault) → noted None (all_errors s.externals) ≡ None → defines_main s.externals ≡ false → fault ≡ NoMain (place_of s.text (length s.text)) → IsTypeRefusal s fault
  refused-main fault e m at = inr (inl (noted-none (all_errors s.externals) e, m, at))

  pub refused-call : (o : RuleError) (fault : TypeFault) → noted None (all_errors s.externals) ≡ None → defines_main s.externals ≡ true → noted None (undefined_calls s.externals) ≡ Some o
      → fault ≡ fault_of o.rule (place_of s.text o.at) → IsTypeRefusal s fault
  refused-call o fault e m u at = inr (inr (noted-none (all_errors s.externals) e, m, (o, IsFirst-noted (undefined_calls s.externals) o u, at)))

  pub checked : noted None (all_errors s.externals) ≡ None → defines_main s.externals ≡ true → noted None (undefined_calls s.externals) ≡ None → IsChecked s
  checked e m u =
      let empty = both_empty (errors s.externals) (excesses s.externals) (noted-none (all_errors s.externals) e) in
      record { typed = (empty.0, m, noted-none (undefined_calls s.externals) u); limits = empty.1 }

-- ---- the functions that are defined

pub all-defined-behind : (es : List External) (f : FileScope) → (file_scope_behind_all es f).defined ≡ all_defined es f.defined
all-defined-behind [] f = refl
all-defined-behind (e ∷ es) f = all-defined-behind es (file_scope_behind e f) ∙ ap (all_defined es) (defined-behind e f)

-- ---- what the walk over a whole unit finds

module _ (es : List External) (v : Visible) (functions : Functions) (f : Found) (start : v ≡ file_level first_file_scope.bindings) (fresh : f ≡ nothing_found functions)
    (known : functions ≡ record { defined = all_defined es first_file_scope.defined; before = first_file_scope.defined }) where
  pub first-are : (r : Option RuleError) → r ≡ noted f.first (externals_errors es (file_with v f.functions.before)) → noted r (excesses es) ≡ noted None (all_errors es)
  first-are r walked =
      ap (λ k. noted k (excesses es)) walked
      ∙ ap (λ (k : Found). noted (noted k.first (externals_errors es (file_with v k.functions.before))) (excesses es)) fresh
      ∙ ap (λ (u : Visible). noted (noted None (externals_errors es (file_with u functions.before))) (excesses es)) start
      ∙ ap (λ (k : Functions). noted (noted None (externals_errors es (file_with (file_level first_file_scope.bindings) k.before))) (excesses es)) known
      ∙ noted-append None (errors es) (excesses es)

  pub undefined-are : (r : Option RuleError) → r ≡ noted f.undefined (undefined_among f.functions.defined (called es)) → r ≡ noted None (undefined_calls es)
  undefined-are r walked =
      walked ∙ ap (λ (k : Found). noted k.undefined (undefined_among k.functions.defined (called es))) fresh
      ∙ ap (λ (k : Functions). noted None (undefined_among k.defined (called es))) known
      ∙ ap (λ d. noted None (undefined_among d (called es))) (sym (all-defined-behind es first_file_scope))
