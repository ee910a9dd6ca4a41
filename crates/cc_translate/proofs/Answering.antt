-- What the private functions answer, as the public ones say it.
use Rattle.std.proofs.Common.{◌≡◌, ℕ, Bool, true, List, refl, sym, inl, inr}
use Rattle.std.specs.Prelude.{◌↔◌}
use Rattle.std.proofs.lemmas.Bool.{iff_false}
use Rattle.cc_ast.specs.Tree.{External}
use Rattle.cc_types.specs.declared.fault.TypeFault.{TypeFault}
use Rattle.cc_wide_text.specs.Forms.{wide_unit}
use Rattle.cc_wide_text.specs.Program.{IsMarkedTree, IsWideProgram}
use Rattle.cc_wide_text.specs.Rules.{UnitKeepsLabels}
use Rattle.cc_wide.specs.Lowering.{UnitLowers}
use Rattle.cc_translate.specs.Refused.{IsTranslateRefusal}
use Rattle.cc_translate.specs.internal.Answers.{IsDifference, IsNotPrinted, IsTypingOf, IsSlip, IsFaultOf}
use Rattle.cc_translate.specs.declared.translating.Difference.{Difference}
use Rattle.cc_translate.specs.declared.translating.Difference.TheVariants as difference
use Rattle.cc_translate.specs.declared.fault.TranslateFault.{TranslateFault}
use Rattle.cc_translate.specs.declared.fault.TranslateFault.TheVariants as fault

program : (wide : List ℕ) (tree : List External) → IsMarkedTree wide tree → UnitLowers (wide_unit tree) → UnitKeepsLabels (wide_unit tree) → IsWideProgram wide (wide_unit tree)
program wide tree m own labels = record { tree = tree; of = m; is = refl; own = own; labels = labels }

pub not_printed_refused : (wide : List ℕ) (tree : List External) (keeps : Bool) (f : TranslateFault) → IsMarkedTree wide tree → ((keeps ≡ true) ↔ UnitKeepsLabels (wide_unit tree)) → IsNotPrinted keeps f
    → IsTranslateRefusal wide f
not_printed_refused wide tree keeps (fault.Read f) m law h = absurd h
not_printed_refused wide tree keeps (fault.Print f) m law h = (tree, m)
not_printed_refused wide tree keeps (fault.Labels f) m law h = record { tree = tree; of = m; breaks = iff_false law h }
not_printed_refused wide tree keeps (fault.Continue p) m law h = (tree, m)
not_printed_refused wide tree keeps (fault.Typing f) m law h = absurd h
not_printed_refused wide tree keeps (fault.Untranslated p) m law h = (tree, m)

slip_refused : (wide : List ℕ) (tree : List External) (f : TranslateFault) → IsMarkedTree wide tree → IsSlip f → IsTranslateRefusal wide f
slip_refused wide tree (fault.Read f) m h = absurd h
slip_refused wide tree (fault.Print f) m h = (tree, m)
slip_refused wide tree (fault.Labels f) m h = absurd h
slip_refused wide tree (fault.Continue p) m h = absurd h
slip_refused wide tree (fault.Typing f) m h = absurd h
slip_refused wide tree (fault.Untranslated p) m h = (tree, m)

typing_refused : (wide text : List ℕ) (tree : List External) (d : TypeFault) (f : TranslateFault) → IsMarkedTree wide tree → IsDifference tree text (difference.Typing d) → IsTypingOf d f → IsTranslateRefusal wide f
typing_refused wide text tree d (fault.Read f) m h k = absurd k
typing_refused wide text tree d (fault.Print f) m h k = absurd k
typing_refused wide text tree d (fault.Labels f) m h k = absurd k
typing_refused wide text tree d (fault.Continue p) m h k = absurd k
typing_refused wide text tree d (fault.Typing f) m (inl e) k = inl (k.1 e)
typing_refused wide text tree d (fault.Typing f) m (inr u) k = inr (record {
  unit = wide_unit tree;
  program = program wide tree m u.translation.lowers u.labels;
  text = text;
  tree = u.tree;
  spelled = u.spelled;
  translation = u.translation;
  fault = d;
  refused = u.refused;
  same = sym k.0;
})
typing_refused wide text tree d (fault.Untranslated p) m h k = absurd k

pub fault_refused : (wide text : List ℕ) (tree : List External) (d : Difference) (f : TranslateFault) → IsMarkedTree wide tree → IsDifference tree text d → IsFaultOf d f → IsTranslateRefusal wide f
fault_refused wide text tree difference.Labels f m h k = slip_refused wide tree f m k
fault_refused wide text tree (difference.Syntax g) f m h k = slip_refused wide tree f m k
fault_refused wide text tree difference.Other f m h k = slip_refused wide tree f m k
fault_refused wide text tree (difference.Typing d) f m h k = typing_refused wide text tree d f m h k
