-- Each unit of the map after a history is the base's unit under that name, or was compiled.
use Rattle.std.proofs.Common.{◌≡◌, ◌⊎◌, ℕ, inl, inr, Bool, true, false, cond, suc, List, [], ◌∷◌, ◌++◌, Option, Some, None, Result, Ok, Err, refl, sym, ap, ◌∙◌, subst, arith}
use Rattle.std.specs.Prelude.{slice_get, if◌then◌else◌}
use Rattle.std.specs.Ordering.{eq_by_cmp, nat_cmp}
use Rattle.std.specs.Cmp.Lexicographic.{slice_cmp, nat_list_cmp_total}
use Rattle.std.specs.FinMap.{get, insert, remove, contains_key, get-insert, get-remove}
use Rattle.cc_unit.specs.declared.unit.StoredUnit.{StoredUnit}
use Rattle.cc_link.specs.Agree.{Agree}
use Rattle.cc_library.specs.Change as made
use Rattle.cc_library.specs.Apply.{Units, apply, after, after_all, kept, exists, absent}
use Rattle.cc_library.specs.declared.command.Change.TheVariants.{Add, Replace, Withdraw}
use Rattle.cc_history.specs.declared.command.Asked.{Asked}
use Rattle.cc_history.specs.declared.command.Asked.TheVariants.{Change, Fetch, Names}
use Rattle.cc_history.specs.declared.reply.Reply.{Reply}
use Rattle.cc_history.specs.declared.reply.Reply.TheVariants as reply
use Rattle.cc_history.specs.declared.entry.Entry.{Entry}
use Rattle.cc_history.specs.Calls.{Command, HasAgreed, HasAgreedUnit, changes_of, done_by}
use Rattle.cc_history.specs.History.{EachAgrees, HaveAgreed, changes, units_after}
use Rattle.cc_history.proofs.Histories.{after_all-append}

one_of : (here : Bool) (x unit : StoredUnit) (o : Option StoredUnit) → cond here (Some x) o ≡ Some unit → (x ≡ unit) ⊎ (o ≡ Some unit)
one_of true x unit o is = inl (cc)
one_of false x unit o is = inr is

not_gone : (here : Bool) (unit : StoredUnit) (o : Option StoredUnit) → cond here None o ≡ Some unit → o ≡ Some unit
not_gone true unit o is = absurd (cc)
not_gone false unit o is = is

same : (base : Units) → EachAgrees base base
same base name unit is = inl is

inserted : (base : Units) (name : List ℕ) (unit : StoredUnit) → Agree unit.source unit.image → EachAgrees base (insert base name unit)
inserted base name unit agrees at found is =
    elim (one_of _ unit found (get base at) (sym (get-insert nat_list_cmp_total base name unit at) ∙ is)) [
      | inl new ↦ inr (subst (λ (u : StoredUnit). Agree u.source u.image) new agrees)
      | inr old ↦ inl old
    ]

removed : (base : Units) (name : List ℕ) → EachAgrees base (remove base name)
removed base name at found is = inl (not_gone _ found (get base at) (sym (get-remove nat_list_cmp_total base name at) ∙ is))

either : (base one : Units) (there : Bool) (number : ℕ) → EachAgrees base one → EachAgrees base (kept base (if there then Err number else Ok one))
either base one true number made = same base
either base one false number made = made

or_else : (base one : Units) (there : Bool) (number : ℕ) → EachAgrees base one → EachAgrees base (kept base (if there then Ok one else Err number))
or_else base one true number made = made
or_else base one false number made = same base

changed : (base : Units) (command : Command) → HasAgreed command → EachAgrees base (after base command)
changed base (Add name unit) agrees = either base (insert base name unit) (contains_key base name) exists (inserted base name unit agrees)
changed base (Replace name unit) agrees = or_else base (insert base name unit) (contains_key base name) absent (inserted base name unit agrees)
changed base (Withdraw name) agrees = or_else base (remove base name) (contains_key base name) absent (removed base name)

called : (base : Units) (asked : Asked) (answer : Reply) → HasAgreedUnit asked → EachAgrees base (after_all base (changes_of asked answer))
called base (Change command) reply.Done agrees = changed base command agrees
called base (Change command) reply.Exists agrees = same base
called base (Change command) reply.Absent agrees = same base
called base (Change command) (reply.Unit unit) agrees = same base
called base (Change command) (reply.Names names) agrees = same base
called base (Fetch name) answer agrees = same base
called base Names answer agrees = same base

on : (base mid new : Units) → EachAgrees base mid → EachAgrees mid new → EachAgrees base new
on base mid new first second name unit is = elim (second name unit is) [ inl at ↦ first name unit at | inr agrees ↦ inr agrees ]

pub each_agrees : (base : Units) (history : List Entry) → HaveAgreed history → EachAgrees base (units_after base history)
each_agrees base [] agreed = same base
each_agrees base (entry ∷ history) agreed =
    let mid = after_all base (changes_of entry.asked entry.reply) in
    let rest = each_agrees mid history (λ k e at. agreed (suc k) e at) in
    let first = called base entry.asked entry.reply (agreed 0 entry refl) in
    subst (λ (u : Units). EachAgrees base u) (sym (after_all-append base (changes_of entry.asked entry.reply) (changes history))) (on base mid (units_after mid history) first rest)
