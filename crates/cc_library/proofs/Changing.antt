-- A change of the map in two halves, as a library makes it: first what needs memory, and the rest after the journal has
-- answered.
use Rattle.std.proofs.Common.{◌≡◌, ◌≢◌, Bool, true, false, cond, refl, sym, ap, ◌∙◌, ℕ}
use Rattle.std.specs.Prelude.{Option, Some, None, Result, Ok, Err, IsOk, is_some}
use Rattle.std.specs.Cmp.Lexicographic.{nat_list_cmp_total}
use Rattle.std.specs.FinMap as map
use Rattle.cc_library.specs.Change.{LibraryCommand}
use Rattle.cc_library.specs.declared.command.Change.TheVariants.{Add, Replace, Withdraw}
use Rattle.cc_library.specs.Apply.{Units, apply, after, kept, refusal, exists, absent}
use Rattle.cc_library.specs.internal.Halves.{begun, finished, undone}
use Rattle.cc_library.proofs.Tables.{put_and_taken}

-- an answer that has no refusal's number accepts the command
pub is_accepted : (answer : Result Units ℕ) → refusal answer ≡ None → IsOk answer
is_accepted (Ok made) e = refl
is_accepted (Err number) e = absurd (cc e)

pub accepted_where : (answer : Result Units ℕ) (number : Option ℕ) → number ≡ refusal answer → is_some number ≡ false → IsOk answer
accepted_where (Ok made) number is none = refl
accepted_where (Err n) number is none = let no : true ≡ false = sym (ap is_some is) ∙ none in absurd (cc)

-- if the refusal of an answer is `number`, the answer is an error with this number
pub refused_by : (answer : Result Units ℕ) (number : ℕ) → Some number ≡ refusal answer → answer ≡ Err number
refused_by (Ok made) number is = absurd (cc is)
refused_by (Err n) number is = cc is

-- if a change that needs a present name is refused, the number is 32
absent_where : (there : Bool) (made : Units) (number : ℕ) → Some number ≡ refusal (cond there (Ok made) (Err absent)) → cond there (Ok made) (Err absent) ≡ Err absent
absent_where true made number is = absurd (cc is)
absent_where false made number is = refl

pub refused_absent : (units : Units) (command : LibraryCommand) (number : ℕ) → Some number ≡ refusal (apply units command) → number ≢ 31 → apply units command ≡ Err absent
refused_absent units (Add name unit) number is other = exists_not (map.contains_key units name) (map.insert units name unit) number is other
  where
    exists_not : (there : Bool) (made : Units) (n : ℕ) → Some n ≡ refusal (cond there (Err exists) (Ok made)) → n ≢ 31 → cond there (Err exists) (Ok made) ≡ Err absent
    exists_not true made n e ne = absurd (ne (cc e))
    exists_not false made n e ne = absurd (cc e)
refused_absent units (Replace name unit) number is other = absent_where (map.contains_key units name) (map.insert units name unit) number is
refused_absent units (Withdraw name) number is other = absent_where (map.contains_key units name) (map.remove units name) number is

added : (there : Bool) (units made : Units) → IsOk {T = Units} {E = ℕ} (cond there (Err exists) (Ok made)) → made ≡ kept units (cond there (Err exists) (Ok made))
added true units made ok = absurd (cc ok)
added false units made ok = refl

replaced : (there : Bool) (units made : Units) → cond there made units ≡ kept units (cond there (Ok made) (Err absent))
replaced true units made = refl
replaced false units made = refl

withdrawn : (there : Bool) (units made : Units) → IsOk {T = Units} {E = ℕ} (cond there (Ok made) (Err absent)) → made ≡ kept units (cond there (Ok made) (Err absent))
withdrawn true units made ok = refl
withdrawn false units made ok = absurd (cc ok)

-- beginning and finishing a command that is accepted makes the change
pub finished_is : (units : Units) (command : LibraryCommand) → IsOk (apply units command) → finished (begun units command) command ≡ after units command
finished_is units (Add name unit) ok = added (map.contains_key units name) units (map.insert units name unit) ok
finished_is units (Replace name unit) ok = replaced (map.contains_key units name) units (map.insert units name unit)
finished_is units (Withdraw name) ok = withdrawn (map.contains_key units name) units (map.remove units name) ok

was_absent : (there : Bool) (made : Units) → IsOk {T = Units} {E = ℕ} (cond there (Err exists) (Ok made)) → there ≡ false
was_absent true made ok = absurd (cc ok)
was_absent false made ok = refl

-- beginning and undoing a command that is accepted leaves the map as it was
pub undone_is : (units : Units) (command : LibraryCommand) → IsOk (apply units command) → undone (begun units command) command ≡ units
undone_is units (Add name unit) ok =
    put_and_taken nat_list_cmp_total (map.slice_cmp-IsAntisymmetric map.nat_cmp-IsAntisymmetric) units name unit
    (was_absent (map.contains_key units name) (map.insert units name unit) ok)
undone_is units (Replace name unit) ok = refl
undone_is units (Withdraw name) ok = refl

pub done_is : (units mid new : Units) (command : LibraryCommand) → IsOk (apply units command) → mid ≡ begun units command → new ≡ finished mid command → new ≡ after units command
done_is units mid new command ok begins ends = ends ∙ ap (λ (m : Units). finished m command) begins ∙ finished_is units command ok

pub back_is : (units mid new : Units) (command : LibraryCommand) → IsOk (apply units command) → mid ≡ begun units command → new ≡ undone mid command → new ≡ units
back_is units mid new command ok begins ends = ends ∙ ap (λ (m : Units). undone m command) begins ∙ undone_is units command ok
