-- A new library: the journal's faults are those of a copy, and every image recovers to what its records represent.
use Rattle.std.proofs.Common.{◌≡◌, ℕ, ◌<◌, ◌≤◌, ◌+◌, Bool, false, IsTrue, List, [], ap, subst, ◌∙◌}
use Rattle.std.specs.Prelude.{Err}
use Rattle.cc_journal.specs.declared.fault.JournalFault.{JournalFault}
use Rattle.cc_journal.specs.declared.fault.JournalFault.TheVariants as journal
use Rattle.cc_journal.specs.Format.{HoldsAlone, room_of}
use Rattle.cc_journal.specs.Answers.{CommitAnswers, FormatAnswers, OpenFaults}
use Rattle.cc_library.specs.declared.fault.LibraryFault.{LibraryFault}
use Rattle.cc_library.specs.declared.fault.LibraryFault.TheVariants.{Exists, Absent, Full, DiskFault, Closed, Damaged, NotALibrary, OutOfMemory}
use Rattle.cc_library.specs.Fault.{fault_of}
use Rattle.cc_library.specs.Apply.{Units}
use Rattle.cc_library.specs.Compact.{compacted}
use Rattle.cc_library.proofs.Opening.{has_header}
use Rattle.cc_copy.specs.Copy.{CopyFaults, room_for}
use Rattle.cc_copy.specs.internal.Writing.{WriteFaults}

-- a refusal of the journal's commit is a reason why the units were not written
pub commit_refused : (area : ℕ) (units : Units) (bodies : List (List ℕ)) (before after : ℕ) (closed : Bool) (fault : JournalFault) → bodies ≡ compacted units → closed ≡ false
    → CommitAnswers {T = Unit {0}} closed area bodies before after (Err fault) → WriteFaults area units before after (fault_of fault)
commit_refused area units bodies before after closed journal.Full is usable why = (subst (λ (l : List (List ℕ)). area < room_of l) is why.1, why.2)
commit_refused area units bodies before after closed journal.DiskFault is usable why = (subst (λ (l : List (List ℕ)). room_of l ≤ area) is why.1, why.2)
commit_refused area units bodies before after closed journal.Closed is usable why = absurd (cc (usable, why.0))
commit_refused area units bodies before after closed journal.Damaged is usable why = absurd why
commit_refused area units bodies before after closed journal.NotALibrary is usable why = absurd why
commit_refused area units bodies before after closed journal.OutOfMemory is usable why = why.2

-- if the disk could not be formatted, the fault is one that a copy may report
pub format_refused : (honest : Bool) (size area : ℕ) (units : Units) (before after : ℕ) (fault : JournalFault) → room_for units ≤ area
    → FormatAnswers {T = Unit {0}} size area before after (Err fault) → CopyFaults honest size area units before after (fault_of fault)
format_refused honest size area units before after journal.Full fits why = (λ h is. absurd (why.0 is), why.1)
format_refused honest size area units before after journal.DiskFault fits why = (fits, why.1)
format_refused honest size area units before after journal.Closed fits why = absurd why
format_refused honest size area units before after journal.Damaged fits why = absurd why
format_refused honest size area units before after journal.NotALibrary fits why = absurd why
format_refused honest size area units before after journal.OutOfMemory fits why = absurd why

-- if the new journal could not be opened, the fault is one that a copy may report
pub open_refused : (honest : Bool) (seen : List ℕ) (size area : ℕ) (units : Units) (begin before after : ℕ) (fault : JournalFault) → room_for units ≤ area → before ≡ begin
    → (IsTrue honest → HoldsAlone seen area []) → OpenFaults honest seen before after fault → CopyFaults honest size area units begin after (fault_of fault)
open_refused honest seen size area units begin before after journal.DiskFault fits same holds why = (fits, why ∙ ap (λ n. n + 1) same)
open_refused honest seen size area units begin before after journal.NotALibrary fits same holds why = λ h. why.1 h area (has_header seen area [] (holds h).holds)
open_refused honest seen size area units begin before after journal.Damaged fits same holds why = λ h. (why.1 h).1 area [] (holds h).holds
open_refused honest seen size area units begin before after journal.OutOfMemory fits same holds why = why ∙ same
open_refused honest seen size area units begin before after journal.Full fits same holds why = absurd why
open_refused honest seen size area units begin before after journal.Closed fits same holds why = absurd why

-- if the units could not be written, the fault is one that a copy may report
pub write_refused : (honest : Bool) (size area there : ℕ) (units : Units) (begin before after : ℕ) (fault : LibraryFault) → room_for units ≤ area → before ≡ begin → (IsTrue honest → there ≡ area)
    → WriteFaults there units before after fault → CopyFaults honest size area units begin after fault
write_refused honest size area there units begin before after Full fits same is why = (λ h _. subst (λ (n : ℕ). n < room_for units) (is h) why.0, why.1 ∙ same)
write_refused honest size area there units begin before after DiskFault fits same is why = (fits, why.1 ∙ ap (λ n. n + 1) same)
write_refused honest size area there units begin before after OutOfMemory fits same is why = why ∙ same
write_refused honest size area there units begin before after NotALibrary fits same is why = absurd why
write_refused honest size area there units begin before after Damaged fits same is why = absurd why
write_refused honest size area there units begin before after Exists fits same is why = absurd why
write_refused honest size area there units begin before after Absent fits same is why = absurd why
write_refused honest size area there units begin before after Closed fits same is why = absurd why
