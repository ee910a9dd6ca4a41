-- Jump threading. A test directly after a label goes before the label and into each jump to it, if only jumps lead to the label; so the
-- label's place is after the test. If the word that is tested is known, the test becomes a jump. C's `a && b` needs this: 0 or the value of
-- `b` is put in a register, and that register is tested where the two paths meet.
use Rattle.std.specs.Prelude.{ℕ, Bool, true, false, ◌||◌, if◌then◌else◌, ◌==◌, Option, Some, None, List, [], ◌∷◌, ◌++◌}
use Rattle.cc_linear_language.specs.declared.item.LinearItem.{LinearItem}
use Rattle.cc_linear_language.specs.declared.item.LinearItem.TheVariants.{Label, Jump, IfNonzero, IfZero}
use Rattle.cc_select.specs.Known.{Known, unknown, known_behind, is_taken}

-- ---- which tests go where

-- whether a branch leads to the label
abbrev pub branches_to : List LinearItem → (label : ℕ) → Bool
branches_to [] n = false
branches_to (IfNonzero from to ∷ items) n = (to == n) || branches_to items n
branches_to (IfZero from to ∷ items) n = (to == n) || branches_to items n
branches_to (item ∷ items) n = branches_to items n

-- the test that a list begins with
abbrev pub first_test : List LinearItem → Option LinearItem
first_test [] = None
first_test (IfNonzero from to ∷ items) = Some (IfNonzero from to)
first_test (IfZero from to ∷ items) = Some (IfZero from to)
first_test (item ∷ items) = None

-- the test directly after a label
abbrev pub test_behind : List LinearItem → (label : ℕ) → Option LinearItem
test_behind [] n = None
test_behind (Label other ∷ items) n = if other == n then first_test items else test_behind items n
test_behind (item ∷ items) n = test_behind items n

-- the test that goes before each label
abbrev pub Tests : Type 0
Tests = ℕ → Option LinearItem

abbrev pub tests : List LinearItem → Tests
tests items n = if branches_to items n then None else test_behind items n

-- ---- what an item becomes

-- what a test becomes before a jump to a label, or before the label itself: a jump, if the word is known
abbrev pub way : Known → (test : LinearItem) → (label : ℕ) → LinearItem
way k (IfNonzero from to) n = if is_taken true (k from) then Jump to else (if is_taken false (k from) then Jump n else IfNonzero from to)
way k (IfZero from to) n = if is_taken false (k from) then Jump to else (if is_taken true (k from) then Jump n else IfZero from to)
way k item n = item

abbrev pub is_jump : LinearItem → Bool
is_jump (Jump to) = true
is_jump item = false

abbrev pub before_label : Known → Option LinearItem → (label : ℕ) → List LinearItem
before_label k None n = Label n ∷ []
before_label k (Some test) n = way k test n ∷ Label n ∷ []

-- after a test that became a jump there is no other jump, since it would never be reached
abbrev pub before_jump : (way : LinearItem) → (label : ℕ) → List LinearItem
before_jump item n = item ∷ (if is_jump item then [] else Jump n ∷ [])

abbrev pub in_jump : Known → Option LinearItem → (label : ℕ) → List LinearItem
in_jump k None n = Jump n ∷ []
in_jump k (Some test) n = before_jump (way k test n) n

abbrev pub piece : Tests → Known → LinearItem → List LinearItem
piece ts k (Label n) = before_label k (ts n) n
piece ts k (Jump n) = in_jump k (ts n) n
piece ts k item = item ∷ []

-- ---- the walk

abbrev pub is_some : Option LinearItem → Bool
is_some None = false
is_some (Some test) = true

-- whether the next item is a test that was moved before its label
abbrev pub is_before_gone : Tests → LinearItem → Bool
is_before_gone ts (Label n) = is_some (ts n)
is_before_gone ts item = false

-- the items with tests before labels, given what is known before them, and whether the first one is a test that was moved before its label
abbrev pub threaded_by : Tests → Known → (gone : Bool) → List LinearItem → List LinearItem
threaded_by ts k gone [] = []
threaded_by ts k true (item ∷ items) = threaded_by ts k false items
threaded_by ts k false (item ∷ items) = piece ts k item ++ threaded_by ts (known_behind item k) (is_before_gone ts item) items

abbrev pub threaded : List LinearItem → List LinearItem
threaded items = threaded_by (tests items) unknown false items
