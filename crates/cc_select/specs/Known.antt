-- The steps for a function's items, one for each. An operation with a known constant as an operand has the constant as its word, if its
-- instructions can encode the word. An access to an element whose number is known has the number in it. A branch that is certain to be
-- taken is a jump. What is known about a register is what the items since the last label say.
use Rattle.std.specs.Prelude.{ℕ, Bool, true, false, not, if◌then◌else◌, ◌==◌, Option, Some, None, List, [], ◌∷◌}
use Rattle.cc_words.specs.declared.operators.Binary as binary
use Rattle.cc_simulation.specs.Unknown.{survives}
use Rattle.cc_ltl.specs.declared.operation.Move.TheVariants.{Between, Reload, Spill}
use Rattle.cc_linear_language.specs.declared.item.LinearItem.{LinearItem}
use Rattle.cc_linear_language.specs.declared.item.LinearItem.TheVariants.{Label, Jump, IfNonzero, IfZero, Copy, Const, Unary, Binary, Load, Store, Call, Read, Write, Return}
use Rattle.cc_select.specs.declared.step.Step.{Step}
use Rattle.cc_select.specs.declared.step.Step.TheVariants.{One, Immediate, LoadAt, StoreAt}
use Rattle.cc_select.specs.Immediates.{Form, has_word, immediate_of, immediate_of_left}

-- ---- what is known

-- the word of each register whose word is known
abbrev pub Known : Type 0
Known = ℕ → Option ℕ

abbrev pub unknown : Known
unknown r = None

abbrev pub forget : (register : ℕ) → Known → Known
forget to k r = if to == r then None else k r

abbrev pub learn : (register word : ℕ) → Known → Known
learn to w k r = if to == r then Some w else k r

-- what is known after an item; nothing is known after a label, since a run may reach it from elsewhere, nor after an item from which a
-- run does not go on to the next one
abbrev pub known_behind : LinearItem → Known → Known
known_behind (Label label) k = unknown
known_behind (Jump to) k = unknown
known_behind (IfNonzero from to) k = k
known_behind (IfZero from to) k = k
known_behind (Copy (Between to from)) k = forget to k
known_behind (Copy (Reload to slot)) k = forget to k
known_behind (Copy (Spill slot from)) k = k
known_behind (Const to word) k = learn to word k
known_behind (Unary operator to from) k = forget to k
known_behind (Binary operator to left right) k = forget to k
known_behind (Load width object to index) k = forget to k
known_behind (Store width object index from) k = k
known_behind (Call function) k = λ r. if survives r then k r else None
known_behind Read k = forget 10 (forget 17 k)
known_behind Write k = forget 17 k
known_behind Return k = unknown

-- ---- what is chosen

-- an operator with a word, if its instructions can encode the word; else another step
abbrev pub with_word : Option Form → (to from : ℕ) → (other : Step) → Step
with_word None to a s = s
with_word (Some form) to a s = if has_word form.0 form.1 then Immediate form.0 to a form.1 else s

abbrev pub with_left : Option ℕ → binary.Binary → (to right : ℕ) → (other : Step) → Step
with_left None o to b s = s
with_left (Some w) o to b s = with_word (immediate_of_left o w) to b s

abbrev pub with_right : Option ℕ → binary.Binary → (to left : ℕ) → (other : Step) → Step
with_right None o to a s = s
with_right (Some w) o to a s = with_word (immediate_of o w) to a s

-- an access with its element's number, if that is known
abbrev pub with_number : Option ℕ → (other : Step) → (access : ℕ → Step) → Step
with_number None s f = s
with_number (Some w) s f = f w

-- whether a branch is certain to be taken: the word is known, and is not 0 (`nonzero`), or is 0 (not `nonzero`)
abbrev pub is_taken : (nonzero : Bool) → Option ℕ → Bool
is_taken nonzero None = false
is_taken true (Some w) = not (w == 0)
is_taken false (Some w) = w == 0

-- The step of an item; a word on the right has priority over one on the left. A branch that is certain not to be taken stays, since each
-- item becomes one step, and there is no step that does nothing.
abbrev pub choose : Known → LinearItem → Step
choose k (IfNonzero from to) = if is_taken true (k from) then One (Jump to) else One (IfNonzero from to)
choose k (IfZero from to) = if is_taken false (k from) then One (Jump to) else One (IfZero from to)
choose k (Binary operator to left right) = with_right (k right) operator to left (with_left (k left) operator to right (One (Binary operator to left right)))
choose k (Load width object to index) = with_number (k index) (One (Load width object to index)) (λ w. LoadAt width object to w)
choose k (Store width object index from) = with_number (k index) (One (Store width object index from)) (λ w. StoreAt width object w from)
choose k item = One item

abbrev pub chosen : Known → List LinearItem → List Step
chosen k [] = []
chosen k (item ∷ items) = choose k item ∷ chosen (known_behind item k) items
