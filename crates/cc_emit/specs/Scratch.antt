-- What x5 and x6 hold between the steps of straight-line code, and how much of an element's address they therefore hold already. An access
-- leaves in x6 the upper part of an address, and in x5 the address of the element, minus the lower part of its object's address or minus
-- the object's distance from x3. So the next access to a nearby object needs no upper part, and the next one to elements with the same
-- number, in any object that is reached the same way, takes one instruction.
--
-- A function sets x3 to the global pointer if its accesses then need fewer instructions, including those that set it: from there an access
-- reaches the first 4 KiB of the globals. An access in a loop counts as eight. Each step says which of these applies to its access, and
-- nothing else decides the size of the access.
use Rattle.std.specs.Prelude.{ℕ, ◌*◌, ◌+◌, ◌^◌, Bool, true, false, ◌&&◌, ◌||◌, ◌==◌, nat_le, nat_lt, if◌then◌else◌, Option, Some, None, List, [], ◌∷◌}
use Rattle.cc_words.specs.declared.operators.Width.{Width}
use Rattle.cc_words.specs.Widths.{same_width}
use Rattle.cc_ltl.specs.declared.operation.Move.{Move}
use Rattle.cc_ltl.specs.declared.operation.Move.TheVariants.{Between, Reload, Spill}
use Rattle.cc_linear_language.specs.declared.item.LinearItem.{LinearItem}
use Rattle.cc_linear_language.specs.declared.item.LinearItem.TheVariants.{Label, Jump, IfNonzero, IfZero, Copy, Const, Unary, Binary, Load, Store, Call, Read, Write, Return}
use Rattle.cc_select.specs.declared.step.Step.{Step}
use Rattle.cc_select.specs.declared.step.Step.TheVariants.{One, Immediate, LoadAt, StoreAt, LoadNear, StoreNear, Branch, BranchImmediate}
use Rattle.cc_rv32.specs.Machine.{globals_from}
use Rattle.cc_emit.specs.declared.condition.Condition.{Condition}
use Rattle.cc_emit.specs.declared.recipe.Recipe.{Recipe}
use Rattle.cc_emit.specs.declared.recipe.Recipe.TheVariants.{Direct}
use Rattle.cc_emit.specs.declared.recipe.WordRecipe.{WordRecipe}
use Rattle.cc_emit.specs.declared.recipe.WordRecipe.TheVariants.{WithImmediate, ShiftBy, OnZero}
use Rattle.cc_emit.specs.declared.addressed.Addressed.{Addressed}
use Rattle.cc_emit.specs.declared.addressed.Remembered.{Remembered}
use Rattle.cc_emit.specs.declared.addressed.Remembered.TheVariants.{Nothing, Upper, Element, ByPointer, ElementByPointer}
use Rattle.cc_emit.specs.declared.scratch.ElementAddress.{ElementAddress}
use Rattle.cc_emit.specs.declared.scratch.Scratch.{Scratch}
use Rattle.cc_emit.specs.Branches.{against_zero}
use Rattle.cc_emit.specs.Contract.{global_pointer}
use Rattle.cc_emit.specs.Emission.{access_size, high, known_access_size, known_place, label_of_step, pointer_size, recipe, word_recipe}

-- ---- what the registers hold

-- nothing is known about either register
abbrev pub nothing : Scratch
nothing = record { upper = None; address = None }

-- x5 holds the sum of a word and the distance in bytes of the element from the first one; the word is the upper part of the object's
-- address times 2^12, or the global pointer
abbrev pub address_of : Width → (index sum_base : ℕ) → ElementAddress
address_of width index sum_base = record { width = width; index = index; sum_base = sum_base }

-- ---- how much of an address the registers hold

abbrev pub is_upper : Option ℕ → (upper : ℕ) → Bool
is_upper None upper = false
is_upper (Some held) upper = held == upper

abbrev pub is_address : Option ElementAddress → Width → (index sum_base : ℕ) → Bool
is_address None width index sum_base = false
is_address (Some a) width index sum_base = same_width a.width width && ((a.index == index) && (a.sum_base == sum_base))

-- an address within the first 4 KiB of the globals, which x3 reaches
abbrev pub is_in_reach : (address : ℕ) → Bool
is_in_reach a = nat_le globals_from a && nat_lt a (globals_from + 4096)

-- how much of the address of an element the registers hold, if the element's number is in a register; `sets_pointer` says whether x3 is the
-- global pointer. An address in x5 needs no instruction, so it has priority
abbrev pub known_of : (sets_pointer : Bool) → Scratch → Width → (base index : ℕ) → Remembered
known_of sets_pointer k width base index =
    if is_address k.address width index (high base * 2 ^ 12) then Element
    else if sets_pointer && is_in_reach base then (if is_address k.address width index global_pointer then ElementByPointer else ByPointer)
    else if is_upper k.upper (high base) then Upper
    else Nothing

-- how much of a known address the registers hold
abbrev pub known_at : (sets_pointer : Bool) → Scratch → (address : ℕ) → Remembered
known_at sets_pointer k address = if sets_pointer && is_in_reach address then ByPointer else if is_upper k.upper (high address) then Upper else Nothing

-- how much the registers hold of the address that a step reads or writes, if it does either
abbrev pub remembered : (base : ℕ → ℕ) → (sets_pointer : Bool) → Scratch → Step → Remembered
remembered base sets_pointer k (One (Load width object to index)) = known_of sets_pointer k width (base object) index
remembered base sets_pointer k (One (Store width object index from)) = known_of sets_pointer k width (base object) index
remembered base sets_pointer k (LoadAt width object to number) = known_at sets_pointer k (known_place width (base object) number)
remembered base sets_pointer k (StoreAt width object number from) = known_at sets_pointer k (known_place width (base object) number)
remembered base sets_pointer k (LoadNear width object to index word) = known_of sets_pointer k width (known_place width (base object) word) index
remembered base sets_pointer k (StoreNear width object index word from) = known_of sets_pointer k width (known_place width (base object) word) index
remembered base sets_pointer k step = Nothing

-- ---- what the registers hold after a step

-- what is known about an element's address after a register has changed: nothing, if that is the index register
abbrev pub unless_of : (register : ℕ) → Option ElementAddress → Option ElementAddress
unless_of register None = None
unless_of register (Some a) = if a.index == register then None else Some a

-- what is known after a register is written
abbrev pub without : (register : ℕ) → Scratch → Scratch
without register k = record { upper = k.upper; address = unless_of register k.address }

-- what is known after x5 is used
abbrev pub without_address : Scratch → Scratch
without_address k = record { upper = k.upper; address = None }

abbrev pub behind_move : Move → Scratch → Scratch
behind_move (Between to from) k = without to k
behind_move (Reload to slot) k = without to k
behind_move (Spill slot from) k = k

abbrev pub behind_recipe : Recipe → (to : ℕ) → Scratch → Scratch
behind_recipe (Direct o) to k = without to k
behind_recipe recipe to k = without to (without_address k)

abbrev pub behind_word_recipe : WordRecipe → (to : ℕ) → Scratch → Scratch
behind_word_recipe (WithImmediate o n) to k = without to k
behind_word_recipe (ShiftBy o n) to k = without to k
behind_word_recipe (OnZero o) to k = without to k
behind_word_recipe recipe to k = without to (without_address k)

abbrev pub behind_word_branch : (alone : Option Condition) → Scratch → Scratch
behind_word_branch (Some c) k = k
behind_word_branch None k = without_address k

-- x6 after an access: unchanged, if the access did not need it
abbrev pub upper_behind : Remembered → Option ℕ → (address : ℕ) → Option ℕ
upper_behind Nothing upper a = Some (high a)
upper_behind Upper upper a = Some (high a)
upper_behind known upper a = upper

-- what x5 holds after an access, minus the element's distance in bytes from the first element
abbrev pub sum_base : Remembered → (base : ℕ) → ℕ
sum_base ByPointer base = global_pointer
sum_base ElementByPointer base = global_pointer
sum_base known base = high base * 2 ^ 12

-- what is known after an access to an element whose number is in a register
abbrev pub behind_element : Remembered → Scratch → Width → (base index : ℕ) → Scratch
behind_element known k width base index = record { upper = upper_behind known k.upper base; address = Some (address_of width index (sum_base known base)) }

-- what is known after an access to an address
abbrev pub behind_at : Remembered → Scratch → (address : ℕ) → Scratch
behind_at known k address = record { upper = upper_behind known k.upper address; address = k.address }

-- what is known after an item of Linear: a jump may lead to a label, and a call destroys both registers
abbrev pub behind_one : (base : ℕ → ℕ) → (sets_pointer : Bool) → LinearItem → Scratch → Scratch
behind_one base sets_pointer (Label label) k = nothing
behind_one base sets_pointer (Jump to) k = nothing
behind_one base sets_pointer (IfNonzero from to) k = k
behind_one base sets_pointer (IfZero from to) k = k
behind_one base sets_pointer (Copy m) k = behind_move m k
behind_one base sets_pointer (Const to word) k = without to k
behind_one base sets_pointer (Unary operator to from) k = without to k
behind_one base sets_pointer (Binary operator to left right) k = behind_recipe (recipe operator) to k
behind_one base sets_pointer (Load width object to index) k = without to (behind_element (known_of sets_pointer k width (base object) index) k width (base object) index)
behind_one base sets_pointer (Store width object index from) k = behind_element (known_of sets_pointer k width (base object) index) k width (base object) index
behind_one base sets_pointer (Call function) k = nothing
behind_one base sets_pointer Read k = without 10 (without 17 k)
behind_one base sets_pointer Write k = without 17 k
behind_one base sets_pointer Return k = nothing

abbrev pub behind_step : (base : ℕ → ℕ) → (sets_pointer : Bool) → Step → Scratch → Scratch
behind_step base sets_pointer (One item) k = behind_one base sets_pointer item k
behind_step base sets_pointer (Immediate operator to from word) k = behind_word_recipe (word_recipe operator word) to k
behind_step base sets_pointer (LoadAt width object to number) k =
    without to (behind_at (known_at sets_pointer k (known_place width (base object) number)) k (known_place width (base object) number))
behind_step base sets_pointer (StoreAt width object number from) k = behind_at (known_at sets_pointer k (known_place width (base object) number)) k (known_place width (base object) number)
behind_step base sets_pointer (LoadNear width object to index word) k =
    without to (behind_element (known_of sets_pointer k width (known_place width (base object) word) index) k width (known_place width (base object) word) index)
behind_step base sets_pointer (StoreNear width object index word from) k =
    behind_element (known_of sets_pointer k width (known_place width (base object) word) index) k width (known_place width (base object) word) index
behind_step base sets_pointer (Branch operator nonzero left right to) k = k
behind_step base sets_pointer (BranchImmediate operator nonzero from word to) k = behind_word_branch (against_zero (word_recipe operator word) from) k

-- ---- the steps, each with how much is known of the address that it accesses

abbrev pub with_known : (base : ℕ → ℕ) → (sets_pointer : Bool) → Scratch → Step → Addressed
with_known base sets_pointer k step = record { step = step; known = remembered base sets_pointer k step }

abbrev pub addressed : (base : ℕ → ℕ) → (sets_pointer : Bool) → Scratch → List Step → List Addressed
addressed base sets_pointer k [] = []
addressed base sets_pointer k (step ∷ steps) = with_known base sets_pointer k step ∷ addressed base sets_pointer (behind_step base sets_pointer step k) steps

-- ---- whether a function gains by x3

-- the number of instructions that the access of a step needs, if the step has one
abbrev pub step_access_size : Remembered → Step → ℕ
step_access_size known (One (Load width object to index)) = access_size known width
step_access_size known (One (Store width object index from)) = access_size known width
step_access_size known (LoadAt width object to number) = known_access_size known
step_access_size known (StoreAt width object number from) = known_access_size known
step_access_size known (LoadNear width object to index word) = access_size known width
step_access_size known (StoreNear width object index word from) = access_size known width
step_access_size known step = 0

-- the label to which a step may lead
abbrev pub led_to : Step → Option ℕ
led_to (One (Jump to)) = Some to
led_to (One (IfNonzero from to)) = Some to
led_to (One (IfZero from to)) = Some to
led_to (Branch operator nonzero left right to) = Some to
led_to (BranchImmediate operator nonzero from word to) = Some to
led_to step = None

abbrev pub is_led : Option ℕ → (label : ℕ) → Bool
is_led None label = false
is_led (Some to) label = to == label

-- whether one of these steps may lead to the label
abbrev pub lead_to : (label : ℕ) → List Step → Bool
lead_to label [] = false
lead_to label (step ∷ steps) = is_led (led_to step) label || lead_to label steps

-- whether one of these steps may lead to one of the labels
abbrev pub lead_back : (labels : List ℕ) → List Step → Bool
lead_back [] steps = false
lead_back (label ∷ labels) steps = lead_to label steps || lead_back labels steps

-- how many times an access counts, given the labels before it and the steps from it on: eight times in a loop, which goes from a label to a
-- later step that leads back to it
abbrev pub loop_weight : ℕ
loop_weight = 8

abbrev pub weight : (labels : List ℕ) → List Step → ℕ
weight labels steps = if lead_back labels steps then loop_weight else 1

-- the labels so far, and the step's own label if it is one
abbrev pub labels_past : Option ℕ → List ℕ → List ℕ
labels_past None labels = labels
labels_past (Some label) labels = label ∷ labels

-- the number of instructions that the accesses of these steps need, each multiplied by its weight
abbrev pub accesses_size : (base : ℕ → ℕ) → (sets_pointer : Bool) → Scratch → (labels : List ℕ) → List Step → ℕ
accesses_size base sets_pointer k labels [] = 0
accesses_size base sets_pointer k labels (step ∷ steps) =
    weight labels (step ∷ steps) * step_access_size (remembered base sets_pointer k step) step + accesses_size base sets_pointer (behind_step base sets_pointer step k) (labels_past (label_of_step step) labels) steps

-- whether the accesses need fewer instructions with x3, including those that set it
abbrev pub gains : (base : ℕ → ℕ) → List Step → Bool
gains base steps = nat_lt (pointer_size true + accesses_size base true nothing [] steps) (accesses_size base false nothing [] steps)
