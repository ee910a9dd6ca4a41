-- Selected: the code of a function as one list of steps, and what one step does. A step is an item of Linear, an operation that contains a
-- word or an element's number, or a branch that compares.
use Rattle.std.specs.Prelude.{◌≡◌, ◌≢◌, ℕ, ◌≤◌, ◌==◌, Bool, true, false, if◌then◌else◌, List, [], ◌∷◌, Contains}
use Rattle.std.specs.List.{AllByRecursion, AllPairs}
use Rattle.cc_words.specs.Words.{add}
use Rattle.cc_words.specs.Operators.{apply_unary, apply_binary}
use Rattle.cc_simulation.specs.World.{World, Answer, element, stored, next_word, after_read, after_write}
use Rattle.cc_simulation.specs.Unknown.{unknown_word, left_after_entry, left_after_call, left_after_word}
use Rattle.cc_simulation.specs.Run.{Move as Moving, Goes, Calls, Returns, Fails, tried}
use Rattle.cc_ltl.specs.declared.location.Location.TheVariants.{Register}
use Rattle.cc_ltl.specs.Registers.{IsAllocatable, most_slots}
use Rattle.cc_ltl.specs.Ltl.{IsWord, Locations, put, target, source, first_argument, result_location, destroyed_location, words_from, after_call, at_entry}
use Rattle.cc_linear_language.specs.declared.item.LinearItem.TheVariants.{Label, Jump, IfNonzero, IfZero, Copy, Const, Unary, Binary, Load, Store, Call, Read, Write, Return}
use Rattle.cc_linear_language.specs.Linear.{IsItem}
use Rattle.cc_select.specs.declared.step.Step.{Step}
use Rattle.cc_select.specs.declared.step.Step.TheVariants.{One, Immediate, LoadAt, StoreAt, LoadNear, StoreNear, Branch, BranchImmediate}
use Rattle.cc_select.specs.Immediates.{operator_of, apply_immediate, has_word, is_comparison}

-- ---- which functions there are

-- the labels that are in a list
abbrev pub labels : List Step → List ℕ
labels [] = []
labels (One (Label label) ∷ steps) = label ∷ labels steps
labels (step ∷ steps) = labels steps

-- a step of a function with `slots` slots, in a unit with `functions` functions: jumps and branches lead to labels of the list, the
-- operator of a branch is a comparison, and each word of an operator is one that its instructions can encode
abbrev pub IsStep : (slots functions : ℕ) → (labels : List ℕ) → Step → Type 0
IsStep slots functions labels (One item) = IsItem slots functions labels item
IsStep slots functions labels (Immediate operator to from word) = IsAllocatable to × IsAllocatable from × IsWord word × (has_word operator word ≡ true)
IsStep slots functions labels (LoadAt width object to number) = IsWord object × IsAllocatable to × IsWord number
IsStep slots functions labels (StoreAt width object number from) = IsWord object × IsWord number × IsAllocatable from
IsStep slots functions labels (LoadNear width object to index word) = IsWord object × IsAllocatable to × IsAllocatable index × IsWord word
IsStep slots functions labels (StoreNear width object index word from) = IsWord object × IsAllocatable index × IsWord word × IsAllocatable from
IsStep slots functions labels (Branch operator nonzero left right to) = (is_comparison operator ≡ true) × IsAllocatable left × IsAllocatable right × Contains labels to
IsStep slots functions labels (BranchImmediate operator nonzero from word to) =
    (is_comparison (operator_of operator) ≡ true) × IsAllocatable from × IsWord word × (has_word operator word ≡ true) × Contains labels to

-- there are few enough slots, no label occurs twice, and each step is a step of a function with these slots
pub record IsSelected (slots functions : ℕ) (steps : List Step) : Type 0 where
  pub few : slots ≤ most_slots
  pub distinct : AllPairs (λ (a b : ℕ). a ≢ b) (labels steps)
  pub fit : AllByRecursion (IsStep slots functions (labels steps)) steps

-- ---- what one step does

-- the state of a run: the steps from the next one on, the words of the locations, the shared world, and the words that unknown locations
-- will hold
pub record Configuration : Type 0 where
  pub steps : List Step
  pub locations : Locations
  pub world : World
  pub words : List ℕ

abbrev pub at_steps : List Step → Locations → World → (words : List ℕ) → Configuration
at_steps steps at world words = record { steps = steps; locations = at; world = world; words = words }

-- the place of a label: the steps from its first occurrence on, or no steps if it does not occur
abbrev pub place : List Step → (label : ℕ) → List Step
place [] label = []
place (One (Label other) ∷ steps) label = if other == label then One (Label other) ∷ steps else place steps label
place (step ∷ steps) label = place steps label

-- the configuration after a call's answer: what the call destroys is unknown, and the answer's value is the result
abbrev pub steps_after_answer : List Step → Locations → (words : List ℕ) → Answer → Configuration
steps_after_answer steps at words a = at_steps steps (put result_location a.value (after_call words at)) a.world (left_after_call words)

-- where a branch leads, given its word: to the label's place if the word is not 0 (`nonzero`), or if it is 0 (not `nonzero`); else to the
-- next step
abbrev pub led : (nonzero : Bool) → (word : ℕ) → (on there : List Step) → List Step
led true word on there = if word == 0 then on else there
led false word on there = if word == 0 then there else on

-- What the next step does; `code` has all the steps, and `arity` says how many parameters each function has. A label is not a move: the
-- step after it is executed. A run goes wrong after the last step, and if a jump leads to no place.
abbrev pub does : (arity : ℕ → ℕ) → (code : List Step) → List Step → Locations → World → (words : List ℕ) → Moving Configuration
does arity code [] at world words = Fails
does arity code (One (Label label) ∷ steps) at world words = does arity code steps at world words
does arity code (One (Jump to) ∷ steps) at world words = Goes (at_steps (place code to) at world words)
does arity code (One (IfNonzero from to) ∷ steps) at world words = Goes (at_steps (led true (at (Register from)) steps (place code to)) at world words)
does arity code (One (IfZero from to) ∷ steps) at world words = Goes (at_steps (led false (at (Register from)) steps (place code to)) at world words)
does arity code (One (Copy m) ∷ steps) at world words = Goes (at_steps steps (put (target m) (at (source m)) at) world words)
does arity code (One (Const to word) ∷ steps) at world words = Goes (at_steps steps (put (Register to) word at) world words)
does arity code (One (Unary operator to from) ∷ steps) at world words = Goes (at_steps steps (put (Register to) (apply_unary operator (at (Register from))) at) world words)
does arity code (One (Binary operator to left right) ∷ steps) at world words =
    tried (apply_binary operator (at (Register left)) (at (Register right))) (λ word. Goes (at_steps steps (put (Register to) word at) world words))
does arity code (One (Load width object to index) ∷ steps) at world words =
    tried (element world width object (at (Register index))) (λ word. Goes (at_steps steps (put (Register to) word at) world words))
does arity code (One (Store width object index from) ∷ steps) at world words =
    tried (stored world width object (at (Register index)) (at (Register from))) (λ changed. Goes (at_steps steps at changed words))
does arity code (One (Call function) ∷ steps) at world words =
    Calls (record { function = function; arguments = words_from first_argument (arity function) at; world = world }) (steps_after_answer steps at words)
does arity code (One Read ∷ steps) at world words =
    Goes (at_steps steps (put result_location (next_word world) (put destroyed_location (unknown_word words) at)) (after_read world) (left_after_word words))
does arity code (One Write ∷ steps) at world words =
    Goes (at_steps steps (put destroyed_location (unknown_word words) at) (after_write (at result_location) world) (left_after_word words))
does arity code (One Return ∷ steps) at world words = Returns (record { value = at result_location; world = world })
does arity code (Immediate operator to from word ∷ steps) at world words =
    tried (apply_immediate operator (at (Register from)) word) (λ v. Goes (at_steps steps (put (Register to) v at) world words))
does arity code (LoadAt width object to number ∷ steps) at world words =
    tried (element world width object number) (λ word. Goes (at_steps steps (put (Register to) word at) world words))
does arity code (StoreAt width object number from ∷ steps) at world words =
    tried (stored world width object number (at (Register from))) (λ changed. Goes (at_steps steps at changed words))
does arity code (LoadNear width object to index word ∷ steps) at world words =
    tried (element world width object (add (at (Register index)) word)) (λ word. Goes (at_steps steps (put (Register to) word at) world words))
does arity code (StoreNear width object index word from ∷ steps) at world words =
    tried (stored world width object (add (at (Register index)) word) (at (Register from))) (λ changed. Goes (at_steps steps at changed words))
does arity code (Branch operator nonzero left right to ∷ steps) at world words =
    tried (apply_binary operator (at (Register left)) (at (Register right))) (λ word. Goes (at_steps (led nonzero word steps (place code to)) at world words))
does arity code (BranchImmediate operator nonzero from word to ∷ steps) at world words =
    tried (apply_immediate operator (at (Register from)) word) (λ v. Goes (at_steps (led nonzero v steps (place code to)) at world words))

abbrev pub selected_move : (arity : ℕ → ℕ) → List Step → Configuration → Moving Configuration
selected_move arity code c = does arity code c.steps c.locations c.world c.words

-- what has been written so far
abbrev pub selected_output : Configuration → List ℕ
selected_output c = c.world.output

-- the start of a run of a function with this many slots
abbrev pub selected_start : (slots : ℕ) → List Step → (words arguments : List ℕ) → World → Configuration
selected_start slots code words arguments world = at_steps code (at_entry slots words arguments) world (left_after_entry slots words)
