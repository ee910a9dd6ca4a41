-- Linear: the code of a function as one list of moves and operations over machine registers and slots, with labels, jumps and branches,
-- and what one item does.
use Rattle.std.specs.Prelude.{◌≢◌, ℕ, ◌<◌, ◌≤◌, ◌==◌, if◌then◌else◌, List, [], ◌∷◌, Contains}
use Rattle.std.specs.List.{AllByRecursion, AllPairs}
use Rattle.cc_words.specs.Operators.{apply_unary, apply_binary}
use Rattle.cc_simulation.specs.World.{World, Answer, element, stored, next_word, after_read, after_write}
use Rattle.cc_simulation.specs.Unknown.{unknown_word, left_after_entry, left_after_call, left_after_word}
use Rattle.cc_simulation.specs.Run.{Move as Moving, Goes, Calls, Returns, Fails, tried}
use Rattle.cc_ltl.specs.declared.location.Location.TheVariants.{Register}
use Rattle.cc_ltl.specs.Registers.{IsAllocatable, most_slots}
use Rattle.cc_ltl.specs.Ltl.{IsWord, IsMove, Locations, put, target, source, first_argument, result_location, destroyed_location, words_from, after_call, at_entry}
use Rattle.cc_linear_language.specs.declared.item.LinearItem.{LinearItem}
use Rattle.cc_linear_language.specs.declared.item.LinearItem.TheVariants.{Label, Jump, IfNonzero, IfZero, Copy, Const, Unary, Binary, Load, Store, Call, Read, Write, Return}

-- ---- which functions there are

-- the labels that are in a list
abbrev pub labels : List LinearItem → List ℕ
labels [] = []
labels (Label label ∷ items) = label ∷ labels items
labels (item ∷ items) = labels items

-- an item of a function with this many slots, in a unit with this many functions: jumps and branches lead to labels of the list
abbrev pub IsItem : (slots functions : ℕ) → (labels : List ℕ) → LinearItem → Type 0
IsItem slots functions labels (Label label) = Unit {0}
IsItem slots functions labels (Jump to) = Contains labels to
IsItem slots functions labels (IfNonzero from to) = IsAllocatable from × Contains labels to
IsItem slots functions labels (IfZero from to) = IsAllocatable from × Contains labels to
IsItem slots functions labels (Copy m) = IsMove slots m
IsItem slots functions labels (Const to word) = IsAllocatable to × IsWord word
IsItem slots functions labels (Unary operator to from) = IsAllocatable to × IsAllocatable from
IsItem slots functions labels (Binary operator to left right) = IsAllocatable to × IsAllocatable left × IsAllocatable right
IsItem slots functions labels (Load width object to index) = IsWord object × IsAllocatable to × IsAllocatable index
IsItem slots functions labels (Store width object index from) = IsWord object × IsAllocatable index × IsAllocatable from
IsItem slots functions labels (Call function) = function < functions
IsItem slots functions labels Read = Unit {0}
IsItem slots functions labels Write = Unit {0}
IsItem slots functions labels Return = Unit {0}

-- there are few enough slots, no label occurs twice, and each item is an item of a function with these slots
pub record IsLinear (slots functions : ℕ) (items : List LinearItem) : Type 0 where
  pub few : slots ≤ most_slots
  pub distinct : AllPairs (λ (a b : ℕ). a ≢ b) (labels items)
  pub fit : AllByRecursion (IsItem slots functions (labels items)) items

-- ---- what one item does

-- the state of a run: the items from the next one on, the words of the locations, the shared world, and the words that unknown locations
-- will hold
pub record Configuration : Type 0 where
  pub items : List LinearItem
  pub locations : Locations
  pub world : World
  pub words : List ℕ

abbrev pub at_items : List LinearItem → Locations → World → (words : List ℕ) → Configuration
at_items items at world words = record { items = items; locations = at; world = world; words = words }

-- the place of a label: the items from its first occurrence on, or no items if it does not occur
abbrev pub place : List LinearItem → (label : ℕ) → List LinearItem
place [] label = []
place (Label other ∷ items) label = if other == label then Label other ∷ items else place items label
place (item ∷ items) label = place items label

-- after a call's answer: what the call destroys is unknown, and the answer's value is the result
abbrev pub items_after_answer : List LinearItem → Locations → (words : List ℕ) → Answer → Configuration
items_after_answer items at words a = at_items items (put result_location a.value (after_call words at)) a.world (left_after_call words)

-- What the next item does; `code` has all the items, and `arity` says how many parameters each function has. A label is not a move: the
-- item after it is executed. A run goes wrong after the last item, and if a jump leads to no place.
abbrev pub does : (arity : ℕ → ℕ) → (code : List LinearItem) → List LinearItem → Locations → World → (words : List ℕ) → Moving Configuration
does arity code [] at world words = Fails
does arity code (Label label ∷ items) at world words = does arity code items at world words
does arity code (Jump to ∷ items) at world words = Goes (at_items (place code to) at world words)
does arity code (IfNonzero from to ∷ items) at world words = Goes (at_items (if at (Register from) == 0 then items else place code to) at world words)
does arity code (IfZero from to ∷ items) at world words = Goes (at_items (if at (Register from) == 0 then place code to else items) at world words)
does arity code (Copy m ∷ items) at world words = Goes (at_items items (put (target m) (at (source m)) at) world words)
does arity code (Const to word ∷ items) at world words = Goes (at_items items (put (Register to) word at) world words)
does arity code (Unary operator to from ∷ items) at world words = Goes (at_items items (put (Register to) (apply_unary operator (at (Register from))) at) world words)
does arity code (Binary operator to left right ∷ items) at world words =
    tried (apply_binary operator (at (Register left)) (at (Register right))) (λ word. Goes (at_items items (put (Register to) word at) world words))
does arity code (Load width object to index ∷ items) at world words =
    tried (element world width object (at (Register index))) (λ word. Goes (at_items items (put (Register to) word at) world words))
does arity code (Store width object index from ∷ items) at world words =
    tried (stored world width object (at (Register index)) (at (Register from))) (λ changed. Goes (at_items items at changed words))
does arity code (Call function ∷ items) at world words =
    Calls (record { function = function; arguments = words_from first_argument (arity function) at; world = world }) (items_after_answer items at words)
does arity code (Read ∷ items) at world words =
    Goes (at_items items (put result_location (next_word world) (put destroyed_location (unknown_word words) at)) (after_read world) (left_after_word words))
does arity code (Write ∷ items) at world words =
    Goes (at_items items (put destroyed_location (unknown_word words) at) (after_write (at result_location) world) (left_after_word words))
does arity code (Return ∷ items) at world words = Returns (record { value = at result_location; world = world })

abbrev pub linear_move : (arity : ℕ → ℕ) → List LinearItem → Configuration → Moving Configuration
linear_move arity code c = does arity code c.items c.locations c.world c.words

-- what has been written so far
abbrev pub linear_output : Configuration → List ℕ
linear_output c = c.world.output

-- the start of a run of a function with this many slots
abbrev pub linear_start : (slots : ℕ) → List LinearItem → (words arguments : List ℕ) → World → Configuration
linear_start slots code words arguments world = at_items code (at_entry slots words arguments) world (left_after_entry slots words)
