-- Cminor: numbered word variables, expressions without side effects, and structured statements. Its syntax as data, and what one move
-- does; from these the run of a function follows as in every intermediate language (`Rattle.cc_simulation.specs.Run`).
use Rattle.std.specs.Prelude.{ℕ, zero, suc, ◌==◌, List, [], ◌∷◌, Option, Some, None, if◌then◌else◌, get_or}
use Rattle.cc_words.specs.declared.operators.Unary as one
use Rattle.cc_words.specs.declared.operators.Binary as two
use Rattle.cc_words.specs.declared.operators.Width.{Width}
use Rattle.cc_words.specs.Operators.{apply_unary, apply_binary}
use Rattle.cc_simulation.specs.World.{World, element, stored, next_word, after_read, after_write}
use Rattle.cc_simulation.specs.Run.{Move, Goes, Calls, Returns, Fails, tried}

-- ---- syntax

-- an expression: a word, a variable, an operator with its operands, or an element of an object, with its width
pub data Expression : Type 0 where
  Constant : (word : ℕ) → Expression
  Local : (variable : ℕ) → Expression
  Unary : one.Unary → Expression → Expression
  Binary : two.Binary → Expression → Expression → Expression
  Load : (width : Width) → (object : ℕ) → (index : Expression) → Expression

-- a statement. The result of a call or a read goes into a variable or is dropped; a loop runs for ever; `Exit k` leaves k + 1 blocks.
pub data Statement : Type 0 where
  Skip : Statement
  Set : (variable : ℕ) → Expression → Statement
  Store : (width : Width) → (object : ℕ) → (index value : Expression) → Statement
  Call : (to : Option ℕ) → (function : ℕ) → List Expression → Statement
  Read : (to : Option ℕ) → Statement
  Write : Expression → Statement
  Sequence : Statement → Statement → Statement
  If : Expression → (nonzero otherwise : Statement) → Statement
  Loop : Statement → Statement
  Block : Statement → Statement
  Exit : ℕ → Statement
  Return : Expression → Statement

-- ---- values

-- the word of each variable
abbrev pub Variables : Type 0
Variables = ℕ → ℕ

-- continues with a word if there is one
abbrev pub then_value : {A B : Type 0} → Option A → (A → Option B) → Option B
then_value None go = None
then_value (Some a) go = go a

-- the value of an expression; None if an operator has no value, an index is outside its object, or the object's elements have another width
abbrev pub value : Expression → Variables → World → Option ℕ
value (Constant w) l h = Some w
value (Local i) l h = Some (l i)
value (Unary op e) l h = then_value (value e l h) (λ a. Some (apply_unary op a))
value (Binary op a b) l h = then_value (value a l h) (λ x. then_value (value b l h) (λ y. apply_binary op x y))
value (Load width o e) l h = then_value (value e l h) (λ i. element h width o i)

-- the values of these expressions
abbrev pub values : List Expression → Variables → World → Option (List ℕ)
values [] l h = Some []
values (e ∷ rest) l h = then_value (value e l h) (λ w. then_value (values rest l h) (λ ws. Some (w ∷ ws)))

-- the variables after a word is put into one
abbrev pub put : Variables → (variable word : ℕ) → Variables
put l x w y = if x == y then w else l y

-- the variables after a result is put into one, if there is a variable for it
abbrev pub put_result : Variables → Option ℕ → ℕ → Variables
put_result l None w = l
put_result l (Some x) w = put l x w

-- ---- moves

-- what remains to be done after a statement: nothing, another statement, the next turn of a loop, the end of a block
pub data Continuation : Type 0 where
  Ends : Continuation
  Then : Statement → Continuation → Continuation
  Again : Statement → Continuation → Continuation
  Leaving : Continuation → Continuation

-- the state of a run: a statement, what remains to be done after it, the variables, and what the functions share
pub record Config : Type 0 where
  pub statement : Statement
  pub next : Continuation
  pub variables : Variables
  pub world : World

abbrev pub config : Statement → Continuation → Variables → World → Config
config s κ l h = record { statement = s; next = κ; variables = l; world = h }

-- a statement has ended: the run continues with what remains; at the function's end the value is 0
abbrev pub skips : Continuation → Variables → World → Move Config
skips Ends l h = Returns (record { value = 0; world = h })
skips (Then s κ) l h = Goes (config s κ l h)
skips (Again s κ) l h = Goes (config s (Again s κ) l h)
skips (Leaving κ) l h = Goes (config Skip κ l h)

-- what remains of an exit after it has left one block
abbrev pub left_by : ℕ → Statement
left_by zero = Skip
left_by (suc k) = Exit k

-- an exit leaves the parts of what remains, one by one; at the function's end there is no block to leave
abbrev pub exits : ℕ → Continuation → Variables → World → Move Config
exits k Ends l h = Fails
exits k (Then s κ) l h = Goes (config (Exit k) κ l h)
exits k (Again s κ) l h = Goes (config (Exit k) κ l h)
exits k (Leaving κ) l h = Goes (config (left_by k) κ l h)

-- the first if the word is not 0, else the second
abbrev pub chosen : ℕ → Statement → Statement → Statement
chosen zero a b = b
chosen (suc w) a b = a

-- one statement is one move
abbrev pub moves : Statement → Continuation → Variables → World → Move Config
moves Skip κ l h = skips κ l h
moves (Set x e) κ l h = tried (value e l h) (λ w. Goes (config Skip κ (put l x w) h))
moves (Store width o i e) κ l h = tried (value i l h) (λ j. tried (value e l h) (λ w. tried (stored h width o j w) (λ g. Goes (config Skip κ l g))))
moves (Call to f es) κ l h =
    tried (values es l h) (λ ws. Calls (record { function = f; arguments = ws; world = h }) (λ a. config Skip κ (put_result l to a.value) a.world))
moves (Read to) κ l h = Goes (config Skip κ (put_result l to (next_word h)) (after_read h))
moves (Write e) κ l h = tried (value e l h) (λ w. Goes (config Skip κ l (after_write w h)))
moves (Sequence a b) κ l h = Goes (config a (Then b κ) l h)
moves (If e a b) κ l h = tried (value e l h) (λ w. Goes (config (chosen w a b) κ l h))
moves (Loop a) κ l h = Goes (config a (Again a κ) l h)
moves (Block a) κ l h = Goes (config a (Leaving κ) l h)
moves (Exit k) κ l h = exits k κ l h
moves (Return e) κ l h = tried (value e l h) (λ w. Returns (record { value = w; world = h }))

abbrev pub cminor_move : Config → Move Config
cminor_move c = moves c.statement c.next c.variables c.world

abbrev pub cminor_output : Config → List ℕ
cminor_output c = c.world.output

-- ---- the start of a function

-- variable i is argument i; the others are 0
abbrev pub first_variables : (arguments : List ℕ) → Variables
first_variables ws i = get_or ws i 0

abbrev pub cminor_start : Statement → (arguments : List ℕ) → World → Config
cminor_start s ws h = config s Ends (first_variables ws) h
