-- Guards and sizes as the code writes them.
use Rattle.std.specs.Prelude.{◌≡◌, ℕ, Bool, true, false, ◌||◌, max, List, [], ◌∷◌, ◌++◌, map}
use Rattle.cc_words.specs.declared.operators.Width.{Width}
use Rattle.cc_words.specs.declared.operators.Width.TheVariants.{Byte, Word}
use Rattle.cc_ast.specs.Tree.{Object}
use Rattle.cc_types.specs.Types.{object_elements, object_width}
use Rattle.cc_simulation.specs.World.{Size}
use Rattle.cc_cminor_language.specs.Cminor.{Expression, Statement}
use Rattle.cc_cminor_language.specs.Statements.{statements_of}
use Rattle.cc_guard.specs.declared.known.Limit.{Limit}
use Rattle.cc_guard.specs.declared.sizes.ObjectSize.{ObjectSize}
use Rattle.cc_guard.specs.declared.guards.Guards.{Guards}
use Rattle.cc_guard.specs.declared.guards.Seen.{Seen}
use Rattle.cc_guard.specs.Guard.{Guard, Guarded, guard_code, guards_after, variables_after}

-- ---- sizes

abbrev pub sizes_of : List ObjectSize → List Size
sizes_of sizes = map (λ (s : ObjectSize). record { width = s.width; elements = s.elements }) sizes

-- the sizes that the declarations give
abbrev pub declared_sizes : List Object → List Size
declared_sizes os = map (λ (o : Object). record { width = object_width o; elements = object_elements o }) os

abbrev pub is_byte : Width → Bool
is_byte Byte = true
is_byte Word = false

-- ---- guards

abbrev pub codes : (blocks : ℕ) → List Guard → List Statement
codes b gs = map (guard_code b) gs

-- these guards were added after the earlier ones; they set variables below `upto`, and the bounds `facts` are known after them
pub record Adds (blocks : ℕ) (gs : List Guard) (upto : ℕ) (facts : List Limit) (old new : Guards) : Type 0 where
  pub before : statements_of new.before.items ≡ statements_of old.before.items ++ codes blocks gs
  pub next : new.next ≡ upto
  pub known : new.known.items ≡ facts

-- the guards of an expression, or of a list of expressions, were added
abbrev pub AddsAll : (blocks : ℕ) → Guarded → Guards → Guards → Type 0
AddsAll b g old new = Adds b g.before g.next g.known old new

-- a value as it is now, after the guards written so far
abbrev pub here : Guards → Expression → Guarded
here old e = record { before = []; value = e; next = old.next; known = old.known.items }

-- ---- what was seen of a function's statements

abbrev pub some_of : {A : Type 0} → List A → Bool
some_of [] = false
some_of (x ∷ xs) = true

-- `new` adds what was seen of a statement: whether it has a guard, and how many variables its guards need
pub record Sees (some : Bool) (count : ℕ) (old new : Seen) : Type 0 where
  pub guards : new.guards ≡ (old.guards || some)
  pub variables : new.variables ≡ max old.variables count

abbrev pub SeesStatement : List Size → (n : ℕ) → List Limit → Statement → Seen → Seen → Type 0
SeesStatement objects n ks s old new = Sees (guards_after objects n ks s) (variables_after objects n ks s) old new
