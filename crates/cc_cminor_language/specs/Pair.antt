-- What a pair of Cminor guarantees: the Cminor of one function of a typed unit.
use Rattle.std.specs.Prelude.{◌≡◌, ℕ, suc, ◌<◌, List, length, Some, slice_get}
use Rattle.cc_ast.specs.Tree.{External}
use Rattle.cc_ast.specs.Source.{source}
use Rattle.cc_ast.specs.declared.unit.Unit as parsed
use Rattle.cc_types.specs.Typed.{IsTyped}
use Rattle.cc_c_semantics.specs.Meaning.{functions}
use Rattle.cc_c_semantics.specs.Resolved.{arities}
use Rattle.cc_c_semantics.specs.Numbered.{IsMeaning}
use Rattle.cc_c_semantics.specs.declared.mode.Mode.{Mode}
use Rattle.cc_c_semantics.specs.declared.mode.Mode.TheVariants.{Checked}
use Rattle.cc_simulation.specs.Behavior.{Follows}
use Rattle.cc_simulation.specs.World.{World}
use Rattle.cc_simulation.specs.Run.{run}
use Rattle.cc_simulation.specs.Meaning.{Meaning, most_open, IsCall, call_effect, answered}
use Rattle.cc_simulation.specs.Tracks.{Tracks}
use Rattle.cc_cminor_language.specs.Cminor.{Statement, Skip, Set, Store, Call, Read, Write, Sequence, If, Loop, Block, Exit, Return, cminor_move, cminor_output, cminor_start}
use Rattle.cc_cminor_language.specs.declared.code.Statement as code
use Rattle.cc_cminor_language.specs.Code.{statement_of}
use Rattle.cc_cminor_language.specs.Breaks.{TracksOrBreaks, GoesWrongWith}
use Rattle.cc_cminor_language.specs.Numbers.{StatementFits}

-- a pair as contracts see it: the mode, the unit, the function's number in the order of definitions, and its Cminor
pub record Pair : Type 0 where
  pub mode : Mode
  pub unit : parsed.Unit
  pub function : ℕ
  pub statement : code.Statement

-- the unit's tree
abbrev pub tree_of : Pair → List External
tree_of p = (source p.unit).externals

-- the function's Cminor
abbrev pub code_of : Pair → Statement
code_of p = statement_of p.statement

-- each call is of a function of the unit, with as many arguments as the function has parameters
abbrev pub AreCalls : List External → Statement → Type 0
AreCalls unit Skip = Unit {0}
AreCalls unit (Set x e) = Unit {0}
AreCalls unit (Store width o i e) = Unit {0}
AreCalls unit (Call to f es) = slice_get (arities unit) f ≡ Some (length es)
AreCalls unit (Read to) = Unit {0}
AreCalls unit (Write e) = Unit {0}
AreCalls unit (Sequence a b) = AreCalls unit a × AreCalls unit b
AreCalls unit (If e a b) = AreCalls unit a × AreCalls unit b
AreCalls unit (Loop a) = AreCalls unit a
AreCalls unit (Block a) = AreCalls unit a
AreCalls unit (Exit k) = Unit {0}
AreCalls unit (Return e) = Unit {0}

-- the code's run keeps up with the function, at rate 1: each move pays for at most one step of the source
abbrev pub KeepsUp : Mode → List External → (function : ℕ) → Statement → Type 0
KeepsUp mode unit f s = (meaning : Meaning) → IsMeaning mode unit meaning → Tracks meaning f 1 cminor_move cminor_output (cminor_start s)

-- the code goes wrong as the function does: its run keeps up with the checked function, or breaks with the same output while the
-- function runs for ever
abbrev pub FailsAlike : List External → (function : ℕ) → Statement → Type 0
FailsAlike unit f s = (meaning : Meaning) → IsMeaning Checked unit meaning → TracksOrBreaks meaning f 1 cminor_move cminor_output (cminor_start s)

-- in each mode, the code goes wrong if the function does
abbrev pub GoesWrong : List External → (function : ℕ) → Statement → Type 0
GoesWrong unit f s = (mode : Mode) (meaning : Meaning) → IsMeaning mode unit meaning → GoesWrongWith meaning f cminor_move cminor_output (cminor_start s)

-- for each number of open calls below the limit, the code's run follows the function's body
abbrev pub FollowsFunction : Mode → List External → (function : ℕ) → Statement → Type 0
FollowsFunction mode unit f s =
    (meaning : Meaning) → IsMeaning mode unit meaning → (opened : ℕ) → opened < most_open → (ws : List ℕ) (h : World) → IsCall meaning f ws h
    → Follows (λ n. answered (meaning.body n opened f ws h)) (λ (b : ℕ × ℕ). run cminor_move cminor_output (call_effect meaning (suc opened)) b.0 b.1 (cminor_start s ws h))

-- what a pair's type guarantees
pub record IsPair (p : Pair) : Type 0 where
  pub typed : IsTyped (tree_of p)
  pub function : p.function < length (functions (tree_of p))
  pub calls : AreCalls (tree_of p) (code_of p)
  pub numbers : StatementFits (code_of p)
  pub keeps_up : KeepsUp p.mode (tree_of p) p.function (code_of p)
