-- What a pair of RTL guarantees: the RTL of one function of a typed unit.
use Rattle.std.specs.Prelude.{◌≡◌, ℕ, suc, ◌<◌, List, length, Some, slice_get}
use Rattle.cc_ast.specs.Tree.{External}
use Rattle.cc_ast.specs.Source.{source}
use Rattle.cc_ast.specs.declared.unit.Unit as parsed
use Rattle.cc_types.specs.Typed.{IsTyped}
use Rattle.cc_c_semantics.specs.Meaning.{functions}
use Rattle.cc_c_semantics.specs.Resolved.{arities}
use Rattle.cc_c_semantics.specs.Numbered.{IsMeaning}
use Rattle.cc_c_semantics.specs.declared.mode.Mode.{Mode}
use Rattle.cc_simulation.specs.Behavior.{Follows}
use Rattle.cc_simulation.specs.World.{World}
use Rattle.cc_simulation.specs.Run.{run}
use Rattle.cc_simulation.specs.Meaning.{Meaning, most_open, IsCall, call_effect, answered}
use Rattle.cc_simulation.specs.Tracks.{Tracks}
use Rattle.cc_rtl_language.specs.Rtl.{Rtl, Node, Nop, Const, Move, Unary, Binary, Load, Store, Call, Read, Write, Branch, Return, IsRtl, node_at, rtl_move, rtl_output, rtl_start}

-- a pair as contracts see it: the mode, the unit, the function's number in the order of definitions, and its RTL
pub record Pair : Type 0 where
  pub mode : Mode
  pub unit : parsed.Unit
  pub function : ℕ
  pub rtl : Rtl

-- the unit's tree
abbrev pub tree_of : Pair → List External
tree_of p = (source p.unit).externals

-- if the node is a call, it calls a function of the unit, with as many arguments as this function has parameters
abbrev pub IsCallOf : List External → Node → Type 0
IsCallOf unit (Nop next) = Unit {0}
IsCallOf unit (Const to word next) = Unit {0}
IsCallOf unit (Move to from next) = Unit {0}
IsCallOf unit (Unary operator to from next) = Unit {0}
IsCallOf unit (Binary operator to left right next) = Unit {0}
IsCallOf unit (Load width object to index next) = Unit {0}
IsCallOf unit (Store width object index from next) = Unit {0}
IsCallOf unit (Call function arguments to next) = slice_get (arities unit) function ≡ Some (length arguments)
IsCallOf unit (Read to next) = Unit {0}
IsCallOf unit (Write from next) = Unit {0}
IsCallOf unit (Branch from first second) = Unit {0}
IsCallOf unit (Return from) = Unit {0}

-- each call among the nodes satisfies `IsCallOf`
abbrev pub AreCalls : List External → Rtl → Type 0
AreCalls unit rtl = (label : ℕ) (node : Node) → node_at rtl.nodes label ≡ Some node → IsCallOf unit node

-- the RTL has the function's parameters
abbrev pub HasParameters : List External → (function : ℕ) → Rtl → Type 0
HasParameters unit f rtl = slice_get (arities unit) f ≡ Some rtl.parameters

-- at some rate the run keeps up with the function
abbrev pub KeepsUp : Mode → List External → (function : ℕ) → Rtl → Type 0
KeepsUp mode unit f rtl = (rate : ℕ) × ((meaning : Meaning) → IsMeaning mode unit meaning → Tracks meaning f rate (rtl_move rtl) rtl_output (rtl_start rtl))

-- at each number of open calls, the run follows the function's body
abbrev pub FollowsFunction : Mode → List External → (function : ℕ) → Rtl → Type 0
FollowsFunction mode unit f rtl =
    (meaning : Meaning) → IsMeaning mode unit meaning → (opened : ℕ) → opened < most_open → (ws : List ℕ) (h : World) → IsCall meaning f ws h
    → Follows (λ n. answered (meaning.body n opened f ws h)) (λ (b : ℕ × ℕ). run (rtl_move rtl) rtl_output (call_effect meaning (suc opened)) b.0 b.1 (rtl_start rtl ws h))

-- what a pair's type guarantees
pub record IsPair (p : Pair) : Type 0 where
  pub typed : IsTyped (tree_of p)
  pub function : p.function < length (functions (tree_of p))
  pub rtl : IsRtl p.rtl
  pub parameters : HasParameters (tree_of p) p.function p.rtl
  pub calls : AreCalls (tree_of p) p.rtl
  pub keeps_up : KeepsUp p.mode (tree_of p) p.function p.rtl
