-- Units in which no function needs a guard: their source goes wrong only because calls are nested too deep.
use Rattle.std.specs.Prelude.{◌≡◌, ℕ, ◌^◌, ◌<◌, List, [], ◌∷◌, length}
use Rattle.cc_ast.specs.Tree.{External, Source}
use Rattle.cc_types.specs.Typed.{IsTyped}
use Rattle.cc_simulation.specs.World.{IsWorld}
use Rattle.cc_c_semantics.specs.Outcome.{Wrong}
use Rattle.cc_c_semantics.specs.Meaning.{functions, source_behavior}
use Rattle.cc_c_semantics.specs.Calls.{first_shared}
use Rattle.cc_c_semantics.specs.Numbered.{world_of, objects_in}
use Rattle.cc_c_semantics.specs.declared.cause.Cause.{Cause}
use Rattle.cc_c_semantics.specs.declared.cause.Cause.TheVariants.{Depth}
use Rattle.cc_c_semantics.specs.declared.mode.Mode.TheVariants.{Checked}
use Rattle.cc_cminor_language.specs.Cminor.{Expression, Constant, Local, Unary, Binary, Load, Statement, Skip, Set, Store, Call, Read, Write, Sequence, If, Loop, Block, Exit, Return}
use Rattle.cc_cminor_language.specs.Pair.{AreCalls, KeepsUp, GoesWrong}

-- ---- the constants of code are words

abbrev pub ConstantsFit : Expression → Type 0
ConstantsFit (Constant w) = w < 2 ^ 32
ConstantsFit (Local x) = Unit {0}
ConstantsFit (Unary op e) = ConstantsFit e
ConstantsFit (Binary op a b) = ConstantsFit a × ConstantsFit b
ConstantsFit (Load width o e) = ConstantsFit e

abbrev pub AllConstantsFit : List Expression → Type 0
AllConstantsFit [] = Unit {0}
AllConstantsFit (e ∷ es) = ConstantsFit e × AllConstantsFit es

abbrev pub CodeConstantsFit : Statement → Type 0
CodeConstantsFit Skip = Unit {0}
CodeConstantsFit (Set x e) = ConstantsFit e
CodeConstantsFit (Store width o i e) = ConstantsFit i × ConstantsFit e
CodeConstantsFit (Call to f es) = AllConstantsFit es
CodeConstantsFit (Read to) = Unit {0}
CodeConstantsFit (Write e) = ConstantsFit e
CodeConstantsFit (Sequence s t) = CodeConstantsFit s × CodeConstantsFit t
CodeConstantsFit (If e s t) = ConstantsFit e × CodeConstantsFit s × CodeConstantsFit t
CodeConstantsFit (Loop s) = CodeConstantsFit s
CodeConstantsFit (Block s) = CodeConstantsFit s
CodeConstantsFit (Exit k) = Unit {0}
CodeConstantsFit (Return e) = ConstantsFit e

-- ---- code that needs no guard

-- The code of a function that needs no guard. Unchanged, it keeps up with the checked function, which runs for ever if the
-- function goes wrong; and the code goes wrong if the function does.
pub record NeedsNoGuard (unit : List External) (f : ℕ) (s : Statement) : Type 0 where
  pub calls : AreCalls unit s
  pub constants : CodeConstantsFit s
  pub keeps_up : KeepsUp Checked unit f s
  pub goes_wrong : GoesWrong unit f s

-- each function of a unit has code that needs no guard
abbrev pub NoneNeedsGuard : List External → Type 0
NoneNeedsGuard unit = (f : ℕ) → f < length (functions unit) → (s : Statement) × NeedsNoGuard unit f s

-- A typed unit in which no function needs a guard never goes wrong in a division, a shift or an index, on any input and at any
-- bound: it goes wrong only because calls are nested too deep. The world that the functions share before the run is a world of
-- words, since the initial values and the input are words.
abbrev pub OnlyDepthIsLeft : Type 0
OnlyDepthIsLeft = (source : Source) → IsTyped source.externals → NoneNeedsGuard source.externals → (input : List ℕ) → IsWorld (objects_in source.externals) (world_of (first_shared source.externals input))
    → (n : ℕ) (cause : Cause) → (source_behavior source input n).stop ≡ Wrong cause → cause ≡ Depth
