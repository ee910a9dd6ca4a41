-- What an image needs, with the names and places of its functions.
use Rattle.std.specs.Prelude.{ℕ, ◌≡◌, ◌+◌, ◌*◌, List, length, take, slice_get, Some, sum_by}
use Rattle.std.specs.Arc.{arc_value}
use Rattle.cc_ast.specs.Source.{source}
use Rattle.cc_ast.specs.Tree.{Source}
use Rattle.cc_types.specs.Typed.{defined_names}
use Rattle.cc_c_semantics.specs.declared.mode.Mode.{Mode}
use Rattle.cc_size.specs.Sized.{IsSizedIn}
use Rattle.cc_size.specs.declared.recursion.Recursion.{Recursion}
use Rattle.cc_size.specs.declared.size.FunctionSize.{FunctionSize}
use Rattle.cc_findings.specs.declared.sizing.CyclicCall.{CyclicCall}
use Rattle.cc_findings.specs.declared.sizing.Measure.{Measure}
use Rattle.cc_findings.specs.declared.sizing.SizedFunction.{SizedFunction}

-- the first function comes after the three words that call main and exit, and each other function directly after the one before it
abbrev pub place_by : List FunctionSize → (f : ℕ) → ℕ
place_by sizes f = 0x1000c + 4 * sum_by (λ (size : FunctionSize). size.words) (take f sizes)

-- function f of a program's image: its name, where it is, and what it needs
pub record IsFunction (program : Source) (sizes : List FunctionSize) (f : ℕ) (it : SizedFunction) : Type 0 where
  pub name : slice_get (defined_names program) f ≡ Some it.name.items
  pub size : slice_get sizes f ≡ Some it.size
  pub address : it.address ≡ place_by sizes f

-- all functions of the image, in the order of definitions
pub record AreFunctions (program : Source) (sizes : List FunctionSize) (functions : List SizedFunction) : Type 0 where
  pub count : length functions ≡ length sizes
  pub each : (f : ℕ) (one : SizedFunction) → slice_get functions f ≡ Some one → IsFunction program sizes f one

-- a call that is part of a cycle of calls, number k of those that were found: the names of the calling function and of the called one
pub record IsCycle (program : Source) (calls : List Recursion) (k : ℕ) (it : CyclicCall) : Type 0 where
  pub of : Recursion
  pub call : slice_get calls k ≡ Some of
  pub caller : slice_get (defined_names program) of.caller ≡ Some it.caller.items
  pub called : slice_get (defined_names program) of.called ≡ Some it.called.items

-- all calls that were found
pub record AreCycles (program : Source) (calls : List Recursion) (cycles : List CyclicCall) : Type 0 where
  pub count : length cycles ≡ length calls
  pub each : (k : ℕ) (one : CyclicCall) → slice_get cycles k ≡ Some one → IsCycle program calls k one

-- what an image needs that follows what the text's program shows in the mode; the place of each function; and which calls are
-- parts of cycles of calls
pub record Measures (m : Mode) (text : List ℕ) (it : Measure) : Type 0 where
  pub sized : IsSizedIn m text it.sized
  pub functions : AreFunctions (source (arc_value it.sized.made.typed)) it.sized.size.functions.items it.functions.items
  pub cycles : AreCycles (source (arc_value it.sized.made.typed)) it.sized.size.recursions.items it.cycles.items
