-- What the functions of a unit and its image need.
use Rattle.std.specs.Prelude.{◌≡◌, ℕ, suc, ◌*◌, List, [], ◌∷◌, length, map}
use Rattle.cc_ast.specs.Tree.{External}
use Rattle.cc_c_semantics.specs.Calls.{main_of}
use Rattle.cc_rv32.specs.declared.image.Image.{Image}
use Rattle.cc_emit.specs.Contract.{most_open}
use Rattle.cc_emit.specs.Piece.{Piece}
use Rattle.cc_link.specs.Linked.{ordered, all_items}
use Rattle.cc_link.specs.Stack.{need, stack_of}
use Rattle.cc_size.specs.Cycles.{AreCyclic}
use Rattle.cc_size.specs.declared.size.FunctionSize.{FunctionSize}
use Rattle.cc_size.specs.declared.size.UnitSize.{UnitSize}

-- the frames of these pieces
abbrev pub frames_of : List Piece → List ℕ
frames_of ps = map (λ (p : Piece). p.frame) ps

-- the number 1 for each piece: by this table, what a call needs is how many calls are open at most, including itself
abbrev pub ones_of : List Piece → List ℕ
ones_of ps = map (λ (p : Piece). 1) ps

-- how many bytes of stack a call of function f uses at most, and how many calls are open in it at most; both as deep as calls may go
abbrev pub stack_at : List Piece → (f : ℕ) → ℕ
stack_at ps f = need (frames_of ps) (all_items ps) most_open f

abbrev pub calls_at : List Piece → (f : ℕ) → ℕ
calls_at ps f = need (ones_of ps) (all_items ps) most_open f

-- what the functions need, from function f on; `all` has the pieces of all functions
abbrev pub sizes_from : (all : List Piece) → (f : ℕ) → List Piece → List FunctionSize
sizes_from all f [] = []
sizes_from all f (p ∷ ps) = record { words = length p.items; frame = p.frame; stack = stack_at all f; calls = calls_at all f } ∷ sizes_from all (suc f) ps

-- what the functions need, for pieces in the order of definitions
abbrev pub sizes_of : List Piece → List FunctionSize
sizes_of ps = sizes_from ps 0 ps

-- What a unit made from these pieces needs: each of its functions, in the order of definitions; the words of its code and the bytes of its
-- globals; which calls are part of cycles; how many calls are open at most, including that of main, and how many bytes of stack they use.
pub record IsSize (unit : List External) (pieces : List Piece) (image : Image) (s : UnitSize) : Type 0 where
  pub functions : s.functions.items ≡ sizes_of (ordered unit pieces)
  pub code : s.code ≡ length image.code
  pub globals : s.globals ≡ 4 * length image.globals
  pub recursions : AreCyclic (all_items (ordered unit pieces)) s.recursions.items
  pub calls : s.calls ≡ calls_at (ordered unit pieces) (main_of unit)
  pub stack : s.stack ≡ stack_of unit pieces
