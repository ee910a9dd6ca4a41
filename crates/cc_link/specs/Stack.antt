-- How much stack an image takes: each function's frame and the stack of its callees, as deep as calls may go.
use Rattle.std.specs.Prelude.{◌≡◌, ℕ, zero, suc, ◌+◌, ◌-◌, ◌≤◌, nat_le, if◌then◌else◌, All, List, [], ◌∷◌, get_or, map, Ok}
use Rattle.cc_ast.specs.Tree.{External, Source}
use Rattle.cc_ast.specs.Parse.{SpellsText}
use Rattle.cc_types.specs.Typed.{IsTyped}
use Rattle.cc_types.specs.Checked.{IsChecked}
use Rattle.cc_types.specs.Verdict.{source_with}
use Rattle.cc_c_semantics.specs.Calls.{main_of}
use Rattle.cc_c_semantics.specs.declared.mode.Mode.{Mode}
use Rattle.cc_rv32.specs.declared.image.Image.{Image}
use Rattle.cc_rv32.specs.Machine.{stack_from, stack_to}
use Rattle.cc_simulation.specs.Behavior.{AreWords, Outcome, Follows}
use Rattle.cc_unit.specs.declared.unit.StoredUnit.{StoredUnit}
use Rattle.cc_emit.specs.declared.item.PieceItem.{PieceItem}
use Rattle.cc_emit.specs.declared.item.PieceItem.TheVariants.{Plain, Call, Go}
use Rattle.cc_emit.specs.Contract.{most_open}
use Rattle.cc_emit.specs.Board.{backed_behavior}
use Rattle.cc_emit.specs.Piece.{Piece, IsPieceOfUnit}
use Rattle.cc_link.specs.Agree.{shown, behavior_in}
use Rattle.cc_link.specs.Linked.{ordered, bodies, linked_in}

abbrev pub larger : (a b : ℕ) → ℕ
larger a b = if nat_le a b then b else a

-- the largest value of n for a function that the items call; 0 if they call none
abbrev pub most_called : (n : ℕ → ℕ) → List PieceItem → ℕ
most_called n [] = 0
most_called n (Plain i ∷ items) = most_called n items
most_called n (Call g ∷ items) = larger (n g) (most_called n items)
most_called n (Go k ∷ items) = most_called n items

-- how many bytes of stack a call of function f takes, if `calls` calls may be open, including this one
unfoldable pub need : (frames : List ℕ) (bodies : List (List PieceItem)) → (calls f : ℕ) → ℕ
need frames bodies zero f = 0
need frames bodies (suc calls) f = get_or frames f 0 + most_called (need frames bodies calls) (get_or bodies f [])

-- the frames of a unit's functions, in the order of definitions
abbrev pub frames : List External → List Piece → List ℕ
frames unit pieces = map (λ (p : Piece). p.frame) (ordered unit pieces)

-- how many bytes of stack the image takes
abbrev pub stack_of : List External → List Piece → ℕ
stack_of unit pieces = need (frames unit pieces) (bodies unit pieces) most_open (main_of unit)

-- what an image does on a board that backs this many bytes of stack
abbrev pub backed_image_behavior : (bytes : ℕ) → Image → (input : List ℕ) → ℕ → Outcome ℕ
backed_image_behavior bytes image input m = shown (backed_behavior bytes image input m)

-- like `AgreementIn`, on a board that backs this many bytes of stack
pub record BackedAgreement (mode : Mode) (text : List ℕ) (bytes : ℕ) (image : Image) : Type 0 where
  pub tree : List External
  pub spelled : SpellsText text tree
  pub typed : IsTyped tree
  pub follows : (input : List ℕ) → AreWords input → Follows (behavior_in mode (source_with text tree) input) (backed_image_behavior bytes image input)

-- the image follows its program on each board that backs at least `least` bytes of stack
abbrev pub IsBackedFrom : Mode → (text : List ℕ) (least : ℕ) → Image → Type 0
IsBackedFrom mode text least image = (bytes : ℕ) → least ≤ bytes → bytes ≤ stack_to - stack_from → ∥ BackedAgreement mode text bytes image ∥₁

-- in each mode the image that pieces make follows its program on each board with at least the stack that the image takes
abbrev pub LinkedUnitsAreBacked : Type 0
LinkedUnitsAreBacked = (mode : Mode) (s : Source) (pieces : List Piece) (u : StoredUnit) → ∥ SpellsText s.text s.externals ∥₁ → IsChecked s → All IsPieceOfUnit pieces → linked_in mode s pieces ≡ Ok u
    → IsBackedFrom mode s.text (stack_of s.externals pieces) u.image
