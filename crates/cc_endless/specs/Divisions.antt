-- A program that shows why lists are not enough. It divides 100 by each word that it reads, for ever. On every list of words it goes wrong,
-- at the first zero or at the list's end, so `Follows` on lists promises little of its image. On an endless input without a zero it goes on
-- for ever, and so does each image that agrees with it.
use Rattle.std.specs.Prelude.{◌≡◌, ◌≢◌, ℕ, List, [], ◌∷◌, Some, None, codes}
use Rattle.cc_ast.specs.Tree as tree
use Rattle.cc_ast.specs.Tree.{Name, Source}
use Rattle.cc_ast.specs.Parse.{SpellsText}
use Rattle.cc_ast.specs.scalar.Scalar.TheVariants.{Int}
use Rattle.cc_ast.specs.declared.ast.BinaryOperator.TheVariants.{Divide}
use Rattle.cc_simulation.specs.Behavior.{Going, Wrong, Outcome}
use Rattle.cc_types.specs.Verdict.{source_with}
use Rattle.cc_rv32.specs.declared.image.Image.{Image}
use Rattle.cc_link.specs.Agree.{Agree, image_behavior, program_behavior}
use Rattle.cc_endless.specs.Endless.{AreAllWords, ShowsOn, IsNeverWrong}

abbrev pub name : List ℕ → ℕ → Name
name text at = record { text = text; at = at }

-- 100/read_word()
abbrev pub division : tree.Expr
division = tree.Binary Divide (tree.Number Int 100) (tree.Call (name (codes "read_word") 26) tree.none)

-- int main(void){for(;;)100/read_word();}
abbrev pub divisions : Source
divisions = source_with (codes "int main(void){for(;;)100/read_word();}")
    (tree.Definition (record { result = Some Int; name = name (codes "main") 4; parameters = [] })
    (tree.next (tree.For (tree.Performs None) None None (tree.Perform (Some (tree.Evaluate division)))) tree.end) ∷ [])

-- on every list of words the program goes wrong
abbrev pub DivisionsGoWrong : Type 0
DivisionsGoWrong = (input : List ℕ) → (n : ℕ) × ((program_behavior divisions input n).stop ≡ Wrong)

-- at each bound the run is going
abbrev pub GoesOnForEver : (run : List ℕ → ℕ → Outcome ℕ) → (words : ℕ → ℕ) → Type 0
GoesOnForEver run words = (n : ℕ) (o : Outcome ℕ) → ShowsOn run words n o → o.stop ≡ Going

-- on an endless input without a zero the program goes on for ever
abbrev pub DivisionsGoOn : Type 0
DivisionsGoOn = (words : ℕ → ℕ) → ((i : ℕ) → words i ≢ 0) → GoesOnForEver (program_behavior divisions) words

-- so it never goes wrong, for example, if each word is 5
abbrev pub FivesGoOn : Type 0
FivesGoOn = IsNeverWrong (program_behavior divisions) (λ i. 5)

-- there an image that agrees with it goes on for ever too
abbrev pub ImagesOfDivisionsGoOn : Type 0
ImagesOfDivisionsGoOn = (text : List ℕ) (image : Image) → SpellsText text divisions.externals → Agree text image
    → (words : ℕ → ℕ) → AreAllWords words → ((i : ℕ) → words i ≢ 0) → GoesOnForEver (image_behavior image) words
