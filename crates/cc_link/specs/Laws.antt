-- What linking promises by its definitions alone. Each law here is the contract of a function of this crate.
use Rattle.std.specs.Prelude.{◌≡◌, ℕ, List, All, Some, Ok, length}
use Rattle.cc_ast.specs.Tree.{External, Source}
use Rattle.cc_ast.specs.Parse.{SpellsText}
use Rattle.cc_types.specs.Checked.{IsChecked}
use Rattle.cc_c_semantics.specs.Meaning.{functions}
use Rattle.cc_c_semantics.specs.declared.mode.Mode.{Mode}
use Rattle.cc_c_semantics.specs.declared.mode.Mode.TheVariants.{Plain}
use Rattle.cc_unit.specs.declared.unit.StoredUnit.{StoredUnit}
use Rattle.cc_emit.specs.Piece.{Piece, IsPieceOfUnit}
use Rattle.cc_link.specs.Agree.{Agree, AgreeIn, WordsAgreement, WordsAgreementIn}
use Rattle.cc_link.specs.Certificate.{SpellsAll, EachKeepsUpIn}
use Rattle.cc_link.specs.Linked.{linked, linked_in}
use Rattle.cc_link.specs.Made.{IsMadeIn}
use Rattle.cc_rv32.specs.declared.image.Image.{Image}

-- the unit that pieces make for a checked unit has the checked unit's text, and its image agrees with this text
abbrev pub LinkedUnitsAgree : Type 0
LinkedUnitsAgree = (s : Source) (pieces : List Piece) (u : StoredUnit) → ∥ SpellsText s.text s.externals ∥₁ → IsChecked s → All IsPieceOfUnit pieces → linked s pieces ≡ Ok u
    → (u.source ≡ s.text) × Agree s.text u.image

-- In each mode: the unit that pieces make for a checked unit in the mode has the checked unit's text, and on each input the run
-- of its image follows what the program shows in the mode. For checked pieces, the program shows `checked_behavior`.
abbrev pub LinkedUnitsFollow : Type 0
LinkedUnitsFollow = (mode : Mode) (s : Source) (pieces : List Piece) (u : StoredUnit) → ∥ SpellsText s.text s.externals ∥₁ → IsChecked s → All IsPieceOfUnit pieces → linked_in mode s pieces ≡ Ok u
    → (u.source ≡ s.text) × AgreeIn mode s.text u.image

-- an image that agrees with its text in some mode agrees with its text
abbrev pub AgreeInAgree : Type 0
AgreeInAgree = (mode : Mode) (text : List ℕ) (image : Image) → AgreeIn mode text image → Agree text image

-- an image that agrees with a text agrees with it in words, also in each mode
abbrev pub AgreeInWords : Type 0
AgreeInWords = (text : List ℕ) (image : Image) → Agree text image → ∥ WordsAgreement text image ∥₁

abbrev pub AgreeInModeInWords : Type 0
AgreeInModeInWords = (mode : Mode) (text : List ℕ) (image : Image) → AgreeIn mode text image → ∥ WordsAgreementIn mode text image ∥₁

-- the certificate spells an LTL function for each function of the unit's text, whose run keeps up with that function
pub record IsCertifiedIn (mode : Mode) (u : StoredUnit) : Type 0 where
  pub tree : List External
  pub spelled : ∥ SpellsText u.source tree ∥₁
  pub certificate : List ℕ
  pub is : u.certificate ≡ Some certificate
  pub spells : SpellsAll certificate (length (functions tree))
  pub keep_up : ∥ EachKeepsUpIn mode tree spells.ltls ∥₁

abbrev pub IsCertified : StoredUnit → Type 0
IsCertified u = IsCertifiedIn Plain u

abbrev pub UnitsAreCertifiedIn : Type 0
UnitsAreCertifiedIn = (mode : Mode) (u : StoredUnit) → IsMadeIn mode u → IsCertifiedIn mode u

abbrev pub MadeUnitsAreCertified : Type 0
MadeUnitsAreCertified = (u : StoredUnit) → IsMadeIn Plain u → IsCertified u
