-- What an audit says about a text, an image and a certificate, whoever made them, and which of the three it does not confirm.
use Rattle.std.specs.Prelude.{◌≡◌, ℕ, ◌<◌, ◌⊎◌, List, length, Option, Some, None}
use Rattle.cc_ast.specs.Tree.{External}
use Rattle.cc_ast.specs.Parse.{SpellsText}
use Rattle.cc_c_semantics.specs.Meaning.{functions}
use Rattle.cc_c_semantics.specs.declared.mode.Mode.{Mode}
use Rattle.cc_c_semantics.specs.declared.mode.Mode.TheVariants.{Plain}
use Rattle.cc_rv32.specs.declared.image.Image.{Image}
use Rattle.cc_link.specs.Agree.{Agree, AgreeIn}
use Rattle.cc_link.specs.Certificate.{SpellsAll, EachKeepsUpIn}
use Rattle.cc_link.specs.Compile.{IsNameAt, HasPieceIn, IsTooLargeIn}
use Rattle.cc_link.specs.Made.{IsMadeIn}
use Rattle.cc_link.specs.Text.{IsProgramText, IsTextRefusal, text_fault_number}
use Rattle.cc_link.specs.Whole.{IsWholeIn}
use Rattle.cc_link.specs.declared.compiled.Compilation.{Compilation}
use Rattle.cc_link.specs.declared.audit_answer.Audit.{Audit}
use Rattle.cc_link.specs.declared.audit_answer.Audit.TheVariants.{Confirmed, NoCertificate, Unconfirmed}
use Rattle.cc_link.specs.declared.audit_answer.FailedPart.{FailedPart}
use Rattle.cc_link.specs.declared.audit_answer.FailedPart.TheVariants as part

-- The image agrees with the text. The certificate spells one LTL function for each function of the text, and the run of each keeps up with
-- its function. So the certificate has an allocation that was shown to be right, and not just any LTL next to a right image. Pieces that
-- were compiled in the mode link to this text, certificate and image: the image is made of their items, and the certificate of their LTL,
-- which keeps up because a piece's type says so. So the image follows what the program shows in the mode, on every input.
pub record IsConfirmedIn (mode : Mode) (text certificate : List ℕ) (image : Image) : Type 0 where
  pub tree : List External
  pub spelled : ∥ SpellsText text tree ∥₁
  pub agrees : Agree text image
  pub follows : AgreeIn mode text image
  pub spells : SpellsAll certificate (length (functions tree))
  pub keep_up : ∥ EachKeepsUpIn mode tree spells.ltls ∥₁
  pub made : IsMadeIn mode (record { source = text; image = image; certificate = Some certificate })

-- an audit reports a missing certificate exactly if there is no certificate, and confirms only what `IsConfirmedIn` says
abbrev pub AuditSaysIn : Mode → (text : List ℕ) → (certificate : Option (List ℕ)) → Image → Audit → Type 0
AuditSaysIn mode text None image audit = audit ≡ NoCertificate
AuditSaysIn mode text (Some certificate) image Confirmed = IsConfirmedIn mode text certificate image
AuditSaysIn mode text (Some certificate) image Unconfirmed = Unit {0}
AuditSaysIn mode text (Some certificate) image NoCertificate = ⊥

-- what an audit says about a plain image
abbrev pub AuditSays : (text : List ℕ) → (certificate : Option (List ℕ)) → Image → Audit → Type 0
AuditSays text certificate image audit = AuditSaysIn Plain text certificate image audit

-- ---- which part is not confirmed

-- the text is a program with a function whose name begins at this offset and has this many bytes; each function before it has a piece
pub record IsFunctionAt (mode : Mode) (text : List ℕ) (at count : ℕ) : Type 0 where
  pub tree : List External
  pub is : IsProgramText text tree
  pub function : ℕ
  pub defined : function < length (functions tree)
  pub name : IsNameAt tree function at count
  pub earlier : (f : ℕ) → f < function → HasPieceIn mode text f

-- the text compiles to a unit with another certificate
pub record HasOtherCertificate (mode : Mode) (text certificate : List ℕ) : Type 0 where
  pub made : Compilation
  pub whole : IsWholeIn mode text made
  pub other : ¬ (made.unit.certificate ≡ Some certificate)

-- the text compiles to a unit with this certificate, but with another image
pub record HasOtherImage (mode : Mode) (text certificate : List ℕ) (image : Image) : Type 0 where
  pub made : Compilation
  pub whole : IsWholeIn mode text made
  pub along : made.unit.certificate ≡ Some certificate
  pub other : ¬ (made.unit.image ≡ image)

-- The part that is named is one that fails: `parse` or `check` refuses the text with this fault (40 is never named); the program
-- defines the function; compiling the text makes another certificate; or it makes another image, or one that is too large.
abbrev pub IsFailedPartIn : Mode → (text certificate : List ℕ) → Image → FailedPart → Type 0
IsFailedPartIn mode text certificate image (part.Text fault) = IsTextRefusal text fault × ¬ (text_fault_number fault ≡ 40)
IsFailedPartIn mode text certificate image (part.Function at count) = IsFunctionAt mode text at count
IsFailedPartIn mode text certificate image part.Certificate = HasOtherCertificate mode text certificate
IsFailedPartIn mode text certificate image part.Image = HasOtherImage mode text certificate image ⊎ IsTooLargeIn mode text
