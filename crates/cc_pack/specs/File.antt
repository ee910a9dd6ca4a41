-- A unit as a file. Its SHA-256 is that of FIPS 180-4.
use Rattle.std.specs.Prelude.{ℕ, ◌≢◌, List, ◌∷◌, ◌++◌, codes}
use Rattle.hex.specs.Hex.{encode_lower}
use Rattle.sha2.specs.Sha256.{sha256}
use Rattle.cc_pack.specs.declared.file.ConfirmedIn.{ConfirmedIn}
use Rattle.cc_pack.specs.declared.file.ConfirmedIn.TheVariants.{Plain, Checked, Both, Neither}
use Rattle.cc_pack.specs.declared.fault.PackFault.{PackFault}
use Rattle.cc_pack.specs.declared.fault.PackFault.TheVariants.{Damaged, OutOfMemory}

-- the word for the modes in which an audit confirms the unit
abbrev pub mode_word : ConfirmedIn → List ℕ
mode_word Plain = codes "plain"
mode_word Checked = codes "checked"
mode_word Both = codes "both"
mode_word Neither = codes "none"

-- the line, without its newline: the form's name and version, the modes, and the digest of the body in 64 digits, with small letters
abbrev pub line_text : ConfirmedIn → (body : List ℕ) → List ℕ
line_text confirmed body = codes "cclib-unit 1 " ++ mode_word confirmed ++ codes " " ++ encode_lower (sha256 body)

-- the file: the line, a newline, and the body
abbrev pub file_text : ConfirmedIn → (body : List ℕ) → List ℕ
file_text confirmed body = line_text confirmed body ++ 10 ∷ body

-- why nothing is read: the bytes are the file of no body in any mode; or memory ran out
abbrev pub IsUnread : (file : List ℕ) → PackFault → Type 0
IsUnread file Damaged = (confirmed : ConfirmedIn) (body : List ℕ) → file ≢ file_text confirmed body
IsUnread file OutOfMemory = Unit {0}
