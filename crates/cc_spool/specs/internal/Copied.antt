-- What is copied from a reader to a writer, and read on the way.
use Rattle.std.specs.Prelude.{◌≡◌, ◌⊎◌, ◌≤◌, ℕ, List, length, Option, None, Result, Ok, Err}
use Rattle.std.specs.Io.KnownBytes.{Appends, Consumes, IsAtEnd}
use Rattle.cc_spool.specs.Answer.{between, read_bytes}
use Rattle.cc_spool.specs.declared.lines.Lines.{Lines}
use Rattle.cc_spool.specs.declared.submission.Side.{Side}
use Rattle.cc_spool.specs.declared.submission.Side.TheVariants.{Reader, Writer}

-- the reader gave these `count` bytes, the writer got exactly these, and their lines were read; `count` is 0 only at the reader's end
pub record HasPassed (held left old new : Option (List ℕ)) (before after : Lines) (count : ℕ) : Type 0 where
  pub bytes : List ℕ
  pub many : length bytes ≡ count
  pub given : Consumes held left bytes
  pub written : Appends old new bytes
  pub read : after ≡ read_bytes before bytes
  pub none : count ≡ 0 → IsAtEnd left

abbrev pub PassesOn : (held left old new : Option (List ℕ)) (before after : Lines) → Result ℕ Side → Type 0
PassesOn held left old new before after (Ok count) = HasPassed held left old new before after count
PassesOn held left old new before after (Err (Reader why)) = new ≡ old
PassesOn held left old new before after (Err (Writer why)) = Unit {0}

-- the reader gave these bytes, all that it had or `most` of them; the writer got exactly these, and reading them gives `lines`
pub record IsCopied (most : ℕ) (held left old new : Option (List ℕ)) (lines : Lines) : Type 0 where
  pub bytes : List ℕ
  pub given : Consumes held left bytes
  pub whole : IsAtEnd left ⊎ (most ≤ length bytes)
  pub written : Appends old new bytes
  pub read : lines ≡ read_bytes (between None) bytes

-- the bytes are copied; if the reader failed, the writer got some bytes
abbrev pub Copies : (most : ℕ) (held left old new : Option (List ℕ)) → Result Lines Side → Type 0
Copies most held left old new (Ok lines) = IsCopied most held left old new lines
Copies most held left old new (Err (Reader why)) = (begun : List ℕ) × Appends old new begun
Copies most held left old new (Err (Writer why)) = Unit {0}
