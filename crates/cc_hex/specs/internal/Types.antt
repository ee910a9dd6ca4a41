-- The number of a record's type.
use Rattle.std.specs.Prelude.{ℕ}
use Rattle.cc_hex.specs.declared.record.RecordType.{RecordType}
use Rattle.cc_hex.specs.declared.record.RecordType.TheVariants.{Data, EndOfFile, ExtendedLinearAddress}

abbrev pub type_number : RecordType → ℕ
type_number Data = 0
type_number EndOfFile = 1
type_number ExtendedLinearAddress = 4
