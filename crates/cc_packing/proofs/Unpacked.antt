-- What an unpacked unit leaves of a disk.
use Rattle.std.proofs.Common.{inl, inr, ℕ, List}
use Rattle.cc_unit.specs.declared.unit.StoredUnit.{StoredUnit}
use Rattle.cc_library.specs.Apply.{Units}
use Rattle.cc_packing.specs.Added.{MayBeAdded}
use Rattle.cc_packing.specs.Unpacked.{IsConfirmedFile, MayBeUnpacked}

-- an image that an Add of the file's unit may leave is one that unpacking may leave
pub may_be_unpacked : (file name : List ℕ) (unit : StoredUnit) (before : List ℕ → Type 0) (old : Units) → IsConfirmedFile file unit → (image : List ℕ) → MayBeAdded before old name unit image → MayBeUnpacked file name before old image
may_be_unpacked file name unit before old is image (inl left) = inl left
may_be_unpacked file name unit before old is image (inr one) = inr (unit, is, one)
