-- In which modes an audit confirms a unit.
pub mod Modes
-- What a unit's file has, and the line that names a unit by its hash.
pub mod Packing
-- A unit that is added to the library on a disk.
pub mod Added
-- What becomes of a library into which a unit's file is unpacked.
pub mod Unpacked
