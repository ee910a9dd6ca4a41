-- Writing a word of a row through its slice.
pub mod Written
-- What a row holds after one of its words has changed, and when one row's words lie within another's.
pub mod Bits
-- The numbers of a table's bits.
pub mod Keys
-- What a table holds after its words have changed.
pub mod Tables
-- Moving the bits of one word of a row to another row.
pub mod Words
-- Loops over the rows or the columns of a table.
pub mod Lines
