-- The bytes of a record, written one after another, are its line.
pub mod Written
-- Reading the digits of bytes.
pub mod Digits
-- Reading the line of a record.
pub mod Lines
-- When the base address moves.
pub mod Bases
-- Reading rows of bytes.
pub mod Rows
-- Reading the text of an image.
pub mod Whole
-- The bytes of an image in order are the bytes at its addresses.
pub mod Addresses
