-- What an Intel HEX text says: a reader that is total on all bytes.
pub mod Format
-- The bytes of an image, each at its address.
pub mod Contents
-- The layout of an image's text: its records, in order.
pub mod Layout
-- Worked texts, each by computation. No contract depends on them.
pub mod rows
-- Definitions that only private contracts use.
pub mod internal
