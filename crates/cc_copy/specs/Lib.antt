-- A new library with the units of a map.
pub mod Copy
-- Which units are copied.
pub mod Choice
-- Which units of a disk are selected.
pub mod Selected
-- Definitions that only private contracts use.
pub mod internal
