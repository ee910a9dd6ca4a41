-- the wide text that a text carries
pub mod Carried
-- when a text is a translation of a wide text
pub mod Translates
-- the numbers and the places of the faults
pub mod Fault
-- why a wide text is not translated
pub mod Refused
-- definitions that no promise depends on
pub mod internal
