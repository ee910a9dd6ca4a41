-- What the program answers for a text, and why it answers nothing.
pub mod Answer
-- The numbers and the places of the faults.
pub mod Fault
-- What is written for a text, byte for byte.
pub mod Written
-- What becomes of a text whose run goes on while its input comes.
pub mod Live
-- What is taken out of a library, and why nothing is.
pub mod Part
-- What only private contracts use.
pub mod internal
