-- the language: its syntax, and what one move does
pub mod Cminor
-- the Cminor that the code's values represent
pub mod Code
-- the Cminor that a list of statements represents
pub mod Statements
-- the numbers in code
pub mod Numbers
-- runs that reach something they cannot do
pub mod Breaks
-- each exit leaves blocks that exist
pub mod Exits
-- how many variables code uses
pub mod Variables
-- what a pair guarantees
pub mod Pair
-- how many statements and expressions code has, compared with the tokens of the definition
pub mod Size
-- the number of the fault
pub mod Fault
