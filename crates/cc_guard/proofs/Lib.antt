-- How guarded code is shown to keep up. A recursion on guards shows what they do to the variables, without a run. So the guards
-- of an expression let the run pass exactly if the expression has a value, and after them the guarded expression has that value.
-- A run passes all guards, or one of them stops it and it goes on for ever. One or more moves of the guarded code match each move
-- of the code, so for each cut of a run of the code there is a cut of the guarded run in which at least as much has been done.
--
-- what guards do to the variables
pub mod Passing
-- operations that evidently have a value
pub mod Evident
-- the tests show whether an operation has a value
pub mod Tests
-- a guarded expression has its value after its guards
pub mod Values
-- what is known at a place of the code holds there
pub mod Flow
-- how guarded code follows the original code
pub mod Matching
-- each move of the code is matched
pub mod Moves
-- code without guards is as it was, and never reaches an operation without a value
pub mod Unguarded
-- the whole: guarded code keeps up
pub mod Tracking
-- numbers in guarded code are within their limits
pub mod Numbered
-- guards set few variables
pub mod Few
-- sizes of objects, read from declarations
pub mod Sizing
-- marks of the variables that a statement sets
pub mod Marking
-- code that holds words in variables follows the original code
pub mod Holding
-- code that holds words in variables is written as the definition says
pub mod HeldWriting
-- the pair that the pass makes
pub mod Lowered
-- code whose constants are words computes only words
pub mod Words
-- a unit that needs no guard goes wrong only because calls are nested too deep
pub mod OnlyDepth
-- guards are written as the definition says
pub mod Writing
