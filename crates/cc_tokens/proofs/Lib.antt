-- How it is proved that a text has at most one list of tokens. The scanner's functions equal functions on lists. The bytes begin
-- with whatever these functions return (Heads), and the functions return whatever the bytes begin with (Complete), so no two
-- tokens are possible. The laws of cuts join the pieces into the tokens of a whole text (Cuts), and each text has tokens or a
-- first error (Total).
-- the steps of the scanner's loops
pub mod Loops
-- the value of a constant, and that capping it is harmless
pub mod ConstantValue
-- facts that hold of every keyword or punctuator, each by cases
pub mod Tables
-- the length of a run, and the first place that a search finds
pub mod Runs
-- the constant that is found is the one that is spelled
pub mod ConstantForms
-- the longest token is found, given the first byte
pub mod Words
-- the punctuator that is found is the longest
pub mod Punctuators
-- a search needs only the keywords or punctuators with the right first byte
pub mod Few
-- the scanner finds a comment and the first line splice in it
pub mod Comments
-- the bytes begin with what the scanner returns
pub mod Heads
-- the scanner returns what the bytes begin with
pub mod Complete
-- a text can be cut in only one way
pub mod Cuts
-- what `tokens` has found before an offset
pub mod Found
-- every text has tokens or a first error
pub mod Total
-- worked texts, with their tokens or their first error
pub mod TokenRows
