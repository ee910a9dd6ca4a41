-- Definitions that only private contracts and proofs use.
-- when two trees are equal
pub mod Equal
-- when a program may be lowered
pub mod Lowers
-- what is a switch
pub mod Switches
-- which labels a switch has
pub mod Labels
-- the choice and the sections of a switch
pub mod Sections
-- where the sections of a block begin
pub mod Groups
-- the code's values
pub mod Views
-- units
pub mod Units
