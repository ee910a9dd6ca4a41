-- Definitions that only private contracts and proofs use.
-- code into which guards can be put
pub mod Fits
-- what remains to be done after a statement
pub mod Next
-- the law that guarded code keeps up
pub mod Laws
-- marks for variables
pub mod Marks
-- guards and sizes as the code writes them
pub mod Written
