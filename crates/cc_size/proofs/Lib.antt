-- How the table of needs is made.
pub mod Deepening
-- Ways of calls that lead to no function twice.
pub mod Straight
-- How cycles of calls are found.
pub mod Reaching
