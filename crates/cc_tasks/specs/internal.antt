-- What only private contracts use. The program's faults for the stages.
pub mod Stages
-- Why the stages of a text's functions are not shown.
pub mod Shown
-- How far a task got.
pub mod Working
