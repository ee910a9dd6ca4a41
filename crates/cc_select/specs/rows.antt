-- constants, dead constants, comparisons and their tests
pub mod Selected
-- tests before labels
pub mod Threading
