-- which functions a body calls, and units whose calls have no cycle
pub mod Cycles
-- what holds for programs whose calls have no cycle
pub mod Laws
