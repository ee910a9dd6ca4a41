-- the numbers of the faults
pub mod Fault
-- the names of functions
pub mod Named
