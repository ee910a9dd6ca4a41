-- a function's code, item for item, and its run on the machine
pub mod Emitted
