-- worked guards: tests, evident cases, and values that are put into variables
pub mod Guard
