-- What the parameter of a test's service names.
pub mod Named
