-- sets of three variables, and how a node changes such a set
pub mod Live
