-- a look-up in a map ordered by bytes finds the key that is the same name
pub mod KeyOrder
-- a name keeps its number, and no other name gets it
pub mod NameNumbers
-- what a binding hides comes back when the binding is removed
pub mod Tables
-- a name's number and its position among the bindings
pub mod Numbers
-- the parameters of two functions, one by one
pub mod SameTypes
