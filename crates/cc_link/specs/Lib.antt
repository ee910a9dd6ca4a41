-- which texts are programs, and why the others are not
pub mod Text
-- when an image agrees with a text
pub mod Agree
-- the image that pieces make
pub mod Link
-- the words of objects in an image
pub mod Packed
-- the certificate that LTL makes
pub mod Certificate
-- why pieces are refused, and otherwise the unit that they make
pub mod Linked
-- how much stack an image takes, and that it follows its program on a board that backs this much
pub mod Stack
-- the unit that pieces make agrees with its text
pub mod Laws
-- which text and which functions some pieces belong to
pub mod Pieces
-- what a compiled unit was made of
pub mod Made
-- what a text was compiled to, with the tree and the pieces that it was made of
pub mod Whole
-- what an audit says
pub mod Audit
-- the numbers of the faults
pub mod Fault
-- why a function has no piece, and why a text has no image
pub mod Compile
-- definitions that no promise rests on
pub mod internal
-- Pages of lower crates that clauses here cite, re-exported.
pub use Rattle.cc_c_semantics.specs.Meaning
