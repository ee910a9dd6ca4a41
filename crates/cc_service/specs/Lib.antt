-- In reading order.
-- the numbers of the faults
pub mod Fault
-- what a service begins with
pub mod Named
-- what contracts see of a client
pub mod Client
-- why a text was not compiled
pub mod Compiling
-- the answers of a service's calls, as their clients see them
pub mod Serving
-- the answers of an update, which looks before it changes
pub mod Updating
-- how a change that was answered has changed the book
pub mod Stored
-- how much of its area the library takes
pub mod Space
-- definitions for private contracts
pub mod internal
-- Pages of lower crates that clauses here cite, re-exported.
pub use Rattle.cc_recorded.specs.Book
pub use Rattle.cc_recorded.specs.Fault as BookFault
pub use Rattle.cc_recorded.specs.Opened
pub use Rattle.cc_recorded.specs.Promise
pub use Rattle.cc_recorded.specs.Since
pub use Rattle.cc_recorded.specs.declared.fault as book_fault
