-- In reading order.
-- the numbers of the faults
pub mod Fault
-- what the type of a member keeps
pub mod Member
-- what contracts see of a book, and what the type of a library with its history keeps
pub mod Book
-- what a library is like after its opening
pub mod Opened
-- which answer a call gives in which case, and what it leaves
pub mod Answers
-- how a call changes the bytes of the disk
pub mod Disk
-- the whole promise of a change of a book, and of a compaction
pub mod Changed
-- what a commit that may compact first answers
pub mod Compacting
-- how a book shows a state of the protocol core, and which steps of the core a call is
pub mod Core
-- what a crash at any moment since an earlier call has left
pub mod Since
-- how a book is tied to the theorem of the protocol core
pub mod Tie
-- what the type of a book keeps, and what follows for whatever a crash leaves
pub mod Promise
-- definitions for private contracts
pub mod internal
