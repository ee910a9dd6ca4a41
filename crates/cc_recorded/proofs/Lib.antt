-- How the book is proved. There are two layers. For the library with its history, one relation says what each call answers and how it
-- changes the disk's bytes, whatever the exit (Committing). The book around it has one goal for each call: its tie to the core goes on, by
-- a lemma over those relations (Tying, Sinces). A commit is some steps of the core, by cases on its answer (Cores, Rewriting); what remains
-- is that the bytes and images of the library's disk are those of the core's store (Disks).
--
-- what has to be shown at each exit of a commit
pub mod Committing
-- the core's store still shows the library's disk after the steps of a commit
pub mod Disks
-- what a commit answers is what the core does
pub mod Cores
-- a book over an opened library shows a state of the core
pub mod Beginning
-- what a compaction answers is what the core's rewrite does
pub mod Rewriting
-- how the tie between a book and the core is kept
pub mod Tying
-- whatever a crash has left since an earlier call has all calls up to that call
pub mod Sinces
-- only a device call that fails adds a failed change
pub mod Blaming
-- the core's theorem, for the state that a book shows
pub mod Surviving
-- pieces give the unit of a command
pub mod Putting
-- clients and their members
pub mod Holding
-- a commit after a compaction
pub mod Mending
-- threads may share a service
pub mod Crossing
-- a book may go to another thread
pub mod Sharing
