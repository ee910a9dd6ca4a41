-- In reading order. The state is `Contents`, over `Core`, in src/contents.rt; what may happen is `Event` in src/event.rt.
--
-- what contracts see of the core's disk
pub mod StoreState
-- a change that carries a source
pub mod Request
-- what a build does, apart from any code
pub mod Rules
-- the numbers of the faults
pub mod Fault
-- the disk: its start, the four device steps of a command and of a rewrite, their failure, and a crash
pub mod Store
-- a client's job: how it begins, and how it ends
pub mod Job
-- one step: what each event does
pub mod Step
-- whole runs, and what holds after any of them
pub mod Run
-- how a run can go on
pub mod Turns
-- worked examples of a commit and a rewrite, computed
pub mod rows
-- for proofs and private contracts
pub mod internal
