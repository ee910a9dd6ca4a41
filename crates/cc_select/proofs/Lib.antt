-- How the steps are shown to keep up with the items, pass by pass. With tests before labels: when a run jumps to a label before
-- which a test goes, the other run makes the jump when it makes the test, so one of two moves is matched by nothing (Threaded;
-- Tests shows that labels occur once and that only jumps lead to those labels). With constants in the operations that read them:
-- item and step go hand in hand from the same locations, and what is known about a register holds (Choosing). Without the
-- constants that no step reads: the locations agree on what is live, and each constant that is left out is a move that nothing
-- matches; there are at most as many as the list is long (Lean). A comparison and its branch as one step do two moves, and
-- between them nothing reads the truth value (Fused). The last two need only that the table of live registers is settled. A check
-- finds out whether it is (Settled); no proof depends on how the table was found. A run of the steps is the same whatever the
-- registers that are not live hold (Unread).
--
-- tests on numbers, and truth values
pub mod Basics
-- the table of labels is settled
pub mod Settled
-- lists of steps
pub mod Places
-- operators with a known word
pub mod Forms
-- the steps that may be chosen
pub mod Choices
-- from items to steps
pub mod Choosing
-- accesses to nearby elements
pub mod Nearing
-- what is not live may be anything
pub mod Unread
-- steps made from steps
pub mod Making
-- without the constants that no step reads
pub mod Lean
-- a comparison and its test become one branch
pub mod Fused
-- the steps are those of a function of Selected
pub mod Fit
-- how many parameters a function has
pub mod Parameters
-- what a pair of Selected keeps
pub mod Selecting
-- sets of registers as bits
pub mod Bits
-- known words, as the code keeps them
pub mod Knowing
-- the sweeps over the table of labels
pub mod Sweeping
-- the two passes, one more step at a time
pub mod Passing
-- tests that go before labels
pub mod Tests
-- a run with tests before labels keeps up as it does without them
pub mod Threaded
-- with tests before labels the items are still those of a function
pub mod Threading_fits
-- the table of the tests, as the code makes it
pub mod Gathering
-- from the pass to a pair
pub mod Handing
