-- Definitions that only private contracts and proofs use: the resolved form, what it means, and how the interpreter represents a run.
pub mod Form
pub mod FormErase
pub mod Emitted
pub mod Writing
pub mod FormMeaning
pub mod Fusing
pub mod Laid
pub mod Shows
pub mod FusedMeaning
pub mod Ran
