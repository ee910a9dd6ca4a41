-- The number of steps of a run.
pub mod Count
-- What a run reads and writes, word by word, and the lines for it.
pub mod Observed
-- What only private contracts use.
pub mod internal
