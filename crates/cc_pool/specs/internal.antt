-- Definitions for private contracts. First: what the pool's own pass knows once all passes are back.
pub mod AllTaken
-- the fault for a function whose piece did not come
pub mod Reason
