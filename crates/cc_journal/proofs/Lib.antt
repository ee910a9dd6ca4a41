-- How a crash is proved to leave the old records or the new ones. For an append there is one lemma for each device call, about what a
-- crash may leave; `goes_on` composes them. In a rewrite the other area does not count in any image while it is written, since the
-- area byte names the old area; the one write of the area byte then leaves the old records or the new ones (Rewriting). So an append
-- and a rewrite are each one commit.
pub mod Records
mod Moments
pub mod Images
mod Steps
pub mod Bytes
pub mod Ahead
pub mod Scan
pub mod Rewriting
mod Kept
