-- Worked examples: what one commit and one rewrite do to a disk, computed.
pub mod OneCommit
pub mod OneRewrite
