-- Definitions for private contracts.
-- what is answered under the lock
pub mod Under
