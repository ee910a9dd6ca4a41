-- How the queue's rule is kept (specs/Rule): as multisets, what all passes have sent is what they have taken together with what the queue
-- holds. Each of six kinds of step keeps it: a send, a send that fails, a receive, a receive that fails, splitting a pass off and joining
-- it again. The pool's own pass counts splits and joins, so it knows when no other pass is left, and `finish` answers the lists of that
-- pass.
--
-- what goes to a worker may go to another thread
pub mod Crossing
-- lists with one more item
pub mod Lists
-- lists that weigh the same have the same items
pub mod Multisets
-- pieces of a text, from a given function on
pub mod Pieces
-- a refusal names a function of the text
pub mod Refusals
-- each of the six kinds of step keeps the rule
pub mod Rules
-- threads may share a pool
pub mod Sharing
-- the ends of a ruled channel may cross threads if its messages may
pub mod Channels
