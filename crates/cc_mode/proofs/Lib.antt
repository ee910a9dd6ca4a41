-- How large code is: how many nodes of RTL guarded code needs (GuardedNodes), with words in variables (HeldNodes), and from this
-- how many tokens its definition has (Tokens).
pub mod HeldNodes
pub mod GuardedNodes
pub mod Tokens
