-- lines and columns
pub mod Place
-- the numbers and the places of the faults
pub mod Fault
-- a token with its bytes and its offset
pub mod Token
-- how keywords and punctuators are spelled
pub mod Spelling
-- integer constants: what spells them, their values and types
pub mod Constant
-- the tokens of a text; if it can't be split into tokens, its first error and why it is refused
pub mod Tokens
-- reading a text token by token
pub mod Reading
-- definitions that no promise depends on
pub mod internal
