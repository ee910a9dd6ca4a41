-- a text without character constants and `#define`
pub mod Plain
-- tokens one after another
pub mod Lexing
-- a text with defined names replaced
pub mod Macros
-- the numbers of enumerators
pub mod Numbers
-- a text with names of types replaced
pub mod Names
-- a text without qualifiers, and with marks for `switch`
pub mod Marks
-- a marked tree as a program of wide C
pub mod Forms
-- what a switch may be
pub mod Rules
-- which program a text is
pub mod Program
-- definitions that no promise depends on
pub mod internal
