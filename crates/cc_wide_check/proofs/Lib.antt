-- tests of lists, one item after another
pub mod Lists
-- the tests of equal trees hold exactly of equal trees
pub mod Equal
-- the sections of a marked block
pub mod Parts
-- marked switches
pub mod Switches
-- the tests of what is lowered hold exactly of that
pub mod Lowering
-- the choice and the sections of a switch
pub mod Sections
-- groups of sections
pub mod Grouping
-- the rules of labels
pub mod Rules
-- units
pub mod Fitting
-- trees of statements with parts in boxes
pub mod Trees
-- a marked block while it is read
pub mod Reading
-- too few or too many statements
pub mod Few
