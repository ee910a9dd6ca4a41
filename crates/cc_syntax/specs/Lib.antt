-- The contracts of `parse` and of the laws use the definitions of cc_ast.
-- definitions that no promise depends on
pub mod internal
