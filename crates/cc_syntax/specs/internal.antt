-- Definitions that only private contracts and proofs use.
-- the role of a token in the grammar
pub mod Roles
-- what the parser's functions compute, token by token
pub mod Parser
-- the parser's state in the code, as a state of `Parser`
pub mod ParserView
-- all clauses of `parse` except one, as a relation
pub mod Answer
