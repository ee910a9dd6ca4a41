-- How the solver is shown to end at the least solution. At first every node waits. The last node that waits is visited: its facts
-- are joined with what comes back to it, and if they rose, the nodes that lead to it wait again. Facts never exceed a solution
-- that they were below, so the result is least. The room of a value decreases with each rise, so the loop ends.
-- one more edge, in both directions
pub mod Edges
-- the queue and its flags agree
pub mod Queue
-- joins, and facts that rise below every solution
pub mod Joins
