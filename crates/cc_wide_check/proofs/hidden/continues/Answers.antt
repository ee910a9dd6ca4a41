use Rattle.std.proofs.Common.{ap, sym, ◌∙◌}
use Rattle.cc_ast.specs.Erase.{statement_tree}
use Rattle.cc_ast.specs.Tree as tree
use Rattle.cc_ast.specs.scalar.Scalar.TheVariants.{Unsigned}
use Rattle.cc_wide.specs.Places.{bare_statement}
use Rattle.cc_wide.specs.Lowering.{Caught, sets, continuing}
use Rattle.cc_wide_check.specs.internal.Equal.{equal_statement, equal_statements}
use Rattle.cc_wide_check.specs.internal.Views.{around_of}
use Rattle.cc_wide_check.proofs.Reading.{bare_of}
use Rattle.cc_wide_check.proofs.Trees.{block-tree}
use Rattle.cc_wide_check.proofs.hidden.continues.Goals as goal

pub returns-in-Caught-Block : goal.returns-in-Caught-Block
returns-in-Caught-Block c =
    let d = c.in-Caught-Block.local in
    λ at. c.leave.ensures
    ∙ ap (λ l. equal_statements (bare_of l) (tree.next (sets d (tree.Number Unsigned 0)) (tree.next (tree.Break 0) tree.end))) c.as_slice.ensures.value
    ∙ sym (ap (λ a. equal_statement (bare_statement (statement_tree c.args.s.now)) (bare_statement (continuing (around_of a) at))) c.in-Caught-Block.is-0
    ∙ ap (λ s. equal_statement (bare_statement s) (bare_statement (continuing (Caught d) at))) (block-tree c.args.s.now c.in-Caught-Block.all c.in-Caught-Block.is-1))
