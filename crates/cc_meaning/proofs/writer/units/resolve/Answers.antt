-- The result is the form of the unit.
use Rattle.cc_ast.specs.Erase.{external_trees}
use Rattle.cc_meaning.proofs.WritingUnits.{form-is}
use Rattle.cc_meaning.proofs.writer.units.resolve.Goals as goal

pub returns : goal.returns
returns c =
    form-is (external_trees c.args.trees.now) c.in_ok-layout.layout c.resolve_externals-resolved.new.code.items c.resolve_externals-resolved.new.entries.items c.function-main.result c.lay_out.new.words.items
    c.in_ok-resolved.ensures.code c.in_ok-resolved.ensures.entries c.in_ok-layout.ensures.answer c.function-main.ensures c.in_ok-layout.ensures.words
