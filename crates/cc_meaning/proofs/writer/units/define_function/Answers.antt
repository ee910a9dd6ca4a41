-- After a function the scope is file scope again.
use Rattle.cc_ast.specs.Erase.{signature_tree}
use Rattle.cc_scope.specs.Bindings.{file_of}
use Rattle.cc_types.proofs.Success.{on_ok}
use Rattle.cc_meaning.proofs.WritingUnits.{function-names}
use Rattle.cc_meaning.proofs.writer.units.define_function.Goals as goal

pub returns-clause-names : goal.returns-clause-names
returns-clause-names c =
    on_ok c.finish.result
    (λ e. function-names c.args.names.now c.enter_function.new.names c.statements.new.names c.leave_function.new.names (signature_tree c.args.signature.now) (file_of c.args.names.now.visible) c.requires.locals
    c.in_ok-enter_function.ensures c.in_ok-statements.ensures.names c.leave_function.ensures)
    c.finish.ensures.code
