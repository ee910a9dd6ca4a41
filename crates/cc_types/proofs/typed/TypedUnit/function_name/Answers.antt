-- The name with this number is the name of the definition with this number.
use Rattle.std.proofs.Common.{Some, ap, sym, ◌∙◌}
use Rattle.cc_ast.specs.Source.{source}
use Rattle.cc_ast.specs.Erase.{signature_tree, statements_of}
use Rattle.cc_types.proofs.Definitions.{named}
use Rattle.cc_types.proofs.typed.TypedUnit.function_name.Goals as goal

pub returns : goal.returns
returns c =
    let d = c.definition.result in
    named (source c.args.self.now).externals c.args.function (signature_tree d.signature.now) (statements_of d.body.now) c.definition.ensures ∙ ap Some (sym c.as_slice.ensures.value)
