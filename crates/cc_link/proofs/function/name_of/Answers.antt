use Rattle.std.proofs.Common.{rules, refl}
use Rattle.cc_ast.specs.Source.{source}
use Rattle.cc_ast.specs.Erase.{signature_tree, statements_of, name_tree}
use Rattle.cc_link.proofs.Names.{named}
use Rattle.cc_link.proofs.function.name_of.Goals as goal

pub returns : goal.returns
returns c =
    let d = c.definition.result in
    (name_tree d.signature.now.name, named (source c.args.unit.now).externals c.args.function (signature_tree d.signature.now) (statements_of d.body.now) c.definition.ensures, refl, search rules)
