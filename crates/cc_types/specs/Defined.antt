-- The tree of a definition that the code returns.
use Rattle.cc_ast.specs.Tree as tree
use Rattle.cc_ast.specs.Erase.{signature_tree, statements_of}
use Rattle.cc_types.specs.declared.typed.Definition.{Definition}

-- the definition's tree
abbrev pub definition_tree : Definition → tree.External
definition_tree d = tree.Definition (signature_tree d.signature.now) (statements_of d.body.now)
