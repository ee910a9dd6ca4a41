use Rattle.std.proofs.Common.{arith}
use Rattle.std.proofs.lemmas.Grind.{common_steps}
use Rattle.cc_ast.specs.Erase.{object_tree}
use Rattle.cc_link.proofs.Packing.{elements_are_bytes}
use Rattle.cc_link.proofs.globals.add_object.Goals as goal

pub add_packed-requires : goal.add_packed-requires
add_packed-requires c = grind (arith, common_steps, elements_are_bytes (object_tree c.args.tree.now))
