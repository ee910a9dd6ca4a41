use Rattle.std.proofs.Common.{arith}
use Rattle.std.proofs.lemmas.Grind.{common_steps}
use Rattle.cc_link.proofs.Packing.{word_more, none_left}
use Rattle.cc_link.proofs.globals.add_packed.Goals as goal

pub loop-number-preserved : goal.loop-number-preserved
loop-number-preserved c =
    grind (arith, common_steps, word_more c.args.bytes.now c.args.words.now.items c.loop-number.words.items c.loop-number.number c.word_at.result)

pub returns : goal.returns
returns c = grind (arith, common_steps, none_left c.args.bytes.now c.loop-number.number)
