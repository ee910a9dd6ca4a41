use Rattle.std.proofs.Common.{arith, get_or, true}
use Rattle.std.proofs.lemmas.Grind.{common_steps}
use Rattle.cc_disk.specs.internal.Cells.{cells_of}
use Rattle.cc_disk.proofs.Zipped.{drop-cells, cells-from, crash-step}
use Rattle.cc_disk.proofs.cells.bytes_left.Goals.{in-empty, in-len1-up}
use Rattle.cc_disk.proofs.cells.bytes_left.Goals as goal

pub returns : goal.returns
returns c = grind (arith, common_steps, drop-cells c.args.bytes.now c.args.is_settled.now c.loop-i.i c.requires)

pub loop-i-preserved : goal.loop-i-preserved
loop-i-preserved c =
    let i = c.loop-i.i in
    let cells = cells_of c.args.bytes.now c.args.is_settled.now in
    let here = cells-from i c.args.bytes.now c.args.is_settled.now (omega arith) c.requires 0 true in
    let step = crash-step cells i (record { byte = get_or c.args.bytes.now i 0; settled = get_or c.args.is_settled.now i true }) c.loop-i.after.items c.args.choice.now c.byte_left.result c.loop-i.rest.now here in
    elim c.if-rest-lt1.branch [ in-empty w ↦ grind (arith, common_steps, step) | in-len1-up w ↦ grind (arith, common_steps, step) ]
