use Rattle.std.proofs.Common.{sym}
use Rattle.cc_translate.proofs.Lines.{lines_begin}
use Rattle.cc_translate.proofs.carrying.first_line.Goals as goal

pub loop-i-init : goal.loop-i-init
loop-i-init c = sym (lines_begin c.args.text.now)
