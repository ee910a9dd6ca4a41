-- The buffer is empty, so what it held is in the writer.
use Rattle.std.proofs.Common.{sym, subst}
use Rattle.std.specs.Io.Buffered.{writer_buffer, writer_contents}
use Rattle.std.specs.Io.KnownBytes.{Keeps, append_known}
use Rattle.cc_tasks.proofs.Working.{emptied}
use Rattle.cc_tasks.proofs.work.emptied.Goals as goal

pub returns-then-is_flushed : goal.returns-then-is_flushed
returns-then-is_flushed g c task input old it =
    let before = writer_contents g.A.Write.contents c.args.buffered in
    let left = writer_buffer c.is_flushed.new.buffered in
    emptied c.args.performed.told task input old before (g.A.Write.contents c.into_parts-out.result.0) left
    (subst (λ w. Keeps before (append_known (g.A.Write.contents w) left)) (sym c.into_parts-out.ensures.inner) c.is_flushed.ensures.kept)
    (c.is_flushed.ensures.empty c.if-is_flushed.true) it
