-- What was done over the buffer, which was new, is done over the writer.
use Rattle.std.proofs.Common.{subst}
use Rattle.std.specs.Prelude.{Some}
use Rattle.cc_sources.specs.Joined.{joined}
use Rattle.std.specs.Io.Buffered.{writer_buffer, writer_contents}
use Rattle.cc_tasks.proofs.Working.{from_new, performed}
use Rattle.cc_tasks.specs.internal.Working.{IsDoneFor}
use Rattle.cc_tasks.proofs.texts.perform_texts_into.Goals as goal

pub returns : goal.returns
returns g c =
    let input = Some (joined c.args.texts.now) in
    let after = g.A.Write.contents c.emptied-performed.result.1 in
    let told = c.emptied-performed.result.0.told in
    performed told c.args.task input (g.A.Write.contents c.args.out) after c.ended.result.status c.ended.result.is_written
    (subst (λ w. IsDoneFor c.args.task input (g.A.Write.contents w) after told) c.in-Ok.ensures.inner
    (from_new told c.args.task input (g.A.Write.contents c.in-Ok.buffered.inner) after (writer_buffer c.in-Ok.buffered) c.in-Ok.ensures.empty
    (c.emptied-performed.ensures c.args.task input (writer_contents g.A.Write.contents c.in-Ok.buffered) c.try_texts-performed.ensures)))
    c.ended.ensures.status c.ended.ensures.written
