-- The image that runs is that of the compiled unit, which agrees with the text.
use Rattle.std.proofs.Common.{◌≡◌, ◌∙◌, subst, inr}
use Rattle.std.specs.Prelude.{IfSome}
use Rattle.cc_c_semantics.specs.declared.mode.Mode.{Mode}
use Rattle.cc_link.specs.Agree.{AgreeIn}
use Rattle.cc_runs.specs.Live.{GoesLive}
use Rattle.cc_unit.specs.declared.unit.StoredUnit.{StoredUnit}
use Rattle.cc_tasks.proofs.live.run_text.Goals as goal

pub returns-clause-live : goal.returns-clause-live
returns-clause-live g c =
    let same : c.deref.result.now ≡ c.in-Ok.unit = c.deref.ensures ∙ c.stored.ensures.answer in
    inr (
      c.in-Ok.unit.image,
      c.in-Ok.ensures.agrees,
      subst (λ (m : Mode). AgreeIn m c.args.text.now c.in-Ok.unit.image) c.mode_of.ensures c.in-Ok.ensures.follows,
      (
        c.run_live-end.result,
        c.done_of.ensures.status,
        c.done_of.ensures.written,
        subst (λ (u : StoredUnit). IfSome (g.R.Read.remaining c.args.reader.now) (λ bytes.
            GoesLive u.image c.args.steps c.args.reads_zeros bytes (g.W.Write.contents c.args.writer.now) (g.W.Write.contents c.run_live-end.new.writer) c.run_live-end.result)) same c.run_live-end.ensures.turns,
      ),
    )
