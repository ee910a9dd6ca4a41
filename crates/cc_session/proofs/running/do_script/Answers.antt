-- Either no service was opened, for this reason, and an honest disk was at most read; or one was opened, and the script's client
-- is its only one.
use Rattle.std.proofs.Common.{ℕ, ap, inl, inr, subst}
use Rattle.cc_service.specs.Client.{members}
use Rattle.cc_library.specs.declared.fault.LibraryFault.TheVariants.{OutOfMemory}
use Rattle.cc_service.specs.declared.fault.ServiceFault.TheVariants.{Opening}
use Rattle.cc_session.specs.Session.{IsEnded}
use Rattle.cc_session.proofs.Ends.{not_over, reads_back, recovers_base}
use Rattle.cc_session.proofs.running.do_script.Goals as goal

pub returns-in_default : goal.returns-in_default
returns-in_default g c =
    let D = g.D.Disk in
    inl (
      (g.N.Based.base, Opening OutOfMemory, c.refused-number.ensures, ap D.failures c.into_disk.ensures),
      λ h. reads_back D c.args.begun.library.disk c.into_disk.result c.into_disk.ensures,
      tt,
    )

pub returns : goal.returns
returns g c =
    let D = g.D.Disk in
    inl (
      (
        g.N.Based.base,
        c.in-Err.fault,
        c.refused-number-in-Err.ensures,
        not_over D g.N.Based.base c.args.begun.library c.in-Err.disk c.in-Err.fault
            c.requires.recovered c.requires.named c.in-Err.ensures.refused c.in-Err.ensures.back,
      ),
      λ h. reads_back D c.args.begun.library.disk c.in-Err.disk c.in-Err.ensures.back,
      tt,
    )

pub returns-in-Ok-over : goal.returns-in-Ok-over
returns-in-Ok-over g c =
    let D = g.D.Disk in
    inr (
      members c.play_alone-played.new.clients.items,
      c.play_alone-played.result,
      c.play_alone-played.ensures c.finish.result.1 (g.W.Write.contents c.finish.new.answers) c.finish.ensures.still,
      subst (λ (n : ℕ). IsEnded D n (D.seen c.args.begun.library.disk) g.N.Based.from g.N.Based.left (members c.play_alone-played.new.clients.items) c.play_alone-played.result c.finish.result.1 c.finish.result.0)
          c.requires.failures
          (c.finish.ensures.ended (D.seen c.args.begun.library.disk) (recovers_base D g.N.Based.base c.args.begun.library c.requires.recovered c.requires.named)),
    )
