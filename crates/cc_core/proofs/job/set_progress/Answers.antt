-- If the client has a job, the look-up lends the job, and the write to one of its pieces is an insertion into the
-- table.
use Rattle.std.proofs.Common.{refl, sym, ap, subst, ◌∙◌, IsSome}
use Rattle.std.specs.Ordering.{nat_cmp}
use Rattle.std.specs.Cmp.{nat_cmp_total}
use Rattle.std.specs.FinMap as table
use Rattle.cc_core.specs.Job.{with_piece}
use Rattle.cc_library.proofs.Tables.{get-map}
use Rattle.cc_core.proofs.Jobs.{set_piece-map}
use Rattle.cc_core.proofs.job.set_progress.Goals as goal
use Rattle.cc_core.proofs.job.set_progress.Goals.{in-Some, in_default+in-Made-1, in_default+in-Waiting-1}

pub returns : goal.returns
returns g c = λ job is.
    let map = c.jobs.inside.values in
    let there = ap (λ m. table.get m c.args.client.number) c.jobs.view_is ∙ is in
    let found = sym (get-map nat_cmp_total map c.args.client.number) ∙ there in
    elim c.match-get_mut.branch [
      | in-Some w ↦
          let j = w.in-Some.job.now in
          let lent = c.get_mut.follows.lender (record j { pieces = w.set.new.self }) in
          let some = w.in-Some.ensures.value in
          ap (λ inside. table.from_entries {R = nat_cmp} inside.values.entries) w.jobs-inside-is
          ∙ set_piece-map map lent c.args.client c.args.part c.args.progress j job w.set.new.self some there w.set.ensures
          ((c.get_mut.follows.holds (record j { pieces = w.set.new.self })).3 (subst IsSome some refl)).0
          ∙ ap (λ m. table.insert m c.args.client.number (with_piece job c.args.part c.args.progress)) c.jobs.view_is
      | in_default+in-Made-1 w ↦ absurd (let none = w.in_default.ensures.value ∙ found in cc)
      | in_default+in-Waiting-1 w ↦ absurd (let none = w.in_default.ensures.value ∙ found in cc)
    ]
