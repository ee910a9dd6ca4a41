-- The maps that are compared are those to which the disks recover.
use Rattle.std.proofs.Common.{◌≡◌, IsTrue, sym, subst}
use Rattle.cc_library.specs.Apply.{Units}
use Rattle.cc_library.specs.Recovered.{Recovers}
use Rattle.cc_diff.proofs.disks.diff_disks.Goals.{in-Ok-diff_maps, in-Err-diff_maps}
use Rattle.cc_diff.proofs.disks.diff_disks.Goals as goal

pub returns-after-diff_maps-clause-lines : goal.returns-after-diff_maps-clause-lines
returns-after-diff_maps-clause-lines g c =
    let D = g.D.Disk in
    let left = λ (h : IsTrue D.honest). subst (λ (units : Units). Recovers (D.seen c.args.left) units) (sym c.units.ensures) (c.in-Ok.ensures.recovered h) in
    let right = λ (h : IsTrue D.honest). subst (λ (units : Units). Recovers (D.seen c.args.right) units) (sym c.units-in-Ok-open.ensures) (c.in-Ok-open.ensures.recovered h) in
    elim c.match-diff_maps.branch [
      | in-Ok-diff_maps w ↦ rw w.lines-is (record {
        left = c.units.result.now;
        right = c.units-in-Ok-open.result.now;
        recovers_left = left;
        recovers_right = right;
        is_diff = w.in-Ok-diff_maps.ensures.lines;
        equal = w.in-Ok-diff_maps.ensures.equal;
      })
      | in-Err-diff_maps w ↦ rw w.lines-is tt
    ]

pub returns-in-Err-open-clause-refused : goal.returns-in-Err-open-clause-refused
returns-in-Err-open-clause-refused g c =
    let D = g.D.Disk in (
      subst (λ (d : g.row.D.Denot). D.failures d ≡ D.failures c.args.left) (sym c.into_disk-in-Err-open.ensures) c.in-Ok.ensures.sound,
      λ h. (c.in-Ok.left.units, c.in-Ok.ensures.recovered h),
      c.in-Err-open.ensures.refused,
    )
