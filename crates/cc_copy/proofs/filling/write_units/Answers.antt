-- The records are one Add for each name, which represent the map.
use Rattle.std.proofs.Common.{◌≡◌, ◌∙◌, ℕ, List, sym, subst}
use Rattle.cc_journal.specs.Format.{AllHold}
use Rattle.cc_library.specs.Compact.{compacted}
use Rattle.cc_library.specs.Recovered.{StandFor}
use Rattle.cc_library.proofs.Compacting.{adds_stand, spelled_compacted}
use Rattle.cc_library.proofs.Standing.{holds_recovers}
use Rattle.cc_copy.proofs.Filled.{commit_refused}
use Rattle.cc_copy.proofs.filling.write_units.Goals as goal

pub returns-in-Ok-rewrite-clause-records : goal.returns-in-Ok-rewrite-clause-records
returns-in-Ok-rewrite-clause-records g c = λ h.
    let D = g.D.Disk in
    let j = c.rewrite.new.self in
    let units = c.args.units.now in
    let bodies_are : j.bodies ≡ compacted units = c.in-Ok-rewrite.ensures.rewritten ∙ spelled_compacted c.in-Ok.bodies.items units c.in-Ok.ensures in
    subst (λ (a : ℕ). AllHold (D.may_leave j.disk) a (compacted units)) c.rewrite.ensures.area
    (subst (λ (bs : List (List ℕ)). AllHold (D.may_leave j.disk) j.area bs) bodies_are (c.in-Ok-rewrite.ensures.kept h))

pub returns-in-Ok-rewrite-clause-copied : goal.returns-in-Ok-rewrite-clause-copied
returns-in-Ok-rewrite-clause-copied g c = λ h image left.
    let j = c.rewrite.new.self in
    let units = c.args.units.now in
    let stand : StandFor j.bodies units = subst (λ (bs : List (List ℕ)). StandFor bs units) (sym c.in-Ok-rewrite.ensures.rewritten) (adds_stand units c.in-Ok.bodies.items c.in-Ok.ensures) in
    holds_recovers image j.area j.bodies units (c.in-Ok-rewrite.ensures.kept h image left) stand

pub returns-in-Err-rewrite-clause-refused : goal.returns-in-Err-rewrite-clause-refused
returns-in-Err-rewrite-clause-refused g c =
    let D = g.D.Disk in
    let old = c.args.log.now in
    let items = c.in-Ok.bodies.items in
    rw c.from.ensures (commit_refused old.area c.args.units.now items (D.failures old.disk) (D.failures c.rewrite.new.self.disk) old.closed c.in-Err-rewrite.fault
    (spelled_compacted items c.args.units.now c.in-Ok.ensures) c.requires.usable c.in-Err-rewrite.ensures.answers)
