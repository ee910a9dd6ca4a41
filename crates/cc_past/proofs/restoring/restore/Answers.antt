-- The unit that is put is the one that the command stored, and before that the disk was only read.
use Rattle.std.proofs.Common.{ℕ, List, [], ◌∷◌, ◌++◌, sym, ap, subst}
use Rattle.std.specs.FinMap as map
use Rattle.cc_unit.specs.declared.unit.StoredUnit.{StoredUnit}
use Rattle.cc_journal.specs.Format.{HoldsAlone}
use Rattle.cc_library.specs.Body.{IsCommand, body_of}
use Rattle.cc_log.specs.Commands.{HasCommands}
use Rattle.cc_tasks.specs.declared.part.PartFault.TheVariants.{Library}
use Rattle.cc_past.specs.Past.{IsStoredOn}
use Rattle.cc_library.specs.Apply.{library_of}
use Rattle.cc_library.specs.Recovered.{Recovers, RecoversAlone}
use Rattle.cc_library.proofs.Standing.{weaker}
use Rattle.cc_past.specs.Restored.{HasNoRoom, MayBeRestored, putting}
use Rattle.cc_past.specs.internal.Steps.{MayBe}
use Rattle.cc_past.proofs.Moments.{commands_recover, may_be_restored, read_then}
use Rattle.cc_past.proofs.Logged.{can_be_put, put_refused, reads_on}
use Rattle.cc_past.proofs.restoring.restore.Goals as goal

pub returns-in-Ok-answer-clause-restored : goal.returns-in-Ok-answer-clause-restored
returns-in-Ok-answer-clause-restored g c = λ h.
    let D = g.D.Disk in
    let seen = D.seen c.args.disk in
    let stored = rw c.in-Ok.is at c.stored_on-found.ensures.stored in
    let named = rw c.in-Ok.is at c.stored_on-found.ensures.name in
    let put = rw c.in-Ok-answer.is at c.put-answer.ensures.put in
    let logged = rw c.in-Ok-answer.is at c.put-answer.ensures.logged in
    let alone = rw c.in-Ok-answer.is at c.put-answer.ensures.alone in
    let commands = (stored h).0 in
    let unit = c.in-Ok.stored.unit in
    let has : HasCommands (D.seen c.stored_on-found.result.1) commands = subst (λ (s : List ℕ). HasCommands s commands) (sym (c.stored_on-found.ensures.reads h).same) (stored h).1 in
    let can_be = subst (λ (n : List ℕ). IsCommand (putting (library_of commands) n unit)) (sym named) (can_be_put seen commands c.args.name.now c.args.number unit (stored h).1 (stored h).2 (library_of commands)) in
    let recovers : Recovers (D.seen c.stored_on-found.result.1) (library_of commands) =
    subst (λ (s : List ℕ). Recovers s (library_of commands)) (sym (c.stored_on-found.ensures.reads h).same) (commands_recover seen commands (stored h).1) in (
      c.in-Ok.stored.unit,
      record {
        commands = commands;
        has = (stored h).1;
        stored = (stored h).2;
        logged = λ image left. subst (λ (n : List ℕ). HasCommands image (commands ++ putting (library_of commands) n unit ∷ [])) named (logged h commands has can_be image left);
        alone = λ image left.
            subst (λ (s : List ℕ). (it : HasCommands s commands) → HoldsAlone image it.area (it.bodies ++ body_of (putting (library_of commands) c.args.name.now unit) ∷ [])) (c.stored_on-found.ensures.reads h).same
            (λ it. subst (λ (n : List ℕ). HoldsAlone image it.area (it.bodies ++ body_of (putting (library_of commands) n unit) ∷ [])) named (alone h commands it image left)) (stored h).1;
        restored = λ image left. subst (λ (n : List ℕ). RecoversAlone image (map.insert (library_of commands) n c.in-Ok.stored.unit)) named (put h (library_of commands) recovers image left);
      },
    )

pub returns-in-Ok-answer-clause-moments : goal.returns-in-Ok-answer-clause-moments
returns-in-Ok-answer-clause-moments g c = λ h units recovers.
    let D = g.D.Disk in
    let seen = D.seen c.args.disk in
    let mid = c.stored_on-found.result.1 in
    let stored = rw c.in-Ok.is at c.stored_on-found.ensures.stored in
    let named = rw c.in-Ok.is at c.stored_on-found.ensures.name in
    let reads = c.stored_on-found.ensures.reads h in
    let unit = c.in-Ok.stored.unit in
    let name = c.in-Ok.stored.name in
    let there : Recovers (D.seen mid) units = subst (λ (s : List ℕ). Recovers s units) (sym reads.same) recovers in
    let both = read_then D.seen D.may_leave D.moment D.left_since (MayBe (D.may_leave mid) units (map.insert units name unit)) c.args.disk mid c.put-answer.result.1
    (λ image left. g.met.D.Disk.only_now c.args.disk image h left) reads (c.put-answer.ensures.moments h units there) in
    weaker D.moment D.left_since _ (MayBeRestored seen c.args.name.now c.args.number (D.may_leave c.args.disk) units) c.args.disk c.put-answer.result.1
    (may_be_restored seen c.args.name.now c.args.number (D.may_leave c.args.disk) (D.may_leave mid) units name unit reads.images named (stored h)) both

pub returns-in-Err-answer-clause-moments : goal.returns-in-Err-answer-clause-moments
returns-in-Err-answer-clause-moments g c = λ h units recovers.
    let D = g.D.Disk in
    let seen = D.seen c.args.disk in
    let mid = c.stored_on-found.result.1 in
    let stored = rw c.in-Ok.is at c.stored_on-found.ensures.stored in
    let named = rw c.in-Ok.is at c.stored_on-found.ensures.name in
    let reads = c.stored_on-found.ensures.reads h in
    let unit = c.in-Ok.stored.unit in
    let name = c.in-Ok.stored.name in
    let there : Recovers (D.seen mid) units = subst (λ (s : List ℕ). Recovers s units) (sym reads.same) recovers in
    let both = read_then D.seen D.may_leave D.moment D.left_since (MayBe (D.may_leave mid) units (map.insert units name unit)) c.args.disk mid c.put-answer.result.1
    (λ image left. g.met.D.Disk.only_now c.args.disk image h left) reads (c.put-answer.ensures.moments h units there) in
    weaker D.moment D.left_since _ (MayBeRestored seen c.args.name.now c.args.number (D.may_leave c.args.disk) units) c.args.disk c.put-answer.result.1
    (may_be_restored seen c.args.name.now c.args.number (D.may_leave c.args.disk) (D.may_leave mid) units name unit reads.images named (stored h)) both

pub returns-in-Err-answer-clause-refused : goal.returns-in-Err-answer-clause-refused
returns-in-Err-answer-clause-refused g c =
    let D = g.D.Disk in
    let seen = D.seen c.args.disk in
    let mid = c.stored_on-found.result.1 in
    let stored = rw c.in-Ok.is at c.stored_on-found.ensures.stored in
    let named = rw c.in-Ok.is at c.stored_on-found.ensures.name in
    let sound = rw c.in-Ok.is at c.stored_on-found.ensures.sound in
    let refused = rw c.in-Err-answer.is at c.put-answer.ensures.refused in
    let unit = c.in-Ok.stored.unit in
    put_refused D.honest seen (D.seen mid) (D.failures c.args.disk) (D.failures mid) (D.failures c.put-answer.result.1) (HasNoRoom (D.seen mid) c.in-Ok.stored.name unit)
    ((it : StoredUnit) × IsStoredOn seen c.args.name.now c.args.number it × HasNoRoom seen c.args.name.now it) c.in-Err-answer.fault (λ h. (c.stored_on-found.ensures.reads h).same) sound
    (λ h room. (unit, stored h, subst (λ (n : List ℕ). HasNoRoom seen n unit) named (subst (λ (s : List ℕ). HasNoRoom s c.in-Ok.stored.name unit) (c.stored_on-found.ensures.reads h).same room))) refused

pub returns-in-Err-answer-clause-untouched : goal.returns-in-Err-answer-clause-untouched
returns-in-Err-answer-clause-untouched g c = λ other h.
    let D = g.D.Disk in
    let untouched = rw c.in-Err-answer.is at c.put-answer.ensures.untouched in
    reads_on D.seen D.may_leave D.moment D.left_since c.args.disk c.stored_on-found.result.1 c.put-answer.result.1 (c.stored_on-found.ensures.reads h) (untouched (λ e. other (ap Library e)) h)
