-- The log says whether the record fits now, and the library says whether it would fit after the compacted
-- records.
use Rattle.std.proofs.Common.{◌<◌, ◌≤◌, sym, ◌∙◌, subst, arith}
use Rattle.std.specs.Prelude.{IsOk}
use Rattle.cc_library.specs.Answers.{IsAsked, IsMended, room_with}
use Rattle.cc_library.specs.Apply.{apply}
use Rattle.cc_library.specs.Body.{body_of}
use Rattle.cc_library.specs.Recovered.{View}
use Rattle.cc_library.proofs.Changing.{accepted_where}
use Rattle.cc_library.proofs.Refused.{is_full, not_full}
use Rattle.cc_library.proofs.library.Library.is_mended_by_compact.Goals as goal

pub returns-in-Ok : goal.returns-in-Ok
returns-in-Ok g c =
    let answers = c.in-Ok.ensures.answers (body_of c.args.command.now) 0 (sym c.body_length.ensures.length) in
    let fits : room_with c.args.self.now c.args.command.now ≤ c.args.self.now.area = subst (λ (v : View g.row.D.Denot). room_with v c.args.command.now ≤ v.area) c.self.view_is answers.1 in
    (λ yes. absurd (cc), λ mended. absurd (omega (arith, fits, mended.1)))

pub returns-then-eq : goal.returns-then-eq
returns-then-eq g c =
    let i = c.self.inside in
    let ok : IsOk (apply i.units c.args.command.now) = accepted_where (apply i.units c.args.command.now) c.refusal.result c.refusal.ensures (sym c.is_some.ensures ∙ c.if-is_some.false) in
    let full = is_full c.in-Err.fault c.eq.result i.log i.units i.closed c.args.command.now c.eq.ensures c.if-eq.true c.self.invariant.same ok (c.in-Err.ensures.answers (body_of c.args.command.now) 0 (sym c.body_length.ensures.length)) in
    let here = subst (λ (v : View g.row.D.Denot). IsAsked v c.args.command.now × (v.area < room_with v c.args.command.now)) c.self.view_is full in
    (λ yes. (here.0, here.1, c.has_room_compacted.ensures.room.0 yes), λ mended. c.has_room_compacted.ensures.room.1 mended.2)

pub returns-else-eq : goal.returns-else-eq
returns-else-eq g c =
    let i = c.self.inside in (
      λ yes. absurd (cc),
      λ mended. absurd (not_full c.in-Err.fault c.eq.result i.log i.units i.closed c.args.command.now c.eq.ensures c.if-eq.false c.self.invariant.same (c.in-Err.ensures.answers (body_of c.args.command.now) 0 (sym c.body_length.ensures.length))
          (subst (λ (v : View g.row.D.Denot). IsMended v c.args.command.now) (sym c.self.view_is) mended)),
    )
