use Rattle.std.proofs.Common.{rules, ◌<◌, length, subst, sym}
use Rattle.cc_script.specs.Reading.{ScriptView, ahead_of}
use Rattle.std.specs.Io.KnownBytes.{Keeps}
use Rattle.cc_script.proofs.Rests.{range_some, taken}
use Rattle.cc_script.proofs.script.Script.byte.Goals as goal

pub returns-clause-bytes : goal.returns-clause-bytes
returns-clause-bytes g c =
    let s = c.self.inside in
    let kept = subst (λ (v : ScriptView). Keeps ((ahead_of c.args.self.now (g.R.Read.remaining c.args.reader.now)).rest) ((ahead_of v (g.R.Read.remaining c.fill.new.reader)).rest))
    (sym c.self.view_is) c.in_ok-fill.ensures.bytes in
    let some = subst (λ (v : ScriptView). 0 < length v.held) (sym c.self.view_is) (c.in_ok-fill.ensures.filled c.if-not-branch.false) in
    let more = range_some s.piece s.next s.end some in
    (taken _ s.piece s.next s.end _ _ more (search rules) kept, search rules)
