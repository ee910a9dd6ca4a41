-- What was sent is the source that was read, given what comes after it.
use Rattle.std.proofs.Common.{ℕ, Vec, Global, subst}
use Rattle.std.specs.Option.{option_map}
use Rattle.cc_script.specs.Reading.{Ahead, Between, IsSource, ahead_of}
use Rattle.cc_session.proofs.Playing.{sent_on}
use Rattle.cc_session.proofs.reading.Reading.source.Goals as goal

pub returns-clause-bytes : goal.returns-clause-bytes
returns-clause-bytes g c =
    let middle = ahead_of c.source.new.self (g.R.Read.remaining c.source.new.reader) in
    let after = ahead_of c.is_at_line_end.new.self (g.R.Read.remaining c.is_at_line_end.new.reader) in
    let read = subst (λ (o : Ahead). Between o middle (λ b a. IsSource b c.args.length (option_map (λ (bytes : Vec ℕ Global). bytes.items) c.in_ok-source.source) a)) c.self.view_is
    c.in_ok-source.ensures.bytes in
    sent_on c.args.self.now middle after c.args.length c.in_ok-source.source c.in-Ok.is_ended c.behind_line.result c.behind_line.ensures read c.in-Ok.ensures.bytes
