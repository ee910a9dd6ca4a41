use Rattle.std.proofs.Common.{List, ap, rules}
use Rattle.cc_wide_text.specs.declared.macros.Expecting.TheVariants.{Program}
use Rattle.cc_wide_text.specs.Macros.{Meaning, Expansion}
use Rattle.cc_wide_text.proofs.Meanings.{more_meanings}
use Rattle.cc_wide_text.proofs.macros.Expander.define.Goals as goal

pub returns : goal.returns
returns c =
    ap (λ (ms : List Meaning). let e : Expansion = record { written = c.args.self.now.written.items; meanings = ms; name = c.args.self.now.name.items; body = c.args.self.now.body.items; expecting = Program } in e)
    (more_meanings c.push.new.self.items c.args.self.now.macros.items (record { name = c.in_ok-name.name; body = c.in_ok-body.body }) c.args.self.now.name.items c.args.self.now.body.items
    c.in_ok-push.ensures.items (search rules) (search rules))
