-- One more error is recorded.
use Rattle.std.proofs.Common.{[], ◌∙◌, Some, ap}
use Rattle.cc_typing.specs.internal.Findings.{Found, after}
use Rattle.cc_types.specs.Rules.{broken}
use Rattle.cc_typing.proofs.Parts.{noted_one}
use Rattle.cc_typing.proofs.findings.Findings.note.Goals as goal

pub returns : goal.returns
returns c =
    let s = c.self.inside in
    let before : Found = record { first = s.first; undefined = s.undefined; functions = s.functions } in
    ap (λ o. record before { first = Some o }) c.earlier.ensures
    ∙ noted_one before (record { rule = c.args.rule; at = c.args.at })
    ∙ ap (λ (f : Found). after f (broken c.args.rule c.args.at) []) c.self.view_is
