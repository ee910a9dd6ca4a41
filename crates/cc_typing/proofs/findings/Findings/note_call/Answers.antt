-- One more call is recorded.
use Rattle.std.proofs.Common.{◌≡◌, true, false, [], ◌∷◌, ◌∙◌, Some, sym, ap}
use Rattle.cc_ast.specs.Erase.{name_tree}
use Rattle.cc_typing.specs.internal.Findings.{Found, after}
use Rattle.cc_types.specs.Scope.{has_name}
use Rattle.cc_typing.proofs.Parts.{called_undefined, called_defined}
use Rattle.cc_typing.proofs.findings.Findings.note_call.Goals as goal

pub returns-then-not-is_defined : goal.returns-then-not-is_defined
returns-then-not-is_defined c =
    let s = c.self.inside in
    let before : Found = record { first = s.first; undefined = s.undefined; functions = s.functions } in
    let named : has_name s.functions.defined c.args.name.now.bytes.items ≡ false = sym (c.is_defined.ensures ∙ ap (has_name s.functions.defined) c.as_slice.ensures.value) ∙ c.if-not-is_defined.true in
    ap (λ o. record before { undefined = Some o }) c.earlier.ensures
    ∙ called_undefined before (name_tree c.args.name.now) named
    ∙ ap (λ (f : Found). after f [] (name_tree c.args.name.now ∷ [])) c.self.view_is

pub returns-else-not-is_defined : goal.returns-else-not-is_defined
returns-else-not-is_defined c =
    let s = c.self.inside in
    let before : Found = record { first = s.first; undefined = s.undefined; functions = s.functions } in
    let named : has_name s.functions.defined c.args.name.now.bytes.items ≡ true = sym (c.is_defined.ensures ∙ ap (has_name s.functions.defined) c.as_slice.ensures.value) ∙ c.if-not-is_defined.false in
    sym c.self.view_is ∙ called_defined before (name_tree c.args.name.now) named
    ∙ ap (λ (f : Found). after f [] (name_tree c.args.name.now ∷ [])) c.self.view_is
