-- If there is an error, the first one is reported at its place; else a missing `main` is reported; else the first call of
-- an undefined function; else the unit is typed.
use Rattle.std.proofs.Common.{◌≡◌, ◌∙◌, inr, ap, sym, length, true, false, Some, None}
use Rattle.cc_ast.specs.Source.{source}
use Rattle.cc_tokens.specs.Place.{place_of}
use Rattle.cc_types.specs.Fault.{fault_of}
use Rattle.cc_typing.specs.internal.Findings.{noted}
use Rattle.cc_types.specs.Rules.{defines_main, undefined_calls}
use Rattle.cc_types.specs.Typed.{all_errors}
use Rattle.cc_types.specs.declared.fault.TypeFault.TheVariants.{NoMain}
use Rattle.cc_typing.proofs.Verdict.{refused-first, refused-main, refused-call, checked}
use Rattle.cc_typing.proofs.checking.check.Goals as goal

pub returns-in-Some-clause-refused : goal.returns-in-Some-clause-refused
returns-in-Some-clause-refused c =
    let s = source c.args.unit in
    let o = c.in-Some.error in
    let first : noted None (all_errors s.externals) ≡ Some o = sym (c.in_ok-found.ensures.first ∙ ap (λ es. noted None (all_errors es)) c.externals.ensures.tree) ∙ c.in-Some.is in
    inr (refused-first s o _ first (c.fault.ensures ∙ ap (fault_of o.rule) (c.place_in-place.ensures ∙ ap (λ text. place_of text o.at) c.text.ensures.answer)))

pub returns-then-not-defines_main-clause-refused :
    goal.returns-then-not-defines_main-clause-refused
returns-then-not-defines_main-clause-refused c =
    let s = source c.args.unit in
    let none : noted None (all_errors s.externals) ≡ None = sym (c.in_ok-found.ensures.first ∙ ap (λ es. noted None (all_errors es)) c.externals.ensures.tree) ∙ c.in_default.is in
    let main : defines_main s.externals ≡ false = sym (c.defines_main.ensures ∙ ap defines_main c.externals-2.ensures.tree) ∙ c.if-not-defines_main.true in
    inr (refused-main s _ none main (ap NoMain (c.place_at.ensures ∙ ap (λ text. place_of text (length text)) c.text-text.ensures.answer)))

pub returns-in-Some-undefined-clause-refused : goal.returns-in-Some-undefined-clause-refused
returns-in-Some-undefined-clause-refused c =
    let s = source c.args.unit in
    let o = c.in-Some-undefined.error in
    let none : noted None (all_errors s.externals) ≡ None = sym (c.in_ok-found.ensures.first ∙ ap (λ es. noted None (all_errors es)) c.externals.ensures.tree) ∙ c.in_default.is in
    let main : defines_main s.externals ≡ true = sym (c.defines_main.ensures ∙ ap defines_main c.externals-2.ensures.tree) ∙ c.if-not-defines_main.false in
    let called : noted None (undefined_calls s.externals) ≡ Some o = sym (c.in_ok-found.ensures.undefined ∙ ap (λ es. noted None (undefined_calls es)) c.externals.ensures.tree) ∙ c.in-Some-undefined.is in
    inr (refused-call s o _ none main called (c.fault-in-Some-undefined.ensures ∙ ap (fault_of o.rule) (c.place_in-place-in-Some-undefined.ensures ∙ ap (λ text. place_of text o.at) c.text-in-Some-undefined.ensures.answer)))

pub new-requires : goal.new-requires
new-requires c =
    let s = source c.args.unit in
    let none : noted None (all_errors s.externals) ≡ None = sym (c.in_ok-found.ensures.first ∙ ap (λ es. noted None (all_errors es)) c.externals.ensures.tree) ∙ c.in_default.is in
    let main : defines_main s.externals ≡ true = sym (c.defines_main.ensures ∙ ap defines_main c.externals-2.ensures.tree) ∙ c.if-not-defines_main.false in
    let called : noted None (undefined_calls s.externals) ≡ None = sym (c.in_ok-found.ensures.undefined ∙ ap (λ es. noted None (undefined_calls es)) c.externals.ensures.tree) ∙ c.in_default-undefined.is in
    checked s none main called
