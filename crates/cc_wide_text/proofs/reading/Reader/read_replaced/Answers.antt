use Rattle.std.proofs.Common.{◌∙◌, inl, List, [], map, ap, sym, subst}
use Rattle.cc_tokens.specs.declared.fault.SyntaxFault.{SyntaxFault}
use Rattle.cc_tokens.specs.declared.fault.SyntaxFault.TheVariants.{Unexpected}
use Rattle.cc_tokens.specs.Token.{lexemes}
use Rattle.cc_wide_text.specs.declared.numbers.Constant.{Constant}
use Rattle.cc_wide_text.specs.Names.{named}
use Rattle.cc_wide_text.specs.Numbers.{Enumerator, Number, AreNumbers}
use Rattle.cc_wide_text.specs.internal.Views.{enumerator, number}
use Rattle.cc_wide_text.specs.Program.{GrowKnown, IsKnownTree}
use Rattle.cc_wide_text.proofs.Refusals.{too_long}
use Rattle.cc_wide_text.proofs.Answered.{known_refused, known_uncounted, known_goes}
use Rattle.cc_wide_text.proofs.reading.Reader.read_replaced.Goals as goal

pub returns-in-Err : goal.returns-in-Err
returns-in-Err c =
    let ts = lexemes c.args.self.text.now c.args.self.tokens.now in
    too_long (GrowKnown ts) (λ tree. IsKnownTree ts tree) (named ts) c.in-Err.fault (λ long. inl long) c.in-Err.ensures

pub returns-in-Err-tokens : goal.returns-in-Err-tokens
returns-in-Err-tokens c =
    known_refused c.tokens_are_determined.ensures.no_error (lexemes c.args.self.text.now c.args.self.tokens.now) c.as_slice.result.now c.in-Err-tokens.fault c.fault_in.result
    (c.as_slice.ensures.value ∙ c.in-Ok.ensures.0) c.in-Ok.ensures.1 c.fault_in.ensures c.in-Err-tokens.ensures.refused

pub returns-in-Ok-Wrong : goal.returns-in-Ok-Wrong
returns-in-Ok-Wrong c =
    let ts = lexemes c.args.self.text.now c.args.self.tokens.now in
    let es = ap (λ (l : List Constant). map enumerator l) c.as_slice-2.ensures.value ∙ c.in-Ok.ensures.2 in
    let f : SyntaxFault = Unexpected c.origin.result in
    known_uncounted ts f tt c.in-Ok.ensures.1
    (subst (λ (l : List Enumerator). (ns : List Number) → AreNumbers [] l ns → ⊥) es (rw c.in-Ok-Wrong.field-0-is at c.in-Ok-Wrong.ensures))

pub returns : goal.returns
returns c =
    let ts = lexemes c.args.self.text.now c.args.self.tokens.now in
    let es = ap (λ (l : List Constant). map enumerator l) c.as_slice-2.ensures.value ∙ c.in-Ok.ensures.2 in
    known_goes c.tokens_are_determined.ensures.one c.trees_are_determined.ensures.one ts c.as_slice.result.now c.as_slice-4.result.now c.in-Ok-tokens.known.items c.as_slice-5.result.now
    c.in-Ok-All.numbers.items c.as_slice-7.result.now (c.as_slice.ensures.value ∙ c.in-Ok.ensures.0) (c.as_slice-4.ensures.value ∙ sym c.as_slice.ensures.value) c.as_slice-5.ensures.value
    c.as_slice-7.ensures.value c.in-Ok.ensures.1 c.in-Ok-tokens.ensures.answer
    (subst (λ (l : List Enumerator). AreNumbers [] l (map number c.in-Ok-All.numbers.items)) es (rw c.in-Ok-All.field-0-is at c.in-Ok-All.ensures))
    c.read_numbered.result c.read_numbered.ensures
