use Rattle.std.proofs.Common.{◌+◌, ℕ, List, Option, map, drop, sym, subst, ◌∙◌, arith}
use Rattle.cc_wide_text.specs.declared.numbers.Numbered.{Numbered}
use Rattle.cc_wide_text.specs.Numbers.{AreNumbers}
use Rattle.cc_wide_text.specs.internal.Answers.{IsNumberAnswer}
use Rattle.cc_wide_text.specs.internal.Views.{enumerator, number}
use Rattle.cc_wide_text.proofs.Numbering.{one_more, none_left, more_numbers, next_left}
use Rattle.cc_wide_text.proofs.numbers.numbers_of.Goals as goal

pub loop-one-init : goal.loop-one-init
loop-one-init c =
    λ all. (
      λ h. subst (λ (l : List Numbered). AreNumbers (map number l) (map enumerator c.args.enumerators.now) all) c.new-numbers.ensures.items h,
      λ h. subst (λ (l : List Numbered). AreNumbers (map number l) (map enumerator c.args.enumerators.now) all) (sym c.new-numbers.ensures.items) h,
    )

pub loop-one-preserved : goal.loop-one-preserved
loop-one-preserved c =
    let es = c.args.enumerators.now in
    let i = c.loop-one.one-index in
    let ns = c.loop-one.numbers.items in
    let e = c.one-item.result in
    let n : Numbered = record { name = c.in_ok-name-in-Some.name; word = c.in-Some.word } in
    let answer = subst (λ (l : List Numbered). IsNumberAnswer (map number l) (enumerator e) c.in_ok-word.field-0) c.as_slice.ensures.value c.in_ok-word.ensures in
    one_more c.tokens_are_determined.ensures.one c.trees_are_determined.ensures.one (map number ns) (map number c.push.new.self.items) (map enumerator (drop i es)) (map enumerator (drop (i + 1) es))
    (map enumerator es) (enumerator e) c.in-Some.word (next_left es i e (omega arith) c.one-item.is)
    (more_numbers c.push.new.self.items ns n e.name.items c.in_ok-push-in-Some.ensures.items (c.in_ok-name-in-Some.ensures.items ∙ c.as_slice-in-Some.ensures.value))
    (subst (λ (o : Option ℕ). IsNumberAnswer (map number ns) (enumerator e) o) c.in-Some.is answer) c.loop-one.invariant

pub returns-in-None : goal.returns-in-None
returns-in-None c =
    let es = c.args.enumerators.now in
    let i = c.loop-one.one-index in
    let ns = c.loop-one.numbers.items in
    let e = c.one-item.result in
    let answer = subst (λ (l : List Numbered). IsNumberAnswer (map number l) (enumerator e) c.in_ok-word.field-0) c.as_slice.ensures.value c.in_ok-word.ensures in
    none_left (map number ns) (map enumerator (drop i es)) (map enumerator (drop (i + 1) es)) (map enumerator es) (enumerator e) (next_left es i e (omega arith) c.one-item.is)
    (subst (λ (o : Option ℕ). IsNumberAnswer (map number ns) (enumerator e) o) c.in-None.is answer) c.loop-one.invariant
