use Rattle.std.proofs.Common.{◌≡◌, ◌+◌, ℕ, suc, [], take, drop, map, subst, ◌∙◌, arith}
use Rattle.cc_tokens.specs.Token.{lexemes}
use Rattle.cc_wide_text.specs.Lexing.{led}
use Rattle.cc_wide_text.specs.internal.Views.{lexeme_of, marking, number}
use Rattle.cc_wide_text.specs.Marks.{mark_token, start}
use Rattle.cc_wide_text.proofs.Folds.{led_more}
use Rattle.cc_wide_text.proofs.marks.mark_all.Goals as goal

pub loop-i-preserved : goal.loop-i-preserved
loop-i-preserved c =
    let e : suc c.loop-i.i ≡ c.loop-i.i + 1 = omega arith in
    let ts = lexemes c.args.text.now c.args.tokens.now in
    let ns = map number c.args.numbers.now in
    subst (λ (n : ℕ). led (mark_token ns) (marking c.token.new.self) (take n ts) (drop n ts) ≡ led (mark_token ns) start [] ts) e
    (led_more (mark_token ns) (marking c.loop-i.marker) (marking c.token.new.self) ts c.loop-i.i (lexeme_of c.word_at-word.result) c.word_at-word.ensures.token c.in_ok-token.ensures
    ∙ c.loop-i.invariant)
