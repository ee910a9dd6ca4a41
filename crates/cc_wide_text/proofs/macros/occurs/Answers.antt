use Rattle.std.proofs.Common.{◌≡◌, ◌+◌, ℕ, suc, false, take, arith, sym, subst, ◌∙◌}
use Rattle.cc_tokens.specs.Token.{lexemes}
use Rattle.cc_wide_text.specs.internal.Views.{lexeme_of}
use Rattle.cc_wide_text.specs.Macros.{occurs}
use Rattle.cc_wide_text.proofs.Folds.{occurs_here, occurs_not_more}
use Rattle.cc_wide_text.proofs.macros.occurs.Goals as goal

pub returns-then-is_word : goal.returns-then-is_word
returns-then-is_word c =
    sym (occurs_here (lexemes c.args.text.now c.args.tokens.now) c.loop-i.i c.args.n (lexeme_of c.word_at.result) c.args.name.now c.word_at.ensures.token (omega arith) (sym c.is_word.ensures ∙ c.if-is_word.true))

pub loop-i-preserved : goal.loop-i-preserved
loop-i-preserved c =
    let e : suc c.loop-i.i ≡ c.loop-i.i + 1 = omega arith in
    subst (λ (n : ℕ). occurs (take n (lexemes c.args.text.now c.args.tokens.now)) c.args.name.now ≡ false) e
    (occurs_not_more (lexemes c.args.text.now c.args.tokens.now) c.loop-i.i (lexeme_of c.word_at.result) c.args.name.now c.word_at.ensures.token c.loop-i.invariant (sym c.is_word.ensures ∙ c.if-is_word.false))
