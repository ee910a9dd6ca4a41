use Rattle.std.proofs.Common.{◌≡◌, ◌+◌, ℕ, suc, [], take, drop, subst, ◌∙◌, arith}
use Rattle.cc_tokens.specs.Token.{lexemes}
use Rattle.cc_wide_text.specs.Lexing.{led}
use Rattle.cc_wide_text.specs.internal.Views.{lexeme_of}
use Rattle.cc_wide_text.specs.Macros.{expand_token, start}
use Rattle.cc_wide_text.specs.internal.Views.{expansion}
use Rattle.cc_wide_text.proofs.Folds.{led_more}
use Rattle.cc_wide_text.proofs.Growth.{too_long}
use Rattle.cc_wide_text.proofs.macros.expanded.Goals as goal

pub loop-i-preserved : goal.loop-i-preserved
loop-i-preserved c =
    let e : suc c.loop-i.i ≡ c.loop-i.i + 1 = omega arith in
    let ts = lexemes c.args.text.now c.args.tokens.now in
    subst (λ (n : ℕ). led expand_token (expansion c.token.new.self) (take n ts) (drop n ts) ≡ led expand_token start [] ts) e
    (led_more expand_token (expansion c.loop-i.expander) (expansion c.token.new.self) ts c.loop-i.i (lexeme_of c.word_at-word.result) c.word_at-word.ensures.token c.in-Ok.ensures
    ∙ c.loop-i.invariant)

pub returns-then-len-gt-MOST_BYTES : goal.returns-then-len-gt-MOST_BYTES
returns-then-len-gt-MOST_BYTES c =
    let ts = lexemes c.args.text.now c.args.tokens.now in
    too_long (expansion c.token.new.self) (take (suc c.loop-i.i) ts) (drop (suc c.loop-i.i) ts) ts
    (led_more expand_token (expansion c.loop-i.expander) (expansion c.token.new.self) ts c.loop-i.i (lexeme_of c.word_at-word.result) c.word_at-word.ensures.token c.in-Ok.ensures
    ∙ c.loop-i.invariant)
    (omega arith)
