use Rattle.std.proofs.Common.{◌≡◌, ◌+◌, ℕ, suc, [], take, drop, subst, ◌∙◌, arith}
use Rattle.cc_tokens.specs.Token.{lexemes}
use Rattle.cc_wide_text.specs.Lexing.{led}
use Rattle.cc_wide_text.specs.internal.Views.{lexeme_of, naming}
use Rattle.cc_wide_text.specs.Names.{name_token, start}
use Rattle.cc_wide_text.proofs.Folds.{led_more}
use Rattle.cc_wide_text.proofs.names.name_all.Goals as goal

pub loop-n-preserved : goal.loop-n-preserved
loop-n-preserved c =
    let e : suc c.loop-n.n ≡ c.loop-n.n + 1 = omega arith in
    let ts = lexemes c.args.text.now c.args.tokens.now in
    subst (λ (n : ℕ). led name_token (naming c.token.new.self) (take n ts) (drop n ts) ≡ led name_token start [] ts) e
    (led_more name_token (naming c.loop-n.namer) (naming c.token.new.self) ts c.loop-n.n (lexeme_of c.word_at-word.result) c.word_at-word.ensures.token c.in_ok-token.ensures
    ∙ c.loop-n.invariant)
