use Rattle.std.proofs.Common.{◌≡◌, ◌+◌, ℕ, suc, List, ◌++◌, take, map, ap, sym, subst, ◌∙◌, arith}
use Rattle.std.specs.List.{flat_map}
use Rattle.cc_tokens.specs.Token.{lexemes}
use Rattle.cc_wide_text.specs.Numbers.{numbered}
use Rattle.cc_wide_text.specs.internal.Views.{lexeme_of, number}
use Rattle.cc_wide_text.proofs.Folds.{flat_map_taken}
use Rattle.cc_wide_text.proofs.numbers.all_numbered.Goals as goal

pub loop-i-preserved : goal.loop-i-preserved
loop-i-preserved c =
    let e : suc c.loop-i.i ≡ c.loop-i.i + 1 = omega arith in
    let ts = lexemes c.args.text.now c.args.tokens.now in
    let f = numbered (map number c.args.numbers.now) in
    subst (λ (n : ℕ). c.push.new.written.items ≡ flat_map f (take n ts)) e
    (c.in_ok-push.ensures ∙ ap (λ (bytes : List ℕ). bytes ++ f (lexeme_of c.word_at.result)) c.loop-i.invariant
    ∙ sym (flat_map_taken f ts c.loop-i.i (lexeme_of c.word_at.result) c.word_at.ensures.token))
