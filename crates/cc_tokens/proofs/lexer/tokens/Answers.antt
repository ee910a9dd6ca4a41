use Rattle.std.proofs.Common.{arith, rules, ◌++◌, ◌∷◌, [], ◌≡◌, sym, subst}
use Rattle.cc_tokens.specs.Tokens.{IsTokenRefusal}
use Rattle.cc_tokens.specs.Reading.{FoundBefore}
use Rattle.cc_tokens.proofs.Found.{error_refused}
use Rattle.cc_tokens.proofs.lexer.tokens.Goals as goal

pub loop-at-preserved-in-Token : goal.loop-at-preserved-in-Token
loop-at-preserved-in-Token c =
    let token = c.in-Token.token in
    let pushed : c.push.new.self.items ≡ c.loop-at.found.items ++ token ∷ [] = search (rules, c.push.ensures.items, c.if-is_err.ensures.negation) in
    subst (λ ts. FoundBefore c.args.text.now ts token.to) (sym pushed) (c.in-Token.ensures.found c.loop-at.found.items c.loop-at.invariant)

pub loop-at-preserved : goal.loop-at-preserved
loop-at-preserved c = c.in-End.ensures.found c.loop-at.found.items c.loop-at.invariant

pub returns-in-Error-clause-refused : goal.returns-in-Error-clause-refused
returns-in-Error-clause-refused c =
    let text = c.args.text.now in
    subst (IsTokenRefusal text) (sym c.fault_at.ensures) (error_refused text c.in-Error.error c.in-Error.at (omega arith) (c.in-Error.ensures.found c.loop-at.found.items c.loop-at.invariant))
