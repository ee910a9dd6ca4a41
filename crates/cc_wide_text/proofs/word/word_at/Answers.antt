use Rattle.std.proofs.Common.{List, ℕ, get_or, length, Option, Some, ap, ◌∙◌, sym, arith}
use Rattle.cc_tokens.specs.declared.token.TokenKind.TheVariants.{Identifier}
use Rattle.cc_tokens.specs.declared.token.Token.{Token}
use Rattle.cc_tokens.specs.Token.{Lexeme}
use Rattle.cc_syntax.proofs.TokenOrder.{in_order-at, token_at}
use Rattle.cc_wide_text.proofs.word.word_at.Goals as goal

pub between-requires-clause-order : goal.between-requires-clause-order
between-requires-clause-order c = (in_order-at c.args.tokens.now 0 (length c.args.text.now) c.args.i (record { kind = Identifier; from = 0; to = 0 }) c.requires.ordered c.requires.within).0

pub between-requires-clause-within : goal.between-requires-clause-within
between-requires-clause-within c = (in_order-at c.args.tokens.now 0 (length c.args.text.now) c.args.i (record { kind = Identifier; from = 0; to = 0 }) c.requires.ordered c.requires.within).1

pub returns-clause-token : goal.returns-clause-token
returns-clause-token c =
    let d : Token = record { kind = Identifier; from = 0; to = 0 } in
    let t : Token = get_or c.args.tokens.now c.args.i d in
    token_at c.args.text.now c.args.tokens.now c.args.i d c.requires.within
    ∙ ap (λ (bytes : List ℕ). let x : Option Lexeme = Some (record { kind = t.kind; text = bytes; at = t.from }) in x) (sym c.between.ensures.bytes)

pub returns-clause-end : goal.returns-clause-end
returns-clause-end c =
    let h = in_order-at c.args.tokens.now 0 (length c.args.text.now) c.args.i (record { kind = Identifier; from = 0; to = 0 }) c.requires.ordered c.requires.within in
    omega (arith, h.0, h.1, c.between.ensures.len)
