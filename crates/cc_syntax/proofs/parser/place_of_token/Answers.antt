use Rattle.std.proofs.Common.{length, Option, ap, ◌∙◌, sym, arith}
use Rattle.cc_tokens.specs.declared.token.TokenKind.TheVariants.{Identifier}
use Rattle.cc_tokens.specs.Place.{place_of}
use Rattle.cc_tokens.specs.Token.{Lexeme}
use Rattle.cc_ast.specs.Parse.{offset_of}
use Rattle.cc_syntax.proofs.TokenOrder.{in_order-at, token_at, no_token_at}
use Rattle.cc_syntax.proofs.parser.place_of_token.Goals as goal

pub place_at-requires : goal.place_at-requires
place_at-requires c =
    let h = in_order-at c.args.tokens.now 0 (length c.args.text.now) c.args.number (record { kind = Identifier; from = 0; to = 0 }) c.requires c.if-number-tokens.true in
    omega (arith, h.0, h.1)

pub returns-then-number-tokens : goal.returns-then-number-tokens
returns-then-number-tokens c =
    c.place_at.ensures
    ∙ ap (λ (o : Option Lexeme). place_of c.args.text.now (offset_of c.args.text.now o)) (sym (token_at c.args.text.now c.args.tokens.now c.args.number (record { kind = Identifier; from = 0; to = 0 }) c.if-number-tokens.true))

pub returns-else-number-tokens : goal.returns-else-number-tokens
returns-else-number-tokens c =
    c.place_at-else-number-tokens.ensures
    ∙ ap (λ (o : Option Lexeme). place_of c.args.text.now (offset_of c.args.text.now o)) (sym (no_token_at c.args.text.now c.args.tokens.now c.args.number c.if-number-tokens.false))
