-- The loop over a text, token by token: the tokens so far led to the current state, and at the end they are all tokens of the
-- text.
use Rattle.std.proofs.Common.{◌≡◌, ◌≤◌, ℕ, List, [], ◌∷◌, ◌++◌, length, Some, None, Option, Result, Ok, sym, subst}
use Rattle.std.specs.Prelude.{IfSome}
use Rattle.std.specs.Option.{option_map}
use Rattle.std.proofs.lemmas.List.{map_push}
use Rattle.cc_tokens.specs.declared.token.Token.{Token}
use Rattle.cc_tokens.specs.Reading.{FoundBefore}
use Rattle.cc_tokens.specs.Token.{Lexeme, lexeme, lexemes}
use Rattle.cc_tokens.proofs.Found.{found_all, found_none}
use Rattle.cc_syntax.specs.declared.parser.state.Parser as parser
use Rattle.cc_syntax.specs.declared.parser.stop.Stop as stop
use Rattle.cc_ast.specs.Tree.{External}
use Rattle.cc_ast.specs.Parse.{SpellsText}
use Rattle.cc_syntax.specs.internal.Parser.{State, start, tree_of}
use Rattle.cc_syntax.specs.internal.ParserView.{parser_view, Advances}
use Rattle.cc_syntax.proofs.ReadsTokens.{unit_state}
use Rattle.cc_syntax.proofs.Verdict.{Reached, at_start, reach_next, spelled_within}

-- the tokens before an offset led to the state, and all of them are within the limits
pub record ReadTo (text : List ℕ) (s : State) (at : ℕ) : Type 0 where
  pub tokens : List Token
  pub found : FoundBefore text tokens at
  pub reached : Reached s (lexemes text tokens)

pub read_none : (text : List ℕ) (s : State) → s ≡ start → ReadTo text s 0
read_none text s e = record { tokens = []; found = found_none text; reached = subst (λ (z : State). Reached z []) (sym e) at_start }

-- if the tokens read so far are also all the tokens before a later offset, the state is the one at that offset too
pub read_blank : (text : List ℕ) (s : State) (at to : ℕ) (r : ReadTo text s at) → FoundBefore text r.tokens to → ReadTo text s to
read_blank text s at to r f = record { tokens = r.tokens; found = f; reached = r.reached }

-- if the parser accepts one more token, the tokens before the end of that token led to the new state
pub read_more : {X : Type 0} {v : X} (text : List ℕ) (s : State) (at : ℕ) (t : Token) (p : parser.Parser) (a : Result X stop.Stop) (r : ReadTo text s at) → FoundBefore text (r.tokens ++ t ∷ []) t.to → Advances s (lexeme text t) a p → a ≡ Ok v → ReadTo text (parser_view p) t.to
read_more {X} {v} text s at t p a r f h e =
    let b = subst (λ (z : Result X stop.Stop). Advances s (lexeme text t) z p) e h in
    let all = sym (map_push (lexeme text) r.tokens t) in
    record {
      tokens = r.tokens ++ t ∷ [];
      found = f;
      reached = subst (λ (z : List Lexeme). Reached (parser_view p) z) all (reach_next s (parser_view p) (lexemes text r.tokens) (lexeme text t) r.reached b.0 b.1);
    }

-- if the tokens before the end of the text led to the end of a unit, the text spells the unit's tree
pub read_all : (text : List ℕ) (s : State) (at : ℕ) (tree : List External) → ReadTo text s at → length text ≤ at → tree_of s ≡ Some tree → SpellsText text tree
read_all text s at tree r past e =
    let unit = unit_state s tree e in
    record {
      tokens = lexemes text r.tokens;
      are = found_all text r.tokens at r.found past;
      spelled = spelled_within tree (lexemes text r.tokens) unit.1 (subst (λ (z : State). Reached z (lexemes text r.tokens)) unit.0 r.reached);
    }

-- at the end of the text, a result that is not None is the tree that the text spells
pub read_answered : {E : Type 0} (text : List ℕ) (s : State) (at : ℕ) (view : E → List External) (r : Option E) → ReadTo text s at → length text ≤ at → option_map view r ≡ tree_of s → IfSome r (λ x. SpellsText text (view x))
read_answered text s at view None read past e = tt
read_answered text s at view (Some x) read past e = read_all text s at (view x) read past (sym e)
