-- The loop over a list of tokens: what it returns at each of its exits.
use Rattle.std.proofs.Common.{◌≡◌, ◌<◌, ◌≤◌, ◌+◌, ℕ, suc, List, [], ◌∷◌, length, take, get_or, Some, None, Result, Ok, Err, refl, sym, ap, subst, arith}
use Rattle.std.proofs.lemmas.List.{take_all}
use Rattle.cc_tokens.specs.declared.token.Token.{Token}
use Rattle.cc_syntax.specs.declared.parser.state.Parser as parser
use Rattle.cc_syntax.specs.declared.parser.stop.Stop as stop
use Rattle.cc_syntax.specs.declared.parser.stop.Stop.TheVariants as stops
use Rattle.cc_syntax.specs.declared.parser.stop.Refusal.TheVariants as refusals
use Rattle.cc_tokens.specs.Token.{Lexeme, lexeme, lexemes}
use Rattle.cc_ast.specs.Tree.{External}
use Rattle.cc_ast.specs.Limits.{SpellsWithin}
use Rattle.cc_syntax.specs.internal.Parser.{State, AtFile, Between, tree_of}
use Rattle.cc_syntax.specs.internal.ParserView.{parser_view, Advances, Refuses}
use Rattle.cc_syntax.proofs.Settles.{none-some}
use Rattle.cc_syntax.proofs.Finishes.{IsUnit}
use Rattle.cc_syntax.proofs.Verdict.{Reached, fine_before, unexpected, unexpected_end, too_deep, reach, spelled_within}
use Rattle.cc_syntax.proofs.TokenOrder.{cut_at, length-lexemes}

pub stopped : {X : Type 0} (s : State) (text : List ℕ) (ts : List Token) (k : ℕ) (d : Token) (p : parser.Parser) (r : Result X stop.Stop) → k < length ts → Reached s (take k (lexemes text ts)) → Advances s (lexeme text (get_or ts k d)) r p → r ≡ Err stops.Unexpected → Refuses (lexemes text ts) (refusals.Unexpected k)
stopped {X} s text ts k d p r i h a e =
    (fine_before s (lexemes text ts) k h, unexpected s (lexemes text ts) k (lexeme text (get_or ts k d)) h (cut_at text ts k d i) (subst (λ (z : Result X stop.Stop). Advances s (lexeme text (get_or ts k d)) z p) e a))

pub past_limit : {X : Type 0} (s : State) (text : List ℕ) (ts : List Token) (k : ℕ) (d : Token) (p : parser.Parser) (r : Result X stop.Stop) → k < length ts → Reached s (take k (lexemes text ts)) → Advances s (lexeme text (get_or ts k d)) r p → r ≡ Err stops.TooDeep → Refuses (lexemes text ts) (refusals.TooDeep k)
past_limit {X} s text ts k d p r i h a e =
    let b = subst (λ (z : Result X stop.Stop). Advances s (lexeme text (get_or ts k d)) z p) e a in
    (fine_before s (lexemes text ts) k h, too_deep s b.0 (lexemes text ts) k (lexeme text (get_or ts k d)) h (cut_at text ts k d i) b.1 b.2)

pub goes_on : {X : Type 0} {v : X} (s : State) (text : List ℕ) (ts : List Token) (k : ℕ) (d : Token) (p : parser.Parser) (r : Result X stop.Stop) → k < length ts → Reached s (take k (lexemes text ts)) → Advances s (lexeme text (get_or ts k d)) r p → r ≡ Ok v → Reached (parser_view p) (take (k + 1) (lexemes text ts))
goes_on {X} {v} s text ts k d p r i h a e =
    let b = subst (λ (z : Result X stop.Stop). Advances s (lexeme text (get_or ts k d)) z p) e a in
    let more : suc k ≡ k + 1 = omega arith in
    subst (λ (j : ℕ). Reached (parser_view p) (take j (lexemes text ts))) more (reach s (parser_view p) (lexemes text ts) k (lexeme text (get_or ts k d)) h (cut_at text ts k d i) b.0 b.1)

all_of : (s : State) (text : List ℕ) (ts : List Token) (k : ℕ) → length ts ≤ k → Reached s (take k (lexemes text ts)) → Reached s (lexemes text ts)
all_of s text ts k i h = subst (λ (z : List Lexeme). Reached s z) (take_all k (lexemes text ts) (omega (arith, length-lexemes text ts, i))) h

-- if a unit may end in the state, the state is between external declarations
pub unit_state : (s : State) (tree : List External) → tree_of s ≡ Some tree → (s ≡ AtFile tree Between) × IsUnit tree
unit_state (AtFile [] o) tree e = absurd (none-some None tree refl e)
unit_state (AtFile (d ∷ ds) Between) tree e =
    let same : d ∷ ds ≡ tree = cc in
    (ap (λ (z : List External). AtFile z Between) same, subst (λ (z : List External). IsUnit z) same tt)
unit_state _ tree e = absurd (none-some None tree refl e)

pub finished : (s : State) (text : List ℕ) (ts : List Token) (k : ℕ) (tree : List External) → length ts ≤ k → Reached s (take k (lexemes text ts)) → tree_of s ≡ Some tree → SpellsWithin (lexemes text ts) tree
finished s text ts k tree i h e =
    let unit = unit_state s tree e in
    spelled_within tree (lexemes text ts) unit.1 (subst (λ (z : State). Reached z (lexemes text ts)) unit.0 (all_of s text ts k i h))

pub unfinished : (s : State) (text : List ℕ) (ts : List Token) (k : ℕ) → length ts ≤ k → k ≤ length ts → Reached s (take k (lexemes text ts)) → tree_of s ≡ None → Refuses (lexemes text ts) (refusals.Unexpected (length ts))
unfinished s text ts k i j h e =
    let same : k ≡ length ts = omega arith in (
      fine_before s (lexemes text ts) (length ts) (subst (λ (z : ℕ). Reached s (take z (lexemes text ts))) same h),
      unexpected_end s (lexemes text ts) (length ts) (all_of s text ts k i h) (sym (length-lexemes text ts)) e,
    )
