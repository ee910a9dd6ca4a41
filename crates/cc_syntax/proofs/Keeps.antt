-- In every state, reading a token extends what the tokens so far spell. So the tokens of a run spell what the parser has read.
use Rattle.std.proofs.Common.{ℕ, List, [], ◌∷◌, ◌++◌, Option, refl, sym, ap, subst, ◌∙◌, append_assoc}
use Rattle.std.proofs.lemmas.List.{append-nil}
use Rattle.cc_tokens.specs.Token.{Lexeme}
use Rattle.cc_ast.specs.Tree.{External}
use Rattle.cc_syntax.specs.internal.Roles.{role_of}
use Rattle.cc_ast.specs.Grammar.{Measured, SpellsExternals, SpellsUnit}
use Rattle.cc_syntax.specs.internal.Parser.{State, AtFile, InBody, InFull, Between, step, level_at, count_of, start}
use Rattle.cc_syntax.proofs.ParserRuns.{Runs}
use Rattle.cc_syntax.proofs.Finishes.{IsUnit}
use Rattle.cc_syntax.proofs.KeepsPhase.{has_role}
use Rattle.cc_syntax.proofs.SoFarUnit.{SoFar, Kept}
use Rattle.cc_syntax.proofs.KeepsOperator.{kept-full}
use Rattle.cc_syntax.proofs.KeepsStage.{kept-stage}
use Rattle.cc_syntax.proofs.KeepsOuter.{kept-outer}

-- one token
pub kept : (s : State) (x : Lexeme) (ts : List Measured) → SoFar s ts → Kept (step s x) ts x (level_at s x)
kept (AtFile es o) x ts k = kept-outer o es (role_of x.kind) ts x (has_role x.kind x refl) k
kept (InBody b s) x ts k = kept-stage s b (role_of x.kind) ts x (has_role x.kind x refl) k
kept (InFull f p) x ts k = kept-full p f (role_of x.kind) ts x (has_role x.kind x refl) k

-- a run
pub so_far : (us : List Measured) (s e : State) (ts : List Measured) → SoFar s ts → Runs s us e → SoFar e (ts ++ us)
so_far [] s e ts k h = subst (λ (z : State). SoFar z (ts ++ [])) h (subst (λ (z : List Measured). SoFar s z) (sym (append-nil ts)) k)
so_far (p ∷ us) s e ts k h =
    let one = subst (λ (o : Option State). Kept o ts p.token (level_at s p.token)) h.1 (kept s p.token ts k) in
    let named : SoFar h.0 (ts ++ p ∷ []) =
    subst (λ (c : ℕ). SoFar h.0 (ts ++ record { token = p.token; count = c; level = p.level } ∷ [])) (sym h.2)
    (subst (λ (l : ℕ). SoFar h.0 (ts ++ record { token = p.token; count = count_of h.0; level = l } ∷ [])) (sym h.3) one) in
    subst (λ (z : List Measured). SoFar e z) (append_assoc ts (p ∷ []) us) (so_far us h.0 e (ts ++ p ∷ []) named h.4)

-- the tokens of a run to the end of a unit spell that unit
pub unit_spelled : (tree : List External) (ts : List Measured) → IsUnit tree → Runs start ts (AtFile tree Between) → SpellsUnit ts tree
unit_spelled tree ts u h =
    let s = so_far ts start (AtFile tree Between) [] ([], [], refl, refl, refl) h in
    whole tree ts u (subst (λ (z : List Measured). SpellsExternals z tree) (sym (s.4 ∙ ap (λ (z : List Measured). s.0 ++ z) s.3 ∙ append-nil s.0)) s.2)
  where
    whole : (tree : List External) (ts : List Measured) → IsUnit tree → SpellsExternals ts tree → SpellsUnit ts tree
    whole [] ts u s = absurd u
    whole (e ∷ es) ts u s = s
