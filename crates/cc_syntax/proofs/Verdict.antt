-- The parser stops at the first token that breaks the grammar or a limit: some unit continues from what it has read (Finishes,
-- Keeps), and the parser reads every unit that begins with these tokens through the same states (ReadsExternal).
use Rattle.std.proofs.Common.{◌≡◌, ◌<◌, ◌≤◌, ℕ, zero, suc, List, [], ◌∷◌, ◌++◌, length, take, drop, Option, Some, None, refl, sym, ap, subst, ◌∙◌, arith, append_assoc, inl, inr}
use Rattle.std.specs.List.{AllByRecursion}
use Rattle.std.proofs.lemmas.List.{map-append, take-append-drop}
use Rattle.cc_tokens.specs.Token.{Lexeme}
use Rattle.cc_ast.specs.Tree.{External}
use Rattle.cc_ast.specs.Grammar.{Measured, SpellsUnit, plain_tokens, Begins}
use Rattle.cc_ast.specs.Limits.{IsWithin, PassesLimit, SpellsWithin, UnexpectedAt, TooDeepAt, IsFineBefore, TreesAreOne, SpelledHaveNoFault}
use Rattle.cc_syntax.specs.internal.Parser.{State, AtFile, Between, step, standing, start, tree_of}
use Rattle.cc_syntax.proofs.ParserRuns.{Runs, runs-append, runs-split, runs-one}
use Rattle.cc_syntax.proofs.ReadsExternal.{read_unit}
use Rattle.cc_syntax.proofs.Finishes.{IsUnit, finishes}
use Rattle.cc_syntax.proofs.Keeps.{unit_spelled}

-- the parser has reached the state over these tokens, and none of them exceeds a limit
pub record Reached (s : State) (xs : List Lexeme) : Type 0 where
  pub placed : List Measured
  pub runs : Runs start placed s
  pub fine : AllByRecursion IsWithin placed
  pub same : plain_tokens placed ≡ xs

all-append : (a b : List Measured) → AllByRecursion IsWithin a → AllByRecursion IsWithin b → AllByRecursion IsWithin (a ++ b)
all-append [] b h k = k
all-append (p ∷ a) b h k = (h.0, all-append a b h.1 k)

all-middle : (a : List Measured) (p : Measured) (b : List Measured) → AllByRecursion IsWithin (a ++ p ∷ b) → IsWithin p
all-middle [] p b h = h.0
all-middle (q ∷ a) p b h = all-middle a p b h.1

within-or-past : (p : Measured) → IsWithin p → PassesLimit p → ⊥
within-or-past p h (inl c) = let low : p.count ≤ 512 = h.0 in omega (arith, low, c)
within-or-past p h (inr l) = let low : p.level ≤ 64 = h.1 in omega (arith, low, l)

plain_tokens-append : (a b : List Measured) → plain_tokens (a ++ b) ≡ plain_tokens a ++ plain_tokens b
plain_tokens-append a b = map-append (λ (p : Measured). p.token) a b

head-same : (x y : Lexeme) (xs ys : List Lexeme) → x ∷ xs ≡ y ∷ ys → (x ≡ y) × (xs ≡ ys)
head-same x y xs ys e = (cc, cc)

nil-cons : (x : Lexeme) (xs : List Lexeme) → [] ≡ x ∷ xs → ⊥
nil-cons x xs e = cc

some-none : (o : Option State) (m : State) → o ≡ Some m → o ≡ None → ⊥
some-none o m h k = let e : Some m ≡ None = sym h ∙ k in cc

-- a run over more tokens continues from the end of the run over the first ones
follow : (ps us : List Measured) (a s e : State) (zs : List Lexeme) → Runs a ps s → Runs a us e → plain_tokens us ≡ plain_tokens ps ++ zs → (vs : List Measured) × (us ≡ ps ++ vs) × Runs s vs e × (plain_tokens vs ≡ zs)
follow [] us a s e zs h k t = (us, refl, subst (λ (z : State). Runs z us e) h k, t)
follow (p ∷ ps) [] a s e zs h k t = absurd (nil-cons _ _ t)
follow (p ∷ ps) (u ∷ us) a s e zs h k t =
    let both = head-same _ _ _ _ t in
    let one = runs-one a h.0 k.0 (p ∷ []) (u ∷ []) (h.0, h.1, h.2, h.3, refl) (k.0, k.1, k.2, k.3, refl) (ap (λ (x : Lexeme). x ∷ []) (sym both.0)) in
    let rest = follow ps us h.0 s e zs h.4 (subst (λ (z : State). Runs z us e) (sym one.1) k.4) both.1 in
    let first : u ≡ p = sym (head-placed p u one.0) in
    (rest.0, ap (λ (z : Measured). z ∷ us) first ∙ ap (λ (z : List Measured). p ∷ z) rest.1, rest.2, rest.3)
  where
    head-placed : (p u : Measured) → p ∷ [] ≡ u ∷ [] → p ≡ u
    head-placed p u e = cc

-- some unit begins with the tokens that were read
pub begins_from : (s : State) (xs : List Lexeme) → Reached s xs → Begins xs
begins_from s xs r =
    let f = finishes s in
    let all = r.placed ++ f.rest in (
      plain_tokens f.rest,
      f.tree,
      (
        all,
        unit_spelled f.tree all f.unit (runs-append start s (AtFile f.tree Between) r.placed f.rest r.runs f.runs),
        plain_tokens-append r.placed f.rest ∙ ap (λ (z : List Lexeme). z ++ plain_tokens f.rest) r.same,
      ),
    )

-- the token at the index `k` is `x`
pub record IsCutAt (tokens : List Lexeme) (k : ℕ) (x : Lexeme) : Type 0 where
  pub inside : k < length tokens
  pub next : take (suc k) tokens ≡ take k tokens ++ x ∷ []

-- if the parser has no step for a token, no unit continues with it
pub unexpected : (s : State) (tokens : List Lexeme) (k : ℕ) (x : Lexeme) → Reached s (take k tokens) → IsCutAt tokens k x → step s x ≡ None → UnexpectedAt tokens k
unexpected s tokens k x r c h = inl (c.inside, no_unit)
  where
    stuck : (m : State) (vs : List Measured) (zs : List Lexeme) → Runs s vs m → plain_tokens vs ≡ x ∷ zs → ⊥
    stuck m [] zs run t = nil-cons _ _ t
    stuck m (v ∷ vs) zs run t =
        let both = head-same _ _ _ _ t in
        some-none (step s x) run.0 (subst (λ (z : Lexeme). step s z ≡ Some run.0) both.0 run.1) h

    no_unit : Begins (take (suc k) tokens) → ⊥
    no_unit b =
        let same : plain_tokens b.2.0 ≡ plain_tokens r.placed ++ (x ∷ b.0) =
        b.2.2 ∙ ap (λ (z : List Lexeme). z ++ b.0) c.next ∙ append_assoc (take k tokens) (x ∷ []) b.0
        ∙ ap (λ (z : List Lexeme). z ++ (x ∷ b.0)) (sym r.same) in
        let rest = follow r.placed b.2.0 start s (AtFile b.1 Between) (x ∷ b.0) r.runs (read_unit b.1 b.2.0 b.2.1) same in
        stuck (AtFile b.1 Between) rest.0 b.0 rest.2 rest.3

-- if no unit may end at the end of the text, the text's tokens spell no tree
pub unexpected_end : (s : State) (tokens : List Lexeme) (k : ℕ) → Reached s tokens → k ≡ length tokens → tree_of s ≡ None → UnexpectedAt tokens k
unexpected_end s tokens k r e h = inr (e, λ tree spelled. none tree spelled.0 spelled.1 (runs-one start s (AtFile tree Between) r.placed spelled.0 r.runs (read_unit tree spelled.0 spelled.1) (r.same ∙ sym spelled.2)).1)
  where
    none : (tree : List External) (ts : List Measured) → SpellsUnit ts tree → s ≡ AtFile tree Between → ⊥
    none [] ts u t = absurd u
    none (d ∷ ds) ts u t = let e : None ≡ Some (d ∷ ds) = sym h ∙ ap (λ (z : State). tree_of z) t in cc

-- a token that was read within the limits is not too deep in any unit
in_run : (placed prefix rest : List Measured) (p : Measured) (s : State) (tree : List External) (zs : List Lexeme) → Runs start placed s → AllByRecursion IsWithin placed → SpellsUnit (prefix ++ p ∷ rest) tree → plain_tokens placed ≡ plain_tokens (prefix ++ p ∷ []) ++ zs → PassesLimit p → ⊥
in_run placed prefix rest p s tree zs runs fine unit same past =
    let whole = subst (λ (z : List Measured). Runs start z (AtFile tree Between)) (sym (append_assoc prefix (p ∷ []) rest)) (read_unit tree (prefix ++ p ∷ rest) unit) in
    let cut = runs-split start (AtFile tree Between) (prefix ++ p ∷ []) rest whole in
    let goes = follow (prefix ++ p ∷ []) placed start cut.0 s zs cut.1 runs same in
    let shown : AllByRecursion IsWithin (prefix ++ p ∷ goes.0) = subst (λ (z : List Measured). AllByRecursion IsWithin z) (goes.1 ∙ append_assoc prefix (p ∷ []) goes.0) fine in
    within-or-past p (all-middle prefix p goes.0 shown) past

pub take-less : (j k : ℕ) (xs : List Lexeme) → j ≤ k → take j (take k xs) ≡ take j xs
take-less zero k xs h = refl
take-less (suc j) zero xs h = absurd (omega arith)
take-less (suc j) (suc k) [] h = refl
take-less (suc j) (suc k) (x ∷ xs) h = ap (λ (z : List Lexeme). x ∷ z) (take-less j k xs (omega arith))

pub none_too_deep : (s : State) (tokens : List Lexeme) (k : ℕ) → Reached s (take k tokens) → (j : ℕ) → j < k → TooDeepAt tokens j → ⊥
none_too_deep s tokens k r j h d =
    let same : plain_tokens r.placed ≡ plain_tokens (d.0 ++ d.2 ∷ []) ++ drop (suc j) (take k tokens) =
    r.same ∙ sym (take-append-drop (suc j) (take k tokens))
    ∙ ap (λ (z : List Lexeme). z ++ drop (suc j) (take k tokens)) (take-less (suc j) k tokens (omega (arith, h)) ∙ sym d.7) in
    in_run r.placed d.0 d.1 d.2 s d.3 (drop (suc j) (take k tokens)) r.runs r.fine d.6 same d.5

pub fine_before : (s : State) (tokens : List Lexeme) (k : ℕ) → Reached s (take k tokens) → IsFineBefore tokens k
fine_before s tokens k r = (begins_from s (take k tokens) r, none_too_deep s tokens k r)

-- if a token that the parser reaches exceeds a limit, the token is too deep in the list
pub too_deep : (s m : State) (tokens : List Lexeme) (k : ℕ) (x : Lexeme) → Reached s (take k tokens) → IsCutAt tokens k x → step s x ≡ Some m → PassesLimit (standing s x m) → TooDeepAt tokens k
too_deep s m tokens k x r c h past =
    let f = finishes m in
    let p = standing s x m in
    let runs : Runs s (p ∷ f.rest) (AtFile f.tree Between) = (m, h, refl, refl, f.runs) in
    let all = r.placed ++ p ∷ f.rest in (
      r.placed,
      f.rest,
      p,
      f.tree,
      c.inside,
      past,
      unit_spelled f.tree all f.unit (runs-append start s (AtFile f.tree Between) r.placed (p ∷ f.rest) r.runs runs),
      plain_tokens-append r.placed (p ∷ []) ∙ ap (λ (z : List Lexeme). z ++ x ∷ []) r.same ∙ sym c.next,
    )

-- if the parser has reached a state, it reaches the next one over a token within the limits
pub reach_next : (s m : State) (xs : List Lexeme) (x : Lexeme) → Reached s xs → step s x ≡ Some m → IsWithin (standing s x m) → Reached m (xs ++ x ∷ [])
reach_next s m xs x r h within =
    let p = standing s x m in
    record {
      placed = r.placed ++ p ∷ [];
      runs = runs-append start s m r.placed (p ∷ []) r.runs (m, h, refl, refl, refl);
      fine = all-append r.placed (p ∷ []) r.fine (within, tt);
      same = plain_tokens-append r.placed (p ∷ []) ∙ ap (λ (z : List Lexeme). z ++ x ∷ []) r.same;
    }

-- once the parser has reached the token at the index `k`, it reaches the next state over that token, if the token is within
-- the limits
pub reach : (s m : State) (tokens : List Lexeme) (k : ℕ) (x : Lexeme) → Reached s (take k tokens) → IsCutAt tokens k x → step s x ≡ Some m → IsWithin (standing s x m) → Reached m (take (suc k) tokens)
reach s m tokens k x r c h within = subst (λ (z : List Lexeme). Reached m z) (sym c.next) (reach_next s m (take k tokens) x r h within)

pub at_start : Reached start []
at_start = record { placed = []; runs = refl; fine = tt; same = refl }

-- if the parser has reached the end of a unit, the tokens spell its tree within the limits
pub spelled_within : (tree : List External) (tokens : List Lexeme) → IsUnit tree → Reached (AtFile tree Between) tokens → SpellsWithin tokens tree
spelled_within tree tokens u r = (r.placed, unit_spelled tree r.placed u r.runs, r.fine, r.same)

-- tokens spell at most one tree
pub trees_are_one : TreesAreOne
trees_are_one tokens a b h k =
    same a b (runs-one start (AtFile a Between) (AtFile b Between) h.0 k.0 (read_unit a h.0 h.1) (read_unit b k.0 k.1) (h.2 ∙ sym k.2)).1
  where
    same : (a b : List External) → AtFile a Between ≡ AtFile b Between → a ≡ b
    same a b e = cc

-- tokens that spell a tree within the limits have no fault
pub spelled_have_no_fault : SpelledHaveNoFault
spelled_have_no_fault tokens tree k h = (no_unexpected, no_too_deep)
  where
    no_unexpected : UnexpectedAt tokens k → ⊥
    no_unexpected (inl u) = u.1 (drop (suc k) tokens, tree, (h.0, h.1, h.3 ∙ sym (take-append-drop (suc k) tokens)))
    no_unexpected (inr u) = u.1 tree (h.0, h.1, h.3)

    no_too_deep : TooDeepAt tokens k → ⊥
    no_too_deep d =
        in_run h.0 d.0 d.1 d.2 (AtFile tree Between) d.3 (drop (suc k) tokens) (read_unit tree h.0 h.1) h.2 d.6
        (h.3 ∙ sym (take-append-drop (suc k) tokens) ∙ ap (λ (z : List Lexeme). z ++ drop (suc k) tokens) (sym d.7)) d.5
