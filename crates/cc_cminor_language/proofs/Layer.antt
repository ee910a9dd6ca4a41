-- Cminor is a layer: outputs grow, and a call passes on the output so far and continues from the answer's output. So a run that
-- keeps up with the source follows it.
use Rattle.std.proofs.Common.{◌≡◌, ℕ, List, [], ◌∷◌, Option, Some, None, option_map, refl, subst}
use Rattle.cc_ast.specs.Tree.{External}
use Rattle.cc_c_semantics.specs.declared.mode.Mode.{Mode}
use Rattle.cc_words.specs.Observed.{read_mark}
use Rattle.cc_simulation.specs.Behavior.{IsPrefixOf}
use Rattle.cc_simulation.specs.World.{World, Answer, element}
use Rattle.cc_simulation.specs.Run.{Move, Goes, Calls, Fails, tried}
use Rattle.cc_simulation.specs.Cuts.{IsLayer}
use Rattle.cc_simulation.proofs.Behaving.{begins_refl}
use Rattle.cc_simulation.proofs.Following.{tracks_follow}
use Rattle.cc_cminor_language.specs.Cminor.{Statement, Skip, Set, Store, Call, Read, Write, Sequence, If, Loop, Block, Exit, Return, Continuation, Ends, Then, Again, Leaving, Config, value, values, moves, cminor_move, cminor_output}
use Rattle.cc_cminor_language.specs.Pair.{KeepsUp, FollowsFunction}

tried_case : {X : Type 0} (P : Move Config → Type 0) (o : Option X) (go : X → Move Config) → P Fails → ((x : X) → P (go x)) → P (tried o go)
tried_case P None go f g = f
tried_case P (Some x) go f g = g x

stored_case : (P : Move Config → Type 0) (h : World) (o : Option ℕ) (f : ℕ → World) (go : World → Move Config) → P Fails → ((w : ℕ) → P (go (f w))) → P (tried (option_map f o) go)
stored_case P h None f go p q = p
stored_case P h (Some w) f go p q = q w

-- what a move leads to, if the run continues
abbrev reached : World → Move Config → World
reached h (Goes d) = d.world
reached h m = h

abbrev Grows : World → Move Config → Type 0
Grows h m = IsPrefixOf h.output (reached h m).output

skips_grow : (κ : Continuation) (l : ℕ → ℕ) (h : World) → Grows h (moves Skip κ l h)
skips_grow Ends l h = begins_refl h.output
skips_grow (Then s κ) l h = begins_refl h.output
skips_grow (Again s κ) l h = begins_refl h.output
skips_grow (Leaving κ) l h = begins_refl h.output

exits_grow : (i : ℕ) (κ : Continuation) (l : ℕ → ℕ) (h : World) → Grows h (moves (Exit i) κ l h)
exits_grow i Ends l h = begins_refl h.output
exits_grow i (Then s κ) l h = begins_refl h.output
exits_grow i (Again s κ) l h = begins_refl h.output
exits_grow i (Leaving κ) l h = begins_refl h.output

moves_grow : (s : Statement) (κ : Continuation) (l : ℕ → ℕ) (h : World) → Grows h (moves s κ l h)
moves_grow Skip κ l h = skips_grow κ l h
moves_grow (Set x e) κ l h = tried_case (Grows h) (value e l h) _ (begins_refl h.output) (λ w. begins_refl h.output)
moves_grow (Store width o i e) κ l h =
    tried_case (Grows h) (value i l h) _ (begins_refl h.output) (λ j. tried_case (Grows h) (value e l h) _ (begins_refl h.output) (λ w.
    stored_case (Grows h) h (element h width o j) _ _ (begins_refl h.output) (λ old. begins_refl h.output)))
moves_grow (Call to f es) κ l h = tried_case (Grows h) (values es l h) _ (begins_refl h.output) (λ ws. begins_refl h.output)
moves_grow (Read to) κ l h = (read_mark ∷ [], refl)
moves_grow (Write e) κ l h = tried_case (Grows h) (value e l h) _ (begins_refl h.output) (λ w. (w ∷ [], refl))
moves_grow (Sequence a b) κ l h = begins_refl h.output
moves_grow (If e a b) κ l h = tried_case (Grows h) (value e l h) _ (begins_refl h.output) (λ w. begins_refl h.output)
moves_grow (Loop a) κ l h = begins_refl h.output
moves_grow (Block a) κ l h = begins_refl h.output
moves_grow (Exit i) κ l h = exits_grow i κ l h
moves_grow (Return e) κ l h = tried_case (Grows h) (value e l h) _ (begins_refl h.output) (λ w. begins_refl h.output)

-- what a move passes on, and what it continues with
abbrev handed : World → Move Config → World
handed h (Calls q resume) = q.world
handed h m = h

abbrev gone_on : Answer → Move Config → World
gone_on a (Calls q resume) = (resume a).world
gone_on a m = a.world

abbrev Asks : World → Move Config → Type 0
Asks h m = ((handed h m).output ≡ h.output) × ((a : Answer) → (gone_on a m).output ≡ a.world.output)

skips_ask : (κ : Continuation) (l : ℕ → ℕ) (h : World) → Asks h (moves Skip κ l h)
skips_ask Ends l h = (refl, λ a. refl)
skips_ask (Then s κ) l h = (refl, λ a. refl)
skips_ask (Again s κ) l h = (refl, λ a. refl)
skips_ask (Leaving κ) l h = (refl, λ a. refl)

exits_ask : (i : ℕ) (κ : Continuation) (l : ℕ → ℕ) (h : World) → Asks h (moves (Exit i) κ l h)
exits_ask i Ends l h = (refl, λ a. refl)
exits_ask i (Then s κ) l h = (refl, λ a. refl)
exits_ask i (Again s κ) l h = (refl, λ a. refl)
exits_ask i (Leaving κ) l h = (refl, λ a. refl)

moves_ask : (s : Statement) (κ : Continuation) (l : ℕ → ℕ) (h : World) → Asks h (moves s κ l h)
moves_ask Skip κ l h = skips_ask κ l h
moves_ask (Set x e) κ l h = tried_case (Asks h) (value e l h) _ (refl, λ a. refl) (λ w. (refl, λ a. refl))
moves_ask (Store width o i e) κ l h =
    tried_case (Asks h) (value i l h) _ (refl, λ a. refl) (λ j. tried_case (Asks h) (value e l h) _ (refl, λ a. refl) (λ w.
    stored_case (Asks h) h (element h width o j) _ _ (refl, λ a. refl) (λ old. (refl, λ a. refl))))
moves_ask (Call to f es) κ l h = tried_case (Asks h) (values es l h) _ (refl, λ a. refl) (λ ws. (refl, λ a. refl))
moves_ask (Read to) κ l h = (refl, λ a. refl)
moves_ask (Write e) κ l h = tried_case (Asks h) (value e l h) _ (refl, λ a. refl) (λ w. (refl, λ a. refl))
moves_ask (Sequence a b) κ l h = (refl, λ a. refl)
moves_ask (If e a b) κ l h = tried_case (Asks h) (value e l h) _ (refl, λ a. refl) (λ w. (refl, λ a. refl))
moves_ask (Loop a) κ l h = (refl, λ a. refl)
moves_ask (Block a) κ l h = (refl, λ a. refl)
moves_ask (Exit i) κ l h = exits_ask i κ l h
moves_ask (Return e) κ l h = tried_case (Asks h) (value e l h) _ (refl, λ a. refl) (λ w. (refl, λ a. refl))

pub cminor_is_layer : IsLayer cminor_move cminor_output
cminor_is_layer = record {
  grows = λ c d e. subst (Grows c.world) e (moves_grow c.statement c.next c.variables c.world);
  hands_over = λ c q resume e. (subst (Asks c.world) e (moves_ask c.statement c.next c.variables c.world)).0;
  resumes = λ c q resume e a. (subst (Asks c.world) e (moves_ask c.statement c.next c.variables c.world)).1 a;
}

-- a run that keeps up with the source follows it
pub follows_of : (mode : Mode) (unit : List External) (f : ℕ) (s : Statement) → KeepsUp mode unit f s → FollowsFunction mode unit f s
follows_of mode unit f s keeps meaning is opened below ws h call = tracks_follow meaning cminor_move cminor_output cminor_is_layer f 1 _ (keeps meaning is) opened below ws h call
