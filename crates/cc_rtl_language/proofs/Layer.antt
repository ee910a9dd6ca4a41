-- RTL is a layer: outputs grow, and a call passes on the output so far and continues from the output of its answer. So a run that
-- keeps up with its function follows it.
use Rattle.std.proofs.Common.{◌≡◌, ℕ, List, [], ◌∷◌, Option, Some, None, option_map, refl, subst}
use Rattle.cc_words.specs.Operators.{apply_binary}
use Rattle.cc_words.specs.Observed.{read_mark}
use Rattle.cc_simulation.specs.Behavior.{IsPrefixOf}
use Rattle.cc_simulation.specs.World.{World, Answer, element}
use Rattle.cc_simulation.specs.Run.{Move, Goes, Calls, Returns, Fails, tried}
use Rattle.cc_simulation.specs.Cuts.{IsLayer}
use Rattle.cc_simulation.proofs.Behaving.{begins_refl}
use Rattle.cc_simulation.proofs.Following.{tracks_follow}
use Rattle.cc_ast.specs.Tree.{External}
use Rattle.cc_rtl_language.specs.Rtl as rtl
use Rattle.cc_rtl_language.specs.Rtl.{Configuration, Registers, Rtl, node_at, node_move, rtl_output, rtl_start}
use Rattle.cc_c_semantics.specs.declared.mode.Mode.{Mode}
use Rattle.cc_rtl_language.specs.Pair.{KeepsUp, FollowsFunction}
use Rattle.cc_rtl_language.specs.internal.Moves.{Graph, graph_move}

-- a move keeps to the output so far: `IsLayer` for this one move
abbrev Layered : (o : List ℕ) → Move Configuration → Type 0
Layered o (Goes d) = IsPrefixOf o (rtl_output d)
Layered o (Calls q resume) = (q.world.output ≡ o) × ((a : Answer) → rtl_output (resume a) ≡ a.world.output)
Layered o (Returns a) = Unit {0}
Layered o Fails = Unit {0}

tried_case : {X : Type 0} (o : List ℕ) (x : Option X) (go : X → Move Configuration) → ((a : X) → Layered o (go a)) → Layered o (tried x go)
tried_case o None go f = tt
tried_case o (Some a) go f = f a

stored_case : (o : List ℕ) (x : Option ℕ) (f : ℕ → World) (go : World → Move Configuration) → ((w : ℕ) → Layered o (go (f w))) → Layered o (tried (option_map f x) go)
stored_case o None f go q = tt
stored_case o (Some w) f go q = q w

layered : (n : rtl.Node) (r : Registers) (h : World) → Layered h.output (node_move n r h)
layered (rtl.Nop next) r h = begins_refl h.output
layered (rtl.Const to word next) r h = begins_refl h.output
layered (rtl.Move to from next) r h = begins_refl h.output
layered (rtl.Unary op to from next) r h = begins_refl h.output
layered (rtl.Binary op to left right next) r h = tried_case h.output (apply_binary op (r left) (r right)) _ (λ w. begins_refl h.output)
layered (rtl.Load width object to index next) r h = tried_case h.output (element h width object (r index)) _ (λ w. begins_refl h.output)
layered (rtl.Store width object index from next) r h = stored_case h.output (element h width object (r index)) _ _ (λ w. begins_refl h.output)
layered (rtl.Call f rs to next) r h = (refl, λ a. refl)
layered (rtl.Read to next) r h = (read_mark ∷ [], refl)
layered (rtl.Write from next) r h = (r from ∷ [], refl)
layered (rtl.Branch from m n) r h = begins_refl h.output
layered (rtl.Return from) r h = tt

pub rtl_layer : (nodes : Graph) → IsLayer (graph_move nodes) rtl_output
rtl_layer nodes = record {
  grows = λ c d e. subst (Layered (rtl_output c)) e (at_label c);
  hands_over = λ c q resume e. (subst (Layered (rtl_output c)) e (at_label c)).0;
  resumes = λ c q resume e a. (subst (Layered (rtl_output c)) e (at_label c)).1 a;
}
  where
    at_label : (c : Configuration) → Layered (rtl_output c) (graph_move nodes c)
    at_label c = tried_case (rtl_output c) (nodes c.label) _ (λ n. layered n c.registers c.world)

-- a run that keeps up with its function, at whatever rate, follows it
pub follows_of : (mode : Mode) (unit : List External) (f : ℕ) (r : Rtl) → KeepsUp mode unit f r → FollowsFunction mode unit f r
follows_of mode unit f r (rate, keeps) meaning is opened below ws h call =
    tracks_follow meaning (graph_move (node_at r.nodes)) rtl_output (rtl_layer (node_at r.nodes)) f rate (rtl_start r) (keeps meaning is) opened below ws h call
