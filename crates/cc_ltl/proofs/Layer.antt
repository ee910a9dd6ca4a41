-- LTL's moves are moves of a layer.
use Rattle.std.proofs.Common.{◌≡◌, ℕ, List, [], Option, Some, None, refl, sym, ap, subst}
use Rattle.std.specs.Prelude.{option_map}
use Rattle.std.proofs.lemmas.List.{append-nil}
use Rattle.std.proofs.lemmas.Option.{none-some, same_Some}
use Rattle.cc_simulation.specs.Behavior.{IsPrefixOf}
use Rattle.cc_simulation.specs.World.{World, Question, Answer, element, stored}
use Rattle.cc_simulation.specs.Run.{Move as Moving, Goes, Calls, tried}
use Rattle.cc_simulation.specs.Cuts.{IsLayer}
use Rattle.cc_words.specs.Operators.{apply_binary}
use Rattle.cc_ltl.specs.declared.operation.Move.{Move}
use Rattle.cc_ltl.specs.declared.operation.Operation.{Operation}
use Rattle.cc_ltl.specs.declared.operation.Operation.TheVariants.{Nop, Const, Unary, Binary, Load, Store, Call, Read, Write, Branch, Return}
use Rattle.cc_ltl.specs.declared.block.Block.{Block}
use Rattle.cc_ltl.specs.declared.location.Location.TheVariants.{Register}
use Rattle.cc_ltl.specs.Ltl.{Ltl, Configuration, Locations, operate, moved, block_at, ltl_move, ltl_output}

-- a move that goes on, or that calls, was made from a value that is there
tried_goes : {C X : Type 0} (x : Option X) (go : X → Moving C) (d : C) → tried x go ≡ Goes d → (y : X) × (x ≡ Some y) × (go y ≡ Goes d)
tried_goes (Some y) go d e = (y, refl, e)
tried_goes None go d e = absurd cc

tried_calls : {C X : Type 0} (x : Option X) (go : X → Moving C) (q : Question) (resume : Answer → C) → tried x go ≡ Calls q resume → (y : X) × (x ≡ Some y) × (go y ≡ Calls q resume)
tried_calls (Some y) go q resume e = (y, refl, e)
tried_calls None go q resume e = absurd cc

abbrev GrowsTo : World → Configuration → Type 0
GrowsTo world d = IsPrefixOf world.output d.world.output

same_goes : (c d : Configuration) → Goes c ≡ Goes d → c ≡ d
same_goes c d e = cc

-- a move that leaves the output as it was does not shorten it
keeps : (world : World) (c d : Configuration) → c.world.output ≡ world.output → Goes c ≡ Goes d → GrowsTo world d
keeps world c d same e = subst (GrowsTo world) (same_goes c d e) ([], rw same (append-nil world.output))

stored_output : (h : World) (object index word : ℕ) (x : Option ℕ) (make : ℕ → World) (changed : World) → ((old : ℕ) → (make old).output ≡ h.output) → option_map make x ≡ Some changed → changed.output ≡ h.output
stored_output h object index word (Some old) make changed same e = subst (λ (w : World). w.output ≡ h.output) (same_Some (make old) changed e) (same old)
stored_output h object index word None make changed same e = absurd (none-some changed e)

operate_grows : (arity : ℕ → ℕ) (o : Operation) (after : List Move) (at : Locations) (world : World) (words : List ℕ) (d : Configuration) → operate arity o after at world words ≡ Goes d → GrowsTo world d
operate_grows arity (Nop next) after at world words d e = keeps world _ d refl e
operate_grows arity (Const to w next) after at world words d e = keeps world _ d refl e
operate_grows arity (Unary o to from next) after at world words d e = keeps world _ d refl e
operate_grows arity (Binary o to left right next) after at world words d e =
    let y = tried_goes (apply_binary o (at (Register left)) (at (Register right))) _ d e in
    keeps world _ d refl y.2
operate_grows arity (Load width object to index next) after at world words d e =
    let y = tried_goes (element world width object (at (Register index))) _ d e in
    keeps world _ d refl y.2
operate_grows arity (Store width object index from next) after at world words d e =
    let y = tried_goes (stored world width object (at (Register index)) (at (Register from))) _ d e in
    keeps world _ d (stored_output world object (at (Register index)) (at (Register from)) (element world width object (at (Register index))) _ y.0 (λ old. refl) y.1) y.2
operate_grows arity (Call function next) after at world words d e = absurd cc
operate_grows arity (Read next) after at world words d e = subst (GrowsTo world) (same_goes _ d e) (_, refl)
operate_grows arity (Write next) after at world words d e = subst (GrowsTo world) (same_goes _ d e) (_, refl)
operate_grows arity (Branch from if_nonzero if_zero) after at world words d e = keeps world _ d refl e
operate_grows arity Return after at world words d e = absurd cc

-- a call hands over the output so far, and after its answer the output is the answer's
abbrev CallsWith : World → Question → (Answer → Configuration) → Type 0
CallsWith world q resume = (q.world.output ≡ world.output) × ((a : Answer) → (resume a).world.output ≡ a.world.output)

same_calls : (p q : Question) (f g : Answer → Configuration) → Calls p f ≡ Calls q g → (p ≡ q) × (f ≡ g)
same_calls p q f g e = (cc, cc)

operate_calls : (arity : ℕ → ℕ) (o : Operation) (after : List Move) (at : Locations) (world : World) (words : List ℕ) (q : Question) (resume : Answer → Configuration) → operate arity o after at world words ≡ Calls q resume → CallsWith world q resume
operate_calls arity (Nop next) after at world words q resume e = absurd cc
operate_calls arity (Const to w next) after at world words q resume e = absurd cc
operate_calls arity (Unary o to from next) after at world words q resume e = absurd cc
operate_calls arity (Binary o to left right next) after at world words q resume e =
    let y = tried_calls (apply_binary o (at (Register left)) (at (Register right))) _ q resume e in
    absurd (cc y.2)
operate_calls arity (Load width object to index next) after at world words q resume e =
    let y = tried_calls (element world width object (at (Register index))) _ q resume e in
    absurd (cc y.2)
operate_calls arity (Store width object index from next) after at world words q resume e =
    let y = tried_calls (stored world width object (at (Register index)) (at (Register from))) _ q resume e in
    absurd (cc y.2)
operate_calls arity (Call function next) after at world words q resume e =
    let same = same_calls _ q _ resume e in
    (ap (λ (p : Question). p.world.output) (sym same.0), λ a. ap (λ (f : Answer → Configuration). (f a).world.output) (sym same.1))
operate_calls arity (Read next) after at world words q resume e = absurd cc
operate_calls arity (Write next) after at world words q resume e = absurd cc
operate_calls arity (Branch from if_nonzero if_zero) after at world words q resume e = absurd cc
operate_calls arity Return after at world words q resume e = absurd cc

move_calls : (arity : ℕ → ℕ) (l : Ltl) (c : Configuration) (q : Question) (resume : Answer → Configuration) → ltl_move arity l c ≡ Calls q resume → CallsWith c.world q resume
move_calls arity l c q resume e =
    let y = tried_calls (block_at l.blocks c.label) (λ (block : Block). operate arity block.operation block.after (moved block.before c.locations) c.world c.words) q resume e in
    operate_calls arity y.0.operation y.0.after (moved y.0.before c.locations) c.world c.words q resume y.2

pub is_layer : (arity : ℕ → ℕ) (l : Ltl) → IsLayer (ltl_move arity l) ltl_output
is_layer arity l = record {
  grows = λ c d e.
      let y = tried_goes (block_at l.blocks c.label) (λ (block : Block). operate arity block.operation block.after (moved block.before c.locations) c.world c.words) d e in
      operate_grows arity y.0.operation y.0.after (moved y.0.before c.locations) c.world c.words d y.2;
  hands_over = λ c q resume e. (move_calls arity l c q resume e).0;
  resumes = λ c q resume e. (move_calls arity l c q resume e).1;
}
