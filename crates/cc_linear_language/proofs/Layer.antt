-- Linear's moves are moves of a layer.
use Rattle.std.proofs.Common.{◌≡◌, ℕ, List, [], ◌∷◌, Option, Some, None, refl, sym, ap, subst}
use Rattle.std.specs.Prelude.{option_map}
use Rattle.std.proofs.lemmas.List.{append-nil}
use Rattle.std.proofs.lemmas.Option.{none-some, same_Some}
use Rattle.cc_ast.specs.Tree.{External}
use Rattle.cc_simulation.specs.Behavior.{IsPrefixOf}
use Rattle.cc_simulation.specs.World.{World, Question, Answer, element, stored}
use Rattle.cc_simulation.specs.Run.{Move as Moving, Goes, Calls, tried}
use Rattle.cc_simulation.specs.Cuts.{IsLayer}
use Rattle.cc_simulation.proofs.Following.{all_follow}
use Rattle.cc_words.specs.Operators.{apply_binary}
use Rattle.cc_ltl.specs.declared.location.Location.TheVariants.{Register}
use Rattle.cc_ltl.specs.Ltl.{Locations}
use Rattle.cc_linear_language.specs.declared.item.LinearItem.{LinearItem}
use Rattle.cc_linear_language.specs.declared.item.LinearItem.TheVariants.{Label, Jump, IfNonzero, IfZero, Copy, Const, Unary, Binary, Load, Store, Call, Read, Write, Return}
use Rattle.cc_linear_language.specs.Linear.{Configuration, does, linear_move, linear_output, linear_start}
use Rattle.cc_c_semantics.specs.declared.mode.Mode.{Mode}
use Rattle.cc_linear_language.specs.Pair.{KeepsUp, FollowsFunction}

-- if a move goes on, or calls, there is a value from which it was made
tried_goes : {C X : Type 0} (x : Option X) (go : X → Moving C) (d : C) → tried x go ≡ Goes d → (y : X) × (x ≡ Some y) × (go y ≡ Goes d)
tried_goes (Some y) go d e = (y, refl, e)
tried_goes None go d e = absurd cc

tried_calls : {C X : Type 0} (x : Option X) (go : X → Moving C) (q : Question) (resume : Answer → C) → tried x go ≡ Calls q resume → (y : X) × (x ≡ Some y) × (go y ≡ Calls q resume)
tried_calls (Some y) go q resume e = (y, refl, e)
tried_calls None go q resume e = absurd cc

abbrev GrowsTo : World → Configuration → Type 0
GrowsTo world d = IsPrefixOf world.output d.world.output

same_goes : (c d : Configuration) → Goes c ≡ Goes d → c ≡ d
same_goes c d e = cc

-- a move that leaves the output as it was does not shorten it
keeps : (world : World) (c d : Configuration) → c.world.output ≡ world.output → Goes c ≡ Goes d → GrowsTo world d
keeps world c d same e = subst (GrowsTo world) (same_goes c d e) ([], rw same (append-nil world.output))

stored_output : (h : World) (object index word : ℕ) (x : Option ℕ) (make : ℕ → World) (changed : World) → ((old : ℕ) → (make old).output ≡ h.output) → option_map make x ≡ Some changed → changed.output ≡ h.output
stored_output h object index word (Some old) make changed same e = subst (λ (w : World). w.output ≡ h.output) (same_Some (make old) changed e) (same old)
stored_output h object index word None make changed same e = absurd (none-some changed e)

does_grows : (arity : ℕ → ℕ) (code items : List LinearItem) (at : Locations) (world : World) (words : List ℕ) (d : Configuration) → does arity code items at world words ≡ Goes d → GrowsTo world d
does_grows arity code [] at world words d e = absurd cc
does_grows arity code (Label l ∷ items) at world words d e = does_grows arity code items at world words d e
does_grows arity code (Jump l ∷ items) at world words d e = keeps world _ d refl e
does_grows arity code (IfNonzero from l ∷ items) at world words d e = keeps world _ d refl e
does_grows arity code (IfZero from l ∷ items) at world words d e = keeps world _ d refl e
does_grows arity code (Copy m ∷ items) at world words d e = keeps world _ d refl e
does_grows arity code (Const to w ∷ items) at world words d e = keeps world _ d refl e
does_grows arity code (Unary o to from ∷ items) at world words d e = keeps world _ d refl e
does_grows arity code (Binary o to left right ∷ items) at world words d e =
    let y = tried_goes (apply_binary o (at (Register left)) (at (Register right))) _ d e in
    keeps world _ d refl y.2
does_grows arity code (Load width object to index ∷ items) at world words d e =
    let y = tried_goes (element world width object (at (Register index))) _ d e in
    keeps world _ d refl y.2
does_grows arity code (Store width object index from ∷ items) at world words d e =
    let y = tried_goes (stored world width object (at (Register index)) (at (Register from))) _ d e in
    keeps world _ d (stored_output world object (at (Register index)) (at (Register from)) (element world width object (at (Register index))) _ y.0 (λ old. refl) y.1) y.2
does_grows arity code (Call function ∷ items) at world words d e = absurd cc
does_grows arity code (Read ∷ items) at world words d e = subst (GrowsTo world) (same_goes _ d e) (_, refl)
does_grows arity code (Write ∷ items) at world words d e = subst (GrowsTo world) (same_goes _ d e) (_, refl)
does_grows arity code (Return ∷ items) at world words d e = absurd cc

-- a call hands over the output so far, and after the call's answer the output is the answer's
abbrev CallsWith : World → Question → (Answer → Configuration) → Type 0
CallsWith world q resume = (q.world.output ≡ world.output) × ((a : Answer) → (resume a).world.output ≡ a.world.output)

same_calls : (p q : Question) (f g : Answer → Configuration) → Calls p f ≡ Calls q g → (p ≡ q) × (f ≡ g)
same_calls p q f g e = (cc, cc)

does_calls : (arity : ℕ → ℕ) (code items : List LinearItem) (at : Locations) (world : World) (words : List ℕ) (q : Question) (resume : Answer → Configuration) → does arity code items at world words ≡ Calls q resume → CallsWith world q resume
does_calls arity code [] at world words q resume e = absurd cc
does_calls arity code (Label l ∷ items) at world words q resume e = does_calls arity code items at world words q resume e
does_calls arity code (Jump l ∷ items) at world words q resume e = absurd cc
does_calls arity code (IfNonzero from l ∷ items) at world words q resume e = absurd cc
does_calls arity code (IfZero from l ∷ items) at world words q resume e = absurd cc
does_calls arity code (Copy m ∷ items) at world words q resume e = absurd cc
does_calls arity code (Const to w ∷ items) at world words q resume e = absurd cc
does_calls arity code (Unary o to from ∷ items) at world words q resume e = absurd cc
does_calls arity code (Binary o to left right ∷ items) at world words q resume e =
    let y = tried_calls (apply_binary o (at (Register left)) (at (Register right))) _ q resume e in
    absurd (cc y.2)
does_calls arity code (Load width object to index ∷ items) at world words q resume e =
    let y = tried_calls (element world width object (at (Register index))) _ q resume e in
    absurd (cc y.2)
does_calls arity code (Store width object index from ∷ items) at world words q resume e =
    let y = tried_calls (stored world width object (at (Register index)) (at (Register from))) _ q resume e in
    absurd (cc y.2)
does_calls arity code (Call function ∷ items) at world words q resume e =
    let same = same_calls _ q _ resume e in
    (ap (λ (p : Question). p.world.output) (sym same.0), λ a. ap (λ (f : Answer → Configuration). (f a).world.output) (sym same.1))
does_calls arity code (Read ∷ items) at world words q resume e = absurd cc
does_calls arity code (Write ∷ items) at world words q resume e = absurd cc
does_calls arity code (Return ∷ items) at world words q resume e = absurd cc

pub is_layer : (arity : ℕ → ℕ) (code : List LinearItem) → IsLayer (linear_move arity code) linear_output
is_layer arity code = record {
  grows = λ c d e. does_grows arity code c.items c.locations c.world c.words d e;
  hands_over = λ c q resume e. (does_calls arity code c.items c.locations c.world c.words q resume e).0;
  resumes = λ c q resume e. (does_calls arity code c.items c.locations c.world c.words q resume e).1;
}

-- code that keeps up with the source, at whatever rate, follows it
pub follows_of : (mode : Mode) (unit : List External) (f slots : ℕ) (code : List LinearItem) → KeepsUp mode unit f slots code → FollowsFunction mode unit f slots code
follows_of mode unit f slots code (rate, keeps_up) meaning is opened below ws h call =
    all_follow meaning (linear_move meaning.arity code) linear_output (is_layer meaning.arity code) f rate (linear_start slots code) (keeps_up meaning is) opened below ws h call
