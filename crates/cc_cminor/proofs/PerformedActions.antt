-- The code of assignments, increments and declarations does what they do in the source.
use Rattle.std.proofs.Common.{◌≡◌, ℕ, suc, ◌<◌, ◌≤◌, Bool, true, false, if◌then◌else◌, List, [], ◌∷◌, ◌++◌, length, nat_lt, Option, Some, None, option_map, unwrap_or, is_some, slice_set, length-set, refl, sym, ap, ◌∙◌, subst, arith}
use Rattle.std.proofs.lemmas.Bool.{ltb-true, ltb-false}
use Rattle.std.proofs.lemmas.Option.{slice_get_past}
use Rattle.cc_tokens.specs.declared.scalar.Scalar.{Scalar}
use Rattle.cc_tokens.specs.declared.scalar.Scalar.TheVariants.{Int}
use Rattle.cc_ast.specs.declared.ast.BinaryOperator.{BinaryOperator}
use Rattle.cc_ast.specs.declared.ast.AssignmentOperator.{AssignmentOperator}
use Rattle.cc_ast.specs.declared.ast.AssignmentOperator.TheVariants as assignment
use Rattle.cc_ast.specs.declared.ast.StepOperator.{StepOperator}
use Rattle.cc_ast.specs.declared.ast.StepOperator.TheVariants as steps
use Rattle.cc_c_semantics.specs.declared.cause.Cause.TheVariants.{Index}
use Rattle.cc_types.specs.Operators.{binary_word, working_type, applied_operator, step_operator}
use Rattle.cc_types.specs.Types.{value_type, target_type}
use Rattle.cc_ast.specs.Tree.{Expr, Target, AtVariable, AtElement, Action, Assign, Step, Evaluate, Declarator, Beginning, Declares, Performs}
use Rattle.cc_types.specs.Names.{same_name}
use Rattle.cc_layout.specs.Layout.{Layout}
use Rattle.cc_layout.specs.Environment.{Environment, types_in, number_in, with_local, with_locals, behind_beginning}
use Rattle.cc_c_semantics.specs.Meaning as meaning
use Rattle.cc_c_semantics.specs.Calls.{NamedSize, size, sizes, laid_sizes}
use Rattle.cc_c_semantics.specs.Checked.{stays}
use Rattle.cc_c_semantics.specs.Meaning.{Global, State, Run, Gives, Flow, Falls, then_do, given, read_element, write_element, evaluate, evaluate_or, Destination, ToVariable, ToElement, destination, old_value, write, new_value, perform, perform_optional, stored, declare, start, global_words, local_word, with_local_word, with_element, variable_word}
use Rattle.cc_simulation.specs.World as world
use Rattle.cc_simulation.specs.World.{World}
use Rattle.cc_simulation.specs.Run.{Goes, Fails, tried}
use Rattle.cc_words.specs.Widths.{kept}
use Rattle.cc_words.specs.declared.operators.Width.{Width}
use Rattle.cc_words.specs.declared.operators.Width.TheVariants.{Word}
use Rattle.cc_cminor_language.specs.Cminor.{Expression, Constant, Local, Load, then_value, value, put, Statement, Skip, Set, Store, Sequence, Continuation, Then, Config, config, moves}
use Rattle.cc_cminor_language.specs.Code.{in_sequence}
use Rattle.cc_cminor.specs.internal.Lowering.{free, object_of, width_of, variable_of, write_to, variable_set, kind, Strict, is_plain, plain, put_expr, using, using_or, combined, assigned, performed, performed_optional, initialised, declared_code, started}
use Rattle.cc_cminor.proofs.Known.{IsObject, IsPlaced, IsVariable, Known, KnownOr, KnownTarget, KnownAction, KnownOptional, KnownDeclared, KnownBeginning}
use Rattle.cc_cminor.proofs.Paths.{world_at, after_list, Calling, stuck_here, Comes, comes_moved, comes_then, comes_here, comes_first, comes_next}
use Rattle.cc_cminor.proofs.Variables.{name_is_itself, holds_same, put_here, put_below, reads, writes, written_names, size_object, stored_object, binary_value, binary_none, PlainIs, plain_then, plain_given, plain_read, Fits, fits_length, object_is, variable_value, element_value, plain_is}
use Rattle.cc_cminor.proofs.PutExpressions.{CallFacts, NeedsValue, set_needs, Puts, used_comes, puts}

-- the operator, if there is one, needs both operands
abbrev TakesBoth : Option BinaryOperator → Type 0
TakesBoth None = Unit {0}
TakesBoth (Some op) = kind op ≡ Strict

applied_takes_both : (op : AssignmentOperator) → TakesBoth (applied_operator op)
applied_takes_both assignment.Plain = tt
applied_takes_both assignment.Multiply = refl
applied_takes_both assignment.Divide = refl
applied_takes_both assignment.Remainder = refl
applied_takes_both assignment.Add = refl
applied_takes_both assignment.Subtract = refl
applied_takes_both assignment.ShiftLeft = refl
applied_takes_both assignment.ShiftRight = refl
applied_takes_both assignment.And = refl
applied_takes_both assignment.Xor = refl
applied_takes_both assignment.Or = refl

kept_by : (b : Bool) (g : Global) (i w : ℕ) (rest other : List Global) → sizes other ≡ sizes rest → sizes (if b then record g { words = slice_set g.words i (kept g.width w) } ∷ rest else g ∷ other) ≡ sizes (g ∷ rest)
kept_by true g i w rest other e = ap (λ (n : ℕ). record { name = g.name; width = g.width; elements = n } ∷ sizes rest) (length-set g.words i (kept g.width w))
kept_by false g i w rest other e = ap (λ zs. size g ∷ zs) e

element_keeps : (x : List ℕ) (i w : ℕ) (gs : List Global) → sizes (with_element x i w gs) ≡ sizes gs
element_keeps x i w [] = refl
element_keeps x i w (g ∷ rest) = kept_by (same_name g.name x) g i w rest (with_element x i w rest) (element_keeps x i w rest)

then_assoc : {A B C : Type 0} (r : Run A) (f : A → State → Run B) (h : B → State → Run C) → then_do (then_do r f) h ≡ then_do r (λ x t. then_do (f x t) h)
then_assoc (Gives x s) f h = refl
then_assoc (meaning.Going o) f h = refl
then_assoc (meaning.Wrong cause o) f h = refl

-- a write breaks if its value is missing
write_needs : (o : Option ℕ) (n : ℕ) (f : Expression → Expression) → ((x : Expression) (l : ℕ → ℕ) (h : World) → value x l h ≡ None → value (f x) l h ≡ None) → NeedsValue (λ x. write_to o n (f x))
write_needs None n f missing = λ x κ l h e. ap (λ p. tried p (λ w. tried (world.stored h Word n 0 w) (λ y. Goes (config Skip κ l y)))) (missing x l h e)
write_needs (Some i) n f missing = λ x κ l h e. ap (λ p. tried p (λ w. Goes (config Skip κ (put l i w) h))) (missing x l h e)

store_needs : (u : Width) (o k : ℕ) (f : Expression → Expression) → ((x : Expression) (l : ℕ → ℕ) (h : World) → value x l h ≡ None → value (f x) l h ≡ None) → NeedsValue (λ x. Store u o (Local k) (f x))
store_needs u o k f missing = λ x κ l h e. ap (λ p. tried p (λ w. tried (world.stored h u o (l k) w) (λ y. Goes (config Skip κ l y)))) (missing x l h e)

combined_none : (op : Option BinaryOperator) (t u : Scalar) (old x : Expression) (l : ℕ → ℕ) (h : World) → TakesBoth op → value x l h ≡ None → value (combined op t u old x) l h ≡ None
combined_none None t u old x l h both e = e
combined_none (Some op) t u old x l h both e = binary_none op (working_type op t u) old x l h both e

module _ (effect : Calling) (g : Layout) where
  -- this code is next, and the variables represent the state
  pub record Stops (code : Statement) (κ : Continuation) (ns : List (List ℕ)) (s : State) (d : Config) : Type 0 where
    pub variables : ℕ → ℕ
    pub at : d ≡ config code κ variables (world_at s)
    pub fits : Fits g ns s variables

  pub record Falling (κ : Continuation) (ns : List (List ℕ)) (flow : Flow) (s : State) (d : Config) : Type 0 where
    pub falls : flow ≡ Falls
    pub stops : Stops Skip κ ns s d

  -- ---- writes

  local_stored : (ns : List (List ℕ)) (x : List ℕ) (w i : ℕ) (s : State) (l : ℕ → ℕ) → number_in ns x ≡ Some i → Fits g ns s l → stored x w s ≡ record s { locals = with_local_word x w s.locals }
  local_stored ns x w i s l e h =
      let found : local_word s.locals x ≡ Some (l i) = reads s.locals l x h.holds ∙ ap (λ xs. option_map l (number_in xs x)) h.names ∙ ap (option_map l) e in
      ap (λ (o : Option ℕ). if is_some o then record s { locals = with_local_word x w s.locals } else record s { globals = with_element x 0 w s.globals }) found

  local_fits : (ns : List (List ℕ)) (x : List ℕ) (w i : ℕ) (s : State) (l : ℕ → ℕ) → number_in ns x ≡ Some i → Fits g ns s l → Fits g ns (record s { locals = with_local_word x w s.locals }) (put l i w)
  local_fits ns x w i s l e h =
      record { names = written_names x w s.locals ∙ h.names; holds = writes s.locals l x w i (ap (λ xs. number_in xs x) h.names ∙ e) h.holds; sized = h.sized }

  object_written : (x : List ℕ) (i w : ℕ) (s : State) → IsObject g x → sizes s.globals ≡ laid_sizes g.objects → i < length (global_words s.globals x) → world.stored (world_at s) (width_of g x) (object_of g x) i w ≡ Some (world_at (record s { globals = with_element x i w s.globals }))
  object_written x i w s known e lt =
      ap (λ o. world.stored (world_at s) (width_of g x) (unwrap_or o 0) i w) known.1 ∙ stored_object s.globals g.objects x known.0 i w s.input s.output e known.1 lt

  -- no element is written outside the object
  object_unwritten : (x : List ℕ) (i w : ℕ) (s : State) → IsObject g x → sizes s.globals ≡ laid_sizes g.objects → length (global_words s.globals x) ≤ i → world.stored (world_at s) (width_of g x) (object_of g x) i w ≡ None
  object_unwritten x i w s known e le =
      ap (λ (o : Option ℕ). option_map (λ old. world.with_element (world_at s) (object_of g x) i (kept (width_of g x) w)) o) (object_is g s x i known e ∙ slice_get_past (global_words s.globals x) i le)

  element_fits : (ns : List (List ℕ)) (x : List ℕ) (i w : ℕ) (s : State) (l : ℕ → ℕ) → Fits g ns s l → Fits g ns (record s { globals = with_element x i w s.globals }) l
  element_fits ns x i w s l h = record { names = h.names; holds = h.holds; sized = element_keeps x i w s.globals ∙ h.sized }

  stored_by : (o : Option ℕ) (ns : List (List ℕ)) (x : List ℕ) (w : ℕ) (e : Expression) (κ : Continuation) (l : ℕ → ℕ) (s : State) → number_in ns x ≡ o → IsPlaced g o x → Fits g ns s l → value e l (world_at s) ≡ Some w
      → Comes effect (Falling κ ns) (config (write_to o (object_of g x) e) κ l (world_at s)) s.steps (Gives Falls (stored x w s))
  stored_by None ns x w e κ l s num placed h is =
      let none_here : local_word s.locals x ≡ None = reads s.locals l x h.holds ∙ ap (λ xs. option_map l (number_in xs x)) h.names ∙ ap (option_map l) num in
      let t : State = record s { globals = with_element x 0 w s.globals } in
      let same : stored x w s ≡ t = ap (λ (o : Option ℕ). if is_some o then record s { locals = with_local_word x w s.locals } else t) none_here in
      let size : length (global_words s.globals x) ≡ 1 = size_object s.globals g.objects x h.sized ∙ placed.1.0 in
      let o : ℕ = object_of g x in
      subst (λ u. Comes effect (Falling κ ns) (config (Store Word o (Constant 0) e) κ l (world_at s)) s.steps (Gives Falls u)) (sym same)
      (comes_moved effect (Falling κ ns) (config (Store Word o (Constant 0) e) κ l (world_at s)) (config Skip κ l (world_at t)) s.steps (Gives Falls t)
      (ap (λ (p : Option ℕ). tried p (λ w. tried (world.stored (world_at s) Word o 0 w) (λ y. Goes (config Skip κ l y)))) is
      ∙ ap (λ (p : Option World). tried p (λ y. Goes (config Skip κ l y))) (ap (λ (u : Width). world.stored (world_at s) u o 0 w) (sym placed.1.1) ∙ object_written x 0 w s placed.0 h.sized (omega arith)))
      (comes_here effect (Falling κ ns) (config Skip κ l (world_at t)) Falls t (record { falls = refl; stops = record { variables = l; at = refl; fits = element_fits ns x 0 w s l h } })))
  stored_by (Some i) ns x w e κ l s num placed h is =
      let t : State = record s { locals = with_local_word x w s.locals } in
      subst (λ u. Comes effect (Falling κ ns) (config (Set i e) κ l (world_at s)) s.steps (Gives Falls u)) (sym (local_stored ns x w i s l num h))
      (comes_moved effect (Falling κ ns) (config (Set i e) κ l (world_at s)) (config Skip κ (put l i w) (world_at t)) s.steps (Gives Falls t)
      (ap (λ o. tried o (λ x. Goes (config Skip κ (put l i x) (world_at s)))) is)
      (comes_here effect (Falling κ ns) (config Skip κ (put l i w) (world_at t)) Falls t (record { falls = refl; stops = record { variables = put l i w; at = refl; fits = local_fits ns x w i s l num h } })))

  -- a value that may go wrong is computed, and then written
  variable_comes : (v : Environment) (x : List ℕ) (e : Expression) (κ : Continuation) (l : ℕ → ℕ) (s : State) (r : Run ℕ) → IsVariable g v x → Fits g v.locals s l → PlainIs r s (value e l (world_at s))
      → Comes effect (Falling κ v.locals) (config (variable_set g v x e) κ l (world_at s)) s.steps (then_do r (λ new z. Gives Falls (stored x new z)))
  variable_comes v x e κ l s (Gives w u) placed h p =
      subst (λ t. Comes effect (Falling κ v.locals) (config (variable_set g v x e) κ l (world_at s)) s.steps (Gives Falls (stored x w t))) (sym p.0) (stored_by (number_in v.locals x) v.locals x w e κ l s refl placed h p.1)
  variable_comes v x e κ l s (meaning.Going o) placed h p = absurd p
  variable_comes v x e κ l s (meaning.Wrong cause o) placed h p =
      stuck_here effect (stays effect.mode cause) (config (variable_set g v x e) κ l (world_at s)) s.steps o (write_needs (number_in v.locals x) (object_of g x) (λ y. y) (λ y m z missing. missing) e κ l (world_at s) p.0) (sym p.1)

  written_by : (b : Bool) (ns : List (List ℕ)) (x : List ℕ) (k i w : ℕ) (e : Expression) (κ : Continuation) (l : ℕ → ℕ) (s : State) → IsObject g x → nat_lt i (length (global_words s.globals x)) ≡ b → l k ≡ i → Fits g ns s l → value e l (world_at s) ≡ Some w
      → Comes effect (Falling κ ns) (config (Store (width_of g x) (object_of g x) (Local k) e) κ l (world_at s)) s.steps (if b then Gives Falls (record s { globals = with_element x i w s.globals }) else meaning.Wrong Index s.output)
  written_by true ns x k i w e κ l s known lt at h is =
      let t : State = record s { globals = with_element x i w s.globals } in
      let o : ℕ = object_of g x in
      comes_moved effect (Falling κ ns) (config (Store (width_of g x) o (Local k) e) κ l (world_at s)) (config Skip κ l (world_at t)) s.steps (Gives Falls t)
      (ap (λ p. tried p (λ w. tried (world.stored (world_at s) (width_of g x) o (l k) w) (λ y. Goes (config Skip κ l y)))) is
      ∙ ap (λ (p : Option World). tried p (λ y. Goes (config Skip κ l y))) (ap (λ j. world.stored (world_at s) (width_of g x) o j w) at ∙ object_written x i w s known h.sized (ltb-true i (length (global_words s.globals x)) lt)))
      (comes_here effect (Falling κ ns) (config Skip κ l (world_at t)) Falls t (record { falls = refl; stops = record { variables = l; at = refl; fits = element_fits ns x i w s l h } }))
  written_by false ns x k i w e κ l s known lt at h is =
      let o : ℕ = object_of g x in
      stuck_here effect (stays effect.mode Index) (config (Store (width_of g x) o (Local k) e) κ l (world_at s)) s.steps s.output
      (ap (λ p. tried p (λ w. tried (world.stored (world_at s) (width_of g x) o (l k) w) (λ y. Goes (config Skip κ l y)))) is
      ∙ ap (λ (p : Option World). tried p (λ y. Goes (config Skip κ l y))) (ap (λ j. world.stored (world_at s) (width_of g x) o j w) at ∙ object_unwritten x i w s known h.sized (ltb-false i (length (global_words s.globals x)) lt)))
      refl

  element_comes : (ns : List (List ℕ)) (x : List ℕ) (k i : ℕ) (e : Expression) (κ : Continuation) (l : ℕ → ℕ) (s : State) (r : Run ℕ) → IsObject g x → l k ≡ i → Fits g ns s l → PlainIs r s (value e l (world_at s))
      → Comes effect (Falling κ ns) (config (Store (width_of g x) (object_of g x) (Local k) e) κ l (world_at s)) s.steps (then_do r (λ new z. write_element x i new z))
  element_comes ns x k i e κ l s (Gives w u) known at h p =
      subst (λ t. Comes effect (Falling κ ns) (config (Store (width_of g x) (object_of g x) (Local k) e) κ l (world_at s)) s.steps (write_element x i w t)) (sym p.0) (written_by (nat_lt i (length (global_words s.globals x))) ns x k i w e κ l s known refl at h p.1)
  element_comes ns x k i e κ l s (meaning.Going o) known at h p = absurd p
  element_comes ns x k i e κ l s (meaning.Wrong cause o) known at h p =
      stuck_here effect (stays effect.mode cause) (config (Store (width_of g x) (object_of g x) (Local k) e) κ l (world_at s)) s.steps o (store_needs (width_of g x) (object_of g x) k (λ y. y) (λ y m z missing. missing) e κ l (world_at s) p.0) (sym p.1)

  -- the code's expression has the new value that the source computes from the old one and that of the right
  -- side
  new_by : (aop : Option BinaryOperator) (t u : Scalar) (d : Destination) (old e : Expression) (w : ℕ) (l : ℕ → ℕ) (s : State) → TakesBoth aop → PlainIs (old_value d s) s (value old l (world_at s)) → value e l (world_at s) ≡ Some w
      → PlainIs (new_value aop t u d w s) s (value (combined aop t u old e) l (world_at s))
  new_by None t u d old e w l s both p is = (refl, is)
  new_by (Some op) t u d old e w l s both p is =
      subst (λ o. PlainIs (new_value (Some op) t u d w s) s o) (sym (binary_value op (working_type op t u) old e l (world_at s) both))
      (plain_then (old_value d s) (value old l (world_at s)) s (λ x z. given op (binary_word op (working_type op t u) x w) z) (λ x. then_value (value e l (world_at s)) (λ y. binary_word op (working_type op t u) x y)) p
      (λ x. subst (λ o. PlainIs (given op (binary_word op (working_type op t u) x w) s) s (then_value o (λ y. binary_word op (working_type op t u) x y))) (sym is) (plain_given op (binary_word op (working_type op t u) x w) s)))

  module _ (call : meaning.Calls) (n : ℕ) (facts : CallFacts effect g call n) where
    -- code that uses a value continues with it, whether the value is one expression of Cminor or has code
    -- before it
    pub using_comes : {A : Type 0} (R : A → State → Config → Type 0) (e : Expr) (v : Environment) (k : ℕ) (f : Expression → Statement) (κ : Continuation) (l : ℕ → ℕ) (s : State) (go : ℕ → State → Run A)
        → NeedsValue f → Known g v e → free v ≤ k → s.steps < n → Fits g v.locals s l
        → ((x : Expression) (m : ℕ → ℕ) (u : State) (w : ℕ) → u.steps ≤ s.steps → Fits g v.locals u m → ((i : ℕ) → i < k → m i ≡ l i) → value x m (world_at u) ≡ Some w → Comes effect R (config (f x) κ m (world_at u)) u.steps (go w u))
        → Comes effect R (config (using g v k e f) κ l (world_at s)) s.steps (then_do (evaluate e (types_in v) call s) go)
    using_comes R e v k f κ l s go needs known le lt h cont =
        used_comes effect g R (is_plain e) (plain g v e) (put_expr g v k e) k f κ v.locals l s (evaluate e (types_in v) call s) go needs h (λ p. plain_is g call e v l s p known h) (λ μ. puts effect g call n facts e v k μ l s known le lt h) cont

    pub using_or_comes : {A : Type 0} (R : A → State → Config → Type 0) (w : ℕ) (e : Option Expr) (v : Environment) (k : ℕ) (f : Expression → Statement) (κ : Continuation) (l : ℕ → ℕ) (s : State) (go : ℕ → State → Run A)
        → NeedsValue f → KnownOr g v e → free v ≤ k → s.steps < n → Fits g v.locals s l
        → ((x : Expression) (m : ℕ → ℕ) (u : State) (w : ℕ) → u.steps ≤ s.steps → Fits g v.locals u m → ((i : ℕ) → i < k → m i ≡ l i) → value x m (world_at u) ≡ Some w → Comes effect R (config (f x) κ m (world_at u)) u.steps (go w u))
        → Comes effect R (config (using_or g v k w e f) κ l (world_at s)) s.steps (then_do (evaluate_or w e (types_in v) call s) go)
    using_or_comes R w None v k f κ l s go needs known le lt h cont = cont (Constant w) l s w (omega arith) h (λ i below. refl) refl
    using_or_comes R w (Some e) v k f κ l s go needs known le lt h cont = using_comes R e v k f κ l s go needs known le lt h cont

    -- code that uses the right side's value
    abbrev Takes : Environment → (State → Run ℕ) → (ℕ → (Expression → Statement) → Statement) → Type 0
    Takes v right code = (k : ℕ) (f : Expression → Statement) (κ : Continuation) (l : ℕ → ℕ) (s : State) (go : ℕ → State → Run Flow) → NeedsValue f → free v ≤ k → s.steps < n → Fits g v.locals s l
        → ((x : Expression) (m : ℕ → ℕ) (u : State) (w : ℕ) → u.steps ≤ s.steps → Fits g v.locals u m → ((i : ℕ) → i < k → m i ≡ l i) → value x m (world_at u) ≡ Some w → Comes effect (Falling κ v.locals) (config (f x) κ m (world_at u)) u.steps (go w u))
        → Comes effect (Falling κ v.locals) (config (code k f) κ l (world_at s)) s.steps (then_do (right s) go)

    assigned_comes : (target : Target) (aop : Option BinaryOperator) (u : Scalar) (right : State → Run ℕ) (code : ℕ → (Expression → Statement) → Statement) (v : Environment) (κ : Continuation) (l : ℕ → ℕ) (s : State)
        → TakesBoth aop → Takes v right code → KnownTarget g v target → s.steps < n → Fits g v.locals s l
        → Comes effect (Falling κ v.locals) (config (assigned g v target (λ t old new. combined aop t u old new) code) κ l (world_at s)) s.steps
        (then_do (destination target (types_in v) call s) (λ d t. then_do (right t) (λ w z. then_do (new_value aop (target_type (types_in v) target) u d w z) (λ new y. write d new y))))
    assigned_comes (AtVariable x) aop u right code v κ l s both takes known lt h =
        let t : Scalar = target_type (types_in v) (AtVariable x) in
        takes (free v) (λ e. variable_set g v x.text (combined aop t u (variable_of g v x.text) e)) κ l s (λ w z. then_do (new_value aop t u (ToVariable x.text) w z) (λ new y. write (ToVariable x.text) new y))
        (write_needs (number_in v.locals x.text) (object_of g x.text) (λ e. combined aop t u (variable_of g v x.text) e) (λ e m z missing. combined_none aop t u (variable_of g v x.text) e m z both missing)) (omega arith) lt h
        (λ e m z w less fits same is. variable_comes v x.text (combined aop t u (variable_of g v x.text) e) κ m z (new_value aop t u (ToVariable x.text) w z) known fits
        (new_by aop t u (ToVariable x.text) (variable_of g v x.text) e w m z both (refl, variable_value g v x.text z m known fits) is))
    assigned_comes (AtElement x i) aop u right code v κ l s both takes known lt h =
        let t : Scalar = target_type (types_in v) (AtElement x i) in
        let k : ℕ = free v in
        let o : ℕ = object_of g x.text in
        let f : Expression → Statement = λ e. Store (width_of g x.text) o (Local k) (combined aop t u (Load (width_of g x.text) o (Local k)) e) in
        let X : Statement = code (suc k) f in
        let rest : Destination → State → Run Flow = λ d t'. then_do (right t') (λ w z. then_do (new_value aop t u d w z) (λ new y. write d new y)) in
        let go : ℕ → State → Run Flow = λ j t'. rest (ToElement x.text j) t' in
        let c : Config = config (Sequence (put_expr g v k i) X) κ l (world_at s) in
        subst (λ r. Comes effect (Falling κ v.locals) c s.steps r) (sym (then_assoc (evaluate i (types_in v) call s) (λ j t'. Gives (ToElement x.text j) t') rest))
        (comes_moved effect (Falling κ v.locals) c (config (put_expr g v k i) (Then X κ) l (world_at s)) s.steps (then_do (evaluate i (types_in v) call s) go) refl
        (comes_then effect (Puts effect g k (Then X κ) v.locals l) (Falling κ v.locals) (config (put_expr g v k i) (Then X κ) l (world_at s)) s.steps (evaluate i (types_in v) call s) go
        (puts effect g call n facts i v k (Then X κ) l s known.1 (omega arith) lt h)
        (λ j z d less q. subst (λ c. Comes effect (Falling κ v.locals) c z.steps (go j z)) (sym q.at)
        (comes_moved effect (Falling κ v.locals) (config Skip (Then X κ) q.variables (world_at z)) (config X κ q.variables (world_at z)) z.steps (go j z) refl
        (takes (suc k) f κ q.variables z (λ w y. then_do (new_value aop t u (ToElement x.text j) w y) (λ new y. write (ToElement x.text j) new y))
        (store_needs (width_of g x.text) o k (λ e. combined aop t u (Load (width_of g x.text) o (Local k)) e) (λ e m z missing. combined_none aop t u (Load (width_of g x.text) o (Local k)) e m z both missing)) (omega arith) (omega arith) q.fits
        (λ e m y w below fits same is.
        let here : m k ≡ j = same k (omega arith) ∙ q.is in
        element_comes v.locals x.text k j (combined aop t u (Load (width_of g x.text) o (Local k)) e) κ m y (new_value aop t u (ToElement x.text j) w y) known.0 here fits
        (new_by aop t u (ToElement x.text j) (Load (width_of g x.text) o (Local k)) e w m y both
        (subst (λ p. PlainIs (read_element x.text j y) y p) (sym (element_value g x.text (Local k) j m y known.0 fits.sized (ap (λ a. Some a) here))) (plain_read x.text j y)) is)))))))

    pub performed_comes : (a : Action) (v : Environment) (κ : Continuation) (l : ℕ → ℕ) (s : State) → KnownAction g v a → s.steps < n → Fits g v.locals s l
        → Comes effect (Falling κ v.locals) (config (performed g v a) κ l (world_at s)) s.steps (perform a (types_in v) call s)
    performed_comes (Assign op target e) v κ l s known lt h =
        assigned_comes target (applied_operator op) (value_type (types_in v) e) (λ t. evaluate e (types_in v) call t) (λ k f. using g v k e f) v κ l s (applied_takes_both op)
        (λ k f μ m z go needs le less fits cont. using_comes (Falling μ v.locals) e v k f μ m z go needs known.1 le less fits cont) known.0 lt h
    performed_comes (Step op target) v κ l s known lt h =
        assigned_comes target (applied_operator (step_operator op)) Int (λ t. Gives 1 t) (λ k f. f (Constant 1)) v κ l s (applied_takes_both (step_operator op))
        (λ k f μ m z go needs le less fits cont. cont (Constant 1) m z 1 (omega arith) fits (λ i below. refl) refl) known lt h
    performed_comes (Evaluate e) v κ l s known lt h =
        comes_then effect (Puts effect g (free v) κ v.locals l) (Falling κ v.locals) (config (put_expr g v (free v) e) κ l (world_at s)) s.steps (evaluate e (types_in v) call s) (λ w t. Gives Falls t)
        (puts effect g call n facts e v (free v) κ l s known (omega arith) lt h)
        (λ w u d less q. comes_here effect (Falling κ v.locals) d Falls u (record { falls = refl; stops = record { variables = q.variables; at = q.at; fits = q.fits } }))

    pub optional_comes : (a : Option Action) (v : Environment) (κ : Continuation) (l : ℕ → ℕ) (s : State) → KnownOptional g v a → s.steps < n → Fits g v.locals s l
        → Comes effect (Falling κ v.locals) (config (performed_optional g v a) κ l (world_at s)) s.steps (perform_optional a (types_in v) call s)
    optional_comes None v κ l s known lt h = comes_here effect (Falling κ v.locals) (config Skip κ l (world_at s)) Falls s (record { falls = refl; stops = record { variables = l; at = refl; fits = h } })
    optional_comes (Some a) v κ l s known lt h = performed_comes a v κ l s known lt h

    -- ---- declarations

    declared_fits : (t : Scalar) (x : List ℕ) (v : Environment) (l : ℕ → ℕ) (s : State) → Fits g v.locals s l → Fits g (with_local t x v).locals (meaning.with_local x s) (put l (free v) 0)
    declared_fits t x v l s h =
        let e = fits_length g v.locals s l h in
        record {
          names = ap (λ (xs : List (List ℕ)). x ∷ xs) h.names;
          holds = (ap (put l (free v) 0) e ∙ put_here l (free v) 0, holds_same s.locals l (put l (free v) 0) (free v) (omega arith) (λ i lt. put_below l (free v) 0 i lt) h.holds);
          sized = h.sized;
        }

    number_here : (x : List ℕ) (ns : List (List ℕ)) → number_in (x ∷ ns) x ≡ Some (length ns)
    number_here x ns = ap (λ b. if b then Some (length ns) else number_in ns x) (name_is_itself x)

    -- a local without an initialiser is 0 already
    stored_zero : (x : List ℕ) (v : Environment) (t : Scalar) (l : ℕ → ℕ) (s : State) → Fits g v.locals s l → stored x 0 (meaning.with_local x s) ≡ meaning.with_local x s
    stored_zero x v t l s h =
        local_stored (with_local t x v).locals x 0 (free v) (meaning.with_local x s) (put l (free v) 0) (number_here x v.locals) (declared_fits t x v l s h)
        ∙ ap (λ b. record s { locals = if b then record { name = x; word = 0 } ∷ s.locals else record { name = x; word = 0 } ∷ with_local_word x 0 s.locals }) (name_is_itself x)

    -- the local is set to its initialiser, and then the other locals are set
    initialised_comes : (t : Scalar) (x : List ℕ) (e : Option Expr) (rest : List Declarator) (v : Environment) (κ : Continuation) (l : ℕ → ℕ) (s : State) → KnownOr g (with_local t x v) e → KnownDeclared g t rest (with_local t x v) → s.steps < n → Fits g v.locals s l
        → ((m : ℕ → ℕ) (z : State) → z.steps < n → Fits g (with_local t x v).locals z m → Comes effect (Falling κ (with_locals t rest (with_local t x v)).locals) (config (in_sequence (declared_code g t rest (with_local t x v))) κ m (world_at z)) z.steps (declare t rest call (with_local t x v).visible z))
        → Comes effect (Falling κ (with_locals t rest (with_local t x v)).locals) (config (in_sequence (initialised g (with_local t x v) (free v) e ++ declared_code g t rest (with_local t x v))) κ (put l (free v) 0) (world_at s)) s.steps
        (then_do (evaluate_or 0 e (types_in (with_local t x v)) call (meaning.with_local x s)) (λ w u. declare t rest call (with_local t x v).visible (stored x w u)))
    initialised_comes t x None rest v κ l s known others lt h again =
        subst (λ z. Comes effect (Falling κ (with_locals t rest (with_local t x v)).locals) (config (in_sequence (declared_code g t rest (with_local t x v))) κ (put l (free v) 0) (world_at s)) s.steps (declare t rest call (with_local t x v).visible z)) (sym (stored_zero x v t l s h))
        (again (put l (free v) 0) (meaning.with_local x s) lt (declared_fits t x v l s h))
    initialised_comes t x (Some e) rest v κ l s known others lt h again =
        let v1 : Environment = with_local t x v in
        let i : ℕ = free v in
        let s1 : State = meaning.with_local x s in
        let X : List Statement = declared_code g t rest v1 in
        let μ : Continuation = after_list X κ in
        let R = Falling κ (with_locals t rest v1).locals in
        let go : ℕ → State → Run Flow = λ w u. declare t rest call v1.visible (stored x w u) in
        comes_first effect R (using g v1 (suc i) e (λ y. Set i y)) X κ (put l i 0) (world_at s) s.steps (then_do (evaluate e (types_in v1) call s1) go)
        (using_comes R e v1 (suc i) (λ y. Set i y) μ (put l i 0) s1 go (set_needs i (λ y. y) (λ y m z missing. missing)) known (omega arith) lt (declared_fits t x v l s h)
        (λ y m u w less fits same is.
        let z : State = record u { locals = with_local_word x w u.locals } in
        subst (λ q. Comes effect R (config (Set i y) μ m (world_at u)) u.steps (declare t rest call v1.visible q)) (sym (local_stored v1.locals x w i u m (number_here x v.locals) fits))
        (comes_moved effect R (config (Set i y) μ m (world_at u)) (config Skip μ (put m i w) (world_at z)) u.steps (declare t rest call v1.visible z)
        (ap (λ o. tried o (λ x. Goes (config Skip μ (put m i x) (world_at u)))) is)
        (comes_next effect R X κ (put m i w) (world_at z) u.steps (declare t rest call v1.visible z)
        (again (put m i w) z (omega arith) (local_fits v1.locals x w i u m (number_here x v.locals) fits))))))

    pub declared_comes : (t : Scalar) (ds : List Declarator) (v : Environment) (κ : Continuation) (l : ℕ → ℕ) (s : State) → KnownDeclared g t ds v → s.steps < n → Fits g v.locals s l
        → Comes effect (Falling κ (with_locals t ds v).locals) (config (in_sequence (declared_code g t ds v)) κ l (world_at s)) s.steps (declare t ds call v.visible s)
    declared_comes t [] v κ l s known lt h = comes_here effect (Falling κ v.locals) (config Skip κ l (world_at s)) Falls s (record { falls = refl; stops = record { variables = l; at = refl; fits = h } })
    declared_comes t (d ∷ rest) v κ l s known lt h =
        let x : List ℕ = d.name.text in
        let v1 : Environment = with_local t x v in
        let i : ℕ = free v in
        let X : List Statement = initialised g v1 i d.initial ++ declared_code g t rest v1 in
        let R = Falling κ (with_locals t rest v1).locals in
        let r : Run Flow = then_do (evaluate_or 0 d.initial (types_in v1) call (meaning.with_local x s)) (λ w u. declare t rest call v1.visible (stored x w u)) in
        comes_first effect R (Set i (Constant 0)) X κ l (world_at s) s.steps r
        (comes_moved effect R (config (Set i (Constant 0)) (after_list X κ) l (world_at s)) (config Skip (after_list X κ) (put l i 0) (world_at s)) s.steps r refl
        (comes_next effect R X κ (put l i 0) (world_at s) s.steps r
        (initialised_comes t x d.initial rest v κ l s known.0 known.1 lt h (λ m z less fits. declared_comes t rest v1 κ m z known.1 less fits))))

    pub started_comes : (first : Beginning) (v : Environment) (κ : Continuation) (l : ℕ → ℕ) (s : State) → KnownBeginning g first v → s.steps < n → Fits g v.locals s l
        → Comes effect (Falling κ (behind_beginning first v).locals) (config (started g first v) κ l (world_at s)) s.steps (start first call v.visible s)
    started_comes (Declares t ds) v κ l s known lt h = declared_comes t ds v κ l s known lt h
    started_comes (Performs a) v κ l s known lt h = optional_comes a v κ l s known lt h
