-- The lowered code of statements does what they do.
use Rattle.std.proofs.Common.{◌≡◌, ℕ, zero, suc, ◌+◌, ◌-◌, ◌<◌, Bool, true, false, List, [], ◌∷◌, ◌++◌, length, drop, Option, Some, None, refl, sym, ap, ◌∙◌, subst, arith, length-append}
use Rattle.std.proofs.lemmas.List.{append_assoc}
use Rattle.cc_tokens.specs.declared.scalar.Scalar.{Scalar}
use Rattle.cc_types.specs.Scope as scope
use Rattle.cc_types.specs.Scope.{Visible, in_scope, opened, scope_behind, scope_behind_beginning}
use Rattle.cc_ast.specs.Tree as tree
use Rattle.cc_ast.specs.Tree.{Name, Expr, Action, Declarator, Beginning, Declares, Performs, Stmt, Stmts, end, next, Perform, Break, Continue, IfElse, While, DoWhile, For}
use Rattle.cc_layout.specs.Layout.{Layout}
use Rattle.cc_layout.specs.Environment.{Environment, types_in, inner, with_local, with_locals, behind, behind_beginning}
use Rattle.cc_c_semantics.specs.Meaning as meaning
use Rattle.cc_c_semantics.specs.Meaning.{State, Run, Gives, Flow, Falls, Breaks, Continues, Returns, then_do, choose, evaluate, evaluate_or, perform_optional, start, spend_of, behind_flow, behind_body, begin_body, turns, left_scope, in_block, execute, execute_all}
use Rattle.cc_simulation.specs.Run.{tried, Returns as Ret}
use Rattle.cc_cminor_language.specs.Cminor.{Expression, Constant, value, Statement, Skip, Sequence, Loop, Block, Exit, Return, Continuation, Then, Again, Leaving, Config, config}
use Rattle.cc_cminor_language.specs.Code.{in_sequence}
use Rattle.cc_cminor.specs.internal.Lowering.{branch, free, using, using_or, performed_optional, started, declared_code, looped, tested, lowered, all_lowered}
use Rattle.cc_cminor.proofs.Known.{Known, KnownOr, KnownIn, AllKnownIn}
use Rattle.cc_cminor.proofs.Paths.{world_at, after_list, Calling, cut_here, one_paid, Comes, comes_after, comes_moved, comes_then, comes_as, comes_here, comes_first, comes_next, comes_exit}
use Rattle.cc_cminor.proofs.Variables.{names_of, length_names, Holds, Fits, fits_length}
use Rattle.cc_cminor.proofs.Branches.{branch_moves}
use Rattle.cc_cminor.proofs.PutExpressions.{CallFacts, branch_needs, choice_comes}
use Rattle.cc_cminor.proofs.PerformedActions.{Stops, Falling, using_comes, using_or_comes, optional_comes, declared_comes, started_comes}

then_gives : {A : Type 0} (r : Run A) → then_do r (λ x t. Gives x t) ≡ r
then_gives (Gives x s) = refl
then_gives (meaning.Going o) = refl
then_gives (meaning.Wrong cause o) = refl

-- ---- what is in scope after a statement

declared_extends : (t : Scalar) (ds : List Declarator) (v : Environment) → (extra : List (List ℕ)) × ((with_locals t ds v).locals ≡ extra ++ v.locals)
declared_extends t [] v = ([], refl)
declared_extends t (d ∷ rest) v =
    let h = declared_extends t rest (with_local t d.name.text v) in
    (h.0 ++ (d.name.text ∷ []), h.1 ∙ sym (append_assoc h.0 (d.name.text ∷ []) v.locals))

behind_extends : (st : Stmt) (v : Environment) → (extra : List (List ℕ)) × ((behind st v).locals ≡ extra ++ v.locals)
behind_extends (tree.Local t ds) v = declared_extends t ds v
behind_extends st v = ([], refl)

beginning_extends : (first : Beginning) (v : Environment) → (extra : List (List ℕ)) × ((behind_beginning first v).locals ≡ extra ++ v.locals)
beginning_extends (Declares t ds) v = declared_extends t ds v
beginning_extends (Performs a) v = ([], refl)

declared_visible : (t : Scalar) (ds : List Declarator) (v : Environment) → (with_locals t ds v).visible ≡ scope.all_declared t ds v.visible
declared_visible t [] v = refl
declared_visible t (d ∷ rest) v = declared_visible t rest (with_local t d.name.text v)

behind_visible : (st : Stmt) (v : Environment) → (behind st v).visible ≡ scope_behind st v.visible
behind_visible (tree.Local t ds) v = declared_visible t ds v
behind_visible st v = refl

beginning_visible : (first : Beginning) (v : Environment) → (behind_beginning first v).visible ≡ scope_behind_beginning first v.visible
beginning_visible (Declares t ds) v = declared_visible t ds v
beginning_visible (Performs a) v = refl

-- variables that hold some locals hold the oldest of them
dropped : (extra ns : List (List ℕ)) (ls : List meaning.Local) (m : ℕ → ℕ) → names_of ls ≡ extra ++ ns → Holds ls m
    → (names_of (drop (length ls - length ns) ls) ≡ ns) × Holds (drop (length ls - length ns) ls) m
dropped [] ns ls m e h =
    let a : length (names_of ls) ≡ length ls = length_names ls in
    let b : length (names_of ls) ≡ length ns = ap (λ (xs : List (List ℕ)). length xs) e in
    let k : length ls - length ns ≡ 0 = omega arith in
    subst (λ k. (names_of (drop k ls) ≡ ns) × Holds (drop k ls) m) (sym k) (e, h)
dropped (x ∷ extra) ns [] m e h = absurd (let f : ◌≡◌ {A = List (List ℕ)} [] (x ∷ (extra ++ ns)) = e in cc)
dropped (x ∷ extra) ns (y ∷ rest) m e h =
    let f : ◌≡◌ {A = List (List ℕ)} (y.name ∷ names_of rest) (x ∷ (extra ++ ns)) = e in
    let tail : names_of rest ≡ extra ++ ns = cc in
    let a : length (names_of rest) ≡ length rest = length_names rest in
    let b : length (names_of rest) ≡ length (extra ++ ns) = ap (λ (xs : List (List ℕ)). length xs) tail in
    let c : length (extra ++ ns) ≡ length extra + length ns = length-append extra ns in
    let k : suc (length rest) - length ns ≡ suc (length rest - length ns) = omega arith in
    subst (λ k. (names_of (drop k (y ∷ rest)) ≡ ns) × Holds (drop k (y ∷ rest)) m) (sym k) (dropped extra ns rest m tail h.1)

module _ (effect : Calling) (g : Layout) where
  -- this code is next, and there may be newer locals above those of `ns`
  pub record StopsBehind (code : Statement) (κ : Continuation) (ns : List (List ℕ)) (s : State) (d : Config) : Type 0 where
    pub extra : List (List ℕ)
    pub stops : Stops effect g code κ (extra ++ ns) s d

  -- a return of this word is next
  pub record GivesBack (w : ℕ) (s : State) (d : Config) : Type 0 where
    pub expression : Expression
    pub behind : Continuation
    pub variables : ℕ → ℕ
    pub at : d ≡ config (Return expression) behind variables (world_at s)
    pub is : value expression variables (world_at s) ≡ Some w

  abbrev pub Leaves : Bool → ℕ → (ℕ → State → Config → Type 0) → State → Config → Type 0
  Leaves true i leave s d = leave i s d
  Leaves false i leave s d = GivesBack 0 s d

  -- what holds when a statement ends, depending on how it ends; a loop's blocks make `break` Exit 1 and
  -- `continue` Exit 0
  abbrev pub Flowing : Bool → (State → Config → Type 0) → (ℕ → State → Config → Type 0) → Flow → State → Config → Type 0
  Flowing b after leave Falls s d = after s d
  Flowing b after leave Breaks s d = Leaves b 1 leave s d
  Flowing b after leave Continues s d = Leaves b 0 leave s d
  Flowing b after leave (Returns w) s d = GivesBack w s d

  abbrev pub Exactly : Bool → Continuation → List (List ℕ) → Flow → State → Config → Type 0
  Exactly b κ ns = Flowing b (λ s d. Stops effect g Skip κ ns s d) (λ i s d. Stops effect g (Exit i) κ ns s d)

  abbrev pub Loosely : Bool → Continuation → List (List ℕ) → Flow → State → Config → Type 0
  Loosely b κ ns = Flowing b (λ s d. StopsBehind Skip κ ns s d) (λ i s d. StopsBehind (Exit i) κ ns s d)

  abbrev pub Flows : Bool → Continuation → (after ns : List (List ℕ)) → Flow → State → Config → Type 0
  Flows b κ after ns = Flowing b (λ s d. Stops effect g Skip κ after s d) (λ i s d. StopsBehind (Exit i) κ ns s d)

  flowing_as : (b : Bool) (after after' : State → Config → Type 0) (leave leave' : ℕ → State → Config → Type 0) (flow : Flow) (s : State) (d : Config) → (after s d → after' s d) → ((i : ℕ) → leave i s d → leave' i s d)
      → Flowing b after leave flow s d → Flowing b after' leave' flow s d
  flowing_as b after after' leave leave' Falls s d f k q = f q
  flowing_as true after after' leave leave' Breaks s d f k q = k 1 q
  flowing_as false after after' leave leave' Breaks s d f k q = q
  flowing_as true after after' leave leave' Continues s d f k q = k 0 q
  flowing_as false after after' leave leave' Continues s d f k q = q
  flowing_as b after after' leave leave' (Returns w) s d f k q = q

  -- `StopsBehind` holds if there are no newer locals
  same_behind : (code : Statement) (κ : Continuation) (ns : List (List ℕ)) (s : State) (d : Config) → Stops effect g code κ ns s d → StopsBehind code κ ns s d
  same_behind code κ ns s d q = record { extra = []; stops = q }

  -- `StopsBehind` holds if `extra` are newer locals above those of `ns`
  more_behind : (code : Statement) (κ : Continuation) (extra after ns : List (List ℕ)) (s : State) (d : Config) → after ≡ extra ++ ns → Stops effect g code κ after s d → StopsBehind code κ ns s d
  more_behind code κ extra after ns s d e q = record { extra = extra; stops = subst (λ xs. Stops effect g code κ xs s d) e q }

  still_behind : (code : Statement) (κ : Continuation) (extra after ns : List (List ℕ)) (s : State) (d : Config) → after ≡ extra ++ ns → StopsBehind code κ after s d → StopsBehind code κ ns s d
  still_behind code κ extra after ns s d e q =
      record { extra = q.extra ++ extra; stops = subst (λ xs. Stops effect g code κ xs s d) (ap (λ xs. q.extra ++ xs) e ∙ sym (append_assoc q.extra extra ns)) q.stops }

  -- ---- blocks

  left_stops : (code : Statement) (κ : Continuation) (ns : List (List ℕ)) (k : ℕ) (t : State) (d : Config) → k ≡ length ns → StopsBehind code κ ns t d → Stops effect g code κ ns (left_scope k t) d
  left_stops code κ ns k t d e q =
      let p : (names_of (drop (length t.locals - k) t.locals) ≡ ns) × Holds (drop (length t.locals - k) t.locals) q.stops.variables =
      subst (λ k. (names_of (drop (length t.locals - k) t.locals) ≡ ns) × Holds (drop (length t.locals - k) t.locals) q.stops.variables) (sym e) (dropped q.extra ns t.locals q.stops.variables q.stops.fits.names q.stops.fits.holds) in
      record { variables = q.stops.variables; at = q.stops.at; fits = record { names = p.0; holds = p.1; sized = q.stops.fits.sized } }

  left_back : (w k : ℕ) (t : State) (d : Config) → GivesBack w t d → GivesBack w (left_scope k t) d
  left_back w k t d q = record { expression = q.expression; behind = q.behind; variables = q.variables; at = q.at; is = q.is }

  left_flow : (b : Bool) (κ : Continuation) (ns : List (List ℕ)) (k : ℕ) (flow : Flow) (t : State) (d : Config) → k ≡ length ns → Loosely b κ ns flow t d → Exactly b κ ns flow (left_scope k t) d
  left_flow b κ ns k Falls t d e q = left_stops Skip κ ns k t d e q
  left_flow true κ ns k Breaks t d e q = left_stops (Exit 1) κ ns k t d e q
  left_flow false κ ns k Breaks t d e q = left_back 0 k t d q
  left_flow true κ ns k Continues t d e q = left_stops (Exit 0) κ ns k t d e q
  left_flow false κ ns k Continues t d e q = left_back 0 k t d q
  left_flow b κ ns k (Returns w) t d e q = left_back w k t d q

  block_comes : (b : Bool) (κ : Continuation) (ns : List (List ℕ)) (c : Config) (l : ℕ → ℕ) (s : State) (part : State → Run Flow) → Fits g ns s l → Comes effect (Loosely b κ ns) c s.steps (part s) → Comes effect (Exactly b κ ns) c s.steps (in_block part s)
  block_comes b κ ns c l s part fits h =
      comes_then effect (Loosely b κ ns) (Exactly b κ ns) c s.steps (part s) (λ flow t. Gives flow (left_scope (length s.locals) t)) h
      (λ flow t d le q. comes_here effect (Exactly b κ ns) d flow (left_scope (length s.locals) t) (left_flow b κ ns (length s.locals) flow t d (fits_length g ns s l fits) q))

  -- ---- one after another

  exit_then : (b : Bool) (flow : Flow) (i : ℕ) (X : List Statement) (κ : Continuation) (ns : List (List ℕ)) (t : State) (d : Config) → StopsBehind (Exit i) (after_list X κ) ns t d → ((d : Config) → StopsBehind (Exit i) κ ns t d → Loosely b κ ns flow t d)
      → Comes effect (Loosely b κ ns) d t.steps (Gives flow t)
  exit_then b flow i X κ ns t d q f =
      subst (λ c. Comes effect (Loosely b κ ns) c t.steps (Gives flow t)) (sym q.stops.at)
      (comes_exit effect (Loosely b κ ns) i X κ q.stops.variables (world_at t) t.steps (Gives flow t)
      (comes_here effect (Loosely b κ ns) (config (Exit i) κ q.stops.variables (world_at t)) flow t (f (config (Exit i) κ q.stops.variables (world_at t)) (record { extra = q.extra; stops = record { variables = q.stops.variables; at = refl; fits = q.stops.fits } }))))

  flow_then : (b : Bool) (flow : Flow) (X : List Statement) (κ : Continuation) (after ns : List (List ℕ)) (t : State) (d : Config) (go : State → Run Flow) → Flows b (after_list X κ) after ns flow t d
      → ((m : ℕ → ℕ) → Fits g after t m → Comes effect (Loosely b κ ns) (config (in_sequence X) κ m (world_at t)) t.steps (go t)) → Comes effect (Loosely b κ ns) d t.steps (behind_flow flow go t)
  flow_then b Falls X κ after ns t d go q f =
      subst (λ c. Comes effect (Loosely b κ ns) c t.steps (go t)) (sym q.at)
      (comes_next effect (Loosely b κ ns) X κ q.variables (world_at t) t.steps (go t) (f q.variables q.fits))
  flow_then true Breaks X κ after ns t d go q f = exit_then true Breaks 1 X κ ns t d q (λ d p. p)
  flow_then false Breaks X κ after ns t d go q f = comes_here effect (Loosely false κ ns) d Breaks t q
  flow_then true Continues X κ after ns t d go q f = exit_then true Continues 0 X κ ns t d q (λ d p. p)
  flow_then false Continues X κ after ns t d go q f = comes_here effect (Loosely false κ ns) d Continues t q
  flow_then b (Returns w) X κ after ns t d go q f = comes_here effect (Loosely b κ ns) d (Returns w) t q

  -- ---- loops

  -- where a loop's condition leads: out of the loop, or to the body's block
  abbrev pub TestedBy : List (List ℕ) → Continuation → Continuation → Statement → ℕ → State → Config → Type 0
  TestedBy ns κ turn c zero s d = Stops effect g Skip κ ns s d
  TestedBy ns κ turn c (suc w) s d = Stops effect g (Block c) turn ns s d

  module _ (n : ℕ) (ns : List (List ℕ)) (κ : Continuation) (T X p c : Statement) (b : Bool) (test : State → Run ℕ) (body step : State → Run Flow) where
    abbrev around : Continuation
    around = Again T (Leaving κ)

    abbrev turn : Continuation
    turn = Then X around

    abbrev Tested : ℕ → State → Config → Type 0
    Tested w s d = TestedBy ns κ turn c w s d

    abbrev Back : Flow → State → Config → Type 0
    Back flow s d = Stops effect g p around ns s d

    abbrev R : Flow → State → Config → Type 0
    R = Exactly b κ ns

    -- the run leaves the loop
    left_loop : (m : ℕ → ℕ) (u : State) → Fits g ns u m → Comes effect R (config (Exit 0) turn m (world_at u)) u.steps (Gives Falls u)
    left_loop m u fits =
        comes_moved effect R (config (Exit 0) turn m (world_at u)) (config (Exit 0) around m (world_at u)) u.steps (Gives Falls u) refl
        (comes_moved effect R (config (Exit 0) around m (world_at u)) (config (Exit 0) (Leaving κ) m (world_at u)) u.steps (Gives Falls u) refl
        (comes_moved effect R (config (Exit 0) (Leaving κ) m (world_at u)) (config Skip κ m (world_at u)) u.steps (Gives Falls u) refl
        (comes_here effect R (config Skip κ m (world_at u)) Falls u (record { variables = m; at = refl; fits = fits }))))

    after_body : (flow : Flow) (u : State) (d : Config) (more : State → Run Flow) → Exactly true (Leaving turn) ns flow u d
        → ((m : ℕ → ℕ) → Fits g ns u m → Comes effect R (config Skip turn m (world_at u)) u.steps (more u)) → Comes effect R d u.steps (behind_body flow more u)
    after_body Falls u d more q f =
        subst (λ c. Comes effect R c u.steps (more u)) (sym q.at) (comes_moved effect R (config Skip (Leaving turn) q.variables (world_at u)) (config Skip turn q.variables (world_at u)) u.steps (more u) refl (f q.variables q.fits))
    after_body Continues u d more q f =
        subst (λ c. Comes effect R c u.steps (more u)) (sym q.at) (comes_moved effect R (config (Exit 0) (Leaving turn) q.variables (world_at u)) (config Skip turn q.variables (world_at u)) u.steps (more u) refl (f q.variables q.fits))
    after_body Breaks u d more q f =
        subst (λ c. Comes effect R c u.steps (Gives Falls u)) (sym q.at) (comes_moved effect R (config (Exit 1) (Leaving turn) q.variables (world_at u)) (config (Exit 0) turn q.variables (world_at u)) u.steps (Gives Falls u) refl (left_loop q.variables u q.fits))
    after_body (Returns w) u d more q f = comes_here effect R d (Returns w) u q

    module _ (tests : (m : ℕ → ℕ) (s : State) → s.steps < n → Fits g ns s m → Comes effect Tested (config p around m (world_at s)) s.steps (test s))
        (bodies : (m : ℕ → ℕ) (s : State) → s.steps < n → Fits g ns s m → Comes effect (Exactly true (Leaving turn) ns) (config c (Leaving turn) m (world_at s)) s.steps (body s))
        (steps : (m : ℕ → ℕ) (s : State) → s.steps < n → Fits g ns s m → Comes effect Back (config Skip turn m (world_at s)) s.steps (step s)) where
      -- the body begins: the move into the block pays for its step
      begun : (j : ℕ) (m : ℕ → ℕ) (s : State) (more : State → Run Flow) → s.steps ≡ j → s.steps < n → Fits g ns s m
          → ((m : ℕ → ℕ) (u : State) → u.steps < s.steps → Fits g ns u m → Comes effect R (config Skip turn m (world_at u)) u.steps (more u))
          → Comes effect R (config (Block c) turn m (world_at s)) j (spend_of j (λ t. then_do (body t) (λ flow u. behind_body flow more u)) s)
      begun zero m s more e lt fits f = cut_here effect (config (Block c) turn m (world_at s)) s.output refl
      begun (suc j) m s more e lt fits f =
          let t : State = record s { steps = j } in
          comes_after effect R (config (Block c) turn m (world_at s)) (config c (Leaving turn) m (world_at t)) (suc j) j (then_do (body t) (λ flow u. behind_body flow more u)) (one_paid effect _ (config c (Leaving turn) m (world_at t)) j refl)
          (comes_then effect (Exactly true (Leaving turn) ns) R (config c (Leaving turn) m (world_at t)) j (body t) (λ flow u. behind_body flow more u)
          (bodies m t (omega arith) (record { names = fits.names; holds = fits.holds; sized = fits.sized }))
          (λ flow u d le q. after_body flow u d more q (λ k fit. f k u (omega arith) fit)))

      begin_comes : (m : ℕ → ℕ) (s : State) (more : State → Run Flow) → s.steps < n → Fits g ns s m
          → ((m : ℕ → ℕ) (u : State) → u.steps < s.steps → Fits g ns u m → Comes effect R (config Skip turn m (world_at u)) u.steps (more u))
          → Comes effect R (config (Block c) turn m (world_at s)) s.steps (begin_body body more s)
      begin_comes m s more lt fits f = begun s.steps m s more refl lt fits f

      turn_comes : (i w : ℕ) (t : State) (d : Config) → t.steps < suc i → t.steps < n → Tested w t d
          → ((k : ℕ → ℕ) (u : State) → u.steps < i → u.steps < n → Fits g ns u k → Comes effect R (config p around k (world_at u)) u.steps (turns i test body step u))
          → Comes effect R d t.steps (choose w (begin_body body (λ u. then_do (step u) (λ flow v. turns i test body step v))) (λ u. Gives Falls u) t)
      turn_comes i zero t d less lt q again = comes_here effect R d Falls t q
      turn_comes i (suc w) t d less lt q again =
          let more : State → Run Flow = λ u. then_do (step u) (λ flow v. turns i test body step v) in
          subst (λ c. Comes effect R c t.steps (begin_body body more t)) (sym q.at)
          (begin_comes q.variables t more lt q.fits (λ k u under fit.
          comes_then effect Back R (config Skip turn k (world_at u)) u.steps (step u) (λ flow v. turns i test body step v) (steps k u (omega arith) fit)
          (λ flow v d le p. subst (λ c. Comes effect R c v.steps (turns i test body step v)) (sym p.at) (again p.variables v (omega arith) (omega arith) p.fits))))

      pub turns_come : (i : ℕ) (m : ℕ → ℕ) (s : State) → s.steps < i → s.steps < n → Fits g ns s m → Comes effect R (config p around m (world_at s)) s.steps (turns i test body step s)
      turns_come zero m s less lt fits = absurd (omega arith)
      turns_come (suc i) m s less lt fits =
          comes_then effect Tested R (config p around m (world_at s)) s.steps (test s) (λ w t. choose w (begin_body body (λ u. then_do (step u) (λ flow v. turns i test body step v))) (λ u. Gives Falls u) t) (tests m s lt fits)
          (λ w t d le q. turn_comes i w t d (omega arith) (omega arith) q (turns_come i))

  -- ---- statements

  module _ (call : meaning.Calls) (n : ℕ) (facts : CallFacts effect g call n) where
    as_flows : (b : Bool) (κ : Continuation) (ns : List (List ℕ)) (c : Config) (k : ℕ) (r : Run Flow) → Comes effect (Exactly b κ ns) c k r → Comes effect (Flows b κ ns ns) c k r
    as_flows b κ ns c k r h =
        comes_as effect (Exactly b κ ns) (Flows b κ ns ns) c k r h (λ f s d le q. flowing_as b (λ s d. Stops effect g Skip κ ns s d) (λ s d. Stops effect g Skip κ ns s d) (λ i s d. Stops effect g (Exit i) κ ns s d) (λ i s d. StopsBehind (Exit i) κ ns s d) f s d
        (λ x. x) (λ i x. same_behind (Exit i) κ ns s d x) q)

    as_loosely : (b : Bool) (κ : Continuation) (extra after ns : List (List ℕ)) (c : Config) (k : ℕ) (r : Run Flow) → after ≡ extra ++ ns → Comes effect (Exactly b κ after) c k r → Comes effect (Loosely b κ ns) c k r
    as_loosely b κ extra after ns c k r e h =
        comes_as effect (Exactly b κ after) (Loosely b κ ns) c k r h (λ f s d le q. flowing_as b (λ s d. Stops effect g Skip κ after s d) (λ s d. StopsBehind Skip κ ns s d) (λ i s d. Stops effect g (Exit i) κ after s d) (λ i s d. StopsBehind (Exit i) κ ns s d) f s d
        (λ x. more_behind Skip κ extra after ns s d e x) (λ i x. more_behind (Exit i) κ extra after ns s d e x) q)

    falling_flows : (b : Bool) (κ : Continuation) (after ns : List (List ℕ)) (c : Config) (k : ℕ) (r : Run Flow) → Comes effect (Falling effect g κ after) c k r → Comes effect (Flows b κ after ns) c k r
    falling_flows b κ after ns c k r h = comes_as effect (Falling effect g κ after) (Flows b κ after ns) c k r h (λ f s d le q. subst (λ f. Flows b κ after ns f s d) (sym q.falls) q.stops)

    -- a statement in a scope of its own does what it does in the source
    part_comes : (st : Stmt) (b : Bool) (v : Environment) (κ : Continuation) (c : Config) (l : ℕ → ℕ) (s : State) → Fits g v.locals s l → Comes effect (Flows b κ (behind st (inner v)).locals v.locals) c s.steps (execute st n call (opened v.visible) s)
        → Comes effect (Exactly b κ v.locals) c s.steps (in_block (execute st n call (opened v.visible)) s)
    part_comes st b v κ c l s fits h =
        let e = behind_extends st (inner v) in
        let after : List (List ℕ) = (behind st (inner v)).locals in
        block_comes b κ v.locals c l s (execute st n call (opened v.visible)) fits
        (comes_as effect (Flows b κ after v.locals) (Loosely b κ v.locals) c s.steps (execute st n call (opened v.visible) s) h
        (λ f s d le q. flowing_as b (λ s d. Stops effect g Skip κ after s d) (λ s d. StopsBehind Skip κ v.locals s d) (λ i s d. StopsBehind (Exit i) κ v.locals s d) (λ i s d. StopsBehind (Exit i) κ v.locals s d) f s d
        (λ x. more_behind Skip κ e.0 after v.locals s d e.1 x) (λ i x. x) q))

    -- a loop's condition is tested, and A runs if it holds
    cond_by : (w : ℕ) (x : Expression) (ns : List (List ℕ)) (A : Statement) (κ : Continuation) (T X c : Statement) (m : ℕ → ℕ) (u : State) → value x m (world_at u) ≡ Some w → Fits g ns u m
        → ((w : ℕ) → Comes effect (TestedBy ns κ (Then X (Again T (Leaving κ))) c) (config A (Again T (Leaving κ)) m (world_at u)) u.steps (Gives (suc w) u))
        → Comes effect (TestedBy ns κ (Then X (Again T (Leaving κ))) c) (config (branch x A (Exit 0)) (Again T (Leaving κ)) m (world_at u)) u.steps (Gives w u)
    cond_by zero x ns A κ T X c m u is fits f =
        let Q = TestedBy ns κ (Then X (Again T (Leaving κ))) c in
        let around : Continuation = Again T (Leaving κ) in
        comes_moved effect Q (config (branch x A (Exit 0)) around m (world_at u)) (config (Exit 0) around m (world_at u)) u.steps (Gives 0 u) (branch_moves x A (Exit 0) around m (world_at u) zero is)
        (comes_moved effect Q (config (Exit 0) around m (world_at u)) (config (Exit 0) (Leaving κ) m (world_at u)) u.steps (Gives 0 u) refl
        (comes_moved effect Q (config (Exit 0) (Leaving κ) m (world_at u)) (config Skip κ m (world_at u)) u.steps (Gives 0 u) refl
        (comes_here effect Q (config Skip κ m (world_at u)) 0 u (record { variables = m; at = refl; fits = fits }))))
    cond_by (suc w) x ns A κ T X c m u is fits f =
        let Q = TestedBy ns κ (Then X (Again T (Leaving κ))) c in
        let around : Continuation = Again T (Leaving κ) in
        comes_moved effect Q (config (branch x A (Exit 0)) around m (world_at u)) (config A around m (world_at u)) u.steps (Gives (suc w) u) (branch_moves x A (Exit 0) around m (world_at u) (suc w) is) (f w)

    cond_comes : (cnd : Option Expr) (v : Environment) (A : Statement) (κ : Continuation) (T X c : Statement) (m : ℕ → ℕ) (s : State) → KnownOr g v cnd → s.steps < n → Fits g v.locals s m
        → ((m : ℕ → ℕ) (u : State) (w : ℕ) → Fits g v.locals u m → Comes effect (TestedBy v.locals κ (Then X (Again T (Leaving κ))) c) (config A (Again T (Leaving κ)) m (world_at u)) u.steps (Gives (suc w) u))
        → Comes effect (TestedBy v.locals κ (Then X (Again T (Leaving κ))) c) (config (using_or g v (free v) 1 cnd (λ x. branch x A (Exit 0))) (Again T (Leaving κ)) m (world_at s)) s.steps (evaluate_or 1 cnd (types_in v) call s)
    cond_comes cnd v A κ T X c m s known lt h f =
        let Q = TestedBy v.locals κ (Then X (Again T (Leaving κ))) c in
        let around : Continuation = Again T (Leaving κ) in
        subst (λ r. Comes effect Q (config (using_or g v (free v) 1 cnd (λ x. branch x A (Exit 0))) around m (world_at s)) s.steps r) (then_gives (evaluate_or 1 cnd (types_in v) call s))
        (using_or_comes effect g call n facts Q 1 cnd v (free v) (λ x. branch x A (Exit 0)) around m s (λ w t. Gives w t) (branch_needs A (Exit 0)) known (omega arith) lt h
        (λ x k u w less fits same is. cond_by w x v.locals A κ T X c k u is fits (λ w. f k u w fits)))

    -- the run enters the block of a body, from the code of a turn
    enters : (ns : List (List ℕ)) (κ : Continuation) (T X c : Statement) (m : ℕ → ℕ) (u : State) (w : ℕ) → Fits g ns u m
        → Comes effect (TestedBy ns κ (Then X (Again T (Leaving κ))) c) (config (Sequence (Block c) X) (Again T (Leaving κ)) m (world_at u)) u.steps (Gives (suc w) u)
    enters ns κ T X c m u w fits =
        let Q = TestedBy ns κ (Then X (Again T (Leaving κ))) c in
        let turn : Continuation = Then X (Again T (Leaving κ)) in
        comes_moved effect Q (config (Sequence (Block c) X) (Again T (Leaving κ)) m (world_at u)) (config (Block c) turn m (world_at u)) u.steps (Gives (suc w) u) refl
        (comes_here effect Q (config (Block c) turn m (world_at u)) (suc w) u (record { variables = m; at = refl; fits = fits }))

    -- a loop that tests its condition first does what it does in the source
    loop_comes : (cnd : Option Expr) (a : Option Action) (X c : Statement) (b : Bool) (v : Environment) (κ : Continuation) (l : ℕ → ℕ) (s : State) (body : State → Run Flow) → KnownOr g v cnd → s.steps < n → Fits g v.locals s l
        → ((κ : Continuation) (m : ℕ → ℕ) (s : State) → s.steps < n → Fits g v.locals s m → Comes effect (Exactly true κ v.locals) (config c κ m (world_at s)) s.steps (body s))
        → ((κ : Continuation) (m : ℕ → ℕ) (s : State) → s.steps < n → Fits g v.locals s m → Comes effect (Falling effect g κ v.locals) (config X κ m (world_at s)) s.steps (perform_optional a (types_in v) call s))
        → Comes effect (Exactly b κ v.locals) (config (Block (Loop (looped (using_or g v (free v) 1 cnd) c X))) κ l (world_at s)) s.steps (turns (suc n) (evaluate_or 1 cnd (types_in v) call) body (perform_optional a (types_in v) call) s)
    loop_comes cnd a X c b v κ l s body known lt h bodies steps =
        let T : Statement = looped (using_or g v (free v) 1 cnd) c X in
        let Q = Exactly b κ v.locals in
        let around : Continuation = Again T (Leaving κ) in
        let test : State → Run ℕ = evaluate_or 1 cnd (types_in v) call in
        let step : State → Run Flow = perform_optional a (types_in v) call in
        let Back : Flow → State → Config → Type 0 = λ f t d. Stops effect g T around v.locals t d in
        comes_moved effect Q (config (Block (Loop T)) κ l (world_at s)) (config (Loop T) (Leaving κ) l (world_at s)) s.steps (turns (suc n) test body step s) refl
        (comes_moved effect Q (config (Loop T) (Leaving κ) l (world_at s)) (config T around l (world_at s)) s.steps (turns (suc n) test body step s) refl
        (turns_come n v.locals κ T X T c b test body step
        (λ m u less fits. cond_comes cnd v (Sequence (Block c) X) κ T X c m u known less fits (λ k z w fit. enters v.locals κ T X c k z w fit))
        (λ m u less fits. bodies (Leaving (Then X around)) m u less fits)
        (λ m u less fits. comes_moved effect Back (config Skip (Then X around) m (world_at u)) (config X around m (world_at u)) u.steps (step u) refl
        (subst (λ r. Comes effect Back (config X around m (world_at u)) u.steps r) (then_gives (step u))
        (comes_then effect (Falling effect g around v.locals) Back (config X around m (world_at u)) u.steps (step u) (λ f t. Gives f t) (steps around m u less fits)
        (λ f t d le q. subst (λ c. Comes effect Back c t.steps (Gives f t)) (sym q.stops.at)
        (comes_moved effect Back (config Skip around q.stops.variables (world_at t)) (config T around q.stops.variables (world_at t)) t.steps (Gives f t) refl
        (comes_here effect Back (config T around q.stops.variables (world_at t)) f t (record { variables = q.stops.variables; at = refl; fits = q.stops.fits })))))))
        (suc n) l s (omega arith) lt h))

    -- a loop that tests its condition last does what it does in the source
    do_comes : (e : Expr) (c : Statement) (b : Bool) (v : Environment) (κ : Continuation) (l : ℕ → ℕ) (s : State) (body : State → Run Flow) → Known g v e → s.steps < n → Fits g v.locals s l
        → ((κ : Continuation) (m : ℕ → ℕ) (s : State) → s.steps < n → Fits g v.locals s m → Comes effect (Exactly true κ v.locals) (config c κ m (world_at s)) s.steps (body s))
        → Comes effect (Exactly b κ v.locals) (config (Block (Loop (Sequence (Block c) (tested (using g v (free v) e))))) κ l (world_at s)) s.steps
        (begin_body body (turns (suc n) (evaluate e (types_in v) call) body (λ t. Gives Falls t)) s)
    do_comes e c b v κ l s body known lt h bodies =
        let X : Statement = tested (using g v (free v) e) in
        let T : Statement = Sequence (Block c) X in
        let Q = Exactly b κ v.locals in
        let around : Continuation = Again T (Leaving κ) in
        let turn : Continuation = Then X around in
        let test : State → Run ℕ = evaluate e (types_in v) call in
        let step : State → Run Flow = λ t. Gives Falls t in
        let more : State → Run Flow = turns (suc n) test body step in
        let Back : Flow → State → Config → Type 0 = λ f t d. Stops effect g X around v.locals t d in
        let Tested = TestedBy v.locals κ turn c in
        let tests : (m : ℕ → ℕ) (s : State) → s.steps < n → Fits g v.locals s m → Comes effect Tested (config X around m (world_at s)) s.steps (test s) =
        λ m u less fits. cond_comes (Some e) v Skip κ T X c m u known less fits
        (λ k z w fit. comes_moved effect Tested (config Skip around k (world_at z)) (config T around k (world_at z)) z.steps (Gives (suc w) z) refl (enters v.locals κ T X c k z w fit)) in
        let steps : (m : ℕ → ℕ) (s : State) → s.steps < n → Fits g v.locals s m → Comes effect Back (config Skip turn m (world_at s)) s.steps (step s) =
        λ m u less fits. comes_moved effect Back (config Skip turn m (world_at u)) (config X around m (world_at u)) u.steps (Gives Falls u) refl (comes_here effect Back (config X around m (world_at u)) Falls u (record { variables = m; at = refl; fits = fits })) in
        comes_moved effect Q (config (Block (Loop T)) κ l (world_at s)) (config (Loop T) (Leaving κ) l (world_at s)) s.steps (begin_body body more s) refl
        (comes_moved effect Q (config (Loop T) (Leaving κ) l (world_at s)) (config T around l (world_at s)) s.steps (begin_body body more s) refl
        (comes_moved effect Q (config T around l (world_at s)) (config (Block c) turn l (world_at s)) s.steps (begin_body body more s) refl
        (begin_comes n v.locals κ T X X c b test body step tests (λ m u less fits. bodies (Leaving turn) m u less fits) steps l s more lt h
        (λ m u under fits. comes_moved effect Q (config Skip turn m (world_at u)) (config X around m (world_at u)) u.steps (more u) refl
        (turns_come n v.locals κ T X X c b test body step tests (λ m u less fits. bodies (Leaving turn) m u less fits) steps (suc n) m u (omega arith) (omega arith) fits)))))

    mutual
      pub lowered_comes : (st : Stmt) (b : Bool) (v : Environment) (κ : Continuation) (l : ℕ → ℕ) (s : State) → KnownIn g v st → s.steps < n → Fits g v.locals s l
          → Comes effect (Flows b κ (behind st v).locals v.locals) (config (lowered g b v st) κ l (world_at s)) s.steps (execute st n call v.visible s)
      lowered_comes (tree.Block all) b v κ l s known lt h =
          as_flows b κ v.locals _ s.steps _ (block_comes b κ v.locals (config (in_sequence (all_lowered g b (inner v) all)) κ l (world_at s)) l s (execute_all all n call (opened v.visible)) h (all_comes all b (inner v) κ l s known lt h))
      lowered_comes (tree.Local t ds) b v κ l s known lt h =
          falling_flows b κ (with_locals t ds v).locals v.locals (config (in_sequence (declared_code g t ds v)) κ l (world_at s)) s.steps _ (declared_comes effect g call n facts t ds v κ l s known lt h)
      lowered_comes (Perform a) b v κ l s known lt h =
          falling_flows b κ v.locals v.locals (config (performed_optional g v a) κ l (world_at s)) s.steps _ (optional_comes effect g call n facts a v κ l s known lt h)
      lowered_comes (tree.Return at e) b v κ l s known lt h =
          let Q = Flows b κ v.locals v.locals in
          using_or_comes effect g call n facts Q 0 e v (free v) (λ x. Return x) κ l s (λ w t. Gives (Returns w) t) (λ x μ m z missing. ap (λ o. tried o (λ w. Ret (record { value = w; world = z }))) missing) known (omega arith) lt h
          (λ x m u w less fits same is. comes_here effect Q (config (Return x) κ m (world_at u)) (Returns w) u (record { expression = x; behind = κ; variables = m; at = refl; is = is }))
      lowered_comes (Break at) true v κ l s known lt h =
          comes_here effect (Flows true κ v.locals v.locals) (config (Exit 1) κ l (world_at s)) Breaks s (record { extra = []; stops = record { variables = l; at = refl; fits = h } })
      lowered_comes (Break at) false v κ l s known lt h =
          comes_here effect (Flows false κ v.locals v.locals) (config (Return (Constant 0)) κ l (world_at s)) Breaks s (record { expression = Constant 0; behind = κ; variables = l; at = refl; is = refl })
      lowered_comes (Continue at) true v κ l s known lt h =
          comes_here effect (Flows true κ v.locals v.locals) (config (Exit 0) κ l (world_at s)) Continues s (record { extra = []; stops = record { variables = l; at = refl; fits = h } })
      lowered_comes (Continue at) false v κ l s known lt h =
          comes_here effect (Flows false κ v.locals v.locals) (config (Return (Constant 0)) κ l (world_at s)) Continues s (record { expression = Constant 0; behind = κ; variables = l; at = refl; is = refl })
      lowered_comes (tree.If c a) b v κ l s known lt h =
          let Q = Flows b κ v.locals v.locals in
          let A : Statement = lowered g b (inner v) a in
          let ra : State → Run Flow = in_block (execute a n call (opened v.visible)) in
          using_comes effect g call n facts Q c v (free v) (λ x. branch x A Skip) κ l s (λ w t. choose w ra (λ u. Gives Falls u) t) (branch_needs A Skip) known.0 (omega arith) lt h
          (λ x m u w less fits same is. choice_comes effect g Q x A Skip κ m u w ra (λ u. Gives Falls u) is
          (as_flows b κ v.locals (config A κ m (world_at u)) u.steps (ra u) (part_comes a b v κ (config A κ m (world_at u)) m u fits (lowered_comes a b (inner v) κ m u known.1 (omega arith) fits)))
          (comes_here effect Q (config Skip κ m (world_at u)) Falls u (record { variables = m; at = refl; fits = fits })))
      lowered_comes (IfElse c a e) b v κ l s known lt h =
          let Q = Flows b κ v.locals v.locals in
          let A : Statement = lowered g b (inner v) a in
          let E : Statement = lowered g b (inner v) e in
          let ra : State → Run Flow = in_block (execute a n call (opened v.visible)) in
          let re : State → Run Flow = in_block (execute e n call (opened v.visible)) in
          using_comes effect g call n facts Q c v (free v) (λ x. branch x A E) κ l s (λ w t. choose w ra re t) (branch_needs A E) known.0 (omega arith) lt h
          (λ x m u w less fits same is. choice_comes effect g Q x A E κ m u w ra re is
          (as_flows b κ v.locals (config A κ m (world_at u)) u.steps (ra u) (part_comes a b v κ (config A κ m (world_at u)) m u fits (lowered_comes a b (inner v) κ m u known.1 (omega arith) fits)))
          (as_flows b κ v.locals (config E κ m (world_at u)) u.steps (re u) (part_comes e b v κ (config E κ m (world_at u)) m u fits (lowered_comes e b (inner v) κ m u known.2 (omega arith) fits))))
      lowered_comes (While c body) b v κ l s known lt h =
          let A : Statement = lowered g true (inner v) body in
          as_flows b κ v.locals (config (lowered g b v (While c body)) κ l (world_at s)) s.steps (execute (While c body) n call v.visible s)
          (loop_comes (Some c) None Skip A b v κ l s (in_block (execute body n call (opened v.visible))) known.0 lt h
          (λ μ m u less fits. part_comes body true v μ (config A μ m (world_at u)) m u fits (lowered_comes body true (inner v) μ m u known.1 less fits))
          (λ μ m u less fits. optional_comes effect g call n facts None v μ m u tt less fits))
      lowered_comes (DoWhile body c) b v κ l s known lt h =
          let A : Statement = lowered g true (inner v) body in
          as_flows b κ v.locals (config (lowered g b v (DoWhile body c)) κ l (world_at s)) s.steps (execute (DoWhile body c) n call v.visible s)
          (do_comes c A b v κ l s (in_block (execute body n call (opened v.visible))) known.0 lt h
          (λ μ m u less fits. part_comes body true v μ (config A μ m (world_at u)) m u fits (lowered_comes body true (inner v) μ m u known.1 less fits)))
      lowered_comes (For first c a body) b v κ l s known lt h =
          let w : Environment = behind_beginning first (inner v) in
          let A : Statement = lowered g true (inner w) body in
          let X : Statement = performed_optional g w a in
          let L : Statement = Block (Loop (looped (using_or g w (free w) 1 c) A X)) in
          let start_code : Statement = started g first (inner v) in
          let e = beginning_extends first (inner v) in
          let Q = Loosely b κ v.locals in
          let turns_in : Visible → State → Run Flow = λ z u. turns (suc n) (evaluate_or 1 c (in_scope z) call) (in_block (execute body n call (opened z))) (perform_optional a (in_scope z) call) u in
          let part : Visible → State → Run Flow = λ z t. then_do (start first call (opened v.visible) t) (λ flow u. turns_in z u) in
          as_flows b κ v.locals (config (Sequence start_code L) κ l (world_at s)) s.steps (in_block (part (scope_behind_beginning first (opened v.visible))) s)
          (block_comes b κ v.locals (config (Sequence start_code L) κ l (world_at s)) l s (part (scope_behind_beginning first (opened v.visible))) h
          (subst (λ z. Comes effect Q (config (Sequence start_code L) κ l (world_at s)) s.steps (part z s)) (beginning_visible first (inner v))
          (comes_moved effect Q (config (Sequence start_code L) κ l (world_at s)) (config start_code (Then L κ) l (world_at s)) s.steps (part w.visible s) refl
          (comes_then effect (Falling effect g (Then L κ) w.locals) Q (config start_code (Then L κ) l (world_at s)) s.steps (start first call (opened v.visible) s) (λ flow u. turns_in w.visible u)
          (started_comes effect g call n facts first (inner v) (Then L κ) l s known.0 lt h)
          (λ flow t d le q. subst (λ c. Comes effect Q c t.steps (turns_in w.visible t)) (sym q.stops.at)
          (comes_moved effect Q (config Skip (Then L κ) q.stops.variables (world_at t)) (config L κ q.stops.variables (world_at t)) t.steps (turns_in w.visible t) refl
          (as_loosely b κ e.0 w.locals v.locals (config L κ q.stops.variables (world_at t)) t.steps (turns_in w.visible t) e.1
          (loop_comes c a X A b w κ q.stops.variables t (in_block (execute body n call (opened w.visible))) known.1 (omega arith) q.stops.fits
          (λ μ m u less fits. part_comes body true w μ (config A μ m (world_at u)) m u fits (lowered_comes body true (inner w) μ m u known.3 less fits))
          (λ μ m u less fits. optional_comes effect g call n facts a w μ m u known.2 less fits)))))))))

      pub all_comes : (ss : Stmts) (b : Bool) (v : Environment) (κ : Continuation) (l : ℕ → ℕ) (s : State) → AllKnownIn g v ss → s.steps < n → Fits g v.locals s l
          → Comes effect (Loosely b κ v.locals) (config (in_sequence (all_lowered g b v ss)) κ l (world_at s)) s.steps (execute_all ss n call v.visible s)
      all_comes end b v κ l s known lt h = comes_here effect (Loosely b κ v.locals) (config Skip κ l (world_at s)) Falls s (record { extra = []; stops = record { variables = l; at = refl; fits = h } })
      all_comes (next first rest) b v κ l s known lt h =
          let X : List Statement = all_lowered g b (behind first v) rest in
          let μ : Continuation = after_list X κ in
          let e = behind_extends first v in
          let go : Visible → State → Run Flow = λ w t. execute_all rest n call w t in
          subst (λ w. Comes effect (Loosely b κ v.locals) (config (in_sequence (lowered g b v first ∷ X)) κ l (world_at s)) s.steps (then_do (execute first n call v.visible s) (λ flow t. behind_flow flow (go w) t))) (behind_visible first v)
          (comes_first effect (Loosely b κ v.locals) (lowered g b v first) X κ l (world_at s) s.steps (then_do (execute first n call v.visible s) (λ flow t. behind_flow flow (go (behind first v).visible) t))
          (comes_then effect (Flows b μ (behind first v).locals v.locals) (Loosely b κ v.locals) (config (lowered g b v first) μ l (world_at s)) s.steps (execute first n call v.visible s) (λ flow t. behind_flow flow (go (behind first v).visible) t)
          (lowered_comes first b v μ l s known.0 lt h)
          (λ flow t d le q. flow_then b flow X κ (behind first v).locals v.locals t d (go (behind first v).visible) q
          (λ m fits. comes_as effect (Loosely b κ (behind first v).locals) (Loosely b κ v.locals) (config (in_sequence X) κ m (world_at t)) t.steps (execute_all rest n call (behind first v).visible t)
          (all_comes rest b (behind first v) κ m t known.1 (omega arith) fits)
          (λ f u d' under p. flowing_as b (λ s d. StopsBehind Skip κ (behind first v).locals s d) (λ s d. StopsBehind Skip κ v.locals s d) (λ i s d. StopsBehind (Exit i) κ (behind first v).locals s d) (λ i s d. StopsBehind (Exit i) κ v.locals s d) f u d'
          (λ x. still_behind Skip κ e.0 (behind first v).locals v.locals u d' e.1 x) (λ i x. still_behind (Exit i) κ e.0 (behind first v).locals v.locals u d' e.1 x) p)))))
