-- The code of a function keeps up with its body, by the laws of the meaning.
use Rattle.std.proofs.Common.{◌≡◌, ◌⊎◌, inl, inr, ℕ, suc, ◌+◌, ◌<◌, Bool, true, false, if◌then◌else◌, List, [], ◌∷◌, length, map, option_map, Option, Some, None, unwrap_or, get_or, slice_get, refl, sym, ap, ◌∙◌, subst, arith}
use Rattle.std.proofs.lemmas.List.{length-map}
use Rattle.std.proofs.lemmas.Option.{slice_get-get_or, slice_get-map}
use Rattle.cc_ast.specs.Tree.{External, Name, Parameter}
use Rattle.cc_layout.specs.Layout.{Layout, LaidObject, layout_of, callee}
use Rattle.cc_layout.specs.Environment.{Environment, parameter_names}
use Rattle.cc_layout.specs.declared.layout.Callee.{Callee}
use Rattle.cc_layout.specs.declared.layout.Callee.TheVariants.{WriteWord, ReadWord, Defined}
use Rattle.cc_c_semantics.specs.Meaning as meaning
use Rattle.cc_c_semantics.specs.Meaning.{Global, State, Run, Gives, Flow, Falls, Breaks, Continues, Returns, then_do, execute_all, Function, functions, calls, bound, result_of, run_optional, initial_globals, text_of}
use Rattle.cc_c_semantics.specs.Function.{Shared, effect_of, state_within, call_function}
use Rattle.cc_c_semantics.specs.Resolved as resolved
use Rattle.cc_c_semantics.specs.Resolved.{arities, IsResolved}
use Rattle.cc_c_semantics.specs.Calls.{NamedSize, size, sizes, laid_size, laid_sizes, shared_of, called, CallsAreEffects, CallsKeepObjects, FunctionsAreNumbered, ObjectsAreNumbered, ObjectsAreSized}
use Rattle.cc_c_semantics.specs.Checked.{stays}
use Rattle.cc_c_semantics.specs.declared.cause.Cause.{Cause}
use Rattle.cc_c_semantics.specs.declared.mode.Mode.{Mode}
use Rattle.cc_c_semantics.specs.declared.mode.Mode.TheVariants.{Plain, Checked}
use Rattle.cc_c_semantics.specs.Numbered as by_number
use Rattle.cc_c_semantics.specs.Numbered.{objects_of, world_of, named, shared_in, gone_wrong, numbered, call_in, body_in, arity_in, IsMeaning, CallsAreNumbered}
use Rattle.cc_types.specs.Typed.{IsTyped}
use Rattle.cc_simulation.specs.Behavior.{Ended}
use Rattle.cc_simulation.specs.World as world
use Rattle.cc_simulation.specs.World.{World, Question, Answer, Effect}
use Rattle.cc_simulation.specs.Run.{tried, Returns as Ret, run, act}
use Rattle.cc_simulation.specs.Meaning.{Meaning, most_open, IsCall, call_effect}
use Rattle.cc_simulation.specs.Tracks.{Keeping}
use Rattle.cc_cminor_language.specs.Cminor.{Ends, Config, config, cminor_move, cminor_output, first_variables}
use Rattle.cc_cminor_language.specs.Breaks.{BreaksAt}
use Rattle.cc_cminor_language.specs.Pair.{KeepsUp, FailsAlike, GoesWrong}
use Rattle.cc_cminor.specs.internal.Lowering.{body_code}
use Rattle.cc_cminor.proofs.Paths.{world_at, Calling, Cut, Lost, Reaches, Stuck, Comes}
use Rattle.cc_cminor.proofs.Known.{AllKnownIn, all_known_in}
use Rattle.cc_cminor.proofs.Variables.{names_of, Holds, Fits}
use Rattle.cc_cminor.proofs.PutExpressions.{CallIs, CallFacts}
use Rattle.cc_cminor.proofs.LoweredStatements.{GivesBack, Loosely, all_comes}

-- ---- objects and functions by number

sized_names : (gs : List Global) → map (λ (z : NamedSize). z.name) (sizes gs) ≡ by_number.names_of gs
sized_names [] = refl
sized_names (g ∷ gs) = ap (λ rest. g.name ∷ rest) (sized_names gs)

laid_names : (ps : List LaidObject) → map (λ (z : NamedSize). z.name) (laid_sizes ps) ≡ map (λ (p : LaidObject). p.name) ps
laid_names [] = refl
laid_names (p ∷ ps) = ap (λ rest. p.name ∷ rest) (laid_names ps)

first_name : List (List ℕ) → List ℕ
first_name [] = []
first_name (x ∷ xs) = x

other_names : List (List ℕ) → List (List ℕ)
other_names [] = []
other_names (x ∷ xs) = xs

-- a size without its name
abbrev unnamed : NamedSize → world.Size
unnamed z = record { width = z.width; elements = z.elements }

-- objects that are given the names of the layout have its sizes, and are unchanged once the names are removed
sized_named : (ps : List LaidObject) (xs : List (List ℕ)) (os : List world.Object) → xs ≡ map (λ (p : LaidObject). p.name) ps → map world.size_of os ≡ map unnamed (laid_sizes ps)
    → (sizes (named xs os) ≡ laid_sizes ps) × (objects_of (named xs os) ≡ os)
sized_named [] [] [] e f = (refl, refl)
sized_named [] [] (o ∷ os) e f = absurd (let q : ◌≡◌ {A = List world.Size} (world.size_of o ∷ map world.size_of os) [] = f in cc)
sized_named [] (x ∷ xs) os e f = absurd (let q : ◌≡◌ {A = List (List ℕ)} (x ∷ xs) [] = e in cc)
sized_named (p ∷ ps) [] os e f = absurd (let q : ◌≡◌ {A = List (List ℕ)} [] (p.name ∷ map (λ (p : LaidObject). p.name) ps) = e in cc)
sized_named (p ∷ ps) (x ∷ xs) [] e f = absurd (let q : ◌≡◌ {A = List world.Size} [] (unnamed (laid_size p) ∷ map unnamed (laid_sizes ps)) = f in cc)
sized_named (p ∷ ps) (x ∷ xs) (o ∷ os) e f =
    let q : ◌≡◌ {A = List (List ℕ)} (x ∷ xs) (p.name ∷ map (λ (p : LaidObject). p.name) ps) = e in
    let r : ◌≡◌ {A = List world.Size} (world.size_of o ∷ map world.size_of os) (unnamed (laid_size p) ∷ map unnamed (laid_sizes ps)) = f in
    let name : x ≡ p.name = cc in
    let names : xs ≡ map (λ (p : LaidObject). p.name) ps = cc in
    let size : world.size_of o ≡ unnamed (laid_size p) = cc in
    let rest : map world.size_of os ≡ map unnamed (laid_sizes ps) = cc in
    let long : length o.words ≡ p.extent.length = ap (λ (z : world.Size). z.elements) size in
    let width : o.width ≡ p.extent.width = ap (λ (z : world.Size). z.width) size in
    let h = sized_named ps xs os names rest in (
      ap (λ y. record { name = y; width = o.width; elements = length o.words } ∷ sizes (named xs os)) name
          ∙ ap (λ u. record { name = p.name; width = u; elements = length o.words } ∷ sizes (named xs os)) width
          ∙ ap (λ n. record { name = p.name; width = p.extent.width; elements = n } ∷ sizes (named xs os)) long ∙ ap (λ zs. laid_size p ∷ zs) h.0,
      ap (λ others. o ∷ others) h.1,
    )

-- ---- the end of a run

-- some cut of the run keeps up with the source
abbrev pub Kept : Calling → ℕ → Effect → Config → Type 0
Kept effect n source c = (most : ℕ) × (most_steps : ℕ) × Keeping cminor_move cminor_output effect.does 1 n source c most most_steps

-- the mode is one in which a program that goes wrong runs for ever, and the run breaks
abbrev Broken : Mode → (ℕ → Question → Effect) → Effect → Config → Type 0
Broken Plain does source c = ⊥
Broken Checked does source c = BreaksAt cminor_move cminor_output does source c

abbrev KeptOrBroken : Calling → ℕ → Effect → Config → Type 0
KeptOrBroken effect n source c = Kept effect n source c ⊎ Broken effect.mode effect.does source c

abbrev IsNotFailed : Effect → Type 0
IsNotFailed (world.Gives a left) = Unit {0}
IsNotFailed (world.Unfinished o) = Unit {0}
IsNotFailed (world.Failed o) = ⊥

-- the run keeps up or breaks, and if the source goes wrong, so does the run
abbrev Owed : Calling → ℕ → Effect → Config → Type 0
Owed effect n source c = KeptOrBroken effect n source c × ((o : List ℕ) → source ≡ world.Failed o → Lost effect c o)

owed : (effect : Calling) (n : ℕ) (source : Effect) (c : Config) → IsNotFailed source → Kept effect n source c → Owed effect n source c
owed effect n source c right kept = (inl kept, λ o e. absurd (subst IsNotFailed e right))

ended : (effect : Calling) (c d : Config) (n left : ℕ) (a : Answer) → Reaches effect c n left d → cminor_move d ≡ Ret a → cminor_output d ≡ a.world.output → Kept effect n (world.Gives a left) c
ended effect c d n left a p e o =
    let r = p.way.same 1 0 in
    let w = p.way.done 1 0 in
    let paid = p.paid in (
      p.m + 1,
      p.t + 0,
      record {
        moves = p.m + 1;
        steps = p.t + 0;
        few = omega arith;
        few_steps = omega arith;
        keeps = (r ∙ ap (λ x. act effect.does x (cminor_output d) 0 (run cminor_move cminor_output effect.does 0)) e ∙ ap (λ y. record { stop = Ended a; output = y }) o, omega arith);
      },
    )

gave_back : (effect : Calling) (g : Layout) (c d : Config) (n w : ℕ) (t : State) → Reaches effect c n t.steps d → GivesBack effect g w t d → Kept effect n (world.Gives (record { value = w; world = world_at t }) t.steps) c
gave_back effect g c d n w t p q =
    ended effect c d n t.steps (record { value = w; world = world_at t }) p
    (ap cminor_move q.at ∙ ap (λ o. tried o (λ y. Ret (record { value = y; world = world_at t }))) q.is) (ap cminor_output q.at)

going_kept : (effect : Calling) (c : Config) (n : ℕ) (o : List ℕ) → Cut effect c n o → Kept effect n (world.Unfinished o) c
going_kept effect c n o h = (h.k, h.j, record { moves = h.k; steps = h.j; few = omega arith; few_steps = omega arith; keeps = (h.same, (let e = h.enough in omega arith)) })

-- if the source goes wrong, the run satisfies `Owed`
wrong_kept : (effect : Calling) (cause : Cause) (c : Config) (n : ℕ) (o : List ℕ) → Stuck effect (stays effect.mode cause) c n o → Owed effect n (gone_wrong effect.mode cause o) c
wrong_kept effect cause c n o h = by effect.mode (stays effect.mode cause) refl h
  where
    by : (m : Mode) (b : Bool) → stays m cause ≡ b → Stuck effect b c n o
        → (Kept effect n (if b then world.Unfinished o else world.Failed o) c ⊎ Broken m effect.does (if b then world.Unfinished o else world.Failed o) c)
        × ((p : List ℕ) → (if b then world.Unfinished o else world.Failed o) ≡ world.Failed p → Lost effect c p)
    by m false s h = (inl (0, 0, record { moves = 0; steps = 0; few = omega arith; few_steps = omega arith; keeps = tt }), λ p e. let same : o ≡ p = cc in subst (λ q. Lost effect c q) same h)
    by m true s (inl x) = (inl (going_kept effect c n o x), λ p e. absurd (subst IsNotFailed e tt))
    by Plain true s (inr x) = absurd (let f : false ≡ true = s in cc)
    by Checked true s (inr x) = (inr (record { moves = x.k; steps = x.j; breaks = x.broke }), λ p e. absurd (subst IsNotFailed e tt))

keeping_of : (effect : Calling) (g : Layout) (ns : List (List ℕ)) (c : Config) (n : ℕ) (r : Run Flow) → Comes effect (Loosely effect g false Ends ns) c n r
    → Owed effect n (numbered effect.mode (effect_of (then_do r (λ flow t. Gives (result_of flow) (record t { locals = [] }))))) c
keeping_of effect g ns c n (Gives Falls t) h =
    owed effect n (world.Gives (record { value = 0; world = world_at t }) t.steps) c tt (ended effect c h.to n t.steps (record { value = 0; world = world_at t }) h.reaches (ap cminor_move h.is.stops.at) (ap cminor_output h.is.stops.at))
keeping_of effect g ns c n (Gives Breaks t) h = owed effect n (world.Gives (record { value = 0; world = world_at t }) t.steps) c tt (gave_back effect g c h.to n 0 t h.reaches h.is)
keeping_of effect g ns c n (Gives Continues t) h = owed effect n (world.Gives (record { value = 0; world = world_at t }) t.steps) c tt (gave_back effect g c h.to n 0 t h.reaches h.is)
keeping_of effect g ns c n (Gives (Returns w) t) h = owed effect n (world.Gives (record { value = w; world = world_at t }) t.steps) c tt (gave_back effect g c h.to n w t h.reaches h.is)
keeping_of effect g ns c n (meaning.Going o) h = owed effect n (world.Unfinished o) c tt (going_kept effect c n o h)
keeping_of effect g ns c n (meaning.Wrong cause o) h = wrong_kept effect cause c n o h

-- ---- entry

same_text : (o : Option Name) → text_of o ≡ elim o as (λ _. List ℕ) [ None ↦ [] | Some x ↦ x.text ]
same_text None = refl
same_text (Some x) = refl

bound_names : (ps : List Parameter) (ws : List ℕ) (ls : List meaning.Local) → length ws ≡ length ps → names_of (bound (map (λ (p : Parameter). text_of p.name) ps) ws ls) ≡ parameter_names ps (names_of ls)
bound_names [] ws ls e = refl
bound_names (p ∷ ps) [] ls e = absurd (let f : 0 ≡ suc (length ps) = e in omega arith)
bound_names (p ∷ ps) (w ∷ ws) ls e =
    bound_names ps ws (record { name = text_of p.name; word = w } ∷ ls) (let f : suc (length ws) ≡ suc (length ps) = e in omega arith)
    ∙ ap (λ x. parameter_names ps (x ∷ names_of ls)) (same_text p.name)

bound_holds : (ps : List (List ℕ)) (ws : List ℕ) (ls : List meaning.Local) (l : ℕ → ℕ) → length ws ≡ length ps → Holds ls l → ((i : ℕ) → l (length ls + i) ≡ get_or ws i 0) → Holds (bound ps ws ls) l
bound_holds [] ws ls l e h f = h
bound_holds (x ∷ xs) [] ls l e h f = absurd (let g : 0 ≡ suc (length xs) = e in omega arith)
bound_holds (x ∷ xs) (w ∷ ws) ls l e h f =
    bound_holds xs ws (record { name = x; word = w } ∷ ls) l (let g : suc (length ws) ≡ suc (length xs) = e in omega arith)
    (ap l (let g : length ls ≡ length ls + 0 = omega arith in g) ∙ f 0, h)
    (λ i. ap l (let g : suc (length ls) + i ≡ length ls + suc i = omega arith in g) ∙ f (suc i))

-- ---- the whole

module _ (effects : CallsAreEffects) (keep : CallsKeepObjects) (functions_are : FunctionsAreNumbered) (objects_are : ObjectsAreNumbered) (sized : ObjectsAreSized) (by_numbers : CallsAreNumbered) where
  same_many : (unit : List External) → length (arities unit) ≡ length (layout_of unit).functions
  same_many unit =
      length-map (functions unit) (λ (g : Function). length g.parameters) ∙ sym (length-map (functions unit) (λ (g : Function). g.name)) ∙ ap (λ (xs : List (List ℕ)). length xs) (functions_are unit)

  same_names : (unit : List External) (gs : List Global) → sizes gs ≡ laid_sizes (layout_of unit).objects → by_number.names_of gs ≡ by_number.names_of (initial_globals unit)
  same_names unit gs e = sym (sized_names gs) ∙ ap (λ zs. map (λ (z : NamedSize). z.name) zs) e ∙ laid_names (layout_of unit).objects ∙ sym (objects_are unit)

  abbrev calling : Mode → Meaning → (opened : ℕ) → Calling
  calling mode m opened = record { mode = mode; does = call_effect m opened }

  call_facts : (mode : Mode) (unit : List External) (m : Meaning) (is : IsMeaning mode unit m) (opened n : ℕ) → CallFacts (calling mode m opened) (layout_of unit) (calls n (functions unit) opened) n
  call_facts mode unit m is opened n = record {
    exact = λ q j left a e. m.exact opened q.function q.arguments q.world j left a e;
    writes = λ x ws s e lt.
        effects unit n opened 1 x ws s (subst (λ c. resolved.IsCalled (arities unit) c 1) (sym e) refl) lt ∙ ap (λ c. called unit opened c ws s) e;
    reads = λ x ws s e lt.
        effects unit n opened 0 x ws s (subst (λ c. resolved.IsCalled (arities unit) c 0) (sym e) refl) lt ∙ ap (λ c. called unit opened c ws s) e;
    does = λ x ws f s e below lt sizes_are.
        let many = same_many unit in
        let arity : slice_get (arities unit) f ≡ Some (get_or (arities unit) f 0) = slice_get-get_or (arities unit) f 0 (omega arith) in
        record {
          what = call_function unit s.steps opened f ws (shared_of s);
          does = effects unit n opened (get_or (arities unit) f 0) x ws s (subst (λ c. resolved.IsCalled (arities unit) c (get_or (arities unit) f 0)) (sym e) arity) lt ∙ ap (λ c. called unit opened c ws s) e;
          same = ap (λ (call : ℕ → ℕ → ℕ → List ℕ → World → Effect). call s.steps opened f ws (world_at s)) is.call ∙ (by_numbers mode unit s.steps opened f ws (shared_of s) (same_names unit s.globals sizes_are)).0;
          keeps = keep unit s.steps opened f ws (shared_of s);
        };
  }

  -- in every mode, the code of a resolved function's body satisfies `Owed`
  lowered_kept : (mode : Mode) (unit : List External) → IsTyped unit → (f : ℕ) (r : IsResolved unit f) (m : Meaning) → IsMeaning mode unit m → (opened : ℕ) (ws : List ℕ) (h : World) → IsCall m f ws h → (n : ℕ)
      → Owed (calling mode m (suc opened)) n (m.body n opened f ws h) (config (body_code (layout_of unit) r.environment r.body) Ends (first_variables ws) h)
  lowered_kept mode unit typed f r m is opened ws h call n =
      let g : Layout = layout_of unit in
      let ps : List (List ℕ) = map (λ (p : Parameter). text_of p.name) r.signature.parameters in
      let function : Function = record { name = r.signature.name.text; parameters = ps; body = r.body; visible = r.environment.visible } in
      let effect : Calling = calling mode m (opened + 1) in
      let H : Shared = shared_in unit h in
      let all : (sizes H.globals ≡ laid_sizes g.objects) × (objects_of H.globals ≡ h.globals) =
      sized_named g.objects (by_number.names_of (initial_globals unit)) h.globals (objects_are unit)
      (call.world.sizes ∙ is.objects ∙ unnamed_sizes (initial_globals unit) ∙ ap (map unnamed) (sized unit typed)) in
      let s : State = record (state_within n H) { locals = bound ps ws [] } in
      let arity : arity_in unit f ≡ length ps =
      ap (λ o. unwrap_or o 0) (slice_get-map (λ (g : Function). length g.parameters) (functions unit) f ∙ ap (λ o. option_map (λ (g : Function). length g.parameters) o) r.function) in
      let many : length ws ≡ length ps = call.count ∙ ap (λ (a : ℕ → ℕ). a f) is.arity ∙ arity in
      let many' : length ws ≡ length r.signature.parameters = many ∙ length-map r.signature.parameters (λ (p : Parameter). text_of p.name) in
      let fits : Fits g r.environment.locals s (first_variables ws) = record {
        names = bound_names r.signature.parameters ws [] many' ∙ sym r.locals;
        holds = bound_holds ps ws [] (first_variables ws) many tt (λ i. ap (first_variables ws) (let g : 0 + i ≡ i = omega arith in g));
        sized = all.0;
      } in
      let known : AllKnownIn g r.environment r.body = all_known_in (arities unit) g (same_many unit) r.body r.environment r.layout r.resolved in
      let c : Config = config (body_code g r.environment r.body) Ends (first_variables ws) (world_at s) in
      let kept : Owed effect n (body_in mode unit n opened f ws h) c =
      subst (λ o. Owed effect n (numbered mode (effect_of (run_optional o (suc n) (calls (suc n) (functions unit) (opened + 1)) ws (state_within n H)))) c) (sym r.function)
      (keeping_of effect g r.environment.locals c n (execute_all function.body (suc n) (calls (suc n) (functions unit) (opened + 1)) function.visible s)
      (all_comes effect g (calls (suc n) (functions unit) (opened + 1)) (suc n) (call_facts mode unit m is (opened + 1) (suc n)) r.body false r.environment Ends (first_variables ws) s known (omega arith) fits)) in
      let start : c ≡ config (body_code g r.environment r.body) Ends (first_variables ws) h =
      ap (λ gs. config (body_code g r.environment r.body) Ends (first_variables ws) (record { globals = gs; input = h.input; output = h.output })) all.1 in
      let one : opened + 1 ≡ suc opened = omega arith in
      let body : body_in mode unit n opened f ws h ≡ m.body n opened f ws h = sym (ap (λ (b : ℕ → ℕ → ℕ → List ℕ → World → Effect). b n opened f ws h) is.body) in
      subst (λ k. Owed (calling mode m k) n (m.body n opened f ws h) (config (body_code g r.environment r.body) Ends (first_variables ws) h)) one
      (subst (λ e. Owed effect n e (config (body_code g r.environment r.body) Ends (first_variables ws) h)) body
      (subst (λ c. Owed effect n (body_in mode unit n opened f ws h) c) start kept))
    where
      unnamed_sizes : (gs : List Global) → map world.size_of (objects_of gs) ≡ map unnamed (sizes gs)
      unnamed_sizes [] = refl
      unnamed_sizes (g ∷ gs) = ap (λ zs. unnamed (size g) ∷ zs) (unnamed_sizes gs)

  -- a plain program's code keeps up with its source
  pub lowered_keeps_up : (unit : List External) → IsTyped unit → (f : ℕ) (r : IsResolved unit f) → KeepsUp Plain unit f (body_code (layout_of unit) r.environment r.body)
  lowered_keeps_up unit typed f r = λ m is opened below ws h call n.
      elim (lowered_kept Plain unit typed f r m is opened ws h call n).0 [ inl x ↦ x | inr x ↦ absurd x ]

  -- the code goes wrong as its function does
  pub lowered_fails_alike : (unit : List External) → IsTyped unit → (f : ℕ) (r : IsResolved unit f) → FailsAlike unit f (body_code (layout_of unit) r.environment r.body)
  lowered_fails_alike unit typed f r = λ m is opened below ws h call n. (lowered_kept Checked unit typed f r m is opened ws h call n).0

  pub lowered_goes_wrong : (unit : List External) → IsTyped unit → (f : ℕ) (r : IsResolved unit f) → GoesWrong unit f (body_code (layout_of unit) r.environment r.body)
  lowered_goes_wrong unit typed f r = λ mode m is opened below ws h call n o e. let x = (lowered_kept mode unit typed f r m is opened ws h call n).1 o e in (x.k, x.j, x.wrong)
