-- Code that needs no guard: it stays as it was, and it never reaches an operation without a value.
use Rattle.std.proofs.Common.{◌≡◌, ℕ, zero, suc, Bool, true, false, List, [], ◌∷◌, ◌++◌, map, Option, Some, None, refl, sym, ap, ◌∙◌, subst}
use Rattle.std.specs.Prelude.{if◌then◌else◌, ◌||◌}
use Rattle.cc_words.specs.declared.operators.Binary as two
use Rattle.cc_words.specs.declared.operators.Binary.TheVariants.{Add, Sub, Mul, DivS, DivU, RemS, RemU, Shl, ShrS, ShrU, And, Or, Xor, Eq, Ne, LtS, LtU, LeS, LeU}
use Rattle.cc_words.specs.declared.operators.Width.{Width}
use Rattle.cc_simulation.specs.World.{Size, size_of, World, Question, Answer, Effect, Gives, Unfinished, Failed, after_write}
use Rattle.cc_simulation.specs.Run.{Move, Goes, Calls, Returns, Fails, tried}
use Rattle.cc_cminor_language.specs.Cminor.{Expression, Constant, Local, Unary, Binary, Load, Statement, Skip, Set, Store, Call, Read, Write, Sequence, If, Loop, Block, Exit, Return, Continuation, Ends, Then, Again, Leaving, Variables, value, values, put, put_result, Config, config, chosen, skips, exits, moves, cminor_move, cminor_output}
use Rattle.cc_cminor_language.specs.Breaks.{broken, broken_act, broken_resumed, BreaksAt}
use Rattle.cc_guard.specs.declared.known.Limit.{Limit}
use Rattle.cc_guard.specs.Guard.{Guard, Guarded, most, is_below, always, asked, reads_left, elements_in, waiting, waiting_if, with_binary, with_test, bounded, first_index, stored_word, guards_then, guarded, guarded_all, head, known_after, known_within, code_after, guarded_code, some_guard, guards_after, with_loop}
use Rattle.cc_guard.specs.Laws.{UnguardedStays}
use Rattle.cc_guard.specs.internal.Next.{Noted, Last, AndThen, InLoop, InBlock, plain_next, exits_of}
use Rattle.cc_guard.specs.internal.Fits.{Under}
use Rattle.cc_guard.proofs.Passing.{Meets}
use Rattle.cc_guard.proofs.Evident.{Holds}
use Rattle.cc_guard.proofs.Values.{Agree, LimitsUnder, same_value, same_values, HasValue, HaveValues, guards, guards_all}
use Rattle.cc_guard.proofs.Flow.{ExitKnows}
use Rattle.cc_guard.proofs.Matching.{Matches}
use Rattle.cc_guard.proofs.Moves.{At, Related, store, same_store, store_agrees, Stored, store_guarded, matches}

no_true : {A : Type 0} → true ≡ false → A
no_true e = absurd (let f : true ≡ false = e in cc)

none_in : (gs is : List Guard) → some_guard (gs ++ is) ≡ false → (some_guard gs ≡ false) × (some_guard is ≡ false)
none_in [] is e = (refl, e)
none_in (g ∷ gs) is e = no_true e

pushed : {A : Type 0} (gs : List Guard) (g : Guard) → some_guard (gs ++ g ∷ []) ≡ false → A
pushed [] g e = no_true e
pushed (x ∷ gs) g e = no_true e

-- an operator that is tested has a guard
asked_some : (ks : List Limit) (op : two.Binary) (a b c : Expression) → always ks op c ≡ false → some_guard (asked op a b) ≡ true
asked_some ks Add a b c e = no_true e
asked_some ks Sub a b c e = no_true e
asked_some ks Mul a b c e = no_true e
asked_some ks DivS a b c e = refl
asked_some ks DivU a b c e = refl
asked_some ks RemS a b c e = refl
asked_some ks RemU a b c e = refl
asked_some ks Shl a b c e = refl
asked_some ks ShrS a b c e = refl
asked_some ks ShrU a b c e = refl
asked_some ks And a b c e = no_true e
asked_some ks Or a b c e = no_true e
asked_some ks Xor a b c e = no_true e
asked_some ks Eq a b c e = no_true e
asked_some ks Ne a b c e = no_true e
asked_some ks LtS a b c e = no_true e
asked_some ks LtU a b c e = no_true e
asked_some ks LeS a b c e = no_true e
asked_some ks LeU a b c e = no_true e

or_left : (a b : Bool) → (a || b) ≡ false → a ≡ false
or_left true b e = e
or_left false b e = refl

or_right : (a b : Bool) → (a || b) ≡ false → b ≡ false
or_right true b e = no_true e
or_right false b e = e

module _ (objects : List Size) where
  abbrev after : Guarded → Expression → Guarded
  after g e = guarded objects g.known g.next e

  -- ---- the code stays as it was

  operator_same : (r : Bool) (op : two.Binary) (a b : Expression) (g : Guarded) → always g.known op b ≡ r
      → some_guard (if r then with_binary op g (after g b) else with_test op (waiting_if (reads_left op) g) (waiting (after (waiting_if (reads_left op) g) b))).before ≡ false
      → (some_guard g.before ≡ false → g.value ≡ a) → ((k : Guarded) → some_guard (after k b).before ≡ false → (after k b).value ≡ b)
      → (if r then with_binary op g (after g b) else with_test op (waiting_if (reads_left op) g) (waiting (after (waiting_if (reads_left op) g) b))).value ≡ Binary op a b
  operator_same true op a b g is none left right =
      let p = none_in g.before (after g b).before none in
      ap (λ x. Binary op x (after g b).value) (left p.0) ∙ ap (λ x. Binary op a x) (right g p.1)
  operator_same false op a b g is none left right =
      let l = waiting_if (reads_left op) g in
      let k = waiting (after l b) in
      let p = none_in l.before (k.before ++ asked op l.value k.value) none in
      let q = none_in k.before (asked op l.value k.value) p.1 in
      let some = asked_some g.known op l.value k.value b is in
      no_true (sym some ∙ q.1)

  index_same : (r : Bool) (n : ℕ) (i : Expression) (g : Guarded) → some_guard (if r then g else bounded n (waiting g)).before ≡ false → (some_guard g.before ≡ false → g.value ≡ i)
      → (some_guard g.before ≡ false) × ((if r then g else bounded n (waiting g)).value ≡ i)
  index_same true n i g none f = (none, f none)
  index_same false n i g none f = pushed (waiting g).before _ none

  same_expression : (e : Expression) (ks : List Limit) (n : ℕ) → some_guard (guarded objects ks n e).before ≡ false → (guarded objects ks n e).value ≡ e
  same_expression (Constant w) ks n none = refl
  same_expression (Local x) ks n none = refl
  same_expression (Unary op e) ks n none = ap (λ x. Unary op x) (same_expression e ks n none)
  same_expression (Binary op a b) ks n none =
      operator_same (always (guarded objects ks n a).known op b) op a b (guarded objects ks n a) refl none (same_expression a ks n) (λ k. same_expression b k.known k.next)
  same_expression (Load w o i) ks n none =
      ap (λ x. Load w o x) (index_same (is_below (most ks i) (elements_in objects w o)) (elements_in objects w o) i (guarded objects ks n i) none (same_expression i ks n)).1

  same_index : (ks : List Limit) (w : Width) (o n : ℕ) (i : Expression) → some_guard (first_index objects ks n w o i).before ≡ false → (first_index objects ks n w o i).value ≡ i
  same_index ks w o n i none = (index_same (is_below (most ks i) (elements_in objects w o)) (elements_in objects w o) i (guarded objects ks n i) none (same_expression i ks n)).1

  same_all : (es : List Expression) (ks : List Limit) (n : ℕ) → some_guard (guarded_all objects ks n es).before ≡ false → (guarded_all objects ks n es).values ≡ es
  same_all [] ks n none = refl
  same_all (e ∷ es) ks n none =
      let g = guarded objects ks n e in
      let p = none_in g.before (guarded_all objects g.known g.next es).before none in
      ap (λ x. x ∷ (guarded_all objects g.known g.next es).values) (same_expression e ks n p.0) ∙ ap (λ xs. e ∷ xs) (same_all es g.known g.next p.1)

  alone : (b : ℕ) (gs : List Guard) (s : Statement) → some_guard gs ≡ false → guards_then b gs s ≡ s
  alone b [] s none = refl
  alone b (g ∷ gs) s none = no_true none

  module _ (n : ℕ) where
    pub same_code : (b : ℕ) (s : Statement) (ks : List Limit) → guards_after objects n ks s ≡ false → code_after objects n ks b s ≡ s
    same_code b Skip ks none = refl
    same_code b (Set x e) ks none = alone b (guarded objects ks n e).before _ none ∙ ap (λ v. Set x v) (same_expression e ks n none)
    same_code b (Store w o i e) ks none =
        let gi = first_index objects ks n w o i in
        let ge = stored_word objects gi e in
        let p = none_in gi.before ge.before none in
        alone b (gi.before ++ ge.before) _ none ∙ ap (λ v. Store w o v ge.value) (same_index ks w o n i p.0) ∙ ap (λ v. Store w o i v) (same_expression e gi.known gi.next p.1)
    same_code b (Call to f es) ks none = alone b (guarded_all objects ks n es).before _ none ∙ ap (λ vs. Call to f vs) (same_all es ks n none)
    same_code b (Read to) ks none = refl
    same_code b (Write e) ks none = alone b (guarded objects ks n e).before _ none ∙ ap (λ v. Write v) (same_expression e ks n none)
    same_code b (Sequence s t) ks none =
        let K = known_after objects n ks s in
        ap (λ x. Sequence x (code_after objects n K b t)) (same_code b s ks (or_left _ (guards_after objects n K t) none)) ∙ ap (λ x. Sequence s x) (same_code b t K (or_right (guards_after objects n ks s) _ none))
    same_code b (If e s t) ks none =
        let g = guarded objects ks n e in
        let K = known_within objects n true ks e in
        let N = known_within objects n false ks e in
        let c = guards_after objects n K s in
        let d = guards_after objects n N t in
        let p = or_left (some_guard g.before) (c || d) none in
        let q = or_right (some_guard g.before) (c || d) none in
        alone b g.before _ p ∙ ap (λ v. If v (code_after objects n K b s) (code_after objects n N b t)) (same_expression e ks n p)
        ∙ ap (λ x. If e x (code_after objects n N b t)) (same_code b s K (or_left c d q)) ∙ ap (λ x. If e s x) (same_code b t N (or_right c d q))
    same_code b (Loop s) ks none = ap (λ x. Loop x) (same_code b s (head objects n ks s) none)
    same_code b (Block s) ks none = ap (λ x. Block x) (same_code (suc b) s ks none)
    same_code b (Exit k) ks none = refl
    same_code b (Return e) ks none = alone b (guarded objects ks n e).before _ none ∙ ap (λ v. Return v) (same_expression e ks n none)

    -- ---- the code never reaches an operation without a value

    module _ (effect : ℕ → Question → Effect) (keeps : (j left : ℕ) (q : Question) (a : Answer) → effect j q ≡ Gives a left → map size_of q.world.globals ≡ objects → map size_of a.world.globals ≡ objects) where
      abbrev CanMove : Move Config → Type 0
      CanMove (Goes c) = Unit {0}
      CanMove (Calls q resume) = Unit {0}
      CanMove (Returns r) = Unit {0}
      CanMove Fails = ⊥

      -- if there are no guards, there is a value, so the code can move
      given : {A : Type 0} (gs : List Guard) (m : Variables) (h : World) (o : Option A) (Q : Variables → A → Type 0) (go : A → Move Config) → some_guard gs ≡ false → Meets h gs m o Q → ((a : A) → CanMove (go a)) → CanMove (tried o go)
      given [] m h None Q go none p f = absurd p
      given [] m h (Some a) Q go none p f = f a
      given (g ∷ gs) m h o Q go none p f = no_true none

      with_value : (e : Expression) (ks : List Limit) (l m : Variables) (h : World) (go : ℕ → Move Config) → some_guard (guarded objects ks n e).before ≡ false → Under n e → LimitsUnder n ks → Holds ks m → Agree n m l → map size_of h.globals ≡ objects
          → ((w : ℕ) → CanMove (go w)) → CanMove (tried (value e l h) go)
      with_value e ks l m h go none u under holds agree sizes f =
          subst (λ (o : Option ℕ). CanMove (tried o go)) (same_value e n m l h u agree)
          (given (guarded objects ks n e).before m h (value e m h) (λ k w. HasValue objects h sizes n (guarded objects ks n e).value (guarded objects ks n e).known m k w) go none (guards objects h sizes e ks n m u under holds) f)

      skips_can : (κ : Continuation) (l : Variables) (h : World) → CanMove (skips κ l h)
      skips_can Ends l h = tt
      skips_can (Then s κ) l h = tt
      skips_can (Again s κ) l h = tt
      skips_can (Leaving κ) l h = tt

      exits_can : (k : ℕ) (ν : Noted) (ks : List Limit) (l : Variables) (h : World) → ExitKnows objects n true (exits_of ν) k ks → CanMove (exits k (plain_next ν) l h)
      exits_can k Last ks l h p = absurd p
      exits_can k (AndThen gs s ν) ks l h p = tt
      exits_can k (InLoop gs s ν) ks l h p = tt
      exits_can k (InBlock gs ν) ks l h p = tt

      can : (s : Statement) (ks : List Limit) (ν : Noted) (l m : Variables) (h : World) → At objects n true s ks ν l m h → CanMove (moves s (plain_next ν) l h)
      can Skip ks ν l m h p = skips_can (plain_next ν) l h
      can (Set x e) ks ν l m h p = with_value e ks l m h (λ w. Goes (config Skip (plain_next ν) (put l x w) h)) (p.flows.2 refl) p.flows.1 p.under p.holds p.agree p.sizes (λ w. tt)
      can (Store w o i e) ks ν l m h p =
          let gi = first_index objects ks n w o i in
          let ge = stored_word objects gi e in
          let go : World → Move Config = λ g. Goes (config Skip (plain_next ν) l g) in
          subst (λ x. CanMove x) (same_store objects n true effect keeps w o i e l h go)
          (subst (λ (r : Option World). CanMove (tried r go)) (store_agrees objects n true effect keeps w o i e n m l h p.flows.0 p.flows.1 p.agree)
          (given (gi.before ++ ge.before) m h (store objects n true effect keeps w o i e m h) (λ k g. Stored objects n true effect keeps w o gi.value ge.value ge.known m h k g) go (p.flows.2 refl)
          (store_guarded objects n true effect keeps w o i e ks m h p.flows.0 p.flows.1 p.under p.holds p.sizes) (λ g. tt)))
      can (Call to f es) ks ν l m h p =
          let gs = guarded_all objects ks n es in
          let go : List ℕ → Move Config = λ ws. Calls (record { function = f; arguments = ws; world = h }) (λ a. config Skip (plain_next ν) (put_result l to a.value) a.world) in
          subst (λ (o : Option (List ℕ)). CanMove (tried o go)) (same_values es n m l h p.flows.0 p.agree)
          (given gs.before m h (values es m h) (λ k ws. HaveValues objects h p.sizes n gs.values gs.known m k ws) go (p.flows.1 refl) (guards_all objects h p.sizes es ks n m p.flows.0 p.under p.holds) (λ ws. tt))
      can (Read to) ks ν l m h p = tt
      can (Write e) ks ν l m h p = with_value e ks l m h (λ w. Goes (config Skip (plain_next ν) l (after_write w h))) (p.flows.1 refl) p.flows.0 p.under p.holds p.agree p.sizes (λ w. tt)
      can (Sequence s t) ks ν l m h p = tt
      can (If e s t) ks ν l m h p = with_value e ks l m h (λ w. Goes (config (chosen w s t) (plain_next ν) l h)) (p.flows.1 refl) p.flows.0 p.under p.holds p.agree p.sizes (λ w. tt)
      can (Loop s) ks ν l m h p = tt
      can (Block s) ks ν l m h p = tt
      can (Exit k) ks ν l m h p = exits_can k ν ks l h p.flows
      can (Return e) ks ν l m h p = with_value e ks l m h (λ w. Returns (record { value = w; world = h })) (p.flows.1 refl) p.flows.0 p.under p.holds p.agree p.sizes (λ w. tt)

      -- code that is related to quiet guarded code can move
      can_move : (c d : Config) → Related objects n true c d → CanMove (cminor_move c)
      can_move c d r = subst (λ (κ : Continuation). CanMove (moves c.statement κ c.variables c.world)) (sym r.next_is) (can c.statement r.facts r.noted c.variables d.variables c.world r.at)

      abbrev breaks : ℕ → ℕ → Config → Option (List ℕ)
      breaks k j c = broken cminor_move cminor_output effect k j c

      act_unbroken : (k j : ℕ) (o : List ℕ) (m : Move Config) (d : Config) → CanMove m → Matches effect (Related objects n true) o m d → ((j : ℕ) (c d : Config) → Related objects n true c d → breaks k j c ≡ None) → broken_act effect m o j (breaks k) ≡ None
      act_unbroken k j o (Goes c) d can x ih = ih j c x.to x.related
      act_unbroken k j o (Calls q resume) d can x ih = by (effect j q) refl
        where
          by : (e : Effect) → effect j q ≡ e → broken_resumed e resume (breaks k) ≡ None
          by (Gives a left) is = ih left (resume a) (x.resume' a) (x.related j left a is)
          by (Unfinished o) is = refl
          by (Failed o) is = refl
      act_unbroken k j o (Returns r) d can x ih = refl
      act_unbroken k j o Fails d can x ih = absurd can

      pub unbroken : (k j : ℕ) (c d : Config) → Related objects n true c d → breaks k j c ≡ None
      unbroken zero j c d r = refl
      unbroken (suc k) j c d r = act_unbroken k j (cminor_output c) (cminor_move c) d (can_move c d r) (matches objects n true effect keeps c d r) (unbroken k)

      pub never_breaks : (e : Effect) (c d : Config) → Related objects n true c d → BreaksAt cminor_move cminor_output effect e c → ⊥
      never_breaks (Gives a left) c d r p = p
      never_breaks (Unfinished o) c d r p = let e : None ≡ Some o = sym (unbroken p.moves p.steps c d r) ∙ p.breaks in cc
      never_breaks (Failed o) c d r p = p

pub unguarded_stays : UnguardedStays
unguarded_stays objects n s none = ap (λ r. if r then with_loop (guarded_code objects n 0 s) else guarded_code objects n 0 s) none ∙ same_code objects n 0 s [] none
