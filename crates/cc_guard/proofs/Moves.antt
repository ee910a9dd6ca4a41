-- The guarded code matches each move of the code: one case for each statement. What is known at the start of a statement holds of
-- the variables at that point.
use Rattle.std.proofs.Common.{◌≡◌, ℕ, zero, suc, ◌<◌, ◌≤◌, ◌==◌, cond, Bool, true, false, List, [], ◌∷◌, ◌++◌, map, option_map, Option, Some, None, refl, sym, ap, ◌∙◌, subst, arith}
use Rattle.std.specs.Prelude.{if◌then◌else◌, ◌||◌}
use Rattle.cc_words.specs.declared.operators.Width.{Width}
use Rattle.cc_words.specs.Widths as widths
use Rattle.cc_simulation.specs.World.{Size, size_of, World, Question, Answer, Effect, Gives, element, with_element, stored, next_word, after_read, after_write}
use Rattle.cc_simulation.specs.Run.{Move, Goes, Calls, Returns, tried}
use Rattle.cc_cminor_language.specs.Cminor.{Expression, Statement, Skip, Set, Store, Call, Read, Write, Sequence, If, Loop, Block, Exit, Return, Continuation, Ends, Then, Again, Leaving, Variables, value, values, put, put_result, then_value, Config, config, chosen, skips, exits, moves, cminor_move, cminor_output}
use Rattle.cc_guard.specs.declared.known.Limit.{Limit}
use Rattle.cc_guard.specs.Guard.{Guard, forever, most, first_index, stored_word, guards_then, guarded, guarded_all, sets, sets_result, told, with_told, falls, leaves, head, kept, set_to, known_after, known_within, code_after}
use Rattle.cc_guard.specs.internal.Next.{Noted, Last, AndThen, InLoop, InBlock, plain_next, blocks_of, exits_of, guarded_next}
use Rattle.cc_guard.specs.internal.Fits.{Under}
use Rattle.cc_guard.proofs.Passing.{Meets}
use Rattle.cc_guard.proofs.Evident.{Within, Holds, within, IsWay, tells, told_holds}
use Rattle.cc_guard.proofs.Tests.{stored_sizes}
use Rattle.cc_guard.proofs.Values.{Agree, agree_on, put_there, same_value, same_values, under_more, LimitsUnder, limits_push, holds_push, sound, sound_indexed, HasValue, HaveValues, IsGuarded, both_guarded, no_more, here, lying, lies_there, indexed_guarded, guards, guards_all}
use Rattle.cc_guard.proofs.Flow.{Yields, Flows, Leads, leads_of, Continues, continues_more, kept_under, kept_holds, met_under, yields_head, head_under}
use Rattle.cc_guard.proofs.Matching.{Spins, Matches, guards_match}

module _ (objects : List Size) (n : ℕ) (quiet : Bool) where
  abbrev code : List Limit → (blocks : ℕ) → Statement → Statement
  code ks b s = code_after objects n ks b s

  abbrev next : Noted → Continuation
  next ν = guarded_next objects n ν

  abbrev known : List Limit → Statement → List Limit
  known ks s = known_after objects n ks s

  -- the run is at a statement, with what is known before it and what remains to be done after it: the variables below n have the
  -- same words in the guarded code, and what is known holds of them
  pub record At (s : Statement) (ks : List Limit) (ν : Noted) (l m : Variables) (h : World) : Type 0 where
    pub agree : Agree n m l
    pub under : LimitsUnder n ks
    pub holds : Holds ks m
    pub flows : Flows objects n quiet (exits_of ν) ks s
    pub after : List Limit
    pub leads : Leads objects n quiet s ks after
    pub continues : Continues objects n quiet after ν
    pub sizes : map size_of h.globals ≡ objects

  -- two configurations are related: the guarded code is at the same place as the code
  pub record Related (c d : Config) : Type 0 where
    pub facts : List Limit
    pub noted : Noted
    pub next_is : c.next ≡ plain_next noted
    pub is : d ≡ config (code facts (blocks_of noted) c.statement) (next noted) d.variables c.world
    pub at : At c.statement facts noted c.variables d.variables c.world

  -- ---- what is known after one statement

  limits_set : (x : ℕ) (m : Option ℕ) (ks : List Limit) → x < n → LimitsUnder n ks → LimitsUnder n (set_to x m ks)
  limits_set x None ks lt u = u
  limits_set x (Some m) ks lt u = limits_push objects n ks (record { variable = x; most = m }) u lt

  within_under : (way : Bool) (ks : List Limit) (e : Expression) → LimitsUnder n (known_within objects n way ks e)
  within_under way ks e = let g = guarded objects ks n e in kept_under n (sets Skip) (with_told g.known (told g.known way e))

  block_under : (b : Bool) (s : Statement) (ks : List Limit) → LimitsUnder n (known ks s) → LimitsUnder n (if b then kept n (sets s) ks else known ks s)
  block_under true s ks u = kept_under n (sets s) ks
  block_under false s ks u = u

  pub under_after : (s : Statement) (E : List (List Limit)) (ks : List Limit) → LimitsUnder n ks → Flows objects n quiet E ks s → LimitsUnder n (known ks s)
  under_after Skip E ks u f = u
  under_after (Set x e) E ks u f = limits_set x (most (guarded objects ks n e).known e) (kept n (sets (Set x e)) (guarded objects ks n e).known) f.0 (kept_under n (sets (Set x e)) (guarded objects ks n e).known)
  under_after (Store w o i e) E ks u f = kept_under n (sets (Store w o i e)) (stored_word objects (first_index objects ks n w o i) e).known
  under_after (Call to g es) E ks u f = kept_under n (sets (Call to g es)) (guarded_all objects ks n es).known
  under_after (Read to) E ks u f = kept_under n (sets (Read to)) ks
  under_after (Write e) E ks u f = kept_under n (sets (Write e)) (guarded objects ks n e).known
  under_after (Sequence s t) E ks u f = under_after t E (known ks s) (under_after s E ks u f.0) f.1
  under_after (If e s t) E ks u f =
      let K = known_within objects n true ks e in
      let N = known_within objects n false ks e in
      met_under (falls s) (falls t) n (If e s t) (kept n (sets (If e s t)) (guarded objects ks n e).known) (known K s) (known N t) (kept_under n (sets (If e s t)) (guarded objects ks n e).known)
      (under_after s E K (within_under true ks e) f.2) (under_after t E N (within_under false ks e) f.4)
  under_after (Loop s) E ks u f = kept_under n (sets s) ks
  under_after (Block s) E ks u f = block_under (leaves 0 s) s ks (under_after s (known ks (Block s) ∷ E) ks u f.0)
  under_after (Exit k) E ks u f = u
  under_after (Return e) E ks u f = kept_under n (sets (Return e)) (guarded objects ks n e).known

  other : (x w y : ℕ) (l : Variables) → (x == y) ≡ false → put l x w y ≡ l y
  other x w y l e = ap (λ b. cond b w (l y)) e

  other_result : (to : Option ℕ) (w y : ℕ) (l : Variables) → sets_result to y ≡ false → put_result l to w y ≡ l y
  other_result None w y l e = refl
  other_result (Some x) w y l e = other x w y l e

  set_holds : (x w : ℕ) (m : Option ℕ) (ks : List Limit) (k : Variables) (h : World) (sizes : map size_of h.globals ≡ objects) → Holds ks (put k x w) → Within m w → Holds (set_to x m ks) (put k x w)
  set_holds x w None ks k h sizes p q = p
  set_holds x w (Some m) ks k h sizes p q = holds_push objects h sizes ks (record { variable = x; most = m }) (put k x w) p (let e = put_there k x w in let le : w ≤ m = q in omega arith)

  module _ (effect : ℕ → Question → Effect) (keeps : (j left : ℕ) (q : Question) (a : Answer) → effect j q ≡ Gives a left → map size_of q.world.globals ≡ objects → map size_of a.world.globals ≡ objects) where
    abbrev Matched : List ℕ → Move Config → Config → Type 0
    Matched o m d = Matches effect Related o m d

    related : (s : Statement) (ks : List Limit) (ν : Noted) (l m : Variables) (h : World) → At s ks ν l m h → Related (config s (plain_next ν) l h) (config (code ks (blocks_of ν) s) (next ν) m h)
    related s ks ν l m h p = record { facts = ks; noted = ν; next_is = refl; is = refl; at = p }

    -- the next move of the guarded code leads to a related configuration
    goes : (t : Statement) (o : List ℕ) (ks : List Limit) (ν : Noted) (l m : Variables) (h : World) (d : Config) → cminor_move d ≡ Goes (config (code ks (blocks_of ν) t) (next ν) m h) → At t ks ν l m h
        → Matched o (Goes (config t (plain_next ν) l h)) d
    goes t o ks ν l m h d e p =
        record { moves = 1; to = config (code ks (blocks_of ν) t) (next ν) m h; one = omega arith; way = (config (code ks (blocks_of ν) t) (next ν) m h, e, (refl, refl)); related = related t ks ν l m h p }

    agree_both : (x w : ℕ) (m l : Variables) → Agree n m l → Agree n (put m x w) (put l x w)
    agree_both x w m l p = λ y lt. ap (λ a. cond (x == y) w a) (p y lt)

    agree_result : (to : Option ℕ) (w : ℕ) (m l : Variables) → Agree n m l → Agree n (put_result m to w) (put_result l to w)
    agree_result None w m l p = p
    agree_result (Some x) w m l p = agree_both x w m l p

    -- an exit from all blocks leads to the loop at the function's end
    halts : (ν : Noted) (l : Variables) (h : World) → Spins h.output (config (Exit (blocks_of ν)) (next ν) l h)
    halts Last l h = record {
      moves = 4;
      to = config Skip (Again Skip (Leaving Ends)) l h;
      way = (config (Exit 0) (Leaving (Then forever (Leaving Ends))) l h, refl, (config Skip (Then forever (Leaving Ends)) l h, refl, (config forever (Leaving Ends) l h, refl, (config Skip (Again Skip (Leaving Ends)) l h, refl, (refl, refl)))));
      stays = refl;
      output = refl;
    }
    halts (AndThen ks s ν) l h = let x = halts ν l h in record { moves = suc x.moves; to = x.to; way = (config (Exit (blocks_of ν)) (next ν) l h, refl, x.way); stays = x.stays; output = x.output }
    halts (InLoop ks s ν) l h = let x = halts ν l h in record { moves = suc x.moves; to = x.to; way = (config (Exit (blocks_of ν)) (next ν) l h, refl, x.way); stays = x.stays; output = x.output }
    halts (InBlock ks ν) l h = let x = halts ν l h in record { moves = suc x.moves; to = x.to; way = (config (Exit (blocks_of ν)) (next ν) l h, refl, x.way); stays = x.stays; output = x.output }

    -- ---- statements that end

    -- what remains to be done can start with the bounds known now
    done : (ks gs : List Limit) (ν : Noted) (l m : Variables) (h : World) → Agree n m l → LimitsUnder n ks → Holds ks m → Yields ks gs → Continues objects n quiet gs ν → map size_of h.globals ≡ objects → At Skip ks ν l m h
    done ks gs ν l m h agree u k y c sizes = record { agree = agree; under = u; holds = k; flows = tt; after = gs; leads = λ e. y; continues = c; sizes = sizes }

    skip_matched : (ν : Noted) (ks : List Limit) (l m : Variables) (h : World) → At Skip ks ν l m h → Matched h.output (skips (plain_next ν) l h) (config Skip (next ν) m h)
    skip_matched Last ks l m h p = record {
      moves = 4;
      to = config Skip Ends m h;
      way = (config (Exit 1) (Leaving (Then forever (Leaving Ends))) m h, refl, (config (Exit 0) (Then forever (Leaving Ends)) m h, refl, (config (Exit 0) (Leaving Ends) m h, refl, (config Skip Ends m h, refl, (refl, refl)))));
      returns = refl;
      output = refl;
    }
    skip_matched (AndThen gs s ν) ks l m h p =
        let c = p.continues in
        goes s h.output gs ν l m h _ refl (record { agree = p.agree; under = c.1; holds = c.0 m (p.leads refl m p.holds); flows = c.2; after = c.3; leads = c.4; continues = c.5; sizes = p.sizes })
    skip_matched (InLoop gs s ν) ks l m h p =
        let c = p.continues in
        goes s h.output gs (InLoop gs s ν) l m h _ refl
        (record { agree = p.agree; under = c.1; holds = c.0 m (p.leads refl m p.holds); flows = c.2; after = gs; leads = c.3; continues = (λ k q. q, c.1, c.2, c.3, c.4, c.5); sizes = p.sizes })
    skip_matched (InBlock gs ν) ks l m h p =
        let c = p.continues in
        goes Skip h.output gs ν l m h _ refl (done gs gs ν l m h p.agree c.1 (c.0 m (p.leads refl m p.holds)) (λ k q. q) c.2 p.sizes)

    never_falls : {A : Type 0} → false ≡ true → A
    never_falls e = absurd (let f : false ≡ true = e in cc)

    exit_matched : (k : ℕ) (ν : Noted) (ks : List Limit) (l m : Variables) (h : World) → At (Exit k) ks ν l m h → Matched h.output (exits k (plain_next ν) l h) (config (Exit k) (next ν) m h)
    exit_matched k Last ks l m h p = absurd p.flows
    exit_matched k (AndThen gs s ν) ks l m h p =
        let c = p.continues in
        goes (Exit k) h.output ks ν l m h _ refl (record { agree = p.agree; under = p.under; holds = p.holds; flows = p.flows; after = c.3; leads = never_falls; continues = c.5; sizes = p.sizes })
    exit_matched k (InLoop gs s ν) ks l m h p =
        let c = p.continues in
        goes (Exit k) h.output ks ν l m h _ refl (record { agree = p.agree; under = p.under; holds = p.holds; flows = p.flows; after = c.4; leads = never_falls; continues = c.5; sizes = p.sizes })
    exit_matched zero (InBlock gs ν) ks l m h p =
        let c = p.continues in
        goes Skip h.output gs ν l m h _ refl (done gs gs ν l m h p.agree c.1 (p.flows m p.holds) (λ k q. q) c.2 p.sizes)
    exit_matched (suc k) (InBlock gs ν) ks l m h p =
        let c = p.continues in
        goes (Exit k) h.output ks ν l m h _ refl (record { agree = p.agree; under = p.under; holds = p.holds; flows = p.flows; after = gs; leads = never_falls; continues = c.2; sizes = p.sizes })

    -- ---- statements with one expression

    -- the guards of an expression, followed by a statement, match what the code does with the expression's value, which it
    -- computes from its own variables
    with_value : (t : Statement) (e : Expression) (ks : List Limit) (ν : Noted) (l m : Variables) (h : World) (go : ℕ → Move Config) → Under n e → LimitsUnder n ks → Holds ks m → Agree n m l → map size_of h.globals ≡ objects
        → ((k : Variables) (w : ℕ) → Agree n k l → value e k h ≡ Some w → value (guarded objects ks n e).value k h ≡ Some w → Holds (guarded objects ks n e).known k → Matched h.output (go w) (config t (next ν) k h))
        → Matched h.output (tried (value e l h) go) (config (guards_then (blocks_of ν) (guarded objects ks n e).before t) (next ν) m h)
    with_value t e ks ν l m h go u under holds agree sizes f =
        subst (λ (o : Option ℕ). Matched h.output (tried o go) (config (guards_then (blocks_of ν) (guarded objects ks n e).before t) (next ν) m h)) (same_value e n m l h u agree)
        (guards_match effect Related (blocks_of ν) (guarded objects ks n e).before t (next ν) m h (value e m h) go (λ k w. HasValue objects h sizes n (guarded objects ks n e).value (guarded objects ks n e).known m k w) (λ y. halts ν y h) (guards objects h sizes e ks n m u under holds)
        (λ k w q is. f k w (agree_on n n k m l (omega arith) q.0 agree) (same_value e n k m h u q.0 ∙ is) q.1 q.2))

    -- ---- a store

    then_tried : {A B : Type 0} (o : Option A) (f : A → Option B) (go : B → Move Config) → tried (then_value o f) go ≡ tried o (λ a. tried (f a) go)
    then_tried None f go = refl
    then_tried (Some a) f go = refl

    -- the world after a store, if the store has a value
    abbrev pub store : Width → ℕ → Expression → Expression → Variables → World → Option World
    store w o i e l h = then_value (value i l h) (λ j. then_value (value e l h) (λ v. stored h w o j v))

    pub same_store : (w : Width) (o : ℕ) (i e : Expression) (l : Variables) (h : World) (go : World → Move Config) → tried (store w o i e l h) go ≡ tried (value i l h) (λ j. tried (value e l h) (λ v. tried (stored h w o j v) go))
    same_store w o i e l h go = by_index (value i l h)
      where
        by_index : (r : Option ℕ) → tried (then_value r (λ j. then_value (value e l h) (λ v. stored h w o j v))) go ≡ tried r (λ j. tried (value e l h) (λ v. tried (stored h w o j v) go))
        by_index None = refl
        by_index (Some j) = then_tried (value e l h) (λ v. stored h w o j v) go

    pub store_agrees : (w : Width) (o : ℕ) (i e : Expression) (k : ℕ) (m l : Variables) (h : World) → Under k i → Under k e → Agree k m l → store w o i e m h ≡ store w o i e l h
    store_agrees w o i e k m l h u v p =
        ap (λ r. then_value r (λ j. then_value (value e m h) (λ x. stored h w o j x))) (same_value i k m l h u p)
        ∙ ap (λ r. then_value (value i l h) (λ j. then_value r (λ x. stored h w o j x))) (same_value e k m l h v p)

    -- after its guards, the store of the guarded code gives the world g
    abbrev pub Stored : Width → ℕ → Expression → Expression → List Limit → Variables → World → Variables → World → Type 0
    Stored w o i e ks m h k g = Agree n k m × (store w o i e k h ≡ Some g) × Holds ks k

    stored_made : (w : Width) (o : ℕ) (i e : Expression) (k : Variables) (h g : World) (j v : ℕ) → value i k h ≡ Some j → value e k h ≡ Some v → stored h w o j v ≡ Some g → store w o i e k h ≡ Some g
    stored_made w o i e k h g j v vi ve s =
        ap (λ r. then_value r (λ j. then_value (value e k h) (λ v. stored h w o j v))) vi ∙ ap (λ r. then_value r (λ v. stored h w o j v)) ve ∙ s

    same_lying : (w : Width) (o : ℕ) (h : World) (sizes : map size_of h.globals ≡ objects) (r q : Option ℕ) → then_value (lying objects h sizes w o r) (λ j. then_value q (λ v. stored h w o j v)) ≡ then_value r (λ j. then_value q (λ v. stored h w o j v))
    same_lying w o h sizes None q = refl
    same_lying w o h sizes (Some i) q = by (element h w o i) refl
      where
        nothing : (q : Option ℕ) → element h w o i ≡ None → None ≡ then_value q (λ v. stored h w o i v)
        nothing None e = refl
        nothing (Some v) e = sym (ap (λ r. option_map (λ old. with_element h o i (widths.kept w v)) r) e)

        by : (r : Option ℕ) → element h w o i ≡ r → then_value (then_value r (λ old. Some i)) (λ j. then_value q (λ v. stored h w o j v)) ≡ then_value q (λ v. stored h w o i v)
        by None e = nothing q e
        by (Some v) e = refl

    pub store_guarded : (w : Width) (o : ℕ) (i e : Expression) (ks : List Limit) (m : Variables) (h : World) → Under n i → Under n e → LimitsUnder n ks → Holds ks m → map size_of h.globals ≡ objects
        → Meets h ((first_index objects ks n w o i).before ++ (stored_word objects (first_index objects ks n w o i) e).before) m (store w o i e m h)
        (λ k g. Stored w o (first_index objects ks n w o i).value (stored_word objects (first_index objects ks n w o i) e).value (stored_word objects (first_index objects ks n w o i) e).known m h k g)
    store_guarded w o i e ks m h ui ue under holds sizes =
        let si = sound objects i ks n ui under in
        let gi = first_index objects ks n w o i in
        let sx = sound_indexed objects ks w o n i (guarded objects ks n i) si in
        let ue' = under_more n gi.next e sx.grows ue in
        let ge = guarded objects gi.known gi.next e in
        let se = sound objects e gi.known gi.next ue' sx.limits in
        let R : Variables → World → Type 0 = λ k g. Stored w o gi.value ge.value ge.known m h k g in
        subst (λ (r : Option World). Meets h (gi.before ++ ge.before) m r R) (same_lying w o h sizes (value i m h) (value e m h))
        (no_more objects h sizes m (then_value (lying objects h sizes w o (value i m h)) (λ j. then_value (value e m h) (λ v. stored h w o j v))) R gi.before ge.before
        (both_guarded objects h sizes n gi ge [] m (lying objects h sizes w o (value i m h)) (value e m h) (λ j v. stored h w o j v) R sx se (indexed_guarded objects h sizes ks w o n i (guarded objects ks n i) m holds si (guards objects h sizes i ks n m ui under holds))
        (λ k p q. subst (λ (r : Option ℕ). IsGuarded objects h sizes gi.next ge k r) (same_value e n k m h ue p) (guards objects h sizes e gi.known gi.next k ue' sx.limits q))
        (λ k j v p d f vi ve ki ke.
        let x = lies_there objects h sizes w o j (value i m h) d in
        let g : World = with_element h o j (widths.kept w v) in
        let s : stored h w o j v ≡ Some g = ap (λ r. option_map (λ old. with_element h o j (widths.kept w v)) r) x.is in
        here objects h sizes k (stored h w o j v) g R s (p, stored_made w o gi.value ge.value k h g j v vi ve s, ke))))

    pub store_keeps : (w : Width) (o : ℕ) (i e : Expression) (m : Variables) (h g : World) → store w o i e m h ≡ Some g → map size_of h.globals ≡ objects → map size_of g.globals ≡ objects
    store_keeps w o i e m h g is sizes = by_index (value i m h) is
      where
        by_value : (j : ℕ) (r : Option ℕ) → then_value r (λ v. stored h w o j v) ≡ Some g → map size_of g.globals ≡ objects
        by_value j None s = absurd (let z : None ≡ Some g = s in cc)
        by_value j (Some v) s = stored_sizes objects h g w o j v sizes s

        by_index : (r : Option ℕ) → then_value r (λ j. then_value (value e m h) (λ v. stored h w o j v)) ≡ Some g → map size_of g.globals ≡ objects
        by_index None s = absurd (let z : None ≡ Some g = s in cc)
        by_index (Some j) s = by_value j (value e m h) s

    -- if the guards before it leave `Stored`, the store of the guarded code matches that of the code
    store_matched : (w : Width) (o : ℕ) (i e i' e' : Expression) (gs : List Guard) (ks hs : List Limit) (ν : Noted) (l m : Variables) (h : World) → Under n i → Under n e → Agree n m l → map size_of h.globals ≡ objects
        → Meets h gs m (store w o i e m h) (λ k g. Stored w o i' e' ks m h k g) → ((k : Variables) (g : World) → Agree n k l → Holds ks k → map size_of g.globals ≡ objects → At Skip hs ν l k g)
        → Matched h.output (moves (Store w o i e) (plain_next ν) l h) (config (guards_then (blocks_of ν) gs (Store w o i' e')) (next ν) m h)
    store_matched w o i e i' e' gs ks hs ν l m h ui ue agree sizes meets then_at =
        let d = config (guards_then (blocks_of ν) gs (Store w o i' e')) (next ν) m h in
        let κ = plain_next ν in
        subst (λ x. Matched h.output x d) (same_store w o i e l h (λ g. Goes (config Skip κ l g)))
        (subst (λ (r : Option World). Matched h.output (tried r (λ g. Goes (config Skip κ l g))) d) (store_agrees w o i e n m l h ui ue agree)
        (guards_match effect Related (blocks_of ν) gs (Store w o i' e') (next ν) m h (store w o i e m h) (λ g. Goes (config Skip κ l g)) (λ k g. Stored w o i' e' ks m h k g) (λ y. halts ν y h) meets
        (λ k g q is. goes Skip h.output hs ν l k g _ (sym (same_store w o i' e' k h (λ g. Goes (config Skip (next ν) k g))) ∙ ap (λ o. tried o (λ g. Goes (config Skip (next ν) k g))) q.1)
        (then_at k g (agree_on n n k m l (omega arith) q.0 agree) q.2 (store_keeps w o i e m h g is sizes)))))

    left_falls : (a b : Bool) → a ≡ true → (a || b) ≡ true
    left_falls true b e = refl
    left_falls false b e = never_falls e

    right_falls : (a b : Bool) → b ≡ true → (a || b) ≡ true
    right_falls true b e = refl
    right_falls false b e = e

    -- ---- every statement

    matched : (s : Statement) (ks : List Limit) (ν : Noted) (l m : Variables) (h : World) → At s ks ν l m h → Matched h.output (moves s (plain_next ν) l h) (config (code ks (blocks_of ν) s) (next ν) m h)
    matched Skip ks ν l m h p = skip_matched ν ks l m h p
    matched (Set x e) ks ν l m h p =
        let g = guarded objects ks n e in
        let κ = plain_next ν in
        with_value (Set x g.value) e ks ν l m h (λ w. Goes (config Skip κ (put l x w) h)) p.flows.1 p.under p.holds p.agree p.sizes
        (λ k w a v is held. goes Skip h.output (known ks (Set x e)) ν (put l x w) (put k x w) h _ (ap (λ o. tried o (λ w. Goes (config Skip (next ν) (put k x w) h))) is)
        (done (known ks (Set x e)) p.after ν (put l x w) (put k x w) h (agree_both x w k l a) (under_after (Set x e) (exits_of ν) ks p.under p.flows)
        (set_holds x w (most g.known e) (kept n (sets (Set x e)) g.known) k h p.sizes (kept_holds n (sets (Set x e)) g.known k (put k x w) held (λ y f. other x w y k f)) (within k h g.known held e w v))
        (p.leads refl) p.continues p.sizes))
    matched (Store w o i e) ks ν l m h p =
        let gi = first_index objects ks n w o i in
        let ge = stored_word objects gi e in
        store_matched w o i e gi.value ge.value (gi.before ++ ge.before) ge.known (known ks (Store w o i e)) ν l m h p.flows.0 p.flows.1 p.agree p.sizes (store_guarded w o i e ks m h p.flows.0 p.flows.1 p.under p.holds p.sizes)
        (λ k g a held sized. done (known ks (Store w o i e)) p.after ν l k g a (under_after (Store w o i e) (exits_of ν) ks p.under p.flows) (kept_holds n (sets (Store w o i e)) ge.known k k held (λ y f. refl)) (p.leads refl) p.continues sized)
    matched (Call to f es) ks ν l m h p =
        let gs = guarded_all objects ks n es in
        let κ = plain_next ν in
        let K = known ks (Call to f es) in
        let asks : Variables → List ℕ → Move Config = λ k ws. Calls (record { function = f; arguments = ws; world = h }) (λ a. config Skip κ (put_result k to a.value) a.world) in
        subst (λ (o : Option (List ℕ)). Matched h.output (tried o (asks l)) (config (guards_then (blocks_of ν) gs.before (Call to f gs.values)) (next ν) m h)) (same_values es n m l h p.flows.0 p.agree)
        (guards_match effect Related (blocks_of ν) gs.before (Call to f gs.values) (next ν) m h (values es m h) (asks l) (λ k ws. HaveValues objects h p.sizes n gs.values gs.known m k ws) (λ y. halts ν y h) (guards_all objects h p.sizes es ks n m p.flows.0 p.under p.holds)
        (λ k ws q is. record {
          moves = 0;
          to = config (Call to f gs.values) (next ν) k h;
          resume' = λ a. config Skip (next ν) (put_result k to a.value) a.world;
          way = (refl, refl);
          calls = ap (λ o. tried o (λ ws. Calls (record { function = f; arguments = ws; world = h }) (λ a. config Skip (next ν) (put_result k to a.value) a.world))) q.1;
          related = λ j left a gives. related Skip K ν (put_result l to a.value) (put_result k to a.value) a.world
              (done K p.after ν (put_result l to a.value) (put_result k to a.value) a.world (agree_result to a.value k l (agree_on n n k m l (omega arith) q.0 p.agree)) (under_after (Call to f es) (exits_of ν) ks p.under p.flows)
              (kept_holds n (sets (Call to f es)) gs.known k (put_result k to a.value) q.2 (λ y e. other_result to a.value y k e)) (p.leads refl) p.continues (keeps j left (record { function = f; arguments = ws; world = h }) a gives p.sizes));
        }))
    matched (Read to) ks ν l m h p =
        goes Skip h.output (known ks (Read to)) ν (put_result l to (next_word h)) (put_result m to (next_word h)) (after_read h) _ refl
        (done (known ks (Read to)) p.after ν (put_result l to (next_word h)) (put_result m to (next_word h)) (after_read h) (agree_result to (next_word h) m l p.agree) (under_after (Read to) (exits_of ν) ks p.under p.flows)
        (kept_holds n (sets (Read to)) ks m (put_result m to (next_word h)) p.holds (λ y e. other_result to (next_word h) y m e)) (p.leads refl) p.continues p.sizes)
    matched (Write e) ks ν l m h p =
        let g = guarded objects ks n e in
        with_value (Write g.value) e ks ν l m h (λ w. Goes (config Skip (plain_next ν) l (after_write w h))) p.flows.0 p.under p.holds p.agree p.sizes
        (λ k w a v is held. goes Skip h.output (known ks (Write e)) ν l k (after_write w h) _ (ap (λ o. tried o (λ w. Goes (config Skip (next ν) k (after_write w h)))) is)
        (done (known ks (Write e)) p.after ν l k (after_write w h) a (under_after (Write e) (exits_of ν) ks p.under p.flows) (kept_holds n (sets (Write e)) g.known k k held (λ y f. refl)) (p.leads refl) p.continues p.sizes))
    matched (Sequence a b) ks ν l m h p =
        let K = known ks a in
        goes a h.output ks (AndThen K b ν) l m h _ refl (record {
          agree = p.agree;
          under = p.under;
          holds = p.holds;
          flows = p.flows.0;
          after = K;
          leads = leads_of objects n quiet a ks K (λ k q. q);
          continues = (λ k q. q, under_after a (exits_of ν) ks p.under p.flows.0, p.flows.1, p.after, p.leads, p.continues);
          sizes = p.sizes;
        })
    matched (If e a b) ks ν l m h p =
        let g = guarded objects ks n e in
        let κ = plain_next ν in
        with_value (If g.value (code (known_within objects n true ks e) (blocks_of ν) a) (code (known_within objects n false ks e) (blocks_of ν) b)) e ks ν l m h (λ w. Goes (config (chosen w a b) κ l h)) p.flows.0 p.under p.holds p.agree p.sizes chosen_matched
      where
        held_within : (way : Bool) (k : Variables) (w : ℕ) → value e k h ≡ Some w → IsWay k h way w → Holds (guarded objects ks n e).known k → Holds (known_within objects n way ks e) k
        held_within way k w v i held =
            let g = guarded objects ks n e in
            kept_holds n (sets Skip) (with_told g.known (told g.known way e)) k k (told_holds k h g.known (told g.known way e) held (tells k h g.known held way e w v i)) (λ y f. refl)

        choice : Statement
        choice = If (guarded objects ks n e).value (code (known_within objects n true ks e) (blocks_of ν) a) (code (known_within objects n false ks e) (blocks_of ν) b)

        chosen_matched : (k : Variables) (w : ℕ) → Agree n k l → value e k h ≡ Some w → value (guarded objects ks n e).value k h ≡ Some w → Holds (guarded objects ks n e).known k → Matched h.output (Goes (config (chosen w a b) (plain_next ν) l h)) (config choice (next ν) k h)
        chosen_matched k zero agree v is held =
            let N = known_within objects n false ks e in
            goes b h.output N ν l k h _ (ap (λ o. tried o (λ w. Goes (config (chosen w (code (known_within objects n true ks e) (blocks_of ν) a) (code N (blocks_of ν) b)) (next ν) k h))) is) (record {
              agree = agree;
              under = within_under false ks e;
              holds = held_within false k zero v refl held;
              flows = p.flows.4;
              after = p.after;
              leads = λ z y q. p.leads (right_falls (falls a) (falls b) z) y (p.flows.5 z y q);
              continues = p.continues;
              sizes = p.sizes;
            })
        chosen_matched k (suc w) agree v is held =
            let K = known_within objects n true ks e in
            goes a h.output K ν l k h _ (ap (λ o. tried o (λ w. Goes (config (chosen w (code K (blocks_of ν) a) (code (known_within objects n false ks e) (blocks_of ν) b)) (next ν) k h))) is) (record {
              agree = agree;
              under = within_under true ks e;
              holds = held_within true k (suc w) v (w, refl) held;
              flows = p.flows.2;
              after = p.after;
              leads = λ z y q. p.leads (left_falls (falls a) (falls b) z) y (p.flows.3 z y q);
              continues = p.continues;
              sizes = p.sizes;
            })
    matched (Loop a) ks ν l m h p =
        let H = head objects n ks a in
        goes a h.output H (InLoop H a ν) l m h _ refl (record {
          agree = p.agree;
          under = head_under objects n a ks;
          holds = yields_head objects n a ks m p.holds;
          flows = p.flows.0;
          after = H;
          leads = p.flows.1;
          continues = (λ k q. q, head_under objects n a ks, p.flows.0, p.flows.1, p.after, p.continues);
          sizes = p.sizes;
        })
    matched (Block a) ks ν l m h p =
        let K = known ks (Block a) in
        goes a h.output ks (InBlock K ν) l m h _ refl (record {
          agree = p.agree;
          under = p.under;
          holds = p.holds;
          flows = p.flows.0;
          after = K;
          leads = p.flows.1;
          continues = (λ k q. q, under_after (Block a) (exits_of ν) ks p.under p.flows, continues_more objects n quiet K p.after ν (p.leads refl) p.continues);
          sizes = p.sizes;
        })
    matched (Exit k) ks ν l m h p = exit_matched k ν ks l m h p
    matched (Return e) ks ν l m h p =
        let g = guarded objects ks n e in
        with_value (Return g.value) e ks ν l m h (λ w. Returns (record { value = w; world = h })) p.flows.0 p.under p.holds p.agree p.sizes
        (λ k w a v is held. record { moves = 0; to = config (Return g.value) (next ν) k h; way = (refl, refl); returns = ap (λ o. tried o (λ w. Returns (record { value = w; world = h }))) is; output = refl })

    pub matches : (c d : Config) → Related c d → Matched (cminor_output c) (cminor_move c) d
    matches c d r =
        subst (λ x. Matched (cminor_output c) (cminor_move c) x) (sym r.is)
        (subst (λ (κ : Continuation). Matched (cminor_output c) (moves c.statement κ c.variables c.world) (config (code r.facts (blocks_of r.noted) c.statement) (next r.noted) d.variables c.world)) (sym r.next_is)
        (matched c.statement r.facts r.noted c.variables d.variables c.world r.at))

    pub outputs : (c d : Config) → Related c d → cminor_output d ≡ cminor_output c
    outputs c d r = ap cminor_output r.is
