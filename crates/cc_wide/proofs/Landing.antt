-- What a part of a run leaves: how a lowered statement ends if the wide one ends in this way, and the locals then.
use Rattle.std.proofs.Common.{◌≡◌, ℕ, zero, suc, ◌-◌, ◌<◌, ◌≤◌, true, List, [], ◌∷◌, ◌++◌, length, drop, Option, Some, is_some, refl, sym, ap, ◌∙◌, subst, arith, length-append, length-drop}
use Rattle.std.proofs.lemmas.List.{drop-append-le}
use Rattle.cc_c_semantics.specs.Meaning.{Local, State, Run, Gives, Going, Wrong, Flow, Falls, Breaks, Continues, Returns, then_do, choose, spend_of, behind_flow, behind_body, begin_body, turns, local_word, with_local_word, left_scope, in_block}
use Rattle.cc_wide.specs.Lowering.{hidden_name, Around, Outside, Loop, Caught}
use Rattle.cc_wide.proofs.Locals.{AllOwn, AllHidden, hidden_apart, store_count, other_stored, hidden_stored, some_kept}
use Rattle.cc_wide.proofs.Expressions.{at, Twin}

-- ---- the locals of a function that has hidden ones

-- the numbers of the hidden locals are below `names`; how many hidden locals there are, and how many locals are older than these
pub record Shape : Type 0 where
  pub names : ℕ
  pub hidden : ℕ
  pub back : ℕ

-- locals f, then hidden ones H, then older ones b; those with numbers below d have the words W
pub record Fits (z : Shape) (d : ℕ) (W : ℕ → Option ℕ) (f H b : List Local) : Type 0 where
  pub own : AllOwn f
  pub hidden : AllHidden H
  pub many : length H ≡ z.hidden
  pub back : length b ≡ z.back
  pub there : (i : ℕ) → i < z.names → is_some (local_word H (hidden_name i)) ≡ true
  pub held : (i : ℕ) → i < d → local_word H (hidden_name i) ≡ W i

-- other words are held by the same locals
pub refit : (z : Shape) (d c : ℕ) (V W : ℕ → Option ℕ) (f H b : List Local) → Fits z d V f H b → ((i : ℕ) → i < c → local_word H (hidden_name i) ≡ W i) → Fits z c W f H b
refit z d c V W f H b h e = record { own = h.own; hidden = h.hidden; many = h.many; back = h.back; there = h.there; held = e }

-- hidden local c gets a word
pub put_fits : (z : Shape) (d c : ℕ) (W : ℕ → Option ℕ) (f H b : List Local) (w : ℕ) → c ≤ d → Fits z d W f H b → Fits z c W f (with_local_word (hidden_name c) w H) b
put_fits z d c W f H b w le h = record {
  own = h.own;
  hidden = hidden_stored H (hidden_name c) w h.hidden;
  many = store_count (hidden_name c) w H ∙ h.many;
  back = h.back;
  there = λ i lt. some_kept H (hidden_name c) (hidden_name i) w ∙ h.there i lt;
  held = λ i lt. other_stored H (hidden_name c) (hidden_name i) w (hidden_apart i c lt) ∙ h.held i (omega arith);
}

-- ---- how a statement ends

-- the wide statement ends as `flow`, the lowered one as p. A `continue` in a switch becomes a break, with 0 in the switch's local.
abbrev pub Left : Shape → Around → (d : ℕ) → (ℕ → Option ℕ) → Flow → Flow → List Local → List Local → List Local → Type 0
Left z Outside d W Continues p f H b = ⊥
Left z (Caught c) d W Continues p f H b = (p ≡ Breaks) × Fits z c W f H b × (local_word H (hidden_name c) ≡ Some 0)
Left z a d W flow p f H b = (p ≡ flow) × Fits z d W f H b

-- what surrounds a statement inside d switches
abbrev pub Sits : Shape → Around → ℕ → Type 0
Sits z Outside d = Unit {0}
Sits z Loop d = Unit {0}
Sits z (Caught c) d = (c < d) × (c < z.names)

abbrev pub Any : List Local → Type 0
Any f = Unit {0}

abbrev pub Most : ℕ → List Local → Type 0
Most n f = length f ≤ n

-- what a lowered statement and the wide one leave
abbrev pub Ran : Shape → (List Local → Type 0) → Around → ℕ → (ℕ → Option ℕ) → Run Flow → Run Flow → Type 0
Ran z Q a d W (Gives p t) q =
    (flow : Flow) × (f H b : List Local) × (t.locals ≡ f ++ (H ++ b)) × (q ≡ Gives flow (at t (f ++ b))) × Left z a d W flow p f H b × Q f
Ran z Q a d W (Going output) q = q ≡ Going output
Ran z Q a d W (Wrong cause output) q = q ≡ Wrong cause output

abbrev pub RanIn : Shape → (List Local → Type 0) → Around → ℕ → (ℕ → Option ℕ) → (State → Run Flow) → (State → Run Flow) → Type 0
RanIn z Q a d W part was = (f H b : List Local) (s : State) → Fits z d W f H b → Q f → Ran z Q a d W (part (at s (f ++ (H ++ b)))) (was (at s (f ++ b)))

-- ---- the ways to end

module _ (z : Shape) (d : ℕ) (W : ℕ → Option ℕ) (f H b : List Local) where
  pub left_falls : (a : Around) → Fits z d W f H b → Left z a d W Falls Falls f H b
  left_falls Outside h = (refl, h)
  left_falls Loop h = (refl, h)
  left_falls (Caught c) h = (refl, h)

  pub left_breaks : (a : Around) → Fits z d W f H b → Left z a d W Breaks Breaks f H b
  left_breaks Outside h = (refl, h)
  left_breaks Loop h = (refl, h)
  left_breaks (Caught c) h = (refl, h)

  pub left_returns : (a : Around) (w : ℕ) → Fits z d W f H b → Left z a d W (Returns w) (Returns w) f H b
  left_returns Outside w h = (refl, h)
  left_returns Loop w h = (refl, h)
  left_returns (Caught c) w h = (refl, h)

  pub falls_of : (a : Around) (p : Flow) → Left z a d W Falls p f H b → (p ≡ Falls) × Fits z d W f H b
  falls_of Outside p h = h
  falls_of Loop p h = h
  falls_of (Caught c) p h = h

  pub breaks_of : (a : Around) (p : Flow) → Left z a d W Breaks p f H b → (p ≡ Breaks) × Fits z d W f H b
  breaks_of Outside p h = h
  breaks_of Loop p h = h
  breaks_of (Caught c) p h = h

  pub returns_of : (a : Around) (w : ℕ) (p : Flow) → Left z a d W (Returns w) p f H b → (p ≡ Returns w) × Fits z d W f H b
  returns_of Outside w p h = h
  returns_of Loop w p h = h
  returns_of (Caught c) w p h = h

  continues_stop : (a : Around) (p : Flow) → Left z a d W Continues p f H b → (go : State → Run Flow) (t : State) → behind_flow p go t ≡ Gives p t
  continues_stop Outside p h go t = absurd h
  continues_stop Loop p h go t = ap (λ y. behind_flow y go t) h.0 ∙ ap (λ y. Gives y t) (sym h.0)
  continues_stop (Caught c) p h go t = ap (λ y. behind_flow y go t) h.0 ∙ ap (λ y. Gives y t) (sym h.0)

-- what each way to end says about the locals, and that it says it of other newer locals too
pub record Laid (z : Shape) (f H b : List Local) : Type 0 where
  pub own : AllOwn f
  pub many : length H ≡ z.hidden
  pub back : length b ≡ z.back

laid_by : (z : Shape) (d : ℕ) (W : ℕ → Option ℕ) (f H b : List Local) → Fits z d W f H b → Laid z f H b
laid_by z d W f H b h = record { own = h.own; many = h.many; back = h.back }

laid : (z : Shape) (a : Around) (d : ℕ) (W : ℕ → Option ℕ) (flow p : Flow) (f H b : List Local) → Left z a d W flow p f H b → Laid z f H b
laid z Outside d W Falls p f H b h = laid_by z d W f H b h.1
laid z Outside d W Breaks p f H b h = laid_by z d W f H b h.1
laid z Outside d W Continues p f H b h = absurd h
laid z Outside d W (Returns w) p f H b h = laid_by z d W f H b h.1
laid z Loop d W flow p f H b h = laid_by z d W f H b h.1
laid z (Caught c) d W Falls p f H b h = laid_by z d W f H b h.1
laid z (Caught c) d W Breaks p f H b h = laid_by z d W f H b h.1
laid z (Caught c) d W Continues p f H b h = laid_by z c W f H b h.1
laid z (Caught c) d W (Returns w) p f H b h = laid_by z d W f H b h.1

front_fits : (z : Shape) (d : ℕ) (W : ℕ → Option ℕ) (f g H b : List Local) → AllOwn g → Fits z d W f H b → Fits z d W g H b
front_fits z d W f g H b o h = record { own = o; hidden = h.hidden; many = h.many; back = h.back; there = h.there; held = h.held }

left_front : (z : Shape) (a : Around) (d : ℕ) (W : ℕ → Option ℕ) (flow p : Flow) (f g H b : List Local) → AllOwn g → Left z a d W flow p f H b → Left z a d W flow p g H b
left_front z Outside d W Falls p f g H b o h = (h.0, front_fits z d W f g H b o h.1)
left_front z Outside d W Breaks p f g H b o h = (h.0, front_fits z d W f g H b o h.1)
left_front z Outside d W Continues p f g H b o h = h
left_front z Outside d W (Returns w) p f g H b o h = (h.0, front_fits z d W f g H b o h.1)
left_front z Loop d W flow p f g H b o h = (h.0, front_fits z d W f g H b o h.1)
left_front z (Caught c) d W Falls p f g H b o h = (h.0, front_fits z d W f g H b o h.1)
left_front z (Caught c) d W Breaks p f g H b o h = (h.0, front_fits z d W f g H b o h.1)
left_front z (Caught c) d W Continues p f g H b o h = (h.0, front_fits z c W f g H b o h.1, h.2)
left_front z (Caught c) d W (Returns w) p f g H b o h = (h.0, front_fits z d W f g H b o h.1)

own_drop : (i : ℕ) (f : List Local) → AllOwn f → AllOwn (drop i f)
own_drop zero f h = h
own_drop (suc i) [] h = h
own_drop (suc i) (l ∷ f) h = own_drop i f h.1

-- ---- parts of runs

module _ (z : Shape) (Q : List Local → Type 0) (a : Around) (d : ℕ) (W : ℕ → Option ℕ) where
  pub ran_falls : RanIn z Q a d W (λ s. Gives Falls s) (λ s. Gives Falls s)
  ran_falls = λ f H b s h q. (Falls, f, H, b, refl, refl, left_falls z d W f H b a h, q)

  -- a part that leaves the locals as they are, and then another
  pub twin_ran : {A : Type 0} (f H b : List Local) (r q : Run A) (go went : A → State → Run Flow) → Twin (f ++ (H ++ b)) (f ++ b) r q
      → ((x : A) (s : State) → Ran z Q a d W (go x (at s (f ++ (H ++ b)))) (went x (at s (f ++ b)))) → Ran z Q a d W (then_do r go) (then_do q went)
  twin_ran f H b (Gives x t) q go went h g =
      subst (λ y. Ran z Q a d W (go x t) (then_do y went)) (sym h.1) (subst (λ ls. Ran z Q a d W (go x (at t ls)) (went x (at t (f ++ b)))) (sym h.0) (g x t))
  twin_ran f H b (Going output) q go went h g = ap (λ y. then_do y went) h
  twin_ran f H b (Wrong cause output) q go went h g = ap (λ y. then_do y went) h

  -- a statement, and then another if it falls through
  next_by : (flow p : Flow) (t : State) (f H b : List Local) → t.locals ≡ f ++ (H ++ b) → Left z a d W flow p f H b → Q f → (go went : State → Run Flow) → RanIn z Q a d W go went
      → Ran z Q a d W (behind_flow p go t) (behind_flow flow went (at t (f ++ b)))
  next_by Falls p t f H b e l q go went g =
      let k = falls_of z d W f H b a p l in
      subst (λ y. Ran z Q a d W (behind_flow y go t) (went (at t (f ++ b)))) (sym k.0) (subst (λ ls. Ran z Q a d W (go (at t ls)) (went (at t (f ++ b)))) (sym e) (g f H b t k.1 q))
  next_by Breaks p t f H b e l q go went g =
      let k = breaks_of z d W f H b a p l in
      subst (λ y. Ran z Q a d W (behind_flow y go t) (Gives Breaks (at t (f ++ b)))) (sym k.0) (Breaks, f, H, b, e, refl, left_breaks z d W f H b a k.1, q)
  next_by Continues p t f H b e l q go went g =
      subst (λ r. Ran z Q a d W r (Gives Continues (at t (f ++ b)))) (sym (continues_stop z d W f H b a p l go t)) (Continues, f, H, b, e, refl, l, q)
  next_by (Returns w) p t f H b e l q go went g =
      let k = returns_of z d W f H b a w p l in
      subst (λ y. Ran z Q a d W (behind_flow y go t) (Gives (Returns w) (at t (f ++ b)))) (sym k.0) (Returns w, f, H, b, e, refl, left_returns z d W f H b a w k.1, q)

  pub ran_next : (r q : Run Flow) (go went : State → Run Flow) → Ran z Q a d W r q → RanIn z Q a d W go went
      → Ran z Q a d W (then_do r (λ flow t. behind_flow flow go t)) (then_do q (λ flow t. behind_flow flow went t))
  ran_next (Gives p t) q go went h g =
      subst (λ y. Ran z Q a d W (behind_flow p go t) (then_do y (λ flow u. behind_flow flow went u))) (sym h.5) (next_by h.0 p t h.1 h.2 h.3 h.4 h.6 h.7 go went g)
  ran_next (Going output) q go went h g = ap (λ y. then_do y (λ flow u. behind_flow flow went u)) h
  ran_next (Wrong cause output) q go went h g = ap (λ y. then_do y (λ flow u. behind_flow flow went u)) h

  pub ran_spend : (k : ℕ) (part was : State → Run Flow) (f H b : List Local) (s : State) → RanIn z Q a d W part was → Fits z d W f H b → Q f
      → Ran z Q a d W (spend_of k part (at s (f ++ (H ++ b)))) (spend_of k was (at s (f ++ b)))
  ran_spend zero part was f H b s g h q = refl
  ran_spend (suc k) part was f H b s g h q = g f H b (record s { steps = k }) h q

  pub ran_choose : (w : ℕ) (x y u v : State → Run Flow) → RanIn z Q a d W x u → RanIn z Q a d W y v → RanIn z Q a d W (λ s. choose w x y s) (λ s. choose w u v s)
  ran_choose zero x y u v p q = q
  ran_choose (suc w) x y u v p q = p

-- ---- scopes

module _ (z : Shape) (a : Around) (d : ℕ) (W : ℕ → Option ℕ) where
  -- the newest locals go, as many as there are more than before
  rest_of : (f f0 H H0 b b0 : List Local) → Laid z f H b → Laid z f0 H0 b0
      → drop (length (f ++ (H ++ b)) - length (f0 ++ (H0 ++ b0))) (f ++ (H ++ b)) ≡ drop (length f - length f0) f ++ (H ++ b)
  rest_of f f0 H H0 b b0 h h0 =
      let p = length-append f (H ++ b) in
      let p' = length-append H b in
      let q = length-append f0 (H0 ++ b0) in
      let q' = length-append H0 b0 in
      let m = h.many in
      let m0 = h0.many in
      let k = h.back in
      let k0 = h0.back in
      let e : length (f ++ (H ++ b)) - length (f0 ++ (H0 ++ b0)) ≡ length f - length f0 = omega arith in
      ap (λ i. drop i (f ++ (H ++ b))) e ∙ drop-append-le (length f - length f0) f (H ++ b) (omega arith)

  rest_alone : (f f0 H H0 b b0 : List Local) → Laid z f H b → Laid z f0 H0 b0
      → drop (length (f ++ b) - length (f0 ++ b0)) (f ++ b) ≡ drop (length f - length f0) f ++ b
  rest_alone f f0 H H0 b b0 h h0 =
      let p = length-append f b in
      let q = length-append f0 b0 in
      let k = h.back in
      let k0 = h0.back in
      let e : length (f ++ b) - length (f0 ++ b0) ≡ length f - length f0 = omega arith in
      ap (λ i. drop i (f ++ b)) e ∙ drop-append-le (length f - length f0) f b (omega arith)

  block_by : (f0 H0 b0 : List Local) (r q : Run Flow) → Laid z f0 H0 b0 → Ran z Any a d W r q
      → Ran z (Most (length f0)) a d W (then_do r (λ flow t. Gives flow (left_scope (length (f0 ++ (H0 ++ b0))) t))) (then_do q (λ flow t. Gives flow (left_scope (length (f0 ++ b0)) t)))
  block_by f0 H0 b0 (Gives p t) q h0 r =
      let f = r.1 in
      let H = r.2 in
      let b = r.3 in
      let l = laid z a d W r.0 p f H b r.6 in
      let g = drop (length f - length f0) f in
      let n = length-drop (length f - length f0) f in (
        r.0,
        g,
        H,
        b,
        ap (λ (ls : List Local). drop (length ls - length (f0 ++ (H0 ++ b0))) ls) r.4 ∙ rest_of f f0 H H0 b b0 l h0,
        ap (λ y. then_do y (λ flow u. Gives flow (left_scope (length (f0 ++ b0)) u))) r.5 ∙ ap (λ (ls : List Local). Gives r.0 (at t ls)) (rest_alone f f0 H H0 b b0 l h0),
        left_front z a d W r.0 p f g H b (own_drop (length f - length f0) f l.own) r.6,
        omega arith,
      )
  block_by f0 H0 b0 (Going output) q h0 r = ap (λ y. then_do y (λ flow u. Gives flow (left_scope (length (f0 ++ b0)) u))) r
  block_by f0 H0 b0 (Wrong cause output) q h0 r = ap (λ y. then_do y (λ flow u. Gives flow (left_scope (length (f0 ++ b0)) u))) r

  -- a limit on the newest locals may be forgotten, or be larger
  weaker_by : (P Q : List Local → Type 0) (r q : Run Flow) → ((f : List Local) → P f → Q f) → Ran z P a d W r q → Ran z Q a d W r q
  weaker_by P Q (Gives p t) q w h = (h.0, h.1, h.2, h.3, h.4, h.5, h.6, w h.1 h.7)
  weaker_by P Q (Going output) q w h = h
  weaker_by P Q (Wrong cause output) q w h = h

  -- a statement with a scope of its own leaves no more locals than before
  pub ran_shut : (part was : State → Run Flow) → RanIn z Any a d W part was → (n : ℕ) → RanIn z (Most n) a d W (in_block part) (in_block was)
  ran_shut part was g n = λ f H b s h q.
      weaker_by (Most (length f)) (Most n) (in_block part (at s (f ++ (H ++ b)))) (in_block was (at s (f ++ b))) (λ g' le. omega (arith, le, q))
      (block_by f H b (part (at s (f ++ (H ++ b)))) (was (at s (f ++ b))) (laid_by z d W f H b h) (g f H b s h tt))

  pub ran_open : (part was : State → Run Flow) → ((n : ℕ) → RanIn z (Most n) a d W part was) → RanIn z Any a d W part was
  ran_open part was g = λ f H b s h q.
      weaker_by (Most (length f)) Any (part (at s (f ++ (H ++ b)))) (was (at s (f ++ b))) (λ g' le. tt) (g (length f) f H b s h (omega arith))

  pub ran_block : (part was : State → Run Flow) → RanIn z Any a d W part was → RanIn z Any a d W (in_block part) (in_block was)
  ran_block part was g = ran_open (in_block part) (in_block was) (ran_shut part was g)

  -- one more scope around it changes nothing
  again_by : (f0 H0 b0 : List Local) (r q : Run Flow) → Laid z f0 H0 b0 → Ran z (Most (length f0)) a d W r q
      → Ran z (Most (length f0)) a d W (then_do r (λ flow t. Gives flow (left_scope (length (f0 ++ (H0 ++ b0))) t))) q
  again_by f0 H0 b0 (Gives p t) q h0 r =
      let f = r.1 in
      let H = r.2 in
      let b = r.3 in
      let l = laid z a d W r.0 p f H b r.6 in
      let few : length f ≤ length f0 = r.7 in
      let x = length-append f (H ++ b) in
      let x' = length-append H b in
      let y = length-append f0 (H0 ++ b0) in
      let y' = length-append H0 b0 in
      let m = l.many in
      let m0 = h0.many in
      let k = l.back in
      let k0 = h0.back in
      let same : length t.locals ≡ length (f ++ (H ++ b)) = ap (λ (ls : List Local). length ls) r.4 in
      let e : length t.locals - length (f0 ++ (H0 ++ b0)) ≡ 0 = omega arith in
      (r.0, f, H, b, ap (λ i. drop i t.locals) e ∙ r.4, r.5, r.6, r.7)
  again_by f0 H0 b0 (Going output) q h0 r = r
  again_by f0 H0 b0 (Wrong cause output) q h0 r = r

  pub ran_again : (part was : State → Run Flow) → ((n : ℕ) → RanIn z (Most n) a d W part was) → (n : ℕ) → RanIn z (Most n) a d W (in_block part) was
  ran_again part was g n = λ f H b s h q.
      weaker_by (Most (length f)) (Most n) (in_block part (at s (f ++ (H ++ b)))) (was (at s (f ++ b))) (λ g' le. omega (arith, le, q))
      (again_by f H b (part (at s (f ++ (H ++ b)))) (was (at s (f ++ b))) (laid_by z d W f H b h) (g (length f) f H b s h (omega arith)))

  -- ---- loops

  -- a part that ends as the other one, and then a part that does not depend on how it ends
  pub ran_skip : (r q : Run Flow) (go went : State → Run Flow) → Ran z Any Loop d W r q → RanIn z Any a d W go went → Ran z Any a d W (then_do r (λ flow t. go t)) (then_do q (λ flow t. went t))
  ran_skip (Gives p t) q go went h g =
      subst (λ y. Ran z Any a d W (go t) (then_do y (λ flow u. went u))) (sym h.5)
      (subst (λ ls. Ran z Any a d W (go (at t ls)) (went (at t (h.1 ++ h.3)))) (sym h.4) (g h.1 h.2 h.3 t h.6.1 tt))
  ran_skip (Going output) q go went h g = ap (λ y. then_do y (λ flow u. went u)) h
  ran_skip (Wrong cause output) q go went h g = ap (λ y. then_do y (λ flow u. went u)) h

  body_by : (flow p : Flow) (t : State) (f H b : List Local) → t.locals ≡ f ++ (H ++ b) → (p ≡ flow) → Fits z d W f H b → (go went : State → Run Flow) → RanIn z Any a d W go went
      → Ran z Any a d W (behind_body flow go t) (behind_body flow went (at t (f ++ b)))
  body_by Falls p t f H b e k h go went g = subst (λ ls. Ran z Any a d W (go (at t ls)) (went (at t (f ++ b)))) (sym e) (g f H b t h tt)
  body_by Continues p t f H b e k h go went g = subst (λ ls. Ran z Any a d W (go (at t ls)) (went (at t (f ++ b)))) (sym e) (g f H b t h tt)
  body_by Breaks p t f H b e k h go went g = (Falls, f, H, b, e, refl, left_falls z d W f H b a h, tt)
  body_by (Returns w) p t f H b e k h go went g = (Returns w, f, H, b, e, refl, left_returns z d W f H b a w h, tt)

  body_ran : (r q : Run Flow) (go went : State → Run Flow) → Ran z Any Loop d W r q → RanIn z Any a d W go went
      → Ran z Any a d W (then_do r (λ flow t. behind_body flow go t)) (then_do q (λ flow t. behind_body flow went t))
  body_ran (Gives p t) q go went h g =
      subst (λ y. Ran z Any a d W (behind_body p go t) (then_do y (λ flow u. behind_body flow went u))) (sym h.5)
      (subst (λ y. Ran z Any a d W (behind_body y go t) (behind_body h.0 went (at t (h.1 ++ h.3)))) (sym h.6.0) (body_by h.0 p t h.1 h.2 h.3 h.4 h.6.0 h.6.1 go went g))
  body_ran (Going output) q go went h g = ap (λ y. then_do y (λ flow u. behind_body flow went u)) h
  body_ran (Wrong cause output) q go went h g = ap (λ y. then_do y (λ flow u. behind_body flow went u)) h

  pub ran_begin : (body ran go went : State → Run Flow) → RanIn z Any Loop d W body ran → RanIn z Any a d W go went → RanIn z Any a d W (begin_body body go) (begin_body ran went)
  ran_begin body ran go went p g = λ f H b s h q.
      ran_spend z Any a d W s.steps (λ t. then_do (body t) (λ flow u. behind_body flow go u)) (λ t. then_do (ran t) (λ flow u. behind_body flow went u)) f H b s
      (λ f' H' b' t h' q'. body_ran (body (at t (f' ++ (H' ++ b')))) (ran (at t (f' ++ b'))) go went (p f' H' b' t h' tt) g) h q

  pub ran_turns : (n : ℕ) (test tested : State → Run ℕ) (body ran behind followed : State → Run Flow)
      → ((f H b : List Local) (s : State) → Fits z d W f H b → Twin (f ++ (H ++ b)) (f ++ b) (test (at s (f ++ (H ++ b)))) (tested (at s (f ++ b))))
      → RanIn z Any Loop d W body ran → RanIn z Any Loop d W behind followed → RanIn z Any a d W (turns n test body behind) (turns n tested ran followed)
  ran_turns zero test tested body ran behind followed p q r = λ f H b s h k. refl
  ran_turns (suc n) test tested body ran behind followed p q r = λ f H b s h k.
      twin_ran z Any a d W f H b (test (at s (f ++ (H ++ b)))) (tested (at s (f ++ b))) _ _ (p f H b s h)
      (λ w t. ran_choose z Any a d W w (begin_body body (λ u. then_do (behind u) (λ flow v. turns n test body behind v))) (λ u. Gives Falls u)
      (begin_body ran (λ u. then_do (followed u) (λ flow v. turns n tested ran followed v))) (λ u. Gives Falls u)
      (ran_begin body ran (λ u. then_do (behind u) (λ flow v. turns n test body behind v)) (λ u. then_do (followed u) (λ flow v. turns n tested ran followed v)) q
      (λ f' H' b' t' h' k'. ran_skip (behind (at t' (f' ++ (H' ++ b')))) (followed (at t' (f' ++ b'))) (turns n test body behind) (turns n tested ran followed) (r f' H' b' t' h' tt)
      (ran_turns n test tested body ran behind followed p q r)))
      (ran_falls z Any a d W) f H b t h tt)
