-- Paths of a Cminor run, and what the code at a configuration must do for a part of the source's run.
use Rattle.std.proofs.Common.{◌≡◌, ◌⊎◌, inl, inr, ℕ, suc, ◌+◌, ◌-◌, ◌≤◌, Bool, true, false, List, [], ◌∷◌, Option, Some, refl, ap, ◌∙◌, arith, add_assoc}
use Rattle.cc_c_semantics.specs.Meaning as meaning
use Rattle.cc_c_semantics.specs.Meaning.{State, Run, Gives, then_do}
use Rattle.cc_c_semantics.specs.Checked.{stays}
use Rattle.cc_c_semantics.specs.Numbered.{objects_of}
use Rattle.cc_c_semantics.specs.declared.mode.Mode.{Mode}
use Rattle.cc_simulation.specs.Behavior.{Going, Wrong, Outcome}
use Rattle.cc_simulation.specs.World as world
use Rattle.cc_simulation.specs.World.{Question, Answer, Effect}
use Rattle.cc_simulation.specs.Run as layer
use Rattle.cc_simulation.specs.Run.{Move, Goes, Calls, Fails, run, work, act, work_act, work_resumed}
use Rattle.cc_cminor_language.specs.Breaks.{broken, broken_act, broken_resumed}
use Rattle.cc_cminor_language.specs.Cminor.{Statement, Skip, Sequence, Exit, Continuation, Then, Config, config, cminor_move, cminor_output}
use Rattle.cc_cminor_language.specs.Code.{in_sequence}

-- what the functions share, by number
abbrev pub world_at : State → world.World
world_at s = record { globals = objects_of s.globals; input = s.input; output = s.output }

-- what remains to be done after the first of these statements
abbrev pub after_list : List Statement → Continuation → Continuation
after_list [] κ = κ
after_list (a ∷ rest) κ = Then (in_sequence (a ∷ rest)) κ

-- a call that answers spends n - left steps, and gives the same answer with any number of steps more
abbrev pub Exact : (ℕ → Question → Effect) → Type 0
Exact effect = (q : Question) (n left : ℕ) (a : Answer) → effect n q ≡ world.Gives a left → (left ≤ n) × ((j : ℕ) → effect (n - left + j) q ≡ world.Gives a j)

-- the effects of a run's calls, in a mode
pub record Calling : Type 0 where
  pub mode : Mode
  pub does : ℕ → Question → Effect

module _ (effect : Calling) where
  abbrev pub runs : ℕ → ℕ → Config → Outcome Answer
  runs k j c = run cminor_move cminor_output effect.does k j c

  abbrev pub works : ℕ → ℕ → Config → ℕ
  works k j c = work cminor_move effect.does k j c

  abbrev pub breaks : ℕ → ℕ → Config → Option (List ℕ)
  breaks k j c = broken cminor_move cminor_output effect.does k j c

  -- m moves from c to d, with t steps spent in calls
  pub record Path (c : Config) (m t : ℕ) (d : Config) : Type 0 where
    pub same : (k j : ℕ) → runs (m + k) (t + j) c ≡ runs k j d
    pub done : (k j : ℕ) → works (m + k) (t + j) c ≡ m + t + works k j d
    pub broke : (k j : ℕ) → breaks (m + k) (t + j) c ≡ breaks k j d

  path_refl : (c : Config) → Path c 0 0 c
  path_refl c = record {
    same = λ k j. ap (λ x. runs x (0 + j) c) (let e : 0 + k ≡ k = omega arith in e) ∙ ap (λ x. runs k x c) (let e : 0 + j ≡ j = omega arith in e);
    done = λ k j. ap (λ x. works x (0 + j) c) (let e : 0 + k ≡ k = omega arith in e) ∙ ap (λ x. works k x c) (let e : 0 + j ≡ j = omega arith in e) ∙ (let e : works k j c ≡ 0 + 0 + works k j c = omega arith in e);
    broke = λ k j. ap (λ x. breaks x (0 + j) c) (let e : 0 + k ≡ k = omega arith in e) ∙ ap (λ x. breaks k x c) (let e : 0 + j ≡ j = omega arith in e);
  }

  path_then : (c d e : Config) (m t n u : ℕ) → Path c m t d → Path d n u e → Path c (m + n) (t + u) e
  path_then c d e m t n u p q = record {
    same = λ k j. ap (λ x. runs x (t + u + j) c) (add_assoc m n k) ∙ ap (λ x. runs (m + (n + k)) x c) (add_assoc t u j) ∙ p.same (n + k) (u + j) ∙ q.same k j;
    done = λ k j. ap (λ x. works x (t + u + j) c) (add_assoc m n k) ∙ ap (λ x. works (m + (n + k)) x c) (add_assoc t u j) ∙ p.done (n + k) (u + j) ∙ ap (λ x. m + t + x) (q.done k j) ∙ (let f : m + t + (n + u + works k j e) ≡ m + n + (t + u) + works k j e = omega arith in f);
    broke = λ k j. ap (λ x. breaks x (t + u + j) c) (add_assoc m n k) ∙ ap (λ x. breaks (m + (n + k)) x c) (add_assoc t u j) ∙ p.broke (n + k) (u + j) ∙ q.broke k j;
  }

  one_move : (c d : Config) → cminor_move c ≡ Goes d → Path c 1 0 d
  one_move c d e = record {
    same = λ k j. ap (λ x. runs x (0 + j) c) (let f : 1 + k ≡ suc k = omega arith in f) ∙ ap (λ x. runs (suc k) x c) (let f : 0 + j ≡ j = omega arith in f) ∙ ap (λ x. act effect.does x (cminor_output c) j (runs k)) e;
    done = λ k j. ap (λ x. works x (0 + j) c) (let f : 1 + k ≡ suc k = omega arith in f) ∙ ap (λ x. works (suc k) x c) (let f : 0 + j ≡ j = omega arith in f) ∙ ap (λ x. work_act effect.does x j (works k)) e ∙ (let f : suc (works k j d) ≡ 1 + 0 + works k j d = omega arith in f);
    broke = λ k j. ap (λ x. breaks x (0 + j) c) (let f : 1 + k ≡ suc k = omega arith in f) ∙ ap (λ x. breaks (suc k) x c) (let f : 0 + j ≡ j = omega arith in f) ∙ ap (λ x. broken_act effect.does x (cminor_output c) j (breaks k)) e;
  }

  pub one_call : (c : Config) (q : Question) (resume : Answer → Config) (a : Answer) (t : ℕ) → cminor_move c ≡ Calls q resume → ((j : ℕ) → effect.does (t + j) q ≡ world.Gives a j) → Path c 1 t (resume a)
  one_call c q resume a t e f = record {
    same = λ k j. ap (λ x. runs x (t + j) c) (let g : 1 + k ≡ suc k = omega arith in g) ∙ ap (λ x. act effect.does x (cminor_output c) (t + j) (runs k)) e ∙ ap (λ x. layer.resumed x resume (runs k)) (f j);
    done = λ k j. ap (λ x. works x (t + j) c) (let g : 1 + k ≡ suc k = omega arith in g) ∙ ap (λ x. work_act effect.does x (t + j) (works k)) e ∙ ap (λ x. suc (work_resumed x resume (t + j) (works k))) (f j) ∙ (let g : suc (t + j - j + works k j (resume a)) ≡ 1 + t + works k j (resume a) = omega arith in g);
    broke = λ k j. ap (λ x. breaks x (t + j) c) (let g : 1 + k ≡ suc k = omega arith in g) ∙ ap (λ x. broken_act effect.does x (cminor_output c) (t + j) (breaks k)) e ∙ ap (λ x. broken_resumed x resume (breaks k)) (f j);
  }

  -- a cut that is still going, with this output and at least n units of work
  pub record Cut (c : Config) (n : ℕ) (o : List ℕ) : Type 0 where
    pub k : ℕ
    pub j : ℕ
    pub same : runs k j c ≡ record { stop = Going; output = o }
    pub enough : n ≤ works k j c

  -- a cut at which the run reaches something it cannot do, with this output
  pub record Breaks (c : Config) (o : List ℕ) : Type 0 where
    pub k : ℕ
    pub j : ℕ
    pub broke : breaks k j c ≡ Some o

  -- a cut at which the run has gone wrong, with this output
  pub record Lost (c : Config) (o : List ℕ) : Type 0 where
    pub k : ℕ
    pub j : ℕ
    pub wrong : runs k j c ≡ record { stop = Wrong; output = o }

  -- from c, with n steps left, the run reaches d, and its moves and calls pay for the steps that were spent
  pub record Reaches (c : Config) (n left : ℕ) (d : Config) : Type 0 where
    pub m : ℕ
    pub t : ℕ
    pub way : Path c m t d
    pub fewer : left ≤ n
    pub paid : n ≤ left + m + t

  cut_after : (c d : Config) (n left : ℕ) (o : List ℕ) → Reaches c n left d → Cut d left o → Cut c n o
  cut_after c d n left o p x =
      record { k = p.m + x.k; j = p.t + x.j; same = p.way.same x.k x.j ∙ x.same; enough = let e = p.way.done x.k x.j in let f = x.enough in let g = p.paid in omega arith }

  break_after : (c d : Config) (n left : ℕ) (o : List ℕ) → Reaches c n left d → Breaks d o → Breaks c o
  break_after c d n left o p x = record { k = p.m + x.k; j = p.t + x.j; broke = p.way.broke x.k x.j ∙ x.broke }

  lost_after : (c d : Config) (n left : ℕ) (o : List ℕ) → Reaches c n left d → Lost d o → Lost c o
  lost_after c d n left o p x = record { k = p.m + x.k; j = p.t + x.j; wrong = p.way.same x.k x.j ∙ x.wrong }

  pub cut_here : (c : Config) (o : List ℕ) → cminor_output c ≡ o → Cut c 0 o
  cut_here c o e = record { k = 0; j = 0; same = ap (λ x. record { stop = Going; output = x }) e; enough = omega arith }

  pub reaches_refl : (c : Config) (n : ℕ) → Reaches c n n c
  reaches_refl c n = record { m = 0; t = 0; way = path_refl c; fewer = omega arith; paid = omega arith }

  pub one : (c d : Config) (n : ℕ) → cminor_move c ≡ Goes d → Reaches c n n d
  one c d n e = record { m = 1; t = 0; way = one_move c d e; fewer = omega arith; paid = omega arith }

  -- one move reaches the next configuration, and pays for one step
  pub one_paid : (c d : Config) (n : ℕ) → cminor_move c ≡ Goes d → Reaches c (suc n) n d
  one_paid c d n e = record { m = 1; t = 0; way = one_move c d e; fewer = omega arith; paid = omega arith }

  pub reaches_then : (c d e : Config) (n i left : ℕ) → Reaches c n i d → Reaches d i left e → Reaches c n left e
  reaches_then c d e n i left p q = record {
    m = p.m + q.m;
    t = p.t + q.t;
    way = path_then c d e p.m p.t q.m q.t p.way q.way;
    fewer = let a = p.fewer in let b = q.fewer in omega arith;
    paid = let a = p.paid in let b = q.paid in omega arith;
  }

  -- ---- what is required

  pub record Arrives {A : Type 0} (Q : A → State → Config → Type 0) (c : Config) (n : ℕ) (x : A) (s : State) : Type 0 where
    pub to : Config
    pub reaches : Reaches c n s.steps to
    pub is : Q x s to

  -- If the source goes wrong, so does the run. In a mode in which the source then runs for ever, the run continues, in a call
  -- that runs for ever, with the same output and at least n units of work, or it breaks.
  abbrev pub Stuck : (stays : Bool) → Config → ℕ → List ℕ → Type 0
  Stuck true c n o = Cut c n o ⊎ Breaks c o
  Stuck false c n o = Lost c o

  stuck_after : (b : Bool) (c d : Config) (n i : ℕ) (o : List ℕ) → Reaches c n i d → Stuck b d i o → Stuck b c n o
  stuck_after true c d n i o p (inl x) = inl (cut_after c d n i o p x)
  stuck_after true c d n i o p (inr x) = inr (break_after c d n i o p x)
  stuck_after false c d n i o p h = lost_after c d n i o p h

  pub stuck_moved : (b : Bool) (c d : Config) (n : ℕ) (o : List ℕ) → cminor_move c ≡ Goes d → Stuck b d n o → Stuck b c n o
  stuck_moved b c d n o e h = stuck_after b c d n n o (one c d n e) h

  -- if the first move is one that the run cannot make, the run breaks at once
  pub stuck_here : (b : Bool) (c : Config) (n : ℕ) (o : List ℕ) → cminor_move c ≡ Fails → cminor_output c ≡ o → Stuck b c n o
  stuck_here true c n o e f = inr (record { k = 1; j = 0; broke = ap (λ x. broken_act effect.does x (cminor_output c) 0 (breaks 0)) e ∙ ap (λ x. Some x) f })
  stuck_here false c n o e f = record { k = 1; j = 0; wrong = ap (λ x. act effect.does x (cminor_output c) 0 (runs 0)) e ∙ ap (λ x. record { stop = Wrong; output = x }) f }

  -- from c, with n steps left, the run does what the source does: if the source gives a value, the run reaches a configuration
  -- that satisfies Q
  abbrev pub Comes : {A : Type 0} → (A → State → Config → Type 0) → Config → ℕ → Run A → Type 0
  Comes Q c n (Gives x s) = Arrives Q c n x s
  Comes Q c n (meaning.Going o) = Cut c n o
  Comes Q c n (meaning.Wrong cause o) = Stuck (stays effect.mode cause) c n o

  pub comes_after : {A : Type 0} (Q : A → State → Config → Type 0) (c d : Config) (n i : ℕ) (r : Run A) → Reaches c n i d → Comes Q d i r → Comes Q c n r
  comes_after Q c d n i (Gives x s) p h = record { to = h.to; reaches = reaches_then c d h.to n i s.steps p h.reaches; is = h.is }
  comes_after Q c d n i (meaning.Going o) p h = cut_after c d n i o p h
  comes_after Q c d n i (meaning.Wrong cause o) p h = stuck_after (stays effect.mode cause) c d n i o p h

  -- if the first move leads from c to d, it is enough that `Comes` holds from d
  pub comes_moved : {A : Type 0} (Q : A → State → Config → Type 0) (c d : Config) (n : ℕ) (r : Run A) → cminor_move c ≡ Goes d → Comes Q d n r → Comes Q c n r
  comes_moved Q c d n r e h = comes_after Q c d n n r (one c d n e) h

  pub comes_then : {A B : Type 0} (Q : A → State → Config → Type 0) (R : B → State → Config → Type 0) (c : Config) (n : ℕ) (r : Run A) (go : A → State → Run B) → Comes Q c n r
      → ((x : A) (s : State) (d : Config) → s.steps ≤ n → Q x s d → Comes R d s.steps (go x s)) → Comes R c n (then_do r go)
  comes_then Q R c n (Gives x s) go h f = comes_after R c h.to n s.steps (go x s) h.reaches (f x s h.to h.reaches.fewer h.is)
  comes_then Q R c n (meaning.Going o) go h f = h
  comes_then Q R c n (meaning.Wrong cause o) go h f = h

  pub comes_as : {A : Type 0} (Q R : A → State → Config → Type 0) (c : Config) (n : ℕ) (r : Run A) → Comes Q c n r → ((x : A) (s : State) (d : Config) → s.steps ≤ n → Q x s d → R x s d) → Comes R c n r
  comes_as Q R c n (Gives x s) h f = record { to = h.to; reaches = h.reaches; is = f x s h.to h.reaches.fewer h.is }
  comes_as Q R c n (meaning.Going o) h f = h
  comes_as Q R c n (meaning.Wrong cause o) h f = h

  -- if Q holds already, the run has arrived without a move
  pub comes_here : {A : Type 0} (Q : A → State → Config → Type 0) (c : Config) (x : A) (s : State) → Q x s c → Comes Q c s.steps (Gives x s)
  comes_here Q c x s q = record { to = c; reaches = reaches_refl c s.steps; is = q }

  -- ---- one statement after another

  pub comes_first : {A : Type 0} (Q : A → State → Config → Type 0) (a : Statement) (rest : List Statement) (κ : Continuation) (l : ℕ → ℕ) (h : world.World) (n : ℕ) (r : Run A)
      → Comes Q (config a (after_list rest κ) l h) n r → Comes Q (config (in_sequence (a ∷ rest)) κ l h) n r
  comes_first Q a [] κ l h n r p = p
  comes_first Q a (b ∷ rest) κ l h n r p = comes_moved Q (config (Sequence a (in_sequence (b ∷ rest))) κ l h) (config a (Then (in_sequence (b ∷ rest)) κ) l h) n r refl p

  pub comes_next : {A : Type 0} (Q : A → State → Config → Type 0) (rest : List Statement) (κ : Continuation) (l : ℕ → ℕ) (h : world.World) (n : ℕ) (r : Run A)
      → Comes Q (config (in_sequence rest) κ l h) n r → Comes Q (config Skip (after_list rest κ) l h) n r
  comes_next Q [] κ l h n r p = p
  comes_next Q (b ∷ rest) κ l h n r p = comes_moved Q (config Skip (Then (in_sequence (b ∷ rest)) κ) l h) (config (in_sequence (b ∷ rest)) κ l h) n r refl p

  pub comes_exit : {A : Type 0} (Q : A → State → Config → Type 0) (i : ℕ) (rest : List Statement) (κ : Continuation) (l : ℕ → ℕ) (h : world.World) (n : ℕ) (r : Run A)
      → Comes Q (config (Exit i) κ l h) n r → Comes Q (config (Exit i) (after_list rest κ) l h) n r
  comes_exit Q i [] κ l h n r p = p
  comes_exit Q i (b ∷ rest) κ l h n r p = comes_moved Q (config (Exit i) (Then (in_sequence (b ∷ rest)) κ) l h) (config (Exit i) κ l h) n r refl p
