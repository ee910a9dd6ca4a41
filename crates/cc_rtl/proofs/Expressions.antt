-- The nodes of an expression compute its value.
use Rattle.std.proofs.Common.{◌≡◌, ℕ, suc, ◌+◌, ◌<◌, ◌≤◌, List, [], ◌∷◌, map, cond, refl, sym, ap, ◌∙◌, subst, inl, inr, arith, Bool, true, false, ◌==◌, Option, Some, None}
use Rattle.std.proofs.lemmas.Bool.Decides.{nat_tests}
use Rattle.cc_words.specs.Operators.{apply_unary, apply_binary}
use Rattle.cc_simulation.specs.World.{World, element}
use Rattle.cc_simulation.specs.Run.{Goes, tried}
use Rattle.cc_simulation.specs.internal.Simulation as ways
use Rattle.cc_simulation.proofs.Simulating as simulating
use Rattle.cc_cminor_language.specs.Cminor.{Expression, Constant, Local, Unary, Binary, Load, then_value, value, values}
use Rattle.cc_rtl_language.specs.Rtl as rtl
use Rattle.cc_rtl_language.specs.Rtl.{Registers, Configuration, at, put, node_move, rtl_output}
use Rattle.cc_rtl_language.specs.internal.Moves.{Graph, graph_move}
use Rattle.cc_rtl.specs.internal.Translates.{Held, Into, Operand, Operands}

-- a choice depends only on the value of its test
cond_by : {X : Type 0} (b c : Bool) (x y : X) → b ≡ c → cond b x y ≡ cond c x y
cond_by b c x y e = ap (λ z. cond z x y) e

pub put_there : (t v : ℕ) (r : ℕ → ℕ) → put t v r t ≡ v
put_there t v r = let e : (t == t) ≡ true = grind (arith, nat_tests) in cond_by (t == t) true v (r t) e

pub put_elsewhere : (t v : ℕ) (r : ℕ → ℕ) (y : ℕ) → y < t → put t v r y ≡ r y
put_elsewhere t v r y lt = let e : (t == y) ≡ false = grind (arith, nat_tests) in cond_by (t == y) false v (r y) e

pub put_alike : (t v w : ℕ) (r l : ℕ → ℕ) (y : ℕ) → v ≡ w → r y ≡ l y → put t v r y ≡ put t w l y
put_alike t v w r l y e f = ap (λ a. cond (t == y) a (r y)) e ∙ ap (λ a. cond (t == y) w a) f

pub record Bound {A B : Type 0} (x : Option A) (f : A → Option B) (b : B) : Type 0 where
  pub part : A
  pub is : x ≡ Some part
  pub gives : f part ≡ Some b

none_some : {A B : Type 0} (b : B) → None ≡ Some b → A
none_some b e = absurd (let z : None ≡ Some b = e in cc)

pub bound : {A B : Type 0} (x : Option A) (f : A → Option B) (b : B) → then_value x f ≡ Some b → Bound x f b
bound None f b e = none_some b e
bound (Some a) f b e = record { part = a; is = refl; gives = e }

-- at most this many registers and nodes are needed for an expression
abbrev pub cost : Expression → ℕ
cost (Constant w) = 1
cost (Local x) = 1
cost (Unary op a) = suc (cost a)
cost (Binary op a b) = suc (cost a + cost b)
cost (Load width o a) = suc (cost a)

abbrev pub costs : List Expression → ℕ
costs [] = 0
costs (e ∷ es) = cost e + costs es

module _ (nodes : Graph) (count : ℕ) where
  abbrev pub Way : Configuration → ℕ → Configuration → Type 0
  Way c m d = ways.Way (graph_move nodes) rtl_output m c d

  pub way_then : (c d e : Configuration) (m n : ℕ) → Way c m d → Way d n e → Way c (m + n) e
  way_then c d e m n p q = simulating.way_then (graph_move nodes) rtl_output m n c d e p q

  pub no_way : (c : Configuration) → Way c 0 c
  no_way c = (refl, refl)

  -- if a node's move leads to d, there is a way of one move to d
  pub node_goes : (l : ℕ) (r : Registers) (h : World) (n : rtl.Node) (d : Configuration) → nodes l ≡ Some n → node_move n r h ≡ Goes d → Way (at l r h) 1 d
  node_goes l r h n d e go = (d, ap (λ x. tried x (λ node. node_move node r h)) e ∙ go, (refl, refl))

  -- the registers of the variables hold their words
  abbrev pub Holds : (ℕ → ℕ) → Registers → Type 0
  Holds l r = (x : ℕ) → x < count → r x ≡ l x

  module _ (l : ℕ → ℕ) (h : World) where
    pub record Computes (cost free to entry exit : ℕ) (r : Registers) (v : ℕ) : Type 0 where
      pub moves : ℕ
      pub after : Registers
      pub one : 1 ≤ moves
      pub few : moves ≤ cost
      pub way : Way (at entry r h) moves (at exit after h)
      pub puts : (y : ℕ) → y < free → after y ≡ put to v r y

    pub record Holding (cost free register entry exit : ℕ) (r : Registers) (v : ℕ) : Type 0 where
      pub moves : ℕ
      pub after : Registers
      pub few : moves ≤ cost
      pub way : Way (at entry r h) moves (at exit after h)
      pub holds : after register ≡ v
      pub keeps : (y : ℕ) → y < free → after y ≡ r y

    abbrev Runs : Expression → Type 0
    Runs e = (free to entry exit : ℕ) (r : Registers) (v : ℕ) → Into nodes count e free to entry exit → count ≤ free → to < free → Holds l r → value e l h ≡ Some v → Computes (cost e) free to entry exit r v

    some_is : (v w : ℕ) → Some v ≡ Some w → v ≡ w
    some_is v w e = cc

    -- if an expression's nodes put its value into a register, so do the nodes of an operand
    held : (e : Expression) → Runs e → (free register free' entry exit : ℕ) (r : Registers) (v : ℕ) → Held nodes count e (Into nodes count e) free register free' entry exit → count ≤ free → Holds l r → value e l h ≡ Some v → Holding (cost e) free register entry exit r v
    held e runs free register free' entry exit r v (le, lt, inl (is, low, same)) above holds eq = record {
      moves = 0;
      after = r;
      few = omega arith;
      way = subst (λ x. Way (at entry r h) 0 (at x r h)) same (no_way (at entry r h));
      holds = holds register low ∙ some_is (l register) v (sym (ap (λ x. value x l h) is) ∙ eq);
      keeps = λ y below. refl;
    }
    held e runs free register free' entry exit r v (le, lt, inr (fresh, into)) above holds eq =
        let x = runs (suc register) register entry exit r v into (omega arith) (omega arith) holds eq in
        record {
          moves = x.moves;
          after = x.after;
          few = x.few;
          way = x.way;
          holds = x.puts register (omega arith) ∙ put_there register v r;
          keeps = λ y below. x.puts y (omega arith) ∙ put_elsewhere register v r y (omega arith);
        }

    one_node : (n cost free to entry exit : ℕ) (r r' : Registers) (v : ℕ) (node : rtl.Node) → nodes entry ≡ Some node → node_move node r h ≡ Goes (at exit r' h) → 1 ≤ cost → ((y : ℕ) → y < free → r' y ≡ put to v r y) → Computes cost free to entry exit r v
    one_node n cost free to entry exit r r' v node stands go one puts = record { moves = 1; after = r'; one = omega arith; few = one; way = node_goes entry r h node (at exit r' h) stands go; puts = puts }

    -- once the operands are in registers, the last node computes the value
    last_node : (m most free to entry mid exit : ℕ) (r r1 r2 : Registers) (v : ℕ) (node : rtl.Node) → Way (at entry r h) m (at mid r1 h) → nodes mid ≡ Some node → node_move node r1 h ≡ Goes (at exit r2 h) → m ≤ most → ((y : ℕ) → y < free → r2 y ≡ put to v r y) → Computes (suc most) free to entry exit r v
    last_node m most free to entry mid exit r r1 r2 v node way stands go few puts = record {
      moves = m + 1;
      after = r2;
      one = omega arith;
      few = omega arith;
      way = way_then (at entry r h) (at mid r1 h) (at exit r2 h) m 1 way (node_goes mid r1 h node (at exit r2 h) stands go);
      puts = puts;
    }

    pub into_runs : (e : Expression) → Runs e
    into_runs (Constant w) free to entry exit r v stands above low holds eq =
        one_node 1 1 free to entry exit r (put to w r) v (rtl.Const to w exit) stands refl (omega arith) (λ y below. put_alike to w v r r y (some_is w v eq) refl)
    into_runs (Local x) free to entry exit r v (lt, stands) above low holds eq =
        one_node 1 1 free to entry exit r (put to (r x) r) v (rtl.Move to x exit) stands refl (omega arith) (λ y below. put_alike to (r x) v r r y (holds x lt ∙ some_is (l x) v eq) refl)
    into_runs (Unary op a) free to entry exit r v (ra, free', m, held_a, stands) above low holds eq =
        let p = bound (value a l h) (λ x. Some (apply_unary op x)) v eq in
        let x = held a (into_runs a) free ra free' entry m r p.part held_a above holds p.is in
        last_node x.moves (cost a) free to entry m exit r x.after (put to (apply_unary op (x.after ra)) x.after) v (rtl.Unary op to ra exit) x.way stands refl x.few
        (λ y below. put_alike to (apply_unary op (x.after ra)) v x.after r y (ap (apply_unary op) x.holds ∙ some_is (apply_unary op p.part) v p.gives) (x.keeps y below))
    into_runs (Binary op a b) free to entry exit r v (ra, free', m, rb, free'', n, held_a, held_b, stands) above low holds eq =
        let p = bound (value a l h) (λ x. then_value (value b l h) (λ w. apply_binary op x w)) v eq in
        let q = bound (value b l h) (λ w. apply_binary op p.part w) v p.gives in
        let x = held a (into_runs a) free ra free' entry m r p.part held_a above holds p.is in
        let le = held_a.0 in
        let y = held b (into_runs b) free' rb free'' m n x.after q.part held_b (omega arith) (λ z lt. x.keeps z (omega arith) ∙ holds z lt) q.is in
        let few_x = x.few in
        let few_y = y.few in
        let here : apply_binary op (y.after ra) (y.after rb) ≡ Some v = ap (λ w. apply_binary op w (y.after rb)) (y.keeps ra held_a.1 ∙ x.holds) ∙ ap (apply_binary op p.part) y.holds ∙ q.gives in
        last_node (x.moves + y.moves) (cost a + cost b) free to entry n exit r y.after (put to v y.after) v (rtl.Binary op to ra rb exit) (way_then (at entry r h) (at m x.after h) (at n y.after h) x.moves y.moves x.way y.way) stands
        (ap (λ w. tried w (λ w. Goes (at exit (put to w y.after) h))) here) (omega arith)
        (λ z below. put_alike to v v y.after r z refl (y.keeps z (omega arith) ∙ x.keeps z below))
    into_runs (Load width o a) free to entry exit r v (ra, free', m, held_a, stands) above low holds eq =
        let p = bound (value a l h) (λ i. element h width o i) v eq in
        let x = held a (into_runs a) free ra free' entry m r p.part held_a above holds p.is in
        let here : element h width o (x.after ra) ≡ Some v = ap (element h width o) x.holds ∙ p.gives in
        last_node x.moves (cost a) free to entry m exit r x.after (put to v x.after) v (rtl.Load width o to ra exit) x.way stands
        (ap (λ w. tried w (λ w. Goes (at exit (put to w x.after) h))) here) x.few
        (λ y below. put_alike to v v x.after r y refl (x.keeps y below))

    pub operand_runs : (e : Expression) (free register free' entry exit : ℕ) (r : Registers) (v : ℕ) → Operand nodes count e free register free' entry exit → count ≤ free → Holds l r → value e l h ≡ Some v → Holding (cost e) free register entry exit r v
    operand_runs e free register free' entry exit r v = held e (into_runs e) free register free' entry exit r v

    pub record HoldingAll (cost free : ℕ) (registers : List ℕ) (entry exit : ℕ) (r : Registers) (vs : List ℕ) : Type 0 where
      pub moves : ℕ
      pub after : Registers
      pub few : moves ≤ cost
      pub way : Way (at entry r h) moves (at exit after h)
      pub holds : map after registers ≡ vs
      pub keeps : (y : ℕ) → y < free → after y ≡ r y

    pub operands_run : (es : List Expression) (rs : List ℕ) (free entry exit : ℕ) (r : Registers) (vs : List ℕ) → Operands nodes count es rs free entry exit → count ≤ free → Holds l r → values es l h ≡ Some vs → HoldingAll (costs es) free rs entry exit r vs
    operands_run [] [] free entry exit r vs same above holds eq = record {
      moves = 0;
      after = r;
      few = omega arith;
      way = subst (λ x. Way (at entry r h) 0 (at x r h)) same (no_way (at entry r h));
      holds = let z : Some [] ≡ Some vs = eq in cc;
      keeps = λ y below. refl;
    }
    operands_run [] (s ∷ rs) free entry exit r vs same above holds eq = absurd same
    operands_run (e ∷ es) [] free entry exit r vs same above holds eq = absurd same
    operands_run (e ∷ es) (s ∷ rs) free entry exit r vs (free', m, one, rest) above holds eq =
        let p = bound (value e l h) (λ v. then_value (values es l h) (λ ws. Some (v ∷ ws))) vs eq in
        let q = bound (values es l h) (λ ws. Some (p.part ∷ ws)) vs p.gives in
        let x = operand_runs e free s free' entry m r p.part one above holds p.is in
        let le = one.0 in
        let y = operands_run es rs free' m exit x.after q.part rest (omega arith) (λ z lt. x.keeps z (omega arith) ∙ holds z lt) q.is in
        let few_x = x.few in
        let few_y = y.few in
        record {
          moves = x.moves + y.moves;
          after = y.after;
          few = omega arith;
          way = way_then (at entry r h) (at m x.after h) (at exit y.after h) x.moves y.moves x.way y.way;
          holds = (let e1 : y.after s ≡ p.part = y.keeps s one.1 ∙ x.holds in ap (λ w. w ∷ map y.after rs) e1) ∙ ap (λ ws. p.part ∷ ws) y.holds ∙ (let z : Some (p.part ∷ q.part) ≡ Some vs = q.gives in cc);
          keeps = λ z below. y.keeps z (omega arith) ∙ x.keeps z below;
        }
