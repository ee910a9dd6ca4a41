-- The nodes of a statement do what the statement does: a simulation from Cminor to RTL.
use Rattle.std.proofs.Common.{◌≡◌, ℕ, zero, suc, ◌+◌, ◌≤◌, List, [], ◌∷◌, cond, refl, sym, ap, ◌∙◌, subst, inl, inr, arith, Bool, false, ◌==◌, Option, Some, None}
use Rattle.std.proofs.lemmas.Bool.Decides.{nat_tests}
use Rattle.cc_simulation.specs.World.{World, next_word, stored, after_read, after_write}
use Rattle.cc_simulation.specs.Run.{Goes, Calls, Returns, tried}
use Rattle.cc_simulation.specs.internal.Simulation.{Advances, Simulation}
use Rattle.cc_cminor_language.specs.Cminor.{Statement, Skip, Set, Store, Call, Read, Write, Sequence, If, Loop, Block, Exit, Return, value, values, Continuation, Ends, Then, Again, Leaving, Config, config, put, put_result, chosen, moves, cminor_move, cminor_output}
use Rattle.cc_rtl_language.specs.Rtl as rtl
use Rattle.cc_rtl_language.specs.Rtl.{Registers, Configuration, at, answered, branched, node_move, rtl_output}
use Rattle.cc_rtl_language.specs.internal.Moves.{Graph, graph_move}
use Rattle.cc_rtl.specs.internal.Translates.{Leads, Takes, Translates, Finishes}
use Rattle.cc_rtl.proofs.Owing.{Owes, simulation_of, owes_tried}
use Rattle.cc_rtl.proofs.Expressions.{cost, costs, put_there, put_elsewhere, put_alike, Way, way_then, node_goes, Holds, into_runs, operand_runs, operands_run}

-- How much is left to unwind before a node is done. It also bounds the nodes of one move.
abbrev pub size : Statement → ℕ
size Skip = 0
size (Set x e) = cost e
size (Store width o i e) = suc (cost i + cost e)
size (Call to f es) = costs es
size (Read to) = 0
size (Write e) = cost e
size (Sequence a b) = suc (suc (size a + size b))
size (If e a b) = cost e + (size a + size b)
size (Loop a) = suc (suc (size a))
size (Block a) = suc (suc (size a))
size (Exit k) = 0
size (Return e) = cost e

abbrev pub room : Continuation → ℕ
room Ends = 1
room (Then s κ) = suc (size s + room κ)
room (Again s κ) = suc (room κ)
room (Leaving κ) = suc (room κ)

-- a loop's next turn has at most this much to unwind
abbrev pub Low : ℕ → Continuation → Type 0
Low most Ends = Unit {0}
Low most (Then s κ) = Low most κ
Low most (Again s κ) = (size s + suc (room κ) ≤ most) × Low most κ
Low most (Leaving κ) = Low most κ

abbrev pub measure : Config → ℕ
measure c = size c.statement + room c.next

not_zero : (w : ℕ) → (suc w == 0) ≡ false
not_zero w = grind (arith, nat_tests)

module _ (nodes : Graph) (count : ℕ) where
  -- what continues at this label, with these labels after the open blocks
  abbrev pub Goes_on : Continuation → ℕ → List ℕ → Type 0
  Goes_on Ends exit exits = Finishes nodes count exit
  Goes_on (Then s κ) exit exits = (end : ℕ) × Translates nodes count s exit end exits × Goes_on κ end exits
  Goes_on (Again s κ) exit exits = (n : ℕ) × (end : ℕ) × (nodes exit ≡ Some (rtl.Nop n)) × Translates nodes count s n exit exits × Goes_on κ end exits
  Goes_on (Leaving κ) exit [] = ⊥
  Goes_on (Leaving κ) exit (x ∷ exits) = (x ≡ exit) × Goes_on κ exit exits

  pub record Related (most : ℕ) (c : Config) (d : Configuration) : Type 0 where
    pub exit : ℕ
    pub exits : List ℕ
    pub code : Translates nodes count c.statement d.label exit exits
    pub next : Goes_on c.next exit exits
    pub holds : Holds nodes count c.variables d.registers
    pub world : d.world ≡ c.world
    pub low : measure c ≤ most
    pub turns : Low most c.next

  module _ (most : ℕ) where
    abbrev Rel : Config → Configuration → Type 0
    Rel c d = Related most c d

    abbrev Does : Statement → Continuation → (ℕ → ℕ) → World → Configuration → Type 0
    Does s κ l h d = Owes cminor_move cminor_output (graph_move nodes) rtl_output Rel measure most (size s + room κ) h.output (moves s κ l h) d

    abbrev Moves_on : Config → Configuration → Type 0
    Moves_on c d = Advances cminor_move cminor_output (graph_move nodes) rtl_output Rel most c d

    abbrev Path_to : Configuration → ℕ → Configuration → Type 0
    Path_to c m d = Way nodes count c m d

    abbrev Hold : (ℕ → ℕ) → Registers → Type 0
    Hold l r = Holds nodes count l r

    -- once the operands are in registers, the last node leads to a related configuration
    moves_on : (label m mid exit : ℕ) (r r1 r2 : Registers) (h h' : World) (node : rtl.Node) (c : Config) → Path_to (at label r h) m (at mid r1 h) → nodes mid ≡ Some node → node_move node r1 h ≡ Goes (at exit r2 h') → m ≤ most → Rel c (at exit r2 h') → Moves_on c (at label r h)
    moves_on label m mid exit r r1 r2 h h' node c way stands go few rel = record {
      moves = m + 1;
      to = at exit r2 h';
      one = omega arith;
      few = omega arith;
      way = way_then nodes count (at label r h) (at mid r1 h) (at exit r2 h') m 1 way (node_goes nodes count mid r1 h node (at exit r2 h') stands go);
      related = rel;
    }

    -- a single node
    one_on : (label exit : ℕ) (r r2 : Registers) (h h' : World) (node : rtl.Node) (c : Config) → nodes label ≡ Some node → node_move node r h ≡ Goes (at exit r2 h') → Rel c (at exit r2 h') → Moves_on c (at label r h)
    one_on label exit r r2 h h' node c stands go rel = record {
      moves = 1;
      to = at exit r2 h';
      one = omega arith;
      few = omega arith;
      way = node_goes nodes count label r h node (at exit r2 h') stands go;
      related = rel;
    }

    -- after a statement that falls through, the two runs are related
    falls : (κ : Continuation) (l : ℕ → ℕ) (h : World) (r : Registers) (exit : ℕ) (exits : List ℕ) → Goes_on κ exit exits → Hold l r → room κ ≤ most → Low most κ → Rel (config Skip κ l h) (at exit r h)
    falls κ l h r exit exits next holds low turns = record { exit = exit; exits = exits; code = refl; next = next; holds = holds; world = refl; low = omega arith; turns = turns }

    branches : (w : ℕ) (s t : Statement) (κ : Continuation) (l : ℕ → ℕ) (h : World) (r : Registers) (first second exit : ℕ) (exits : List ℕ)
        → Translates nodes count s first exit exits → Translates nodes count t second exit exits → Goes_on κ exit exits → Hold l r → size s + size t + room κ ≤ most → Low most κ → Rel (config (chosen w s t) κ l h) (at (branched w first second) r h)
    branches zero s t κ l h r first second exit exits code code' next holds low turns = record { exit = exit; exits = exits; code = code'; next = next; holds = holds; world = refl; low = omega arith; turns = turns }
    branches (suc w) s t κ l h r first second exit exits code code' next holds low turns = record { exit = exit; exits = exits; code = subst (λ (k : ℕ). Translates nodes count s k exit exits) (sym (ap (λ (b : Bool). cond b second first) (not_zero w))) code; next = next; holds = holds; world = refl; low = omega arith; turns = turns }

    skip_does : (κ : Continuation) (l : ℕ → ℕ) (h : World) (label : ℕ) (r : Registers) (exits : List ℕ) → Goes_on κ label exits → Hold l r → room κ ≤ most → Low most κ → Does Skip κ l h (at label r h)
    skip_does Ends l h label r exits (x, n, zero_is, returns) holds low turns = record {
      moves = 1;
      to = at n (rtl.put x 0 r) h;
      few = omega arith;
      way = node_goes nodes count label r h (rtl.Const x 0 n) (at n (rtl.put x 0 r) h) zero_is refl;
      returns = ap (λ y. tried y (λ node. node_move node (rtl.put x 0 r) h)) returns ∙ ap (λ w. Returns (record { value = w; world = h })) (put_there x 0 r);
      output = refl;
    }
    skip_does (Then s κ) l h label r exits (end, code, next) holds low turns = inr (record { exit = end; exits = exits; code = code; next = next; holds = holds; world = refl; low = omega arith; turns = turns }, omega arith)
    skip_does (Again s κ) l h label r exits (n, end, nop, code, next) holds low turns =
        inl (one_on label n r r h h (rtl.Nop n) (config s (Again s κ) l h) nop refl (record { exit = label; exits = exits; code = code; next = (n, end, nop, code, next); holds = holds; world = refl; low = turns.0; turns = turns }))
    skip_does (Leaving κ) l h label r [] next holds low turns = absurd next
    skip_does (Leaving κ) l h label r (x ∷ exits) (same, next) holds low turns = inr (falls κ l h r label exits next holds (omega arith) turns, omega arith)

    exit_does : (κ : Continuation) (k : ℕ) (l : ℕ → ℕ) (h : World) (label : ℕ) (r : Registers) (exit : ℕ) (exits : List ℕ) → Leads exits k label → Goes_on κ exit exits → Hold l r → room κ ≤ most → Low most κ → Does (Exit k) κ l h (at label r h)
    exit_does Ends k l h label r exit exits leads next holds low turns = tt
    exit_does (Then s κ) k l h label r exit exits leads (end, code, next) holds low turns = inr (record { exit = end; exits = exits; code = leads; next = next; holds = holds; world = refl; low = omega arith; turns = turns }, omega arith)
    exit_does (Again s κ) k l h label r exit exits leads (n, end, nop, code, next) holds low turns = inr (record { exit = end; exits = exits; code = leads; next = next; holds = holds; world = refl; low = omega arith; turns = turns.1 }, omega arith)
    exit_does (Leaving κ) k l h label r exit [] leads next holds low turns = absurd next
    exit_does (Leaving κ) zero l h label r exit (x ∷ exits) leads (same, next) holds low turns =
        inr (record { exit = exit; exits = exits; code = sym leads ∙ same; next = next; holds = holds; world = refl; low = omega arith; turns = turns }, omega arith)
    exit_does (Leaving κ) (suc k) l h label r exit (x ∷ exits) leads (same, next) holds low turns =
        inr (record { exit = exit; exits = exits; code = leads; next = next; holds = holds; world = refl; low = omega arith; turns = turns }, omega arith)

    put_result_holds : (to : Option ℕ) (v : ℕ) (l : ℕ → ℕ) (r : Registers) → Hold l r → Hold (put_result l to v) (rtl.put_result to v r)
    put_result_holds None v l r holds = holds
    put_result_holds (Some x) v l r holds = λ y lt. put_alike x v v r l y refl (holds y lt)

    -- registers still hold the variables after a word is read; a word that is dropped goes above the
    -- variables
    taken_holds : (to : Option ℕ) (x v : ℕ) (l : ℕ → ℕ) (r : Registers) → Takes nodes count to x → Hold l r → Hold (put_result l to v) (rtl.put x v r)
    taken_holds None x v l r above holds = λ y lt. put_elsewhere x v r y (omega arith) ∙ holds y lt
    taken_holds (Some z) x v l r same holds = λ y lt. ap (λ k. rtl.put k v r y) same ∙ put_alike z v v r l y refl (holds y lt)

    statement_does : (s : Statement) (κ : Continuation) (l : ℕ → ℕ) (h : World) (label : ℕ) (r : Registers) (exit : ℕ) (exits : List ℕ)
        → Translates nodes count s label exit exits → Goes_on κ exit exits → Hold l r → size s + room κ ≤ most → Low most κ → Does s κ l h (at label r h)
    statement_does Skip κ l h label r exit exits same next holds low turns = skip_does κ l h label r exits (subst (λ x. Goes_on κ x exits) (sym same) next) holds (omega arith) turns
    statement_does (Set x e) κ l h label r exit exits (lt, into) next holds low turns =
        owes_tried cminor_move cminor_output (graph_move nodes) rtl_output Rel measure most _ h.output (value e l h) _ (at label r h)
        (λ v eq.
        let c = into_runs nodes count l h e count x label exit r v into (omega arith) lt holds eq in
        inl (record {
          moves = c.moves;
          to = at exit c.after h;
          one = c.one;
          few = let f = c.few in omega arith;
          way = c.way;
          related = falls κ (put l x v) h c.after exit exits next (λ y below. c.puts y below ∙ put_alike x v v r l y refl (holds y below)) (omega arith) turns;
        }))
    statement_does (Store width o i e) κ l h label r exit exits (ri, free, m, re, free', n, held_i, held_e, stands) next holds low turns =
        owes_tried cminor_move cminor_output (graph_move nodes) rtl_output Rel measure most _ h.output (value i l h) _ (at label r h)
        (λ v eq. owes_tried cminor_move cminor_output (graph_move nodes) rtl_output Rel measure most _ h.output (value e l h) _ (at label r h)
        (λ w eq'. owes_tried cminor_move cminor_output (graph_move nodes) rtl_output Rel measure most _ h.output (stored h width o v w) _ (at label r h)
        (λ h' eq''.
        let x = operand_runs nodes count l h i count ri free label m r v held_i (omega arith) holds eq in
        let le = held_i.0 in
        let y = operand_runs nodes count l h e free re free' m n x.after w held_e (omega arith) (λ z lt. x.keeps z lt ∙ holds z lt) eq' in
        let few_x = x.few in
        let few_y = y.few in
        let here : stored h width o (y.after ri) (y.after re) ≡ Some h' = ap (λ z. stored h width o z (y.after re)) (y.keeps ri held_i.1 ∙ x.holds) ∙ ap (stored h width o v) y.holds ∙ eq'' in
        inl (moves_on label (x.moves + y.moves) n exit r y.after y.after h h' (rtl.Store width o ri re exit) (config Skip κ l h')
        (way_then nodes count (at label r h) (at m x.after h) (at n y.after h) x.moves y.moves x.way y.way) stands (ap (λ z. tried z (λ after. Goes (at exit y.after after))) here) (omega arith)
        (falls κ l h' y.after exit exits next (λ z lt. y.keeps z (omega arith) ∙ x.keeps z lt ∙ holds z lt) (omega arith) turns)))))
    statement_does (Call to f es) κ l h label r exit exits (rs, m, held, stands) next holds low turns =
        owes_tried cminor_move cminor_output (graph_move nodes) rtl_output Rel measure most _ h.output (values es l h) _ (at label r h)
        (λ vs eq.
        let x = operands_run nodes count l h es rs count label m r vs held (omega arith) holds eq in
        record {
          moves = x.moves;
          to = at m x.after h;
          resume' = answered to exit x.after;
          few = let g = x.few in omega arith;
          way = x.way;
          calls = ap (λ y. tried y (λ node. node_move node x.after h)) stands ∙ ap (λ ws. Calls (record { function = f; arguments = ws; world = h }) (answered to exit x.after)) x.holds;
          related = λ a. falls κ (put_result l to a.value) a.world (rtl.put_result to a.value x.after) exit exits next (put_result_holds to a.value l x.after (λ y lt. x.keeps y lt ∙ holds y lt)) (omega arith) turns;
        })
    statement_does (Read to) κ l h label r exit exits (x, takes, stands) next holds low turns =
        inl (one_on label exit r (rtl.put x (next_word h) r) h (after_read h) (rtl.Read x exit) (config Skip κ (put_result l to (next_word h)) (after_read h)) stands refl
        (falls κ (put_result l to (next_word h)) (after_read h) (rtl.put x (next_word h) r) exit exits next (taken_holds to x (next_word h) l r takes holds) (omega arith) turns))
    statement_does (Write e) κ l h label r exit exits (re, free, m, held, stands) next holds low turns =
        owes_tried cminor_move cminor_output (graph_move nodes) rtl_output Rel measure most _ h.output (value e l h) _ (at label r h)
        (λ v eq.
        let x = operand_runs nodes count l h e count re free label m r v held (omega arith) holds eq in
        let few_x = x.few in
        inl (moves_on label x.moves m exit r x.after x.after h (after_write v h) (rtl.Write re exit) (config Skip κ l (after_write v h)) x.way stands (ap (λ w. Goes (at exit x.after (after_write w h))) x.holds) (omega arith)
        (falls κ l (after_write v h) x.after exit exits next (λ y lt. x.keeps y lt ∙ holds y lt) (omega arith) turns)))
    statement_does (Sequence a b) κ l h label r exit exits (m, code, code') next holds low turns =
        inr (record { exit = m; exits = exits; code = code; next = (exit, code', next); holds = holds; world = refl; low = omega arith; turns = turns }, omega arith)
    statement_does (If e a b) κ l h label r exit exits (re, free, m, taken, other, held, stands, code, code') next holds low turns =
        owes_tried cminor_move cminor_output (graph_move nodes) rtl_output Rel measure most _ h.output (value e l h) _ (at label r h)
        (λ v eq.
        let x = operand_runs nodes count l h e count re free label m r v held (omega arith) holds eq in
        let few_x = x.few in
        inl (moves_on label x.moves m (branched v taken other) r x.after x.after h h (rtl.Branch re taken other) (config (chosen v a b) κ l h) x.way stands (ap (λ w. Goes (at (branched w taken other) x.after h)) x.holds) (omega arith)
        (branches v a b κ l h x.after taken other exit exits code code' next (λ y lt. x.keeps y lt ∙ holds y lt) (omega arith) turns)))
    statement_does (Loop a) κ l h label r exit exits (n, nop, code) next holds low turns =
        inl (one_on label n r r h h (rtl.Nop n) (config a (Again a κ) l h) nop refl
        (record { exit = label; exits = exits; code = code; next = (n, exit, nop, code, next); holds = holds; world = refl; low = omega arith; turns = (omega arith, turns) }))
    statement_does (Block a) κ l h label r exit exits code next holds low turns =
        inr (record { exit = exit; exits = exit ∷ exits; code = code; next = (refl, next); holds = holds; world = refl; low = omega arith; turns = turns }, omega arith)
    statement_does (Exit k) κ l h label r exit exits leads next holds low turns = exit_does κ k l h label r exit exits leads next holds (omega arith) turns
    statement_does (Return e) κ l h label r exit exits (re, free, m, held, stands) next holds low turns =
        owes_tried cminor_move cminor_output (graph_move nodes) rtl_output Rel measure most _ h.output (value e l h) _ (at label r h)
        (λ v eq.
        let x = operand_runs nodes count l h e count re free label m r v held (omega arith) holds eq in
        record {
          moves = x.moves;
          to = at m x.after h;
          few = let g = x.few in omega arith;
          way = x.way;
          returns = ap (λ y. tried y (λ node. node_move node x.after h)) stands ∙ ap (λ w. Returns (record { value = w; world = h })) x.holds;
          output = refl;
        })

    pub generated : Simulation cminor_move cminor_output (graph_move nodes) rtl_output Rel measure most most
    generated =
        simulation_of cminor_move cminor_output (graph_move nodes) rtl_output Rel measure most most (λ c d rel. rel.low) (λ c d rel. ap (λ (h : World). h.output) rel.world)
        (λ c d rel.
        subst (λ w. Does c.statement c.next c.variables c.world (at d.label d.registers w)) (sym rel.world)
        (statement_does c.statement c.next c.variables c.world d.label d.registers rel.exit rel.exits rel.code rel.next rel.holds rel.low rel.turns))
