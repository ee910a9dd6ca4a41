-- A lowered statement does what the wide one does: by recursion on the wide one.
use Rattle.std.proofs.Common.{◌≡◌, ℕ, zero, suc, ◌+◌, ◌/◌, ◌<◌, Bool, true, false, if◌then◌else◌, List, ◌++◌, nat_le, Option, Some, None, refl, sym, ap, ◌∙◌, subst, arith, ne_eqb}
use Rattle.std.proofs.lemmas.Bool.{and_from, le-leb, leb-false}
use Rattle.cc_words.specs.Words.{truth_value, eq}
use Rattle.cc_ast.specs.scalar.Scalar.{Scalar}
use Rattle.cc_ast.specs.scalar.Scalar.TheVariants.{Int}
use Rattle.cc_ast.specs.Tree as tree
use Rattle.cc_ast.specs.Tree.{Expr, Number, AtVariable, Stmt, Stmts}
use Rattle.cc_types.specs.Types.{value_type, target_type}
use Rattle.cc_types.specs.Scope.{Visible, in_scope, opened, scope_behind, scope_behind_beginning}
use Rattle.cc_c_semantics.specs.Meaning as plain
use Rattle.cc_c_semantics.specs.Meaning.{Local, State, Run, Gives, Going, Wrong, Flow, Falls, Breaks, Continues, Returns, then_do, choose, Calls, local_word, with_local_word, variable_word, stored, evaluate, evaluate_or, ToVariable, new_value, write, perform_optional, spend_of, spend, behind_flow, behind_body, begin_body, turns, start, in_block}
use Rattle.cc_wide.specs.WideTree as source
use Rattle.cc_wide.specs.WideTree.{WideStmt, Block, Perform, Return, Break, Continue, If, IfElse, While, DoWhile, For, Switch, WideStmts, end, next, Sections, last, section}
use Rattle.cc_wide.specs.WideMeaning.{default_of, entry, behind_switch, wide_scope_behind, execute, execute_all, execute_from}
use Rattle.cc_wide.specs.Lowering.{hidden, hidden_name, Around, Outside, Loop, Caught, sets, equals, at_most, words_of, cases_of, count_in, choice_of, count_of, few_sections, grouped, groups_of, first_of, after_first, continuing, after, within, lowered, all_lowered, sections_lowered, ExprIsOwn, MayContinue, Lowers, AllLower, SectionsLower}
use Rattle.cc_wide.proofs.Locals.{word_stored}
use Rattle.cc_wide.proofs.Expressions.{at, SeesNone}
use Rattle.cc_wide.proofs.Landing.{Shape, Fits, refit, put_fits, Left, Sits, Any, Most, Ran, RanIn, left_breaks, ran_falls, twin_ran, ran_next, ran_choose, ran_shut, ran_open, ran_block, ran_again, ran_skip, ran_begin, ran_turns}
use Rattle.cc_wide.proofs.Choosing.{look_cases, scope_choice, choice_run}
use Rattle.cc_wide.proofs.Groups.{first_sections, after_sections, first_lowered, after_lowered, from_split, from_none}
use Rattle.cc_wide.proofs.Statements.{AlikeIn, alike_beginning, alike_behind, put_hidden, word_hidden, entry_positive, test_at_most, twin_value, twin_or, ran_optional, ran_declare, ran_start, ran_return, ran_continue}

-- ---- the test after a switch

not_zero : (k : ℕ) → 0 < k → eq k 0 ≡ 0
not_zero k h = ap truth_value (ne_eqb k 0 (λ e. omega (arith, h, e)))

chosen_none : (x k : ℕ) (go : State → Run Flow) (s : State) (behind : Flow → State → Run Flow) → x ≡ k → 0 < k → then_do (choose (eq x 0) go (λ u. Gives Falls u) s) behind ≡ behind Falls s
chosen_none x k go s behind e h = ap (λ y. then_do (choose (eq y 0) go (λ u. Gives Falls u) s) behind) e ∙ ap (λ y. then_do (choose y go (λ u. Gives Falls u) s) behind) (not_zero k h)

chosen_zero : (x : ℕ) (go : State → Run Flow) (s : State) (behind : Flow → State → Run Flow) → x ≡ 0 → then_do (choose (eq x 0) go (λ u. Gives Falls u) s) behind ≡ then_do (go s) behind
chosen_zero x go s behind e = ap (λ y. then_do (choose (eq y 0) go (λ u. Gives Falls u) s) behind) e

-- an assignment to a variable, and what follows
assign_then : (r : Run ℕ) (t u : Scalar) (x : List ℕ) (go : State → Run Flow)
    → then_do (then_do r (λ y v. then_do (new_value None t u (ToVariable x) y v) (λ new o. write (ToVariable x) new o))) (λ flow v. behind_flow flow go v) ≡ then_do r (λ y v. go (stored x y v))
assign_then (Gives y v) t u x go = refl
assign_then (Going output) t u x go = refl
assign_then (Wrong cause output) t u x go = refl

module _ (z : Shape) (call called : Calls) (sees : SeesNone call called) (n : ℕ) where
  -- ---- after the body of a switch with local d

  module _ (N d : ℕ) (W V : ℕ → Option ℕ) (k : ℕ) (below : d < z.names) (old : (i : ℕ) → i < d → V i ≡ W i) (new : V d ≡ Some k) (positive : 0 < k) (v : Visible) where
    restored : (f H b : List Local) → Fits z (suc d) V f H b → Fits z d W f H b
    restored f H b h = refit z (suc d) d V W f H b h (λ i lt. h.held i (omega (arith, lt)) ∙ old i lt)

    -- what follows the loop of one turn
    abbrev behind_loop : Stmts → Flow → State → Run Flow
    behind_loop rest flow t = behind_flow flow (plain.execute_all rest n call v) t

    abbrev tested : Around → Stmts
    tested a = tree.next (tree.If (equals d 0) (continuing a 0)) tree.end

    fell : (a : Around) (f H b : List Local) (t : State) → Fits z (suc d) V f H b → plain.execute_all (tested a) n call v (at t (f ++ (H ++ b))) ≡ Gives Falls (at t (f ++ (H ++ b)))
    fell a f H b t h =
        chosen_none (variable_word (hidden_name d) (at t (f ++ (H ++ b)))) k (in_block (plain.execute (continuing a 0) n call (opened v))) (at t (f ++ (H ++ b))) (behind_loop tree.end)
        (word_hidden z (suc d) V f H b t d k below h (h.held d (omega arith) ∙ new)) positive

    continued : (a : Around) → MayContinue a → Sits z a d → (f H b : List Local) (t : State) → Fits z d W f H b → local_word H (hidden_name d) ≡ Some 0 → Most N f
        → Ran z (Most N) a d W (plain.execute_all (tested a) n call v (at t (f ++ (H ++ b)))) (Gives Continues (at t (f ++ b)))
    continued a may sits f H b t h is q =
        subst (λ r. Ran z (Most N) a d W r (Gives Continues (at t (f ++ b))))
        (sym (chosen_zero (variable_word (hidden_name d) (at t (f ++ (H ++ b)))) (in_block (plain.execute (continuing a 0) n call (opened v))) (at t (f ++ (H ++ b))) (behind_loop tree.end)
        (word_hidden z d W f H b t d 0 below h is)))
        (ran_next z (Most N) a d W (in_block (plain.execute (continuing a 0) n call (opened v)) (at t (f ++ (H ++ b)))) (Gives Continues (at t (f ++ b))) (λ s. Gives Falls s) (λ s. Gives Falls s)
        (ran_again z a d W (plain.execute (continuing a 0) n call (opened v)) (λ s. Gives Continues s) (λ m. ran_continue z (Most m) d W call n (opened v) a may sits 0) N f H b t h q)
        (ran_falls z (Most N) a d W))

    -- in a loop
    in_loop : (a : Around) → MayContinue a → Sits z a d → (flow p : Flow) (t : State) (f H b : List Local) → t.locals ≡ f ++ (H ++ b) → Left z (Caught d) (suc d) V flow p f H b → Most N f
        → Ran z (Most N) a d W (then_do (behind_body p (λ u. Gives Falls u) t) (behind_loop (tested a))) (Gives (behind_switch flow) (at t (f ++ b)))
    in_loop a may sits Falls p t f H b e l q =
        subst (λ y. Ran z (Most N) a d W (then_do (behind_body y (λ u. Gives Falls u) t) (behind_loop (tested a))) (Gives Falls (at t (f ++ b)))) (sym l.0)
        (subst (λ ls. Ran z (Most N) a d W (plain.execute_all (tested a) n call v (at t ls)) (Gives Falls (at t (f ++ b)))) (sym e)
        (subst (λ r. Ran z (Most N) a d W r (Gives Falls (at t (f ++ b)))) (sym (fell a f H b t l.1)) (ran_falls z (Most N) a d W f H b t (restored f H b l.1) q)))
    in_loop a may sits Breaks p t f H b e l q =
        subst (λ y. Ran z (Most N) a d W (then_do (behind_body y (λ u. Gives Falls u) t) (behind_loop (tested a))) (Gives Falls (at t (f ++ b)))) (sym l.0)
        (subst (λ ls. Ran z (Most N) a d W (plain.execute_all (tested a) n call v (at t ls)) (Gives Falls (at t (f ++ b)))) (sym e)
        (subst (λ r. Ran z (Most N) a d W r (Gives Falls (at t (f ++ b)))) (sym (fell a f H b t l.1)) (ran_falls z (Most N) a d W f H b t (restored f H b l.1) q)))
    in_loop a may sits Continues p t f H b e l q =
        subst (λ y. Ran z (Most N) a d W (then_do (behind_body y (λ u. Gives Falls u) t) (behind_loop (tested a))) (Gives Continues (at t (f ++ b)))) (sym l.0)
        (subst (λ ls. Ran z (Most N) a d W (plain.execute_all (tested a) n call v (at t ls)) (Gives Continues (at t (f ++ b)))) (sym e)
        (continued a may sits f H b t (refit z d d V W f H b l.1 (λ i lt. l.1.held i lt ∙ old i lt)) l.2 q))
    in_loop a may sits (Returns y) p t f H b e l q =
        subst (λ x. Ran z (Most N) a d W (then_do (behind_body x (λ u. Gives Falls u) t) (behind_loop (tested a))) (Gives (Returns y) (at t (f ++ b)))) (sym l.0)
        (Returns y, f, H, b, e, refl, left_return a f H b y (restored f H b l.1), q)
      where
        left_return : (a : Around) (f H b : List Local) (y : ℕ) → Fits z d W f H b → Left z a d W (Returns y) (Returns y) f H b
        left_return Outside f H b y h = (refl, h)
        left_return Loop f H b y h = (refl, h)
        left_return (Caught c) f H b y h = (refl, h)

    -- around it there is no loop
    outside : (flow p : Flow) (t : State) (f H b : List Local) → t.locals ≡ f ++ (H ++ b) → Left z Outside (suc d) V flow p f H b → Most N f
        → Ran z (Most N) Outside d W (then_do (behind_body p (λ u. Gives Falls u) t) (behind_loop tree.end)) (Gives (behind_switch flow) (at t (f ++ b)))
    outside Falls p t f H b e l q =
        subst (λ y. Ran z (Most N) Outside d W (then_do (behind_body y (λ u. Gives Falls u) t) (behind_loop tree.end)) (Gives Falls (at t (f ++ b)))) (sym l.0)
        (Falls, f, H, b, e, refl, (refl, restored f H b l.1), q)
    outside Breaks p t f H b e l q =
        subst (λ y. Ran z (Most N) Outside d W (then_do (behind_body y (λ u. Gives Falls u) t) (behind_loop tree.end)) (Gives Falls (at t (f ++ b)))) (sym l.0)
        (Falls, f, H, b, e, refl, (refl, restored f H b l.1), q)
    outside Continues p t f H b e l q = absurd l
    outside (Returns y) p t f H b e l q =
        subst (λ x. Ran z (Most N) Outside d W (then_do (behind_body x (λ u. Gives Falls u) t) (behind_loop tree.end)) (Gives (Returns y) (at t (f ++ b)))) (sym l.0)
        (Returns y, f, H, b, e, refl, (refl, restored f H b l.1), q)

    ended : (a : Around) → Sits z a d → (flow p : Flow) (t : State) (f H b : List Local) → t.locals ≡ f ++ (H ++ b) → Left z (within a d) (suc d) V flow p f H b → Most N f
        → Ran z (Most N) a d W (then_do (behind_body p (λ u. Gives Falls u) t) (behind_loop (after a d))) (Gives (behind_switch flow) (at t (f ++ b)))
    ended Outside sits flow p t f H b e l q = outside flow p t f H b e l q
    ended Loop sits flow p t f H b e l q = in_loop Loop tt sits flow p t f H b e l q
    ended (Caught c) sits flow p t f H b e l q = in_loop (Caught c) tt sits flow p t f H b e l q

    done : (a : Around) → Sits z a d → (r q : Run Flow) → Ran z (Most N) (within a d) (suc d) V r q
        → Ran z (Most N) a d W (then_do (then_do r (λ flow u. behind_body flow (λ t. Gives Falls t) u)) (behind_loop (after a d))) (then_do q (λ flow o. Gives (behind_switch flow) o))
    done a sits (Gives p t) q h =
        subst (λ y. Ran z (Most N) a d W (then_do (behind_body p (λ u. Gives Falls u) t) (behind_loop (after a d))) (then_do y (λ flow o. Gives (behind_switch flow) o))) (sym h.5)
        (ended a sits h.0 p t h.1 h.2 h.3 h.4 h.6 h.7)
    done a sits (Going output) q h = ap (λ y. then_do y (λ flow o. Gives (behind_switch flow) o)) h
    done a sits (Wrong cause output) q h = ap (λ y. then_do y (λ flow o. Gives (behind_switch flow) o)) h

    -- the loop spends the switch's step
    spent : (a : Around) → Sits z a d → (k' : ℕ) (body was : State → Run Flow) (f H b : List Local) (s : State) → RanIn z (Most N) (within a d) (suc d) V body was → Fits z (suc d) V f H b → Most N f
        → Ran z (Most N) a d W
        (then_do (spend_of k' (λ t. then_do (body t) (λ flow u. behind_body flow (λ o. Gives Falls o) u)) (at s (f ++ (H ++ b)))) (behind_loop (after a d)))
        (spend_of k' (λ t. then_do (was t) (λ flow o. Gives (behind_switch flow) o)) (at s (f ++ b)))
    spent a sits zero body was f H b s g h q = refl
    spent a sits (suc k') body was f H b s g h q =
        let t : State = record s { steps = k' } in
        done a sits (body (at t (f ++ (H ++ b)))) (was (at t (f ++ b))) (g f H b t h q)

  -- ---- a switch, if its sections do what they should

  abbrev SectionsRan : Sections → Around → ℕ → Type 0
  SectionsRan all a d =
      (k : ℕ) (V : ℕ → Option ℕ) → V d ≡ Some k → (v w : Visible) → AlikeIn v w → (N : ℕ)
      → RanIn z (Most N) a (suc d) V (plain.execute_all (groups_of d (sections_lowered a d 1 all)) n call v) (execute_from all 1 k n called w)

  module _ (e : Expr) (all : Sections) (a : Around) (d : ℕ) (W : ℕ → Option ℕ) (below : d < z.names) (own : ExprIsOwn e) (sits : Sits z a d) (ran : SectionsRan all (within a d) d) (v w : Visible) (k : AlikeIn v w) (N : ℕ) where
    abbrev loop_of_one : Stmts
    loop_of_one = tree.next (tree.DoWhile (tree.Block (groups_of d (sections_lowered (within a d) d 1 all))) (Number Int 0)) (after a d)

    abbrev sought : Stmts
    sought = tree.next (choice_of d all) loop_of_one

    abbrev wide_rest : ℕ → State → Run Flow
    wide_rest y t = spend (λ u. then_do (execute_from all 1 (entry y all) n called (opened w) u) (λ flow r. Gives (behind_switch flow) r)) t

    entered : (y : ℕ) (f H b : List Local) (s : State) → Fits z d W f H b → local_word H (hidden_name d) ≡ Some (entry y all) → Most N f
        → Ran z (Most N) a d W (plain.execute_all loop_of_one n call v (at s (f ++ (H ++ b)))) (wide_rest y (at s (f ++ b)))
    entered y f H b s h is q =
        let V : ℕ → Option ℕ = λ i. local_word H (hidden_name i) in
        spent N d W V (entry y all) below (λ i lt. h.held i lt) is (entry_positive y all) v a sits s.steps
        (in_block (in_block (plain.execute_all (groups_of d (sections_lowered (within a d) d 1 all)) n call (opened (opened v))))) (execute_from all 1 (entry y all) n called (opened w)) f H b s
        (ran_again z (within a d) (suc d) V (in_block (plain.execute_all (groups_of d (sections_lowered (within a d) d 1 all)) n call (opened (opened v)))) (execute_from all 1 (entry y all) n called (opened w))
        (ran_again z (within a d) (suc d) V (plain.execute_all (groups_of d (sections_lowered (within a d) d 1 all)) n call (opened (opened v))) (execute_from all 1 (entry y all) n called (opened w))
        (λ m. ran (entry y all) V is (opened (opened v)) (opened w) k m)) N)
        (refit z d (suc d) W V f H b h (λ i lt. refl)) q

    found_section : (y : ℕ) (f H b : List Local) (s : State) → Fits z d W f H b → local_word H (hidden_name d) ≡ Some y → Most N f
        → Ran z (Most N) a d W (plain.execute_all sought n call v (at s (f ++ (H ++ b)))) (wide_rest y (at s (f ++ b)))
    found_section y f H b s h is q =
        let x = hidden_name d in
        let key : ℕ = entry y all in
        let levels = count_in 0 None (words_of (cases_of 1 all)) in
        let first = ap (λ (r : Run Flow). then_do r (λ flow u. behind_flow flow (plain.execute_all loop_of_one n call (scope_behind (choice_of d all) v)) u))
        (choice_run z d W call n y (default_of all) (cases_of 1 all) f H b s below h is levels v 0 None (and_from (nat_le 0 y) true (le-leb 0 y (omega arith)) refl)) in
        let second = ap (λ k. plain.execute_all loop_of_one n call (scope_behind (choice_of d all) v) (at s (f ++ (with_local_word x k H ++ b)))) (look_cases y (default_of all) 1 all) in
        let third = ap (λ o. plain.execute_all loop_of_one n call o (at s (f ++ (with_local_word x key H ++ b)))) (scope_choice levels d (default_of all) 0 None (cases_of 1 all) v) in
        subst (λ r. Ran z (Most N) a d W r (wide_rest y (at s (f ++ b)))) (sym (first ∙ second ∙ third))
        (entered y f (with_local_word x key H) b s (put_fits z d d W f H b key (omega arith) h) (word_stored H x key (h.there d below)) q)

    ran_switch : RanIn z (Most N) a d W (plain.execute_all (tree.next (sets d e) sought) n call v) (execute (Switch e all) n called w)
    ran_switch = λ f H b s h q.
        let x = hidden_name d in
        subst (λ r. Ran z (Most N) a d W r (execute (Switch e all) n called w (at s (f ++ b))))
        (sym (assign_then (evaluate e (in_scope v) call (at s (f ++ (H ++ b)))) (target_type (in_scope v) (AtVariable (hidden d))) (value_type (in_scope v) e) x (plain.execute_all sought n call v)))
        (twin_ran z (Most N) a d W f H b (evaluate e (in_scope v) call (at s (f ++ (H ++ b)))) (evaluate e (in_scope w) called (at s (f ++ b))) (λ y u. plain.execute_all sought n call v (stored x y u)) wide_rest
        (twin_value z d W call called sees f H b h e own (in_scope v) (in_scope w) k s)
        (λ y r. subst (λ (t : State). Ran z (Most N) a d W (plain.execute_all sought n call v t) (wide_rest y (at r (f ++ b)))) (sym (put_hidden z d W f H b r d y below h))
        (found_section y f (with_local_word x y H) b r (put_fits z d d W f H b y (omega arith) h) (word_stored H x y (h.there d below)) q)))

  -- ---- one section

  module _ (a : Around) (d : ℕ) (W : ℕ → Option ℕ) (N : ℕ) where
    chosen_by : (c : Bool) (go was : State → Run Flow) → RanIn z (Most N) a d W go was → RanIn z (Most N) a d W (λ s. choose (truth_value c) go (λ u. Gives Falls u) s) (λ s. (if c then was else (λ t. Gives Falls t)) s)
    chosen_by true go was g = g
    chosen_by false go was g = ran_falls z (Most N) a d W

  ran_section : (a : Around) (d i k : ℕ) (V : ℕ → Option ℕ) → d < z.names → V d ≡ Some k → (v : Visible) (body : Stmts) (was : State → Run Flow) (N : ℕ)
      → ((m : ℕ) → RanIn z (Most m) a (suc d) V (in_block (plain.execute_all body n call (opened (opened v)))) was)
      → RanIn z (Most N) a (suc d) V (plain.execute (tree.If (at_most d i) (tree.Block body)) n call v) (λ s. (if nat_le k i then was else (λ t. Gives Falls t)) s)
  ran_section a d i k V below is v body was N g = λ f H b s h q.
      subst (λ r. Ran z (Most N) a (suc d) V r ((if nat_le k i then was else (λ t. Gives Falls t)) (at s (f ++ b))))
      (sym (ap (λ (r : Run ℕ). then_do r (λ w t. choose w (in_block (plain.execute (tree.Block body) n call (opened v))) (λ u. Gives Falls u) t))
      (test_at_most (in_scope v) call (at s (f ++ (H ++ b))) d i k (word_hidden z (suc d) V f H b s d k below h (h.held d (omega arith) ∙ is)))))
      (chosen_by a (suc d) V N (nat_le k i) (in_block (in_block (plain.execute_all body n call (opened (opened v))))) was
      (ran_again z a (suc d) V (in_block (plain.execute_all body n call (opened (opened v)))) was g N) f H b s h q)

  -- ---- the sections, if their bodies do what they should

  abbrev BodiesRan : Sections → Around → ℕ → (ℕ → Option ℕ) → Type 0
  BodiesRan last a d V = Unit {0}
  BodiesRan (section ls body rest) a d V =
      ((v w : Visible) → AlikeIn v w → RanIn z Any a (suc d) V (plain.execute_all (all_lowered a (suc d) body) n call v) (execute_all body n called w)) × BodiesRan rest a d V

  bodies_first : (h : ℕ) (all : Sections) (a : Around) (d : ℕ) (V : ℕ → Option ℕ) → BodiesRan all a d V → BodiesRan (first_sections h all) a d V
  bodies_first zero all a d V r = tt
  bodies_first (suc h) last a d V r = tt
  bodies_first (suc h) (section ls body rest) a d V r = (r.0, bodies_first h rest a d V r.1)

  bodies_after : (h : ℕ) (all : Sections) (a : Around) (d : ℕ) (V : ℕ → Option ℕ) → BodiesRan all a d V → BodiesRan (after_sections h all) a d V
  bodies_after zero all a d V r = r
  bodies_after (suc h) last a d V r = tt
  bodies_after (suc h) (section ls body rest) a d V r = bodies_after h rest a d V r.1

  ran_sections : (all : Sections) (a : Around) (d i key : ℕ) (V : ℕ → Option ℕ) → d < z.names → V d ≡ Some key → BodiesRan all a d V → (v w : Visible) → AlikeIn v w → (N : ℕ)
      → RanIn z (Most N) a (suc d) V (plain.execute_all (sections_lowered a d i all) n call v) (execute_from all i key n called w)
  ran_sections last a d i key V below is h v w k N = ran_falls z (Most N) a (suc d) V
  ran_sections (section ls body rest) a d i key V below is h v w k N = λ f H b t g q.
      ran_next z (Most N) a (suc d) V (plain.execute (tree.If (at_most d i) (tree.Block (all_lowered a (suc d) body))) n call v (at t (f ++ (H ++ b))))
      ((if nat_le key i then in_block (execute_all body n called (opened w)) else (λ u. Gives Falls u)) (at t (f ++ b)))
      (plain.execute_all (sections_lowered a d (suc i) rest) n call v) (execute_from rest (suc i) key n called w)
      (ran_section a d i key V below is v (all_lowered a (suc d) body) (in_block (execute_all body n called (opened w))) N
      (λ m. ran_shut z a (suc d) V (plain.execute_all (all_lowered a (suc d) body) n call (opened (opened v))) (execute_all body n called (opened w))
      (h.0 (opened (opened v)) (opened w) k) m) f H b t g q)
      (ran_sections rest a d (suc i) key V below is h.1 v w k N)

  -- a group is entered if one of its sections is executed
  entered_if : (all : Sections) (i h key : ℕ) (w : Visible) (t : State) (c : Bool) → nat_le key (i + h) ≡ c
      → (if c then execute_from (first_sections h all) (suc i) key n called w else (λ u. Gives Falls u)) t ≡ execute_from (first_sections h all) (suc i) key n called w t
  entered_if all i h key w t true e = refl
  entered_if all i h key w t false e =
      sym (from_none h all (suc i) key n called w t (let past : i + h < key = leb-false key (i + h) e in omega (arith, past)))

  abbrev GroupsRan : ℕ → Type 0
  GroupsRan levels =
      (all : Sections) (a : Around) (d i key : ℕ) (V : ℕ → Option ℕ) → d < z.names → V d ≡ Some key → BodiesRan all a d V → (v w : Visible) → AlikeIn v w → (N : ℕ)
      → RanIn z (Most N) a (suc d) V (plain.execute_all (grouped levels d i (sections_lowered a d (suc i) all)) n call v) (execute_from all (suc i) key n called w)

  grouped_by : (levels : ℕ) → GroupsRan levels → (all : Sections) (a : Around) (d i key : ℕ) (V : ℕ → Option ℕ) → d < z.names → V d ≡ Some key → BodiesRan all a d V → (v w : Visible) → AlikeIn v w → (N : ℕ)
      → (few : Bool) (m : ℕ)
      → RanIn z (Most N) a (suc d) V
      (plain.execute_all (if few then sections_lowered a d (suc i) all
      else tree.next (tree.If (at_most d (i + m)) (tree.Block (grouped levels d i (first_of m (sections_lowered a d (suc i) all))))) (grouped levels d (i + m) (after_first m (sections_lowered a d (suc i) all)))) n call v)
      (execute_from all (suc i) key n called w)
  grouped_by levels ran all a d i key V below is h v w k N true m = ran_sections all a d (suc i) key V below is h v w k N
  grouped_by levels ran all a d i key V below is h v w k N false m = λ f H b t g q.
      let group : Stmts = grouped levels d i (first_of m (sections_lowered a d (suc i) all)) in
      let others : Stmts = grouped levels d (i + m) (after_first m (sections_lowered a d (suc i) all)) in
      let front = first_sections m all in
      let back = after_sections m all in
      let was : State → Run Flow = execute_from front (suc i) key n called w in
      let inside : (o : Visible) → AlikeIn o w → (l : ℕ) → RanIn z (Most l) a (suc d) V (plain.execute_all group n call o) was =
      λ o j l. subst (λ ss. RanIn z (Most l) a (suc d) V (plain.execute_all (grouped levels d i ss) n call o) was) (sym (first_lowered m all a d (suc i)))
      (ran front a d i key V below is (bodies_first m all a d V h) o w j l) in
      let outside : RanIn z (Most N) a (suc d) V (plain.execute_all others n call v) (execute_from back (suc (i + m)) key n called w) =
      subst (λ ss. RanIn z (Most N) a (suc d) V (plain.execute_all (grouped levels d (i + m) ss) n call v) (execute_from back (suc (i + m)) key n called w)) (sym (after_lowered m all a d i))
      (ran back a d (i + m) key V below is (bodies_after m all a d V h) v w k N) in
      subst (λ r. Ran z (Most N) a (suc d) V (plain.execute_all (tree.next (tree.If (at_most d (i + m)) (tree.Block group)) others) n call v (at t (f ++ (H ++ b)))) r) (sym (from_split m all i key n called w (at t (f ++ b))))
      (ran_next z (Most N) a (suc d) V (plain.execute (tree.If (at_most d (i + m)) (tree.Block group)) n call v (at t (f ++ (H ++ b)))) (was (at t (f ++ b)))
      (plain.execute_all others n call v) (execute_from back (suc (i + m)) key n called w)
      (subst (λ r. Ran z (Most N) a (suc d) V (plain.execute (tree.If (at_most d (i + m)) (tree.Block group)) n call v (at t (f ++ (H ++ b)))) r) (entered_if all i m key w (at t (f ++ b)) (nat_le key (i + m)) refl)
      (ran_section a d (i + m) key V below is v group was N
      (λ l. ran_again z a (suc d) V (plain.execute_all group n call (opened (opened v))) was (λ l'. inside (opened (opened v)) k l') l) f H b t g q))
      outside)

  ran_grouped : (levels : ℕ) → GroupsRan levels
  ran_grouped zero all a d i key V below is h v w k N = ran_sections all a d (suc i) key V below is h v w k N
  ran_grouped (suc levels) all a d i key V below is h v w k N =
      grouped_by levels (ran_grouped levels) all a d i key V below is h v w k N (nat_le (count_of (sections_lowered a d (suc i) all)) few_sections) (count_of (sections_lowered a d (suc i) all) / 2)

  -- ---- statements

  in_switch : (a : Around) (d : ℕ) → d < z.names → Sits z a d → Sits z (within a d) (suc d)
  in_switch Outside d below sits = tt
  in_switch Loop d below sits = (omega arith, below)
  in_switch (Caught c) d below sits = (omega arith, below)

  mutual
    pub ran_execute : (s : WideStmt) (a : Around) (d : ℕ) (W : ℕ → Option ℕ) → Lowers z.names a d s → Sits z a d → (v w : Visible) → AlikeIn v w
        → RanIn z Any a d W (plain.execute (lowered a d s) n call v) (execute s n called w)
    ran_execute (Block all) a d W h sits v w k =
        ran_block z a d W (plain.execute_all (all_lowered a d all) n call (opened v)) (execute_all all n called (opened w)) (ran_all all a d W h sits (opened v) (opened w) k)
    ran_execute (source.Local t ds) a d W h sits v w k = ran_declare z d W call called sees a t ds h v w k
    ran_execute (Perform action) a d W h sits v w k = ran_optional z d W call called sees a action h (in_scope v) (in_scope w) k
    ran_execute (Return at e) a d W h sits v w k = ran_return z d W call called sees a e h (in_scope v) (in_scope w) k
    ran_execute (Break at) a d W h sits v w k = λ f H b s g q. (Breaks, f, H, b, refl, refl, left_breaks z d W f H b a g, tt)
    ran_execute (Continue at) a d W h sits v w k = ran_continue z Any d W call n v a h sits at
    ran_execute (If c s) a d W h sits v w k = λ f H b t g q.
        twin_ran z Any a d W f H b (evaluate c (in_scope v) call _) (evaluate c (in_scope w) called _) _ _ (twin_value z d W call called sees f H b g c h.0 (in_scope v) (in_scope w) k t)
        (λ x r. ran_choose z Any a d W x _ _ _ _
        (ran_block z a d W (plain.execute (lowered a d s) n call (opened v)) (execute s n called (opened w)) (ran_execute s a d W h.1 sits (opened v) (opened w) k)) (ran_falls z Any a d W) f H b r g tt)
    ran_execute (IfElse c s o) a d W h sits v w k = λ f H b t g q.
        twin_ran z Any a d W f H b (evaluate c (in_scope v) call _) (evaluate c (in_scope w) called _) _ _ (twin_value z d W call called sees f H b g c h.0 (in_scope v) (in_scope w) k t)
        (λ x r. ran_choose z Any a d W x _ _ _ _
        (ran_block z a d W (plain.execute (lowered a d s) n call (opened v)) (execute s n called (opened w)) (ran_execute s a d W h.1 sits (opened v) (opened w) k))
        (ran_block z a d W (plain.execute (lowered a d o) n call (opened v)) (execute o n called (opened w)) (ran_execute o a d W h.2 sits (opened v) (opened w) k)) f H b r g tt)
    ran_execute (While c s) a d W h sits v w k =
        ran_turns z a d W (suc n) (evaluate c (in_scope v) call) (evaluate c (in_scope w) called) (in_block (plain.execute (lowered Loop d s) n call (opened v))) (in_block (execute s n called (opened w))) (λ t. Gives Falls t) (λ t. Gives Falls t)
        (λ f H b t g. twin_value z d W call called sees f H b g c h.0 (in_scope v) (in_scope w) k t)
        (ran_block z Loop d W (plain.execute (lowered Loop d s) n call (opened v)) (execute s n called (opened w)) (ran_execute s Loop d W h.1 tt (opened v) (opened w) k)) (ran_falls z Any Loop d W)
    ran_execute (DoWhile s c) a d W h sits v w k =
        let body = ran_block z Loop d W (plain.execute (lowered Loop d s) n call (opened v)) (execute s n called (opened w)) (ran_execute s Loop d W h.0 tt (opened v) (opened w) k) in
        ran_begin z a d W (in_block (plain.execute (lowered Loop d s) n call (opened v))) (in_block (execute s n called (opened w))) _ _ body
        (ran_turns z a d W (suc n) (evaluate c (in_scope v) call) (evaluate c (in_scope w) called) (in_block (plain.execute (lowered Loop d s) n call (opened v))) (in_block (execute s n called (opened w))) (λ t. Gives Falls t) (λ t. Gives Falls t)
        (λ f H b t g. twin_value z d W call called sees f H b g c h.1 (in_scope v) (in_scope w) k t) body (ran_falls z Any Loop d W))
    ran_execute (For first c behind s) a d W h sits v w k =
        let v' = scope_behind_beginning first (opened v) in
        let w' = scope_behind_beginning first (opened w) in
        let k' : AlikeIn v' w' = alike_beginning first (opened v) (opened w) k in
        let part : State → Run Flow = turns (suc n) (evaluate_or 1 c (in_scope v') call) (in_block (plain.execute (lowered Loop d s) n call (opened v'))) (perform_optional behind (in_scope v') call) in
        let was : State → Run Flow = turns (suc n) (evaluate_or 1 c (in_scope w') called) (in_block (execute s n called (opened w'))) (perform_optional behind (in_scope w') called) in
        ran_block z a d W (λ t. then_do (start first call (opened v) t) (λ flow u. part u)) (λ t. then_do (start first called (opened w) t) (λ flow u. was u))
        (λ f H b t g q. ran_skip z a d W (start first call (opened v) (at t (f ++ (H ++ b)))) (start first called (opened w) (at t (f ++ b))) part was
        (ran_start z d W call called sees Loop first h.0 (opened v) (opened w) k f H b t g tt)
        (ran_turns z a d W (suc n) (evaluate_or 1 c (in_scope v') call) (evaluate_or 1 c (in_scope w') called) (in_block (plain.execute (lowered Loop d s) n call (opened v'))) (in_block (execute s n called (opened w')))
        (perform_optional behind (in_scope v') call) (perform_optional behind (in_scope w') called)
        (λ f' H' b' r g'. twin_or z d W call called sees f' H' b' g' 1 c h.1 (in_scope v') (in_scope w') k' r)
        (ran_block z Loop d W (plain.execute (lowered Loop d s) n call (opened v')) (execute s n called (opened w')) (ran_execute s Loop d W h.3 tt (opened v') (opened w') k'))
        (ran_optional z d W call called sees Loop behind h.2 (in_scope v') (in_scope w') k')))
    ran_execute (Switch e all) a d W h sits v w k =
        let part : State → Run Flow = plain.execute_all (tree.next (sets d e) (tree.next (choice_of d all) (tree.next (tree.DoWhile (tree.Block (groups_of d (sections_lowered (within a d) d 1 all))) (Number Int 0)) (after a d)))) n call (opened v) in
        ran_open z a d W (in_block part) (execute (Switch e all) n called w)
        (ran_again z a d W part (execute (Switch e all) n called w)
        (λ m. ran_switch e all a d W h.0 h.1 sits
        (λ key V is v' w' k' m'. ran_grouped (count_of (sections_lowered (within a d) d 1 all)) all (within a d) d 0 key V h.0 is (ran_bodies all (within a d) d V h.2 (in_switch a d h.0 sits)) v' w' k' m') (opened v) w k m))

    pub ran_all : (all : WideStmts) (a : Around) (d : ℕ) (W : ℕ → Option ℕ) → AllLower z.names a d all → Sits z a d → (v w : Visible) → AlikeIn v w
        → RanIn z Any a d W (plain.execute_all (all_lowered a d all) n call v) (execute_all all n called w)
    ran_all end a d W h sits v w k = ran_falls z Any a d W
    ran_all (next first rest) a d W h sits v w k = λ f H b t g q.
        ran_next z Any a d W (plain.execute (lowered a d first) n call v (at t (f ++ (H ++ b)))) (execute first n called w (at t (f ++ b)))
        (plain.execute_all (all_lowered a d rest) n call (scope_behind (lowered a d first) v)) (execute_all rest n called (wide_scope_behind first w))
        (ran_execute first a d W h.0 sits v w k f H b t g tt)
        (ran_all rest a d W h.1 sits (scope_behind (lowered a d first) v) (wide_scope_behind first w) (alike_behind first a d v w k))

    ran_bodies : (all : Sections) (a : Around) (d : ℕ) (V : ℕ → Option ℕ) → SectionsLower z.names a (suc d) all → Sits z a (suc d) → BodiesRan all a d V
    ran_bodies last a d V h sits = tt
    ran_bodies (section ls body rest) a d V h sits = (λ v w k. ran_all body a (suc d) V h.0 sits v w k, ran_bodies rest a d V h.1 sits)
