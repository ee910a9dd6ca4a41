-- A lowered statement does what the wide one does.
use Rattle.std.proofs.Common.{◌≡◌, ℕ, suc, ◌-◌, ◌<◌, Bool, true, false, if◌then◌else◌, List, [], ◌∷◌, ◌++◌, length, drop, nat_le, nat_lt, Option, Some, None, is_some, unwrap_or, slice_get, refl, sym, ap, ◌∙◌, subst, arith, length-append}
use Rattle.cc_words.specs.Words.{truth_value}
use Rattle.cc_ast.specs.scalar.Scalar.{Scalar}
use Rattle.cc_ast.specs.scalar.Scalar.TheVariants.{Int, Unsigned}
use Rattle.cc_ast.specs.declared.ast.BinaryOperator.{BinaryOperator}
use Rattle.cc_ast.specs.declared.ast.BinaryOperator.TheVariants.{Less, LessOrEqual}
use Rattle.cc_ast.specs.Tree as tree
use Rattle.cc_ast.specs.Tree.{Expr, Number, Target, AtVariable, AtElement, Action, Assign, Step, Evaluate, Declarator, Beginning, Declares, Performs, Stmt, Stmts}
use Rattle.cc_types.specs.Names.{same_name}
use Rattle.cc_types.specs.Operators.{common_type, binary_word, applied_operator, step_operator}
use Rattle.cc_types.specs.Scope as scope
use Rattle.cc_types.specs.Scope.{Entity, Binding, found, Visible, in_scope, opened, declared, all_declared, scope_behind, scope_behind_beginning}
use Rattle.cc_types.specs.Types.{variable_type, element_type, value_type, target_type}
use Rattle.cc_c_semantics.specs.declared.cause.Cause.TheVariants.{Index}
use Rattle.cc_c_semantics.specs.Meaning as plain
use Rattle.cc_c_semantics.specs.Meaning.{Local, Global, State, Run, Gives, Going, Wrong, Flow, Falls, Breaks, Continues, Returns, then_do, choose, Calls, local_word, with_local_word, global_words, with_element, variable_word, stored, evaluate, evaluate_or, Destination, ToVariable, ToElement, destination, new_value, write, perform, perform_optional, spend_of, behind_flow, behind_body, begin_body, turns, with_local, declare, start, left_scope, in_block, return}
use Rattle.cc_wide.specs.WideTree as source
use Rattle.cc_wide.specs.WideTree.{Label, Case, Default, WideStmt, Block, Perform, Return, Break, Continue, If, IfElse, While, DoWhile, For, Switch, WideStmts, end, next, Sections, last, section}
use Rattle.cc_wide.specs.WideMeaning.{has_case, has_default, section_with, past, default_of, entry, wide_scope_behind}
use Rattle.cc_wide.specs.Lowering.{is_reserved, hidden_name, Around, Outside, Loop, Caught, less_than, at_most, continuing, lowered, OptionalIsOwn, ExprIsOwn, ActionIsOwn, OptionalActionIsOwn, DeclaratorsAreOwn, BeginningIsOwn, MayContinue}
use Rattle.cc_wide.proofs.Locals.{own_word, Stores, stores, hidden_word, hidden_store, word_stored, store_count}
use Rattle.cc_wide.proofs.Expressions.{at, Twin, SeesNone, Alike, alike_types, tw_new, tw_evaluate, tw_or}
use Rattle.cc_wide.proofs.Landing.{Shape, Fits, put_fits, Sits, Any, Ran, RanIn, left_falls, left_returns, ran_falls, twin_ran, ran_skip}

-- ---- scopes

-- the program's names denote the same in two scopes
abbrev pub AlikeIn : Visible → Visible → Type 0
AlikeIn v w = Alike (in_scope v) (in_scope w)

pub alike_declared : (y : List ℕ) (e : Entity) (v w : Visible) → AlikeIn v w → AlikeIn (declared y e v) (declared y e w)
alike_declared y e v w k = λ x q. ap (λ o. if same_name y x then Some e else o) (k x q)

pub alike_all : (t : Scalar) (ds : List Declarator) (v w : Visible) → AlikeIn v w → AlikeIn (all_declared t ds v) (all_declared t ds w)
alike_all t [] v w k = k
alike_all t (d ∷ rest) v w k =
    alike_all t rest (declared d.name.text (scope.Variable t) v) (declared d.name.text (scope.Variable t) w) (alike_declared d.name.text (scope.Variable t) v w k)

pub alike_beginning : (first : Beginning) (v w : Visible) → AlikeIn v w → AlikeIn (scope_behind_beginning first v) (scope_behind_beginning first w)
alike_beginning (Declares t ds) v w k = alike_all t ds v w k
alike_beginning (Performs a) v w k = k

alike_continuing : (a : Around) (at : ℕ) (v w : Visible) → AlikeIn v w → AlikeIn (scope_behind (continuing a at) v) w
alike_continuing Outside at v w k = k
alike_continuing Loop at v w k = k
alike_continuing (Caught c) at v w k = k

pub alike_behind : (s : WideStmt) (a : Around) (d : ℕ) (v w : Visible) → AlikeIn v w → AlikeIn (scope_behind (lowered a d s) v) (wide_scope_behind s w)
alike_behind (Block all) a d v w k = k
alike_behind (source.Local t ds) a d v w k = alike_all t ds v w k
alike_behind (Perform action) a d v w k = k
alike_behind (Return at e) a d v w k = k
alike_behind (Break at) a d v w k = k
alike_behind (Continue at) a d v w k = alike_continuing a at v w k
alike_behind (If c s) a d v w k = k
alike_behind (IfElse c s r) a d v w k = k
alike_behind (While c s) a d v w k = k
alike_behind (DoWhile s c) a d v w k = k
alike_behind (For first c behind s) a d v w k = k
alike_behind (Switch e all) a d v w k = k

-- ---- a hidden local

-- it is put in its place among the hidden locals
pub put_hidden : (z : Shape) (d : ℕ) (W : ℕ → Option ℕ) (f H b : List Local) (s : State) (c w : ℕ) → c < z.names → Fits z d W f H b
    → stored (hidden_name c) w (at s (f ++ (H ++ b))) ≡ at s (f ++ (with_local_word (hidden_name c) w H ++ b))
put_hidden z d W f H b s c w lt h =
    let is : is_some (local_word (f ++ (H ++ b)) (hidden_name c)) ≡ true = ap is_some (hidden_word f H b (hidden_name c) h.own refl (h.there c lt)) ∙ h.there c lt in
    ap (λ (y : Bool). if y then at s (with_local_word (hidden_name c) w (f ++ (H ++ b))) else record (at s (f ++ (H ++ b))) { globals = with_element (hidden_name c) 0 w s.globals }) is
    ∙ ap (λ (ls : List Local). at s ls) (hidden_store f H b (hidden_name c) w h.own refl (h.there c lt))

-- it is read in its place among the hidden locals
pub word_hidden : (z : Shape) (d : ℕ) (W : ℕ → Option ℕ) (f H b : List Local) (s : State) (c w : ℕ) → c < z.names → Fits z d W f H b → local_word H (hidden_name c) ≡ Some w
    → variable_word (hidden_name c) (at s (f ++ (H ++ b))) ≡ w
word_hidden z d W f H b s c w lt h e =
    ap (λ (o : Option ℕ). unwrap_or o (unwrap_or (slice_get (global_words s.globals (hidden_name c)) 0) 0)) (hidden_word f H b (hidden_name c) h.own refl (h.there c lt) ∙ e)

-- ---- the section with which a switch goes on

-- the number is not 0
positive_by : (c : Bool) (i n : ℕ) → 0 < i → 0 < n → 0 < (if c then i else n)
positive_by true i n h k = h
positive_by false i n h k = k

section_positive : (test : List Label → Bool) (all : Sections) (i n : ℕ) → 0 < i → 0 < n → 0 < section_with test i all n
section_positive test last i n h k = k
section_positive test (section ls body rest) i n h k = positive_by (test ls) i (section_with test (suc i) rest n) h (section_positive test rest (suc i) n (omega arith) k)

past_positive : (all : Sections) (i : ℕ) → 0 < i → 0 < past i all
past_positive last i h = h
past_positive (section ls body rest) i h = past_positive rest (suc i) (omega arith)

pub entry_positive : (w : ℕ) (all : Sections) → 0 < entry w all
entry_positive w all = section_positive (has_case w) all 1 (default_of all) (omega arith) (section_positive has_default all 1 (past 1 all) (omega arith) (past_positive all 1 (omega arith)))

-- the type in which `<=` compares with an unsigned number
unsigned_common : (t : Scalar) → common_type t Unsigned ≡ Unsigned
unsigned_common Int = refl
unsigned_common Unsigned = refl

given_at_most : (x i : ℕ) (t : Scalar) (s : State) → t ≡ Unsigned → plain.given LessOrEqual (binary_word LessOrEqual t x i) s ≡ Gives (truth_value (nat_le x i)) s
given_at_most x i t s e = ap (λ (u : Scalar). plain.given LessOrEqual (binary_word LessOrEqual u x i) s) e

-- the test of a section: its number is not below that of the section with which the switch goes on
pub test_at_most : (bs : List Binding) (call : Calls) (s : State) (d i k : ℕ) → variable_word (hidden_name d) s ≡ k → evaluate (at_most d i) bs call s ≡ Gives (truth_value (nat_le k i)) s
test_at_most bs call s d i k is =
    given_at_most (variable_word (hidden_name d) s) i (common_type (variable_type (found bs (hidden_name d))) Unsigned) s (unsigned_common (variable_type (found bs (hidden_name d))))
    ∙ ap (λ (x : ℕ). Gives (truth_value (nat_le x i)) s) is

given_less : (x m : ℕ) (t : Scalar) (s : State) → t ≡ Unsigned → plain.given Less (binary_word Less t x m) s ≡ Gives (truth_value (nat_lt x m)) s
given_less x m t s e = ap (λ (u : Scalar). plain.given Less (binary_word Less u x m) s) e

-- the test of a choice that is halved
pub test_less : (bs : List Binding) (call : Calls) (s : State) (d m w : ℕ) → variable_word (hidden_name d) s ≡ w → evaluate (less_than d m) bs call s ≡ Gives (truth_value (nat_lt w m)) s
test_less bs call s d m w is =
    given_less (variable_word (hidden_name d) s) m (common_type (variable_type (found bs (hidden_name d))) Unsigned) s (unsigned_common (variable_type (found bs (hidden_name d))))
    ∙ ap (λ (x : ℕ). Gives (truth_value (nat_lt x m)) s) is

-- ---- assignments and declarations

module _ (z : Shape) (d : ℕ) (W : ℕ → Option ℕ) where
  store_at : (a : Around) (c : Bool) (f H b : List Local) (x : List ℕ) (w : ℕ) (gs : List Global) (s : State) → Stores f H b x w → Fits z d W f H b
      → Ran z Any a d W (Gives Falls (if c then at s (with_local_word x w (f ++ (H ++ b))) else record (at s (f ++ (H ++ b))) { globals = gs }))
      (Gives Falls (if c then at s (with_local_word x w (f ++ b)) else record (at s (f ++ b)) { globals = gs }))
  store_at a true f H b x w gs s st h =
      let k : Fits z d W st.front H st.back = record { own = st.own; hidden = h.hidden; many = h.many; back = st.count ∙ h.back; there = h.there; held = h.held } in
      (Falls, st.front, H, st.back, st.among, ap (λ (ls : List Local). Gives Falls (at s ls)) st.alone, left_falls z d W st.front H st.back a k, tt)
  store_at a false f H b x w gs s st h = (Falls, f, H, b, refl, refl, left_falls z d W f H b a h, tt)

  -- a variable of the program is stored
  ran_store : (a : Around) (x : List ℕ) (w : ℕ) → is_reserved x ≡ false → RanIn z Any a d W (λ s. Gives Falls (stored x w s)) (λ s. Gives Falls (stored x w s))
  ran_store a x w q = λ f H b s h k.
      subst (λ (y : Bool). Ran z Any a d W (Gives Falls (stored x w (at s (f ++ (H ++ b))))) (Gives Falls (if y then at s (with_local_word x w (f ++ b)) else record (at s (f ++ b)) { globals = with_element x 0 w s.globals })))
      (ap is_some (own_word f H b x h.hidden q))
      (store_at a (is_some (local_word (f ++ (H ++ b)) x)) f H b x w (with_element x 0 w s.globals) s (stores f H b x w h.own h.hidden q) h)

  element_by : (a : Around) (c : Bool) (gs : List Global) (f H b : List Local) (s : State) → Fits z d W f H b
      → Ran z Any a d W (if c then Gives Falls (record (at s (f ++ (H ++ b))) { globals = gs }) else Wrong Index s.output) (if c then Gives Falls (record (at s (f ++ b)) { globals = gs }) else Wrong Index s.output)
  element_by a true gs f H b s h = (Falls, f, H, b, refl, refl, left_falls z d W f H b a h, tt)
  element_by a false gs f H b s h = refl

  ran_element : (a : Around) (x : List ℕ) (i w : ℕ) → RanIn z Any a d W (write (ToElement x i) w) (write (ToElement x i) w)
  ran_element a x i w = λ f H b s h k. element_by a (nat_lt i (length (global_words s.globals x))) (with_element x i w s.globals) f H b s h

  module _ (call called : Calls) (sees : SeesNone call called) where
    -- the locals of a state that fits, as expressions read them
    reads : (f H b : List Local) → Fits z d W f H b → (x : List ℕ) → is_reserved x ≡ false → local_word (f ++ (H ++ b)) x ≡ local_word (f ++ b) x
    reads f H b h x q = own_word f H b x h.hidden q

    pub twin_value : (f H b : List Local) → Fits z d W f H b → (e : Expr) → ExprIsOwn e → (bs cs : List Binding) → Alike bs cs → (s : State)
        → Twin (f ++ (H ++ b)) (f ++ b) (evaluate e bs call (at s (f ++ (H ++ b)))) (evaluate e cs called (at s (f ++ b)))
    twin_value f H b h e o bs cs k s = tw_evaluate (f ++ (H ++ b)) (f ++ b) (reads f H b h) call called sees bs cs k e o s

    pub twin_or : (f H b : List Local) → Fits z d W f H b → (w : ℕ) (e : Option Expr) → OptionalIsOwn e → (bs cs : List Binding) → Alike bs cs → (s : State)
        → Twin (f ++ (H ++ b)) (f ++ b) (evaluate_or w e bs call (at s (f ++ (H ++ b)))) (evaluate_or w e cs called (at s (f ++ b)))
    twin_or f H b h w e o bs cs k s = tw_or (f ++ (H ++ b)) (f ++ b) (reads f H b h) call called sees bs cs k w e o s

    ran_new : (a : Around) (op : Option BinaryOperator) (t t' u u' : Scalar) → t ≡ t' → u ≡ u' → (x : List ℕ) → is_reserved x ≡ false → (w : ℕ)
        → RanIn z Any a d W (λ s. then_do (new_value op t u (ToVariable x) w s) (λ y v. write (ToVariable x) y v)) (λ s. then_do (new_value op t' u' (ToVariable x) w s) (λ y v. write (ToVariable x) y v))
    ran_new a op t t' u u' e g x q w = λ f H b s h k.
        twin_ran z Any a d W f H b (new_value op t u (ToVariable x) w (at s (f ++ (H ++ b)))) (new_value op t' u' (ToVariable x) w (at s (f ++ b))) _ _
        (tw_new (f ++ (H ++ b)) (f ++ b) (reads f H b h) op t t' u u' e g (ToVariable x) q w s) (λ y r. ran_store a x y q f H b r h tt)

    -- an element's index is evaluated, and then the rest
    place_then : (r : Run ℕ) (x : List ℕ) (go : Destination → State → Run Flow) → then_do (then_do r (λ j t. Gives (ToElement x j) t)) go ≡ then_do r (λ j t. go (ToElement x j) t)
    place_then (Gives j t) x go = refl
    place_then (Going output) x go = refl
    place_then (Wrong cause output) x go = refl

    ran_place : (a : Around) (x : tree.Name) (i : Expr) → ExprIsOwn i → (bs cs : List Binding) → Alike bs cs → (go went : Destination → State → Run Flow)
        → ((j : ℕ) → RanIn z Any a d W (go (ToElement x.text j)) (went (ToElement x.text j)))
        → RanIn z Any a d W (λ s. then_do (destination (AtElement x i) bs call s) go) (λ s. then_do (destination (AtElement x i) cs called s) went)
    ran_place a x i o bs cs k go went g = λ f H b s h q.
        subst (λ r. Ran z Any a d W r (then_do (destination (AtElement x i) cs called (at s (f ++ b))) went)) (sym (place_then (evaluate i bs call (at s (f ++ (H ++ b)))) x.text go))
        (subst (λ r. Ran z Any a d W (then_do (evaluate i bs call (at s (f ++ (H ++ b)))) (λ j t. go (ToElement x.text j) t)) r) (sym (place_then (evaluate i cs called (at s (f ++ b))) x.text went))
        (twin_ran z Any a d W f H b (evaluate i bs call (at s (f ++ (H ++ b)))) (evaluate i cs called (at s (f ++ b))) (λ j t. go (ToElement x.text j) t) (λ j t. went (ToElement x.text j) t)
        (twin_value f H b h i o bs cs k s) (λ j r. g j f H b r h tt)))

    ran_new_element : (a : Around) (op : Option BinaryOperator) (t t' u u' : Scalar) → t ≡ t' → u ≡ u' → (x : List ℕ) (i w : ℕ)
        → RanIn z Any a d W (λ s. then_do (new_value op t u (ToElement x i) w s) (λ y v. write (ToElement x i) y v)) (λ s. then_do (new_value op t' u' (ToElement x i) w s) (λ y v. write (ToElement x i) y v))
    ran_new_element a op t t' u u' e g x i w = λ f H b s h k.
        twin_ran z Any a d W f H b (new_value op t u (ToElement x i) w (at s (f ++ (H ++ b)))) (new_value op t' u' (ToElement x i) w (at s (f ++ b))) _ _
        (tw_new (f ++ (H ++ b)) (f ++ b) (reads f H b h) op t t' u u' e g (ToElement x i) tt w s) (λ y r. ran_element a x i y f H b r h tt)

    pub ran_perform : (a : Around) (action : Action) → ActionIsOwn action → (bs cs : List Binding) → Alike bs cs → RanIn z Any a d W (perform action bs call) (perform action cs called)
    ran_perform a (Assign op (AtVariable x) e) o bs cs k = λ f H b s h g.
        twin_ran z Any a d W f H b (evaluate e bs call (at s (f ++ (H ++ b)))) (evaluate e cs called (at s (f ++ b))) _ _ (twin_value f H b h e o.1 bs cs k s)
        (λ w t. ran_new a (applied_operator op) (target_type bs (AtVariable x)) (target_type cs (AtVariable x)) (value_type bs e) (value_type cs e)
        (ap variable_type (k x.text o.0)) (alike_types e bs cs k o.1) x.text o.0 w f H b t h tt)
    ran_perform a (Assign op (AtElement x i) e) o bs cs k =
        ran_place a x i o.0.1 bs cs k _ _
        (λ j f H b r h g. twin_ran z Any a d W f H b (evaluate e bs call (at r (f ++ (H ++ b)))) (evaluate e cs called (at r (f ++ b))) _ _ (twin_value f H b h e o.1 bs cs k r)
        (λ w t. ran_new_element a (applied_operator op) (target_type bs (AtElement x i)) (target_type cs (AtElement x i)) (value_type bs e) (value_type cs e)
        (ap element_type (k x.text o.0.0)) (alike_types e bs cs k o.1) x.text j w f H b t h tt))
    ran_perform a (Step op (AtVariable x)) o bs cs k = λ f H b s h g.
        ran_new a (applied_operator (step_operator op)) (target_type bs (AtVariable x)) (target_type cs (AtVariable x)) Int Int (ap variable_type (k x.text o)) refl x.text o 1 f H b s h tt
    ran_perform a (Step op (AtElement x i)) o bs cs k =
        ran_place a x i o.1 bs cs k _ _
        (λ j. ran_new_element a (applied_operator (step_operator op)) (target_type bs (AtElement x i)) (target_type cs (AtElement x i)) Int Int (ap element_type (k x.text o.0)) refl x.text j 1)
    ran_perform a (Evaluate e) o bs cs k = λ f H b s h g.
        twin_ran z Any a d W f H b (evaluate e bs call (at s (f ++ (H ++ b)))) (evaluate e cs called (at s (f ++ b))) _ _ (twin_value f H b h e o bs cs k s) (λ w t. ran_falls z Any a d W f H b t h tt)

    pub ran_optional : (a : Around) (action : Option Action) → OptionalActionIsOwn action → (bs cs : List Binding) → Alike bs cs → RanIn z Any a d W (perform_optional action bs call) (perform_optional action cs called)
    ran_optional a None o bs cs k = ran_falls z Any a d W
    ran_optional a (Some action) o bs cs k = ran_perform a action o bs cs k

    pub ran_declare : (a : Around) (t : Scalar) (ds : List Declarator) → DeclaratorsAreOwn ds → (v w : Visible) → AlikeIn v w → RanIn z Any a d W (declare t ds call v) (declare t ds called w)
    ran_declare a t [] o v w k = ran_falls z Any a d W
    ran_declare a t (y ∷ rest) o v w k = λ f H b s h g.
        let x = y.name.text in
        let v' = declared x (scope.Variable t) v in
        let w' = declared x (scope.Variable t) w in
        let k' : AlikeIn v' w' = alike_declared x (scope.Variable t) v w k in
        let f' : List Local = record { name = x; word = 0 } ∷ f in
        let h' : Fits z d W f' H b = record { own = (o.0, h.own); hidden = h.hidden; many = h.many; back = h.back; there = h.there; held = h.held } in
        twin_ran z Any a d W f' H b (evaluate_or 0 y.initial (in_scope v') call (at s (f' ++ (H ++ b)))) (evaluate_or 0 y.initial (in_scope w') called (at s (f' ++ b))) _ _
        (twin_or f' H b h' 0 y.initial o.1 (in_scope v') (in_scope w') k' s)
        (λ word r. ran_skip z a d W (Gives Falls (stored x word (at r (f' ++ (H ++ b))))) (Gives Falls (stored x word (at r (f' ++ b)))) (declare t rest call v') (declare t rest called w')
        (ran_store Loop x word o.0 f' H b r h' tt) (ran_declare a t rest o.2 v' w' k'))

    pub ran_start : (a : Around) (first : Beginning) → BeginningIsOwn first → (v w : Visible) → AlikeIn v w → RanIn z Any a d W (start first call v) (start first called w)
    ran_start a (Declares t ds) o v w k = ran_declare a t ds o v w k
    ran_start a (Performs action) o v w k = ran_optional a action o (in_scope v) (in_scope w) k

    pub ran_return : (a : Around) (e : Option Expr) → OptionalIsOwn e → (bs cs : List Binding) → Alike bs cs → RanIn z Any a d W (return e bs call) (return e cs called)
    ran_return a e o bs cs k = λ f H b s h g.
        twin_ran z Any a d W f H b (evaluate_or 0 e bs call (at s (f ++ (H ++ b)))) (evaluate_or 0 e cs called (at s (f ++ b))) _ _ (twin_or f H b h 0 e o bs cs k s)
        (λ w t. (Returns w, f, H, b, refl, refl, left_returns z d W f H b a w h, tt))

-- ---- continue

-- a scope that leaves its locals as many as they were leaves them all
pub put_block : (f H b : List Local) (c w : ℕ) (s : State) → left_scope (length (f ++ (H ++ b))) (at s (f ++ (with_local_word (hidden_name c) w H ++ b))) ≡ at s (f ++ (with_local_word (hidden_name c) w H ++ b))
put_block f H b c w s =
    let H' = with_local_word (hidden_name c) w H in
    let p = length-append f (H ++ b) in
    let p' = length-append H b in
    let q = length-append f (H' ++ b) in
    let q' = length-append H' b in
    let n = store_count (hidden_name c) w H in
    let e : length (f ++ (H' ++ b)) - length (f ++ (H ++ b)) ≡ 0 = omega arith in
    ap (λ i. at s (drop i (f ++ (H' ++ b)))) e

module _ (z : Shape) (Q : List Local → Type 0) (d : ℕ) (W : ℕ → Option ℕ) (call : Calls) (n : ℕ) (v : Visible) where
  pub ran_continue : (a : Around) → MayContinue a → Sits z a d → (at : ℕ) → RanIn z Q a d W (plain.execute (continuing a at) n call v) (λ s. Gives Continues s)
  ran_continue Outside may sits at' = absurd may
  ran_continue Loop may sits at' = λ f H b s h q. (Continues, f, H, b, refl, refl, (refl, h), q)
  ran_continue (Caught c) may sits at' = λ f H b s h q.
      let H' = with_local_word (hidden_name c) 0 H in
      let e = ap (left_scope (length (f ++ (H ++ b)))) (put_hidden z d W f H b s c 0 sits.1 h) ∙ put_block f H b c 0 s in
      subst (λ (t : State). Ran z Q (Caught c) d W (Gives Breaks t) (Gives Continues (at s (f ++ b)))) (sym e)
      (Continues, f, H', b, refl, refl, (refl, put_fits z d c W f H b 0 (omega (arith, sits.0)) h, word_stored H (hidden_name c) 0 (h.there c sits.1)), q)
