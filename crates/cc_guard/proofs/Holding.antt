-- Code with words in variables does what the original code does, move by move, once the words are in their variables. The
-- variables below m have the same words in both, and those from m on hold the chosen words and are not set again. So it keeps up
-- as the original code does, its calls are right, and its numbers are within their limits.
use Rattle.std.proofs.Common.{◌≡◌, ℕ, zero, suc, ◌+◌, ◌<◌, ◌≤◌, ◌==◌, cond, Bool, true, false, List, [], ◌∷◌, length, Option, Some, None, inl, inr, refl, sym, ap, ◌∙◌, subst, arith}
use Rattle.std.specs.Prelude.{if◌then◌else◌}
use Rattle.std.proofs.lemmas.Bool.Decides.{nat_tests, eqb_tells}
use Rattle.cc_ast.specs.Tree.{External}
use Rattle.cc_c_semantics.specs.declared.mode.Mode.{Mode}
use Rattle.cc_words.specs.Operators.{apply_binary}
use Rattle.cc_simulation.specs.World.{World, stored, next_word, after_read, after_write}
use Rattle.cc_simulation.specs.Run.{Move, Goes, Calls, Returns, tried, run, work}
use Rattle.cc_simulation.specs.Meaning.{Meaning, call_effect}
use Rattle.cc_simulation.specs.Tracks.{Keeps, Tracks}
use Rattle.cc_simulation.specs.internal.Simulation.{Alike, Lockstep}
use Rattle.cc_simulation.proofs.Lockstep.{same_run, same_work}
use Rattle.cc_cminor_language.specs.Cminor.{Expression, Constant, Local, Unary, Binary, Load, Statement, Skip, Set, Store, Call, Read, Write, Sequence, If, Loop, Block, Exit, Return, Continuation, Ends, Then, Again, Leaving, Variables, value, values, then_value, put, put_result, Config, config, chosen, skips, exits, left_by, moves, first_variables, cminor_move, cminor_output, cminor_start}
use Rattle.cc_cminor_language.specs.Numbers.{most_variables, ExpressionBelow, ResultBelow, StatementBelow, StatementFits}
use Rattle.cc_cminor_language.specs.Variables.{above, above_result, above_expression, above_expressions, above_statement}
use Rattle.cc_cminor_language.specs.Pair.{AreCalls, KeepsUp}
use Rattle.cc_guard.specs.Held.{held_word, held_operand, held_test, held_in, put_first, with_words, Holding, IsHeld}
use Rattle.cc_guard.specs.internal.Fits.{Under, AllUnder}
use Rattle.cc_guard.proofs.Values.{Agree, put_there, put_elsewhere, same_value, same_values, under_more, all_under_more}
use Rattle.cc_guard.proofs.Matching.{Way, kept_after}

-- ---- code whose variables are below m

abbrev Apart : ℕ → Statement → Type 0
Apart m Skip = Unit {0}
Apart m (Set x e) = (x < m) × Under m e
Apart m (Store w o i e) = Under m i × Under m e
Apart m (Call to f es) = ResultBelow m to × AllUnder m es
Apart m (Read to) = ResultBelow m to
Apart m (Write e) = Under m e
Apart m (Sequence s t) = Apart m s × Apart m t
Apart m (If e s t) = Under m e × Apart m s × Apart m t
Apart m (Loop s) = Apart m s
Apart m (Block s) = Apart m s
Apart m (Exit k) = Unit {0}
Apart m (Return e) = Under m e

result_more : (to : Option ℕ) (n m : ℕ) → n ≤ m → ResultBelow n to → ResultBelow m to
result_more None n m le u = tt
result_more (Some x) n m le u = let lt : x < n = u in omega arith

apart_more : (s : Statement) (n m : ℕ) → n ≤ m → Apart n s → Apart m s
apart_more Skip n m le u = tt
apart_more (Set x e) n m le u = (let lt = u.0 in omega arith, under_more n m e le u.1)
apart_more (Store w o i e) n m le u = (under_more n m i le u.0, under_more n m e le u.1)
apart_more (Call to f es) n m le u = (result_more to n m le u.0, all_under_more n m es le u.1)
apart_more (Read to) n m le u = result_more to n m le u
apart_more (Write e) n m le u = under_more n m e le u
apart_more (Sequence s t) n m le u = (apart_more s n m le u.0, apart_more t n m le u.1)
apart_more (If e s t) n m le u = (under_more n m e le u.0, apart_more s n m le u.1, apart_more t n m le u.2)
apart_more (Loop s) n m le u = apart_more s n m le u
apart_more (Block s) n m le u = apart_more s n m le u
apart_more (Exit k) n m le u = tt
apart_more (Return e) n m le u = under_more n m e le u

above_ge : (count x : ℕ) → (count ≤ above count x) × (x < above count x)
above_ge count x = grind (arith, nat_tests)

result_above : (to : Option ℕ) (count : ℕ) → (count ≤ above_result count to) × ResultBelow (above_result count to) to
result_above None count = (omega arith, tt)
result_above (Some x) count = above_ge count x

expression_above : (e : Expression) (count : ℕ) → (count ≤ above_expression count e) × Under (above_expression count e) e
expression_above (Constant w) count = (omega arith, tt)
expression_above (Local x) count = above_ge count x
expression_above (Unary op a) count = expression_above a count
expression_above (Binary op a b) count =
    let f = expression_above a count in
    let g = expression_above b (above_expression count a) in
    let le = f.0 in
    let le' = g.0 in
    (omega arith, (under_more _ _ a le' f.1, g.1))
expression_above (Load width o a) count = expression_above a count

expressions_above : (es : List Expression) (count : ℕ) → (count ≤ above_expressions count es) × AllUnder (above_expressions count es) es
expressions_above [] count = (omega arith, tt)
expressions_above (e ∷ es) count =
    let f = expression_above e count in
    let g = expressions_above es (above_expression count e) in
    let le = f.0 in
    let le' = g.0 in
    (omega arith, (under_more _ _ e le' f.1, g.1))

apart_above : (s : Statement) (count : ℕ) → (count ≤ above_statement count s) × Apart (above_statement count s) s
apart_above Skip count = (omega arith, tt)
apart_above (Set y e) count =
    let f = above_ge count y in
    let g = expression_above e (above count y) in
    let le = f.0 in
    let lt = f.1 in
    let le' = g.0 in
    (omega arith, (omega arith, g.1))
apart_above (Store w o i e) count =
    let f = expression_above i count in
    let g = expression_above e (above_expression count i) in
    let le = f.0 in
    let le' = g.0 in
    (omega arith, (under_more _ _ i le' f.1, g.1))
apart_above (Call to h es) count =
    let f = result_above to count in
    let g = expressions_above es (above_result count to) in
    let le = f.0 in
    let le' = g.0 in
    (omega arith, (result_more to _ _ le' f.1, g.1))
apart_above (Read to) count = result_above to count
apart_above (Write e) count = expression_above e count
apart_above (Sequence s t) count =
    let f = apart_above s count in
    let g = apart_above t (above_statement count s) in
    let le = f.0 in
    let le' = g.0 in
    (omega arith, (apart_more s _ _ le' f.1, g.1))
apart_above (If e s t) count =
    let d = expression_above e count in
    let f = apart_above s (above_expression count e) in
    let g = apart_above t (above_statement (above_expression count e) s) in
    let le = d.0 in
    let le' = f.0 in
    let le'' = g.0 in
    (omega arith, (under_more (above_expression count e) _ e (omega arith) d.1, apart_more s _ _ le'' f.1, g.1))
apart_above (Loop s) count = apart_above s count
apart_above (Block s) count = apart_above s count
apart_above (Exit k) count = (omega arith, tt)
apart_above (Return e) count = expression_above e count

-- ---- words in their variables

abbrev Lie : List ℕ → (m : ℕ) → Variables → Type 0
Lie [] m l = Unit {0}
Lie (w ∷ ws) m l = (l m ≡ w) × Lie ws (suc m) l

put_after : (l : Variables) (t w x : ℕ) → t < x → put l t w x ≡ l x
put_after l t w x lt = let e : (t == x) ≡ false = grind (arith, nat_tests) in ap (λ b. cond b w (l x)) e

-- the words stay in their variables if a variable below m is set
lie_put : (ws : List ℕ) (m : ℕ) (l : Variables) (x w : ℕ) → x < m → Lie ws m l → Lie ws m (put l x w)
lie_put [] m l x w lt p = tt
lie_put (v ∷ vs) m l x w lt p = (put_after l x w m lt ∙ p.0, lie_put vs (suc m) l x w (omega arith) p.1)

lie_result : (ws : List ℕ) (m : ℕ) (l : Variables) (to : Option ℕ) (w : ℕ) → ResultBelow m to → Lie ws m l → Lie ws m (put_result l to w)
lie_result ws m l None w u p = p
lie_result ws m l (Some x) w u p = lie_put ws m l x w u p

agree_both : (n x w : ℕ) (m l : Variables) → Agree n m l → Agree n (put m x w) (put l x w)
agree_both n x w m l p = λ y lt. ap (λ a. cond (x == y) w a) (p y lt)

agree_result : (n : ℕ) (to : Option ℕ) (w : ℕ) (m l : Variables) → Agree n m l → Agree n (put_result m to w) (put_result l to w)
agree_result n None w m l p = p
agree_result n (Some x) w m l p = agree_both n x w m l p

word_there : (ws : List ℕ) (m w : ℕ) (l : Variables) (h : World) → Lie ws m l → value (held_word ws m w) l h ≡ Some w
word_there [] m w l h p = refl
word_there (v ∷ vs) m w l h p = elim (eqb_tells v w) [
  | inl (e, same) ↦ subst (λ b. value (if b then Local m else held_word vs (suc m) w) l h ≡ Some w) (sym e) (ap Some (p.0 ∙ same))
  | inr (e, other) ↦ subst (λ b. value (if b then Local m else held_word vs (suc m) w) l h ≡ Some w) (sym e) (word_there vs (suc m) w l h p.1)
]

-- ---- each word is put into its variable

abbrev puts : List ℕ → (m : ℕ) → Variables → Variables
puts [] m l = l
puts (w ∷ ws) m l = puts ws (suc m) (put l m w)

puts_below : (ws : List ℕ) (m : ℕ) (l : Variables) (x : ℕ) → x < m → puts ws m l x ≡ l x
puts_below [] m l x lt = refl
puts_below (w ∷ ws) m l x lt = puts_below ws (suc m) (put l m w) x (omega arith) ∙ put_elsewhere l m w x lt

puts_lie : (ws : List ℕ) (m : ℕ) (l : Variables) → Lie ws m (puts ws m l)
puts_lie [] m l = tt
puts_lie (w ∷ ws) m l = (puts_below ws (suc m) (put l m w) m (omega arith) ∙ put_there l m w, puts_lie ws (suc m) (put l m w))

-- how many moves it takes to put the words into their variables: three for each word
abbrev long : List ℕ → ℕ
long [] = 0
long (w ∷ ws) = suc (suc (suc (long ws)))

puts_way : (ws : List ℕ) (m : ℕ) (s : Statement) (l : Variables) (h : World) → Way (long ws) (config (put_first ws m s) Ends l h) (config s Ends (puts ws m l) h)
puts_way [] m s l h = (refl, refl)
puts_way (w ∷ ws) m s l h =
    let rest = put_first ws (suc m) s in
    (config (Set m (Constant w)) (Then rest Ends) l h, refl, (config Skip (Then rest Ends) (put l m w) h, refl, (config rest Ends (put l m w) h, refl, puts_way ws (suc m) s (put l m w) h)))

module _ (ws : List ℕ) (m : ℕ) where
  -- ---- a condition has the same value

  operand_value : (e : Expression) (k l : Variables) (h : World) → Under m e → Agree m k l → Lie ws m k → value (held_operand ws m e) k h ≡ value e l h
  operand_value (Constant w) k l h u p q = word_there ws m w k h q
  operand_value (Local x) k l h u p q = same_value (Local x) m k l h u p
  operand_value (Unary op e) k l h u p q = same_value (Unary op e) m k l h u p
  operand_value (Binary op a b) k l h u p q = same_value (Binary op a b) m k l h u p
  operand_value (Load w o i) k l h u p q = same_value (Load w o i) m k l h u p

  test_value : (e : Expression) (k l : Variables) (h : World) → Under m e → Agree m k l → Lie ws m k → value (held_test ws m e) k h ≡ value e l h
  test_value (Constant w) k l h u p q = refl
  test_value (Local x) k l h u p q = same_value (Local x) m k l h u p
  test_value (Unary op e) k l h u p q = same_value (Unary op e) m k l h u p
  test_value (Binary op a b) k l h u p q =
      ap (λ o. then_value o (λ x. then_value (value (held_operand ws m b) k h) (λ y. apply_binary op x y))) (operand_value a k l h u.0 p q)
      ∙ ap (λ o. then_value (value a l h) (λ x. then_value o (λ y. apply_binary op x y))) (operand_value b k l h u.1 p q)
  test_value (Load w o i) k l h u p q = same_value (Load w o i) m k l h u p

  -- ---- the two runs side by side

  abbrev held_next : Continuation → Continuation
  held_next Ends = Ends
  held_next (Then s κ) = Then (held_in ws m s) (held_next κ)
  held_next (Again s κ) = Again (held_in ws m s) (held_next κ)
  held_next (Leaving κ) = Leaving (held_next κ)

  abbrev NextApart : Continuation → Type 0
  NextApart Ends = Unit {0}
  NextApart (Then s κ) = Apart m s × NextApart κ
  NextApart (Again s κ) = Apart m s × NextApart κ
  NextApart (Leaving κ) = NextApart κ

  record Same (c d : Config) : Type 0 where
    is : d ≡ config (held_in ws m c.statement) (held_next c.next) d.variables c.world
    agree : Agree m d.variables c.variables
    lie : Lie ws m d.variables
    apart : Apart m c.statement
    next : NextApart c.next

  same_at : (s : Statement) (κ : Continuation) (l k : Variables) (h : World) → Agree m k l → Lie ws m k → Apart m s → NextApart κ → Same (config s κ l h) (config (held_in ws m s) (held_next κ) k h)
  same_at s κ l k h p q u v = record { is = refl; agree = p; lie = q; apart = u; next = v }

  tried_alike : {A : Type 0} (o p : Option A) (f g : A → Move Config) → p ≡ o → ((a : A) → Alike Same (f a) (g a)) → Alike Same (tried o f) (tried p g)
  tried_alike {A} o p f g e h = subst (λ (r : Option A). Alike Same (tried o f) (tried r g)) (sym e) (by o)
    where
      by : (o : Option A) → Alike Same (tried o f) (tried o g)
      by None = tt
      by (Some a) = h a

  skips_alike : (κ : Continuation) (l k : Variables) (h : World) → Agree m k l → Lie ws m k → NextApart κ → Alike Same (skips κ l h) (skips (held_next κ) k h)
  skips_alike Ends l k h p q v = refl
  skips_alike (Then s κ) l k h p q v = same_at s κ l k h p q v.0 v.1
  skips_alike (Again s κ) l k h p q v = same_at s (Again s κ) l k h p q v.0 v
  skips_alike (Leaving κ) l k h p q v = same_at Skip κ l k h p q tt v

  left_alike : (j : ℕ) (κ : Continuation) (l k : Variables) (h : World) → Agree m k l → Lie ws m k → NextApart κ → Same (config (left_by j) κ l h) (config (left_by j) (held_next κ) k h)
  left_alike zero κ l k h p q v = same_at Skip κ l k h p q tt v
  left_alike (suc j) κ l k h p q v = same_at (Exit j) κ l k h p q tt v

  exits_alike : (j : ℕ) (κ : Continuation) (l k : Variables) (h : World) → Agree m k l → Lie ws m k → NextApart κ → Alike Same (exits j κ l h) (exits j (held_next κ) k h)
  exits_alike j Ends l k h p q v = tt
  exits_alike j (Then s κ) l k h p q v = same_at (Exit j) κ l k h p q tt v.1
  exits_alike j (Again s κ) l k h p q v = same_at (Exit j) κ l k h p q tt v.1
  exits_alike j (Leaving κ) l k h p q v = left_alike j κ l k h p q v

  chosen_alike : (w : ℕ) (s t : Statement) (κ : Continuation) (l k : Variables) (h : World) → Agree m k l → Lie ws m k → Apart m s → Apart m t → NextApart κ → Same (config (chosen w s t) κ l h) (config (chosen w (held_in ws m s) (held_in ws m t)) (held_next κ) k h)
  chosen_alike zero s t κ l k h p q u v z = same_at t κ l k h p q v z
  chosen_alike (suc w) s t κ l k h p q u v z = same_at s κ l k h p q u z

  alike : (s : Statement) (κ : Continuation) (l k : Variables) (h : World) → Agree m k l → Lie ws m k → Apart m s → NextApart κ → Alike Same (moves s κ l h) (moves (held_in ws m s) (held_next κ) k h)
  alike Skip κ l k h p q u v = skips_alike κ l k h p q v
  alike (Set x e) κ l k h p q u v =
      tried_alike (value e l h) (value e k h) (λ w. Goes (config Skip κ (put l x w) h)) (λ w. Goes (config Skip (held_next κ) (put k x w) h)) (same_value e m k l h u.1 p)
      (λ w. same_at Skip κ (put l x w) (put k x w) h (agree_both m x w k l p) (lie_put ws m k x w u.0 q) tt v)
  alike (Store width o i e) κ l k h p q u v =
      tried_alike (value i l h) (value i k h) (λ j. tried (value e l h) (λ w. tried (stored h width o j w) (λ g. Goes (config Skip κ l g)))) (λ j. tried (value e k h) (λ w. tried (stored h width o j w) (λ g. Goes (config Skip (held_next κ) k g)))) (same_value i m k l h u.0 p)
      (λ j. tried_alike (value e l h) (value e k h) (λ w. tried (stored h width o j w) (λ g. Goes (config Skip κ l g))) (λ w. tried (stored h width o j w) (λ g. Goes (config Skip (held_next κ) k g))) (same_value e m k l h u.1 p)
      (λ w. tried_alike (stored h width o j w) (stored h width o j w) (λ g. Goes (config Skip κ l g)) (λ g. Goes (config Skip (held_next κ) k g)) refl (λ g. same_at Skip κ l k g p q tt v)))
  alike (Call to f es) κ l k h p q u v =
      tried_alike (values es l h) (values es k h) (λ ws. Calls (record { function = f; arguments = ws; world = h }) (λ a. config Skip κ (put_result l to a.value) a.world))
      (λ ws. Calls (record { function = f; arguments = ws; world = h }) (λ a. config Skip (held_next κ) (put_result k to a.value) a.world)) (same_values es m k l h u.1 p)
      (λ vs. (refl, λ a. same_at Skip κ (put_result l to a.value) (put_result k to a.value) a.world (agree_result m to a.value k l p) (lie_result ws m k to a.value u.0 q) tt v))
  alike (Read to) κ l k h p q u v =
      same_at Skip κ (put_result l to (next_word h)) (put_result k to (next_word h)) (after_read h) (agree_result m to (next_word h) k l p) (lie_result ws m k to (next_word h) u q) tt v
  alike (Write e) κ l k h p q u v =
      tried_alike (value e l h) (value e k h) (λ w. Goes (config Skip κ l (after_write w h))) (λ w. Goes (config Skip (held_next κ) k (after_write w h))) (same_value e m k l h u p)
      (λ w. same_at Skip κ l k (after_write w h) p q tt v)
  alike (Sequence s t) κ l k h p q u v = same_at s (Then t κ) l k h p q u.0 (u.1, v)
  alike (If e s t) κ l k h p q u v =
      tried_alike (value e l h) (value (held_test ws m e) k h) (λ w. Goes (config (chosen w s t) κ l h)) (λ w. Goes (config (chosen w (held_in ws m s) (held_in ws m t)) (held_next κ) k h)) (test_value e k l h u.0 p q)
      (λ w. chosen_alike w s t κ l k h p q u.1 u.2 v)
  alike (Loop s) κ l k h p q u v = same_at s (Again s κ) l k h p q u (u, v)
  alike (Block s) κ l k h p q u v = same_at s (Leaving κ) l k h p q u v
  alike (Exit j) κ l k h p q u v = exits_alike j κ l k h p q v
  alike (Return e) κ l k h p q u v =
      tried_alike (value e l h) (value e k h) (λ w. Returns (record { value = w; world = h })) (λ w. Returns (record { value = w; world = h })) (same_value e m k l h u p) (λ w. refl)

  lock : Lockstep cminor_move cminor_output cminor_move cminor_output Same
  lock = record {
    outputs = λ c d r. ap cminor_output r.is;
    alike = λ c d r. subst (λ x. Alike Same (cminor_move c) (cminor_move x)) (sym r.is) (alike c.statement c.next c.variables d.variables c.world r.agree r.lie r.apart r.next);
  }

  -- ---- calls and numbers

  calls_in : (unit : List External) (s : Statement) → AreCalls unit s → AreCalls unit (held_in ws m s)
  calls_in unit Skip h = h
  calls_in unit (Set x e) h = h
  calls_in unit (Store w o i e) h = h
  calls_in unit (Call to f es) h = h
  calls_in unit (Read to) h = h
  calls_in unit (Write e) h = h
  calls_in unit (Sequence s t) h = (calls_in unit s h.0, calls_in unit t h.1)
  calls_in unit (If e s t) h = (calls_in unit s h.0, calls_in unit t h.1)
  calls_in unit (Loop s) h = calls_in unit s h
  calls_in unit (Block s) h = calls_in unit s h
  calls_in unit (Exit k) h = h
  calls_in unit (Return e) h = h

word_below : (ws : List ℕ) (m w top : ℕ) → m + length ws ≤ top → ExpressionBelow top (held_word ws m w)
word_below [] m w top le = tt
word_below (v ∷ vs) m w top le = by (v == w) (word_below vs (suc m) w top (omega arith))
  where
    by : (b : Bool) → ExpressionBelow top (held_word vs (suc m) w) → ExpressionBelow top (if b then Local m else held_word vs (suc m) w)
    by true rest = omega arith
    by false rest = rest

module _ (ws : List ℕ) (m top : ℕ) (le : m + length ws ≤ top) where
  operand_below : (e : Expression) → ExpressionBelow top e → ExpressionBelow top (held_operand ws m e)
  operand_below (Constant w) u = word_below ws m w top le
  operand_below (Local x) u = u
  operand_below (Unary op e) u = u
  operand_below (Binary op a b) u = u
  operand_below (Load w o i) u = u

  test_below : (e : Expression) → ExpressionBelow top e → ExpressionBelow top (held_test ws m e)
  test_below (Constant w) u = u
  test_below (Local x) u = u
  test_below (Unary op e) u = u
  test_below (Binary op a b) u = (operand_below a u.0, operand_below b u.1)
  test_below (Load w o i) u = u

  in_below : (s : Statement) → StatementBelow top s → StatementBelow top (held_in ws m s)
  in_below Skip u = u
  in_below (Set x e) u = u
  in_below (Store w o i e) u = u
  in_below (Call to f es) u = u
  in_below (Read to) u = u
  in_below (Write e) u = u
  in_below (Sequence s t) u = (in_below s u.0, in_below t u.1)
  in_below (If e s t) u = (test_below e u.0, in_below s u.1, in_below t u.2)
  in_below (Loop s) u = in_below s u
  in_below (Block s) u = in_below s u
  in_below (Exit k) u = u
  in_below (Return e) u = u

first_below : (ws : List ℕ) (m top : ℕ) (s : Statement) → m + length ws ≤ top → StatementBelow top s → StatementBelow top (put_first ws m s)
first_below [] m top s le u = u
first_below (w ∷ ws) m top s le u = ((omega arith, tt), first_below ws (suc m) top s (omega arith) u)

first_calls : (ws : List ℕ) (m : ℕ) (unit : List External) (s : Statement) → AreCalls unit s → AreCalls unit (put_first ws m s)
first_calls [] m unit s h = h
first_calls (w ∷ ws) m unit s h = (tt, first_calls ws (suc m) unit s h)

-- ---- the code keeps up

abbrev nothing_related : Config → Config → Type 0
nothing_related c d = ⊥

words_track : (meaning : Meaning) (f rate : ℕ) (s : Statement) (ws : List ℕ) → Tracks meaning f rate cminor_move cminor_output (cminor_start s) → Tracks meaning f rate cminor_move cminor_output (cminor_start (with_words ws (above_statement 0 s) s))
words_track meaning f rate s ws tracks opened below args h is_call n =
    let m = above_statement 0 s in
    let t = tracks opened below args h is_call n in
    let k = t.2 in
    let e = call_effect meaning (suc opened) in
    let owed = meaning.body n opened f args h in
    let l = first_variables args in
    let c = cminor_start s args h in
    let d = config (held_in ws m s) Ends (puts ws m l) h in
    let same : Same ws m c d = same_at ws m s Ends l (puts ws m l) h (λ x lt. puts_below ws m l x lt) (puts_lie ws m l) (apart_above s 0).1 tt in
    let r = same_run (Same ws m) cminor_move cminor_output cminor_move cminor_output e (lock ws m) k.moves k.steps c d same in
    let w = same_work (Same ws m) cminor_move cminor_output cminor_move cminor_output e (lock ws m) k.moves k.steps c d same in
    let x : Keeps rate n owed (work cminor_move e k.moves k.steps d) (run cminor_move cminor_output e k.moves k.steps d) =
    subst (λ v. Keeps rate n owed v (run cminor_move cminor_output e k.moves k.steps d)) w (subst (Keeps rate n owed (work cminor_move e k.moves k.steps c)) r k.keeps) in
    let y = kept_after e nothing_related (λ a b z. absurd z) (λ a b z. absurd z) (long ws) rate n owed (cminor_start (with_words ws m s) args h) d (puts_way ws m (held_in ws m s) l h) (k.moves, k.steps, x) in
    (y.0, y.1, record { moves = y.0; steps = y.1; few = omega arith; few_steps = omega arith; keeps = y.2 })

-- what the type of a pair guarantees about its code
pub record IsSound (mode : Mode) (unit : List External) (f : ℕ) (s : Statement) : Type 0 where
  pub calls : AreCalls unit s
  pub numbers : StatementFits s
  pub keeps_up : KeepsUp mode unit f s

words_sound : (mode : Mode) (unit : List External) (f : ℕ) (s t : Statement) → IsSound mode unit f s → Holding s t → IsSound mode unit f t
words_sound mode unit f s t is p =
    let m = above_statement 0 s in
    subst (λ (x : Statement). IsSound mode unit f x) (sym p.is) (record {
      calls = first_calls p.words m unit (held_in p.words m s) (calls_in p.words m unit s is.calls);
      numbers = first_below p.words m most_variables (held_in p.words m s) p.fit (in_below p.words m most_variables p.fit s is.numbers);
      keeps_up = λ meaning means. words_track meaning f 1 s p.words (is.keeps_up meaning means);
    })

pub held_sound : (mode : Mode) (unit : List External) (f : ℕ) (s t : Statement) → IsSound mode unit f s → IsHeld s t → IsSound mode unit f t
held_sound mode unit f s t is (inl e) = subst (λ (x : Statement). IsSound mode unit f x) (sym e) is
held_sound mode unit f s t is (inr p) = words_sound mode unit f s t is p
