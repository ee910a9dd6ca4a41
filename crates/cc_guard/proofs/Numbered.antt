-- The numbers in guarded code are below their limits, if the guards set no more variables than code may have.
use Rattle.std.proofs.Common.{ℕ, suc, ◌<◌, ◌≤◌, Bool, true, false, List, [], ◌∷◌, ◌++◌, arith, ◌≡◌, subst}
use Rattle.std.specs.Prelude.{if◌then◌else◌, max}
use Rattle.std.proofs.Math.Nat.{le-max_left, le-max_right}
use Rattle.cc_words.specs.declared.operators.Binary as two
use Rattle.cc_words.specs.declared.operators.Binary.TheVariants.{Add, Sub, Mul, DivS, DivU, RemS, RemU, Shl, ShrS, ShrU, And, Or, Xor, Eq, Ne, LtS, LtU, LeS, LeU}
use Rattle.cc_words.specs.declared.operators.Width.{Width}
use Rattle.cc_simulation.specs.World.{Size}
use Rattle.cc_cminor_language.specs.Cminor.{Expression, Constant, Local, Unary, Binary, Load, Statement, Skip, Set, Store, Call, Read, Write, Sequence, If, Loop, Block, Exit, Return}
use Rattle.cc_cminor_language.specs.Numbers.{most_variables, ExpressionBelow, ExpressionsBelow, StatementFits}
use Rattle.cc_guard.specs.declared.known.Limit.{Limit}
use Rattle.cc_guard.specs.Guard.{Guard, Put, Stop, StopBoth, Guarded, most, is_below, always, asked, reads_left, elements_in, waits_as, waiting, waiting_if, with_binary, with_test, bounded, indexed, first_index, stored_word, guards_then, guarded, guarded_all, head, known_after, known_within, code_after, guarded_code, has_guards, variables_after, variables_in, with_loop, guarded_function}

-- ---- guards

abbrev pub GuardsFit : List Guard → Type 0
GuardsFit [] = Unit {0}
GuardsFit (Put t e ∷ gs) = (t < most_variables) × ExpressionBelow most_variables e × GuardsFit gs
GuardsFit (Stop e ∷ gs) = ExpressionBelow most_variables e × GuardsFit gs
GuardsFit (StopBoth d e ∷ gs) = (ExpressionBelow most_variables d × ExpressionBelow most_variables e) × GuardsFit gs

both_fit : (gs is : List Guard) → GuardsFit gs → GuardsFit is → GuardsFit (gs ++ is)
both_fit [] is p q = q
both_fit (Put t e ∷ gs) is p q = (p.0, p.1, both_fit gs is p.2 q)
both_fit (Stop e ∷ gs) is p q = (p.0, both_fit gs is p.1 q)
both_fit (StopBoth d e ∷ gs) is p q = (p.0, both_fit gs is p.1 q)

then_fits : (b : ℕ) (gs : List Guard) (s : Statement) → GuardsFit gs → StatementFits s → StatementFits (guards_then b gs s)
then_fits b [] s p q = q
then_fits b (Put t e ∷ gs) s p q = ((p.0, p.1), then_fits b gs s p.2 q)
then_fits b (Stop e ∷ gs) s p q = ((p.0, tt, tt), then_fits b gs s p.1 q)
then_fits b (StopBoth d e ∷ gs) s p q = ((p.0.0, (p.0.1, tt, tt), tt), then_fits b gs s p.1 q)

-- ---- the next variable does not decrease

waits_grow : (e : Expression) (g : Guarded) → g.next ≤ (waits_as e g).next
waits_grow (Constant w) g = omega arith
waits_grow (Local x) g = omega arith
waits_grow (Unary op e) g = omega arith
waits_grow (Binary op a b) g = omega arith
waits_grow (Load w o i) g = omega arith

waiting_grows : (g : Guarded) → g.next ≤ (waiting g).next
waiting_grows g = waits_grow g.value g

if_grows : (b : Bool) (g : Guarded) → g.next ≤ (waiting_if b g).next
if_grows true g = waiting_grows g
if_grows false g = omega arith

module _ (objects : List Size) where
  abbrev after : Guarded → Expression → Guarded
  after g e = guarded objects g.known g.next e

  operator_grows : (r : Bool) (op : two.Binary) (b : Expression) (a : Guarded) → ((g : Guarded) → g.next ≤ (after g b).next)
      → a.next ≤ (if r then with_binary op a (after a b) else with_test op (waiting_if (reads_left op) a) (waiting (after (waiting_if (reads_left op) a) b))).next
  operator_grows true op b a right = right a
  operator_grows false op b a right =
      let left = waiting_if (reads_left op) a in
      let x = if_grows (reads_left op) a in
      let y = right left in
      let z = waiting_grows (after left b) in
      omega arith

  index_grows : (r : Bool) (n : ℕ) (g : Guarded) → g.next ≤ (if r then g else bounded n (waiting g)).next
  index_grows true n g = omega arith
  index_grows false n g = waiting_grows g

  indexed_grows : (ks : List Limit) (w : Width) (o : ℕ) (i : Expression) (g : Guarded) → g.next ≤ (indexed objects ks w o i g).next
  indexed_grows ks w o i g = index_grows (is_below (most ks i) (elements_in objects w o)) (elements_in objects w o) g

  grows : (e : Expression) (ks : List Limit) (n : ℕ) → n ≤ (guarded objects ks n e).next
  grows (Constant w) ks n = omega arith
  grows (Local x) ks n = omega arith
  grows (Unary op e) ks n = grows e ks n
  grows (Binary op a b) ks n =
      let x = grows a ks n in
      let y = operator_grows (always (guarded objects ks n a).known op b) op b (guarded objects ks n a) (λ g. grows b g.known g.next) in
      omega arith
  grows (Load w o i) ks n =
      let x = grows i ks n in
      let y = indexed_grows ks w o i (guarded objects ks n i) in
      omega arith

  all_grow : (es : List Expression) (ks : List Limit) (n : ℕ) → n ≤ (guarded_all objects ks n es).next
  all_grow [] ks n = omega arith
  all_grow (e ∷ es) ks n =
      let x = grows e ks n in
      let y = all_grow es (guarded objects ks n e).known (guarded objects ks n e).next in
      omega arith

  -- ---- expressions

  record IsFit (g : Guarded) : Type 0 where
    guards : GuardsFit g.before
    value : ExpressionBelow most_variables g.value

  put_fits : (g : Guarded) → suc g.next ≤ most_variables → IsFit g → IsFit (record { before = g.before ++ Put g.next g.value ∷ []; value = Local g.next; next = suc g.next; known = g.known })
  put_fits g le f = record { guards = both_fit g.before (Put g.next g.value ∷ []) f.guards (omega arith, f.value, tt); value = omega arith }

  waits_fit : (e : Expression) (g : Guarded) → (waits_as e g).next ≤ most_variables → IsFit g → IsFit (waits_as e g)
  waits_fit (Constant w) g le f = f
  waits_fit (Local x) g le f = f
  waits_fit (Unary op e) g le f = put_fits g le f
  waits_fit (Binary op a b) g le f = put_fits g le f
  waits_fit (Load w o i) g le f = put_fits g le f

  waiting_fits : (g : Guarded) → (waiting g).next ≤ most_variables → IsFit g → IsFit (waiting g)
  waiting_fits g le f = waits_fit g.value g le f

  if_fits : (b : Bool) (g : Guarded) → (waiting_if b g).next ≤ most_variables → IsFit g → IsFit (waiting_if b g)
  if_fits true g le f = waiting_fits g le f
  if_fits false g le f = f

  asked_fit : (op : two.Binary) (a b : Expression) → ExpressionBelow most_variables a → ExpressionBelow most_variables b → GuardsFit (asked op a b)
  asked_fit Add a b u v = tt
  asked_fit Sub a b u v = tt
  asked_fit Mul a b u v = tt
  asked_fit DivS a b u v = (v, (((v, tt), (u, tt)), tt))
  asked_fit DivU a b u v = (v, tt)
  asked_fit RemS a b u v = (v, (((v, tt), (u, tt)), tt))
  asked_fit RemU a b u v = (v, tt)
  asked_fit Shl a b u v = ((tt, v), tt)
  asked_fit ShrS a b u v = ((tt, v), tt)
  asked_fit ShrU a b u v = ((tt, v), tt)
  asked_fit And a b u v = tt
  asked_fit Or a b u v = tt
  asked_fit Xor a b u v = tt
  asked_fit Eq a b u v = tt
  asked_fit Ne a b u v = tt
  asked_fit LtS a b u v = tt
  asked_fit LtU a b u v = tt
  asked_fit LeS a b u v = tt
  asked_fit LeU a b u v = tt

  binary_fits : (op : two.Binary) (a b : Guarded) → IsFit a → IsFit b → IsFit (with_binary op a b)
  binary_fits op a b f g = record { guards = both_fit a.before b.before f.guards g.guards; value = (f.value, g.value) }

  test_fits : (op : two.Binary) (a b : Guarded) → IsFit a → IsFit b → IsFit (with_test op a b)
  test_fits op a b f g = record {
    guards = both_fit a.before (b.before ++ asked op a.value b.value) f.guards (both_fit b.before (asked op a.value b.value) g.guards (asked_fit op a.value b.value f.value g.value));
    value = (f.value, g.value);
  }

  operator_fits : (r : Bool) (op : two.Binary) (b : Expression) (a : Guarded)
      → (if r then with_binary op a (after a b) else with_test op (waiting_if (reads_left op) a) (waiting (after (waiting_if (reads_left op) a) b))).next ≤ most_variables
      → (a.next ≤ most_variables → IsFit a) → ((g : Guarded) → (after g b).next ≤ most_variables → IsFit (after g b))
      → IsFit (if r then with_binary op a (after a b) else with_test op (waiting_if (reads_left op) a) (waiting (after (waiting_if (reads_left op) a) b)))
  operator_fits true op b a le f right =
      let le' : (after a b).next ≤ most_variables = le in
      let x = grows b a.known a.next in
      binary_fits op a (after a b) (f (omega arith)) (right a le')
  operator_fits false op b a le f right =
      let left = waiting_if (reads_left op) a in
      let gb = after left b in
      let le' : (waiting gb).next ≤ most_variables = le in
      let x = if_grows (reads_left op) a in
      let y = grows b left.known left.next in
      let z = waiting_grows gb in
      test_fits op left (waiting gb) (if_fits (reads_left op) a (omega arith) (f (omega arith))) (waiting_fits gb le' (right left (omega arith)))

  index_fits : (r : Bool) (n : ℕ) (g : Guarded) → (if r then g else bounded n (waiting g)).next ≤ most_variables → (g.next ≤ most_variables → IsFit g) → IsFit (if r then g else bounded n (waiting g))
  index_fits true n g le f = f le
  index_fits false n g le f =
      let le' : (waiting g).next ≤ most_variables = le in
      let z = waiting_grows g in
      let x = waiting_fits g le' (f (omega arith)) in
      record { guards = both_fit (waiting g).before (Stop (Binary LeU (Constant n) (waiting g).value) ∷ []) x.guards ((tt, x.value), tt); value = x.value }

  indexed_fits : (ks : List Limit) (w : Width) (o : ℕ) (i : Expression) (g : Guarded) → (indexed objects ks w o i g).next ≤ most_variables → (g.next ≤ most_variables → IsFit g) → IsFit (indexed objects ks w o i g)
  indexed_fits ks w o i g le f = index_fits (is_below (most ks i) (elements_in objects w o)) (elements_in objects w o) g le f

  fits : (e : Expression) (ks : List Limit) (n : ℕ) → ExpressionBelow most_variables e → (guarded objects ks n e).next ≤ most_variables → IsFit (guarded objects ks n e)
  fits (Constant w) ks n u le = record { guards = tt; value = tt }
  fits (Local x) ks n u le = record { guards = tt; value = u }
  fits (Unary op e) ks n u le = let f = fits e ks n u le in record { guards = f.guards; value = f.value }
  fits (Binary op a b) ks n u le =
      operator_fits (always (guarded objects ks n a).known op b) op b (guarded objects ks n a) le (λ below. fits a ks n u.0 below) (λ g below. fits b g.known g.next u.1 below)
  fits (Load w o i) ks n u le =
      let f = indexed_fits ks w o i (guarded objects ks n i) le (λ below. fits i ks n u.1 below) in record { guards = f.guards; value = (u.0, f.value) }

  record AllFit (es : List Expression) (ks : List Limit) (n : ℕ) : Type 0 where
    guards : GuardsFit (guarded_all objects ks n es).before
    values : ExpressionsBelow most_variables (guarded_all objects ks n es).values

  all_fit : (es : List Expression) (ks : List Limit) (n : ℕ) → ExpressionsBelow most_variables es → (guarded_all objects ks n es).next ≤ most_variables → AllFit es ks n
  all_fit [] ks n u le = record { guards = tt; values = tt }
  all_fit (e ∷ es) ks n u le =
      let g = guarded objects ks n e in
      let x = all_grow es g.known g.next in
      let f = fits e ks n u.0 (omega arith) in
      let r = all_fit es g.known g.next u.1 le in
      record { guards = both_fit g.before (guarded_all objects g.known g.next es).before f.guards r.guards; values = (f.value, r.values) }

  -- ---- statements

  module _ (n : ℕ) where
    code_fits : (b : ℕ) (s : Statement) (ks : List Limit) → StatementFits s → variables_after objects n ks s ≤ most_variables → StatementFits (code_after objects n ks b s)
    code_fits b Skip ks u le = tt
    code_fits b (Set x e) ks u le = let f = fits e ks n u.1 le in then_fits b (guarded objects ks n e).before _ f.guards (u.0, f.value)
    code_fits b (Store w o i e) ks u le =
        let gi = first_index objects ks n w o i in
        let ge = stored_word objects gi e in
        let x = grows e gi.known gi.next in
        let fi = indexed_fits ks w o i (guarded objects ks n i) (omega arith) (λ below. fits i ks n u.1 below) in
        let fe = fits e gi.known gi.next u.2 le in
        then_fits b (gi.before ++ ge.before) _ (both_fit gi.before ge.before fi.guards fe.guards) (u.0, fi.value, fe.value)
    code_fits b (Call to f es) ks u le = let r = all_fit es ks n u.2 le in then_fits b (guarded_all objects ks n es).before _ r.guards (u.0, u.1, r.values)
    code_fits b (Read to) ks u le = u
    code_fits b (Write e) ks u le = let f = fits e ks n u le in then_fits b (guarded objects ks n e).before _ f.guards f.value
    code_fits b (Sequence s t) ks u le =
        let K = known_after objects n ks s in
        let x = le-max_left (variables_after objects n ks s) (variables_after objects n K t) in
        let y = le-max_right (variables_after objects n ks s) (variables_after objects n K t) in
        (code_fits b s ks u.0 (omega arith), code_fits b t K u.1 (omega arith))
    code_fits b (If e s t) ks u le =
        let g = guarded objects ks n e in
        let K = known_within objects n true ks e in
        let N = known_within objects n false ks e in
        let p = variables_after objects n K s in
        let q = variables_after objects n N t in
        let x = le-max_left g.next (max p q) in
        let y = le-max_right g.next (max p q) in
        let z = le-max_left p q in
        let v = le-max_right p q in
        let f = fits e ks n u.0 (omega arith) in
        then_fits b g.before _ f.guards (f.value, code_fits b s K u.1 (omega arith), code_fits b t N u.2 (omega arith))
    code_fits b (Loop s) ks u le = code_fits b s (head objects n ks s) u le
    code_fits b (Block s) ks u le = code_fits (suc b) s ks u le
    code_fits b (Exit k) ks u le = tt
    code_fits b (Return e) ks u le = let f = fits e ks n u le in then_fits b (guarded objects ks n e).before _ f.guards f.value

    pub function_fits : (s : Statement) → StatementFits s → variables_in objects n s ≤ most_variables → StatementFits (guarded_function objects n s)
    function_fits s u le = by (has_guards objects n s)
      where
        by : (r : Bool) → StatementFits (if r then with_loop (guarded_code objects n 0 s) else guarded_code objects n 0 s)
        by true = ((code_fits 0 s [] u le, tt), tt)
        by false = code_fits 0 s [] u le

    -- if there is a guard, the numbers of the code with the loop at its end are below their limits
    pub loop_fits : (s : Statement) → StatementFits s → variables_in objects n s ≤ most_variables → has_guards objects n s ≡ true → StatementFits (with_loop (guarded_code objects n 0 s))
    loop_fits s u le is = subst (λ b. StatementFits (if b then with_loop (guarded_code objects n 0 s) else guarded_code objects n 0 s)) is (function_fits s u le)
