-- Guards set at most two variables for each operation that can lack a value.
use Rattle.std.proofs.Common.{◌≡◌, ℕ, suc, ◌+◌, ◌*◌, ◌≤◌, Bool, true, false, List, [], ◌∷◌, refl, arith}
use Rattle.std.specs.Prelude.{if◌then◌else◌}
use Rattle.std.proofs.Math.Nat.{max-le}
use Rattle.cc_words.specs.declared.operators.Binary as two
use Rattle.cc_words.specs.declared.operators.Binary.TheVariants.{Add, Sub, Mul, DivS, DivU, RemS, RemU, Shl, ShrS, ShrU, And, Or, Xor, Eq, Ne, LtS, LtU, LeS, LeU}
use Rattle.cc_words.specs.declared.operators.Width.{Width}
use Rattle.cc_simulation.specs.World.{Size}
use Rattle.cc_cminor_language.specs.Cminor.{Expression, Constant, Local, Unary, Binary, Load, Statement, Skip, Set, Store, Call, Read, Write, Sequence, If, Loop, Block, Exit, Return}
use Rattle.cc_cminor_language.specs.Size.{partial, partials, all_partials, code_partials}
use Rattle.cc_guard.specs.declared.known.Limit.{Limit}
use Rattle.cc_guard.specs.Guard.{Guarded, most, is_below, always, reads_left, elements_in, waits_as, waiting, waiting_if, with_binary, with_test, bounded, indexed, first_index, guarded, guarded_all, head, known_after, known_within, variables_after}
use Rattle.cc_guard.specs.Laws.{GuardsSetFew}

waits_next : (e : Expression) (g : Guarded) → (waits_as e g).next ≤ suc g.next
waits_next (Constant w) g = omega arith
waits_next (Local x) g = omega arith
waits_next (Unary op e) g = omega arith
waits_next (Binary op a b) g = omega arith
waits_next (Load w o i) g = omega arith

waiting_next : (g : Guarded) → (waiting g).next ≤ suc g.next
waiting_next g = waits_next g.value g

if_next : (b : Bool) (g : Guarded) → (waiting_if b g).next ≤ suc g.next
if_next true g = waiting_next g
if_next false g = omega arith

never : {A : Type 0} → true ≡ false → A
never e = absurd (let f : true ≡ false = e in cc)

-- an operator that is tested can lack a value
tested_partial : (ks : List Limit) (op : two.Binary) (b : Expression) → always ks op b ≡ false → partial op ≡ 1
tested_partial ks Add b e = never e
tested_partial ks Sub b e = never e
tested_partial ks Mul b e = never e
tested_partial ks DivS b e = refl
tested_partial ks DivU b e = refl
tested_partial ks RemS b e = refl
tested_partial ks RemU b e = refl
tested_partial ks Shl b e = refl
tested_partial ks ShrS b e = refl
tested_partial ks ShrU b e = refl
tested_partial ks And b e = never e
tested_partial ks Or b e = never e
tested_partial ks Xor b e = never e
tested_partial ks Eq b e = never e
tested_partial ks Ne b e = never e
tested_partial ks LtS b e = never e
tested_partial ks LtU b e = never e
tested_partial ks LeS b e = never e
tested_partial ks LeU b e = never e

module _ (objects : List Size) where
  abbrev after : Guarded → Expression → Guarded
  after g e = guarded objects g.known g.next e

  operator_few : (r : Bool) (op : two.Binary) (b : Expression) (n pa pb : ℕ) (a : Guarded) → always a.known op b ≡ r → a.next ≤ n + 2 * pa → ((g : Guarded) → (after g b).next ≤ g.next + 2 * pb)
      → (if r then with_binary op a (after a b) else with_test op (waiting_if (reads_left op) a) (waiting (after (waiting_if (reads_left op) a) b))).next ≤ n + 2 * (partial op + (pa + pb))
  operator_few true op b n pa pb a is le right = let x = right a in omega arith
  operator_few false op b n pa pb a is le right =
      let left = waiting_if (reads_left op) a in
      let x = if_next (reads_left op) a in
      let y = right left in
      let z = waiting_next (after left b) in
      let p = tested_partial a.known op b is in
      omega arith

  index_few : (r : Bool) (n p m : ℕ) (g : Guarded) → g.next ≤ n + 2 * p → (if r then g else bounded m (waiting g)).next ≤ n + 2 * suc p
  index_few true n p m g le = omega arith
  index_few false n p m g le = let x = waiting_next g in omega arith

  indexed_few : (ks : List Limit) (w : Width) (o n p : ℕ) (i : Expression) (g : Guarded) → g.next ≤ n + 2 * p → (indexed objects ks w o i g).next ≤ n + 2 * suc p
  indexed_few ks w o n p i g le = index_few (is_below (most ks i) (elements_in objects w o)) n p (elements_in objects w o) g le

  few : (e : Expression) (ks : List Limit) (n : ℕ) → (guarded objects ks n e).next ≤ n + 2 * partials e
  few (Constant w) ks n = omega arith
  few (Local x) ks n = omega arith
  few (Unary op e) ks n = few e ks n
  few (Binary op a b) ks n = operator_few (always (guarded objects ks n a).known op b) op b n (partials a) (partials b) (guarded objects ks n a) refl (few a ks n) (λ g. few b g.known g.next)
  few (Load w o i) ks n = indexed_few ks w o n (partials i) i (guarded objects ks n i) (few i ks n)

  all_few : (es : List Expression) (ks : List Limit) (n : ℕ) → (guarded_all objects ks n es).next ≤ n + 2 * all_partials es
  all_few [] ks n = omega arith
  all_few (e ∷ es) ks n =
      let g = guarded objects ks n e in
      let x = few e ks n in
      let y = all_few es g.known g.next in
      omega arith

  code_few : (n : ℕ) (s : Statement) (ks : List Limit) → variables_after objects n ks s ≤ n + 2 * code_partials s
  code_few n Skip ks = omega arith
  code_few n (Set x e) ks = few e ks n
  code_few n (Store w o i e) ks =
      let gi = first_index objects ks n w o i in
      let x = indexed_few ks w o n (partials i) i (guarded objects ks n i) (few i ks n) in
      let y = few e gi.known gi.next in
      omega arith
  code_few n (Call to f es) ks = all_few es ks n
  code_few n (Read to) ks = omega arith
  code_few n (Write e) ks = few e ks n
  code_few n (Sequence s t) ks = let x = code_few n s ks in let y = code_few n t (known_after objects n ks s) in max-le (omega arith) (omega arith)
  code_few n (If e s t) ks =
      let z = few e ks n in
      let x = code_few n s (known_within objects n true ks e) in
      let y = code_few n t (known_within objects n false ks e) in
      max-le (omega arith) (max-le (omega arith) (omega arith))
  code_few n (Loop s) ks = code_few n s (head objects n ks s)
  code_few n (Block s) ks = code_few n s ks
  code_few n (Exit k) ks = omega arith
  code_few n (Return e) ks = few e ks n

pub guards_set_few : GuardsSetFew
guards_set_few objects n s = code_few objects n s []
