-- How many nodes of RTL guarded code needs: at most eleven more for each operation that can lack a value, and one for the loop at its end.
use Rattle.std.proofs.Common.{◌≡◌, ℕ, suc, ◌+◌, ◌*◌, ◌≤◌, Bool, true, false, List, [], ◌∷◌, ◌++◌, refl, ap, arith}
use Rattle.std.specs.Prelude.{if◌then◌else◌}
use Rattle.cc_words.specs.declared.operators.Binary as two
use Rattle.cc_words.specs.declared.operators.Binary.TheVariants.{Add, Sub, Mul, DivS, DivU, RemS, RemU, Shl, ShrS, ShrU, And, Or, Xor, Eq, Ne, LtS, LtU, LeS, LeU}
use Rattle.cc_words.specs.declared.operators.Width.{Width}
use Rattle.cc_simulation.specs.World.{Size}
use Rattle.cc_cminor_language.specs.Cminor.{Expression, Constant, Local, Unary, Binary, Load, Statement, Skip, Set, Store, Call, Read, Write, Sequence, If, Loop, Block, Exit, Return}
use Rattle.cc_rtl.specs.Size.{into_nodes, operand_nodes, operands_nodes, statement_nodes}
use Rattle.cc_cminor_language.specs.Size.{statement_size, partial, partials, all_partials, code_partials}
use Rattle.cc_rtl.specs.Size.{function_nodes}
use Rattle.cc_rtl.proofs.Sizes.{nodes_few}
use Rattle.cc_guard.specs.declared.known.Limit.{Limit}
use Rattle.cc_guard.specs.Guard.{Guard, Put, Stop, StopBoth, Guarded, most, is_below, always, asked, reads_left, elements_in, waits_as, waiting, waiting_if, with_binary, with_test, bounded, indexed, first_index, stored_word, guards_then, guarded, guarded_all, head, known_after, known_within, code_after, guarded_code, has_guards, with_loop, guarded_function}

-- ---- guards

abbrev guards_nodes : List Guard → ℕ
guards_nodes [] = 0
guards_nodes (Put t e ∷ gs) = into_nodes e + guards_nodes gs
guards_nodes (Stop e ∷ gs) = suc (operand_nodes e + guards_nodes gs)
guards_nodes (StopBoth d e ∷ gs) = suc (suc (operand_nodes d + operand_nodes e + guards_nodes gs))

both_nodes : (gs is : List Guard) → guards_nodes (gs ++ is) ≡ guards_nodes gs + guards_nodes is
both_nodes [] is = omega arith
both_nodes (Put t e ∷ gs) is = let h = both_nodes gs is in omega arith
both_nodes (Stop e ∷ gs) is = let h = both_nodes gs is in omega arith
both_nodes (StopBoth d e ∷ gs) is = let h = both_nodes gs is in omega arith

then_nodes : (b : ℕ) (gs : List Guard) (s : Statement) → statement_nodes (guards_then b gs s) ≡ guards_nodes gs + statement_nodes s
then_nodes b [] s = omega arith
then_nodes b (Put t e ∷ gs) s = let h = then_nodes b gs s in omega arith
then_nodes b (Stop e ∷ gs) s = let h = then_nodes b gs s in omega arith
then_nodes b (StopBoth d e ∷ gs) s = let h = then_nodes b gs s in omega arith

-- how many nodes put a guarded expression into a register and hold it as an operand, if the expression itself needs `into`
-- and `operand` nodes and has `more` operations that can lack a value
record Few (into operand more : ℕ) (g : Guarded) : Type 0 where
  put : guards_nodes g.before + into_nodes g.value ≤ into + 11 * more
  used : guards_nodes g.before + operand_nodes g.value ≤ operand + 11 * more

-- an operand that waits is at most one node
record FewWaiting (operand more : ℕ) (g : Guarded) : Type 0 where
  used : guards_nodes g.before + operand_nodes g.value ≤ operand + 11 * more
  one : operand_nodes g.value ≤ 1

module _ (objects : List Size) where
  few_waits : (into operand more : ℕ) (e : Expression) (g : Guarded) → g.value ≡ e → Few into operand more g → FewWaiting operand more (waits_as e g)
  few_waits into operand more (Constant w) g e f = record { used = f.used; one = let c = ap operand_nodes e in omega arith }
  few_waits into operand more (Local x) g e f = record { used = f.used; one = let c = ap operand_nodes e in omega arith }
  few_waits into operand more (Unary op x) g e f = let a = f.used in let c = ap operand_nodes e in let d = ap into_nodes e in let s = both_nodes g.before (Put g.next g.value ∷ []) in record { used = omega arith; one = omega arith }
  few_waits into operand more (Binary op x y) g e f = let a = f.used in let c = ap operand_nodes e in let d = ap into_nodes e in let s = both_nodes g.before (Put g.next g.value ∷ []) in record { used = omega arith; one = omega arith }
  few_waits into operand more (Load w o i) g e f = let a = f.used in let c = ap operand_nodes e in let d = ap into_nodes e in let s = both_nodes g.before (Put g.next g.value ∷ []) in record { used = omega arith; one = omega arith }

  few_waiting : (into operand more : ℕ) (g : Guarded) → Few into operand more g → FewWaiting operand more (waiting g)
  few_waiting into operand more g f = few_waits into operand more g.value g refl f

  few_if : (b : Bool) (into operand more : ℕ) (g : Guarded) → Few into operand more g → guards_nodes (waiting_if b g).before + operand_nodes (waiting_if b g).value ≤ operand + 11 * more
  few_if true into operand more g f = (few_waiting into operand more g f).used
  few_if false into operand more g f = f.used

  asked_few : (op : two.Binary) (into operand more : ℕ) (a : Guarded) (b : Expression) → Few into operand more a → operand_nodes b ≤ 1 → guards_nodes (asked op (waiting_if (reads_left op) a).value b) ≤ 11 * partial op
  asked_few Add into operand more a b f le = omega arith
  asked_few Sub into operand more a b f le = omega arith
  asked_few Mul into operand more a b f le = omega arith
  asked_few DivS into operand more a b f le = let x = (few_waiting into operand more a f).one in omega arith
  asked_few DivU into operand more a b f le = omega arith
  asked_few RemS into operand more a b f le = let x = (few_waiting into operand more a f).one in omega arith
  asked_few RemU into operand more a b f le = omega arith
  asked_few Shl into operand more a b f le = omega arith
  asked_few ShrS into operand more a b f le = omega arith
  asked_few ShrU into operand more a b f le = omega arith
  asked_few And into operand more a b f le = omega arith
  asked_few Or into operand more a b f le = omega arith
  asked_few Xor into operand more a b f le = omega arith
  asked_few Eq into operand more a b f le = omega arith
  asked_few Ne into operand more a b f le = omega arith
  asked_few LtS into operand more a b f le = omega arith
  asked_few LtU into operand more a b f le = omega arith
  asked_few LeS into operand more a b f le = omega arith
  asked_few LeU into operand more a b f le = omega arith

  abbrev after : Guarded → Expression → Guarded
  after g e = guarded objects g.known g.next e

  operator_few : (r : Bool) (op : two.Binary) (b : Expression) (ia oa pa ib ob pb : ℕ) (a : Guarded) → Few ia oa pa a → ((g : Guarded) → Few ib ob pb (after g b))
      → Few (suc (oa + ob)) (suc (oa + ob)) (partial op + (pa + pb)) (if r then with_binary op a (after a b) else with_test op (waiting_if (reads_left op) a) (waiting (after (waiting_if (reads_left op) a) b)))
  operator_few true op b ia oa pa ib ob pb a f right =
      let x = f.used in
      let y = (right a).used in
      let s = both_nodes a.before (after a b).before in
      record { put = omega arith; used = omega arith }
  operator_few false op b ia oa pa ib ob pb a f right =
      let left = waiting_if (reads_left op) a in
      let x = few_if (reads_left op) ia oa pa a f in
      let g = waiting (after left b) in
      let w = few_waiting ib ob pb (after left b) (right left) in
      let y = w.used in
      let z = asked_few op ia oa pa a g.value f w.one in
      let s = both_nodes left.before (g.before ++ asked op left.value g.value) in
      let t = both_nodes g.before (asked op left.value g.value) in
      record { put = omega arith; used = omega arith }

  index_few : (r : Bool) (into operand more most : ℕ) (g : Guarded) → Few into operand more g → guards_nodes (if r then g else bounded most (waiting g)).before + operand_nodes (if r then g else bounded most (waiting g)).value ≤ operand + 11 * suc more
  index_few true into operand more most g f = let x = f.used in omega arith
  index_few false into operand more most g f =
      let w = few_waiting into operand more g f in
      let x = w.used in
      let y = w.one in
      let s = both_nodes (waiting g).before (Stop (Binary LeU (Constant most) (waiting g).value) ∷ []) in
      omega arith

  indexed_few : (into operand more : ℕ) (ks : List Limit) (w : Width) (o : ℕ) (i : Expression) (g : Guarded) → Few into operand more g → guards_nodes (indexed objects ks w o i g).before + operand_nodes (indexed objects ks w o i g).value ≤ operand + 11 * suc more
  indexed_few into operand more ks w o i g f = index_few (is_below (most ks i) (elements_in objects w o)) into operand more (elements_in objects w o) g f

  few : (e : Expression) (ks : List Limit) (n : ℕ) → Few (into_nodes e) (operand_nodes e) (partials e) (guarded objects ks n e)
  few (Constant w) ks n = record { put = omega arith; used = omega arith }
  few (Local x) ks n = record { put = omega arith; used = omega arith }
  few (Unary op e) ks n = let a = (few e ks n).used in record { put = omega arith; used = omega arith }
  few (Binary op a b) ks n =
      operator_few (always (guarded objects ks n a).known op b) op b (into_nodes a) (operand_nodes a) (partials a) (into_nodes b) (operand_nodes b) (partials b) (guarded objects ks n a) (few a ks n) (λ g. few b g.known g.next)
  few (Load w o i) ks n =
      let x = indexed_few (into_nodes i) (operand_nodes i) (partials i) ks w o i (guarded objects ks n i) (few i ks n) in
      record { put = omega arith; used = omega arith }

  all_few : (es : List Expression) (ks : List Limit) (n : ℕ) → guards_nodes (guarded_all objects ks n es).before + operands_nodes (guarded_all objects ks n es).values ≤ operands_nodes es + 11 * all_partials es
  all_few [] ks n = omega arith
  all_few (e ∷ es) ks n =
      let g = guarded objects ks n e in
      let x = (few e ks n).used in
      let y = all_few es g.known g.next in
      let s = both_nodes g.before (guarded_all objects g.known g.next es).before in
      omega arith

  code_nodes : (n b : ℕ) (ks : List Limit) (s : Statement) → statement_nodes (code_after objects n ks b s) ≤ statement_nodes s + 11 * code_partials s
  code_nodes n b ks Skip = omega arith
  code_nodes n b ks (Set x e) = let g = guarded objects ks n e in let a = (few e ks n).put in let c = then_nodes b g.before (Set x g.value) in omega arith
  code_nodes n b ks (Store w o i e) =
      let gi = first_index objects ks n w o i in
      let ge = stored_word objects gi e in
      let a = indexed_few (into_nodes i) (operand_nodes i) (partials i) ks w o i (guarded objects ks n i) (few i ks n) in
      let d = (few e gi.known gi.next).used in
      let c = then_nodes b (gi.before ++ ge.before) (Store w o gi.value ge.value) in
      let s = both_nodes gi.before ge.before in
      omega arith
  code_nodes n b ks (Call to f es) = let g = guarded_all objects ks n es in let a = all_few es ks n in let c = then_nodes b g.before (Call to f g.values) in omega arith
  code_nodes n b ks (Read to) = omega arith
  code_nodes n b ks (Write e) = let g = guarded objects ks n e in let a = (few e ks n).used in let c = then_nodes b g.before (Write g.value) in omega arith
  code_nodes n b ks (Sequence s t) = let a = code_nodes n b ks s in let c = code_nodes n b (known_after objects n ks s) t in omega arith
  code_nodes n b ks (If e s t) =
      let g = guarded objects ks n e in
      let a = (few e ks n).used in
      let c = code_nodes n b (known_within objects n true ks e) s in
      let f = code_nodes n b (known_within objects n false ks e) t in
      let d = then_nodes b g.before (If g.value (code_after objects n (known_within objects n true ks e) b s) (code_after objects n (known_within objects n false ks e) b t)) in
      omega arith
  code_nodes n b ks (Loop s) = let a = code_nodes n b (head objects n ks s) s in omega arith
  code_nodes n b ks (Block s) = code_nodes n (suc b) ks s
  code_nodes n b ks (Exit k) = omega arith
  code_nodes n b ks (Return e) = let g = guarded objects ks n e in let a = (few e ks n).used in let c = then_nodes b g.before (Return g.value) in omega arith

  guarded_few : (n : ℕ) (s : Statement) → statement_nodes (guarded_function objects n s) ≤ statement_nodes s + 11 * code_partials s + 1
  guarded_few n s = by (has_guards objects n s)
    where
      by : (r : Bool) → statement_nodes (if r then with_loop (guarded_code objects n 0 s) else guarded_code objects n 0 s) ≤ statement_nodes s + 11 * code_partials s + 1
      by true = let a = code_nodes n 0 [] s in omega arith
      by false = let a = code_nodes n 0 [] s in omega arith

  -- code with at most 12 t statements and expressions and t operations has at most 23 t + 4 nodes with its guards
  pub guarded_nodes : (n t : ℕ) (s : Statement) → statement_size s ≤ 12 * t → code_partials s ≤ t → function_nodes (guarded_function objects n s) ≤ 23 * t + 4
  guarded_nodes n t s small few = let a = guarded_few n s in let b = nodes_few s in omega arith
