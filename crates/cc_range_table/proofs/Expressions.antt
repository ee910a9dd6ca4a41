-- The value of an expression is in its range, a covered expression has a value, and what a condition shows holds.
use Rattle.std.proofs.Common.{◌≡◌, ◌≢◌, ℕ, zero, suc, ◌+◌, ◌%◌, ◌<◌, ◌^◌, Bool, true, false, ◌==◌, List, [], ◌∷◌, length, map, get_or, Option, Some, None, slice_get, refl, sym, ap, ◌∙◌, subst, arith}
use Rattle.std.specs.Prelude.{if◌then◌else◌, ◌&&◌, not}
use Rattle.std.proofs.lemmas.Bool.Decides.{nat_tests}
use Rattle.cc_words.specs.declared.operators.Unary as one
use Rattle.cc_words.specs.declared.operators.Unary.TheVariants.{Neg, Complement, IsZero}
use Rattle.cc_words.specs.declared.operators.Binary as two
use Rattle.cc_words.specs.declared.operators.Binary.TheVariants.{Add, Sub, Mul, DivS, DivU, RemS, RemU, Shl, ShrS, ShrU, And, Or, Xor, Eq, Ne, LtS, LtU, LeS, LeU}
use Rattle.cc_words.specs.declared.operators.Width.{Width}
use Rattle.cc_words.specs.Words.{add, sub, is_zero}
use Rattle.cc_words.specs.Widths.{same_width}
use Rattle.cc_words.specs.Operators.{apply_unary, apply_binary}
use Rattle.cc_words.proofs.Laws.{sub_is}
use Rattle.cc_simulation.specs.World.{Object, Size, size_of, World, IsWorld, size_in, object_of, object_words, element}
use Rattle.cc_cminor_language.specs.Cminor.{Expression, Constant, Local, Unary, Binary, Load, Variables, value, values, then_value}
use Rattle.cc_guard.specs.Guard.{elements_in}
use Rattle.cc_guard.specs.Safe.{ConstantsFit, AllConstantsFit}
use Rattle.cc_guard.proofs.Tests.{found}
use Rattle.cc_guard.proofs.Words.{HoldWords, value_word}
use Rattle.cc_range.specs.declared.range.Range.{Range}
use Rattle.cc_range.specs.Range.{Has, only, is_within, met, sum, difference, of_unary, is_covered, is_index, learned_from}
use Rattle.cc_range.specs.Laws.{IsWay}
use Rattle.cc_range_table.specs.Table.{Facts, at}
use Rattle.cc_range_table.specs.Inductive.{range_of, is_scalar, covers, covers_all, set_variable, set_object, in_sum, in_difference, narrowed, way_range, learned_within, are_arguments}
use Rattle.cc_range_table.specs.internal.Known.{RangesAreSound, Holds}
use Rattle.cc_range_table.proofs.Lists.{both, no_true, some_is, no_some, word_in, set_in, no_object, one_element}

-- ---- operands

pub record Operands (op : two.Binary) (a b : Option ℕ) (w : ℕ) : Type 0 where
  pub left : ℕ
  pub right : ℕ
  pub is_left : a ≡ Some left
  pub is_right : b ≡ Some right
  pub gives : apply_binary op left right ≡ Some w

operands : (op : two.Binary) (a b : Option ℕ) (w : ℕ) → then_value a (λ x. then_value b (λ y. apply_binary op x y)) ≡ Some w → Operands op a b w
operands op None b w e = no_some w e
operands op (Some x) None w e = no_some w e
operands op (Some x) (Some y) w e = record { left = x; right = y; is_left = refl; is_right = refl; gives = e }

operand : (op : one.Unary) (a : Option ℕ) (w : ℕ) → then_value a (λ x. Some (apply_unary op x)) ≡ Some w → (x : ℕ) × (a ≡ Some x) × (apply_unary op x ≡ w)
operand op None w e = no_some w e
operand op (Some x) w e = (x, refl, some_is (apply_unary op x) w e)

pub then_is : {A B : Type 0} (o : Option A) (a : A) (go : A → Option B) (b : B) → o ≡ Some a → go a ≡ Some b → then_value o go ≡ Some b
then_is {A} {B} o a go b e f = subst (λ (p : Option A). then_value p go ≡ Some b) (sym e) f

-- an element that is read is an element of the object
read_element : (h : World) (width : Width) (o j v : ℕ) → element h width o j ≡ Some v → slice_get (object_words h o) j ≡ Some v
read_element h width o j v e = by (same_width (object_of h o).width width) e
  where
    by : (b : Bool) → (if b then slice_get (object_words h o) j else None) ≡ Some v → slice_get (object_words h o) j ≡ Some v
    by true f = f
    by false f = no_some v f

loaded : (h : World) (width : Width) (o v : ℕ) (i : Option ℕ) → then_value i (λ j. element h width o j) ≡ Some v → (j : ℕ) × (i ≡ Some j) × (slice_get (object_words h o) j ≡ Some v)
loaded h width o v None e = no_some v e
loaded h width o v (Some j) e = (j, refl, read_element h width o j v e)

-- a scalar has one element
found_at : (gs : List Object) (o : ℕ) → size_in (map size_of gs) o ≡ size_of (get_or gs o no_object)
found_at [] o = refl
found_at (x ∷ gs) zero = refl
found_at (x ∷ gs) (suc o) = found_at gs o

pub scalar_long : (sizes : List Size) (h : World) (o : ℕ) → map size_of h.globals ≡ sizes → is_scalar sizes o ≡ true → length (object_words h o) ≡ 1
scalar_long sizes h o e s =
    let f : (size_in sizes o).elements ≡ length (object_words h o) = ap (λ (z : List Size). (size_in z o).elements) (sym e) ∙ ap (λ (z : Size). z.elements) (found_at h.globals o) in
    let t : ((size_in sizes o).elements == 1) ≡ true = s in
    let one : (size_in sizes o).elements ≡ 1 = grind (arith, nat_tests) in
    sym f ∙ one

-- ---- words

add_back : (x y : ℕ) → x < 2 ^ 32 → y < 2 ^ 32 → sub (add x y) y ≡ x
add_back x y h k = let e = sub_is (add x y) y (omega arith) k in omega (arith, e)

sub_back : (x y : ℕ) → x < 2 ^ 32 → y < 2 ^ 32 → add (sub x y) y ≡ x
sub_back x y h k = let e = sub_is x y h k in omega (arith, e)

sub_from : (x y : ℕ) → x < 2 ^ 32 → y < 2 ^ 32 → sub x (sub x y) ≡ y
sub_from x y h k = let e = sub_is x y h k in let lt : sub x y < 2 ^ 32 = omega (arith, e) in let f = sub_is x (sub x y) h lt in omega (arith, e, f)

module _ (r : RangesAreSound) (sizes : List Size) (l : Variables) (h : World) (words : HoldWords l) (is : IsWorld sizes h) where
  -- ---- ranges

  word : (e : Expression) → ConstantsFit e → (w : ℕ) → value e l h ≡ Some w → w < 2 ^ 32
  word e k w v = value_word sizes l h words is e k w v

  pub range_sound : (F : Facts) → Holds F l h → (e : Expression) → ConstantsFit e → (w : ℕ) → value e l h ≡ Some w → Has (range_of F e) w
  range_sound F p (Constant v) k w e = subst (λ x. Has (only v) x) (some_is v w e) (r.words v k).1
  range_sound F p (Local x) k w e = subst (λ v. Has (at F.variables x) v) (some_is (l x) w e) (p.variables x)
  range_sound F p (Unary op a) k w e =
      let x = operand op (value a l h) w e in
      subst (λ v. Has (of_unary op (range_of F a)) v) x.2 (r.unary op (range_of F a) x.0 (word a k x.0 x.1) (range_sound F p a k x.0 x.1))
  range_sound F p (Binary op a b) k w e =
      let x = operands op (value a l h) (value b l h) w e in
      r.binary op (range_of F a) (range_of F b) x.left x.right w (word a k.0 x.left x.is_left) (word b k.1 x.right x.is_right)
      (range_sound F p a k.0 x.left x.is_left) (range_sound F p b k.1 x.right x.is_right) x.gives
  range_sound F p (Load width o i) k w e = let x = loaded h width o w (value i l h) e in p.objects o x.0 w x.2

  -- each argument is in its parameter's range
  values_first : (o : Option ℕ) (s : Option (List ℕ)) (ws : List ℕ) → then_value o (λ w. then_value s (λ vs. Some (w ∷ vs))) ≡ Some ws → (w : ℕ) × (vs : List ℕ) × (o ≡ Some w) × (s ≡ Some vs) × (w ∷ vs ≡ ws)
  values_first None s ws e = absurd (let z : ◌≡◌ {A = Option (List ℕ)} None (Some ws) = e in cc)
  values_first (Some w) None ws e = absurd (let z : ◌≡◌ {A = Option (List ℕ)} None (Some ws) = e in cc)
  values_first (Some w) (Some vs) ws e = let same : w ∷ vs ≡ ws = (let z : ◌≡◌ {A = Option (List ℕ)} (Some (w ∷ vs)) (Some ws) = e in cc) in (w, vs, refl, refl, same)

  abbrev pub InParameters : List Range → List ℕ → Type 0
  InParameters ps ws = (length ws ≡ length ps) × ((k w : ℕ) → slice_get ws k ≡ Some w → Has (at ps k) w)

  more_arguments : (p : Range) (ps : List Range) (w : ℕ) (ws : List ℕ) → Has p w → InParameters ps ws → InParameters (p ∷ ps) (w ∷ ws)
  more_arguments p ps w ws first rest = (ap suc rest.0, in_order)
    where
      in_order : (k v : ℕ) → slice_get (w ∷ ws) k ≡ Some v → Has (at (p ∷ ps) k) v
      in_order zero v e = subst (λ x. Has p x) (some_is w v e) first
      in_order (suc k) v e = rest.1 k v e

  pub arguments_in : (F : Facts) → Holds F l h → (es : List Expression) (ps : List Range) (ws : List ℕ) → AllConstantsFit es → are_arguments F es ps ≡ true → values es l h ≡ Some ws → InParameters ps ws
  arguments_in F p [] [] ws k t e =
      let same : [] ≡ ws = (let z : ◌≡◌ {A = Option (List ℕ)} (Some []) (Some ws) = e in cc) in
      subst (λ (vs : List ℕ). InParameters [] vs) same (refl, λ k w f. no_some w f)
  arguments_in F p [] (q ∷ ps) ws k t e = no_true (sym t)
  arguments_in F p (x ∷ es) [] ws k t e = no_true (sym t)
  arguments_in F p (x ∷ es) (q ∷ ps) ws k t e =
      let v = values_first (value x l h) (values es l h) ws e in
      let u = both (is_within (range_of F x) q) (are_arguments F es ps) t in
      subst (λ (vs : List ℕ). InParameters (q ∷ ps) vs) v.4
      (more_arguments q ps v.0 v.1 (r.within (range_of F x) q v.0 u.0 (range_sound F p x k.0 v.0 v.2)) (arguments_in F p es ps v.1 k.1 u.1 v.3))

  -- ---- covered operations

  pub covered_value : (F : Facts) → Holds F l h → (e : Expression) → ConstantsFit e → covers sizes F e ≡ true → (w : ℕ) × (value e l h ≡ Some w)
  covered_value F p (Constant v) k c = (v, refl)
  covered_value F p (Local x) k c = (l x, refl)
  covered_value F p (Unary op a) k c =
      let x = covered_value F p a k c in
      (apply_unary op x.0, then_is (value a l h) x.0 (λ v. Some (apply_unary op v)) (apply_unary op x.0) x.1 refl)
  covered_value F p (Binary op a b) k c =
      let u = both (covers sizes F a && covers sizes F b) (is_covered op (range_of F a) (range_of F b)) c in
      let v = both (covers sizes F a) (covers sizes F b) u.0 in
      let x = covered_value F p a k.0 v.0 in
      let y = covered_value F p b k.1 v.1 in
      let z = r.covered op (range_of F a) (range_of F b) x.0 y.0 (word a k.0 x.0 x.1) (word b k.1 y.0 y.1) u.1 (range_sound F p a k.0 x.0 x.1) (range_sound F p b k.1 y.0 y.1) in
      (z.0, then_is (value a l h) x.0 (λ m. then_value (value b l h) (λ n. apply_binary op m n)) z.0 x.1 (then_is (value b l h) y.0 (λ n. apply_binary op x.0 n) z.0 y.1 z.1))
  covered_value F p (Load width o i) k c =
      let u = both (covers sizes F i) (is_index (range_of F i) (elements_in sizes width o)) c in
      let x = covered_value F p i k u.0 in
      let lt = r.indexes (range_of F i) (elements_in sizes width o) x.0 (word i k x.0 x.1) u.1 (range_sound F p i k x.0 x.1) in
      let y = found h sizes is.sizes width o x.0 lt in
      (y.0, then_is (value i l h) x.0 (λ j. element h width o j) y.0 x.1 y.1)

  pub covered_values : (F : Facts) → Holds F l h → (es : List Expression) → AllConstantsFit es → covers_all sizes F es ≡ true → (ws : List ℕ) × (values es l h ≡ Some ws)
  covered_values F p [] k c = ([], refl)
  covered_values F p (e ∷ es) k c =
      let u = both (covers sizes F e) (covers_all sizes F es) c in
      let x = covered_value F p e k.0 u.0 in
      let y = covered_values F p es k.1 u.1 in
      (x.0 ∷ y.0, then_is (value e l h) x.0 (λ w. then_value (values es l h) (λ vs. Some (w ∷ vs))) (x.0 ∷ y.0) x.1 (then_is (values es l h) y.0 (λ vs. Some (x.0 ∷ vs)) (x.0 ∷ y.0) y.1 refl))

  -- ---- what a value's range shows

  pub set_variable_holds : (F : Facts) → Holds F l h → (x : ℕ) (s : Range) → Has s (l x) → Holds (set_variable F x s) l h
  set_variable_holds F p x s q = record { variables = λ y. set_in r F.variables x y s (l y) (words y) (λ e. subst (λ z. Has s (l z)) e q) (λ n. p.variables y); objects = p.objects }

  narrowed_scalar : (F : Facts) → Holds F l h → (o j w : ℕ) (s : Range) → is_scalar sizes o ≡ true → slice_get (object_words h o) j ≡ Some w → Has s w → Holds (set_object F o (met (at F.objects o) s)) l h
  narrowed_scalar F p o j w s one e q = record {
    variables = p.variables;
    objects = λ z i v f. set_in r F.objects o z (met (at F.objects o) s) v (word_in (object_words h z) i v (is.globals z) f)
        (λ same. let g = subst (λ n. slice_get (object_words h n) i ≡ Some v) (sym same) f in
        let equal = one_element (object_words h o) j i w v (scalar_long sizes h o is.sizes one) e g in
        r.met (at F.objects o) s v (word_in (object_words h o) i v (is.globals o) g) (p.objects o i v g) (subst (λ n. Has s n) equal q))
        (λ n. p.objects z i v f);
  }

  abbrev Narrows : Expression → Type 0
  Narrows e = (G : Facts) → Holds G l h → (t : Range) (v : ℕ) → value e l h ≡ Some v → Has t v → Holds (narrowed sizes G e t) l h

  narrowed_sum : (a b : Expression) → ConstantsFit a → ConstantsFit b → Narrows a → Narrows b → (F : Facts) → Holds F l h → (s : Range) (w : ℕ) → Operands Add (value a l h) (value b l h) w → Has s w
      → Holds (narrowed sizes (narrowed sizes F a (difference s (range_of F b))) b (difference s (range_of F a))) l h
  narrowed_sum a b m n f g F p s w x q =
      let u = word a m x.left x.is_left in
      let v = word b n x.right x.is_right in
      let k : add x.left x.right < 2 ^ 32 = omega arith in
      let q' = subst (λ z. Has s z) (sym (some_is (add x.left x.right) w x.gives)) q in
      let left = range_sound F p a m x.left x.is_left in
      let right = range_sound F p b n x.right x.is_right in
      let comm : x.left + x.right ≡ x.right + x.left = omega arith in
      let swap : add x.left x.right ≡ add x.right x.left = ap (λ z. z % 2 ^ 32) comm in
      let first = subst (λ z. Has (difference s (range_of F b)) z) (add_back x.left x.right u v) (r.binary Sub s (range_of F b) (add x.left x.right) x.right (sub (add x.left x.right) x.right) k v q' right refl) in
      let second = subst (λ z. Has (difference s (range_of F a)) z) (ap (λ z. sub z x.left) swap ∙ add_back x.right x.left v u) (r.binary Sub s (range_of F a) (add x.left x.right) x.left (sub (add x.left x.right) x.left) k u q' left refl) in
      g (narrowed sizes F a (difference s (range_of F b))) (f F p (difference s (range_of F b)) x.left x.is_left first) (difference s (range_of F a)) x.right x.is_right second

  narrowed_difference : (a b : Expression) → ConstantsFit a → ConstantsFit b → Narrows a → Narrows b → (F : Facts) → Holds F l h → (s : Range) (w : ℕ) → Operands Sub (value a l h) (value b l h) w → Has s w
      → Holds (narrowed sizes (narrowed sizes F a (sum s (range_of F b))) b (difference (range_of F a) s)) l h
  narrowed_difference a b m n f g F p s w x q =
      let u = word a m x.left x.is_left in
      let v = word b n x.right x.is_right in
      let e = sub_is x.left x.right u v in
      let k : sub x.left x.right < 2 ^ 32 = omega (arith, e) in
      let q' = subst (λ z. Has s z) (sym (some_is (sub x.left x.right) w x.gives)) q in
      let left = range_sound F p a m x.left x.is_left in
      let right = range_sound F p b n x.right x.is_right in
      let first = subst (λ z. Has (sum s (range_of F b)) z) (sub_back x.left x.right u v) (r.binary Add s (range_of F b) (sub x.left x.right) x.right (add (sub x.left x.right) x.right) k v q' right refl) in
      let second = subst (λ z. Has (difference (range_of F a) s) z) (sub_from x.left x.right u v) (r.binary Sub (range_of F a) s x.left (sub x.left x.right) (sub x.left (sub x.left x.right)) u k left q' refl) in
      g (narrowed sizes F a (sum s (range_of F b))) (f F p (sum s (range_of F b)) x.left x.is_left first) (difference (range_of F a) s) x.right x.is_right second

  scalar_if : (F : Facts) → Holds F l h → (o j w : ℕ) (s : Range) (b : Bool) → is_scalar sizes o ≡ b → slice_get (object_words h o) j ≡ Some w → Has s w → Holds (if b then set_object F o (met (at F.objects o) s) else F) l h
  scalar_if F p o j w s true one e q = narrowed_scalar F p o j w s one e q
  scalar_if F p o j w s false one e q = p

  pub narrowed_holds : (e : Expression) → ConstantsFit e → Narrows e
  narrowed_holds (Constant c) k G p t v e q = p
  narrowed_holds (Local x) k G p t v e q = set_variable_holds G p x (met (at G.variables x) t) (r.met (at G.variables x) t (l x) (words x) (p.variables x) (subst (λ z. Has t z) (sym (some_is (l x) v e)) q))
  narrowed_holds (Unary op a) k G p t v e q = p
  narrowed_holds (Binary Add a b) k G p t v e q = narrowed_sum a b k.0 k.1 (narrowed_holds a k.0) (narrowed_holds b k.1) G p (in_sum G a b t) v (operands Add (value a l h) (value b l h) v e) (r.met t (sum (range_of G a) (range_of G b)) v (word (Binary Add a b) k v e) q (range_sound G p (Binary Add a b) k v e))
  narrowed_holds (Binary Sub a b) k G p t v e q = narrowed_difference a b k.0 k.1 (narrowed_holds a k.0) (narrowed_holds b k.1) G p (in_difference G a b t) v (operands Sub (value a l h) (value b l h) v e) (r.met t (difference (range_of G a) (range_of G b)) v (word (Binary Sub a b) k v e) q (range_sound G p (Binary Sub a b) k v e))
  narrowed_holds (Binary Mul a b) k G p t v e q = p
  narrowed_holds (Binary DivS a b) k G p t v e q = p
  narrowed_holds (Binary DivU a b) k G p t v e q = p
  narrowed_holds (Binary RemS a b) k G p t v e q = p
  narrowed_holds (Binary RemU a b) k G p t v e q = p
  narrowed_holds (Binary Shl a b) k G p t v e q = p
  narrowed_holds (Binary ShrS a b) k G p t v e q = p
  narrowed_holds (Binary ShrU a b) k G p t v e q = p
  narrowed_holds (Binary And a b) k G p t v e q = p
  narrowed_holds (Binary Or a b) k G p t v e q = p
  narrowed_holds (Binary Xor a b) k G p t v e q = p
  narrowed_holds (Binary Eq a b) k G p t v e q = p
  narrowed_holds (Binary Ne a b) k G p t v e q = p
  narrowed_holds (Binary LtS a b) k G p t v e q = p
  narrowed_holds (Binary LtU a b) k G p t v e q = p
  narrowed_holds (Binary LeS a b) k G p t v e q = p
  narrowed_holds (Binary LeU a b) k G p t v e q = p
  narrowed_holds (Load width o i) k G p t v e q = let x = loaded h width o v (value i l h) e in scalar_if G p o x.0 v t (is_scalar sizes o) refl x.2 q

  -- ---- what a condition shows

  way_has : (way : Bool) (w : ℕ) → w < 2 ^ 32 → IsWay way w → Has (way_range way) w
  way_has true w k i = (r.words w k).2 i
  way_has false w k i = subst (λ z. Has (only 0) z) (sym i) (r.words 0 (omega arith)).1

  zero_way : (way : Bool) (x w : ℕ) → is_zero x ≡ w → IsWay way w → IsWay (not way) x
  zero_way true x w e i = let n : w ≢ 0 = i in grind (arith, nat_tests)
  zero_way false x w e i = λ z. let n : w ≡ 0 = i in absurd (grind (arith, nat_tests))

  pub learned_holds : (e : Expression) (way : Bool) (F : Facts) → Holds F l h → ConstantsFit e → (w : ℕ) → value e l h ≡ Some w → IsWay way w → Holds (learned_within sizes way F e) l h
  learned_holds (Constant c) way F p k w e i = p
  learned_holds (Local x) way F p k w e i = narrowed_holds (Local x) k F p (way_range way) w e (way_has way w (word (Local x) k w e) i)
  learned_holds (Unary IsZero a) way F p k w e i = let x = operand IsZero (value a l h) w e in learned_holds a (not way) F p k x.0 x.1 (zero_way way x.0 w x.2 i)
  learned_holds (Unary Neg a) way F p k w e i = p
  learned_holds (Unary Complement a) way F p k w e i = p
  learned_holds (Binary op a b) way F p k w e i =
      let x = operands op (value a l h) (value b l h) w e in
      let m = learned_from way op (range_of F a) (range_of F b) in
      let q = r.learned way op (range_of F a) (range_of F b) x.left x.right w (word a k.0 x.left x.is_left) (word b k.1 x.right x.is_right) (range_sound F p a k.0 x.left x.is_left) (range_sound F p b k.1 x.right x.is_right) x.gives i in
      narrowed_holds b k.1 (narrowed sizes F a m.left) (narrowed_holds a k.0 F p m.left x.left x.is_left q.0) m.right x.right x.is_right q.1
  learned_holds (Load width o j) way F p k w e i = narrowed_holds (Load width o j) k F p (way_range way) w e (way_has way w (word (Load width o j) k w e) i)
