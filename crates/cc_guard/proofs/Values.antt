-- What a guarded expression does: its guards let the run pass exactly if the expression has a value, and after them the guarded
-- expression has that value.
use Rattle.std.proofs.Common.{◌≡◌, ℕ, suc, ◌-◌, ◌<◌, ◌≤◌, Bool, true, false, ◌==◌, cond, List, [], ◌∷◌, ◌++◌, map, Option, Some, None, refl, sym, ap, ◌∙◌, subst, append-nil, arith}
use Rattle.std.specs.Prelude.{if◌then◌else◌}
use Rattle.std.proofs.lemmas.Bool.Decides.{nat_tests}
use Rattle.cc_words.specs.declared.operators.Binary as two
use Rattle.cc_words.specs.declared.operators.Binary.TheVariants.{LeU}
use Rattle.cc_words.specs.declared.operators.Width.{Width}
use Rattle.cc_words.specs.Operators.{apply_unary, apply_binary}
use Rattle.cc_simulation.specs.World.{Size, size_of, World, element}
use Rattle.cc_cminor_language.specs.Cminor.{Expression, Constant, Local, Unary, Binary, Load, Variables, value, values, put, then_value}
use Rattle.cc_guard.specs.declared.known.Limit.{Limit}
use Rattle.cc_guard.specs.Guard.{Guard, Put, Stop, Guarded, most, is_below, always, asked, reads_left, elements_in, waits_as, waiting, waiting_if, with_binary, with_test, with_load, learned, bounded, indexed, guarded, guarded_all}
use Rattle.cc_guard.specs.internal.Fits.{Under, AllUnder}
use Rattle.cc_guard.proofs.Passing.{Meets, meets_then, meets_with, meets_made, tested}
use Rattle.cc_guard.proofs.Evident.{Holds, is_small, has_answer}
use Rattle.cc_guard.proofs.Tests.{asked_meets, tells_kept, lies, lies_below, found}

-- ---- variables

cond_by : {X : Type 0} (b c : Bool) (x y : X) → b ≡ c → cond b x y ≡ cond c x y
cond_by b c x y e = ap (λ z. cond z x y) e

pub put_there : (l : Variables) (t w : ℕ) → put l t w t ≡ w
put_there l t w = let e : (t == t) ≡ true = grind (arith, nat_tests) in cond_by (t == t) true w (l t) e

pub put_elsewhere : (l : Variables) (t w x : ℕ) → x < t → put l t w x ≡ l x
put_elsewhere l t w x lt = let e : (t == x) ≡ false = grind (arith, nat_tests) in cond_by (t == x) false w (l x) e

-- the variables below n have the same words
abbrev pub Agree : ℕ → Variables → Variables → Type 0
Agree n m l = (x : ℕ) → x < n → m x ≡ l x

pub agree_on : (n k : ℕ) (i m l : Variables) → n ≤ k → Agree k i m → Agree n m l → Agree n i l
agree_on n k i m l le p q = λ x lt. p x (omega arith) ∙ q x lt

agree_put : (n t w : ℕ) (m l : Variables) → n ≤ t → Agree n m l → Agree n (put m t w) l
agree_put n t w m l le p = λ x lt. put_elsewhere m t w x (omega arith) ∙ p x lt

-- an expression that reads only variables below n has the same value in both m and l
pub same_value : (e : Expression) (n : ℕ) (m l : Variables) (h : World) → Under n e → Agree n m l → value e m h ≡ value e l h
same_value (Constant w) n m l h u p = refl
same_value (Local x) n m l h u p = ap Some (p x u)
same_value (Unary op e) n m l h u p = ap (λ o. then_value o (λ a. Some (apply_unary op a))) (same_value e n m l h u p)
same_value (Binary op a b) n m l h u p =
    ap (λ o. then_value o (λ x. then_value (value b m h) (λ y. apply_binary op x y))) (same_value a n m l h u.0 p)
    ∙ ap (λ o. then_value (value a l h) (λ x. then_value o (λ y. apply_binary op x y))) (same_value b n m l h u.1 p)
same_value (Load w o e) n m l h u p = ap (λ r. then_value r (λ i. element h w o i)) (same_value e n m l h u p)

pub same_values : (es : List Expression) (n : ℕ) (m l : Variables) (h : World) → AllUnder n es → Agree n m l → values es m h ≡ values es l h
same_values [] n m l h u p = refl
same_values (e ∷ es) n m l h u p =
    ap (λ o. then_value o (λ w. then_value (values es m h) (λ ws. Some (w ∷ ws)))) (same_value e n m l h u.0 p)
    ∙ ap (λ o. then_value (value e l h) (λ w. then_value o (λ ws. Some (w ∷ ws)))) (same_values es n m l h u.1 p)

pub under_more : (n k : ℕ) (e : Expression) → n ≤ k → Under n e → Under k e
under_more n k (Constant w) le u = tt
under_more n k (Local x) le u = let lt : x < n = u in omega arith
under_more n k (Unary op e) le u = under_more n k e le u
under_more n k (Binary op a b) le u = (under_more n k a le u.0, under_more n k b le u.1)
under_more n k (Load w o e) le u = under_more n k e le u

pub all_under_more : (n k : ℕ) (es : List Expression) → n ≤ k → AllUnder n es → AllUnder k es
all_under_more n k [] le u = tt
all_under_more n k (e ∷ es) le u = (under_more n k e le u.0, all_under_more n k es le u.1)

-- bounds of variables below n; they stay known if those variables keep their words
abbrev pub LimitsUnder : ℕ → List Limit → Type 0
LimitsUnder n [] = Unit {0}
LimitsUnder n (k ∷ ks) = (k.variable < n) × LimitsUnder n ks

pub limits_more : (n k : ℕ) (ks : List Limit) → n ≤ k → LimitsUnder n ks → LimitsUnder k ks
limits_more n k [] le u = tt
limits_more n k (x ∷ ks) le u = (let lt = u.0 in omega arith, limits_more n k ks le u.1)

pub holds_on : (ks : List Limit) (n : ℕ) (m l : Variables) → LimitsUnder n ks → Agree n m l → Holds ks l → Holds ks m
holds_on [] n m l u p q = tt
holds_on (k ∷ ks) n m l u p q = (subst (λ w. w ≤ k.most) (sym (p k.variable u.0)) q.0, holds_on ks n m l u.1 p q.1)

module _ (objects : List Size) where
  -- ---- a guarded expression reads no variable from `next` on

  pub record IsSound (n : ℕ) (g : Guarded) : Type 0 where
    pub grows : n ≤ g.next
    pub under : Under g.next g.value
    pub limits : LimitsUnder g.next g.known

  put_sound : (n : ℕ) (g : Guarded) → IsSound n g → IsSound n (record { before = g.before ++ Put g.next g.value ∷ []; value = Local g.next; next = suc g.next; known = g.known })
  put_sound n g s = let p = s.grows in record { grows = omega arith; under = omega arith; limits = limits_more g.next (suc g.next) g.known (omega arith) s.limits }

  sound_waits : (n : ℕ) (e : Expression) (g : Guarded) → IsSound n g → IsSound n (waits_as e g)
  sound_waits n (Constant w) g s = s
  sound_waits n (Local x) g s = s
  sound_waits n (Unary op e) g s = put_sound n g s
  sound_waits n (Binary op a b) g s = put_sound n g s
  sound_waits n (Load w o i) g s = put_sound n g s

  sound_waiting : (n : ℕ) (g : Guarded) → IsSound n g → IsSound n (waiting g)
  sound_waiting n g s = sound_waits n g.value g s

  sound_if : (b : Bool) (n : ℕ) (g : Guarded) → IsSound n g → IsSound n (waiting_if b g)
  sound_if true n g s = sound_waiting n g s
  sound_if false n g s = s

  sound_binary : (op : two.Binary) (n : ℕ) (a b : Guarded) → IsSound n a → IsSound a.next b → IsSound n (with_binary op a b)
  sound_binary op n a b s r = let p = s.grows in let q = r.grows in record { grows = omega arith; under = (under_more a.next b.next a.value q s.under, r.under); limits = r.limits }

  sound_test : (op : two.Binary) (n : ℕ) (a b : Guarded) → IsSound n a → IsSound a.next b → IsSound n (with_test op a b)
  sound_test op n a b s r = let p = s.grows in let q = r.grows in record { grows = omega arith; under = (under_more a.next b.next a.value q s.under, r.under); limits = r.limits }

  -- an expression with its guards, after the guards of another
  abbrev after : Guarded → Expression → Guarded
  after g e = guarded objects g.known g.next e

  sound_operator : (r : Bool) (op : two.Binary) (b : Expression) (n : ℕ) (a : Guarded) → IsSound n a → ((g : Guarded) → IsSound n g → IsSound g.next (after g b))
      → IsSound n (if r then with_binary op a (after a b) else with_test op (waiting_if (reads_left op) a) (waiting (after (waiting_if (reads_left op) a) b)))
  sound_operator true op b n a s right = sound_binary op n a (after a b) s (right a s)
  sound_operator false op b n a s right =
      let left = waiting_if (reads_left op) a in
      let sl = sound_if (reads_left op) n a s in
      sound_test op n left (waiting (after left b)) sl (sound_waiting left.next (after left b) (right left sl))

  pub limits_push : (k : ℕ) (ks : List Limit) (x : Limit) → LimitsUnder k ks → x.variable < k → LimitsUnder k (ks ++ x ∷ [])
  limits_push k [] x v u = (u, tt)
  limits_push k (y ∷ ks) x v u = (v.0, limits_push k ks x v.1 u)

  learned_under : (e : Expression) (n k : ℕ) (ks : List Limit) → Under k e → LimitsUnder k ks → LimitsUnder k (learned e n ks)
  learned_under (Constant w) n k ks u v = v
  learned_under (Local x) n k ks u v = limits_push k ks (record { variable = x; most = n - 1 }) v u
  learned_under (Unary op e) n k ks u v = v
  learned_under (Binary op a b) n k ks u v = v
  learned_under (Load w o i) n k ks u v = v

  sound_index : (r : Bool) (n most : ℕ) (g : Guarded) → IsSound n g → IsSound n (if r then g else bounded most (waiting g))
  sound_index true n most g s = s
  sound_index false n most g s =
      let x = sound_waiting n g s in record { grows = x.grows; under = x.under; limits = learned_under (waiting g).value most (waiting g).next (waiting g).known x.under x.limits }

  pub sound_indexed : (ks : List Limit) (w : Width) (o n : ℕ) (i : Expression) (g : Guarded) → IsSound n g → IsSound n (indexed objects ks w o i g)
  sound_indexed ks w o n i g s = sound_index (is_below (most ks i) (elements_in objects w o)) n (elements_in objects w o) g s

  pub sound : (e : Expression) (ks : List Limit) (n : ℕ) → Under n e → LimitsUnder n ks → IsSound n (guarded objects ks n e)
  sound (Constant w) ks n u v = record { grows = omega arith; under = tt; limits = v }
  sound (Local x) ks n u v = record { grows = omega arith; under = u; limits = v }
  sound (Unary op e) ks n u v = let s = sound e ks n u v in record { grows = s.grows; under = s.under; limits = s.limits }
  sound (Binary op a b) ks n u v =
      sound_operator (always (guarded objects ks n a).known op b) op b n (guarded objects ks n a) (sound a ks n u.0 v) (λ g s. sound b g.known g.next (under_more n g.next b s.grows u.1) s.limits)
  sound (Load w o i) ks n u v = let s = sound_indexed ks w o n i (guarded objects ks n i) (sound i ks n u v) in record { grows = s.grows; under = s.under; limits = s.limits }

  module _ (h : World) (sizes : map size_of h.globals ≡ objects) where
    -- after the guards, the variables below n are as before, the expression has its value, and what is known holds
    abbrev pub HasValue : ℕ → Expression → List Limit → Variables → Variables → ℕ → Type 0
    HasValue n e ks l m w = Agree n m l × (value e m h ≡ Some w) × Holds ks m

    abbrev pub IsGuarded : ℕ → Guarded → Variables → Option ℕ → Type 0
    IsGuarded n g l o = Meets h g.before l o (λ m w. HasValue n g.value g.known l m w)

    -- once a value is put into a variable, the variable has that value
    put_waits : (n : ℕ) (g : Guarded) (l : Variables) (o : Option ℕ) → IsSound n g → IsGuarded n g l o
        → Meets h (g.before ++ Put g.next g.value ∷ []) l o (λ m w. HasValue n (Local g.next) g.known l m w)
    put_waits n g l o s p =
        subst (λ (r : Option ℕ). Meets h (g.before ++ Put g.next g.value ∷ []) l r (λ m w. HasValue n (Local g.next) g.known l m w)) (then_some o)
        (meets_then h g.before (Put g.next g.value ∷ []) l o (λ w. Some w) (λ m w. HasValue n g.value g.known l m w) _ p
        (λ m w q. (w, q.1, (agree_put n g.next w m l s.grows q.0, ap Some (put_there m g.next w), holds_on g.known g.next (put m g.next w) m s.limits (λ x lt. put_elsewhere m g.next w x lt) q.2))))
      where
        then_some : (o : Option ℕ) → then_value o (λ w. Some w) ≡ o
        then_some None = refl
        then_some (Some w) = refl

    guarded_waits : (n : ℕ) (e : Expression) (g : Guarded) (l : Variables) (o : Option ℕ) → IsSound n g → IsGuarded n g l o → IsGuarded n (waits_as e g) l o
    guarded_waits n (Constant w) g l o s p = p
    guarded_waits n (Local x) g l o s p = p
    guarded_waits n (Unary op e) g l o s p = put_waits n g l o s p
    guarded_waits n (Binary op a b) g l o s p = put_waits n g l o s p
    guarded_waits n (Load w k i) g l o s p = put_waits n g l o s p

    guarded_waiting : (n : ℕ) (g : Guarded) (l : Variables) (o : Option ℕ) → IsSound n g → IsGuarded n g l o → IsGuarded n (waiting g) l o
    guarded_waiting n g l o s p = guarded_waits n g.value g l o s p

    guarded_if : (b : Bool) (n : ℕ) (g : Guarded) (l : Variables) (o : Option ℕ) → IsSound n g → IsGuarded n g l o → IsGuarded n (waiting_if b g) l o
    guarded_if true n g l o s p = guarded_waiting n g l o s p
    guarded_if false n g l o s p = p

    -- ---- two operands

    -- the guards of both operands, followed by those of what is computed from their values, are guards of the result
    pub both_guarded : {B : Type 0} (n : ℕ) (a b : Guarded) (is : List Guard) (l : Variables) (oa ob : Option ℕ) (go : ℕ → ℕ → Option B) (R : Variables → B → Type 0) → IsSound n a → IsSound a.next b → IsGuarded n a l oa
        → ((m : Variables) → Agree n m l → Holds a.known m → IsGuarded a.next b m ob)
        → ((k : Variables) (x y : ℕ) → Agree n k l → oa ≡ Some x → ob ≡ Some y → value a.value k h ≡ Some x → value b.value k h ≡ Some y → Holds a.known k → Holds b.known k → Meets h is k (go x y) R)
        → Meets h (a.before ++ (b.before ++ is)) l (then_value oa (λ x. then_value ob (λ y. go x y))) R
    both_guarded n a b is l oa ob go R sa sb ga gb f =
        meets_with h a.before (b.before ++ is) l oa (λ x. then_value ob (λ y. go x y)) (λ m x. HasValue n a.value a.known l m x) R ga
        (λ m x d q. meets_with h b.before is m ob (λ y. go x y) (λ k y. HasValue a.next b.value b.known m k y) R (gb m q.0 q.2)
        (λ k y e r. f k x y (agree_on n a.next k m l sa.grows r.0 q.0) d e (same_value a.value a.next k m h sa.under r.0 ∙ q.1) r.1 (holds_on a.known a.next k m sa.limits r.0 q.2) r.2))

    pub no_more : {A : Type 0} (l : Variables) (o : Option A) (R : Variables → A → Type 0) (gs is : List Guard) → Meets h (gs ++ (is ++ [])) l o R → Meets h (gs ++ is) l o R
    no_more l o R gs is p = subst (λ (x : List Guard). Meets h (gs ++ x) l o R) (append-nil is) p

    made : (op : two.Binary) (a b : Expression) (k : Variables) (x y w : ℕ) → value a k h ≡ Some x → value b k h ≡ Some y → apply_binary op x y ≡ Some w → value (Binary op a b) k h ≡ Some w
    made op a b k x y w va vb e =
        ap (λ o. then_value o (λ u. then_value (value b k h) (λ v. apply_binary op u v))) va ∙ ap (λ o. then_value o (λ v. apply_binary op x v)) vb ∙ e

    -- an operation that has a value needs no guard
    pub here : {B : Type 0} (k : Variables) (o : Option B) (w : B) (R : Variables → B → Type 0) → o ≡ Some w → R k w → Meets h [] k o R
    here {B} k o w R e r = subst (λ (x : Option B). Meets h [] k x R) (sym e) r

    operator_guarded : (r : Bool) (op : two.Binary) (b : Expression) (n : ℕ) (a : Guarded) (l : Variables) (oa : Option ℕ) → always a.known op b ≡ r → Under n b → IsSound n a → IsGuarded n a l oa → ((g : Guarded) → IsSound n g → IsSound g.next (after g b))
        → ((g : Guarded) → IsSound n g → (m : Variables) → Agree n m l → Holds g.known m → IsGuarded g.next (after g b) m (value b l h))
        → IsGuarded n (if r then with_binary op a (after a b) else with_test op (waiting_if (reads_left op) a) (waiting (after (waiting_if (reads_left op) a) b))) l (then_value oa (λ x. then_value (value b l h) (λ y. apply_binary op x y)))
    operator_guarded true op b n a l oa is ub sa ga right_sound right =
        let gb = after a b in
        let R : Variables → ℕ → Type 0 = λ k w. HasValue n (Binary op a.value gb.value) gb.known l k w in
        no_more l (then_value oa (λ x. then_value (value b l h) (λ y. apply_binary op x y))) R a.before gb.before
        (both_guarded n a gb [] l oa (value b l h) (λ x y. apply_binary op x y) R sa (right_sound a sa) ga (right a sa)
        (λ k x y p d e va vb ka kb.
        let v = has_answer k h a.known ka op b x y is (same_value b n k l h ub p ∙ e) in
        here k (apply_binary op x y) v.0 R v.1 (p, made op a.value gb.value k x y v.0 va vb v.1, kb)))
    operator_guarded false op b n a l oa is ub sa ga right_sound right =
        let left = waiting_if (reads_left op) a in
        let sl = sound_if (reads_left op) n a sa in
        let gr = after left b in
        let gb = waiting gr in
        let sr = right_sound left sl in
        let R : Variables → ℕ → Type 0 = λ k w. HasValue n (Binary op left.value gb.value) gb.known l k w in
        both_guarded n left gb (asked op left.value gb.value) l oa (value b l h) (λ x y. apply_binary op x y) R sl (sound_waiting left.next gr sr) (guarded_if (reads_left op) n a l oa sa ga)
        (λ m p q. guarded_waiting left.next gr m (value b l h) sr (right left sl m p q))
        (λ k x y p d e va vb ka kb. asked_meets h op left.value gb.value k x y R va vb (λ w is. (p, made op left.value gb.value k x y w va vb is, kb)))

    -- ---- an index

    -- the index as a value, if it lies in its object
    abbrev pub lying : Width → ℕ → Option ℕ → Option ℕ
    lying w o r = then_value r (λ j. then_value (element h w o j) (λ old. Some j))

    pub record Lies (w : Width) (o j : ℕ) (e : Option ℕ) : Type 0 where
      pub index : e ≡ Some j
      pub word : ℕ
      pub is : element h w o j ≡ Some word

    pub lies_there : (w : Width) (o j : ℕ) (e : Option ℕ) → lying w o e ≡ Some j → Lies w o j e
    lies_there w o j None is = absurd (let f : None ≡ Some j = is in cc)
    lies_there w o j (Some i) is = by (element h w o i) refl is
      where
        by : (r : Option ℕ) → element h w o i ≡ r → then_value r (λ old. Some i) ≡ Some j → Lies w o j (Some i)
        by None e f = absurd (let g : None ≡ Some j = f in cc)
        by (Some v) e f = let same : i ≡ j = (let g : Some i ≡ Some j = f in cc) in record { index = f; word = v; is = ap (λ x. element h w o x) (sym same) ∙ e }

    pub holds_push : (ks : List Limit) (x : Limit) (k : Variables) → Holds ks k → k x.variable ≤ x.most → Holds (ks ++ x ∷ []) k
    holds_push [] x k p q = (q, tt)
    holds_push (y ∷ ks) x k p q = (p.0, holds_push ks x k p.1 q)

    learned_holds : (e : Expression) (n j : ℕ) (ks : List Limit) (k : Variables) → value e k h ≡ Some j → j < n → Holds ks k → Holds (learned e n ks) k
    learned_holds (Constant w) n j ks k v lt p = p
    learned_holds (Local x) n j ks k v lt p = let same : k x ≡ j = (let f : Some (k x) ≡ Some j = v in cc) in holds_push ks (record { variable = x; most = n - 1 }) k p (omega arith)
    learned_holds (Unary op e) n j ks k v lt p = p
    learned_holds (Binary op a b) n j ks k v lt p = p
    learned_holds (Load w o i) n j ks k v lt p = p

    index_guarded : (r : Bool) (ks : List Limit) (w : Width) (o n : ℕ) (i : Expression) (g : Guarded) (l : Variables) → is_below (most ks i) (elements_in objects w o) ≡ r → Holds ks l → IsSound n g → IsGuarded n g l (value i l h)
        → IsGuarded n (if r then g else bounded (elements_in objects w o) (waiting g)) l (lying w o (value i l h))
    index_guarded true ks w o n i g l is kl s p =
        let R : Variables → ℕ → Type 0 = λ k j. HasValue n g.value g.known l k j in
        subst (λ (x : List Guard). Meets h x l (lying w o (value i l h)) R) (append-nil g.before)
        (meets_with h g.before [] l (value i l h) (λ j. then_value (element h w o j) (λ old. Some j)) R R p
        (λ k j e q.
        let v = found h objects sizes w o j (is_small l h ks kl i (elements_in objects w o) j is e) in
        here k (then_value (element h w o j) (λ old. Some j)) j R (ap (λ r. then_value r (λ old. Some j)) v.1) q))
    index_guarded false ks w o n i g l is kl s p =
        let x = waiting g in
        let N = elements_in objects w o in
        let test = Binary LeU (Constant N) x.value in
        let R : Variables → ℕ → Type 0 = λ k j. HasValue n x.value (learned x.value N x.known) l k j in
        meets_then h x.before (Stop test ∷ []) l (value i l h) (λ j. then_value (element h w o j) (λ old. Some j)) (λ k j. HasValue n x.value x.known l k j) R (guarded_waiting n g l (value i l h) s p)
        (λ k j q. tested h test k (then_value (element h w o j) (λ old. Some j)) R (tells_kept h test k (element h w o j) j (lies h objects sizes w o j x.value k q.1))
        (λ y e.
        let f = lies_there w o y (Some j) e in
        let v : value x.value k h ≡ Some y = q.1 ∙ f.index in
        (q.0, v, learned_holds x.value N y x.known k v (lies_below h objects sizes w o y f.word f.is) q.2)))

    pub indexed_guarded : (ks : List Limit) (w : Width) (o n : ℕ) (i : Expression) (g : Guarded) (l : Variables) → Holds ks l → IsSound n g → IsGuarded n g l (value i l h) → IsGuarded n (indexed objects ks w o i g) l (lying w o (value i l h))
    indexed_guarded ks w o n i g l kl s p = index_guarded (is_below (most ks i) (elements_in objects w o)) ks w o n i g l refl kl s p

    same_element : (w : Width) (o : ℕ) (r : Option ℕ) → then_value (lying w o r) (λ j. element h w o j) ≡ then_value r (λ j. element h w o j)
    same_element w o None = refl
    same_element w o (Some i) = by (element h w o i) refl
      where
        by : (r : Option ℕ) → element h w o i ≡ r → then_value (then_value r (λ old. Some i)) (λ j. element h w o j) ≡ r
        by None e = refl
        by (Some v) e = e

    load_guarded : (w : Width) (o n : ℕ) (i : Guarded) (l : Variables) (r : Option ℕ) → IsGuarded n i l (lying w o r) → IsGuarded n (with_load w o i) l (then_value r (λ j. element h w o j))
    load_guarded w o n i l r p =
        let R : Variables → ℕ → Type 0 = λ k v. HasValue n (Load w o i.value) i.known l k v in
        subst (λ (x : Option ℕ). Meets h i.before l x R) (same_element w o r)
        (subst (λ (x : List Guard). Meets h x l (then_value (lying w o r) (λ j. element h w o j)) R) (append-nil i.before)
        (meets_with h i.before [] l (lying w o r) (λ j. element h w o j) (λ k j. HasValue n i.value i.known l k j) R p
        (λ k j e q. let f = lies_there w o j r e in here k (element h w o j) f.word R f.is (q.0, ap (λ x. then_value x (λ j. element h w o j)) q.1 ∙ f.is, q.2))))

    -- ---- every expression

    -- the guards of an expression are right
    pub guards : (e : Expression) (ks : List Limit) (n : ℕ) (l : Variables) → Under n e → LimitsUnder n ks → Holds ks l → IsGuarded n (guarded objects ks n e) l (value e l h)
    guards (Constant w) ks n l u v kl = (λ x lt. refl, refl, kl)
    guards (Local x) ks n l u v kl = (λ y lt. refl, refl, kl)
    guards (Unary op e) ks n l u v kl =
        meets_made h (guarded objects ks n e).before l (value e l h) (λ a. apply_unary op a) (λ m w. HasValue n (guarded objects ks n e).value (guarded objects ks n e).known l m w) _ (guards e ks n l u v kl)
        (λ m a q. (q.0, ap (λ o. then_value o (λ a. Some (apply_unary op a))) q.1, q.2))
    guards (Binary op a b) ks n l u v kl =
        operator_guarded (always (guarded objects ks n a).known op b) op b n (guarded objects ks n a) l (value a l h) refl u.1 (sound a ks n u.0 v) (guards a ks n l u.0 v kl) (λ g s. sound b g.known g.next (under_more n g.next b s.grows u.1) s.limits)
        (λ g s m p q. subst (λ (o : Option ℕ). IsGuarded g.next (after g b) m o) (same_value b n m l h u.1 p) (guards b g.known g.next m (under_more n g.next b s.grows u.1) s.limits q))
    guards (Load w o i) ks n l u v kl =
        load_guarded w o n (indexed objects ks w o i (guarded objects ks n i)) l (value i l h) (indexed_guarded ks w o n i (guarded objects ks n i) l kl (sound i ks n u v) (guards i ks n l u v kl))

    -- ---- some expressions

    abbrev pub HaveValues : ℕ → List Expression → List Limit → Variables → Variables → List ℕ → Type 0
    HaveValues n es ks l m ws = Agree n m l × (values es m h ≡ Some ws) × Holds ks m

    pub guards_all : (es : List Expression) (ks : List Limit) (n : ℕ) (l : Variables) → AllUnder n es → LimitsUnder n ks → Holds ks l
        → Meets h (guarded_all objects ks n es).before l (values es l h) (λ m ws. HaveValues n (guarded_all objects ks n es).values (guarded_all objects ks n es).known l m ws)
    guards_all [] ks n l u v kl = (λ x lt. refl, refl, kl)
    guards_all (e ∷ es) ks n l u v kl =
        let s = sound e ks n u.0 v in
        let g = guarded objects ks n e in
        let us = all_under_more n g.next es s.grows u.1 in
        let gs = guarded_all objects g.known g.next es in
        meets_then h g.before gs.before l (value e l h) (λ w. then_value (values es l h) (λ ws. Some (w ∷ ws))) (λ m w. HasValue n g.value g.known l m w) _ (guards e ks n l u.0 v kl)
        (λ m w q. meets_made h gs.before m (values es l h) (λ ws. w ∷ ws) (λ k ws. HaveValues g.next gs.values gs.known m k ws) _
        (subst (λ (o : Option (List ℕ)). Meets h gs.before m o (λ k ws. HaveValues g.next gs.values gs.known m k ws)) (same_values es n m l h u.1 q.0) (guards_all es g.known g.next m us s.limits q.2))
        (λ k ws r. (
          agree_on n g.next k m l s.grows r.0 q.0,
          ap (λ o. then_value o (λ w. then_value (values gs.values k h) (λ ws. Some (w ∷ ws)))) (same_value g.value g.next k m h s.under r.0 ∙ q.1)
              ∙ ap (λ o. then_value o (λ ws. Some (w ∷ ws))) r.1,
          r.2,
        )))
