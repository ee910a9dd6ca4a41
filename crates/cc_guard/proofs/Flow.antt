-- What is known about variables at the start of a statement and at its end. What is known about a variable that no part of a
-- statement sets is also known after the statement, on each way out. So code into which guards can be put satisfies `Flows`: at
-- each place, what should be known is known.
use Rattle.std.proofs.Common.{◌≡◌, ℕ, zero, suc, ◌<◌, ◌≤◌, ◌==◌, max, Bool, true, false, List, [], ◌∷◌, ◌++◌, length, Option, Some, None, ◌⊎◌, inl, inr, refl, sym, ap, ◌∙◌, subst, arith}
use Rattle.std.specs.Prelude.{if◌then◌else◌, not, ◌&&◌, ◌||◌, nat_lt, nat_le}
use Rattle.std.proofs.Math.Nat.{le-max_left, le-max_right}
use Rattle.std.proofs.lemmas.Bool.Decides.{nat_tests}
use Rattle.cc_words.specs.declared.operators.Binary as two
use Rattle.cc_words.specs.declared.operators.Width.{Width}
use Rattle.cc_simulation.specs.World.{Size}
use Rattle.cc_cminor_language.specs.Cminor.{Expression, Constant, Local, Unary, Binary, Load, Statement, Skip, Set, Store, Call, Read, Write, Sequence, If, Loop, Block, Exit, Return, Variables}
use Rattle.cc_guard.specs.declared.known.Limit.{Limit}
use Rattle.cc_guard.specs.Guard.{Guard, Guarded, most_in, most, is_below, always, reads_left, elements_in, waits_as, waiting, waiting_if, with_binary, with_test, learned, bounded, indexed, guarded, guarded_all, first_index, stored_word, told, with_told, sets, stays, kept_if, kept, set_to, either, joined, unset, falls, leaves, met, known_after, known_within, at_most, all_again, still, widened, turn, narrowed, found, if_again, head, some_guard, guards_after}
use Rattle.cc_guard.specs.internal.Fits.{Under, AllUnder, Fits}
use Rattle.cc_guard.specs.internal.Next.{Noted, Last, AndThen, InLoop, InBlock, exits_of}
use Rattle.cc_guard.proofs.Evident.{Within, Holds, in_limits}
use Rattle.cc_guard.proofs.Values.{LimitsUnder}

-- ---- one of the bounds

abbrev pub Has : List Limit → Limit → Type 0
Has [] f = ⊥
Has (k ∷ ks) f = (k ≡ f) ⊎ Has ks f

-- if the bounds of the first list hold, so do those of the second
abbrev pub Yields : List Limit → List Limit → Type 0
Yields ks gs = (l : Variables) → Holds ks l → Holds gs l

fact_of : (ks : List Limit) (f : Limit) (l : Variables) → Has ks f → Holds ks l → l f.variable ≤ f.most
fact_of [] f l i h = absurd i
fact_of (k ∷ ks) f l (inl e) h = subst (λ (x : Limit). l x.variable ≤ x.most) e h.0
fact_of (k ∷ ks) f l (inr i) h = fact_of ks f l i h.1

holds_of : (gs : List Limit) (l : Variables) → ((f : Limit) → Has gs f → l f.variable ≤ f.most) → Holds gs l
holds_of [] l f = tt
holds_of (g ∷ gs) l f = (f g (inl refl), holds_of gs l (λ k i. f k (inr i)))

pub yields_of : (ks gs : List Limit) → ((f : Limit) → Has gs f → Has ks f) → Yields ks gs
yields_of ks gs f l h = holds_of gs l (λ k i. fact_of ks k l (f k i) h)

has_push : (ks : List Limit) (x f : Limit) → Has ks f → Has (ks ++ x ∷ []) f
has_push [] x f i = absurd i
has_push (k ∷ ks) x f (inl e) = inl e
has_push (k ∷ ks) x f (inr i) = inr (has_push ks x f i)

-- ---- the bounds that are kept

and_left : (a b : Bool) → (a && b) ≡ true → a ≡ true
and_left true b e = refl
and_left false b e = e

and_right : (a b : Bool) → (a && b) ≡ true → b ≡ true
and_right true b e = e
and_right false b e = absurd (let f : false ≡ true = e in cc)

both_true : (a b : Bool) → a ≡ true → b ≡ true → (a && b) ≡ true
both_true true b p q = q
both_true false b p q = p

not_either : (a b : Bool) → not (a || b) ≡ true → (not a ≡ true) × (not b ≡ true)
not_either true b e = absurd (let f : false ≡ true = e in cc)
not_either false b e = (refl, e)

is_false : (a : Bool) → not a ≡ true → a ≡ false
is_false true e = absurd (let f : false ≡ true = e in cc)
is_false false e = refl

-- a bound that stays for a statement of two parts stays for each part
stays_both : (n : ℕ) (p q : ℕ → Bool) (f : Limit) → stays n (λ x. p x || q x) f ≡ true → (stays n p f ≡ true) × (stays n q f ≡ true)
stays_both n p q f is =
    let below = and_left (nat_lt f.variable n) (not (p f.variable || q f.variable)) is in
    let e = not_either (p f.variable) (q f.variable) (and_right (nat_lt f.variable n) (not (p f.variable || q f.variable)) is) in
    (both_true (nat_lt f.variable n) (not (p f.variable)) below e.0, both_true (nat_lt f.variable n) (not (q f.variable)) below e.1)

stays_below : (n : ℕ) (p : ℕ → Bool) (f : Limit) → stays n p f ≡ true → f.variable < n
stays_below n p f is = let lt : nat_lt f.variable n ≡ true = and_left (nat_lt f.variable n) (not (p f.variable)) is in grind (arith, nat_tests)

stays_unset : (n : ℕ) (p : ℕ → Bool) (f : Limit) → stays n p f ≡ true → p f.variable ≡ false
stays_unset n p f is = is_false (p f.variable) (and_right (nat_lt f.variable n) (not (p f.variable)) is)

-- a bound that stays is a bound of a variable below n
stays_skip : (n : ℕ) (p : ℕ → Bool) (f : Limit) → stays n p f ≡ true → stays n (sets Skip) f ≡ true
stays_skip n p f is = both_true (nat_lt f.variable n) true (and_left (nat_lt f.variable n) (not (p f.variable)) is) refl

pub has_kept : (n : ℕ) (p : ℕ → Bool) (ks : List Limit) (f : Limit) → Has ks f → stays n p f ≡ true → Has (kept n p ks) f
has_kept n p [] f i is = absurd i
has_kept n p (k ∷ ks) f (inl e) is = subst (λ b. Has (kept_if b k (kept n p ks)) f) (sym is ∙ sym (ap (stays n p) e)) (inl e)
has_kept n p (k ∷ ks) f (inr i) is = by (stays n p k) (has_kept n p ks f i is)
  where
    by : (b : Bool) → Has (kept n p ks) f → Has (kept_if b k (kept n p ks)) f
    by true j = inr j
    by false j = j

abbrev pub IsKept : (n : ℕ) → (ℕ → Bool) → List Limit → Limit → Type 0
IsKept n p ks f = Has ks f × (stays n p f ≡ true)

kept_one : (n : ℕ) (p : ℕ → Bool) (k : Limit) (ks gs : List Limit) (f : Limit) (b : Bool) → stays n p k ≡ b → Has (kept_if b k gs) f → (Has gs f → IsKept n p ks f) → IsKept n p (k ∷ ks) f
kept_one n p k ks gs f true is (inl e) rest = (inl e, sym (ap (stays n p) e) ∙ is)
kept_one n p k ks gs f true is (inr i) rest = let r = rest i in (inr r.0, r.1)
kept_one n p k ks gs f false is i rest = let r = rest i in (inr r.0, r.1)

pub is_kept : (n : ℕ) (p : ℕ → Bool) (ks : List Limit) (f : Limit) → Has (kept n p ks) f → IsKept n p ks f
is_kept n p [] f i = absurd i
is_kept n p (k ∷ ks) f i = kept_one n p k ks (kept n p ks) f (stays n p k) refl i (is_kept n p ks f)

limits_of : (n : ℕ) (gs : List Limit) → ((f : Limit) → Has gs f → f.variable < n) → LimitsUnder n gs
limits_of n [] f = tt
limits_of n (g ∷ gs) f = (f g (inl refl), limits_of n gs (λ k i. f k (inr i)))

-- the bounds that are kept are bounds of variables below n
pub kept_under : (n : ℕ) (p : ℕ → Bool) (ks : List Limit) → LimitsUnder n (kept n p ks)
kept_under n p ks = limits_of n (kept n p ks) (λ f i. stays_below n p f (is_kept n p ks f i).1)

-- if only variables that `p` names were changed, the bounds that are kept hold
pub kept_holds : (n : ℕ) (p : ℕ → Bool) (ks : List Limit) (k l : Variables) → Holds ks k → ((x : ℕ) → p x ≡ false → l x ≡ k x) → Holds (kept n p ks) l
kept_holds n p ks k l h same =
    holds_of (kept n p ks) l (λ f i. let q = is_kept n p ks f i in subst (λ w. w ≤ f.most) (sym (same f.variable (stays_unset n p f q.1))) (fact_of ks f k q.0 h))

pub yields_kept : (n : ℕ) (p : ℕ → Bool) (ks : List Limit) → Yields ks (kept n p ks)
yields_kept n p ks = yields_of ks (kept n p ks) (λ f i. (is_kept n p ks f i).0)

-- ---- two lists of bounds

has_left : (ks gs : List Limit) (f : Limit) → Has ks f → Has (ks ++ gs) f
has_left [] gs f i = absurd i
has_left (k ∷ ks) gs f (inl e) = inl e
has_left (k ∷ ks) gs f (inr i) = inr (has_left ks gs f i)

holds_both : (ks gs : List Limit) (l : Variables) → Holds ks l → Holds gs l → Holds (ks ++ gs) l
holds_both [] gs l p q = q
holds_both (k ∷ ks) gs l p q = (p.0, holds_both ks gs l p.1 q)

under_both : (n : ℕ) (ks gs : List Limit) → LimitsUnder n ks → LimitsUnder n gs → LimitsUnder n (ks ++ gs)
under_both n [] gs p q = q
under_both n (k ∷ ks) gs p q = (p.0, under_both n ks gs p.1 q)

-- the bounds joined from two ways hold after each of them
joined_left : (a b : List Limit) (l : Variables) → Holds a l → Holds (joined a b) l
joined_left [] b l p = tt
joined_left (k ∷ a) b l p = by (most_in b k.variable) (joined_left a b l p.1)
  where
    by : (m : Option ℕ) → Holds (joined a b) l → Holds (either k m (joined a b)) l
    by None rest = rest
    by (Some m) rest = (let x = p.0 in let y = le-max_left k.most m in omega arith, rest)

joined_right : (a b : List Limit) (l : Variables) → Holds b l → Holds (joined a b) l
joined_right [] b l p = tt
joined_right (k ∷ a) b l p = by (most_in b k.variable) (in_limits l b k.variable p) (joined_right a b l p)
  where
    by : (m : Option ℕ) → Within m (l k.variable) → Holds (joined a b) l → Holds (either k m (joined a b)) l
    by None q rest = rest
    by (Some m) q rest = (let x : l k.variable ≤ m = q in let y = le-max_right k.most m in omega arith, rest)

joined_under : (n : ℕ) (a b : List Limit) → LimitsUnder n a → LimitsUnder n (joined a b)
joined_under n [] b u = tt
joined_under n (k ∷ a) b u = by (most_in b k.variable) (joined_under n a b u.1)
  where
    by : (m : Option ℕ) → LimitsUnder n (joined a b) → LimitsUnder n (either k m (joined a b))
    by None rest = rest
    by (Some m) rest = (u.0, rest)

-- a bound that was known before an `If` and after both of its ways is known when the ways meet
has_met : (p q : Bool) (n : ℕ) (u : Statement) (before one other : List Limit) (f : Limit) → Has before f → Has one f → Has other f → Has (met p q n u before one other) f
has_met true true n u before one other f i j k = has_left before (joined (kept n (unset u) one) other) f i
has_met true false n u before one other f i j k = j
has_met false true n u before one other f i j k = k
has_met false false n u before one other f i j k = i

met_one : (p q : Bool) (n : ℕ) (u : Statement) (before one other : List Limit) → p ≡ true → Yields one before → Yields one (met p q n u before one other)
met_one true true n u before one other e y l h = holds_both before (joined (kept n (unset u) one) other) l (y l h) (joined_left (kept n (unset u) one) other l (yields_kept n (unset u) one l h))
met_one true false n u before one other e y l h = h
met_one false q n u before one other e y l h = absurd (let f : false ≡ true = e in cc)

met_other : (p q : Bool) (n : ℕ) (u : Statement) (before one other : List Limit) → q ≡ true → Yields other before → Yields other (met p q n u before one other)
met_other true true n u before one other e y l h = holds_both before (joined (kept n (unset u) one) other) l (y l h) (joined_right (kept n (unset u) one) other l h)
met_other false true n u before one other e y l h = h
met_other p false n u before one other e y l h = absurd (let f : false ≡ true = e in cc)

pub met_under : (p q : Bool) (n : ℕ) (u : Statement) (before one other : List Limit) → LimitsUnder n before → LimitsUnder n one → LimitsUnder n other → LimitsUnder n (met p q n u before one other)
met_under true true n u before one other x y z = under_both n before (joined (kept n (unset u) one) other) x (joined_under n (kept n (unset u) one) other (kept_under n (unset u) one))
met_under true false n u before one other x y z = y
met_under false true n u before one other x y z = z
met_under false false n u before one other x y z = x

-- if the bound m holds of w and is at most n, then w is at most n
at_most_is : (m : Option ℕ) (n w : ℕ) → at_most m n ≡ true → Within m w → w ≤ n
at_most_is None n w e p = absurd (let f : false ≡ true = e in cc)
at_most_is (Some m) n w e p = let x : w ≤ m = p in let y : m ≤ n = grind (arith, nat_tests) in omega arith

again_holds : (after ks : List Limit) (l : Variables) → all_again after ks ≡ true → Holds after l → Holds ks l
again_holds after [] l e p = tt
again_holds after (k ∷ ks) l e p =
    let b = at_most (most_in after k.variable) k.most in
    (at_most_is (most_in after k.variable) k.most (l k.variable) (and_left b (all_again after ks) e) (in_limits l after k.variable p), again_holds after ks l (and_right b (all_again after ks) e) p)

still_holds : (after ks : List Limit) (l : Variables) → Holds ks l → Holds (still after ks) l
still_holds after [] l p = tt
still_holds after (k ∷ ks) l p = by (at_most (most_in after k.variable) k.most) (still_holds after ks l p.1)
  where
    by : (b : Bool) → Holds (still after ks) l → Holds (kept_if b k (still after ks)) l
    by true rest = (p.0, rest)
    by false rest = rest

still_under : (n : ℕ) (after ks : List Limit) → LimitsUnder n ks → LimitsUnder n (still after ks)
still_under n after [] u = tt
still_under n after (k ∷ ks) u = by (at_most (most_in after k.variable) k.most) (still_under n after ks u.1)
  where
    by : (b : Bool) → LimitsUnder n (still after ks) → LimitsUnder n (kept_if b k (still after ks))
    by true rest = (u.0, rest)
    by false rest = rest

if_holds : (b : Bool) (ks : List Limit) (l : Variables) → Holds ks l → Holds (if b then ks else []) l
if_holds true ks l p = p
if_holds false ks l p = tt

if_under : (n : ℕ) (b : Bool) (ks : List Limit) → LimitsUnder n ks → LimitsUnder n (if b then ks else [])
if_under n true ks u = u
if_under n false ks u = tt

-- ---- what guards leave known

module _ (objects : List Size) where
  has_learned : (e : Expression) (m : ℕ) (ks : List Limit) (f : Limit) → Has ks f → Has (learned e m ks) f
  has_learned (Constant w) m ks f i = i
  has_learned (Local x) m ks f i = has_push ks _ f i
  has_learned (Unary op e) m ks f i = i
  has_learned (Binary op a b) m ks f i = i
  has_learned (Load w o j) m ks f i = i

  same_known : (e : Expression) (g : Guarded) → (waits_as e g).known ≡ g.known
  same_known (Constant w) g = refl
  same_known (Local x) g = refl
  same_known (Unary op e) g = refl
  same_known (Binary op a b) g = refl
  same_known (Load w o i) g = refl

  has_waiting : (g : Guarded) (f : Limit) → Has g.known f → Has (waiting g).known f
  has_waiting g f i = subst (λ ks. Has ks f) (sym (same_known g.value g)) i

  has_if : (b : Bool) (g : Guarded) (f : Limit) → Has g.known f → Has (waiting_if b g).known f
  has_if true g f i = has_waiting g f i
  has_if false g f i = i

  has_index : (b : Bool) (m : ℕ) (g : Guarded) (f : Limit) → Has g.known f → Has (if b then g else bounded m (waiting g)).known f
  has_index true m g f i = i
  has_index false m g f i = has_learned (waiting g).value m (waiting g).known f (has_waiting g f i)

  has_indexed : (ks : List Limit) (w : Width) (o : ℕ) (i : Expression) (g : Guarded) (f : Limit) → Has g.known f → Has (indexed objects ks w o i g).known f
  has_indexed ks w o i g f h = has_index (is_below (most ks i) (elements_in objects w o)) (elements_in objects w o) g f h

  abbrev after : Guarded → Expression → Guarded
  after g e = guarded objects g.known g.next e

  has_operator : (r : Bool) (op : two.Binary) (b : Expression) (a : Guarded) (f : Limit) → Has a.known f → ((g : Guarded) → Has g.known f → Has (after g b).known f)
      → Has (if r then with_binary op a (after a b) else with_test op (waiting_if (reads_left op) a) (waiting (after (waiting_if (reads_left op) a) b))).known f
  has_operator true op b a f i right = right a i
  has_operator false op b a f i right = let left = waiting_if (reads_left op) a in has_waiting (after left b) f (right left (has_if (reads_left op) a f i))

  pub has_guarded : (e : Expression) (ks : List Limit) (n : ℕ) (f : Limit) → Has ks f → Has (guarded objects ks n e).known f
  has_guarded (Constant w) ks n f i = i
  has_guarded (Local x) ks n f i = i
  has_guarded (Unary op e) ks n f i = has_guarded e ks n f i
  has_guarded (Binary op a b) ks n f i = has_operator (always (guarded objects ks n a).known op b) op b (guarded objects ks n a) f (has_guarded a ks n f i) (λ g j. has_guarded b g.known g.next f j)
  has_guarded (Load w o e) ks n f i = has_indexed ks w o e (guarded objects ks n e) f (has_guarded e ks n f i)

  has_all : (es : List Expression) (ks : List Limit) (n : ℕ) (f : Limit) → Has ks f → Has (guarded_all objects ks n es).known f
  has_all [] ks n f i = i
  has_all (e ∷ es) ks n f i = has_all es (guarded objects ks n e).known (guarded objects ks n e).next f (has_guarded e ks n f i)

  -- ---- what a statement leaves known

  module _ (n : ℕ) where
    has_set : (x : ℕ) (m : Option ℕ) (ks : List Limit) (f : Limit) → Has ks f → Has (set_to x m ks) f
    has_set x None ks f i = i
    has_set x (Some m) ks f i = has_push ks _ f i

    has_told : (ks : List Limit) (o : Option Limit) (f : Limit) → Has ks f → Has (with_told ks o) f
    has_told ks None f i = i
    has_told ks (Some k) f i = has_push ks k f i

    within_has : (way : Bool) (e : Expression) (ks : List Limit) (f : Limit) → Has (guarded objects ks n e).known f → stays n (sets Skip) f ≡ true → Has (known_within objects n way ks e) f
    within_has way e ks f i is =
        let g = guarded objects ks n e in
        has_kept n (sets Skip) (with_told g.known (told g.known way e)) f (has_told g.known (told g.known way e) f i) is

    has_within : (way : Bool) (e : Expression) (s : Statement) (ks : List Limit) (f : Limit) → Has ks f → stays n (sets s) f ≡ true → Has (known_within objects n way ks e) f
    has_within way e s ks f i is = within_has way e ks f (has_guarded e ks n f i) (stays_skip n (sets s) f is)

    has_either : (b : Bool) (ks gs : List Limit) (f : Limit) → Has ks f → Has gs f → Has (if b then ks else gs) f
    has_either true ks gs f i j = i
    has_either false ks gs f i j = j

    pub has_after : (s : Statement) (ks : List Limit) (f : Limit) → Has ks f → stays n (sets s) f ≡ true → Has (known_after objects n ks s) f
    has_after Skip ks f i is = i
    has_after (Set x e) ks f i is =
        let g = guarded objects ks n e in
        has_set x (most g.known e) (kept n (sets (Set x e)) g.known) f (has_kept n (sets (Set x e)) g.known f (has_guarded e ks n f i) is)
    has_after (Store w o i e) ks f j is =
        let gi = first_index objects ks n w o i in
        let ge = stored_word objects gi e in
        has_kept n (sets (Store w o i e)) ge.known f (has_guarded e gi.known gi.next f (has_indexed ks w o i (guarded objects ks n i) f (has_guarded i ks n f j))) is
    has_after (Call to g es) ks f i is = has_kept n (sets (Call to g es)) (guarded_all objects ks n es).known f (has_all es ks n f i) is
    has_after (Read to) ks f i is = has_kept n (sets (Read to)) ks f i is
    has_after (Write e) ks f i is = has_kept n (sets (Write e)) (guarded objects ks n e).known f (has_guarded e ks n f i) is
    has_after (Sequence s t) ks f i is = let p = stays_both n (sets s) (sets t) f is in has_after t (known_after objects n ks s) f (has_after s ks f i p.0) p.1
    has_after (If e s t) ks f i is =
        let p = stays_both n (sets s) (sets t) f is in
        has_met (falls s) (falls t) n (If e s t) (kept n (sets (If e s t)) (guarded objects ks n e).known) (known_after objects n (known_within objects n true ks e) s) (known_after objects n (known_within objects n false ks e) t) f
        (has_kept n (sets (If e s t)) (guarded objects ks n e).known f (has_guarded e ks n f i) is) (has_after s (known_within objects n true ks e) f (has_within true e s ks f i p.0) p.0)
        (has_after t (known_within objects n false ks e) f (has_within false e t ks f i p.1) p.1)
    has_after (Loop s) ks f i is = has_kept n (sets s) ks f i is
    has_after (Block s) ks f i is = has_either (leaves 0 s) (kept n (sets s) ks) (known_after objects n ks s) f (has_kept n (sets s) ks f i is) (has_after s ks f i is)
    has_after (Exit k) ks f i is = i
    has_after (Return e) ks f i is = has_kept n (sets (Return e)) (guarded objects ks n e).known f (has_guarded e ks n f i) is

    -- what is known after a statement includes the bounds of variables that it does not set
    yields_after : (s : Statement) (ks : List Limit) → Yields (known_after objects n ks s) (kept n (sets s) ks)
    yields_after s ks = yields_of (known_after objects n ks s) (kept n (sets s) ks) (λ f i. let p = is_kept n (sets s) ks f i in has_after s ks f p.0 p.1)

    -- what is known after a block includes the bounds of variables that the block does not set
    yields_block : (b : Bool) (s : Statement) (ks : List Limit) → Yields (known_after objects n ks s) (if b then kept n (sets s) ks else known_after objects n ks s)
    yields_block true s ks = yields_after s ks
    yields_block false s ks = λ l h. h

    -- what is known at a loop's head is known before the loop, and again after a turn
    pub yields_head : (s : Statement) (ks : List Limit) → Yields ks (head objects n ks s)
    yields_head s ks l h =
        let before = kept n (unset s) ks in
        let near = narrowed objects n ks s before in
        let gs = found objects n ks s in
        let held = still_holds (turn objects n ks s near) near l (joined_left before (turn objects n ks s (widened (turn objects n ks s before) before)) l (yields_kept n (unset s) ks l h)) in
        holds_both (kept n (sets s) ks) (if_again (turn objects n ks s gs) gs) l (yields_kept n (sets s) ks l h) (if_holds (all_again (turn objects n ks s gs) gs) gs l held)

    pub head_under : (s : Statement) (ks : List Limit) → LimitsUnder n (head objects n ks s)
    head_under s ks =
        let before = kept n (unset s) ks in
        let near = narrowed objects n ks s before in
        let gs = found objects n ks s in
        let under = still_under n (turn objects n ks s near) near (joined_under n before (turn objects n ks s (widened (turn objects n ks s before) before)) (kept_under n (unset s) ks)) in
        under_both n (kept n (sets s) ks) (if_again (turn objects n ks s gs) gs) (kept_under n (sets s) ks) (if_under n (all_again (turn objects n ks s gs) gs) gs under)

    has_head : (s : Statement) (ks : List Limit) (f : Limit) → Has ks f → stays n (sets s) f ≡ true → Has (head objects n ks s) f
    has_head s ks f i is = let gs = found objects n ks s in has_left (kept n (sets s) ks) (if_again (turn objects n ks s gs) gs) f (has_kept n (sets s) ks f i is)

    base_again : (s : Statement) (ks more : List Limit) → Yields (turn objects n ks s more) (kept n (sets s) ks)
    base_again s ks more =
        let base = kept n (sets s) ks in
        yields_of (turn objects n ks s more) base (λ f i. has_after s (base ++ more) f (has_left base more f i) (is_kept n (sets s) ks f i).1)

    turn_again : (s : Statement) (ks more : List Limit) (b : Bool) → all_again (turn objects n ks s more) more ≡ b → Yields (turn objects n ks s (if b then more else [])) (kept n (sets s) ks ++ (if b then more else []))
    turn_again s ks more true e l h = holds_both (kept n (sets s) ks) more l (base_again s ks more l h) (again_holds (turn objects n ks s more) more l e h)
    turn_again s ks more false e l h = holds_both (kept n (sets s) ks) [] l (base_again s ks [] l h) tt

    yields_again : (s : Statement) (ks : List Limit) → Yields (known_after objects n (head objects n ks s) s) (head objects n ks s)
    yields_again s ks = let gs = found objects n ks s in turn_again s ks gs (all_again (turn objects n ks s gs) gs) refl

    yields_joined : (way : Bool) (e : Expression) (s u : Statement) (ks : List Limit) → ((f : Limit) → stays n (sets u) f ≡ true → stays n (sets s) f ≡ true) → Yields (known_after objects n (known_within objects n way ks e) s) (kept n (sets u) (guarded objects ks n e).known)
    yields_joined way e s u ks part =
        yields_of (known_after objects n (known_within objects n way ks e) s) (kept n (sets u) (guarded objects ks n e).known)
        (λ f i. let p = is_kept n (sets u) (guarded objects ks n e).known f i in has_after s (known_within objects n way ks e) f (within_has way e ks f p.0 (stays_skip n (sets u) f p.1)) (part f p.1))

    abbrev before_met : Expression → Statement → Statement → List Limit → List Limit
    before_met e s t ks = kept n (sets (If e s t)) (guarded objects ks n e).known

    yields_one : (e : Expression) (s t : Statement) (ks : List Limit) → falls s ≡ true → Yields (known_after objects n (known_within objects n true ks e) s) (known_after objects n ks (If e s t))
    yields_one e s t ks is =
        met_one (falls s) (falls t) n (If e s t) (before_met e s t ks) (known_after objects n (known_within objects n true ks e) s) (known_after objects n (known_within objects n false ks e) t) is
        (yields_joined true e s (If e s t) ks (λ f k. (stays_both n (sets s) (sets t) f k).0))

    yields_other : (e : Expression) (s t : Statement) (ks : List Limit) → falls t ≡ true → Yields (known_after objects n (known_within objects n false ks e) t) (known_after objects n ks (If e s t))
    yields_other e s t ks is =
        met_other (falls s) (falls t) n (If e s t) (before_met e s t ks) (known_after objects n (known_within objects n true ks e) s) (known_after objects n (known_within objects n false ks e) t) is
        (yields_joined false e t (If e s t) ks (λ f k. (stays_both n (sets s) (sets t) f k).1))

    -- ---- code, with what is known at each place

    module _ (quiet : Bool) where
      -- if `quiet` is true, there is no guard
      abbrev pub Silent : List Guard → Type 0
      Silent gs = quiet ≡ true → some_guard gs ≡ false

      -- an exit leaves blocks that exist, and what should be known after the outermost of them is known
      abbrev pub ExitKnows : List (List Limit) → (k : ℕ) → List Limit → Type 0
      ExitKnows [] k ks = ⊥
      ExitKnows (gs ∷ E) zero ks = Yields ks gs
      ExitKnows (gs ∷ E) (suc k) ks = ExitKnows E k ks

      -- if control can reach the end of the statement, these bounds are known there
      abbrev pub Leads : Statement → List Limit → List Limit → Type 0
      Leads s ks gs = falls s ≡ true → Yields (known_after objects n ks s) gs

      pub leads_of : (s : Statement) (ks gs : List Limit) → Yields (known_after objects n ks s) gs → Leads s ks gs
      leads_of s ks gs g is = g

      abbrev pub Flows : List (List Limit) → List Limit → Statement → Type 0
      Flows E ks Skip = Unit {0}
      Flows E ks (Set x e) = (x < n) × Under n e × Silent (guarded objects ks n e).before
      Flows E ks (Store w o i e) = Under n i × Under n e × Silent ((first_index objects ks n w o i).before ++ (stored_word objects (first_index objects ks n w o i) e).before)
      Flows E ks (Call to f es) = AllUnder n es × Silent (guarded_all objects ks n es).before
      Flows E ks (Read to) = Unit {0}
      Flows E ks (Write e) = Under n e × Silent (guarded objects ks n e).before
      Flows E ks (Sequence s t) = Flows E ks s × Flows E (known_after objects n ks s) t
      Flows E ks (If e s t) =
          Under n e × Silent (guarded objects ks n e).before
          × Flows E (known_within objects n true ks e) s × Leads s (known_within objects n true ks e) (known_after objects n ks (If e s t))
          × Flows E (known_within objects n false ks e) t × Leads t (known_within objects n false ks e) (known_after objects n ks (If e s t))
      Flows E ks (Loop s) = Flows E (head objects n ks s) s × Leads s (head objects n ks s) (head objects n ks s)
      Flows E ks (Block s) = Flows (known_after objects n ks (Block s) ∷ E) ks s × Leads s ks (known_after objects n ks (Block s))
      Flows E ks (Exit k) = ExitKnows E k ks
      Flows E ks (Return e) = Under n e × Silent (guarded objects ks n e).before

      -- what remains to be done can start with these bounds
      abbrev pub Continues : List Limit → Noted → Type 0
      Continues gs Last = Unit {0}
      Continues gs (AndThen ks s ν) = Yields gs ks × LimitsUnder n ks × Flows (exits_of ν) ks s × (after : List Limit) × Leads s ks after × Continues after ν
      Continues gs (InLoop ks s ν) = Yields gs ks × LimitsUnder n ks × Flows (exits_of ν) ks s × Leads s ks ks × (after : List Limit) × Continues after ν
      Continues gs (InBlock ks ν) = Yields gs ks × LimitsUnder n ks × Continues ks ν

      pub continues_more : (ks gs : List Limit) (ν : Noted) → Yields ks gs → Continues gs ν → Continues ks ν
      continues_more ks gs Last g c = tt
      continues_more ks gs (AndThen hs s ν) g c = (λ l h. c.0 l (g l h), c.1, c.2, c.3, c.4, c.5)
      continues_more ks gs (InLoop hs s ν) g c = (λ l h. c.0 l (g l h), c.1, c.2, c.3, c.4, c.5)
      continues_more ks gs (InBlock hs ν) g c = (λ l h. c.0 l (g l h), c.1, c.2)

      -- ---- all code that fits has these properties

      -- if an exit leaves just one block, then what should be known after that block is known in it, for variables that the block
      -- does not set
      abbrev AllStay : List (List Limit) → (ℕ → Bool) → List Limit → Statement → Type 0
      AllStay [] out ks s = Unit {0}
      AllStay (gs ∷ E) out ks s = (out 0 ≡ true → (f : Limit) → Has gs f → IsKept n (sets s) ks f) × AllStay E (λ k. out (suc k)) ks s

      stay_on : (E : List (List Limit)) (out in' : ℕ → Bool) (ks hs : List Limit) (s t : Statement) → AllStay E out ks s → ((k : ℕ) → in' k ≡ true → out k ≡ true) → ((f : Limit) → IsKept n (sets s) ks f → IsKept n (sets t) hs f) → AllStay E in' hs t
      stay_on [] out in' ks hs s t a w g = tt
      stay_on (gs ∷ E) out in' ks hs s t a w g = (λ z f i. g f (a.0 (w 0 z) f i), stay_on E (λ k. out (suc k)) (λ k. in' (suc k)) ks hs s t a.1 (λ k. w (suc k)) g)

      exit_knows : (E : List (List Limit)) (k : ℕ) (out : ℕ → Bool) (ks : List Limit) (s : Statement) → k < length E → out k ≡ true → AllStay E out ks s → ExitKnows E k ks
      exit_knows [] k out ks s lt z a = absurd (omega arith)
      exit_knows (gs ∷ E) zero out ks s lt z a = yields_of ks gs (λ f i. (a.0 z f i).0)
      exit_knows (gs ∷ E) (suc k) out ks s lt z a = exit_knows E k (λ j. out (suc j)) ks s (omega arith) z a.1

      in_left : (a b : Bool) → a ≡ true → (a || b) ≡ true
      in_left true b e = refl
      in_left false b e = absurd (let f : false ≡ true = e in cc)

      in_right : (a b : Bool) → b ≡ true → (a || b) ≡ true
      in_right true b e = refl
      in_right false b e = e

      block_stays : (b : Bool) (ks gs : List Limit) (s : Statement) (f : Limit) → b ≡ true → Has (if b then kept n (sets s) ks else gs) f → IsKept n (sets s) ks f
      block_stays true ks gs s f e i = is_kept n (sets s) ks f i
      block_stays false ks gs s f e i = absurd (let g : false ≡ true = e in cc)

      or_left : (a b : Bool) → (a || b) ≡ false → a ≡ false
      or_left true b e = e
      or_left false b e = refl

      or_right : (a b : Bool) → (a || b) ≡ false → b ≡ false
      or_right true b e = absurd (let f : true ≡ false = e in cc)
      or_right false b e = e

      pub flows : (s : Statement) (E : List (List Limit)) (ks : List Limit) → Fits n (length E) s → (quiet ≡ true → guards_after objects n ks s ≡ false) → AllStay E (λ k. leaves k s) ks s → Flows E ks s
      flows Skip E ks u q a = tt
      flows (Set x e) E ks u q a = (u.0, u.1, q)
      flows (Store w o i e) E ks u q a = (u.0, u.1, q)
      flows (Call to f es) E ks u q a = (u, q)
      flows (Read to) E ks u q a = tt
      flows (Write e) E ks u q a = (u, q)
      flows (Sequence s t) E ks u q a =
          let K = known_after objects n ks s in (
            flows s E ks u.0 (λ z. or_left _ (guards_after objects n K t) (q z))
                (stay_on E (λ k. leaves k s || leaves k t) (λ k. leaves k s) ks ks (Sequence s t) s a (λ k. in_left (leaves k s) (leaves k t)) (λ f k. (k.0, (stays_both n (sets s) (sets t) f k.1).0))),
            flows t E K u.1 (λ z. or_right (guards_after objects n ks s) _ (q z))
                (stay_on E (λ k. leaves k s || leaves k t) (λ k. leaves k t) ks K (Sequence s t) t a (λ k. in_right (leaves k s) (leaves k t))
                (λ f k. let p = stays_both n (sets s) (sets t) f k.1 in (has_after s ks f k.0 p.0, p.1))),
          )
      flows (If e s t) E ks u q a =
          let K = known_within objects n true ks e in
          let N = known_within objects n false ks e in
          let b = some_guard (guarded objects ks n e).before in
          let c = guards_after objects n K s in
          let d = guards_after objects n N t in (
            u.0,
            λ z. or_left b (c || d) (q z),
            flows s E K u.1 (λ z. or_left c d (or_right b (c || d) (q z)))
                (stay_on E (λ k. leaves k s || leaves k t) (λ k. leaves k s) ks K (If e s t) s a (λ k. in_left (leaves k s) (leaves k t))
                (λ f k. (has_within true e (If e s t) ks f k.0 k.1, (stays_both n (sets s) (sets t) f k.1).0))),
            yields_one e s t ks,
            flows t E N u.2 (λ z. or_right c d (or_right b (c || d) (q z)))
                (stay_on E (λ k. leaves k s || leaves k t) (λ k. leaves k t) ks N (If e s t) t a (λ k. in_right (leaves k s) (leaves k t))
                (λ f k. (has_within false e (If e s t) ks f k.0 k.1, (stays_both n (sets s) (sets t) f k.1).1))),
            yields_other e s t ks,
          )
      flows (Loop s) E ks u q a =
          let H = head objects n ks s in
          (flows s E H u q (stay_on E (λ k. leaves k s) (λ k. leaves k s) ks H (Loop s) s a (λ k z. z) (λ f k. (has_head s ks f k.0 k.1, k.1))), leads_of s H H (yields_again s ks))
      flows (Block s) E ks u q a =
          let K = known_after objects n ks s in
          let A = known_after objects n ks (Block s) in (
            flows s (A ∷ E) ks u q
                (λ z f i. block_stays (leaves 0 s) ks K s f z i, stay_on E (λ k. leaves (suc k) s) (λ k. leaves (suc k) s) ks ks (Block s) s a (λ k z. z) (λ f k. k)),
            leads_of s ks A (yields_block (leaves 0 s) s ks),
          )
      flows (Exit k) E ks u q a = exit_knows E k (λ j. k == j) ks (Exit k) u (let e : (k == k) ≡ true = grind (arith, nat_tests) in e) a
      flows (Return e) E ks u q a = (u, q)
