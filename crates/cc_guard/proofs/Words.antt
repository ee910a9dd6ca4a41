-- Code whose constants are words computes words from words: variables and objects hold words, and it passes words to calls
-- and returns words. So each call that it makes is one that the source can make.
use Rattle.std.proofs.Common.{◌≡◌, ℕ, zero, suc, ◌^◌, ◌<◌, Bool, true, false, ◌==◌, List, [], ◌∷◌, length, get_or, Option, Some, None, option_map, unwrap_or, slice_get, refl, sym, ap, ◌∙◌, subst, arith}
use Rattle.std.specs.Prelude.{if◌then◌else◌, set}
use Rattle.std.proofs.lemmas.List.{length-map}
use Rattle.std.proofs.lemmas.Option.{slice_get_within}
use Rattle.cc_words.specs.declared.operators.Unary as one
use Rattle.cc_words.specs.declared.operators.Unary.TheVariants.{Neg, Complement, IsZero}
use Rattle.cc_words.specs.declared.operators.Binary as two
use Rattle.cc_words.specs.declared.operators.Binary.TheVariants.{Add, Sub, Mul, DivS, DivU, RemS, RemU, Shl, ShrS, ShrU, And, Or, Xor, Eq, Ne, LtS, LtU, LeS, LeU}
use Rattle.cc_words.specs.declared.operators.Width.{Width}
use Rattle.cc_words.specs.declared.operators.Width.TheVariants.{Byte, Word}
use Rattle.cc_words.specs.Widths.{same_width, kept}
use Rattle.cc_words.specs.Operators.{apply_unary, apply_binary}
use Rattle.cc_words.specs.internal.Word.{IsWord}
use Rattle.cc_words.proofs.Laws.{IsWord-add, IsWord-sub, IsWord-mul, IsWord-neg, IsWord-div_s, IsWord-div_u, IsWord-rem_s, IsWord-rem_u, IsWord-shl, IsWord-shr_s, IsWord-shr_u, IsWord-and, IsWord-or, IsWord-xor, IsWord-eq, IsWord-ne, IsWord-lt_s, IsWord-lt_u, IsWord-le_s, IsWord-le_u, IsWord-is_zero, IsWord-complement}
use Rattle.cc_ast.specs.Tree.{External}
use Rattle.cc_c_semantics.specs.Meaning.{Function, functions}
use Rattle.cc_c_semantics.specs.Resolved.{arities}
use Rattle.cc_c_semantics.specs.Numbered.{objects_in, arity_in}
use Rattle.cc_simulation.specs.Behavior.{AreWords}
use Rattle.cc_simulation.specs.World.{Object, Size, World, Answer, IsWorld, object_of, object_words, object_with, element, with_element, stored, first_or_zero, rest_of, next_word, after_read, after_write}
use Rattle.cc_simulation.specs.Run.{Move, Goes, Calls, Returns, Fails, tried}
use Rattle.cc_cminor_language.specs.Cminor.{Expression, Constant, Local, Unary, Binary, Load, Statement, Skip, Set, Store, Call, Read, Write, Sequence, If, Loop, Block, Exit, Return, Continuation, Ends, Then, Again, Leaving, Variables, value, values, put, put_result, then_value, Config, config, chosen, left_by, skips, exits, moves, cminor_move, first_variables, cminor_start}
use Rattle.cc_cminor_language.specs.Pair.{AreCalls}
use Rattle.cc_guard.specs.Safe.{ConstantsFit, AllConstantsFit, CodeConstantsFit}
use Rattle.cc_guard.proofs.Tests.{stored_sizes}

-- ---- operators

some_is : (v w : ℕ) → Some v ≡ Some w → v ≡ w
some_is v w e = cc

is_word : (v w : ℕ) → IsWord v → Some v ≡ Some w → IsWord w
is_word v w h e = subst IsWord (some_is v w e) h

unary_word : (op : one.Unary) (a : ℕ) → IsWord (apply_unary op a)
unary_word Neg a = IsWord-neg a
unary_word Complement a = IsWord-complement a
unary_word IsZero a = IsWord-is_zero a

binary_word : (op : two.Binary) (a b v : ℕ) → IsWord a → IsWord b → apply_binary op a b ≡ Some v → IsWord v
binary_word Add a b v p q e = is_word _ v (IsWord-add a b) e
binary_word Sub a b v p q e = is_word _ v (IsWord-sub a b) e
binary_word Mul a b v p q e = is_word _ v (IsWord-mul a b) e
binary_word DivS a b v p q e = IsWord-div_s a b v e
binary_word DivU a b v p q e = IsWord-div_u a b v p e
binary_word RemS a b v p q e = IsWord-rem_s a b v e
binary_word RemU a b v p q e = IsWord-rem_u a b v p e
binary_word Shl a b v p q e = IsWord-shl a b v e
binary_word ShrS a b v p q e = IsWord-shr_s a b v e
binary_word ShrU a b v p q e = IsWord-shr_u a b v p e
binary_word And a b v p q e = is_word _ v (IsWord-and a b p) e
binary_word Or a b v p q e = is_word _ v (IsWord-or a b p q) e
binary_word Xor a b v p q e = is_word _ v (IsWord-xor a b p q) e
binary_word Eq a b v p q e = is_word _ v (IsWord-eq a b) e
binary_word Ne a b v p q e = is_word _ v (IsWord-ne a b) e
binary_word LtS a b v p q e = is_word _ v (IsWord-lt_s a b) e
binary_word LtU a b v p q e = is_word _ v (IsWord-lt_u a b) e
binary_word LeS a b v p q e = is_word _ v (IsWord-le_s a b) e
binary_word LeU a b v p q e = is_word _ v (IsWord-le_u a b) e

-- ---- lists of words

word_at : (ws : List ℕ) (i v : ℕ) → AreWords ws → slice_get ws i ≡ Some v → IsWord v
word_at [] i v h e = absurd (let f : None ≡ Some v = e in cc)
word_at (w ∷ ws) zero v h e = is_word w v h.0 e
word_at (w ∷ ws) (suc i) v h e = word_at ws i v h.1 e

word_or_zero : (ws : List ℕ) (i : ℕ) → AreWords ws → IsWord (get_or ws i 0)
word_or_zero [] i h = omega arith
word_or_zero (w ∷ ws) zero h = h.0
word_or_zero (w ∷ ws) (suc i) h = word_or_zero ws i h.1

words_set : (ws : List ℕ) (i w : ℕ) → AreWords ws → IsWord w → AreWords (set ws i w)
words_set [] i w h k = tt
words_set (v ∷ ws) zero w h k = (k, h.1)
words_set (v ∷ ws) (suc i) w h k = (h.0, words_set ws i w h.1 k)

first_word : (ws : List ℕ) → AreWords ws → IsWord (first_or_zero ws)
first_word [] h = omega arith
first_word (w ∷ ws) h = h.0

rest_words : (ws : List ℕ) → AreWords ws → AreWords (rest_of ws)
rest_words [] h = tt
rest_words (w ∷ ws) h = h.1

kept_word : (width : Width) (w : ℕ) → IsWord w → IsWord (kept width w)
kept_word Byte w h = omega arith
kept_word Word w h = h

-- ---- objects

abbrev no_object : Object
no_object = record { width = Word; words = [] }

object_set : (gs : List Object) (o : ℕ) (x : Object) → AreWords x.words → ((g : ℕ) → AreWords (get_or gs g no_object).words) → (g : ℕ) → AreWords (get_or (set gs o x) g no_object).words
object_set [] o x h f g = f g
object_set (y ∷ gs) zero x h f zero = h
object_set (y ∷ gs) zero x h f (suc g) = f (suc g)
object_set (y ∷ gs) (suc o) x h f zero = f 0
object_set (y ∷ gs) (suc o) x h f (suc g) = object_set gs o x h (λ k. f (suc k)) g

element_word : (objects : List Size) (h : World) → IsWorld objects h → (width : Width) (o i v : ℕ) → element h width o i ≡ Some v → IsWord v
element_word objects h is width o i v e = by (same_width (object_of h o).width width) e
  where
    by : (b : Bool) → (if b then slice_get (object_words h o) i else None) ≡ Some v → IsWord v
    by true f = word_at (object_words h o) i v (is.globals o) f
    by false f = absurd (let g : None ≡ Some v = f in cc)

stored_world : (objects : List Size) (h g : World) → IsWorld objects h → (width : Width) (o i w : ℕ) → IsWord w → stored h width o i w ≡ Some g → IsWorld objects g
stored_world objects h g is width o i w k e = by (element h width o i) e
  where
    by : (r : Option ℕ) → option_map (λ old. with_element h o i (kept width w)) r ≡ Some g → IsWorld objects g
    by None f = absurd (let z : None ≡ Some g = f in cc)
    by (Some old) f =
        let same : with_element h o i (kept width w) ≡ g = (let z : Some (with_element h o i (kept width w)) ≡ Some g = f in cc) in
        record {
          sizes = stored_sizes objects h g width o i w is.sizes e;
          globals = subst (λ (x : World). (j : ℕ) → AreWords (object_words x j)) same
              (object_set h.globals o (object_with (object_of h o) i (kept width w)) (words_set (object_words h o) i (kept width w) (is.globals o) (kept_word width w k)) is.globals);
          input = subst (λ (x : World). AreWords x.input) same is.input;
        }

read_world : (objects : List Size) (h : World) → IsWorld objects h → IsWorld objects (after_read h)
read_world objects h is = record { sizes = is.sizes; globals = is.globals; input = rest_words h.input is.input }

write_world : (objects : List Size) (h : World) (w : ℕ) → IsWorld objects h → IsWorld objects (after_write w h)
write_world objects h w is = record { sizes = is.sizes; globals = is.globals; input = is.input }

-- ---- variables

abbrev pub HoldWords : Variables → Type 0
HoldWords l = (x : ℕ) → l x < 2 ^ 32

put_words : (l : Variables) (x w : ℕ) → HoldWords l → w < 2 ^ 32 → HoldWords (put l x w)
put_words l x w h k = λ y. by (x == y) y
  where
    by : (b : Bool) (y : ℕ) → (if b then w else l y) < 2 ^ 32
    by true y = k
    by false y = h y

result_words : (l : Variables) (to : Option ℕ) (w : ℕ) → HoldWords l → w < 2 ^ 32 → HoldWords (put_result l to w)
result_words l None w h k = h
result_words l (Some x) w h k = put_words l x w h k

-- ---- expressions

unary_by : (op : one.Unary) (o : Option ℕ) (w : ℕ) → then_value o (λ a. Some (apply_unary op a)) ≡ Some w → IsWord w
unary_by op None w e = absurd (let f : None ≡ Some w = e in cc)
unary_by op (Some a) w e = is_word (apply_unary op a) w (unary_word op a) e

binary_by : (op : two.Binary) (o p : Option ℕ) (w : ℕ) → ((x : ℕ) → o ≡ Some x → IsWord x) → ((y : ℕ) → p ≡ Some y → IsWord y) → then_value o (λ x. then_value p (λ y. apply_binary op x y)) ≡ Some w → IsWord w
binary_by op None p w f g e = absurd (let f : None ≡ Some w = e in cc)
binary_by op (Some x) None w f g e = absurd (let f : None ≡ Some w = e in cc)
binary_by op (Some x) (Some y) w f g e = binary_word op x y w (f x refl) (g y refl) e

abbrev pub Have : List Expression → List ℕ → Type 0
Have es ws = AreWords ws × (length ws ≡ length es)

have_by : (a : Expression) (es : List Expression) (o : Option ℕ) (p : Option (List ℕ)) (ws : List ℕ) → ((x : ℕ) → o ≡ Some x → IsWord x) → ((vs : List ℕ) → p ≡ Some vs → Have es vs)
    → then_value o (λ w. then_value p (λ vs. Some (w ∷ vs))) ≡ Some ws → Have (a ∷ es) ws
have_by a es None p ws f g e = absurd (let z : ◌≡◌ {A = Option (List ℕ)} None (Some ws) = e in cc)
have_by a es (Some w) None ws f g e = absurd (let z : ◌≡◌ {A = Option (List ℕ)} None (Some ws) = e in cc)
have_by a es (Some w) (Some vs) ws f g e =
    let same : w ∷ vs ≡ ws = (let z : ◌≡◌ {A = Option (List ℕ)} (Some (w ∷ vs)) (Some ws) = e in cc) in
    let rest = g vs refl in
    subst (λ (xs : List ℕ). Have (a ∷ es) xs) same ((f w refl, rest.0), ap suc rest.1)

module _ (objects : List Size) (l : Variables) (h : World) (holds : HoldWords l) (is : IsWorld objects h) where
  loaded : (width : Width) (o : ℕ) (r : Option ℕ) (w : ℕ) → then_value r (λ j. element h width o j) ≡ Some w → IsWord w
  loaded width o None w e = absurd (let f : None ≡ Some w = e in cc)
  loaded width o (Some j) w e = element_word objects h is width o j w e

  pub value_word : (e : Expression) → ConstantsFit e → (w : ℕ) → value e l h ≡ Some w → IsWord w
  value_word (Constant v) k w e = is_word v w k e
  value_word (Local x) k w e = is_word (l x) w (holds x) e
  value_word (Unary op a) k w e = unary_by op (value a l h) w e
  value_word (Binary op a b) k w e = binary_by op (value a l h) (value b l h) w (value_word a k.0) (value_word b k.1) e
  value_word (Load width o i) k w e = loaded width o (value i l h) w e

  have_words : (es : List Expression) → AllConstantsFit es → (ws : List ℕ) → values es l h ≡ Some ws → Have es ws
  have_words [] k ws e = let same : [] ≡ ws = (let f : ◌≡◌ {A = Option (List ℕ)} (Some []) (Some ws) = e in cc) in subst (λ (xs : List ℕ). Have [] xs) same (tt, refl)
  have_words (a ∷ es) k ws e = have_by a es (value a l h) (values es l h) ws (value_word a k.0) (have_words es k.1) e

-- ---- moves

module _ (unit : List External) where
  abbrev objects : List Size
  objects = objects_in unit

  -- a call that the source can make
  pub record IsAsked (f : ℕ) (ws : List ℕ) (h : World) : Type 0 where
    pub below : f < length (functions unit)
    pub count : length ws ≡ arity_in unit f
    pub words : AreWords ws
    pub world : IsWorld objects h

  asked : (f : ℕ) (es : List Expression) (ws : List ℕ) (h : World) → slice_get (arities unit) f ≡ Some (length es) → AreWords ws → length ws ≡ length es → IsWorld objects h → IsAsked f ws h
  asked f es ws h e words long is =
      let lt : f < length (arities unit) = slice_get_within (arities unit) f (length es) e in
      let many : length (arities unit) ≡ length (functions unit) = length-map (functions unit) (λ (g : Function). length g.parameters) in
      record { below = omega arith; count = long ∙ sym (ap (λ o. unwrap_or o 0) e); words = words; world = is }

  abbrev NextFits : Continuation → Type 0
  NextFits Ends = Unit {0}
  NextFits (Then s κ) = AreCalls unit s × CodeConstantsFit s × NextFits κ
  NextFits (Again s κ) = AreCalls unit s × CodeConstantsFit s × NextFits κ
  NextFits (Leaving κ) = NextFits κ

  -- the configuration holds only words, and what remains to be done calls only functions of the unit
  pub record IsOfWords (c : Config) : Type 0 where
    pub calls : AreCalls unit c.statement
    pub constants : CodeConstantsFit c.statement
    pub next : NextFits c.next
    pub holds : HoldWords c.variables
    pub world : IsWorld objects c.world

  -- the answer has a word and a world of words
  abbrev pub IsGiven : Answer → Type 0
  IsGiven a = (a.value < 2 ^ 32) × IsWorld objects a.world

  abbrev pub Onward : Move Config → Type 0
  Onward (Goes c) = IsOfWords c
  Onward (Calls q resume) = IsAsked q.function q.arguments q.world × ((a : Answer) → IsGiven a → IsOfWords (resume a))
  Onward (Returns r) = IsGiven r
  Onward Fails = Unit {0}

  at : (s : Statement) (κ : Continuation) (l : Variables) (h : World) → AreCalls unit s → CodeConstantsFit s → NextFits κ → HoldWords l → IsWorld objects h → IsOfWords (config s κ l h)
  at s κ l h calls constants next holds is = record { calls = calls; constants = constants; next = next; holds = holds; world = is }

  tried_on : {A : Type 0} (o : Option A) (go : A → Move Config) → ((a : A) → o ≡ Some a → Onward (go a)) → Onward (tried o go)
  tried_on None go f = tt
  tried_on (Some a) go f = f a refl

  skips_on : (κ : Continuation) (l : Variables) (h : World) → NextFits κ → HoldWords l → IsWorld objects h → Onward (skips κ l h)
  skips_on Ends l h n holds is = (let z : 0 < 2 ^ 32 = omega arith in z, is)
  skips_on (Then s κ) l h n holds is = at s κ l h n.0 n.1 n.2 holds is
  skips_on (Again s κ) l h n holds is = at s (Again s κ) l h n.0 n.1 n holds is
  skips_on (Leaving κ) l h n holds is = at Skip κ l h tt tt n holds is

  left_calls : (k : ℕ) → AreCalls unit (left_by k)
  left_calls zero = tt
  left_calls (suc k) = tt

  left_constants : (k : ℕ) → CodeConstantsFit (left_by k)
  left_constants zero = tt
  left_constants (suc k) = tt

  exits_on : (k : ℕ) (κ : Continuation) (l : Variables) (h : World) → NextFits κ → HoldWords l → IsWorld objects h → Onward (exits k κ l h)
  exits_on k Ends l h n holds is = tt
  exits_on k (Then s κ) l h n holds is = at (Exit k) κ l h tt tt n.2 holds is
  exits_on k (Again s κ) l h n holds is = at (Exit k) κ l h tt tt n.2 holds is
  exits_on k (Leaving κ) l h n holds is = at (left_by k) κ l h (left_calls k) (left_constants k) n holds is

  chosen_calls : (w : ℕ) (s t : Statement) → AreCalls unit s → AreCalls unit t → AreCalls unit (chosen w s t)
  chosen_calls zero s t p q = q
  chosen_calls (suc w) s t p q = p

  chosen_constants : (w : ℕ) (s t : Statement) → CodeConstantsFit s → CodeConstantsFit t → CodeConstantsFit (chosen w s t)
  chosen_constants zero s t p q = q
  chosen_constants (suc w) s t p q = p

  on : (s : Statement) (κ : Continuation) (l : Variables) (h : World) → AreCalls unit s → CodeConstantsFit s → NextFits κ → HoldWords l → IsWorld objects h → Onward (moves s κ l h)
  on Skip κ l h c k n holds is = skips_on κ l h n holds is
  on (Set x e) κ l h c k n holds is =
      tried_on (value e l h) (λ w. Goes (config Skip κ (put l x w) h)) (λ w v. at Skip κ (put l x w) h tt tt n (put_words l x w holds (value_word objects l h holds is e k w v)) is)
  on (Store width o i e) κ l h c k n holds is =
      tried_on (value i l h) (λ j. tried (value e l h) (λ w. tried (stored h width o j w) (λ g. Goes (config Skip κ l g))))
      (λ j u. tried_on (value e l h) (λ w. tried (stored h width o j w) (λ g. Goes (config Skip κ l g)))
      (λ w v. tried_on (stored h width o j w) (λ g. Goes (config Skip κ l g))
      (λ g z. at Skip κ l g tt tt n holds (stored_world objects h g is width o j w (value_word objects l h holds is e k.1 w v) z))))
  on (Call to f es) κ l h c k n holds is =
      tried_on (values es l h) (λ ws. Calls (record { function = f; arguments = ws; world = h }) (λ a. config Skip κ (put_result l to a.value) a.world))
      (λ ws v. let p = have_words objects l h holds is es k ws v in (
        asked f es ws h c p.0 p.1 is,
        λ a given. at Skip κ (put_result l to a.value) a.world tt tt n (result_words l to a.value holds given.0) given.1,
      ))
  on (Read to) κ l h c k n holds is = at Skip κ (put_result l to (next_word h)) (after_read h) tt tt n (result_words l to (next_word h) holds (first_word h.input is.input)) (read_world objects h is)
  on (Write e) κ l h c k n holds is = tried_on (value e l h) (λ w. Goes (config Skip κ l (after_write w h))) (λ w v. at Skip κ l (after_write w h) tt tt n holds (write_world objects h w is))
  on (Sequence s t) κ l h c k n holds is = at s (Then t κ) l h c.0 k.0 (c.1, k.1, n) holds is
  on (If e s t) κ l h c k n holds is =
      tried_on (value e l h) (λ w. Goes (config (chosen w s t) κ l h)) (λ w v. at (chosen w s t) κ l h (chosen_calls w s t c.0 c.1) (chosen_constants w s t k.1 k.2) n holds is)
  on (Loop s) κ l h c k n holds is = at s (Again s κ) l h c k (c, k, n) holds is
  on (Block s) κ l h c k n holds is = at s (Leaving κ) l h c k n holds is
  on (Exit j) κ l h c k n holds is = exits_on j κ l h n holds is
  on (Return e) κ l h c k n holds is = tried_on (value e l h) (λ w. Returns (record { value = w; world = h })) (λ w v. (value_word objects l h holds is e k w v, is))

  pub moves_on : (c : Config) → IsOfWords c → Onward (cminor_move c)
  moves_on c p = on c.statement c.next c.variables c.world p.calls p.constants p.next p.holds p.world

  pub starts_on : (s : Statement) → AreCalls unit s → CodeConstantsFit s → (f : ℕ) (ws : List ℕ) (h : World) → IsAsked f ws h → IsOfWords (cminor_start s ws h)
  starts_on s calls constants f ws h is = at s Ends (first_variables ws) h calls constants tt (λ x. word_or_zero ws x is.words) is.world
