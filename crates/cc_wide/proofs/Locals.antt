-- Locals with reserved names, between others.
use Rattle.std.proofs.Common.{◌≡◌, ℕ, zero, suc, ◌<◌, Bool, true, false, true≢false, if◌then◌else◌, List, [], ◌∷◌, ◌++◌, length, Option, Some, is_some, nat_eq, refl, sym, ap, ◌∙◌, arith}
use Rattle.std.specs.Cmp.Lexicographic.{pointwise, bytes_decides, nat_list_eq_equiv}
use Rattle.cc_types.specs.Names.{same_name}
use Rattle.cc_c_semantics.specs.Meaning.{Local, local_word, with_local_word}
use Rattle.cc_wide.specs.Lowering.{is_reserved, marks, hidden_name}

-- ---- names

not_true : (b : Bool) → (b ≡ true → ⊥) → b ≡ false
not_true true f = absurd (f refl)
not_true false f = refl

-- a reserved name is no name of the program
pub apart : (a x : List ℕ) → is_reserved a ≡ true → is_reserved x ≡ false → same_name a x ≡ false
apart a x p q = not_true (same_name a x) (λ e. true≢false (sym p ∙ ap is_reserved ((bytes_decides a x).0 e) ∙ q))

pub apart_from : (x a : List ℕ) → is_reserved a ≡ true → is_reserved x ≡ false → same_name x a ≡ false
apart_from x a p q = nat_list_eq_equiv.symm x a ∙ apart a x p q

no_marks : (j : ℕ) → pointwise nat_eq [] (marks j) ≡ false
no_marks zero = refl
no_marks (suc j) = refl

marks_apart : (i j : ℕ) → i < j → same_name (marks i) (marks j) ≡ false
marks_apart zero zero h = absurd (omega arith)
marks_apart zero (suc j) h = no_marks j
marks_apart (suc i) zero h = absurd (omega arith)
marks_apart (suc i) (suc j) h = marks_apart i j (omega arith)

-- the names of two hidden locals differ
pub hidden_apart : (i d : ℕ) → i < d → same_name (hidden_name d) (hidden_name i) ≡ false
hidden_apart i d h = nat_list_eq_equiv.symm (hidden_name d) (hidden_name i) ∙ marks_apart i d h

-- ---- lists of locals

-- each name is one of the program; each name is reserved
abbrev pub AllOwn : List Local → Type 0
AllOwn [] = Unit {0}
AllOwn (l ∷ ls) = (is_reserved l.name ≡ false) × AllOwn ls

abbrev pub AllHidden : List Local → Type 0
AllHidden [] = Unit {0}
AllHidden (l ∷ ls) = (is_reserved l.name ≡ true) × AllHidden ls

-- ---- a name of the program

own_behind : (H b : List Local) (x : List ℕ) → AllHidden H → is_reserved x ≡ false → local_word (H ++ b) x ≡ local_word b x
own_behind [] b x h q = refl
own_behind (l ∷ H) b x h q = ap (λ c. if c then Some l.word else local_word (H ++ b) x) (apart l.name x h.0 q) ∙ own_behind H b x h.1 q

-- it is read as if there were no hidden locals
pub own_word : (f H b : List Local) (x : List ℕ) → AllHidden H → is_reserved x ≡ false → local_word (f ++ (H ++ b)) x ≡ local_word (f ++ b) x
own_word [] H b x h q = own_behind H b x h q
own_word (l ∷ f) H b x h q = ap (λ o. if same_name l.name x then Some l.word else o) (own_word f H b x h q)

store_behind : (H b : List Local) (x : List ℕ) (w : ℕ) → AllHidden H → is_reserved x ≡ false → with_local_word x w (H ++ b) ≡ H ++ with_local_word x w b
store_behind [] b x w h q = refl
store_behind (l ∷ H) b x w h q =
    ap (λ c. if c then record l { word = w } ∷ (H ++ b) else l ∷ with_local_word x w (H ++ b)) (apart l.name x h.0 q)
    ∙ ap (λ (ls : List Local). l ∷ ls) (store_behind H b x w h.1 q)

count_by : (l : Local) (b : List Local) (x : List ℕ) (w : ℕ) (c : Bool) → length (with_local_word x w b) ≡ length b
    → length (if c then record l { word = w } ∷ b else l ∷ with_local_word x w b) ≡ suc (length b)
count_by l b x w true h = refl
count_by l b x w false h = ap suc h

pub store_count : (x : List ℕ) (w : ℕ) (b : List Local) → length (with_local_word x w b) ≡ length b
store_count x w [] = refl
store_count x w (l ∷ b) = count_by l b x w (same_name l.name x) (store_count x w b)

-- it is written as if there were no hidden locals
pub record Stores (f H b : List Local) (x : List ℕ) (w : ℕ) : Type 0 where
  pub front : List Local
  pub back : List Local
  pub among : with_local_word x w (f ++ (H ++ b)) ≡ front ++ (H ++ back)
  pub alone : with_local_word x w (f ++ b) ≡ front ++ back
  pub own : AllOwn front
  pub count : length back ≡ length b

stores_by : (l : Local) (f H b : List Local) (x : List ℕ) (w : ℕ) (c : Bool) → same_name l.name x ≡ c → is_reserved l.name ≡ false → AllOwn f → Stores f H b x w → Stores (l ∷ f) H b x w
stores_by l f H b x w true e o os ih = record {
  front = record l { word = w } ∷ f;
  back = b;
  among = ap (λ c. if c then record l { word = w } ∷ (f ++ (H ++ b)) else l ∷ with_local_word x w (f ++ (H ++ b))) e;
  alone = ap (λ c. if c then record l { word = w } ∷ (f ++ b) else l ∷ with_local_word x w (f ++ b)) e;
  own = (o, os);
  count = refl;
}
stores_by l f H b x w false e o os ih = record {
  front = l ∷ ih.front;
  back = ih.back;
  among = ap (λ c. if c then record l { word = w } ∷ (f ++ (H ++ b)) else l ∷ with_local_word x w (f ++ (H ++ b))) e ∙ ap (λ (ls : List Local). l ∷ ls) ih.among;
  alone = ap (λ c. if c then record l { word = w } ∷ (f ++ b) else l ∷ with_local_word x w (f ++ b)) e ∙ ap (λ (ls : List Local). l ∷ ls) ih.alone;
  own = (o, ih.own);
  count = ih.count;
}

pub stores : (f H b : List Local) (x : List ℕ) (w : ℕ) → AllOwn f → AllHidden H → is_reserved x ≡ false → Stores f H b x w
stores [] H b x w o h q = record {
  front = [];
  back = with_local_word x w b;
  among = store_behind H b x w h q;
  alone = refl;
  own = tt;
  count = store_count x w b;
}
stores (l ∷ f) H b x w o h q = stores_by l f H b x w (same_name l.name x) refl o.0 o.1 (stores f H b x w o.1 h q)

-- ---- a reserved name

front_word : (f g : List Local) (x : List ℕ) → AllOwn f → is_reserved x ≡ true → local_word (f ++ g) x ≡ local_word g x
front_word [] g x o q = refl
front_word (l ∷ f) g x o q = ap (λ c. if c then Some l.word else local_word (f ++ g) x) (apart_from l.name x q o.0) ∙ front_word f g x o.1 q

some_by : (l : Local) (H b : List Local) (x : List ℕ) (c : Bool) → is_some (if c then Some l.word else local_word H x) ≡ true
    → (is_some (local_word H x) ≡ true → local_word (H ++ b) x ≡ local_word H x) → (if c then Some l.word else local_word (H ++ b) x) ≡ (if c then Some l.word else local_word H x)
some_by l H b x true e ih = refl
some_by l H b x false e ih = ih e

some_word : (H b : List Local) (x : List ℕ) → is_some (local_word H x) ≡ true → local_word (H ++ b) x ≡ local_word H x
some_word [] b x e = absurd (true≢false (sym e))
some_word (l ∷ H) b x e = some_by l H b x (same_name l.name x) e (some_word H b x)

-- it is read among the hidden locals
pub hidden_word : (f H b : List Local) (x : List ℕ) → AllOwn f → is_reserved x ≡ true → is_some (local_word H x) ≡ true → local_word (f ++ (H ++ b)) x ≡ local_word H x
hidden_word f H b x o q e = front_word f (H ++ b) x o q ∙ some_word H b x e

front_store : (f g : List Local) (x : List ℕ) (w : ℕ) → AllOwn f → is_reserved x ≡ true → with_local_word x w (f ++ g) ≡ f ++ with_local_word x w g
front_store [] g x w o q = refl
front_store (l ∷ f) g x w o q =
    ap (λ c. if c then record l { word = w } ∷ (f ++ g) else l ∷ with_local_word x w (f ++ g)) (apart_from l.name x q o.0)
    ∙ ap (λ (ls : List Local). l ∷ ls) (front_store f g x w o.1 q)

stored_by : (l : Local) (H b : List Local) (x : List ℕ) (w : ℕ) (c : Bool) → is_some (if c then Some l.word else local_word H x) ≡ true
    → (is_some (local_word H x) ≡ true → with_local_word x w (H ++ b) ≡ with_local_word x w H ++ b)
    → (if c then record l { word = w } ∷ (H ++ b) else l ∷ with_local_word x w (H ++ b)) ≡ (if c then record l { word = w } ∷ H else l ∷ with_local_word x w H) ++ b
stored_by l H b x w true e ih = refl
stored_by l H b x w false e ih = ap (λ (ls : List Local). l ∷ ls) (ih e)

some_store : (H b : List Local) (x : List ℕ) (w : ℕ) → is_some (local_word H x) ≡ true → with_local_word x w (H ++ b) ≡ with_local_word x w H ++ b
some_store [] b x w e = absurd (true≢false (sym e))
some_store (l ∷ H) b x w e = stored_by l H b x w (same_name l.name x) e (some_store H b x w)

-- it is written among the hidden locals
pub hidden_store : (f H b : List Local) (x : List ℕ) (w : ℕ) → AllOwn f → is_reserved x ≡ true → is_some (local_word H x) ≡ true
    → with_local_word x w (f ++ (H ++ b)) ≡ f ++ (with_local_word x w H ++ b)
hidden_store f H b x w o q e = front_store f (H ++ b) x w o q ∙ ap (λ (ls : List Local). f ++ ls) (some_store H b x w e)

-- ---- after a write

word_by : (l : Local) (H : List Local) (x : List ℕ) (w : ℕ) (c : Bool) → same_name l.name x ≡ c → is_some (if c then Some l.word else local_word H x) ≡ true
    → (is_some (local_word H x) ≡ true → local_word (with_local_word x w H) x ≡ Some w) → local_word (if c then record l { word = w } ∷ H else l ∷ with_local_word x w H) x ≡ Some w
word_by l H x w true e h ih = ap (λ c. if c then Some w else local_word H x) e
word_by l H x w false e h ih = ap (λ c. if c then Some l.word else local_word (with_local_word x w H) x) e ∙ ih h

pub word_stored : (H : List Local) (x : List ℕ) (w : ℕ) → is_some (local_word H x) ≡ true → local_word (with_local_word x w H) x ≡ Some w
word_stored [] x w e = absurd (true≢false (sym e))
word_stored (l ∷ H) x w e = word_by l H x w (same_name l.name x) refl e (word_stored H x w)

other_by : (l : Local) (H : List Local) (x y : List ℕ) (w : ℕ) (c : Bool) → same_name l.name x ≡ c → same_name x y ≡ false → local_word (with_local_word x w H) y ≡ local_word H y
    → local_word (if c then record l { word = w } ∷ H else l ∷ with_local_word x w H) y ≡ (if same_name l.name y then Some l.word else local_word H y)
other_by l H x y w true e n ih =
    let no : same_name l.name y ≡ false = nat_list_eq_equiv.congr l.name x y e ∙ n in
    ap (λ c. if c then Some w else local_word H y) no ∙ sym (ap (λ c. if c then Some l.word else local_word H y) no)
other_by l H x y w false e n ih = ap (λ o. if same_name l.name y then Some l.word else o) ih

pub other_stored : (H : List Local) (x y : List ℕ) (w : ℕ) → same_name x y ≡ false → local_word (with_local_word x w H) y ≡ local_word H y
other_stored [] x y w n = refl
other_stored (l ∷ H) x y w n = other_by l H x y w (same_name l.name x) refl n (other_stored H x y w n)

hidden_by : (l : Local) (H : List Local) (x : List ℕ) (w : ℕ) (c : Bool) → is_reserved l.name ≡ true → AllHidden H → AllHidden (with_local_word x w H)
    → AllHidden (if c then record l { word = w } ∷ H else l ∷ with_local_word x w H)
hidden_by l H x w true p h ih = (p, h)
hidden_by l H x w false p h ih = (p, ih)

pub hidden_stored : (H : List Local) (x : List ℕ) (w : ℕ) → AllHidden H → AllHidden (with_local_word x w H)
hidden_stored [] x w h = tt
hidden_stored (l ∷ H) x w h = hidden_by l H x w (same_name l.name x) h.0 h.1 (hidden_stored H x w h.1)

some_at : (d : Bool) (a b : ℕ) (p q : Option ℕ) → is_some p ≡ is_some q → is_some (if d then Some a else p) ≡ is_some (if d then Some b else q)
some_at true a b p q e = refl
some_at false a b p q e = e

kept_by : (l : Local) (H : List Local) (x y : List ℕ) (w : ℕ) (c : Bool) → is_some (local_word (with_local_word x w H) y) ≡ is_some (local_word H y)
    → is_some (local_word (if c then record l { word = w } ∷ H else l ∷ with_local_word x w H) y) ≡ is_some (if same_name l.name y then Some l.word else local_word H y)
kept_by l H x y w true ih = some_at (same_name l.name y) w l.word (local_word H y) (local_word H y) refl
kept_by l H x y w false ih = some_at (same_name l.name y) l.word l.word (local_word (with_local_word x w H) y) (local_word H y) ih

pub some_kept : (H : List Local) (x y : List ℕ) (w : ℕ) → is_some (local_word (with_local_word x w H) y) ≡ is_some (local_word H y)
some_kept [] x y w = refl
some_kept (l ∷ H) x y w = kept_by l H x y w (same_name l.name x) (some_kept H x y w)
