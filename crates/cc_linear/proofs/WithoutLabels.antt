-- Labels to which nothing leads may be left out: at a label the next item is executed, so the two lists run side by side.
use Rattle.std.proofs.Common.{◌≡◌, ◌≢◌, ℕ, zero, suc, ◌+◌, ◌<◌, ◌≤◌, Bool, true, false, cond, List, [], ◌∷◌, length, refl, sym, ap, ◌∙◌, subst, inl, inr, arith, Option, Some, None, ◌==◌, Contains, ◌↔◌, get_or, drop, ◌++◌, append_assoc, append-nil}
use Rattle.std.specs.List.{AllByRecursion, AllPairs}
use Rattle.std.proofs.lemmas.Bool.Decides.{eqb_tells}
use Rattle.std.proofs.lemmas.Bool.{cases_lt}
use Rattle.std.proofs.lemmas.List.{get_or_default, drop_more, drop_all}
use Rattle.std.proofs.lemmas.List.Elements.{Contains-get_or}
use Rattle.std.proofs.lemmas.List.Sorted.{searched}
use Rattle.std.specs.List.Sorted.{IsBinarySearchResult}
use Rattle.std.specs.Ordering.{nat_cmp}
use Rattle.std.specs.Result.{is_ok}
use Rattle.std.specs.Prelude.{Result, Ok, Err}
use Rattle.cc_words.specs.Operators.{apply_binary}
use Rattle.cc_simulation.specs.World.{World, Question, Answer, element, stored}
use Rattle.cc_simulation.specs.Run.{Move as Moving, Goes, Calls, Returns, Fails, tried}
use Rattle.cc_simulation.specs.Meaning.{Meaning}
use Rattle.cc_simulation.specs.Tracks.{TracksForAll}
use Rattle.cc_simulation.specs.internal.Simulation.{Alike, Advances, Asks, Ending, Simulation}
use Rattle.cc_simulation.proofs.Simulating.{coarser, tracks_on_for_all}
use Rattle.cc_ltl.specs.declared.location.Location.TheVariants.{Register}
use Rattle.cc_ltl.specs.Ltl.{Locations}
use Rattle.cc_linear_language.specs.declared.item.LinearItem.{LinearItem}
use Rattle.cc_linear_language.specs.declared.item.LinearItem.TheVariants.{Label, Jump, IfNonzero, IfZero, Copy, Const, Unary, Binary, Load, Store, Call, Read, Write, Return}
use Rattle.cc_linear_language.specs.Linear.{labels, place, IsItem, Configuration, at_items, does, linear_move, linear_output, linear_start}
use Rattle.cc_linear.specs.Targets.{targets, NoneIdle}
use Rattle.cc_linear.specs.internal.Idle.{IsRising, has, stays, kept}

-- ---- whether a label is in a list of numbers

contains_more : (x l : ℕ) (xs : List ℕ) → Contains xs l → Contains (x ∷ xs) l
contains_more x l xs (k, lt, e) = (suc k, (let z : suc k < suc (length xs) = omega arith in z), e)

pub has_one : (xs : List ℕ) (l : ℕ) → Contains xs l → has xs l ≡ true
has_one [] l (k, lt, e) = absurd (omega arith)
has_one (x ∷ xs) l (zero, lt, e) = elim (eqb_tells x l) [ inl h ↦ ap (λ t. cond t true (has xs l)) h.0 | inr h ↦ absurd (h.1 e) ]
has_one (x ∷ xs) l (suc k, lt, e) = elim (eqb_tells x l) [ inl h ↦ ap (λ t. cond t true (has xs l)) h.0 | inr h ↦ ap (λ t. cond t true (has xs l)) h.0 ∙ has_one xs l (k, omega arith, e) ]

pub one_had : (xs : List ℕ) (l : ℕ) → has xs l ≡ true → Contains xs l
one_had [] l e = absurd (let z : false ≡ true = e in cc)
one_had (x ∷ xs) l e = elim (eqb_tells x l) [
  | inl h ↦ (0, (let z : 0 < suc (length xs) = omega arith in z), h.1)
  | inr h ↦ contains_more x l xs (one_had xs l (sym (ap (λ t. cond t true (has xs l)) h.0) ∙ e))
]

none_had : (xs : List ℕ) (l : ℕ) → (Contains xs l → ⊥) → (t : Bool) → has xs l ≡ t → t ≡ false
none_had xs l f true e = absurd (f (one_had xs l e))
none_had xs l f false e = refl

pub has_none : (xs : List ℕ) (l : ℕ) → (Contains xs l → ⊥) → has xs l ≡ false
has_none xs l f = none_had xs l f (has xs l) refl

same_had : (xs ys : List ℕ) (l : ℕ) → (Contains xs l ↔ Contains ys l) → (t : Bool) → has ys l ≡ t → has xs l ≡ t
same_had xs ys l same true e = has_one xs l (same.1 (one_had ys l e))
same_had xs ys l same false e = has_none xs l (λ c. absurd (let z : true ≡ false = sym (has_one ys l (same.0 c)) ∙ e in cc))

pub same_has : (xs ys : List ℕ) → ((l : ℕ) → Contains xs l ↔ Contains ys l) → (l : ℕ) → has xs l ≡ has ys l
same_has xs ys same l = same_had xs ys l (same l) (has ys l) refl

pub same_stays : (xs ys : List ℕ) → ((l : ℕ) → Contains xs l ↔ Contains ys l) → (item : LinearItem) → stays xs item ≡ stays ys item
same_stays xs ys same (Label l) = same_has xs ys same l
same_stays xs ys same (Jump to) = refl
same_stays xs ys same (IfNonzero from to) = refl
same_stays xs ys same (IfZero from to) = refl
same_stays xs ys same (Copy m) = refl
same_stays xs ys same (Const to word) = refl
same_stays xs ys same (Unary o to from) = refl
same_stays xs ys same (Binary o to left right) = refl
same_stays xs ys same (Load width object to index) = refl
same_stays xs ys same (Store width object index from) = refl
same_stays xs ys same (Call function) = refl
same_stays xs ys same Read = refl
same_stays xs ys same Write = refl
same_stays xs ys same Return = refl

-- a search finds a label exactly if the list has it
pub found_has : (xs : List ℕ) (l : ℕ) (r : Result ℕ ℕ) → IsBinarySearchResult (λ y. nat_cmp y l) xs r → IsRising xs → is_ok r ≡ has xs l
found_has xs l (Ok i) found up = let h = searched xs l (Ok i) found up in sym (has_one xs l (i, h.0, get_or_default xs i l 0 h.0 ∙ h.1))
found_has xs l (Err i) found up = let h = searched xs l (Err i) found up in sym (has_none xs l (λ c. missing h.1 h.2 c))
  where
    missing : ((k : ℕ) → k < i → get_or xs k 0 < l) → ((k : ℕ) → i ≤ k → k < length xs → l < get_or xs k 0) → Contains xs l → ⊥
    missing low high (k, lt, e) =
        let same : get_or xs k 0 ≡ l = get_or_default xs k 0 l lt ∙ e in
        elim (cases_lt k i) [ inl b ↦ (let a = low k b in omega arith) | inr b ↦ (let a = high k b lt in omega arith) ]

-- ---- the labels and the targets of what is kept

-- all targets of the items are in `led`
abbrev Below : List ℕ → List LinearItem → Type 0
Below led items = AllByRecursion (λ l. has led l ≡ true) (targets items)

all_had : (led xs : List ℕ) → ((l : ℕ) → Contains xs l → has led l ≡ true) → AllByRecursion (λ l. has led l ≡ true) xs
all_had led [] f = tt
all_had led (x ∷ xs) f = (f x (0, (let z : 0 < suc (length xs) = omega arith in z), refl), all_had led xs (λ l c. f l (contains_more x l xs c)))

pub below_itself : (items : List LinearItem) → Below (targets items) items
below_itself items = all_had (targets items) (targets items) (λ l c. has_one (targets items) l c)

targets_by : (t : Bool) (l : ℕ) (items more : List LinearItem) → targets items ≡ targets more → targets (cond t (Label l ∷ items) items) ≡ targets more
targets_by true l items more e = e
targets_by false l items more e = e

targets_kept : (led : List ℕ) (items : List LinearItem) → targets (kept led items) ≡ targets items
targets_kept led [] = refl
targets_kept led (Label l ∷ items) = targets_by (has led l) l (kept led items) items (targets_kept led items)
targets_kept led (Jump to ∷ items) = ap (λ xs. to ∷ xs) (targets_kept led items)
targets_kept led (IfNonzero from to ∷ items) = ap (λ xs. to ∷ xs) (targets_kept led items)
targets_kept led (IfZero from to ∷ items) = ap (λ xs. to ∷ xs) (targets_kept led items)
targets_kept led (Copy m ∷ items) = targets_kept led items
targets_kept led (Const to word ∷ items) = targets_kept led items
targets_kept led (Unary o to from ∷ items) = targets_kept led items
targets_kept led (Binary o to left right ∷ items) = targets_kept led items
targets_kept led (Load width object to index ∷ items) = targets_kept led items
targets_kept led (Store width object index from ∷ items) = targets_kept led items
targets_kept led (Call function ∷ items) = targets_kept led items
targets_kept led (Read ∷ items) = targets_kept led items
targets_kept led (Write ∷ items) = targets_kept led items
targets_kept led (Return ∷ items) = targets_kept led items

-- the numbers that are in `led`
abbrev only : (led : List ℕ) → List ℕ → List ℕ
only led [] = []
only led (l ∷ ls) = cond (has led l) (l ∷ only led ls) (only led ls)

labels_by : (t : Bool) (l : ℕ) (items : List LinearItem) (ls : List ℕ) → labels items ≡ ls → labels (cond t (Label l ∷ items) items) ≡ cond t (l ∷ ls) ls
labels_by true l items ls e = ap (λ xs. l ∷ xs) e
labels_by false l items ls e = e

pub labels_kept : (led : List ℕ) (items : List LinearItem) → labels (kept led items) ≡ only led (labels items)
labels_kept led [] = refl
labels_kept led (Label l ∷ items) = labels_by (has led l) l (kept led items) (only led (labels items)) (labels_kept led items)
labels_kept led (Jump to ∷ items) = labels_kept led items
labels_kept led (IfNonzero from to ∷ items) = labels_kept led items
labels_kept led (IfZero from to ∷ items) = labels_kept led items
labels_kept led (Copy m ∷ items) = labels_kept led items
labels_kept led (Const to word ∷ items) = labels_kept led items
labels_kept led (Unary o to from ∷ items) = labels_kept led items
labels_kept led (Binary o to left right ∷ items) = labels_kept led items
labels_kept led (Load width object to index ∷ items) = labels_kept led items
labels_kept led (Store width object index from ∷ items) = labels_kept led items
labels_kept led (Call function ∷ items) = labels_kept led items
labels_kept led (Read ∷ items) = labels_kept led items
labels_kept led (Write ∷ items) = labels_kept led items
labels_kept led (Return ∷ items) = labels_kept led items

-- a label stays exactly if it was there and is in `led`
pub only_has : (led ls : List ℕ) (l : ℕ) → has led l ≡ true → Contains ls l → Contains (only led ls) l
only_has led [] l h (k, lt, e) = absurd (omega arith)
only_has led (x ∷ xs) l h (zero, lt, e) =
    let t : has led x ≡ true = ap (has led) e ∙ h in
    subst (λ b. Contains (cond b (x ∷ only led xs) (only led xs)) l) (sym t) (0, (let z : 0 < suc (length (only led xs)) = omega arith in z), e)
only_has led (x ∷ xs) l h (suc k, lt, e) = by (has led x) (only_has led xs l h (k, omega arith, e))
  where
    by : (b : Bool) → Contains (only led xs) l → Contains (cond b (x ∷ only led xs) (only led xs)) l
    by true c = contains_more x l (only led xs) c
    by false c = c

has_only : (led ls : List ℕ) (l : ℕ) → Contains (only led ls) l → (has led l ≡ true) × Contains ls l
has_only led [] l (k, lt, e) = absurd (omega arith)
has_only led (x ∷ xs) l c = by (has led x) refl (λ d. has_only led xs l d) c
  where
    further : (has led l ≡ true) × Contains xs l → (has led l ≡ true) × Contains (x ∷ xs) l
    further r = (r.0, contains_more x l xs r.1)

    by : (b : Bool) → has led x ≡ b → (Contains (only led xs) l → (has led l ≡ true) × Contains xs l) → Contains (cond b (x ∷ only led xs) (only led xs)) l → (has led l ≡ true) × Contains (x ∷ xs) l
    by true t ih (zero, lt, e) = (ap (has led) (sym e) ∙ t, (0, (let z : 0 < suc (length xs) = omega arith in z), e))
    by true t ih (suc k, lt, e) = further (ih (k, omega arith, e))
    by false t ih d = further (ih d)

abbrev Distinct : List ℕ → Type 0
Distinct ls = AllPairs (λ (a b : ℕ). a ≢ b) ls

abbrev Apart : ℕ → List ℕ → Type 0
Apart x ls = (l : ℕ) → Contains ls l → x ≢ l

distinct_head : (x : ℕ) (xs : List ℕ) → Distinct (x ∷ xs) → Apart x xs
distinct_head x xs h l (k, lt, e) same = h 0 (suc k) l (omega arith) (let z : suc k < suc (length xs) = omega arith in z) (same ∙ sym e)

distinct_tail : (x : ℕ) (xs : List ℕ) → Distinct (x ∷ xs) → Distinct xs
distinct_tail x xs h = λ i j d lt below. h (suc i) (suc j) d (omega arith) (let z : suc j < suc (length xs) = omega arith in z)

distinct_cons : (x : ℕ) (xs : List ℕ) → Apart x xs → Distinct xs → Distinct (x ∷ xs)
distinct_cons x xs f h = at
  where
    at : Distinct (x ∷ xs)
    at zero zero d lt below = absurd (omega arith)
    at zero (suc j) d lt below = f (get_or xs j d) (Contains-get_or xs j d (omega arith))
    at (suc i) zero d lt below = absurd (omega arith)
    at (suc i) (suc j) d lt below = h i j d (omega arith) (omega arith)

pub distinct_only : (led ls : List ℕ) → Distinct ls → Distinct (only led ls)
distinct_only led [] h = h
distinct_only led (x ∷ xs) h = by (has led x) (λ l c. distinct_head x xs h l (has_only led xs l c).1) (distinct_only led xs (distinct_tail x xs h))
  where
    by : (t : Bool) → Apart x (only led xs) → Distinct (only led xs) → Distinct (cond t (x ∷ only led xs) (only led xs))
    by true f d = distinct_cons x (only led xs) f d
    by false f d = d

-- ---- the items are those of a function

module _ (slots functions : ℕ) (led names others : List ℕ) (more : (l : ℕ) → has led l ≡ true → Contains names l → Contains others l) where
  abbrev Fit : List LinearItem → Type 0
  Fit items = AllByRecursion (IsItem slots functions names) items

  abbrev StillFit : List LinearItem → Type 0
  StillFit items = AllByRecursion (IsItem slots functions others) items

  fit_by : (t : Bool) (l : ℕ) (items : List LinearItem) → StillFit items → StillFit (cond t (Label l ∷ items) items)
  fit_by true l items h = (tt, h)
  fit_by false l items h = h

  pub still_fit : (items : List LinearItem) → Below led items → Fit items → StillFit (kept led items)
  still_fit [] b h = tt
  still_fit (Label l ∷ items) b h = fit_by (has led l) l (kept led items) (still_fit items b h.1)
  still_fit (Jump to ∷ items) b h = (more to b.0 h.0, still_fit items b.1 h.1)
  still_fit (IfNonzero from to ∷ items) b h = ((h.0.0, more to b.0 h.0.1), still_fit items b.1 h.1)
  still_fit (IfZero from to ∷ items) b h = ((h.0.0, more to b.0 h.0.1), still_fit items b.1 h.1)
  still_fit (Copy m ∷ items) b h = (h.0, still_fit items b h.1)
  still_fit (Const to word ∷ items) b h = (h.0, still_fit items b h.1)
  still_fit (Unary o to from ∷ items) b h = (h.0, still_fit items b h.1)
  still_fit (Binary o to left right ∷ items) b h = (h.0, still_fit items b h.1)
  still_fit (Load width object to index ∷ items) b h = (h.0, still_fit items b h.1)
  still_fit (Store width object index from ∷ items) b h = (h.0, still_fit items b h.1)
  still_fit (Call function ∷ items) b h = (h.0, still_fit items b h.1)
  still_fit (Read ∷ items) b h = (tt, still_fit items b h.1)
  still_fit (Write ∷ items) b h = (tt, still_fit items b h.1)
  still_fit (Return ∷ items) b h = (tt, still_fit items b h.1)

-- ---- places

module _ (led : List ℕ) (l : ℕ) (is : has led l ≡ true) where
  place_by : (t s : Bool) (m : ℕ) (items : List LinearItem) → (m == l) ≡ t → has led m ≡ s → (t ≡ true → s ≡ true) → place (kept led items) l ≡ kept led (place items l)
      → place (cond (has led m) (Label m ∷ kept led items) (kept led items)) l ≡ kept led (cond (m == l) (Label m ∷ items) (place items l))
  place_by true true m items p q f ih =
      ap (λ b. place (cond b (Label m ∷ kept led items) (kept led items)) l) q ∙ ap (λ b. cond b (Label m ∷ kept led items) (place (kept led items) l)) p
      ∙ sym (ap (λ b. kept led (cond b (Label m ∷ items) (place items l))) p ∙ ap (λ b. cond b (Label m ∷ kept led items) (kept led items)) q)
  place_by true false m items p q f ih = absurd (let z : false ≡ true = f refl in cc)
  place_by false true m items p q f ih =
      ap (λ b. place (cond b (Label m ∷ kept led items) (kept led items)) l) q ∙ ap (λ b. cond b (Label m ∷ kept led items) (place (kept led items) l)) p
      ∙ ih ∙ sym (ap (λ b. kept led (cond b (Label m ∷ items) (place items l))) p)
  place_by false false m items p q f ih =
      ap (λ b. place (cond b (Label m ∷ kept led items) (kept led items)) l) q ∙ ih ∙ sym (ap (λ b. kept led (cond b (Label m ∷ items) (place items l))) p)

  place_kept : (items : List LinearItem) → place (kept led items) l ≡ kept led (place items l)
  place_kept [] = refl
  place_kept (Label m ∷ items) = elim (eqb_tells m l) [
    | inl h ↦ place_by true true m items h.0 (ap (has led) h.1 ∙ is) (λ e. refl) (place_kept items)
    | inr h ↦ place_by false (has led m) m items h.0 refl (λ e. absurd (let z : false ≡ true = e in cc)) (place_kept items)
  ]
  place_kept (Jump to ∷ items) = place_kept items
  place_kept (IfNonzero from to ∷ items) = place_kept items
  place_kept (IfZero from to ∷ items) = place_kept items
  place_kept (Copy m ∷ items) = place_kept items
  place_kept (Const to word ∷ items) = place_kept items
  place_kept (Unary o to from ∷ items) = place_kept items
  place_kept (Binary o to left right ∷ items) = place_kept items
  place_kept (Load width object to index ∷ items) = place_kept items
  place_kept (Store width object index from ∷ items) = place_kept items
  place_kept (Call function ∷ items) = place_kept items
  place_kept (Read ∷ items) = place_kept items
  place_kept (Write ∷ items) = place_kept items
  place_kept (Return ∷ items) = place_kept items

below_by : (led : List ℕ) (t : Bool) (items others : List LinearItem) → Below led items → Below led others → Below led (cond t items others)
below_by led true items others p q = p
below_by led false items others p q = q

place_below : (led : List ℕ) (l : ℕ) (items : List LinearItem) → Below led items → Below led (place items l)
place_below led l [] b = tt
place_below led l (Label m ∷ items) b = below_by led (m == l) (Label m ∷ items) (place items l) b (place_below led l items b)
place_below led l (Jump to ∷ items) b = place_below led l items b.1
place_below led l (IfNonzero from to ∷ items) b = place_below led l items b.1
place_below led l (IfZero from to ∷ items) b = place_below led l items b.1
place_below led l (Copy m ∷ items) b = place_below led l items b
place_below led l (Const to word ∷ items) b = place_below led l items b
place_below led l (Unary o to from ∷ items) b = place_below led l items b
place_below led l (Binary o to left right ∷ items) b = place_below led l items b
place_below led l (Load width object to index ∷ items) b = place_below led l items b
place_below led l (Store width object index from ∷ items) b = place_below led l items b
place_below led l (Call function ∷ items) b = place_below led l items b
place_below led l (Read ∷ items) b = place_below led l items b
place_below led l (Write ∷ items) b = place_below led l items b
place_below led l (Return ∷ items) b = place_below led l items b

-- ---- the two lists run side by side

module _ (arity : ℕ → ℕ) (code : List LinearItem) (led : List ℕ) (below : Below led code) where
  abbrev old : Configuration → Moving Configuration
  old c = linear_move arity code c

  abbrev new : Configuration → Moving Configuration
  new d = linear_move arity (kept led code) d

  -- the same configuration, without the labels to which nothing leads
  abbrev without : Configuration → Configuration
  without c = at_items (kept led c.items) c.locations c.world c.words

  abbrev Same : Configuration → Configuration → Type 0
  Same c d = Below led c.items × (d ≡ without c)

  jumps : (to : ℕ) (at : Locations) (world : World) (words : List ℕ) → has led to ≡ true → Same (at_items (place code to) at world words) (at_items (place (kept led code) to) at world words)
  jumps to at world words is = (place_below led to code below, ap (λ xs. at_items xs at world words) (place_kept led to is code))

  tried_alike : {X : Type 0} (o : Option X) (f g : X → Moving Configuration) → ((x : X) → Alike Same (f x) (g x)) → Alike Same (tried o f) (tried o g)
  tried_alike {X} None f g h = tt
  tried_alike {X} (Some x) f g h = h x

  branch_alike : (t : Bool) (items others items' others' : List LinearItem) (at : Locations) (world : World) (words : List ℕ)
      → Same (at_items items at world words) (at_items items' at world words) → Same (at_items others at world words) (at_items others' at world words)
      → Same (at_items (cond t items others) at world words) (at_items (cond t items' others') at world words)
  branch_alike true items others items' others' at world words p q = p
  branch_alike false items others items' others' at world words p q = q

  alike : (items : List LinearItem) (at : Locations) (world : World) (words : List ℕ) → Below led items → Alike Same (does arity code items at world words) (does arity (kept led code) (kept led items) at world words)
  alike [] at world words b = tt
  alike (Label l ∷ items) at world words b = by (has led l) (alike items at world words b)
    where
      by : (t : Bool) → Alike Same (does arity code items at world words) (does arity (kept led code) (kept led items) at world words)
          → Alike Same (does arity code items at world words) (does arity (kept led code) (cond t (Label l ∷ kept led items) (kept led items)) at world words)
      by true h = h
      by false h = h
  alike (Jump to ∷ items) at world words b = jumps to at world words b.0
  alike (IfNonzero from to ∷ items) at world words b =
      branch_alike (at (Register from) == 0) items (place code to) (kept led items) (place (kept led code) to) at world words (b.1, refl) (jumps to at world words b.0)
  alike (IfZero from to ∷ items) at world words b =
      branch_alike (at (Register from) == 0) (place code to) items (place (kept led code) to) (kept led items) at world words (jumps to at world words b.0) (b.1, refl)
  alike (Copy m ∷ items) at world words b = (b, refl)
  alike (Const to word ∷ items) at world words b = (b, refl)
  alike (Unary o to from ∷ items) at world words b = (b, refl)
  alike (Binary o to left right ∷ items) at world words b = tried_alike (apply_binary o (at (Register left)) (at (Register right))) _ _ (λ word. (b, refl))
  alike (Load width object to index ∷ items) at world words b = tried_alike (element world width object (at (Register index))) _ _ (λ word. (b, refl))
  alike (Store width object index from ∷ items) at world words b = tried_alike (stored world width object (at (Register index)) (at (Register from))) _ _ (λ changed. (b, refl))
  alike (Call function ∷ items) at world words b = (refl, λ a. (b, refl))
  alike (Read ∷ items) at world words b = (b, refl)
  alike (Write ∷ items) at world words b = (b, refl)
  alike (Return ∷ items) at world words b = refl

  alike_at : (c d : Configuration) → Same c d → Alike Same (old c) (new d)
  alike_at c d s = subst (λ x. Alike Same (old c) (new x)) (sym s.1) (alike c.items c.locations c.world c.words s.0)

  goes : (c' d : Configuration) (n : Moving Configuration) → new d ≡ n → Alike Same (Goes c') n → Advances old linear_output new linear_output Same 0 c' d
  goes c' d (Goes e) is s = record { moves = 1; to = e; one = omega arith; few = omega arith; way = (e, is, (refl, refl)); related = s }
  goes c' d (Calls q g) is s = absurd s
  goes c' d (Returns x) is s = absurd s
  goes c' d Fails is s = absurd s

  asks : (q : Question) (resume : Answer → Configuration) (d : Configuration) (n : Moving Configuration) → new d ≡ n → Alike Same (Calls q resume) n → Asks old linear_output new linear_output Same 0 q resume d
  asks q resume d (Goes e) is s = absurd s
  asks q resume d (Calls p g) is s = record { moves = 0; to = d; resume' = g; few = omega arith; way = (refl, refl); calls = is ∙ ap (λ x. Calls x g) (sym s.0); related = s.1 }
  asks q resume d (Returns x) is s = absurd s
  asks q resume d Fails is s = absurd s

  ends : (c : Configuration) (a : Answer) (d : Configuration) (n : Moving Configuration) → Same c d → new d ≡ n → Alike Same (Returns a) n → Ending old linear_output new linear_output 0 a (linear_output c) d
  ends c a d (Goes e) r is s = absurd s
  ends c a d (Calls p g) r is s = absurd s
  ends c a d (Returns x) r is s = record { moves = 0; to = d; few = omega arith; way = (refl, refl); returns = is ∙ ap Returns (sym s); output = ap (λ (x : Configuration). linear_output x) r.1 }
  ends c a d Fails r is s = absurd s

  pub kept_alike : Simulation old linear_output new linear_output Same (λ c. 0) 0 0
  kept_alike = record {
    low = λ c d r. (let z : 0 ≤ 0 = omega arith in z);
    outputs = λ c d r. ap (λ (x : Configuration). linear_output x) r.1;
    goes = λ c c' d r e. inl (goes c' d (new d) refl (subst (λ m. Alike Same m (new d)) e (alike_at c d r)));
    asks = λ c q resume d r e. asks q resume d (new d) refl (subst (λ m. Alike Same m (new d)) e (alike_at c d r));
    ends = λ c a d r e. ends c a d (new d) r refl (subst (λ m. Alike Same m (new d)) e (alike_at c d r));
  }

-- ---- the whole

pub kept_tracks : (meaning : Meaning) (f rate slots : ℕ) (code : List LinearItem) (led : List ℕ) → Below led code
    → TracksForAll meaning f rate (linear_move meaning.arity code) linear_output (linear_start slots code)
    → TracksForAll meaning f (coarser rate 0) (linear_move meaning.arity (kept led code)) linear_output (linear_start slots (kept led code))
kept_tracks meaning f rate slots code led below tracks =
    tracks_on_for_all meaning f rate (linear_move meaning.arity code) linear_output (linear_move meaning.arity (kept led code)) linear_output (Same meaning.arity code led below) (λ c. 0) 0 0
    (kept_alike meaning.arity code led below) (linear_start slots code) (linear_start slots (kept led code)) (λ words are ws h call. (below, refl)) tracks

-- something leads to each label that is left
pub none_idle : (code : List LinearItem) → NoneIdle (kept (targets code) code)
none_idle code l c =
    let led = targets code in
    let o = has_only led (labels code) l (subst (λ ls. Contains ls l) (labels_kept led code) c) in
    subst (λ ls. Contains ls l) (sym (targets_kept led code)) (one_had led l o.0)

-- ---- one more item

pub all_put : (led : List ℕ) (items : List LinearItem) (i : ℕ) → length items ≤ i → led ++ targets (drop i items) ≡ targets items → led ≡ targets items
all_put led items i le e = sym (append-nil led) ∙ ap (λ xs. led ++ targets xs) (sym (drop_all i items le)) ∙ e

pub kept_more : (led others : List ℕ) (items : List LinearItem) (i : ℕ) (item : LinearItem) (old new all : List LinearItem) (s : Bool) → ((l : ℕ) → Contains others l ↔ Contains led l) → i < length items → item ≡ get_or items i item
    → stays others item ≡ s → new ≡ cond s (old ++ item ∷ []) old → old ++ kept led (drop i items) ≡ all → new ++ kept led (drop (i + 1) items) ≡ all
kept_more led others items i item old new all s same lt is stay n e =
    ap (λ xs. xs ++ kept led (drop (i + 1) items)) n ∙ by s ∙ ap (λ t. old ++ cond t (item ∷ kept led (drop (i + 1) items)) (kept led (drop (i + 1) items))) (sym stay ∙ same_stays others led same item)
    ∙ ap (λ xs. old ++ kept led xs) (ap (λ x. x ∷ drop (i + 1) items) is ∙ sym (drop_more items i item lt)) ∙ e
  where
    by : (t : Bool) → cond t (old ++ item ∷ []) old ++ kept led (drop (i + 1) items) ≡ old ++ cond t (item ∷ kept led (drop (i + 1) items)) (kept led (drop (i + 1) items))
    by true = append_assoc old (item ∷ []) (kept led (drop (i + 1) items))
    by false = refl
