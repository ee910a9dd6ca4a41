-- Places counted from the end are the places of the definition, and the items so far, followed by those still to come, are the function's
-- code.
use Rattle.std.proofs.Common.{◌≡◌, ℕ, zero, suc, ◌+◌, ◌-◌, ◌*◌, ◌^◌, ◌<◌, ◌≤◌, List, [], ◌∷◌, ◌++◌, Option, true, false, Bool, length, get_or, drop, refl, sym, ap, ◌∙◌, subst, inl, inr, append_assoc, length-append, arith}
use Rattle.std.specs.Prelude.{if◌then◌else◌, nat_lt, Contains}
use Rattle.std.specs.List.{AllByRecursion}
use Rattle.std.proofs.lemmas.List.{drop_more, drop_all}
use Rattle.std.proofs.lemmas.Bool.{lt-ltb}
use Rattle.std.proofs.lemmas.Bool.Decides.{nat_tests, leb_tells}
use Rattle.cc_linear_language.specs.declared.item.LinearItem.{LinearItem}
use Rattle.cc_linear_language.specs.declared.item.LinearItem.TheVariants.{Jump, IfNonzero, IfZero}
use Rattle.cc_linear_language.specs.Linear.{IsItem}
use Rattle.cc_rv32.specs.declared.instr.BranchOperation.TheVariants.{Beq, Bne}
use Rattle.cc_select.specs.declared.step.Step.{Step}
use Rattle.cc_select.specs.declared.step.Step.TheVariants.{One, Immediate, LoadAt, StoreAt, LoadNear, StoreNear, Branch, BranchImmediate}
use Rattle.cc_select.specs.Selected.{IsStep}
use Rattle.cc_emit.specs.declared.condition.Condition.{Condition}
use Rattle.cc_emit.specs.declared.recipe.WordRecipe.{WordRecipe}
use Rattle.cc_emit.specs.Branches.{compares, turned, comparison, against_zero}
use Rattle.cc_emit.specs.declared.item.PieceItem.{PieceItem}
use Rattle.cc_emit.specs.declared.item.PieceItem.TheVariants.{Go}
use Rattle.cc_emit.specs.declared.addressed.Addressed.{Addressed}
use Rattle.cc_emit.specs.declared.addressed.Remembered.{Remembered}
use Rattle.cc_emit.specs.declared.scratch.Scratch.{Scratch}
use Rattle.cc_emit.specs.Scratch.{addressed, behind_step}
use Rattle.cc_emit.specs.Frames.{Frame, frame_size}
use Rattle.cc_emit.specs.Emission.{size, size_of_step, items_of_step, long_size, branch_size, branch_items, word_branch_size, word_branch_items, word_recipe, items_of, is_label, is_close, is_near, long_place, short_place, pointer_items, stack_moved, saving, prologue, prologue_size, emitted, framed_items}
use Rattle.cc_emit.specs.internal.Behind.{reaches, long_behind, near_behind, behind, label_behind, IsTable, ArePlaces, place_from, LeadsBelow, StepLeadsBelow}
use Rattle.cc_emit.proofs.Places.{size_is, length_pointer_items, length_stack_moved, length_saving, AreSeen, IsClose, close_nears, next_nears, seen_first, seen_next, stays_near}

-- ---- a step uses two facts about a label: whether it is near, and where it is

abbrev SameNearStep : (p q : ℕ → Bool) → Step → Type 0
SameNearStep p q (One (IfNonzero r n)) = p n ≡ q n
SameNearStep p q (One (IfZero r n)) = p n ≡ q n
SameNearStep p q (Branch o nonzero b c n) = p n ≡ q n
SameNearStep p q (BranchImmediate o nonzero b w n) = p n ≡ q n
SameNearStep p q _ = Unit {0}

abbrev SameNear : (p q : ℕ → Bool) → Addressed → Type 0
SameNear p q i = SameNearStep p q i.step

same_size_step : (f : Frame) (p q : ℕ → Bool) (k : Remembered) (i : Step) → SameNearStep p q i → size_of_step f p k i ≡ size_of_step f q k i
same_size_step f p q k (One (IfNonzero r n)) e = ap branch_size e
same_size_step f p q k (One (IfZero r n)) e = ap branch_size e
same_size_step f p q k (Branch o nonzero b c n) e = ap branch_size e
same_size_step f p q k (BranchImmediate o nonzero b w n) e = ap (word_branch_size (against_zero (word_recipe o w) b)) e
same_size_step f p q k _ e = refl

same_size : (f : Frame) (p q : ℕ → Bool) (i : Addressed) → SameNear p q i → size f p i ≡ size f q i
same_size f p q i e = same_size_step f p q i.known i.step e

every_near : (p q : ℕ → Bool) (i : Addressed) → ((l : ℕ) → p l ≡ q l) → SameNear p q i
every_near p q i e = every i.step
  where
    every : (i : Step) → SameNearStep p q i
    every (One (IfNonzero r n)) = e n
    every (One (IfZero r n)) = e n
    every (Branch o nonzero b c n) = e n
    every (BranchImmediate o nonzero b w n) = e n
    every _ = tt

below_near : (count : ℕ) (p q : ℕ → Bool) (i : Addressed) → LeadsBelow count i → ((l : ℕ) → l < count → p l ≡ q l) → SameNear p q i
below_near count p q i lt e = below i.step lt
  where
    below : (i : Step) → StepLeadsBelow count i → SameNearStep p q i
    below (One (IfNonzero r n)) lt = e n lt
    below (One (IfZero r n)) lt = e n lt
    below (Branch o nonzero b c n) lt = e n lt
    below (BranchImmediate o nonzero b w n) lt = e n lt
    below _ lt = tt

same_branch : (c : Condition) (p q : Bool) (a m n : ℕ) → p ≡ q → m ≡ n → branch_items p c a m ≡ branch_items q c a n
same_branch c p q a m n e d = ap (λ b. branch_items b c a m) e ∙ ap (branch_items q c a) d

same_word_branch : (alone : Option Condition) (k : WordRecipe) (nonzero : Bool) (r : ℕ) (p q : Bool) (a m n : ℕ) → p ≡ q → m ≡ n → word_branch_items alone k p nonzero r a m ≡ word_branch_items alone k q nonzero r a n
same_word_branch alone k nonzero r p q a m n e d = ap (λ b. word_branch_items alone k b nonzero r a m) e ∙ ap (word_branch_items alone k q nonzero r a) d

pub same_items : (base : ℕ → ℕ) (f : Frame) (p q : ℕ → Bool) (g h : ℕ → ℕ) (a count : ℕ) (i : Addressed) → LeadsBelow count i → ((l : ℕ) → l < count → p l ≡ q l) → ((l : ℕ) → l < count → g l ≡ h l) → items_of base f p g a i ≡ items_of base f q h a i
same_items base f p q g h a count i lt e d = same i.known i.step lt
  where
    same : (k : Remembered) (i : Step) → StepLeadsBelow count i → items_of_step base f p g a k i ≡ items_of_step base f q h a k i
    same k (One (Jump n)) lt = ap (λ to. Go to ∷ []) (d n lt)
    same k (One (IfNonzero r n)) lt = same_branch (compares Bne r 0) (p n) (q n) a (g n) (h n) (e n lt) (d n lt)
    same k (One (IfZero r n)) lt = same_branch (compares Beq r 0) (p n) (q n) a (g n) (h n) (e n lt) (d n lt)
    same k (Branch o nonzero b c n) lt = same_branch (turned nonzero (comparison o b c)) (p n) (q n) a (g n) (h n) (e n lt) (d n lt)
    same k (BranchImmediate o nonzero b w n) lt = same_word_branch (against_zero (word_recipe o w) b) (word_recipe o w) nonzero b (p n) (q n) a (g n) (h n) (e n lt) (d n lt)
    same k _ lt = refl

-- ---- the first pass

none_before : (n : ℕ) → nat_lt n 0 ≡ false
none_before n = elim (leb_tells (suc n) 0) [ inl e ↦ absurd (let q = e.1 in omega arith) | inr e ↦ e.0 ]

first_size : (f : Frame) (here : ℕ) (i : Addressed) → size f (near_behind [] here) i ≡ long_size f i
first_size f here i = same_size f (near_behind [] here) (λ l. false) i (every_near (near_behind [] here) (λ l. false) i (λ l. ap (λ b. if b then is_close 0 here else false) (none_before l)))

pub behind_first : (f : Frame) (items : List Addressed) → behind f [] items ≡ long_behind f items
behind_first f [] = refl
behind_first f (i ∷ items) = let e = first_size f (long_behind f (i ∷ items)) i in let h = behind_first f items in omega arith

sum_if : (b : Bool) (p q r s t : ℕ) → p + r ≡ t → q + s ≡ t → (if b then p else q) + (if b then r else s) ≡ t
sum_if true p q r s t e d = e
sum_if false p q r s t e d = d

first_place : (f : Frame) (a : ℕ) (items : List Addressed) (l : ℕ) → long_place f a items l + label_behind f [] items l ≡ a + long_behind f items
first_place f a [] l = refl
first_place f a (i ∷ items) l =
    let all = behind_first f (i ∷ items) in
    let next = first_place f (a + long_size f i) items l in
    sum_if (is_label l i) a (long_place f (a + long_size f i) items l) (behind f [] (i ∷ items)) (label_behind f [] items l) (a + long_behind f (i ∷ items)) (ap (λ n. a + n) all) (omega arith)

-- ---- which branches are near

seen_from_end : (w h t p whole : ℕ) → p + t ≡ whole → w + h ≡ whole → is_close t h ≡ is_close w p
seen_from_end w h t p whole e d = grind (arith, nat_tests)

pub near_same : (f : Frame) (all : List Addressed) (first : List ℕ) (w here l : ℕ) → IsTable f [] all (length first) first → w + here ≡ long_behind f all → l < length first → near_behind first here l ≡ is_near f all w l
near_same f all first w here l t sum lt =
    ap (λ b. if b then is_close (get_or first l 0) here else false) (lt-ltb l (length first) lt)
    ∙ seen_from_end w here (get_or first l 0) (long_place f 0 all l) (long_behind f all) (let q = t.each l lt in let p = first_place f 0 all l in omega arith) sum

-- ---- the second pass

second_place : (f : Frame) (all : List Addressed) (first : List ℕ) (w a : ℕ) (items : List Addressed) (l : ℕ) → IsTable f [] all (length first) first → AllByRecursion (LeadsBelow (length first)) items → w + long_behind f items ≡ long_behind f all
    → short_place f (is_near f all) w a items l + label_behind f first items l ≡ a + behind f first items
second_place f all first w a [] l t leads sum = refl
second_place f all first w a (i ∷ items) l t leads sum =
    let here = long_behind f (i ∷ items) in
    let same : size f (near_behind first here) i ≡ size f (is_near f all w) i = same_size f (near_behind first here) (is_near f all w) i (below_near (length first) (near_behind first here) (is_near f all w) i leads.0 (λ l lt. near_same f all first w here l t sum lt)) in
    let next = second_place f all first (w + long_size f i) (a + size f (is_near f all w) i) items l t leads.1 (omega arith) in
    sum_if (is_label l i) a (short_place f (is_near f all) (w + long_size f i) (a + size f (is_near f all w) i) items l) (behind f first (i ∷ items)) (label_behind f first items l) (a + behind f first (i ∷ items)) refl (omega arith)

-- the labels' places in the code of all items
abbrev pub places_of : Frame → List Addressed → (label : ℕ) → ℕ
places_of f all label = short_place f (is_near f all) 0 (prologue_size f) all label

sum_of : (f : Frame) (all : List Addressed) (first second : List ℕ) (end l : ℕ) → ArePlaces f all first second end → AllByRecursion (LeadsBelow (length first)) all → l < length first → places_of f all l + get_or second l 0 ≡ end
sum_of f all first second end l p leads lt =
    ap (λ n. places_of f all l + n) (p.of_second.each l lt) ∙ second_place f all first 0 (prologue_size f) all l p.of_first leads (omega arith) ∙ sym p.end_is

pub place_is : (f : Frame) (all : List Addressed) (first second : List ℕ) (end l : ℕ) → ArePlaces f all first second end → AllByRecursion (LeadsBelow (length first)) all → l < length first → place_from second end l ≡ places_of f all l
place_is f all first second end l p leads lt = let e = sum_of f all first second end l p leads lt in omega arith

pub place_within : (f : Frame) (all : List Addressed) (first second : List ℕ) (end l : ℕ) → ArePlaces f all first second end → AllByRecursion (LeadsBelow (length first)) all → l < length second → get_or second l 0 ≤ end
place_within f all first second end l p leads lt = let long = p.of_second.long in let e = sum_of f all first second end l p leads (omega arith) in omega arith

-- ---- the items that were emitted so far

pub record Emitting (base : ℕ → ℕ) (f : Frame) (all : List Addressed) (index here : ℕ) (items : List PieceItem) : Type 0 where
  pub long : ℕ
  pub sum : long + here ≡ long_behind f all
  pub here_is : here ≡ long_behind f (drop index all)
  pub seen : AreSeen f all (drop index all) long (length items)
  pub so_far : items ++ emitted base f (is_near f all) (places_of f all) long (length items) (drop index all) ≡ framed_items base f all

length_prologue : (f : Frame) → length (prologue f) ≡ prologue_size f
length_prologue f =
    let by = 2 ^ 32 - frame_size f in
    let whole = length-append (pointer_items f) (stack_moved f by ++ saving (4 * f.slots) f.saved) in
    let all = length-append (stack_moved f by) (saving (4 * f.slots) f.saved) in
    let begins = length_pointer_items f in
    let one = length_stack_moved f by in
    let more = length_saving (4 * f.slots) f.saved in
    omega arith

pub emitting_first : (base : ℕ → ℕ) (f : Frame) (all : List Addressed) (here : ℕ) (items : List PieceItem) → items ≡ prologue f → here ≡ behind f [] all → Emitting base f all 0 here items
emitting_first base f all here items e h =
    let n : length items ≡ prologue_size f = ap (λ (xs : List PieceItem). length xs) e ∙ length_prologue f in
    record {
      long = 0;
      sum = (let z = h ∙ behind_first f all in omega arith);
      here_is = h ∙ behind_first f all;
      seen = subst (AreSeen f all all 0) (sym n) (seen_first f all);
      so_far = ap (λ a. items ++ emitted base f (is_near f all) (places_of f all) 0 a all) n ∙ ap (λ xs. xs ++ emitted base f (is_near f all) (places_of f all) 0 (prologue_size f) all) e;
    }

rest_is : (all : List Addressed) (i : ℕ) (item : Addressed) → i < length all → item ≡ get_or all i item → drop i all ≡ item ∷ drop (i + 1) all
rest_is all i item lt is = drop_more all i item lt ∙ ap (λ x. x ∷ drop (i + 1) all) (sym is)

pub here_enough : (base : ℕ → ℕ) (f : Frame) (all : List Addressed) (i here : ℕ) (item : Addressed) (items : List PieceItem) → i < length all → item ≡ get_or all i item → Emitting base f all i here items → long_size f item ≤ here
here_enough base f all i here item items lt is o = let e = o.here_is ∙ ap (long_behind f) (rest_is all i item lt is) in omega arith

leads_at : (count : ℕ) (all : List Addressed) (i : ℕ) (item : Addressed) → i < length all → item ≡ get_or all i item → AllByRecursion (LeadsBelow count) all → LeadsBelow count item
leads_at count [] i item lt is leads = absurd (omega arith)
leads_at count (x ∷ all) zero item lt is leads = subst (LeadsBelow count) (sym is) leads.0
leads_at count (x ∷ all) (suc i) item lt is leads = leads_at count all i item (omega arith) is leads.1

pub emitting_more : (base : ℕ → ℕ) (f : Frame) (all : List Addressed) (first second : List ℕ) (end i here here' : ℕ) (item : Addressed) (old new : List PieceItem) → ArePlaces f all first second end → AllByRecursion (LeadsBelow (length first)) all
    → i < length all → item ≡ get_or all i item → new ≡ old ++ items_of base f (near_behind first here) (place_from second end) (length old) item → here' ≡ here - long_size f item → Emitting base f all i here old → Emitting base f all (i + 1) here' new
emitting_more base f all first second end i here here' item old new p leads lt is e less o =
    let rest = rest_is all i item lt is in
    let w = o.long in
    let a = length old in
    let near = is_near f all in
    let sum = o.sum in
    let here_is = o.here_is ∙ ap (long_behind f) rest in
    let one = items_of base f (near w) (places_of f all) a item in
    let same : items_of base f (near_behind first here) (place_from second end) a item ≡ one =
    same_items base f (near_behind first here) (near w) (place_from second end) (places_of f all) a (length first) item (leads_at (length first) all i item lt is leads)
    (λ l ll. near_same f all first w here l p.of_first sum ll) (λ l ll. place_is f all first second end l p leads ll) in
    let grown : new ≡ old ++ one = e ∙ ap (λ xs. old ++ xs) same in
    let n : length new ≡ a + size f (near w) item = ap (λ (xs : List PieceItem). length xs) grown ∙ length-append old one ∙ ap (λ k. a + k) (size_is base f (near w) (places_of f all) a item) in
    let more = emitted base f near (places_of f all) (w + long_size f item) (a + size f (near w) item) (drop (i + 1) all) in
    record {
      long = w + long_size f item;
      sum = omega arith;
      here_is = (let z : here' ≡ long_behind f (drop (i + 1) all) = omega arith in z);
      seen = subst (AreSeen f all (drop (i + 1) all) (w + long_size f item)) (sym n) (seen_next f all item (drop (i + 1) all) w a (subst (λ items. AreSeen f all items w a) rest o.seen));
      so_far =
          ap (λ k. new ++ emitted base f near (places_of f all) (w + long_size f item) k (drop (i + 1) all)) n ∙ ap (λ xs. xs ++ more) grown ∙ append_assoc old one more
          ∙ sym (ap (λ items. old ++ emitted base f near (places_of f all) w a items) rest) ∙ o.so_far;
    }

pub emitting_all : (base : ℕ → ℕ) (f : Frame) (all : List Addressed) (i here : ℕ) (items : List PieceItem) → length all ≤ i → Emitting base f all i here items → items ≡ framed_items base f all
emitting_all base f all i here items le o =
    let none = drop_all i all le in
    sym (append_none items) ∙ sym (ap (λ xs. items ++ emitted base f (is_near f all) (places_of f all) o.long (length items) xs) none) ∙ o.so_far
  where
    append_none : (xs : List PieceItem) → xs ++ [] ≡ xs
    append_none [] = refl
    append_none (x ∷ xs) = ap (λ l. x ∷ l) (append_none xs)

-- ---- a near branch reaches its label

reach_from : (from to : ℕ) → from ≤ to + 1024 → to < from + 1024 → reaches from to ≡ true
reach_from from to p q = grind (arith, nat_tests)

near_close : (base : ℕ → ℕ) (f : Frame) (all : List Addressed) (first second : List ℕ) (end i here : ℕ) (items : List PieceItem) → ArePlaces f all first second end → AllByRecursion (LeadsBelow (length first)) all → Emitting base f all i here items
    → (l : ℕ) → l < length second → near_behind first here l ≡ true → IsClose (length items) (place_from second end l)
near_close base f all first second end i here items p leads o l lt near =
    let long = p.of_second.long in
    let ll : l < length first = omega arith in
    subst (IsClose (length items)) (sym (place_is f all first second end l p leads ll)) (stays_near f all (drop i all) o.long (length items) l o.seen (sym (near_same f all first o.long here l p.of_first o.sum ll) ∙ near))

pub near_reaches : (base : ℕ → ℕ) (f : Frame) (all : List Addressed) (first second : List ℕ) (end i here : ℕ) (items : List PieceItem) → ArePlaces f all first second end → AllByRecursion (LeadsBelow (length first)) all → Emitting base f all i here items
    → (l : ℕ) → l < length second → near_behind first here l ≡ true → reaches (length items) (place_from second end l) ≡ true
near_reaches base f all first second end i here items p leads o l lt near =
    let n = close_nears (length items) (place_from second end l) (near_close base f all first second end i here items p leads o l lt near) in
    reach_from (length items) (place_from second end l) n.0 n.1

-- a near branch also reaches its label from the next place
pub next_reaches : (base : ℕ → ℕ) (f : Frame) (all : List Addressed) (first second : List ℕ) (end i here : ℕ) (items : List PieceItem) → ArePlaces f all first second end → AllByRecursion (LeadsBelow (length first)) all → Emitting base f all i here items
    → (l : ℕ) → l < length second → near_behind first here l ≡ true → reaches (length items + 1) (place_from second end l) ≡ true
next_reaches base f all first second end i here items p leads o l lt near =
    let n = next_nears (length items) (place_from second end l) (near_close base f all first second end i here items p leads o l lt near) in
    reach_from (length items + 1) (place_from second end l) n.0 n.1

-- ---- the labels to which steps lead

pub contained_below : (n : ℕ) (ls : List ℕ) (l : ℕ) → Contains ls l → AllByRecursion (λ label. label < n) ls → l < n
contained_below n [] l (k, lt, is) all = absurd (omega arith)
contained_below n (x ∷ ls) l (zero, lt, is) all = (let p = all.0 in let e : x ≡ l = is in omega arith)
contained_below n (x ∷ ls) l (suc k, lt, is) all = contained_below n ls l (k, omega arith, is) all.1

leads_one : (count slots functions : ℕ) (ls : List ℕ) (i : LinearItem) → AllByRecursion (λ label. label < count) ls → IsItem slots functions ls i → StepLeadsBelow count (One i)
leads_one count slots functions ls (Jump to) all fits = contained_below count ls to fits all
leads_one count slots functions ls (IfNonzero from to) all fits = contained_below count ls to fits.1 all
leads_one count slots functions ls (IfZero from to) all fits = contained_below count ls to fits.1 all
leads_one count slots functions ls _ all fits = tt

leads : (count slots functions : ℕ) (ls : List ℕ) (s : Step) → AllByRecursion (λ label. label < count) ls → IsStep slots functions ls s → StepLeadsBelow count s
leads count slots functions ls (One i) all fits = leads_one count slots functions ls i all fits
leads count slots functions ls (Immediate o to b w) all fits = tt
leads count slots functions ls (LoadAt width g to n) all fits = tt
leads count slots functions ls (StoreAt width g n b) all fits = tt
leads count slots functions ls (LoadNear width g to i w) all fits = tt
leads count slots functions ls (StoreNear width g i w b) all fits = tt
leads count slots functions ls (Branch o nonzero b c n) all fits = contained_below count ls n fits.3 all
leads count slots functions ls (BranchImmediate o nonzero b w n) all fits = contained_below count ls n fits.4 all

pub leads_all : (count slots functions : ℕ) (ls : List ℕ) (base : ℕ → ℕ) (sets_pointer : Bool) (held : Scratch) (steps : List Step) → AllByRecursion (λ label. label < count) ls → AllByRecursion (IsStep slots functions ls) steps → AllByRecursion (LeadsBelow count) (addressed base sets_pointer held steps)
leads_all count slots functions ls base sets_pointer held [] all fits = tt
leads_all count slots functions ls base sets_pointer held (s ∷ steps) all fits = (leads count slots functions ls s all fits.0, leads_all count slots functions ls base sets_pointer (behind_step base sets_pointer s held) steps all fits.1)
