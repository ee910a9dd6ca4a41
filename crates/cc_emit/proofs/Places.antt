-- Sizes and places: a step has as many items as its size says, and a branch that is near in the first pass is near in the second, since
-- distances do not grow from the first to the second.
use Rattle.std.proofs.Common.{◌≡◌, ℕ, suc, ◌+◌, ◌-◌, ◌*◌, ◌^◌, ◌<◌, ◌≤◌, ◌⊎◌, List, [], ◌∷◌, ◌++◌, Option, Some, None, true, false, Bool, length, refl, sym, ap, ◌∙◌, subst, inl, inr, arith}
use Rattle.std.specs.Prelude.{if◌then◌else◌, ◌==◌}
use Rattle.std.proofs.lemmas.Bool.Decides.{nat_tests}
use Rattle.std.proofs.lemmas.List.{length-append}
use Rattle.cc_linear_language.specs.declared.item.LinearItem.{LinearItem}
use Rattle.cc_linear_language.specs.declared.item.LinearItem.TheVariants.{Label, Jump, IfNonzero, IfZero, Copy, Const, Unary, Binary, Load, Store, Call, Read, Write, Return}
use Rattle.cc_select.specs.declared.step.Step.{Step}
use Rattle.cc_select.specs.declared.step.Step.TheVariants.{One, Immediate, LoadAt, StoreAt, LoadNear, StoreNear, Branch, BranchImmediate}
use Rattle.cc_rv32.specs.Fields.{IsBranchOffset}
use Rattle.cc_rv32.specs.declared.instr.Instr.TheVariants.{Jalr}
use Rattle.cc_emit.specs.declared.condition.Condition.{Condition}
use Rattle.cc_emit.specs.Branches.{compares, turned, against_zero, asked_of}
use Rattle.cc_emit.specs.declared.item.PieceItem.{PieceItem}
use Rattle.cc_emit.specs.declared.item.PieceItem.TheVariants.{Plain}
use Rattle.cc_words.specs.declared.operators.Width.{Width}
use Rattle.cc_words.specs.declared.operators.Width.TheVariants.{Byte, Word}
use Rattle.cc_emit.specs.declared.addressed.Addressed.{Addressed}
use Rattle.cc_emit.specs.declared.addressed.Remembered.{Remembered}
use Rattle.cc_emit.specs.declared.addressed.Remembered.TheVariants.{Nothing, Upper, Element, ByPointer, ElementByPointer}
use Rattle.cc_emit.specs.Frames.{Frame, frame_size}
use Rattle.cc_emit.specs.Emission.{word_recipe, word_recipe_items, word_recipe_size, word_branch_items, word_branch_size, high, low, pointer_items, pointer_size, stack_moved, stack_moved_size, restoring, saving, epilogue, prologue_size, recipe, recipe_items, recipe_size, branch_items, branch_size, const_items, const_size, items_of_one, items_of_step, items_of, access_size, known_access_size, size_of_one, size_of_step, size, indexed, upper_items, long_size, distance, is_close, is_label, is_near, long_place, short_place, emitted}
use Rattle.cc_emit.specs.declared.recipe.Recipe.{Recipe}
use Rattle.cc_emit.specs.declared.recipe.WordRecipe.{WordRecipe}
use Rattle.cc_emit.specs.declared.recipe.Recipe.TheVariants.{Direct, ZeroOf, ZeroOfExchanged, NonzeroOf}
use Rattle.cc_emit.specs.declared.recipe.WordRecipe.TheVariants.{WithImmediate, ShiftBy, OnZero, ZeroOfImmediate, NonzeroOfImmediate}

-- ---- sizes

pub length_saving : (o : ℕ) (rs : List ℕ) → length (saving o rs) ≡ length rs
length_saving o [] = refl
length_saving o (r ∷ rs) = ap suc (length_saving (o + 4) rs)

pub length_restoring : (o : ℕ) (rs : List ℕ) → length (restoring o rs) ≡ length rs
length_restoring o [] = refl
length_restoring o (r ∷ rs) = ap suc (length_restoring (o + 4) rs)

long_if : (b : Bool) (xs ys : List PieceItem) (m n : ℕ) → length xs ≡ m → length ys ≡ n → length (if b then xs else ys) ≡ (if b then m else n)
long_if true xs ys m n p q = p
long_if false xs ys m n p q = q

pub length_stack_moved : (f : Frame) (by : ℕ) → length (stack_moved f by) ≡ stack_moved_size f
length_stack_moved f by = long_if (frame_size f == 0) [] _ 0 1 refl refl

pub length_pointer_items : (f : Frame) → length (pointer_items f) ≡ pointer_size f.sets_pointer
length_pointer_items f = long_if f.sets_pointer _ [] 2 0 refl refl

length_epilogue : (f : Frame) → length (epilogue f) ≡ length f.saved + stack_moved_size f + 1
length_epilogue f =
    let back = restoring (4 * f.slots) f.saved in
    let move = stack_moved f (frame_size f) in
    let rest : List PieceItem = move ++ Plain (Jalr 0 1 0) ∷ [] in
    let p : length (back ++ rest) ≡ length back + length rest = length-append back rest in
    let q : length rest ≡ length move + 1 = length-append move (Plain (Jalr 0 1 0) ∷ []) in
    let r : length back ≡ length f.saved = length_restoring (4 * f.slots) f.saved in
    let t : length move ≡ stack_moved_size f = length_stack_moved f (frame_size f) in
    let e : length back + length rest ≡ length f.saved + stack_moved_size f + 1 = omega arith in
    p ∙ e

recipe_size_is : (o : Recipe) (to a b : ℕ) → length (recipe_items o to a b) ≡ recipe_size o
recipe_size_is (Direct i) to a b = refl
recipe_size_is (ZeroOf i) to a b = refl
recipe_size_is (ZeroOfExchanged i) to a b = refl
recipe_size_is (NonzeroOf i) to a b = refl

word_recipe_size_is : (k : WordRecipe) (to a : ℕ) → length (word_recipe_items k to a) ≡ word_recipe_size k
word_recipe_size_is (WithImmediate i n) to a = refl
word_recipe_size_is (ShiftBy i n) to a = refl
word_recipe_size_is (OnZero i) to a = refl
word_recipe_size_is (ZeroOfImmediate i n) to a = refl
word_recipe_size_is (NonzeroOfImmediate i n) to a = refl

branch_size_is : (near : Bool) (c : Condition) (a to : ℕ) → length (branch_items near c a to) ≡ branch_size near
branch_size_is near c a to = long_if near _ _ 1 2 refl refl

word_branch_size_is : (alone : Option Condition) (k : WordRecipe) (near nonzero : Bool) (r a to : ℕ) → length (word_branch_items alone k near nonzero r a to) ≡ word_branch_size alone near
word_branch_size_is (Some c) k near nonzero r a to = branch_size_is near (turned nonzero c) a to
word_branch_size_is None k near nonzero r a to =
    ap suc (branch_size_is near (turned nonzero (compares (asked_of k) 5 0)) (a + 1) to) ∙ (let z : suc (branch_size near) ≡ 1 + branch_size near = omega arith in z)

pub const_size_is : (to w : ℕ) → length (const_items to w) ≡ const_size w
const_size_is to w = long_if (high w == 0) _ _ 1 (if low w == 0 then 1 else 2) refl (long_if (low w == 0) _ _ 1 2 refl refl)

access_size_is : (k : Remembered) (width : Width) (b i : ℕ) (item : PieceItem) → length (indexed k width b i (item ∷ [])) ≡ access_size k width
access_size_is Nothing Byte b i item = refl
access_size_is Nothing Word b i item = refl
access_size_is Upper Byte b i item = refl
access_size_is Upper Word b i item = refl
access_size_is Element width b i item = refl
access_size_is ByPointer Byte b i item = refl
access_size_is ByPointer Word b i item = refl
access_size_is ElementByPointer width b i item = refl

known_access_size_is : (k : Remembered) (b : ℕ) (item : PieceItem) → length (upper_items k b ++ item ∷ []) ≡ known_access_size k
known_access_size_is Nothing b item = refl
known_access_size_is Upper b item = refl
known_access_size_is Element b item = refl
known_access_size_is ByPointer b item = refl
known_access_size_is ElementByPointer b item = refl

one_size_is : (base : ℕ → ℕ) (f : Frame) (near : ℕ → Bool) (labels : ℕ → ℕ) (a : ℕ) (k : Remembered) (i : LinearItem) → length (items_of_one base f near labels a k i) ≡ size_of_one f near k i
one_size_is base f near labels a k (Label n) = refl
one_size_is base f near labels a k (Jump n) = refl
one_size_is base f near labels a k (IfNonzero r n) = branch_size_is (near n) _ a (labels n)
one_size_is base f near labels a k (IfZero r n) = branch_size_is (near n) _ a (labels n)
one_size_is base f near labels a k (Copy m) = refl
one_size_is base f near labels a k (Const to w) = const_size_is to w
one_size_is base f near labels a k (Unary o to b) = refl
one_size_is base f near labels a k (Binary o to b c) = recipe_size_is (recipe o) to b c
one_size_is base f near labels a k (Load width g to i) = access_size_is k width (base g) i _
one_size_is base f near labels a k (Store width g i b) = access_size_is k width (base g) i _
one_size_is base f near labels a k (Call g) = refl
one_size_is base f near labels a k Read = refl
one_size_is base f near labels a k Write = refl
one_size_is base f near labels a k Return = length_epilogue f

step_size_is : (base : ℕ → ℕ) (f : Frame) (near : ℕ → Bool) (labels : ℕ → ℕ) (a : ℕ) (k : Remembered) (s : Step) → length (items_of_step base f near labels a k s) ≡ size_of_step f near k s
step_size_is base f near labels a k (One i) = one_size_is base f near labels a k i
step_size_is base f near labels a k (Immediate o to b w) = word_recipe_size_is (word_recipe o w) to b
step_size_is base f near labels a k (LoadAt width g to n) = known_access_size_is k _ _
step_size_is base f near labels a k (StoreAt width g n b) = known_access_size_is k _ _
step_size_is base f near labels a k (LoadNear width g to i w) = access_size_is k width _ i _
step_size_is base f near labels a k (StoreNear width g i w b) = access_size_is k width _ i _
step_size_is base f near labels a k (Branch o nonzero b c n) = branch_size_is (near n) _ a (labels n)
step_size_is base f near labels a k (BranchImmediate o nonzero b w n) = word_branch_size_is (against_zero (word_recipe o w) b) (word_recipe o w) (near n) nonzero b a (labels n)

pub size_is : (base : ℕ → ℕ) (f : Frame) (near : ℕ → Bool) (labels : ℕ → ℕ) (a : ℕ) (s : Addressed) → length (items_of base f near labels a s) ≡ size f near s
size_is base f near labels a s = step_size_is base f near labels a s.known s.step

branch_size_le : (near : Bool) → branch_size near ≤ 2
branch_size_le true = omega arith
branch_size_le false = omega arith

word_branch_size_le : (alone : Option Condition) (near : Bool) → word_branch_size alone near ≤ word_branch_size alone false
word_branch_size_le (Some c) near = branch_size_le near
word_branch_size_le None near = let le = branch_size_le near in omega arith

-- a step is no shorter in its long form
one_size_le : (f : Frame) (near : ℕ → Bool) (k : Remembered) (i : LinearItem) → size_of_one f near k i ≤ size_of_one f (λ label. false) k i
one_size_le f near k (Label n) = omega arith
one_size_le f near k (Jump n) = omega arith
one_size_le f near k (IfNonzero r n) = branch_size_le (near n)
one_size_le f near k (IfZero r n) = branch_size_le (near n)
one_size_le f near k (Copy m) = omega arith
one_size_le f near k (Const to w) = omega arith
one_size_le f near k (Unary o to b) = omega arith
one_size_le f near k (Binary o to b c) = omega arith
one_size_le f near k (Load width g to i) = omega arith
one_size_le f near k (Store width g i b) = omega arith
one_size_le f near k (Call g) = omega arith
one_size_le f near k Read = omega arith
one_size_le f near k Write = omega arith
one_size_le f near k Return = omega arith

step_size_le : (f : Frame) (near : ℕ → Bool) (k : Remembered) (s : Step) → size_of_step f near k s ≤ size_of_step f (λ label. false) k s
step_size_le f near k (One i) = one_size_le f near k i
step_size_le f near k (Immediate o to b w) = omega arith
step_size_le f near k (LoadAt width g to n) = omega arith
step_size_le f near k (StoreAt width g n b) = omega arith
step_size_le f near k (LoadNear width g to i w) = omega arith
step_size_le f near k (StoreNear width g i w b) = omega arith
step_size_le f near k (Branch o nonzero b c n) = branch_size_le (near n)
step_size_le f near k (BranchImmediate o nonzero b w n) = word_branch_size_le (against_zero (word_recipe o w) b) (near n)

pub size_le : (f : Frame) (near : ℕ → Bool) (s : Addressed) → size f near s ≤ long_size f s
size_le f near s = step_size_le f near s.known s.step

-- ---- places

-- the place of a label comes after w and a, and it is no further away in the second pass than in the first
record IsAhead (w a long short : ℕ) : Type 0 where
  longer : w ≤ long
  shorter : a ≤ short
  apart : short + w ≤ long + a

ahead_if : (b : Bool) (w a long short : ℕ) → IsAhead w a long short → IsAhead w a (if b then w else long) (if b then a else short)
ahead_if true w a long short h = record { longer = omega arith; shorter = omega arith; apart = omega arith }
ahead_if false w a long short h = h

further : (w a v b long short : ℕ) → w ≤ v → a ≤ b → b + w ≤ v + a → IsAhead v b long short → IsAhead w a long short
further w a v b long short p q r h = let x = h.longer in let y = h.shorter in let z = h.apart in record { longer = omega arith; shorter = omega arith; apart = omega arith }

is_ahead : (f : Frame) (near : ℕ → ℕ → Bool) (w a : ℕ) (items : List Addressed) (l : ℕ) → IsAhead w a (long_place f w items l) (short_place f near w a items l)
is_ahead f near w a [] l = record { longer = omega arith; shorter = omega arith; apart = omega arith }
is_ahead f near w a (i ∷ items) l =
    let le = size_le f (near w) i in
    let next = is_ahead f near (w + long_size f i) (a + size f (near w) i) items l in
    ahead_if (is_label l i) w a _ _ (further w a (w + long_size f i) (a + size f (near w) i) _ _ (omega arith) (omega arith) (omega arith) next)

-- where a label is, seen from items at place w in the first pass and a in the second: before them, or among them
abbrev pub IsSeen : Frame → (all items : List Addressed) → (w a : ℕ) → (l : ℕ) → Type 0
IsSeen f all items w a l =
    ((long_place f 0 all l ≤ w) × (short_place f (is_near f all) 0 (prologue_size f) all l ≤ a) × (a + long_place f 0 all l ≤ w + short_place f (is_near f all) 0 (prologue_size f) all l))
    ⊎ ((long_place f 0 all l ≡ long_place f w items l) × (short_place f (is_near f all) 0 (prologue_size f) all l ≡ short_place f (is_near f all) w a items l))

-- where each label is, seen from these items
abbrev pub AreSeen : Frame → (all items : List Addressed) → (w a : ℕ) → Type 0
AreSeen f all items w a = (l : ℕ) → IsSeen f all items w a l

pub seen_first : (f : Frame) (all : List Addressed) → AreSeen f all all 0 (prologue_size f)
seen_first f all l = inr (refl, refl)

seen_by : (f : Frame) (all : List Addressed) (i : Addressed) (items : List Addressed) (w a l : ℕ) (b : Bool) → long_place f 0 all l ≡ (if b then w else long_place f (w + long_size f i) items l)
    → short_place f (is_near f all) 0 (prologue_size f) all l ≡ (if b then a else short_place f (is_near f all) (w + long_size f i) (a + size f (is_near f all w) i) items l)
    → IsSeen f all items (w + long_size f i) (a + size f (is_near f all w) i) l
seen_by f all i items w a l true p q = let le = size_le f (is_near f all w) i in inl (omega arith, omega arith, omega arith)
seen_by f all i items w a l false p q = inr (p, q)

pub seen_next : (f : Frame) (all : List Addressed) (i : Addressed) (items : List Addressed) (w a : ℕ) → AreSeen f all (i ∷ items) w a → AreSeen f all items (w + long_size f i) (a + size f (is_near f all w) i)
seen_next f all i items w a seen l =
    elim (seen l) [ inl h ↦ (let le = size_le f (is_near f all w) i in let x = h.0 in let y = h.1 in let z = h.2 in inl (omega arith, omega arith, omega arith)) | inr h ↦ seen_by f all i items w a l (is_label l i) h.0 h.1 ]

-- ---- near branches

-- a branch reaches from one place to the other
abbrev pub Nears : (from to : ℕ) → Type 0
Nears from to = (from ≤ to + 1024) × (to < from + 1024)

-- a step's branch reaches its label both from the step's place and from the next one
abbrev pub IsClose : (from to : ℕ) → Type 0
IsClose from to = (from < to + 1024) × (to < from + 1024)

pub close_nears : (from to : ℕ) → IsClose from to → Nears from to
close_nears from to (p, q) = (omega arith, q)

pub next_nears : (from to : ℕ) → IsClose from to → Nears (from + 1) to
next_nears from to (p, q) = (omega arith, omega arith)

close_says : (from to : ℕ) → is_close from to ≡ true → IsClose from to
close_says from to e = grind (arith, nat_tests)

near_by : (w a long short : ℕ) → IsClose w long → ((long ≤ w) × (short ≤ a) × (a + long ≤ w + short)) ⊎ IsAhead w a long short → IsClose a short
near_by w a long short n (inl h) = let x = h.0 in let y = h.1 in let z = h.2 in let u = n.0 in let v = n.1 in (omega arith, omega arith)
near_by w a long short n (inr h) = let x = h.longer in let y = h.shorter in let z = h.apart in let u = n.0 in let v = n.1 in (omega arith, omega arith)

seen_ahead : (f : Frame) (all items : List Addressed) (w a l : ℕ) → IsSeen f all items w a l
    → ((long_place f 0 all l ≤ w) × (short_place f (is_near f all) 0 (prologue_size f) all l ≤ a) × (a + long_place f 0 all l ≤ w + short_place f (is_near f all) 0 (prologue_size f) all l)) ⊎ IsAhead w a (long_place f 0 all l) (short_place f (is_near f all) 0 (prologue_size f) all l)
seen_ahead f all items w a l (inl h) = inl h
seen_ahead f all items w a l (inr h) = inr (subst (λ n. IsAhead w a n (short_place f (is_near f all) 0 (prologue_size f) all l)) (sym h.0) (subst (IsAhead w a (long_place f w items l)) (sym h.1) (is_ahead f (is_near f all) w a items l)))

-- a branch that is near in the first pass reaches its label in the second
pub stays_near : (f : Frame) (all items : List Addressed) (w a l : ℕ) → AreSeen f all items w a → is_near f all w l ≡ true → IsClose a (short_place f (is_near f all) 0 (prologue_size f) all l)
stays_near f all items w a l seen e = near_by w a (long_place f 0 all l) _ (close_says w (long_place f 0 all l) e) (seen_ahead f all items w a l (seen l))

-- `x` is the offset from one place to another, as a word
abbrev pub DistanceIs : (from to x : ℕ) → Type 0
DistanceIs from to x = ((from ≤ to) × (x ≡ 4 * (to - from))) ⊎ ((to < from) × (x ≡ 2 ^ 32 - 4 * (from - to)))

pub distance_is : (from to : ℕ) → DistanceIs from to (distance from to)
distance_is from to = grind (arith, nat_tests)

offset_by : (from to x : ℕ) → Nears from to → DistanceIs from to x → IsBranchOffset x
offset_by from to x n (inl h) = let u = n.0 in let v = n.1 in let p = h.0 in let q = h.1 in (omega arith, omega arith, omega arith)
offset_by from to x n (inr h) = let u = n.0 in let v = n.1 in let p = h.0 in let q = h.1 in (omega arith, omega arith, omega arith)

pub near_offset : (from to : ℕ) → Nears from to → IsBranchOffset (distance from to)
near_offset from to n = offset_by from to (distance from to) n (distance_is from to)

-- ---- all places are within the code

place_if : (b : Bool) (a x y : ℕ) → a ≤ y → x ≤ y → (if b then a else x) ≤ y
place_if true a x y p q = p
place_if false a x y p q = q

pub short_place_le : (base : ℕ → ℕ) (f : Frame) (near : ℕ → ℕ → Bool) (labels : ℕ → ℕ) (w a : ℕ) (items : List Addressed) (l : ℕ) → short_place f near w a items l ≤ a + length (emitted base f near labels w a items)
short_place_le base f near labels w a [] l = omega arith
short_place_le base f near labels w a (i ∷ items) l =
    let first = items_of base f (near w) labels a i in
    let rest = emitted base f near labels (w + long_size f i) (a + size f (near w) i) items in
    let n : length first ≡ size f (near w) i = size_is base f (near w) labels a i in
    let long : length (first ++ rest) ≡ length first + length rest = length-append first rest in
    let next = short_place_le base f near labels (w + long_size f i) (a + size f (near w) i) items l in
    place_if (is_label l i) a (short_place f near (w + long_size f i) (a + size f (near w) i) items l) (a + length (first ++ rest)) (omega arith) (omega arith)
