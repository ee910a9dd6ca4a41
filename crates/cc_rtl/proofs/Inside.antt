-- Each node leads to a place before the entry's, and each place has a node.
use Rattle.std.proofs.Common.{◌≡◌, ◌≢◌, ℕ, zero, suc, ◌<◌, ◌≤◌, List, [], ◌∷◌, ◌++◌, length, get_or, set, refl, sym, ap, ◌∙◌, subst, inl, inr, arith, length-append, Option, Some, None}
use Rattle.std.proofs.lemmas.Bool.{cases_eq}
use Rattle.std.proofs.lemmas.List.{length-set, get_or-set_same, get_or-set_other}
use Rattle.cc_cminor_language.specs.Cminor.{Expression, Constant, Local, Unary, Binary, Load, Statement, Skip, Set, Store, Call, Read, Write, Sequence, If, Loop, Block, Exit, Return}
use Rattle.cc_rtl_language.specs.Rtl as rtl
use Rattle.cc_rtl.specs.internal.Generate.{Places, place_at, Made, pushed, held_in, operand_by, register, taken, made_into, operand, registers, operands, closed, made, made_function}
use Rattle.cc_rtl.specs.Size.{variable_of}

abbrev pub AllBelow : ℕ → List ℕ → Type 0
AllBelow n [] = Unit {0}
AllBelow n (x ∷ xs) = (x < n) × AllBelow n xs

below_more : (xs : List ℕ) (n m : ℕ) → n ≤ m → AllBelow n xs → AllBelow m xs
below_more [] n m le all = tt
below_more (x ∷ xs) n m le (lt, all) = (omega arith, below_more xs n m le all)

-- each place that the node leads to is below n
abbrev pub LeadsBelow : ℕ → rtl.Node → Type 0
LeadsBelow n x = AllBelow n (rtl.successors x)

leads_more : (x : rtl.Node) (n m : ℕ) → n ≤ m → LeadsBelow n x → LeadsBelow m x
leads_more x n m le all = below_more (rtl.successors x) n m le all

abbrev pub AllLead : ℕ → Places → Type 0
AllLead n [] = Unit {0}
AllLead n (None ∷ g) = AllLead n g
AllLead n (Some x ∷ g) = LeadsBelow n x × AllLead n g

all_more : (g : Places) (n m : ℕ) → n ≤ m → AllLead n g → AllLead m g
all_more [] n m le all = tt
all_more (None ∷ g) n m le all = all_more g n m le all
all_more (Some x ∷ g) n m le (one, all) = (leads_more x n m le one, all_more g n m le all)

all_append : (g h : Places) (n : ℕ) → AllLead n g → AllLead n h → AllLead n (g ++ h)
all_append [] h n all all' = all'
all_append (None ∷ g) h n all all' = all_append g h n all all'
all_append (Some x ∷ g) h n (one, all) all' = (one, all_append g h n all all')

all_set : (g : Places) (i n : ℕ) (x : rtl.Node) → AllLead n g → LeadsBelow n x → AllLead n (set g i (Some x))
all_set [] i n x all lt = tt
all_set (None ∷ g) zero n x all lt = (lt, all)
all_set (None ∷ g) (suc i) n x all lt = all_set g i n x all lt
all_set (Some y ∷ g) zero n x (one, all) lt = (lt, all)
all_set (Some y ∷ g) (suc i) n x (one, all) lt = (one, all_set g i n x all lt)

all_here : (g : Places) (l n : ℕ) (x : rtl.Node) → AllLead n g → place_at g l ≡ Some x → LeadsBelow n x
all_here [] l n x all e = absurd (let z : None ≡ Some x = e in cc)
all_here (None ∷ g) zero n x all e = absurd (let z : None ≡ Some x = e in cc)
all_here (None ∷ g) (suc l) n x all e = all_here g l n x all e
all_here (Some y ∷ g) zero n x (one, all) e = let z : Some y ≡ Some x = e in let w : y ≡ x = cc in subst (LeadsBelow n) w one
all_here (Some y ∷ g) (suc l) n x (one, all) e = all_here g l n x all e

get_below : (xs : List ℕ) (k d n : ℕ) → AllBelow n xs → d < n → get_or xs k d < n
get_below [] k d n all lt = lt
get_below (x ∷ xs) zero d n (one, all) lt = one
get_below (x ∷ xs) (suc k) d n (one, all) lt = get_below xs k d n all lt

pushed_filled : (g : Places) (x : rtl.Node) (l : ℕ) → l < length (g ++ (Some x ∷ [])) → place_at (g ++ (Some x ∷ [])) l ≡ None → (l < length g) × (place_at g l ≡ None)
pushed_filled [] x zero h e = absurd (let z : Some x ≡ None = e in cc)
pushed_filled [] x (suc l) h e = absurd (omega arith)
pushed_filled (y ∷ g) x zero h e = (omega arith, e)
pushed_filled (y ∷ g) x (suc l) h e = let r = pushed_filled g x l (omega arith) e in let lt = r.0 in (omega arith, r.1)

-- when a place without a node is added, any other place without one was there before
open_filled : (g : Places) (l : ℕ) → l ≢ length g → l < length (g ++ (None ∷ [])) → place_at (g ++ (None ∷ [])) l ≡ None → (l < length g) × (place_at g l ≡ None)
open_filled [] zero n h e = absurd (n refl)
open_filled [] (suc l) n h e = absurd (omega arith)
open_filled (y ∷ g) zero n h e = (omega arith, e)
open_filled (y ∷ g) (suc l) n h e = let r = open_filled g l (λ s. n (ap suc s)) (omega arith) e in let lt = r.0 in (omega arith, r.1)

closed_filled : (g h : Places) (x : rtl.Node) (l : ℕ) → ((l : ℕ) → l < length h → place_at h l ≡ None → (l < length (g ++ (None ∷ []))) × (place_at (g ++ (None ∷ [])) l ≡ None))
    → l < length (set h (length g) (Some x)) → place_at (set h (length g) (Some x)) l ≡ None → (l < length g) × (place_at g l ≡ None)
closed_filled g h x l inside lt e = elim (cases_eq l (length g)) [
  | inl s ↦ absurd (let z : place_at (set h (length g) (Some x)) l ≡ Some x = ap (place_at (set h (length g) (Some x))) s ∙ get_or-set_same h (length g) (Some x) None (subst (λ k. k < length h) s (subst (λ k. l < k) (length-set h (length g) (Some x)) lt)) in cc)
  | inr n ↦ (let r = inside l (subst (λ k. l < k) (length-set h (length g) (Some x)) lt) (sym (get_or-set_other h (length g) l (Some x) None n) ∙ e) in open_filled g l n r.0 r.1)
]

pub record Inside (g : Places) (m : Made) : Type 0 where
  pub longer : length g ≤ length m.places
  pub entry : m.entry < length m.places
  pub all : AllLead (length m.places) m.places
  -- no new place is without a node
  pub filled : (l : ℕ) → l < length m.places → place_at m.places l ≡ None → (l < length g) × (place_at g l ≡ None)

nothing_inside : (exit : ℕ) (g : Places) → exit < length g → AllLead (length g) g → Inside g (record { entry = exit; places = g })
nothing_inside exit g lt all = record { longer = omega arith; entry = lt; all = all; filled = λ l h e. (h, e) }

pushed_inside : (x : rtl.Node) (g : Places) → LeadsBelow (length g) x → AllLead (length g) g → Inside g (pushed x g)
pushed_inside x g lt all =
    let e = length-append g (Some x ∷ []) in
    let le : length g ≤ length (g ++ (Some x ∷ [])) = omega arith in
    record {
      longer = le;
      entry = omega arith;
      all = all_append g (Some x ∷ []) (length (g ++ (Some x ∷ []))) (all_more g (length g) (length (g ++ (Some x ∷ []))) le all) (leads_more x (length g) (length (g ++ (Some x ∷ []))) le lt, tt);
      filled = λ l h e. pushed_filled g x l h e;
    }

inside_then : (g : Places) (m m' : Made) → Inside g m → Inside m.places m' → Inside g m'
inside_then g m m' x y = record { longer = let a = x.longer in let b = y.longer in omega arith; entry = y.entry; all = y.all; filled = λ l h e. let r = y.filled l h e in x.filled l r.0 r.1 }

abbrev IntoInside : Expression → Type 0
IntoInside e = (free to exit : ℕ) (g : Places) → exit < length g → AllLead (length g) g → Inside g (made_into e free to exit g)

operand_by_inside : (e : Expression) → IntoInside e → (v : Option ℕ) (free : ℕ) (g : Places) (next : Made) → Inside g next → Inside g (operand_by v (made_into e) free next)
operand_by_inside e ih None free g next x = inside_then g next _ x (ih (suc free) free next.entry next.places x.entry x.all)
operand_by_inside e ih (Some v) free g next x = x

into_inside : (e : Expression) → IntoInside e
into_inside (Constant w) free to exit g lt all = pushed_inside (rtl.Const to w exit) g (lt, tt) all
into_inside (Local x) free to exit g lt all = pushed_inside (rtl.Move to x exit) g (lt, tt) all
into_inside (Unary op a) free to exit g lt all = operand_by_inside a (into_inside a) (variable_of a) free g _ (pushed_inside (rtl.Unary op to (register a free) exit) g (lt, tt) all)
into_inside (Binary op a b) free to exit g lt all =
    operand_by_inside a (into_inside a) (variable_of a) free g _
    (operand_by_inside b (into_inside b) (variable_of b) (taken a free) g _ (pushed_inside (rtl.Binary op to (register a free) (register b (taken a free)) exit) g (lt, tt) all))
into_inside (Load width o a) free to exit g lt all = operand_by_inside a (into_inside a) (variable_of a) free g _ (pushed_inside (rtl.Load width o to (register a free) exit) g (lt, tt) all)

operand_inside : (e : Expression) (free : ℕ) (g : Places) (next : Made) → Inside g next → Inside g (operand e free next)
operand_inside e free g next x = operand_by_inside e (into_inside e) (variable_of e) free g next x

operands_inside : (es : List Expression) (free : ℕ) (g : Places) (next : Made) → Inside g next → Inside g (operands es free next)
operands_inside [] free g next x = x
operands_inside (e ∷ es) free g next x = operand_inside e free g (operands es (taken e free) next) (operands_inside es (taken e free) g next x)

closed_inside : (g : Places) (body : Made) → Inside (g ++ (None ∷ [])) body → Inside g (closed (length g) body)
closed_inside g body x =
    let n = rtl.Nop body.entry in
    let same : length (set body.places (length g) (Some n)) ≡ length body.places = length-set body.places (length g) (Some n) in
    let more = length-append g (None ∷ []) in
    let le = x.longer in
    record {
      longer = omega arith;
      entry = omega arith;
      all = subst (λ k. AllLead k (set body.places (length g) (Some n))) (sym same) (all_set body.places (length g) (length body.places) n x.all (x.entry, tt));
      filled = λ l h e. closed_filled g body.places n l x.filled h e;
    }

made_inside : (count : ℕ) (s : Statement) (exit : ℕ) (exits : List ℕ) (g : Places) → exit < length g → AllBelow (length g) exits → AllLead (length g) g → Inside g (made count s exit exits g)
made_inside count Skip exit exits g lt below all = nothing_inside exit g lt all
made_inside count (Set x e) exit exits g lt below all = into_inside e count x exit g lt all
made_inside count (Store width o i e) exit exits g lt below all = operand_inside i count g _ (operand_inside e (taken i count) g _ (pushed_inside (rtl.Store width o (register i count) (register e (taken i count)) exit) g (lt, tt) all))
made_inside count (Call to f es) exit exits g lt below all = operands_inside es count g _ (pushed_inside (rtl.Call f (registers es count) to exit) g (lt, tt) all)
made_inside count (Read to) exit exits g lt below all = pushed_inside (rtl.Read (held_in to count) exit) g (lt, tt) all
made_inside count (Write e) exit exits g lt below all = operand_inside e count g _ (pushed_inside (rtl.Write (register e count) exit) g (lt, tt) all)
made_inside count (Sequence a b) exit exits g lt below all =
    let n = made count b exit exits g in
    let x = made_inside count b exit exits g lt below all in
    inside_then g n _ x (made_inside count a n.entry exits n.places x.entry (below_more exits (length g) (length n.places) x.longer below) x.all)
made_inside count (If e a b) exit exits g lt below all =
    let n = made count b exit exits g in
    let m = made count a exit exits n.places in
    let x = made_inside count b exit exits g lt below all in
    let le = x.longer in
    let y = made_inside count a exit exits n.places (omega arith) (below_more exits (length g) (length n.places) x.longer below) x.all in
    let le' = y.longer in
    let here = x.entry in
    let p = pushed_inside (rtl.Branch (register e count) m.entry n.entry) m.places (y.entry, (omega arith, tt)) y.all in
    operand_inside e count g _ (inside_then g m _ (inside_then g n m x y) p)
made_inside count (Loop a) exit exits g lt below all =
    let more = length-append g (None ∷ []) in
    let le : length g ≤ length (g ++ (None ∷ [])) = omega arith in
    closed_inside g (made count a (length g) exits (g ++ (None ∷ [])))
    (made_inside count a (length g) exits (g ++ (None ∷ [])) (omega arith) (below_more exits (length g) (length (g ++ (None ∷ []))) le below) (all_append g (None ∷ []) (length (g ++ (None ∷ []))) (all_more g (length g) (length (g ++ (None ∷ []))) le all) tt))
made_inside count (Block a) exit exits g lt below all = made_inside count a exit (exit ∷ exits) g lt (lt, below) all
made_inside count (Exit k) exit exits g lt below all = nothing_inside (get_or exits k exit) g (get_below exits k exit (length g) below lt) all
made_inside count (Return e) exit exits g lt below all = operand_inside e count g _ (pushed_inside (rtl.Return (register e count)) g tt all)

pub none_leads_to_entry : (count : ℕ) (body : Statement) (l : ℕ) (x : rtl.Node) → place_at (made_function count body).places l ≡ Some x → LeadsBelow (made_function count body).entry x
none_leads_to_entry count body l x e =
    let ends : Places = Some (rtl.Return count) ∷ Some (rtl.Const count 0 0) ∷ [] in
    let b = made count body 1 [] ends in
    let y = made_inside count body 1 [] ends (omega arith) tt (tt, ((omega arith, tt), tt)) in
    all_here (pushed (rtl.Nop b.entry) b.places).places l (length b.places) x (all_append b.places (Some (rtl.Nop b.entry) ∷ []) (length b.places) y.all ((y.entry, tt), tt)) e

-- each place of a function has a node
pub function_filled : (count : ℕ) (body : Statement) (l : ℕ) → l < length (made_function count body).places → place_at (made_function count body).places l ≡ None → ⊥
function_filled count body l lt e =
    let ends : Places = Some (rtl.Return count) ∷ Some (rtl.Const count 0 0) ∷ [] in
    let b = made count body 1 [] ends in
    let y = made_inside count body 1 [] ends (omega arith) tt (tt, ((omega arith, tt), tt)) in
    let r = pushed_filled b.places (rtl.Nop b.entry) l lt e in
    let q = y.filled l r.0 r.1 in
    ends_filled l q.0 q.1
  where
    ends_filled : (l : ℕ) → l < 2 → place_at (Some (rtl.Return count) ∷ Some (rtl.Const count 0 0) ∷ []) l ≡ None → ⊥
    ends_filled zero lt e = (let z : Some (rtl.Return count) ≡ None = e in cc)
    ends_filled (suc zero) lt e = (let z : Some (rtl.Const count 0 0) ≡ None = e in cc)
    ends_filled (suc (suc l)) lt e = absurd (omega arith)
