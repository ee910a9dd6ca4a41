-- The frame that emission chooses saves what the steps write, so each step is fine in it.
use Rattle.std.proofs.Common.{◌≡◌, ℕ, suc, ◌≤◌, List, [], ◌∷◌, true, false, Bool, length, refl, sym, ap, ◌∙◌, subst, inl, inr, arith}
use Rattle.std.specs.Prelude.{◌||◌, if◌then◌else◌}
use Rattle.std.specs.List.{AllByRecursion}
use Rattle.cc_simulation.specs.Meaning.{Meaning}
use Rattle.cc_ltl.specs.declared.operation.Move.{Move}
use Rattle.cc_ltl.specs.declared.operation.Move.TheVariants.{Between, Reload, Spill}
use Rattle.cc_ltl.specs.Registers.{IsAllocatable, most_slots}
use Rattle.cc_ltl.specs.Ltl.{IsMove}
use Rattle.cc_linear_language.specs.declared.item.LinearItem.{LinearItem}
use Rattle.cc_linear_language.specs.declared.item.LinearItem.TheVariants.{Label, Jump, IfNonzero, IfZero, Copy, Const, Unary, Binary, Load, Store, Call, Read, Write, Return}
use Rattle.cc_linear_language.specs.Linear.{IsItem}
use Rattle.cc_select.specs.declared.step.Step.{Step}
use Rattle.cc_select.specs.declared.step.Step.TheVariants.{One, Immediate, LoadAt, StoreAt, LoadNear, StoreNear, Branch, BranchImmediate}
use Rattle.cc_select.specs.Selected.{IsStep}
use Rattle.cc_emit.specs.Contract.{IsKept}
use Rattle.cc_emit.specs.Frames.{kept_registers, writes, is_written, written, is_call, calls, frame_of}
use Rattle.cc_emit.proofs.Fine.{AreFine, AreSavable, IsFine, IsFineMove, IsFineStep, IsFrame, IsTarget, Member}
use Rattle.cc_emit.proofs.Basics.{eqb_yes}

kept_member : (r : ℕ) → IsKept r → Member r kept_registers
kept_member r k = grind arith

abbrev pub AreKept : List ℕ → Type 0
AreKept [] = Unit {0}
AreKept (r ∷ rs) = IsKept r × AreKept rs

pub all_kept : AreKept kept_registers
all_kept =
    (inl (omega arith, omega arith), (inl (omega arith, omega arith), (inr (omega arith, omega arith), (inr (omega arith, omega arith), (inr (omega arith, omega arith), (inr (omega arith, omega arith), (inr (omega arith, omega arith), (inr (omega arith, omega arith), (inr (omega arith, omega arith), (inr (omega arith, omega arith), (inr (omega arith, omega arith), (inr (omega arith, omega arith), tt))))))))))))

-- ---- the registers that are written

savable_if : (b : Bool) (r : ℕ) (rs : List ℕ) → IsKept r → AreSavable rs → AreSavable (if b then r ∷ rs else rs)
savable_if true r rs k s = (inr k, s)
savable_if false r rs k s = s

written_savable : (steps : List Step) (rs : List ℕ) → AreKept rs → AreSavable (written steps rs)
written_savable steps [] k = tt
written_savable steps (r ∷ rs) k = savable_if (is_written steps r) r (written steps rs) k.0 (written_savable steps rs k.1)

few_if : (b : Bool) (r n : ℕ) (rs : List ℕ) → length rs ≤ n → length (if b then r ∷ rs else rs) ≤ suc n
few_if true r n rs le = omega arith
few_if false r n rs le = omega arith

written_few : (steps : List Step) (rs : List ℕ) → length (written steps rs) ≤ length rs
written_few steps [] = omega arith
written_few steps (r ∷ rs) = few_if (is_written steps r) r (length rs) (written steps rs) (written_few steps rs)

member_if : (b : Bool) (x r : ℕ) (rs : List ℕ) → Member x rs → Member x (if b then r ∷ rs else rs)
member_if true x r rs m = inr m
member_if false x r rs m = m

first_if : (b : Bool) (x r : ℕ) (rs : List ℕ) → b ≡ true → x ≡ r → Member x (if b then r ∷ rs else rs)
first_if b x r rs e q = subst (λ c. Member x (if c then r ∷ rs else rs)) (sym e) (inl q)

written_member : (steps : List Step) (x : ℕ) (rs : List ℕ) → is_written steps x ≡ true → Member x rs → Member x (written steps rs)
written_member steps x [] e m = m
written_member steps x (r ∷ rs) e (inl q) = first_if (is_written steps r) x r (written steps rs) (ap (is_written steps) (sym q) ∙ e) q
written_member steps x (r ∷ rs) e (inr m) = member_if (is_written steps r) x r (written steps rs) (written_member steps x rs e m)

-- ---- the frame

saved_savable : (b : Bool) (rs : List ℕ) → AreSavable rs → AreSavable (if b then 1 ∷ rs else rs)
saved_savable true rs s = (inl refl, s)
saved_savable false rs s = s

pub is_frame : (sets_pointer : Bool) (slots : ℕ) (steps : List Step) → slots ≤ most_slots → IsFrame (frame_of sets_pointer slots steps)
is_frame sets_pointer slots steps le =
    let few = written_few steps kept_registers in
    let saved = few_if (calls steps) 1 12 (written steps kept_registers) few in
    record { savable = saved_savable (calls steps) (written steps kept_registers) (written_savable steps kept_registers all_kept); small = omega arith }

or_left : (a b : Bool) → a ≡ true → (a || b) ≡ true
or_left a b e = ap (λ c. c || b) e

or_right : (a b : Bool) → b ≡ true → (a || b) ≡ true
or_right true b e = refl
or_right false b e = e

target : (sets_pointer : Bool) (slots : ℕ) (all : List Step) (r : ℕ) → IsAllocatable r → is_written all r ≡ true → IsTarget (frame_of sets_pointer slots all) r
target sets_pointer slots all r u e = (u, λ k. member_if (calls all) r 1 (written all kept_registers) (written_member all r kept_registers e (kept_member r k)))

-- a step writes only registers that the steps write, and calls only if the steps call
record IsOf (all : List Step) (i : Step) : Type 0 where
  writes : (r : ℕ) → writes r i ≡ true → is_written all r ≡ true
  calls : is_call i ≡ true → calls all ≡ true

fine_move : (sets_pointer : Bool) (slots : ℕ) (all : List Step) (m : Move) → IsOf all (One (Copy m)) → IsMove slots m → IsFineMove (frame_of sets_pointer slots all) m
fine_move sets_pointer slots all (Between to from) of u = (target sets_pointer slots all to u.0 (of.writes to (eqb_yes to to refl)), u.1)
fine_move sets_pointer slots all (Reload to slot) of u = (target sets_pointer slots all to u.0 (of.writes to (eqb_yes to to refl)), u.1)
fine_move sets_pointer slots all (Spill slot from) of u = u

fine_item : (meaning : Meaning) (labels : List ℕ) (sets_pointer : Bool) (slots : ℕ) (all : List Step) (i : LinearItem) → ((g : ℕ) → meaning.arity g ≤ 8) → IsOf all (One i) → IsItem slots meaning.functions labels i → IsFine meaning (frame_of sets_pointer slots all) i
fine_item meaning labels sets_pointer slots all (Label label) few of u = tt
fine_item meaning labels sets_pointer slots all (Jump to) few of u = tt
fine_item meaning labels sets_pointer slots all (IfNonzero from to) few of u = u.0
fine_item meaning labels sets_pointer slots all (IfZero from to) few of u = u.0
fine_item meaning labels sets_pointer slots all (Copy m) few of u = fine_move sets_pointer slots all m of u
fine_item meaning labels sets_pointer slots all (Const to word) few of u = (target sets_pointer slots all to u.0 (of.writes to (eqb_yes to to refl)), u.1)
fine_item meaning labels sets_pointer slots all (Unary operator to from) few of u = (target sets_pointer slots all to u.0 (of.writes to (eqb_yes to to refl)), u.1)
fine_item meaning labels sets_pointer slots all (Binary operator to left right) few of u = (target sets_pointer slots all to u.0 (of.writes to (eqb_yes to to refl)), u.1, u.2)
fine_item meaning labels sets_pointer slots all (Load width object to index) few of u = (target sets_pointer slots all to u.1 (of.writes to (eqb_yes to to refl)), u.2)
fine_item meaning labels sets_pointer slots all (Store width object index from) few of u = (u.1, u.2)
fine_item meaning labels sets_pointer slots all (Call function) few of u = (u, few function, first_if (calls all) 1 1 (written all kept_registers) (of.calls refl) refl)
fine_item meaning labels sets_pointer slots all Read few of u = tt
fine_item meaning labels sets_pointer slots all Write few of u = tt
fine_item meaning labels sets_pointer slots all Return few of u = tt

fine : (meaning : Meaning) (labels : List ℕ) (sets_pointer : Bool) (slots : ℕ) (all : List Step) (s : Step) → ((g : ℕ) → meaning.arity g ≤ 8) → IsOf all s → IsStep slots meaning.functions labels s → IsFineStep meaning (frame_of sets_pointer slots all) s
fine meaning labels sets_pointer slots all (One i) few of u = fine_item meaning labels sets_pointer slots all i few of u
fine meaning labels sets_pointer slots all (Immediate operator to from word) few of u = (target sets_pointer slots all to u.0 (of.writes to (eqb_yes to to refl)), u.1, u.2, u.3)
fine meaning labels sets_pointer slots all (LoadAt width object to number) few of u = target sets_pointer slots all to u.1 (of.writes to (eqb_yes to to refl))
fine meaning labels sets_pointer slots all (StoreAt width object number from) few of u = u.2
fine meaning labels sets_pointer slots all (LoadNear width object to index word) few of u = (target sets_pointer slots all to u.1 (of.writes to (eqb_yes to to refl)), u.2)
fine meaning labels sets_pointer slots all (StoreNear width object index word from) few of u = (u.1, u.3)
fine meaning labels sets_pointer slots all (Branch operator nonzero left right to) few of u = (u.0, u.1, u.2)
fine meaning labels sets_pointer slots all (BranchImmediate operator nonzero from word to) few of u = (u.1, u.2, u.3)

all_fine : (meaning : Meaning) (labels : List ℕ) (sets_pointer : Bool) (slots : ℕ) (all steps : List Step) → ((g : ℕ) → meaning.arity g ≤ 8) → ((r : ℕ) → is_written steps r ≡ true → is_written all r ≡ true) → (calls steps ≡ true → calls all ≡ true)
    → AllByRecursion (IsStep slots meaning.functions labels) steps → AreFine meaning (frame_of sets_pointer slots all) steps
all_fine meaning labels sets_pointer slots all [] few f g u = tt
all_fine meaning labels sets_pointer slots all (s ∷ steps) few f g u =
    let of : IsOf all s = record { writes = λ r e. f r (or_left (writes r s) (is_written steps r) e); calls = λ e. g (or_left (is_call s) (calls steps) e) } in
    (fine meaning labels sets_pointer slots all s few of u.0, all_fine meaning labels sets_pointer slots all steps few (λ r e. f r (or_right (writes r s) (is_written steps r) e)) (λ e. g (or_right (is_call s) (calls steps) e)) u.1)

-- each step of a function is fine in the function's frame
pub are_fine : (meaning : Meaning) (labels : List ℕ) (sets_pointer : Bool) (slots : ℕ) (steps : List Step) → ((g : ℕ) → meaning.arity g ≤ 8) → AllByRecursion (IsStep slots meaning.functions labels) steps → AreFine meaning (frame_of sets_pointer slots steps) steps
are_fine meaning labels sets_pointer slots steps few u = all_fine meaning labels sets_pointer slots steps steps few (λ r e. e) (λ e. e) u
