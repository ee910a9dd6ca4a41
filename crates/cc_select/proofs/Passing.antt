-- The two passes, one more step at a time: the steps that stay, with what is live after each, and comparisons joined with their tests.
use Rattle.std.proofs.Common.{◌≡◌, ℕ, zero, suc, ◌+◌, ◌<◌, ◌≤◌, List, [], ◌∷◌, ◌++◌, length, get_or, drop, refl, sym, ap, ◌∙◌, subst, Bool, true, false, ◌==◌, ◌&&◌, not, if◌then◌else◌, Option, Some, None, inl, inr, arith, append_assoc}
use Rattle.std.proofs.lemmas.List.{drop_more, drop_all, length_push, append-nil, get_or_append_left, get_or_default}
use Rattle.std.proofs.Math.Seq.{get_or-append_seam, drop-append_seam}
use Rattle.std.proofs.lemmas.Bool.{cases_eq}
use Rattle.std.proofs.lemmas.Bool.Decides.{eqb_tells}
use Rattle.cc_words.specs.declared.operators.Binary as binary
use Rattle.cc_words.specs.declared.operators.Unary.TheVariants.{IsZero}
use Rattle.cc_words.specs.declared.operators.Binary.TheVariants.{Add, Sub, Mul, DivS, DivU, RemS, RemU, Shl, ShrS, ShrU, And, Or, Xor, Eq, Ne, LtS, LtU, LeS, LeU}
use Rattle.cc_linear_language.specs.declared.item.LinearItem.TheVariants.{IfNonzero, IfZero, Const, Unary, Binary}
use Rattle.cc_select.specs.declared.step.Step.{Step}
use Rattle.cc_select.specs.declared.step.Step.TheVariants.{One, Immediate, Branch, BranchImmediate}
use Rattle.cc_select.specs.declared.registers.Registers as bits
use Rattle.cc_select.specs.Immediates.{gains}
use Rattle.cc_select.specs.Live.{Registers, live}
use Rattle.cc_select.specs.Table.{Table}
use Rattle.cc_select.specs.Selection.{Test, Truth, lean, test_of, behind, if_so, truth_of, joined, fused}
use Rattle.cc_select.specs.internal.Sets.{holds, Same, AreBehind}
use Rattle.cc_select.proofs.Lean.{lean_live}
use Rattle.cc_select.specs.internal.Passes.{stays, test_in, branch_compared, branch_on, is_last, branch_of, first_branch}

-- ---- the steps that stay

lean_more : (t : Table) (step : Step) (steps : List Step) → lean t (step ∷ steps) ≡ (if stays step (live t steps) then step ∷ lean t steps else lean t steps)
lean_more t (One (Const to word)) steps = refl
lean_more t (Immediate operator to from word) steps = refl
lean_more t _ steps = refl

-- the steps before number `at` have been looked at: those that stay are kept, with what is live after each
pub record Keeping (steps : List Step) (sets : List bits.Registers) (at : ℕ) (kept : List Step) (noted : List bits.Registers) : Type 0 where
  pub long : length noted ≡ length kept
  pub so_far : (t : Table) → AreBehind t steps sets → kept ++ lean t (drop at steps) ≡ lean t steps
  pub same : (t : Table) → AreBehind t steps sets → (j : ℕ) (d : bits.Registers) → j < length kept → Same (holds (get_or noted j d)) (live t (drop (j + 1) (lean t steps)))

pub keep_begins : (steps : List Step) (sets : List bits.Registers) → Keeping steps sets 0 [] []
keep_begins steps sets = record { long = refl; so_far = λ t h. refl; same = λ t h j d lt. absurd (omega arith) }

-- what is kept once a step has been looked at
looked : (steps : List Step) (sets : List bits.Registers) (at : ℕ) (step : Step) (set d : bits.Registers) (b : Bool) (t : Table) → at < length steps → step ≡ get_or steps at step → set ≡ get_or sets at d
    → ((s : Registers) → Same (holds set) s → b ≡ stays step s) → AreBehind t steps sets → lean t (drop at steps) ≡ (if b then step ∷ lean t (drop (at + 1) steps) else lean t (drop (at + 1) steps))
looked steps sets at step set d b t lt is is_set says h =
    let rest = drop (at + 1) steps in
    ap (lean t) (drop_more steps at step lt ∙ ap (λ x. x ∷ rest) (sym is))
    ∙ lean_more t step rest
    ∙ ap (λ (c : Bool). if c then step ∷ lean t rest else lean t rest) (sym (says (live t rest) (λ r low. ap (λ x. holds x r) is_set ∙ h at d lt r low)))

pub keep_one : (steps : List Step) (sets : List bits.Registers) (at : ℕ) (kept kept' : List Step) (noted noted' : List bits.Registers) (step : Step) (set d : bits.Registers) → at < length steps → step ≡ get_or steps at step
    → set ≡ get_or sets at d → ((s : Registers) → Same (holds set) s → true ≡ stays step s) → kept' ≡ kept ++ (step ∷ []) → noted' ≡ noted ++ (set ∷ []) → Keeping steps sets at kept noted → Keeping steps sets (at + 1) kept' noted'
keep_one steps sets at kept kept' noted noted' step set d lt is is_set says put put_set w =
    let rest = drop (at + 1) steps in
    let long = w.long in
    let longer : length kept' ≡ length kept + 1 = ap (λ xs. length xs) put ∙ length_push kept step in
    let so_far : (t : Table) → AreBehind t steps sets → kept' ++ lean t rest ≡ lean t steps =
    (λ t h.
    ap (λ xs. xs ++ lean t rest) put ∙ append_assoc kept (step ∷ []) (lean t rest)
    ∙ sym (ap (λ xs. kept ++ xs) (looked steps sets at step set d true t lt is is_set says h)) ∙ w.so_far t h) in
    record {
      long = ap (λ xs. length xs) put_set ∙ length_push noted set ∙ ap (λ n. n + 1) w.long ∙ sym longer;
      so_far = so_far;
      same = λ t h j e l. elim (cases_eq j (length kept)) [
        | inl here ↦ (λ r low.
            ap (λ i. holds (get_or noted' i e) r) (here ∙ sym w.long)
            ∙ ap (λ xs. holds (get_or xs (length noted) e) r) put_set
            ∙ ap (λ x. holds x r) (get_or-append_seam noted set [] e)
            ∙ ap (λ x. holds x r) is_set
            ∙ h at d lt r low
            ∙ sym (lean_live t rest r)
            ∙ sym (ap (λ xs. live t xs r) (drop-append_seam kept' (lean t rest)))
            ∙ ap (λ n. live t (drop n (kept' ++ lean t rest)) r) (longer ∙ ap (λ n. n + 1) (sym here))
            ∙ ap (λ xs. live t (drop (j + 1) xs) r) (so_far t h))
        | inr other ↦ (λ r low.
            ap (λ xs. holds (get_or xs j e) r) put_set
            ∙ ap (λ x. holds x r) (get_or_append_left noted (set ∷ []) e j (omega arith))
            ∙ w.same t h j e (omega arith) r low)
      ];
    }

pub drop_one : (steps : List Step) (sets : List bits.Registers) (at : ℕ) (kept : List Step) (noted : List bits.Registers) (step : Step) (set d : bits.Registers) → at < length steps → step ≡ get_or steps at step → set ≡ get_or sets at d
    → ((s : Registers) → Same (holds set) s → false ≡ stays step s) → Keeping steps sets at kept noted → Keeping steps sets (at + 1) kept noted
drop_one steps sets at kept noted step set d lt is is_set says w = record {
  long = w.long;
  so_far = λ t h. sym (ap (λ xs. kept ++ xs) (looked steps sets at step set d false t lt is is_set says h)) ∙ w.so_far t h;
  same = w.same;
}

pub keep_ends : (steps : List Step) (sets : List bits.Registers) (at : ℕ) (kept : List Step) (noted : List bits.Registers) → length steps ≤ at → Keeping steps sets at kept noted
    → ((t : Table) → AreBehind t steps sets → kept ≡ lean t steps) × ((t : Table) → AreBehind t steps sets → AreBehind t kept noted)
keep_ends steps sets at kept noted le w =
    let all : (t : Table) → AreBehind t steps sets → kept ≡ lean t steps =
    (λ t h. sym (append-nil kept) ∙ ap (λ xs. kept ++ lean t xs) (sym (drop_all at steps le)) ∙ w.so_far t h) in
    (all, λ t h j d lt. subst (λ xs. Same (holds (get_or noted j d)) (live t (drop (j + 1) xs))) (sym (all t h)) (w.same t h j d lt))

-- ---- a truth value's branch

-- the branches of a step if it computes a truth value, and if it does not
abbrev Branches : Option Truth → (Test → Option Step) → Type 0
Branches None f = (v : Test) → f v ≡ None
Branches (Some t) f = (v : Test) → f v ≡ (if t.register == v.register then Some (t.branch v.nonzero v.to) else None)

abbrev no_step : Option Step
no_step = None

if_none : (b : Bool) (s : Step) → (if b && false then Some s else None) ≡ no_step
if_none true s = refl
if_none false s = refl

if_both : (b : Bool) (s : Step) → (if b && true then Some s else None) ≡ (if b then Some s else no_step)
if_both true s = refl
if_both false s = refl

either_none : (b : Bool) → (if b then no_step else no_step) ≡ no_step
either_none true = refl
either_none false = refl

if_compared : (b : Bool) (o : binary.Binary) (to x y : ℕ)
    → Branches (if_so b (record { register = to; branch = λ nonzero n. Branch o nonzero x y n })) (λ v. if to == v.register then branch_compared (if b then Some o else None) x y v else None)
if_compared true o to x y = λ v. refl
if_compared false o to x y = λ v. either_none (to == v.register)

if_gains : (b : Bool) (to : ℕ) (f : (nonzero : Bool) → (to : ℕ) → Step) → Branches (if_so b (record { register = to; branch = f })) (λ v. if (to == v.register) && b then Some (f v.nonzero v.to) else None)
if_gains true to f = λ v. if_both (to == v.register) (f v.nonzero v.to)
if_gains false to f = λ v. if_none (to == v.register) (f v.nonzero v.to)

binary_branches : (o : binary.Binary) (to x y : ℕ) → Branches (truth_of (One (Binary o to x y))) (branch_on (One (Binary o to x y)))
binary_branches Xor to x y = λ v. refl
binary_branches Add to x y = if_compared false Add to x y
binary_branches Sub to x y = if_compared false Sub to x y
binary_branches Mul to x y = if_compared false Mul to x y
binary_branches DivS to x y = if_compared false DivS to x y
binary_branches DivU to x y = if_compared false DivU to x y
binary_branches RemS to x y = if_compared false RemS to x y
binary_branches RemU to x y = if_compared false RemU to x y
binary_branches Shl to x y = if_compared false Shl to x y
binary_branches ShrS to x y = if_compared false ShrS to x y
binary_branches ShrU to x y = if_compared false ShrU to x y
binary_branches And to x y = if_compared false And to x y
binary_branches Or to x y = if_compared false Or to x y
binary_branches Eq to x y = if_compared true Eq to x y
binary_branches Ne to x y = if_compared true Ne to x y
binary_branches LtS to x y = if_compared true LtS to x y
binary_branches LtU to x y = if_compared true LtU to x y
binary_branches LeS to x y = if_compared true LeS to x y
binary_branches LeU to x y = if_compared true LeU to x y

branches : (s : Step) → Branches (truth_of s) (branch_on s)
branches (One (Unary IsZero to a)) = λ v. refl
branches (One (Binary o to x y)) = binary_branches o to x y
branches (Immediate o to a w) = if_gains (gains o w) to (λ nonzero n. BranchImmediate o nonzero a w n)
branches _ = λ v. refl

-- ---- a step joined with the test after it

-- a branch in place of a step and the test after it, or the step unchanged
abbrev put_branch : Option Step → Step → (done : List Step) → List Step
put_branch None s done = s ∷ done
put_branch (Some b) s done = b ∷ behind done

-- whether the test is the last reader, as `branch_of` asks
abbrev if_last : Table → (Test → Option Step) → Option Test → (steps : List Step) → Option Step
if_last t f None steps = None
if_last t f (Some v) steps = if is_last t v steps then f v else None

if_nothing : (b : Bool) (x : Option Step) → x ≡ None → (if b then x else None) ≡ no_step
if_nothing true x e = e
if_nothing false x e = refl

joined_by : (t : Table) (s : Step) (z : Option Truth) (f : Test → Option Step) (o : Option Test) (steps done : List Step) → Branches z f → joined t s z o steps done ≡ put_branch (if_last t f o steps) s done
joined_by t s None f None steps done h = refl
joined_by t s None f (Some v) steps done h = sym (ap (λ x. put_branch x s done) (if_nothing (is_last t v steps) (f v) (h v)))
joined_by t s (Some z) f None steps done h = refl
joined_by t s (Some z) f (Some v) steps done h = elim (eqb_tells z.register v.register) [
  | inl q ↦
      ap (λ (b : Bool). if b && (not (live t (behind steps) z.register) && not (t v.to z.register)) then z.branch v.nonzero v.to ∷ behind done else s ∷ done) q.0
      ∙ ap (λ r. if not (live t (behind steps) r) && not (t v.to r) then z.branch v.nonzero v.to ∷ behind done else s ∷ done) q.1
      ∙ both (is_last t v steps) (f v) (h v ∙ ap (λ (b : Bool). if b then Some (z.branch v.nonzero v.to) else None) q.0)
  | inr q ↦
      ap (λ (b : Bool). if b && (not (live t (behind steps) z.register) && not (t v.to z.register)) then z.branch v.nonzero v.to ∷ behind done else s ∷ done) q.0
      ∙ sym (ap (λ x. put_branch x s done) (if_nothing (is_last t v steps) (f v) (h v ∙ ap (λ (b : Bool). if b then Some (z.branch v.nonzero v.to) else None) q.0)))
]
  where
    both : (b : Bool) (x : Option Step) → x ≡ Some (z.branch v.nonzero v.to) → (if b then z.branch v.nonzero v.to ∷ behind done else s ∷ done) ≡ put_branch (if b then x else None) s done
    both true x e = sym (ap (λ y. put_branch y s done) e)
    both false x e = refl

same_branch : (t : Table) (s : Step) (o : Option Test) (steps : List Step) → if_last t (branch_on s) o steps ≡ branch_of t s o steps
same_branch t s None steps = refl
same_branch t s (Some v) steps = refl

test_first : (next : Step) (steps : List Step) → test_of (next ∷ steps) ≡ test_in next
test_first (One (IfNonzero r n)) steps = refl
test_first (One (IfZero r n)) steps = refl
test_first _ steps = refl

-- a test computes no truth value
test_alone : (t : Table) (next : Step) (steps : List Step) (v : Test) → test_in next ≡ Some v → fused t (next ∷ steps) ≡ next ∷ fused t steps
test_alone t (One (IfNonzero r n)) steps v e = joined_by t (One (IfNonzero r n)) None (λ w. None) (test_of steps) steps (fused t steps) (λ w. refl) ∙ alone (test_of steps)
  where
    alone : (o : Option Test) → put_branch (if_last t (λ w. None) o steps) (One (IfNonzero r n)) (fused t steps) ≡ One (IfNonzero r n) ∷ fused t steps
    alone None = refl
    alone (Some w) = ap (λ x. put_branch x (One (IfNonzero r n)) (fused t steps)) (either_none (is_last t w steps))
test_alone t (One (IfZero r n)) steps v e = joined_by t (One (IfZero r n)) None (λ w. None) (test_of steps) steps (fused t steps) (λ w. refl) ∙ alone (test_of steps)
  where
    alone : (o : Option Test) → put_branch (if_last t (λ w. None) o steps) (One (IfZero r n)) (fused t steps) ≡ One (IfZero r n) ∷ fused t steps
    alone None = refl
    alone (Some w) = ap (λ x. put_branch x (One (IfZero r n)) (fused t steps)) (either_none (is_last t w steps))
test_alone t _ steps v e = absurd (cc)

fused_step : (t : Table) (s : Step) (steps : List Step) → fused t (s ∷ steps) ≡ put_branch (branch_of t s (test_of steps) steps) s (fused t steps)
fused_step t s steps = joined_by t s (truth_of s) (branch_on s) (test_of steps) steps (fused t steps) (branches s) ∙ ap (λ x. put_branch x s (fused t steps)) (same_branch t s (test_of steps) steps)

-- what a list becomes, given its first branch
fused_none : (t : Table) (s : Step) (steps : List Step) → None ≡ first_branch t (s ∷ steps) → fused t (s ∷ steps) ≡ s ∷ fused t steps
fused_none t s [] e = fused_step t s []
fused_none t s (next ∷ steps) e =
    fused_step t s (next ∷ steps)
    ∙ ap (λ x. put_branch (branch_of t s x (next ∷ steps)) s (fused t (next ∷ steps))) (test_first next steps)
    ∙ ap (λ x. put_branch x s (fused t (next ∷ steps))) (sym e)

fused_some : (t : Table) (s b : Step) (steps : List Step) → Some b ≡ first_branch t (s ∷ steps) → fused t (s ∷ steps) ≡ b ∷ fused t (behind steps)
fused_some t s b [] e = absurd (cc)
fused_some t s b (next ∷ steps) e =
    fused_step t s (next ∷ steps)
    ∙ ap (λ x. put_branch (branch_of t s x (next ∷ steps)) s (fused t (next ∷ steps))) (test_first next steps)
    ∙ ap (λ x. put_branch x s (fused t (next ∷ steps))) (sym e)
    ∙ ap (λ xs. b ∷ xs) (tested (test_in next) refl e)
  where
    tested : (o : Option Test) → test_in next ≡ o → Some b ≡ branch_of t s o (next ∷ steps) → behind (fused t (next ∷ steps)) ≡ fused t steps
    tested None is h = absurd (cc)
    tested (Some v) is h = ap behind (test_alone t next steps v is)

-- ---- the walk

-- the steps so far, followed by what the others become, are all the steps
abbrev pub Joined : Table → (steps : List Step) (at : ℕ) (found : List Step) → Type 0
Joined t steps at found = found ++ fused t (drop at steps) ≡ fused t steps

pub join_one : (t : Table) (steps : List Step) (at : ℕ) (step : Step) (found found' : List Step) → at < length steps → step ≡ get_or steps at step → None ≡ first_branch t (drop at steps) → found' ≡ found ++ (step ∷ [])
    → Joined t steps at found → Joined t steps (at + 1) found'
join_one t steps at step found found' lt is none put so_far =
    let rest = drop (at + 1) steps in
    let more : drop at steps ≡ step ∷ rest = drop_more steps at step lt ∙ ap (λ x. x ∷ rest) (sym is) in
    ap (λ xs. xs ++ fused t rest) put ∙ append_assoc found (step ∷ []) (fused t rest)
    ∙ sym (ap (λ xs. found ++ xs) (ap (fused t) more ∙ fused_none t step rest (none ∙ ap (first_branch t) more)))
    ∙ so_far

behind_suc : (steps : List Step) (at : ℕ) → behind (drop at steps) ≡ drop (suc at) steps
behind_suc [] zero = refl
behind_suc [] (suc at) = refl
behind_suc (s ∷ steps) zero = refl
behind_suc (s ∷ steps) (suc at) = behind_suc steps at

behind_drop : (steps : List Step) (at : ℕ) → behind (drop at steps) ≡ drop (at + 1) steps
behind_drop steps at = behind_suc steps at ∙ ap (λ n. drop n steps) (let n : suc at ≡ at + 1 = omega arith in n)

pub join_two : (t : Table) (steps : List Step) (at : ℕ) (branch : Step) (found found' : List Step) → at < length steps → Some branch ≡ first_branch t (drop at steps) → found' ≡ found ++ (branch ∷ [])
    → Joined t steps at found → Joined t steps (at + 2) found'
join_two t steps at branch found found' lt some put so_far =
    let step = get_or steps at branch in
    let rest = drop (at + 1) steps in
    let more : drop at steps ≡ step ∷ rest = drop_more steps at branch lt in
    let two : behind rest ≡ drop (at + 2) steps = behind_drop steps (at + 1) ∙ ap (λ n. drop n steps) (let n : at + 1 + 1 ≡ at + 2 = omega arith in n) in
    ap (λ xs. xs ++ fused t (drop (at + 2) steps)) put ∙ append_assoc found (branch ∷ []) (fused t (drop (at + 2) steps))
    ∙ sym (ap (λ xs. found ++ xs) (ap (fused t) more ∙ fused_some t step branch rest (some ∙ ap (first_branch t) more) ∙ ap (λ xs. branch ∷ fused t xs) two))
    ∙ so_far

pub join_ends : (t : Table) (steps : List Step) (at : ℕ) (found : List Step) → length steps ≤ at → Joined t steps at found → found ≡ fused t steps
join_ends t steps at found le so_far = sym (append-nil found) ∙ ap (λ xs. found ++ fused t xs) (sym (drop_all at steps le)) ∙ so_far

-- ---- the branch at a place

pub last_none : (t : Table) (steps : List Step) (at : ℕ) → length steps ≤ at + 1 → None ≡ first_branch t (drop at steps)
last_none t [] zero le = refl
last_none t [] (suc at) le = refl
last_none t (s ∷ []) zero le = refl
last_none t (s ∷ next ∷ steps) zero le = absurd (omega arith)
last_none t (s ∷ steps) (suc at) le = last_none t steps at (omega arith)

two_at : (t : Table) (steps : List Step) (at : ℕ) (next : Step) → at + 1 < length steps → next ≡ get_or steps (at + 1) next → first_branch t (drop at steps) ≡ branch_of t (get_or steps at next) (test_in next) (drop (at + 1) steps)
two_at t steps at next lt is_next =
    let step = get_or steps at next in
    let rest = drop (at + 1 + 1) steps in
    let second : drop (at + 1) steps ≡ next ∷ rest = drop_more steps (at + 1) next lt ∙ ap (λ x. x ∷ rest) (sym is_next) in
    let first : drop at steps ≡ step ∷ next ∷ rest = drop_more steps at next (omega arith) ∙ ap (λ xs. step ∷ xs) second in
    ap (first_branch t) first ∙ sym (ap (λ xs. branch_of t step (test_in next) xs) second)

pub no_test : (t : Table) (steps : List Step) (at : ℕ) (next : Step) → at + 1 < length steps → next ≡ get_or steps (at + 1) next → test_in next ≡ None → None ≡ first_branch t (drop at steps)
no_test t steps at next lt is_next none = sym (two_at t steps at next lt is_next ∙ ap (λ o. branch_of t (get_or steps at next) o (drop (at + 1) steps)) none)

-- the step after a place is a test
pub record Tested (t : Table) (steps : List Step) (at : ℕ) (next : Step) (v : Test) : Type 0 where
  pub inside : at + 1 < length steps
  pub next_is : next ≡ get_or steps (at + 1) next
  pub test_is : test_in next ≡ Some v

if_is : (t : Table) (steps : List Step) (at : ℕ) (next : Step) (v : Test) → Tested t steps at next v
    → first_branch t (drop at steps) ≡ (if not (live t (drop (at + 1 + 1) steps) v.register) && not (t v.to v.register) then branch_on (get_or steps at next) v else None)
if_is t steps at next v w =
    two_at t steps at next w.inside w.next_is ∙ ap (λ o. branch_of t (get_or steps at next) o (drop (at + 1) steps)) w.test_is
    ∙ ap (λ xs. if not (live t xs v.register) && not (t v.to v.register) then branch_on (get_or steps at next) v else None) (behind_drop steps (at + 1))

pub live_behind : (t : Table) (steps : List Step) (at : ℕ) (next : Step) (v : Test) → Tested t steps at next v → live t (drop (at + 1 + 1) steps) v.register ≡ true → None ≡ first_branch t (drop at steps)
live_behind t steps at next v w e = sym (if_is t steps at next v w ∙ ap (λ b. if not b && not (t v.to v.register) then branch_on (get_or steps at next) v else None) e)

pub live_there : (t : Table) (steps : List Step) (at : ℕ) (next : Step) (v : Test) → Tested t steps at next v → t v.to v.register ≡ true → None ≡ first_branch t (drop at steps)
live_there t steps at next v w e =
    sym (if_is t steps at next v w
    ∙ ap (λ b. if not (live t (drop (at + 1 + 1) steps) v.register) && not b then branch_on (get_or steps at next) v else None) e
    ∙ out (not (live t (drop (at + 1 + 1) steps) v.register)) (branch_on (get_or steps at next) v))
  where
    out : (b : Bool) (x : Option Step) → (if b && false then x else None) ≡ no_step
    out true x = refl
    out false x = refl

pub live_nowhere : (t : Table) (steps : List Step) (at : ℕ) (step next : Step) (v : Test) → Tested t steps at next v → step ≡ get_or steps at step → live t (drop (at + 1 + 1) steps) v.register ≡ false → t v.to v.register ≡ false
    → branch_on step v ≡ first_branch t (drop at steps)
live_nowhere t steps at step next v w is e f =
    let lt = w.inside in
    ap (λ s. branch_on s v) (is ∙ get_or_default steps at step next (omega arith))
    ∙ sym (if_is t steps at next v w
    ∙ ap (λ b. if not b && not (t v.to v.register) then branch_on (get_or steps at next) v else None) e
    ∙ ap (λ b. if not b then branch_on (get_or steps at next) v else None) f)
