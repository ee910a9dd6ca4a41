-- The table of labels as a vector: one sweep, one more step at a time, from the back; the check, which notes what is live after each step;
-- and the sweeps until one fits. Only the 32 registers matter: whether a set has a number depends only on whether the sets after it have
-- that number.
use Rattle.std.proofs.Common.{◌≡◌, ℕ, zero, suc, ◌+◌, ◌-◌, ◌<◌, ◌≤◌, List, [], ◌∷◌, length, get_or, set, drop, refl, sym, ap, ◌∙◌, subst, Bool, true, false, ◌==◌, ◌&&◌, ◌||◌, not, nat_lt, nat_le, if◌then◌else◌, Some, None, inl, inr, arith}
use Rattle.std.proofs.lemmas.List.{get_or-set_same, get_or-set_other, length-set, drop_more, drop_all}
use Rattle.std.proofs.lemmas.Bool.{cases_eq}
use Rattle.std.proofs.lemmas.Bool.Decides.{eqb_tells, nat_tests}
use Rattle.cc_ltl.specs.declared.operation.Move.TheVariants.{Between, Reload, Spill}
use Rattle.cc_simulation.specs.Unknown.{survives}
use Rattle.cc_linear_language.specs.declared.item.LinearItem.TheVariants.{Label, Jump, IfNonzero, IfZero, Copy, Const, Unary, Binary, Load, Store, Call, Read, Write, Return}
use Rattle.cc_select.specs.declared.step.Step.{Step}
use Rattle.cc_select.specs.declared.step.Step.TheVariants.{One, Immediate, LoadAt, StoreAt, LoadNear, StoreNear, Branch, BranchImmediate}
use Rattle.cc_select.specs.declared.registers.Registers as bits
use Rattle.cc_select.specs.declared.live.LiveTable as rows
use Rattle.cc_select.specs.Live.{Registers, nothing, live_before, live, is_argument}
use Rattle.cc_select.specs.Table.{Table, row, with_row, swept, rows as swept_rows, all_below, fits, nowhere, everywhere, settled_in}
use Rattle.cc_select.specs.internal.Sets.{holds, every, Same, row_of, table_of, SameTable, AreBehind}
use Rattle.cc_select.specs.internal.Passes.{label_of, is_met}

-- ---- tables with one row

low : (r : ℕ) → r < 32 → nat_le 32 r ≡ false
low r h = grind (arith, nat_tests)

below_32 : (r : ℕ) → r < 32 → nat_lt r 32 ≡ true
below_32 r h = grind (arith, nat_tests)

pub nowhere_is : (items : List bits.Registers) (rest : bits.Registers) → items ≡ [] → holds rest ≡ nothing → SameTable (λ label. holds (get_or items label rest)) nowhere
nowhere_is items rest e h label r lt = ap (λ xs. holds (get_or xs label rest) r) e ∙ ap (λ f. f r) h ∙ sym (ap (λ b. b || false) (low r lt))

pub everywhere_is : (items : List bits.Registers) (rest : bits.Registers) → items ≡ [] → holds rest ≡ every → SameTable (λ label. holds (get_or items label rest)) everywhere
everywhere_is items rest e h label r lt = ap (λ xs. holds (get_or xs label rest) r) e ∙ ap (λ f. f r) h ∙ below_32 r lt

-- ---- before a step, register by register

pub live_before_same : (step : Step) (at at' : Table) (s s' : Registers) (r : ℕ) → ((label : ℕ) → at label r ≡ at' label r) → s r ≡ s' r → live_before step at s r ≡ live_before step at' s' r
live_before_same (One (Label label)) at at' s s' r h e = e
live_before_same (One (Jump to)) at at' s s' r h e = h to
live_before_same (One (IfNonzero from to)) at at' s s' r h e = (let a = h to in cc)
live_before_same (One (IfZero from to)) at at' s s' r h e = (let a = h to in cc)
live_before_same (One (Copy (Between to from))) at at' s s' r h e = cc
live_before_same (One (Copy (Reload to slot))) at at' s s' r h e = cc
live_before_same (One (Copy (Spill slot from))) at at' s s' r h e = cc
live_before_same (One (Const to word)) at at' s s' r h e = cc
live_before_same (One (Unary operator to from)) at at' s s' r h e = cc
live_before_same (One (Binary operator to left right)) at at' s s' r h e = cc
live_before_same (One (Load width object to index)) at at' s s' r h e = cc
live_before_same (One (Store width object index from)) at at' s s' r h e = cc
live_before_same (One (Call function)) at at' s s' r h e = ap (λ b. is_argument r || (survives r && b)) e
live_before_same (One Read) at at' s s' r h e = cc
live_before_same (One Write) at at' s s' r h e = cc
live_before_same (One Return) at at' s s' r h e = refl
live_before_same (Immediate operator to from word) at at' s s' r h e = cc
live_before_same (LoadAt width object to number) at at' s s' r h e = cc
live_before_same (StoreAt width object number from) at at' s s' r h e = cc
live_before_same (LoadNear width object to index word) at at' s s' r h e = cc
live_before_same (StoreNear width object index word from) at at' s s' r h e = cc
live_before_same (Branch operator nonzero left right to) at at' s s' r h e = (let a = h to in cc)
live_before_same (BranchImmediate operator nonzero from word to) at at' s s' r h e = (let a = h to in cc)

-- the set of bits before a step has the registers that are live there
pub same_before : (step : Step) (t : Table) (s : Registers) (table : Table) (behind before : bits.Registers) → SameTable table t → Same (holds behind) s → holds before ≡ live_before step table (holds behind) → Same (holds before) (live_before step t s)
same_before step t s table behind before h e is r lt = ap (λ f. f r) is ∙ live_before_same step table t (holds behind) s r (λ label. h label r lt) (e r lt)

-- ---- one sweep

abbrev pub IsNoLabel : Step → Type 0
IsNoLabel step = (n : ℕ) → label_of step ≡ Some n → ⊥

pub label_says : (step : Step) (n : ℕ) → Some n ≡ label_of step → step ≡ One (Label n)
label_says (One (Label m)) n e = ap (λ k. One (Label k)) (let z : m ≡ n = cc in z)
label_says _ n e = absurd (cc)

pub no_label : (step : Step) → None ≡ label_of step → IsNoLabel step
no_label step e n f = (let z : None ≡ Some n = e ∙ f in absurd (cc))

swept_other : (t : Table) (step : Step) (steps : List Step) → IsNoLabel step → swept t (step ∷ steps) ≡ (live_before step (swept t steps).1 (swept t steps).0, (swept t steps).1)
swept_other t (One (Label n)) steps f = absurd (f n refl)
swept_other t _ steps f = refl

-- the steps from number `at` on have been swept
pub record Sweeping (steps : List Step) (old : rows.LiveTable) (at : ℕ) (live : bits.Registers) (new : rows.LiveTable) : Type 0 where
  pub within : at ≤ length steps
  pub same : (t : Table) → SameTable (table_of old) t → Same (holds live) (swept t (drop at steps)).0 × SameTable (table_of new) (swept t (drop at steps)).1

pub sweep_begins : (steps : List Step) (table : rows.LiveTable) (live : bits.Registers) → holds live ≡ nothing → Sweeping steps table (length steps) live table
sweep_begins steps table live e =
    let none = drop_all (length steps) steps (omega arith) in
    record {
      within = omega arith;
      same = λ t h. subst (λ xs. Same (holds live) (swept t xs).0 × SameTable (table_of table) (swept t xs).1) (sym none) (λ r lt. ap (λ f. f r) e, h);
    }

-- the step before number `at`
abbrev pub At : (steps : List Step) (at : ℕ) → Step → Type 0
At steps at step = (0 < at) × (step ≡ get_or steps (at - 1) step)

pub rest_more : (steps : List Step) (at : ℕ) (step : Step) → at ≤ length steps → At steps at step → drop (at - 1) steps ≡ step ∷ drop at steps
rest_more steps at step le (pos, is) =
    let n : at - 1 + 1 ≡ at = omega arith in
    drop_more steps (at - 1) step (omega arith) ∙ ap (λ x. x ∷ drop (at - 1 + 1) steps) (sym is) ∙ ap (λ i. step ∷ drop i steps) n

row_put : (t s : Table) (l : ℕ) (live : bits.Registers) (s' : Registers) (old new : rows.LiveTable) → ((n : ℕ) → row_of new n ≡ (if l == n then live else row_of old n)) → Same (holds live) s' → SameTable (table_of old) s → SameTable (table_of new) (with_row l s' s)
row_put t s l live s' old new put e h n r lt = elim (eqb_tells l n) [
  | inl q ↦
      ap (λ x. holds x r) (put n ∙ ap (λ (b : Bool). if b then live else row_of old n) q.0)
      ∙ e r lt
      ∙ sym (ap (λ b. b || s' r) (low r lt))
      ∙ sym (ap (λ (b : Bool). (if b then row s' else s n) r) q.0)
  | inr q ↦
      ap (λ x. holds x r) (put n ∙ ap (λ (b : Bool). if b then live else row_of old n) q.0)
      ∙ h n r lt
      ∙ sym (ap (λ (b : Bool). (if b then row s' else s n) r) q.0)
]

pub sweep_label : (steps : List Step) (old : rows.LiveTable) (at : ℕ) (live : bits.Registers) (table new : rows.LiveTable) (step : Step) (l : ℕ) → At steps at step → Some l ≡ label_of step
    → ((n : ℕ) → row_of new n ≡ (if l == n then live else row_of table n)) → Sweeping steps old at live table → Sweeping steps old (at - 1) live new
sweep_label steps old at live table new step l a is put w =
    let rest = rest_more steps at step w.within a ∙ ap (λ x. x ∷ drop at steps) (label_says step l is) in
    record {
      within = (let le = w.within in omega arith);
      same = λ t h. subst (λ xs. Same (holds live) (swept t xs).0 × SameTable (table_of new) (swept t xs).1) (sym rest)
          ((w.same t h).0, row_put t (swept t (drop at steps)).1 l live (swept t (drop at steps)).0 table new put (w.same t h).0 (w.same t h).1);
    }

pub sweep_other : (steps : List Step) (old : rows.LiveTable) (at : ℕ) (live live' : bits.Registers) (table : rows.LiveTable) (step : Step) → At steps at step → None ≡ label_of step
    → holds live' ≡ live_before step (table_of table) (holds live) → Sweeping steps old at live table → Sweeping steps old (at - 1) live' table
sweep_other steps old at live live' table step a is before w =
    let rest = rest_more steps at step w.within a in
    record {
      within = (let le = w.within in omega arith);
      same = λ t h.
          let one = swept_other t step (drop at steps) (no_label step is) in
          subst (λ xs. Same (holds live') (swept t xs).0 × SameTable (table_of table) (swept t xs).1) (sym rest)
          (subst (λ (p : Registers × Table). Same (holds live') p.0 × SameTable (table_of table) p.1) (sym one)
          (same_before step (swept t (drop at steps)).1 (swept t (drop at steps)).0 (table_of table) live live' (w.same t h).1 (w.same t h).0 before, (w.same t h).1));
    }

pub sweep_ends : (steps : List Step) (old : rows.LiveTable) (at : ℕ) (live : bits.Registers) (new : rows.LiveTable) → at ≤ 0 → Sweeping steps old at live new → (t : Table) → SameTable (table_of old) t → SameTable (table_of new) (swept_rows t steps)
sweep_ends steps old zero live new le w t h = (w.same t h).1
sweep_ends steps old (suc at) live new le w t h = absurd (omega arith)

-- ---- the check

all_below_same : (n : ℕ) (f g : ℕ → Bool) → ((r : ℕ) → r < n → f r ≡ g r) → all_below n f ≡ all_below n g
all_below_same zero f g h = refl
all_below_same (suc n) f g h = ap (λ b. b && all_below n f) (h n (omega arith)) ∙ ap (λ b. g n && b) (all_below_same n f g (λ r lt. h r (omega arith)))

pub met_same : (step : Step) (t t' : Table) (s s' : Registers) → SameTable t t' → Same s s' → is_met t step s ≡ is_met t' step s'
met_same (One (Label l)) t t' s s' h e = all_below_same 32 (λ r. not (s r) || t l r) (λ r. not (s' r) || t' l r) (λ r lt. ap (λ b. not b || t l r) (e r lt) ∙ ap (λ b. not (s' r) || b) (h l r lt))
met_same _ t t' s s' h e = refl

fits_more : (t : Table) (step : Step) (steps : List Step) → fits t (step ∷ steps) ≡ (is_met t step (live t steps) && fits t steps)
fits_more t (One (Label l)) steps = refl
fits_more t _ steps = refl

all_true : (n : ℕ) (f : ℕ → Bool) → ((r : ℕ) → f r ≡ true) → all_below n f ≡ true
all_true zero f h = refl
all_true (suc n) f h = ap (λ b. b && all_below n f) (h n) ∙ all_true n f h

-- if the steps from some number on do not fit, the steps do not fit
misfit : (t : Table) (i : ℕ) (steps : List Step) → fits t (drop i steps) ≡ false → fits t steps ≡ false
misfit t zero steps e = e
misfit t (suc i) [] e = e
misfit t (suc i) (step ∷ steps) e = fits_more t step steps ∙ ap (λ b. is_met t step (live t steps) && b) (misfit t i steps e) ∙ none (is_met t step (live t steps))
  where
    none : (b : Bool) → (b && false) ≡ false
    none true = refl
    none false = refl

-- the steps from number `at` on fit, and what is live after each is noted
pub record Looking (steps : List Step) (table : rows.LiveTable) (at : ℕ) (before : bits.Registers) (behind : List bits.Registers) : Type 0 where
  pub within : at ≤ length steps
  pub long : length behind ≡ length steps
  pub same : (t : Table) → SameTable (table_of table) t → Same (holds before) (live t (drop at steps))
  pub fit : (t : Table) → SameTable (table_of table) t → fits t (drop at steps) ≡ true
  pub noted : (t : Table) → SameTable (table_of table) t → (j : ℕ) (d : bits.Registers) → at ≤ j → j < length steps → Same (holds (get_or behind j d)) (live t (drop (j + 1) steps))

pub look_begins : (steps : List Step) (table : rows.LiveTable) (before : bits.Registers) (behind : List bits.Registers) → holds before ≡ nothing → length behind ≡ length steps → Looking steps table (length steps) before behind
look_begins steps table before behind e long =
    let none = drop_all (length steps) steps (omega arith) in
    record {
      within = omega arith;
      long = long;
      same = λ t h. subst (λ xs. Same (holds before) (live t xs)) (sym none) (λ r lt. ap (λ f. f r) e);
      fit = λ t h. ap (fits t) none;
      noted = λ t h j d le lt. absurd (omega arith);
    }

-- one more step fits if its row has everything that is live there
pub look_more : (steps : List Step) (table : rows.LiveTable) (at : ℕ) (before before' : bits.Registers) (behind : List bits.Registers) (step : Step) → At steps at step → is_met (table_of table) step (holds before) ≡ true
    → holds before' ≡ live_before step (table_of table) (holds before) → Looking steps table at before behind → Looking steps table (at - 1) before' (set behind (at - 1) before)
look_more steps table at before before' behind step a met is w =
    let rest = rest_more steps at step w.within a in
    let le = w.within in
    let long = w.long in
    let pos = a.0 in
    record {
      within = omega arith;
      long = length-set behind (at - 1) before ∙ w.long;
      same = λ t h. subst (λ xs. Same (holds before') (live t xs)) (sym rest) (same_before step t (live t (drop at steps)) (table_of table) before before' h (w.same t h) is);
      fit = λ t h.
          ap (fits t) rest ∙ fits_more t step (drop at steps)
          ∙ ap (λ b. b && fits t (drop at steps)) (sym (met_same step (table_of table) t (holds before) (live t (drop at steps)) h (w.same t h)) ∙ met)
          ∙ w.fit t h;
      noted = λ t h j d l lt. elim (cases_eq j (at - 1)) [
        | inl here ↦
            subst (λ i. Same (holds (get_or (set behind (at - 1) before) i d)) (live t (drop (i + 1) steps))) (sym here)
            (λ r low. ap (λ x. holds x r) (get_or-set_same behind (at - 1) before d (omega arith)) ∙ w.same t h r low ∙ ap (λ i. live t (drop i steps) r) (let n : at ≡ at - 1 + 1 = omega arith in n))
        | inr other ↦ (λ r low. ap (λ x. holds x r) (get_or-set_other behind (at - 1) j before d other) ∙ w.noted t h j d (omega arith) lt r low)
      ];
    }

-- if a step's row lacks something that is live there, the steps do not fit
pub look_fails : (steps : List Step) (table : rows.LiveTable) (at : ℕ) (before : bits.Registers) (behind : List bits.Registers) (step : Step) → At steps at step → is_met (table_of table) step (holds before) ≡ false
    → Looking steps table at before behind → (t : Table) → SameTable (table_of table) t → false ≡ fits t steps
look_fails steps table at before behind step a met w t h =
    let rest = rest_more steps at step w.within a in
    sym (misfit t (at - 1) steps
    (ap (fits t) rest ∙ fits_more t step (drop at steps)
    ∙ ap (λ b. b && fits t (drop at steps)) (sym (met_same step (table_of table) t (holds before) (live t (drop at steps)) h (w.same t h)) ∙ met)))

pub look_ends : (steps : List Step) (table : rows.LiveTable) (at : ℕ) (before : bits.Registers) (behind : List bits.Registers) → at ≤ 0 → Looking steps table at before behind
    → ((t : Table) → SameTable (table_of table) t → true ≡ fits t steps) × ((t : Table) → SameTable (table_of table) t → AreBehind t steps behind)
look_ends steps table zero before behind le w = (λ t h. sym (w.fit t h), λ t h j d lt. w.noted t h j d (omega arith) lt)
look_ends steps table (suc at) before behind le w = absurd (omega arith)

-- ---- the sweeps

settled_more : (n : ℕ) (t : Table) (code : List Step) → 0 < n → settled_in n t code ≡ (if fits (swept_rows t code) code then swept_rows t code else settled_in (n - 1) (swept_rows t code) code)
settled_more zero t code lt = absurd (omega arith)
settled_more (suc n) t code lt = (let e : n ≡ suc n - 1 = omega arith in ap (λ k. if fits (swept_rows t code) code then swept_rows t code else settled_in k (swept_rows t code) code) e)

-- `left` more sweeps, starting from `table`, yield the wanted table
pub record Settling (steps : List Step) (wanted : Table) (left : ℕ) (table : rows.LiveTable) (behind : List bits.Registers) : Type 0 where
  pub long : length behind ≡ length steps
  pub from : Table
  pub same : SameTable (table_of table) from
  pub gives : settled_in left from steps ≡ wanted

pub settle_more : (steps : List Step) (wanted : Table) (left : ℕ) (table new : rows.LiveTable) (behind behind' : List bits.Registers) → 0 < left → ((t : Table) → SameTable (table_of table) t → SameTable (table_of new) (swept_rows t steps))
    → length behind' ≡ length steps → ((t : Table) → SameTable (table_of new) t → false ≡ fits t steps) → Settling steps wanted left table behind → Settling steps wanted (left - 1) new behind'
settle_more steps wanted left table new behind behind' pos sweeps long misses w = record {
  long = long;
  from = swept_rows w.from steps;
  same = sweeps w.from w.same;
  gives =
      sym (ap (λ (b : Bool). if b then swept_rows w.from steps else settled_in (left - 1) (swept_rows w.from steps) steps) (sym (misses (swept_rows w.from steps) (sweeps w.from w.same))))
      ∙ sym (settled_more left w.from steps pos) ∙ w.gives;
}

-- the table that fits is the wanted one
pub settle_ends : (steps : List Step) (wanted : Table) (left : ℕ) (table new : rows.LiveTable) (behind : List bits.Registers) → 0 < left → ((t : Table) → SameTable (table_of table) t → SameTable (table_of new) (swept_rows t steps))
    → ((t : Table) → SameTable (table_of new) t → true ≡ fits t steps) → Settling steps wanted left table behind → SameTable (table_of new) wanted
settle_ends steps wanted left table new behind pos sweeps fit w =
    subst (SameTable (table_of new))
    (sym (ap (λ (b : Bool). if b then swept_rows w.from steps else settled_in (left - 1) (swept_rows w.from steps) steps) (sym (fit (swept_rows w.from steps) (sweeps w.from w.same)))) ∙ sym (settled_more left w.from steps pos) ∙ w.gives)
    (sweeps w.from w.same)

-- if no sweep is left, everything is live at each label
pub settle_none : (steps : List Step) (wanted : Table) (left : ℕ) (table new : rows.LiveTable) (behind : List bits.Registers) → left ≤ 0 → SameTable (table_of new) everywhere → Settling steps wanted left table behind → SameTable (table_of new) wanted
settle_none steps wanted zero table new behind le h w = subst (SameTable (table_of new)) w.gives h
settle_none steps wanted (suc left) table new behind le h w = absurd (omega arith)

-- the table in which everything is live fits
pub everywhere_fits : (steps : List Step) → fits everywhere steps ≡ true
everywhere_fits [] = refl
everywhere_fits (step ∷ steps) = fits_more everywhere step steps ∙ ap (λ b. b && fits everywhere steps) (met step) ∙ everywhere_fits steps
  where
    or_true : (b : Bool) → (b || true) ≡ true
    or_true true = refl
    or_true false = refl

    met : (step : Step) → is_met everywhere step (live everywhere steps) ≡ true
    met (One (Label l)) = all_true 32 (λ r. not (live everywhere steps r) || true) (λ r. or_true (not (live everywhere steps r)))
    met _ = refl
