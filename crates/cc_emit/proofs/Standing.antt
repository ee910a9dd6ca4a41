-- Where items are in the code: from an item on, and from a label on.
use Rattle.std.proofs.Common.{◌≡◌, ℕ, zero, suc, ◌+◌, ◌-◌, ◌*◌, ◌%◌, ◌^◌, ◌≤◌, List, [], ◌∷◌, ◌++◌, Some, true, false, Bool, length, get_or, map, refl, sym, ap, ◌∙◌, subst, arith}
use Rattle.std.specs.Prelude.{if◌then◌else◌, ◌==◌}
use Rattle.std.proofs.lemmas.List.{length-append}
use Rattle.cc_rv32.specs.declared.instr.Instr.{Instr}
use Rattle.cc_rv32.specs.declared.instr.Instr.TheVariants.{Jal}
use Rattle.cc_rv32.specs.Machine.{Continues, State, Traps, Turn, stack_to, with_register}
use Rattle.cc_words.specs.declared.operators.Width.TheVariants.{Word}
use Rattle.cc_simulation.specs.World.{Object, Size, World, object_of, size_in, size_of}
use Rattle.cc_simulation.specs.Meaning.{Meaning}
use Rattle.cc_linear_language.specs.declared.item.LinearItem.TheVariants.{Label}
use Rattle.cc_select.specs.declared.step.Step.{Step}
use Rattle.cc_select.specs.declared.step.Step.TheVariants.{One}
use Rattle.cc_select.specs.Selected as selected
use Rattle.cc_emit.specs.declared.item.PieceItem.{PieceItem}
use Rattle.cc_emit.specs.declared.item.PieceItem.TheVariants.{Plain, Call, Go}
use Rattle.cc_emit.specs.Board.{execute_above, executed_above}
use Rattle.cc_emit.specs.Contract.{Code, EachCalled, IsPlace, ObjectLayout, Path, Placed}
use Rattle.cc_emit.specs.Frames.{Frame, frame_size}
use Rattle.cc_emit.specs.declared.addressed.Addressed.{Addressed}
use Rattle.cc_emit.specs.declared.scratch.Scratch.{Scratch}
use Rattle.cc_emit.specs.Scratch.{nothing, with_known, behind_step, addressed}
use Rattle.cc_emit.specs.Emission.{prologue_size, emitted, items_of, size, long_size, is_label_step, is_near, long_place, short_place}
use Rattle.cc_emit.proofs.Fine.{AreFine, IsFrame}
use Rattle.cc_emit.proofs.Basics.{eqb_yes, with_zero}
use Rattle.cc_emit.proofs.Places.{AreSeen, size_is, seen_next}

-- the machine executes one instruction of the code
abbrev pub machine_step : Code → State → Turn
machine_step code s = executed_above code.floor (code.at s.pc) s

pub path_then : (code : Code) (m k : ℕ) (s t u : State) → Path code m s t → Path code k t u → Path code (m + k) s u
path_then code zero k s t u p q =
    let e : k ≡ 0 + k = omega arith in
    subst (λ n. Path code n s u) e (subst (λ x. Path code k x u) (sym p) q)
path_then code (suc m) k s t u p q =
    let e : suc (m + k) ≡ suc m + k = omega arith in
    subst (λ n. Path code n s u) e (p.0, p.1, path_then code m k p.0 t u p.2 q)

-- a function's code at its place, entered by a call
pub record Site : Type 0 where
  pub meaning : Meaning
  pub layout : ObjectLayout meaning.objects
  pub frame : Frame
  pub steps : List Step
  pub code : Code
  pub places : ℕ → ℕ
  pub place : ℕ
  pub from : State
  pub opened : ℕ
  pub is_frame : IsFrame frame
  pub aligned : from.registers 2 % 4 ≡ 0
  pub room : code.floor + frame_size frame ≤ from.registers 2
  pub top : from.registers 2 ≤ stack_to

-- there is room on the stack for a call of the function g
abbrev pub HasRoom : Site → ℕ → Type 0
HasRoom x g = x.code.floor + frame_size x.frame + x.code.need g (suc x.opened) ≤ x.from.registers 2

pub each_append : (Holds : ℕ → Type 0) (xs ys : List PieceItem) → EachCalled Holds (xs ++ ys) → EachCalled Holds xs × EachCalled Holds ys
each_append Holds [] ys p = (tt, p)
each_append Holds (Plain i ∷ xs) ys p = each_append Holds xs ys p
each_append Holds (Call g ∷ xs) ys p = let q = each_append Holds xs ys p.1 in ((p.0, q.0), q.1)
each_append Holds (Go n ∷ xs) ys p = each_append Holds xs ys p

pub each_map : (Holds Other : ℕ → Type 0) → ((g : ℕ) → Holds g → Other g) → (xs : List PieceItem) → EachCalled Holds xs → EachCalled Other xs
each_map Holds Other f [] p = tt
each_map Holds Other f (Plain i ∷ xs) p = each_map Holds Other f xs p
each_map Holds Other f (Call g ∷ xs) p = (f g p.0, each_map Holds Other f xs p.1)
each_map Holds Other f (Go n ∷ xs) p = each_map Holds Other f xs p

-- the size of an object
abbrev pub size_at : Site → ℕ → Size
size_at x g = size_in x.meaning.objects g

pub size_found : (objects : List Size) (h : World) → map size_of h.globals ≡ objects → (g : ℕ) → size_in objects g ≡ size_of (object_of h g)
size_found objects h e g = ap (λ (o : List Size). size_in o g) (sym e) ∙ found_at h.globals g
  where
    found_at : (gs : List Object) (g : ℕ) → size_in (map size_of gs) g ≡ size_of (get_or gs g (record { width = Word; words = [] }))
    found_at [] g = refl
    found_at (o ∷ os) zero = refl
    found_at (o ∷ os) (suc g) = found_at os g

-- steps, each with what is known about the address that it accesses, if the scratch registers hold `held` before them
abbrev pub addressed_at : Site → Scratch → List Step → List Addressed
addressed_at x held ops = addressed x.layout.base x.frame.sets_pointer held ops

abbrev pub all_addressed : Site → List Addressed
all_addressed x = addressed_at x nothing x.steps

abbrev pub one_addressed : Site → Scratch → Step → Addressed
one_addressed x held op = with_known x.layout.base x.frame.sets_pointer held op

abbrev pub behind : Site → Scratch → Step → Scratch
behind x held op = behind_step x.layout.base x.frame.sets_pointer op held

abbrev pub near : Site → (long label : ℕ) → Bool
near x = is_near x.frame (all_addressed x)

abbrev pub labels : Site → ℕ → ℕ
labels x = short_place x.frame (near x) 0 (prologue_size x.frame) (all_addressed x)

abbrev pub items_at : Site → Scratch → (w a : ℕ) → List Step → List PieceItem
items_at x held w a ops = emitted x.layout.base x.frame (near x) (labels x) w a (addressed_at x held ops)

abbrev pub items_for : Site → Scratch → (w a : ℕ) → Step → List PieceItem
items_for x held w a op = items_of x.layout.base x.frame (near x w) (labels x) a (one_addressed x held op)

abbrev pub Stands : Site → ℕ → List PieceItem → Type 0
Stands x p items = Placed x.code x.places x.place p items

-- the number of all items of the function's code
abbrev pub end_of : Site → ℕ
end_of x = prologue_size x.frame + length (items_at x nothing 0 (prologue_size x.frame) x.steps)

-- the items of these steps begin at item a of the piece and go on to its end; they begin at w in the first pass, and the scratch registers
-- hold `held`
pub record Standing (x : Site) (held : Scratch) (w a : ℕ) (ops : List Step) : Type 0 where
  pub placed : Stands x (x.place + 4 * a) (items_at x held w a ops)
  pub from : IsPlace (x.place + 4 * a)
  pub to : IsPlace (x.place + 4 * a + 4 * length (items_at x held w a ops))
  pub last : a + length (items_at x held w a ops) ≡ end_of x
  pub calls : EachCalled (HasRoom x) (items_at x held w a ops)
  pub fine : AreFine x.meaning x.frame ops
  pub seen : AreSeen x.frame (all_addressed x) (addressed_at x held ops) w a

pub placed_append : (code : Code) (places : ℕ → ℕ) (place a : ℕ) (xs ys : List PieceItem) → Placed code places place a (xs ++ ys) → Placed code places place a xs × Placed code places place (a + 4 * length xs) ys
placed_append code places place a [] ys p = (tt, subst (λ n. Placed code places place n ys) (let e : a ≡ a + 4 * 0 = omega arith in e) p)
placed_append code places place a (x ∷ xs) ys p =
    let q = placed_append code places place (a + 4) xs ys p.1 in
    let e : a + 4 + 4 * length xs ≡ a + 4 * suc (length xs) = omega arith in
    ((p.0, q.0), subst (λ n. Placed code places place n ys) e q.1)

pub between : (a b c : ℕ) → IsPlace a → IsPlace c → a ≤ b → b ≤ c → b % 4 ≡ 0 → IsPlace b
between a b c p q le lt z = let from = p.from in let to = q.to in record { aligned = z; from = omega arith; to = omega arith }

-- the items of the first step are in place
pub first_items : (x : Site) {held : Scratch} (w a : ℕ) (op : Step) (ops : List Step) → Standing x held w a (op ∷ ops) → Stands x (x.place + 4 * a) (items_for x held w a op)
first_items x {held} w a op ops st =
    let i = one_addressed x held op in
    (placed_append x.code x.places x.place (x.place + 4 * a) (items_for x held w a op) (items_at x (behind x held op) (w + long_size x.frame i) (a + size x.frame (near x w) i) ops) st.placed).0

-- there is room for the calls that the first step makes
pub first_calls : (x : Site) {held : Scratch} (w a : ℕ) (op : Step) (ops : List Step) → Standing x held w a (op ∷ ops) → EachCalled (HasRoom x) (items_for x held w a op)
first_calls x {held} w a op ops st =
    let i = one_addressed x held op in
    (each_append (HasRoom x) (items_for x held w a op) (items_at x (behind x held op) (w + long_size x.frame i) (a + size x.frame (near x w) i) ops) st.calls).0

-- the items after the first step are in place
pub standing_tail : (x : Site) {held : Scratch} (w a : ℕ) (op : Step) (ops : List Step) → Standing x held w a (op ∷ ops) → Standing x (behind x held op) (w + long_size x.frame (one_addressed x held op)) (a + size x.frame (near x w) (one_addressed x held op)) ops
standing_tail x {held} w a op ops st =
    let i = one_addressed x held op in
    let b = a + size x.frame (near x w) i in
    let first = items_for x held w a op in
    let rest = items_at x (behind x held op) (w + long_size x.frame i) b ops in
    let n : length first ≡ size x.frame (near x w) i = size_is x.layout.base x.frame (near x w) (labels x) a i in
    let long : length (first ++ rest) ≡ length first + length rest = length-append first rest in
    let e : x.place + 4 * a + 4 * length first ≡ x.place + 4 * b = omega arith in
    let end : x.place + 4 * a + 4 * length (first ++ rest) ≡ x.place + 4 * b + 4 * length rest = omega arith in
    let to : IsPlace (x.place + 4 * b + 4 * length rest) = subst IsPlace end st.to in
    let z = st.from.aligned in
    record {
      placed = subst (λ c. Stands x c rest) e (placed_append x.code x.places x.place (x.place + 4 * a) first rest st.placed).1;
      from = between (x.place + 4 * a) (x.place + 4 * b) _ st.from to (omega arith) (omega arith) (omega arith);
      to = to;
      last = (let l = st.last in omega arith);
      calls = (each_append (HasRoom x) first rest st.calls).1;
      fine = st.fine.1;
      seen = seen_next x.frame (all_addressed x) i (addressed_at x (behind x held op) ops) w a st.seen;
    }

-- if no step is left, nothing needs to be known about the scratch registers
standing_none : (x : Site) {held : Scratch} (w a : ℕ) → Standing x held w a [] → Standing x nothing w a []
standing_none x {held} w a st = record { placed = st.placed; from = st.from; to = st.to; last = st.last; calls = st.calls; fine = st.fine; seen = st.seen }

standing_label : (x : Site) {held : Scratch} (w a l : ℕ) (op : Step) (ops : List Step) → is_label_step l op ≡ true → Standing x held w a (op ∷ ops) → Standing x nothing w a (op ∷ ops)
standing_label x {held} w a l (One (Label n)) ops e st = record { placed = st.placed; from = st.from; to = st.to; last = st.last; calls = st.calls; fine = st.fine; seen = st.seen }
standing_label x {held} w a l _ ops e st = absurd (let q : false ≡ true = e in cc)

stands_if : (x : Site) (t : Bool) (v w a b : ℕ) (os ps : List Step) → (t ≡ true → Standing x nothing v a os) → Standing x nothing w b ps → Standing x nothing (if t then v else w) (if t then a else b) (if t then os else ps)
stands_if x true v w a b os ps p q = p refl
stands_if x false v w a b os ps p q = q

place_next : (op : Step) (ops : List Step) (l : ℕ) → selected.place (op ∷ ops) l ≡ (if is_label_step l op then op ∷ ops else selected.place ops l)
place_next (One (Label n)) ops l = refl
place_next _ ops l = refl

-- the items of the steps from a label on are at the label's place
pub standing_from : (x : Site) {held : Scratch} (l w a : ℕ) (ops : List Step) → Standing x held w a ops → Standing x nothing (long_place x.frame w (addressed_at x held ops) l) (short_place x.frame (near x) w a (addressed_at x held ops) l) (selected.place ops l)
standing_from x {held} l w a [] st = standing_none x w a st
standing_from x {held} l w a (op ∷ ops) st =
    let i = one_addressed x held op in
    let next = behind x held op in
    let v = w + long_size x.frame i in
    let b = a + size x.frame (near x w) i in
    subst (Standing x nothing (long_place x.frame w (addressed_at x held (op ∷ ops)) l) (short_place x.frame (near x) w a (addressed_at x held (op ∷ ops)) l)) (sym (place_next op ops l))
    (stands_if x (is_label_step l op) w (long_place x.frame v (addressed_at x next ops) l) a (short_place x.frame (near x) v b (addressed_at x next ops) l) (op ∷ ops) (selected.place ops l) (λ e. standing_label x w a l op ops e st) (standing_from x {held = next} l v b ops (standing_tail x w a op ops st)))

-- ---- single steps

pub step_at : (code : Code) (s : State) (a : ℕ) (i : Instr) → s.pc ≡ a → code.at a ≡ Some i → machine_step code s ≡ execute_above code.floor i s
step_at code s a i e f = ap (λ b. executed_above code.floor (code.at b) s) e ∙ ap (λ b. executed_above code.floor b s) f

pub arrives : (p q : ℕ) → IsPlace p → IsPlace q → (p + (q + (2 ^ 32 - p)) % 2 ^ 32) % 2 ^ 32 ≡ q
arrives p q from to = let x = from.to in let y = to.to in omega arith

-- a jump takes the machine from one place to another
pub jump_step : (code : Code) (s : State) (p q : ℕ) → s.pc ≡ p → IsPlace p → IsPlace q → code.at p ≡ Some (Jal 0 ((q + (2 ^ 32 - p)) % 2 ^ 32)) → machine_step code s ≡ Continues (record s { pc = q })
jump_step code s p q e from to f =
    let i = (q + (2 ^ 32 - p)) % 2 ^ 32 in
    let there : (s.pc + i) % 2 ^ 32 ≡ q = ap (λ n. (n + i) % 2 ^ 32) e ∙ arrives p q from to in
    let P : ℕ → Turn = λ n. if n % 4 == 0 then Continues (record s { pc = n; registers = with_register s.registers 0 (s.pc + 4) }) else Traps in
    let taken : P q ≡ Continues (record s { pc = q; registers = with_register s.registers 0 (s.pc + 4) }) = ap (λ t. if t then Continues (record s { pc = q; registers = with_register s.registers 0 (s.pc + 4) }) else Traps) (eqb_yes (q % 4) 0 to.aligned) in
    step_at code s p (Jal 0 i) e f ∙ ap P there ∙ taken ∙ ap (λ g. Continues (record s { pc = q; registers = g })) (with_zero s.registers (s.pc + 4))
