-- What x3 and the scratch registers hold on the machine: each remembered word is there, and a change of another register does not
-- change it.
use Rattle.std.proofs.Common.{◌≡◌, ℕ, ◌+◌, ◌*◌, ◌%◌, ◌^◌, ◌-◌, ◌<◌, ◌≤◌, Bool, true, false, Option, Some, None, refl, sym, ap, ◌∙◌, inl, inr, arith}
use Rattle.std.specs.Prelude.{if◌then◌else◌, ◌==◌, ◌&&◌, nat_le, nat_lt}
use Rattle.std.proofs.lemmas.Bool.Decides.{nat_tests}
use Rattle.cc_words.specs.declared.operators.Width.{Width}
use Rattle.cc_words.specs.declared.operators.Width.TheVariants.{Byte, Word}
use Rattle.cc_words.specs.Widths.{bytes, same_width}
use Rattle.cc_ltl.specs.Registers.{IsAllocatable}
use Rattle.cc_words.specs.Words.{add}
use Rattle.cc_rv32.specs.Machine.{globals_from, with_register}
use Rattle.cc_emit.specs.Contract.{IsKeptOrPointer, global_pointer, element_place}
use Rattle.cc_emit.specs.declared.addressed.Remembered.{Remembered}
use Rattle.cc_emit.specs.declared.addressed.Remembered.TheVariants.{Nothing, Upper, Element, ByPointer, ElementByPointer}
use Rattle.cc_emit.specs.declared.scratch.ElementAddress.{ElementAddress}
use Rattle.cc_emit.specs.declared.scratch.Scratch.{Scratch}
use Rattle.cc_emit.specs.Emission.{from_pointer, high, part_of}
use Rattle.cc_emit.specs.Scratch.{nothing, is_upper, is_address, is_in_reach, known_of, known_at, sum_base, unless_of, without, without_address}
use Rattle.cc_emit.proofs.Basics.{LowIs, low_is, eqb_says, eqb_denies, high_low, set_other}

abbrev pub HoldsUpper : Option ℕ → (registers : ℕ → ℕ) → Type 0
HoldsUpper None g = Unit {0}
HoldsUpper (Some upper) g = g 6 ≡ upper * 2 ^ 12

-- the address of an element whose number is in a register
abbrev pub IsAddress : Width → (index sum_base : ℕ) → (registers : ℕ → ℕ) → Type 0
IsAddress width index sum_base g = g 5 ≡ (bytes width * g index + sum_base) % 2 ^ 32

abbrev pub HoldsAddress : Option ElementAddress → (registers : ℕ → ℕ) → Type 0
HoldsAddress None g = Unit {0}
HoldsAddress (Some a) g = IsAllocatable a.index × IsAddress a.width a.index a.sum_base g

pub record Holds (held : Scratch) (registers : ℕ → ℕ) : Type 0 where
  pub upper : HoldsUpper held.upper registers
  pub address : HoldsAddress held.address registers

pub holds_nothing : (g : ℕ → ℕ) → Holds nothing g
holds_nothing g = record { upper = tt; address = tt }

-- ---- another register is set

pub upper_stays : (u : Option ℕ) (f g : ℕ → ℕ) → g 6 ≡ f 6 → HoldsUpper u f → HoldsUpper u g
upper_stays None f g e h = tt
upper_stays (Some u) f g e h = e ∙ h

pub is_address_stays : (w : Width) (i u : ℕ) (f g : ℕ → ℕ) → g 5 ≡ f 5 → g i ≡ f i → IsAddress w i u f → IsAddress w i u g
is_address_stays w i u f g e same h = e ∙ h ∙ ap (λ n. (bytes w * n + u) % 2 ^ 32) (sym same)

pub address_stays : (a : Option ElementAddress) (f g : ℕ → ℕ) → g 5 ≡ f 5 → ((r : ℕ) → IsAllocatable r → g r ≡ f r) → HoldsAddress a f → HoldsAddress a g
address_stays None f g e same h = tt
address_stays (Some a) f g e same h = (h.0, is_address_stays a.width a.index a.sum_base f g e (same a.index h.0) h.1)

address_without : (a : Option ElementAddress) (d : ℕ) (f g : ℕ → ℕ) → g 5 ≡ f 5 → ((r : ℕ) → (r ≡ d → ⊥) → g r ≡ f r) → HoldsAddress a f → HoldsAddress (unless_of d a) g
address_without None d f g e same h = tt
address_without (Some a) d f g e same h = by (a.index == d) (eqb_denies a.index d)
  where
    by : (b : Bool) → (b ≡ false → a.index ≡ d → ⊥) → HoldsAddress (if b then None else Some a) g
    by true p = tt
    by false p = (h.0, is_address_stays a.width a.index a.sum_base f g e (same a.index (p refl)) h.1)

pub holds_set : (held : Scratch) (f : ℕ → ℕ) (d v : ℕ) → IsAllocatable d → Holds held f → Holds (without d held) (with_register f d v)
holds_set held f d v u h = (let lo = u.0 in record {
  upper = upper_stays held.upper f (with_register f d v) (set_other f d v 6 (λ e. omega arith)) h.upper;
  address = address_without held.address d f (with_register f d v) (set_other f d v 5 (λ e. omega arith)) (λ r n. set_other f d v r n) h.address;
})

-- after x5 or x6 is set, the scratch registers still hold what is known about the other register
pub holds_address_set : (held : Scratch) (f : ℕ → ℕ) (v : ℕ) → Holds held f → Holds (without_address held) (with_register f 5 v)
holds_address_set held f v h = record { upper = upper_stays held.upper f (with_register f 5 v) (set_other f 5 v 6 (λ e. omega arith)) h.upper; address = tt }

pub address_stays_6 : (a : Option ElementAddress) (f : ℕ → ℕ) (v : ℕ) → HoldsAddress a f → HoldsAddress a (with_register f 6 v)
address_stays_6 a f v h = address_stays a f (with_register f 6 v) (set_other f 6 v 5 (λ e. omega arith)) (λ r u. let lo = u.0 in set_other f 6 v r (λ e. omega arith)) h

-- ---- what is remembered about an address is true

upper_right : (z : Option ℕ) (u : ℕ) (g : ℕ → ℕ) → HoldsUpper z g → is_upper z u ≡ true → g 6 ≡ u * 2 ^ 12
upper_right None u g h e = absurd (let q : false ≡ true = e in cc)
upper_right (Some v) u g h e = h ∙ ap (λ n. n * 2 ^ 12) (eqb_says v u e)

both_0 : (a b : Bool) → (a && b) ≡ true → a ≡ true
both_0 true b q = refl
both_0 false b q = q

both_1 : (a b : Bool) → (a && b) ≡ true → b ≡ true
both_1 true b q = q
both_1 false b q = absurd (let e : false ≡ true = q in cc)

width_says : (a b : Width) → same_width a b ≡ true → a ≡ b
width_says Byte Byte e = refl
width_says Word Word e = refl
width_says Byte Word e = absurd (let q : false ≡ true = e in cc)
width_says Word Byte e = absurd (let q : false ≡ true = e in cc)

address_right : (z : Option ElementAddress) (w : Width) (i u : ℕ) (g : ℕ → ℕ) → HoldsAddress z g → is_address z w i u ≡ true → IsAddress w i u g
address_right None w i u g h e = absurd (let q : false ≡ true = e in cc)
address_right (Some a) w i u g h e =
    let rest = both_1 (same_width a.width w) ((a.index == i) && (a.sum_base == u)) e in
    let width = width_says a.width w (both_0 (same_width a.width w) ((a.index == i) && (a.sum_base == u)) e) in
    let index = eqb_says a.index i (both_0 (a.index == i) (a.sum_base == u) rest) in
    let sum_base = eqb_says a.sum_base u (both_1 (a.index == i) (a.sum_base == u) rest) in
    h.1 ∙ ap (λ (z : Width). (bytes z * g a.index + a.sum_base) % 2 ^ 32) width ∙ ap (λ n. (bytes w * g n + a.sum_base) % 2 ^ 32) index ∙ ap (λ n. (bytes w * g i + n) % 2 ^ 32) sum_base

-- ---- x3

-- what x3 holds in a function's body: the global pointer, if the function sets it; if not, what it held at the function's entry, or the
-- pointer
abbrev pub IsPointer : (sets_pointer : Bool) → (before now : ℕ) → Type 0
IsPointer true before now = now ≡ global_pointer
IsPointer false before now = IsKeptOrPointer before now

-- `IsPointer` still holds after a call
pub pointer_behind : (sets_pointer : Bool) (before now after : ℕ) → IsPointer sets_pointer before now → IsKeptOrPointer now after → IsPointer sets_pointer before after
pointer_behind true before now after b (inl e) = e ∙ b
pointer_behind true before now after b (inr e) = e
pointer_behind false before now after (inl b) (inl e) = inl (e ∙ b)
pointer_behind false before now after (inr b) (inl e) = inr (e ∙ b)
pointer_behind false before now after b (inr e) = inr e

-- at the return, x3 holds what a caller allows
pub pointer_given : (sets_pointer : Bool) (before now : ℕ) → IsPointer sets_pointer before now → IsKeptOrPointer before now
pointer_given true before now b = inr b
pointer_given false before now b = b

pub pointer_is : (sets_pointer : Bool) (before now : ℕ) → sets_pointer ≡ true → IsPointer sets_pointer before now → now ≡ global_pointer
pointer_is true before now e b = b
pointer_is false before now e b = absurd (let q : false ≡ true = e in cc)

-- an address within the reach of x3: in the first 4 KiB of the globals
abbrev pub IsInReach : (address : ℕ) → Type 0
IsInReach a = (globals_from ≤ a) × (a < globals_from + 4096)

pub in_reach_says : (a : ℕ) → is_in_reach a ≡ true → IsInReach a
in_reach_says a e = (at_least globals_from a (both_0 (nat_le globals_from a) (nat_lt a (globals_from + 4096)) e), less a (globals_from + 4096) (both_1 (nat_le globals_from a) (nat_lt a (globals_from + 4096)) e))
  where
    at_least : (a b : ℕ) → nat_le a b ≡ true → a ≤ b
    at_least a b e = grind (arith, nat_tests)

    less : (a b : ℕ) → nat_lt a b ≡ true → a < b
    less a b e = grind (arith, nat_tests)

-- from x3, which holds the global pointer, the offset leads to the address
pointer_reaches_of : (a x : ℕ) → IsInReach a → LowIs (add a (2 ^ 32 - global_pointer)) x → (global_pointer + x) % 2 ^ 32 ≡ a
pointer_reaches_of a x (lo, hi) (inl h) = (let e = h.0 in let k = h.1 in omega arith)
pointer_reaches_of a x (lo, hi) (inr h) = (let e = h.0 in let k = h.1 in omega arith)

pub pointer_reaches : (a : ℕ) → IsInReach a → (global_pointer + from_pointer a) % 2 ^ 32 ≡ a
pointer_reaches a r = pointer_reaches_of a (from_pointer a) r (low_is (add a (2 ^ 32 - global_pointer)))

-- ---- what is known about an address

-- what is known about the address of an element whose number is in a register, and about an address
abbrev pub IsKnown : Remembered → Width → (base index : ℕ) → (registers : ℕ → ℕ) → Type 0
IsKnown Nothing width base index g = Unit {0}
IsKnown Upper width base index g = g 6 ≡ high base * 2 ^ 12
IsKnown Element width base index g = IsAddress width index (high base * 2 ^ 12) g
IsKnown ByPointer width base index g = (g 3 ≡ global_pointer) × IsInReach base
IsKnown ElementByPointer width base index g = IsAddress width index global_pointer g × IsInReach base

abbrev pub IsKnownAt : Remembered → (address : ℕ) → (registers : ℕ → ℕ) → Type 0
IsKnownAt Nothing address g = Unit {0}
IsKnownAt Upper address g = g 6 ≡ high address * 2 ^ 12
IsKnownAt Element address g = ⊥
IsKnownAt ByPointer address g = (g 3 ≡ global_pointer) × IsInReach address
IsKnownAt ElementByPointer address g = ⊥

pub is_known : (sets_pointer : Bool) (before : ℕ) (held : Scratch) (w : Width) (b i : ℕ) (g : ℕ → ℕ) → IsPointer sets_pointer before (g 3) → Holds held g → IsKnown (known_of sets_pointer held w b i) w b i g
is_known sets_pointer before held w b i g pointer h =
    let set = both_0 sets_pointer (is_in_reach b) in
    let of_reach = both_1 sets_pointer (is_in_reach b) in
    by (sets_pointer && is_in_reach b) (is_address held.address w i global_pointer) (is_address held.address w i (high b * 2 ^ 12)) (is_upper held.upper (high b)) (λ e. (pointer_is sets_pointer before (g 3) (set e) pointer, in_reach_says b (of_reach e)))
    (address_right held.address w i global_pointer g h.address) (address_right held.address w i (high b * 2 ^ 12) g h.address) (upper_right held.upper (high b) g h.upper)
  where
    by : (n e x y : Bool) → (n ≡ true → (g 3 ≡ global_pointer) × IsInReach b) → (e ≡ true → IsAddress w i global_pointer g) → (x ≡ true → IsAddress w i (high b * 2 ^ 12) g) → (y ≡ true → g 6 ≡ high b * 2 ^ 12)
        → IsKnown (if x then Element else if n then (if e then ElementByPointer else ByPointer) else if y then Upper else Nothing) w b i g
    by n e true y r a p q = p refl
    by true true false y r a p q = (a refl, (r refl).1)
    by true false false y r a p q = r refl
    by false e false true r a p q = q refl
    by false e false false r a p q = tt

pub is_known_at : (sets_pointer : Bool) (before : ℕ) (held : Scratch) (b : ℕ) (g : ℕ → ℕ) → IsPointer sets_pointer before (g 3) → Holds held g → IsKnownAt (known_at sets_pointer held b) b g
is_known_at sets_pointer before held b g pointer h =
    let set = both_0 sets_pointer (is_in_reach b) in
    let of_reach = both_1 sets_pointer (is_in_reach b) in
    by (sets_pointer && is_in_reach b) (is_upper held.upper (high b)) (λ e. (pointer_is sets_pointer before (g 3) (set e) pointer, in_reach_says b (of_reach e))) (upper_right held.upper (high b) g h.upper)
  where
    by : (n x : Bool) → (n ≡ true → (g 3 ≡ global_pointer) × IsInReach b) → (x ≡ true → g 6 ≡ high b * 2 ^ 12) → IsKnownAt (if n then ByPointer else if x then Upper else Nothing) b g
    by true x r p = r refl
    by false true r p = p refl
    by false false r p = tt

-- ---- what x5 holds plus the object's part of the address is the element's address

pub element_address : (w : Width) (i b n o part : ℕ) (g : ℕ → ℕ) → g i ≡ n → element_place w b n < 2 ^ 32 → (o + part) % 2 ^ 32 ≡ b → IsAddress w i o g → (g 5 + part) % 2 ^ 32 ≡ element_place w b n
element_address Byte i b n o part g e lt both h = by o part (g 5) (g i) both h e
  where
    by : (hi lo five k : ℕ) → (hi + lo) % 2 ^ 32 ≡ b → five ≡ (1 * k + hi) % 2 ^ 32 → k ≡ n → (five + lo) % 2 ^ 32 ≡ b + 1 * n
    by hi lo five k p q r = omega arith
element_address Word i b n o part g e lt both h = by o part (g 5) (g i) both h e
  where
    by : (hi lo five k : ℕ) → (hi + lo) % 2 ^ 32 ≡ b → five ≡ (4 * k + hi) % 2 ^ 32 → k ≡ n → (five + lo) % 2 ^ 32 ≡ b + 4 * n
    by hi lo five k p q r = omega arith

-- the object's part and the rest of what x5 holds add up to the object's address
pub parts_of : (known : Remembered) (w : Width) (b i : ℕ) (g : ℕ → ℕ) → b < 2 ^ 32 → IsKnown known w b i g → (sum_base known b + part_of known b) % 2 ^ 32 ≡ b
parts_of Nothing w b i g lt k = high_low b lt
parts_of Upper w b i g lt k = high_low b lt
parts_of Element w b i g lt k = high_low b lt
parts_of ByPointer w b i g lt k = pointer_reaches b k.1
parts_of ElementByPointer w b i g lt k = pointer_reaches b k.1
