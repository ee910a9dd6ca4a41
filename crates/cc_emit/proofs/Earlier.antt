-- What may return before there is a frame, followed by the rest in its frame, meets a piece's contract.
use Rattle.std.proofs.Common.{◌≡◌, ℕ, suc, ◌+◌, ◌-◌, ◌*◌, ◌%◌, ◌^◌, ◌<◌, ◌≤◌, ◌⊎◌, List, [], ◌∷◌, ◌++◌, Some, false, length, get_or, take, drop, map, refl, sym, ap, ap₂, ◌∙◌, subst, inl, inr, arith}
use Rattle.std.specs.Prelude.{if◌then◌else◌, nat_le}
use Rattle.std.proofs.lemmas.List.{length-append, length-map}
use Rattle.cc_rv32.specs.declared.instr.Instr.TheVariants.{Jal}
use Rattle.cc_rv32.specs.Machine.{State, stack_to}
use Rattle.cc_simulation.specs.Behavior.{AreWords, Ended, Going, Stop, Wrong}
use Rattle.cc_simulation.specs.World.{Answer, Size, World}
use Rattle.cc_simulation.specs.Run.{run, work}
use Rattle.cc_simulation.specs.Meaning.{Meaning, call_effect}
use Rattle.cc_simulation.specs.Tracks.{TracksForAll}
use Rattle.cc_ltl.specs.declared.location.Location.{Location}
use Rattle.cc_ltl.specs.declared.location.Location.TheVariants.{Register, Slot}
use Rattle.cc_ltl.specs.Registers.{IsAllocatable}
use Rattle.cc_ltl.specs.Ltl.{Locations, at_entry}
use Rattle.cc_select.specs.declared.step.Step.{Step}
use Rattle.cc_select.specs.Selected.{at_steps, selected_move, selected_output, selected_start}
use Rattle.cc_emit.specs.declared.item.PieceItem.{PieceItem}
use Rattle.cc_emit.specs.declared.item.PieceItem.TheVariants.{Plain, Call, Go}
use Rattle.cc_emit.specs.Contract.{AreFit, CallsMeet, Code, ComesBack, EachCalled, IsPlace, IsSound, Meets, ObjectLayout, Path, PieceMeets, Placed, Shares}
use Rattle.cc_emit.specs.Early.{Early, early_from}
use Rattle.cc_emit.specs.Emission.{framed_items, prologue, prologue_size}
use Rattle.cc_emit.specs.Frames.{Frame, frame_size}
use Rattle.cc_emit.specs.Function.{behind, shifted}
use Rattle.cc_emit.specs.Scratch.{nothing, addressed}
use Rattle.cc_emit.proofs.Basics.{drop_listed, listed, listed_at, listed_words, take_listed, words_append}
use Rattle.cc_emit.proofs.Emitted.{Does, DoesBy, does_then, meets_of, simulate, standing_all}
use Rattle.cc_emit.proofs.Fine.{AreFine, IsFrame, Member}
use Rattle.cc_emit.proofs.Headed.{does_same, rest_places}
use Rattle.cc_emit.proofs.Heads.{Follows, Goal, heads, merge}
use Rattle.cc_emit.proofs.Holding.{pointer_behind}
use Rattle.cc_emit.proofs.Returning.{found, framed, framed_inside, framed_other, framed_pc, framed_within, prologue_path}
use Rattle.cc_emit.proofs.Standing.{HasRoom, Site, Stands, between, each_append, each_map, end_of, placed_append}
use Rattle.cc_emit.proofs.Cases.{StandsWhole}
use Rattle.cc_emit.specs.declared.scratch.Scratch.{Scratch}
use Rattle.cc_emit.proofs.Within.{Within}

-- ---- items after others

unshifted : (code : Code) (places : ℕ → ℕ) (place before a : ℕ) (items : List PieceItem) → Placed code places place a (map (shifted before) items) → Placed code places (place + 4 * before) a items
unshifted code places place before a [] p = tt
unshifted code places place before a (Plain i ∷ items) p = (p.0, unshifted code places place before (a + 4) items p.1)
unshifted code places place before a (Call g ∷ items) p = (p.0, unshifted code places place before (a + 4) items p.1)
unshifted code places place before a (Go n ∷ items) p =
    let there : place + 4 * (n + before) ≡ place + 4 * before + 4 * n = omega arith in
    (p.0 ∙ ap (λ m. Some (Jal 0 ((m + (2 ^ 32 - a)) % 2 ^ 32))) there, unshifted code places place before (a + 4) items p.1)

each_unshifted : (Holds : ℕ → Type 0) (before : ℕ) (items : List PieceItem) → EachCalled Holds (map (shifted before) items) → EachCalled Holds items
each_unshifted Holds before [] p = tt
each_unshifted Holds before (Plain i ∷ items) p = each_unshifted Holds before items p
each_unshifted Holds before (Call g ∷ items) p = (p.0, each_unshifted Holds before items p.1)
each_unshifted Holds before (Go n ∷ items) p = each_unshifted Holds before items p

fit_shifted : (functions long before : ℕ) (items : List PieceItem) → AreFit functions long items → AreFit functions (before + long) (map (shifted before) items)
fit_shifted functions long before [] p = tt
fit_shifted functions long before (Plain i ∷ items) p = (p.0, fit_shifted functions long before items p.1)
fit_shifted functions long before (Call g ∷ items) p = (p.0, fit_shifted functions long before items p.1)
fit_shifted functions long before (Go n ∷ items) p = (let le = p.0 in omega arith, fit_shifted functions long before items p.1)

fit_longer : (functions long more : ℕ) (items : List PieceItem) → AreFit functions long items → AreFit functions (long + more) items
fit_longer functions long more [] p = tt
fit_longer functions long more (Plain i ∷ items) p = (p.0, fit_longer functions long more items p.1)
fit_longer functions long more (Call g ∷ items) p = (p.0, fit_longer functions long more items p.1)
fit_longer functions long more (Go n ∷ items) p = (let le = p.0 in omega arith, fit_longer functions long more items p.1)

fit_append : (functions long : ℕ) (xs ys : List PieceItem) → AreFit functions long xs → AreFit functions long ys → AreFit functions long (xs ++ ys)
fit_append functions long [] ys p q = q
fit_append functions long (x ∷ xs) ys p q = (p.0, fit_append functions long xs ys p.1 q)

length_behind : (head items : List PieceItem) → length (behind head items) ≡ length head + length items
length_behind head items = length-append head (map (shifted (length head)) items) ∙ ap (λ n. length head + n) (length-map items (shifted (length head)))

-- each of the items can be encoded as a word
pub behind_fit : (functions : ℕ) (head items : List PieceItem) → AreFit functions (length head) head → AreFit functions (length items) items → AreFit functions (length (behind head items)) (behind head items)
behind_fit functions head items p q =
    subst (λ n. AreFit functions n (behind head items)) (sym (length_behind head items))
    (fit_append functions (length head + length items) head (map (shifted (length head)) items) (fit_longer functions (length head) (length items) head p) (fit_shifted functions (length items) (length head) items q))

-- ---- from the end of the head to the return

-- if each return from a call in state v is also one from a call in state s, the machine does for the call in s what it
-- does for the call in v
comes_from : {b : List Size} (y : ObjectLayout b) (code : Code) (rate : ℕ) (s v u : State) (stop : Stop Answer) (o : List ℕ) (done : ℕ) → ((r : Answer) (t : State) → ComesBack y v r t → ComesBack y s r t) → DoesBy y code rate v u stop o done → DoesBy y code rate s u stop o done
comes_from y code rate s v u Going o done f d = d
comes_from y code rate s v u (Ended r) o done f d = (d.0, d.1, d.2, f r d.1 d.3, d.4)
comes_from y code rate s v u Wrong o done f d = tt

-- the run starts with what the machine's registers hold and with these words in its slots
entry_merged : (slots : ℕ) (f : Frame) (ws : List ℕ) (t : State) (g : ℕ → ℕ) (words : List ℕ) → at_entry slots (listed 32 0 t.registers ++ (listed slots 0 g ++ words)) ws ≡ merge (found f t ws) (λ i. get_or (listed slots 0 g) i 0)
entry_merged slots f ws t g words = λ i k. at_location k i
  where
    at_location : (k : Location) → at_entry slots (listed 32 0 t.registers ++ (listed slots 0 g ++ words)) ws k ≡ merge (found f t ws) (λ i. get_or (listed slots 0 g) i 0) k
    at_location (Register r) = ap (λ xs. if nat_le 10 r then get_or ws (r - 10) (get_or xs r 0) else get_or xs r 0) (take_listed 32 0 t.registers (listed slots 0 g ++ words))
    at_location (Slot i) = ap (λ xs. get_or (take slots xs) i 0) (drop_listed 32 0 t.registers (listed slots 0 g ++ words)) ∙ ap (λ xs. get_or xs i 0) (take_listed slots 0 g words)

start_merged : (slots : ℕ) (f : Frame) (ops : List Step) (ws : List ℕ) (h : World) (t : State) (g : ℕ → ℕ) (words : List ℕ)
    → selected_start slots ops (listed 32 0 t.registers ++ (listed slots 0 g ++ words)) ws h ≡ at_steps ops (merge (found f t ws) (λ i. get_or (listed slots 0 g) i 0)) h words
start_merged slots f ops ws h t g words =
    ap₂ (λ (k : Locations) (xs : List ℕ). at_steps ops k h xs) (entry_merged slots f ws t g words) (ap (λ xs. drop slots xs) (drop_listed 32 0 t.registers (listed slots 0 g ++ words)) ∙ drop_listed slots 0 g words)

same_moves : (arity : ℕ → ℕ) (code : List Step) (e : Early) → early_from code code ≡ Some e → selected_move arity e.rest ≡ selected_move arity code
same_moves arity code e is = λ i c. sym (does_same arity code e.rest (rest_places code code e is) c.steps c.locations c.world c.words) i

-- ---- code without a frame, and the machine at its end

abbrev pub bare : Frame
bare = record { sets_pointer = false; slots = 0; saved = [] }

pub bare_frame : IsFrame bare
bare_frame = record { savable = tt; small = omega arith }

unsaved : (r m n : ℕ) → Member r [] ⊎ (m ≡ n) → m ≡ n
unsaved r m n (inl k) = absurd k
unsaved r m n (inr e) = e

module _ (meaning : Meaning) (layout : ObjectLayout meaning.objects) (steps : List Step) (cd : Code) (places : ℕ → ℕ) (place d : ℕ) (s : State) (aligned : s.registers 2 % 4 ≡ 0) (room : cd.floor + 0 ≤ s.registers 2) (top : s.registers 2 ≤ stack_to) where
  abbrev pub bare_site : Site
  bare_site = record { meaning = meaning; layout = layout; frame = bare; steps = steps; code = cd; places = places; place = place; from = s; opened = d; is_frame = bare_frame; aligned = aligned; room = room; top = top }

  bare_stack : {held : Scratch} (l : Locations) (h : World) (v : State) → Within bare_site held l h v → v.registers 2 ≡ s.registers 2
  bare_stack l h v w = let e = w.stack in omega arith

  bare_comes : {held : Scratch} (l : Locations) (h : World) (v : State) → Within bare_site held l h v → (r : Answer) (t : State) → ComesBack layout v r t → ComesBack layout s r t
  bare_comes l h v w r t b =
      let two = bare_stack l h v w in
      record {
        at = b.at ∙ unsaved 1 (v.registers 1) (s.registers 1) (w.kept 1 (inl refl));
        sound = b.sound;
        value = b.value;
        shares = b.shares;
        stack = b.stack ∙ two;
        pointer = pointer_behind false (s.registers 3) (v.registers 3) (t.registers 3) w.pointer b.pointer;
        kept = λ q k. b.kept q k ∙ unsaved q (v.registers q) (s.registers q) (w.kept q (inr k));
        above = λ a le. b.above a (omega arith) ∙ w.above a le;
      }

-- ---- the whole

-- the code in the frame, from the end of the head on: its run, given the slots that it finds
module _ (meaning : Meaning) (layout : ObjectLayout meaning.objects) (cd : Code) (places : ℕ → ℕ) (place d c : ℕ) (one : 1 ≤ c) (all_places : (g : ℕ) → g < meaning.functions → IsPlace (places g)) (calls : CallsMeet meaning layout cd places c (suc d)) (frame : Frame) (is_frame : IsFrame frame) (steps : List Step)
    (fine : AreFine meaning frame steps) where
  abbrev items : List PieceItem
  items = framed_items layout.base frame (addressed layout.base frame.sets_pointer nothing steps)

  pub record Resting (k j : ℕ) (l : Locations) (h : World) (v : State) : Type 0 where
    pub slots : ℕ → ℕ
    pub small : (i : ℕ) → slots i < 2 ^ 32
    pub words : List ℕ
    pub are_words : AreWords words
    pub follows : (i n : ℕ) → i ≤ k → n ≤ j
        → Does layout cd (c + c) v v (run (selected_move meaning.arity steps) selected_output (call_effect meaning (suc d)) i n (at_steps steps (merge l (λ i. get_or (listed frame.slots 0 slots) i 0)) h words))
        (work (selected_move meaning.arity steps) (call_effect meaning (suc d)) i n (at_steps steps (merge l (λ i. get_or (listed frame.slots 0 slots) i 0)) h words))

  resting : (k j : ℕ) (l : Locations) (h : World) (v : State) → v.pc ≡ place → IsPlace place → IsPlace (place + 4 * length items) → Placed cd places place place items → v.registers 2 % 4 ≡ 0 → v.registers 1 % 4 ≡ 0 → (room : cd.floor + frame_size frame ≤ v.registers 2) → v.registers 2 ≤ stack_to
      → EachCalled (λ g. cd.floor + frame_size frame + cd.need g (suc d) ≤ v.registers 2) items → IsSound v → Shares layout v h → ((r : ℕ) → IsAllocatable r → l (Register r) ≡ v.registers r) → Resting k j l h v
  resting k j l h v e from to placed z back room top called sound shares same =
      let x : Site = record { meaning = meaning; layout = layout; frame = frame; steps = steps; code = cd; places = places; place = place; from = v; opened = d; is_frame = is_frame; aligned = z; room = room; top = top } in
      let stand = standing_all x from to placed called fine in
      let t = framed frame v in
      let g : ℕ → ℕ = λ i. t.memory (t.registers 2 + 4 * i) in
      let sigma : ℕ → ℕ = λ i. get_or (listed frame.slots 0 g) i 0 in
      let small = is_frame.small in
      let on_v : Placed cd places place v.pc (prologue frame) = subst (λ b. Placed cd places place b (prologue frame)) (sym e) stand.0 in
      let path : Path cd (prologue_size frame) v t = prologue_path cd places place frame v z room top small on_v in
      let inside = framed_inside x (merge l sigma) h sound shares (λ r u. same r u ∙ sym (framed_other frame v r (λ q. let lo = u.0 in omega arith) (λ q. let lo = u.0 in omega arith)))
      (λ i lt. listed_at frame.slots 0 i g lt ∙ ap g (let n : 0 + i ≡ i = omega arith in n)) in
      let sim = simulate x c one all_places calls sound back stand.1 k j 0 (prologue_size frame) nothing steps (merge l sigma) h t (framed_pc frame v place e) stand.1 inside in
      record {
        slots = g;
        small = λ i. inside.sound.memory (t.registers 2 + 4 * i);
        words = sim.0;
        are_words = sim.1;
        follows = λ i n le les.
            let q = at_steps steps (merge l sigma) h sim.0 in
            let z = run (selected_move meaning.arity steps) selected_output (call_effect meaning (suc d)) i n q in
            let done = work (selected_move meaning.arity steps) (call_effect meaning (suc d)) i n q in
            let none : 0 + done ≡ done = omega arith in
            subst (Does layout cd (c + c) v v z) none (does_then layout cd (c + c) v v t z.stop z.output done (prologue_size frame) 0 path (omega arith) (sim.2 i n le les));
      }

pub early_meets : (meaning : Meaning) (layout : ObjectLayout meaning.objects) (f rate : ℕ) (code : List Step) (e : Early) (frame : Frame) → early_from code code ≡ Some e → TracksForAll meaning f rate (selected_move meaning.arity code) selected_output (selected_start frame.slots code) → IsFrame frame
    → AreFine meaning frame e.rest → AreFine meaning bare e.head
    → PieceMeets meaning layout f (frame_size frame) (rate + rate) (behind (framed_items layout.base bare (addressed layout.base false nothing e.head)) (framed_items layout.base frame (addressed layout.base frame.sets_pointer nothing e.rest)))
early_meets meaning layout f rate code e frame is keeps is_frame fine fine_head cd places place from to placed enough all_places d c below one calls ws h s n enters =
    meets goal
  where
    head : List PieceItem
    head = framed_items layout.base bare (addressed layout.base false nothing e.head)

    rest : List PieceItem
    rest = framed_items layout.base frame (addressed layout.base frame.sets_pointer nothing e.rest)

    own : frame_size frame ≤ cd.need f d
    own = enough.own d below

    room : cd.floor + cd.need f d ≤ s.registers 2
    room = enters.room

    room_0 : cd.floor + 0 ≤ s.registers 2
    room_0 = (let r = room in omega arith)

    y : Site
    y = bare_site meaning layout e.head cd places place d s enters.aligned room_0 enters.top

    split : Placed cd places place place head × Placed cd places place (place + 4 * length head) (map (shifted (length head)) rest)
    split = placed_append cd places place place head (map (shifted (length head)) rest) placed

    long : length (behind head rest) ≡ length head + length rest
    long = length_behind head rest

    end : IsPlace (place + 4 * length head + 4 * length rest)
    end = subst IsPlace (let q : place + 4 * length (behind head rest) ≡ place + 4 * length head + 4 * length rest = omega (arith, long) in q) to

    mid : IsPlace (place + 4 * length head)
    mid = (let z = from.aligned in between place (place + 4 * length head) (place + 4 * length head + 4 * length rest) from end (omega arith) (omega arith) (omega arith))

    each : EachCalled (λ g. frame_size frame + cd.need g (suc d) ≤ cd.need f d) head × EachCalled (λ g. frame_size frame + cd.need g (suc d) ≤ cd.need f d) (map (shifted (length head)) rest)
    each = each_append (λ g. frame_size frame + cd.need g (suc d) ≤ cd.need f d) head (map (shifted (length head)) rest) (enough.calls d below)

    stand : Stands y place (prologue bare) × StandsWhole y
    stand = standing_all y from mid split.0 (each_map (λ g. frame_size frame + cd.need g (suc d) ≤ cd.need f d) (HasRoom y) (λ g (le : frame_size frame + cd.need g (suc d) ≤ cd.need f d). omega (arith, room)) head each.0) fine_head

    t : State
    t = framed bare s

    path : Path cd (prologue_size bare) s t
    path = prologue_path cd places place bare s enters.aligned room_0 enters.top (omega arith) (subst (λ b. Placed cd places place b (prologue bare)) (sym enters.at) stand.0)

    most : ℕ
    most = (keeps d below ws h enters.is_call n).0

    most_steps : ℕ
    most_steps = (keeps d below ws h enters.is_call n).1

    l : Locations
    l = found bare t ws

    goal : Goal y c code most most_steps code e.rest l h t
    goal = heads y c one stand.1 enters.sound enters.back code most most_steps nothing 0 (prologue_size bare) code e l h t is (λ n. refl) (framed_pc bare s place enters.at, stand.1, framed_within y f d ws h enters)

    finish : (g : ℕ → ℕ) (more : List ℕ) → ((i : ℕ) → g i < 2 ^ 32) → AreWords more → Follows y c code most most_steps (at_steps code (merge l (λ i. get_or (listed frame.slots 0 g) i 0)) h more) t
        → Meets layout cd ((rate + rate) * c) ((rate + rate) * c) n s (meaning.body n d f ws h)
    finish g more small are follows =
        let mine = listed 32 0 t.registers in
        let slots = listed frame.slots 0 g in
        let words = mine ++ (slots ++ more) in
        let within = framed_within y f d ws h enters in
        let all : AreWords words = words_append mine (slots ++ more) (listed_words 32 0 t.registers (λ r lo hi. within.sound.registers r)) (words_append slots more (listed_words frame.slots 0 g (λ i lo hi. small i)) are) in
        let k = (keeps d below ws h enters.is_call n).2 words all in
        let q = selected_start frame.slots code words ws h in
        let outcome = run (selected_move meaning.arity code) selected_output (call_effect meaning (suc d)) k.moves k.steps q in
        let done = work (selected_move meaning.arity code) (call_effect meaning (suc d)) k.moves k.steps q in
        let does = subst (λ q. Does layout cd (c + c) s t (run (selected_move meaning.arity code) selected_output (call_effect meaning (suc d)) k.moves k.steps q) (work (selected_move meaning.arity code) (call_effect meaning (suc d)) k.moves k.steps q)) (sym (start_merged frame.slots bare code ws h t g more)) (follows k.moves k.steps k.few k.few_steps) in
        meets_of layout cd rate c (prologue_size bare) n s t (meaning.body n d f ws h) done outcome one path k.keeps does

    meets : Goal y c code most most_steps code e.rest l h t → Meets layout cd ((rate + rate) * c) ((rate + rate) * c) n s (meaning.body n d f ws h)
    meets (inl ended) = finish (λ i. 0) [] (λ i. omega arith) tt (ended (λ i. get_or (listed frame.slots 0 (λ i. 0)) i 0) [])
    meets (inr p) =
        let v = p.to in
        let w = p.within in
        let two = bare_stack meaning layout e.head cd places place d s enters.aligned room_0 enters.top p.locations h v w in
        let at : v.pc ≡ place + 4 * length head = p.at ∙ (let q : place + 4 * end_of y ≡ place + 4 * length head = omega arith in q) in
        let z = enters.aligned in
        let up = enters.top in
        let back = enters.back in
        let one_is = unsaved 1 (v.registers 1) (s.registers 1) (w.kept 1 (inl refl)) in
        let called = each_map (λ g. frame_size frame + cd.need g (suc d) ≤ cd.need f d) (λ g. cd.floor + frame_size frame + cd.need g (suc d) ≤ v.registers 2) (λ g (le : frame_size frame + cd.need g (suc d) ≤ cd.need f d). omega (arith, room)) rest (each_unshifted (λ g. frame_size frame + cd.need g (suc d) ≤ cd.need f d) (length head) rest each.1) in
        let r = resting meaning layout cd places (place + 4 * length head) d c one all_places calls frame is_frame e.rest fine most most_steps p.locations h v at mid end (unshifted cd places place (length head) (place + 4 * length head) rest split.1) (omega arith) (omega arith) (omega (arith, own, room)) (omega arith) called w.sound w.shares w.same in
        let sigma : ℕ → ℕ = λ i. get_or (listed frame.slots 0 r.slots) i 0 in
        let q = at_steps e.rest (merge p.locations sigma) h r.words in
        let onward : Follows y c code most most_steps q v = λ i m le les.
        comes_from layout cd (c + c) s v v (run (selected_move meaning.arity code) selected_output (call_effect meaning (suc d)) i m q).stop (run (selected_move meaning.arity code) selected_output (call_effect meaning (suc d)) i m q).output (work (selected_move meaning.arity code) (call_effect meaning (suc d)) i m q)
        (bare_comes meaning layout e.head cd places place d s enters.aligned room_0 enters.top p.locations h v w)
        (subst (λ mv. Does layout cd (c + c) v v (run mv selected_output (call_effect meaning (suc d)) i m q) (work mv (call_effect meaning (suc d)) i m q)) (same_moves meaning.arity code e is) (r.follows i m le les)) in
        finish r.slots r.words r.small r.are_words (p.follows sigma r.words onward)
