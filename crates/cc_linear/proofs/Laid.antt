-- A list that lays out a function's blocks does what the blocks do. The list lags: when the blocks have reached the next label,
-- the list may still have to execute the moves after an operation, and a jump.
use Rattle.std.proofs.Common.{◌≡◌, ℕ, suc, ◌+◌, ◌<◌, ◌≤◌, List, [], ◌∷◌, length, refl, sym, ap, ◌∙◌, subst, ◌⊎◌, inl, inr, arith}
use Rattle.std.specs.Prelude.{Bool, true, false, cond, ◌==◌, Option, Some, None}
use Rattle.cc_words.specs.Operators.{apply_unary, apply_binary}
use Rattle.cc_simulation.specs.World.{World, Question, Answer, element, stored, next_word, after_read, after_write}
use Rattle.cc_simulation.specs.Unknown.{unknown_word, left_after_call, left_after_word}
use Rattle.cc_simulation.specs.Run.{Move as Moving, Goes, Calls, Returns, Fails, tried}
use Rattle.cc_simulation.specs.Meaning.{Meaning}
use Rattle.cc_simulation.specs.Tracks.{TracksForAll}
use Rattle.cc_simulation.specs.internal.Simulation as one
use Rattle.cc_simulation.specs.internal.Simulation.{Advances, Asks, Ending, Simulation}
use Rattle.cc_simulation.proofs.Simulating.{way_then, coarser, tracks_on_for_all}
use Rattle.cc_ltl.specs.declared.location.Location.TheVariants.{Register}
use Rattle.cc_ltl.specs.declared.operation.Move.{Move}
use Rattle.cc_ltl.specs.declared.operation.Operation.{Operation}
use Rattle.cc_ltl.specs.declared.operation.Operation.TheVariants.{Nop, Const, Unary, Binary, Load, Store, Call, Read, Write, Branch, Return}
use Rattle.cc_ltl.specs.declared.block.Block.{Block}
use Rattle.cc_ltl.specs.Ltl as ltl
use Rattle.cc_ltl.specs.Ltl.{Ltl, block_at, Locations, put, target, source, moved, result_location, destroyed_location, after_call, to_block, operate, ltl_move, ltl_output, ltl_start}
use Rattle.cc_linear_language.specs.declared.item.LinearItem.{LinearItem}
use Rattle.cc_linear_language.specs.declared.item.LinearItem.TheVariants as item
use Rattle.cc_linear_language.specs.declared.item.LinearItem.TheVariants.{Label, Jump, IfNonzero, IfZero}
use Rattle.cc_linear_language.specs.Linear as linear
use Rattle.cc_linear_language.specs.Linear.{place, at_items, does, linear_move, linear_output, linear_start}
use Rattle.cc_linear.specs.internal.Lays.{moves_then, operation_then, GoesOnAt, StandsIn, next, IsNop, Straight, BranchesTo, Leaves, Stands, Nearer, Passes, Lays}

-- how many moves the blocks have
abbrev pub moves_of : Block → ℕ
moves_of b = length b.before + length b.after

abbrev pub total : List Block → ℕ
total [] = 0
total (x ∷ xs) = moves_of x + total xs

few_moves : (xs : List Block) (l : ℕ) (b : Block) → block_at xs l ≡ Some b → moves_of b ≤ total xs
few_moves [] l b e = absurd (cc)
few_moves (x ∷ xs) l b e = at (x.label == l) e (few_moves xs l b)
  where
    at : (t : Bool) → cond t (Some x) (block_at xs l) ≡ Some b → (block_at xs l ≡ Some b → moves_of b ≤ total xs) → moves_of b ≤ moves_of x + total xs
    at true h ih = let same : x ≡ b = cc in let k = ap moves_of same in omega arith
    at false h ih = let k = ih h in omega arith

module _ (arity : ℕ → ℕ) (function : Ltl) (code : List LinearItem) (end far : ℕ → ℕ) (most : ℕ) (lays : Lays function code end far most) where
  abbrev old : ltl.Configuration → Moving ltl.Configuration
  old c = ltl_move arity function c

  abbrev new : linear.Configuration → Moving linear.Configuration
  new d = linear_move arity code d

  abbrev Way : linear.Configuration → ℕ → linear.Configuration → Type 0
  Way d n e = one.Way new linear_output n d e

  path_refl : (d : linear.Configuration) → Way d 0 d
  path_refl d = (refl, refl)

  one_move : (d e : linear.Configuration) → new d ≡ Goes e → Way d 1 e
  one_move d e h = (e, h, (refl, refl))

  path_then : (d e f : linear.Configuration) (n m : ℕ) → Way d n e → Way e m f → Way d (n + m) f
  path_then d e f n m p q = way_then new linear_output n m d e f p q

  abbrev size : ℕ
  size = total function.blocks

  abbrev pub wide : ℕ
  wide = size + size + 1

  -- The list may lag behind the blocks by the moves that follow an operation.
  pub record Related (c : ltl.Configuration) (d : linear.Configuration) : Type 0 where
    pub copies : List Move
    pub tail : List LinearItem
    pub items : d.items ≡ moves_then copies tail
    pub on : GoesOnAt code tail (end c.label)
    pub stands : StandsIn code (end c.label)
    pub locations : moved copies d.locations ≡ c.locations
    pub world : d.world ≡ c.world
    pub words : d.words ≡ c.words
    pub few : length copies ≤ size

  lagging : (n : ℕ) (after : List Move) (at : Locations) (world : World) (words : List ℕ) (tail : List LinearItem) → GoesOnAt code tail (end n) → StandsIn code (end n) → length after ≤ size → Related (to_block n after at world words) (at_items (moves_then after tail) at world words)
  lagging n after at world words tail o s f = record { copies = after; tail = tail; items = refl; on = o; stands = s; locations = refl; world = refl; words = refl; few = f }

  copies_way : (ms : List Move) (tail : List LinearItem) (at : Locations) (world : World) (words : List ℕ) → Way (at_items (moves_then ms tail) at world words) (length ms) (at_items tail (moved ms at) world words)
  copies_way [] tail at world words = path_refl (at_items tail at world words)
  copies_way (m ∷ ms) tail at world words =
      let a = at_items (moves_then (m ∷ ms) tail) at world words in
      let b = at_items (moves_then ms tail) (put (target m) (at (source m)) at) world words in
      let c = at_items tail (moved (m ∷ ms) at) world words in
      let step : Way a 1 b = one_move a b refl in
      let more : Way b (length ms) c = copies_way ms tail (put (target m) (at (source m)) at) world words in
      subst (λ n. Way a n c) (let e : 1 + length ms ≡ suc (length ms) = omega arith in e) (path_then a b c 1 (length ms) step more)

  -- a label needs no move
  label_way : (l : ℕ) (items : List LinearItem) (at : Locations) (world : World) (words : List ℕ) → Way (at_items (Label l ∷ items) at world words) 0 (at_items items at world words)
  label_way l items at world words = (refl, refl)

  pub record Arrives (d : linear.Configuration) (least most' : ℕ) (e : linear.Configuration) : Type 0 where
    pub moves : ℕ
    pub enough : least ≤ moves
    pub few : moves ≤ most'
    pub way : Way d moves e

  then_way : (d e f : linear.Configuration) (a b n : ℕ) → Arrives d a b e → Way e n f → Arrives d (a + n) (b + n) f
  then_way d e f a b n x w = record { moves = x.moves + n; enough = let g = x.enough in omega arith; few = let g = x.few in omega arith; way = path_then d e f x.moves n x.way w }

  -- the list reaches the place at which it goes on, with at most one jump
  goes_on : (tail : List LinearItem) (l : ℕ) (at : Locations) (world : World) (words : List ℕ) → GoesOnAt code tail l → Arrives (at_items tail at world words) 0 1 (at_items (place code l) at world words)
  goes_on tail l at world words (inl e) = record { moves = 0; enough = omega arith; few = omega arith; way = subst (λ x. Way (at_items x at world words) 0 (at_items (place code l) at world words)) e (path_refl (at_items (place code l) at world words)) }
  goes_on tail l at world words (inr (behind, e)) = record { moves = 1; enough = omega arith; few = omega arith; way = one_move (at_items tail at world words) (at_items (place code l) at world words) (ap (λ x. new (at_items x at world words)) e) }

  -- the list executes the remaining moves, and reaches the label
  settles : (c : ltl.Configuration) (d : linear.Configuration) → Related c d → Arrives d 0 (size + 1) (at_items (place code (end c.label)) c.locations c.world c.words)
  settles c d r =
      let first_way = copies_way r.copies r.tail d.locations d.world d.words in
      let g = goes_on r.tail (end c.label) (moved r.copies d.locations) d.world d.words r.on in
      let e = at_items (place code (end c.label)) (moved r.copies d.locations) d.world d.words in
      let f = at_items (place code (end c.label)) c.locations c.world c.words in
      let same : e ≡ f = ap (λ x. at_items (place code (end c.label)) x d.world d.words) r.locations ∙ ap (λ x. at_items (place code (end c.label)) c.locations x d.words) r.world ∙ ap (λ x. at_items (place code (end c.label)) c.locations c.world x) r.words in
      let begin : Way d (length r.copies) (at_items r.tail (moved r.copies d.locations) d.world d.words) = subst (λ x. Way (at_items x d.locations d.world d.words) (length r.copies) (at_items r.tail (moved r.copies d.locations) d.world d.words)) (sym r.items) first_way in
      let all = path_then d (at_items r.tail (moved r.copies d.locations) d.world d.words) e (length r.copies) g.moves begin g.way in
      record { moves = length r.copies + g.moves; enough = omega arith; few = let x = r.few in let y = g.few in omega arith; way = subst (λ x. Way d (length r.copies + g.moves) x) same all }

  -- the list executes the moves before the block's operation
  arrives : (c : ltl.Configuration) (d : linear.Configuration) (before : List Move) (body : List LinearItem) → Related c d → end c.label ≡ c.label → place code c.label ≡ Label c.label ∷ moves_then before body
      → Arrives d (length before) (size + 1 + length before) (at_items body (moved before c.locations) c.world c.words)
  arrives c d before body r own is =
      let s = settles c d r in
      let a = at_items (Label c.label ∷ moves_then before body) c.locations c.world c.words in
      let b = at_items (moves_then before body) c.locations c.world c.words in
      let here : at_items (place code (end c.label)) c.locations c.world c.words ≡ a = ap (λ x. at_items (place code x) c.locations c.world c.words) own ∙ ap (λ x. at_items x c.locations c.world c.words) is in
      let s' : Arrives d 0 (size + 1) a = subst (λ x. Arrives d 0 (size + 1) x) here s in
      let t = then_way d a b 0 (size + 1) 0 s' (label_way c.label (moves_then before body) c.locations c.world c.words) in
      let u = then_way d b (at_items body (moved before c.locations) c.world c.words) (0 + 0) (size + 1 + 0) (length before) t (copies_way before body c.locations c.world c.words) in
      record { moves = u.moves; enough = let x = u.enough in omega arith; few = let x = u.few in omega arith; way = u.way }

  -- the list's move does what the block does, except for the moves after the operation
  abbrev Fits : Moving ltl.Configuration → Moving linear.Configuration → Type 0
  Fits (Goes c) (Goes d) = Related c d
  Fits (Calls q f) (Calls p g) = (p ≡ q) × ((a : Answer) → Related (f a) (g a))
  Fits (Returns r) (Returns s) = s ≡ r
  Fits Fails n = Unit {0}
  Fits m n = ⊥

  fits_with : {X : Type 0} (o : Option X) (f : X → ltl.Configuration) (g : X → linear.Configuration) → ((x : X) → Related (f x) (g x)) → Fits (tried o (λ x. Goes (f x))) (tried o (λ x. Goes (g x)))
  fits_with None f g h = tt
  fits_with (Some x) f g h = h x

  -- operations that have one item
  abbrev IsStraight : Operation → Type 0
  IsStraight (Nop n) = ⊥
  IsStraight (Branch from taken other) = ⊥
  IsStraight Return = ⊥
  IsStraight _ = Unit {0}

  fits : (op : Operation) (after : List Move) (at : Locations) (world : World) (words : List ℕ) (tail : List LinearItem) → IsStraight op → GoesOnAt code tail (end (next op)) → StandsIn code (end (next op)) → length after ≤ size
      → Fits (operate arity op after at world words) (new (at_items (operation_then op (moves_then after tail)) at world words))
  fits (Const to word n) after at world words tail i o s f = lagging n after (put (Register to) word at) world words tail o s f
  fits (Unary operator to from n) after at world words tail i o s f = lagging n after (put (Register to) (apply_unary operator (at (Register from))) at) world words tail o s f
  fits (Binary operator to left right n) after at world words tail i o s f =
      fits_with (apply_binary operator (at (Register left)) (at (Register right))) (λ word. to_block n after (put (Register to) word at) world words) (λ word. at_items (moves_then after tail) (put (Register to) word at) world words) (λ word. lagging n after (put (Register to) word at) world words tail o s f)
  fits (Load width object to index n) after at world words tail i o s f =
      fits_with (element world width object (at (Register index))) (λ word. to_block n after (put (Register to) word at) world words) (λ word. at_items (moves_then after tail) (put (Register to) word at) world words) (λ word. lagging n after (put (Register to) word at) world words tail o s f)
  fits (Store width object index from n) after at world words tail i o s f =
      fits_with (stored world width object (at (Register index)) (at (Register from))) (λ changed. to_block n after at changed words) (λ changed. at_items (moves_then after tail) at changed words) (λ changed. lagging n after at changed words tail o s f)
  fits (Call function n) after at world words tail i o s f =
      (refl, λ a. lagging n after (put result_location a.value (after_call words at)) a.world (left_after_call words) tail o s f)
  fits (Read n) after at world words tail i o s f = lagging n after (put result_location (next_word world) (put destroyed_location (unknown_word words) at)) (after_read world) (left_after_word words) tail o s f
  fits (Write n) after at world words tail i o s f = lagging n after (put destroyed_location (unknown_word words) at) (after_write (at result_location) world) (left_after_word words) tail o s f
  fits op after at world words tail i o s f = absurd i

  -- the list makes some moves, and then does what the block does
  pub record Matches (c : ltl.Configuration) (d : linear.Configuration) : Type 0 where
    pub moves : ℕ
    pub to : linear.Configuration
    pub few : moves ≤ wide
    pub way : Way d moves to
    pub output : linear_output to ≡ ltl_output c
    pub fits : Fits (old c) (new to)

  abbrev Proceeds : ltl.Configuration → ltl.Configuration → linear.Configuration → Type 0
  Proceeds c c' d = Advances old ltl_output new linear_output Related wide c' d ⊎ (Related c' d × (far c'.label < far c.label))

  -- a block without an operation has moves, or does nothing
  pub record Silent (c : ltl.Configuration) (d : linear.Configuration) : Type 0 where
    pub to : ltl.Configuration
    pub move : old c ≡ Goes to
    pub proceeds : Proceeds c to d

  block_move : (c : ltl.Configuration) (b : Block) → block_at function.blocks c.label ≡ Some b → old c ≡ operate arity b.operation b.after (moved b.before c.locations) c.world c.words
  block_move c b e = ap (λ o. tried o (λ (x : Block). operate arity x.operation x.after (moved x.before c.locations) c.world c.words)) e

  moved_on : (c : ltl.Configuration) (d : linear.Configuration) (n : ℕ) → Related c d → end n ≡ end c.label → Related (to_block n [] c.locations c.world c.words) d
  moved_on c d n r e = record {
    copies = r.copies;
    tail = r.tail;
    items = r.items;
    on = subst (GoesOnAt code r.tail) (sym e) r.on;
    stands = subst (StandsIn code) (sym e) r.stands;
    locations = r.locations;
    world = r.world;
    words = r.words;
    few = r.few;
  }

  nearer_of : (l taken other : ℕ) (t : Bool) → Nearer end far l taken → Nearer end far l other → Nearer end far l (cond t other taken)
  nearer_of l taken other true p q = q
  nearer_of l taken other false p q = p

  passed : (c : ltl.Configuration) (d : linear.Configuration) (b : Block) (op : Operation) → Related c d → block_at function.blocks c.label ≡ Some b → b.operation ≡ op → b.before ≡ [] → b.after ≡ [] → Passes end far c.label op → Silent c d
  passed c d b (Nop n) r e is no_before no_after p =
      let move = block_move c b e ∙ ap (λ o. operate arity o b.after (moved b.before c.locations) c.world c.words) is ∙ ap (λ ms. operate arity (Nop n) ms (moved b.before c.locations) c.world c.words) no_after ∙ ap (λ ms. operate arity (Nop n) [] (moved ms c.locations) c.world c.words) no_before in
      record { to = to_block n [] c.locations c.world c.words; move = move; proceeds = inr (moved_on c d n r p.0, p.1) }
  passed c d b (Branch from taken other) r e is no_before no_after p =
      let move = block_move c b e ∙ ap (λ o. operate arity o b.after (moved b.before c.locations) c.world c.words) is ∙ ap (λ ms. operate arity (Branch from taken other) ms (moved b.before c.locations) c.world c.words) no_after ∙ ap (λ ms. operate arity (Branch from taken other) [] (moved ms c.locations) c.world c.words) no_before in
      let n = cond (c.locations (Register from) == 0) other taken in
      let near = nearer_of c.label taken other (c.locations (Register from) == 0) p.0 p.1 in
      record { to = to_block n [] c.locations c.world c.words; move = move; proceeds = inr (moved_on c d n r near.0, near.1) }
  passed c d b op r e is no_before no_after p = absurd p

  straight : (c : ltl.Configuration) (d : linear.Configuration) (b : Block) → Related c d → block_at function.blocks c.label ≡ Some b → end c.label ≡ c.label → IsStraight b.operation → Straight code end c.label b → Matches c d
  straight c d b r e own i s =
      let a = arrives c d b.before (operation_then b.operation (moves_then b.after s.tail)) r own s.items in
      let short = few_moves function.blocks c.label b e in
      let at = moved b.before c.locations in
      let to = at_items (operation_then b.operation (moves_then b.after s.tail)) at c.world c.words in
      let f = fits b.operation b.after at c.world c.words s.tail i s.on s.stands (omega arith) in
      record { moves = a.moves; to = to; few = let x = a.few in omega arith; way = a.way; output = refl; fits = subst (λ m. Fits m (new to)) (sym (block_move c b e)) f }

  leaves : (c : ltl.Configuration) (d : linear.Configuration) (b : Block) → Related c d → block_at function.blocks c.label ≡ Some b → b.operation ≡ Return → end c.label ≡ c.label → Leaves code c.label b → Matches c d
  leaves c d b r e is own s =
      let a = arrives c d b.before (item.Return ∷ s.tail) r own s.items in
      let short = few_moves function.blocks c.label b e in
      let at = moved b.before c.locations in
      let to = at_items (item.Return ∷ s.tail) at c.world c.words in
      let move = block_move c b e ∙ ap (λ o. operate arity o b.after at c.world c.words) is in
      record { moves = a.moves; to = to; few = let x = a.few in omega arith; way = a.way; output = refl; fits = subst (λ m. Fits m (new to)) (sym move) refl }

  nonzero_fits : (t : Bool) (taken other : ℕ) (at : Locations) (world : World) (words : List ℕ) (tail : List LinearItem) → GoesOnAt code tail (end other) → StandsIn code (end taken) → StandsIn code (end other)
      → Related (to_block (cond t other taken) [] at world words) (at_items (cond t tail (place code (end taken))) at world words)
  nonzero_fits true taken other at world words tail o st so = lagging other [] at world words tail o so (omega arith)
  nonzero_fits false taken other at world words tail o st so = lagging taken [] at world words (place code (end taken)) (inl refl) st (omega arith)

  zero_fits : (t : Bool) (taken other : ℕ) (at : Locations) (world : World) (words : List ℕ) (tail : List LinearItem) → GoesOnAt code tail (end taken) → StandsIn code (end taken) → StandsIn code (end other)
      → Related (to_block (cond t other taken) [] at world words) (at_items (cond t (place code (end other)) tail) at world words)
  zero_fits true taken other at world words tail o st so = lagging other [] at world words (place code (end other)) (inl refl) so (omega arith)
  zero_fits false taken other at world words tail o st so = lagging taken [] at world words tail o st (omega arith)

  branch_move : (c : ltl.Configuration) (b : Block) (from taken other : ℕ) → block_at function.blocks c.label ≡ Some b → b.operation ≡ Branch from taken other → b.after ≡ []
      → old c ≡ Goes (to_block (cond (moved b.before c.locations (Register from) == 0) other taken) [] (moved b.before c.locations) c.world c.words)
  branch_move c b from taken other e is no_after =
      block_move c b e ∙ ap (λ o. operate arity o b.after (moved b.before c.locations) c.world c.words) is ∙ ap (λ ms. operate arity (Branch from taken other) ms (moved b.before c.locations) c.world c.words) no_after

  branches : (c : ltl.Configuration) (d : linear.Configuration) (b : Block) (from taken other : ℕ) (tail : List LinearItem) → Related c d → block_at function.blocks c.label ≡ Some b → b.operation ≡ Branch from taken other → b.after ≡ [] → end c.label ≡ c.label
      → StandsIn code (end taken) → StandsIn code (end other) → BranchesTo code end c.label b.before from taken other tail → Matches c d
  branches c d b from taken other tail r e is no_after own st so (inl (items, o)) =
      let a = arrives c d b.before (IfNonzero from (end taken) ∷ tail) r own items in
      let short = few_moves function.blocks c.label b e in
      let at = moved b.before c.locations in
      let to = at_items (IfNonzero from (end taken) ∷ tail) at c.world c.words in
      let f = nonzero_fits (at (Register from) == 0) taken other at c.world c.words tail o st so in
      record { moves = a.moves; to = to; few = let x = a.few in omega arith; way = a.way; output = refl; fits = subst (λ m. Fits m (new to)) (sym (branch_move c b from taken other e is no_after)) f }
  branches c d b from taken other tail r e is no_after own st so (inr (items, o)) =
      let a = arrives c d b.before (IfZero from (end other) ∷ tail) r own items in
      let short = few_moves function.blocks c.label b e in
      let at = moved b.before c.locations in
      let to = at_items (IfZero from (end other) ∷ tail) at c.world c.words in
      let f = zero_fits (at (Register from) == 0) taken other at c.world c.words tail o st so in
      record { moves = a.moves; to = to; few = let x = a.few in omega arith; way = a.way; output = refl; fits = subst (λ m. Fits m (new to)) (sym (branch_move c b from taken other e is no_after)) f }

  -- an empty nop that was not passed over is a jump; any other nop has moves
  nop_way : (d : linear.Configuration) (n count : ℕ) (before after : List Move) (tail : List LinearItem) (at : Locations) (world : World) (words : List ℕ) → GoesOnAt code tail (end n) → StandsIn code (end n)
      → (before ≡ [] → after ≡ [] → (behind : List LinearItem) × (tail ≡ Jump (end n) ∷ behind)) → length before + length after ≤ size → Arrives d (length before + length after) count (at_items tail at world words) → suc count ≤ suc wide
      → Advances old ltl_output new linear_output Related wide (to_block n [] at world words) d
  nop_way d n count [] [] tail at world words o s jumps short a few =
      let j = jumps refl refl in
      let from = at_items tail at world words in
      let to = at_items (place code (end n)) at world words in
      let step : Way from 1 to = one_move from to (ap (λ x. new (at_items x at world words)) j.1) in
      record { moves = a.moves + 1; to = to; one = omega arith; few = let x = a.few in omega arith; way = path_then d from to a.moves 1 a.way step; related = lagging n [] at world words (place code (end n)) (inl refl) s (omega arith) }
  nop_way d n count (m ∷ ms) after tail at world words o s jumps short a few =
      record { moves = a.moves; to = at_items tail at world words; one = let x = a.enough in omega arith; few = let x = a.few in omega arith; way = a.way; related = lagging n [] at world words tail o s (omega arith) }
  nop_way d n count [] (m ∷ ms) tail at world words o s jumps short a few =
      record { moves = a.moves; to = at_items tail at world words; one = let x = a.enough in omega arith; few = let x = a.few in omega arith; way = a.way; related = lagging n [] at world words tail o s (omega arith) }

  nop : (c : ltl.Configuration) (d : linear.Configuration) (b : Block) (n : ℕ) → Related c d → block_at function.blocks c.label ≡ Some b → b.operation ≡ Nop n → end c.label ≡ c.label → Straight code end c.label b → Silent c d
  nop c d b n r e is own s =
      let items = s.items ∙ ap (λ o. Label c.label ∷ moves_then b.before (operation_then o (moves_then b.after s.tail))) is in
      let here = moved b.before c.locations in
      let a = arrives c d b.before (moves_then b.after s.tail) r own items in
      let u = then_way d (at_items (moves_then b.after s.tail) here c.world c.words) (at_items s.tail (moved b.after here) c.world c.words) (length b.before) (size + 1 + length b.before) (length b.after) a (copies_way b.after s.tail here c.world c.words) in
      let short = few_moves function.blocks c.label b e in
      let leads : end (next b.operation) ≡ end n = ap (λ o. end (next o)) is in
      let move = block_move c b e ∙ ap (λ o. operate arity o b.after here c.world c.words) is in
      let way = nop_way d n (size + 1 + length b.before + length b.after) b.before b.after s.tail (moved b.after here) c.world c.words (subst (GoesOnAt code s.tail) leads s.on) (subst (StandsIn code) leads s.stands)
      (λ p q. subst (λ l. (behind : List LinearItem) × (s.tail ≡ Jump l ∷ behind)) leads (s.jumps (subst IsNop (sym is) tt) p q)) short u (omega arith) in
      record { to = to_block n [] (moved b.after here) c.world c.words; move = move; proceeds = inl way }

  kept : (c : ltl.Configuration) (d : linear.Configuration) (b : Block) (op : Operation) → Related c d → block_at function.blocks c.label ≡ Some b → b.operation ≡ op → end c.label ≡ c.label → Stands code end c.label b op → Matches c d ⊎ Silent c d
  kept c d b (Nop n) r e is own s = inr (nop c d b n r e is own s)
  kept c d b (Branch from taken other) r e is own s = inl (branches c d b from taken other s.tail r e is s.after own s.taken_stands s.other_stands s.branches)
  kept c d b Return r e is own s = inl (leaves c d b r e is own s)
  kept c d b (Const to word n) r e is own s = inl (straight c d b r e own (subst IsStraight (sym is) tt) s)
  kept c d b (Unary operator to from n) r e is own s = inl (straight c d b r e own (subst IsStraight (sym is) tt) s)
  kept c d b (Binary operator to left right n) r e is own s = inl (straight c d b r e own (subst IsStraight (sym is) tt) s)
  kept c d b (Load width object to index n) r e is own s = inl (straight c d b r e own (subst IsStraight (sym is) tt) s)
  kept c d b (Store width object index from n) r e is own s = inl (straight c d b r e own (subst IsStraight (sym is) tt) s)
  kept c d b (Call function n) r e is own s = inl (straight c d b r e own (subst IsStraight (sym is) tt) s)
  kept c d b (Read n) r e is own s = inl (straight c d b r e own (subst IsStraight (sym is) tt) s)
  kept c d b (Write n) r e is own s = inl (straight c d b r e own (subst IsStraight (sym is) tt) s)

  -- if there is no block, nothing has to be shown
  nothing : (c : ltl.Configuration) (d : linear.Configuration) → Related c d → block_at function.blocks c.label ≡ None → Matches c d
  nothing c d r e =
      let m : Fails ≡ old c = sym (ap (λ o. tried o (λ (x : Block). operate arity x.operation x.after (moved x.before c.locations) c.world c.words)) e) in
      let s = settles c d r in
      record { moves = s.moves; to = at_items (place code (end c.label)) c.locations c.world c.words; few = let x = s.few in omega arith; way = s.way; output = refl; fits = subst (λ x. Fits x (new (at_items (place code (end c.label)) c.locations c.world c.words))) m tt }

  at_a_block : (c : ltl.Configuration) (d : linear.Configuration) (o : Option Block) → Related c d → block_at function.blocks c.label ≡ o → Matches c d ⊎ Silent c d
  at_a_block c d None r e = inl (nothing c d r e)
  at_a_block c d (Some b) r e = elim (lays.each c.label b e r.stands) [ inl p ↦ inr (passed c d b b.operation r e refl p.before p.after p.passes) | inr k ↦ kept c d b b.operation r e refl k.0 k.1 ]

  matched_goes : (c c' : ltl.Configuration) (d : linear.Configuration) (m : Matches c d) (n : Moving linear.Configuration) → new m.to ≡ n → Fits (Goes c') n → Advances old ltl_output new linear_output Related wide c' d
  matched_goes c c' d m (Goes d') e f = record { moves = m.moves + 1; to = d'; one = omega arith; few = let x = m.few in omega arith; way = path_then d m.to d' m.moves 1 m.way (one_move m.to d' e); related = f }
  matched_goes c c' d m (Calls q g) e f = absurd f
  matched_goes c c' d m (Returns x) e f = absurd f
  matched_goes c c' d m Fails e f = absurd f

  matched_asks : (c : ltl.Configuration) (q : Question) (resume : Answer → ltl.Configuration) (d : linear.Configuration) (m : Matches c d) (n : Moving linear.Configuration) → new m.to ≡ n → Fits (Calls q resume) n → Asks old ltl_output new linear_output Related wide q resume d
  matched_asks c q resume d m (Goes d') e f = absurd f
  matched_asks c q resume d m (Calls p g) e f = record { moves = m.moves; to = m.to; resume' = g; few = m.few; way = m.way; calls = e ∙ ap (λ x. Calls x g) f.0; related = f.1 }
  matched_asks c q resume d m (Returns x) e f = absurd f
  matched_asks c q resume d m Fails e f = absurd f

  matched_ends : (c : ltl.Configuration) (a : Answer) (d : linear.Configuration) (m : Matches c d) (n : Moving linear.Configuration) → new m.to ≡ n → Fits (Returns a) n → Ending old ltl_output new linear_output wide a (ltl_output c) d
  matched_ends c a d m (Goes d') e f = absurd f
  matched_ends c a d m (Calls p g) e f = absurd f
  matched_ends c a d m (Returns x) e f = record { moves = m.moves; to = m.to; few = m.few; way = m.way; returns = e ∙ ap Returns f; output = m.output }
  matched_ends c a d m Fails e f = absurd f

  goes : (c c' : ltl.Configuration) (d : linear.Configuration) → old c ≡ Goes c' → Matches c d ⊎ Silent c d → Proceeds c c' d
  goes c c' d e (inl m) = inl (matched_goes c c' d m (new m.to) refl (subst (λ x. Fits x (new m.to)) e m.fits))
  goes c c' d e (inr s) = let x : Goes s.to ≡ Goes c' = sym s.move ∙ e in let same : s.to ≡ c' = cc in subst (λ y. Proceeds c y d) same s.proceeds

  asks : (c : ltl.Configuration) (q : Question) (resume : Answer → ltl.Configuration) (d : linear.Configuration) → old c ≡ Calls q resume → Matches c d ⊎ Silent c d → Asks old ltl_output new linear_output Related wide q resume d
  asks c q resume d e (inl m) = matched_asks c q resume d m (new m.to) refl (subst (λ x. Fits x (new m.to)) e m.fits)
  asks c q resume d e (inr s) = absurd (let x : Goes s.to ≡ Calls q resume = sym s.move ∙ e in cc)

  ends : (c : ltl.Configuration) (a : Answer) (d : linear.Configuration) → old c ≡ Returns a → Matches c d ⊎ Silent c d → Ending old ltl_output new linear_output wide a (ltl_output c) d
  ends c a d e (inl m) = matched_ends c a d m (new m.to) refl (subst (λ x. Fits x (new m.to)) e m.fits)
  ends c a d e (inr s) = absurd (let x : Goes s.to ≡ Returns a = sym s.move ∙ e in cc)

  -- the remaining moves change no output
  pub laid : Simulation old ltl_output new linear_output Related (λ c. far c.label) most wide
  laid = record {
    low = λ c d r. lays.low c.label;
    outputs = λ c d r. ap (λ (w : World). w.output) r.world;
    goes = λ c c' d r e. goes c c' d e (at_a_block c d (block_at function.blocks c.label) r refl);
    asks = λ c q resume d r e. asks c q resume d e (at_a_block c d (block_at function.blocks c.label) r refl);
    ends = λ c a d r e. ends c a d e (at_a_block c d (block_at function.blocks c.label) r refl);
  }

-- if the blocks keep up with the source, so does a list that lays them out; it is slower by the longest chain that it passes over
pub linear_tracks : (meaning : Meaning) (f rate : ℕ) (function : Ltl) (code : List LinearItem) (end far : ℕ → ℕ) (most : ℕ) → Lays function code end far most
    → TracksForAll meaning f rate (ltl_move meaning.arity function) ltl_output (ltl_start function)
    → TracksForAll meaning f (coarser rate most) (linear_move meaning.arity code) linear_output (linear_start function.slots code)
linear_tracks meaning f rate function code end far most lays tracks =
    tracks_on_for_all meaning f rate (ltl_move meaning.arity function) ltl_output (linear_move meaning.arity code) linear_output (Related meaning.arity function code end far most lays) (λ c. far c.label) most (wide meaning.arity function code end far most lays)
    (laid meaning.arity function code end far most lays) (ltl_start function) (linear_start function.slots code)
    (λ words are ws h call. record { copies = []; tail = code; items = refl; on = lays.entry; stands = lays.entry_stands; locations = refl; world = refl; words = refl; few = omega arith }) tracks
