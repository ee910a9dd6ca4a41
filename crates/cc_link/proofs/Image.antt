-- An image of pieces that meet their contracts follows the source.
use Rattle.std.proofs.Common.{◌≡◌, ℕ, suc, ◌+◌, ◌-◌, ◌*◌, ◌%◌, ◌^◌, ◌<◌, ◌≤◌, Bool, true, false, List, [], ◌∷◌, length, map, get_or, refl, sym, ap, ◌∙◌, subst, arith}
use Rattle.std.specs.Prelude.{◌==◌, ◌++◌, if◌then◌else◌}
use Rattle.std.proofs.Math.Nat.{mul-suc}
use Rattle.cc_rv32.specs.declared.image.Image.{Image}
use Rattle.cc_rv32.specs.declared.outcome.MachineOutcome.TheVariants.{Going as Runs}
use Rattle.cc_words.specs.Observed.{read_mark}
use Rattle.cc_rv32.specs.Machine.{State, Turn, Continues, Exits, Traps, turned, observed, jumps, with_register, first_or_zero, rest_of, start, start_state, start_memory, instruction_at, stack_from, stack_to}
use Rattle.cc_simulation.specs.Behavior.{Going, Ended, Outcome, AreWords, Follows}
use Rattle.cc_simulation.specs.World.{Object, size_of as object_size, World, Answer, Effect, Gives, Unfinished, Failed, IsWorld}
use Rattle.cc_simulation.specs.Meaning.{Meaning}
use Rattle.cc_emit.specs.declared.item.PieceItem.{PieceItem}
use Rattle.cc_emit.specs.Board.{executed_above, run_above}
use Rattle.cc_emit.specs.declared.item.PieceItem.TheVariants.{Plain, Call, Go}
use Rattle.cc_emit.specs.Contract.{Code, EachCalled, ObjectLayout, Path, Placed, Enters, ComesBack, IsEnough, Meets, IsPiece}
use Rattle.cc_c_semantics.specs.Numbered.{outcome_by_number}
use Rattle.cc_link.specs.Agree.{shown, image_behavior}
use Rattle.cc_link.specs.Link.{size_of, head, place_of, linked_code, encoded}
use Rattle.cc_link.proofs.Counting.{Matched, follows}
use Rattle.cc_link.proofs.Machine.{Stack, on_stack, going, run_path, run_more, whole}
use Rattle.cc_link.proofs.CallsMeet.{power}
use Rattle.cc_link.proofs.Placing.{begins, from, linked_meets}
use Rattle.cc_link.proofs.Laying.{AreKept, globals_image, kept_are_words, laid_out, object_at, object_in, start_below, total}

-- what the call of main shows, while no other call is open
abbrev pub called_behavior : (meaning : Meaning) (main : ℕ) (initial : List Object) (input : List ℕ) → ℕ → Outcome ℕ
called_behavior meaning main initial input n = outcome_by_number (meaning.call n 0 main [] (record { globals = initial; input = input; output = [] }))

one_more : (c m n : ℕ) → n ≤ c + c * m → n ≤ c * suc m
one_more c m n h = let e = mul-suc c m in omega arith

cond_word : (b : Bool) (x : ℕ) → x < 2 ^ 32 → (if b then x else 0) < 2 ^ 32
cond_word true x h = h
cond_word false x h = omega arith

cond_words : (b : Bool) (x y : ℕ) → x < 2 ^ 32 → y < 2 ^ 32 → (if b then x else y) < 2 ^ 32
cond_words true x y h k = h
cond_words false x y h k = k

module _ (meaning : Meaning) (few : total meaning.objects ≤ 65536) (main : ℕ) (pieces : List (List PieceItem)) (is_function : main < meaning.functions) (bare : meaning.arity main ≡ 0) (count : length pieces ≡ meaning.functions) (fits : 3 + size_of pieces ≤ 131072)
    (stack : Stack) (frames : ℕ → ℕ) (all : (f : ℕ) → f < meaning.functions → IsPiece meaning (laid_out meaning.objects few) f (frames f) (get_or pieces f [])) (enough : (f : ℕ) → f < meaning.functions → IsEnough stack.need f (frames f) (get_or pieces f []))
    (backed : stack.floor + stack.need main 0 ≤ stack_to) (initial : List Object) (sized : map object_size initial ≡ meaning.objects) (kept : (g : ℕ) → AreKept (object_in initial g).width (object_in initial g).words) (words : AreWords (globals_image initial)) (input : List ℕ) (input_words : AreWords input) where
  abbrev code : List ℕ
  code = encoded (linked_code main pieces)

  abbrev layout : ObjectLayout meaning.objects
  layout = laid_out meaning.objects few

  abbrev board : Code
  board = on_stack stack (instruction_at code)

  abbrev first : State
  first = start_state (globals_image initial) input

  abbrev shared : World
  shared = record { globals = initial; input = input; output = [] }

  -- the state after the first jump
  abbrev entered : State
  entered = record { pc = place_of pieces main; registers = with_register first.registers 1 0x10004; memory = start_memory (globals_image initial); input = input; output = [] }

  abbrev stands : Placed board (place_of pieces) 0x10000 0x10000 (head main)
  stands = begins meaning layout main pieces is_function count fits stack frames all enough

  world : IsWorld meaning.objects shared
  world = record { sizes = sized; globals = λ g. kept_are_words (object_in initial g).width (object_in initial g).words (kept g); input = input_words }

  enters : Enters meaning layout board main 0 (place_of pieces main) [] shared entered
  enters = record {
    is_call = record { count = sym bare; words = tt; world = world };
    at = refl;
    sound = record {
      zero = refl;
      registers = λ r. cond_words _ 0x10004 _ (omega arith) (cond_word (r == 2) stack_to (omega arith));
      memory = λ a. start_below (globals_image initial) a words;
      input = input_words;
    };
    back = refl;
    aligned = refl;
    room = omega arith;
    top = omega arith;
    passes = tt;
    shares = record { sizes = sized; globals = λ g i lt. object_at initial meaning.objects sized kept g i lt; input = refl; output = refl };
  }

  to_main : executed_above stack.floor (instruction_at code first.pc) first ≡ Continues entered
  to_main =
      let p = from meaning layout main pieces is_function count fits stack frames all enough main is_function in
      let a = p.from in
      let b = p.to in
      let e : (0x10000 + (place_of pieces main + (2 ^ 32 - 0x10000)) % 2 ^ 32) % 2 ^ 32 ≡ place_of pieces main = omega arith in
      ap (λ o. executed_above stack.floor o first) stands.0
      ∙ ap (λ to. jumps 1 to first) e
      ∙ ap (λ n. if n == 0 then Continues entered else Traps) p.aligned

  -- after main has returned, two more instructions end the run with main's word
  exit : (t : State) (a : Answer) → ComesBack layout entered a t → shown (observed (run_above stack.floor code 2 (going t))) ≡ record { stop = Ended a.value; output = a.world.output }
  unfolding run_above
  exit t a r =
      let at : t.pc ≡ 0x10004 = r.at in
      let u : State = record t { pc = t.pc + 4; registers = with_register t.registers 17 ((t.registers 0 + 93) % 2 ^ 32) } in
      let one : executed_above stack.floor (instruction_at code t.pc) t ≡ Continues u = ap (λ p. executed_above stack.floor (instruction_at code p) t) at ∙ ap (λ o. executed_above stack.floor o t) stands.1.0 in
      let next : u.pc ≡ 0x10008 = ap (λ n. n + 4) at in
      let n17 : (t.registers 0 + 93) % 2 ^ 32 ≡ 93 = ap (λ n. (n + 93) % 2 ^ 32) r.sound.zero in
      let two : executed_above stack.floor (instruction_at code u.pc) u ≡ Exits a.value =
      ap (λ p. executed_above stack.floor (instruction_at code p) u) next ∙ ap (λ o. executed_above stack.floor o u) stands.1.1.0
      ∙ ap (λ n. if n == 1 then Continues (record u { pc = u.pc + 4; output = u.output ++ (u.registers 10 ∷ []) }) else if n == 2 then Continues (record u { pc = u.pc + 4; registers = with_register u.registers 10 (first_or_zero u.input); input = rest_of u.input; output = u.output ++ (read_mark ∷ []) }) else if n == 93 then Exits (u.registers 10) else Traps) n17
      ∙ ap Exits r.value in
      ap (λ (x : Turn). shown (observed (run_above stack.floor code 1 (turned t x)))) one ∙ ap (λ (x : Turn). shown (observed (turned u x))) two ∙ ap (λ o. record { stop = Ended a.value; output = o }) r.shares.output

  still : (m : ℕ) (t : State) (o : List ℕ) → Path board m entered t → t.output ≡ o → shown (observed (run_above stack.floor code (suc m) (going first))) ≡ record { stop = Going; output = o }
  unfolding run_above
  still m t o p e =
      let z : suc m + 0 ≡ suc m = omega arith in
      ap (λ k. shown (observed (run_above stack.floor code k (going first)))) (sym z) ∙ ap (λ r. shown (observed r)) (run_path stack code (suc m) 0 first t (entered, to_main, p)) ∙ ap (λ x. record { stop = Going; output = x }) e

  abbrev machine : ℕ → Outcome ℕ
  machine m = shown (observed (run_above stack.floor code m (going first)))

  matched : (c n : ℕ) (e : Effect) → Meets layout board c c n entered e → Matched machine c n (outcome_by_number e) (outcome_by_number e).stop
  matched c n (Gives a left) (m, t, p, r, b) = (suc m + 2, ap (λ x. shown (observed x)) (run_path stack code (suc m) 2 first t (entered, to_main, p)) ∙ exit t a r)
  matched c n (Unfinished o) (m, t, p, r, b) = (suc m, still m t o p r, one_more c m n b)
  matched c n (Failed o) x = tt

  pub agrees : Follows (called_behavior meaning main initial input) machine
  agrees =
      let l = linked_meets meaning layout main pieces is_function count fits stack frames all enough in
      follows machine (λ m k. run_more stack.floor code m k (going first)) (power l.0 1024) (called_behavior meaning main initial input) (λ n. matched (power l.0 1024) n _ (l.1 shared entered n enters))

-- the image with these words and globals agrees with the source on each stack that has enough for every call
pub linked_backed : (meaning : Meaning) (few : total meaning.objects ≤ 65536) (main : ℕ) (pieces : List (List PieceItem)) → main < meaning.functions → meaning.arity main ≡ 0 → length pieces ≡ meaning.functions → 3 + size_of pieces ≤ 131072
    → (stack : Stack) (frames : ℕ → ℕ) → ((f : ℕ) → f < meaning.functions → IsPiece meaning (laid_out meaning.objects few) f (frames f) (get_or pieces f []))
    → ((f : ℕ) → f < meaning.functions → IsEnough stack.need f (frames f) (get_or pieces f [])) → stack.floor + stack.need main 0 ≤ stack_to
    → (initial : List Object) → map object_size initial ≡ meaning.objects → ((g : ℕ) → AreKept (object_in initial g).width (object_in initial g).words)
    → (image : Image) → image.code ≡ encoded (linked_code main pieces) → image.globals ≡ globals_image initial → AreWords image.globals
    → (input : List ℕ) → AreWords input → Follows (called_behavior meaning main initial input) (λ m. shown (observed (run_above stack.floor image.code m (start image input))))
linked_backed meaning few main pieces is_function bare count fits stack frames all enough backed initial sized kept image is_code is_globals words input input_words =
    subst (λ c. Follows (called_behavior meaning main initial input) (λ m. shown (observed (run_above stack.floor c m (record { state = start_state image.globals input; outcome = Runs }))))) (sym is_code)
    (subst (λ g. Follows (called_behavior meaning main initial input) (λ m. shown (observed (run_above stack.floor (encoded (linked_code main pieces)) m (record { state = start_state g input; outcome = Runs }))))) (sym is_globals)
    (agrees meaning few main pieces is_function bare count fits stack frames all enough backed initial sized kept (subst AreWords is_globals words) input input_words))

-- ---- the whole machine: for each call that the limit allows, the largest frame

each_all : (Holds : ℕ → Type 0) → ((g : ℕ) → Holds g) → (items : List PieceItem) → EachCalled Holds items
each_all Holds all [] = tt
each_all Holds all (Plain i ∷ items) = each_all Holds all items
each_all Holds all (Call g ∷ items) = (all g, each_all Holds all items)
each_all Holds all (Go n ∷ items) = each_all Holds all items

abbrev most_need : (function opened : ℕ) → ℕ
most_need f opened = 2032 * (1024 - opened)

abbrev whole_stack : Stack
whole_stack = record { floor = stack_from; low = omega arith; need = most_need }

most_enough : (f frame : ℕ) (items : List PieceItem) → frame ≤ 2032 → IsEnough most_need f frame items
most_enough f frame items small = record { own = λ d below. omega arith; calls = λ d below. each_all (λ g. frame + 2032 * (1024 - suc d) ≤ 2032 * (1024 - d)) (λ g. (let z : frame + 2032 * (1024 - suc d) ≤ 2032 * (1024 - d) = omega arith in z)) items }

pub linked_agrees : (meaning : Meaning) (few : total meaning.objects ≤ 65536) (main : ℕ) (pieces : List (List PieceItem)) → main < meaning.functions → meaning.arity main ≡ 0 → length pieces ≡ meaning.functions → 3 + size_of pieces ≤ 131072
    → (frames : ℕ → ℕ) → ((f : ℕ) → f < meaning.functions → IsPiece meaning (laid_out meaning.objects few) f (frames f) (get_or pieces f []))
    → (initial : List Object) → map object_size initial ≡ meaning.objects → ((g : ℕ) → AreKept (object_in initial g).width (object_in initial g).words)
    → (image : Image) → image.code ≡ encoded (linked_code main pieces) → image.globals ≡ globals_image initial → AreWords image.globals → (input : List ℕ) → AreWords input → Follows (called_behavior meaning main initial input) (image_behavior image input)
linked_agrees meaning few main pieces is_function bare count fits frames all initial sized kept image is_code is_globals words input input_words =
    subst (Follows (called_behavior meaning main initial input)) (λ i m. shown (observed (whole image.code m (start image input) i)))
    (linked_backed meaning few main pieces is_function bare count fits whole_stack frames all (λ f lt. most_enough f (frames f) (get_or pieces f []) (all f lt).small) (omega arith) initial sized kept image is_code is_globals words input input_words)
