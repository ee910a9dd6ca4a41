-- Worked examples of bytes, runs and text, computed.
use Rattle.std.specs.Prelude.{◌≡◌, ℕ, refl, List, [], ◌∷◌, codes}
use Rattle.std.specs.Fmt.{digits}
use Rattle.cc_words.specs.declared.operators.Binary.TheVariants.{Sub}
use Rattle.cc_simulation.specs.Behavior.{Outcome, Ended, Wrong}
use Rattle.cc_simulation.specs.World.{World, Question, Answer, Effect, Gives}
use Rattle.cc_simulation.specs.Run.{run}
use Rattle.cc_ltl.specs.declared.operation.Move.TheVariants.{Between, Reload, Spill}
use Rattle.cc_ltl.specs.declared.operation.Operation.TheVariants.{Nop, Binary, Call, Return}
use Rattle.cc_ltl.specs.Ltl.{Ltl, ltl_move, ltl_output, ltl_start}
use Rattle.cc_ltl.specs.Bytes.{ltl_bytes}
use Rattle.cc_ltl.specs.Listing.{block_text, ltl_text}

-- one block, which returns, and no slots
abbrev returns : Ltl
returns = record { slots = 0; entry = 0; blocks = record { label = 0; before = []; operation = Return; after = [] } ∷ [] }

returns_bytes : ltl_bytes returns ≡ 0 ∷ 0 ∷ 0 ∷ 0 ∷ 0 ∷ 0 ∷ 0 ∷ 0 ∷ 1 ∷ 0 ∷ 0 ∷ 0 ∷ 0 ∷ 0 ∷ 0 ∷ 0 ∷ 0 ∷ 0 ∷ 10 ∷ 0 ∷ 0 ∷ []
returns_bytes = refl

-- the first parameter minus the second, each in its slot
abbrev difference : Ltl
difference = record {
  slots = 3;
  entry = 0;
  blocks =
      record { label = 0; before = Spill 0 10 ∷ Spill 1 11 ∷ []; operation = Nop 1; after = [] }
      ∷ record { label = 1; before = Reload 7 0 ∷ Reload 8 1 ∷ []; operation = Binary Sub 7 7 8 2; after = Spill 2 7 ∷ [] }
      ∷ record { label = 2; before = Reload 10 2 ∷ []; operation = Return; after = [] }
      ∷ [];
}

difference_text : ltl_text difference ≡ codes "slots 3, entry 0\n0: slot0 = x10; slot1 = x11; nop -> 1\n1: x7 = slot0; x8 = slot1; x7 = sub x7, x8; slot2 = x7 -> 2\n2: x10 = slot2; return\n"
unfolding block_text digits
difference_text = refl

-- no object, no input, nothing written
abbrev nothing : World
nothing = record { globals = []; input = []; output = [] }

-- each call answers 9 and uses no steps
abbrev nine : ℕ → Question → Effect
nine j q = Gives (record { value = 9; world = q.world }) j

abbrev outcome : Ltl → (words arguments : List ℕ) → (moves : ℕ) → Outcome Answer
outcome ltl words arguments k = run (ltl_move (λ f. 1) ltl) ltl_output nine k 0 (ltl_start ltl words arguments nothing)

abbrev ends : (value : ℕ) → Outcome Answer
ends value = record { stop = Ended (record { value = value; world = nothing }); output = [] }

-- 7 - 5, whatever the slots held
difference_ends : outcome difference (77 ∷ 78 ∷ []) (7 ∷ 5 ∷ []) 3 ≡ ends 2
difference_ends = refl

-- the result of a call is in x10
abbrev calls : Ltl
calls = record {
  slots = 0;
  entry = 4;
  blocks = record { label = 4; before = []; operation = Call 0 5; after = [] } ∷ record { label = 5; before = []; operation = Return; after = [] } ∷ [];
}

calls_ends : outcome calls [] (1 ∷ []) 2 ≡ ends 9
calls_ends = refl

-- the parameter is kept in a register while a function is called
abbrev keeps_in : ℕ → Ltl
keeps_in register = record {
  slots = 0;
  entry = 0;
  blocks =
      record { label = 0; before = Between register 10 ∷ []; operation = Call 0 1; after = [] }
      ∷ record { label = 1; before = Between 10 register ∷ []; operation = Return; after = [] }
      ∷ [];
}

-- x18 survives the call; x28 then holds word 28 of the 32 that come after the entry's words
survives_ends : outcome (keeps_in 18) [] (6 ∷ []) 2 ≡ ends 6
survives_ends = refl

lost_ends : outcome (keeps_in 28) [] (6 ∷ []) 2 ≡ ends 0
lost_ends = refl

-- no block has this label
stuck : outcome (record { slots = 0; entry = 1; blocks = [] }) [] [] 1 ≡ record { stop = Wrong; output = [] }
stuck = refl
