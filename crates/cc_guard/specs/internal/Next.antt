-- What remains to be done after a statement of guarded code, and what is known about variables at the start of each part.
use Rattle.std.specs.Prelude.{ℕ, suc, List, [], ◌∷◌}
use Rattle.cc_simulation.specs.World.{Size}
use Rattle.cc_cminor_language.specs.Cminor.{Statement, Exit, Continuation, Ends, Then, Again, Leaving}
use Rattle.cc_guard.specs.declared.known.Limit.{Limit}
use Rattle.cc_guard.specs.Guard.{forever, code_after}

-- a continuation, with what is known at the start of each part; for a block, what is known after it on every way out
pub data Noted : Type 0 where
  Last : Noted
  AndThen : List Limit → Statement → Noted → Noted
  InLoop : List Limit → Statement → Noted → Noted
  InBlock : List Limit → Noted → Noted

abbrev pub plain_next : Noted → Continuation
plain_next Last = Ends
plain_next (AndThen ks s ν) = Then s (plain_next ν)
plain_next (InLoop ks s ν) = Again s (plain_next ν)
plain_next (InBlock ks ν) = Leaving (plain_next ν)

-- how many blocks the statement is in; and what is known after each of them, from the innermost outwards
abbrev pub blocks_of : Noted → ℕ
blocks_of Last = 0
blocks_of (AndThen ks s ν) = blocks_of ν
blocks_of (InLoop ks s ν) = blocks_of ν
blocks_of (InBlock ks ν) = suc (blocks_of ν)

abbrev pub exits_of : Noted → List (List Limit)
exits_of Last = []
exits_of (AndThen ks s ν) = exits_of ν
exits_of (InLoop ks s ν) = exits_of ν
exits_of (InBlock ks ν) = ks ∷ exits_of ν

-- what the guarded code has left to do; after the function's own code, the run leaves both blocks around the loop
abbrev pub guarded_next : List Size → (n : ℕ) → Noted → Continuation
guarded_next objects n Last = Then (Exit 1) (Leaving (Then forever (Leaving Ends)))
guarded_next objects n (AndThen ks s ν) = Then (code_after objects n ks (blocks_of ν) s) (guarded_next objects n ν)
guarded_next objects n (InLoop ks s ν) = Again (code_after objects n ks (blocks_of ν) s) (guarded_next objects n ν)
guarded_next objects n (InBlock ks ν) = Leaving (guarded_next objects n ν)
