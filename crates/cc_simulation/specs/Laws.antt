-- The laws of runs. Each is the contract of a function of this crate, for Rust's types. The configurations of our languages are types of
-- specs, so a language's own law uses the lemma of the same form in `proofs/` (`Behaving`, `Cuts`, `Following`). The laws of simulations
-- are only lemmas (`proofs/Simulating`, `proofs/Lockstep`), because they range over relations, which no contract can.
use Rattle.std.specs.Prelude.{ℕ, suc, ◌<◌, List}
use Rattle.cc_simulation.specs.Behavior.{Outcome, in_words, Follows, FollowsForAll}
use Rattle.cc_simulation.specs.World.{World}
use Rattle.cc_simulation.specs.Run.{Move, run, work}
use Rattle.cc_simulation.specs.Meaning.{Meaning, most_open, IsCall, call_effect, answered}
use Rattle.cc_simulation.specs.Tracks.{Tracks, TracksForAll}
use Rattle.cc_simulation.specs.Cuts.{IsLayer, Comparable}

-- each behavior follows itself
abbrev pub FollowsItself : (B R : Type 0) → Type 0
FollowsItself B R = (a : B → Outcome R) → Follows a a

-- following is transitive: what follows a follower of a behavior follows that behavior
abbrev pub FollowsOn : (A B C R : Type 0) → Type 0
FollowsOn A B C R = (a : A → Outcome R) (b : B → Outcome R) (z : C → Outcome R) → Follows a b → Follows b z → Follows a z

-- following is transitive also for a run that depends on unknown words, for all lists of them
abbrev pub FollowsOnForAll : (A B R : Type 0) → Type 0
FollowsOnForAll A B R = (a : A → Outcome R) (b : B → Outcome R) (z : List ℕ → ℕ × ℕ → Outcome R) → Follows a b → FollowsForAll b z → FollowsForAll a z

-- what follows a behavior also follows it if only the words are seen, without the reads
abbrev pub FollowsInWords : (B C R : Type 0) → Type 0
FollowsInWords B C R = (a : B → Outcome R) (z : C → Outcome R) → Follows a z → Follows (λ n. in_words (a n)) (λ m. in_words (z m))

-- two cuts of one run are comparable, together with their work
abbrev pub CutsAreComparable : (C : Type 0) → Type 0
CutsAreComparable C =
    (meaning : Meaning) (move : C → Move C) (output : C → List ℕ) → IsLayer move output → (opened k l i j : ℕ) (c : C)
    → Comparable (run move output (call_effect meaning opened) k i c) (work move (call_effect meaning opened) k i c) (run move output (call_effect meaning opened) l j c) (work move (call_effect meaning opened) l j c)

-- a run that keeps up with the source, at whatever rate, follows it
abbrev pub TrackedFollows : (C : Type 0) → Type 0
TrackedFollows C =
    (meaning : Meaning) (move : C → Move C) (output : C → List ℕ) → IsLayer move output → (f rate : ℕ) (start : List ℕ → World → C) → Tracks meaning f rate move output start
    → (opened : ℕ) → opened < most_open → (ws : List ℕ) (h : World) → IsCall meaning f ws h
    → Follows (λ n. answered (meaning.body n opened f ws h)) (λ (b : ℕ × ℕ). run move output (call_effect meaning (suc opened)) b.0 b.1 (start ws h))

-- a run that depends on unknown words and keeps up with the source, for every list of words, follows it
abbrev pub TrackedFollowsForAll : (C : Type 0) → Type 0
TrackedFollowsForAll C =
    (meaning : Meaning) (move : C → Move C) (output : C → List ℕ) → IsLayer move output → (f rate : ℕ) (start : List ℕ → List ℕ → World → C) → TracksForAll meaning f rate move output start
    → (opened : ℕ) → opened < most_open → (ws : List ℕ) (h : World) → IsCall meaning f ws h
    → FollowsForAll (λ n. answered (meaning.body n opened f ws h)) (λ words (b : ℕ × ℕ). run move output (call_effect meaning (suc opened)) b.0 b.1 (start words ws h))
