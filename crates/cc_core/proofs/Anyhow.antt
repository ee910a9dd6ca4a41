-- What holds for a run, no matter which pieces are handed in and which units were found at the opening.
use Rattle.std.proofs.Common.{◌⊎◌, inl, inr, ℕ, List, [], ◌∷◌}
use Rattle.cc_unit.specs.declared.unit.StoredUnit.{StoredUnit}
use Rattle.cc_core.specs.declared.contents.Contents.{Contents}
use Rattle.cc_core.specs.declared.event.Event.{Event}
use Rattle.cc_core.specs.Rules.{Rules}
use Rattle.cc_core.specs.Run.{IsAnyPiece, IsBeginning, Turn, Run}
use Rattle.cc_core.proofs.Whole.{IsLawful}
use Rattle.cc_core.proofs.Sound.{IsSound, run_IsSound, beginning-IsSound}

-- a property that every unit has
abbrev pub is_any_unit : StoredUnit → Type 0
is_any_unit unit = Unit {0}

module _ {P : Type 0} (rules : Rules P) where
  pub any_lawful : IsLawful rules (IsAnyPiece {P = P}) is_any_unit
  any_lawful source pieces unit whole kept is = tt

  pub sound_anyhow : (first : Contents P) (events : List (Event P)) (new : Contents P) → IsBeginning first → Run rules IsAnyPiece first events new → IsSound rules IsAnyPiece is_any_unit new
  sound_anyhow first events new started run =
      run_IsSound rules IsAnyPiece is_any_unit any_lawful first events new (beginning-IsSound rules IsAnyPiece is_any_unit any_lawful first started (λ name unit at. tt)) run

  -- if an event takes a turn with pieces that keep `keeps`, it takes the same turn with pieces that need not
  -- keep anything
  turn_anyhow : (keeps : P → Type 0) (old : Contents P) (event : Event P) (new : Contents P) → Turn rules keeps old event new → Turn rules IsAnyPiece old event new
  turn_anyhow keeps old event new (inl step) = inl (step.0, step.1, step.2, λ worker piece is. tt)
  turn_anyhow keeps old event new (inr stays) = inr stays

  pub run_anyhow : (keeps : P → Type 0) (old : Contents P) (events : List (Event P)) (new : Contents P) → Run rules keeps old events new → Run rules IsAnyPiece old events new
  run_anyhow keeps old [] new run = run
  run_anyhow keeps old (event ∷ events) new run = (run.0, (turn_anyhow keeps old event run.0 run.1.0, run_anyhow keeps run.0 events new run.1.1))
