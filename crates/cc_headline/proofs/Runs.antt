-- A run with compiled pieces is a run with pieces that keep what the build requires, since linking keeps its
-- promise.
use Rattle.std.proofs.Common.{inl, inr, List, [], ◌∷◌}
use Rattle.cc_core.specs.declared.contents.Contents.{Contents}
use Rattle.cc_core.specs.declared.event.Event.{Event}
use Rattle.cc_core.specs.Run.{Turn, Run}
use Rattle.cc_emit.specs.Piece.{Piece}
use Rattle.cc_link.specs.Laws.{LinkedUnitsFollow, AgreeInAgree}
use Rattle.cc_link.specs.Made.{IsCompiled}
use Rattle.cc_headline.specs.Compiling.{compiling, Keeps}

module _ (follow : LinkedUnitsFollow) (agree : AgreeInAgree) where
  kept_turn : (old new : Contents Piece) (event : Event Piece) → Turn compiling IsCompiled old event new → Turn compiling Keeps old event new
  kept_turn old new event (inl h) = inl (h.0, h.1, h.2, λ worker piece e. record { compiled = h.3 worker piece e; follow = follow; agree = agree })
  kept_turn old new event (inr h) = inr h

  pub kept_run : (old new : Contents Piece) (events : List (Event Piece)) → Run compiling IsCompiled old events new → Run compiling Keeps old events new
  kept_run old new [] h = h
  kept_run old new (event ∷ later) h = (h.0, (kept_turn old h.0 event h.1.0, kept_run h.0 new later h.1.1))
