-- Pieces of a text, from a given function on.
use Rattle.std.proofs.Common.{◌≡◌, ℕ, suc, ◌+◌, ◌<◌, ◌≤◌, inl, inr, List, [], ◌∷◌, ◌++◌, length, sym, subst, ◌∙◌, arith}
use Rattle.std.specs.Prelude.{All}
use Rattle.std.proofs.lemmas.Bool.{cases_lt}
use Rattle.std.proofs.lemmas.List.Elements.{All-head, All-tail}
use Rattle.cc_ast.specs.Source.{source}
use Rattle.cc_c_semantics.specs.declared.mode.Mode.{Mode}
use Rattle.cc_emit.specs.Piece.{Piece}
use Rattle.cc_link.specs.Pieces.{AreFromIn}
use Rattle.cc_link.specs.Compile.{HasPieceIn}
use Rattle.cc_link.specs.Made.{IsCompiled}
use Rattle.cc_pool.specs.Fault.{IsJobRefusal, IsRefusedAt}
use Rattle.cc_pool.specs.internal.Reason.{IsReason}
use Rattle.cc_pool.specs.declared.fault.PoolFault.{PoolFault}
use Rattle.cc_pool.specs.declared.fault.PoolFault.TheVariants as fault

-- if the next function's piece is added to pieces from `from` on, these are still in order
pub one_from : (mode : Mode) (text : List ℕ) (from : ℕ) (ps : List Piece) (p : Piece) → AreFromIn mode text from ps → (p.mode ≡ mode) × ((source p.unit).text ≡ text) → p.function ≡ from + length ps → AreFromIn mode text from (ps ++ p ∷ [])
one_from mode text from [] p own whose which = (whose, omega (arith, which), tt)
one_from mode text from (q ∷ ps) p own whose which = (own.0, own.1, one_from mode text (suc from) ps p own.2 whose (omega (arith, which)))

-- if there are compiled pieces of the functions from `from` on, each function before the end has a piece
has_piece : (mode : Mode) (text : List ℕ) (from g : ℕ) (ps : List Piece) → AreFromIn mode text from ps → All IsCompiled ps → from ≤ g → g < from + length ps → HasPieceIn mode text g
has_piece mode text from g [] own all low high = absurd (omega arith)
has_piece mode text from g (p ∷ ps) own all low high =
    elim (cases_lt from g) [
      | inl lt ↦ has_piece mode text (suc from) g ps own.2 (All-tail IsCompiled p ps all) lt (omega (arith, high))
      | inr le ↦ record { piece = p; compiled = All-head IsCompiled p ps all; mode_is = own.0.0; text_is = own.0.1; function_is = own.1 ∙ omega (arith, low, le) }
    ]

-- if the function after these pieces was refused for a reason, this reason refuses the job
pub refusal_of : (mode : Mode) (text : List ℕ) (function : ℕ) (ps : List Piece) (fault : PoolFault) → AreFromIn mode text 0 ps → All IsCompiled ps → length ps ≡ function → IsReason mode text function fault → IsJobRefusal mode text fault
refusal_of mode text function ps (fault.Piece f why) own compiled count reason =
    (subst (λ (n : ℕ). IsRefusedAt mode text n why) (sym reason.0) reason.1, λ g less. has_piece mode text 0 g ps own compiled (omega arith) (omega (arith, less, reason.0, count)))
refusal_of mode text function ps fault.WorkersGone own compiled count reason = tt
refusal_of mode text function ps fault.OutOfMemory own compiled count reason = tt
