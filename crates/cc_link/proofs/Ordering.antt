-- Testing one more piece: it is no stranger, and has what its type keeps.
use Rattle.std.proofs.Common.{◌≡◌, ℕ, zero, suc, ◌+◌, ◌<◌, ◌≤◌, ◌⊎◌, inl, inr, true, if◌then◌else◌, List, [], ◌∷◌, length, get_or, drop, Some, refl, sym, ap, ◌∙◌, subst, arith}
use Rattle.std.proofs.lemmas.Bool.{cases_lt}
use Rattle.std.proofs.lemmas.List.{drop_more}
use Rattle.std.specs.Borrow.{Bor}
use Rattle.cc_ast.specs.Source.{source}
use Rattle.cc_ast.specs.declared.unit.Unit as parsed
use Rattle.cc_c_semantics.specs.declared.mode.Mode.{Mode}
use Rattle.cc_ast.specs.Parse.{SpellsText}
use Rattle.cc_types.specs.Checked.{IsChecked}
use Rattle.cc_emit.specs.Piece.{Piece, IsPieceOfUnit}
use Rattle.cc_link.specs.Made.{IsCompiled}
use Rattle.cc_link.specs.declared.fault.LinkFault.TheVariants.{Stranger}
use Rattle.cc_link.specs.Linked.{is_own, stranger, lent_pieces}

-- a piece of the text in the mode is not a stranger, so the search goes on after it
pub stranger_next : (mode : Mode) (text : List ℕ) (at : ℕ) (pieces : List (Bor Piece)) (d : Bor Piece) → at < length pieces → d ≡ get_or pieces at d → is_own mode text d.now ≡ true
    → stranger mode text at (lent_pieces (drop at pieces)) ≡ stranger mode text (at + 1) (lent_pieces (drop (at + 1) pieces))
stranger_next mode text at pieces d lt is e =
    let rest : List Piece = lent_pieces (drop (at + 1) pieces) in
    let split : drop at pieces ≡ d ∷ drop (at + 1) pieces = drop_more pieces at d lt ∙ ap (λ (b : Bor Piece). b ∷ drop (at + 1) pieces) (sym is) in
    let one : suc at ≡ at + 1 = omega arith in
    ap (λ (ps : List (Bor Piece)). stranger mode text at (lent_pieces ps)) split
    ∙ ap (λ b. if b then stranger mode text (suc at) rest else Some (Stranger d.now.function at)) e
    ∙ ap (λ n. stranger mode text n rest) one

lent_at : (pieces : List (Bor Piece)) (i : ℕ) (x : Bor Piece) (d : Piece) → i < length pieces → get_or (lent_pieces pieces) i d ≡ (get_or pieces i x).now
lent_at [] i x d lt = absurd (omega arith)
lent_at (p ∷ ps) zero x d lt = refl
lent_at (p ∷ ps) (suc i) x d lt = lent_at ps i x d (omega arith)

pub kept_next : (Keeps : Piece → Type 0) (pieces : List (Bor Piece)) (at : ℕ) (x : Bor Piece) → at < length pieces → x ≡ get_or pieces at x → Keeps x.now → ((k : ℕ) (d : Piece) → k < at → Keeps (get_or (lent_pieces pieces) k d))
    → (k : ℕ) (d : Piece) → k < at + 1 → Keeps (get_or (lent_pieces pieces) k d)
kept_next Keeps pieces at x lt is piece kept k d low = by (cases_lt k at)
  where
    by : (k < at) ⊎ (at ≤ k) → Keeps (get_or (lent_pieces pieces) k d)
    by (inl less) = kept k d less
    by (inr more) = let e : at ≡ k = omega arith in subst (λ n. Keeps (get_or (lent_pieces pieces) n d)) e (subst Keeps (sym (lent_at pieces at x d lt ∙ ap (λ (b : Bor Piece). b.now) (sym is))) piece)

-- a piece of this unit has what its type and the unit's type keep
pub compiled_of : (u : parsed.Unit) (piece : Piece) → piece.unit ≡ u → ∥ SpellsText (source u).text (source u).externals ∥₁ → IsChecked (source u) → IsPieceOfUnit piece → IsCompiled piece
compiled_of u piece is spelled checked of_unit = record {
  spelled = subst (λ (v : parsed.Unit). ∥ SpellsText (source v).text (source v).externals ∥₁) (sym is) spelled;
  checked = subst (λ (v : parsed.Unit). IsChecked (source v)) (sym is) checked;
  of_unit = of_unit;
}
