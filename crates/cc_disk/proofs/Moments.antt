-- If one more state joins those that a disk or a file was in, what a crash since a moment may have left grows by what a crash may leave
-- in this state.
use Rattle.std.proofs.Common.{◌≡◌, ◌⊎◌, inl, inr, ⊎_elim, ℕ, zero, suc, ◌≤◌, List, [], ◌∷◌, ◌++◌, length, drop, refl, sym, subst, arith, length-append}
use Rattle.cc_disk.specs.Images.{Elapses}
use Rattle.cc_disk.specs.Past.{MayHaveLeft, LeftSince}

keeps_earlier : {S : Type 0} (leaves : S → List ℕ → Type 0) (past : List S) (state : S) (image : List ℕ) → MayHaveLeft leaves past image → MayHaveLeft leaves (past ++ state ∷ []) image
keeps_earlier leaves [] state image had = absurd had
keeps_earlier leaves (p ∷ past) state image (inl here) = inl here
keeps_earlier leaves (p ∷ past) state image (inr there) = inr (keeps_earlier leaves past state image there)

takes_newest : {S : Type 0} (leaves : S → List ℕ → Type 0) (past : List S) (state : S) (image : List ℕ) → leaves state image → MayHaveLeft leaves (past ++ state ∷ []) image
takes_newest leaves [] state image here = inl here
takes_newest leaves (p ∷ past) state image here = inr (takes_newest leaves past state image here)

newest_or_earlier : {S : Type 0} (leaves : S → List ℕ → Type 0) (past : List S) (state : S) (image : List ℕ) → MayHaveLeft leaves (past ++ state ∷ []) image → leaves state image ⊎ MayHaveLeft leaves past image
newest_or_earlier leaves [] state image (inl here) = inl here
newest_or_earlier leaves [] state image (inr none) = absurd none
newest_or_earlier leaves (p ∷ past) state image (inl here) = inr (inl here)
newest_or_earlier leaves (p ∷ past) state image (inr there) = ⊎_elim (λ now. inl now) (λ had. inr (inr had)) (newest_or_earlier leaves past state image there)

drop_push : {S : Type 0} (t : ℕ) (past : List S) (state : S) → t ≤ length past → drop t (past ++ state ∷ []) ≡ drop t past ++ state ∷ []
drop_push zero past state le = refl
drop_push (suc t) [] state le = absurd (omega arith)
drop_push (suc t) (p ∷ past) state le = drop_push t past state (omega arith)

pub elapses_one : {S : Type 0} (leaves : S → List ℕ → Type 0) (past : List S) (old new : S)
    → Elapses (length past) (length (past ++ old ∷ [])) (LeftSince leaves old past) (LeftSince leaves new (past ++ old ∷ [])) (leaves new)
elapses_one {S} leaves past old new = record {
  later = omega (arith, length-append past (old ∷ []));
  nothing_else = λ t image le left.
      ⊎_elim (λ now. inr now) (λ had. inl (newest_or_earlier leaves (drop t past) old image (subst (λ (l : List S). MayHaveLeft leaves l image) (drop_push t past old le) had))) left;
  keeps = λ t image le left.
      inr (subst (λ (l : List S). MayHaveLeft leaves l image) (sym (drop_push t past old le)) (⊎_elim (takes_newest leaves (drop t past) old image) (keeps_earlier leaves (drop t past) old image) left));
}

pub elapses_none : {S : Type 0} (leaves : S → List ℕ → Type 0) (past : List S) (now : S) → Elapses (length past) (length past) (LeftSince leaves now past) (LeftSince leaves now past) (leaves now)
elapses_none leaves past now = record { later = omega arith; nothing_else = λ t image le left. inl left; keeps = λ t image le left. left }
