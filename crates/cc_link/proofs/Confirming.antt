-- What is confirmed if the unit that was made again equals the stored one.
use Rattle.std.proofs.Common.{◌≡◌, ℕ, List, All, Option, Some, sym, ap, ◌∙◌, subst}
use Rattle.cc_c_semantics.specs.declared.mode.Mode.{Mode}
use Rattle.cc_emit.specs.Piece.{Piece, IsPieceOfUnit}
use Rattle.cc_ast.specs.Parse.{SpellsText}
use Rattle.cc_rv32.specs.declared.image.Image.{Image}
use Rattle.cc_unit.specs.declared.unit.StoredUnit.{StoredUnit}
use Rattle.cc_link.specs.Agree.{AgreeIn}
use Rattle.cc_link.specs.Audit.{IsConfirmedIn}
use Rattle.cc_link.specs.Laws.{LinkedUnitsFollow, AgreeInAgree, UnitsAreCertifiedIn}
use Rattle.cc_link.specs.Made.{IsCompiled, IsMadeIn}

same_bytes : (a b : List ℕ) → ◌≡◌ {A = Option (List ℕ)} (Some a) (Some b) → a ≡ b
same_bytes a b e = cc

-- compiled pieces have what the type of a piece keeps about its unit
all_of_unit : (ps : List Piece) → All IsCompiled ps → All IsPieceOfUnit ps
all_of_unit ps k i d lt = (k i d lt).of_unit

-- if a unit was made in a mode, its image agrees with its text in this mode
pub made_follows : LinkedUnitsFollow → (mode : Mode) (u : StoredUnit) → IsMadeIn mode u → AgreeIn mode u.source u.image
made_follows law mode u m =
    let h = law mode m.of m.pieces u m.spelled m.checked (all_of_unit m.pieces m.compiled) m.linked_is in
    subst (λ (t : List ℕ). AgreeIn mode t u.image) (sym h.0) h.1

pub confirmed : LinkedUnitsFollow → AgreeInAgree → UnitsAreCertifiedIn → (mode : Mode) (u : StoredUnit) (text bytes : List ℕ) (image : Image) → u ≡ record { source = text; image = image; certificate = Some bytes } → IsMadeIn mode u
    → IsConfirmedIn mode text bytes image
confirmed follow agree certified mode u text bytes image e made =
    let it = certified mode u made in
    let follows : AgreeIn mode text image = subst (λ (v : StoredUnit). AgreeIn mode v.source v.image) e (made_follows follow mode u made) in
    let own : it.certificate ≡ bytes = same_bytes it.certificate bytes (sym it.is ∙ ap (λ (v : StoredUnit). v.certificate) e) in
    record {
      tree = it.tree;
      spelled = subst (λ (t : List ℕ). ∥ SpellsText t it.tree ∥₁) (ap (λ (v : StoredUnit). v.source) e) it.spelled;
      agrees = agree mode text image follows;
      follows = follows;
      spells = record {
        ltls = it.spells.ltls;
        count = it.spells.count;
        few = it.spells.few;
        told = it.spells.told;
        spelled = sym own ∙ it.spells.spelled;
      };
      keep_up = it.keep_up;
      made = subst (IsMadeIn mode) e made;
    }
