-- The machine values of the two proofs about a history: a struct without fields, and a struct with that one as its
-- only field.
use Rattle.std.proofs.Common.{List, [], ◌∷◌, refl}
use seplogic.Ra.Ura.{Ura}
use mir.Val.{Val, vstruct, vcons, vnil}
use types.Logic.{Logic}
use types.Kit.{Goal, Step, step, Item, ‵, ◌$◌, move, fjoin, fpack, feq_i}
use denote.RattleType.{RattleType, Valss}
use denote.Steps.{nothing}
use denote.Struct.Struct.{Struct, within}

abbrev pub no_field : Val
no_field = vstruct vnil

abbrev pub one_field : Val → Val
one_field u = vstruct (vcons u vnil)

-- a struct with these fields, whatever its name
abbrev pub fields_only : List RattleType → RattleType
fields_only Rs = Struct (record { name = []; args = []; types = []; fields = Rs })

-- owning the value of a field is owning the struct with only that field
pub wrapped : {M : Type 1} {𝓤 : Ura M} {𝓛 : Logic 𝓤} {K : Type 0} {Γ : List (Item 𝓤)} {G : Goal 𝓤 𝓛.H} → K → (R : RattleType) (x : R.Denot) (u : Val)
    → Step K 𝓛 (‵ ((fields_only (R ∷ [])).own_val (x, tt) (one_field u ∷ [])) ∷ Γ) G (‵ (R.own_val x (u ∷ [])) ∷ Γ) G
wrapped t R x u = step (λ s.
    nothing t $ move t (1 ∷ 0 ∷ []) $ fjoin t $ feq_i t (List Val) (one_field u ∷ []) (one_field u ∷ []) refl $ fjoin t $
    fpack t (Valss (R ∷ [])) (within (record { name = []; args = []; types = []; fields = R ∷ [] }) (x, tt) (one_field u ∷ [])) (u ∷ [], tt) $ s)
