-- Lemmas that the handwritten proofs share, about constructors of a struct without fields at run time.
use Rattle.std.proofs.Common.{List, [], ◌∷◌, refl}
use seplogic.Ra.Ura.{Ura}
use mir.Val.{Val, vstruct, vnil}
use types.Logic.{Logic}
use types.Kit.{Goal, Step, step, Item, ‵, ◌$◌, fjoin, fpack, feq_i}
use denote.RattleType.{RattleType, Valss}
use denote.Steps.{nothing}
use denote.Struct.Struct.{Struct, within}

-- the struct with no fields, under any name
abbrev pub bare : RattleType
bare = Struct (record { name = []; args = []; types = []; fields = [] })

abbrev pub no_bytes : Val
no_bytes = vstruct vnil

module _ {M : Type 1} {𝓤 : Ura M} {𝓛 : Logic 𝓤} {K : Type 0} {Γ : List (Item 𝓤)} {G : Goal 𝓤 𝓛.H} where
  -- a value of that struct owns nothing, so it can be made from nothing
  pub bare_made : K → Step K 𝓛 (‵ (bare.own_val tt (no_bytes ∷ [])) ∷ Γ) G Γ G
  bare_made t = step (λ s.
      nothing t $ feq_i t (List Val) (no_bytes ∷ []) (no_bytes ∷ []) refl $ fjoin t $
      fpack t (Valss []) (within (record { name = []; args = []; types = []; fields = [] }) tt (no_bytes ∷ [])) tt $ s)
