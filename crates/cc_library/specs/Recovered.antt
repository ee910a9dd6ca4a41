-- What an image of a disk recovers to: the map that its records represent.
use Rattle.std.specs.Prelude.{◌≡◌, ◌⊎◌, ℕ, Bool, List, [], ◌∷◌, refl}
use Rattle.std.specs.FinMap.{empty}
use Rattle.std.specs.Coded.{Coded, code_by, coded×, coded_ℕ, coded_list, coded_bool}
use Rattle.cc_journal.specs.Format.{HoldsRecords}
use Rattle.cc_library.specs.Change.{LibraryCommand}
use Rattle.cc_library.specs.Apply.{Units, after_all, AreAccepted}
use Rattle.cc_library.specs.Body.{Spells}

-- each body spells the command with the same index, and there are as many bodies as commands
abbrev pub AreSpelled : List (List ℕ) → List LibraryCommand → Type 0
AreSpelled [] [] = Unit {0}
AreSpelled [] (command ∷ commands) = ⊥
AreSpelled (body ∷ bodies) [] = ⊥
AreSpelled (body ∷ bodies) (command ∷ commands) = Spells body command × AreSpelled bodies commands

-- the bodies spell commands, each accepted in its turn, which lead from the map `from` to the map `to`
pub record LeadTo (from : Units) (bodies : List (List ℕ)) (to : Units) : Type 0 where
  pub commands : List LibraryCommand
  pub spelled : AreSpelled bodies commands
  pub accepted : AreAccepted from commands
  pub map_is : to ≡ after_all from commands

-- the bodies represent this map: `library_of` of their commands
abbrev pub StandFor : List (List ℕ) → Units → Type 0
StandFor bodies units = LeadTo empty bodies units

-- the image has a valid header, and the records of the area in use represent this map
pub record Recovers (image : List ℕ) (units : Units) : Type 0 where
  pub area : ℕ
  pub bodies : List (List ℕ)
  pub holds : HoldsRecords image area bodies
  pub stand : StandFor bodies units

-- the image recovers to this map, and to no other
pub record RecoversAlone (image : List ℕ) (units : Units) : Type 0 where
  pub recovers : Recovers image units
  pub alone : (others : Units) → Recovers image others → others ≡ units

-- the image recovers to one of the two maps, and to no other
abbrev pub RecoversOneOf : Units → Units → List ℕ → Type 0
RecoversOneOf old new image = RecoversAlone image old ⊎ RecoversAlone image new

-- what contracts see of a library: its disk, an area's size, its records' bodies, its map, and whether it is closed
pub record View (D : Type 0) : Type 0 where
  pub disk : D
  pub area : ℕ
  pub bodies : List (List ℕ)
  pub units : Units
  pub closed : Bool

-- a view is stored as the tuple of its fields
abbrev pub view_code : {D : Type 0} → Coded D → Coded Units → Coded (View D)
view_code {D} disk units =
    code_by (D × (ℕ × (List (List ℕ) × (Units × Bool)))) (coded× disk (coded× coded_ℕ (coded× (coded_list (coded_list coded_ℕ)) (coded× units coded_bool))))
    (λ v. (v.disk, (v.area, (v.bodies, (v.units, v.closed))))) (λ p. record { disk = p.0; area = p.1.0; bodies = p.1.1.0; units = p.1.1.1.0; closed = p.1.1.1.1 }) (λ _. refl)

-- what the type of a library keeps: the records represent the map, and the library is closed exactly if its log is
pub record IsKept (bodies : List (List ℕ)) (units : Units) (known_closed closed : Bool) : Type 0 where
  pub stand : StandFor bodies units
  pub same : known_closed ≡ closed
