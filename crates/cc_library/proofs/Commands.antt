-- If a command is read from bytes, they spell it; and if bytes spell a command, in either version, it is read
-- from them.
use Rattle.std.proofs.Common.{◌≡◌, ◌⊎◌, inl, inr, ℕ, zero, suc, Bool, true, false, ◌&&◌, cond, eqb, List, [], ◌∷◌, ◌++◌, length, Option, Some, None, refl, sym, ap, subst, ◌∙◌, arith}
use Rattle.std.specs.Prelude.{IsTrue, ◌||◌}
use Rattle.std.proofs.lemmas.Bool.{eqb-true, ne_eqb}
use Rattle.std.proofs.lemmas.List.{append-nil, nil_from_length}
use Rattle.std.proofs.lemmas.Option.{none-some, same_Some}
use Rattle.cc_library.specs.Change.{LibraryCommand}
use Rattle.cc_library.specs.declared.command.Change.TheVariants.{Add, Replace, Withdraw}
use Rattle.cc_library.specs.Name.{is_name}
use Rattle.cc_unit.specs.declared.unit.StoredUnit.{StoredUnit}
use Rattle.cc_library.specs.Body.{AreBelow, HasVersion, IsCommand, Spells, body_of, certificate_version, name_field, spelling, unit_fields}
use Rattle.cc_library.specs.internal.Reading.{◌>>=◌, name_in, unit_in, kind_in, command_in}
use Rattle.cc_library.proofs.Fields.{bind_some, when_some, both_true, IsUnitIn, StandsIn, Takes, name_fields, unit_field}

-- the kind's byte, the name and the rest of the body of a command
abbrev kind_of : LibraryCommand → ℕ
kind_of (Add name unit) = 1
kind_of (Replace name unit) = 2
kind_of (Withdraw name) = 3

abbrev name_of : LibraryCommand → List ℕ
name_of (Add name unit) = name
name_of (Replace name unit) = name
name_of (Withdraw name) = name

abbrev rest_of : LibraryCommand → List ℕ
rest_of (Add name unit) = unit_fields unit
rest_of (Replace name unit) = unit_fields unit
rest_of (Withdraw name) = []

abbrev HasUnits : (version : ℕ) → LibraryCommand → Type 0
HasUnits version (Add name unit) = IsUnitIn version unit
HasUnits version (Replace name unit) = IsUnitIn version unit
HasUnits version (Withdraw name) = Unit {0}

record IsKind (version kind : ℕ) (name bytes : List ℕ) (command : LibraryCommand) (rest : List ℕ) : Type 0 where
  kind_is : kind ≡ kind_of command
  name_is : name ≡ name_of command
  takes : Takes bytes (rest_of command) rest
  units : HasUnits version command

kind_takes : (version kind : ℕ) (name bytes : List ℕ) (command : LibraryCommand) (rest : List ℕ) → AreBelow 256 bytes → kind_in version kind name bytes ≡ Some (command, rest) → IsKind version kind name bytes command rest
unfolding kind_in
kind_takes version zero name bytes command rest below e = absurd (none-some (command, rest) e)
kind_takes version (suc zero) name bytes command rest below e =
    let a = bind_some (unit_in version bytes) (λ unit. Some (Add name unit.0, unit.1)) (command, rest) e in
    let t = (unit_field version).takes bytes a.0.0 a.0.1 below a.1 in
    let made : LibraryCommand × List ℕ = (Add name a.0.0, a.0.1) in
    subst (λ (p : LibraryCommand × List ℕ). IsKind version 1 name bytes p.0 p.1) (same_Some made (command, rest) a.2) (record { kind_is = refl; name_is = refl; takes = t.0; units = t.1 })
kind_takes version (suc (suc zero)) name bytes command rest below e =
    let a = bind_some (unit_in version bytes) (λ unit. Some (Replace name unit.0, unit.1)) (command, rest) e in
    let t = (unit_field version).takes bytes a.0.0 a.0.1 below a.1 in
    let made : LibraryCommand × List ℕ = (Replace name a.0.0, a.0.1) in
    subst (λ (p : LibraryCommand × List ℕ). IsKind version 2 name bytes p.0 p.1) (same_Some made (command, rest) a.2) (record { kind_is = refl; name_is = refl; takes = t.0; units = t.1 })
kind_takes version (suc (suc (suc zero))) name bytes command rest below e =
    let made : LibraryCommand × List ℕ = (Withdraw name, bytes) in
    subst (λ (p : LibraryCommand × List ℕ). IsKind version 3 name bytes p.0 p.1) (same_Some made (command, rest) e) (record { kind_is = refl; name_is = refl; takes = record { parts = refl; below = below }; units = tt })
kind_takes version (suc (suc (suc (suc kind)))) name bytes command rest below e =
    let k : ℕ = suc (suc (suc (suc kind))) in
    let one : eqb (suc (suc (suc (suc kind)))) 1 ≡ false = ne_eqb _ _ (omega arith) in
    let two : eqb (suc (suc (suc (suc kind)))) 2 ≡ false = ne_eqb _ _ (omega arith) in
    let three : eqb (suc (suc (suc (suc kind)))) 3 ≡ false = ne_eqb _ _ (omega arith) in
    absurd (none-some (command, rest) (rw (one, two, three) at e))

kind_again : (version : ℕ) (command : LibraryCommand) → HasUnits version command → kind_in version (kind_of command) (name_of command) (rest_of command) ≡ Some (command, [])
unfolding kind_in
kind_again version (Add name unit) units =
    let whole : unit_in version (unit_fields unit) ≡ Some (unit, []) = ap (unit_in version) (sym (append-nil (unit_fields unit))) ∙ (unit_field version).again unit [] units in
    rw whole refl
kind_again version (Replace name unit) units =
    let whole : unit_in version (unit_fields unit) ≡ Some (unit, []) = ap (unit_in version) (sym (append-nil (unit_fields unit))) ∙ (unit_field version).again unit [] units in
    rw whole refl
kind_again version (Withdraw name) units = refl

-- a spelling of a command, split into its parts
in_parts : (version : ℕ) (command : LibraryCommand) → spelling version command ≡ version ∷ (kind_of command ∷ (name_field (name_of command) ++ rest_of command))
in_parts version (Add name unit) = refl
in_parts version (Replace name unit) = refl
in_parts version (Withdraw name) = refl

is_command : (version : ℕ) (command : LibraryCommand) → IsTrue (is_name (name_of command)) → HasUnits version command → IsCommand command
is_command version (Add name unit) name_is units = (name_is, units.0)
is_command version (Replace name unit) name_is units = (name_is, units.0)
is_command version (Withdraw name) name_is units = name_is

has_name : (command : LibraryCommand) → IsCommand command → IsTrue (is_name (name_of command))
has_name (Add name unit) is = is.0
has_name (Replace name unit) is = is.0
has_name (Withdraw name) is = is

-- ---- versions

-- the version is 1 or 2
abbrev is_version : ℕ → Bool
is_version version = eqb version 1 || eqb version 2

one_of_two : (version : ℕ) (one two : Bool) → eqb version 1 ≡ one → eqb version 2 ≡ two → (one || two) ≡ true → (version ≡ 1) ⊎ (version ≡ 2)
one_of_two version true two a b e = inl (eqb-true _ _ a)
one_of_two version false true a b e = inr (eqb-true _ _ b)
one_of_two version false false a b e = absurd (cc)

which_version : (version : ℕ) → is_version version ≡ true → (version ≡ 1) ⊎ (version ≡ 2)
which_version version known = one_of_two version (eqb version 1) (eqb version 2) refl refl known

not_two : (version : ℕ) → (version ≡ 1) ⊎ (version ≡ 2) → eqb version 2 ≡ false → version ≡ 1
not_two version (inl one) e = one
not_two version (inr two) e = let no = sym (ap (λ (v : ℕ). eqb v 2) two) ∙ e in absurd (cc)

-- if a certificate, or none, occurs in this version, the version is the one that the certificate needs
asked : (version : ℕ) (certificate : Option (List ℕ)) → (version ≡ 1) ⊎ (version ≡ 2) → StandsIn version certificate → version ≡ certificate_version certificate
asked version None known stands = not_two version known stands
asked version (Some certificate) known stands = eqb-true _ _ stands

stands_in : (version : ℕ) (certificate : Option (List ℕ)) → version ≡ certificate_version certificate → StandsIn version certificate
stands_in version None is = ap (λ (v : ℕ). eqb v 2) is
stands_in version (Some certificate) is = ap (λ (v : ℕ). eqb v 2) is

has_version : (version : ℕ) (command : LibraryCommand) → (version ≡ 1) ⊎ (version ≡ 2) → HasUnits version command → HasVersion version command
has_version version (Add name unit) known units = asked version unit.certificate known units.1
has_version version (Replace name unit) known units = asked version unit.certificate known units.1
has_version version (Withdraw name) known units = known

has_units : (version : ℕ) (command : LibraryCommand) → HasVersion version command → IsCommand command → HasUnits version command
has_units version (Add name unit) has is = (is.1, stands_in version unit.certificate has)
has_units version (Replace name unit) has is = (is.1, stands_in version unit.certificate has)
has_units version (Withdraw name) has is = tt

known_certificate : (version : ℕ) (certificate : Option (List ℕ)) → version ≡ certificate_version certificate → is_version version ≡ true
known_certificate version None is = ap is_version is
known_certificate version (Some certificate) is = ap is_version is

known_version : (version : ℕ) (command : LibraryCommand) → HasVersion version command → is_version version ≡ true
known_version version (Add name unit) has = known_certificate version unit.certificate has
known_version version (Replace name unit) has = known_certificate version unit.certificate has
known_version version (Withdraw name) (inl one) = ap is_version one
known_version version (Withdraw name) (inr two) = ap is_version two

-- ---- whole bodies

pub command_takes : (bytes : List ℕ) (command : LibraryCommand) → AreBelow 256 bytes → command_in bytes ≡ Some command → Spells bytes command
unfolding command_in
command_takes [] command below e = absurd (none-some command e)
command_takes (version ∷ []) command below e = absurd (none-some command e)
command_takes (version ∷ (kind ∷ bytes)) command below e =
    let a = bind_some (name_in bytes) (λ name. kind_in version kind name.0 name.1 >>= λ c. cond (is_version version && eqb (length c.1) 0) (Some c.0) None) command e in
    let b = bind_some (kind_in version kind a.0.0 a.0.1) (λ c. cond (is_version version && eqb (length c.1) 0) (Some c.0) None) command a.2 in
    let g = when_some (is_version version && eqb (length b.0.1) 0) (Some b.0.0) command b.2 in
    let h = both_true (is_version version) (eqb (length b.0.1) 0) g.0 in
    let n = name_fields.takes bytes a.0.0 a.0.1 below.1.1 a.1 in
    let k = kind_takes version kind a.0.0 a.0.1 b.0.0 b.0.1 n.0.below b.1 in
    let nothing : b.0.1 ≡ [] = nil_from_length b.0.1 (eqb-true _ _ h.1) in
    let later : a.0.1 ≡ rest_of b.0.0 = k.takes.parts ∙ ap (λ (r : List ℕ). rest_of b.0.0 ++ r) nothing ∙ append-nil (rest_of b.0.0) in
    let fields : bytes ≡ name_field (name_of b.0.0) ++ rest_of b.0.0 = n.0.parts ∙ ap (λ (r : List ℕ). name_field a.0.0 ++ r) later ∙ ap (λ (m : List ℕ). name_field m ++ rest_of b.0.0) k.name_is in
    let all : version ∷ (kind ∷ bytes) ≡ version ∷ (kind_of b.0.0 ∷ (name_field (name_of b.0.0) ++ rest_of b.0.0)) = ap (λ (x : ℕ). version ∷ (x ∷ bytes)) k.kind_is ∙ ap (λ (r : List ℕ). version ∷ (kind_of b.0.0 ∷ r)) fields in
    let name_is : IsTrue (is_name (name_of b.0.0)) = subst (λ (m : List ℕ). IsTrue (is_name m)) k.name_is n.1 in
    let read : Spells (version ∷ (kind ∷ bytes)) b.0.0 = record {
      version = version;
      has_version = has_version version b.0.0 (which_version version h.0) k.units;
      spelled = all ∙ sym (in_parts version b.0.0);
      command_is = is_command version b.0.0 name_is k.units;
    } in
    subst (Spells (version ∷ (kind ∷ bytes))) (same_Some b.0.0 command g.1) read

pub command_again : (version : ℕ) (command : LibraryCommand) → HasVersion version command → IsCommand command → command_in (spelling version command) ≡ Some command
unfolding command_in
command_again version command has is =
    let name = name_fields.again (name_of command) (rest_of command) (has_name command is) in
    let known = known_version version command has in
    ap command_in (in_parts version command) ∙ rw (name, kind_again version command (has_units version command has is), known) refl

-- if bytes spell a command, this command is read from them
pub spelled_is_read : (bytes : List ℕ) (command : LibraryCommand) → Spells bytes command → command_in bytes ≡ Some command
spelled_is_read bytes command p = ap command_in p.spelled ∙ command_again p.version command p.has_version p.command_is

-- bytes spell at most one command
pub one_command : (bytes : List ℕ) (a b : LibraryCommand) → Spells bytes a → Spells bytes b → a ≡ b
one_command bytes a b p q = same_Some a b (sym (spelled_is_read bytes a p) ∙ spelled_is_read bytes b q)

-- ---- what is written

-- the written body of a possible command spells the command
pub written : (command : LibraryCommand) → IsCommand command → Spells (body_of command) command
written (Add name unit) is = record { version = certificate_version unit.certificate; has_version = refl; spelled = refl; command_is = is }
written (Replace name unit) is = record { version = certificate_version unit.certificate; has_version = refl; spelled = refl; command_is = is }
written (Withdraw name) is = record { version = 2; has_version = inr refl; spelled = refl; command_is = is }

pub spells_as_written : (body : List ℕ) (command : LibraryCommand) → body ≡ body_of command → IsCommand command → Spells body command
spells_as_written body command is command_is = subst (λ (b : List ℕ). Spells b command) (sym is) (written command command_is)

-- the only bytes that spell an Add are its written body
pub add_is_written : (body name : List ℕ) (unit : StoredUnit) → Spells body (Add name unit) → body ≡ body_of (Add name unit)
add_is_written body name unit p = p.spelled ∙ ap (λ (v : ℕ). spelling v (Add name unit)) p.has_version

-- all spellings of a command have the same length
pub spelling_long : (version : ℕ) (command : LibraryCommand) → length (spelling version command) ≡ length (body_of command)
spelling_long version (Add name unit) = refl
spelling_long version (Replace name unit) = refl
spelling_long version (Withdraw name) = refl

pub spelled_long : (bytes : List ℕ) (command : LibraryCommand) → Spells bytes command → length bytes ≡ length (body_of command)
spelled_long bytes command p = ap length p.spelled ∙ spelling_long p.version command
