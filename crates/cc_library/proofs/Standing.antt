-- The map that records represent, with one more record at the start or at the end. Records represent at most one map, and this
-- decides what images with these records recover to.
use Rattle.std.proofs.Common.{◌≡◌, ◌⊎◌, inl, inr, ⊎_elim, ℕ, List, [], ◌∷◌, ◌++◌, refl, sym, ap, subst, ◌∙◌, arith}
use Rattle.std.specs.Prelude.{IsOk, Err}
use Rattle.std.specs.FinMap.{empty}
use Rattle.cc_disk.specs.Images.{LeavesOnly, OnlyReads}
use Rattle.cc_journal.specs.Format.{HoldsAlone, HoldsOldOrNew, HoldsOneOf}
use Rattle.cc_library.specs.Change.{LibraryCommand}
use Rattle.cc_library.specs.declared.fault.LibraryFault.{LibraryFault}
use Rattle.cc_library.specs.declared.fault.LibraryFault.TheVariants.{Exists, Absent, Full, DiskFault, Closed, Damaged, NotALibrary, OutOfMemory}
use Rattle.cc_library.specs.Apply.{Units, apply, after, after_all, AreAccepted}
use Rattle.cc_library.specs.Answers.{ReplayFaults}
use Rattle.cc_library.specs.internal.Steps.{ReplaysBody}
use Rattle.cc_library.specs.Body.{IsCommand, Spells, body_of}
use Rattle.cc_library.specs.Recovered.{AreSpelled, LeadTo, StandFor, RecoversAlone, RecoversOneOf}
use Rattle.cc_library.specs.internal.Steps.{IsOldOrNew}
use Rattle.cc_library.proofs.Commands.{one_command, spells_as_written}

-- one record leads from a map to the next
abbrev pub IsStep : Units → List ℕ → Units → Type 0
IsStep from body mid = (command : LibraryCommand) × Spells body command × IsOk (apply from command) × (mid ≡ after from command)

pub step_before : (from mid : Units) (body : List ℕ) (bodies : List (List ℕ)) (to : Units) → IsStep from body mid → LeadTo mid bodies to → LeadTo from (body ∷ bodies) to
step_before from mid body bodies to s l = record {
  commands = s.0 ∷ l.commands;
  spelled = (s.1, l.spelled);
  accepted = (s.2, subst (λ (m : Units). AreAccepted m l.commands) s.3 l.accepted);
  map_is = l.map_is ∙ ap (λ (m : Units). after_all m l.commands) s.3;
}

without_step : (from mid : Units) (body : List ℕ) (bodies : List (List ℕ)) (to : Units) (commands : List LibraryCommand) → IsStep from body mid
    → AreSpelled (body ∷ bodies) commands → AreAccepted from commands → to ≡ after_all from commands → LeadTo mid bodies to
without_step from mid body bodies to [] s spelled accepted is = absurd spelled
without_step from mid body bodies to (command ∷ commands) s spelled accepted is =
    let same : command ≡ s.0 = one_command body command s.0 spelled.0 s.1 in
    let mid_is : after from command ≡ mid = ap (after from) same ∙ sym s.3 in
    record {
      commands = commands;
      spelled = spelled.1;
      accepted = subst (λ (m : Units). AreAccepted m commands) mid_is accepted.1;
      map_is = is ∙ ap (λ (m : Units). after_all m commands) mid_is;
    }

pub step_behind : (from mid : Units) (body : List ℕ) (bodies : List (List ℕ)) (to : Units) → IsStep from body mid → LeadTo from (body ∷ bodies) to → LeadTo mid bodies to
step_behind from mid body bodies to s l = without_step from mid body bodies to l.commands s l.spelled l.accepted l.map_is

no_step : (from : Units) (body : List ℕ) (bodies : List (List ℕ)) (commands : List LibraryCommand) → ((command : LibraryCommand) → Spells body command → IsOk (apply from command) → ⊥)
    → AreSpelled (body ∷ bodies) commands → AreAccepted from commands → ⊥
no_step from body bodies [] none spelled accepted = spelled
no_step from body bodies (command ∷ commands) none spelled accepted = none command spelled.0 accepted.0

-- if the first record leads from a map to no map, all the records together lead to no map
pub leads_nowhere : (from : Units) (body : List ℕ) (bodies : List (List ℕ)) (to : Units) → ((command : LibraryCommand) → Spells body command → IsOk (apply from command) → ⊥) → LeadTo from (body ∷ bodies) to → ⊥
leads_nowhere from body bodies to none l = no_step from body bodies l.commands none l.spelled l.accepted

-- an empty list of records leads from a map to itself
pub none_left : (units : Units) → LeadTo units [] units
none_left units = record { commands = []; spelled = tt; accepted = tt; map_is = refl }

-- if the next record cannot be replayed, the records together represent no map
pub fails_here : (bodies : List (List ℕ)) (units : Units) (body : List ℕ) (behind : List (List ℕ)) (fault : LibraryFault) → ReplaysBody units body (Err fault)
    → ((made : Units) → StandFor bodies made → LeadTo units (body ∷ behind) made) → ReplayFaults bodies fault
fails_here bodies units body behind Damaged answer onward = λ made l. leads_nowhere units body behind made answer (onward made l)
fails_here bodies units body behind OutOfMemory answer onward = tt
fails_here bodies units body behind DiskFault answer onward = answer
fails_here bodies units body behind NotALibrary answer onward = answer
fails_here bodies units body behind Exists answer onward = answer
fails_here bodies units body behind Absent answer onward = answer
fails_here bodies units body behind Full answer onward = answer
fails_here bodies units body behind Closed answer onward = answer

same_commands : (bodies : List (List ℕ)) (xs ys : List LibraryCommand) → AreSpelled bodies xs → AreSpelled bodies ys → xs ≡ ys
same_commands [] [] [] p q = refl
same_commands [] [] (y ∷ ys) p q = absurd q
same_commands [] (x ∷ xs) ys p q = absurd p
same_commands (body ∷ bodies) [] ys p q = absurd p
same_commands (body ∷ bodies) (x ∷ xs) [] p q = absurd q
same_commands (body ∷ bodies) (x ∷ xs) (y ∷ ys) p q =
    let first : x ≡ y = one_command body x y p.0 q.0 in
    let others : xs ≡ ys = same_commands bodies xs ys p.1 q.1 in
    ap (λ (z : LibraryCommand). z ∷ xs) first ∙ ap (λ (zs : List LibraryCommand). y ∷ zs) others

-- records lead to at most one map
pub one_map : (from : Units) (bodies : List (List ℕ)) (a b : Units) → LeadTo from bodies a → LeadTo from bodies b → a ≡ b
one_map from bodies a b p q = p.map_is ∙ ap (after_all from) (same_commands bodies p.commands q.commands p.spelled q.spelled) ∙ sym q.map_is

pushed : (from : Units) (bodies : List (List ℕ)) (commands : List LibraryCommand) (body : List ℕ) (command : LibraryCommand) → AreSpelled bodies commands → AreAccepted from commands
    → Spells body command → IsOk (apply (after_all from commands) command) → LeadTo from (bodies ++ body ∷ []) (after (after_all from commands) command)
pushed from [] [] body command spelled accepted s ok = record { commands = command ∷ []; spelled = (s, tt); accepted = (ok, tt); map_is = refl }
pushed from [] (x ∷ xs) body command spelled accepted s ok = absurd spelled
pushed from (b ∷ bs) [] body command spelled accepted s ok = absurd spelled
pushed from (b ∷ bs) (x ∷ xs) body command spelled accepted s ok =
    step_before from (after from x) b (bs ++ body ∷ []) (after (after_all (after from x) xs) command) (x, spelled.0, accepted.0, refl) (pushed (after from x) bs xs body command spelled.1 accepted.1 s ok)

-- if one more record is added whose command the map accepts, the records represent the map after this command
pub one_more : (bodies : List (List ℕ)) (units : Units) (body : List ℕ) (command : LibraryCommand) → StandFor bodies units → Spells body command → IsOk (apply units command) → StandFor (bodies ++ body ∷ []) (after units command)
one_more bodies units body command l s ok =
    subst (λ (m : Units). LeadTo empty (bodies ++ body ∷ []) (after m command)) (sym l.map_is)
    (pushed empty bodies l.commands body command l.spelled l.accepted s (subst (λ (m : Units). IsOk (apply m command)) l.map_is ok))

pub stands_after : (bodies : List (List ℕ)) (units : Units) (body : List ℕ) (command : LibraryCommand) (more : List (List ℕ)) (new : Units) → StandFor bodies units → Spells body command → IsOk (apply units command)
    → more ≡ bodies ++ body ∷ [] → new ≡ after units command → StandFor more new
stands_after bodies units body command more new stand spelled ok added is =
    subst (λ (m : Units). StandFor more m) (sym is) (subst (λ (bs : List (List ℕ)). StandFor bs (after units command)) (sym added) (one_more bodies units body command stand spelled ok))

pub stands_still : (bodies : List (List ℕ)) (units : Units) (same : List (List ℕ)) (new : Units) → StandFor bodies units → same ≡ bodies → new ≡ units → StandFor same new
stands_still bodies units same new stand bodies_are is = subst (λ (m : Units). StandFor same m) (sym is) (subst (λ (bs : List (List ℕ)). StandFor bs units) (sym bodies_are) stand)

-- an image that has only these records recovers to the map that they represent, and to no other
pub holds_recovers : (image : List ℕ) (area : ℕ) (bodies : List (List ℕ)) (units : Units) → HoldsAlone image area bodies → StandFor bodies units → RecoversAlone image units
holds_recovers image area bodies units h stand = record {
  recovers = record { area = area; bodies = bodies; holds = h.holds; stand = stand };
  alone = λ others r. one_map empty bodies others units (subst (λ (bs : List (List ℕ)). StandFor bs others) (h.alone r.area r.bodies r.holds).1 r.stand) stand;
}

pub one_of : (image : List ℕ) (area : ℕ) (bodies : List (List ℕ)) (body : List ℕ) (old new : Units) → StandFor bodies old → StandFor (bodies ++ body ∷ []) new → HoldsOldOrNew area bodies body image → IsOldOrNew area bodies old (bodies ++ body ∷ []) new image
one_of image area bodies body old new before behind (inl h) = inl (h, holds_recovers image area bodies old h before)
one_of image area bodies body old new before behind (inr h) = inr (h, holds_recovers image area (bodies ++ body ∷ []) new h behind)

-- an image with the old records or the new ones recovers to the old map or the new one
pub either : (image : List ℕ) (area : ℕ) (bodies : List (List ℕ)) (old : Units) (made : List (List ℕ)) (new : Units) → IsOldOrNew area bodies old made new image → RecoversOneOf old new image
either image area bodies old made new (inl p) = inl p.1
either image area bodies old made new (inr p) = inr p.1

-- ---- moments

module _ {D : Type 0} (moment : D → ℕ) (left_since : D → ℕ → List ℕ → Type 0) where
  weaker_at : {P Q : List ℕ → Type 0} (old new : D) → ((image : List ℕ) → P image → Q image) → (t : ℕ) (image : List ℕ) → left_since old t image ⊎ P image → left_since old t image ⊎ Q image
  weaker_at old new f t image (inl before) = inl before
  weaker_at old new f t image (inr p) = inr (f image p)

  pub weaker : (P Q : List ℕ → Type 0) (old new : D) → ((image : List ℕ) → P image → Q image) → LeavesOnly moment left_since old new P → LeavesOnly moment left_since old new Q
  weaker P Q old new f l = record {
    later = l.later;
    each = λ image left. f image (l.each image left);
    before = λ t image earlier left. weaker_at {P = P} {Q = Q} old new f t image (l.before t image earlier left);
  }

  -- if `Q` is true of each image now, and no call is made, a crash leaves only `Q`
  pub no_call : (Q : List ℕ → Type 0) (disk : D) → ((image : List ℕ) → left_since disk (moment disk) image → Q image) → LeavesOnly moment left_since disk disk Q
  no_call Q disk now = record { later = omega arith; each = now; before = λ t image earlier left. inl left }

  -- if each image has exactly the records, and no call is made, a crash leaves the old records and map
  pub quiet : (may_leave : D → List ℕ → Type 0) (disk : D) (area : ℕ) (bodies : List (List ℕ)) (units : Units) (made : List (List ℕ)) (new : Units)
      → ((image : List ℕ) → may_leave disk image → HoldsAlone image area bodies) → ((image : List ℕ) → left_since disk (moment disk) image → may_leave disk image) → StandFor bodies units
      → LeavesOnly moment left_since disk disk (IsOldOrNew area bodies units made new)
  quiet may_leave disk area bodies units made new kept only_now stand =
      no_call (IsOldOrNew area bodies units made new) disk (λ image left. let h = kept image (only_now image left) in inl (h, holds_recovers image area bodies units h stand))

  -- at each moment of an `append` an image has the old records and map, or the new ones
  pub appended : (old new : D) (area : ℕ) (bodies : List (List ℕ)) (body : List ℕ) (units : Units) (command : LibraryCommand) → StandFor bodies units → body ≡ body_of command → IsCommand command → IsOk (apply units command)
      → LeavesOnly moment left_since old new (HoldsOldOrNew area bodies body) → LeavesOnly moment left_since old new (IsOldOrNew area bodies units (bodies ++ body_of command ∷ []) (after units command))
  appended old new area bodies body units command stand is command_is ok run =
      let spelled = spells_as_written body command is command_is in
      subst (λ (b : List ℕ). LeavesOnly moment left_since old new (IsOldOrNew area bodies units (bodies ++ b ∷ []) (after units command))) is
      (weaker (HoldsOldOrNew area bodies body) (IsOldOrNew area bodies units (bodies ++ body ∷ []) (after units command)) old new
      (λ image holds. one_of image area bodies body units (after units command) stand (one_more bodies units body command stand spelled ok) holds) run)

  -- at each moment of a `rewrite` to records of the same map, an image has the old records or the new ones, and recovers to
  -- this map
  pub rewritten : (old new : D) (area : ℕ) (bodies more : List (List ℕ)) (units : Units) → StandFor bodies units → StandFor more units → LeavesOnly moment left_since old new (HoldsOneOf area bodies more)
      → LeavesOnly moment left_since old new (IsOldOrNew area bodies units more units)
  rewritten old new area bodies more units before behind run =
      weaker (HoldsOneOf area bodies more) (IsOldOrNew area bodies units more units) old new (λ image holds. by image holds) run
    where
      by : (image : List ℕ) → HoldsOneOf area bodies more image → IsOldOrNew area bodies units more units image
      by image (inl h) = inl (h, holds_recovers image area bodies units h before)
      by image (inr h) = inr (h, holds_recovers image area more units h behind)

  -- if a crash leaves the old records or the new ones, it leaves the old map or the new one
  pub maps_alone : (old new : D) (area : ℕ) (bodies : List (List ℕ)) (units : Units) (more : List (List ℕ)) (made : Units) → LeavesOnly moment left_since old new (IsOldOrNew area bodies units more made)
      → LeavesOnly moment left_since old new (RecoversOneOf units made)
  maps_alone old new area bodies units more made run = weaker (IsOldOrNew area bodies units more made) (RecoversOneOf units made) old new (λ image p. either image area bodies units more made p) run

  -- if a crash leaves the old records or the new ones, and both represent one map, it leaves this map
  pub map_stays : (old new : D) (area : ℕ) (bodies : List (List ℕ)) (units : Units) (more : List (List ℕ)) → LeavesOnly moment left_since old new (IsOldOrNew area bodies units more units)
      → LeavesOnly moment left_since old new (λ image. RecoversAlone image units)
  map_stays old new area bodies units more run = weaker (IsOldOrNew area bodies units more units) (λ image. RecoversAlone image units) old new (λ image p. the_one image p) run
    where
      the_one : (image : List ℕ) → IsOldOrNew area bodies units more units image → RecoversAlone image units
      the_one image (inl p) = p.1
      the_one image (inr p) = p.1

  -- if some calls leave only `P` and the next ones only `Q`, and `R` follows from both, all the calls together leave only `R`
  pub joined : (old mid new : D) (P Q R : List ℕ → Type 0) → LeavesOnly moment left_since old mid P → LeavesOnly moment left_since mid new Q
      → ((image : List ℕ) → P image → R image) → ((image : List ℕ) → Q image → R image) → LeavesOnly moment left_since old new R
  joined old mid new P Q R first second f g = record {
    later = omega (arith, first.later, second.later);
    each = λ image left. ⊎_elim (λ earlier. f image (first.each image earlier)) (g image) (second.before (moment old) image first.later left);
    before = λ t image le left. ⊎_elim (λ earlier. weaker_at {P = P} {Q = R} old mid f t image (first.before t image le earlier)) (λ q. inr (g image q)) (second.before t image (omega (arith, le, first.later)) left);
  }

  -- if some calls leave only `P`, they still do so if only reads follow
  pub read_on : (seen : D → List ℕ) (may_leave : D → List ℕ → Type 0) (old mid new : D) (P : List ℕ → Type 0) → LeavesOnly moment left_since old mid P → OnlyReads seen may_leave moment left_since mid new → LeavesOnly moment left_since old new P
  read_on seen may_leave old mid new P first reads = record {
    later = omega (arith, first.later, reads.later);
    each = λ image left. first.each image (reads.moments (moment old) image first.later left);
    before = λ t image le left. first.before t image le (reads.moments t image (omega (arith, le, first.later)) left);
  }
