-- Bodies spell at most one list of commands, and one more body spells one more command.
use Rattle.std.proofs.Common.{◌≡◌, ℕ, zero, suc, ◌+◌, ◌<◌, List, [], ◌∷◌, ◌++◌, length, take, get_or, refl, sym, ap, subst, ◌∙◌, arith}
use Rattle.std.specs.FinMap.{empty}
use Rattle.std.specs.Prelude.{Result, Ok, Err, IfOk, IfErr}
use Rattle.std.proofs.lemmas.List.{take_more}
use Rattle.cc_library.specs.Change.{LibraryCommand}
use Rattle.cc_library.specs.declared.fault.LibraryFault.{LibraryFault}
use Rattle.cc_library.specs.declared.fault.LibraryFault.TheVariants.{Exists, Absent, Full, DiskFault, Closed, Damaged, NotALibrary, OutOfMemory}
use Rattle.cc_library.specs.Apply.{Units, AreAccepted}
use Rattle.cc_library.specs.Answers.{ReplayFaults}
use Rattle.cc_library.specs.Body.{Spells}
use Rattle.cc_library.specs.Recovered.{AreSpelled, StandFor}
use Rattle.cc_library.proofs.Commands.{one_command}
use Rattle.cc_log.specs.Commands.{AreRead}
use Rattle.cc_log.specs.internal.Reading.{IsUnread}

-- if bodies spell commands, and one more body spells one more command, then all bodies spell all commands
pub spelled_push : (bodies : List (List ℕ)) (commands : List LibraryCommand) (body : List ℕ) (command : LibraryCommand) → AreSpelled bodies commands → Spells body command → AreSpelled (bodies ++ body ∷ []) (commands ++ command ∷ [])
spelled_push [] [] body command spelled one = (one, tt)
spelled_push [] (c ∷ commands) body command spelled one = absurd spelled
spelled_push (b ∷ bodies) [] body command spelled one = absurd spelled
spelled_push (b ∷ bodies) (c ∷ commands) body command spelled one = (spelled.0, spelled_push bodies commands body command spelled.1 one)

-- if the bodies so far spell the commands so far, and the next body spells a command, one more body spells
-- one more command
pub spelled_more : (bodies : List (List ℕ)) (i : ℕ) (body : List ℕ) (commands : List LibraryCommand) (command : LibraryCommand) → i < length bodies → body ≡ get_or bodies i body
    → AreSpelled (take i bodies) commands → Spells body command → AreSpelled (take (i + 1) bodies) (commands ++ command ∷ [])
spelled_more bodies i body commands command within is so_far one =
    let more : take i bodies ++ body ∷ [] ≡ take (i + 1) bodies = ap (λ x. take i bodies ++ x ∷ []) is ∙ sym (take_more bodies i body within) in
    subst (λ (l : List (List ℕ)). AreSpelled l (commands ++ command ∷ [])) more (spelled_push (take i bodies) commands body command so_far one)

-- if a list of bodies spells commands, each body spells one
pub spelled_at : (bodies : List (List ℕ)) (commands : List LibraryCommand) (i : ℕ) (body : List ℕ) → i < length bodies → body ≡ get_or bodies i body → AreSpelled bodies commands → (command : LibraryCommand) × Spells body command
spelled_at [] commands i body within is spelled = absurd (omega arith)
spelled_at (b ∷ bodies) [] i body within is spelled = absurd spelled
spelled_at (b ∷ bodies) (c ∷ commands) zero body within is spelled = (c, subst (λ (x : List ℕ). Spells x c) (sym is) spelled.0)
spelled_at (b ∷ bodies) (c ∷ commands) (suc i) body within is spelled = spelled_at bodies commands i body (omega arith) is spelled.1

-- if one body does not spell a command, the bodies do not spell commands
pub unread : (bodies : List (List ℕ)) (i : ℕ) (body : List ℕ) → i < length bodies → body ≡ get_or bodies i body → ((command : LibraryCommand) → Spells body command → ⊥) → (commands : List LibraryCommand) → AreSpelled bodies commands → ⊥
unread bodies i body within is none commands spelled = let one = spelled_at bodies commands i body within is spelled in none one.0 one.1

-- bodies spell at most one list of commands
pub same_commands : (bodies : List (List ℕ)) (xs ys : List LibraryCommand) → AreSpelled bodies xs → AreSpelled bodies ys → xs ≡ ys
same_commands [] [] [] p q = refl
same_commands [] [] (y ∷ ys) p q = absurd q
same_commands [] (x ∷ xs) ys p q = absurd p
same_commands (body ∷ bodies) [] ys p q = absurd p
same_commands (body ∷ bodies) (x ∷ xs) [] p q = absurd q
same_commands (body ∷ bodies) (x ∷ xs) (y ∷ ys) p q =
    let here = one_command body x y p.0 q.0 in
    let there = same_commands bodies xs ys p.1 q.1 in
    λ i. here i ∷ there i

-- the commands that bodies spell are accepted, if the bodies represent a map
pub read_of : (bodies : List (List ℕ)) (units : Units) (commands : List LibraryCommand) → StandFor bodies units → AreSpelled bodies commands → AreRead bodies commands
read_of bodies units commands stand spelled =
    record { spelled = spelled; accepted = subst (λ (l : List LibraryCommand). AreAccepted empty l) (same_commands bodies stand.commands commands stand.spelled spelled) stand.accepted }

-- if bodies do not spell commands, they do not represent a map
pub unread_stand : (bodies : List (List ℕ)) (fault : LibraryFault) → IsUnread bodies fault → ReplayFaults bodies fault
unread_stand bodies Damaged why = λ units stand. why stand.commands stand.spelled
unread_stand bodies OutOfMemory why = tt
unread_stand bodies DiskFault why = why
unread_stand bodies NotALibrary why = why
unread_stand bodies Exists why = why
unread_stand bodies Absent why = why
unread_stand bodies Full why = why
unread_stand bodies Closed why = why

-- if P implies Q, and P holds of a result's answer, if there is one, then so does Q
pub of_ok : {A F : Type 0} {P Q : A → Type 0} → ((a : A) → P a → Q a) → (r : Result A F) → IfOk r P → IfOk r Q
of_ok step (Ok a) p = step a p
of_ok step (Err f) p = tt

-- if P implies Q, and P holds of a result's refusal, if there is one, then so does Q
pub of_err : {A F : Type 0} {P Q : F → Type 0} → ((f : F) → P f → Q f) → (r : Result A F) → IfErr r P → IfErr r Q
of_err step (Ok a) p = tt
of_err step (Err f) p = step f p
