-- What is found on a disk after a crash agrees with what the state says about the disk, so the recovery has its step.
use Rattle.std.proofs.Common.{◌≡◌, ℕ, ◌+◌, ◌≤◌, List, None, refl, sym, subst, ◌∙◌, arith}
use Rattle.std.specs.FinMap.{empty}
use Rattle.cc_disk.specs.Model.{bytes_of}
use Rattle.cc_library.specs.Apply.{Units}
use Rattle.cc_library.specs.Recovered.{Recovers, StandFor}
use Rattle.cc_library.proofs.Standing.{one_map}
use Rattle.cc_core.specs.declared.command.Numbered.{Numbered}
use Rattle.cc_core.specs.declared.contents.Core.{Core}
use Rattle.cc_core.specs.declared.contents.Phase.{Phase}
use Rattle.cc_core.specs.declared.contents.Phase.TheVariants.{Idle, Crashed}
use Rattle.cc_core.specs.StoreState.{StoreState}
use Rattle.cc_core.specs.Step.{Reopens}
use Rattle.cc_core.specs.internal.Opening.{IsFound}
use Rattle.cc_core.specs.internal.Ready.{IsRecoverable, IsReady, IsReadyIn, IsPrefixKept, IsOfOrder}
use Rattle.cc_core.proofs.Beginnings.{holds_at}
use Rattle.cc_core.proofs.Orders.{prefix_longest}

-- the records that are found leave room for a closed gate in an area of the state's size
pub found_room : (store : StoreState) (order : List Numbered) (library : Units) (used area : ℕ) (bodies : List (List ℕ)) → IsRecoverable store order → IsFound (bytes_of store.cells) area bodies library used → used + 1 ≤ store.area
found_room store order library used area bodies r f =
    let same = r.holds.alone area bodies f.holds in
    omega (arith, f.holds.fits, f.used_is, same.0)

pub recoverable_of : (old : Core) → IsReady old → old.phase ≡ Crashed → IsRecoverable old.store old.order
recoverable_of old ready crashed = subst (λ (phase : Phase). IsReadyIn phase old.library old.store old.order) crashed ready

-- the disk's bytes recover to a map
pub recovers_of : (store : StoreState) (order : List Numbered) (r : IsRecoverable store order) → Recovers (bytes_of store.cells) r.library
recovers_of store order r = record { area = store.area; bodies = r.bodies; holds = r.holds.holds; stand = r.stand }

-- if a crashed disk is opened, and the order is cut as the test of its last command says, the new state is the one
-- after the recovery
pub found_reopens : (old new : Core) (library : Units) (used area : ℕ) (bodies : List (List ℕ)) (kept : List Numbered) → IsReady old → old.phase ≡ Crashed
    → (f : IsFound (bytes_of old.store.cells) area bodies library used) → (byte : ℕ) → f.holds.area_byte ≡ byte
    → IsPrefixKept library old.order kept → new ≡ record old { library = library; order = kept; phase = Idle; store = record old.store { area_byte = byte; used = used } } → Reopens old None new
found_reopens old new library used area bodies kept ready crashed f byte byte_is keeps is =
    let r = recoverable_of old ready crashed in
    let same = r.holds.alone area bodies f.holds in
    let library_is : r.library ≡ library =
    one_map empty bodies r.library library (subst (λ (bs : List (List ℕ)). StandFor bs r.library) (sym same.1) r.stand) f.stand in
    let held = holds_at (bytes_of old.store.cells) (bytes_of old.store.cells) area old.store.area bodies f.holds refl same.0 in
    record {
      crashed = crashed;
      bodies = bodies;
      library = library;
      kept = kept;
      holds = held.0;
      stand = f.stand;
      longest = prefix_longest library old.order kept r.accepted (subst (λ (m : Units). IsOfOrder m old.order) library_is r.known) keeps;
      silent = refl;
      new_is = is ∙ (λ i. record old { library = library; order = kept; phase = Idle; store = record old.store { area_byte = (sym byte_is ∙ sym held.1) i; used = f.used_is i } });
    }
