-- The disk that the journal hands back is settled, and holds the records that were read.
use Rattle.std.proofs.Common.{◌≡◌, ℕ, List, sym, ap, subst, ◌∙◌}
use Rattle.cc_disk.specs.Model.{bytes_of}
use Rattle.cc_disk.specs.Past.{DiskState}
use Rattle.cc_journal.specs.Format.{HoldsRecords}
use Rattle.cc_core.specs.Run.{IsOrderOf}
use Rattle.cc_core.proofs.Beginnings.{holds_at}
use Rattle.cc_core.proofs.opening.open.Goals as goal

pub returns-in-Ok-read_order-clause-answer : goal.returns-in-Ok-read_order-clause-answer
returns-in-Ok-read_order-clause-answer c =
    let area = c.in-Ok.found.journal.area in
    let bodies = c.in-Ok.found.journal.bodies in
    let found = c.in-Ok.ensures.answer in
    let store = c.of_disk.result in
    let given : List ℕ = bytes_of c.into_disk.result.cells in
    let same : given ≡ bytes_of c.args.disk.cells = ap (λ (d : DiskState). bytes_of d.cells) c.into_disk.ensures ∙ c.in-Ok.ensures.bytes in
    let there : HoldsRecords given area bodies = subst (λ (l : List ℕ). HoldsRecords l area bodies) (sym same) found.holds in
    let header = c.of_disk.ensures.header area bodies there in
    let held = holds_at given (bytes_of store.cells) area store.area bodies there (sym c.of_disk.ensures.bytes) header.0 in
    record {
      bytes = c.of_disk.ensures.bytes ∙ same;
      alone = c.of_disk.ensures.alone;
      bodies = bodies;
      holds = held.0;
      area_byte = held.1 ∙ header.1;
      stand = found.stand;
      used = c.of_disk.ensures.used ∙ found.used_is;
      order = subst (λ (bs : List (List ℕ)). IsOrderOf bs c.in-Ok-read_order.order c.in-Ok-read_order.upcoming) c.records.ensures.records c.in-Ok-read_order.ensures.order;
      acknowledged = c.in-Ok-read_order.ensures.acknowledged;
    }
