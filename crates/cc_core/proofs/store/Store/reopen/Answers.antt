-- The copy has the same bytes, since nothing on the disk is unsettled. These bytes recover to a map, so the only refusal is lack
-- of memory.
use Rattle.std.proofs.Common.{◌≡◌, List, [], ℕ, refl, sym, ap, subst, ◌∙◌, true}
use Rattle.cc_disk.specs.Model.{bytes_of, crashed}
use Rattle.cc_disk.specs.Past.{DiskState}
use Rattle.cc_journal.specs.Format.{HoldsRecords}
use Rattle.cc_library.specs.Answers.{OpenFaults}
use Rattle.cc_core.specs.StoreState.{StoreState}
use Rattle.cc_core.proofs.Held.{crashed_same}
use Rattle.cc_core.proofs.Beginnings.{holds_at, only_memory}
use Rattle.cc_core.proofs.store.Store.reopen.Goals as goal

pub returns-in-Ok-clause-answer : goal.returns-in-Ok-clause-answer
returns-in-Ok-clause-answer c =
    let same : bytes_of c.in_ok-copy.copy.cells ≡ bytes_of c.args.self.now.cells =
    ap bytes_of c.in_ok-copy.ensures.cells ∙ ap (λ (s : StoreState). bytes_of (crashed s.cells [])) c.self.view_is ∙ crashed_same c.args.self.now.cells [] c.requires.alone in
    let f = c.in-Ok.found in
    let given : List ℕ = bytes_of c.into_disk.result.cells in
    let back : given ≡ bytes_of c.in_ok-copy.copy.cells = ap (λ (d : DiskState). bytes_of d.cells) c.into_disk.ensures ∙ c.in-Ok.ensures.bytes in
    let there : HoldsRecords given f.journal.area f.journal.bodies = subst (λ (l : List ℕ). HoldsRecords l f.journal.area f.journal.bodies) (sym back) c.in-Ok.ensures.answer.holds in
    let header = c.of_disk-read.ensures.header f.journal.area f.journal.bodies there in
    let found = holds_at given (bytes_of c.args.self.now.cells) f.journal.area f.journal.area f.journal.bodies there (back ∙ same) refl in
    (f.journal.area, f.journal.bodies, record { holds = found.0; stand = c.in-Ok.ensures.answer.stand; used_is = c.in-Ok.ensures.answer.used_is }, found.1 ∙ header.1 ∙ sym (ap (λ (s : StoreState). s.area_byte) c.read.view_is))

pub returns-in-Err-clause-refused : goal.returns-in-Err-clause-refused
returns-in-Err-clause-refused c =
    let same : bytes_of c.in_ok-copy.copy.cells ≡ bytes_of c.args.self.now.cells =
    ap bytes_of c.in_ok-copy.ensures.cells ∙ ap (λ (s : StoreState). bytes_of (crashed s.cells [])) c.self.view_is ∙ crashed_same c.args.self.now.cells [] c.requires.alone in
    let r = c.requires.recovers in
    only_memory (bytes_of c.args.self.now.cells) r.0 r.1 c.in-Err.fault (subst (λ (bytes : List ℕ). OpenFaults true bytes 0 0 c.in-Err.fault) same c.in-Err.ensures.refused)
