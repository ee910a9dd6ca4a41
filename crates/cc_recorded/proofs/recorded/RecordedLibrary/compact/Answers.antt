-- A compaction of the library, as the book sees it: the map is unchanged, and if the device was called, no change has
-- failed.
use Rattle.std.proofs.Common.{◌≡◌, false, List, IsTrue, Result, Ok, Err, sym, ap, subst}
use Rattle.cc_library.specs.Apply.{Units}
use Rattle.cc_library.specs.Change.{LibraryCommand}
use Rattle.cc_library.specs.Recovered.{View}
use Rattle.cc_recorded.specs.Book.{BookView, RecoversTo}
use Rattle.cc_recorded.specs.Changed.{IsBookCompacted}
use Rattle.cc_recorded.specs.declared.fault.BookFault.{BookFault}
use Rattle.cc_recorded.specs.declared.fault.BookFault.TheVariants.{DiskFault}
use Rattle.cc_recorded.proofs.recorded.RecordedLibrary.compact.Goals as goal

pub returns : goal.returns
returns g c =
    let D = g.D.Disk in
    let i = c.self.inside in
    let before : BookView g.row.D.Denot = record { base = i.base; library = i.library; history = i.history.items; failed = i.failed.items } in
    let library = c.compact.new.self in
    let after_it : BookView g.row.D.Denot = record before { library = library } in
    let e = c.in-Ok.ensures.compacted in
    let usable : i.library.closed ≡ false = e.answers.0 in
    record {
      compacted = subst (λ (b : BookView g.row.D.Denot). IsBookCompacted D b after_it (Ok tt)) c.self.view_is
          (record {
            answers = (usable, e.answers.1, e.answers.2, λ k. record { base = before.base; library = e.leaves k; history = before.history; failed = before.failed });
            disk = e.disk;
            moments = e.moments;
            kept = λ h image left.
                subst (λ (u : Units). RecoversTo u before.failed image) (sym (ap (λ (v : View g.row.D.Denot). v.units) e.leaves))
                (subst (λ (l : List LibraryCommand). RecoversTo before.library.units l image) (sym (c.self.invariant.idle usable)) (e.images h usable image left));
          });
    }

pub returns-in-Err-DiskFault : goal.returns-in-Err-DiskFault
returns-in-Err-DiskFault g c =
    let D = g.D.Disk in
    let i = c.self.inside in
    let before : BookView g.row.D.Denot = record { base = i.base; library = i.library; history = i.history.items; failed = i.failed.items } in
    let library = c.compact.new.self in
    let after_it : BookView g.row.D.Denot = record before { library = library } in
    let e = rw c.in-Err-DiskFault.field-0-is at c.in-Err-DiskFault.ensures.compacted in
    let usable : i.library.closed ≡ false = e.answers.0 in
    record {
      compacted = subst (λ (b : BookView g.row.D.Denot). IsBookCompacted D b after_it (Err DiskFault)) c.self.view_is
          (record {
            answers = (usable, e.answers.1, e.answers.2, λ k. record { base = before.base; library = e.leaves k; history = before.history; failed = before.failed });
            disk = e.disk;
            moments = e.moments;
            kept = λ h image left.
                subst (λ (u : Units). RecoversTo u before.failed image) (sym (ap (λ (v : View g.row.D.Denot). v.units) e.leaves))
                (subst (λ (l : List LibraryCommand). RecoversTo before.library.units l image) (sym (c.self.invariant.idle usable)) (e.images h usable image left));
          });
    }
