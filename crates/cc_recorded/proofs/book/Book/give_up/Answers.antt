use Rattle.std.proofs.Common.{◌≡◌, map, ap, subst}
use Rattle.cc_history.specs.Closing.{IsClosed, IsNotWhole}
use Rattle.cc_recorded.specs.Book.{BookView}
use Rattle.cc_recorded.specs.Since.{BookSince}
use Rattle.cc_recorded.proofs.book.Book.give_up.Goals as goal

pub returns : goal.returns
returns g c =
    let clients = map g.C.HasReceipts.member c.args.clients.now in
    let book : c.self.inside.recorded ≡ c.args.self.book = ap (λ (b : BookSince g.row.D.Denot). b.book) c.self.view_is in
    let whole = c.is_whole-are_all.ensures in
    record {
      disk = c.into_disk.ensures;
      sound = c.survives.ensures.sound;
      blamed = c.survives.ensures.blamed;
      own = whole.own;
      closed = λ all. subst (λ (b : BookView g.row.D.Denot). IsClosed b.history clients) book (whole.closed all);
      why = λ not. subst (λ (b : BookView g.row.D.Denot). IsNotWhole b.history clients) book (whole.why not);
    }
