-- The answer is that of the book under the lock.
use Rattle.std.proofs.Common.{List, subst, sym}
use Rattle.cc_recorded.specs.Promise.{IsGivenUp}
use Rattle.cc_service.specs.Client.{ClientView, members}
use Rattle.cc_service.proofs.service.Service.give_up.Goals as goal

pub returns : goal.returns
returns g c =
    let D = g.D.Disk in
    let N = g.N.Based in
    let given = c.give_up-given_up in
    subst (λ (l : List ClientView). IsGivenUp D N.failures N.base N.from N.left (members l) given.result.1 given.result.0) c.as_slice.ensures.value
    (record {
      book = c.into_inner.result.book;
      disk_is = sym given.ensures.disk;
      sound = given.ensures.sound;
      blamed = given.ensures.blamed;
      own = given.ensures.own;
      closed = given.ensures.closed;
      why = given.ensures.why;
    })
