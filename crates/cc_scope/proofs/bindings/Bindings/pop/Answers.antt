-- Without the newest binding the table is as it was before that binding, whether that binding hid another or
-- not.
use Rattle.std.proofs.Common.{subst, nat_eq}
use Rattle.indexmap.specs.IndexMap.{get}
use Rattle.cc_scope.proofs.Tables.{IsTable-popped, IsTable-put}
use Rattle.cc_scope.specs.Bindings.{IsTable}
use Rattle.cc_scope.proofs.bindings.Bindings.pop.Goals as goal

pub invariant_of-self-in-Some-hidden : goal.invariant_of-self-in-Some-hidden
invariant_of-self-in-Some-hidden c =
    let table = subst (λ l. IsTable l c.self.inside.names (get nat_eq c.self.inside.newest)) c.in-Some.ensures.items c.self.invariant in
    IsTable-put _ _ _ c.self.inside.newest c.insert.new.self table c.insert.result _ c.in-Some-hidden.is c.insert.ensures.updates c.insert.ensures.absent

pub invariant_of-self-in-None : goal.invariant_of-self-in-None
invariant_of-self-in-None c =
    let table = subst (λ l. IsTable l c.self.inside.names (get nat_eq c.self.inside.newest)) c.in-Some.ensures.items c.self.invariant in
    IsTable-popped _ _ _ _ (get nat_eq c.swap_remove.new.self) table _ c.in-None.is c.swap_remove.ensures.updates.0
