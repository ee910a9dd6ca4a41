-- The table has the name's first place at the name's number.
use Rattle.std.proofs.Common.{◌∙◌, ap, nat_eq}
use Rattle.indexmap.specs.IndexMap.{get}
use Rattle.cc_scope.specs.Numberings.{at_number}
use Rattle.cc_resolve.specs.Numberings.{first_of}
use Rattle.cc_resolve.proofs.places.Places.find.Goals as goal

pub returns-in_err-number : goal.returns-in_err-number
returns-in_err-number c =
    let p = c.self.inside in
    c.from_residual.ensures ∙ ap (at_number (get nat_eq p.places)) c.in_err-number.ensures ∙ c.self.invariant.found c.args.name.now ∙ ap (λ v. first_of v c.args.name.now) c.self.view_is

pub returns : goal.returns
returns c =
    let p = c.self.inside in
    c.copied.ensures ∙ c.get.ensures.value ∙ ap (at_number (get nat_eq p.places)) c.in_ok-number.ensures ∙ c.self.invariant.found c.args.name.now ∙ ap (λ v. first_of v c.args.name.now) c.self.view_is
