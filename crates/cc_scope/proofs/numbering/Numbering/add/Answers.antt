-- A name that has a number keeps it, and a new one gets the next.
use Rattle.std.proofs.Common.{◌≡◌, ◌∙◌, ◌+◌, if◌then◌else◌, is_some, Some, length, ap, sym, subst}
use Rattle.cc_scope.specs.Numberings.{IsNumbered, number_of_name, numbered_in}
use Rattle.cc_scope.proofs.NameNumbers.{get-numbered, IsNumbered-new, IsNumbered-again}
use Rattle.cc_scope.proofs.numbering.Numbering.add.Goals as goal

pub returns-in-Some-clause-ok : goal.returns-in-Some-clause-ok
returns-in-Some-clause-ok c =
    let names = numbered_in c.self.inside.numbers.entries in
    let known : number_of_name names c.args.name.now ≡ Some c.in-Some.number =
    sym (get-numbered c.self.inside.numbers c.args.name) ∙ sym c.get.ensures.value ∙ sym c.copied.ensures ∙ c.in-Some.is in
    subst (λ v. IsNumbered v v c.args.name.now c.in-Some.number) c.self.view_is (IsNumbered-again names c.args.name.now c.in-Some.number c.self.invariant known)

pub invariant_of-self-2 : goal.invariant_of-self-2
invariant_of-self-2 c =
    let old = c.self.inside.numbers in
    let none = sym c.in_default.is ∙ c.copied.ensures ∙ c.get.ensures.value in
    let is = IsNumbered-new old c.insert.new.self c.args.name c.len-next.result c.self.invariant c.len-next.ensures.len none c.in_ok-insert.ensures.updates.0
    (c.in_ok-insert.ensures.len ∙ ap (λ o. length old.entries + (if is_some o then 0 else 1)) (c.in_ok-insert.ensures.old ∙ sym none)) in
    is.numbers

pub returns-clause-ok : goal.returns-clause-ok
returns-clause-ok c =
    let old = c.self.inside.numbers in
    let none = sym c.in_default.is ∙ c.copied.ensures ∙ c.get.ensures.value in
    let is = IsNumbered-new old c.insert.new.self c.args.name c.len-next.result c.self.invariant c.len-next.ensures.len none c.in_ok-insert.ensures.updates.0
    (c.in_ok-insert.ensures.len ∙ ap (λ o. length old.entries + (if is_some o then 0 else 1)) (c.in_ok-insert.ensures.old ∙ sym none)) in
    subst (λ v. IsNumbered v (numbered_in c.insert.new.self.entries) c.args.name.now c.len-next.result) c.self.view_is is
