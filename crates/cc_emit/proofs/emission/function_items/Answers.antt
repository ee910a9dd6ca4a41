use Rattle.std.proofs.Common.{◌<◌, ℕ, List, sym, ◌∙◌, ap, subst}
use Rattle.std.specs.List.{AllByRecursion}
use Rattle.cc_select.specs.declared.step.Step.{Step}
use Rattle.cc_select.specs.Selected.{labels, IsStep}
use Rattle.cc_emit.specs.Function.{whole_items}
use Rattle.cc_emit.specs.internal.Ahead.{shown}
use Rattle.cc_emit.specs.internal.Bases.{base_in}
use Rattle.cc_emit.proofs.Ahead.{ahead_says, early_whole, head_handed, rest_handed, rest_from}
use Rattle.cc_emit.proofs.emission.function_items.Goals as goal

pub whole_items-requires-2-clause-labels : goal.whole_items-requires-2-clause-labels
whole_items-requires-2-clause-labels c =
    let code = c.args.code.now in
    let a = c.in-Some.ahead in
    let count = c.label_count-count.result in
    let is = ahead_says c.args.slots code c.in_ok-ahead.field-0 a c.in-Some.is c.in_ok-ahead.ensures.found in
    subst (λ (steps : List Step). AllByRecursion (λ label. label < count) (labels steps)) (sym c.as_slice.ensures.value)
    (head_handed c.args.slots count c.requires.fit.0 code (shown code a) is c.label_count-count.ensures c.requires.fit.1).labels_below

pub whole_items-requires-2-clause-fit : goal.whole_items-requires-2-clause-fit
whole_items-requires-2-clause-fit c =
    let code = c.args.code.now in
    let a = c.in-Some.ahead in
    let count = c.label_count-count.result in
    let is = ahead_says c.args.slots code c.in_ok-ahead.field-0 a c.in-Some.is c.in_ok-ahead.ensures.found in
    subst (λ (steps : List Step). (functions : ℕ) × (all : List ℕ) × AllByRecursion (λ label. label < count) all × AllByRecursion (IsStep 0 functions all) steps) (sym c.as_slice.ensures.value)
    (head_handed c.args.slots count c.requires.fit.0 code (shown code a) is c.label_count-count.ensures c.requires.fit.1).fit

pub whole_items-requires-3-clause-labels : goal.whole_items-requires-3-clause-labels
whole_items-requires-3-clause-labels c =
    let code = c.args.code.now in
    let a = c.in-Some.ahead in
    let count = c.label_count-count.result in
    let is = ahead_says c.args.slots code c.in_ok-ahead.field-0 a c.in-Some.is c.in_ok-ahead.ensures.found in
    subst (λ (steps : List Step). AllByRecursion (λ label. label < count) (labels steps)) (sym (rest_from code a.taken))
    (rest_handed c.args.slots count c.requires.fit.0 code (shown code a) is c.label_count-count.ensures c.requires.fit.1).labels_below

pub whole_items-requires-3-clause-fit : goal.whole_items-requires-3-clause-fit
whole_items-requires-3-clause-fit c =
    let code = c.args.code.now in
    let a = c.in-Some.ahead in
    let count = c.label_count-count.result in
    let is = ahead_says c.args.slots code c.in_ok-ahead.field-0 a c.in-Some.is c.in_ok-ahead.ensures.found in
    subst (λ (steps : List Step). (functions : ℕ) × (all : List ℕ) × AllByRecursion (λ label. label < count) all × AllByRecursion (IsStep c.args.slots functions all) steps) (sym (rest_from code a.taken))
    (rest_handed c.args.slots count c.requires.fit.0 code (shown code a) is c.label_count-count.ensures c.requires.fit.1).fit

pub returns : goal.returns
returns c =
    let code = c.args.code.now in
    let base = base_in c.args.bases.now in
    let a = c.in-Some.ahead in
    let is = ahead_says c.args.slots code c.in_ok-ahead.field-0 a c.in-Some.is c.in_ok-ahead.ensures.found in
    early_whole base c.args.slots code (shown code a) c.in_ok-items.items.items c.as_slice-2.result.now c.put_behind.new.items.items is
    (c.in_ok-items.ensures ∙ ap (whole_items base 0) c.as_slice.ensures.value)
    (c.as_slice-2.ensures.value ∙ c.in_ok-rest.ensures ∙ ap (whole_items base c.args.slots) (rest_from code a.taken)) c.in_ok-put_behind.ensures
