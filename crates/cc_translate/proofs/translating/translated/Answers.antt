use Rattle.std.proofs.Common.{List, ap, sym, subst, ◌∙◌}
use Rattle.cc_ast.specs.Erase.{external_trees}
use Rattle.cc_ast.specs.Source.{source}
use Rattle.cc_ast.specs.Tree.{External}
use Rattle.cc_ast.specs.declared.unit.Unit.{Unit}
use Rattle.cc_wide_text.specs.Program.{IsMarkedTree}
use Rattle.cc_translate.proofs.Answering.{not_printed_refused, fault_refused}
use Rattle.cc_translate.proofs.translating.translated.Goals as goal

pub returns-in-Err-print-clause-refused : goal.returns-in-Err-print-clause-refused
returns-in-Err-print-clause-refused c =
    let wide = c.args.wide.now in
    let marked = external_trees c.externals-marked.result.now in
    let m : IsMarkedTree wide marked = subst (λ (z : List External). IsMarkedTree wide z) (sym (c.externals-marked.ensures.tree ∙ ap (λ (u : Unit). (source u).externals) c.unit.ensures)) c.in-Ok.ensures.read in
    not_printed_refused wide marked c.keeps_labels.result c.not_printed.result m c.keeps_labels.ensures c.not_printed.ensures

pub returns-clause-refused : goal.returns-clause-refused
returns-clause-refused c =
    let wide = c.args.wide.now in
    let marked = external_trees c.externals-marked.result.now in
    let m : IsMarkedTree wide marked = subst (λ (z : List External). IsMarkedTree wide z) (sym (c.externals-marked.ensures.tree ∙ ap (λ (u : Unit). (source u).externals) c.unit.ensures)) c.in-Ok.ensures.read in
    fault_refused wide c.as_slice.result.now marked c.in-Err-compare.difference c.fault_of.result m c.in-Err-compare.ensures.refused c.fault_of.ensures
