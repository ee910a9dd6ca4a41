-- The pass has sent the functions of one job, all or the first ones: those of the text's program, whose tree is the unit's.
use Rattle.std.proofs.Common.{◌≡◌, ◌++◌, ℕ, length, inr, List, ap, ◌∙◌, subst}
use Rattle.std.specs.Arc.{arc_value}
use Rattle.cc_ast.specs.Source.{source}
use Rattle.cc_ast.specs.Tree.{Source}
use Rattle.cc_types.specs.Typed.{defined_names}
use Rattle.cc_link.specs.Meaning.{functions}
use Rattle.cc_link.specs.Text.{IsProgramText}
use Rattle.cc_link.proofs.Deciding.{defined_long}
use Rattle.cc_pool.specs.Shared.{HasSentSome, pieces_of}
use Rattle.cc_pool.specs.declared.item.Item.{Item}
use Rattle.cc_service.specs.Compiling.{HasHandedIn, HasSentFor}
use Rattle.cc_service.proofs.compiling.handed_in.Goals as goal

of_tree : (s other : Source) (before after : List Item) → other ≡ s → IsProgramText s.text s.externals → HasSentSome before after (length (defined_names other)) → HasSentFor s.text before after
of_tree s other before after same program some =
    let its = subst (λ (t : Source). HasSentSome before after (length (defined_names t))) same some in
    inr (s.externals, program, subst (λ (n : ℕ). HasSentSome before after n) (defined_long s) its)

all_of : (s other : Source) (before after : List Item) (job count : ℕ) → other ≡ s → IsProgramText s.text s.externals → count ≡ length (defined_names other) → after ≡ before ++ pieces_of job count
    → HasHandedIn s.text before after
all_of s other before after job count same program its sent =
    let long : count ≡ length (functions s.externals) = its ∙ ap (λ (t : Source). length (defined_names t)) same ∙ defined_long s in
    record { tree = s.externals; program = program; job = job; sent = sent ∙ ap (λ (n : ℕ). before ++ pieces_of job n) long }

pub invariant_of-result : goal.invariant_of-result
invariant_of-result g c =
    let s = source (arc_value c.args.unit) in
    let same : source (arc_value c.in-Ok.theirs) ≡ s = cc c.in-Ok.ensures in
    (c.requires.program, c.in-Ok-submit_in.ensures.text ∙ ap (λ (t : Source). t.text) same, c.in-Ok-submit_in.ensures.mode, c.in-Ok-submit_in.ensures.functions ∙ ap (λ (t : Source). length (defined_names t)) same)

pub returns-in-Ok-submit_in-clause-handed : goal.returns-in-Ok-submit_in-clause-handed
returns-in-Ok-submit_in-clause-handed g c =
    let s = source (arc_value c.args.unit) in
    let other = source (arc_value c.in-Ok.theirs) in
    let same : other ≡ s = cc c.in-Ok.ensures in
    all_of s other c.args.pass.now.sent c.submit_in.new.pass.sent c.in-Ok-submit_in.ticket.number c.in-Ok-submit_in.ticket.functions same c.requires.program c.in-Ok-submit_in.ensures.functions c.in-Ok-submit_in.ensures.sent

pub returns-in-Ok-submit_in-clause-sent : goal.returns-in-Ok-submit_in-clause-sent
returns-in-Ok-submit_in-clause-sent g c =
    of_tree (source (arc_value c.args.unit)) (source (arc_value c.in-Ok.theirs)) c.args.pass.now.sent c.submit_in.new.pass.sent (cc c.in-Ok.ensures) c.requires.program c.submit_in.ensures.some

pub returns-in-Err-OutOfMemory-clause-sent : goal.returns-in-Err-OutOfMemory-clause-sent
returns-in-Err-OutOfMemory-clause-sent g c =
    of_tree (source (arc_value c.args.unit)) (source (arc_value c.in-Ok.theirs)) c.args.pass.now.sent c.submit_in.new.pass.sent (cc c.in-Ok.ensures) c.requires.program c.submit_in.ensures.some

pub returns : goal.returns
returns g c =
    let s = source (arc_value c.args.unit) in
    record {
      text = tt;
      mode = tt;
      handed = tt;
      refused = record { tree = s.externals; is = c.requires.program };
      sent = of_tree s (source (arc_value c.in-Ok.theirs)) c.args.pass.now.sent c.submit_in.new.pass.sent (cc c.in-Ok.ensures) c.requires.program c.submit_in.ensures.some;
    }
