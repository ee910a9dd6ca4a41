use Rattle.std.proofs.Common.{◌≡◌, ◌-◌, ◌++◌, ℕ, List, Option, None, IfSome, length, map, take, drop, unwrap_or, ap, ◌∙◌, subst}
use Rattle.cc_meaning.specs.declared.outcome.Event.TheVariants.{Wrote as Put}
use Rattle.cc_rv32.specs.Simulation.{StopsToRead, Wrote}
use Rattle.cc_steps.proofs.Observing.{went_to_read, went_on}
use Rattle.cc_steps.proofs.observe.go_on.Goals as goal

pub returns-in_default-stop-clause-went : goal.returns-in_default-stop-clause-went
returns-in_default-stop-clause-went c =
    let m = c.args.machine.now in
    let t = c.run_to_read.new.self in
    let before = c.args.events.now.items in
    let known = length c.output-known.result.now in
    let none : c.in-Ok.stop ≡ None = c.in_default-stop.is in
    went_to_read c.args.left 0 known m t before c.push_words.new.events.items c.in-Ok.ensures.code
    (subst (λ (o : Option ℕ). Wrote m.code (c.args.left - unwrap_or o 0) m t) none c.in-Ok.ensures.wrote)
    (ap (λ (l : List ℕ). length l) c.output-known.ensures.words)
    (c.in_ok-push_words.ensures ∙ ap (λ (l : List ℕ). before ++ map Put (take (length l - known) (drop known l))) c.output.ensures.words)

pub returns-clause-went : goal.returns-clause-went
returns-clause-went c =
    let m = c.args.machine.now in
    let s = c.run_to_read.new.self in
    let t = c.run.new.self in
    let rest = c.in-Some.rest in
    let before = c.args.events.now.items in
    let between = c.push_words.new.events.items in
    let known = length c.output-known.result.now in
    let w = went_to_read c.args.left rest known m s before between c.in-Ok.ensures.code
    (subst (λ (o : Option ℕ). Wrote m.code (c.args.left - unwrap_or o 0) m s) c.in-Some.is c.in-Ok.ensures.wrote)
    (ap (λ (l : List ℕ). length l) c.output-known.ensures.words)
    (c.in_ok-push_words.ensures ∙ ap (λ (l : List ℕ). before ++ map Put (take (length l - known) (drop known l))) c.output.ensures.words) in
    let stops = subst (λ (o : Option ℕ). IfSome o (λ n. StopsToRead c.args.left n s)) c.in-Some.is c.in-Ok.ensures.read in
    went_on c.args.left rest m s t before between c.push.new.self.items stops w c.in-Ok-run.ensures.code c.in-Ok-run.ensures.run c.in_ok-push.ensures.items
