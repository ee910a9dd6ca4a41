use Rattle.cc_runs.proofs.Counting.{few_at_start, has_run}
use Rattle.cc_runs.proofs.count.run_on.Goals as goal

pub returns-clause-run : goal.returns-clause-run
returns-clause-run c =
    let image = c.args.image.now in
    let words = c.args.words.now in
    let start = c.in-Ok.ensures.start in
    let e = c.in_ok-go_on.ensures in
    has_run image words c.args.steps c.in_ok-go_on.field-0 c.args.most c.go_on.new.machine e.left (e.after image words 0 start)
    (e.few (few_at_start image words c.args.most c.restart.new.self start)) (λ some more p. e.over some image words 0 more start p)
