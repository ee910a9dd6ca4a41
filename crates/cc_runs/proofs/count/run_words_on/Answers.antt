use Rattle.cc_runs.specs.Within.{IsCountedWithin}
use Rattle.cc_runs.proofs.Counting.{Shows, on_ok, whole}
use Rattle.cc_runs.proofs.count.run_words_on.Goals as goal

pub returns : goal.returns
returns c =
    let image = c.args.image.now in
    let words = c.args.words.now in
    let executed = c.in_ok-executed.executed in
    on_ok (Shows c.run_on.new.machine executed) (IsCountedWithin image c.args.is_counted c.args.steps c.args.most words)
    (λ r s. whole image words c.args.steps c.args.most c.args.is_counted c.run_on.new.machine executed c.in_ok-executed.ensures.run c.in_ok-executed.ensures.asked r s)
    c.run_so_far.result c.run_so_far.ensures
