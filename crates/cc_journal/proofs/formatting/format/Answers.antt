use Rattle.std.proofs.Common.{◌≡◌, ◌++◌, ◌∷◌, ℕ, drop, length, ◌∙◌, ap, subst, arith}
use Rattle.std.proofs.lemmas.Grind.{common_steps}
use Rattle.cc_journal.specs.Format.{header, IsArea}
use Rattle.cc_journal.proofs.Bytes.{empty_holds}
use Rattle.cc_journal.proofs.Records.{holds_alone}
use Rattle.cc_journal.proofs.formatting.format.Goals as goal

pub returns-clause-kept : goal.returns-clause-kept
returns-clause-kept g c = λ h image now.
    let D = g.D.Disk in
    let area = c.args.area in
    let rest = drop 17 (D.seen c.args.disk.now) in
    let written : D.seen c.write_at.new.self ≡ header 0 area ++ (0 ∷ rest) = grind (arith, common_steps) in
    let is = c.in_ok-sync.ensures.settled h image now in
    let long = ap length is ∙ g.met.D.Disk.has_size c.write_at.new.self h ∙ c.write_at.ensures.size in
    holds_alone image area _ (empty_holds image rest (D.size c.args.disk.now) area (is ∙ written) long (subst (λ (n : ℕ). IsArea n area) c.size.ensures (c.is_area.ensures.0 c.if-not-is_area.false)))
