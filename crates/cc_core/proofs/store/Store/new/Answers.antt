-- The disk is formatted, and its sync has settled every byte.
use Rattle.std.proofs.Common.{◌≡◌, ◌+◌, ◌*◌, true, refl, sym, ap, subst, ◌∙◌, arith, length, drop, ◌∷◌, ◌++◌}
use Rattle.std.specs.Prelude.{OnOk}
use Rattle.std.proofs.lemmas.List.{length-replicate}
use Rattle.cc_disk.specs.Model.{bytes_of, settled}
use Rattle.cc_journal.specs.Format.{header}
use Rattle.cc_core.proofs.store.Store.new.Goals as goal

pub returns : goal.returns
returns c =
    let area = c.args.area in
    let size : length c.sync.new.self.cells ≡ 16 + 2 * area =
    c.sync.ensures.size ∙ c.format.ensures.size ∙ ap length c.in_ok-disk.ensures.cells ∙ length-replicate (16 + 2 * area) (settled 0) in
    let formatted = subst
    (λ r. OnOk r (true ≡ true → bytes_of c.format.new.disk.cells ≡ header 0 area ++ (0 ∷ drop 17 (bytes_of c.in_ok-disk.disk.cells))))
    c.unwrap.ensures c.format.ensures.bytes in
    record {
      size = size;
      is_area = record { least = c.requires.least; most = c.requires.most; room = omega (arith, size) };
      same_area = refl;
      rest = drop 17 (bytes_of c.in_ok-disk.disk.cells);
      bytes = c.sync.ensures.seen ∙ formatted refl;
      alone = λ image now. c.sync.ensures.settled image now ∙ sym c.sync.ensures.seen;
      first_area = refl;
      unused = refl;
    }
