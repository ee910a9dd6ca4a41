-- Setting one piece of one job through the map of entries is an insertion into the finite map.
use Rattle.std.proofs.Common.{◌≡◌, ℕ, List, sym, ap, ◌∙◌, cond, Some}
use Rattle.std.specs.Prelude.{slice_set}
use Rattle.std.specs.Ordering.{nat_cmp}
use Rattle.std.specs.Cmp.{nat_cmp_total}
use Rattle.std.specs.BTreeMap.{BTreeMap, is_at}
use Rattle.std.specs.BTreeMap as tree
use Rattle.std.specs.FinMap.{get, insert, from_entries, nat_cmp-IsAntisymmetric}
use Rattle.cc_core.specs.declared.job.Job.{Job}
use Rattle.cc_core.specs.declared.job.Progress.{Progress}
use Rattle.cc_core.specs.declared.ids.ClientId.{ClientId}
use Rattle.cc_core.specs.declared.ids.PartIndex.{PartIndex}
use Rattle.cc_core.specs.Job.{with_piece}
use Rattle.cc_library.proofs.Tables.{get-map, insert-map}

module _ {P : Type 0} where
  pub set_piece-map : (m n : BTreeMap ℕ (Job P)) (client : ClientId) (part : PartIndex) (progress : Progress P) (found job : Job P) (pieces : List (Progress P))
      → Some found ≡ tree.get nat_cmp m client.number → get (from_entries {R = nat_cmp} m.entries) client.number ≡ Some job
      → pieces ≡ slice_set found.pieces part.index progress
      → ((q : ℕ) → tree.get nat_cmp n q ≡ cond (is_at (nat_cmp client.number) q) (Some (record found { pieces = pieces })) (tree.get nat_cmp m q))
      → from_entries {R = nat_cmp} n.entries ≡ insert (from_entries m.entries) client.number (with_piece job part progress)
  set_piece-map m n client part progress found job pieces at is set all =
      let both : Some found ≡ Some job = at ∙ sym (get-map nat_cmp_total m client.number) ∙ is in
      let same : found ≡ job = cc in
      insert-map nat_cmp_total nat_cmp-IsAntisymmetric m n client.number (record found { pieces = pieces }) all
      ∙ ap (insert (from_entries m.entries) client.number) (ap (λ (ps : List (Progress P)). record found { pieces = ps }) set ∙ ap (λ j. with_piece j part progress) same)
