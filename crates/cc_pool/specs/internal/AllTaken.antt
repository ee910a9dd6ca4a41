-- What the pool's own pass knows once all passes are back.
use Rattle.std.specs.Prelude.{◌≡◌, IsPermutation}
use Rattle.cc_pool.specs.declared.rule.Role.TheVariants.{Owner}
use Rattle.cc_pool.specs.declared.rule.Hand.{Hand}

-- if the pool's own pass has as many joins as splits, what was sent is a permutation of what was taken
abbrev pub AllTaken : Hand → Type 0
AllTaken v = v.role ≡ Owner → v.splits ≡ v.joins → IsPermutation v.sent v.taken
