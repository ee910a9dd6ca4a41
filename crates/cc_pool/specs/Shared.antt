-- What contracts say about passes.
use Rattle.std.specs.Prelude.{◌≡◌, ℕ, zero, suc, ◌≤◌, List, [], ◌∷◌, ◌++◌, IsPermutation}
use Rattle.cc_pool.specs.declared.item.Item.{Item}
use Rattle.cc_pool.specs.declared.item.Item.TheVariants.{Piece, Stop}

-- what a pass has sent and taken
pub record Lists : Type 0 where
  pub sent : List Item
  pub taken : List Item

abbrev pub piece_of : (job function : ℕ) → Item
piece_of job function = Piece (record { job = job; function = function })

-- the items of `count` functions of a job, from `function` on, in the order of definitions
abbrev pub pieces_from : (job function count : ℕ) → List Item
pieces_from job function zero = []
pieces_from job function (suc count) = piece_of job function ∷ pieces_from job (suc function) count

-- the items of the first `count` functions of a job
abbrev pub pieces_of : (job count : ℕ) → List Item
pieces_of job = pieces_from job 0

-- this many items that make a worker stop
abbrev pub stops : ℕ → List Item
stops zero = []
stops (suc n) = Stop ∷ stops n

-- what passes have sent, one after the other
abbrev pub sent_by : List Lists → List Item
sent_by [] = []
sent_by (p ∷ ps) = p.sent ++ sent_by ps

-- the list grew by the items of the first functions of one job, at most `most` of them, each once and in the order of
-- definitions, and by nothing else
pub record HasSentSome (before after : List Item) (most : ℕ) : Type 0 where
  pub job : ℕ
  pub count : ℕ
  pub within : count ≤ most
  pub sent : after ≡ before ++ pieces_of job count

-- All that was sent is a stop item for each worker, followed by what the passes have sent. All that was taken is a permutation of this
pub record IsDrained (workers : ℕ) (passes : List Lists) (all : Lists) : Type 0 where
  pub sent : all.sent ≡ stops workers ++ sent_by passes
  pub once : IsPermutation all.sent all.taken
