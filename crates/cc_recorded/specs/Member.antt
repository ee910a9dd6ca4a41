-- What the type of a member keeps.
use Rattle.std.specs.Prelude.{◌≡◌, ℕ, length}
use Rattle.cc_history.specs.History.{MemberView, IsOwn}

-- a member has one part of the ledger; its share counts its receipts, which are those of its own calls
pub record IsMember (client : MemberView) (parts amount : ℕ) : Type 0 where
  pub part : parts ≡ 1
  pub counted : amount ≡ length client.receipts
  pub own : IsOwn client
