-- Answers that are written and then flushed.
use Rattle.std.proofs.Common.{◌≡◌, ℕ, Bool, true, List, Option, Result, Ok, Err, OnOk}
use Rattle.std.specs.Prelude.{IsOk}
use Rattle.std.proofs.KnownBytes.{Appends-kept}
use Rattle.std.specs.Io.KnownBytes.{Appends, Keeps}

-- if a text was written, and the flush succeeded, the writer still has the text after the flush
pub settled_text : {T E : Type 0} (write : Result T E) (a b c : Option (List ℕ)) (text : List ℕ) (written : Bool) (status given : ℕ) → OnOk write (Appends a b text)
    → (written ≡ true → IsOk write × Keeps b c × (status ≡ given)) → written ≡ true → Appends a c text × (status ≡ given)
settled_text (Ok done) a b c text written status given one two is = (Appends-kept a b c text one (two is).1, (two is).2)
settled_text (Err e) a b c text written status given one two is = let no = (two is).0 in absurd (cc)
