-- Which text a byte of the whole comes from.
use Rattle.std.specs.Prelude.{ℕ, zero, suc, ◌≡◌, ◌+◌, ◌<◌, ◌≤◌, List, [], ◌∷◌, length, Some, slice_get}
use Rattle.cc_tokens.specs.Place.{place_of}
use Rattle.cc_sources.specs.Joined.{closed}
use Rattle.cc_sources.specs.declared.text.NamedText.{NamedText}
use Rattle.cc_sources.specs.declared.place.TextPlace.{TextPlace}

-- the byte of the whole at which the text with this number begins
abbrev pub begin_of : List NamedText → (number : ℕ) → ℕ
begin_of texts zero = 0
begin_of [] (suc number) = 0
begin_of (text ∷ further) (suc number) = length (closed text further) + begin_of further number

-- A byte of the whole belongs to this text: the text begins as many bytes before it as its offset says, and has a byte at that
-- offset or ends there; if there is a next text, it begins after the byte. The line and the column are those in the text.
pub record IsIn (texts : List NamedText) (at : ℕ) (found : TextPlace) : Type 0 where
  pub text : NamedText
  pub there : slice_get texts found.number ≡ Some text
  pub begins : at ≡ begin_of texts found.number + found.at
  pub within : found.at ≤ length text.bytes.items
  pub before_next : suc found.number < length texts → at < begin_of texts (suc found.number)
  pub place : found.place ≡ place_of text.bytes.items found.at
