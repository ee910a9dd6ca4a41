-- What a run reads and writes, word by word, and the lines for it.
use Rattle.std.specs.Prelude.{◌≡◌, ℕ, List, [], ◌∷◌, ◌++◌, codes}
use Rattle.std.specs.List.{flat_map}
use Rattle.cc_meaning.specs.Erase.{events_tree}
use Rattle.cc_meaning.specs.declared.outcome.Event.{Event}
use Rattle.cc_meaning.specs.declared.outcome.Event.TheVariants as event
use Rattle.cc_rv32.specs.Listing.{signed_text}
use Rattle.cc_rv32.specs.Machine.{first_or_zero, rest_of}
use Rattle.cc_answers.specs.Text.{line}
use Rattle.cc_steps.specs.declared.observe.Exchange.{Exchange}
use Rattle.cc_steps.specs.declared.observe.Exchange.TheVariants.{Read, Wrote}

-- the word of an event: a read takes the next word of the input, or 0 past its end
abbrev pub exchange_of : Event → (input : List ℕ) → Exchange
exchange_of event.Read input = Read (first_or_zero input)
exchange_of (event.Wrote w) input = Wrote w

-- the input after an event
abbrev pub after_exchange : Event → (input : List ℕ) → List ℕ
after_exchange event.Read input = rest_of input
after_exchange (event.Wrote w) input = input

-- the words of events, in their order
abbrev pub exchanged : List Event → (input : List ℕ) → List Exchange
exchanged [] input = []
exchanged (e ∷ es) input = exchange_of e input ∷ exchanged es (after_exchange e input)

-- these are the words that a run with this output, in which each read has a mark, read from the input and wrote
pub record IsExchanged (output input : List ℕ) (words : List Exchange) : Type 0 where
  pub events : List Event
  pub shown : events_tree events ≡ output
  pub each : words ≡ exchanged events input

-- the line of a word
abbrev pub exchange_text : Exchange → List ℕ
exchange_text (Read w) = line (codes "read " ++ signed_text w)
exchange_text (Wrote w) = line (codes "write " ++ signed_text w)

abbrev pub exchanges_text : List Exchange → List ℕ
exchanges_text words = flat_map exchange_text words
