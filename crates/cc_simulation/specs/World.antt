-- What the functions of a unit share, by number; what a call of a function passes and answers; and the changes that every
-- language makes: an element read and stored, a word read and written.
use Rattle.std.specs.Prelude.{◌≡◌, ℕ, if◌then◌else◌, List, [], ◌∷◌, ◌++◌, length, map, get_or, set, slice_get, Option, None, option_map}
use Rattle.cc_words.specs.declared.operators.Width.{Width}
use Rattle.cc_words.specs.declared.operators.Width.TheVariants.{Word}
use Rattle.cc_words.specs.Widths.{same_width, kept}
use Rattle.cc_words.specs.Observed.{read_mark}
use Rattle.cc_simulation.specs.Behavior.{AreWords}

-- an object: how wide its elements are, and the word of each
pub record Object : Type 0 where
  pub width : Width
  pub words : List ℕ

-- what remains of an object whatever is stored in it: how wide its elements are, and how many it has
pub record Size : Type 0 where
  pub width : Width
  pub elements : ℕ

abbrev pub size_of : Object → Size
size_of o = record { width = o.width; elements = length o.words }

-- the objects, the rest of the input, the output so far with a mark for each read
pub record World : Type 0 where
  pub globals : List Object
  pub input : List ℕ
  pub output : List ℕ

-- a call: the function's number, the words of its arguments, and what is shared
pub record Question : Type 0 where
  pub function : ℕ
  pub arguments : List ℕ
  pub world : World

-- what a call answers, and what a run of a function ends with
pub record Answer : Type 0 where
  pub value : ℕ
  pub world : World

-- the effect of a call within a number of steps: an answer and the number of steps left; or no step is left, or it goes wrong,
-- each with the output so far
pub data Effect : Type 0 where
  Gives : Answer → ℕ → Effect
  Unfinished : List ℕ → Effect
  Failed : List ℕ → Effect

-- an object by its number; if there is none, it has no elements
abbrev pub object_of : World → (object : ℕ) → Object
object_of h object = get_or h.globals object (record { width = Word; words = [] })

abbrev pub object_words : World → (object : ℕ) → List ℕ
object_words h object = (object_of h object).words

-- the size of an object by its number
abbrev pub size_in : List Size → (object : ℕ) → Size
size_in objects object = get_or objects object (record { width = Word; elements = 0 })

-- each object has its size, and all values are words, those of the input too
pub record IsWorld (objects : List Size) (h : World) : Type 0 where
  pub sizes : map size_of h.globals ≡ objects
  pub globals : (g : ℕ) → AreWords (object_words h g)
  pub input : AreWords h.input

-- ---- what every language does to a world

-- the first of these words, or 0; and the others
abbrev pub first_or_zero : List ℕ → ℕ
first_or_zero [] = 0
first_or_zero (w ∷ ws) = w

abbrev pub rest_of : List ℕ → List ℕ
rest_of [] = []
rest_of (w ∷ ws) = ws

-- an element's word; None if there is no such element, or the elements have another width
abbrev pub element : World → Width → (object index : ℕ) → Option ℕ
element h width object index = if same_width (object_of h object).width width then slice_get (object_words h object) index else None

-- the object with a word in an element
abbrev pub object_with : Object → (index word : ℕ) → Object
object_with o index word = record o { words = set o.words index word }

-- the world with a word in an element
abbrev pub with_element : World → (object index word : ℕ) → World
with_element h object index word = record h { globals = set h.globals object (object_with (object_of h object) index word) }

-- the world after a word is stored in an element, which keeps the part that fits; None if there is no such element
abbrev pub stored : World → Width → (object index word : ℕ) → Option World
stored h width object index word = option_map (λ old. with_element h object index (kept width word)) (element h width object index)

-- the next word of the input, or 0, and the world without it, whose output has a mark of the read
abbrev pub next_word : World → ℕ
next_word h = first_or_zero h.input

abbrev pub after_read : World → World
after_read h = record h { input = rest_of h.input; output = h.output ++ read_mark ∷ [] }

-- the world after one more word is written
abbrev pub after_write : (word : ℕ) → World → World
after_write word h = record h { output = h.output ++ word ∷ [] }
