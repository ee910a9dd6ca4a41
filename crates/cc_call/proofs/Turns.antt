-- One line after another: one more line that was answered, and what became of all.
use Rattle.std.proofs.Common.{◌≡◌, ◌≢◌, inl, inr, ◌∙◌, ℕ, ◌+◌, ◌-◌, ◌<◌, ◌^◌, Bool, true, false, ◌||◌, IsTrue, List, [], ◌∷◌, ◌++◌, length, Option, Some, None, refl, sym, ap, subst, arith}
use Rattle.std.specs.Prelude.{IfSome}
use Rattle.std.specs.List.{list_any}
use Rattle.std.proofs.lemmas.List.Folds.{list_any-append}
use Rattle.std.proofs.lemmas.Option.{none-some, same_Some}
use Rattle.std.proofs.KnownBytes.{Appends-kept}
use Rattle.std.specs.Io.KnownBytes.{Keeps}
use Rattle.std.specs.Io.BufRead.{drop_through, first_piece}
use Rattle.cc_rv32.specs.declared.image.Image.{Image}
use Rattle.cc_runs.specs.Reading.{IsNextLine}
use Rattle.cc_runs.specs.declared.reading.ReadLine.{ReadLine}
use Rattle.cc_runs.specs.declared.reading.ReadLine.TheVariants.{Whole, TooLong}
use Rattle.cc_call.specs.Call.{AnswersLine}
use Rattle.cc_call.specs.Lines.{AnswersBounded, AnswersLines, CallsLines, LineTurn, is_bad, is_bad_end, is_lack, is_lack_end}
use Rattle.cc_call.specs.internal.Reading.{AnswersRead, IsToldUnread, end_after}
use Rattle.cc_call.specs.declared.lines.LineEnd.{LineEnd}
use Rattle.cc_call.specs.declared.lines.LineEnd.TheVariants as line
use Rattle.cc_call.specs.declared.lines.LinesEnd.{LinesEnd}
use Rattle.cc_call.specs.declared.lines.LinesEnd.TheVariants.{Answered, Refused, Unwritten}

-- ---- one answer

-- if a line was answered and the answer was then flushed, the line is answered
flushed_on : (image : Image) (counted : Bool) (steps : ℕ) (most : Option ℕ) (bytes : List ℕ) (a b c : Option (List ℕ)) (end : LineEnd) → AnswersLine image counted steps most bytes a b end → Keeps b c → AnswersLine image counted steps most bytes a c end
flushed_on image counted steps most bytes a b c (line.Answered is_final) it kept = (it.0, it.1, (it.2.0, it.2.1, Appends-kept a b c _ it.2.2 kept, it.2.3))
flushed_on image counted steps most bytes a b c line.BadLine it kept = (it.0, Appends-kept a b c _ it.1 kept)
flushed_on image counted steps most bytes a b c line.OutOfMemory it kept = Appends-kept a b c _ it kept

-- the same if it may be too long
pub answered_on : (image : Image) (counted : Bool) (steps : ℕ) (most : Option ℕ) (read : ReadLine) (bytes : List ℕ) (a b c : Option (List ℕ)) (end : LineEnd) → AnswersRead image counted steps most read bytes a b end → Keeps b c
    → AnswersRead image counted steps most read bytes a c end
answered_on image counted steps most Whole bytes a b c end it kept = flushed_on image counted steps most bytes a b c end it kept
answered_on image counted steps most TooLong bytes a b c end it kept = (it.0, Appends-kept a b c _ it.1 kept)

-- no bytes have no line that is too long
some_long : (input : List ℕ) → 16777216 < length (first_piece 10 input) → input ≢ []
some_long input long none =
    let short : 16777216 < length (first_piece 10 []) = subst (λ (l : List ℕ). 16777216 < length (first_piece 10 l)) none long in
    omega (arith, short)

-- if the first line of an input was read and answered, this is the answer to that line, and the bytes after it are left
answered_first : (image : Image) (counted : Bool) (steps : ℕ) (most : Option ℕ) (read : ReadLine) (input bytes : List ℕ) (after mid new : Option (List ℕ)) (end : LineEnd) → IsNextLine (Some input) after bytes (Some read)
    → AnswersRead image counted steps most read bytes mid new end
    → (input ≢ []) × (after ≡ Some (drop_through 10 input)) × AnswersBounded image counted steps most (first_piece 10 input) mid new end
answered_first image counted steps most Whole input bytes after mid new end next one =
    (next.0, next.3, inl (next.2, subst (λ (l : List ℕ). AnswersLine image counted steps most l mid new end) next.1 one))
answered_first image counted steps most TooLong input bytes after mid new end next one = (some_long input next.0, next.1, inr (next.0, one.0, one.1))

-- ---- lines so far

-- how these lines ended so far
abbrev pub AreSoFar : List LineTurn → LinesEnd → Type 0
AreSoFar turns Answered = (list_any is_bad turns ≡ false) × (list_any is_lack turns ≡ false)
AreSoFar turns Refused = IsTrue (list_any is_bad turns) × (list_any is_lack turns ≡ false)
AreSoFar turns Unwritten = ⊥

-- `number` lines of an input were answered, and `left` remains of it
pub record HasCalled (image : Image) (counted : Bool) (steps : ℕ) (most : Option ℕ) (input : List ℕ) (old : Option (List ℕ)) (number : ℕ) (end : LinesEnd) (remaining new : Option (List ℕ)) : Type 0 where
  pub turns : List LineTurn
  pub left : List ℕ
  pub remains : remaining ≡ Some left
  pub answers : AnswersLines image counted steps most input old turns left new
  pub so_far : AreSoFar turns end
  pub number_is : length turns ≡ number

either : (a b : Bool) → (a || b) ≡ false → (a ≡ false) × (b ≡ false)
either true b e = absurd (cc e)
either false b e = (refl, e)

none_of_two : (a b : Bool) → a ≡ false → b ≡ false → (a || b) ≡ false
none_of_two true b e f = absurd (cc e)
none_of_two false b e f = f

left_of : (a b : Bool) → a ≡ true → (a || b) ≡ true
left_of true b e = refl
left_of false b e = absurd (cc e)

right_of : (a b : Bool) → b ≡ true → (a || b) ≡ true
right_of true b e = refl
right_of false b e = e

or_none : (a : Bool) → (a || false) ≡ a
or_none true = refl
or_none false = refl

-- if a turn is added to a list, `p` holds for one of the turns exactly if it held for one before, or holds
-- for the added one
any_push : (p : LineTurn → Bool) (turns : List LineTurn) (turn : LineTurn) → list_any p (turns ++ turn ∷ []) ≡ (list_any p turns || p turn)
any_push p turns turn = list_any-append p turns (turn ∷ []) ∙ ap (λ (b : Bool). list_any p turns || b) (or_none (p turn))

none_push : (p : LineTurn → Bool) (turns : List LineTurn) (turn : LineTurn) → list_any p turns ≡ false → p turn ≡ false → list_any p (turns ++ turn ∷ []) ≡ false
none_push p turns turn none other = any_push p turns turn ∙ none_of_two (list_any p turns) (p turn) none other

length_push : (turns : List LineTurn) (turn : LineTurn) → length (turns ++ turn ∷ []) ≡ length turns + 1
length_push [] turn = refl
length_push (t ∷ turns) turn = let e = length_push turns turn in omega (arith, e)

module _ (image : Image) (counted : Bool) (steps : ℕ) (most : Option ℕ) where
  -- if lines were answered, all with enough memory, and the next line is answered too, these lines and the
  -- next were answered
  answers_push : (input : List ℕ) (old : Option (List ℕ)) (turns : List LineTurn) (left : List ℕ) (mid : Option (List ℕ)) (turn : LineTurn) → AnswersLines image counted steps most input old turns left mid
      → list_any is_lack turns ≡ false → left ≢ [] → turn.rest ≡ drop_through 10 left → AnswersBounded image counted steps most (first_piece 10 left) mid turn.written turn.end
      → AnswersLines image counted steps most input old (turns ++ turn ∷ []) turn.rest turn.written
  answers_push input old [] left mid turn before none some rest one =
      subst (λ (l : List ℕ). (l ≢ []) × (turn.rest ≡ drop_through 10 l) × AnswersBounded image counted steps most (first_piece 10 l) old turn.written turn.end × (IsTrue (is_lack turn) → ◌≡◌ {A = List LineTurn} [] []) × ((turn.rest ≡ turn.rest) × (turn.written ≡ turn.written)))
      before.0 (some, rest, subst (λ (m : Option (List ℕ)). AnswersBounded image counted steps most (first_piece 10 left) m turn.written turn.end) before.1 one, λ lack. refl, (refl, refl))
  answers_push input old (t ∷ turns) left mid turn before none some rest one =
      let both = either (is_lack t) (list_any is_lack turns) none in (
        before.0,
        before.1,
        before.2,
        λ lack. let no = sym lack ∙ both.0 in absurd (cc),
        answers_push t.rest t.written turns left mid turn before.4 both.1 some rest one,
      )

  -- at the beginning, no line has been answered
  pub called_none : (input : List ℕ) (old remaining : Option (List ℕ)) → remaining ≡ Some input → HasCalled image counted steps most input old 0 Answered remaining old
  called_none input old remaining is = record { turns = []; left = input; remains = is; answers = (refl, refl); so_far = (refl, refl); number_is = refl }

  so_far_answered : (turns : List LineTurn) (turn : LineTurn) (is_final : Bool) (end : LinesEnd) → turn.end ≡ line.Answered is_final → AreSoFar turns end → AreSoFar (turns ++ turn ∷ []) end
  so_far_answered turns turn is_final Answered is before = (none_push is_bad turns turn before.0 (ap is_bad_end is), none_push is_lack turns turn before.1 (ap is_lack_end is))
  so_far_answered turns turn is_final Refused is before = (any_push is_bad turns turn ∙ left_of (list_any is_bad turns) (is_bad turn) before.0, none_push is_lack turns turn before.1 (ap is_lack_end is))
  so_far_answered turns turn is_final Unwritten is before = absurd before

  no_lack : (turns : List LineTurn) (end : LinesEnd) → AreSoFar turns end → list_any is_lack turns ≡ false
  no_lack turns Answered before = before.1
  no_lack turns Refused before = before.1
  no_lack turns Unwritten before = absurd before

  so_far_bad : (turns : List LineTurn) (turn : LineTurn) (end : LinesEnd) → turn.end ≡ line.BadLine → AreSoFar turns end → AreSoFar (turns ++ turn ∷ []) Refused
  so_far_bad turns turn end is before = (any_push is_bad turns turn ∙ right_of (list_any is_bad turns) (is_bad turn) (ap is_bad_end is), none_push is_lack turns turn (no_lack turns end before) (ap is_lack_end is))

  module _ (input : List ℕ) (old : Option (List ℕ)) (number : ℕ) (end : LinesEnd) (before mid : Option (List ℕ)) (called : HasCalled image counted steps most input old number end before mid) where
    -- if a line is read and answered, it is the first one of what is left
    read_of : (after new : Option (List ℕ)) (read : ReadLine) (bytes : List ℕ) (ended : LineEnd) → IsNextLine before after bytes (Some read) → AnswersRead image counted steps most read bytes mid new ended
        → (called.left ≢ []) × (after ≡ Some (drop_through 10 called.left)) × AnswersBounded image counted steps most (first_piece 10 called.left) mid new ended
    read_of after new read bytes ended next one =
        answered_first image counted steps most read called.left bytes after mid new ended (subst (λ (b : Option (List ℕ)). IsNextLine b after bytes (Some read)) called.remains next) one

    pushed : (after new : Option (List ℕ)) (read : ReadLine) (bytes : List ℕ) (ended : LineEnd) → IsNextLine before after bytes (Some read) → AnswersRead image counted steps most read bytes mid new ended
        → AnswersLines image counted steps most input old (called.turns ++ record { rest = drop_through 10 called.left; written = new; end = ended } ∷ []) (drop_through 10 called.left) new
    pushed after new read bytes ended next one =
        let is = read_of after new read bytes ended next one in
        answers_push input old called.turns called.left mid (record { rest = drop_through 10 called.left; written = new; end = ended }) called.answers (no_lack called.turns end called.so_far) is.0 refl is.2

    called_answered : (after new : Option (List ℕ)) (read : ReadLine) (bytes : List ℕ) (is_final : Bool) → IsNextLine before after bytes (Some read) → AnswersRead image counted steps most read bytes mid new (line.Answered is_final)
        → HasCalled image counted steps most input old (number + 1) end after new
    called_answered after new read bytes is_final next one = record {
      turns = called.turns ++ record { rest = drop_through 10 called.left; written = new; end = line.Answered is_final } ∷ [];
      left = drop_through 10 called.left;
      remains = (read_of after new read bytes (line.Answered is_final) next one).1;
      answers = pushed after new read bytes (line.Answered is_final) next one;
      so_far = so_far_answered called.turns _ is_final end refl called.so_far;
      number_is = length_push called.turns _ ∙ ap (λ n. n + 1) called.number_is;
    }

    called_bad : (after new : Option (List ℕ)) (read : ReadLine) (bytes : List ℕ) → IsNextLine before after bytes (Some read) → AnswersRead image counted steps most read bytes mid new line.BadLine
        → HasCalled image counted steps most input old (number + 1) Refused after new
    called_bad after new read bytes next one = record {
      turns = called.turns ++ record { rest = drop_through 10 called.left; written = new; end = line.BadLine } ∷ [];
      left = drop_through 10 called.left;
      remains = (read_of after new read bytes line.BadLine next one).1;
      answers = pushed after new read bytes line.BadLine next one;
      so_far = so_far_bad called.turns _ end refl called.so_far;
      number_is = length_push called.turns _ ∙ ap (λ n. n + 1) called.number_is;
    }

    -- if memory was refused for the next line, the lines end with `Refused`
    ends_in_lack : (after new : Option (List ℕ)) (read : ReadLine) (bytes : List ℕ) → IsNextLine before after bytes (Some read) → AnswersRead image counted steps most read bytes mid new line.OutOfMemory
        → CallsLines image counted steps most input old new Refused
    ends_in_lack after new read bytes next one =
        let turn : LineTurn = record { rest = drop_through 10 called.left; written = new; end = line.OutOfMemory } in
        (called.turns ++ turn ∷ [], drop_through 10 called.left, new, pushed after new read bytes line.OutOfMemory next one, inr (inl (refl, any_push is_lack called.turns turn ∙ right_of (list_any is_lack called.turns) true refl)))

    -- if the next line is answered, and another may follow it, then `number + 1` lines were answered
    pub called_more : (after new : Option (List ℕ)) (read : ReadLine) (bytes : List ℕ) (ended : LineEnd) (next : LinesEnd) → IsNextLine before after bytes (Some read) → AnswersRead image counted steps most read bytes mid new ended
        → Some next ≡ end_after end ended → HasCalled image counted steps most input old (number + 1) next after new
    called_more after new read bytes (line.Answered is_final) next there one is = subst (λ (e : LinesEnd). HasCalled image counted steps most input old (number + 1) e after new) (sym (same_Some next end is)) (called_answered after new read bytes is_final there one)
    called_more after new read bytes line.BadLine next there one is = subst (λ (e : LinesEnd). HasCalled image counted steps most input old (number + 1) e after new) (sym (same_Some next Refused is)) (called_bad after new read bytes there one)
    called_more after new read bytes line.OutOfMemory next there one is = absurd (none-some next (sym is))

    pub ends_here : (after new : Option (List ℕ)) (read : ReadLine) (bytes : List ℕ) (ended : LineEnd) → IsNextLine before after bytes (Some read) → AnswersRead image counted steps most read bytes mid new ended → end_after end ended ≡ None
        → CallsLines image counted steps most input old new Refused
    ends_here after new read bytes (line.Answered is_final) there one is = absurd (none-some end (sym is))
    ends_here after new read bytes line.BadLine there one is = absurd (none-some Refused (sym is))
    ends_here after new read bytes line.OutOfMemory there one is = ends_in_lack after new read bytes there one

    -- if no line is left, the lines end as they ended so far
    ended_by : (it : LinesEnd) → it ≡ end → called.left ≡ [] → AreSoFar called.turns it → CallsLines image counted steps most input old mid it
    ended_by Answered is none so_far = (called.turns, subst (λ (l : List ℕ). AnswersLines image counted steps most input old called.turns l mid) none called.answers, so_far.0, so_far.1)
    ended_by Refused is none so_far = (called.turns, called.left, mid, called.answers, inl (none, refl, so_far.0))
    ended_by Unwritten is none so_far = tt

    pub ends : (after : Option (List ℕ)) (bytes : List ℕ) → IsNextLine before after bytes None → CallsLines image counted steps most input old mid end
    ends after bytes next = ended_by end refl (subst (λ (b : Option (List ℕ)). IsNextLine b after bytes None) called.remains next) called.so_far

    -- if the next line could not be read, the lines end with the result of reporting that
    pub ends_unread : (new : Option (List ℕ)) (told : LinesEnd) → IsToldUnread mid new told → CallsLines image counted steps most input old new told
    ends_unread new Refused why = (called.turns, called.left, mid, called.answers, inr (inr (inl why)))
    ends_unread new Unwritten why = tt
    ends_unread new Answered why = absurd why

    -- if there were too many lines to count, the lines end with `Refused`
    pub ends_uncounted : number ≡ 2 ^ 64 - 1 → CallsLines image counted steps most input old mid Refused
    ends_uncounted all = (called.turns, called.left, mid, called.answers, inr (inr (inr (refl, called.number_is ∙ all))))

-- if `P` implies `Q`, and the bytes have `P` if they are known, then they have `Q` if they are known
pub if_known : (known : Option (List ℕ)) (P Q : List ℕ → Type 0) → ((bytes : List ℕ) → known ≡ Some bytes → P bytes → Q bytes) → IfSome known P → IfSome known Q
if_known None P Q step p = tt
if_known (Some bytes) P Q step p = step bytes refl p
