-- What is left of a script, while its bytes are handed out one by one.
use Rattle.std.proofs.Common.{◌≡◌, ◌≢◌, ◌∙◌, ℕ, suc, ◌+◌, ◌-◌, ◌<◌, ◌≤◌, Bool, true, false, List, [], ◌∷◌, ◌++◌, length, take, drop, Option, Some, None, refl, sym, ap, subst, append_assoc, append-nil, take_all, arith, inl, inr}
use Rattle.std.proofs.lemmas.List.{drop_more, take-append-le}
use Rattle.std.proofs.lemmas.Grind.{common_steps}
use Rattle.std.specs.Prelude.{All, slice_index, slice_range}
use Rattle.std.specs.Io.KnownBytes.{Consumes, IsAtEnd, Keeps}
use Rattle.std.proofs.KnownBytes.{Consumes-kept}
use Rattle.std.specs.Prelude.{IfSome, if◌then◌else◌, set}
use Rattle.std.proofs.lemmas.Bool.{false≢true}
use Rattle.std.proofs.lemmas.List.{length-append, length-take, length-take-le, take_more_set}
use Rattle.std.proofs.lemmas.List.Elements.{All-push}
use Rattle.cc_script.specs.Reading.{Ahead, HasFewer, IsLine, IsLineEnd, IsNext, IsNoSource, IsNotRead, IsRead, IsSource, Known, rest_from}
use Rattle.cc_script.specs.declared.fault.ScriptFault.{ScriptFault}
use Rattle.cc_script.specs.declared.fault.ScriptFault.TheVariants.{BadLine, EndOfScript, ScriptTooLong, ReadFault, WriteFault, Stopped}
use Rattle.cc_script.specs.declared.script.NextLine.TheVariants.{TooLong}

-- a range that is not empty is its first byte, followed by the range without it
pub range_more : (bytes : List ℕ) (at end : ℕ) → at < end → at < length bytes
    → slice_range bytes at end ≡ slice_index bytes at ∷ slice_range bytes (at + 1) end
range_more bytes at end more inside =
    let e : end - at ≡ suc (end - (at + 1)) = omega (arith, more) in
    ap (λ (k : ℕ). take k (drop at bytes)) e ∙ ap (λ (rest : List ℕ). take (suc (end - (at + 1))) rest) (drop_more bytes at 0 inside)

pub range_some : (bytes : List ℕ) (at end : ℕ) → 0 < length (slice_range bytes at end) → at < end
range_some bytes at end some = let most = length-take (end - at) (drop at bytes) in omega (arith, most, some)

-- the byte that is handed out is the next one of what is left
pub taken : (before : Option (List ℕ)) (piece : List ℕ) (next end : ℕ) (is_over : Bool) (remaining : Option (List ℕ)) → next < end → next < length piece
    → Keeps before (rest_from (slice_range piece next end) is_over remaining)
    → Consumes before (rest_from (slice_range piece (next + 1) end) is_over remaining) (slice_index piece next ∷ [])
taken None piece next end is_over remaining more inside kept = tt
taken (Some bytes) piece next end true remaining more inside kept = sym kept ∙ range_more piece next end more inside
taken (Some bytes) piece next end false None more inside kept = kept
taken (Some bytes) piece next end false (Some later) more inside kept = sym kept ∙ ap (λ (held : List ℕ). held ++ later) (range_more piece next end more inside)

-- if `prefix` was handed out and then `back`, then `prefix ++ back` was handed out
pub consumed_on : (before between after : Option (List ℕ)) (prefix back : List ℕ) → Consumes before between prefix → Consumes between after back
    → Consumes before after (prefix ++ back)
consumed_on None between after prefix back one two = tt
consumed_on (Some bytes) None after prefix back one two = absurd one
consumed_on (Some bytes) (Some rest) None prefix back one two = two
consumed_on (Some bytes) (Some rest) (Some later) prefix back one two =
    one ∙ (ap (λ (l : List ℕ). prefix ++ l) two ∙ sym (append_assoc prefix back later))

-- if what is left stays as it is, no bytes were handed out
pub consumed_none : (before : Option (List ℕ)) → Consumes before before []
consumed_none None = tt
consumed_none (Some bytes) = refl

-- if bytes are handed out, and what is left then stays as it is, just these bytes are handed out
pub consumed_last : (before between after : Option (List ℕ)) (bytes : List ℕ) → Consumes before between bytes → Keeps between after → Consumes before after bytes
consumed_last before between after bytes one two = Consumes-kept before between after bytes one two

-- ---- what was read

some_bytes : (before bytes after : List ℕ) → before ≡ bytes ++ after → 0 < length bytes → before ≢ []
some_bytes before bytes after is some = λ none.
    let n = length-append bytes after in
    let m = ap (λ (l : List ℕ). length l) is in
    let o = ap (λ (l : List ℕ). length l) none in
    omega (arith, n, m, o, some)

-- if these bytes were handed out, `IsRead` is true of what was left before and after, if that is known
pub read_of : (before after : Option (List ℕ)) (n m : ℕ) (bytes : List ℕ) (Holds : List ℕ → List ℕ → Type 0) → Consumes before after bytes → m + length bytes ≡ n
    → ((b a : List ℕ) → b ≡ bytes ++ a → Holds b a) → Known before after (IsRead n m Holds)
read_of None after n m bytes Holds one count holds = tt
read_of (Some b) None n m bytes Holds one count holds = one
read_of (Some b) (Some a) n m bytes Holds one count holds = record { taken = bytes; prefix = one; counted = count; holds = holds b a one }

-- if these bytes were handed out and nothing is left, `IsRead` is true of what was left before and after, if that is
-- known
pub read_all : (before after : Option (List ℕ)) (n m : ℕ) (bytes : List ℕ) (Holds : List ℕ → List ℕ → Type 0) → Consumes before after bytes → IsAtEnd after → m + length bytes ≡ n
    → ((b a : List ℕ) → b ≡ bytes → a ≡ [] → Holds b a) → Known before after (IsRead n m Holds)
read_all None after n m bytes Holds one over count holds = tt
read_all (Some b) None n m bytes Holds one over count holds = one
read_all (Some b) (Some a) n m bytes Holds one over count holds =
    record { taken = bytes; prefix = one; counted = count; holds = holds b a (one ∙ (ap (λ (l : List ℕ). bytes ++ l) over ∙ append-nil bytes)) over }

-- if a line was handed out, and then a newline, the line was read
pub line_with_newline : (before between after : Option (List ℕ)) (n k m : ℕ) (line : List ℕ) (Holds : List ℕ → List ℕ → Type 0) → All (λ byte. byte ≢ 10) line
    → Consumes before between line → k + length line ≡ n → Consumes between after (10 ∷ []) → m + 1 ≡ k
    → ((b a : List ℕ) → b ≢ [] → IsLine b line a → Holds b a) → Known before after (IsRead n m Holds)
line_with_newline before between after n k m line Holds plain one count two next holds =
    let whole = length-append line (10 ∷ []) in
    read_of before after n m (line ++ 10 ∷ []) Holds (consumed_on before between after line (10 ∷ []) one two) (omega (arith, count, next, whole))
    (λ b a is. holds b a (some_bytes b (line ++ 10 ∷ []) a is (omega (arith, whole))) (record { plain = plain; ends = inl (is ∙ append_assoc line (10 ∷ []) a) }))

-- if a line was handed out, and then the end was found, the line was read
pub line_at_end : (before between after : Option (List ℕ)) (n k m : ℕ) (line : List ℕ) (Holds : List ℕ → List ℕ → Type 0) → All (λ byte. byte ≢ 10) line
    → Consumes before between line → k + length line ≡ n → Keeps between after × IsAtEnd after × (m ≡ k)
    → ((b a : List ℕ) → (0 < length line → b ≢ []) → IsLine b line a → Holds b a) → Known before after (IsRead n m Holds)
line_at_end before between after n k m line Holds plain one count over holds =
    read_all before after n m line Holds (consumed_last before between after line one over.0) over.1 (omega (arith, count, over.2))
    (λ b a is none. holds b a (some_bytes b line [] (is ∙ sym (append-nil line))) (record { plain = plain; ends = inr (is, none) }))

-- if only the end was found, nothing was read
pub at_end : (before after : Option (List ℕ)) (n m : ℕ) (Holds : List ℕ → List ℕ → Type 0) → Keeps before after × IsAtEnd after × (m ≡ n)
    → ((b a : List ℕ) → b ≡ [] → a ≡ [] → Holds b a) → Known before after (IsRead n m Holds)
at_end before after n m Holds over holds =
    read_all before after n m [] Holds (consumed_last before before after [] (consumed_none before) over.0) over.1 (omega (arith, over.2)) holds

-- ---- why nothing more was read

-- if there is another byte, but the script may have no more, there are more bytes than it may have
pub more_there : (before : Option (List ℕ)) (held : List ℕ) (is_over : Bool) (remaining : Option (List ℕ)) (left : ℕ) → left ≡ 0 → 0 < length held
    → Keeps before (rest_from held is_over remaining) → IfSome before (λ bytes. left < length bytes)
more_there None held is_over remaining left none some kept = tt
more_there (Some b) held true remaining left none some kept = let n = ap (λ (l : List ℕ). length l) kept in omega (arith, n, none, some)
more_there (Some b) held false None left none some kept = absurd kept
more_there (Some b) held false (Some later) left none some kept =
    let n = ap (λ (l : List ℕ). length l) kept in
    let m = length-append held later in
    omega (arith, n, m, none, some)

-- if there are too many bytes after some were handed out, there were too many before
more_before : (before between : Option (List ℕ)) (n k : ℕ) (bytes : List ℕ) → Consumes before between bytes → k + length bytes ≡ n
    → IfSome between (λ rest. k < length rest) → IfSome before (λ all. n < length all)
more_before None between n k bytes one count more = tt
more_before (Some b) None n k bytes one count more = absurd one
more_before (Some b) (Some a) n k bytes one count more =
    let l = ap (λ (l : List ℕ). length l) one in
    let m = length-append bytes a in
    omega (arith, l, m, count, more)

pub not_read : (before between : Ahead) (bytes : List ℕ) (left : ℕ) (fault : ScriptFault) → Consumes before.rest between.rest bytes → between.left + length bytes ≡ before.left
    → IsNotRead between left fault → IsNotRead before left fault
not_read before between bytes left BadLine one count why = absurd why
not_read before between bytes left EndOfScript one count why = absurd why
not_read before between bytes left ScriptTooLong one count why = (why.0, more_before before.rest between.rest before.left between.left bytes one count why.1)
not_read before between bytes left ReadFault one count why = tt
not_read before between bytes left WriteFault one count why = absurd why
not_read before between bytes left Stopped one count why = absurd why

pub no_source : (before between : Ahead) (bytes : List ℕ) (wanted left : ℕ) (fault : ScriptFault) → Consumes before.rest between.rest bytes → between.left + length bytes ≡ before.left
    → IsNotRead between left fault → IsNoSource before wanted left fault
no_source before between bytes wanted left BadLine one count why = absurd why
no_source before between bytes wanted left EndOfScript one count why = absurd why
no_source before between bytes wanted left ScriptTooLong one count why = not_read before between bytes left ScriptTooLong one count why
no_source before between bytes wanted left ReadFault one count why = tt
no_source before between bytes wanted left WriteFault one count why = absurd why
no_source before between bytes wanted left Stopped one count why = absurd why

-- if fewer than `count` bytes were handed out, and then the end was found, fewer than `count` were left
pub fewer_left : (before between after : Option (List ℕ)) (bytes : List ℕ) (count : ℕ) → Consumes before between bytes → Keeps between after → IsAtEnd after
    → length bytes < count → HasFewer before count
fewer_left None between after bytes count one two over few = tt
fewer_left (Some all) None after bytes count one two over few = absurd one
fewer_left (Some all) (Some rest) None bytes count one two over few = absurd two
fewer_left (Some all) (Some rest) (Some later) bytes count one two over few =
    subst (λ (l : List ℕ). length l < count) (sym (one ∙ (ap (λ (l : List ℕ). bytes ++ l) (sym two ∙ over) ∙ append-nil bytes))) few

-- one more byte of a source is kept as long as fewer are kept than is allowed
pub kept_more : (bytes : List ℕ) (byte : ℕ) → length bytes < 65537 → take 65537 (bytes ++ byte ∷ []) ≡ bytes ++ byte ∷ []
kept_more bytes byte few = take_all 65537 (bytes ++ byte ∷ []) (grind (arith, common_steps))

pub kept_full : (bytes : List ℕ) (byte : ℕ) → 65537 ≤ length bytes → take 65537 (bytes ++ byte ∷ []) ≡ take 65537 bytes
kept_full bytes byte full = take-append-le 65537 bytes (byte ∷ []) full

-- if neither the first `n` bytes of a line nor the byte set at `n` is a newline, none of the first `n + 1` is
pub plain_more : (line : List ℕ) (n byte : ℕ) → n < length line → All (λ b. b ≢ 10) (take n line) → byte ≢ 10 → All (λ b. b ≢ 10) (take (n + 1) (set line n byte))
plain_more line n byte within plain other = subst (λ (l : List ℕ). All (λ b. b ≢ 10) l) (sym (take_more_set line n byte within)) (All-push (λ b. b ≢ 10) (take n line) byte plain other)

pub consumed_more : (before between after : Option (List ℕ)) (line : List ℕ) (n byte : ℕ) → n < length line → Consumes before between (take n line) → Consumes between after (byte ∷ [])
    → Consumes before after (take (n + 1) (set line n byte))
consumed_more before between after line n byte within one two =
    subst (λ (l : List ℕ). Consumes before after l) (sym (take_more_set line n byte within)) (consumed_on before between after (take n line) (byte ∷ []) one two)

pub length_one_more : (prefix : List ℕ) (byte n : ℕ) → length prefix ≡ n → length (prefix ++ byte ∷ []) ≡ n + 1
length_one_more prefix byte n same = length-append prefix (byte ∷ []) ∙ ap (λ (k : ℕ). k + 1) same

-- if 128 bytes of a line are followed by a byte other than a newline, the line is too long
pub too_long : (before between after : Option (List ℕ)) (n k m : ℕ) (line : List ℕ) (byte : ℕ) → length line ≡ 128 → All (λ b. b ≢ 10) (take 128 line) → byte ≢ 10
    → Consumes before between (take 128 line) → k + 128 ≡ n → Consumes between after (byte ∷ []) → m + 1 ≡ k → (other : List ℕ)
    → Known before after (IsRead n m (λ b a. IsNext b TooLong other a))
too_long before between after n k m line byte whole plain different one count two next other =
    let long = length_one_more (take 128 line) byte 128 (length-take-le 128 line (omega (arith, whole))) in
    read_of before after n m (take 128 line ++ byte ∷ []) (λ b a. IsNext b TooLong other a) (consumed_on before between after (take 128 line) (byte ∷ []) one two)
    (omega (arith, count, next, long)) (λ b a is. (take 128 line ++ byte ∷ [], is, long, All-push (λ b. b ≢ 10) (take 128 line) byte plain different))

-- what is kept of a source with one more byte: that byte too, if there was room for it and fewer are kept than is allowed
pub kept_next : (pushed : Bool) (now items bytes : List ℕ) (byte : ℕ) → pushed ≡ true → now ≡ (if pushed then items ++ byte ∷ [] else items) → items ≡ take 65537 bytes
    → length bytes < 65537 → now ≡ take 65537 (bytes ++ byte ∷ [])
kept_next false now items bytes byte done is same few = absurd (false≢true done)
kept_next true now items bytes byte done is same few =
    is ∙ (ap (λ (l : List ℕ). l ++ byte ∷ []) (same ∙ take_all 65537 bytes (omega (arith, few))) ∙ sym (kept_more bytes byte few))

-- if `count` bytes were handed out, they were read as a source
pub source_read : (before after : Option (List ℕ)) (n m : ℕ) (source : List ℕ) (count : ℕ) (kept : Option (List ℕ)) → Consumes before after source → m + count ≡ n → length source ≡ count
    → IfSome kept (λ bytes. bytes ≡ take 65537 source) → Known before after (IsRead n m (λ b a. IsSource b count kept a))
source_read before after n m source count kept one left same it =
    read_of before after n m source (λ b a. IsSource b count kept a) one (omega (arith, left, same)) (λ b a is. record { source = source; prefix = is; count_is = same; kept_is = it })

-- a byte other than a newline does not end a line
pub other_byte : (before after : Option (List ℕ)) (n m byte : ℕ) → byte ≢ 10 → Consumes before after (byte ∷ []) → m + 1 ≡ n → Known before after (IsRead n m (λ b a. IsLineEnd b false a))
other_byte before after n m byte other one count =
    read_of before after n m (byte ∷ []) (λ b a. IsLineEnd b false a) one count (λ b a is. (byte, other, is))
