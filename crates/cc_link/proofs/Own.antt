-- If there is one piece of each of a unit's functions, in order, linking can only refuse the size of the image.
use Rattle.std.proofs.Common.{◌≡◌, ℕ, zero, suc, ◌+◌, ◌<◌, ◌≤◌, ◌⊎◌, inl, inr, ◌==◌, nat_lt, Bool, true, false, ◌||◌, if◌then◌else◌, List, [], ◌∷◌, ◌++◌, length, Some, None, is_some, Err, refl, sym, ap, ◌∙◌, arith, Result, Ok}
use Rattle.std.proofs.lemmas.Bool.{eq-eqb, eqb-true, cases_lt}
use Rattle.std.specs.Option.{option_or}
use Rattle.std.specs.Cmp.Lexicographic.{other_text}
use Rattle.cc_ast.specs.Tree.{Source}
use Rattle.cc_ast.specs.Source.{source}
use Rattle.cc_c_semantics.specs.Meaning.{functions}
use Rattle.cc_c_semantics.specs.declared.mode.Mode.{Mode}
use Rattle.cc_c_semantics.specs.declared.mode.Mode.TheVariants.{Plain, Checked}
use Rattle.cc_unit.specs.declared.unit.StoredUnit.{StoredUnit}
use Rattle.cc_emit.specs.Piece.{Piece}
use Rattle.cc_link.specs.declared.fault.LinkFault.{LinkFault}
use Rattle.cc_link.specs.declared.fault.LinkFault.TheVariants.{ImageTooLarge, Missing, Doubled, Stranger}
use Rattle.cc_link.specs.Link.{code_words, most_code}
use Rattle.cc_link.specs.Linked.{same_bytes, same_mode, stranger, is_among, doubled, piece_of, missing, bodies, too_large, link_refusal, unit_of, unless_refused, linked_in}
use Rattle.cc_link.specs.Pieces.{AreFromIn}

pub same_itself : (x : List ℕ) → same_bytes x x ≡ true
same_itself x = by (same_bytes x x) refl
  where
    by : (b : Bool) → same_bytes x x ≡ b → b ≡ true
    by true e = refl
    by false e = absurd (other_text x x (sym e) refl)

mode_itself : (m : Mode) → same_mode m m ≡ true
mode_itself Plain = refl
mode_itself Checked = refl

pub no_stranger : (mode : Mode) (text : List ℕ) (at from : ℕ) (ps : List Piece) → AreFromIn mode text from ps → stranger mode text at ps ≡ None
no_stranger mode text at from [] h = refl
no_stranger mode text at from (p ∷ ps) h =
    ap (λ b. if b then stranger mode text (suc at) ps else Some (Stranger p.function at))
    (ap (λ m. if same_mode m mode then same_bytes (source p.unit).text text else false) h.0.0 ∙ ap (λ b. if b then same_bytes (source p.unit).text text else false) (mode_itself mode) ∙ ap (λ t. same_bytes t text) h.0.1 ∙ same_itself text)
    ∙ no_stranger mode text (suc at) (suc from) ps h.2

among_more : (gs : List ℕ) (x g : ℕ) → is_among (gs ++ x ∷ []) g ≡ true → (is_among gs g ≡ true) ⊎ (x ≡ g)
among_more [] x g e = by (x == g) refl e
  where
    by : (b : Bool) → (x == g) ≡ b → (b || false) ≡ true → (false ≡ true) ⊎ (x ≡ g)
    by true is e = inr (eqb-true x g is)
    by false is e = inl e
among_more (h ∷ gs) x g e = by (h == g) (among_more gs x g) e
  where
    by : (b : Bool) → (is_among (gs ++ x ∷ []) g ≡ true → (is_among gs g ≡ true) ⊎ (x ≡ g)) → (b || is_among (gs ++ x ∷ []) g) ≡ true → ((b || is_among gs g) ≡ true) ⊎ (x ≡ g)
    by true again e = inl refl
    by false again e = again e

pub none_doubled : (mode : Mode) (text before : List ℕ) (at from : ℕ) (ps : List Piece) → ((g : ℕ) → is_among before g ≡ true → g < from) → AreFromIn mode text from ps → doubled before at ps ≡ None
none_doubled mode text before at from [] below h = refl
none_doubled mode text before at from (p ∷ ps) below h = by (is_among before p.function) refl (λ lower. none_doubled mode text (before ++ p.function ∷ []) (suc at) (suc from) ps lower h.2)
  where
    one_of : (g : ℕ) → (is_among before g ≡ true) ⊎ (p.function ≡ g) → g < suc from
    one_of g (inl e) = let lt = below g e in omega arith
    one_of g (inr e) = let f : p.function ≡ from = h.1 in omega arith

    by : (b : Bool) → is_among before p.function ≡ b → (((g : ℕ) → is_among (before ++ p.function ∷ []) g ≡ true → g < suc from) → doubled (before ++ p.function ∷ []) (suc at) ps ≡ None)
        → (if b then Some (Doubled p.function at) else doubled (before ++ p.function ∷ []) (suc at) ps) ≡ None
    by true e again = absurd (let lt = below p.function e in let f : p.function ≡ from = h.1 in omega arith)
    by false e again = again (λ g f. one_of g (among_more before p.function g f))

there : (mode : Mode) (text : List ℕ) (from f : ℕ) (ps : List Piece) → AreFromIn mode text from ps → from ≤ f → f < from + length ps → is_some (piece_of ps f) ≡ true
there mode text from f [] h low high = absurd (omega arith)
there mode text from f (p ∷ ps) h low high = by (p.function == f) refl (cases_lt from f) (λ lt. there mode text (suc from) f ps h.2 lt (omega arith))
  where
    by : (b : Bool) → (p.function == f) ≡ b → (from < f) ⊎ (f ≤ from) → (from < f → is_some (piece_of ps f) ≡ true) → is_some (if b then Some p else piece_of ps f) ≡ true
    by true e order again = refl
    by false e (inl lt) again = again lt
    by false e (inr le) again = absurd (let is : p.function ≡ from = h.1 in let same : p.function ≡ f = omega arith in let d : false ≡ true = sym e ∙ eq-eqb p.function f same in cc)

pub none_left : (ps : List Piece) (from count : ℕ) → ((f : ℕ) → from ≤ f → f < from + count → is_some (piece_of ps f) ≡ true) → missing ps from count ≡ None
none_left ps from zero h = refl
none_left ps from (suc count) h =
    ap (λ b. if b then missing ps (suc from) count else Some (Missing from)) (h from (omega arith) (omega arith)) ∙ none_left ps (suc from) count (λ f low high. h f (omega arith) (omega arith))

only_fault : (s : Source) (ps : List Piece) (f : LinkFault) (b : Bool) → unless_refused (if b then Some ImageTooLarge else None) (unit_of s ps) ≡ Err f → f ≡ ImageTooLarge
only_fault s ps f true e = let h : ◌≡◌ {A = Result StoredUnit LinkFault} (Err ImageTooLarge) (Err f) = e in cc
only_fault s ps f false e = absurd (let h : ◌≡◌ {A = Result StoredUnit LinkFault} (Ok (unit_of s ps)) (Err f) = e in cc)

-- if there is one piece of each function, in order, linking can only be refused with 25
pub only_large : (mode : Mode) (s : Source) (ps : List Piece) (f : LinkFault) → AreFromIn mode s.text 0 ps → length ps ≡ length (functions s.externals) → linked_in mode s ps ≡ Err f → f ≡ ImageTooLarge
only_large mode s ps f h count e =
    let n = length (functions s.externals) in
    let a = no_stranger mode s.text 0 0 ps h in
    let b = none_doubled mode s.text [] 0 0 ps (λ g i. absurd (let d : false ≡ true = i in cc)) h in
    let c = none_left ps 0 n (λ g low high. there mode s.text 0 g ps h low (omega arith)) in
    let is : link_refusal mode s ps ≡ too_large (bodies s.externals ps) =
    ap (λ o. option_or o (option_or (doubled [] 0 ps) (option_or (missing ps 0 n) (too_large (bodies s.externals ps))))) a
    ∙ ap (λ o. option_or o (option_or (missing ps 0 n) (too_large (bodies s.externals ps)))) b ∙ ap (λ o. option_or o (too_large (bodies s.externals ps))) c in
    only_fault s ps f (nat_lt most_code (code_words (bodies s.externals ps))) (sym (ap (λ o. unless_refused o (unit_of s ps)) is) ∙ e)

-- if the next function's piece is added to pieces from `from` on, these are still in order
pub one_from : (mode : Mode) (text : List ℕ) (from : ℕ) (ps : List Piece) (p : Piece) → AreFromIn mode text from ps → p.mode ≡ mode → (source p.unit).text ≡ text → p.function ≡ from + length ps → AreFromIn mode text from (ps ++ p ∷ [])
one_from mode text from [] p h m e f = ((m, e), omega arith, tt)
one_from mode text from (q ∷ ps) p h m e f = (h.0, h.1, one_from mode text (suc from) ps p h.2 m e (omega arith))
