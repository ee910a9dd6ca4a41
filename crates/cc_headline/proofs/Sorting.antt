-- A compiled unit's pieces, put in the order of definitions, are all the pieces of its source, and they link to the same unit as
-- in the order in which they came.
use Rattle.std.proofs.Common.{◌≡◌, ℕ, zero, suc, ◌+◌, ◌<◌, ◌≤◌, ◌⊎◌, inl, inr, Bool, true, false, if◌then◌else◌, List, [], ◌∷◌, length, Option, Some, None, Result, Ok, Err, refl, sym, ap, ◌∙◌, subst, arith}
use Rattle.std.specs.Prelude.{◌==◌, is_some, slice_get}
use Rattle.std.specs.Coded.{Coded-set}
use Rattle.std.specs.Option.{option_or}
use Rattle.std.proofs.Math.Logic.{∥∥₁_elim, ∥∥₁_map, ∥∥₁_prop}
use Rattle.std.proofs.lemmas.Bool.{eq-eqb, eqb-true, cases_lt}
use Rattle.std.proofs.lemmas.Option.{slice_get_within, get_or_from_slice_get, slice_get-get_or}
use Rattle.cc_tokens.specs.Tokens.{TokensAreOne}
use Rattle.cc_ast.specs.Tree.{Source}
use Rattle.cc_ast.specs.Source.{source}
use Rattle.cc_ast.specs.Limits.{TreesAreOne}
use Rattle.cc_ast.specs.Parse.{SpellsText}
use Rattle.cc_c_semantics.specs.declared.mode.Mode.{Mode}
use Rattle.cc_c_semantics.specs.Meaning.{functions}
use Rattle.cc_c_semantics.specs.Calls.{TypedUnitsHaveMain}
use Rattle.cc_unit.specs.declared.unit.StoredUnit.{StoredUnit}
use Rattle.cc_unit.specs.contracts.unit.StoredUnit as stored
use Rattle.cc_emit.specs.Piece.{Piece}
use Rattle.cc_link.specs.Laws.{LinkedUnitsFollow, AgreeInAgree}
use Rattle.cc_link.specs.Pieces.{AreFromIn}
use Rattle.cc_link.specs.Link.{code_words, most_code}
use Rattle.cc_link.specs.Certificate.{certificate_of}
use Rattle.cc_link.specs.Linked.{same_bytes, stranger, doubled, piece_of, missing, put_first, in_order, ordered, all_items, all_ltl, bodies, image_of, link_refusal, unit_of, unless_refused, linked_in}
use Rattle.cc_link.specs.Made.{IsCompiled, IsMade}
use Rattle.cc_link.specs.declared.fault.LinkFault.{LinkFault}
use Rattle.cc_link.specs.declared.fault.LinkFault.TheVariants.{Missing}
use Rattle.cc_link.proofs.Deciding.{defined_long, linked_ok}
use Rattle.cc_link.proofs.Own.{same_itself, no_stranger, none_doubled, none_left}
use Rattle.cc_link.proofs.Linked.{AreOfText, AreOfTree, one_text, one_tree, small}
use Rattle.cc_core.specs.Rules.{IsBuilt}
use Rattle.cc_headline.specs.Compiling as build
use Rattle.cc_headline.specs.Plan.{IsPlan}
use Rattle.cc_headline.proofs.Plans.{program_planned}

abbrev IsNone : Option LinkFault → Type 0
IsNone None = Unit {0}
IsNone (Some f) = ⊥

none_or : (a b : Option LinkFault) → option_or a b ≡ None → (a ≡ None) × (b ≡ None)
none_or None b e = (refl, e)
none_or (Some f) b e = absurd (subst IsNone (sym e) tt)

not_refused : (o : Option LinkFault) (made u : StoredUnit) → unless_refused o made ≡ Ok u → (o ≡ None) × (made ≡ u)
not_refused None made u e = (refl, let h : ◌≡◌ {A = Result StoredUnit LinkFault} (Ok made) (Ok u) = e in cc)
not_refused (Some f) made u e = absurd (let h : ◌≡◌ {A = Result StoredUnit LinkFault} (Err f) (Ok u) = e in cc)

-- ---- the piece of a function

abbrev IsFound : Mode → List ℕ → ℕ → Piece → Type 0
IsFound mode text f p = ((p.mode ≡ mode) × ((source p.unit).text ≡ text)) × (p.function ≡ f) × IsCompiled p

found : (mode : Mode) (text : List ℕ) (ps : List Piece) (f : ℕ) (p : Piece) → AreOfText mode text ps → ((k : ℕ) (q : Piece) → slice_get ps k ≡ Some q → IsCompiled q) → piece_of ps f ≡ Some p → IsFound mode text f p
found mode text [] f p of each is = absurd (let h : ◌≡◌ {A = Option Piece} None (Some p) = is in cc)
found mode text (q ∷ ps) f p of each is = by (q.function == f) refl (λ rest. found mode text ps f p of.1 (λ k r at. each (suc k) r at) rest) is
  where
    by : (b : Bool) → (q.function == f) ≡ b → (piece_of ps f ≡ Some p → IsFound mode text f p) → (if b then Some q else piece_of ps f) ≡ Some p → IsFound mode text f p
    by true e again here = let same : q ≡ p = let h : ◌≡◌ {A = Option Piece} (Some q) (Some p) = here in cc in subst (λ (r : Piece). IsFound mode text f r) same (of.0, eqb-true q.function f e, each 0 q refl)
    by false e again here = again here

split : (ps : List Piece) (from count : ℕ) → missing ps from (suc count) ≡ None → (p : Piece) × (piece_of ps from ≡ Some p) × (missing ps (suc from) count ≡ None)
split ps from count e = by (piece_of ps from) refl e
  where
    by : (o : Option Piece) → piece_of ps from ≡ o → (if is_some o then missing ps (suc from) count else Some (Missing from)) ≡ None → (p : Piece) × (piece_of ps from ≡ Some p) × (missing ps (suc from) count ≡ None)
    by None is h = absurd (subst IsNone (sym h) tt)
    by (Some p) is h = (p, is, h)

-- ---- all pieces, in order

record IsSorted (mode : Mode) (text : List ℕ) (ps : List Piece) (from count : ℕ) : Type 0 where
  pieces : List Piece
  own : AreFromIn mode text from pieces
  many : length pieces ≡ count
  each : (k : ℕ) (q : Piece) → slice_get pieces k ≡ Some q → IsCompiled q
  named : (k : ℕ) (q : Piece) → slice_get pieces k ≡ Some q → ((source q.unit).text ≡ text) × (q.function ≡ from + k)
  firsts : (f : ℕ) → from ≤ f → f < from + count → piece_of pieces f ≡ piece_of ps f

each_of : (p : Piece) (qs : List Piece) → IsCompiled p → ((k : ℕ) (q : Piece) → slice_get qs k ≡ Some q → IsCompiled q) → (k : ℕ) (q : Piece) → slice_get (p ∷ qs) k ≡ Some q → IsCompiled q
each_of p qs one rest zero q at = let same : p ≡ q = cc in subst IsCompiled same one
each_of p qs one rest (suc k) q at = rest k q at

named_of : (text : List ℕ) (from : ℕ) (p : Piece) (qs : List Piece) → ((source p.unit).text ≡ text) × (p.function ≡ from) → ((k : ℕ) (q : Piece) → slice_get qs k ≡ Some q → ((source q.unit).text ≡ text) × (q.function ≡ suc from + k))
    → (k : ℕ) (q : Piece) → slice_get (p ∷ qs) k ≡ Some q → ((source q.unit).text ≡ text) × (q.function ≡ from + k)
named_of text from p qs one rest zero q at = let same : p ≡ q = cc in subst (λ (r : Piece). ((source r.unit).text ≡ text) × (r.function ≡ from + 0)) same (one.0, one.1 ∙ omega arith)
named_of text from p qs one rest (suc k) q at = let it = rest k q at in (it.0, it.1 ∙ omega arith)

found_at : (ps rest : List Piece) (p : Piece) (from count f : ℕ) → piece_of ps from ≡ Some p → p.function ≡ from → ((g : ℕ) → suc from ≤ g → g < suc from + count → piece_of rest g ≡ piece_of ps g) → from ≤ f → f < from + suc count → piece_of (p ∷ rest) f ≡ piece_of ps f
found_at ps rest p from count f is own again low high = by (p.function == f) refl (cases_lt from f)
  where
    by : (b : Bool) → (p.function == f) ≡ b → (from < f) ⊎ (f ≤ from) → (if b then Some p else piece_of rest f) ≡ piece_of ps f
    by true e order =
        let here : from ≡ f = sym own ∙ eqb-true p.function f e in
        sym (ap (piece_of ps) (sym here) ∙ is)
    by false e (inl lt) = again f (omega (arith, lt)) (omega (arith, high))
    by false e (inr le) = absurd (let same : p.function ≡ f = omega (arith, own, le, low) in let d : false ≡ true = sym e ∙ eq-eqb p.function f same in cc)

sort : (mode : Mode) (text : List ℕ) (ps : List Piece) → AreOfText mode text ps → ((k : ℕ) (q : Piece) → slice_get ps k ≡ Some q → IsCompiled q) → (from count : ℕ) → missing ps from count ≡ None → IsSorted mode text ps from count
sort mode text ps of each from zero e = record {
  pieces = [];
  own = tt;
  many = refl;
  each = λ k q at. absurd (let h : ◌≡◌ {A = Option Piece} None (Some q) = at in cc);
  named = λ k q at. absurd (let h : ◌≡◌ {A = Option Piece} None (Some q) = at in cc);
  firsts = λ f low high. absurd (omega (arith, low, high));
}
sort mode text ps of each from (suc count) e =
    let s = split ps from count e in
    let one = found mode text ps from s.0 of each s.1 in
    let rest = sort mode text ps of each (suc from) count s.2 in
    record {
      pieces = s.0 ∷ rest.pieces;
      own = (one.0, one.1, rest.own);
      many = ap suc rest.many;
      each = each_of s.0 rest.pieces one.2 rest.each;
      named = named_of text from s.0 rest.pieces (one.0.1, one.1) rest.named;
      firsts = λ f low high. found_at ps rest.pieces s.0 from count f s.1 one.1 rest.firsts low high;
    }

in_order_same : (xs ys : List Piece) (from count : ℕ) → ((f : ℕ) → from ≤ f → f < from + count → piece_of xs f ≡ piece_of ys f) → in_order xs from count ≡ in_order ys from count
in_order_same xs ys from zero h = refl
in_order_same xs ys from (suc count) h =
    let rest = in_order_same xs ys (suc from) count (λ f low high. h f (omega (arith, low)) (omega (arith, high))) in
    let first = h from (omega arith) (omega arith) in
    λ i. put_first (first i) (rest i)

-- ---- out of a truncation

nothing_prop : IsProp ⊥
nothing_prop = hlevel

result_is : {A : Type 0} (r : Result A ℕ) (x : A) → ((a : A) → IsProp (a ≡ x)) → ∥ r ≡ Ok x ∥₁ → r ≡ Ok x
result_is {A} (Ok a) x set e = ap Ok (∥∥₁_elim e (set a) (λ (h : ◌≡◌ {A = Result A ℕ} (Ok a) (Ok x)). cc))
result_is {A} (Err n) x set e = let never : ⊥ = ∥∥₁_elim e nothing_prop (λ (h : ◌≡◌ {A = Result A ℕ} (Err n) (Ok x)). cc) in absurd never

make_unit : (mode : Mode) (s : Source) (unit : StoredUnit) (pieces : List Piece) → unit.source ≡ s.text → AreFromIn mode s.text 0 pieces → 1 ≤ length pieces → linked_in mode s pieces ≡ Ok unit → AreOfTree mode s.externals pieces → build.unit_of unit.source pieces ≡ Ok unit
make_unit mode s unit [] text own some is tree = absurd (omega (arith, some))
make_unit mode s unit (p ∷ rest) text own some is tree =
    let same : source p.unit ≡ s = λ i. record { text = own.0.1 i; externals = tree.0.1 i } in
    let here : linked_in p.mode (source p.unit) (p ∷ rest) ≡ Ok unit = ap (λ (m : Mode). linked_in m (source p.unit) (p ∷ rest)) own.0.0 ∙ ap (λ (z : Source). linked_in mode z (p ∷ rest)) same ∙ is in
    ap (λ (b : Bool). if b then build.numbered (linked_in p.mode (source p.unit) (p ∷ rest)) else Err 28) (ap (λ (t : List ℕ). same_bytes (source p.unit).text t) text ∙ ap (λ (t : List ℕ). same_bytes t s.text) own.0.1 ∙ same_itself s.text) ∙ ap build.numbered here

none_missing : (ps : List Piece) (from count : ℕ) → missing ps from count ≡ None → (f : ℕ) → f < count → is_some (piece_of ps (from + f)) ≡ true
none_missing ps from zero e f lt = absurd (omega arith)
none_missing ps from (suc count) e f lt = by (is_some (piece_of ps from)) (λ d g less. none_missing ps (suc from) count d g less) refl e f lt
  where
    by : (b : Bool) → (missing ps (suc from) count ≡ None → (g : ℕ) → g < count → is_some (piece_of ps (suc from + g)) ≡ true) → is_some (piece_of ps from) ≡ b → (if b then missing ps (suc from) count else Some (Missing from)) ≡ None → (f : ℕ) → f < suc count → is_some (piece_of ps (from + f)) ≡ true
    by true again is e zero lt = let same : from + 0 ≡ from = omega arith in ap (λ n. is_some (piece_of ps n)) same ∙ is
    by true again is e (suc g) lt = let same : from + suc g ≡ suc from + g = omega arith in ap (λ n. is_some (piece_of ps n)) same ∙ again e g (omega arith)
    by false again is e f lt = absurd (subst IsNone (sym e) tt)

there : (ps : List Piece) (n f : ℕ) → missing ps 0 n ≡ None → f < n → is_some (piece_of ps f) ≡ true
there ps n f e lt = let same : 0 + f ≡ f = omega arith in sym (ap (λ k. is_some (piece_of ps k)) same) ∙ none_missing ps 0 n e f lt

texts : (mode : Mode) (text : List ℕ) (from : ℕ) (ps : List Piece) → AreFromIn mode text from ps → AreOfText mode text ps
texts mode text from [] own = tt
texts mode text from (p ∷ ps) own = (own.0, texts mode text (suc from) ps own.2)

-- ---- the whole unit

module _ (tokens : TokensAreOne) (trees : TreesAreOne) (mains : TypedUnitsHaveMain) (follow : LinkedUnitsFollow) (agree : AgreeInAgree) where
  pub made_built : (unit : StoredUnit) → length unit.source ≤ 65536 → IsMade unit → IsBuilt build.compiling build.Keeps unit
  made_built unit fits (mode, m) =
      let s = m.of in
      let ps = m.pieces in
      let n = length (functions s.externals) in
      let done = not_refused (link_refusal mode s ps) (unit_of s ps) unit m.linked_is in
      let a = none_or (stranger mode s.text 0 ps) _ done.0 in
      let b = none_or (doubled [] 0 ps) _ a.1 in
      let c = none_or (missing ps 0 n) _ b.1 in
      let so : IsSorted mode s.text ps 0 n = sort mode s.text ps (one_text mode s.text 0 ps a.0) (λ k q at. subst IsCompiled (get_or_from_slice_get ps k q q at) (m.compiled k q (slice_get_within ps k q at))) 0 n c.0 in
      let text : unit.source ≡ s.text = sym (ap (λ (v : StoredUnit). v.source) done.1) in
      let same : ordered s.externals so.pieces ≡ ordered s.externals ps = in_order_same so.pieces ps 0 n so.firsts in
      let some : 1 ≤ length so.pieces = omega (arith, so.many, (mains s.externals m.checked.typed).below) in
      let whole : linked_in mode s so.pieces ≡ Ok unit =
      linked_ok mode s so.pieces (no_stranger mode s.text 0 0 so.pieces so.own) (none_doubled mode s.text [] 0 0 so.pieces (λ g i. absurd (let d : false ≡ true = i in cc)) so.own)
      (none_left so.pieces 0 n (λ f low high. ap is_some (so.firsts f low high) ∙ there ps n f c.0 (omega (arith, high))))
      (subst (λ qs. code_words (all_items qs) ≤ most_code) (sym same) (small (bodies s.externals ps) c.1))
      ∙ ap Ok (ap (λ qs. record { source = s.text; image = image_of s.externals (all_items qs); certificate = Some (certificate_of (all_ltl qs)) }) same ∙ done.1) in
      let planned : IsPlan unit.source (Ok (length so.pieces)) =
      ∥∥₁_elim m.spelled ∥∥₁_prop (λ (h : SpellsText s.text s.externals).
      subst (λ (k : ℕ). IsPlan unit.source (Ok k)) (defined_long s ∙ sym so.many)
      (program_planned unit.source s fits (record { spelled = subst (λ (t : List ℕ). SpellsText t s.externals) (sym text) h; typed = m.checked.typed; limits = m.checked.limits }))) in
      let unit_is : build.unit_of unit.source so.pieces ≡ Ok unit =
      result_is (build.unit_of unit.source so.pieces) unit (λ a. Coded-set stored.the_row.coded a unit) (∥∥₁_elim m.spelled ∥∥₁_prop (λ (h : SpellsText s.text s.externals).
      ∥∥₁_map (one_tree tokens trees mode s.text s.externals h so.pieces (texts mode s.text 0 so.pieces so.own)) (λ (t : AreOfTree mode s.externals so.pieces). make_unit mode s unit so.pieces text so.own some whole t))) in
      record {
        pieces = so.pieces;
        whole = record { counted = planned; named = λ k q at. let it = so.named k q at in (it.0 ∙ sym text, it.1 ∙ omega arith) };
        kept = λ k q within. record { compiled = so.each k _ (slice_get-get_or so.pieces k q within); follow = follow; agree = agree };
        unit_is = unit_is;
      }
