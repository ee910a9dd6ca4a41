-- The certificate of a unit that was made spells the LTL of each function, and the run of this LTL keeps up with the function.
-- The type of a piece keeps this for the piece's own unit, and all the pieces are of one text, which has one tree.
use Rattle.std.proofs.Common.{◌≡◌, ℕ, zero, suc, ◌+◌, ◌<◌, ◌≤◌, List, [], ◌∷◌, ◌++◌, length, get_or, slice_get, drop, Option, Some, None, Result, Ok, Err, refl, sym, ap, ◌∙◌, subst, arith, append_assoc}
use Rattle.std.proofs.Math.Logic.{∥∥₁_elim, ∥∥₁_map, ∥∥₁_prop}
use Rattle.std.proofs.lemmas.List.{drop_more, length-map}
use Rattle.std.proofs.lemmas.List.Elements.{All-head, All-tail}
use Rattle.std.specs.Borrow.{Bor}
use Rattle.std.specs.Prelude.{All, if◌then◌else◌}
use Rattle.std.specs.Result.{OnOk, is_ok}
use Rattle.std.specs.List.{AllByRecursion, flat_map}
use Rattle.cc_tokens.specs.Tokens.{TokensAreOne}
use Rattle.cc_ast.specs.Tree.{External}
use Rattle.cc_ast.specs.Limits.{TreesAreOne}
use Rattle.cc_ast.specs.Parse.{SpellsText}
use Rattle.cc_c_semantics.specs.declared.mode.Mode.{Mode}
use Rattle.cc_c_semantics.specs.declared.mode.Mode.TheVariants.{Plain}
use Rattle.cc_c_semantics.specs.Meaning.{functions}
use Rattle.cc_unit.specs.declared.unit.StoredUnit.{StoredUnit}
use Rattle.cc_ltl.specs.Bytes.{word_bytes, ltl_bytes}
use Rattle.cc_ltl.specs.Ltl.{Ltl, IsLtl}
use Rattle.cc_linear_language.specs.Pair.{most_blocks, LtlKeepsUp}
use Rattle.cc_emit.specs.Piece.{Piece, tree_of}
use Rattle.cc_link.specs.Certificate.{IsToldLtl, EachKeepsUpIn, ltl_field}
use Rattle.cc_link.specs.Laws.{MadeUnitsAreCertified, UnitsAreCertifiedIn}
use Rattle.cc_link.specs.Linked.{stranger, doubled, missing, in_order, ordered, all_ltl, certified, link_refusal, lent_pieces, unit_of}
use Rattle.cc_link.specs.Made.{IsCompiled}
use Rattle.cc_link.proofs.Deciding.{defined_long}
use Rattle.cc_link.proofs.Few.{few_functions}
use Rattle.cc_link.proofs.Linked.{AreOfTree, EachFrom, none_or, not_refused, one_text, one_tree, order_long, ordered_each}
use Rattle.cc_link.proofs.Short.{ltl_short}

-- what a piece's type keeps about its LTL
abbrev HasLtl : Piece → Type 0
HasLtl p = IsLtl p.ltl × (length p.ltl.blocks ≤ most_blocks)

have_ltl : (ps : List Piece) → All IsCompiled ps → AllByRecursion HasLtl ps
have_ltl [] k = tt
have_ltl (p ∷ ps) k = let own = (All-head IsCompiled p ps k).of_unit in ((own.ltl, own.few), have_ltl ps (All-tail IsCompiled p ps k))

all_told : (from : ℕ) (ps : List Piece) → EachFrom HasLtl from ps → AllByRecursion IsToldLtl (all_ltl ps)
all_told from [] h = tt
all_told from (p ∷ ps) h = ((h.1.0, ltl_short p.ltl h.1.0 h.1.1), all_told (suc from) ps h.2)

-- the piece is in this mode and of a unit with this tree, and the run of its LTL keeps up
abbrev Keeps : Mode → List External → Piece → Type 0
Keeps mode tree p = ((p.mode ≡ mode) × (tree_of p ≡ tree)) × LtlKeepsUp p.mode (tree_of p) p.function p.ltl

each_keeps : (mode : Mode) (tree : List External) (ps : List Piece) → AreOfTree mode tree ps → All IsCompiled ps → AllByRecursion (Keeps mode tree) ps
each_keeps mode tree [] t k = tt
each_keeps mode tree (p ∷ ps) t k = ((t.0, (All-head IsCompiled p ps k).of_unit.ltl_keeps_up), each_keeps mode tree ps t.1 (All-tail IsCompiled p ps k))

keeps_at : (mode : Mode) (tree : List External) (from : ℕ) (ps : List Piece) → EachFrom (Keeps mode tree) from ps → (f : ℕ) (l : Ltl) → slice_get (all_ltl ps) f ≡ Some l → LtlKeepsUp mode tree (from + f) l
keeps_at mode tree from [] h f l e = absurd (let d : ◌≡◌ {A = Option Ltl} None (Some l) = e in cc)
keeps_at mode tree from (p ∷ ps) h zero l e =
    let same : p.ltl ≡ l = let d : ◌≡◌ {A = Option Ltl} (Some p.ltl) (Some l) = e in cc in
    let here : p.function ≡ from + 0 = h.0 ∙ omega arith in
    subst (λ (m : Ltl). LtlKeepsUp mode tree (from + 0) m) same (subst (λ g. LtlKeepsUp mode tree g p.ltl) here (subst (λ (u : List External). LtlKeepsUp mode u p.function p.ltl) h.1.0.1 (subst (λ (m : Mode). LtlKeepsUp m (tree_of p) p.function p.ltl) h.1.0.0 h.1.1)))
keeps_at mode tree from (p ∷ ps) h (suc f) l e =
    let here : suc from + f ≡ from + suc f = omega arith in
    subst (λ g. LtlKeepsUp mode tree g l) here (keeps_at mode tree (suc from) ps h.2 f l e)

-- the LTL of the first piece of each function keeps up
all_keep : (mode : Mode) (tree : List External) (ps : List Piece) → AreOfTree mode tree ps → All IsCompiled ps → (n : ℕ) → missing ps 0 n ≡ None → EachKeepsUpIn mode tree (all_ltl (in_order ps 0 n))
all_keep mode tree ps t k n e f l at =
    let here : 0 + f ≡ f = omega arith in
    subst (λ g. LtlKeepsUp mode tree g l) here (keeps_at mode tree 0 (in_order ps 0 n) (ordered_each (Keeps mode tree) ps (each_keeps mode tree ps t k) 0 n e) f l at)

pub made_certified_in : TokensAreOne → TreesAreOne → UnitsAreCertifiedIn
made_certified_in tokens trees mode u m =
    let s = m.of in
    let ps = m.pieces in
    let n = length (functions s.externals) in
    let done = not_refused (link_refusal mode s ps) (unit_of s ps) u m.linked_is in
    let a = none_or (stranger mode s.text 0 ps) _ done.0 in
    let b = none_or (doubled [] 0 ps) _ a.1 in
    let c = none_or (missing ps 0 n) _ b.1 in
    let few = few_functions s m.checked.limits in
    record {
      tree = s.externals;
      spelled = subst (λ (t : List ℕ). ∥ SpellsText t s.externals ∥₁) (ap (λ (v : StoredUnit). v.source) done.1) m.spelled;
      certificate = certified s.externals ps;
      is = sym (ap (λ (v : StoredUnit). v.certificate) done.1);
      spells = record {
        ltls = all_ltl (ordered s.externals ps);
        count = length-map (ordered s.externals ps) (λ (p : Piece). p.ltl) ∙ order_long ps 0 n c.0;
        few = omega (arith, few, defined_long s);
        told = all_told 0 (ordered s.externals ps) (ordered_each HasLtl ps (have_ltl ps m.compiled) 0 n c.0);
        spelled = refl;
      };
      keep_up = ∥∥₁_elim m.spelled ∥∥₁_prop (λ (h : SpellsText s.text s.externals).
          ∥∥₁_map (one_tree tokens trees mode s.text s.externals h ps (one_text mode s.text 0 ps a.0)) (λ (t : AreOfTree mode s.externals ps). all_keep mode s.externals ps t m.compiled n c.0));
    }

pub made_certified : TokensAreOne → TreesAreOne → MadeUnitsAreCertified
made_certified tokens trees u m = made_certified_in tokens trees Plain u m

-- ---- the code

pub put_ok : {T E : Type 0} (r : Result T E) (new put old : List ℕ) → new ≡ (if is_ok r then put else old) → OnOk r (new ≡ put)
put_ok (Ok x) new put old e = e
put_ok (Err x) new put old e = tt

-- writing the length of a function's LTL, and then the LTL, adds the function's field
pub field_added : (old one new word written : List ℕ) (l : Ltl) → one ≡ old ++ word → word ≡ word_bytes (length written) → written ≡ ltl_bytes l → new ≡ one ++ written → new ≡ old ++ ltl_field l
field_added old one new word written l a b c d =
    let field : word ++ written ≡ ltl_field l = ap (λ w. w ++ written) b ∙ ap (λ (bytes : List ℕ). word_bytes (length bytes) ++ bytes) c in
    d ∙ ap (λ w. w ++ written) a ∙ append_assoc old word written ∙ ap (λ w. old ++ w) field

-- once the field of one more piece is added, the bytes so far and the fields left make up the same list
pub ltl_next : (ps : List (Bor Piece)) (i : ℕ) (d : Bor Piece) (l : Ltl) (before new all : List ℕ) → i < length ps → d ≡ get_or ps i d → l ≡ d.now.ltl → new ≡ before ++ ltl_field l
    → before ++ flat_map ltl_field (all_ltl (lent_pieces (drop i ps))) ≡ all → new ++ flat_map ltl_field (all_ltl (lent_pieces (drop (i + 1) ps))) ≡ all
ltl_next ps i d l before new all lt is own added h =
    let rest : List ℕ = flat_map ltl_field (all_ltl (lent_pieces (drop (i + 1) ps))) in
    let split : drop i ps ≡ d ∷ drop (i + 1) ps = drop_more ps i d lt ∙ ap (λ (x : Bor Piece). x ∷ drop (i + 1) ps) (sym is) in
    let first : flat_map ltl_field (all_ltl (lent_pieces (drop i ps))) ≡ ltl_field l ++ rest = ap (λ (q : List (Bor Piece)). flat_map ltl_field (all_ltl (lent_pieces q))) split ∙ ap (λ (x : Ltl). ltl_field x ++ rest) (sym own) in
    ap (λ q. q ++ rest) added ∙ append_assoc before (ltl_field l) rest ∙ ap (λ q. before ++ q) (sym first) ∙ h
