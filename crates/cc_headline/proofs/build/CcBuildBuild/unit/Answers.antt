-- Pieces are linked in the mode of the first piece and for its unit.
use Rattle.std.proofs.Common.{◌≡◌, ℕ, ◌≤◌, Bool, true, false, if◌then◌else◌, List, [], ◌∷◌, length, get_or, Ok, Err, refl, sym, ap, ◌∙◌, arith}
use mathlib.Core.Bool.{not}
use Rattle.std.specs.Arc.{arc_value}
use Rattle.std.specs.Borrow.{Bor}
use Rattle.cc_ast.specs.Tree.{Source}
use Rattle.cc_ast.specs.Source.{source}
use Rattle.cc_ast.specs.declared.unit.Unit as parsed
use Rattle.cc_c_semantics.specs.declared.mode.Mode.{Mode}
use Rattle.cc_emit.specs.Piece.{Piece}
use Rattle.cc_link.specs.Linked.{same_bytes, lent_pieces, linked_in}
use Rattle.cc_unit.specs.declared.unit.StoredUnit.{StoredUnit}
use Rattle.cc_headline.specs.Compiling.{numbered, unit_of}
use Rattle.cc_headline.proofs.build.CcBuildBuild.unit.Goals as goal

unit_given : (text : List ℕ) (ps : List (Bor Piece)) (first : Bor Piece) (mode : Mode) (s : Source) (made : StoredUnit) → 1 ≤ length ps → first ≡ get_or ps 0 first → same_bytes (source first.now.unit).text text ≡ true → mode ≡ first.now.mode → s ≡ source first.now.unit
    → linked_in mode s (lent_pieces ps) ≡ Ok made → unit_of text (lent_pieces ps) ≡ Ok made
unit_given text [] first mode s made some is same m e answer = absurd (omega (arith, some))
unit_given text (p ∷ ps) first mode s made some is same m e answer =
    let here : linked_in p.now.mode (source p.now.unit) (lent_pieces (p ∷ ps)) ≡ Ok made =
    ap (λ (q : Bor Piece). linked_in q.now.mode (source p.now.unit) (lent_pieces (p ∷ ps))) (sym is) ∙ ap (λ (q : Bor Piece). linked_in first.now.mode (source q.now.unit) (lent_pieces (p ∷ ps))) (sym is)
    ∙ ap (λ (k : Mode). linked_in k (source first.now.unit) (lent_pieces (p ∷ ps))) (sym m) ∙ ap (λ (z : Source). linked_in mode z (lent_pieces (p ∷ ps))) (sym e) ∙ answer in
    ap (λ (b : Bool). if b then numbered (linked_in p.now.mode (source p.now.unit) (lent_pieces (p ∷ ps))) else Err 28) (ap (λ (q : Bor Piece). same_bytes (source q.now.unit).text text) (sym is) ∙ same) ∙ ap numbered here

not_other : (b n : Bool) → n ≡ false → n ≡ not b → b ≡ true
not_other true n e f = refl
not_other false n e f = sym e ∙ f

pub returns-in_ok-try_clone-in-Ok-clause-answer : goal.returns-in_ok-try_clone-in-Ok-clause-answer
returns-in_ok-try_clone-in-Ok-clause-answer c =
    let first = c.first-item.result in
    let text = c.args.source.now in
    let whose : c.text.result.now ≡ (source first.now.unit).text = c.text.ensures.answer ∙ ap (λ (u : parsed.Unit). (source u).text) (c.deref.ensures ∙ c.unit.ensures.answer) in
    let same : same_bytes (source first.now.unit).text text ≡ true = ap (λ (t : List ℕ). same_bytes t text) (sym whose) ∙ not_other (same_bytes c.text.result.now text) c.ne.result c.if-ne.false c.ne.ensures in
    let made : StoredUnit = c.in-Ok.compiled in
    unit_given text c.args.pieces.now first c.mode.result (source (arc_value c.unit-2.result.now)) made c.in-len1-up.len_at_least c.first-item.is same c.mode.ensures.answer (ap (λ (u : parsed.Unit). source u) c.unit-2.ensures.answer) c.in-Ok.ensures.answer
    ∙ ap Ok (sym (c.in_ok-try_clone-in-Ok.ensures ∙ c.stored.ensures.answer))
