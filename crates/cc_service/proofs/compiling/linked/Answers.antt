-- There is one piece for each function, so linking refuses them only for the size of the image.
use Rattle.std.proofs.Common.{◌≡◌, ◌⊎◌, inl, inr, length, List, Err, sym, ap, ◌∙◌}
use Rattle.std.specs.Arc.{arc_value}
use Rattle.cc_ast.specs.Source.{source}
use Rattle.cc_ast.specs.Tree.{Source}
use Rattle.cc_c_semantics.specs.declared.mode.Mode.{Mode}
use Rattle.cc_link.specs.Meaning.{functions}
use Rattle.cc_emit.specs.Piece.{Piece}
use Rattle.cc_link.specs.Linked.{linked_in}
use Rattle.cc_link.specs.Pieces.{AreFromIn}
use Rattle.cc_link.specs.declared.fault.LinkFault.{LinkFault}
use Rattle.cc_link.specs.declared.fault.LinkFault.TheVariants.{ImageTooLarge, OutOfMemory}
use Rattle.cc_link.proofs.Deciding.{defined_long}
use Rattle.cc_link.proofs.Own.{only_large}
use Rattle.cc_service.proofs.compiling.linked.Goals as goal

one_of_two : (mode : Mode) (s : Source) (ps : List Piece) (f : LinkFault) → AreFromIn mode s.text 0 ps → length ps ≡ length (functions s.externals) → (f ≡ OutOfMemory) ⊎ (linked_in mode s ps ≡ Err f)
    → (f ≡ OutOfMemory) ⊎ (f ≡ ImageTooLarge)
one_of_two mode s ps f own count (inl e) = inl e
one_of_two mode s ps f own count (inr e) = inr (only_large mode s ps f own count e)

pub unreachable-requires : goal.unreachable-requires
unreachable-requires c =
    let s = source (arc_value c.args.unit.now) in
    let count : length c.args.pieces.items ≡ length (functions s.externals) = c.requires.count ∙ defined_long s in
    elim (one_of_two c.args.mode s c.args.pieces.items c.in-Err-Missing.field-0 c.requires.own count c.in-Err-Missing.ensures.refused) [
      | inl e ↦ let is = c.in-Err-Missing.field-0-is in cc
      | inr e ↦ let is = c.in-Err-Missing.field-0-is in cc
    ]

pub unreachable-requires-in-Err-Doubled : goal.unreachable-requires-in-Err-Doubled
unreachable-requires-in-Err-Doubled c =
    let s = source (arc_value c.args.unit.now) in
    let count : length c.args.pieces.items ≡ length (functions s.externals) = c.requires.count ∙ defined_long s in
    elim (one_of_two c.args.mode s c.args.pieces.items c.in-Err-Doubled.field-0 c.requires.own count c.in-Err-Doubled.ensures.refused) [
      | inl e ↦ let is = c.in-Err-Doubled.field-0-is in cc
      | inr e ↦ let is = c.in-Err-Doubled.field-0-is in cc
    ]

pub unreachable-requires-in-Err-Stranger : goal.unreachable-requires-in-Err-Stranger
unreachable-requires-in-Err-Stranger c =
    let s = source (arc_value c.args.unit.now) in
    let count : length c.args.pieces.items ≡ length (functions s.externals) = c.requires.count ∙ defined_long s in
    elim (one_of_two c.args.mode s c.args.pieces.items c.in-Err-Stranger.field-0 c.requires.own count c.in-Err-Stranger.ensures.refused) [
      | inl e ↦ let is = c.in-Err-Stranger.field-0-is in cc
      | inr e ↦ let is = c.in-Err-Stranger.field-0-is in cc
    ]

pub returns-in-Err-ImageTooLarge-clause-refused : goal.returns-in-Err-ImageTooLarge-clause-refused
returns-in-Err-ImageTooLarge-clause-refused c =
    let s = source (arc_value c.args.unit.now) in
    let ps = c.args.pieces.items in
    let count : length ps ≡ length (functions s.externals) = c.requires.count ∙ defined_long s in
    elim c.in-Err-ImageTooLarge.ensures.refused [
      | inl e ↦ absurd (let d : ◌≡◌ {A = LinkFault} ImageTooLarge OutOfMemory = sym c.in-Err-ImageTooLarge.field-0-is ∙ e in cc)
      | inr e ↦ record {
        tree = s.externals;
        is = c.requires.program;
        pieces = ps;
        compiled = c.requires.compiled;
        own = c.requires.own;
        count = count;
        refused = e ∙ ap (λ (f : LinkFault). Err f) c.in-Err-ImageTooLarge.field-0-is;
      }
    ]
