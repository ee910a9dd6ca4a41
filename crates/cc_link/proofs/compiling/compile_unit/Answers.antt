-- If a unit's own pieces are refused, it is only because of the size of the image.
use Rattle.std.proofs.Common.{◌≡◌, ◌⊎◌, inl, inr, Err, List, ap, subst, ◌∙◌}
use Rattle.std.specs.Arc.{arc_value}
use Rattle.cc_ast.specs.Source.{source}
use Rattle.cc_emit.specs.Piece.{Piece}
use Rattle.cc_link.specs.declared.fault.LinkFault.{LinkFault}
use Rattle.cc_link.specs.declared.fault.LinkFault.TheVariants.{OutOfMemory}
use Rattle.cc_link.specs.Linked.{linked_in}
use Rattle.cc_link.proofs.Own.{only_large}
use Rattle.cc_link.proofs.compiling.compile_unit.Goals as goal

pub returns-in-Err-link_all_in-clause-refused : goal.returns-in-Err-link_all_in-clause-refused
returns-in-Err-link_all_in-clause-refused c =
    let mode = c.args.mode in
    let s = source (arc_value c.args.typed) in
    let ps = c.in-Ok.pieces.items in
    let own = c.in-Ok.ensures.own in
    let count = c.in-Ok.ensures.count in
    let fault = c.in-Err-link_all_in.fault in
    let said : (fault ≡ OutOfMemory) ⊎ (linked_in mode s ps ≡ Err fault) = subst (λ (l : List Piece). (fault ≡ OutOfMemory) ⊎ (linked_in mode s l ≡ Err fault)) c.as_slice.ensures.value c.in-Err-link_all_in.ensures.refused in
    elim said [
      | inl e ↦ inl e
      | inr e ↦ inr (
        only_large mode s ps fault own count e,
        record {
          tree = s.externals;
          is = c.requires;
          pieces = ps;
          compiled = c.in-Ok.ensures.compiled;
          own = own;
          count = count;
          refused = e ∙ ap (λ (f : LinkFault). Err f) (only_large mode s ps fault own count e);
        },
      )
    ]

pub returns-in-Err-clause-refused : goal.returns-in-Err-clause-refused
returns-in-Err-clause-refused c =
    let s = source (arc_value c.args.typed) in
    let r = c.in-Err.ensures.refused in
    record {
      function = r.0;
      none = record { tree = s.externals; is = c.requires; defined = r.1; refused = r.2 };
      earlier = r.3;
    }
