use Rattle.std.proofs.Common.{sym, ap, ◌∙◌, subst}
use Rattle.cc_ast.specs.Source.{source}
use Rattle.cc_ast.specs.declared.unit.Unit as parsed
use Rattle.cc_types.specs.Typed.{IsTyped, IsWithinLimits}
use Rattle.cc_emit.specs.Piece.{Piece}
use Rattle.cc_emit.proofs.Handing.{fit_handed, frame_handed, frame_is, items_handed, items_are, piece_handed}
use Rattle.cc_emit.proofs.Pieces.{piece_of}
use Rattle.cc_emit.proofs.emitting.emit.Goals as goal

pub new-requires-clause-typed : goal.new-requires-clause-typed
new-requires-clause-typed c = subst IsTyped (sym c.externals.ensures.tree) c.externals.ensures.typed

pub new-requires-clause-limits : goal.new-requires-clause-limits
new-requires-clause-limits c = subst IsWithinLimits (sym c.externals.ensures.tree) c.externals.ensures.limits

pub function_items-requires-clause-fit : goal.function_items-requires-clause-fit
function_items-requires-clause-fit c = fit_handed c.args.pair _ _ _ c.slots.ensures.answer c.code-code.ensures.code c.code-code.ensures.selected

pub new-requires-2 : goal.new-requires-2
new-requires-2 c =
    let p = c.args.pair in
    let unit = c.deref.ensures ∙ c.unit.ensures.answer in
    let tree = c.externals.ensures.tree ∙ ap (λ (u : parsed.Unit). (source u).externals) unit in
    let items = items_handed p _ _ _ c.in_ok-items.items.items _ tree c.in_ok-bases.ensures c.slots.ensures.answer c.code-code.ensures.code c.in_ok-items.ensures in
    let limits = subst (λ (u : parsed.Unit). IsWithinLimits (source u).externals) unit c.externals.ensures.limits in
    let parts = c.into_parts-unit.ensures in
    let frame = frame_handed p _ _ c.in_ok-frame.frame c.slots-2.ensures.answer c.code-code.ensures.code c.in_ok-frame.ensures in
    piece_handed p _ _ _ _ _ _ c.mode-mode.ensures.answer parts.unit c.function-function.ensures.answer parts.ltl frame items (piece_of p parts.is_ltl parts.few parts.keeps_up c.code-code.ensures.typed limits c.function-function.ensures.of_unit c.code-code.ensures.selected c.code-code.ensures.keeps_up)

pub returns-clause-mode : goal.returns-clause-mode
returns-clause-mode c = ap (λ (p : Piece). p.mode) c.new-2.ensures ∙ c.mode-mode.ensures.answer

pub returns-clause-unit : goal.returns-clause-unit
returns-clause-unit c = ap (λ (p : Piece). p.unit) c.new-2.ensures ∙ c.into_parts-unit.ensures.unit

pub returns-clause-function : goal.returns-clause-function
returns-clause-function c = ap (λ (p : Piece). p.function) c.new-2.ensures ∙ c.function-function.ensures.answer

pub returns-clause-ltl : goal.returns-clause-ltl
returns-clause-ltl c = ap (λ (p : Piece). p.ltl) c.new-2.ensures ∙ c.into_parts-unit.ensures.ltl

pub returns-clause-frame : goal.returns-clause-frame
returns-clause-frame c =
    let p = c.args.pair in
    let frame = frame_handed p _ _ c.in_ok-frame.frame c.slots-2.ensures.answer c.code-code.ensures.code c.in_ok-frame.ensures in
    ap (λ (p : Piece). p.frame) c.new-2.ensures ∙ frame ∙ frame_is p

pub returns-clause-items : goal.returns-clause-items
returns-clause-items c =
    let p = c.args.pair in
    let unit = c.deref.ensures ∙ c.unit.ensures.answer in
    let tree = c.externals.ensures.tree ∙ ap (λ (u : parsed.Unit). (source u).externals) unit in
    let items = items_handed p _ _ _ c.in_ok-items.items.items _ tree c.in_ok-bases.ensures c.slots.ensures.answer c.code-code.ensures.code c.in_ok-items.ensures in
    ap (λ (p : Piece). p.items) c.new-2.ensures ∙ items ∙ items_are p
