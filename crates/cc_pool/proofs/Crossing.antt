-- What goes to a worker may cross threads. The trees of a unit are recursive, so this is proved for each type separately, from
-- the bottom up.
use denote.Param.Send.{IsSend, IsSync, sendable, recorded_send, recorded_sync, view_send, view_sync, struct_send, struct_sync, enum_send, enum_sync}
use denote.Struct.Declared.{shape}
use denote.Enum.Declared.{shape as enum_shape}
use Rattle.std.proofs.Crossing.{crosses, Arc-send, Vec-send, Vec-sync, Box-send, Box-sync}
use Rattle.cc_ast.proofs.ast.Expression.TheLaws.TheKnot.{send-Expression, sync-Expression}
use Rattle.cc_ast.proofs.ast.Statement.TheLaws.TheKnot.{send-Statement, sync-Statement}
use Rattle.cc_ast.specs.contracts.ast.Identifier as Identifier
use Rattle.cc_ast.specs.contracts.ast.Expression as Expression
use Rattle.cc_ast.specs.contracts.ast.Declarator as Declarator
use Rattle.cc_ast.specs.contracts.ast.Target as Target
use Rattle.cc_ast.specs.contracts.ast.Action as Action
use Rattle.cc_ast.specs.contracts.ast.Beginning as Beginning
use Rattle.cc_ast.specs.contracts.ast.Statement as Statement
use Rattle.cc_ast.specs.contracts.ast.Signature as Signature
use Rattle.cc_ast.specs.contracts.ast.Object as Object
use Rattle.cc_ast.specs.contracts.ast.External as External
use Rattle.cc_ast.specs.contracts.unit.Unit as Unit
use Rattle.cc_types.specs.contracts.typed.TypedUnit as TypedUnit
use Rattle.cc_types.specs.contracts.typed.TypedUnit.TheInside as inside
use Rattle.cc_ltl.specs.contracts.location.Register as Register
use Rattle.cc_ltl.specs.contracts.location.Register.TheInside as registers
use Rattle.cc_ltl.specs.contracts.location.Slot as Slot
use Rattle.cc_ltl.specs.contracts.location.Slot.TheInside as slots
use Rattle.cc_ltl.specs.contracts.operation.Move as Move
use Rattle.cc_ltl.specs.contracts.operation.Operation as Operation
use Rattle.cc_ltl.specs.contracts.block.Moves as Moves
use Rattle.cc_ltl.specs.contracts.block.Moves.TheInside as moves
use Rattle.cc_ltl.specs.contracts.block.Block as Block
use Rattle.cc_ltl.specs.contracts.ltl.Ltl as Ltl
use Rattle.cc_ltl.specs.contracts.ltl.Ltl.TheInside as ltl
use Rattle.cc_emit.specs.contracts.item.PieceItem as Word
use Rattle.cc_emit.specs.contracts.piece.Piece as Piece
use Rattle.cc_emit.specs.contracts.piece.Piece.TheInside as piece
use Rattle.cc_pool.specs.contracts.answer.Refusal as Refusal
use Rattle.cc_pool.specs.contracts.answer.Refusal.TheInside as refusal
use Rattle.cc_pool.specs.contracts.answer.Answer as Answer
use Rattle.cc_pool.specs.contracts.item.Order as Order
use Rattle.cc_pool.specs.contracts.item.Order.TheInside as order
use Rattle.cc_pool.specs.contracts.item.Item as Item
use Rattle.cc_pool.specs.contracts.ends.Queue as Queue
use denote.RattleType.{RattleType}
use Rattle.atomic_table.proofs.shared.Seat.TheSendSync as seat
use Rattle.atomic_table.proofs.badge.Badge.TheSendSync as badge
use Rattle.crossbeam_channel.specs.contracts.channel.Sender as Sender
use Rattle.std.specs.contracts.alloc.Global as Global
use Rattle.std.specs.contracts.impls.GlobalAllocator.TheImpl as heap
use Rattle.cc_pool.specs.declared.named.Queued.{Ghosts}
use Rattle.cc_pool.specs.contracts.ends.Ends as Ends
use Rattle.cc_pool.specs.contracts.ends.Ends.TheInside as ends
use Rattle.cc_pool.specs.contracts.ends.Seat as Seat
use Rattle.cc_pool.specs.contracts.ends.Seat.TheInside as seats
use Rattle.cc_pool.specs.contracts.seats.Taker as Taker
use Rattle.cc_pool.specs.contracts.seats.Taker.TheInside as takers
use Rattle.cc_pool.proofs.Channels.{sender_send, receiver_send, sender_sync, receiver_sync}

identifier_send : IsSend (Identifier.the_field).row
identifier_send = search (sendable, crosses) depth 20

expression_field_send : IsSend (Expression.the_field).row
expression_field_send = send-Expression (search sendable depth 20) (search sendable depth 20) identifier_send Box-send Vec-send (search sendable depth 20) (search sendable depth 40)

expression_send : IsSend Expression.the_row
expression_send = recorded_send (Expression.the_field).row _ _ Expression.the_type.to_one expression_field_send

declarator_send : IsSend Declarator.the_row
declarator_send = let i = identifier_send in let b = Box-send _ expression_send in search sendable depth 12

target_send : IsSend (Target.the_field).row
target_send = let i = identifier_send in let b = Box-send _ expression_send in search sendable depth 12

action_send : IsSend (Action.the_field).row
action_send = let t = target_send in let b = Box-send _ expression_send in search sendable depth 20 fits 10000

beginning_send : IsSend Beginning.the_row
beginning_send = let v = Vec-send _ declarator_send in let a = action_send in search sendable depth 20 fits 10000

statement_field_send : IsSend (Statement.the_field).row
statement_field_send =
    let e = Box-send _ expression_send in
    let a = action_send in
    send-Statement Vec-send (search sendable depth 20) (Vec-send _ declarator_send) (search sendable depth 10) (search sendable) (search sendable depth 10) e Box-send (Box-send _ beginning_send)

statement_send : IsSend Statement.the_row
statement_send = recorded_send (Statement.the_field).row _ _ Statement.the_type.to_one statement_field_send

signature_send : IsSend (Signature.the_field).row
signature_send = search (sendable, crosses) depth 40 fits 40000

object_send : IsSend Object.the_row
object_send = let i = identifier_send in let e = Box-send _ expression_send in search (sendable, crosses) depth 20 fits 10000

external_send : IsSend External.the_row
external_send = recorded_send _ _ _ External.the_type.to_one (enum_send (enum_shape External.the_type) ((signature_send, tt), ((signature_send, (Vec-send _ statement_send, tt)), ((search sendable, (Vec-send _ object_send, tt)), tt))))

unit_send : IsSend (Unit.the_field).row
unit_send = let v = Vec-send _ external_send in search (sendable, crosses) depth 10

pub typed_send : IsSend TypedUnit.the_row
typed_send = view_send _ _ _ _ _ (recorded_send inside.the_field.row _ _ inside.the_type.to_one (struct_send (shape inside.the_type) (unit_send, tt)))

identifier_sync : IsSync (Identifier.the_field).row
identifier_sync = search (sendable, crosses) depth 20

expression_field_sync : IsSync (Expression.the_field).row
expression_field_sync = sync-Expression (search sendable depth 20) (search sendable depth 20) identifier_sync Box-sync Vec-sync (search sendable depth 20) (search sendable depth 40)

expression_sync : IsSync Expression.the_row
expression_sync = recorded_sync (Expression.the_field).row _ _ Expression.the_type.to_one expression_field_sync

declarator_sync : IsSync Declarator.the_row
declarator_sync = let i = identifier_sync in let b = Box-sync _ expression_sync in search sendable depth 12

target_sync : IsSync (Target.the_field).row
target_sync = let i = identifier_sync in let b = Box-sync _ expression_sync in search sendable depth 12

action_sync : IsSync (Action.the_field).row
action_sync = let t = target_sync in let b = Box-sync _ expression_sync in search sendable depth 20 fits 10000

beginning_sync : IsSync Beginning.the_row
beginning_sync = let v = Vec-sync _ declarator_sync in let a = action_sync in search sendable depth 20 fits 10000

statement_field_sync : IsSync (Statement.the_field).row
statement_field_sync =
    let e = Box-sync _ expression_sync in
    let a = action_sync in
    sync-Statement Vec-sync (search sendable depth 20) (Vec-sync _ declarator_sync) (search sendable depth 10) (search sendable) (search sendable depth 10) e Box-sync (Box-sync _ beginning_sync)

statement_sync : IsSync Statement.the_row
statement_sync = recorded_sync (Statement.the_field).row _ _ Statement.the_type.to_one statement_field_sync

signature_sync : IsSync (Signature.the_field).row
signature_sync = search (sendable, crosses) depth 40 fits 40000

object_sync : IsSync Object.the_row
object_sync = let i = identifier_sync in let e = Box-sync _ expression_sync in search (sendable, crosses) depth 20 fits 10000

external_sync : IsSync External.the_row
external_sync = recorded_sync _ _ _ External.the_type.to_one (enum_sync (enum_shape External.the_type) ((signature_sync, tt), ((signature_sync, (Vec-sync _ statement_sync, tt)), ((search sendable, (Vec-sync _ object_sync, tt)), tt))))

unit_sync : IsSync (Unit.the_field).row
unit_sync = let v = Vec-sync _ external_sync in search (sendable, crosses) depth 10

pub typed_sync : IsSync TypedUnit.the_row
typed_sync = view_sync _ _ _ _ _ (recorded_sync inside.the_field.row _ _ inside.the_type.to_one (struct_sync (shape inside.the_type) (unit_sync, tt)))

word_send : IsSend Word.the_row
word_send = search sendable depth 40 fits 40000

register_send : IsSend Register.the_row
register_send = search sendable depth 40 fits 40000

slot_send : IsSend Slot.the_row
slot_send = search sendable depth 40 fits 40000

move_send : IsSend Move.the_row
move_send = let r = register_send in let s = slot_send in search sendable depth 40 fits 40000

moves_send : IsSend Moves.the_row
moves_send = view_send _ _ _ _ _ (recorded_send moves.the_field.row _ _ moves.the_type.to_one (struct_send (shape moves.the_type) (Vec-send _ move_send, tt)))

operation_send : IsSend (Operation.the_field).row
operation_send = let r = register_send in search sendable depth 40 fits 40000

block_send : IsSend Block.the_row
block_send = recorded_send _ _ _ Block.the_type.to_one (struct_send (shape Block.the_type) (search sendable, (moves_send, (operation_send, (moves_send, tt)))))

ltl_send : IsSend Ltl.the_row
ltl_send = view_send _ _ _ _ _ (recorded_send ltl.the_field.row _ _ ltl.the_type.to_one (struct_send (shape ltl.the_type) (search sendable, (search sendable, (Vec-send _ block_send, tt)))))

piece_send : IsSend Piece.the_row
piece_send = view_send _ _ _ _ _ (recorded_send piece.the_field.row _ _ piece.the_type.to_one (struct_send (shape piece.the_type) (search sendable depth 20, (Arc-send _ typed_send typed_sync, (search sendable, (ltl_send, (search sendable, (Vec-send _ word_send, tt))))))))

refusal_send : IsSend Refusal.the_row
refusal_send = view_send _ _ _ _ _ (recorded_send refusal.the_field.row _ _ refusal.the_type.to_one (struct_send (shape refusal.the_type) (search sendable depth 20, (Arc-send _ typed_send typed_sync, (search sendable, (search sendable depth 20, tt))))))

answer_send : IsSend Answer.the_row
answer_send = recorded_send _ _ _ Answer.the_type.to_one (enum_send (enum_shape Answer.the_type) ((piece_send, tt), ((refusal_send, tt), tt)))

order_send : IsSend Order.the_row
order_send = view_send _ _ _ _ _ (recorded_send order.the_field.row _ _ order.the_type.to_one (struct_send (shape order.the_type) (search sendable, (search sendable, (search sendable depth 20, (Arc-send _ typed_send typed_sync, (let a = answer_send in search (sendable, crosses) depth 40 fits 40000, tt)))))))

pub item_field_send : IsSend (Item.the_field).row
item_field_send = enum_send (enum_shape Item.the_type) ((order_send, tt), (tt, tt))

pub item_send : IsSend Item.the_row
item_send = recorded_send (Item.the_field).row _ _ Item.the_type.to_one item_field_send

pub queue_send : IsSend (Queue.the_field).row
queue_send = struct_send (shape Queue.the_type) (search (sender_send, item_send), (search (receiver_send, item_send), tt))

pub queue_sync : IsSync (Queue.the_field).row
queue_sync = struct_sync (shape Queue.the_type) (search (sender_sync, item_send), (search (receiver_sync, item_send), tt))

pub ends_send : (N : RattleType) (q : Ghosts N.Denot) → IsSend N → IsSend (Ends.the_row N q)
ends_send N q n = view_send _ _ _ _ _ (recorded_send (ends.the_field N q).row _ _ (ends.the_type N q).to_one (struct_send (shape (ends.the_type N q)) (queue_send, (search sendable, tt))))

pub seat_send : (N : RattleType) (q : Ghosts N.Denot) → IsSend N → IsSend (Seat.the_row N q)
seat_send N q n = view_send _ _ _ _ _ (recorded_send (seats.the_field N q).row _ _ (seats.the_type N q).to_one (struct_send (shape (seats.the_type N q)) (search (seat.the_send, badge.the_send) depth 5, (search sendable, tt))))

pub taker_send : (N : RattleType) (q : Ghosts N.Denot) → IsSend N → IsSend (Taker.the_row N q)
taker_send N q n = view_send _ _ _ _ _ (recorded_send (takers.the_field N q).row _ _ (takers.the_type N q).to_one (struct_send (shape (takers.the_type N q)) (let s = seat_send N q n in search sendable, tt)))

pub back_send : (N : RattleType) (q : Ghosts N.Denot) → IsSend N → IsSend (Sender.the_field (Taker.the_row N q) Global.the_row heap.ghosts).row
back_send N q n = let t = taker_send N q n in search (sendable, crosses) depth 40 fits 40000
