-- The two ends of a ruled channel may cross threads if its messages may. This is proved for any type of message, since the search for a
-- proof would look into a given type.
use denote.RattleType.{RattleType}
use denote.Builtin.{unit}
use denote.Param.Send.{IsSend, IsSync, sendable, struct_send, struct_sync, recorded_send, recorded_sync}
use denote.Struct.Declared.{shape}
use Rattle.std.proofs.Crossing.{crosses, Arc-send, Arc-sync}
use Rattle.crossbeam_channel.specs.declared.protocol.Protocol.{Ghosts}
use Rattle.crossbeam_channel.specs.contracts.flavors.array.ruled.Sending as Sending
use Rattle.crossbeam_channel.specs.contracts.flavors.array.ruled.Receiving as Receiving
use Rattle.crossbeam_channel.specs.contracts.flavors.array.ruled.Both as Both
use Rattle.crossbeam_channel.specs.contracts.flavors.array.Rows as Rows
use Rattle.crossbeam_channel.specs.contracts.flavors.array.Key as Key
use Rattle.crossbeam_channel.specs.contracts.flavors.array.Doing as Doing
use Rattle.crossbeam_channel.specs.contracts.flavors.array.Rounds as Rounds
use Rattle.crossbeam_channel.specs.contracts.flavors.array.Lockers as Lockers
use Rattle.crossbeam_channel.specs.contracts.flavors.array.Whole as Whole
use Rattle.crossbeam_channel.specs.contracts.flavors.array.RoundsTableRuleBadgeKeyDoingBadgeKey.TheImpl as rounds
use Rattle.crossbeam_channel.specs.contracts.flavors.array.LockersTableRuleOptionKeyUnit.TheImpl as lockers
use Rattle.crossbeam_channel.specs.contracts.flavors.array.WholeSight.TheImpl as whole
use Rattle.atomic_table.specs.contracts.badge.Badge as Badge
use Rattle.atomic_table.proofs.shared.Shared.TheSendSync as shared
use Rattle.atomic_table.proofs.badge.Badge.TheSendSync as badge
use Rattle.atomic_table.proofs.send_lease.SendLease.TheSendSync as leased
use Rattle.std.specs.contracts.option.Option as Option
use Rattle.atomic_table.specs.contracts.owned.Table as Table
use Rattle.atomic_table.specs.declared.shared.TableRule.{Ghosts as TableGhosts}
use Rattle.std.specs.contracts.alloc.Global as Global
use Rattle.std.specs.contracts.impls.GlobalAllocator.TheImpl as heap

-- the channel of messages of type T, under a rule P over views V
abbrev channel : (T V P : RattleType) → Ghosts P.Denot T.Denot V.Denot → RattleType
channel T V P g = Rows.the_row (Badge.the_row (Key.the_row T)) (Doing.the_row T V) (Rounds.the_row P) (Option.the_row T) (Key.the_row T) (Lockers.the_row Whole.the_row) Global.the_row
    (rounds.ghosts T V P g rounds.no_dict) (lockers.ghosts T T Whole.the_row (whole.ghosts T) lockers.no_dict) heap.ghosts

table_send : (S V K P : RattleType) (g : TableGhosts P.Denot S.Denot V.Denot K.Denot) → IsSend S → IsSend (Table.the_field S V K P Global.the_row g heap.ghosts).row
table_send S V K P g s = struct_send (shape (Table.the_type S V K P Global.the_row g heap.ghosts)) (search (shared.the_send) depth 5, (search sendable, (search sendable, (search (sendable, crosses, leased.the_send) depth 10, (search (sendable, crosses, leased.the_send) depth 10, (search (sendable, crosses) depth 20, tt))))))

table_sync : (S V K P : RattleType) (g : TableGhosts P.Denot S.Denot V.Denot K.Denot) → IsSend S → IsSync (Table.the_field S V K P Global.the_row g heap.ghosts).row
table_sync S V K P g s = struct_sync (shape (Table.the_type S V K P Global.the_row g heap.ghosts)) (search (shared.the_sync) depth 5, (search sendable, (search sendable, (search (sendable, crosses, leased.the_sync) depth 10, (search (sendable, crosses, leased.the_sync) depth 10, (search (sendable, crosses) depth 20, tt))))))

option_send : (T : RattleType) → IsSend T → IsSend (Option.the_row T)
option_send T t = search (sendable, crosses) depth 20

badge_send : (T : RattleType) → IsSend (Badge.the_row T)
badge_send T = search (badge.the_send) depth 5

rows_send : (T V P : RattleType) (g : Ghosts P.Denot T.Denot V.Denot) → IsSend T → IsSend (channel T V P g)
rows_send T V P g t = let k = Rows.the_type (Badge.the_row (Key.the_row T)) (Doing.the_row T V) (Rounds.the_row P) (Option.the_row T) (Key.the_row T) (Lockers.the_row Whole.the_row) Global.the_row (rounds.ghosts T V P g rounds.no_dict) (lockers.ghosts T T Whole.the_row (whole.ghosts T) lockers.no_dict) heap.ghosts in recorded_send _ _ _ k.to_one (struct_send (shape k)
    (table_send (Badge.the_row (Key.the_row T)) (Doing.the_row T V) (Badge.the_row (Key.the_row T)) (Rounds.the_row P) (rounds.ghosts T V P g rounds.no_dict) (badge_send (Key.the_row T)), (table_send (Option.the_row T) (Key.the_row T) unit (Lockers.the_row Whole.the_row) (lockers.ghosts T T Whole.the_row (whole.ghosts T) lockers.no_dict) (option_send T t), (search sendable, (search sendable, tt)))))

rows_sync : (T V P : RattleType) (g : Ghosts P.Denot T.Denot V.Denot) → IsSend T → IsSync (channel T V P g)
rows_sync T V P g t = let k = Rows.the_type (Badge.the_row (Key.the_row T)) (Doing.the_row T V) (Rounds.the_row P) (Option.the_row T) (Key.the_row T) (Lockers.the_row Whole.the_row) Global.the_row (rounds.ghosts T V P g rounds.no_dict) (lockers.ghosts T T Whole.the_row (whole.ghosts T) lockers.no_dict) heap.ghosts in recorded_sync _ _ _ k.to_one (struct_sync (shape k)
    (table_sync (Badge.the_row (Key.the_row T)) (Doing.the_row T V) (Badge.the_row (Key.the_row T)) (Rounds.the_row P) (rounds.ghosts T V P g rounds.no_dict) (badge_send (Key.the_row T)), (table_sync (Option.the_row T) (Key.the_row T) unit (Lockers.the_row Whole.the_row) (lockers.ghosts T T Whole.the_row (whole.ghosts T) lockers.no_dict) (option_send T t), (search sendable, (search sendable, tt)))))

both_send : (C : RattleType) → IsSend C → IsSend (Both.the_row C)
both_send C c = search (sendable, crosses) depth 20

both_sync : (C : RattleType) → IsSync C → IsSync (Both.the_row C)
both_sync C c = search (sendable, crosses) depth 20

sending : (C : RattleType) → IsSend C → IsSync C → IsSend (Sending.the_field C Global.the_row heap.ghosts).row
sending C s y = struct_send (shape (Sending.the_type C Global.the_row heap.ghosts)) (Arc-send _ (both_send C s) (both_sync C y), tt)

receiving : (C : RattleType) → IsSend C → IsSync C → IsSend (Receiving.the_field C Global.the_row heap.ghosts).row
receiving C s y = struct_send (shape (Receiving.the_type C Global.the_row heap.ghosts)) (Arc-send _ (both_send C s) (both_sync C y), tt)

sending_sync : (C : RattleType) → IsSend C → IsSync C → IsSync (Sending.the_field C Global.the_row heap.ghosts).row
sending_sync C s y = struct_sync (shape (Sending.the_type C Global.the_row heap.ghosts)) (Arc-sync _ (both_send C s) (both_sync C y), tt)

receiving_sync : (C : RattleType) → IsSend C → IsSync C → IsSync (Receiving.the_field C Global.the_row heap.ghosts).row
receiving_sync C s y = struct_sync (shape (Receiving.the_type C Global.the_row heap.ghosts)) (Arc-sync _ (both_send C s) (both_sync C y), tt)

-- both ends of the channel may cross threads
pub sender_send : (T V P : RattleType) (g : Ghosts P.Denot T.Denot V.Denot) → IsSend T → IsSend (Sending.the_field (channel T V P g) Global.the_row heap.ghosts).row
sender_send T V P g t = sending (channel T V P g) (rows_send T V P g t) (rows_sync T V P g t)

pub receiver_send : (T V P : RattleType) (g : Ghosts P.Denot T.Denot V.Denot) → IsSend T → IsSend (Receiving.the_field (channel T V P g) Global.the_row heap.ghosts).row
receiver_send T V P g t = receiving (channel T V P g) (rows_send T V P g t) (rows_sync T V P g t)

pub sender_sync : (T V P : RattleType) (g : Ghosts P.Denot T.Denot V.Denot) → IsSend T → IsSync (Sending.the_field (channel T V P g) Global.the_row heap.ghosts).row
sender_sync T V P g t = sending_sync (channel T V P g) (rows_send T V P g t) (rows_sync T V P g t)

pub receiver_sync : (T V P : RattleType) (g : Ghosts P.Denot T.Denot V.Denot) → IsSend T → IsSync (Receiving.the_field (channel T V P g) Global.the_row heap.ghosts).row
receiver_sync T V P g t = receiving_sync (channel T V P g) (rows_send T V P g t) (rows_sync T V P g t)
