-- Threads may share a service, and a client may go to another thread. This is shown for each type separately, from the bottom
-- up.
use denote.RattleType.{RattleType}
use denote.Param.Send.{IsSend, IsSync, sendable, recorded_send, recorded_sync, view_send, view_sync, struct_send, struct_sync, enum_send, enum_sync}
use denote.Struct.Declared.{shape}
use denote.Enum.Declared.{shape as enum_shape}
use Rattle.std.proofs.Crossing.{crosses, Arc-send, Arc-sync, Vec-send, Vec-sync}
use Rattle.std.proofs.MapsCrossing.{BTreeMap-send}
use Rattle.cc_disk.specs.declared.disk.Disk.{Ghosts}
use Rattle.cc_journal.specs.contracts.body.Body as Body
use Rattle.cc_journal.specs.contracts.body.Body.TheInside as bodies
use Rattle.cc_journal.specs.contracts.log.Log as Log
use Rattle.cc_journal.specs.contracts.log.Log.TheInside as logs
use Rattle.cc_library.specs.image_contract.Code as Code
use Rattle.cc_library.specs.image_contract.Code.TheInside as codes
use Rattle.cc_library.specs.image_contract.Globals as Globals
use Rattle.cc_library.specs.image_contract.Globals.TheInside as globals
use Rattle.cc_library.specs.image_contract.Image as Image
use Rattle.cc_library.specs.unit_contract.Source as Source
use Rattle.cc_library.specs.unit_contract.Source.TheInside as sources
use Rattle.cc_library.specs.unit_contract.StoredUnit as StoredUnit
use Rattle.cc_library.specs.unit_contract.Certificate as Certificate
use Rattle.cc_library.specs.unit_contract.Certificate.TheInside as certificates
use Rattle.cc_library.specs.contracts.name.Name as Name
use Rattle.cc_library.specs.contracts.name.NamePartialEq.TheImpl as eq
use Rattle.cc_library.specs.contracts.name.NamePartialOrd.TheImpl as partial
use Rattle.cc_library.specs.contracts.name.Name.TheInside as names
use Rattle.cc_library.specs.contracts.unit.SharedUnit as SharedUnit
use Rattle.cc_library.specs.contracts.unit.SharedUnit.TheInside as shared
use Rattle.cc_library.specs.contracts.units.UnitMap as UnitMap
use Rattle.cc_library.specs.contracts.units.UnitMap.TheInside as maps
use Rattle.cc_library.specs.contracts.command.Change as Change
use Rattle.cc_library.specs.contracts.library.Library as Library
use Rattle.cc_library.specs.contracts.library.Library.TheInside as libraries
use Rattle.cc_history.specs.compiled_contract.CompiledUnit as CompiledUnit
use Rattle.cc_history.specs.compiled_contract.CompiledUnit.TheInside as compiled
use Rattle.cc_history.specs.contracts.command.Asked as Asked
use Rattle.cc_history.specs.contracts.reply.NameList as NameList
use Rattle.cc_history.specs.contracts.reply.NameList.TheInside as lists
use Rattle.cc_history.specs.contracts.reply.Reply as Reply
use Rattle.cc_history.specs.contracts.entry.Entry as Entry
use Rattle.cc_history.specs.contracts.entry.SharedEntry as SharedEntry
use Rattle.cc_history.specs.contracts.entry.SharedEntry.TheInside as entries
use Rattle.cc_history.specs.contracts.entry.Receipt as Receipt

body_send : IsSend Body.the_row
body_send = view_send _ _ _ _ _ (recorded_send bodies.the_field.row _ _ bodies.the_type.to_one (struct_send (shape bodies.the_type) (search (sendable, crosses) depth 20, (search sendable, tt))))

pub log_send : (D : RattleType) (d : Ghosts D.Denot) → IsSend D → IsSend (Log.the_row D d)
log_send D d s = let b = body_send in view_send _ _ _ _ _ (recorded_send (logs.the_field D d).row _ _ (logs.the_type D d).to_one (struct_send (shape (logs.the_type D d)) (s, (search (sendable, crosses) depth 20, (search sendable, (search sendable, (search sendable, (search sendable, tt))))))))

code_send : IsSend Code.the_row
code_send = view_send _ _ _ _ _ (recorded_send codes.the_field.row _ _ codes.the_type.to_one (struct_send (shape codes.the_type) (search (sendable, crosses) depth 20, tt)))

code_sync : IsSync Code.the_row
code_sync = view_sync _ _ _ _ _ (recorded_sync codes.the_field.row _ _ codes.the_type.to_one (struct_sync (shape codes.the_type) (search (sendable, crosses) depth 20, tt)))

globals_send : IsSend Globals.the_row
globals_send = view_send _ _ _ _ _ (recorded_send globals.the_field.row _ _ globals.the_type.to_one (struct_send (shape globals.the_type) (search (sendable, crosses) depth 20, tt)))

globals_sync : IsSync Globals.the_row
globals_sync = view_sync _ _ _ _ _ (recorded_sync globals.the_field.row _ _ globals.the_type.to_one (struct_sync (shape globals.the_type) (search (sendable, crosses) depth 20, tt)))

source_send : IsSend Source.the_row
source_send = view_send _ _ _ _ _ (recorded_send sources.the_field.row _ _ sources.the_type.to_one (struct_send (shape sources.the_type) (search (sendable, crosses) depth 20, tt)))

source_sync : IsSync Source.the_row
source_sync = view_sync _ _ _ _ _ (recorded_sync sources.the_field.row _ _ sources.the_type.to_one (struct_sync (shape sources.the_type) (search (sendable, crosses) depth 20, tt)))

image_send : IsSend (Image.the_field).row
image_send = struct_send (shape Image.the_type) (code_send, (globals_send, tt))

image_sync : IsSync (Image.the_field).row
image_sync = struct_sync (shape Image.the_type) (code_sync, (globals_sync, tt))

certificate_send : IsSend Certificate.the_row
certificate_send = view_send _ _ _ _ _ (recorded_send certificates.the_field.row _ _ certificates.the_type.to_one (struct_send (shape certificates.the_type) (search (sendable, crosses) depth 20, tt)))

certificate_sync : IsSync Certificate.the_row
certificate_sync = view_sync _ _ _ _ _ (recorded_sync certificates.the_field.row _ _ certificates.the_type.to_one (struct_sync (shape certificates.the_type) (search (sendable, crosses) depth 20, tt)))

stored_send : IsSend StoredUnit.the_row
stored_send = recorded_send _ _ _ StoredUnit.the_type.to_one (struct_send (shape StoredUnit.the_type) (source_send, (image_send, (let c = certificate_send in search (sendable, crosses) depth 20, tt))))

stored_sync : IsSync StoredUnit.the_row
stored_sync = recorded_sync _ _ _ StoredUnit.the_type.to_one (struct_sync (shape StoredUnit.the_type) (source_sync, (image_sync, (let c = certificate_sync in search (sendable, crosses) depth 20, tt))))

name_send : IsSend Name.the_row
name_send = view_send _ _ _ _ _ (recorded_send names.the_field.row _ _ names.the_type.to_one (struct_send (shape names.the_type) (search sendable depth 20, (search sendable, (search sendable, tt)))))

name_sync : IsSync Name.the_row
name_sync = view_sync _ _ _ _ _ (recorded_sync names.the_field.row _ _ names.the_type.to_one (struct_sync (shape names.the_type) (search sendable depth 20, (search sendable, (search sendable, tt)))))

shared_send : IsSend SharedUnit.the_row
shared_send = view_send _ _ _ _ _ (recorded_send shared.the_field.row _ _ shared.the_type.to_one (struct_send (shape shared.the_type) (Arc-send _ stored_send stored_sync, tt)))

shared_sync : IsSync SharedUnit.the_row
shared_sync = view_sync _ _ _ _ _ (recorded_sync shared.the_field.row _ _ shared.the_type.to_one (struct_sync (shape shared.the_type) (Arc-sync _ stored_send stored_sync, tt)))

pub change_send : IsSend (Change.the_row SharedUnit.the_row)
change_send = let n = name_send in let s = Arc-send _ stored_send stored_sync in search (sendable, crosses) depth 20 fits 10000

pub map_send : IsSend UnitMap.the_row
map_send = view_send _ _ _ _ _ (recorded_send maps.the_field.row _ _ maps.the_type.to_one (struct_send (shape maps.the_type) (BTreeMap-send _ _ _ eq.ghosts partial.ghosts name_send shared_send, tt)))

pub library_send : (D : RattleType) (d : Ghosts D.Denot) → IsSend D → IsSend (Library.the_row D d)
library_send D d s = view_send _ _ _ _ _ (recorded_send (libraries.the_field D d).row _ _ (libraries.the_type D d).to_one (struct_send (shape (libraries.the_type D d)) (log_send D d s, (map_send, (search sendable, tt)))))

compiled_send : IsSend CompiledUnit.the_row
compiled_send = view_send _ _ _ _ _ (recorded_send compiled.the_field.row _ _ compiled.the_type.to_one (struct_send (shape compiled.the_type) (Arc-send _ stored_send stored_sync, tt)))

compiled_sync : IsSync CompiledUnit.the_row
compiled_sync = view_sync _ _ _ _ _ (recorded_sync compiled.the_field.row _ _ compiled.the_type.to_one (struct_sync (shape compiled.the_type) (Arc-sync _ stored_send stored_sync, tt)))

command_send : IsSend (Change.the_field CompiledUnit.the_row).row
command_send = enum_send (enum_shape (Change.the_type CompiledUnit.the_row)) ((name_send, (compiled_send, tt)), ((name_send, (compiled_send, tt)), ((name_send, tt), tt)))

command_sync : IsSync (Change.the_field CompiledUnit.the_row).row
command_sync = enum_sync (enum_shape (Change.the_type CompiledUnit.the_row)) ((name_sync, (compiled_sync, tt)), ((name_sync, (compiled_sync, tt)), ((name_sync, tt), tt)))

asked_send : IsSend (Asked.the_field).row
asked_send = enum_send (enum_shape Asked.the_type) ((command_send, tt), ((name_send, tt), (tt, tt)))

asked_sync : IsSync (Asked.the_field).row
asked_sync = enum_sync (enum_shape Asked.the_type) ((command_sync, tt), ((name_sync, tt), (tt, tt)))

list_send : IsSend NameList.the_row
list_send = view_send _ _ _ _ _ (recorded_send lists.the_field.row _ _ lists.the_type.to_one (struct_send (shape lists.the_type) (Vec-send _ name_send, tt)))

list_sync : IsSync NameList.the_row
list_sync = view_sync _ _ _ _ _ (recorded_sync lists.the_field.row _ _ lists.the_type.to_one (struct_sync (shape lists.the_type) (Vec-sync _ name_sync, tt)))

reply_send : IsSend (Reply.the_field).row
reply_send = enum_send (enum_shape Reply.the_type) (tt, (tt, (tt, ((shared_send, tt), ((list_send, tt), tt)))))

reply_sync : IsSync (Reply.the_field).row
reply_sync = enum_sync (enum_shape Reply.the_type) (tt, (tt, (tt, ((shared_sync, tt), ((list_sync, tt), tt)))))

entry_send : IsSend Entry.the_row
entry_send = recorded_send _ _ _ Entry.the_type.to_one (struct_send (shape Entry.the_type) (search sendable, (search sendable, (asked_send, (reply_send, tt)))))

entry_sync : IsSync Entry.the_row
entry_sync = recorded_sync _ _ _ Entry.the_type.to_one (struct_sync (shape Entry.the_type) (search sendable, (search sendable, (asked_sync, (reply_sync, tt)))))

pub shared_entry_send : IsSend SharedEntry.the_row
shared_entry_send = view_send _ _ _ _ _ (recorded_send entries.the_field.row _ _ entries.the_type.to_one (struct_send (shape entries.the_type) (Arc-send _ entry_send entry_sync, tt)))

pub receipt_send : IsSend Receipt.the_row
receipt_send = recorded_send _ _ _ Receipt.the_type.to_one (struct_send (shape Receipt.the_type) (search sendable, (shared_entry_send, tt)))
