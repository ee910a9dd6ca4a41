-- The texts so far are names, and these are the names.
use Rattle.std.proofs.Common.{◌≡◌, map, take, IsTrue}
use Rattle.std.specs.Prelude.{All, string_bytes}
use Rattle.cc_library.specs.Name.{is_name}
use Rattle.cc_copy.proofs.selecting.names_in.Given as goal

abbrev pub invariant-loop-text : goal.invariant-loop-text
invariant-loop-text l = record {
  same : l.names.items ≡ map string_bytes (take l.text-index l.texts);
  all : All (λ name. IsTrue (is_name name)) (map string_bytes (take l.text-index l.texts));
}
