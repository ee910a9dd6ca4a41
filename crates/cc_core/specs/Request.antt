-- What a client asks for.
use Rattle.std.specs.Prelude.{ℕ, List}
use Rattle.cc_library.specs.declared.command.Change.{Change}

-- a change that carries a source
abbrev pub Request : Type 0
Request = Change (List ℕ)
