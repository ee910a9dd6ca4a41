-- The lines for commands that follow one another.
use Rattle.std.proofs.Common.{◌≡◌, ℕ, ◌+◌, ◌<◌, Bool, List, [], ◌∷◌, ◌++◌, length, take, get_or, Option, sym, ap, subst, ◌∙◌, append_assoc, append-nil, length-take, arith}
use Rattle.std.proofs.KnownBytes.{Appends-trans}
use Rattle.std.proofs.lemmas.List.{take_more}
use Rattle.std.specs.Io.KnownBytes.{Appends}
use Rattle.cc_library.specs.Change.{LibraryCommand}
use Rattle.cc_log.specs.Written.{line_text, lines_after, log_text}

-- the lines for commands with one more at the end are those for the commands and then its own
lines_push : (hashed : Bool) (name : Option (List ℕ)) (k : ℕ) (commands : List LibraryCommand) (command : LibraryCommand)
    → lines_after hashed name k (commands ++ command ∷ []) ≡ lines_after hashed name k commands ++ line_text hashed name (k + length commands + 1) command
lines_push hashed name k [] command =
    let same : k + 1 ≡ k + 0 + 1 = omega arith in
    append-nil (line_text hashed name (k + 1) command) ∙ ap (λ (n : ℕ). line_text hashed name n command) same
lines_push hashed name k (c ∷ commands) command =
    let same : k + 1 + length commands + 1 ≡ k + length (c ∷ commands) + 1 = omega arith in
    ap (λ l. line_text hashed name (k + 1) c ++ l) (lines_push hashed name (k + 1) commands command ∙ ap (λ (n : ℕ). lines_after hashed name (k + 1) commands ++ line_text hashed name n command) same)
    ∙ sym (append_assoc (line_text hashed name (k + 1) c) (lines_after hashed name (k + 1) commands) (line_text hashed name (k + length (c ∷ commands) + 1) command))

-- if the lines so far were written, and then the line for one more command, the lines for all of these
-- commands were written
pub one_more : (hashed : Bool) (name : Option (List ℕ)) (a b c : Option (List ℕ)) (commands : List LibraryCommand) (i : ℕ) (command : LibraryCommand) → i < length commands → command ≡ get_or commands i command
    → Appends a b (log_text hashed name (take i commands)) → Appends b c (line_text hashed name (i + 1) command) → Appends a c (log_text hashed name (take (i + 1) commands))
one_more hashed name a b c commands i command within is one two =
    let more : take i commands ++ command ∷ [] ≡ take (i + 1) commands = ap (λ x. take i commands ++ x ∷ []) is ∙ sym (take_more commands i command within) in
    let long : 0 + length (take i commands) + 1 ≡ i + 1 = omega (arith, length-take i commands) in
    let text : log_text hashed name (take i commands) ++ line_text hashed name (i + 1) command ≡ log_text hashed name (take (i + 1) commands) =
    ap (λ (n : ℕ). log_text hashed name (take i commands) ++ line_text hashed name n command) (sym long) ∙ (sym (lines_push hashed name 0 (take i commands) command) ∙ ap (log_text hashed name) more) in
    subst (λ (t : List ℕ). Appends a c t) text (Appends-trans a b c _ _ one two)
