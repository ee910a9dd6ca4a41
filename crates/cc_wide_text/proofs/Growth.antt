-- What is written with defined names replaced only grows.
use Rattle.std.proofs.Common.{◌≡◌, ℕ, ◌+◌, ◌<◌, ◌≤◌, Bool, true, false, not, ◌&&◌, ◌==◌, nat_lt, if◌then◌else◌, List, [], ◌∷◌, ◌++◌, length, ap, arith}
use Rattle.std.proofs.lemmas.List.{length-append}
use Rattle.cc_tokens.specs.Token.{Lexeme}
use Rattle.cc_tokens.specs.Tokens.{most_bytes}
use Rattle.cc_wide_text.specs.declared.macros.Expecting.{Expecting}
use Rattle.cc_wide_text.specs.declared.macros.Expecting.TheVariants.{Program, Name, First, Body}
use Rattle.cc_wide_text.specs.Plain.{macro_word}
use Rattle.cc_wide_text.specs.Lexing.{led, is_identifier, is_word, wrong}
use Rattle.cc_wide_text.specs.Macros.{Expansion, replaced, occurs, is_semicolon, writes, program_token, name_token, defines, most_replacing, replaces, body_token, expanding, expand_token, start, end_of, expanded}

longer : (a b : List ℕ) → length a ≤ length (a ++ b)
longer a b = let e = length-append a b in omega (arith, e)

either : (n : ℕ) (b : Bool) (e f : Expansion) → n ≤ length e.written → n ≤ length f.written → n ≤ length (if b then e else f).written
either n true e f h k = h
either n false e f h k = k

program_grows : (e : Expansion) (x : Lexeme) → length e.written ≤ length (program_token e x).written
program_grows e x =
    either (length e.written) (is_word x macro_word) (record e { expecting = Name }) (writes e (replaced e.meanings x)) (omega arith) (longer e.written (replaced e.meanings x))

name_grows : (e : Expansion) (before : List Lexeme) (x : Lexeme) → length e.written ≤ length (name_token e before x).written
name_grows e before x =
    either (length e.written) (is_identifier x.kind && not (occurs before x.text)) (record e { name = x.text; body = []; expecting = First (x.at + length x.text) }) (writes e wrong)
    (omega arith) (longer e.written wrong)

replaces_grows : (e : Expansion) (body : List ℕ) → length e.written ≤ length (replaces e body).written
replaces_grows e body =
    either (length e.written) (nat_lt most_replacing (length body)) (record (writes e wrong) { body = [] }) (record e { body = body; expecting = Body })
    (longer e.written wrong) (omega arith)

body_grows : (e : Expansion) (x : Lexeme) → length e.written ≤ length (body_token e x).written
body_grows e x =
    either (length e.written) (is_semicolon x.kind) (defines e) (replaces e (e.body ++ replaced e.meanings x)) (omega arith) (replaces_grows e (e.body ++ replaced e.meanings x))

expanding_grows : (e : Expansion) (before : List Lexeme) (x : Lexeme) (k : Expecting) → length e.written ≤ length (expanding e before x k).written
expanding_grows e before x Program = program_grows e x
expanding_grows e before x Name = name_grows e before x
expanding_grows e before x (First at) =
    either (length e.written) (x.at == at && not (is_semicolon x.kind)) (writes e wrong) (body_token e x) (longer e.written wrong) (body_grows e x)
expanding_grows e before x Body = body_grows e x

led_grows : (e : Expansion) (before ts : List Lexeme) → length e.written ≤ length (led expand_token e before ts).written
led_grows e before [] = omega arith
led_grows e before (x ∷ xs) =
    let a = expanding_grows e before x e.expecting in
    let b = led_grows (expand_token e before x) (before ++ x ∷ []) xs in
    omega (arith, a, b)

pub too_long : (e : Expansion) (before rest ts : List Lexeme) → led expand_token e before rest ≡ led expand_token start [] ts → most_bytes < length e.written → most_bytes < length (expanded ts)
too_long e before rest ts same long =
    let all = led expand_token start [] ts in
    let a = led_grows e before rest in
    let b = ap (λ (s : Expansion). length s.written) same in
    let c = longer all.written (end_of all.expecting) in
    omega (arith, a, b, c, long)
