-- The bytes made are the body's length, the body, and a closed gate.
use Rattle.std.proofs.Common.{◌≡◌, ◌++◌, ◌<◌, ◌^◌, length, ℕ, List, [], ◌∷◌, ◌∙◌, ap, arith}
use Rattle.std.specs.Int.{w32, to_le_bytes}
use Rattle.std.specs.Option.{option_map}
use Rattle.cc_journal.specs.Commit.{behind_gate}
use Rattle.cc_library.specs.Body.{body_bytes}
use Rattle.cc_library.proofs.Sizes.{body_long, short_body}
use Rattle.cc_library.proofs.body.framed_body.Goals as goal

is_framed : (body start put pushed : List ℕ) (n : ℕ) → start ≡ to_le_bytes w32 n → n ≡ length body → put ≡ start ++ body → pushed ≡ put ++ 0 ∷ [] → pushed ≡ behind_gate body
is_framed body start put pushed n length_is long put_is pushed_is =
    pushed_is ∙ ap (λ (l : List ℕ). l ++ 0 ∷ []) put_is ∙ ap (λ (l : List ℕ). (l ++ body) ++ 0 ∷ []) (length_is ∙ ap (to_le_bytes w32) long)

pub put_command-requires-clause-short : goal.put_command-requires-clause-short
put_command-requires-clause-short c = short_body c.args.kind c.args.name.now (option_map (λ u. u.now) c.args.unit) c.requires.short

pub from_framed-requires : goal.from_framed-requires
from_framed-requires c =
    let unit = option_map (λ u. u.now) c.args.unit in
    let body : List ℕ = body_bytes c.args.kind c.args.name.now unit in
    let n : ℕ = c.length_with-length.result in
    let long : n ≡ length body = omega (arith, body_long c.args.kind c.args.name.now unit, c.length_with-length.ensures.length, ap length c.bytes.ensures.bytes) in
    let small : length body < 2 ^ 32 = c.requires.short in
    let start : c.extend_from_slice.new.self.items ≡ to_le_bytes w32 n = c.in_ok-extend_from_slice.ensures.items ∙ ap (λ (l : List ℕ). l ++ c.to_le_bytes.result) c.in_ok-bytes.ensures.items ∙ c.to_le_bytes.ensures in
    (body, small, is_framed body c.extend_from_slice.new.self.items c.put_command.new.body.items c.push.new.self.items n start long c.in_ok-put_command.ensures.put c.in_ok-push.ensures.items)

pub returns-clause-spelled : goal.returns-clause-spelled
returns-clause-spelled c =
    let unit = option_map (λ u. u.now) c.args.unit in
    let body : List ℕ = body_bytes c.args.kind c.args.name.now unit in
    let n : ℕ = c.length_with-length.result in
    let long : n ≡ length body = omega (arith, body_long c.args.kind c.args.name.now unit, c.length_with-length.ensures.length, ap length c.bytes.ensures.bytes) in
    let start : c.extend_from_slice.new.self.items ≡ to_le_bytes w32 n = c.in_ok-extend_from_slice.ensures.items ∙ ap (λ (l : List ℕ). l ++ c.to_le_bytes.result) c.in_ok-bytes.ensures.items ∙ c.to_le_bytes.ensures in
    c.from_framed.ensures body (is_framed body c.extend_from_slice.new.self.items c.put_command.new.body.items c.push.new.self.items n start long c.in_ok-put_command.ensures.put c.in_ok-push.ensures.items)
