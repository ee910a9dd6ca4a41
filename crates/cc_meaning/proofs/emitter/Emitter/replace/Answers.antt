-- The instructions are kept with the last one first, so the place of an instruction is counted from the other
-- end.
use Rattle.std.proofs.Common.{◌≡◌, ◌<◌, ◌+◌, ◌-◌, ◌∙◌, length, set, sym, ap, arith}
use Rattle.std.proofs.lemmas.List.{length-reverse}
use Rattle.cc_meaning.proofs.Emitting.{reverse-set}
use Rattle.cc_meaning.proofs.emitter.Emitter.replace.Goals as goal

pub returns : goal.returns
returns c =
    let xs = c.self.inside.items.items in
    let k = c.args.behind in
    let v = c.args.instruction in
    let long : length xs ≡ length c.args.self.now = sym (length-reverse xs) ∙ ap length c.self.view_is in
    let inside : k < length xs = omega (arith, long, c.requires) in
    reverse-set xs k v inside ∙ ap (λ l. set l (length xs - (k + 1)) v) c.self.view_is ∙ ap (λ n. set c.args.self.now (n - (k + 1)) v) long
