-- The count of a full expression never exceeds its limit: the step refuses a token that would exceed it.
use Rattle.std.proofs.Common.{◌≡◌, ◌<◌, ◌≤◌, ◌∙◌, ℕ, Option, Some, None, Result, Ok, Err, refl, sym, ap, subst, arith, inl, inr}
use Rattle.cc_syntax.specs.declared.parser.state.Parser as parser
use Rattle.cc_syntax.specs.declared.parser.state.Stage as stage
use Rattle.cc_syntax.specs.declared.parser.state.Stage.TheVariants as stages
use Rattle.cc_syntax.specs.declared.parser.state.At as reading
use Rattle.cc_syntax.specs.declared.parser.state.At.TheVariants as readings
use Rattle.cc_syntax.specs.declared.parser.stop.Stop as stop
use Rattle.cc_syntax.specs.declared.parser.stop.Stop.TheVariants as why
use Rattle.cc_tokens.specs.Token.{Lexeme}
use Rattle.cc_syntax.specs.declared.parser.role.Role.{Role}
use Rattle.cc_syntax.specs.internal.Roles.{role_of}
use Rattle.cc_ast.specs.Limits.{IsWithin, PassesLimit}
use Rattle.cc_syntax.specs.internal.Parser.{State, step, role_step, role_level, level_at, name_of, standing, count_of, stage_count}
use Rattle.cc_syntax.specs.internal.ParserView.{stage_of, view_at, parser_view, PassesCount, Stops, Gives, Advances}

in_stage : (p : parser.Parser) (s : stage.Stage) → stage_count (stage_of p s) ≤ 512
in_stage p stages.Item = omega arith
in_stage p (stages.AfterThen e s) = omega arith
in_stage p (stages.AfterDo s) = omega arith
in_stage p (stages.Testing t) = omega arith
in_stage p (stages.Ending s) = omega arith
in_stage p (stages.Returning at) = omega arith
in_stage p stages.ForOpening = omega arith
in_stage p stages.ForStarting = omega arith
in_stage p (stages.ForTesting a) = omega arith
in_stage p (stages.ForStepping a e) = omega arith
in_stage p stages.LocalSign = omega arith
in_stage p stages.Declaring = omega arith
in_stage p stages.Declared = omega arith
in_stage p (stages.Stepping op) = omega arith
in_stage p (stages.StepNamed op) = omega arith
in_stage p (stages.Stepped op t) = p.full.count.limit

in_view : (p : parser.Parser) (a : reading.At) → count_of (view_at p a) ≤ 512
in_view p readings.File = omega arith
in_view p readings.Body = in_stage p p.body.stage
in_view p readings.Full = p.full.count.limit

pub count_within : (p : parser.Parser) → count_of (parser_view p) ≤ 512
count_within p = in_view p p.at

past : (o : Option State) → PassesCount o → (m : State) × (o ≡ Some m) × (512 < count_of m)
past None h = absurd h
past (Some m) h = (m, refl, h)

-- if the step stops at a token for the reason `e`, that is the right result of reading the token
stops : {X : Type 0} (s : State) (x : Lexeme) (p : parser.Parser) (r : Result X stop.Stop) (e : stop.Stop) → Stops e (step s x) → r ≡ Err e → Advances s x r p
stops {X} s x p r why.Memory h same = subst (λ (z : Result X stop.Stop). Advances s x z p) (sym same) tt
stops {X} s x p r why.Unexpected h same = subst (λ (z : Result X stop.Stop). Advances s x z p) (sym same) h
stops {X} s x p r why.TooDeep h same = let m = past (step s x) h in subst (λ (z : Result X stop.Stop). Advances s x z p) (sym same) (m.0, m.1, inl m.2)

pub stopped_at : {X : Type 0} (s : State) (x : Lexeme) (role : Role) (p : parser.Parser) (r : Result X stop.Stop) (e : stop.Stop) → role ≡ role_of x.kind → Gives (role_step s role (name_of x)) r p → r ≡ Err e → Advances s x r p
stopped_at {X} s x role p r e same h is =
    let stopped : Stops e (role_step s role (name_of x)) = subst (λ (z : Result X stop.Stop). Gives (role_step s role (name_of x)) z p) is h in
    stops s x p r e (subst (λ (z : Role). Stops e (role_step s z (name_of x))) same stopped) is

-- if the step accepts a token that begins something below level 64, the token exceeds a limit
pub too_low : {X : Type 0} {v : X} (s : State) (x : Lexeme) (role : Role) (level : ℕ) (p : parser.Parser) (r : Result X stop.Stop) → role ≡ role_of x.kind → level ≡ role_level s role → Gives (role_step s role (name_of x)) r p → r ≡ Ok v → 64 < level → (m : State) × (step s x ≡ Some m) × PassesLimit (standing s x m)
too_low {X} {v} s x role level p r same at h is low =
    let goes : role_step s role (name_of x) ≡ Some (parser_view p) = subst (λ (z : Result X stop.Stop). Gives (role_step s role (name_of x)) z p) is h in
    let begins : level ≡ level_at s x = at ∙ ap (λ (z : Role). role_level s z) same in
    (parser_view p, ap (λ (z : Role). role_step s z (name_of x)) (sym same) ∙ goes, inr (subst (λ (n : ℕ). 64 < n) begins low))

-- if the step accepts a token that begins nothing below level 64, the token is within the limits
pub advanced : {X : Type 0} {v : X} (s : State) (x : Lexeme) (role : Role) (level : ℕ) (p : parser.Parser) (r : Result X stop.Stop) → role ≡ role_of x.kind → level ≡ role_level s role → Gives (role_step s role (name_of x)) r p → r ≡ Ok v → level ≤ 64 → (step s x ≡ Some (parser_view p)) × IsWithin (standing s x (parser_view p))
advanced {X} {v} s x role level p r same at h is high =
    let goes : role_step s role (name_of x) ≡ Some (parser_view p) = subst (λ (z : Result X stop.Stop). Gives (role_step s role (name_of x)) z p) is h in
    let begins : level ≡ level_at s x = at ∙ ap (λ (z : Role). role_level s z) same in
    (ap (λ (z : Role). role_step s z (name_of x)) (sym same) ∙ goes, (count_within p, subst (λ (n : ℕ). n ≤ 64) begins high))
