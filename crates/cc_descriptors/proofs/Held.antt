-- Taking one descriptor leaves the later ones as they were, so what is held for each says whether it was free at the start.
use Rattle.std.proofs.Common.{◌≡◌, ◌∙◌, Bool, Option, None, Some, IfSome, not, if◌then◌else◌, refl, ap, subst}
use Rattle.cc_descriptors.specs.Uses.{AreHeld, is_used, opened}
use Rattle.cc_descriptors.specs.declared.descriptors.Access.TheVariants.{Reading, Writing}
use Rattle.cc_descriptors.specs.declared.descriptors.Use.{Use}
use Rattle.cc_descriptors.specs.declared.descriptors.Use.TheVariants.{Free, Given, StandIn}
use Rattle.cc_descriptors.specs.declared.descriptors.Uses.{Uses}

abbrev with_input : Uses → Uses
with_input all = if is_used all.input then all else opened Writing all

abbrev with_output : Uses → Uses
with_output all = if is_used all.output then all else opened Reading all

output_stays : (i o e : Use) → is_used (with_input (record { input = i; output = o; error = e })).output ≡ is_used o
output_stays Free o e = refl
output_stays Given o e = refl
output_stays (StandIn a) o e = refl

error_stays : (i o e : Use) → is_used (with_output (with_input (record { input = i; output = o; error = e }))).error ≡ is_used e
error_stays Free Free e = refl
error_stays Free Given e = refl
error_stays Free (StandIn b) e = refl
error_stays Given Free e = refl
error_stays Given Given e = refl
error_stays Given (StandIn b) e = refl
error_stays (StandIn a) Free e = refl
error_stays (StandIn a) Given e = refl
error_stays (StandIn a) (StandIn b) e = refl

pub held : (first second third : Option Uses) (input output error : Bool)
    → IfSome first (λ it. second ≡ Some (with_input it)) → IfSome first (λ it. input ≡ not (is_used it.input))
    → IfSome second (λ it. third ≡ Some (with_output it)) → IfSome second (λ it. output ≡ not (is_used it.output))
    → IfSome third (λ it. error ≡ not (is_used it.error)) → IfSome first (AreHeld input output error)
held None second third input output error f a s b c = tt
held (Some all) second third input output error f a s b c =
    let is_third : third ≡ Some (with_output (with_input all)) = subst (λ (u : Option Uses). IfSome u (λ it. third ≡ Some (with_output it))) f s in
    let is_output : output ≡ not (is_used (with_input all).output) = subst (λ (u : Option Uses). IfSome u (λ it. output ≡ not (is_used it.output))) f b in
    let is_error : error ≡ not (is_used (with_output (with_input all)).error) = subst (λ (u : Option Uses). IfSome u (λ it. error ≡ not (is_used it.error))) is_third c in
    (a, is_output ∙ ap not (output_stays all.input all.output all.error), is_error ∙ ap not (error_stays all.input all.output all.error))
