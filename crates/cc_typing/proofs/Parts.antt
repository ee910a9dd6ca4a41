-- What is found in one part and then in the next is what is found in both together.
use Rattle.std.proofs.Common.{◌≡◌, ℕ, true, false, List, [], ◌∷◌, ◌++◌, Option, Some, refl, sym, ap, ◌∙◌, append_assoc}
use Rattle.cc_ast.specs.Tree.{Name}
use Rattle.cc_types.specs.Rules.{undefined_among, broken_if}
use Rattle.cc_types.specs.Scope.{has_name}
use Rattle.cc_typing.specs.internal.Findings.{Found, earlier, noted, after}
use Rattle.cc_types.specs.declared.rule.RuleError.{RuleError}
use Rattle.cc_types.specs.declared.rule.Rule.TheVariants.{Undefined}
use Rattle.std.specs.Prelude.{not}

pub noted-append : (f : Option RuleError) (xs ys : List RuleError) → noted (noted f xs) ys ≡ noted f (xs ++ ys)
noted-append f [] ys = refl
noted-append f (x ∷ xs) ys = noted-append (Some (earlier f x)) xs ys

pub undefined_among-append : (defined : List (List ℕ)) (cs ds : List Name) → undefined_among defined (cs ++ ds) ≡ undefined_among defined cs ++ undefined_among defined ds
undefined_among-append defined [] ds = refl
undefined_among-append defined (c ∷ cs) ds =
    ap (λ os. broken_if (not (has_name defined c.text)) Undefined c.at ++ os) (undefined_among-append defined cs ds)
    ∙ sym (append_assoc (broken_if (not (has_name defined c.text)) Undefined c.at) (undefined_among defined cs) (undefined_among defined ds))

noted_calls : (f : Option RuleError) (defined : List (List ℕ)) (cs ds : List Name)
    → noted (noted f (undefined_among defined cs)) (undefined_among defined ds) ≡ noted f (undefined_among defined (cs ++ ds))
noted_calls f defined cs ds =
    noted-append f (undefined_among defined cs) (undefined_among defined ds) ∙ ap (noted f) (sym (undefined_among-append defined cs ds))

pub after_nothing : (f : Found) → after f [] [] ≡ f
after_nothing f = refl

pub after_after : (f : Found) (xs ys : List RuleError) (cs ds : List Name) → after (after f xs cs) ys ds ≡ after f (xs ++ ys) (cs ++ ds)
after_after f xs ys cs ds i = record { first = noted-append f.first xs ys i; undefined = noted_calls f.undefined f.functions.defined cs ds i; functions = f.functions }

-- an error that is recorded after a part adds to what was found in the part
pub after_noted : (f : Found) (xs ys : List RuleError) (cs : List Name) → after (after f xs cs) ys [] ≡ after f (xs ++ ys) cs
after_noted f xs ys cs i = record { first = noted-append f.first xs ys i; undefined = noted f.undefined (undefined_among f.functions.defined cs); functions = f.functions }

-- what is found in one part and then in another is what is found in both together
pub two : (f g h : Found) (xs ys os : List RuleError) (cs ds es : List Name) → g ≡ after f xs cs → h ≡ after g ys ds → os ≡ xs ++ ys → es ≡ cs ++ ds → h ≡ after f os es
two f g h xs ys os cs ds es eg eh eo ee = eh ∙ ap (λ k. after k ys ds) eg ∙ after_after f xs ys cs ds ∙ sym (ap (λ l. after f l (cs ++ ds)) eo) ∙ sym (ap (after f os) ee)

-- once the first item of a list is checked, what the rest adds completes what is found in the whole list
pub next : (f g whole : Found) (xs ys os : List RuleError) (cs ds es : List Name) → after f os es ≡ whole → os ≡ xs ++ ys → es ≡ cs ++ ds → g ≡ after f xs cs → after g ys ds ≡ whole
next f g whole xs ys os cs ds es before eo ee eg =
    ap (λ k. after k ys ds) eg ∙ after_after f xs ys cs ds ∙ sym (ap (λ l. after f l (cs ++ ds)) eo) ∙ sym (ap (after f os) ee) ∙ before

-- if nothing is left of the list, what has been found is what is found in the whole list
pub last : (f whole : Found) (os : List RuleError) (es : List Name) → after f os es ≡ whole → os ≡ [] → es ≡ [] → f ≡ whole
last f whole os es before eo ee = sym (after_nothing f) ∙ sym (ap (λ l. after f l []) eo) ∙ sym (ap (after f os) ee) ∙ before

-- recording an error, or a call, adds just that one to what was found
pub noted_one : (f : Found) (o : RuleError) → record f { first = Some (earlier f.first o) } ≡ after f (o ∷ []) []
noted_one f o = refl

pub called_undefined : (f : Found) (x : Name) → has_name f.functions.defined x.text ≡ false
    → record f { undefined = Some (earlier f.undefined (record { rule = Undefined; at = x.at })) } ≡ after f [] (x ∷ [])
called_undefined f x e = sym (ap (λ b. record f { undefined = noted f.undefined (broken_if (not b) Undefined x.at ++ []) }) e)

pub called_defined : (f : Found) (x : Name) → has_name f.functions.defined x.text ≡ true → f ≡ after f [] (x ∷ [])
called_defined f x e = sym (ap (λ b. record f { undefined = noted f.undefined (broken_if (not b) Undefined x.at ++ []) }) e)

-- what is found in three parts, one after another, is what is found in all three together
pub three : (f g h k : Found) (xs ys zs os : List RuleError) (cs ds es all : List Name) → g ≡ after f xs cs → h ≡ after g ys ds → k ≡ after h zs es → os ≡ xs ++ (ys ++ zs) → all ≡ cs ++ (ds ++ es) → k ≡ after f os all
three f g h k xs ys zs os cs ds es all eg eh ek eo ee =
    two f g k xs (ys ++ zs) os cs (ds ++ es) all eg (two g h k ys zs (ys ++ zs) ds es (ds ++ es) eh ek refl refl) eo ee
