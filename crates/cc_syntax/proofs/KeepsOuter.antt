-- Reading a token at file scope, outside full expressions, extends what the tokens so far spell.
use Rattle.std.proofs.Common.{◌≡◌, Bool, true, false, List, [], ◌∷◌, ◌++◌, map, Option, Some, None, is_some, refl, sym, ap, subst, ◌∙◌, append_assoc, inl, inr}
use Rattle.std.proofs.lemmas.Bool.{false≢true, and_parts}
use Rattle.std.proofs.lemmas.List.{append-nil}
use Rattle.cc_tokens.specs.declared.scalar.Scalar.{Scalar}
use Rattle.cc_tokens.specs.declared.scalar.Scalar.TheVariants as scalar
use Rattle.cc_ast.specs.declared.ast.AssignmentOperator.TheVariants as assignment
use Rattle.cc_tokens.specs.declared.token.Keyword.TheVariants as keyword
use Rattle.cc_tokens.specs.declared.token.Punctuator.TheVariants as punctuator
use Rattle.cc_syntax.specs.declared.parser.role.Role.{Role}
use Rattle.cc_syntax.specs.declared.parser.role.Role.TheVariants as role
use Rattle.cc_tokens.specs.Token.{Lexeme}
use Rattle.cc_ast.specs.Tree.{Name, ConstantExpr, Parameter, Signature, Object, Single, External, Declaration}
use Rattle.cc_syntax.specs.declared.parser.state.ObjectKind.{ObjectKind}
use Rattle.cc_syntax.specs.declared.parser.state.ObjectKind.TheVariants.{Words, Bytes}
use Rattle.cc_ast.specs.Grammar.{Measured, outside, identifier, Marks, IsKeyword, SpellsType, SpellsRow, optional_identifier, SpellsParameter, SpellsParameters, AreNamed, SpellsExternals}
use Rattle.cc_syntax.specs.internal.Parser.{AtFile, Outer, Between, ResultSign, Typed, Named, Parameters, OnlyVoid, ParameterNext, ParameterSign, ParameterTyped, ParameterNamed, Headed, ObjectNext, ObjectNamed, Sizing, Sized, Initialising, Listing, Valuing, Listed, OfObject, ToSize, ToSingle, ToValue, Naming, array_of, with_object, signature_of, with_parameter, all_named, external_step, typed_step, char_step, result_sign_step, single_step, object_step, named_step, parameter_step, parameters_step, only_void_step, parameter_named_step, parameter_typed_step, parameter_sign_step, defines, headed_step, object_next_step, sizing_step, sized_step, listing_step, end_list, valuing_step, outer_step, outer_level, name_of}
use Rattle.cc_syntax.proofs.KeepsFull.{identified}
use Rattle.cc_syntax.proofs.SoFarBody.{RowSoFar}
use Rattle.cc_syntax.proofs.KeepsPhase.{HasRole}
use Rattle.cc_syntax.proofs.KeepsBody.{regrouped}
use Rattle.cc_syntax.proofs.SoFarUnit.{AreWords, ParametersSoFar, NamingSoFar, OuterSoFar, AtFileSoFar, Kept}
use Rattle.cc_syntax.proofs.KeepsEnd.{row-done, row-comma}
use Rattle.cc_syntax.proofs.KeepsObject.{kept-external, kept-file, naming-more, object-done, single-spelled, array-spelled, kept-separated, array-done}
use Rattle.cc_syntax.proofs.KeepsOperator.{kept-begin}

-- the first tokens of an external declaration

last-one : (ts us : List Measured) (x : Lexeme) → ts ≡ us → ts ++ outside x ∷ [] ≡ us ++ outside x ∷ []
last-one ts us x h = ap (λ (z : List Measured). z ++ outside x ∷ []) h

kept-between : (r : Role) (es : List External) (before mine ts : List Measured) (x : Lexeme) → HasRole r x → SpellsExternals before es → OuterSoFar Between mine → ts ≡ before ++ mine → Kept (external_step es r) ts x 0
kept-between role.Int es before mine ts x h k o e = kept-file es (Typed (Some scalar.Int)) before mine ts x k e (x ∷ [], inl (x, refl, h, refl), last-one mine [] x o)
kept-between (role.SignWord t) es before mine ts x h k o e = kept-file es (ResultSign t) before mine ts x k e (x, h, last-one mine [] x o)
kept-between role.Void es before mine ts x h k o e = kept-file es (Typed None) before mine ts x k e (x ∷ [], (x, h, refl), last-one mine [] x o)
kept-between _ es before mine ts x h k o e = tt

kept-typed : (r : Role) (t : Option Scalar) (es : List External) (before mine ts : List Measured) (x : Lexeme) → HasRole r x → SpellsExternals before es → OuterSoFar (Typed t) mine → ts ≡ before ++ mine → Kept (typed_step es t r (name_of x)) ts x 0
kept-typed role.Identifier t es before mine ts x h k o e =
    let tokens : mine ++ outside x ∷ [] ≡ map outside o.0 ++ outside (identifier (name_of x)) ∷ [] =
    last-one mine (map outside o.0) x o.2 ∙ ap (λ (y : Lexeme). map outside o.0 ++ outside y ∷ []) (identified x h) in
    kept-file es (Named t (name_of x)) before mine ts x k e (o.0, o.1, tokens)
kept-typed _ t es before mine ts x h k o e = tt

kept-char : (t : Scalar) (es : List External) (before mine ts : List Measured) (x : Lexeme) → IsKeyword keyword.Char x → SpellsExternals before es → OuterSoFar (ResultSign t) mine → ts ≡ before ++ mine → Kept (char_step es t) ts x 0
kept-char scalar.Unsigned es before mine ts x h k o e =
    kept-file es (ObjectNext Bytes []) before mine ts x k e (o.0 ∷ x ∷ [], [], (o.0, x, o.1, h, refl), inl (refl, refl), last-one mine (outside o.0 ∷ []) x o.2)
kept-char scalar.Int es before mine ts x h k o e = tt

kept-result-sign : (r : Role) (t : Scalar) (es : List External) (before mine ts : List Measured) (x : Lexeme) → HasRole r x → SpellsExternals before es → OuterSoFar (ResultSign t) mine → ts ≡ before ++ mine → Kept (result_sign_step es t r (name_of x)) ts x 0
kept-result-sign role.Int t es before mine ts x h k o e =
    kept-file es (Typed (Some t)) before mine ts x k e (o.0 ∷ x ∷ [], inr (inr (o.0, x, o.1, h, refl)), last-one mine (outside o.0 ∷ []) x o.2)
kept-result-sign role.Char t es before mine ts x h k o e = kept-char t es before mine ts x h k o e
kept-result-sign r t es before mine ts x h k o e = kept-typed r (Some t) es before mine ts x h k (o.0 ∷ [], inr (inl (o.0, o.1, refl)), o.2) e

-- objects

kept-single : (t : ObjectKind) (r : Role) (n : Naming) (es : List External) (before mine ts : List Measured) (x : Lexeme) → n.kind ≡ t → HasRole r x → SpellsExternals before es → OuterSoFar (ObjectNamed n) mine → ts ≡ before ++ mine → Kept (single_step es n t r) ts x 0
kept-single (Words t) (role.Assignment assignment.Plain) n es before mine ts x is h k o e =
    kept-file es (Initialising n) before mine ts x k e (x, h, naming-more n [] mine (outside x ∷ []) o, subst AreWords (sym is) tt)
kept-single (Words t) r n es before mine ts x is h k o e =
    let single = Single n.name None in
    kept-separated r es n.kind (with_object n single) before mine ts x h k
    (object-done n single [] mine o (single-spelled n.kind (outside (identifier n.name) ∷ []) n.name None (subst AreWords (sym is) tt) refl)) e
kept-single Bytes r n es before mine ts x is h k o e = tt

kept-object : (r : Role) (n : Naming) (es : List External) (before mine ts : List Measured) (x : Lexeme) → HasRole r x → SpellsExternals before es → OuterSoFar (ObjectNamed n) mine → ts ≡ before ++ mine → Kept (object_step es n r) ts x 0
kept-object role.OpenBracket n es before mine ts x h k o e =
    kept-file es (Sizing n) before mine ts x k e (x, h, naming-more n [] mine (outside x ∷ []) o)
kept-object r n es before mine ts x h k o e = kept-single n.kind r n es before mine ts x refl h k o e

kept-object-next : (r : Role) (t : ObjectKind) (os : List Object) (es : List External) (before mine ts : List Measured) (x : Lexeme) → HasRole r x → SpellsExternals before es → OuterSoFar (ObjectNext t os) mine → ts ≡ before ++ mine → Kept (object_next_step es t os r (name_of x)) ts x 0
kept-object-next role.Identifier t os es before mine ts x h k o e =
    let n : Naming = record { kind = t; objects = os; name = name_of x } in
    let tokens : mine ++ outside x ∷ [] ≡ map outside o.0 ++ (o.1 ++ outside (identifier n.name) ∷ []) =
    regrouped mine (map outside o.0) (o.1 ++ []) (outside x ∷ []) o.4 ∙ ap (λ (z : List Measured). map outside o.0 ++ z) (last-one (o.1 ++ []) o.1 x (append-nil o.1))
    ∙ ap (λ (y : Lexeme). map outside o.0 ++ (o.1 ++ outside y ∷ [])) (identified x h) in
    kept-file es (ObjectNamed n) before mine ts x k e (o.0, o.1, o.2, o.3, tokens)
kept-object-next _ t os es before mine ts x h k o e = tt

kept-sizing : (r : Role) (n : Naming) (es : List External) (before mine ts : List Measured) (x : Lexeme) → HasRole r x → SpellsExternals before es → OuterSoFar (Sizing n) mine → ts ≡ before ++ mine → Kept (sizing_step es n r (name_of x)) ts x 0
kept-sizing role.CloseBracket n es before mine ts x h k o e =
    kept-file es (Sized n None) before mine ts x k e (o.0, x, [], o.1, h, refl, naming-more n (outside o.0 ∷ []) mine (outside x ∷ []) o.2)
kept-sizing r n es before mine ts x h k o e = kept-begin (OfObject es n (ToSize x.at)) r ts x 0 h (refl, (before, mine, k, o, e)) refl refl

kept-sized : (r : Role) (n : Naming) (size : Option ConstantExpr) (es : List External) (before mine ts : List Measured) (x : Lexeme) → HasRole r x → SpellsExternals before es → OuterSoFar (Sized n size) mine → ts ≡ before ++ mine → Kept (sized_step es n size r) ts x 0
kept-sized (role.Assignment assignment.Plain) n size es before mine ts x h k o e =
    let behind : List Measured = outside o.0 ∷ o.2 ++ outside o.1 ∷ outside x ∷ [] in
    let same : (outside o.0 ∷ o.2 ++ outside o.1 ∷ []) ++ outside x ∷ [] ≡ behind = ap (λ (z : List Measured). outside o.0 ∷ z) (append_assoc o.2 (outside o.1 ∷ []) (outside x ∷ [])) in
    let naming : NamingSoFar n behind (mine ++ outside x ∷ []) =
    subst (λ (z : List Measured). NamingSoFar n z (mine ++ outside x ∷ [])) same (naming-more n (outside o.0 ∷ o.2 ++ outside o.1 ∷ []) mine (outside x ∷ []) o.6) in
    kept-file es (Listing n size) before mine ts x k e (o.0, o.1, x, o.2, o.3, o.4, o.5, h, naming)
kept-sized r n size es before mine ts x h k o e =
    let array = array_of n.kind n.name size [] in
    let behind : List Measured = outside o.0 ∷ o.2 ++ outside o.1 ∷ [] in
    let done = object-done n array behind mine o.6 (array-spelled n.kind (outside (identifier n.name) ∷ behind) n.name size [] (o.0, o.1, o.2, [], o.3, o.4, o.5, refl, refl)) in
    kept-separated r es n.kind (with_object n array) before mine ts x h k done e

kept-listing : (r : Role) (n : Naming) (size : Option ConstantExpr) (es : List External) (before mine ts : List Measured) (x : Lexeme) → HasRole r x → SpellsExternals before es → OuterSoFar (Listing n size) mine → ts ≡ before ++ mine → Kept (listing_step es n size r) ts x 0
kept-listing role.OpenBrace n size es before mine ts x h k o e =
    let old : List Measured = outside o.0 ∷ o.3 ++ outside o.1 ∷ outside o.2 ∷ [] in
    let behind : List Measured = outside o.0 ∷ o.3 ++ (outside o.1 ∷ outside o.2 ∷ outside x ∷ []) in
    let same : old ++ outside x ∷ [] ≡ behind = ap (λ (z : List Measured). outside o.0 ∷ z) (append_assoc o.3 (outside o.1 ∷ outside o.2 ∷ []) (outside x ∷ [])) in
    let naming : NamingSoFar n behind (mine ++ outside x ∷ []) = subst (λ (z : List Measured). NamingSoFar n z (mine ++ outside x ∷ [])) same (naming-more n old mine (outside x ∷ []) o.8) in
    kept-file es (Valuing n size []) before mine ts x k e (o.0, o.1, o.2, x, o.3, [], o.4, o.5, o.6, o.7, h, inl (refl, refl), naming)
kept-listing _ n size es before mine ts x h k o e = tt

-- after a comma, the closing brace of an initialiser list extends what the tokens spell
kept-list-end : (vs : List ConstantExpr) (n : Naming) (size : Option ConstantExpr) (es : List External) (before mine ts : List Measured) (x : Lexeme) → Marks punctuator.CloseBrace x → SpellsExternals before es → OuterSoFar (Valuing n size vs) mine → ts ≡ before ++ mine → Kept (end_list es n size vs) ts x 0
kept-list-end [] n size es before mine ts x h k o e = tt
kept-list-end (v ∷ vs) n size es before mine ts x h k o e = elim o.11 [
  | inl r ↦ absurd (empty r.0)
  | inr r ↦
      let tokens : o.5 ++ outside x ∷ [] ≡ r.0 ++ (outside r.1 ∷ outside x ∷ []) = regrouped o.5 r.0 (outside r.1 ∷ []) (outside x ∷ []) r.4 in
      let us = v ∷ vs in
      kept-file es (Listed n.kind (with_object n (array_of n.kind n.name size us))) before mine ts x k e
      (array-done n size us us mine (outside x ∷ []) r.0 (r.1 ∷ []) x o h r.2 (inr (r.1, r.3, refl)) tokens)
]
  where
    empty : v ∷ vs ≡ [] → ⊥
    empty h = cc

kept-valuing : (r : Role) (n : Naming) (size : Option ConstantExpr) (vs : List ConstantExpr) (es : List External) (before mine ts : List Measured) (x : Lexeme) → HasRole r x → SpellsExternals before es → OuterSoFar (Valuing n size vs) mine → ts ≡ before ++ mine → Kept (valuing_step es n size vs r (name_of x)) ts x 0
kept-valuing role.CloseBrace n size vs es before mine ts x h k o e = kept-list-end vs n size es before mine ts x h k o e
kept-valuing r n size vs es before mine ts x h k o e = kept-begin (OfObject es n (ToValue size vs x.at)) r ts x 0 h (refl, (before, mine, k, o, e)) refl refl

-- functions

kept-named : (t : Option Scalar) (r : Role) (v : Name) (es : List External) (before mine ts : List Measured) (x : Lexeme) → HasRole r x → SpellsExternals before es → OuterSoFar (Named t v) mine → ts ≡ before ++ mine → Kept (named_step es t v r) ts x 0
kept-named t role.OpenParenthesis v es before mine ts x h k o e =
    kept-file es (Parameters (signature_of t v)) before mine ts x k e
    (refl, (o.0, x, [], o.1, h, refl, regrouped mine (map outside o.0) (outside (identifier v) ∷ []) (outside x ∷ []) o.2))
kept-named (Some t) r v es before mine ts x h k o e =
    kept-object r (record { kind = Words t; objects = []; name = v }) es before mine ts x h k (o.0, [], o.1, inl (refl, refl), o.2) e
kept-named None r v es before mine ts x h k o e = tt

-- the parameters so far stay spelled after more tokens
parameters-more : (f : Signature) (Row : List Measured → Type 0) (behind mine more : List Measured) → ParametersSoFar f Row behind mine → ParametersSoFar f Row (behind ++ more) (mine ++ more)
parameters-more f Row behind mine more o =
    let head : List Measured = outside (identifier f.name) ∷ outside o.1 ∷ o.2 in
    (o.0, o.1, o.2, o.3, o.4, o.5, regrouped mine (map outside o.0) (head ++ behind) more o.6 ∙ ap (λ (z : List Measured). map outside o.0 ++ z) (append_assoc head behind more))

-- the tokens after a row become part of it
parameters-in : (f : Signature) (Row Next : List Measured → Type 0) (behind mine : List Measured) → (o : ParametersSoFar f Row behind mine) → Next (o.2 ++ behind) → ParametersSoFar f Next [] mine
parameters-in f Row Next behind mine o h =
    let head : List Measured = outside (identifier f.name) ∷ outside o.1 ∷ [] in
    (o.0, o.1, o.2 ++ behind, o.3, o.4, h, o.6 ∙ ap (λ (z : List Measured). map outside o.0 ++ (outside (identifier f.name) ∷ outside o.1 ∷ z)) (sym (append-nil (o.2 ++ behind))))

kept-headed-by : (f : Signature) (Row : List Measured → Type 0) (es : List External) (before mine ts : List Measured) (x : Lexeme) → Marks punctuator.CloseParenthesis x → SpellsExternals before es → (o : ParametersSoFar f Row [] mine) → SpellsParameters o.2 f.parameters → ts ≡ before ++ mine → Kept (Some (AtFile es (Headed f))) ts x 0
unfolding parameters-more
kept-headed-by f Row es before mine ts x h k o s e =
    let whole = parameters-more f Row [] mine (outside x ∷ []) o in
    kept-file es (Headed f) before mine ts x k e (o.0, o.1, x, o.2, o.3, o.4, h, s, whole.6)

kept-parameter : (r : Role) (f : Signature) (es : List External) (before mine ts : List Measured) (x : Lexeme) → HasRole r x → SpellsExternals before es → OuterSoFar (ParameterNext f) mine → ts ≡ before ++ mine → Kept (parameter_step es f r) ts x 0
kept-parameter role.Int f es before mine ts x h k o e =
    kept-file es (ParameterTyped f scalar.Int) before mine ts x k e
    (x ∷ [], inl (x, refl, h, refl), parameters-more f (λ row. RowSoFar SpellsParameter row f.parameters) [] mine (outside x ∷ []) o)
kept-parameter (role.SignWord t) f es before mine ts x h k o e =
    kept-file es (ParameterSign f t) before mine ts x k e (x, h, parameters-more f (λ row. RowSoFar SpellsParameter row f.parameters) [] mine (outside x ∷ []) o)
kept-parameter _ f es before mine ts x h k o e = tt

no-parameters : (ps : List Parameter) (row : List Measured) → ps ≡ [] → (row ≡ []) → SpellsParameters row ps
no-parameters ps row h k = subst (λ (z : List Parameter). SpellsParameters row z) (sym h) (inl k)

kept-parameters : (r : Role) (f : Signature) (es : List External) (before mine ts : List Measured) (x : Lexeme) → HasRole r x → SpellsExternals before es → OuterSoFar (Parameters f) mine → ts ≡ before ++ mine → Kept (parameters_step es f r) ts x 0
unfolding parameters-more
kept-parameters role.Void f es before mine ts x h k o e =
    let p = o.1 in
    let more = parameters-more f (λ row. row ≡ []) [] mine (outside x ∷ []) p in
    let row : p.2 ++ outside x ∷ [] ≡ outside x ∷ [] = last-one p.2 [] x p.5 in
    kept-file es (OnlyVoid f) before mine ts x k e (o.0, parameters-in f (λ row. row ≡ []) (λ row. (word : Lexeme) × IsKeyword keyword.Void word × (row ≡ outside word ∷ [])) (outside x ∷ []) (mine ++ outside x ∷ []) more (x, h, row))
kept-parameters role.CloseParenthesis f es before mine ts x h k o e =
    kept-headed-by f (λ row. row ≡ []) es before mine ts x h k o.1 (no-parameters f.parameters o.1.2 o.0 o.1.5) e
kept-parameters r f es before mine ts x h k o e =
    let p = o.1 in
    kept-parameter r f es before mine ts x h k (p.0, p.1, p.2, p.3, p.4, inl (o.0, p.5), p.6) e

kept-only-void : (r : Role) (f : Signature) (es : List External) (before mine ts : List Measured) (x : Lexeme) → HasRole r x → SpellsExternals before es → OuterSoFar (OnlyVoid f) mine → ts ≡ before ++ mine → Kept (only_void_step es f r) ts x 0
kept-only-void role.CloseParenthesis f es before mine ts x h k o e =
    let p = o.1 in
    kept-headed-by f (λ row. (word : Lexeme) × IsKeyword keyword.Void word × (row ≡ outside word ∷ [])) es before mine ts x h k p
    (subst (λ (z : List Parameter). SpellsParameters p.2 z) (sym o.0) (inr p.5)) e
kept-only-void _ f es before mine ts x h k o e = tt

some-parameters : (ps : List Parameter) (row : List Measured) → SpellsRow SpellsParameter row ps → SpellsParameters row ps
some-parameters [] row h = absurd h
some-parameters (p ∷ ps) row h = h

kept-parameter-named : (r : Role) (f : Signature) (es : List External) (before mine ts : List Measured) (x : Lexeme) → HasRole r x → SpellsExternals before es → OuterSoFar (ParameterNamed f) mine → ts ≡ before ++ mine → Kept (parameter_named_step es f r) ts x 0
unfolding parameters-more
kept-parameter-named role.Comma f es before mine ts x h k o e =
    let Row : List Measured → Type 0 = λ row. SpellsRow SpellsParameter row f.parameters in
    let more = parameters-more f Row [] mine (outside x ∷ []) o in
    kept-file es (ParameterNext f) before mine ts x k e
    (parameters-in f Row (λ row. RowSoFar SpellsParameter row f.parameters) (outside x ∷ []) (mine ++ outside x ∷ []) more (row-comma SpellsParameter f.parameters o.2 x o.5 h))
kept-parameter-named role.CloseParenthesis f es before mine ts x h k o e =
    kept-headed-by f (λ row. SpellsRow SpellsParameter row f.parameters) es before mine ts x h k o (some-parameters f.parameters o.2 o.5) e
kept-parameter-named _ f es before mine ts x h k o e = tt

-- once a parameter is complete, the tokens spell the function's head with that parameter
parameter-done : (f : Signature) (t : Scalar) (v : Option Name) (words : List Lexeme) (mine : List Measured) → SpellsType words t → ParametersSoFar f (λ row. RowSoFar SpellsParameter row f.parameters) (map outside words ++ map outside (optional_identifier v)) mine → OuterSoFar (ParameterNamed (with_parameter f t v)) mine
parameter-done f t v words mine h o =
    let p : Parameter = record { scalar = t; name = v } in
    let one = map outside words ++ map outside (optional_identifier v) in
    parameters-in (with_parameter f t v) (λ row. RowSoFar SpellsParameter row f.parameters) (λ row. SpellsRow SpellsParameter row (f.parameters ++ p ∷ [])) one mine o
    (row-done SpellsParameter f.parameters p o.2 one o.5 (words, h, refl))

kept-parameter-typed : (r : Role) (t : Scalar) (f : Signature) (es : List External) (before mine ts : List Measured) (x : Lexeme) → HasRole r x → SpellsExternals before es → OuterSoFar (ParameterTyped f t) mine → ts ≡ before ++ mine → Kept (parameter_typed_step es f t r (name_of x)) ts x 0
kept-parameter-typed role.Identifier t f es before mine ts x h k o e =
    let Row : List Measured → Type 0 = λ row. RowSoFar SpellsParameter row f.parameters in
    let more = parameters-more f Row (map outside o.0) mine (outside x ∷ []) o.2 in
    let named = subst (λ (y : Lexeme). ParametersSoFar f Row (map outside o.0 ++ outside y ∷ []) (mine ++ outside x ∷ [])) (identified x h) more in
    kept-file es (ParameterNamed (with_parameter f t (Some (name_of x)))) before mine ts x k e (parameter-done f t (Some (name_of x)) o.0 (mine ++ outside x ∷ []) o.1 named)
kept-parameter-typed r t f es before mine ts x h k o e =
    let Row : List Measured → Type 0 = λ row. RowSoFar SpellsParameter row f.parameters in
    let same : ParametersSoFar f Row (map outside o.0 ++ []) mine = subst (λ (z : List Measured). ParametersSoFar f Row z mine) (sym (append-nil (map outside o.0))) o.2 in
    kept-parameter-named r (with_parameter f t None) es before mine ts x h k (parameter-done f t None o.0 mine o.1 same) e

kept-parameter-sign : (r : Role) (t : Scalar) (f : Signature) (es : List External) (before mine ts : List Measured) (x : Lexeme) → HasRole r x → SpellsExternals before es → OuterSoFar (ParameterSign f t) mine → ts ≡ before ++ mine → Kept (parameter_sign_step es f t r (name_of x)) ts x 0
kept-parameter-sign role.Int t f es before mine ts x h k o e =
    kept-file es (ParameterTyped f t) before mine ts x k e
    (o.0 ∷ x ∷ [], inr (inr (o.0, x, o.1, h, refl)), parameters-more f (λ row. RowSoFar SpellsParameter row f.parameters) (outside o.0 ∷ []) mine (outside x ∷ []) o.2)
kept-parameter-sign r t f es before mine ts x h k o e = kept-parameter-typed r t f es before mine ts x h k (o.0 ∷ [], inr (inl (o.0, o.1, refl)), o.2) e

-- what follows a function's head

named-parameters : (ps : List Parameter) → all_named ps ≡ true → AreNamed ps
named-parameters [] h = tt
named-parameters (p ∷ ps) h =
    let both = and_parts (is_some p.name) (all_named ps) h in
    (named p.name both.0, named-parameters ps both.1)
  where
    named : (n : Option Name) → is_some n ≡ true → (v : Name) × (n ≡ Some v)
    named None e = absurd (false≢true e)
    named (Some v) e = (v, refl)

kept-defines : (named : Bool) (f : Signature) (es : List External) (before mine ts : List Measured) (x : Lexeme) → Marks punctuator.OpenBrace x → SpellsExternals before es → OuterSoFar (Headed f) mine → ts ≡ before ++ mine → (named ≡ true → AreNamed f.parameters) → Kept (defines es f named) ts x 1
kept-defines true f es before mine ts x h k o e n =
    let us = ts ++ record { token = x; count = 0; level = 1 } ∷ [] in
    (us, [], (ts, [], x, (before, mine, k, o, e), n refl, h, refl, refl), refl, sym (append-nil us))
kept-defines false f es before mine ts x h k o e n = tt

kept-headed : (r : Role) (f : Signature) (es : List External) (before mine ts : List Measured) (x : Lexeme) → HasRole r x → SpellsExternals before es → OuterSoFar (Headed f) mine → ts ≡ before ++ mine → Kept (headed_step es f r) ts x (outer_level (Headed f) r)
kept-headed role.Semicolon f es before mine ts x h k o e = kept-external es (Declaration f) before mine ts x k e (mine, x, o, h, refl)
kept-headed role.OpenBrace f es before mine ts x h k o e = kept-defines (all_named f.parameters) f es before mine ts x h k o e (λ n. named-parameters f.parameters n)
kept-headed _ f es before mine ts x h k o e = tt

-- a token at file scope, outside full expressions, extends what the tokens spell
pub kept-outer : (o : Outer) (es : List External) (r : Role) (ts : List Measured) (x : Lexeme) → HasRole r x → AtFileSoFar es o ts → Kept (outer_step es o r (name_of x)) ts x (outer_level o r)
kept-outer Between es r ts x h k = kept-between r es k.0 k.1 ts x h k.2 k.3 k.4
kept-outer (ResultSign t) es r ts x h k = kept-result-sign r t es k.0 k.1 ts x h k.2 k.3 k.4
kept-outer (Typed t) es r ts x h k = kept-typed r t es k.0 k.1 ts x h k.2 k.3 k.4
kept-outer (Named t v) es r ts x h k = kept-named t r v es k.0 k.1 ts x h k.2 k.3 k.4
kept-outer (Parameters f) es r ts x h k = kept-parameters r f es k.0 k.1 ts x h k.2 k.3 k.4
kept-outer (OnlyVoid f) es r ts x h k = kept-only-void r f es k.0 k.1 ts x h k.2 k.3 k.4
kept-outer (ParameterNext f) es r ts x h k = kept-parameter r f es k.0 k.1 ts x h k.2 k.3 k.4
kept-outer (ParameterSign f t) es r ts x h k = kept-parameter-sign r t f es k.0 k.1 ts x h k.2 k.3 k.4
kept-outer (ParameterTyped f t) es r ts x h k = kept-parameter-typed r t f es k.0 k.1 ts x h k.2 k.3 k.4
kept-outer (ParameterNamed f) es r ts x h k = kept-parameter-named r f es k.0 k.1 ts x h k.2 k.3 k.4
kept-outer (Headed f) es r ts x h k = kept-headed r f es k.0 k.1 ts x h k.2 k.3 k.4
kept-outer (ObjectNext t os) es r ts x h k = kept-object-next r t os es k.0 k.1 ts x h k.2 k.3 k.4
kept-outer (ObjectNamed n) es r ts x h k = kept-object r n es k.0 k.1 ts x h k.2 k.3 k.4
kept-outer (Sizing n) es r ts x h k = kept-sizing r n es k.0 k.1 ts x h k.2 k.3 k.4
kept-outer (Sized n size) es r ts x h k = kept-sized r n size es k.0 k.1 ts x h k.2 k.3 k.4
kept-outer (Initialising n) es r ts x h k = kept-begin (OfObject es n (ToSingle x.at)) r ts x 0 h (refl, k) refl refl
kept-outer (Listing n size) es r ts x h k = kept-listing r n size es k.0 k.1 ts x h k.2 k.3 k.4
kept-outer (Valuing n size vs) es r ts x h k = kept-valuing r n size vs es k.0 k.1 ts x h k.2 k.3 k.4
kept-outer (Listed t os) es r ts x h k = kept-separated r es t os k.0 k.1 ts x h k.2 k.3 k.4
