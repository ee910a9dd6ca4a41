-- At file scope, a complete external declaration, a complete object, and the token that ends a constant expression extend what
-- the tokens so far spell.
use Rattle.std.proofs.Common.{◌≡◌, ℕ, List, [], ◌∷◌, ◌++◌, map, Option, Some, refl, sym, ap, subst, ◌∙◌, append_assoc, inl, inr}
use Rattle.std.proofs.lemmas.List.{append-nil}
use Rattle.cc_tokens.specs.declared.token.Punctuator.TheVariants as punctuator
use Rattle.cc_syntax.specs.declared.parser.role.Role.{Role}
use Rattle.cc_syntax.specs.declared.parser.role.Role.TheVariants as role
use Rattle.cc_tokens.specs.Token.{Lexeme}
use Rattle.cc_syntax.specs.declared.parser.state.ObjectKind.{ObjectKind}
use Rattle.cc_syntax.specs.declared.parser.state.ObjectKind.TheVariants.{Words, Bytes}
use Rattle.cc_ast.specs.Tree.{Name, Expr, ConstantExpr, Object, Single, External, Objects}
use Rattle.cc_ast.specs.Grammar.{Measured, outside, full, identifier, Marks, SpellsExpression, SpellsRow, SpellsConstantExpr, IsOptionalComma, SpellsList, SpellsArray, SpellsObject, SpellsObjects, SpellsExternal, SpellsExternals}
use Rattle.cc_syntax.specs.internal.Parser.{AtFile, Outer, Between, Valuing, Phase, OfObject, Part, ToSize, ToSingle, ToValue, Naming, Waiting, array_of, scalar_of, with_object, constant, separated, end_list_value, end_in_object}
use Rattle.cc_syntax.proofs.KeepsPhase.{HasRole}
use Rattle.cc_syntax.proofs.KeepsBody.{regrouped}
use Rattle.cc_syntax.proofs.SoFarUnit.{AreWords, SpellsKind, SpellsName, ObjectsSoFar, NamingSoFar, OuterSoFar, FullSoFar, Kept}
use Rattle.cc_syntax.proofs.KeepsEnd.{row-done, row-comma}

-- external declarations

externals-last : (es : List External) (e : External) (ts us : List Measured) → SpellsExternals ts es → SpellsExternal us e → SpellsExternals (ts ++ us) (es ++ e ∷ [])
externals-last [] e ts us h k = (us, [], k, refl, ap (λ (z : List Measured). z ++ us) h ∙ sym (append-nil us))
externals-last (d ∷ ds) e ts us h k = (h.0, h.1 ++ us, h.2, externals-last ds e h.1 us h.3 k, regrouped ts h.0 h.1 us h.4)

-- the last token of an external declaration extends what the tokens spell
pub kept-external : (es : List External) (e : External) (before mine ts : List Measured) (x : Lexeme) → SpellsExternals before es → ts ≡ before ++ mine → SpellsExternal (mine ++ outside x ∷ []) e → Kept (Some (AtFile (es ++ e ∷ []) Between)) ts x 0
kept-external es e before mine ts x h k s =
    let inner = mine ++ outside x ∷ [] in
    (before ++ inner, [], externals-last es e before inner h s, refl, regrouped ts before mine (outside x ∷ []) k ∙ sym (append-nil (before ++ inner)))

-- a token after which the external declaration continues extends what the tokens spell
pub kept-file : (es : List External) (o : Outer) (before mine ts : List Measured) (x : Lexeme) → SpellsExternals before es → ts ≡ before ++ mine → OuterSoFar o (mine ++ outside x ∷ []) → Kept (Some (AtFile es o)) ts x 0
kept-file es o before mine ts x h k s = (before, mine ++ outside x ∷ [], h, s, regrouped ts before mine (outside x ∷ []) k)

-- objects

pub naming-more : (n : Naming) (behind mine more : List Measured) → NamingSoFar n behind mine → NamingSoFar n (behind ++ more) (mine ++ more)
naming-more n behind mine more h =
    let one : List Measured = outside (identifier n.name) ∷ behind in
    (h.0, h.1, h.2, h.3, regrouped mine (map outside h.0) (h.1 ++ one) more h.4 ∙ ap (λ (z : List Measured). map outside h.0 ++ z) (append_assoc h.1 one more))

-- once the named object is complete, the tokens spell it after the earlier objects
pub object-done : (n : Naming) (o : Object) (behind mine : List Measured) → NamingSoFar n behind mine → SpellsName n.kind (outside (identifier n.name) ∷ behind) o → ObjectsSoFar n.kind (λ row. SpellsRow (SpellsName n.kind) row (with_object n o)) [] mine
object-done n o behind mine h k =
    let one : List Measured = outside (identifier n.name) ∷ behind in
    (h.0, h.1 ++ one, h.2, row-done (SpellsName n.kind) n.objects o h.1 one h.3 k, h.4 ∙ ap (λ (z : List Measured). map outside h.0 ++ z) (sym (append-nil (h.1 ++ one))))

-- a single object occurs only in a declaration of words
pub single-spelled : (t : ObjectKind) (ts : List Measured) (v : Name) (e : Option ConstantExpr) → AreWords t → SpellsObject ts (Single v e) → SpellsName t ts (Single v e)
single-spelled (Words t) ts v e w h = h
single-spelled Bytes ts v e w h = absurd w

-- an array may occur in a declaration of words or of `unsigned char`
pub array-spelled : (t : ObjectKind) (ts : List Measured) (v : Name) (size : Option ConstantExpr) (values : List ConstantExpr) → SpellsArray ts v size values → SpellsName t ts (array_of t v size values)
array-spelled (Words t) ts v size values h = h
array-spelled Bytes ts v size values h = h

-- a whole declaration
objects-spelled : (t : ObjectKind) (ts : List Measured) (os : List Object) → SpellsObjects (SpellsKind t) (SpellsName t) ts os → SpellsExternal ts (Objects (scalar_of t) os)
objects-spelled (Words t) ts os h = inl h
objects-spelled Bytes ts os h = inr (refl, h)

-- the token after a complete object extends what the tokens spell
pub kept-separated : (r : Role) (es : List External) (t : ObjectKind) (os : List Object) (before mine ts : List Measured) (x : Lexeme) → HasRole r x → SpellsExternals before es → ObjectsSoFar t (λ row. SpellsRow (SpellsName t) row os) [] mine → ts ≡ before ++ mine → Kept (separated es t os r) ts x 0
kept-separated role.Comma es t os before mine ts x h k o e =
    let row = o.1 ++ outside x ∷ [] in
    let tokens : mine ++ outside x ∷ [] ≡ map outside o.0 ++ (row ++ []) =
    regrouped mine (map outside o.0) (o.1 ++ []) (outside x ∷ []) o.4
    ∙ ap (λ (z : List Measured). map outside o.0 ++ z) (ap (λ (z : List Measured). z ++ outside x ∷ []) (append-nil o.1) ∙ sym (append-nil row)) in
    (before, mine ++ outside x ∷ [], k, (o.0, row, o.2, row-comma (SpellsName t) os o.1 x o.3 h, tokens), regrouped ts before mine (outside x ∷ []) e)
kept-separated role.Semicolon es t os before mine ts x h k o e =
    let tokens : mine ++ outside x ∷ [] ≡ map outside o.0 ++ (o.1 ++ outside x ∷ []) =
    regrouped mine (map outside o.0) (o.1 ++ []) (outside x ∷ []) o.4 ∙ ap (λ (z : List Measured). map outside o.0 ++ (z ++ outside x ∷ [])) (append-nil o.1) in
    kept-external es (Objects (scalar_of t) os) before mine ts x k e (objects-spelled t (mine ++ outside x ∷ []) os (o.0, o.1, x, o.2, o.3, h, tokens))
kept-separated _ es t os before mine ts x h k o e = tt

-- lists of values

list-spelled : (vs : List ConstantExpr) (sign opening closing : Lexeme) (row : List Measured) (comma : List Lexeme) → Marks punctuator.Assign sign → Marks punctuator.OpenBrace opening → Marks punctuator.CloseBrace closing → SpellsRow SpellsConstantExpr row vs → IsOptionalComma comma → SpellsList (outside sign ∷ outside opening ∷ row ++ (map outside comma ++ outside closing ∷ [])) vs
list-spelled [] sign opening closing row comma h k m s c = absurd s
list-spelled (v ∷ vs) sign opening closing row comma h k m s c = (sign, opening, closing, row, comma, h, k, m, s, c, refl)

-- once the list of a named array is complete, the tokens spell the array after the earlier objects
pub array-done : (n : Naming) (size : Option ConstantExpr) (vs us : List ConstantExpr) (mine more row : List Measured) (comma : List Lexeme) (x : Lexeme) → (h : OuterSoFar (Valuing n size vs) mine) → Marks punctuator.CloseBrace x → SpellsRow SpellsConstantExpr row us → IsOptionalComma comma → h.5 ++ more ≡ row ++ (map outside comma ++ outside x ∷ []) → ObjectsSoFar n.kind (λ r. SpellsRow (SpellsName n.kind) r (with_object n (array_of n.kind n.name size us))) [] (mine ++ more)
array-done n size vs us mine more row comma x h m s c e =
    let list : List Measured = outside h.2 ∷ outside h.3 ∷ row ++ (map outside comma ++ outside x ∷ []) in
    let old : List Measured = outside h.0 ∷ h.4 ++ (outside h.1 ∷ outside h.2 ∷ outside h.3 ∷ h.5) in
    let behind : List Measured = outside h.0 ∷ h.4 ++ (outside h.1 ∷ list) in
    let same : old ++ more ≡ behind =
    ap (λ (z : List Measured). outside h.0 ∷ z) (append_assoc h.4 (outside h.1 ∷ outside h.2 ∷ outside h.3 ∷ h.5) more ∙ ap (λ (z : List Measured). h.4 ++ (outside h.1 ∷ outside h.2 ∷ outside h.3 ∷ z)) e) in
    let naming : NamingSoFar n behind (mine ++ more) = subst (λ (z : List Measured). NamingSoFar n z (mine ++ more)) same (naming-more n old mine more h.12) in
    object-done n (array_of n.kind n.name size us) behind (mine ++ more) naming
    (array-spelled n.kind (outside (identifier n.name) ∷ behind) n.name size us (h.0, h.1, h.4, list, h.6, h.7, h.8, list-spelled us h.2 h.3 x row comma h.9 h.10 m s c, refl))

-- a constant expression is complete

whole-object : (es : List External) (n : Naming) (p : Part) (ws : List Waiting) (k : ℕ) (q : Phase) (ts : List Measured) → (f : FullSoFar (OfObject es n p) ws k q ts) → ts ≡ f.context.1.0 ++ (f.context.1.1 ++ full f.xs)
whole-object es n p ws k q ts f =
    let c = f.context.1 in
    f.whole ∙ ap (λ (z : List Lexeme). f.before ++ full (z ++ f.xs)) f.context.0 ∙ regrouped f.before c.0 c.1 (full f.xs) c.4

kept-value : (r : Role) (es : List External) (n : Naming) (size : Option ConstantExpr) (vs : List ConstantExpr) (v : ConstantExpr) (before mine value ts : List Measured) (x : Lexeme) → HasRole r x → SpellsExternals before es → OuterSoFar (Valuing n size vs) mine → SpellsConstantExpr value v → ts ≡ before ++ (mine ++ value) → Kept (end_list_value es n size vs v r) ts x 0
kept-value role.Comma es n size vs v before mine value ts x h k o s e =
    let row = (o.5 ++ value) ++ outside x ∷ [] in
    let old : List Measured = outside o.0 ∷ o.4 ++ (outside o.1 ∷ outside o.2 ∷ outside o.3 ∷ o.5) in
    let behind : List Measured = outside o.0 ∷ o.4 ++ (outside o.1 ∷ outside o.2 ∷ outside o.3 ∷ row) in
    let more = value ++ outside x ∷ [] in
    let same : old ++ more ≡ behind =
    ap (λ (z : List Measured). outside o.0 ∷ z) (append_assoc o.4 (outside o.1 ∷ outside o.2 ∷ outside o.3 ∷ o.5) more ∙ ap (λ (z : List Measured). o.4 ++ (outside o.1 ∷ outside o.2 ∷ outside o.3 ∷ z)) (sym (append_assoc o.5 value (outside x ∷ [])))) in
    let naming : NamingSoFar n behind (mine ++ more) = subst (λ (z : List Measured). NamingSoFar n z (mine ++ more)) same (naming-more n old mine more o.12) in
    let values = row-comma SpellsConstantExpr (vs ++ v ∷ []) (o.5 ++ value) x (row-done SpellsConstantExpr vs v o.5 value o.11 s) h in (
      before,
      mine ++ more,
      k,
      (o.0, o.1, o.2, o.3, o.4, row, o.6, o.7, o.8, o.9, o.10, values, naming),
      regrouped ts before (mine ++ value) (outside x ∷ []) e ∙ ap (λ (z : List Measured). before ++ z) (append_assoc mine value (outside x ∷ [])),
    )
kept-value role.CloseBrace es n size vs v before mine value ts x h k o s e =
    let values = row-done SpellsConstantExpr vs v o.5 value o.11 s in (
      before,
      mine ++ (value ++ outside x ∷ []),
      k,
      array-done n size vs (vs ++ v ∷ []) mine (value ++ outside x ∷ []) (o.5 ++ value) [] x o h values (inl refl) (sym (append_assoc o.5 value (outside x ∷ []))),
      regrouped ts before (mine ++ value) (outside x ∷ []) e ∙ ap (λ (z : List Measured). before ++ z) (append_assoc mine value (outside x ∷ [])),
    )
kept-value _ es n size vs v before mine value ts x h k o s e = tt

-- the token after a constant expression extends what the tokens spell
pub kept-constant : (p : Part) (r : Role) (es : List External) (n : Naming) (ws : List Waiting) (k : ℕ) (q : Phase) (e : Expr) (ts : List Measured) (x : Lexeme) → HasRole r x → (f : FullSoFar (OfObject es n p) ws k q ts) → SpellsExpression 1 f.xs e → Kept (end_in_object es n p e r) ts x 0
kept-constant (ToSize at) role.CloseBracket es n ws k q e ts x h f s =
    let c = f.context.1 in
    let o = c.3 in
    let inner = full f.xs in
    let naming = naming-more n (outside o.0 ∷ []) c.1 (inner ++ outside x ∷ []) o.2 in (
      c.0,
      c.1 ++ (inner ++ outside x ∷ []),
      c.2,
      (o.0, x, inner, o.1, h, (f.xs, s, f.starts, refl), naming),
      regrouped ts c.0 (c.1 ++ inner) (outside x ∷ []) (whole-object es n (ToSize at) ws k q ts f) ∙ ap (λ (z : List Measured). c.0 ++ z) (append_assoc c.1 inner (outside x ∷ [])),
    )
kept-constant (ToSize at) _ es n ws k q e ts x h f s = tt
kept-constant (ToSingle at) r es n ws k q e ts x h f s =
    let c = f.context.1 in
    let o = c.3 in
    let value = full f.xs in
    let single = Single n.name (Some (constant at e)) in
    let naming = naming-more n (outside o.0 ∷ []) c.1 value o.2 in
    kept-separated r es n.kind (with_object n single) c.0 (c.1 ++ value) ts x h c.2
    (object-done n single (outside o.0 ∷ value) (c.1 ++ value) naming
    (single-spelled n.kind (outside (identifier n.name) ∷ outside o.0 ∷ value) n.name (Some (constant at e)) o.3 (o.0, value, o.1, (f.xs, s, f.starts, refl), refl))) (whole-object es n (ToSingle at) ws k q ts f)
kept-constant (ToValue size vs at) r es n ws k q e ts x h f s =
    let c = f.context.1 in
    kept-value r es n size vs (constant at e) c.0 c.1 (full f.xs) ts x h c.2 c.3 (f.xs, s, f.starts, refl) (whole-object es n (ToValue size vs at) ws k q ts f)
