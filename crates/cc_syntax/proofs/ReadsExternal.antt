-- The parser reads each external declaration, and each unit, that tokens spell.
use Rattle.std.proofs.Common.{◌≡◌, ℕ, Bool, true, List, [], ◌∷◌, ◌++◌, map, Option, Some, None, refl, sym, ap, subst, ◌∙◌, arith, append_assoc, inl, inr}
use Rattle.std.specs.Prelude.{◌&&◌, is_some}
use Rattle.cc_tokens.specs.declared.scalar.Scalar.{Scalar}
use Rattle.cc_tokens.specs.declared.scalar.Scalar.TheVariants as scalar
use Rattle.cc_ast.specs.declared.ast.AssignmentOperator.TheVariants as assignment
use Rattle.cc_tokens.specs.declared.token.Keyword.TheVariants as keyword
use Rattle.cc_tokens.specs.declared.token.Punctuator.TheVariants as punctuator
use Rattle.cc_tokens.specs.declared.token.TokenKind.{TokenKind}
use Rattle.cc_tokens.specs.declared.token.TokenKind.TheVariants as kind
use Rattle.cc_syntax.specs.declared.parser.role.Role.{Role}
use Rattle.cc_syntax.specs.declared.parser.role.Role.TheVariants as role
use Rattle.cc_tokens.specs.Token.{Lexeme}
use Rattle.cc_ast.specs.Tree.{Name, Expr, Stmts, end, Block, ConstantExpr, Parameter, Signature, Object, Single, Array, Bytes as ByteArray, External, Declaration, Definition, Objects}
use Rattle.cc_syntax.specs.declared.parser.state.ObjectKind.{ObjectKind}
use Rattle.cc_syntax.specs.declared.parser.state.ObjectKind.TheVariants.{Words, Bytes}
use Rattle.cc_syntax.specs.internal.Roles.{role_of}
use Rattle.cc_ast.specs.Grammar.{Measured, outside, full, identifier, Marks, SpellsType, SpellsStatement, SpellsRow, BeginsAt, SpellsConstantExpr, SpellsOptionalConstant, IsOptionalComma, SpellsArray, SpellsList, optional_identifier, SpellsParameter, SpellsParameters, SpellsResult, SpellsSignature, AreNamed, SpellsExternal, SpellsExternals, SpellsUnit}
use Rattle.cc_syntax.specs.internal.Parser.{State, AtFile, InBody, Inside, Item, Between, ResultSign, Typed, Named, Parameters, OnlyVoid, ParameterNext, ParameterSign, ParameterTyped, ParameterNamed, Headed, ObjectNext, ObjectNamed, Sizing, Sized, Initialising, Listing, Valuing, Listed, Naming, Context, OfObject, ToSize, ToSingle, ToValue, Waiting, full_of, close, first_step, array_of, scalar_of, with_object, with_parameter, signature_of, all_named, defines, end_list, role_step, role_level, name_of, count_of, start}
use Rattle.cc_syntax.proofs.SoFarUnit.{AreWords, SpellsName}
use Rattle.cc_syntax.proofs.ParserRuns.{Runs, token, runs-append}
use Rattle.cc_syntax.proofs.Forms.{operand, operator, count_after}
use Rattle.cc_syntax.proofs.Settles.{none-some}
use Rattle.cc_syntax.proofs.ReadsAction.{read_full, Closes}
use Rattle.cc_syntax.proofs.ReadsStatement.{appended, appended-end, Top, body_at, read_statements}

-- the keywords of a type

-- a state in which a type may come, and the states after `int` and after `signed` or `unsigned`
record TypeWords (s : State) (typed sign : Scalar → State) : Type 0 where
  int : (v : Name) → role_step s role.Int v ≡ Some (typed scalar.Int)
  signed : (t : Scalar) (v : Name) → role_step s (role.SignWord t) v ≡ Some (sign t)
  int_behind : (t : Scalar) (v : Name) → role_step (sign t) role.Int v ≡ Some (typed t)
  int_level : 0 ≡ role_level s role.Int
  sign_level : (t : Scalar) → 0 ≡ role_level s (role.SignWord t)
  behind_level : (t : Scalar) → 0 ≡ role_level (sign t) role.Int
  typed_count : (t : Scalar) → 0 ≡ count_of (typed t)
  sign_count : (t : Scalar) → 0 ≡ count_of (sign t)

read_words : (t : Scalar) (xs : List Lexeme) (s : State) (typed sign : Scalar → State) (P : State → Type 0) (rest : List Measured) (m : State) → TypeWords s typed sign → P (typed t) → P (sign t) → SpellsType xs t → ((a : State) → P a → Runs a rest m) → Runs s (map outside xs ++ rest) m
read_words t xs s typed sign P rest m w p q (inl h) on =
    subst (λ (z : List Lexeme). Runs s (map outside z ++ rest) m) (sym h.3)
    (token s (typed scalar.Int) m h.0 (kind.Keyword keyword.Int) 0 0 rest h.2 (w.int (name_of h.0)) (w.typed_count scalar.Int) w.int_level
    (on (typed scalar.Int) (subst (λ (u : Scalar). P (typed u)) h.1 p)))
read_words scalar.Int xs s typed sign P rest m w p q (inr (inl h)) on =
    subst (λ (z : List Lexeme). Runs s (map outside z ++ rest) m) (sym h.2)
    (token s (sign scalar.Int) m h.0 (kind.Keyword keyword.Signed) 0 0 rest h.1 (w.signed scalar.Int (name_of h.0)) (w.sign_count scalar.Int) (w.sign_level scalar.Int) (on (sign scalar.Int) q))
read_words scalar.Unsigned xs s typed sign P rest m w p q (inr (inl h)) on =
    subst (λ (z : List Lexeme). Runs s (map outside z ++ rest) m) (sym h.2)
    (token s (sign scalar.Unsigned) m h.0 (kind.Keyword keyword.Unsigned) 0 0 rest h.1 (w.signed scalar.Unsigned (name_of h.0)) (w.sign_count scalar.Unsigned) (w.sign_level scalar.Unsigned) (on (sign scalar.Unsigned) q))
read_words scalar.Int xs s typed sign P rest m w p q (inr (inr h)) on =
    subst (λ (z : List Lexeme). Runs s (map outside z ++ rest) m) (sym h.4)
    (token s (sign scalar.Int) m h.0 (kind.Keyword keyword.Signed) 0 0 (outside h.1 ∷ rest) h.2 (w.signed scalar.Int (name_of h.0)) (w.sign_count scalar.Int) (w.sign_level scalar.Int)
    (token (sign scalar.Int) (typed scalar.Int) m h.1 (kind.Keyword keyword.Int) 0 0 rest h.3 (w.int_behind scalar.Int (name_of h.1)) (w.typed_count scalar.Int) (w.behind_level scalar.Int) (on (typed scalar.Int) p)))
read_words scalar.Unsigned xs s typed sign P rest m w p q (inr (inr h)) on =
    subst (λ (z : List Lexeme). Runs s (map outside z ++ rest) m) (sym h.4)
    (token s (sign scalar.Unsigned) m h.0 (kind.Keyword keyword.Unsigned) 0 0 (outside h.1 ∷ rest) h.2 (w.signed scalar.Unsigned (name_of h.0)) (w.sign_count scalar.Unsigned) (w.sign_level scalar.Unsigned)
    (token (sign scalar.Unsigned) (typed scalar.Unsigned) m h.1 (kind.Keyword keyword.Int) 0 0 rest h.3 (w.int_behind scalar.Unsigned (name_of h.1)) (w.typed_count scalar.Unsigned) (w.behind_level scalar.Unsigned) (on (typed scalar.Unsigned) p)))

-- constant expressions

-- the parser reads a constant expression in a place where one may begin, and the token after it
read_constant : (e : ConstantExpr) (ts : List Measured) (s : State) (c : Context) (x : Lexeme) (k : TokenKind) (rest : List Measured) (n m : State) → SpellsConstantExpr ts e → ((r : Role) (v : Name) (z : State) → v.at ≡ e.at → first_step c r v ≡ Some z → role_step s r v ≡ Some z) → ((r : Role) (v : Name) (z : State) → first_step c r v ≡ Some z → 0 ≡ role_level s r) → x.kind ≡ k → Closes k → ((j : ℕ) → close (full_of c [] j) (role_of k) (e.expr, []) ≡ Some n) → 0 ≡ count_of n → Runs n rest m → Runs s (ts ++ outside x ∷ rest) m
read_constant e ts s c x k rest n m h first none i closes goes counts on =
    let r = read_full e.expr h.0 c 0 h.1 in
    let j = count_after 0 h.0 in
    let last : Runs (operator c j r.waiting r.last) (outside x ∷ rest) m =
    token (operator c j r.waiting r.last) n m x k 0 0 rest i (closes (full_of c r.waiting j) r.last ∙ ap (λ (z : Expr × List Waiting). close (full_of c r.waiting j) (role_of k) z) (r.same 1 (omega arith)) ∙ goes j) counts refl on in
    subst (λ (z : List Measured). Runs s (z ++ outside x ∷ rest) m) (sym h.3) (enter h.0 j r.waiting r.last (outside x ∷ rest) h.2 r.runs last)
  where
    enter : (xs : List Lexeme) (j : ℕ) (ws : List Waiting) (last : Expr) (behind : List Measured) → BeginsAt e.at xs → Runs (operand c 0 []) (full xs) (operator c j ws last) → Runs (operator c j ws last) behind m → Runs s (full xs ++ behind) m
    enter [] j ws last behind b h g = absurd b
    enter (y ∷ ys) j ws last behind b h g =
        (h.0, first (role_of y.kind) (name_of y) h.0 b h.1, h.2, none (role_of y.kind) (name_of y) h.0 h.1, runs-append h.0 (operator c j ws last) m _ behind h.4 g)

-- parameters

data End : Type 0 where
  Comma : End
  Parenthesis : End

abbrev end_kind : End → TokenKind
end_kind Comma = kind.Punctuator punctuator.Comma
end_kind Parenthesis = kind.Punctuator punctuator.CloseParenthesis

abbrev behind_parameter : End → List External → Signature → State
behind_parameter Comma es f = AtFile es (ParameterNext f)
behind_parameter Parenthesis es f = AtFile es (Headed f)

-- the state after the keywords of a parameter's type
record InParameter (es : List External) (f : Signature) (t : Scalar) (s : State) : Type 0 where
  named : (v : Name) → role_step s role.Identifier v ≡ Some (AtFile es (ParameterNamed (with_parameter f t (Some v))))
  ends : (z : End) (v : Name) → role_step s (role_of (end_kind z)) v ≡ Some (behind_parameter z es (with_parameter f t None))
  named_level : 0 ≡ role_level s role.Identifier
  ends_level : (z : End) → 0 ≡ role_level s (role_of (end_kind z))

behind_parameter-count : (z : End) (es : List External) (f : Signature) → 0 ≡ count_of (behind_parameter z es f)
behind_parameter-count Comma es f = refl
behind_parameter-count Parenthesis es f = refl

in-typed : (es : List External) (f : Signature) (t : Scalar) → InParameter es f t (AtFile es (ParameterTyped f t))
in-typed es f t = record { named = λ v. refl; ends = ends; named_level = refl; ends_level = levels }
  where
    ends : (z : End) (v : Name) → role_step (AtFile es (ParameterTyped f t)) (role_of (end_kind z)) v ≡ Some (behind_parameter z es (with_parameter f t None))
    ends Comma v = refl
    ends Parenthesis v = refl

    levels : (z : End) → 0 ≡ role_level (AtFile es (ParameterTyped f t)) (role_of (end_kind z))
    levels Comma = refl
    levels Parenthesis = refl

in-sign : (es : List External) (f : Signature) (t : Scalar) → InParameter es f t (AtFile es (ParameterSign f t))
in-sign es f t = record { named = λ v. refl; ends = ends; named_level = refl; ends_level = levels }
  where
    ends : (z : End) (v : Name) → role_step (AtFile es (ParameterSign f t)) (role_of (end_kind z)) v ≡ Some (behind_parameter z es (with_parameter f t None))
    ends Comma v = refl
    ends Parenthesis v = refl

    levels : (z : End) → 0 ≡ role_level (AtFile es (ParameterSign f t)) (role_of (end_kind z))
    levels Comma = refl
    levels Parenthesis = refl

named-ends : (z : End) (es : List External) (f : Signature) (v : Name) → role_step (AtFile es (ParameterNamed f)) (role_of (end_kind z)) v ≡ Some (behind_parameter z es f)
named-ends Comma es f v = refl
named-ends Parenthesis es f v = refl

named-level : (z : End) (es : List External) (f : Signature) → 0 ≡ role_level (AtFile es (ParameterNamed f)) (role_of (end_kind z))
named-level Comma es f = refl
named-level Parenthesis es f = refl

read_parameter_name : (n : Option Name) (es : List External) (f : Signature) (t : Scalar) (s : State) (z : End) (x : Lexeme) → InParameter es f t s → x.kind ≡ end_kind z → Runs s (map outside (optional_identifier n) ++ outside x ∷ []) (behind_parameter z es (with_parameter f t n))
read_parameter_name None es f t s z x i k =
    token s (behind_parameter z es (with_parameter f t None)) _ x (end_kind z) 0 0 [] k (i.ends z (name_of x)) (behind_parameter-count z es (with_parameter f t None)) (i.ends_level z) refl
read_parameter_name (Some v) es f t s z x i k =
    let g = with_parameter f t (Some v) in
    let m = behind_parameter z es g in
    token s (AtFile es (ParameterNamed g)) m (identifier v) kind.Identifier 0 0 (outside x ∷ []) refl (i.named v) refl i.named_level
    (token (AtFile es (ParameterNamed g)) m m x (end_kind z) 0 0 [] k (named-ends z es g (name_of x)) (behind_parameter-count z es g) (named-level z es g) refl)

abbrev ParameterWords : List External → Signature → State → Type 0
ParameterWords es f s = TypeWords s (λ t. AtFile es (ParameterTyped f t)) (λ t. AtFile es (ParameterSign f t))

words-first : (es : List External) (f : Signature) → ParameterWords es f (AtFile es (Parameters f))
words-first es f = record { int = λ v. refl; signed = λ t v. refl; int_behind = λ t v. refl; int_level = refl; sign_level = λ t. refl; behind_level = λ t. refl; typed_count = λ t. refl; sign_count = λ t. refl }

words-next : (es : List External) (f : Signature) → ParameterWords es f (AtFile es (ParameterNext f))
words-next es f = record { int = λ v. refl; signed = λ t v. refl; int_behind = λ t v. refl; int_level = refl; sign_level = λ t. refl; behind_level = λ t. refl; typed_count = λ t. refl; sign_count = λ t. refl }

read_parameter : (p : Parameter) (ts : List Measured) (es : List External) (f : Signature) (s : State) (z : End) (x : Lexeme) → ParameterWords es f s → SpellsParameter ts p → x.kind ≡ end_kind z → Runs s (ts ++ outside x ∷ []) (behind_parameter z es (with_parameter f p.scalar p.name))
read_parameter p ts es f s z x w h k =
    let m = behind_parameter z es (with_parameter f p.scalar p.name) in
    let name = map outside (optional_identifier p.name) in
    let runs = read_words p.scalar h.0 s (λ t. AtFile es (ParameterTyped f t)) (λ t. AtFile es (ParameterSign f t)) (InParameter es f p.scalar) (name ++ outside x ∷ []) m w (in-typed es f p.scalar) (in-sign es f p.scalar) h.1
    (λ a i. read_parameter_name p.name es f p.scalar a z x i k) in
    subst (λ (ps : List Measured). Runs s ps m) (sym (append_assoc (map outside h.0) name (outside x ∷ [])) ∙ ap (λ (ps : List Measured). ps ++ outside x ∷ []) (sym h.2)) runs

abbrev with_parameters : Signature → List Parameter → Signature
with_parameters f ps = record { result = f.result; name = f.name; parameters = f.parameters ++ ps }

read_parameter_row : (ps : List Parameter) (ts : List Measured) (es : List External) (f : Signature) (s : State) (x : Lexeme) → ParameterWords es f s → SpellsRow SpellsParameter ts ps → Marks punctuator.CloseParenthesis x → Runs s (ts ++ outside x ∷ []) (AtFile es (Headed (with_parameters f ps)))
read_parameter_row [] ts es f s x w h k = absurd h
read_parameter_row (p ∷ []) ts es f s x w h k = read_parameter p ts es f s Parenthesis x w h k
read_parameter_row (p ∷ q ∷ ps) ts es f s x w h k =
    let g = with_parameter f p.scalar p.name in
    let m = AtFile es (Headed (with_parameters f (p ∷ q ∷ ps))) in
    let first = read_parameter p h.1 es f s Comma h.0 w h.4 h.3 in
    let others = read_parameter_row (q ∷ ps) h.2 es g (AtFile es (ParameterNext g)) x (words-next es g) h.5 k in
    let joined : Runs (AtFile es (ParameterNext g)) (h.2 ++ outside x ∷ []) m =
    subst (λ (z : List Parameter). Runs (AtFile es (ParameterNext g)) (h.2 ++ outside x ∷ []) (AtFile es (Headed (record { result = f.result; name = f.name; parameters = z })))) (append_assoc f.parameters (p ∷ []) (q ∷ ps)) others in
    let runs = runs-append s (AtFile es (ParameterNext g)) m (h.1 ++ outside h.0 ∷ []) (h.2 ++ outside x ∷ []) first joined in
    subst (λ (z : List Measured). Runs s z m) (regroup h.1 (outside h.0) h.2 (outside x) ∙ ap (λ (z : List Measured). z ++ outside x ∷ []) (sym h.6)) runs
  where
    regroup : (a : List Measured) (p : Measured) (c : List Measured) (q : Measured) → (a ++ p ∷ []) ++ (c ++ q ∷ []) ≡ (a ++ p ∷ c) ++ q ∷ []
    regroup a p c q = simp append_assoc

read_parameters : (ps : List Parameter) (ts : List Measured) (es : List External) (f : Signature) (x : Lexeme) → SpellsParameters ts ps → Marks punctuator.CloseParenthesis x → f.parameters ≡ [] → Runs (AtFile es (Parameters f)) (ts ++ outside x ∷ []) (AtFile es (Headed (with_parameters f ps)))
read_parameters [] ts es f x (inl h) k e =
    subst (λ (z : List Measured). Runs (AtFile es (Parameters f)) (z ++ outside x ∷ []) (AtFile es (Headed (with_parameters f [])))) (sym h)
    (token (AtFile es (Parameters f)) (AtFile es (Headed (with_parameters f []))) _ x (kind.Punctuator punctuator.CloseParenthesis) 0 0 [] k (headed f e) refl refl refl)
  where
    headed : (f : Signature) → f.parameters ≡ [] → Some (AtFile es (Headed f)) ≡ Some (AtFile es (Headed (with_parameters f [])))
    headed f e = ap (λ (z : List Parameter). Some (AtFile es (Headed (record { result = f.result; name = f.name; parameters = z })))) (e ∙ ap (λ (z : List Parameter). z ++ []) (sym e))
read_parameters [] ts es f x (inr h) k e =
    subst (λ (z : List Measured). Runs (AtFile es (Parameters f)) (z ++ outside x ∷ []) (AtFile es (Headed (with_parameters f [])))) (sym h.2)
    (token (AtFile es (Parameters f)) (AtFile es (OnlyVoid f)) _ h.0 (kind.Keyword keyword.Void) 0 0 (outside x ∷ []) h.1 refl refl refl
    (token (AtFile es (OnlyVoid f)) (AtFile es (Headed (with_parameters f []))) _ x (kind.Punctuator punctuator.CloseParenthesis) 0 0 [] k (headed f e) refl refl refl))
  where
    headed : (f : Signature) → f.parameters ≡ [] → Some (AtFile es (Headed f)) ≡ Some (AtFile es (Headed (with_parameters f [])))
    headed f e = ap (λ (z : List Parameter). Some (AtFile es (Headed (record { result = f.result; name = f.name; parameters = z })))) (e ∙ ap (λ (z : List Parameter). z ++ []) (sym e))
read_parameters (p ∷ ps) ts es f x h k e = read_parameter_row (p ∷ ps) ts es f (AtFile es (Parameters f)) x (words-first es f) h k

-- a function's result, name and parameters

-- a state in which the first name of an external declaration may come
record FirstName (es : List External) (r : Option Scalar) (s : State) : Type 0 where
  named : (v : Name) → role_step s role.Identifier v ≡ Some (AtFile es (Named r v))
  begun : 0 ≡ role_level s role.Identifier

words-external : (es : List External) → TypeWords (AtFile es Between) (λ t. AtFile es (Typed (Some t))) (λ t. AtFile es (ResultSign t))
words-external es = record { int = λ v. refl; signed = λ t v. refl; int_behind = λ t v. refl; int_level = refl; sign_level = λ t. refl; behind_level = λ t. refl; typed_count = λ t. refl; sign_count = λ t. refl }

read_first_type : (t : Scalar) (xs : List Lexeme) (es : List External) (rest : List Measured) (m : State) → SpellsType xs t → ((a : State) → FirstName es (Some t) a → Runs a rest m) → Runs (AtFile es Between) (map outside xs ++ rest) m
read_first_type t xs es rest m h on =
    read_words t xs (AtFile es Between) (λ u. AtFile es (Typed (Some u))) (λ u. AtFile es (ResultSign u)) (FirstName es (Some t)) rest m (words-external es) (record { named = λ v. refl; begun = refl }) (record { named = λ v. refl; begun = refl }) h on

read_result : (r : Option Scalar) (xs : List Lexeme) (es : List External) (rest : List Measured) (m : State) → SpellsResult xs r → ((a : State) → FirstName es r a → Runs a rest m) → Runs (AtFile es Between) (map outside xs ++ rest) m
read_result None xs es rest m h on =
    subst (λ (z : List Lexeme). Runs (AtFile es Between) (map outside z ++ rest) m) (sym h.2)
    (token (AtFile es Between) (AtFile es (Typed None)) m h.0 (kind.Keyword keyword.Void) 0 0 rest h.1 refl refl refl
    (on (AtFile es (Typed None)) (record { named = λ v. refl; begun = refl })))
read_result (Some t) xs es rest m h on = read_first_type t xs es rest m h on

read_signature : (f : Signature) (ts : List Measured) (es : List External) → SpellsSignature ts f → Runs (AtFile es Between) ts (AtFile es (Headed f))
read_signature f ts es h =
    let m = AtFile es (Headed f) in
    let g = signature_of f.result f.name in
    let parameters : Runs (AtFile es (Parameters g)) (h.3 ++ outside h.2 ∷ []) m = read_parameters f.parameters h.3 es g h.2 h.7 h.6 refl in
    subst (λ (z : List Measured). Runs (AtFile es Between) z m) (sym h.8)
    (read_result f.result h.0 es (outside (identifier f.name) ∷ outside h.1 ∷ h.3 ++ outside h.2 ∷ []) m h.4 (λ a first.
    token a (AtFile es (Named f.result f.name)) m (identifier f.name) kind.Identifier 0 0 (outside h.1 ∷ h.3 ++ outside h.2 ∷ []) refl (first.named f.name) refl first.begun
    (token (AtFile es (Named f.result f.name)) (AtFile es (Parameters g)) m h.1 (kind.Punctuator punctuator.OpenParenthesis) 0 0 (h.3 ++ outside h.2 ∷ []) h.5 (opens f.result) refl refl parameters)))
  where
    opens : (r : Option Scalar) → role_step (AtFile es (Named r f.name)) role.OpenParenthesis (name_of h.1) ≡ Some (AtFile es (Parameters (signature_of r f.name)))
    opens None = refl
    opens (Some t) = refl

-- definitions

named-all : (ps : List Parameter) → AreNamed ps → all_named ps ≡ true
named-all [] h = refl
named-all (p ∷ ps) h = ap (λ (n : Option Name). is_some n && all_named ps) h.0.1 ∙ named-all ps h.1

read_body : (ss : Stmts) (ts : List Measured) (es : List External) (f : Signature) → AreNamed f.parameters → SpellsStatement 1 ts (Block ss) → Runs (AtFile es (Headed f)) ts (AtFile (es ++ Definition f ss ∷ []) Between)
read_body ss ts es f named h =
    let b : Inside = record { externals = es; signature = f; finished = end; opened = [] } in
    let m = AtFile (es ++ Definition f ss ∷ []) Between in
    let last : Runs (InBody (body_at Top b (appended end ss)) Item) (outside h.1 ∷ []) m =
    token (InBody (body_at Top b (appended end ss)) Item) m m h.1 (kind.Punctuator punctuator.CloseBrace) 0 0 [] h.4 (ap (λ (r : Stmts). Some (AtFile (es ++ Definition f r ∷ []) Between)) (appended-end ss)) refl refl refl in
    let inner = read_statements ss h.2 Top b end (outside h.1) m h.5 last in
    subst (λ (ps : List Measured). Runs (AtFile es (Headed f)) ps m) (sym h.6)
    (token (AtFile es (Headed f)) (InBody b Item) m h.0 (kind.Punctuator punctuator.OpenBrace) 0 1 (h.2 ++ outside h.1 ∷ []) h.3 (ap (λ (z : Bool). defines es f z) (named-all f.parameters named)) refl refl inner)

-- objects

data Separator : Type 0 where
  Last : Separator
  Further : Separator

abbrev separator : Separator → TokenKind
separator Last = kind.Punctuator punctuator.Semicolon
separator Further = kind.Punctuator punctuator.Comma

abbrev behind : Separator → List External → ObjectKind → List Object → State
behind Last es t os = AtFile (es ++ Objects (scalar_of t) os ∷ []) Between
behind Further es t os = AtFile es (ObjectNext t os)

behind-count : (z : Separator) (es : List External) (t : ObjectKind) (os : List Object) → 0 ≡ count_of (behind z es t os)
behind-count Last es t os = refl
behind-count Further es t os = refl

abbrev naming : ObjectKind → List Object → Name → Naming
naming t os v = record { kind = t; objects = os; name = v }

-- the state after the name of an object that may be a single object
record BehindSingle (es : List External) (n : Naming) (s : State) : Type 0 where
  sign : (v : Name) → role_step s (role.Assignment assignment.Plain) v ≡ Some (AtFile es (Initialising n))
  ends : (z : Separator) (v : Name) → role_step s (role_of (separator z)) v ≡ Some (behind z es n.kind (with_object n (Single n.name None)))
  sign_level : 0 ≡ role_level s (role.Assignment assignment.Plain)
  ends_level : (z : Separator) → 0 ≡ role_level s (role_of (separator z))

-- the state after the name of an object
record BehindName (es : List External) (n : Naming) (s : State) : Type 0 where
  bracket : (v : Name) → role_step s role.OpenBracket v ≡ Some (AtFile es (Sizing n))
  bracket_level : 0 ≡ role_level s role.OpenBracket
  single : AreWords n.kind → BehindSingle es n s

-- a state in which a further object may be named
record NamesObject (es : List External) (t : ObjectKind) (os : List Object) (s : State) : Type 0 where
  next : Name → State
  named : (v : Name) → role_step s role.Identifier v ≡ Some (next v)
  counted : (v : Name) → 0 ≡ count_of (next v)
  begun : 0 ≡ role_level s role.Identifier
  stands : (v : Name) → BehindName es (naming t os v) (next v)

behind-first : (es : List External) (t : Scalar) (v : Name) → BehindName es (naming (Words t) [] v) (AtFile es (Named (Some t) v))
behind-first es t v = record { bracket = λ x. refl; bracket_level = refl; single = λ w. record { sign = λ x. refl; ends = ends; sign_level = refl; ends_level = levels } }
  where
    ends : (z : Separator) (x : Name) → role_step (AtFile es (Named (Some t) v)) (role_of (separator z)) x ≡ Some (behind z es (Words t) (with_object (naming (Words t) [] v) (Single v None)))
    ends Last x = refl
    ends Further x = refl

    levels : (z : Separator) → 0 ≡ role_level (AtFile es (Named (Some t) v)) (role_of (separator z))
    levels Last = refl
    levels Further = refl

behind-single : (t : ObjectKind) (es : List External) (os : List Object) (v : Name) → AreWords t → BehindSingle es (naming t os v) (AtFile es (ObjectNamed (naming t os v)))
behind-single Bytes es os v w = absurd w
behind-single (Words t) es os v w = record { sign = λ x. refl; ends = ends; sign_level = refl; ends_level = levels }
  where
    ends : (z : Separator) (x : Name) → role_step (AtFile es (ObjectNamed (naming (Words t) os v))) (role_of (separator z)) x ≡ Some (behind z es (Words t) (with_object (naming (Words t) os v) (Single v None)))
    ends Last x = refl
    ends Further x = refl

    levels : (z : Separator) → 0 ≡ role_level (AtFile es (ObjectNamed (naming (Words t) os v))) (role_of (separator z))
    levels Last = refl
    levels Further = refl

behind-next : (es : List External) (t : ObjectKind) (os : List Object) (v : Name) → BehindName es (naming t os v) (AtFile es (ObjectNamed (naming t os v)))
behind-next es t os v = record { bracket = λ x. refl; bracket_level = refl; single = behind-single t es os v }

names-first : (es : List External) (t : Scalar) (s : State) → FirstName es (Some t) s → NamesObject es (Words t) [] s
names-first es t s first = record { next = λ v. AtFile es (Named (Some t) v); named = λ v. first.named v; counted = λ v. refl; begun = first.begun; stands = λ v. behind-first es t v }

names-next : (es : List External) (t : ObjectKind) (os : List Object) → NamesObject es t os (AtFile es (ObjectNext t os))
names-next es t os = record { next = λ v. AtFile es (ObjectNamed (naming t os v)); named = λ v. refl; counted = λ v. refl; begun = refl; stands = λ v. behind-next es t os v }

sizing-acts : (r : Role) (es : List External) (n : Naming) (at : ℕ) (v : Name) (z : State) → v.at ≡ at → first_step (OfObject es n (ToSize at)) r v ≡ Some z → role_step (AtFile es (Sizing n)) r v ≡ Some z
sizing-acts role.CloseBracket es n at v z e h = absurd (none-some _ z refl h)
sizing-acts r es n at v z e h = ap (λ (a : ℕ). first_step (OfObject es n (ToSize a)) r v) e ∙ h

valuing-acts : (r : Role) (es : List External) (n : Naming) (size : Option ConstantExpr) (vs : List ConstantExpr) (at : ℕ) (v : Name) (z : State) → v.at ≡ at → first_step (OfObject es n (ToValue size vs at)) r v ≡ Some z → role_step (AtFile es (Valuing n size vs)) r v ≡ Some z
valuing-acts role.CloseBrace es n size vs at v z e h = absurd (none-some _ z refl h)
valuing-acts r es n size vs at v z e h = ap (λ (a : ℕ). first_step (OfObject es n (ToValue size vs a)) r v) e ∙ h

read_size : (e : Option ConstantExpr) (ts : List Measured) (x : Lexeme) (es : List External) (n : Naming) (rest : List Measured) (m : State) → SpellsOptionalConstant ts e → Marks punctuator.CloseBracket x → Runs (AtFile es (Sized n e)) rest m → Runs (AtFile es (Sizing n)) (ts ++ outside x ∷ rest) m
read_size None ts x es n rest m h k on =
    subst (λ (z : List Measured). Runs (AtFile es (Sizing n)) (z ++ outside x ∷ rest) m) (sym h)
    (token (AtFile es (Sizing n)) (AtFile es (Sized n None)) m x (kind.Punctuator punctuator.CloseBracket) 0 0 rest k refl refl refl on)
read_size (Some e) ts x es n rest m h k on =
    read_constant e ts (AtFile es (Sizing n)) (OfObject es n (ToSize e.at)) x (kind.Punctuator punctuator.CloseBracket) rest (AtFile es (Sized n (Some e))) m h (λ r v z a g. sizing-acts r es n e.at v z a g) (λ r v z g. refl) k (λ f z. refl) (λ j. refl) refl on

end_list-some : (es : List External) (n : Naming) (size : Option ConstantExpr) (vs : List ConstantExpr) (v : ConstantExpr) → end_list es n size (vs ++ v ∷ []) ≡ Some (AtFile es (Listed n.kind (with_object n (array_of n.kind n.name size (vs ++ v ∷ [])))))
end_list-some es n size [] v = refl
end_list-some es n size (w ∷ vs) v = refl

-- the parser reads the values of a list, an optional comma, and the closing brace
read_values : (vs : List ConstantExpr) (ts : List Measured) (comma : List Lexeme) (x : Lexeme) (es : List External) (n : Naming) (size : Option ConstantExpr) (done : List ConstantExpr) (rest : List Measured) (m : State) → SpellsRow SpellsConstantExpr ts vs → IsOptionalComma comma → Marks punctuator.CloseBrace x → Runs (AtFile es (Listed n.kind (with_object n (array_of n.kind n.name size (done ++ vs))))) rest m → Runs (AtFile es (Valuing n size done)) (ts ++ (map outside comma ++ outside x ∷ rest)) m
read_values [] ts comma x es n size done rest m h i k on = absurd h
read_values (v ∷ []) ts comma x es n size done rest m h (inl i) k on =
    subst (λ (z : List Lexeme). Runs (AtFile es (Valuing n size done)) (ts ++ (map outside z ++ outside x ∷ rest)) m) (sym i)
    (read_constant v ts (AtFile es (Valuing n size done)) (OfObject es n (ToValue size done v.at)) x (kind.Punctuator punctuator.CloseBrace) rest (AtFile es (Listed n.kind (with_object n (array_of n.kind n.name size (done ++ v ∷ []))))) m h (λ r u z a g. valuing-acts r es n size done v.at u z a g) (λ r u z g. refl) k (λ f z. refl) (λ j. refl) refl on)
read_values (v ∷ []) ts comma x es n size done rest m h (inr i) k on =
    let middle = AtFile es (Valuing n size (done ++ v ∷ [])) in
    let last : Runs middle (outside x ∷ rest) m =
    token middle (AtFile es (Listed n.kind (with_object n (array_of n.kind n.name size (done ++ v ∷ []))))) m x (kind.Punctuator punctuator.CloseBrace) 0 0 rest k (end_list-some es n size done v) refl refl on in
    subst (λ (z : List Lexeme). Runs (AtFile es (Valuing n size done)) (ts ++ (map outside z ++ outside x ∷ rest)) m) (sym i.2)
    (read_constant v ts (AtFile es (Valuing n size done)) (OfObject es n (ToValue size done v.at)) i.0 (kind.Punctuator punctuator.Comma) (outside x ∷ rest) middle m h (λ r u z a g. valuing-acts r es n size done v.at u z a g) (λ r u z g. refl) i.1 (λ f z. refl) (λ j. refl) refl last)
read_values (v ∷ w ∷ vs) ts comma x es n size done rest m h i k on =
    let middle = AtFile es (Valuing n size (done ++ v ∷ [])) in
    let tail = map outside comma ++ outside x ∷ rest in
    let on' : Runs (AtFile es (Listed n.kind (with_object n (array_of n.kind n.name size ((done ++ v ∷ []) ++ w ∷ vs))))) rest m =
    subst (λ (z : List ConstantExpr). Runs (AtFile es (Listed n.kind (with_object n (array_of n.kind n.name size z)))) rest m) (sym (append_assoc done (v ∷ []) (w ∷ vs))) on in
    let others : Runs middle (h.2 ++ tail) m = read_values (w ∷ vs) h.2 comma x es n size (done ++ v ∷ []) rest m h.5 i k on' in
    let first : Runs (AtFile es (Valuing n size done)) (h.1 ++ outside h.0 ∷ (h.2 ++ tail)) m =
    read_constant v h.1 (AtFile es (Valuing n size done)) (OfObject es n (ToValue size done v.at)) h.0 (kind.Punctuator punctuator.Comma) (h.2 ++ tail) middle m h.4 (λ r u z a g. valuing-acts r es n size done v.at u z a g) (λ r u z g. refl) h.3 (λ f z. refl) (λ j. refl) refl others in
    subst (λ (z : List Measured). Runs (AtFile es (Valuing n size done)) z m) (sym (append_assoc h.1 (outside h.0 ∷ h.2) tail) ∙ ap (λ (z : List Measured). z ++ tail) (sym h.6)) first

sized-ends : (z : Separator) (es : List External) (n : Naming) (size : Option ConstantExpr) (v : Name) → role_step (AtFile es (Sized n size)) (role_of (separator z)) v ≡ Some (behind z es n.kind (with_object n (array_of n.kind n.name size [])))
sized-ends Last es n size v = refl
sized-ends Further es n size v = refl

sized-level : (z : Separator) (es : List External) (n : Naming) (size : Option ConstantExpr) → 0 ≡ role_level (AtFile es (Sized n size)) (role_of (separator z))
sized-level Last es n size = refl
sized-level Further es n size = refl

listed-ends : (z : Separator) (es : List External) (t : ObjectKind) (os : List Object) (v : Name) → role_step (AtFile es (Listed t os)) (role_of (separator z)) v ≡ Some (behind z es t os)
listed-ends Last es t os v = refl
listed-ends Further es t os v = refl

listed-level : (z : Separator) (es : List External) (t : ObjectKind) (os : List Object) → 0 ≡ role_level (AtFile es (Listed t os)) (role_of (separator z))
listed-level Last es t os = refl
listed-level Further es t os = refl

read_list : (vs : List ConstantExpr) (ts : List Measured) (z : Separator) (x : Lexeme) (es : List External) (n : Naming) (size : Option ConstantExpr) → SpellsList ts vs → x.kind ≡ separator z → Runs (AtFile es (Sized n size)) (ts ++ outside x ∷ []) (behind z es n.kind (with_object n (array_of n.kind n.name size vs)))
read_list [] ts z x es n size h k =
    let m = behind z es n.kind (with_object n (array_of n.kind n.name size [])) in
    subst (λ (ps : List Measured). Runs (AtFile es (Sized n size)) (ps ++ outside x ∷ []) m) (sym h)
    (token (AtFile es (Sized n size)) m m x (separator z) 0 0 [] k (sized-ends z es n size (name_of x)) (behind-count z es n.kind (with_object n (array_of n.kind n.name size []))) (sized-level z es n size) refl)
read_list (v ∷ vs) ts z x es n size h k =
    let os = with_object n (array_of n.kind n.name size (v ∷ vs)) in
    let m = behind z es n.kind os in
    let listed : Runs (AtFile es (Listed n.kind os)) (outside x ∷ []) m =
    token (AtFile es (Listed n.kind os)) m m x (separator z) 0 0 [] k (listed-ends z es n.kind os (name_of x)) (behind-count z es n.kind os) (listed-level z es n.kind os) refl in
    let values : Runs (AtFile es (Valuing n size [])) (h.3 ++ (map outside h.4 ++ outside h.2 ∷ outside x ∷ [])) m = read_values (v ∷ vs) h.3 h.4 h.2 es n size [] (outside x ∷ []) m h.8 h.9 h.7 listed in
    let grouped : (h.3 ++ (map outside h.4 ++ outside h.2 ∷ [])) ++ outside x ∷ [] ≡ h.3 ++ (map outside h.4 ++ outside h.2 ∷ outside x ∷ []) =
    append_assoc h.3 (map outside h.4 ++ outside h.2 ∷ []) (outside x ∷ []) ∙ ap (λ (ps : List Measured). h.3 ++ ps) (append_assoc (map outside h.4) (outside h.2 ∷ []) (outside x ∷ [])) in
    let tail : Runs (AtFile es (Valuing n size [])) ((h.3 ++ (map outside h.4 ++ outside h.2 ∷ [])) ++ outside x ∷ []) m =
    subst (λ (ps : List Measured). Runs (AtFile es (Valuing n size [])) ps m) (sym grouped) values in
    subst (λ (ps : List Measured). Runs (AtFile es (Sized n size)) (ps ++ outside x ∷ []) m) (sym h.10)
    (token (AtFile es (Sized n size)) (AtFile es (Listing n size)) m h.0 (kind.Punctuator punctuator.Assign) 0 0 (outside h.1 ∷ (h.3 ++ (map outside h.4 ++ outside h.2 ∷ [])) ++ outside x ∷ []) h.5 refl refl refl
    (token (AtFile es (Listing n size)) (AtFile es (Valuing n size [])) m h.1 (kind.Punctuator punctuator.OpenBrace) 0 0 ((h.3 ++ (map outside h.4 ++ outside h.2 ∷ [])) ++ outside x ∷ []) h.6 refl refl refl tail))

single-ends : (z : Separator) (es : List External) (n : Naming) (c : ConstantExpr) (j : ℕ) → close (full_of (OfObject es n (ToSingle c.at)) [] j) (role_of (separator z)) (c.expr, []) ≡ Some (behind z es n.kind (with_object n (Single n.name (Some c))))
single-ends Last es n c j = refl
single-ends Further es n c j = refl

separator-closes : (z : Separator) → Closes (separator z)
separator-closes Last f e = refl
separator-closes Further f e = refl

-- the parser reads the name of an array, its length and its initialiser list
read_array : (v : Name) (size : Option ConstantExpr) (values : List ConstantExpr) (ts : List Measured) (z : Separator) (x : Lexeme) (es : List External) (t : ObjectKind) (os : List Object) (s : State) → NamesObject es t os s → SpellsArray ts v size values → x.kind ≡ separator z
    → Runs s (ts ++ outside x ∷ []) (behind z es t (os ++ array_of t v size values ∷ []))
read_array v size values ts z x es t os s names h k =
    let n = naming t os v in
    let m = behind z es t (os ++ array_of t v size values ∷ []) in
    let i = names.stands v in
    let list = read_list values h.3 z x es n size h.7 k in
    let sized : Runs (AtFile es (Sizing n)) (h.2 ++ outside h.1 ∷ (h.3 ++ outside x ∷ [])) m = read_size size h.2 h.1 es n (h.3 ++ outside x ∷ []) m h.6 h.5 list in
    let tail : Runs (AtFile es (Sizing n)) ((h.2 ++ outside h.1 ∷ h.3) ++ outside x ∷ []) m =
    subst (λ (ps : List Measured). Runs (AtFile es (Sizing n)) ps m) (sym (append_assoc h.2 (outside h.1 ∷ h.3) (outside x ∷ []))) sized in
    subst (λ (ps : List Measured). Runs s (ps ++ outside x ∷ []) m) (sym h.8)
    (token s (names.next v) m (identifier v) kind.Identifier 0 0 (outside h.0 ∷ (h.2 ++ outside h.1 ∷ h.3) ++ outside x ∷ []) refl (names.named v) (names.counted v) names.begun
    (token (names.next v) (AtFile es (Sizing n)) m h.0 (kind.Punctuator punctuator.OpenBracket) 0 0 ((h.2 ++ outside h.1 ∷ h.3) ++ outside x ∷ []) h.4 (i.bracket (name_of h.0)) refl i.bracket_level tail))

read_object : (t : ObjectKind) (o : Object) (ts : List Measured) (z : Separator) (x : Lexeme) (es : List External) (os : List Object) (s : State) → NamesObject es t os s → SpellsName t ts o → x.kind ≡ separator z → Runs s (ts ++ outside x ∷ []) (behind z es t (os ++ o ∷ []))
read_object (Words t) (Single v None) ts z x es os s names h k =
    let m = behind z es (Words t) (os ++ Single v None ∷ []) in
    let i = (names.stands v).single tt in
    subst (λ (ps : List Measured). Runs s (ps ++ outside x ∷ []) m) (sym h)
    (token s (names.next v) m (identifier v) kind.Identifier 0 0 (outside x ∷ []) refl (names.named v) (names.counted v) names.begun
    (token (names.next v) m m x (separator z) 0 0 [] k (i.ends z (name_of x)) (behind-count z es (Words t) (os ++ Single v None ∷ [])) (i.ends_level z) refl))
read_object (Words t) (Single v (Some c)) ts z x es os s names h k =
    let n = naming (Words t) os v in
    let m = behind z es (Words t) (os ++ Single v (Some c) ∷ []) in
    let i = (names.stands v).single tt in
    let value : Runs (AtFile es (Initialising n)) (h.1 ++ outside x ∷ []) m =
    read_constant c h.1 (AtFile es (Initialising n)) (OfObject es n (ToSingle c.at)) x (separator z) [] m m h.3 (λ r u y a g. ap (λ (b : ℕ). first_step (OfObject es n (ToSingle b)) r u) a ∙ g) (λ r u y g. refl) k (separator-closes z) (λ j. single-ends z es n c j) (behind-count z es (Words t) (os ++ Single v (Some c) ∷ [])) refl in
    subst (λ (ps : List Measured). Runs s (ps ++ outside x ∷ []) m) (sym h.4)
    (token s (names.next v) m (identifier v) kind.Identifier 0 0 (outside h.0 ∷ h.1 ++ outside x ∷ []) refl (names.named v) (names.counted v) names.begun
    (token (names.next v) (AtFile es (Initialising n)) m h.0 (kind.Punctuator punctuator.Assign) 0 0 (h.1 ++ outside x ∷ []) h.2 (i.sign (name_of h.0)) refl i.sign_level value))
read_object (Words t) (Array v size values) ts z x es os s names h k = read_array v size values ts z x es (Words t) os s names h k
read_object (Words t) (ByteArray v size values) ts z x es os s names h k = absurd h
read_object Bytes (Single v e) ts z x es os s names h k = absurd h
read_object Bytes (Array v size values) ts z x es os s names h k = absurd h
read_object Bytes (ByteArray v size values) ts z x es os s names h k = read_array v size values ts z x es Bytes os s names h k

read_objects : (others : List Object) (ts : List Measured) (x : Lexeme) (es : List External) (t : ObjectKind) (os : List Object) (s : State) → NamesObject es t os s → SpellsRow (SpellsName t) ts others → Marks punctuator.Semicolon x → Runs s (ts ++ outside x ∷ []) (AtFile (es ++ Objects (scalar_of t) (os ++ others) ∷ []) Between)
read_objects [] ts x es t os s names h k = absurd h
read_objects (o ∷ []) ts x es t os s names h k = read_object t o ts Last x es os s names h k
read_objects (o ∷ p ∷ ps) ts x es t os s names h k =
    let middle = AtFile es (ObjectNext t (os ++ o ∷ [])) in
    let m = AtFile (es ++ Objects (scalar_of t) (os ++ o ∷ p ∷ ps) ∷ []) Between in
    let first = read_object t o h.1 Further h.0 es os s names h.4 h.3 in
    let rest = read_objects (p ∷ ps) h.2 x es t (os ++ o ∷ []) middle (names-next es t (os ++ o ∷ [])) h.5 k in
    let joined : Runs middle (h.2 ++ outside x ∷ []) m =
    subst (λ (z : List Object). Runs middle (h.2 ++ outside x ∷ []) (AtFile (es ++ Objects (scalar_of t) z ∷ []) Between)) (append_assoc os (o ∷ []) (p ∷ ps)) rest in
    let runs = runs-append s middle m (h.1 ++ outside h.0 ∷ []) (h.2 ++ outside x ∷ []) first joined in
    subst (λ (z : List Measured). Runs s z m) (regroup h.1 (outside h.0) h.2 (outside x) ∙ ap (λ (z : List Measured). z ++ outside x ∷ []) (sym h.6)) runs
  where
    regroup : (a : List Measured) (p : Measured) (c : List Measured) (q : Measured) → (a ++ p ∷ []) ++ (c ++ q ∷ []) ≡ (a ++ p ∷ c) ++ q ∷ []
    regroup a p c q = simp append_assoc

-- units

read_external : (e : External) (ts : List Measured) (es : List External) → SpellsExternal ts e → Runs (AtFile es Between) ts (AtFile (es ++ e ∷ []) Between)
read_external (Declaration f) ts es h =
    let m = AtFile (es ++ Declaration f ∷ []) Between in
    subst (λ (z : List Measured). Runs (AtFile es Between) z m) (sym h.4)
    (runs-append (AtFile es Between) (AtFile es (Headed f)) m h.0 (outside h.1 ∷ []) (read_signature f h.0 es h.2)
    (token (AtFile es (Headed f)) m m h.1 (kind.Punctuator punctuator.Semicolon) 0 0 [] h.3 refl refl refl refl))
read_external (Definition f body) ts es h =
    let m = AtFile (es ++ Definition f body ∷ []) Between in
    subst (λ (z : List Measured). Runs (AtFile es Between) z m) (sym h.5)
    (runs-append (AtFile es Between) (AtFile es (Headed f)) m h.0 h.1 (read_signature f h.0 es h.2) (read_body body h.1 es f h.3 h.4))
read_external (Objects t os) ts es (inl h) =
    let m = AtFile (es ++ Objects t os ∷ []) Between in
    subst (λ (z : List Measured). Runs (AtFile es Between) z m) (sym h.6)
    (read_first_type t h.0 es (h.1 ++ outside h.2 ∷ []) m h.3 (λ a first. read_objects os h.1 h.2 es (Words t) [] a (names-first es t a first) h.4 h.5))
read_external (Objects t os) ts es (inr (e, h)) =
    let m = AtFile (es ++ Objects scalar.Unsigned os ∷ []) Between in
    let w = h.3 in
    let rest = h.1 ++ outside h.2 ∷ [] in
    let read : Runs (AtFile es Between) ts m =
    subst (λ (z : List Measured). Runs (AtFile es Between) z m) (sym (h.6 ∙ ap (λ (z : List Lexeme). map outside z ++ rest) w.4))
    (token (AtFile es Between) (AtFile es (ResultSign scalar.Unsigned)) m w.0 (kind.Keyword keyword.Unsigned) 0 0 (outside w.1 ∷ rest) w.2 refl refl refl
    (token (AtFile es (ResultSign scalar.Unsigned)) (AtFile es (ObjectNext Bytes [])) m w.1 (kind.Keyword keyword.Char) 0 0 rest w.3 refl refl refl
    (read_objects os h.1 h.2 es Bytes [] (AtFile es (ObjectNext Bytes [])) (names-next es Bytes []) h.4 h.5))) in
    subst (λ (u : Scalar). Runs (AtFile es Between) ts (AtFile (es ++ Objects u os ∷ []) Between)) (sym e) read

read_externals : (us : List External) (ts : List Measured) (es : List External) → SpellsExternals ts us → Runs (AtFile es Between) ts (AtFile (es ++ us) Between)
read_externals [] ts es h =
    subst (λ (z : List Measured). Runs (AtFile es Between) z (AtFile (es ++ []) Between)) (sym h) (ap (λ (z : List External). AtFile z Between) (sym (append_nil es)))
  where
    append_nil : (zs : List External) → zs ++ [] ≡ zs
    append_nil [] = refl
    append_nil (z ∷ zs) = ap (λ (r : List External). z ∷ r) (append_nil zs)
read_externals (u ∷ us) ts es h =
    let m = AtFile (es ++ u ∷ us) Between in
    let rest : Runs (AtFile (es ++ u ∷ []) Between) h.1 m =
    subst (λ (z : List External). Runs (AtFile (es ++ u ∷ []) Between) h.1 (AtFile z Between)) (append_assoc es (u ∷ []) us) (read_externals us h.1 (es ++ u ∷ []) h.3) in
    subst (λ (z : List Measured). Runs (AtFile es Between) z m) (sym h.4) (runs-append (AtFile es Between) (AtFile (es ++ u ∷ []) Between) m h.0 h.1 (read_external u h.0 es h.2) rest)

-- the parser reads each unit that tokens spell
pub read_unit : (tree : List External) (ts : List Measured) → SpellsUnit ts tree → Runs start ts (AtFile tree Between)
read_unit [] ts h = absurd h
read_unit (e ∷ es) ts h = read_externals (e ∷ es) ts [] h
