-- The parser reads each declaration of locals that tokens spell.
use Rattle.std.proofs.Common.{◌≡◌, ℕ, true, List, [], ◌∷◌, ◌++◌, map, Option, Some, None, refl, sym, ap, subst, ◌∙◌, append_assoc, inl, inr}
use Rattle.cc_tokens.specs.declared.scalar.Scalar.{Scalar}
use Rattle.cc_tokens.specs.declared.scalar.Scalar.TheVariants as scalar
use Rattle.cc_tokens.specs.declared.token.Keyword.TheVariants as keyword
use Rattle.cc_tokens.specs.declared.token.Punctuator.TheVariants as punctuator
use Rattle.cc_tokens.specs.declared.token.TokenKind.{TokenKind}
use Rattle.cc_tokens.specs.declared.token.TokenKind.TheVariants as kind
use Rattle.cc_syntax.specs.declared.parser.role.Role.TheVariants as role
use Rattle.cc_tokens.specs.Token.{Lexeme}
use Rattle.cc_ast.specs.Tree.{Name, Expr, Declarator, Declares, Local}
use Rattle.cc_syntax.specs.internal.Roles.{role_of}
use Rattle.cc_ast.specs.Grammar.{Measured, outside, full, begins, identifier, Marks, SpellsType, SpellsInitial, SpellsDeclarator, SpellsRow, SpellsLocal}
use Rattle.cc_syntax.specs.internal.Parser.{State, InBody, Inside, HasDeclared, Declaring, LocalSign, ForTesting, Position, AsLocal, AsHeader, OfBody, ToInitialise, in_body, settled, declares, declared, end_full, role_step, role_level, name_of, count_of}
use Rattle.cc_syntax.proofs.ParserRuns.{Runs, token, runs-append}
use Rattle.cc_syntax.proofs.Forms.{operand, count_after}
use Rattle.cc_syntax.proofs.Settles.{settled-count}
use Rattle.cc_syntax.proofs.ReadsAction.{Closes, read_ended}

-- the state after a whole declaration
abbrev pub declared_state : Inside → Position → Scalar → List Declarator → State
declared_state b AsLocal t ds = in_body (settled true b b.opened (Local t ds))
declared_state b AsHeader t ds = InBody b (ForTesting (Declares t ds))

pub declares-state : (b : Inside) (w : Position) (t : Scalar) (ds : List Declarator) → declares b w t ds ≡ Some (declared_state b w t ds)
declares-state b AsLocal t ds = refl
declares-state b AsHeader t ds = refl

declared-count : (b : Inside) (w : Position) (t : Scalar) (ds : List Declarator) → 0 ≡ count_of (declared_state b w t ds)
declared-count b AsLocal t ds = settled-count true b b.opened (Local t ds)
declared-count b AsHeader t ds = refl

-- what follows a declared name: a semicolon, or a comma and a further name
data Separator : Type 0 where
  Last : Separator
  Further : Separator

abbrev separator : Separator → TokenKind
separator Last = kind.Punctuator punctuator.Semicolon
separator Further = kind.Punctuator punctuator.Comma

abbrev behind : Separator → Inside → Position → Scalar → List Declarator → State
behind Last b w t ds = declared_state b w t ds
behind Further b w t ds = InBody b (Declaring w t ds)

behind-count : (z : Separator) (b : Inside) (w : Position) (t : Scalar) (ds : List Declarator) → 0 ≡ count_of (behind z b w t ds)
behind-count Last b w t ds = declared-count b w t ds
behind-count Further b w t ds = refl

behind-name : (z : Separator) (b : Inside) (w : Position) (t : Scalar) (ds : List Declarator) (v x : Name) → role_step (InBody b (HasDeclared w t ds v)) (role_of (separator z)) x ≡ Some (behind z b w t (ds ++ declared v None ∷ []))
behind-name Last b w t ds v x = declares-state b w t (ds ++ declared v None ∷ [])
behind-name Further b w t ds v x = refl

separator-closes : (z : Separator) → Closes (separator z)
separator-closes Last f e = refl
separator-closes Further f e = refl

-- the parser reads an initialiser, if there is one, and the token after it
read_initial : (i : Option Expr) (ts : List Measured) (z : Separator) (x : Lexeme) (b : Inside) (w : Position) (t : Scalar) (ds : List Declarator) (v : Name) → SpellsInitial ts i → x.kind ≡ separator z → Runs (InBody b (HasDeclared w t ds v)) (ts ++ outside x ∷ []) (behind z b w t (ds ++ declared v i ∷ []))
read_initial None ts z x b w t ds v h k =
    let s = InBody b (HasDeclared w t ds v) in
    let m = behind z b w t (ds ++ declared v None ∷ []) in
    subst (λ (ps : List Measured). Runs s (ps ++ outside x ∷ []) m) (sym h)
    (token s m m x (separator z) 0 0 [] k (behind-name z b w t ds v (name_of x)) (behind-count z b w t (ds ++ declared v None ∷ [])) refl refl)
read_initial (Some e) ts z x b w t ds v h k =
    let s = InBody b (HasDeclared w t ds v) in
    let c = OfBody b (ToInitialise w t ds v) in
    let m = behind z b w t (ds ++ declared v (Some e) ∷ []) in
    let value = read_ended c 0 h.1 e x (separator z) m 0 h.3 k (separator-closes z) (ends z) (behind-count z b w t (ds ++ declared v (Some e) ∷ [])) in
    subst (λ (ps : List Measured). Runs s (ps ++ outside x ∷ []) m) (sym h.4)
    (token s (operand c 0 []) m h.0 (kind.Punctuator punctuator.Assign) 0 0 (full h.1 ++ outside x ∷ []) h.2 refl refl refl value)
  where
    ends : (z : Separator) → end_full (OfBody b (ToInitialise w t ds v)) (count_after 0 h.1) e (role_of (separator z)) ≡ Some (behind z b w t (ds ++ declared v (Some e) ∷ []))
    ends Last = declares-state b w t (ds ++ declared v (Some e) ∷ [])
    ends Further = refl

-- a state in which a further name may be declared
pub record Names (s : State) (b : Inside) (w : Position) (t : Scalar) (ds : List Declarator) : Type 0 where
  pub named : (v : Name) → role_step s role.Identifier v ≡ Some (InBody b (HasDeclared w t ds v))
  pub begun : 0 ≡ role_level s role.Identifier

names-declaring : (b : Inside) (w : Position) (t : Scalar) (ds : List Declarator) → Names (InBody b (Declaring w t ds)) b w t ds
names-declaring b w t ds = record { named = λ v. refl; begun = refl }

read_declared : (d : Declarator) (ts : List Measured) (z : Separator) (x : Lexeme) (s : State) (b : Inside) (w : Position) (t : Scalar) (ds : List Declarator) → Names s b w t ds → SpellsDeclarator ts d → x.kind ≡ separator z → Runs s (ts ++ outside x ∷ []) (behind z b w t (ds ++ d ∷ []))
read_declared d ts z x s b w t ds names h k =
    let m = behind z b w t (ds ++ d ∷ []) in
    let initial = read_initial d.initial h.0 z x b w t ds d.name h.1 k in
    subst (λ (ps : List Measured). Runs s (ps ++ outside x ∷ []) m) (sym h.2)
    (token s (InBody b (HasDeclared w t ds d.name)) m (identifier d.name) kind.Identifier 0 0 (h.0 ++ outside x ∷ []) refl (names.named d.name) refl names.begun initial)

read_row : (es : List Declarator) (ts : List Measured) (x : Lexeme) (s : State) (b : Inside) (w : Position) (t : Scalar) (ds : List Declarator) → Names s b w t ds → SpellsRow SpellsDeclarator ts es → Marks punctuator.Semicolon x → Runs s (ts ++ outside x ∷ []) (declared_state b w t (ds ++ es))
read_row [] ts x s b w t ds names h k = absurd h
read_row (e ∷ []) ts x s b w t ds names h k = read_declared e ts Last x s b w t ds names h k
read_row (e ∷ f ∷ es) ts x s b w t ds names h k =
    let middle = InBody b (Declaring w t (ds ++ e ∷ [])) in
    let m = declared_state b w t (ds ++ e ∷ f ∷ es) in
    let first = read_declared e h.1 Further h.0 s b w t ds names h.4 h.3 in
    let others = read_row (f ∷ es) h.2 x middle b w t (ds ++ e ∷ []) (names-declaring b w t (ds ++ e ∷ [])) h.5 k in
    let joined : Runs middle (h.2 ++ outside x ∷ []) m =
    subst (λ (z : List Declarator). Runs middle (h.2 ++ outside x ∷ []) (declared_state b w t z)) (append_assoc ds (e ∷ []) (f ∷ es)) others in
    let runs = runs-append s middle m (h.1 ++ outside h.0 ∷ []) (h.2 ++ outside x ∷ []) first joined in
    subst (λ (ps : List Measured). Runs s ps m) (regroup h.1 (outside h.0) h.2 (outside x) ∙ ap (λ (ps : List Measured). ps ++ outside x ∷ []) (sym h.6)) runs
  where
    regroup : (a : List Measured) (p : Measured) (c : List Measured) (q : Measured) → (a ++ p ∷ []) ++ (c ++ q ∷ []) ≡ (a ++ p ∷ c) ++ q ∷ []
    regroup a p c q = simp append_assoc

-- a state in which a declaration may begin
pub record Begins (s : State) (b : Inside) (w : Position) (level : ℕ) : Type 0 where
  pub int : (v : Name) → role_step s role.Int v ≡ Some (InBody b (Declaring w scalar.Int []))
  pub sign : (t : Scalar) (v : Name) → role_step s (role.SignWord t) v ≡ Some (InBody b (LocalSign w t))
  pub int_level : level ≡ role_level s role.Int
  pub sign_level : (t : Scalar) → level ≡ role_level s (role.SignWord t)

-- if the parser reads what follows the keywords of a type, it reads the keywords and what follows them
read_type : (t : Scalar) (xs : List Lexeme) (s : State) (b : Inside) (w : Position) (level : ℕ) (rest : List Measured) (m : State) → Begins s b w level → SpellsType xs t → ((a : State) → Names a b w t [] → Runs a rest m) → Runs s (begins level (map outside xs ++ rest)) m
read_type t xs s b w level rest m begin (inl h) on =
    subst (λ (z : List Lexeme). Runs s (begins level (map outside z ++ rest)) m) (sym h.3)
    (token s (InBody b (Declaring w scalar.Int [])) m h.0 (kind.Keyword keyword.Int) 0 level rest h.2 (begin.int (name_of h.0)) refl begin.int_level
    (on (InBody b (Declaring w scalar.Int [])) (subst (λ (u : Scalar). Names (InBody b (Declaring w scalar.Int [])) b w u []) (sym h.1) (names-declaring b w scalar.Int []))))
read_type scalar.Int xs s b w level rest m begin (inr (inl h)) on =
    subst (λ (z : List Lexeme). Runs s (begins level (map outside z ++ rest)) m) (sym h.2)
    (token s (InBody b (LocalSign w scalar.Int)) m h.0 (kind.Keyword keyword.Signed) 0 level rest h.1 (begin.sign scalar.Int (name_of h.0)) refl (begin.sign_level scalar.Int)
    (on (InBody b (LocalSign w scalar.Int)) (record { named = λ v. refl; begun = refl })))
read_type scalar.Unsigned xs s b w level rest m begin (inr (inl h)) on =
    subst (λ (z : List Lexeme). Runs s (begins level (map outside z ++ rest)) m) (sym h.2)
    (token s (InBody b (LocalSign w scalar.Unsigned)) m h.0 (kind.Keyword keyword.Unsigned) 0 level rest h.1 (begin.sign scalar.Unsigned (name_of h.0)) refl (begin.sign_level scalar.Unsigned)
    (on (InBody b (LocalSign w scalar.Unsigned)) (record { named = λ v. refl; begun = refl })))
read_type scalar.Int xs s b w level rest m begin (inr (inr h)) on =
    subst (λ (z : List Lexeme). Runs s (begins level (map outside z ++ rest)) m) (sym h.4)
    (token s (InBody b (LocalSign w scalar.Int)) m h.0 (kind.Keyword keyword.Signed) 0 level (outside h.1 ∷ rest) h.2 (begin.sign scalar.Int (name_of h.0)) refl (begin.sign_level scalar.Int)
    (token (InBody b (LocalSign w scalar.Int)) (InBody b (Declaring w scalar.Int [])) m h.1 (kind.Keyword keyword.Int) 0 0 rest h.3 refl refl refl
    (on (InBody b (Declaring w scalar.Int [])) (names-declaring b w scalar.Int []))))
read_type scalar.Unsigned xs s b w level rest m begin (inr (inr h)) on =
    subst (λ (z : List Lexeme). Runs s (begins level (map outside z ++ rest)) m) (sym h.4)
    (token s (InBody b (LocalSign w scalar.Unsigned)) m h.0 (kind.Keyword keyword.Unsigned) 0 level (outside h.1 ∷ rest) h.2 (begin.sign scalar.Unsigned (name_of h.0)) refl (begin.sign_level scalar.Unsigned)
    (token (InBody b (LocalSign w scalar.Unsigned)) (InBody b (Declaring w scalar.Unsigned [])) m h.1 (kind.Keyword keyword.Int) 0 0 rest h.3 refl refl refl
    (on (InBody b (Declaring w scalar.Unsigned [])) (names-declaring b w scalar.Unsigned []))))

-- the parser reads a whole declaration, at its level
pub read_local : (t : Scalar) (ds : List Declarator) (ts : List Measured) (s : State) (b : Inside) (w : Position) (level : ℕ) → Begins s b w level → SpellsLocal ts t ds → Runs s (begins level ts) (declared_state b w t ds)
read_local t ds ts s b w level begin h =
    subst (λ (z : List Measured). Runs s (begins level z) (declared_state b w t ds)) (sym h.6)
    (read_type t h.0 s b w level (h.1 ++ outside h.2 ∷ []) (declared_state b w t ds) begin h.3 (λ a names. read_row ds h.1 h.2 a b w t [] names h.4 h.5))
