-- What the tokens before any state spell: at file scope, in a body, or in a full expression.
use Rattle.std.proofs.Common.{◌≡◌, ℕ, List, [], ◌∷◌, ◌++◌, map, Option, IfSome}
use Rattle.cc_tokens.specs.declared.token.Keyword.TheVariants as keyword
use Rattle.cc_tokens.specs.declared.token.Punctuator.TheVariants as punctuator
use Rattle.cc_tokens.specs.Token.{Lexeme}
use Rattle.cc_syntax.specs.declared.parser.state.ObjectKind.{ObjectKind}
use Rattle.cc_syntax.specs.declared.parser.state.ObjectKind.TheVariants.{Words, Bytes}
use Rattle.cc_ast.specs.Tree.{Object, Signature, External}
use Rattle.cc_ast.specs.Grammar.{Measured, outside, full, identifier, Marks, IsKeyword, sign_word, SpellsType, SpellsRow, BeginsAt, SpellsConstantExpr, SpellsOptionalConstant, SpellsObject, SpellsByteArray, SpellsUnsignedChar, SpellsParameter, SpellsResult, SpellsSignature, SpellsExternals}
use Rattle.cc_syntax.specs.internal.Parser.{State, AtFile, InBody, InFull, Outer, Between, ResultSign, Typed, Named, Parameters, OnlyVoid, ParameterNext, ParameterSign, ParameterTyped, ParameterNamed, Headed, ObjectNext, ObjectNamed, Sizing, Sized, Initialising, Listing, Valuing, Listed, Phase, Context, OfBody, OfObject, Part, ToSize, ToSingle, ToValue, Naming, Waiting, count_of}
use Rattle.cc_syntax.proofs.Forms.{count_after}
use Rattle.cc_syntax.proofs.SoFarBody.{RowSoFar, BodySoFar, PurposeSoFar, leads, spot_of}
use Rattle.cc_syntax.proofs.KeepsPhase.{PhaseSoFar}
use Rattle.cc_syntax.proofs.KeepsBody.{InBodySoFar}

-- `mine` are a function's result, name, parenthesis and parameters so far, and then further tokens
abbrev pub ParametersSoFar : Signature → (List Measured → Type 0) → List Measured → List Measured → Type 0
ParametersSoFar f Row behind mine =
    (type : List Lexeme) × (opening : Lexeme) × (row : List Measured) × SpellsResult type f.result × Marks punctuator.OpenParenthesis opening × Row row
    × (mine ≡ map outside type ++ (outside (identifier f.name) ∷ outside opening ∷ row ++ behind))

-- the tokens spell what precedes the names of objects of this kind, or one such name
abbrev pub SpellsKind : ObjectKind → List Lexeme → Type 0
SpellsKind (Words t) ts = SpellsType ts t
SpellsKind Bytes ts = SpellsUnsignedChar ts

abbrev pub SpellsName : ObjectKind → List Measured → Object → Type 0
SpellsName (Words t) = SpellsObject
SpellsName Bytes = SpellsByteArray

abbrev pub AreWords : ObjectKind → Type 0
AreWords (Words t) = Unit {0}
AreWords Bytes = ⊥

-- `mine` are the type in a declaration of objects, the objects so far, and then further tokens
abbrev pub ObjectsSoFar : ObjectKind → (List Measured → Type 0) → List Measured → List Measured → Type 0
ObjectsSoFar t Row behind mine =
    (type : List Lexeme) × (row : List Measured) × SpellsKind t type × Row row × (mine ≡ map outside type ++ (row ++ behind))

abbrev pub NamingSoFar : Naming → List Measured → List Measured → Type 0
NamingSoFar n behind mine = ObjectsSoFar n.kind (λ row. RowSoFar (SpellsName n.kind) row n.objects) (outside (identifier n.name) ∷ behind) mine

-- `mine` are the tokens so far of an external declaration that has begun
abbrev pub OuterSoFar : Outer → List Measured → Type 0
OuterSoFar Between mine = mine ≡ []
OuterSoFar (ResultSign t) mine = (word : Lexeme) × IsKeyword (sign_word t) word × (mine ≡ outside word ∷ [])
OuterSoFar (Typed r) mine = (type : List Lexeme) × SpellsResult type r × (mine ≡ map outside type)
OuterSoFar (Named r v) mine = (type : List Lexeme) × SpellsResult type r × (mine ≡ map outside type ++ outside (identifier v) ∷ [])
OuterSoFar (Parameters f) mine = (f.parameters ≡ []) × ParametersSoFar f (λ row. row ≡ []) [] mine
OuterSoFar (OnlyVoid f) mine = (f.parameters ≡ []) × ParametersSoFar f (λ row. (word : Lexeme) × IsKeyword keyword.Void word × (row ≡ outside word ∷ [])) [] mine
OuterSoFar (ParameterNext f) mine = ParametersSoFar f (λ row. RowSoFar SpellsParameter row f.parameters) [] mine
OuterSoFar (ParameterSign f t) mine = (word : Lexeme) × IsKeyword (sign_word t) word × ParametersSoFar f (λ row. RowSoFar SpellsParameter row f.parameters) (outside word ∷ []) mine
OuterSoFar (ParameterTyped f t) mine = (words : List Lexeme) × SpellsType words t × ParametersSoFar f (λ row. RowSoFar SpellsParameter row f.parameters) (map outside words) mine
OuterSoFar (ParameterNamed f) mine = ParametersSoFar f (λ row. SpellsRow SpellsParameter row f.parameters) [] mine
OuterSoFar (Headed f) mine = SpellsSignature mine f
OuterSoFar (ObjectNext t os) mine = ObjectsSoFar t (λ row. RowSoFar (SpellsName t) row os) [] mine
OuterSoFar (ObjectNamed n) mine = NamingSoFar n [] mine
OuterSoFar (Sizing n) mine = (opening : Lexeme) × Marks punctuator.OpenBracket opening × NamingSoFar n (outside opening ∷ []) mine
OuterSoFar (Sized n size) mine =
    (opening closing : Lexeme) × (inner : List Measured) × Marks punctuator.OpenBracket opening × Marks punctuator.CloseBracket closing
    × SpellsOptionalConstant inner size × NamingSoFar n (outside opening ∷ inner ++ outside closing ∷ []) mine
OuterSoFar (Initialising n) mine = (sign : Lexeme) × Marks punctuator.Assign sign × NamingSoFar n (outside sign ∷ []) mine × AreWords n.kind
OuterSoFar (Listing n size) mine =
    (opening closing sign : Lexeme) × (inner : List Measured) × Marks punctuator.OpenBracket opening × Marks punctuator.CloseBracket closing
    × SpellsOptionalConstant inner size × Marks punctuator.Assign sign × NamingSoFar n (outside opening ∷ inner ++ outside closing ∷ outside sign ∷ []) mine
OuterSoFar (Valuing n size vs) mine =
    (opening closing sign brace : Lexeme) × (inner row : List Measured) × Marks punctuator.OpenBracket opening × Marks punctuator.CloseBracket closing
    × SpellsOptionalConstant inner size × Marks punctuator.Assign sign × Marks punctuator.OpenBrace brace × RowSoFar SpellsConstantExpr row vs
    × NamingSoFar n (outside opening ∷ inner ++ (outside closing ∷ outside sign ∷ outside brace ∷ row)) mine
OuterSoFar (Listed t os) mine = ObjectsSoFar t (λ row. SpellsRow (SpellsName t) row os) [] mine

-- the tokens spell the complete external declarations, and then what has been read of the next one
abbrev pub AtFileSoFar : List External → Outer → List Measured → Type 0
AtFileSoFar es o ts = (before mine : List Measured) × SpellsExternals before es × OuterSoFar o mine × (ts ≡ before ++ mine)

-- the state in which a constant expression of this kind begins
abbrev pub part_outer : Naming → Part → Outer
part_outer n (ToSize at) = Sizing n
part_outer n (ToSingle at) = Initialising n
part_outer n (ToValue size vs at) = Valuing n size vs

-- the tokens before a full expression, and those of the same full expression that precede the expression
abbrev pub ContextSoFar : Context → List Measured → List Lexeme → Type 0
ContextSoFar (OfBody b p) ts xs =
    (before mine : List Measured) × BodySoFar b.externals b.signature b.finished b.opened before × PurposeSoFar p b.opened mine xs × (ts ≡ before ++ mine)
ContextSoFar (OfObject es n p) ts xs = (xs ≡ []) × AtFileSoFar es (part_outer n p) ts

-- the tokens of a full expression; if its action is a statement, the first token has the statement's level
abbrev pub leads_of : Context → List Measured → List Measured
leads_of (OfBody b p) ts = leads (spot_of p) b.opened ts
leads_of (OfObject es n p) ts = ts

-- the recorded offset at which the constant expression begins
abbrev pub offset_of : Part → ℕ
offset_of (ToSize at) = at
offset_of (ToSingle at) = at
offset_of (ToValue size vs at) = at

abbrev pub StartsAt : Context → List Lexeme → Type 0
StartsAt (OfBody b p) xs = Unit {0}
StartsAt (OfObject es n p) xs = BeginsAt (offset_of p) xs

pub record FullSoFar (c : Context) (ws : List Waiting) (k : ℕ) (p : Phase) (ts : List Measured) : Type 0 where
  pub before : List Measured
  pub prefix : List Lexeme
  pub xs : List Lexeme
  pub context : ContextSoFar c before prefix
  pub phase : PhaseSoFar p ws xs
  pub counted : k ≡ count_after 0 (prefix ++ xs)
  pub starts : StartsAt c xs
  pub joins : (qs : List Measured) → leads_of c (full (prefix ++ xs) ++ qs) ≡ leads_of c (full (prefix ++ xs)) ++ qs
  pub whole : ts ≡ before ++ leads_of c (full (prefix ++ xs))

-- the tokens so far spell what the state says has been read
abbrev pub SoFar : State → List Measured → Type 0
SoFar (AtFile es o) ts = AtFileSoFar es o ts
SoFar (InBody b s) ts = InBodySoFar (b, s) ts
SoFar (InFull f p) ts = FullSoFar f.context f.waiting f.count p ts

-- if there is a state after a token, the tokens up to and including that one spell what the state says
abbrev pub Kept : Option State → List Measured → Lexeme → ℕ → Type 0
Kept o ts x l = IfSome o (λ m. SoFar m (ts ++ record { token = x; count = count_of m; level = l } ∷ []))
