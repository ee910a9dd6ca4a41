-- The items of blocks one after the other: what is written for a block depends only on what comes next.
use Rattle.std.proofs.Common.{◌≡◌, ℕ, Bool, true, false, cond, List, [], ◌∷◌, ◌++◌, refl, sym, ap, ◌∙◌, append_assoc, Some}
use Rattle.cc_ltl.specs.declared.operation.Move.{Move}
use Rattle.cc_ltl.specs.declared.operation.Operation.{Operation}
use Rattle.cc_ltl.specs.declared.operation.Operation.TheVariants.{Nop, Const, Unary, Binary, Load, Store, Call, Read, Write, Branch, Return}
use Rattle.cc_ltl.specs.declared.block.Block.{Block}
use Rattle.cc_linear_language.specs.declared.item.LinearItem.{LinearItem}
use Rattle.cc_linear_language.specs.declared.item.LinearItem.TheVariants as item
use Rattle.cc_linear_language.specs.declared.item.LinearItem.TheVariants.{Label, Jump, IfNonzero, IfZero, Copy}
use Rattle.cc_linear.specs.internal.Lays.{moves_then, operation_then, next}
use Rattle.cc_ltl.specs.Ltl.{block_at, goes_on}
use Rattle.cc_linear.specs.internal.Layout.{is_next, leads, is_empty, tail_of, branch_then, block_then, laid_at, laid}
use Rattle.cc_linear.specs.internal.Places.{listed_first}

pub moves_before : (ms : List Move) (xs rest : List LinearItem) → moves_then ms (xs ++ rest) ≡ moves_then ms xs ++ rest
moves_before [] xs rest = refl
moves_before (m ∷ ms) xs rest = ap (λ ys. Copy m ∷ ys) (moves_before ms xs rest)

pub moves_alone : (ms : List Move) (rest : List LinearItem) → moves_then ms rest ≡ moves_then ms [] ++ rest
moves_alone ms rest = moves_before ms [] rest

pub operation_alone : (op : Operation) (rest : List LinearItem) → operation_then op rest ≡ operation_then op [] ++ rest
operation_alone (Nop n) rest = refl
operation_alone (Const to word n) rest = refl
operation_alone (Unary operator to from n) rest = refl
operation_alone (Binary operator to left right n) rest = refl
operation_alone (Load width object to index n) rest = refl
operation_alone (Store width object index from n) rest = refl
operation_alone (Call function n) rest = refl
operation_alone (Read n) rest = refl
operation_alone (Write n) rest = refl
operation_alone (Branch from taken other) rest = refl
operation_alone Return rest = refl

leads_by : (b : Bool) (e : ℕ) (rest : List LinearItem) → cond b rest (Jump e ∷ rest) ≡ cond b [] (Jump e ∷ []) ++ rest
leads_by true e rest = refl
leads_by false e rest = refl

leads_alone : (e : ℕ) (order : List ℕ) (rest : List LinearItem) → leads e order rest ≡ leads e order [] ++ rest
leads_alone e order rest = leads_by (is_next e order) e rest

tail_by : (b : Bool) (e : ℕ) (order : List ℕ) (rest : List LinearItem) → cond b (Jump e ∷ rest) (leads e order rest) ≡ cond b (Jump e ∷ []) (leads e order []) ++ rest
tail_by true e order rest = refl
tail_by false e order rest = leads_alone e order rest

tail_alone : (end : ℕ → ℕ) (block : Block) (order : List ℕ) (rest : List LinearItem) → tail_of end block order rest ≡ tail_of end block order [] ++ rest
tail_alone end block order rest = tail_by (is_empty block) (end (next block.operation)) order rest

branch_by : (b : Bool) (from t o : ℕ) (order : List ℕ) (rest : List LinearItem)
    → cond b (IfZero from o ∷ rest) (IfNonzero from t ∷ leads o order rest) ≡ cond b (IfZero from o ∷ []) (IfNonzero from t ∷ leads o order []) ++ rest
branch_by true from t o order rest = refl
branch_by false from t o order rest = ap (λ ys. IfNonzero from t ∷ ys) (leads_alone o order rest)

branch_alone : (end : ℕ → ℕ) (from taken other : ℕ) (order : List ℕ) (rest : List LinearItem) → branch_then end from taken other order rest ≡ branch_then end from taken other order [] ++ rest
branch_alone end from taken other order rest = branch_by (is_next (end taken) order) from (end taken) (end other) order rest

-- the items of a block with one successor are those of its parts, one after the other
pub straight : (before after : List Move) (op : Operation) (xs rest : List LinearItem)
    → moves_then before (operation_then op (moves_then after (xs ++ rest))) ≡ moves_then before (operation_then op (moves_then after xs)) ++ rest
straight before after op xs rest =
    ap (λ ys. moves_then before (operation_then op ys)) (moves_before after xs rest)
    ∙ ap (moves_then before) (operation_alone op (moves_then after xs ++ rest) ∙ sym (append_assoc (operation_then op []) (moves_then after xs) rest) ∙ ap (λ ys. ys ++ rest) (sym (operation_alone op (moves_then after xs))))
    ∙ moves_before before (operation_then op (moves_then after xs)) rest

straight_then : (end : ℕ → ℕ) (block : Block) (op : Operation) (order : List ℕ) (rest : List LinearItem)
    → moves_then block.before (operation_then block.operation (moves_then block.after (tail_of end block order rest))) ≡ moves_then block.before (operation_then block.operation (moves_then block.after (tail_of end block order []))) ++ rest
straight_then end block op order rest =
    ap (λ ys. moves_then block.before (operation_then block.operation (moves_then block.after ys))) (tail_alone end block order rest) ∙ straight block.before block.after block.operation (tail_of end block order []) rest

pub block_alone : (end : ℕ → ℕ) (block : Block) (op : Operation) (order : List ℕ) (rest : List LinearItem) → block_then end block op order rest ≡ block_then end block op order [] ++ rest
block_alone end block (Nop n) order rest = straight_then end block (Nop n) order rest
block_alone end block (Const to word n) order rest = straight_then end block (Const to word n) order rest
block_alone end block (Unary operator to from n) order rest = straight_then end block (Unary operator to from n) order rest
block_alone end block (Binary operator to left right n) order rest = straight_then end block (Binary operator to left right n) order rest
block_alone end block (Load width object to index n) order rest = straight_then end block (Load width object to index n) order rest
block_alone end block (Store width object index from n) order rest = straight_then end block (Store width object index from n) order rest
block_alone end block (Call function n) order rest = straight_then end block (Call function n) order rest
block_alone end block (Read n) order rest = straight_then end block (Read n) order rest
block_alone end block (Write n) order rest = straight_then end block (Write n) order rest
block_alone end block (Branch from taken other) order rest = ap (moves_then block.before) (branch_alone end from taken other order rest) ∙ moves_before block.before (branch_then end from taken other order []) rest
block_alone end block Return order rest = moves_before block.before (item.Return ∷ []) rest

-- ---- what is written

-- only the next label of the order matters
first_alone : (end : ℕ → ℕ) (block : Block) (op : Operation) (order : List ℕ) (rest : List LinearItem) → block_then end block op (listed_first order) rest ≡ block_then end block op order rest
first_alone end block op [] rest = refl
first_alone end block (Nop n) (l ∷ ls) rest = refl
first_alone end block (Const to word n) (l ∷ ls) rest = refl
first_alone end block (Unary operator to from n) (l ∷ ls) rest = refl
first_alone end block (Binary operator to left right n) (l ∷ ls) rest = refl
first_alone end block (Load width object to index n) (l ∷ ls) rest = refl
first_alone end block (Store width object index from n) (l ∷ ls) rest = refl
first_alone end block (Call function n) (l ∷ ls) rest = refl
first_alone end block (Read n) (l ∷ ls) rest = refl
first_alone end block (Write n) (l ∷ ls) rest = refl
first_alone end block (Branch from taken other) (l ∷ ls) rest = refl
first_alone end block Return (l ∷ ls) rest = refl

first_leads : (e : ℕ) (order : List ℕ) (rest : List LinearItem) → leads e (listed_first order) rest ≡ leads e order rest
first_leads e [] rest = refl
first_leads e (l ∷ ls) rest = refl

pub branch_put : (end : ℕ → ℕ) (block : Block) (order : List ℕ) (old once twice second : List LinearItem) (before : List Move) (first : LinearItem) (from taken other nonzero zero_ : ℕ)
    → before ≡ block.before → block.operation ≡ Branch from taken other → nonzero ≡ end taken → zero_ ≡ end other → first ∷ second ≡ branch_then (λ l. l) from nonzero zero_ order []
    → once ≡ old ++ (moves_then before [] ++ (first ∷ [])) → twice ≡ once ++ second → twice ≡ old ++ block_then end block block.operation order []
branch_put end block order old once twice second before first from taken other nonzero zero_ b is n z both o t =
    t ∙ ap (λ xs. xs ++ second) o ∙ append_assoc old (moves_then before [] ++ (first ∷ [])) second ∙ ap (λ xs. old ++ xs) (
    append_assoc (moves_then before []) (first ∷ []) second ∙ ap (λ xs. moves_then before [] ++ xs) both ∙ sym (moves_alone before (branch_then (λ l. l) from nonzero zero_ order []))
    ∙ ap (λ ms. moves_then ms (branch_then (λ l. l) from nonzero zero_ order [])) b ∙ ap (λ e. moves_then block.before (branch_then (λ l. l) from e zero_ order [])) n
    ∙ ap (λ e. moves_then block.before (branch_then (λ l. l) from (end taken) e order [])) z ∙ sym (ap (λ op. block_then end block op order []) is)
    )

pub return_put : (end : ℕ → ℕ) (block : Block) (order : List ℕ) (old once : List LinearItem) (before : List Move) → before ≡ block.before → block.operation ≡ Return
    → once ≡ old ++ (moves_then before [] ++ (item.Return ∷ [])) → once ≡ old ++ block_then end block block.operation order []
return_put end block order old once before b is o =
    o ∙ ap (λ xs. old ++ xs) (sym (moves_alone before (item.Return ∷ [])) ∙ ap (λ ms. moves_then ms (item.Return ∷ [])) b ∙ sym (ap (λ op. block_then end block op order []) is))

-- the items of a block with one successor, as they are written
straight_is : (end : ℕ → ℕ) (block : Block) (op : Operation) (order : List ℕ) (rest : List LinearItem) → goes_on op ≡ true
    → block_then end block op order rest ≡ moves_then block.before (operation_then block.operation (moves_then block.after (tail_of end block order rest)))
straight_is end block (Nop n) order rest g = refl
straight_is end block (Const to word n) order rest g = refl
straight_is end block (Unary operator to from n) order rest g = refl
straight_is end block (Binary operator to left right n) order rest g = refl
straight_is end block (Load width object to index n) order rest g = refl
straight_is end block (Store width object index from n) order rest g = refl
straight_is end block (Call function n) order rest g = refl
straight_is end block (Read n) order rest g = refl
straight_is end block (Write n) order rest g = refl
straight_is end block (Branch from taken other) order rest g = absurd (let z : false ≡ true = g in cc)
straight_is end block Return order rest g = absurd (let z : false ≡ true = g in cc)

pub straight_put : (end : ℕ → ℕ) (block : Block) (order : List ℕ) (old once twice middle last : List LinearItem) (before after : List Move) (to : ℕ)
    → before ≡ block.before → after ≡ block.after → goes_on block.operation ≡ true → to ≡ end (next block.operation)
    → operation_then block.operation [] ≡ middle → last ≡ cond (is_empty block) (Jump to ∷ []) (leads to order [])
    → once ≡ old ++ (moves_then before [] ++ middle) → twice ≡ once ++ (moves_then after [] ++ last) → twice ≡ old ++ block_then end block block.operation order []
straight_put end block order old once twice middle last before after to b a g leads_to m l o t =
    let tail = tail_of end block order [] in
    let lasts : last ≡ tail = l ∙ ap (λ e. cond (is_empty block) (Jump e ∷ []) (leads e order [])) leads_to in
    let behind : moves_then after [] ++ last ≡ moves_then block.after tail = sym (moves_alone after last) ∙ ap (λ ms. moves_then ms last) a ∙ ap (moves_then block.after) lasts in
    let prefix : moves_then before [] ++ middle ≡ moves_then block.before (operation_then block.operation []) =
    sym (moves_alone before middle) ∙ ap (λ ms. moves_then ms middle) b ∙ ap (moves_then block.before) (sym m) in
    t ∙ ap (λ xs. xs ++ (moves_then after [] ++ last)) o ∙ append_assoc old (moves_then before [] ++ middle) (moves_then after [] ++ last)
    ∙ ap (λ xs. old ++ xs) (
    ap (λ xs. xs ++ (moves_then after [] ++ last)) prefix ∙ ap (λ xs. moves_then block.before (operation_then block.operation []) ++ xs) behind
    ∙ sym (moves_before block.before (operation_then block.operation []) (moves_then block.after tail)) ∙ ap (moves_then block.before) (sym (operation_alone block.operation (moves_then block.after tail)))
    ∙ sym (straight_is end block block.operation order [] g)
    )

-- ---- one block after the other

pub laid_first : (e : ℕ) (first : List ℕ) (order : List ℕ) (rest way : List LinearItem) → first ≡ listed_first order → way ≡ leads e first [] → way ++ rest ≡ leads e order rest
laid_first e first order rest way f w =
    ap (λ xs. xs ++ rest) (w ∙ ap (λ ls. leads e ls []) f ∙ first_leads e order []) ∙ sym (leads_alone e order rest)

pub laid_more : (blocks : List Block) (end : ℕ → ℕ) (l : ℕ) (ls following : List ℕ) (block : Block) (items once twice : List LinearItem) → block_at blocks l ≡ Some block → following ≡ listed_first ls
    → once ≡ items ++ (Label l ∷ []) → twice ≡ once ++ block_then end block block.operation following [] → twice ++ laid blocks end ls ≡ items ++ laid blocks end (l ∷ ls)
laid_more blocks end l ls following block items once twice at f o t =
    let rest = laid blocks end ls in
    let own = block_then end block block.operation following [] in
    let here : own ++ rest ≡ laid_at end (block_at blocks l) ls rest =
    ap (λ xs. xs ++ rest) (ap (λ xs. block_then end block block.operation xs []) f ∙ first_alone end block block.operation ls []) ∙ sym (block_alone end block block.operation ls rest) ∙ sym (ap (λ b. laid_at end b ls rest) at) in
    ap (λ xs. xs ++ rest) t ∙ append_assoc once own rest ∙ ap (λ xs. once ++ xs) here ∙ ap (λ xs. xs ++ laid_at end (block_at blocks l) ls rest) o ∙ append_assoc items (Label l ∷ []) (laid_at end (block_at blocks l) ls rest)
