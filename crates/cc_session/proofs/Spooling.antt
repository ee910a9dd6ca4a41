-- What is done with the scripts of a spool is carried from script to script, and then stated for all clients.
use Rattle.std.proofs.Common.{◌≡◌, ◌∙◌, ℕ, ◌<◌, List, [], ◌∷◌, ◌++◌, length, map, take, get_or, Option, Some, None, Result, Ok, Err, refl, sym, ap, subst, append_assoc, arith, inl, inr}
use Rattle.std.specs.Prelude.{All, slice_get}
use Rattle.std.specs.Option.{option_map}
use Rattle.std.proofs.Math.Seq.{take-append_seam}
use Rattle.std.proofs.lemmas.List.{append-nil, length-map}
use Rattle.std.proofs.lemmas.Simd.{map-map}
use Rattle.std.proofs.lemmas.List.Elements.{All-get_or}
use Rattle.std.proofs.lemmas.Option.{none-some, slice_get-get_or, slice_get-map, slice_get_cases}
use Rattle.cc_script.specs.declared.command.Dialect.TheVariants.{Served}
use Rattle.cc_script.specs.declared.fault.ScriptFault.{ScriptFault}
use Rattle.cc_history.specs.History.{MemberView}
use Rattle.cc_spool.specs.Spool.{Delivered, Taken, delivered_as, taken_as}
use Rattle.cc_c_semantics.specs.declared.mode.Mode.{Mode}
use Rattle.cc_session.specs.Playing.{Grows, IsPlayedBy, Talk, talk}
use Rattle.cc_session.specs.Spooling.{AreDoneBy, EndsBy, Given, HasDone, HaveDone, IsDoneBy}
use Rattle.cc_session.specs.internal.Ends.{EndOf}

-- ---- one script

ends_by : (mode : Mode) → {T : Type 0} (played : Result T ScriptFault) (end : Option ℕ) (script : Option (List ℕ)) (old new : Talk) → EndOf played end
    → IsPlayedBy mode Served (Some 65536) script old new played → EndsBy mode script end old new
ends_by mode (Ok t) end script old new how is = subst (λ (e : Option ℕ). EndsBy mode script e old new) (sym how) is
ends_by mode (Err fault) end script old new how is = subst (λ (e : Option ℕ). EndsBy mode script e old new) (sym how) (fault, refl, is)

-- a script that was played is done, with the answer that was written
pub done_by : (mode : Mode) → {T : Type 0} (played : Result T ScriptFault) (end : Option ℕ) (script begun answer : Option (List ℕ)) (old new : MemberView) → EndOf played end
    → IsPlayedBy mode Served (Some 65536) script (talk old begun) (talk new answer) played → Grows old new → IsDoneBy mode (taken_as script begun) (delivered_as answer end) old new
done_by mode played end script begun answer old new how is grows = (ends_by mode played end script (talk old begun) (talk new answer) how is, grows)

-- ---- scripts in turn

-- Chains of equations, and chains in which a list gains one element at one step. The caller names the intermediate values. If
-- they were inferred, they would be written out whole: a spool after several calls is a large term.
pub after_two : {T : Type 0} (x y z : T) → x ≡ y → y ≡ z → x ≡ z
after_two x y z one two = one ∙ two

pub one_more_first : {T : Type 0} (before asked next given : List T) (x : T) → given ≡ next → next ≡ asked ++ x ∷ [] → asked ≡ before → given ≡ before ++ x ∷ []
one_more_first {T} before asked next given x last more first = last ∙ (more ∙ ap (λ (l : List T). l ++ x ∷ []) first)

pub one_more_last : {T : Type 0} (before asked next given : List T) (x : T) → given ≡ next ++ x ∷ [] → next ≡ asked → asked ≡ before → given ≡ before ++ x ∷ []
one_more_last {T} before asked next given x more last first = more ∙ ap (λ (l : List T). l ++ x ∷ []) (last ∙ first)

-- if a spool is unchanged, nothing was done
pub done_same : (mode : Mode) → (x y : Given) (h : MemberView) → y.taken ≡ x.taken → y.ended ≡ x.ended → HasDone mode x h y h
done_same mode x y h taken ended = record {
  scripts = [];
  answers = [];
  taken = taken ∙ sym (append-nil x.taken);
  ended = ended ∙ sym (append-nil x.ended);
  done = refl;
}

-- if one script was taken, done and answered, `HasDone` holds
pub done_script : (mode : Mode) → (x y : Given) (old new : MemberView) (script : Taken) (answer : Delivered) → y.taken ≡ x.taken ++ script ∷ [] → y.ended ≡ x.ended ++ answer ∷ []
    → IsDoneBy mode script answer old new → HasDone mode x old y new
done_script mode x y old new script answer taken ended done = record {
  scripts = script ∷ [];
  answers = answer ∷ [];
  taken = taken;
  ended = ended;
  done = (new, done, refl);
}

are_done_on : (mode : Mode) → (s t : List Taken) (d e : List Delivered) (a b c : MemberView) → AreDoneBy mode s d a b → AreDoneBy mode t e b c → AreDoneBy mode (s ++ t) (d ++ e) a c
are_done_on mode [] t [] e a b c one two = subst (λ (h : MemberView). AreDoneBy mode t e h c) one two
are_done_on mode (x ∷ s) t (y ∷ d) e a b c one two = (one.0, one.1, are_done_on mode s t d e one.0 b c one.2 two)
are_done_on mode [] t (y ∷ d) e a b c one two = absurd one
are_done_on mode (x ∷ s) t [] e a b c one two = absurd one

-- if some scripts were done, and then more, all of them were done
pub done_on : (mode : Mode) → (x y z : Given) (a b c : MemberView) → HasDone mode x a y b → HasDone mode y b z c → HasDone mode x a z c
done_on mode x y z a b c one two = record {
  scripts = one.scripts ++ two.scripts;
  answers = one.answers ++ two.answers;
  taken = two.taken ∙ (ap (λ (l : List Taken). l ++ two.scripts) one.taken ∙ append_assoc x.taken one.scripts two.scripts);
  ended = two.ended ∙ (ap (λ (l : List Delivered). l ++ two.answers) one.ended ∙ append_assoc x.ended one.answers two.answers);
  done = are_done_on mode one.scripts two.scripts one.answers two.answers a b c one.done two.done;
}

-- ---- all clients

abbrev or_this : {A : Type 0} → Option A → A → A
or_this (Some x) d = x
or_this None d = d

from_some : {A : Type 0} (a b : A) → Some a ≡ Some b → a ≡ b
from_some {A} a b same = ap (λ (o : Option A). or_this o a) same

-- if a mapped list has `b` at an index, `b` is the image of the element there
at : {P B : Type 0} (xs : List P) (f : P → B) (i : ℕ) (d : P) (b : B) → i < length xs → slice_get (map f xs) i ≡ Some b → f (get_or xs i d) ≡ b
at {P} {B} xs f i d b within is =
    from_some (f (get_or xs i d)) b (sym (slice_get-map f xs i ∙ ap (λ (o : Option P). option_map f o) (slice_get-get_or xs i d within)) ∙ is)

done_as : (mode : Mode) → (a b c d : Given) (first last other : MemberView) → a ≡ c → b ≡ d → last ≡ other → HasDone mode a first b last → HasDone mode c first d other
done_as mode a b c d first last other one two three it =
    subst (λ (h : MemberView). HasDone mode c first d h) three
    (subst (λ (g : Given). HasDone mode c first g last) two (subst (λ (g : Given). HasDone mode g first b last) one it))

module _ (mode : Mode) {P : Type 0} (given : P → Given) (member : P → MemberView) where
  -- each client did what its own spool gave
  abbrev pub Each : (olds news : List P) → Type 0
  Each olds news = (i : ℕ) (d : P) → i < length olds → HasDone mode (given (get_or olds i d)) (member (get_or olds i d)) (given (get_or news i d)) (member (get_or news i d))

  each_at : (olds news : List P) → length news ≡ length olds → All (λ p. (member p).receipts ≡ []) olds → Each olds news
      → (i : ℕ) (old new : Given) (last : MemberView) (x : P) → i < length olds → slice_get (map given olds) i ≡ Some old → slice_get (map given news) i ≡ Some new
      → slice_get (map member news) i ≡ Some last → (first : MemberView) × (first.receipts ≡ []) × HasDone mode old first new last
  each_at olds news many fresh each i old new last x within at_old at_new at_last =
      let there : i < length news = omega (arith, many, within) in (
        member (get_or olds i x),
        All-get_or (λ p. (member p).receipts ≡ []) olds i x within fresh,
        done_as mode _ _ old new _ _ last (at olds given i x old within at_old) (at news given i x new there at_new) (at news member i x last there at_last) (each i x within),
      )

  pub have_done : (olds news : List P) → length news ≡ length olds → All (λ p. (member p).receipts ≡ []) olds → Each olds news
      → HaveDone mode (map given olds) (map given news) (map member news)
  have_done olds news many fresh each = record {
    many = length-map news given ∙ (many ∙ sym (length-map olds given));
    all = length-map news member ∙ (many ∙ sym (length-map olds given));
    each = λ i old new last at_old at_new at_last.
        elim (slice_get_cases olds i).1 [
          | inl here ↦ each_at olds news many fresh each i old new last here.0 here.1 at_old at_new at_last
          | inr past ↦ absurd (none-some old (sym (slice_get-map given olds i ∙ ap (λ (o : Option P). option_map given o) past.1) ∙ at_old))
        ];
  }

-- if a slice of a vector was changed to `news`, the vector begins with `news`
whole : {P : Type 0} (n : ℕ) (news rest : List P) → length news ≡ n → take n (news ++ rest) ≡ news
whole n news rest many = subst (λ (m : ℕ). take m (news ++ rest) ≡ news) many (take-append_seam news rest)

-- each client did what its own spool gave, once the clients and the spools are taken apart
module _ (mode : Mode) {P S C : Type 0} (spool : P → S) (client : P → C) (by : S → Given) (member : C → MemberView) where
  pub have_done_by : (olds news rest : List P) (given left : List S) (clients : List C) (n : ℕ) → map spool olds ≡ given → length news ≡ n → length olds ≡ n
      → All (λ p. (member (client p)).receipts ≡ []) olds → Each mode (λ p. by (spool p)) (λ p. member (client p)) olds news
      → left ≡ map spool (take n (news ++ rest)) → clients ≡ map client (take n (news ++ rest)) → HaveDone mode (map by given) (map by left) (map member clients)
  have_done_by olds news rest given left clients n all many many_old fresh each lefts hired =
      let posts = whole n news rest many in
      let done = have_done mode (λ p. by (spool p)) (λ p. member (client p)) olds news (many ∙ sym many_old) fresh each in
      let before = sym (map-map by spool olds) ∙ ap (λ (l : List S). map by l) all in
      let after = sym (map-map by spool news) ∙ ap (λ (l : List S). map by l) (sym (lefts ∙ ap (λ (l : List P). map spool l) posts)) in
      let who = sym (map-map member client news) ∙ ap (λ (l : List C). map member l) (sym (hired ∙ ap (λ (l : List P). map client l) posts)) in
      subst (λ (l : List Given). HaveDone mode l (map by left) (map member clients)) before
      (subst (λ (l : List Given). HaveDone mode (map (λ p. by (spool p)) olds) l (map member clients)) after
      (subst (λ (l : List MemberView). HaveDone mode (map (λ p. by (spool p)) olds) (map (λ p. by (spool p)) news) l) who done))

-- if no client in a list has made a call, neither has the client at any index
pub none_of : {C : Type 0} (member : C → MemberView) (xs : List C) → All (λ c. (member c).receipts ≡ []) xs → (i : ℕ) (client : MemberView) → slice_get (map member xs) i ≡ Some client
    → client.receipts ≡ []
none_of {C} member xs fresh i client is =
    elim (slice_get_cases xs i).1 [
      | inl here ↦
          subst (λ (h : MemberView). h.receipts ≡ []) (at xs member i here.0 client here.1 is)
          (All-get_or (λ c. (member c).receipts ≡ []) xs i here.0 here.1 fresh)
      | inr past ↦ absurd (none-some client (sym (slice_get-map member xs i ∙ ap (λ (o : Option C). option_map member o) past.1) ∙ is))
    ]
