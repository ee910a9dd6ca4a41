-- A list of clients, and the list of their members.
use Rattle.std.proofs.Common.{◌≡◌, ◌≢◌, ◌⊎◌, inl, inr, ◌==◌, ℕ, ◌<◌, Bool, true, false, List, length, map, Option, Some, None, refl, sym, ap, ◌∙◌, arith}
use Rattle.std.proofs.lemmas.Bool.{eq-eqb, eqb-true}
use Rattle.std.proofs.lemmas.List.{length-map}
use Rattle.std.specs.Prelude.{slice_get}
use Rattle.std.specs.Option.{option_map}
use Rattle.std.proofs.lemmas.Option.{slice_get-map}
use Rattle.cc_history.specs.declared.entry.Entry.{Entry}
use Rattle.cc_history.specs.Closing.{AreApart, AreOwn, ReceiptsStand, receipts_of}
use Rattle.cc_history.specs.History.{MemberView}
use Rattle.cc_history.proofs.Closings.{at_most}
use Rattle.cc_recorded.specs.internal.Apart.{HaveOwnNumbers}

-- if all receipts match, and their number is not that of the entries, there are more entries
pub more_entries : (history : List Entry) (clients : List MemberView) → AreOwn clients → AreApart clients → ReceiptsStand history clients → receipts_of clients ≢ length history
    → receipts_of clients < length history
more_entries history clients own apart stand differ = omega (arith, at_most history clients own apart stand, differ)

module _ {A : Type 0} (who : A → MemberView) where
  -- the member at an index is that of the client there
  pub member_at : (clients : List A) (i : ℕ) (c : A) → slice_get clients i ≡ Some c → slice_get (map who clients) i ≡ Some (who c)
  member_at clients i c at = slice_get-map who clients i ∙ ap (option_map who) at

  -- if there is a member at an index, there is a client there whose member it is
  pub client_at : (clients : List A) (i : ℕ) (h : MemberView) → slice_get (map who clients) i ≡ Some h → (c : A) × (slice_get clients i ≡ Some c) × (who c ≡ h)
  client_at clients i h at = by (slice_get clients i) refl
    where
      by : (o : Option A) → slice_get clients i ≡ o → (c : A) × (slice_get clients i ≡ Some c) × (who c ≡ h)
      by None e = absurd (let none : ◌≡◌ {A = Option MemberView} None (Some h) = sym (slice_get-map who clients i ∙ ap (option_map who) e) ∙ at in cc)
      by (Some c) e = (c, e, (let some : ◌≡◌ {A = Option MemberView} (Some (who c)) (Some h) = sym (member_at clients i c e) ∙ at in cc))

  -- if clients have different numbers, their members are apart
  pub apart : (clients : List A) → HaveOwnNumbers who clients → AreApart (map who clients)
  apart clients own i j one other at at' same =
      let a = client_at clients i one at in
      let b = client_at clients j other at' in
      own i j a.0 b.0 a.1 b.1 (ap (λ (h : MemberView). h.number) a.2 ∙ same ∙ sym (ap (λ (h : MemberView). h.number) b.2))

  pub own_numbers : (clients : List A) → AreApart (map who clients) → HaveOwnNumbers who clients
  own_numbers clients apart i j one other at at' same = apart i j (who one) (who other) (member_at clients i one at) (member_at clients j other at') same

  -- if two clients have the same number, the clients are not apart
  pub not_apart : (clients : List A) → (HaveOwnNumbers who clients → ⊥) → ¬ AreApart (map who clients)
  not_apart clients none apart = none (own_numbers clients apart)

  -- if these are not all clients, either they are not as many as were made, or they are not apart
  pub not_all : (clients : List A) (made : ℕ) → (length clients ≡ made → HaveOwnNumbers who clients → ⊥) → (length (map who clients) ≢ made) ⊎ (¬ AreApart (map who clients))
  not_all clients made none = by (length clients == made) refl
    where
      same : length (map who clients) ≡ length clients
      same = length-map clients who

      by : (b : Bool) → (length clients == made) ≡ b → (length (map who clients) ≢ made) ⊎ (¬ AreApart (map who clients))
      by true e = inr (λ apart. none (eqb-true (length clients) made e) (own_numbers clients apart))
      by false e = inl (λ many. let d : false ≡ true = sym e ∙ eq-eqb (length clients) made (sym same ∙ many) in cc)
