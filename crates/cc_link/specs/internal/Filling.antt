-- When items can be filled in, with the places of the functions as a list.
use Rattle.std.specs.Prelude.{ℕ, ◌+◌, ◌*◌, ◌<◌, ◌≤◌, List, [], ◌∷◌, length, map, slice_index}
use Rattle.std.specs.Borrow.{Bor}
use Rattle.cc_emit.specs.declared.item.PieceItem.{PieceItem}
use Rattle.cc_emit.specs.declared.item.PieceItem.TheVariants.{Plain, Call, Go}
use Rattle.cc_emit.specs.Contract.{IsPlace}

-- the lists that are lent
abbrev pub lent : List (Bor (List PieceItem)) → List (List PieceItem)
lent bodies = map (λ (b : Bor (List PieceItem)). b.now) bodies

-- an item of a function with `long` items leads to one of the `functions` functions, or to an item or the end of its own function
abbrev pub StaysIn : (functions long : ℕ) → PieceItem → Type 0
StaysIn functions long (Plain i) = Unit {0}
StaysIn functions long (Call f) = f < functions
StaysIn functions long (Go n) = n ≤ long

abbrev pub StayIn : (functions long : ℕ) → List PieceItem → Type 0
StayIn functions long [] = Unit {0}
StayIn functions long (i ∷ is) = StaysIn functions long i × StayIn functions long is

abbrev pub AllStayIn : (functions : ℕ) → List (List PieceItem) → Type 0
AllStayIn functions [] = Unit {0}
AllStayIn functions (f ∷ fs) = StayIn functions (length f) f × AllStayIn functions fs

-- each of these is a valid place
abbrev pub ArePlaces : List ℕ → Type 0
ArePlaces places = (f : ℕ) → f < length places → IsPlace (slice_index places f)

-- a call or a jump of this item leads to a valid place
abbrev pub Leads : (places : List ℕ) (place : ℕ) → PieceItem → Type 0
Leads places place (Plain i) = Unit {0}
Leads places place (Call f) = (f < length places) × IsPlace (slice_index places f)
Leads places place (Go n) = IsPlace (place + 4 * n)

-- the items can be at this place: this place and the one after the last item are valid, and each item stays in its function
pub record CanStand (functions place : ℕ) (items : List PieceItem) : Type 0 where
  pub from : IsPlace place
  pub to : IsPlace (place + 4 * length items)
  pub stay : StayIn functions (length items) items

-- the places of functions, the first at the address a
abbrev pub places_from : (a : ℕ) → List (List PieceItem) → List ℕ
places_from a [] = []
places_from a (f ∷ fs) = a ∷ places_from (a + 4 * length f) fs

-- all the functions can be in order at their places, the first at the address a
abbrev pub CanAllStand : (functions a : ℕ) → List (List PieceItem) → Type 0
CanAllStand functions a [] = Unit {0}
CanAllStand functions a (f ∷ fs) = CanStand functions a f × CanAllStand functions (a + 4 * length f) fs
