-- Pieces that meet their contracts make an image that does what the source's calls do.
use Rattle.std.proofs.Common.{◌≡◌, ℕ, zero, suc, ◌+◌, ◌*◌, ◌<◌, ◌≤◌, List, length, refl, sym, ap, ◌∙◌, subst, arith}
use Rattle.std.proofs.Math.Nat.{one-le-mul, mul-le-mul_right}
use Rattle.cc_rv32.specs.Machine.{State}
use Rattle.cc_simulation.specs.World.{Size, World, Effect, Gives, Unfinished, Failed}
use Rattle.cc_simulation.specs.Meaning.{Meaning}
use Rattle.cc_emit.specs.declared.item.PieceItem.{PieceItem}
use Rattle.cc_emit.specs.Contract.{Code, ObjectLayout, Placed, Meets, CallsMeet, IsEnough, IsPlace, PieceMeets}

-- the rate of a call if this many more calls may be open
unfoldable pub power : ℕ → ℕ → ℕ
power rate zero = 1
power rate (suc k) = suc rate * power rate k

-- the piece of every function, at its place
pub record Pieces (meaning : Meaning) (layout : ObjectLayout meaning.objects) (rate : ℕ) (code : Code) (places : ℕ → ℕ) : Type 0 where
  pub items : ℕ → List PieceItem
  pub frames : ℕ → ℕ
  pub meets : (f : ℕ) → f < meaning.functions → PieceMeets meaning layout f (frames f) rate (items f)
  pub enough : (f : ℕ) → f < meaning.functions → IsEnough code.need f (frames f) (items f)
  pub placed : (f : ℕ) → f < meaning.functions → Placed code places (places f) (places f) (items f)
  pub from : (f : ℕ) → f < meaning.functions → IsPlace (places f)
  pub to : (f : ℕ) → f < meaning.functions → IsPlace (places f + 4 * length (items f))

one_le_power : (rate k : ℕ) → 1 ≤ power rate k
unfolding power
one_le_power rate zero = omega arith
one_le_power rate (suc k) = let r : 1 ≤ suc rate = omega arith in one-le-mul r (one_le_power rate k)

-- if a body meets its contract, its call meets the contract with one more step, since the call's jump pays for
-- that step
paid : (o : List Size) (y : ObjectLayout o) (code : Code) (rate c n : ℕ) (s : State) (e : Effect) → 1 ≤ c → Meets y code (rate * c) (rate * c) n s e → Meets y code (suc rate * c) (suc rate * c) (suc n) s e
paid o y code rate c n s (Gives a left) h (m, t, p, r, b) = (m, t, p, r, let f : suc rate * c ≡ rate * c + c = omega arith in let i : (rate * c) * m ≤ (suc rate * c) * m = mul-le-mul_right m (omega arith) in omega arith)
paid o y code rate c n s (Unfinished p) h (m, t, q, r, b) = (m, t, q, r, let f : suc rate * c ≡ rate * c + c = omega arith in let i : (rate * c) * m ≤ (suc rate * c) * m = mul-le-mul_right m (omega arith) in omega arith)
paid o y code rate c n s (Failed p) h x = tt

-- code that meets a contract at one rate meets it at every higher rate
slower : (o : List Size) (y : ObjectLayout o) (code : Code) (c e n : ℕ) (s : State) (x : Effect) → c ≤ e → Meets y code c c n s x → Meets y code e e n s x
slower o y code c e n s (Gives a left) h (m, t, p, r, b) = (m, t, p, r, let i : c * m ≤ e * m = mul-le-mul_right m h in omega arith)
slower o y code c e n s (Unfinished p) h (m, t, q, r, b) = (m, t, q, r, let i : c * m ≤ e * m = mul-le-mul_right m h in omega arith)
slower o y code c e n s (Failed p) h x = tt

pub slower_piece : (meaning : Meaning) (layout : ObjectLayout meaning.objects) (f frame rate other : ℕ) (items : List PieceItem) → rate ≤ other → PieceMeets meaning layout f frame rate items → PieceMeets meaning layout f frame other items
slower_piece meaning layout f frame rate other items le piece code places place a b p enough at d c below one calls ws h s n enters =
    slower meaning.objects layout code (rate * c) (other * c) n s _ (mul-le-mul_right c le) (piece code places place a b p enough at d c below one calls ws h s n enters)

module _ (meaning : Meaning) (layout : ObjectLayout meaning.objects) (rate : ℕ) (code : Code) (places : ℕ → ℕ) (pieces : Pieces meaning layout rate code places) where
  -- if no step is left, the contract is met without any move
  idle : (c : ℕ) (s : State) (h : World) (e : Effect) → s.output ≡ h.output → e ≡ Unfinished h.output → Meets layout code c c 0 s e
  idle c s h e o u = subst (Meets layout code c c 0 s) (sym u) (0, s, refl, o, omega arith)

  lost : (c n : ℕ) (s : State) (o : List ℕ) (e : Effect) → e ≡ Failed o → Meets layout code c c n s e
  lost c n s o e u = subst (Meets layout code c c n s) (sym u) tt

  -- calls meet their contracts, by induction on the number of calls still allowed
  pub calls_meet : (k d : ℕ) → d + k ≡ 1024 → CallsMeet meaning layout code places (power rate k) d
  unfolding power
  calls_meet k d e g ws h s zero lt enters = idle (power rate k) s h _ enters.shares.output (meaning.none_left d g ws h lt)
  calls_meet zero d e g ws h s (suc n) lt enters =
      let f : d ≡ 1024 = omega arith in
      lost 1 (suc n) s h.output _ (ap (λ x. meaning.call (suc n) x g ws h) f ∙ meaning.too_deep n g ws h lt)
  calls_meet (suc k) d e g ws h s (suc n) lt enters =
      let below : d < 1024 = omega arith in
      let next : suc d + k ≡ 1024 = omega arith in
      let p : Meets layout code (rate * power rate k) (rate * power rate k) n s (meaning.body n d g ws h) = pieces.meets g lt code places (places g) (pieces.from g lt) (pieces.to g lt) (pieces.placed g lt) (pieces.enough g lt) pieces.from d (power rate k) below (one_le_power rate k) (calls_meet k (suc d) next) ws h s n enters in
      subst (Meets layout code (power rate (suc k)) (power rate (suc k)) (suc n) s) (sym (meaning.spends n d g ws h lt below)) (paid meaning.objects layout code rate (power rate k) n s _ (one_le_power rate k) p)
