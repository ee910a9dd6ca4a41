-- A break is a cut at which the run goes wrong.
use Rattle.std.proofs.Common.{◌≡◌, ℕ, zero, suc, List, Option, Some, None, refl, ap}
use Rattle.cc_simulation.specs.Behavior.{Wrong}
use Rattle.cc_simulation.specs.World.{Question, Answer, Effect, Gives, Unfinished, Failed}
use Rattle.cc_simulation.specs.Run.{Move, Goes, Calls, Returns, Fails, run, act, resumed}
use Rattle.cc_cminor_language.specs.Breaks.{broken, broken_act, broken_resumed}

module _ {C : Type 0} (move : C → Move C) (output : C → List ℕ) (effect : ℕ → Question → Effect) where
  -- a run that breaks within k moves goes wrong there, with this output
  abbrev AreWrong : (k : ℕ) → List ℕ → Type 0
  AreWrong k o = (j : ℕ) (c : C) → broken move output effect k j c ≡ Some o → run move output effect k j c ≡ record { stop = Wrong; output = o }

  wrong_resumed : (k : ℕ) (o : List ℕ) (resume : Answer → C) (e : Effect) → AreWrong k o → broken_resumed e resume (broken move output effect k) ≡ Some o → resumed e resume (run move output effect k) ≡ record { stop = Wrong; output = o }
  wrong_resumed k o resume (Gives a left) h e = h left (resume a) e
  wrong_resumed k o resume (Unfinished p) h e = absurd (cc)
  wrong_resumed k o resume (Failed p) h e = absurd (cc)

  wrong_at : (k j : ℕ) (o : List ℕ) (c : C) (m : Move C) → AreWrong k o → broken_act effect m (output c) j (broken move output effect k) ≡ Some o → act effect m (output c) j (run move output effect k) ≡ record { stop = Wrong; output = o }
  wrong_at k j o c (Goes d) h e = h j d e
  wrong_at k j o c (Calls q resume) h e = wrong_resumed k o resume (effect j q) h e
  wrong_at k j o c (Returns r) h e = absurd (cc)
  wrong_at k j o c Fails h e = let same : output c ≡ o = cc in ap (λ p. record { stop = Wrong; output = p }) same

  pub broken_is_wrong : (k : ℕ) (o : List ℕ) → AreWrong k o
  broken_is_wrong zero o j c e = absurd (cc)
  broken_is_wrong (suc k) o j c e = wrong_at k j o c (move c) (broken_is_wrong k o) e
