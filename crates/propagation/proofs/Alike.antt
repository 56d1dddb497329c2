-- Families that hold the same sets are settled alike.
use Rattle.std.proofs.Common.{◌⊎◌, ℕ, inl, inr, ◌↔◌, Some, None}
use Rattle.circuit_model.specs.Closure.{fact}
use Rattle.environment_sets.specs.Sets.{Set}
use Rattle.circuit_model.specs.Stock.{Stock}
use Rattle.environment_sets.specs.Families.{IsCovered}
use Rattle.circuit_model.specs.Settled.{IsSettled}
use Rattle.circuit_model.proofs.Monotony.{AreHeld-map}
use Rattle.propagation.specs.Propagating.{Target, Family}

module _ (S : Stock ℕ) (old new : Family) (same : (t : Target) (E : Set ℕ) → old t E ↔ new t E) where
  covered_to : (t : Target) (E : Set ℕ) → IsCovered (old t) E → IsCovered (new t) E
  covered_to t E c = (c.0, (same t c.0).0 c.1, c.2)

  covered_from : (t : Target) (E : Set ℕ) → IsCovered (new t) E → IsCovered (old t) E
  covered_from t E c = (c.0, (same t c.0).1 c.1, c.2)

  either_to : (t : Target) (E : Set ℕ) → IsCovered (old t) E ⊎ IsCovered (old None) E → IsCovered (new t) E ⊎ IsCovered (new None) E
  either_to t E (inl c) = inl (covered_to t E c)
  either_to t E (inr c) = inr (covered_to None E c)

  pub settled_alike : IsSettled S (λ f. old (Some f)) (old None) → IsSettled S (λ f. new (Some f)) (new None)
  settled_alike s = record {
    environments = λ f E k. s.environments f E ((same (Some f) E).1 k);
    sound = λ f E k. s.sound f E ((same (Some f) E).1 k);
    nogood_environments = λ E k. s.nogood_environments E ((same None E).1 k);
    nogood_sound = λ E k. s.nogood_sound E ((same None E).1 k);
    antichain = λ f E F e g within. s.antichain f E F ((same (Some f) E).1 e) ((same (Some f) F).1 g) within;
    nogood_antichain = λ E F e g within. s.nogood_antichain E F ((same None E).1 e) ((same None F).1 g) within;
    clean = λ f E g e n within. s.clean f E g ((same (Some f) E).1 e) ((same None g).1 n) within;
    readings = λ k f E named inside. either_to (Some f) E (s.readings k f E named inside);
    forced = λ k part instance known p v c E named inside of_part held at forces. either_to (Some (fact c v)) E (s.forced k part instance known p v c E named inside of_part (AreHeld-map (λ f h. covered_from (Some f) E h) held) at forces);
    refuted = λ k part instance known E named inside of_part held refutes. covered_to None E (s.refuted k part instance known E named inside of_part (AreHeld-map (λ f h. covered_from (Some f) E h) held) refutes);
    two_words = λ c v w E differ low high. covered_to None E (s.two_words c v w E differ (covered_from (Some (fact c v)) E low) (covered_from (Some (fact c w)) E high));
  }
