-- Where nothing is due and nothing waits, what is kept is settled.
use Rattle.std.proofs.Common.{ℕ, Some, None}
use Rattle.circuit_model.specs.declared.model.Fact.{Fact}
use Rattle.environment_sets.specs.Sets.{Set}
use Rattle.circuit_model.specs.Stock.{Stock}
use Rattle.circuit_model.specs.Settled.{IsSettled, AreExact}
use Rattle.circuit_model.proofs.Settled as settled_is
use Rattle.propagation.specs.Propagating.{Target, Family, RecordedInference, IsSound, All, AreRecorded, AreCarriedOut}
use Rattle.propagation.proofs.LeadingBack as ends

module _
    (S : Stock ℕ) (met : Fact → Type 0) (kept : Family) (recorded : RecordedInference → Type 0) (pending : Family) (waits : RecordedInference → Fact → Set ℕ → Type 0)
    (sound : IsSound S kept) (are : AreRecorded S met All recorded) (carried : AreCarriedOut S kept recorded pending waits)
    (were_met : (f : Fact) (E : Set ℕ) → kept (Some f) E → met f)
    (none_due : (t : Target) (E : Set ℕ) → pending t E → ⊥)
    (nothing_waits : (j : RecordedInference) (f : Fact) (E : Set ℕ) → waits j f E → ⊥)
  where
    pub settled : IsSettled S (λ f. kept (Some f)) (kept None)
    settled = record {
      environments = λ f. sound.environments (Some f);
      sound = λ f. sound.sound (Some f);
      nogood_environments = sound.environments None;
      nogood_sound = sound.sound None;
      antichain = λ f. sound.antichain (Some f);
      nogood_antichain = sound.antichain None;
      clean = sound.clean;
      readings = λ k f E named inside. ends.reached S met kept recorded pending waits are carried were_met none_due nothing_waits E (Some f) (carried.readings k f E named inside);
      forced = λ k part instance known p v c E named inside of_part held at forces.
          ends.forced_reached S met kept recorded pending waits are carried were_met none_due nothing_waits E k part instance known p v c named inside of_part held at forces;
      refuted = λ k part instance known E named inside of_part held refutes.
          ends.refuted_reached S met kept recorded pending waits are carried were_met none_due nothing_waits E k part instance known named inside of_part held refutes;
      two_words = λ c v w E differ low high. ends.clash_of_two S met kept recorded pending waits are carried were_met none_due nothing_waits E c v w differ low high;
    }

    pub exact : AreExact S (λ f. kept (Some f)) (kept None)
    exact = settled_is.exact S (λ f. kept (Some f)) (kept None) settled
