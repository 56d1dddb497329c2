-- A fact is met: with the inferences that use it, all are recorded.
use Rattle.std.proofs.Common.{◌≡◌, ℕ, ◌⊎◌, inl, inr, sym, ap, List, Option}
use Rattle.circuit_model.specs.declared.model.Cell.{Cell}
use Rattle.circuit_model.specs.declared.model.Fact.{Fact}
use Rattle.circuit_model.specs.Closure.{AreHeld}
use Rattle.circuit_model.specs.Stock.{Stock}
use Rattle.circuit_model.proofs.Settled.{ports}
use Rattle.propagation.specs.Propagating.{Target, RecordedInference, IsKnownAt, HasInference, All, Using, AreRecorded}

-- the fact is used, or the others suffice
used_or_not : (met met' : Fact → Type 0) (f : Fact) → ((g : Fact) → met' g → met g ⊎ (g ≡ f)) → (cells : List Cell) (known : List (Option ℕ)) → AreHeld met' cells known → AreHeld met cells known ⊎ IsKnownAt cells known f
used_or_not met met' f split cells known h =
    elim (ports (IsKnownAt cells known f) met cells known (λ p v c w at. elim (split _ (h.held p v c w at)) [
      | inl a ↦ inl a
      | inr e ↦ inr (record { port = p; word = let value : v ≡ f.value = ap (λ (x : Fact). x.value) e in rw (← value) w; cell = let cell : c ≡ f.cell = ap (λ (x : Fact). x.cell) e in rw (← cell) at })
    ])) [
      | inl all ↦ inl (record { wide = h.wide; held = all; alike = h.alike })
      | inr used ↦ inr used
    ]

module _
    (S : Stock ℕ) (met met' : Fact → Type 0) (f : Fact) (split : (g : Fact) → met' g → met g ⊎ (g ≡ f)) (recorded found recorded' : RecordedInference → Type 0)
    (are : AreRecorded S met All recorded) (more : (j : RecordedInference) → recorded j → recorded' j) (more_found : (j : RecordedInference) → found j → recorded' j)
    (only : (j : RecordedInference) → recorded' j → recorded j ⊎ found j) (new : AreRecorded S (λ g. met g ⊎ (g ≡ f)) (Using f) found)
  where
    held_split : (cells : List Cell) (known : List (Option ℕ)) → AreHeld met' cells known → AreHeld (λ g. met g ⊎ (g ≡ f)) cells known
    held_split cells known h = record { wide = h.wide; held = λ p v c a b. split _ (h.held p v c a b); alike = h.alike }

    before : (to : Target) (maker : Option ℕ) (known : Fact → Type 0) → HasInference recorded to maker known → HasInference recorded' to maker known
    before to maker known j = (j.0, more j.0 j.1, j.2, j.3, j.4)

    now : (to : Target) (maker : Option ℕ) (known : Fact → Type 0) → HasInference found to maker known → HasInference recorded' to maker known
    now to maker known j = (j.0, more_found j.0 j.1, j.2, j.3, j.4)

    pub recorded_met : AreRecorded S met' All recorded'
    recorded_met = record {
      leads = λ j r. elim (only j r) [ inl o ↦ are.leads j o | inr n ↦ new.leads j n ];
      forced = λ k part instance known p v c named of_part _ held at forces. elim (used_or_not met met' f split instance.cells known held) [
        | inl suffice ↦ before _ _ _ (are.forced k part instance known p v c named of_part tt suffice at forces)
        | inr used ↦ now _ _ _ (new.forced k part instance known p v c named of_part used (held_split instance.cells known held) at forces)
      ];
      refuted = λ k part instance known named of_part _ held refutes. elim (used_or_not met met' f split instance.cells known held) [
        | inl suffice ↦ before _ _ _ (are.refuted k part instance known named of_part tt suffice refutes)
        | inr used ↦ now _ _ _ (new.refuted k part instance known named of_part used (held_split instance.cells known held) refutes)
      ];
      two_words = λ c v w differ _ low high. elim (split _ low) [
        | inl l ↦ elim (split _ high) [
          | inl h ↦ before _ _ _ (are.two_words c v w differ tt l h)
          | inr e ↦ now _ _ _ (new.two_words c v w differ (inr (sym e)) (inl l) (inr e))
        ]
        | inr e ↦ now _ _ _ (new.two_words c v w differ (inl (sym e)) (inr e) (split _ high))
      ];
    }
