-- What supports a fact.
use Rattle.std.proofs.Common.{◌≡◌, ℕ, suc, ◌≤◌, inl, inr, slice_get, Some, refl, sym, subst, arith}
use Rattle.environment_sets.specs.Sets.{Set}
use Rattle.environment_sets.proofs.Membership.{slice_get-IsIn}
use Rattle.circuit_model.specs.declared.model.Fact.{Fact}
use Rattle.circuit_model.specs.Closure.{IsForced}
use Rattle.circuit_model.specs.Diagnoses.{Circuit, Place}
use Rattle.circuit_model.specs.Derivation.{Justification, by_instance, Step, Measured, Inferred, fact_of, number_of, facts_at, IsAssumed, HoldsAt, IsRoundOf, Justifies, IsFirst, IsSupport}
use Rattle.proof_check.proofs.Assumed.{HasPart, part_assumed}
use Rattle.explanations.specs.Forcing.{IsFirstStep}

module _ (P : Circuit) (E : Set Place) where
  -- a forced fact has a justification
  pub some_justification : (n : ℕ) (f : Fact) → IsForced (IsAssumed P E) (HoldsAt P E n) f → (j : Justification) × Justifies P E (HoldsAt P E n) f j
  some_justification n f h =
      let part : HasPart P E h.part = part_assumed P E h.part h.assumed in
      let place : (k : ℕ) × (slice_get h.part k ≡ Some h.instance) = slice_get-IsIn h.part h.instance h.of_part in (
        by_instance part.position place.0 (number_of h.known) (facts_at h.instance.cells h.known),
        record {
          instance = h.instance;
          known = h.known;
          of_instance = record { assumed = part.chosen; part = h.part; at_position = part.there; at_place = place.1; ports = refl; from = refl };
          held = h.from;
          port = h.port;
          at = h.at;
          forces = h.forces;
        },
      )

  -- so a fact of a later round is not without one
  pub never_unjustified : (n : ℕ) (f : Fact) → IsRoundOf P E f (suc n) → ((j : Justification) → Justifies P E (HoldsAt P E n) f j → ⊥) → ⊥
  never_unjustified n f round none = elim round.holds [
    | inl early ↦ let low : suc n ≤ n = round.first n early in omega arith
    | inr forced ↦ let j : (j : Justification) × Justifies P E (HoldsAt P E n) f j = some_justification n f forced in none j.0 j.1
  ]

  -- the first justification is a support
  pub first_supports : (n : ℕ) (f : Fact) → IsRoundOf P E f (suc n) → (s : Step) → IsFirstStep P E n f s → (fact_of s ≡ f) × IsSupport P E s
  first_supports n f round (Measured g) first = absurd first
  first_supports n f round (Inferred g part instance ports from) (same, first) = (
    same,
    (
      n,
      let Q : Fact → Type 0 = λ h. IsRoundOf P E h (suc n) in subst Q (sym same) round,
      let Q : Fact → Type 0 = λ h. IsFirst (Justifies P E (HoldsAt P E n) h) (by_instance part instance ports from) in subst Q (sym same) first,
    ),
  )
