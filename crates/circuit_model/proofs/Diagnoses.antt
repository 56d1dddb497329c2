-- Reiter's theorem for circuits.
use Rattle.std.proofs.Common.{◌≡◌, ℕ, zero, suc, inl, inr, IsTrue, refl, sym, ap, ◌∙◌, List, length, Some, None}
use Rattle.std.specs.Option.{option_map}
use Rattle.std.proofs.lemmas.Option.{same_Some}
use Rattle.circuit_model.specs.declared.model.Cell.{Cell}
use Rattle.circuit_model.specs.declared.model.Fact.{Fact}
use Rattle.circuit_model.specs.declared.model.Instance.{Instance}
use Rattle.circuit_model.specs.declared.model.Assumption.{Assumption}
use Rattle.circuit_model.specs.declared.model.Assumption.TheVariants.{Part, Reading}
use Rattle.circuit_model.specs.Closure.{fact, Holds}
use Rattle.environment_sets.specs.Sets.{Set, ◌⊆◌, IsMinimal, IsBelow, IsMinimalHittingSet}
use Rattle.environment_sets.proofs.Hitting.{hitting_alike}
use Rattle.circuit_model.specs.Stock.{IsChosen}
use Rattle.circuit_model.specs.Diagnoses.{Circuit, Place, AtPart, AtCell, stock_of, with_readings, AreRefuted, IsConflict, IsDiagnosis, DiagnosesAreHittingSets, ReadingsAreConsistent}
use Rattle.circuit_model.proofs.Monotony.{IsRefutedBy-more}
use Rattle.circuit_model.proofs.Reiter.{diagnosis-hits, hits-diagnosis}

more_with_readings : (P : Circuit) (E F : Set ℕ) → E ⊆ F → with_readings P E ⊆ with_readings P F
more_with_readings P E F within (AtPart i) h = within i h
more_with_readings P E F within (AtCell c) h = h

pub AreRefuted-more : (P : Circuit) (E F : Set ℕ) → E ⊆ F → AreRefuted P E → AreRefuted P F
AreRefuted-more P E F within h = IsRefutedBy-more (stock_of P) _ _ (more_with_readings P E F within) h

module _ (P : Circuit) where
  abbrev IsSmallestClash : Set ℕ → Type 0
  IsSmallestClash C = IsBelow (length P.parts) C × IsMinimal (AreRefuted P) C

  small : (C : Set ℕ) → IsConflict P C → IsSmallestClash C
  small C h = (h.positions, h.minimal)

  conflict : (C : Set ℕ) → IsSmallestClash C → IsConflict P C
  conflict C h = record { positions = h.0; minimal = h.1 }

pub diagnoses_are_hitting_sets : DiagnosesAreHittingSets
diagnoses_are_hitting_sets P D = (
  λ (h : IsDiagnosis P D). (h.positions, hitting_alike (IsSmallestClash P) (IsConflict P) (conflict P) (small P) D (diagnosis-hits (AreRefuted P) (AreRefuted-more P) (length P.parts) D h.minimal)),
  λ (h : IsBelow (length P.parts) D × IsMinimalHittingSet (IsConflict P) D). record {
    positions = h.0;
    minimal = hits-diagnosis (AreRefuted P) (AreRefuted-more P) (length P.parts) D (hitting_alike (IsConflict P) (IsSmallestClash P) (small P) (conflict P) D h.1);
  },
)

-- with no component assumed, only readings hold
module _ (A : Assumption → Type 0) (none : (part : List Instance) → A (Part part) → ⊥) where
  only_readings : (n : ℕ) (f : Fact) → Holds A n f → A (Reading f)
  only_readings zero f h = h
  only_readings (suc n) f (inl h) = only_readings n f h
  only_readings (suc n) f (inr h) = absurd (none _ h.assumed)

Reading-injective : {f g : Fact} → Some (Reading f) ≡ Some (Reading g) → f ≡ g
Reading-injective e = cc

module _ (P : Circuit) where
  same_reading : (c d : Cell) (v w : ℕ) → P.reading_at d ≡ Some w → Some (Reading (fact d w)) ≡ Some (Reading (fact c v)) → P.reading_at c ≡ Some v
  same_reading c d v w r e =
      let facts : fact d w ≡ fact c v = Reading-injective e in
      let cells : d ≡ c = ap (λ (f : Fact). f.cell) facts in
      let words : w ≡ v = ap (λ (f : Fact). f.value) facts in
      cc

module _ (P : Circuit) (C : Set ℕ) (empty : (k : ℕ) → IsTrue (C k) → ⊥) where
  part_at : (part : List Instance) (k : Place) → IsTrue (with_readings P C k) → stock_of P k ≡ Some (Part part) → ⊥
  part_at part (AtPart i) h e = empty i h
  part_at part (AtCell d) h e =
      elim (P.reading_at d) as (λ x. option_map (λ v. Reading (fact d v)) x ≡ Some (Part part) → ⊥) [ None ↦ λ x. cc | Some w ↦ λ x. cc ] e

  chosen_part : (part : List Instance) → IsChosen (stock_of P) (with_readings P C) (Part part) → ⊥
  chosen_part part h = part_at part h.name h.chosen h.named

  word_at : (c : Cell) (v : ℕ) (k : Place) → IsTrue (with_readings P C k) → stock_of P k ≡ Some (Reading (fact c v)) → P.reading_at c ≡ Some v
  word_at c v (AtPart i) h e = absurd (empty i h)
  word_at c v (AtCell d) h e =
      elim (P.reading_at d) as (λ x. P.reading_at d ≡ x → option_map (λ w. Reading (fact d w)) x ≡ Some (Reading (fact c v)) → P.reading_at c ≡ Some v) [
        | None ↦ λ _ x. cc
        | Some w ↦ λ r x. same_reading P c d v w r x
      ] refl e

  chosen_reading : (c : Cell) (v : ℕ) → IsChosen (stock_of P) (with_readings P C) (Reading (fact c v)) → P.reading_at c ≡ Some v
  chosen_reading c v h = word_at c v h.name h.chosen h.named

pub readings_are_consistent : ReadingsAreConsistent
readings_are_consistent P C empty (n, inl two) =
    let A : Assumption → Type 0 = IsChosen (stock_of P) (with_readings P C) in
    let low = chosen_reading P C empty two.cell two.low (only_readings A (chosen_part P C empty) n _ two.low_holds) in
    let high = chosen_reading P C empty two.cell two.high (only_readings A (chosen_part P C empty) n _ two.high_holds) in
    two.differ (same_Some two.low two.high (sym low ∙ high))
readings_are_consistent P C empty (n, inr refuted) = chosen_part P C empty _ refuted.assumed
