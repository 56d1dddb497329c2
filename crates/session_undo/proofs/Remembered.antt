-- What a session remembers, told by its presents.
use Rattle.std.proofs.Common.{◌≡◌, ◌⊎◌, inl, inr, true, false, List, refl}
use Rattle.std.proofs.lemmas.Bool.{both_ways}
use Rattle.circuit_model.specs.declared.model.Fact.{Fact}
use Rattle.circuit_model.specs.Present.{PresentView, IsLawful}
use Rattle.present_history.specs.declared.undoing.Undoing.{Undoing}
use Rattle.present_history.specs.Earlier.{measures, some_measures, earlier_of}
use Rattle.present_history.proofs.Earlier.{retracted_earlier, stood_or_retracted}
use Rattle.present_history.proofs.Standing.{IsIn-measured, measured-IsIn}
use Rattle.standing_changes.specs.Remembered.{IsRemembered}
use Rattle.standing_changes.specs.declared.remembered.Remembered.{Remembered}
use Rattle.standing_changes.proofs.Parked.{remembered_readings}
use Rattle.session_undo.specs.Remembering.{parked, IsKept, Remembers}
use Rattle.session_undo.proofs.Parked.{aside, is_parked}

module _ (s : PresentView) (us : List Undoing) (r : Remembered) (lawful : IsLawful s) (kept : IsKept s us r) where
  -- it stands in the present or in an earlier one
  abbrev Stood : Fact → Type 0
  Stood f = (measures s f ≡ true) ⊎ (some_measures (earlier_of s us) f ≡ true)

  stood : (f : Fact) → IsRemembered r f → Stood f
  stood f h = elim ((remembered_readings r s (parked s us) kept.stands f).0 h) [
    | inl listed ↦ inl (measured-IsIn s f lawful listed)
    | inr out ↦ inr (retracted_earlier s us kept.each f (aside s us f out).out)
  ]

  pub remembered : (f : Fact) → Stood f → IsRemembered r f
  remembered f (inl now) = (remembered_readings r s (parked s us) kept.stands f).1 (inl (IsIn-measured s f now))
  remembered f (inr before) = elim (stood_or_retracted s us lawful f before) [
    | inl now ↦ (remembered_readings r s (parked s us) kept.stands f).1 (inl (IsIn-measured s f now))
    | inr out ↦ elim (measures s f) as (λ b. measures s f ≡ b → IsRemembered r f) [
      | true ↦ λ now. (remembered_readings r s (parked s us) kept.stands f).1 (inl (IsIn-measured s f now))
      | false ↦ λ gone. (remembered_readings r s (parked s us) kept.stands f).1 (inr (is_parked s us f (record { out = out; gone = both_ways (measures s f) gone })))
    ] refl
  ]

  pub remembers : Remembers r (record { present = s; earlier = earlier_of s us })
  remembers = record { aside = parked s us; stands = kept.stands; exact = λ f. (stood f, remembered f) }
