-- What valid derivations name is in the present.
use Rattle.std.proofs.Common.{◌≡◌, ℕ, suc, ◌<◌, inl, inr, List, [], ◌∷◌, length, map, slice_get, Option, Some, None, sym, ap, subst}
use Rattle.std.proofs.lemmas.Option.{get_or_from_slice_get, slice_get_within}
use Rattle.environment_sets.specs.Lists.{IsIn}
use Rattle.environment_sets.specs.Sets.{Set}
use Rattle.environment_sets.proofs.Membership.{IsIn-slice_get, IsIn-map}
use Rattle.circuit_model.specs.declared.model.Assumption.TheVariants.{Reading}
use Rattle.circuit_model.specs.declared.model.Cell.{Cell}
use Rattle.circuit_model.specs.declared.model.Fact.{Fact}
use Rattle.circuit_model.specs.declared.model.Instance.{Instance}
use Rattle.circuit_model.specs.Closure.{fact}
use Rattle.circuit_model.specs.Derivation.{Justification, by_instance, Step, Measured, Inferred, Ending, Holds, TwoValues, Refuted, Goal, Value, Clash, fact_of, facts_at, IsAssumed, IsOfInstance, AreValidAfter, IsValidStep, IsValidEnding}
use Rattle.circuit_model.specs.Diagnoses.{Place}
use Rattle.circuit_model.specs.Present.{PresentView, IsLawful, IsFactOf, circuit_of}
use Rattle.circuit_model.proofs.Readings as readings
use Rattle.proof_check.proofs.Assumed.{HasReading, reading_assumed}
use Rattle.proof_check.proofs.Fitting.{IsAtPosition, component_at}
use Rattle.proof_check.proofs.Instances.{AreCells, cells_of}
use Rattle.answer_text.specs.Derivations.{HasNet, AreNamed, IsNamedStep, IsNamedEnding}
use Rattle.answer_text.specs.Laws.{ValidDerivationsCanBeWritten}

-- a fact at known words is at one of the cells
at_cells : (cells : List Cell) (known : List (Option ℕ)) (f : Fact) → IsIn (facts_at cells known) f → (port : ℕ) × (slice_get cells port ≡ Some f.cell)
at_cells [] known f h = absurd h
at_cells (c ∷ cells) [] f h = absurd h
at_cells (c ∷ cells) (None ∷ known) f h = let r : (port : ℕ) × (slice_get cells port ≡ Some f.cell) = at_cells cells known f h in (suc r.0, r.1)
at_cells (c ∷ cells) (Some v ∷ known) f (inl e) = (0, ap (λ (g : Fact). Some g.cell) e)
at_cells (c ∷ cells) (Some v ∷ known) f (inr h) = let r : (port : ℕ) × (slice_get cells port ≡ Some f.cell) = at_cells cells known f h in (suc r.0, r.1)

module _ (s : PresentView) (lawful : IsLawful s) (E : Set Place) where
  measured_named : (f : Fact) → IsAssumed (circuit_of s) E (Reading f) → HasNet s f
  measured_named f h =
      let has : HasReading (circuit_of s) E f = reading_assumed (circuit_of s) E f h in
      let r : readings.Measured s.readings f.cell f.value = readings.measured_at s.readings f.cell f.value has.there in
      let is_fact : IsFactOf s r.1 = subst (λ (g : Fact). IsFactOf s g) (get_or_from_slice_get s.readings r.0 r.1 r.1 r.2) (lawful.each_reading r.0 r.1 (slice_get_within s.readings r.0 r.1 r.2)) in
      subst (λ (c : Cell). c.net < length s.nets) r.3 is_fact.net

  module _ (j : Justification) (instance : Instance) (known : List (Option ℕ)) (is : IsOfInstance (circuit_of s) E j instance known) where
    cells_named : AreCells s instance.cells instance.widths
    cells_named =
        let c : IsAtPosition s j.part is.part = component_at s j.part is.part is.at_position in
        cells_of s lawful j.part c.component c.there instance (subst (λ (p : List Instance). IsIn p instance) (sym c.part) (IsIn-slice_get is.part j.instance instance is.at_place))

    justification_named : AreNamed s j.part j.from
    justification_named = record {
      part = let c : IsAtPosition s j.part is.part = component_at s j.part is.part is.at_position in slice_get_within s.parts j.part c.component c.there;
      facts = λ f h.
          let r : (port : ℕ) × (slice_get instance.cells port ≡ Some f.cell) = at_cells instance.cells known f (subst (λ (fs : List Fact). IsIn fs f) is.from h) in
          cells_named.at_nets r.0 f.cell r.1;
    }

  step_named : (earlier : List Fact) (t : Step) → IsValidStep (circuit_of s) E earlier t → IsNamedStep s t
  step_named earlier (Measured f) h = measured_named f h
  step_named earlier (Inferred f part instance ports from) h =
      let j : Justification = by_instance part instance ports from in
      ((cells_named j h.instance h.known h.of_instance).at_nets h.port f.cell h.at, justification_named j h.instance h.known h.of_instance)

  steps_named : (earlier : List Fact) (steps : List Step) → AreValidAfter (circuit_of s) E earlier steps → (t : Step) → IsIn steps t → IsNamedStep s t
  steps_named earlier [] valid t h = absurd h
  steps_named earlier (u ∷ steps) valid t (inl e) = subst (λ (t : Step). IsNamedStep s t) e (step_named earlier u valid.0)
  steps_named earlier (u ∷ steps) valid t (inr h) = steps_named (fact_of u ∷ earlier) steps valid.1 t h

  -- so is the fact of a step
  fact_named : (t : Step) → IsNamedStep s t → HasNet s (fact_of t)
  fact_named (Measured f) h = h
  fact_named (Inferred f part instance ports from) h = h.0

  shown_named : (steps : List Step) → ((t : Step) → IsIn steps t → IsNamedStep s t) → (f : Fact) → IsIn (map fact_of steps) f → HasNet s f
  shown_named steps named f h =
      let t : (t : Step) × IsIn steps t × (fact_of t ≡ f) = IsIn-map fact_of steps f h in
      subst (λ (f : Fact). HasNet s f) t.2 (fact_named t.0 (named t.0 t.1))

  ending_named : (shown : List Fact) → ((f : Fact) → IsIn shown f → HasNet s f) → (goal : Goal) (e : Ending) → IsValidEnding (circuit_of s) E shown goal e → IsNamedEnding s e
  ending_named shown named goal Holds h = tt
  ending_named shown named (Value f) (TwoValues c low high) h = absurd h
  ending_named shown named Clash (TwoValues c low high) h = named (fact c low) h.1
  ending_named shown named (Value f) (Refuted part instance ports from) h = absurd h
  ending_named shown named Clash (Refuted part instance ports from) h = justification_named (by_instance part instance ports from) h.instance h.known h.of_instance

pub valid_derivations_can_be_written : ValidDerivationsCanBeWritten
valid_derivations_can_be_written s lawful E goal d valid =
    let steps : (t : Step) → IsIn d.steps t → IsNamedStep s t = steps_named s lawful E [] d.steps valid.steps in
    record { steps = steps; ending = ending_named s lawful E (map fact_of d.steps) (shown_named s lawful E d.steps steps) goal d.ending valid.ending }
