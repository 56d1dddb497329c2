-- What canonical derivations name is of the present.
use Rattle.std.proofs.Common.{◌≡◌, ℕ, suc, ◌<◌, inl, inr, List, length, Some, slice_get, refl, sym, ap, subst, ◌∙◌}
use Rattle.std.proofs.lemmas.Option.{slice_get_within}
use Rattle.environment_sets.specs.Sets.{Set}
use Rattle.environment_sets.specs.Lists.{IsIn}
use Rattle.circuit_model.specs.declared.model.Cell.{Cell}
use Rattle.circuit_model.specs.declared.model.Fact.{Fact}
use Rattle.circuit_model.specs.declared.model.Instance.{Instance}
use Rattle.circuit_model.specs.declared.present.Component.{Component}
use Rattle.circuit_model.specs.Closure.{IsForced}
use Rattle.circuit_model.specs.Stock.{Has}
use Rattle.circuit_model.specs.Diagnoses.{Place}
use Rattle.circuit_model.specs.Derivation.{by_instance, Step, Measured, Inferred, Ending, Holds, TwoValues, Refuted, fact_of, facts_in_clash, IsAssumed, HoldsAt, Justifies, JustifiesClash, IsSupport, AtStart, AreStepsTo, IsClashOf}
use Rattle.circuit_model.specs.Present.{PresentView, IsLawful, IsFactOf, circuit_of}
use Rattle.circuit_model.specs.Whole.{stock}
use Rattle.circuit_model.proofs.Readings.{Measured as Reading, measured_at, IsFactOf-at}
use Rattle.circuit_model.proofs.Rounds.{Follows-within}
use Rattle.proof_check.proofs.Assumed.{HasReading, reading_assumed, part_assumed}
use Rattle.proof_check.proofs.Fitting.{IsAtPosition, component_at, cells_assumed, follows_fits}
use Rattle.proof_check.proofs.Instances.{AreCells}
use Rattle.explanations.specs.Naming.{IsInferenceOf, IsStepOf, IsEndingOf}
use Rattle.explanations.proofs.Walked.{IsBehind, behind_support}

module _ (s : PresentView) (E : Set Place) where
  -- a cell of the present
  record IsPlace (c : Cell) : Type 0 where
    net : c.net < length s.nets
    cycle : c.cycle < s.cycles

  module _ (lawful : IsLawful s) where
    reading_placed : (f : Fact) → HasReading (circuit_of s) E f → IsPlace f.cell
    reading_placed f h =
        let r : Reading s.readings f.cell f.value = measured_at s.readings f.cell f.value h.there in
        let of : IsFactOf s r.1 = IsFactOf-at s lawful r.0 r.1 r.2 in
        subst (λ (c : Cell). IsPlace c) r.3 (record { net = of.net; cycle = of.cycle })

    forced_placed : (f : Fact) → IsForced (IsAssumed (circuit_of s) E) (λ g. IsPlace g.cell) f → IsPlace f.cell
    forced_placed f h =
        let at : AreCells s h.instance.cells h.instance.widths = cells_assumed s E lawful h.part h.instance (part_assumed (circuit_of s) E h.part h.assumed) h.of_part in
        record { net = at.at_nets h.port f.cell h.at; cycle = at.at_cycles h.port f.cell h.at }

    -- what follows is a fact of the present
    pub follows_of_present : (f : Fact) → Has (stock s) f E → IsFactOf s f
    follows_of_present f h =
        let at : IsPlace f.cell = Follows-within (IsAssumed (circuit_of s) E) (λ (g : Fact). IsPlace g.cell) (record { readings = λ g a. reading_placed g (reading_assumed (circuit_of s) E g a); forced = forced_placed }) f h in
        record { net = at.net; cycle = at.cycle; fits = follows_fits s E lawful f h }

  -- the instance of a component of the present
  inference_of : (position place : ℕ) (facts : List Fact) (part : List Instance) (instance : Instance) → slice_get (circuit_of s).parts position ≡ Some part → slice_get part place ≡ Some instance → ((f : Fact) → IsIn facts f → IsFactOf s f) → IsInferenceOf s position place facts
  inference_of position place facts part instance at_position at_place each =
      let at : IsAtPosition s position part = component_at s position part at_position in
      let there = at.there in record {
        part = slice_get_within s.parts position at.component at.there;
        instance = λ c here.
            let same : at.component ≡ c = cc in
            let parts : part ≡ c.part = sym at.part ∙ ap (λ (c : Component). c.part) same in
            subst (λ (p : List Instance). place < length p) parts (slice_get_within part place instance at_place);
        from = each;
      }

  module _ (lawful : IsLawful s) where
    -- a support is a step of the present
    pub support_of_present : (st : Step) → IsSupport (circuit_of s) E st → IsStepOf s st
    support_of_present (Measured f) h = follows_of_present lawful f (0, h)
    support_of_present (Inferred f part instance ports from) (n, round, first) =
        let j : Justifies (circuit_of s) E (HoldsAt (circuit_of s) E n) f (by_instance part instance ports from) = first.holds in (
          follows_of_present lawful f (suc n, round.holds),
          inference_of part instance from j.of_instance.part j.instance j.of_instance.at_position j.of_instance.at_place (λ g at.
              let b : IsBehind s E (Inferred f part instance ports from) g = behind_support s E (Inferred f part instance ports from) (n, round, first) g at in
              follows_of_present lawful g (b.round, b.holds)),
        )

  step_fact : (st : Step) → IsStepOf s st → IsFactOf s (fact_of st)
  step_fact (Measured f) h = h
  step_fact (Inferred f part instance ports from) h = h.0

  -- the facts that steps lead to
  shown_of_present : (facts : List Fact) (steps : List Step) → AreStepsTo (circuit_of s) E facts steps → ((st : Step) → IsIn steps st → IsStepOf s st) → (f : Fact) → IsIn facts f → IsFactOf s f
  shown_of_present facts steps to each f h =
      let st : (st : Step) × IsIn steps st × (fact_of st ≡ f) = to.complete f (AtStart f h) in
      subst (λ (f : Fact). IsFactOf s f) st.2 (step_fact st.0 (each st.0 st.1))

  -- a clash whose facts they lead to is one of the present
  pub clash_of_present : (n : ℕ) (e : Ending) → IsClashOf (circuit_of s) E n e → (steps : List Step) → AreStepsTo (circuit_of s) E (facts_in_clash e) steps → ((st : Step) → IsIn steps st → IsStepOf s st) → IsEndingOf s e
  clash_of_present n Holds clash steps to each = tt
  clash_of_present n (TwoValues c low high) clash steps to each = (
    shown_of_present (facts_in_clash (TwoValues c low high)) steps to each _ (inl refl),
    shown_of_present (facts_in_clash (TwoValues c low high)) steps to each _ (inr (inl refl)),
  )
  clash_of_present n (Refuted part instance ports from) clash steps to each =
      let j : JustifiesClash (circuit_of s) E (HoldsAt (circuit_of s) E n) (by_instance part instance ports from) = clash.1.holds in
      inference_of part instance from j.of_instance.part j.instance j.of_instance.at_position j.of_instance.at_place (shown_of_present from steps to each)
