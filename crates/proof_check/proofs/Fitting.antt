-- What follows from an environment fits the widths of its nets.
use Rattle.std.proofs.Common.{◌≡◌, ℕ, ◌<◌, ◌^◌, List, [], length, map, Option, Some, None, slice_get, get_or, refl, sym, subst, ◌∙◌, arith}
use Rattle.std.specs.Option.{option_map}
use Rattle.std.proofs.lemmas.Option.{slice_get-map, slice_get-get_or, slice_get_within}
use Rattle.environment_sets.specs.Sets.{Set}
use Rattle.environment_sets.specs.Lists.{IsIn}
use Rattle.circuit_model.specs.declared.model.Cell.{Cell}
use Rattle.circuit_model.specs.declared.model.Fact.{Fact}
use Rattle.circuit_model.specs.declared.model.Instance.{Instance}
use Rattle.circuit_model.specs.declared.present.Component.{Component}
use Rattle.circuit_model.specs.Closure.{IsForced}
use Rattle.circuit_model.specs.Inference.{Forces}
use Rattle.circuit_model.specs.Stock.{Has}
use Rattle.circuit_model.specs.Diagnoses.{Place}
use Rattle.circuit_model.specs.Derivation.{Step, Holds, Value, IsAssumed, AreValidAfter, fact_of}
use Rattle.circuit_model.specs.Present.{PresentView, IsLawful, width_of, circuit_of}
use Rattle.circuit_model.specs.Whole.{stock}
use Rattle.circuit_model.proofs.Inferences.{word_fits}
use Rattle.circuit_model.proofs.Readings.{Measured, measured_at, IsFactOf-at}
use Rattle.circuit_model.proofs.Rounds.{Follows-within}
use Rattle.circuit_model.proofs.Derivations.{valid_derivations_are_true}
use Rattle.proof_check.specs.Checking.{AllFit}
use Rattle.proof_check.proofs.Assumed.{HasPart, part_assumed, HasReading, reading_assumed}
use Rattle.proof_check.proofs.Instances.{AreCells, cells_of}

-- the component with the part at the position
pub record IsAtPosition (s : PresentView) (position : ℕ) (instances : List Instance) : Type 0 where
  pub component : Component
  pub there : slice_get s.parts position ≡ Some component
  pub part : component.part ≡ instances

pub component_at : (s : PresentView) (i : ℕ) (part : List Instance) → slice_get (circuit_of s).parts i ≡ Some part → IsAtPosition s i part
component_at s i part e = by_component (slice_get s.parts i) refl (sym (slice_get-map (λ (c : Component). c.part) s.parts i) ∙ e) where
  by_component : (o : Option Component) → slice_get s.parts i ≡ o → option_map (λ (c : Component). c.part) o ≡ Some part → IsAtPosition s i part
  by_component None is e = cc
  by_component (Some c) is e = let same : c.part ≡ part = cc in record { component = c; there = is; part = same }

module _ (s : PresentView) (E : Set Place) (lawful : IsLawful s) where
  abbrev Fits : Fact → Type 0
  Fits f = f.value < 2 ^ width_of s f.cell.net

  reading_fits : (f : Fact) → HasReading (circuit_of s) E f → Fits f
  reading_fits f h =
      let r : Measured s.readings f.cell f.value = measured_at s.readings f.cell f.value h.there in
      let fits : r.1.value < 2 ^ width_of s r.1.cell.net = (IsFactOf-at s lawful r.0 r.1 r.2).fits in
      subst (λ (v : ℕ). v < 2 ^ width_of s f.cell.net) r.4 (subst (λ (c : Cell). r.1.value < 2 ^ width_of s c.net) r.3 fits)

  forced_word_fits : (instance : Instance) → AreCells s instance.cells instance.widths → (known : List (Option ℕ)) (port v : ℕ) (c : Cell) → slice_get instance.cells port ≡ Some c → Forces instance.prim instance.widths known port v → v < 2 ^ width_of s c.net
  forced_word_fits instance at known port v c e forces =
      let w : ℕ = get_or instance.widths port 0 in
      let inside : port < length instance.cells = slice_get_within instance.cells port c e in
      let width : slice_get instance.widths port ≡ Some w = slice_get-get_or instance.widths port 0 (omega (arith, at.three, at.widths_three)) in
      let t : List ℕ = forces.some_tuple.0 in
      let there : slice_get t port ≡ Some v = forces.every_tuple t forces.some_tuple.1 forces.some_tuple.2 in
      let below : v < 2 ^ w = word_fits instance.prim instance.widths t port w v forces.some_tuple.1 width there in
      rw (← at.of_width port w c e width) below

  -- the cells of an instance of a component that is assumed
  pub cells_assumed : (part : List Instance) (instance : Instance) → HasPart (circuit_of s) E part → IsIn part instance → AreCells s instance.cells instance.widths
  cells_assumed part instance h of_part =
      let c : IsAtPosition s h.position part = component_at s h.position part h.there in
      cells_of s lawful h.position c.component c.there instance (subst (λ (p : List Instance). IsIn p instance) (sym c.part) of_part)

  forced_fits : (f : Fact) → IsForced (IsAssumed (circuit_of s) E) (λ g. Fits g) f → Fits f
  forced_fits f h = forced_word_fits h.instance (cells_assumed h.part h.instance (part_assumed (circuit_of s) E h.part h.assumed) h.of_part) h.known h.port f.value f.cell h.at h.forces

  -- what follows fits
  pub follows_fits : (f : Fact) → Has (stock s) f E → f.value < 2 ^ width_of s f.cell.net
  follows_fits f h = Follows-within (IsAssumed (circuit_of s) E) (λ g. Fits g) (record { readings = λ g a. reading_fits g (reading_assumed (circuit_of s) E g a); forced = forced_fits }) f h

  -- so do the facts of valid steps
  pub valid_steps_fit : (steps : List Step) → AreValidAfter (circuit_of s) E [] steps → AllFit s (map fact_of steps)
  valid_steps_fit steps valid f h = follows_fits f (valid_derivations_are_true (circuit_of s) E (Value f) (record { steps = steps; ending = Holds }) (record { steps = valid; ending = h }))
