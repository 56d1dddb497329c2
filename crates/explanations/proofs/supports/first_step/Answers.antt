use Rattle.std.proofs.Common.{◌≡◌, ℕ, ◌<◌, length, Some, slice_get, below_more, refl, sym, ap, subst, arith}
use Rattle.std.proofs.lemmas.Option.{slice_get_within}
use Rattle.environment_sets.proofs.Membership.{IsIn-slice_get, slice_get-IsIn}
use Rattle.circuit_model.specs.Chosen.{chosen_places}
use Rattle.circuit_model.specs.Derivation.{Step}
use Rattle.circuit_model.specs.Present.{circuit_of}
use Rattle.proof_check.specs.Written.{step_of}
use Rattle.proof_check.proofs.Assumed.{position_chosen}
use Rattle.explanations.specs.Forcing.{IsForcingAt, IsFirstStep}
use Rattle.explanations.proofs.Closings.{told_fit}
use Rattle.explanations.proofs.Joined.{first_justifies, forcing_at_part, smaller_before}
use Rattle.explanations.proofs.supports.first_step.Goals as goal

pub forcing_at-requires-clause-fit : goal.forcing_at-requires-clause-fit
forcing_at-requires-clause-fit c = told_fit c.args.present.now c.requires.lawful (chosen_places c.args.chosen.now) c.args.closed.now.facts c.args.round c.requires.told

pub returns-in-Some : goal.returns-in-Some
returns-in-Some c =
    let Q : Step → Type 0 = λ s. IsFirstStep (circuit_of c.args.present.now) (chosen_places c.args.chosen.now) c.args.round c.args.fact s in
    subst Q (sym (ap step_of c.inferred.ensures)) (
      refl,
      first_justifies c.args.present.now c.requires.lawful (chosen_places c.args.chosen.now) c.args.closed.now.facts c.args.round c.requires.told c.args.fact c.at-part.result
          ((position_chosen c.args.chosen.now.parts c.at-part.result).0 (IsIn-slice_get c.args.chosen.now.parts c.loop-i.i c.at-part.result c.at-part.ensures)) c.in-Some.found c.in-Some.ensures (λ p less chosen place ports h.
          let at : (k : ℕ) × (slice_get c.args.chosen.now.parts k ≡ Some p) = slice_get-IsIn c.args.chosen.now.parts p ((position_chosen c.args.chosen.now.parts p).1 chosen) in
          c.loop-i.invariant at.0 (smaller_before c.args.chosen.now.parts c.len-i-end.ensures.rising c.loop-i.i at.0 c.at-part.result p c.at-part.ensures at.1 less) p at.1 place ports h),
    )

pub loop-i-preserved : goal.loop-i-preserved
loop-i-preserved c =
    below_more (λ (k : ℕ). (position : ℕ) → slice_get c.args.chosen.now.parts k ≡ Some position → (place ports : ℕ) → IsForcingAt (circuit_of c.args.present.now) c.args.closed.now.facts c.args.round c.args.fact position place ports → ⊥) c.loop-i.i c.loop-i.invariant (λ position at place ports h.
    let here = c.at-part.ensures in
    let same : position ≡ c.at-part.result = cc in
    c.in_default.ensures place ports (subst (λ (p : ℕ). IsForcingAt (circuit_of c.args.present.now) c.args.closed.now.facts c.args.round c.args.fact p place ports) same h))

pub returns : goal.returns
returns c j h =
    let at : (k : ℕ) × (slice_get c.args.chosen.now.parts k ≡ Some j.part) = slice_get-IsIn c.args.chosen.now.parts j.part ((position_chosen c.args.chosen.now.parts j.part).1 h.of_instance.assumed) in
    let inside : at.0 < length c.args.chosen.now.parts = slice_get_within c.args.chosen.now.parts at.0 j.part at.1 in
    c.loop-i.invariant at.0 (omega (arith, inside, c.len-i-end.ensures.value, c.loop-i-test.false)) j.part at.1 j.instance j.ports (forcing_at_part c.args.present.now c.requires.lawful (chosen_places c.args.chosen.now) c.args.closed.now.facts c.args.round c.requires.told c.args.fact j h)
