use Rattle.std.proofs.Common.{ℕ, ◌<◌, length, below_more, refl, arith}
use Rattle.std.proofs.lemmas.Option.{slice_get_within}
use Rattle.explanations.specs.Forcing.{IsForcingIn}
use Rattle.explanations.proofs.Forced.{first_in, forcing_there}
use Rattle.explanations.proofs.forcing.forcing_in.Goals as goal

pub returns-in-Some : goal.returns-in-Some
returns-in-Some c =
    first_in c.args.closed.now.facts c.args.round c.args.fact c.args.part.now c.loop-place.place c.at-instance.result.now c.at-instance.ensures.instance
    (record { instance = c.loop-place.place; ports = c.in-Some.ports; from = c.facts_at.result }) refl
    (c.requires.fit c.loop-place.place c.at-instance.result.now c.at-instance.ensures.instance).three c.loop-place.invariant c.in-Some.ensures c.facts_at.ensures

pub loop-place-preserved : goal.loop-place-preserved
loop-place-preserved c =
    below_more (λ (place : ℕ). (ports : ℕ) → IsForcingIn c.args.closed.now.facts c.args.round c.args.fact c.args.part.now place ports → ⊥) c.loop-place.place c.loop-place.invariant
    (λ ports h. c.in_default.ensures ports (forcing_there c.args.closed.now.facts c.args.round c.args.fact c.args.part.now c.loop-place.place c.at-instance.result.now c.at-instance.ensures.instance ports h))

pub returns : goal.returns
returns c place ports h =
    let inside : place < length c.args.part.now = slice_get_within c.args.part.now place h.instance h.at_place in
    c.loop-place.invariant place (omega (arith, inside, c.len-place-end.ensures, c.loop-place-test.false)) ports h
