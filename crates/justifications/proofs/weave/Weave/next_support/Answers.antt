use Rattle.std.proofs.Common.{IsSome, refl, sym, subst}
use Rattle.justifications.specs.Woven.{Woven, inferred_at, place_of_target, head_of_inferred}
use Rattle.justifications.proofs.Chaining.{some_is, stands}
use Rattle.justifications.proofs.weave.Weave.next_support.Goals as goal

pub behind_in-requires-clause-listed : goal.behind_in-requires-clause-listed
behind_in-requires-clause-listed c =
    let s = c.self.inside in
    let P : Woven → Type 0 = λ w. IsSome (inferred_at w c.args.just.place) in
    let it = some_is (inferred_at (record { facts = s.facts; inferences = s.inferences }) c.args.just.place) (subst P (sym c.self.view_is) c.requires) in
    (place_of_target it.0.to, stands head_of_inferred s.inferences s.inferences c.self.invariant.inferences.chained c.args.just.place it.0 it.1 2 (place_of_target it.0.to) refl)
