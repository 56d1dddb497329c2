use Rattle.std.proofs.Common.{IsSome, IsSomeAnd, sym, subst}
use Rattle.justifications.specs.Woven.{Woven, inferred_at, head_of_inferred}
use Rattle.justifications.proofs.Chaining.{some_is, stands}
use Rattle.justifications.proofs.Uses.{some_and_is}
use Rattle.justifications.proofs.weave.Weave.next_made.Goals as goal

pub behind_in-requires-clause-listed : goal.behind_in-requires-clause-listed
behind_in-requires-clause-listed c =
    let s = c.self.inside in
    let P : Woven → Type 0 = λ w. IsSomeAnd (inferred_at w c.args.just.place) (λ x. IsSome x.maker) in
    let it = some_and_is (inferred_at (record { facts = s.facts; inferences = s.inferences }) c.args.just.place) (λ x. IsSome x.maker) (subst P (sym c.self.view_is) c.requires) in
    let slot = some_is it.0.maker it.2 in
    (slot.0, stands head_of_inferred s.inferences s.inferences c.self.invariant.inferences.chained c.args.just.place it.0 it.1 3 slot.0 slot.1)
