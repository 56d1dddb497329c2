use Rattle.std.proofs.Common.{IsSome, sym, subst}
use Rattle.justifications.specs.Woven.{Woven, fact_at, place_of_cell}
use Rattle.justifications.specs.Woven.{head_of_fact}
use Rattle.justifications.proofs.Chaining.{some_is, stands}
use Rattle.justifications.proofs.weave.Weave.next_at.Goals as goal
use Rattle.std.proofs.Common.{refl}

pub next-requires-clause-listed : goal.next-requires-clause-listed
next-requires-clause-listed c =
    let s = c.self.inside in
    let P : Woven → Type 0 = λ w. IsSome (fact_at w c.args.node.place) in
    let it = some_is (fact_at (record { facts = s.facts; inferences = s.inferences }) c.args.node.place) (subst P (sym c.self.view_is) c.requires) in
    (place_of_cell it.0.cell, stands head_of_fact s.facts s.facts c.self.invariant.nodes.chained c.args.node.place it.0 it.1 0 (place_of_cell it.0.cell) refl)
