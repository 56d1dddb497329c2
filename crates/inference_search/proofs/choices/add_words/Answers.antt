use Rattle.std.proofs.Common.{◌≡◌, ℕ, ◌<◌, Some, length, slice_get, arith, refl}
use Rattle.std.proofs.lemmas.Option.{slice_get_within}
use Rattle.circuit_model.specs.Closure.{fact}
use Rattle.environment_sets.proofs.Membership.{slice_get-IsIn}
use Rattle.inference_search.proofs.choices.add_words.Goals as goal

pub returns-clause-words : goal.returns-clause-words
returns-clause-words c v h =
    let at : (k : ℕ) × (slice_get c.args.facts.now k ≡ Some (fact c.args.cell v)) = slice_get-IsIn c.args.facts.now (fact c.args.cell v) h in
    let inside : at.0 < length c.args.facts.now = slice_get_within c.args.facts.now at.0 (fact c.args.cell v) at.1 in
    c.loop-fact.invariant.words at.0 (omega arith) (fact c.args.cell v) at.1 refl
