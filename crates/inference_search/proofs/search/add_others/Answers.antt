use Rattle.std.proofs.Common.{◌≡◌, ℕ, ◌<◌, Some, length, slice_get, arith}
use Rattle.std.proofs.lemmas.Option.{slice_get_within}
use Rattle.environment_sets.proofs.Membership.{slice_get-IsIn}
use Rattle.inference_search.proofs.search.add_others.Goals as goal

pub returns-clause-others : goal.returns-clause-others
returns-clause-others c g h =
    let at : (k : ℕ) × (slice_get c.args.met.now k ≡ Some g) = slice_get-IsIn c.args.met.now g h in
    let inside : at.0 < length c.args.met.now = slice_get_within c.args.met.now at.0 g at.1 in
    c.loop-other.invariant.others at.0 (omega arith) g at.1
