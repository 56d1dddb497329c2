use Rattle.std.proofs.Common.{sym, ap, Some, ◌∙◌}
use Rattle.std.proofs.lemmas.Option.{slice_get-get_or}
use Rattle.environment_sets.specs.Members.{members}
use Rattle.antichains.proofs.Changes.{covered_at, subset_at, subset_there}
use Rattle.antichains.proofs.antichain.is_subset_at.Goals as goal

pub returns-in-Some-clause-here : goal.returns-in-Some-clause-here
returns-in-Some-clause-here c =
    let es = c.args.list.now in
    let i = c.args.place in
    let member = c.in-Some.member.now in
    let E = members c.args.env.now in
    let at = c.in-Some.ensures.lookup.3 in (
      λ is. subset_at E es i member at.0 (at.1 member) (c.is_subset.ensures.subset.0 is),
      λ there. c.is_subset.ensures.subset.1 (subset_there E es i member (slice_get-get_or es i member at.0 ∙ ap Some (sym (at.1 member))) there),
    )

pub returns-in-Some-clause-covered : goal.returns-in-Some-clause-covered
returns-in-Some-clause-covered c = λ is. covered_at (members c.args.env.now) c.args.list.now c.args.place ((returns-in-Some-clause-here c).0 is)
