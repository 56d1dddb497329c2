use Rattle.std.proofs.Common.{sym, ◌∙◌}
use Rattle.index_lists.specs.Chains.{lane_at, keys_in}
use Rattle.index_lists.proofs.Links.{none_is_no_some, same_some, without_absent}
use Rattle.justifications.proofs.Lanes.{unlinked_here}
use Rattle.justifications.proofs.links.unlink_some.Goals as goal

pub returns-in_default-clause-here : goal.returns-in_default-clause-here
returns-in_default-clause-here c h = sym (without_absent c.args.key.place (keys_in c.args.chains.now c.args.lane h) (λ i. none_is_no_some h (sym c.in_default.is ∙ (c.requires.listed h).0 i)))

pub returns-clause-here : goal.returns-clause-here
returns-clause-here c =
    unlinked_here (lane_at c.args.chains.now c.args.lane) (lane_at c.unlink.new.self c.args.lane) c.args.key.place c.in-Some._head
    (λ h i. same_some c.in-Some._head h (sym c.in-Some.is ∙ (c.requires.listed h).0 i)) (c.unlink.ensures.here c.in-Some._head ((c.requires.listed c.in-Some._head).1 c.in-Some.is))
