use Rattle.std.proofs.Common.{inl}
use Rattle.environment_sets.specs.Members.{members}
use Rattle.label_engine.proofs.Completed.{completed_union}
use Rattle.label_engine.proofs.update.add_union.Goals as goal

pub is_covered-requires-clause-completing : goal.is_covered-requires-clause-completing
is_covered-requires-clause-completing c = λ slots is.
    completed_union c.args.item.now c.args.nodes.now.nogoods (members slots.now) (members c.args.other.now) c.args.begun.now c.union_with-union.result c.requires.begun c.union_with-union.ensures.joined (c.requires.completing slots is)

pub returns : goal.returns
returns c = inl (c.sourced_union.result, c.sourced_union.ensures, c.in_ok-push.ensures.items)
