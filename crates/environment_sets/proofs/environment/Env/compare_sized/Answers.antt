use Rattle.std.proofs.Common.{sym, ap₂, ◌∙◌, nat_cmp}
use Rattle.environment_sets.specs.Members.{members}
use Rattle.environment_sets.specs.Orders.{compare_in}
use Rattle.environment_sets.specs.declared.environment.TheConstants.{SLOTS}
use Rattle.environment_sets.proofs.OrderLaws.{compare_in-sizes, first_of_both-equal, first_of_both-unequal}
use Rattle.environment_sets.proofs.Slots.{slots_are_below}
use Rattle.environment_sets.proofs.environment.Env.compare_sized.Goals as goal

pub returns-in-Equal : goal.returns-in-Equal
returns-in-Equal c =
    let E = members c.args.self.now in
    let F = members c.args.other.now in
    let compared = compare_in-sizes SLOTS c.args.order.now E F c.requires.slots c.requires.listed c.requires.other_listed (slots_are_below c.args.self.now) (slots_are_below c.args.other.now) in
    let sizes = ap₂ nat_cmp (sym c.requires.size) (sym c.requires.other_size) ∙ sym c.cmp.ensures in
    c.compare_first.ensures ∙ first_of_both-equal _ _ (compare_in c.args.order.now E F) compared (sizes ∙ c.in-Equal.is)

pub returns-in_default : goal.returns-in_default
returns-in_default c =
    let E = members c.args.self.now in
    let F = members c.args.other.now in
    let compared = compare_in-sizes SLOTS c.args.order.now E F c.requires.slots c.requires.listed c.requires.other_listed (slots_are_below c.args.self.now) (slots_are_below c.args.other.now) in
    let sizes = ap₂ nat_cmp (sym c.requires.size) (sym c.requires.other_size) ∙ sym c.cmp.ensures in
    sym sizes ∙ first_of_both-unequal _ _ (compare_in c.args.order.now E F) compared (λ same. c.in_default.not-Equal (sym sizes ∙ same))
