use Rattle.std.proofs.Common.{◌≡◌, ◌<◌, IfSome, Some, None, List, sym, subst, ◌∙◌}
use Rattle.std.specs.Option.{option_map, option_copied}
use Rattle.environment_sets.specs.declared.environment.Env.{Env}
use Rattle.environment_sets.specs.Members.{members}
use Rattle.environment_sets.specs.Walks.{envs_left}
use Rattle.label_engine.specs.Engine.{label_of}
use Rattle.label_engine.proofs.Asked.{IsExact, is_exact, label_is, next_in_label}
use Rattle.label_engine.proofs.engine.Engine.label_after.Goals as goal

pub returns-in-Some-clause-next : goal.returns-in-Some-clause-next
returns-in-Some-clause-next c =
    let e = c.args.self.now in
    let exact : IsExact e = is_exact c.self.inside.slots c.self.inside.update.nodes c.self.inside.update.recorded c.self.invariant.up_to_date e c.self.view_is in
    let same : c.in-Some.label.now ≡ label_of e.kept c.args.fact = c.in-Some.ensures ∙ label_is c.self.inside.slots c.self.inside.update.nodes c.self.inside.update.recorded c.self.invariant.up_to_date e c.self.view_is c.args.fact in
    next_in_label e exact (members c.args.mask.now) c.args.fact c.in-Some.label.now same c.args.order.now (option_map members (option_copied c.args.last)) (option_map members c.next_after.result) c.next_after.ensures.next

pub returns-in-Some-clause-falls : goal.returns-in-Some-clause-falls
returns-in-Some-clause-falls c =
    let e = c.args.self.now in
    let same : c.in-Some.label.now ≡ label_of e.kept c.args.fact = c.in-Some.ensures ∙ label_is c.self.inside.slots c.self.inside.update.nodes c.self.inside.update.recorded c.self.invariant.up_to_date e c.self.view_is c.args.fact in
    let P : List Env → Type 0 = λ es. IfSome c.next_after.result (λ n. envs_left c.args.order.now es c.args.mask.now (Some n) < envs_left c.args.order.now es c.args.mask.now (option_copied c.args.last)) in
    subst P same c.next_after.ensures.falls

pub returns-in-None-clause-next : goal.returns-in-None-clause-next
returns-in-None-clause-next c =
    let e = c.args.self.now in
    let exact : IsExact e = is_exact c.self.inside.slots c.self.inside.update.nodes c.self.inside.update.recorded c.self.invariant.up_to_date e c.self.view_is in
    let same = sym c.in-None.ensures ∙ label_is c.self.inside.slots c.self.inside.update.nodes c.self.inside.update.recorded c.self.invariant.up_to_date e c.self.view_is c.args.fact in
    next_in_label e exact (members c.args.mask.now) c.args.fact _ same c.args.order.now (option_map members (option_copied c.args.last)) None (λ E further. further.member)
