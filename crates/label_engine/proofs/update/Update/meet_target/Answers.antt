use Rattle.std.proofs.Common.{◌≡◌, Some, sym, subst, ◌∙◌}
use Rattle.environment_sets.specs.Lists.{IsIn}
use Rattle.labelled_nodes.specs.Nodes.{facts_of}
use Rattle.label_engine.proofs.Families.{met_is, unmet_is}
use Rattle.label_engine.proofs.Pieces.{IfOk-map, ready_now_met, ready_met, survives_same}
use Rattle.label_engine.proofs.update.Update.meet_target.Goals as goal

pub returns-then-not-is_met-clause-ok : goal.returns-then-not-is_met-clause-ok
returns-then-not-is_met-clause-ok c =
    IfOk-map c.meet.result (λ x e. ready_now_met c.args.slots.now c.args.due.now c.in-Some.fact c.args.self.now c.meet.new.self c.requires c.in-Some.is (unmet_is c.args.self.now.nodes.list c.in-Some.fact (sym c.is_met.ensures ∙ c.if-not-is_met.true)) c.meet.ensures.kept e) c.meet.ensures.ok

pub returns-else-not-is_met-clause-ok : goal.returns-else-not-is_met-clause-ok
returns-else-not-is_met-clause-ok c =
    ready_met c.args.slots.now c.args.due.now c.args.self.now c.requires (λ f e. let both : Some c.in-Some.fact ≡ Some f = sym c.in-Some.is ∙ e in let same : c.in-Some.fact ≡ f = cc in subst (IsIn (facts_of c.args.self.now.nodes.list)) same (met_is c.args.self.now.nodes.list c.in-Some.fact (sym c.is_met.ensures ∙ c.if-not-is_met.false)))

pub returns-else-not-is_met-clause-survives : goal.returns-else-not-is_met-clause-survives
returns-else-not-is_met-clause-survives c = survives_same c.args.slots.now c.args.self.now

pub returns-in_default-clause-survives : goal.returns-in_default-clause-survives
returns-in_default-clause-survives c = survives_same c.args.slots.now c.args.self.now

pub meet-requires : goal.meet-requires
meet-requires c = unmet_is c.args.self.now.nodes.list c.in-Some.fact (sym c.is_met.ensures ∙ c.if-not-is_met.true)
