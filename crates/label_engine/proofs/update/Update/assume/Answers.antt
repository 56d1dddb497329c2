use Rattle.std.proofs.Common.{ℕ, subst, ◌∙◌}
use Rattle.label_engine.specs.declared.update.Update.{Update}
use Rattle.label_engine.specs.Update.{Survives, HasForgotten}
use Rattle.label_engine.proofs.TakingBack.{taken, IfErr-always}
use Rattle.label_engine.proofs.update.Update.assume.Goals as goal

pub returns-then-is_err-clause-err : goal.returns-then-is_err-clause-err
returns-then-is_err-clause-err g c =
    let w : Update = c.args.self.now in
    let mid : Update = record c.work_in-outcome.new.self { due = c.clear.new.self; work = c.clear-then-is_err.new.self; agenda = c.clear-then-is_err-2.new.self } in
    let s = c.work_in-outcome.ensures.survives in
    let survives : Survives c.args.slots.now w mid = record { agrees = s.agrees; same_slot = s.same_slot; stay = s.stay; lead = s.lead; met = s.met; once = s.once } in
    let gone : HasForgotten w.slot mid c.forget.new.self = subst (λ (slot : ℕ). HasForgotten slot mid c.forget.new.self) s.same_slot c.forget.ensures in
    IfErr-always c.work_in-outcome.result
    (taken c.args.slots.now w mid c.forget.new.self c.requires.before survives gone (gone.due_same ∙ c.clear.ensures.items) (gone.work_same ∙ c.clear-then-is_err.ensures.items)
    (gone.agenda_same ∙ c.clear-then-is_err-2.ensures) (gone.slot_same ∙ s.same_slot))
