use Rattle.std.proofs.Common.{◌≡◌, Some, refl, sym, ap, ◌∙◌}
use Rattle.justifications.specs.Woven.{name_of}
use Rattle.recorded_inferences.proofs.Dropped.{left_all, made_next, made_done, made_shorter}
use Rattle.recorded_inferences.proofs.dropping.drop_made_by.Goals as goal

pub loop-just-init : goal.loop-just-init
loop-just-init c = left_all (λ i. i.maker ≡ Some c.args.slot) c.args.weave.now c.args.weave.now refl

pub loop-just-smaller : goal.loop-just-smaller
loop-just-smaller c = made_shorter c.loop-just.weave c.remove.new.weave c.in-Some.just.place c.remove.ensures c.args.slot (sym c.first_made.ensures ∙ ap name_of c.in-Some.is)

pub loop-just-preserved : goal.loop-just-preserved
loop-just-preserved c =
    made_next c.args.weave.now c.loop-just.weave c.remove.new.weave c.laws.ensures c.args.slot c.loop-just.invariant c.in-Some.just.place (sym c.first_made.ensures ∙ ap name_of c.in-Some.is) c.remove.ensures

pub returns : goal.returns
returns c = made_done c.args.weave.now c.loop-just.weave c.laws-2.ensures c.args.slot c.loop-just.invariant (sym c.first_made.ensures ∙ ap name_of c.in_default.is)
