use Rattle.std.proofs.Common.{true≢false, sym, ◌∙◌}
use Rattle.environment_sets.specs.Members.{members}
use Rattle.propagation.specs.Propagating.{IsReached}
use Rattle.labelled_nodes.specs.Nodes.{KeptIn}
use Rattle.label_engine.proofs.Pieces.{carries_reached, agrees_put_there, carries_put, survives_then, survives_same, agrees_same}
use Rattle.label_engine.proofs.update.Update.put_in.Goals as goal

pub returns-then-reaches-clause-ok : goal.returns-then-reaches-clause-ok
returns-then-reaches-clause-ok c = carries_reached c.args.slots.now c.args.due.now c.args.self.now c.requires (c.reaches.ensures.0 c.if-reaches.true)

pub returns-then-reaches-clause-survives : goal.returns-then-reaches-clause-survives
returns-then-reaches-clause-survives c = survives_same c.args.slots.now c.args.self.now

pub returns-clause-ok : goal.returns-clause-ok
returns-clause-ok c =
    let out : IsReached (KeptIn c.args.self.now.nodes) c.args.due.now.target (members c.args.due.now.env) → ⊥ = λ r. true≢false (sym (c.reaches.ensures.1 r) ∙ c.if-reaches.false) in
    carries_put c.args.slots.now c.args.due.now c.args.self.now c.meet_target.new.self c.put_there.new.self c.in_ok-meet_target.ensures.ok out c.in_ok-put_there.ensures.ok c.target_fits.ensures c.length_fits.ensures

pub returns-clause-survives : goal.returns-clause-survives
returns-clause-survives c =
    let out : IsReached (KeptIn c.args.self.now.nodes) c.args.due.now.target (members c.args.due.now.env) → ⊥ = λ r. true≢false (sym (c.reaches.ensures.1 r) ∙ c.if-reaches.false) in
    survives_then c.args.slots.now c.args.self.now c.meet_target.new.self c.put_there.new.self c.meet_target.ensures.survives
    (agrees_put_there c.args.slots.now c.args.due.now c.args.self.now c.meet_target.new.self c.put_there.new.self c.in_ok-meet_target.ensures.ok out c.in_ok-put_there.ensures.ok)
    c.put_there.ensures.slot c.put_there.ensures.recorded c.put_there.ensures.met

pub returns-in_err-put_there-clause-survives : goal.returns-in_err-put_there-clause-survives
returns-in_err-put_there-clause-survives c =
    survives_then c.args.slots.now c.args.self.now c.meet_target.new.self c.put_there.new.self c.meet_target.ensures.survives
    (agrees_same c.meet_target.new.self c.put_there.new.self c.in_err-put_there.ensures.err) c.put_there.ensures.slot c.put_there.ensures.recorded c.put_there.ensures.met
