use Rattle.std.proofs.Common.{sym, ◌∙◌, arith}
use Rattle.circuit_model.specs.Chosen.{chosen_places}
use Rattle.proof_check.specs.Rounds.{IsQuietAt, IsRefutedAt}
use Rattle.proof_check.proofs.Looks.{look_more, look_clash_at, look_ports_end, at_none}
use Rattle.proof_check.proofs.looking.look_at_site.Goals as goal

pub returns-then-is_some : goal.returns-then-is_some
returns-then-is_some c =
    look_clash_at c.args.round.now.present.now (chosen_places c.args.round.now.chosen.now) c.args.round.now.held.now c.args.site.now.part c.args.site.now.place c.args.site.now.instance c.requires.there c.loop-ports.ports c.loop-ports.found c.look_at_ports.new.found _ c.in_ok-clash.clash
    (sym c.is_some.ensures ∙ c.if-is_some.true) c.loop-ports.invariant c.in_ok-clash.ensures

pub loop-ports-preserved : goal.loop-ports-preserved
loop-ports-preserved c =
    look_more c.args.round.now.present.now (chosen_places c.args.round.now.chosen.now) c.args.round.now.held.now c.args.site.now.part c.args.site.now.place c.args.site.now.instance c.requires.there c.loop-ports.ports c.loop-ports.found c.look_at_ports.new.found c.loop-ports.invariant
    (at_none (IsQuietAt c.args.round.now.held.now c.args.site.now.instance c.loop-ports.ports c.loop-ports.found c.look_at_ports.new.found) (IsRefutedAt c.args.round.now.held.now c.args.site.now.part c.args.site.now.place c.loop-ports.ports c.args.site.now.instance) c.in_ok-clash.clash (sym c.is_some.ensures ∙ c.if-is_some.false) c.in_ok-clash.ensures)

pub returns : goal.returns
returns c = look_ports_end c.args.round.now.present.now (chosen_places c.args.round.now.chosen.now) c.args.round.now.held.now c.args.site.now.part c.args.site.now.place c.loop-ports.ports c.loop-ports.found (omega arith) c.loop-ports.invariant
