use Rattle.std.proofs.Common.{◌∙◌, ◌++◌, ◌∷◌, [], ◌<◌, ap, length, arith}
use Rattle.circuit_model.specs.declared.limits.TheConstants.{MOST_PINS}
use Rattle.circuit_model.proofs.RowLemmas.{shown_set, set_is_row}
use Rattle.circuit_model.proofs.pins.Pins.push.Goals as goal

pub invariant_of-self : goal.invariant_of-self
invariant_of-self c =
    let room : c.self.inside.len < MOST_PINS = omega (arith, c.requires, ap length c.self.view_is, c.self.invariant.count) in
    set_is_row c.self.inside.nets c.self.inside.len c.args.net c.self.invariant room

pub returns : goal.returns
returns c =
    let room : c.self.inside.len < MOST_PINS = omega (arith, c.requires, ap length c.self.view_is, c.self.invariant.count) in
    shown_set c.self.inside.nets c.self.inside.len c.args.net c.self.invariant room ∙ ap (λ nets. nets ++ c.args.net ∷ []) c.self.view_is
