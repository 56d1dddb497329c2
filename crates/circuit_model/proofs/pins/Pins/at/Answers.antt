use Rattle.std.proofs.Common.{◌∙◌, ◌<◌, ap, sym, slice_get, length, arith}
use Rattle.circuit_model.specs.Rows.{nets_in}
use Rattle.circuit_model.proofs.RowLemmas.{shown_at, shown_is_some}
use Rattle.circuit_model.proofs.pins.Pins.at.Goals as goal

pub unreachable-requires : goal.unreachable-requires
unreachable-requires c =
    let inside : c.args.place < length (nets_in c.self.inside.nets) = omega (arith, c.requires, ap length c.self.view_is) in
    shown_is_some c.self.inside.nets c.args.place _ inside c.in-None.is

pub returns : goal.returns
returns c =
    let inside : c.args.place < length (nets_in c.self.inside.nets) = omega (arith, c.requires, ap length c.self.view_is) in
    sym (ap (λ nets. slice_get nets c.args.place) c.self.view_is) ∙ shown_at c.self.inside.nets c.args.place _ c.in-Some.net inside c.in-Some.is
