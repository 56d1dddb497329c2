use Rattle.std.proofs.Common.{ℕ, ◌<◌, length, subst, sym, arith}
use Rattle.circuit_model.specs.Present.{IsLawfulComponent}
use Rattle.circuit_model.proofs.Moves.{All-read}
use Rattle.netlist_text.proofs.mode_checks.last_width.Goals as goal

pub width_at-requires : goal.width_at-requires
width_at-requires c =
    let lawful = All-read (IsLawfulComponent c.args.present.now) c.args.present.now.parts c.args.place c.part_at.result.now c.part_at.ensures c.parts-parts.ensures.lawful.each_part in
    let there : 2 < length c.part_at.result.now.nets = omega (arith, lawful.three) in
    subst (λ (n : ℕ). n < length c.args.present.now.nets) (sym c.last_of.ensures) (lawful.nets 2 0 there)
