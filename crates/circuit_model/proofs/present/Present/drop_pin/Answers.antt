use Rattle.std.proofs.Common.{◌≡◌, length, refl, sym, ap, subst, ◌∙◌, arith}
use Rattle.circuit_model.specs.Blocks.{BlockView}
use Rattle.circuit_model.specs.Present.{PresentView, IsLawful, block_at, without_last, without_last_pin}
use Rattle.circuit_model.specs.Kept.{view_of}
use Rattle.circuit_model.proofs.PresentChanges.{IsLawful-change_block, block_at_read, lawful_without_last_pin}
use Rattle.circuit_model.proofs.KeptBlocks.{view_changed, IsKept_changed}
use Rattle.circuit_model.proofs.present.Present.drop_pin.Goals as goal

pub invariant_of-self : goal.invariant_of-self
invariant_of-self c =
    let b : BlockView = c.index_mut.result.now in
    let f : BlockView → BlockView = λ b. record b { pins = without_last b.pins } in
    let is : c.drop_pin.new.self ≡ f b = c.drop_pin.ensures in
    let lawful = subst (λ (t : PresentView). IsLawful t → IsLawful (without_last_pin c.args.block t)) (sym c.self.view_is) (λ h. IsLawful-change_block c.args.self.now h c.args.block f c.requires.there c.requires.unused (λ b. refl) (λ l. lawful_without_last_pin (block_at c.args.self.now c.args.block) l c.requires.unused_pin)) c.self.invariant.lawful in
    IsKept_changed c.self.inside c.args.block b c.drop_pin.new.self c.index_mut.ensures.value f is c.self.invariant (λ b. refl) lawful

pub returns : goal.returns
returns c =
    let b : BlockView = c.index_mut.result.now in
    let f : BlockView → BlockView = λ b. record b { pins = without_last b.pins } in
    let is : c.drop_pin.new.self ≡ f b = c.drop_pin.ensures in
    view_changed c.self.inside c.args.block b c.drop_pin.new.self c.index_mut.ensures.value f is ∙ ap (without_last_pin c.args.block) c.self.view_is

pub drop_pin-requires : goal.drop_pin-requires
drop_pin-requires c =
    let read : block_at (view_of c.self.inside) c.args.block ≡ c.index_mut.result.now = block_at_read (view_of c.self.inside) c.args.block c.index_mut.result.now c.index_mut.ensures.value in
    omega (arith, c.requires.some, ap (λ (t : PresentView). length (block_at t c.args.block).pins) c.self.view_is, ap (λ (b : BlockView). length b.pins) read)
