use Rattle.std.proofs.Common.{◌≡◌, length, refl, sym, ap, subst, ◌∙◌, arith}
use Rattle.circuit_model.specs.Blocks.{BlockView}
use Rattle.circuit_model.specs.Present.{PresentView, IsLawful, block_at, without_last, without_last_inner}
use Rattle.circuit_model.specs.Kept.{view_of}
use Rattle.circuit_model.proofs.PresentChanges.{IsLawful-change_block, block_at_read, lawful_without_last_inner}
use Rattle.circuit_model.proofs.KeptBlocks.{view_changed, IsKept_changed}
use Rattle.circuit_model.proofs.present.Present.drop_inside.Goals as goal

pub invariant_of-self : goal.invariant_of-self
invariant_of-self c =
    let b : BlockView = c.index_mut.result.now in
    let f : BlockView → BlockView = λ b. record b { inners = without_last b.inners } in
    let is : c.drop_inner.new.self ≡ f b = c.drop_inner.ensures in
    let lawful = subst (λ (t : PresentView). IsLawful t → IsLawful (without_last_inner c.args.block t)) (sym c.self.view_is) (λ h. IsLawful-change_block c.args.self.now h c.args.block f c.requires.there c.requires.unused (λ b. refl) (λ l. lawful_without_last_inner (block_at c.args.self.now c.args.block) l)) c.self.invariant.lawful in
    IsKept_changed c.self.inside c.args.block b c.drop_inner.new.self c.index_mut.ensures.value f is c.self.invariant (λ b. refl) lawful

pub returns : goal.returns
returns c =
    let b : BlockView = c.index_mut.result.now in
    let f : BlockView → BlockView = λ b. record b { inners = without_last b.inners } in
    let is : c.drop_inner.new.self ≡ f b = c.drop_inner.ensures in
    view_changed c.self.inside c.args.block b c.drop_inner.new.self c.index_mut.ensures.value f is ∙ ap (without_last_inner c.args.block) c.self.view_is

pub drop_inner-requires : goal.drop_inner-requires
drop_inner-requires c =
    let read : block_at (view_of c.self.inside) c.args.block ≡ c.index_mut.result.now = block_at_read (view_of c.self.inside) c.args.block c.index_mut.result.now c.index_mut.ensures.value in
    omega (arith, c.requires.some, ap (λ (t : PresentView). length (block_at t c.args.block).inners) c.self.view_is, ap (λ (b : BlockView). length b.inners) read)
