use Rattle.std.proofs.Common.{◌≡◌, ◌++◌, [], ◌∷◌, None, refl, sym, ap, subst, ◌∙◌}
use Rattle.std.proofs.lemmas.Result.{err_from_is_err_and}
use Rattle.circuit_model.specs.declared.blocks.Inner.{Inner}
use Rattle.circuit_model.specs.Blocks.{BlockView, inner_named}
use Rattle.circuit_model.specs.Present.{PresentView, IsLawful, block_at, with_inner}
use Rattle.circuit_model.specs.Kept.{view_of}
use Rattle.circuit_model.proofs.PresentChanges.{IsLawful-change_block, block_at_read, lawful_with_inner}
use Rattle.circuit_model.proofs.KeptBlocks.{view_changed, IsKept_changed, view_same, IsKept_same}
use Rattle.circuit_model.proofs.present.Present.inside.Goals as goal

pub invariant_of-self-2 : goal.invariant_of-self-2
invariant_of-self-2 c =
    let b : BlockView = c.index_mut.result.now in
    let inner : Inner = record { name = c.args.name; kind = c.args.kind; pins = c.args.pins } in
    let f : BlockView → BlockView = λ b. record b { inners = b.inners ++ inner ∷ [] } in
    let is : c.add_inner.new.self ≡ f b = c.in_ok-add_inner.ensures.ok in
    let lawful = subst (λ (t : PresentView). IsLawful t → IsLawful (with_inner c.args.block inner t)) (sym c.self.view_is) (λ h. IsLawful-change_block c.args.self.now h c.args.block f c.requires.there c.requires.unused (λ b. refl) (λ l. lawful_with_inner (block_at c.args.self.now c.args.block) l inner c.requires.no_pin c.requires.no_inner c.requires.lawful c.requires.room c.bytes-name.ensures.name)) c.self.invariant.lawful in
    IsKept_changed c.self.inside c.args.block b c.add_inner.new.self c.index_mut.ensures.value f is c.self.invariant (λ b. refl) lawful

pub returns-clause-ok : goal.returns-clause-ok
returns-clause-ok c =
    let b : BlockView = c.index_mut.result.now in
    let inner : Inner = record { name = c.args.name; kind = c.args.kind; pins = c.args.pins } in
    let f : BlockView → BlockView = λ b. record b { inners = b.inners ++ inner ∷ [] } in
    let is : c.add_inner.new.self ≡ f b = c.in_ok-add_inner.ensures.ok in
    view_changed c.self.inside c.args.block b c.add_inner.new.self c.index_mut.ensures.value f is ∙ ap (with_inner c.args.block inner) c.self.view_is

pub invariant_of-self : goal.invariant_of-self
invariant_of-self c = IsKept_same c.self.inside c.args.block c.index_mut.result.now c.add_inner.new.self c.index_mut.ensures.value c.in_err-add_inner.ensures.err c.self.invariant

pub returns-in_err-add_inner-clause-err : goal.returns-in_err-add_inner-clause-err
returns-in_err-add_inner-clause-err c = let e = err_from_is_err_and c.from_residual.result c.from_residual.ensures.1 in rw e.1 (view_same c.self.inside c.args.block c.index_mut.result.now c.add_inner.new.self c.index_mut.ensures.value c.in_err-add_inner.ensures.err ∙ c.self.view_is)

pub add_inner-requires : goal.add_inner-requires
add_inner-requires c =
    let read : block_at (view_of c.self.inside) c.args.block ≡ c.index_mut.result.now = block_at_read (view_of c.self.inside) c.args.block c.index_mut.result.now c.index_mut.ensures.value in
    let none = subst (λ (t : PresentView). inner_named (block_at t c.args.block) c.args.name ≡ None) (sym c.self.view_is) c.requires.no_inner in
    subst (λ (b : BlockView). inner_named b c.args.name ≡ None) read none
