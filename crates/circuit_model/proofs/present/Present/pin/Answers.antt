use Rattle.std.proofs.Common.{◌≡◌, ◌++◌, [], ◌∷◌, None, refl, sym, ap, subst, ◌∙◌}
use Rattle.std.proofs.lemmas.Result.{err_from_is_err_and}
use Rattle.circuit_model.specs.declared.present.Net.{Net}
use Rattle.circuit_model.specs.Blocks.{BlockView, pin_named}
use Rattle.circuit_model.specs.Present.{PresentView, IsLawful, block_at, with_pin}
use Rattle.circuit_model.specs.Kept.{view_of}
use Rattle.circuit_model.proofs.PresentChanges.{IsLawful-change_block, block_at_read, lawful_with_pin}
use Rattle.circuit_model.proofs.KeptBlocks.{view_changed, IsKept_changed, view_same, IsKept_same}
use Rattle.circuit_model.proofs.present.Present.pin.Goals as goal

pub invariant_of-self-2 : goal.invariant_of-self-2
invariant_of-self-2 c =
    let b : BlockView = c.index_mut.result.now in
    let pin : Net = record { name = c.args.name; width = c.args.width } in
    let f : BlockView → BlockView = λ b. record b { pins = b.pins ++ pin ∷ [] } in
    let is : c.add_pin.new.self ≡ f b = c.in_ok-add_pin.ensures.ok ∙ ap (λ (n : Net). record b { pins = b.pins ++ n ∷ [] }) c.new-pin.ensures.net in
    let lawful = subst (λ (t : PresentView). IsLawful t → IsLawful (with_pin c.args.block pin t)) (sym c.self.view_is) (λ h. IsLawful-change_block c.args.self.now h c.args.block f c.requires.there c.requires.unused (λ b. refl) (λ l. lawful_with_pin (block_at c.args.self.now c.args.block) l pin c.requires.no_pin c.requires.no_inner c.requires.room c.new-pin.ensures.name c.new-pin.ensures.low c.new-pin.ensures.high)) c.self.invariant.lawful in
    IsKept_changed c.self.inside c.args.block b c.add_pin.new.self c.index_mut.ensures.value f is c.self.invariant (λ b. refl) lawful

pub returns-clause-ok : goal.returns-clause-ok
returns-clause-ok c =
    let b : BlockView = c.index_mut.result.now in
    let pin : Net = record { name = c.args.name; width = c.args.width } in
    let f : BlockView → BlockView = λ b. record b { pins = b.pins ++ pin ∷ [] } in
    let is : c.add_pin.new.self ≡ f b = c.in_ok-add_pin.ensures.ok ∙ ap (λ (n : Net). record b { pins = b.pins ++ n ∷ [] }) c.new-pin.ensures.net in
    view_changed c.self.inside c.args.block b c.add_pin.new.self c.index_mut.ensures.value f is ∙ ap (with_pin c.args.block pin) c.self.view_is

pub invariant_of-self : goal.invariant_of-self
invariant_of-self c = IsKept_same c.self.inside c.args.block c.index_mut.result.now c.add_pin.new.self c.index_mut.ensures.value c.in_err-add_pin.ensures.err c.self.invariant

pub returns-in_err-add_pin-clause-err : goal.returns-in_err-add_pin-clause-err
returns-in_err-add_pin-clause-err c = let e = err_from_is_err_and c.from_residual.result c.from_residual.ensures.1 in rw e.1 (view_same c.self.inside c.args.block c.index_mut.result.now c.add_pin.new.self c.index_mut.ensures.value c.in_err-add_pin.ensures.err ∙ c.self.view_is)

pub add_pin-requires : goal.add_pin-requires
add_pin-requires c =
    let read : block_at (view_of c.self.inside) c.args.block ≡ c.index_mut.result.now = block_at_read (view_of c.self.inside) c.args.block c.index_mut.result.now c.index_mut.ensures.value in
    let none = subst (λ (t : PresentView). pin_named (block_at t c.args.block) c.args.name ≡ None) (sym c.self.view_is) c.requires.no_pin in
    subst (λ (n : Net). pin_named c.index_mut.result.now n.name ≡ None) (sym c.new-pin.ensures.net) (subst (λ (b : BlockView). pin_named b c.args.name ≡ None) read none)
