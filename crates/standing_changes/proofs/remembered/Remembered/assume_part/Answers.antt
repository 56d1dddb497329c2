use Rattle.std.proofs.Common.{◌≡◌, ◌-◌, ℕ, List, length, Some, sym, subst}
use Rattle.std.specs.List.{slice_get}
use Rattle.circuit_model.specs.declared.model.Assumption.TheVariants.{Part}
use Rattle.circuit_model.specs.declared.model.Instance.{Instance}
use Rattle.circuit_model.specs.declared.present.Component.{Component}
use Rattle.circuit_model.specs.Present.{PresentView, without_last_part}
use Rattle.circuit_model.specs.Stock.{Stock}
use Rattle.circuit_model.proofs.Presents.{IsLawful-without_last}
use Rattle.environment_sets.specs.Lists.{IsIn}
use Rattle.assumption_slots.specs.Slots.{stock}
use Rattle.label_engine.specs.Engine.{Remembers}
use Rattle.standing_view.specs.Standing.{Stands, order_of, with_part_at}
use Rattle.standing_view.specs.View.{StandsFor}
use Rattle.standing_view.proofs.Named.{free_slots_do_not_stand}
use Rattle.standing_view.proofs.Room.{some_slot_is_free}
use Rattle.standing_view.proofs.Growing.{one_component_more}
use Rattle.standing_changes.proofs.Dropped.{last_again}
use Rattle.standing_changes.proofs.remembered.Remembered.assume_part.Goals as goal

pub assume-requires : goal.assume-requires
assume-requires g c =
    let before : PresentView = without_last_part c.args.present.now in
    some_slot_is_free (stock c.args.self.now.engine.slots) c.args.self.now.standing before c.requires.stands.parked c.requires.stands.stands (IsLawful-without_last c.args.present.now c.parts.ensures.lawful c.requires.unused) c.requires.stands.few

pub add_part-requires-clause-free : goal.add_part-requires-clause-free
add_part-requires-clause-free g c =
    let before : PresentView = without_last_part c.args.present.now in
    let Out : Stands → Type 0 = λ st. IsIn (order_of st) c.in_ok-slot.slot → ⊥ in
    subst Out (sym c.assume.ensures.standing) (free_slots_do_not_stand (stock c.args.self.now.engine.slots) c.args.self.now.standing before c.requires.stands.parked c.requires.stands.stands c.in_ok-slot.slot c.in_ok-slot.ensures.ok.free)

pub returns-clause-ok : goal.returns-clause-ok
returns-clause-ok g c =
    let S : Stock ℕ = stock c.args.self.now.engine.slots in
    let R : Stock ℕ = stock c.assume.new.self.engine.slots in
    let slot : ℕ = c.in_ok-slot.slot in
    let last : Component = c.part_at.result.now in
    let front : PresentView = without_last_part c.args.present.now in
    let same : c.in_ok-part.part ≡ last.part = c.in_ok-part.ensures in
    let P : List Instance → Type 0 = λ part. Remembers S slot (Part part) R in
    let m : Remembers S slot (Part last.part) R = subst P same c.in_ok-slot.ensures.ok in
    let at : slice_get c.args.present.now.parts (length c.args.present.now.parts - 1) ≡ Some last = (let P : ℕ → Type 0 = λ n. slice_get c.args.present.now.parts (n - 1) ≡ Some last in subst P c.parts.ensures.value c.part_at.ensures) in
    λ parked r.
    let more = one_component_more S R c.args.self.now.standing front parked slot last r m in
    let Q : PresentView → Type 0 = λ s. StandsFor R (with_part_at slot c.args.self.now.standing) s parked in
    let T : Stands → Type 0 = λ st. StandsFor R (with_part_at slot st) c.args.present.now parked in
    rw c.add_part.ensures (subst T (sym c.assume.ensures.standing) (subst Q (last_again c.args.present.now last c.requires.some at) more))
