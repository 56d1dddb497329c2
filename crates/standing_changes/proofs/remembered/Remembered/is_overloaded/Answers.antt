use Rattle.std.proofs.Common.{ℕ, IsTrue, subst}
use Rattle.environment_sets.specs.Members.{members}
use Rattle.environment_sets.specs.Sets.{Set}
use Rattle.assumption_slots.specs.Slots.{stock}
use Rattle.standing_view.proofs.Named.{the_mask_is_remembered}
use Rattle.standing_changes.proofs.Loads.{load_decides}
use Rattle.standing_changes.proofs.remembered.Remembered.is_overloaded.Goals as goal

pub load_under-requires : goal.load_under-requires
load_under-requires c =
    let some = c.requires in
    λ k h. the_mask_is_remembered (stock c.args.self.now.engine.slots) c.args.self.now.standing some.present some.parked some.stands k (let P : Set ℕ → Type 0 = λ M. IsTrue (M k) in subst P c.mask.ensures h)

pub returns : goal.returns
returns c = λ s parked r. load_decides (stock c.args.self.now.engine.slots) c.args.self.now.standing s parked r (members c.mask.result) c.mask.ensures c.load_under.result c.load_under.ensures
