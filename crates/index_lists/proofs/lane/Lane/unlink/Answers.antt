use Rattle.std.proofs.Common.{◌≡◌, ◌∙◌, Some, sym, subst}
use Rattle.std.specs.Vec.{with_items}
use Rattle.std.proofs.lemmas.List.{with_items_is}
use Rattle.environment_sets.specs.Lists.{IsIn}
use Rattle.index_lists.specs.Lists.{Lists, IsInSome, list_at}
use Rattle.index_lists.specs.Links.{place_at}
use Rattle.index_lists.proofs.Edits.{some_place, head_low, before_low, after_low, cut_linked, cut_changes}
use Rattle.index_lists.proofs.lane.Lane.unlink.Goals as goal

pub place_of-place-requires : goal.place_of-place-requires
place_of-place-requires c =
    let s = c.self.inside in
    let P : Lists → Type 0 = λ l. IsInSome l c.args.key in
    rw c.deref.ensures.value (some_place s.firsts.items s.places.items c.self.invariant c.args.key (subst P (sym c.self.view_is) c.requires))

pub cut_out-requires-clause-made : goal.cut_out-requires-clause-made
cut_out-requires-clause-made c =
    let s = c.self.inside in
    let p = c.place_of-place.result in
    let at : place_at s.places.items c.args.key ≡ Some p = rw c.deref.ensures.value at c.place_of-place.ensures in
    rw c.deref_mut.ensures.value (head_low s.firsts.items s.places.items c.self.invariant c.args.key p.head p.before p.after at)

pub cut_out-requires-clause-before : goal.cut_out-requires-clause-before
cut_out-requires-clause-before c =
    let s = c.self.inside in
    let p = c.place_of-place.result in
    let at : place_at s.places.items c.args.key ≡ Some p = rw c.deref.ensures.value at c.place_of-place.ensures in
    rw c.deref_mut-2.ensures.value (before_low s.firsts.items s.places.items c.self.invariant c.args.key p.head p.before p.after at)

pub cut_out-requires-clause-after : goal.cut_out-requires-clause-after
cut_out-requires-clause-after c =
    let s = c.self.inside in
    let p = c.place_of-place.result in
    let at : place_at s.places.items c.args.key ≡ Some p = rw c.deref.ensures.value at c.place_of-place.ensures in
    rw c.deref_mut-2.ensures.value (after_low s.firsts.items s.places.items c.self.invariant c.args.key p.head p.before p.after at)

pub invariant_of-self : goal.invariant_of-self
invariant_of-self c =
    let s = c.self.inside in
    let p = c.place_of-place.result in
    let at : place_at s.places.items c.args.key ≡ Some p = rw c.deref.ensures.value at c.place_of-place.ensures in
    let firsts : (with_items s.firsts c.cut_out.new.firsts).items ≡ c.cut_out.new.firsts = with_items_is s.firsts c.cut_out.new.firsts (c.cut_out.auto.firsts ∙ c.deref_mut.ensures.len) in
    let places : (with_items s.places c.cut_out.new.places).items ≡ c.cut_out.new.places = with_items_is s.places c.cut_out.new.places (c.cut_out.auto.places ∙ c.deref_mut-2.ensures.len) in
    rw (firsts, places, c.cut_out.ensures.firsts, c.cut_out.ensures.places, c.deref_mut.ensures.value, c.deref_mut-2.ensures.value) (cut_linked s.firsts.items s.places.items c.self.invariant c.args.key p.head p.before p.after at)

pub returns : goal.returns
returns c h i =
    let s = c.self.inside in
    let p = c.place_of-place.result in
    let at : place_at s.places.items c.args.key ≡ Some p = rw c.deref.ensures.value at c.place_of-place.ensures in
    let firsts : (with_items s.firsts c.cut_out.new.firsts).items ≡ c.cut_out.new.firsts = with_items_is s.firsts c.cut_out.new.firsts (c.cut_out.auto.firsts ∙ c.deref_mut.ensures.len) in
    let places : (with_items s.places c.cut_out.new.places).items ≡ c.cut_out.new.places = with_items_is s.places c.cut_out.new.places (c.cut_out.auto.places ∙ c.deref_mut-2.ensures.len) in
    let P : Lists → Type 0 = λ l. IsIn (list_at l h) c.args.key in
    rw (← c.self.view_is, firsts, places, c.cut_out.ensures.firsts, c.cut_out.ensures.places, c.deref_mut.ensures.value, c.deref_mut-2.ensures.value)
    (cut_changes s.firsts.items s.places.items c.self.invariant c.args.key p.head p.before p.after at h (subst P (sym c.self.view_is) i))
