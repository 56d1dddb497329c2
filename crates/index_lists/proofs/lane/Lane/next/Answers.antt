use Rattle.std.proofs.Common.{◌≡◌, Some, sym, subst}
use Rattle.environment_sets.specs.Lists.{IsIn}
use Rattle.index_lists.specs.Lists.{Lists, IsInSome, list_at, next_in}
use Rattle.index_lists.specs.Links.{place_at}
use Rattle.index_lists.proofs.Edits.{some_place, next_after}
use Rattle.index_lists.proofs.lane.Lane.next.Goals as goal

pub place_of-requires : goal.place_of-requires
place_of-requires c =
    let s = c.self.inside in
    let P : Lists → Type 0 = λ l. IsInSome l c.args.key in
    rw c.deref.ensures.value (some_place s.firsts.items s.places.items c.self.invariant c.args.key (subst P (sym c.self.view_is) c.requires))

pub returns : goal.returns
returns c h =
    let s = c.self.inside in
    let p = c.place_of.result in
    let P : Lists → Type 0 = λ l. IsIn (list_at l h) c.args.key → p.after ≡ next_in (list_at l h) c.args.key in
    let at : place_at s.places.items c.args.key ≡ Some p = rw c.deref.ensures.value at c.place_of.ensures in
    subst P c.self.view_is (next_after s.firsts.items s.places.items c.self.invariant c.args.key p.head p.before p.after at h)
