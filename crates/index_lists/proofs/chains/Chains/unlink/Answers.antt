use Rattle.std.proofs.Common.{ℕ, sym, subst}
use Rattle.index_lists.specs.Lists.{IsInSome, list_at, without}
use Rattle.index_lists.specs.Chains.{lane_at}
use Rattle.index_lists.specs.Kept.{lane_of}
use Rattle.index_lists.proofs.Links.{left_in}
use Rattle.index_lists.proofs.Keeping.{kept_changed}
use Rattle.index_lists.proofs.chains.Chains.unlink.Goals as goal

pub invariant_of-self : goal.invariant_of-self
invariant_of-self g c =
    let s = c.self.inside in
    let key : ℕ = c.args.key.place in
    let listed : IsInSome (lane_of s.lanes c.args.lane) key = subst (λ v. IsInSome (lane_at v c.args.lane) key) (sym c.self.view_is) c.requires.listed in
    kept_changed s.items.slots s.lanes c.unlink_in.new.lanes c.args.lane c.self.invariant c.unlink_in.auto.lanes c.unlink_in.ensures.others listed.0 (without key (list_at (lane_of s.lanes c.args.lane) listed.0)) (c.unlink_in.ensures.here listed.0 listed.1)
    (λ k i. c.self.invariant.there c.args.lane listed.0 k (left_in key k (list_at (lane_of s.lanes c.args.lane) listed.0) i))
