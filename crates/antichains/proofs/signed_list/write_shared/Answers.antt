use Rattle.std.proofs.Common.{ℕ, List, ◌+◌, sym, subst, arith}
use Rattle.antichains.specs.Signed.{AreSharedBelow}
use Rattle.antichains.proofs.Blocks.{fewer_shared, one_more_shared, all_shared}
use Rattle.antichains.proofs.signed_list.write_shared.Goals as goal

pub loop-place-init : goal.loop-place-init
loop-place-init c = fewer_shared c.args.signatures.now c.args.shared.now c.args.from _ (omega arith) c.requires

pub share-requires : goal.share-requires
share-requires c = omega (arith, c.loop-place.invariant.blocks, c.loop-place-test.true)

pub loop-place-preserved : goal.loop-place-preserved
loop-place-preserved c =
    let ws : List ℕ = c.args.signatures.now in
    let i : ℕ = c.loop-place.place in
    subst (λ (l : List ℕ). AreSharedBelow ws l (i + 1)) (sym c.share.ensures) (one_more_shared ws c.loop-place.shared i c.loop-place.invariant c.loop-place-test.true)

pub returns : goal.returns
returns c = all_shared c.args.signatures.now c.loop-place.shared c.loop-place.place c.loop-place-test.false c.loop-place.invariant
