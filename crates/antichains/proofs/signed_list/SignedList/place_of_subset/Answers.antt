use Rattle.std.proofs.Common.{◌≡◌, ap, ◌∙◌, arith, length}
use Rattle.std.proofs.lemmas.List.{length-map}
use Rattle.environment_sets.specs.Sets.{◌⊆◌}
use Rattle.environment_sets.specs.Members.{members}
use Rattle.environment_sets.specs.Signatures.{signature}
use Rattle.antichains.proofs.Signing.{not_covered}
use Rattle.antichains.proofs.Blocks.{none_from_last_block, none_in_any_block, none_from_this, none_at_all}
use Rattle.antichains.proofs.signed_list.SignedList.place_of_subset.Goals as goal

pub loop-block-init : goal.loop-block-init
loop-block-init c =
    let s = c.args.self.now in
    let long : length s.signatures.items ≡ length s.list.items = ap length c.requires.signatures ∙ length-map s.list.items signature in
    record {
      within = omega (arith, s.shared.ok.0, c.len-end.ensures);
      passed = none_from_last_block (λ e. members e ⊆ members c.args.env.now) s.list.items _ (omega (arith, s.shared.ok.0, c.len-end.ensures, c.requires.shared.blocks, long));
    }

pub loop-block-preserved : goal.loop-block-preserved
loop-block-preserved c =
    let s = c.args.self.now in
    record {
      within = omega (arith, c.loop-block.invariant.within, c.in-Some.ensures.before);
      passed = none_from_this s c.args.env.now c.signature-signature.result c.in-Some.block c.loop-block.end c.requires c.signature-signature.ensures.word c.loop-block.invariant.passed c.in-Some.ensures.last c.in_default-place_in_block.ensures;
    }

pub returns : goal.returns
returns c =
    let s = c.args.self.now in
    not_covered c.args.env.now s.list.items
    (none_in_any_block (λ e. members e ⊆ members c.args.env.now) s.list.items
    (none_at_all s c.args.env.now c.signature-signature.result 0 c.loop-block.end c.requires c.signature-signature.ensures.word c.loop-block.invariant.passed c.in_default.ensures))
