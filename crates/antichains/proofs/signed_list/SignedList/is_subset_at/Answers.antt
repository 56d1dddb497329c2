use Rattle.std.proofs.Common.{ℕ, bit_and}
use Rattle.std.proofs.lemmas.Bool.{eqb-true}
use Rattle.environment_sets.specs.Signatures.{signature}
use Rattle.antichains.proofs.Signing.{own_number, subset_needs}
use Rattle.antichains.proofs.signed_list.SignedList.is_subset_at.Goals as goal

pub returns-else-own-signature : goal.returns-else-own-signature
returns-else-own-signature c = λ e at.
    let own : ℕ = c.index-own.result.now in
    let other = c.if-own-signature.false in (
      λ h. absurd (other (eqb-true (bit_and own c.args.signature) own h)),
      λ within. absurd (other (subset_needs e c.args.env.now own c.args.signature (own_number signature c.args.self.now.list.items c.args.self.now.signatures.items c.args.place _ own e c.requires.signed.signatures c.index-own.ensures at) c.requires.signature within)),
    )
