use Rattle.std.proofs.Common.{ℕ, bit_and}
use Rattle.std.proofs.lemmas.Bool.{eqb-true}
use Rattle.environment_sets.specs.Signatures.{signature}
use Rattle.antichains.proofs.Signing.{own_number, subset_needs}
use Rattle.antichains.proofs.signed_list.SignedList.is_superset_at.Goals as goal

pub returns-else-signature-index : goal.returns-else-signature-index
returns-else-signature-index c = λ e at.
    let own : ℕ = c.index.result.now in
    let other = c.if-signature-index.false in (
      λ h. absurd (other (eqb-true (bit_and c.args.signature own) c.args.signature h)),
      λ within. absurd (other (subset_needs c.args.env.now e c.args.signature own c.requires.signature (own_number signature c.args.self.now.list.items c.args.self.now.signatures.items c.args.place _ own e c.requires.signed.signatures c.index.ensures at) within)),
    )
