use Rattle.std.proofs.Common.{◌≡◌, ◌*◌, ◌/◌, ◌^◌, ◌<◌, ap, ◌∙◌}
use Rattle.std.proofs.lemmas.Bool.{false≢true}
use Rattle.word_domain.proofs.Masks.{quotient_is}
use Rattle.word_domain.proofs.width.Width.quotient.Goals as goal
use Rattle.word_domain.proofs.width.Width.quotient.Goals.{else-quotient-a-via-then-quotient-a+else-fits, else-quotient-a-via-else-quotient-a}

pub returns-else-quotient-a-clause-where_there_is_one : goal.returns-else-quotient-a-clause-where_there_is_one
returns-else-quotient-a-clause-where_there_is_one c q h =
    let is : c.args.z / c.args.a ≡ q = quotient_is c.args.self c.args.z c.args.a q c.requires h in
    elim c.else-quotient-a.branch [
      | else-quotient-a-via-then-quotient-a+else-fits w ↦
          let fits : c.args.z / c.args.a < 2 ^ c.args.self = rw is h.fits in
          absurd (false≢true (w.if-fits.ensures.1 fits))
      | else-quotient-a-via-else-quotient-a w ↦ absurd (w.if-quotient-a.false (ap (λ k. k * c.args.a) is ∙ h.product))
    ]
