use Rattle.std.proofs.Common.{inl, refl}
use Rattle.proof_check.proofs.Told.{alike_two, alike_alone}
use Rattle.proof_check.proofs.premises.are_alike.Goals as goal

pub returns-in-Some-Some : goal.returns-in-Some-Some
returns-in-Some-Some c =
    let two = alike_two c.args.from.now c.in-Some-Some.f c.in-Some-Some.g c.told-from c.in-Some-Some.is-0 c.in-Some-Some.is-1 in
    (λ t. two.0 (c.agrees_with.ensures.0 t), λ h. c.agrees_with.ensures.1 (two.1 h))

pub returns-in_default-2 : goal.returns-in_default-2
returns-in_default-2 c = (λ _. alike_alone c.args.from.now c.told-from (inl c.in_default.is-0), λ _. refl)
