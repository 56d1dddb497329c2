use Rattle.std.proofs.Common.{◌≡◌, ◌<◌, ℕ, inl, inr, Some, length, sym, ap, subst, ◌∙◌, arith}
use Rattle.std.specs.List.{slice_get}
use Rattle.std.proofs.lemmas.Option.{slice_get-get_or}
use Rattle.environment_sets.specs.declared.environment.Env.{Env}
use Rattle.environment_sets.specs.Members.{members, HasMember}
use Rattle.environment_sets.proofs.Membership.{map-IsIn, IsIn-slice_get}
use Rattle.antichains.specs.Completed.{Complete, Lacking}
use Rattle.antichains.proofs.completing.completing.Goals as goal
use Rattle.antichains.proofs.completing.completing.Goals.{then-rest-eq0, else-rest-eq0+else-rest-eq0-2}

pub loop-place-preserved : goal.loop-place-preserved
loop-place-preserved c =
    let es = c.args.signed.now.list.items in
    let i : ℕ = c.loop-place.place in
    let P : Env → Type 0 = λ slots. Complete (members slots) (Lacking c.args.lacked (HasMember es)) (members c.args.env.now) in
    elim c.if-rest-eq0.branch [
      | then-rest-eq0 w ↦
          let member : Env = w.index-then-rest-eq0.result.now in
          let low : i < length es = omega (arith, c.args.signed.now.list.ok.0, c.len-place-end.ensures, c.loop-place-test.true) in
          let at : slice_get es i ≡ Some member = slice_get-get_or es i member low ∙ ap (λ x. Some x) (sym w.index-then-rest-eq0.ensures) in
          subst P (sym w.slots-is) (λ n h. elim (w.with_completing-slots.ensures n h) [
            | inl before ↦ c.loop-place.invariant n before
            | inr completed ↦ (members member, (map-IsIn members es member (IsIn-slice_get es i member at), completed.lacks), completed.within)
          ])
      | else-rest-eq0+else-rest-eq0-2 w ↦ subst P (sym w.slots-is) c.loop-place.invariant
    ]
