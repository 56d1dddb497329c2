-- A measurement that is remembered stands again.
use Rattle.std.proofs.Common.{◌≡◌, None, subst}
use Rattle.circuit_model.specs.declared.model.Fact.{Fact}
use Rattle.circuit_model.specs.Present.{PresentView, reading_in, with_standing, without_standing}
use Rattle.standing_view.specs.View.{without_fact}
use Rattle.standing_changes.specs.declared.remembered.Remembered.{Remembered}
use Rattle.standing_changes.specs.Remembered.{Leads, StandsWith}

-- what leads from any present to that with the measurement leads to the one that has it
pub leads_to :
    (old new : Remembered) (t : PresentView) (f : Fact) → reading_in (without_standing f.cell t).readings f.cell ≡ None → with_standing f (without_standing f.cell t) ≡ t
    → ((s : PresentView) → reading_in s.readings f.cell ≡ None → Leads old new s (with_standing f s) (without_fact f)) → Leads old new (without_standing f.cell t) t (without_fact f)
leads_to old new t f free listed leads parked r =
    let At : PresentView → Type 0 = λ u. StandsWith new u (without_fact f parked) in
    subst At listed (leads (without_standing f.cell t) free parked r)
