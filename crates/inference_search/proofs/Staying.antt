-- What is done stays done.
use Rattle.std.proofs.Common.{ℕ, List, [], ◌∷◌, Option}
use Rattle.circuit_model.specs.declared.model.Cell.{Cell}
use Rattle.circuit_model.specs.declared.model.Fact.{Fact}
use Rattle.circuit_model.specs.declared.model.Instance.{Instance}
use Rattle.circuit_model.specs.declared.model.Assumption.{Assumption}
use Rattle.inference_search.specs.declared.inferred.Inferred.{Inferred}
use Rattle.inference_search.specs.Choices.{Stays, IsToldOf, IsTold, IsDone, AreThirdsDone, AreSecondsDone, IsDoneFrom, IsDoneAt}

IsToldOf-stays : (slot : ℕ) (cells : List Cell) (known : List (Option ℕ)) (to : Option Fact) (xs ys : List Inferred) → Stays xs ys → IsToldOf slot cells known xs to → IsToldOf slot cells known ys to
IsToldOf-stays slot cells known to xs ys stays h = (h.0, (h.1.0, stays h.1.0 h.1.1, h.1.2), h.2, h.3, h.4)

IsTold-stays : (slot : ℕ) (instance : Instance) (known : List (Option ℕ)) (xs ys : List Inferred) → Stays xs ys → IsTold slot instance known xs → IsTold slot instance known ys
IsTold-stays slot instance known xs ys stays told = record {
  forced = λ p v c e f. IsToldOf-stays slot instance.cells known _ xs ys stays (told.forced p v c e f);
  refuted = λ r. IsToldOf-stays slot instance.cells known _ xs ys stays (told.refuted r);
}

module _ (slot : ℕ) (must : Option Fact) where
  module _ (instance : Instance) where
    pub IsDone-stays : (known : List (Option ℕ)) (xs ys : List Inferred) → Stays xs ys → IsDone slot instance must known xs → IsDone slot instance must known ys
    IsDone-stays known xs ys stays done alike uses = IsTold-stays slot instance known xs ys stays (done alike uses)

    pub AreThirdsDone-stays : (thirds : List (Option ℕ)) (a b : Option ℕ) (xs ys : List Inferred) → Stays xs ys → AreThirdsDone slot instance must thirds a b xs → AreThirdsDone slot instance must thirds a b ys
    AreThirdsDone-stays thirds a b xs ys stays done z h = IsDone-stays (a ∷ b ∷ z ∷ []) xs ys stays (done z h)

    pub AreSecondsDone-stays : (seconds thirds : List (Option ℕ)) (a : Option ℕ) (xs ys : List Inferred) → Stays xs ys → AreSecondsDone slot instance must seconds thirds a xs → AreSecondsDone slot instance must seconds thirds a ys
    AreSecondsDone-stays seconds thirds a xs ys stays done b h = AreThirdsDone-stays thirds a b xs ys stays (done b h)

  module _ (from : List Fact) where
    pub IsDoneFrom-stays : (instance : Instance) (xs ys : List Inferred) → Stays xs ys → IsDoneFrom slot from must instance xs → IsDoneFrom slot from must instance ys
    IsDoneFrom-stays instance xs ys stays done known held uses = IsTold-stays slot instance known xs ys stays (done known held uses)

    pub IsDoneAt-stays : (slots : List (Option Assumption)) (xs ys : List Inferred) → Stays xs ys → IsDoneAt slots from must slot xs → IsDoneAt slots from must slot ys
    IsDoneAt-stays slots xs ys stays done part e instance h = IsDoneFrom-stays instance xs ys stays (done part e instance h)
