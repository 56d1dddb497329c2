-- What is left while nodes and inferences are dropped. No public clause cites this module.
use Rattle.std.specs.Prelude.{◌≡◌, ℕ, Some}
use Rattle.justifications.specs.Chained.{IsRemoved}
use Rattle.justifications.specs.Woven.{Woven, inferred_at}
use Rattle.justifications.specs.declared.model.Inferred as woven
use Rattle.inference_search.specs.declared.inferred.Inferred.{Inferred}
use Rattle.recorded_inferences.specs.Recorded.{told}

-- the same are recorded under the same names, and told alike
pub record AreToldAlike (old new : Woven) : Type 0 where
  pub inferences : new.inferences ≡ old.inferences
  pub alike : (j : ℕ) (x : woven.Inferred) → inferred_at old j ≡ Some x → told new x ≡ told old x

-- the name has no inference any more; the others have what they had, and it is told alike
pub record IsLess (old new : Woven) (name : ℕ) : Type 0 where
  pub removed : IsRemoved old.inferences new.inferences name
  pub alike : (j : ℕ) (x : woven.Inferred) → inferred_at new j ≡ Some x → told new x ≡ told old x

-- what is recorded was recorded, under the same name and told alike, and what has not the property is recorded still
pub record AreLeft (P : Inferred → Type 0) (old now : Woven) : Type 0 where
  pub same : (j : ℕ) (x : woven.Inferred) → inferred_at now j ≡ Some x → inferred_at old j ≡ Some x
  pub alike : (j : ℕ) (x : woven.Inferred) → inferred_at now j ≡ Some x → told now x ≡ told old x
  pub stay : (j : ℕ) (x : woven.Inferred) → inferred_at old j ≡ Some x → (P (told old x) → ⊥) → inferred_at now j ≡ Some x
