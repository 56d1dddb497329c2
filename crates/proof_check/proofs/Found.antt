-- What a search through a list finds.
use Rattle.std.proofs.Common.{◌≡◌, ℕ, ◌<◌, ◌≤◌, true, false, IsTrue, List, length, map, Some, slice_get, true≢false, refl, sym, ap, subst, ◌∙◌, arith}
use Rattle.std.specs.Option.{option_map}
use Rattle.std.proofs.lemmas.Option.{slice_get-map, slice_get_within}
use Rattle.std.proofs.lemmas.List.{length-map}
use Rattle.environment_sets.specs.Lists.{IsIn}
use Rattle.environment_sets.proofs.Membership.{IsIn-slice_get, slice_get-IsIn}
use Rattle.circuit_model.specs.Derivation.{fact_of}
use Rattle.proof_check.specs.declared.derivation.Step.{Step}
use Rattle.proof_check.specs.Written.{step_of, facts_of}

module _ {X : Type 0} where
  pub found : (xs : List X) (i : ℕ) (x y : X) → slice_get xs i ≡ Some x → x ≡ y → (IsTrue true → IsIn xs y) × (IsIn xs y → IsTrue true)
  found xs i x y e same = (λ _. let Q : X → Type 0 = λ z. IsIn xs z in subst Q same (IsIn-slice_get xs i x e), λ _. refl)

  pub not_found : (xs : List X) (n : ℕ) (y : X) → length xs ≤ n → ((k : ℕ) → k < n → slice_get xs k ≡ Some y → ⊥) → (IsTrue false → IsIn xs y) × (IsIn xs y → IsTrue false)
  not_found xs n y all none = (
    λ e. absurd (true≢false (sym e)),
    λ h.
        let at : (k : ℕ) × (slice_get xs k ≡ Some y) = slice_get-IsIn xs y h in
        let inside : at.0 < length xs = slice_get_within xs at.0 y at.1 in
        absurd (none at.0 (omega arith) at.1),
  )

-- the fact of the step there
pub fact_at_place : (steps : List Step) (k : ℕ) (s : Step) → slice_get steps k ≡ Some s → slice_get (facts_of steps) k ≡ Some (fact_of (step_of s))
fact_at_place steps k s e = slice_get-map fact_of (map step_of steps) k ∙ (ap (option_map fact_of) (slice_get-map step_of steps k) ∙ ap (λ o. option_map fact_of (option_map step_of o)) e)

pub length-facts_of : (steps : List Step) → length (facts_of steps) ≡ length steps
length-facts_of steps = length-map (map step_of steps) fact_of ∙ length-map steps step_of
