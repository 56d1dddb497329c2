-- What a mask leaves of the labels and the nogoods.
use Rattle.std.proofs.Common.{◌≡◌, ◌↔◌, true, false, cond, IsTrue, IsSome, refl, Option, Some, None, List}
use Rattle.circuit_model.specs.declared.model.Fact.{Fact}
use Rattle.circuit_model.specs.Laws.{IsPartOf}
use Rattle.circuit_model.specs.Stock.{Stock, IsEnvironment, IsInLabel, IsNogood, within}
use Rattle.circuit_model.proofs.SmallerStock.{labels_of_a_part, nogoods_of_a_part}
use Rattle.environment_sets.specs.Sets.{Set, ◌⊆◌}
use Rattle.environment_sets.specs.Walks.{GivesNext}

module _ {N : Type 0} (M : Set N) (S : Stock N) where
  pub within_is_part : IsPartOf N (within M S) S
  within_is_part k a = elim (M k) as (λ b. cond b (S k) None ≡ Some a → S k ≡ Some a) [ true ↦ λ e. e | false ↦ λ e. absurd (cc) ]

  pub inside_of : (E : Set N) → IsEnvironment (within M S) E → E ⊆ M
  inside_of E env k h = elim (M k) as (λ b. IsSome (cond b (S k) None) → IsTrue b) [ true ↦ λ _. refl | false ↦ λ none. none ] (env k h)

  pub environment_within : (E : Set N) → E ⊆ M → IsEnvironment S E → IsEnvironment (within M S) E
  environment_within E inside env k h = let e : M k ≡ true = inside k h in rw e (env k h)

  -- the label over the assumptions of the mask has the members of the label that are inside the mask
  pub label_within : (f : Fact) (E : Set N) → IsInLabel (within M S) f E ↔ (IsInLabel S f E × (E ⊆ M))
  label_within f E = (
    λ h. (((labels_of_a_part N (within M S) S within_is_part f E).0 h).0, inside_of E h.environment),
    λ (h, inside). (labels_of_a_part N (within M S) S within_is_part f E).1 (h, environment_within E inside h.environment),
  )

  pub nogood_within : (E : Set N) → IsNogood (within M S) E ↔ (IsNogood S E × (E ⊆ M))
  nogood_within E = (
    λ h. (((nogoods_of_a_part N (within M S) S within_is_part E).0 h).0, inside_of E h.environment),
    λ (h, inside). (nogoods_of_a_part N (within M S) S within_is_part E).1 (h, environment_within E inside h.environment),
  )

-- families with the same members inside the mask have the same walks
module _
    {N : Type 0} (order : List N) (F G : Set N → Type 0) (mask : Set N) (to : (E : Set N) → E ⊆ mask → F E → G E)
    (from : (E : Set N) → E ⊆ mask → G E → F E)
  where
    pub next_alike : (last next : Option (Set N)) → GivesNext order F mask last next → GivesNext order G mask last next
    next_alike last None none = λ E further. none E (record { member = from E further.inside further.member; inside = further.inside; after = further.after })
    next_alike last (Some E) next = record {
      further = record { member = to E next.further.inside next.further.member; inside = next.further.inside; after = next.further.after };
      first = λ H further. next.first H (record { member = from H further.inside further.member; inside = further.inside; after = further.after });
    }
