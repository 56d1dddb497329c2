-- Labels and nogoods of a smaller stock.
use Rattle.std.proofs.Common.{◌≡◌, Some, None, IsSome, true≢false, IsFalse, ap, refl, sym, ◌∙◌}
use Rattle.circuit_model.specs.declared.model.Fact.{Fact}
use Rattle.circuit_model.specs.declared.model.Assumption.{Assumption}
use Rattle.environment_sets.specs.Sets.{Set, ◌⊆◌, IsMinimal}
use Rattle.circuit_model.specs.Stock.{Stock, IsChosen, IsEnvironment, Has, IsRefutedBy, IsInLabel, IsNogood}
use Rattle.circuit_model.specs.Laws.{IsPartOf, LabelsOfAPart, NogoodsOfAPart, HasOneMore, OneMoreForLabels, OneMoreForNogoods}
use Rattle.circuit_model.proofs.Monotony.{Follows-map, Clashes-map}

module _ {N : Type 0} where
  module _ (S R : Stock N) (part : IsPartOf N S R) where
    chosen_of_part : (E : Set N) (a : Assumption) → IsChosen S E a → IsChosen R E a
    chosen_of_part E a h = record { name = h.name; chosen = h.chosen; named = part _ _ h.named }

    named_alike : (k : N) → IsSome (S k) → (a : Assumption) → R k ≡ Some a → S k ≡ Some a
    named_alike k some a e =
        elim (S k) as (λ x. S k ≡ x → IsSome x → x ≡ Some a) [
          | Some b ↦ λ s _. sym (part k b s) ∙ e
          | None ↦ λ s n. absurd (true≢false (sym n))
        ] refl some

    chosen_of_whole : (E : Set N) → IsEnvironment S E → (a : Assumption) → IsChosen R E a → IsChosen S E a
    chosen_of_whole E env a h = record { name = h.name; chosen = h.chosen; named = named_alike _ (env _ h.chosen) a h.named }

    environment_of_part : (E : Set N) → IsEnvironment S E → IsEnvironment R E
    environment_of_part E env k inside =
        elim (S k) as (λ x. S k ≡ x → IsSome x → IsSome (R k)) [
          | Some b ↦ λ s _. rw (part k b s) refl
          | None ↦ λ s n. absurd (true≢false (sym n))
        ] refl (env k inside)

    environment_below : (E F : Set N) → E ⊆ F → IsEnvironment S F → IsEnvironment S E
    environment_below E F within env k inside = env k (within k inside)

    -- a claim that holds of the environments of the part exactly where it does over the whole is minimal at the same ones
    IsMinimal-of_part : (P Q : Set N → Type 0) → ((E : Set N) → IsEnvironment S E → P E → Q E) → ((E : Set N) → IsEnvironment S E → Q E → P E) → (E : Set N) → IsEnvironment S E → IsMinimal P E → IsMinimal Q E
    IsMinimal-of_part P Q to from E env m = record {
      holds = to E env m.holds;
      least = λ F within q. m.least F within (from F (environment_below F E within env) q);
    }

    LabelsOfAPart-to : (f : Fact) (E : Set N) → IsInLabel S f E → IsInLabel R f E × IsEnvironment S E
    LabelsOfAPart-to f E h = (
      record {
        environment = environment_of_part E h.environment;
        consistent = λ clash. h.consistent (Clashes-map (chosen_of_whole E h.environment) clash);
        minimal = IsMinimal-of_part (Has S f) (Has R f) (λ F env has. Follows-map (chosen_of_part F) f has) (λ F env has. Follows-map (chosen_of_whole F env) f has) E h.environment h.minimal;
      },
      h.environment,
    )

    LabelsOfAPart-from : (f : Fact) (E : Set N) → IsInLabel R f E → IsEnvironment S E → IsInLabel S f E
    LabelsOfAPart-from f E h env = record {
      environment = env;
      consistent = λ clash. h.consistent (Clashes-map (chosen_of_part E) clash);
      minimal = IsMinimal-of_part (Has R f) (Has S f) (λ F env has. Follows-map (chosen_of_whole F env) f has) (λ F env has. Follows-map (chosen_of_part F) f has) E env h.minimal;
    }

    NogoodsOfAPart-to : (E : Set N) → IsNogood S E → IsNogood R E × IsEnvironment S E
    NogoodsOfAPart-to E h = (
      record {
        environment = environment_of_part E h.environment;
        minimal = IsMinimal-of_part (IsRefutedBy S) (IsRefutedBy R) (λ F env has. Clashes-map (chosen_of_part F) has) (λ F env has. Clashes-map (chosen_of_whole F env) has) E h.environment h.minimal;
      },
      h.environment,
    )

    NogoodsOfAPart-from : (E : Set N) → IsNogood R E → IsEnvironment S E → IsNogood S E
    NogoodsOfAPart-from E h env = record {
      environment = env;
      minimal = IsMinimal-of_part (IsRefutedBy R) (IsRefutedBy S) (λ F env has. Clashes-map (chosen_of_whole F env) has) (λ F env has. Clashes-map (chosen_of_part F) has) E env h.minimal;
    }

pub labels_of_a_part : (N : Type 0) → LabelsOfAPart N
labels_of_a_part N S R part f E = (LabelsOfAPart-to S R part f E, λ (h : IsInLabel R f E × IsEnvironment S E). LabelsOfAPart-from S R part f E h.0 h.1)

pub nogoods_of_a_part : (N : Type 0) → NogoodsOfAPart N
nogoods_of_a_part N S R part E = (NogoodsOfAPart-to S R part E, λ (h : IsNogood R E × IsEnvironment S E). NogoodsOfAPart-from S R part E h.0 h.1)

module _ {N : Type 0} (S R : Stock N) (one : N) (more : HasOneMore N S R one) (E : Set N) (without : IsFalse (E one)) where
  environment_without : IsEnvironment R E → IsEnvironment S E
  environment_without env k inside =
      elim (R k) as (λ x. R k ≡ x → IsSome x → IsSome (S k)) [
        | Some b ↦ λ r _. rw (more.1 k b (λ e. true≢false (sym inside ∙ (ap E e ∙ without))) r) refl
        | None ↦ λ r n. absurd (true≢false (sym n))
      ] refl (env k inside)

pub one_more_for_labels : (N : Type 0) → OneMoreForLabels N
one_more_for_labels N S R one more f E out =
    (λ (h : IsInLabel R f E). LabelsOfAPart-from S R more.0 f E h (environment_without S R one more E out h.environment), λ (h : IsInLabel S f E). (LabelsOfAPart-to S R more.0 f E h).0)

pub one_more_for_nogoods : (N : Type 0) → OneMoreForNogoods N
one_more_for_nogoods N S R one more E out =
    (λ (h : IsNogood R E). NogoodsOfAPart-from S R more.0 E h (environment_without S R one more E out h.environment), λ (h : IsNogood S E). (NogoodsOfAPart-to S R more.0 E h).0)
