-- What follows from lists of exactly the labels or the conflicts.
use Rattle.std.proofs.Common.{◌≡◌, ℕ, ◌⊎◌, inl, inr, true, false, IsTrue, true≢false, refl, sym, subst, ◌∙◌, ◌↔◌, nat_lt, List, [], ◌∷◌, length, arith}
use Rattle.std.proofs.lemmas.Bool.{and_parts}
use Rattle.std.proofs.lemmas.Bool.Decides.{nat_tests}
use Rattle.environment_sets.specs.Sets.{Set, ◌⊆◌, IsBelow, is_within, others, Hits}
use Rattle.environment_sets.specs.Lists.{IsIn}
use Rattle.environment_sets.proofs.Within.{within_holds, holds_within}
use Rattle.circuit_model.specs.Stock.{Has}
use Rattle.environment_sets.specs.Families.{IsCovered}
use Rattle.circuit_model.specs.Laws.{ListedLabelsCover}
use Rattle.circuit_model.specs.Diagnoses.{Circuit, AreRefuted, IsConflict, IsDiagnosis, SomeDiagnosis, NoCircuitLacksADiagnosis}
use Rattle.circuit_model.proofs.Monotony.{Has-more, IsRefutedBy-more}
use Rattle.circuit_model.proofs.Reiter.{shrink, tight-least, not_without_least, find, others-low, in_others, not_in_others, consistent_of_hits}
use Rattle.circuit_model.proofs.Diagnoses.{AreRefuted-more, readings_are_consistent}

-- a set of numbers below n is a subset or not
decide_subset : (n : ℕ) (E F : Set ℕ) → IsBelow n E → (E ⊆ F) ⊎ (E ⊆ F → ⊥)
decide_subset n E F low =
    elim (is_within n E F) as (λ b. is_within n E F ≡ b → (E ⊆ F) ⊎ (E ⊆ F → ⊥)) [
      | true ↦ λ yes. inl (within_holds n E F low yes)
      | false ↦ λ no. inr (λ within. true≢false (sym (holds_within n E F within) ∙ no))
    ] refl

-- either a listed set is a subset, or none is
pub decide_covered : (n : ℕ) (E : Set ℕ) (xs : List (Set ℕ)) → ((m : Set ℕ) → IsIn xs m → IsBelow n m) → IsCovered (IsIn xs) E ⊎ (IsCovered (IsIn xs) E → ⊥)
decide_covered n E [] low = inr (λ c. c.1)
decide_covered n E (x ∷ xs) low =
    elim (decide_subset n x E (low x (inl refl))) [
      | inl within ↦ inl (x, inl refl, within)
      | inr out ↦ elim (decide_covered n E xs (λ m h. low m (inr h))) [
        | inl c ↦ inl (c.0, inr c.1, c.2)
        | inr none ↦ inr (λ c. elim c.1 [
          | inl e ↦ out (let P : Set ℕ → Type 0 = λ s. s ⊆ E in subst P (sym e) c.2)
          | inr later ↦ none (c.0, later, c.2)
        ])
      ]
    ]

pub listed_labels_cover : ListedLabelsCover
listed_labels_cover n S names f xs exact E env fine has =
    elim (decide_covered n E xs (λ m h k i. names k (((exact m).0 h).environment k i))) [
      | inl found ↦ found
      | inr none ↦ absurd (not_without_least (Has S f) (λ A B within h. Has-more S f A B within h) n E (λ k i. names k (env k i)) has (λ C within least.
          none (C, (exact C).1 (record { environment = λ k i. env k (within k i); consistent = λ clash. fine (IsRefutedBy-more S C E within clash); minimal = least }), within)))
    ]

module _ (P : Circuit) where
  abbrev n : ℕ
  n = length P.parts

  abbrev Good : Set ℕ → Type 0
  Good D = AreRefuted P (others n D) → ⊥

  grows : (D E : Set ℕ) → D ⊆ E → Good D → Good E
  grows D E within good bad = good (AreRefuted-more P _ _ (λ k h. in_others (AreRefuted P) (AreRefuted-more P) n D k (others-low (AreRefuted P) (AreRefuted-more P) n E k h) (λ d. not_in_others (AreRefuted P) (AreRefuted-more P) n E k h (within k d))) bad)

  all_parts : Set ℕ
  all_parts k = nat_lt k n

  all-below : IsBelow n all_parts
  unfolding all_parts
  all-below k h = grind (arith, nat_tests)

  all-good : Good all_parts
  unfolding all_parts
  all-good bad = readings_are_consistent P (others n all_parts) (λ k h. not_in_others (AreRefuted P) (AreRefuted-more P) n all_parts k h ((and_parts _ _ h).0)) bad

  -- it is impossible that there is none
  pub not_none : ((D : Set ℕ) → IsDiagnosis P D → ⊥) → ⊥
  not_none none = not_without_least Good grows n all_parts all-below all-good (λ D within least. none D (record { positions = λ k h. all-below k (within k h); minimal = least }))

  -- with a listing of the conflicts one is found
  module _ (xs : List (Set ℕ)) (exact : (C : Set ℕ) → IsIn xs C ↔ IsConflict P C) where
    each_hit : (D : Set ℕ) (cs : List (Set ℕ)) → ((C : Set ℕ) → IsIn cs C → IsBelow n C) → ((C : Set ℕ) → IsIn cs C → Hits D C) ⊎ ((C : Set ℕ) × IsIn cs C × ((k : ℕ) → IsTrue (C k) → IsTrue (D k) → ⊥))
    each_hit D [] low = inl (λ C h. absurd h)
    each_hit D (c ∷ cs) low =
        elim (find (AreRefuted P) (AreRefuted-more P) n D c n) [
          | inr none ↦ inr (c, inl refl, λ k h d. none k (low c (inl refl) k h) h d)
          | inl hit ↦ elim (each_hit D cs (λ C h. low C (inr h))) [
            | inl all ↦ inl (λ C h. elim h [ inl e ↦ (let Q : Set ℕ → Type 0 = Hits D in subst Q e hit) | inr later ↦ all C later ])
            | inr out ↦ inr (out.0, inr out.1, out.2)
          ]
        ]

    decide : (D : Set ℕ) → Good D ⊎ (Good D → ⊥)
    decide D =
        elim (each_hit D xs (λ C h. ((exact C).0 h).positions)) [
          | inl all ↦ inl (consistent_of_hits (AreRefuted P) (AreRefuted-more P) n D (λ C small. all C ((exact C).1 (record { positions = small.0; minimal = small.1 }))))
          | inr out ↦ inr (λ good. good (AreRefuted-more P out.0 (others n D) (λ k h. in_others (AreRefuted P) (AreRefuted-more P) n D k (((exact out.0).0 out.1).positions k h) (out.2 k h)) ((exact out.0).0 out.1).minimal.holds))
        ]

    found : (D : Set ℕ) × IsDiagnosis P D
    found =
        shrink Good grows ((D : Set ℕ) × IsDiagnosis P D) (λ E good bad. elim (decide E) [ inl y ↦ good y | inr m ↦ bad m ]) n all_parts all-good (λ D within good tight.
        (D, record { positions = λ k h. all-below k (within k h); minimal = record { holds = good; least = tight-least Good grows n D (λ k h. all-below k (within k h)) tight } }))

pub some_diagnosis : SomeDiagnosis
some_diagnosis P xs exact = found P xs exact

pub no_circuit_lacks_a_diagnosis : NoCircuitLacksADiagnosis
no_circuit_lacks_a_diagnosis P none = not_none P none
