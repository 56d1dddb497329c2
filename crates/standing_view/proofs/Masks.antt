-- The mask with one slot more.
use Rattle.std.proofs.Common.{◌≡◌, ℕ, ◌⊎◌, inl, inr, IsTrue, List, [], ◌∷◌, ◌++◌, refl}
use Rattle.std.specs.List.{insert}
use Rattle.std.proofs.lemmas.Bool.{or_cases, or_left, or_right, eqb-true, eq-eqb}
use Rattle.circuit_model.specs.declared.model.Cell.{Cell}
use Rattle.circuit_model.proofs.Settled.{same_set}
use Rattle.environment_sets.specs.Sets.{only, ◌∪◌}
use Rattle.environment_sets.specs.Lists.{IsIn}
use Rattle.environment_sets.proofs.Listings.{IsIn-push, IsIn-front, IsIn-last}
use Rattle.environment_sets.proofs.Membership.{IsIn-append, IsIn-left, IsIn-right}
use Rattle.standing_view.specs.Standing.{Stands, is_among, parts_of, readings_of, mask_of, order_of, place_among, with_part_at, with_reading_at}
use Rattle.standing_view.proofs.Inserted.{in_inserted, kept_inserted, there_inserted}
use Rattle.standing_view.proofs.Places.{among_listed, listed_among}

-- a list with what another has, and one number more
among_more : (xs ys : List ℕ) (z : ℕ) → IsIn ys z → ((k : ℕ) → IsIn xs k → IsIn ys k) → ((k : ℕ) → IsIn ys k → (z ≡ k) ⊎ IsIn xs k) → is_among xs ∪ only z ≡ is_among ys
among_more xs ys z there kept from = same_set (is_among xs ∪ only z) (is_among ys)
    (λ k h. elim (or_cases (is_among xs k) (only z k) h) as (λ _. IsTrue (is_among ys k)) [
      | inl old ↦ listed_among ys k (kept k (among_listed xs k old))
      | inr new ↦ listed_among ys k (at k (eqb-true k z new))
    ])
    (λ k h. elim (from k (among_listed ys k h)) as (λ _. IsTrue ((is_among xs ∪ only z) k)) [
      | inl e ↦ or_right (is_among xs k) (only z k) (is_only k e)
      | inr l ↦ or_left (is_among xs k) (only z k) (listed_among xs k l)
    ])
  where
    at : (k : ℕ) → k ≡ z → IsIn ys k
    at k e = rw e there

    is_only : (k : ℕ) → z ≡ k → IsTrue (only z k)
    is_only k e = rw (← e) (eq-eqb z z refl)

module _ (st : Stands) (slot : ℕ) where
  pub part_among : parts_of st ∪ only slot ≡ parts_of (with_part_at slot st)
  part_among =
      among_more st.parts (st.parts ++ slot ∷ []) slot (IsIn-last st.parts slot slot refl) (λ k h. IsIn-front st.parts slot k h)
      (λ k h. elim (IsIn-push st.parts slot k h) as (λ _. (slot ≡ k) ⊎ IsIn st.parts k) [ inl old ↦ inr old | inr new ↦ inl new ])

  pub reading_among : (c : Cell) → readings_of st ∪ only slot ≡ readings_of (with_reading_at slot c st)
  reading_among c =
      let place : ℕ = place_among c st.cells in
      among_more st.slots (insert st.slots place slot) slot (there_inserted [] st.slots place slot) (λ k h. kept_inserted [] st.slots place slot k h) (λ k h. in_inserted [] st.slots place slot k h)

-- what stands is a component's or a measurement's
pub mask_of_both : (st : Stands) → parts_of st ∪ readings_of st ≡ mask_of st
mask_of_both st = same_set (parts_of st ∪ readings_of st) (mask_of st)
    (λ k h. elim (or_cases (parts_of st k) (readings_of st k) h) as (λ _. IsTrue (mask_of st k)) [
      | inl part ↦ listed_among (order_of st) k (IsIn-left st.parts st.slots k (among_listed st.parts k part))
      | inr reading ↦ listed_among (order_of st) k (IsIn-right st.parts st.slots k (among_listed st.slots k reading))
    ])
    (λ k h. elim (IsIn-append st.parts st.slots k (among_listed (order_of st) k h)) as (λ _. IsTrue ((parts_of st ∪ readings_of st) k)) [
      | inl part ↦ or_left (parts_of st k) (readings_of st k) (listed_among st.parts k part)
      | inr reading ↦ or_right (parts_of st k) (readings_of st k) (listed_among st.slots k reading)
    ])
