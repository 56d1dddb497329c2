-- Positions, sets of them and costs, gathered one after another.
use Rattle.std.proofs.Common.{◌≡◌, ℕ, zero, suc, ◌+◌, ◌<◌, ◌≤◌, ◌==◌, ◌⊎◌, inl, inr, Bool, true, false, cond, IsTrue, List, [], ◌∷◌, ◌++◌, length, map, take, Some, refl, sym, ap, subst, ◌∙◌, arith, zero-add}
use Rattle.std.specs.List.{slice_get, range_with_len}
use Rattle.std.proofs.lemmas.Bool.{or_cases, or_left, or_right, false≢true}
use Rattle.std.proofs.lemmas.Bool.Decides.{nat_tests}
use Rattle.std.proofs.lemmas.List.{map-append}
use Rattle.environment_sets.specs.Sets.{Set, no_elements, only, ◌∪◌}
use Rattle.environment_sets.proofs.Ranges.{last_or_before, is_only, only_is}
use Rattle.circuit_model.proofs.Settled.{same_set}
use Rattle.standing_view.specs.Standing.{Stands}
use Rattle.standing_view.specs.Positions.{positions}
use Rattle.standing_view.proofs.PartSets.{positions_are_in_range}

-- the elements of the set that are below the place
pub record AreBelow (p : Set ℕ) (n : ℕ) (E : Set ℕ) : Type 0 where
  pub sound : (i : ℕ) → IsTrue (E i) → IsTrue (p i)
  pub all : (i : ℕ) → i < n → IsTrue (p i) → IsTrue (E i)

pub none_below : (p : Set ℕ) (E : Set ℕ) → E ≡ no_elements → AreBelow p 0 E
none_below p E is = record { sound = λ i h. absurd (false≢true (subst (λ (F : Set ℕ). IsTrue (F i)) is h)); all = λ i low h. absurd (omega arith) }

module _ (p : Set ℕ) (n : ℕ) (E F : Set ℕ) (was : AreBelow p n E) where
  pub more_below : (chosen : Bool) → F ≡ cond chosen (E ∪ only n) E → chosen ≡ p n → AreBelow p (n + 1) F
  more_below true is same = record {
    sound = λ i h. elim (or_cases (E i) (only n i) (subst (λ (G : Set ℕ). IsTrue (G i)) is h)) as (λ _. IsTrue (p i)) [
      | inl there ↦ was.sound i there
      | inr this ↦ subst (λ (j : ℕ). IsTrue (p j)) (sym (only_is i n this)) (sym same)
    ];
    all = λ i low h. subst (λ (G : Set ℕ). IsTrue (G i)) (sym is) (elim (last_or_before i n low) as (λ _. IsTrue ((E ∪ only n) i)) [
      | inl this ↦ or_right (E i) (only n i) (is_only i n this)
      | inr before ↦ or_left (E i) (only n i) (was.all i before h)
    ]);
  }
  more_below false is same = record {
    sound = λ i h. was.sound i (subst (λ (G : Set ℕ). IsTrue (G i)) is h);
    all = λ i low h. subst (λ (G : Set ℕ). IsTrue (G i)) (sym is) (elim (last_or_before i n low) as (λ _. IsTrue (E i)) [
      | inl this ↦ absurd (false≢true (same ∙ subst (λ (j : ℕ). IsTrue (p j)) this h))
      | inr before ↦ was.all i before h
    ]);
  }

pub all_below : (st : Stands) (E F : Set ℕ) (n : ℕ) → length st.parts ≤ n → AreBelow (positions st E) n F → F ≡ positions st E
all_below st E F n high are = same_set F (positions st E) are.sound (λ i h. are.all i (let low : i < length st.parts = positions_are_in_range st E i h in omega arith) h)

take_push : {X : Type 0} (xs : List X) (i : ℕ) (x : X) → slice_get xs i ≡ Some x → take (suc i) xs ≡ take i xs ++ x ∷ []
take_push [] i x e = cc
take_push (y ∷ xs) zero x e = ap (λ z. z ∷ []) (cc)
take_push (y ∷ xs) (suc i) x e = ap (λ ys. y ∷ ys) (take_push xs i x e)

pub map_more : {X Y : Type 0} (f : X → Y) (xs : List X) (i : ℕ) (x : X) → slice_get xs i ≡ Some x → map f (take (i + 1) xs) ≡ map f (take i xs) ++ f x ∷ []
map_more f xs i x e = let one : i + 1 ≡ suc i = omega arith in ap (λ (m : ℕ). map f (take m xs)) one ∙ (ap (map f) (take_push xs i x e) ∙ map-append f (take i xs) (x ∷ []))
