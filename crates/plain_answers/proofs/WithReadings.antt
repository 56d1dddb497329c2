-- Environments with the measured cells of a present.
use Rattle.std.proofs.Common.{◌≡◌, ◌⊎◌, ℕ, zero, suc, ◌+◌, ◌<◌, ◌≤◌, [], ◌∷◌, ◌||◌, nat_lt, true, false, inl, inr, IsTrue, List, length, map, Option, Some, None, is_some, slice_get, refl, sym, ap, subst, ◌∙◌, true≢false, below_more, arith}
use Rattle.std.specs.Option.{option_map}
use Rattle.std.proofs.lemmas.Bool.{cases_lt, or_left, or_right, or_cases}
use Rattle.std.proofs.lemmas.Bool.Decides.{nat_tests}
use Rattle.std.proofs.lemmas.Option.{slice_get-map, slice_get_within}
use Rattle.environment_sets.specs.Sets.{Set, ◌⊆◌}
use Rattle.circuit_model.specs.declared.model.Cell.{Cell}
use Rattle.circuit_model.specs.declared.model.Fact.{Fact}
use Rattle.circuit_model.specs.declared.model.Instance.{Instance}
use Rattle.circuit_model.specs.declared.model.Assumption.TheVariants.{Part, Reading}
use Rattle.circuit_model.specs.declared.present.Component.{Component}
use Rattle.circuit_model.specs.Closure.{fact}
use Rattle.circuit_model.specs.Diagnoses.{Place, AtPart, AtCell}
use Rattle.circuit_model.specs.Present.{PresentView, reading_in, IsLawful}
use Rattle.circuit_model.specs.Whole.{stock}
use Rattle.circuit_model.proofs.Readings.{Measured, measured_at, reading_in-at}
use Rattle.environment_sets.proofs.Membership.{same_bool}
use Rattle.plain_answers.specs.Members.{IsWithReadings}
use Rattle.plain_answers.specs.Sets.{IsWith}

pub is_some-map : {X Y : Type 0} (f : X → Y) (o : Option X) → is_some (option_map f o) ≡ is_some o
is_some-map f None = refl
is_some-map f (Some x) = refl

-- a component is there exactly below the number of components
pub is_some-part : (s : PresentView) (k : ℕ) → is_some (stock s (AtPart k)) ≡ nat_lt k (length s.parts)
is_some-part s k =
    let part_of : Component → List Instance = λ c. c.part in
    is_some-map Part (slice_get (map part_of s.parts) k) ∙ (ap is_some (slice_get-map part_of s.parts k) ∙ (is_some-map part_of (slice_get s.parts k) ∙ inside s.parts k))
  where
    inside : (xs : List Component) (k : ℕ) → is_some (slice_get xs k) ≡ nat_lt k (length xs)
    inside [] k = let test : nat_lt k 0 ≡ false = grind (arith, nat_tests) in sym test
    inside (c ∷ xs) zero = let test : nat_lt 0 (length (c ∷ xs)) ≡ true = grind (arith, nat_tests) in sym test
    inside (c ∷ xs) (suc k) = inside xs k ∙ same_test
      where
        same_test : nat_lt k (length xs) ≡ nat_lt (suc k) (length (c ∷ xs))
        same_test = elim (cases_lt k (length xs)) [
          | inl low ↦ let a : nat_lt k (length xs) ≡ true = grind (arith, nat_tests) in let b : nat_lt (suc k) (length (c ∷ xs)) ≡ true = grind (arith, nat_tests) in a ∙ sym b
          | inr past ↦ let a : nat_lt k (length xs) ≡ false = grind (arith, nat_tests) in let b : nat_lt (suc k) (length (c ∷ xs)) ≡ false = grind (arith, nat_tests) in a ∙ sym b
        ]

-- F is E with the cells of the first n measurements
pub record HasAdded (s : PresentView) (E : Set Place) (n : ℕ) (F : Set Place) : Type 0 where
  pub more : E ⊆ F
  pub has : (k : ℕ) → k < n → (f : Fact) → slice_get s.readings k ≡ Some f → IsTrue (F (AtCell f.cell))
  pub only : (p : Place) → IsTrue (F p) → IsTrue (E p) ⊎ ((k : ℕ) × (f : Fact) × (slice_get s.readings k ≡ Some f) × (p ≡ AtCell f.cell))

module _ (s : PresentView) (E : Set Place) where
  pub added_none : HasAdded s E 0 E
  added_none = record { more = λ k m. m; has = λ k low. absurd (omega arith); only = λ p m. inl m }

  pub added_more : (n : ℕ) (f : Fact) (F G : Set Place) → slice_get s.readings n ≡ Some f → IsWith F (AtCell f.cell) G → HasAdded s E n F → HasAdded s E (n + 1) G
  added_more n f F G at with below = record {
    more = λ k m. with.more k (below.more k m);
    has = below_more (λ (k : ℕ). (g : Fact) → slice_get s.readings k ≡ Some g → IsTrue (G (AtCell g.cell))) n (λ k low g e. with.more (AtCell g.cell) (below.has k low g e)) (λ g e. let same : f ≡ g = cc in subst (λ (f : Fact). IsTrue (G (AtCell f.cell))) same with.has);
    only = λ p m. elim (with.only p m) [ inl old ↦ below.only p old | inr is ↦ inr (n, f, at, is) ];
  }

  -- with all of them
  pub added_all : IsLawful s → (n : ℕ) (F : Set Place) → length s.readings ≤ n → HasAdded s E n F → IsWithReadings s E F
  added_all lawful n F all added = record { parts = parts; cells = cells } where
    apart : (k : ℕ) (c : Cell) → AtPart k ≡ AtCell c → ⊥
    apart k c e = cc

    parts : (k : ℕ) → F (AtPart k) ≡ E (AtPart k)
    parts k = same_bool _ _ (λ m. elim (added.only (AtPart k) m) [
      | inl old ↦ old
      | inr r ↦ absurd (apart k r.1.cell r.3)
    ]) (λ m. added.more (AtPart k) m)

    measured_is : (c : Cell) → is_some (stock s (AtCell c)) ≡ is_some (reading_in s.readings c)
    measured_is c = is_some-map (λ v. Reading (fact c v)) (reading_in s.readings c)

    measured_has : (c : Cell) (o : Option ℕ) → reading_in s.readings c ≡ o → IsTrue (is_some o) → IsTrue (F (AtCell c))
    measured_has c None is m = absurd (true≢false (sym m))
    measured_has c (Some v) is m =
        let r : Measured s.readings c v = measured_at s.readings c v is in
        let inside : r.0 < length s.readings = slice_get_within s.readings r.0 r.1 r.2 in
        subst (λ (c : Cell). IsTrue (F (AtCell c))) r.3 (added.has r.0 (omega arith) r.1 r.2)

    cells : (c : Cell) → F (AtCell c) ≡ (E (AtCell c) || is_some (stock s (AtCell c)))
    cells c = same_bool _ _ (to c) (from c) where
      to : (c : Cell) → IsTrue (F (AtCell c)) → IsTrue (E (AtCell c) || is_some (stock s (AtCell c)))
      to c m = elim (added.only (AtCell c) m) [
        | inl old ↦ or_left (E (AtCell c)) (is_some (stock s (AtCell c))) old
        | inr r ↦
            let is = r.3 in let same : c ≡ r.1.cell = cc in
            let word : reading_in s.readings r.1.cell ≡ Some r.1.value = reading_in-at s lawful r.0 r.1 r.2 in
            or_right (E (AtCell c)) (is_some (stock s (AtCell c))) (measured_is c ∙ ap is_some (ap (λ (c : Cell). reading_in s.readings c) same ∙ word))
      ]

      from : (c : Cell) → IsTrue (E (AtCell c) || is_some (stock s (AtCell c))) → IsTrue (F (AtCell c))
      from c m = elim (or_cases (E (AtCell c)) (is_some (stock s (AtCell c))) m) [
        | inl old ↦ added.more (AtCell c) old
        | inr new ↦ measured_has c (reading_in s.readings c) refl (sym (measured_is c) ∙ new)
      ]
