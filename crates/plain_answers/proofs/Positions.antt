-- Sets of components as sets of their positions.
use Rattle.std.proofs.Common.{◌≡◌, inl, inr, ℕ, ◌+◌, ◌<◌, Bool, true, false, ◌||◌, ◌&&◌, not, nat_lt, IsTrue, is_some, List, [], ◌∷◌, map, length, Option, refl, sym, ap, subst, ◌∙◌, true≢false, arith}
use Rattle.std.proofs.Math.Path.{fun_ext}
use Rattle.std.proofs.lemmas.List.{length-map}
use Rattle.std.proofs.lemmas.Bool.{cases_lt, and_parts, and_from, ltb-true, lt-ltb}
use Rattle.std.proofs.lemmas.Bool.Decides.{nat_tests}
use Rattle.environment_sets.specs.Sets.{Set, ◌⊆◌, IsBelow, IsMinimal, others}
use Rattle.environment_sets.specs.Lists.{IsIn, AreDistinct, IsRoster}
use Rattle.environment_sets.proofs.Membership.{same_bool, map-IsIn, IsIn-map, roster_alike}
use Rattle.circuit_model.specs.declared.model.Cell.{Cell}
use Rattle.circuit_model.specs.declared.model.Assumption.{Assumption}
use Rattle.circuit_model.specs.declared.model.Assumption.TheVariants.{Reading}
use Rattle.circuit_model.specs.Whole.{stock}
use Rattle.circuit_model.specs.declared.present.Component.{Component}
use Rattle.circuit_model.specs.Closure.{fact}
use Rattle.circuit_model.specs.Diagnoses.{Place, AtPart, AtCell, with_readings, AreRefuted, IsConflict, IsDiagnosis}
use Rattle.circuit_model.specs.Present.{PresentView, reading_in, circuit_of}
use Rattle.circuit_model.proofs.Presents.{count_parts}
use Rattle.plain_answers.specs.declared.environment.Environment.{Environment}
use Rattle.plain_answers.specs.Members.{members, IsPartsOf, IsWithReadings}
use Rattle.plain_answers.specs.Sets.{IsEmpty, IsWith}
use Rattle.plain_answers.proofs.WithReadings.{is_some-map}
use Rattle.plain_answers.specs.Subsets.{sets, IsWithin, IsPart, Keeps}
use Rattle.plain_answers.specs.Tests.{positions, position_sets, AreParts, AreOthers, IsDecided, IsRepaired, IsLeastIn}
use Rattle.plain_answers.proofs.KeptLists.{kept_roster}

abbrev places : Set ℕ → Place → Bool
places C (AtPart i) = C i
places C (AtCell c) = false

-- its components alone have the same positions
pub same_positions : (E F : Set Place) → IsPartsOf E F → positions F ≡ positions E
same_positions E F alone = fun_ext alone.parts

-- components with all measured cells
pub all_readings : (s : PresentView) (E F : Set Place) → AreParts E → IsWithReadings s E F → F ≡ with_readings (circuit_of s) (positions E)
all_readings s E F alone with = fun_ext at where
  at : (k : Place) → F k ≡ with_readings (circuit_of s) (positions E) k
  at (AtPart k) = with.parts k
  at (AtCell c) = with.cells c ∙ (ap (λ (b : Bool). b || is_some (stock_at c)) (alone c) ∙ is_some-map (λ v. Reading (fact c v)) (reading_in s.readings c)) where
    stock_at : Cell → Option Assumption
    stock_at c = stock s (AtCell c)

module _ (n : ℕ) where
  module _ (E : Set Place) (within : IsWithin (IsPart n) E) where
    pub no_cell : (c : Cell) → IsTrue (E (AtCell c)) → ⊥
    no_cell c h = within (AtCell c) h

    places_back : places (positions E) ≡ E
    places_back = fun_ext at where
      at : (k : Place) → places (positions E) k ≡ E k
      at (AtPart k) = refl
      at (AtCell c) = sym (none (E (AtCell c)) (no_cell c)) where
        none : (b : Bool) → (IsTrue b → ⊥) → b ≡ false
        none true h = absurd (h refl)
        none false h = refl

  places_within : (C : Set ℕ) → IsBelow n C → IsWithin (IsPart n) (places C)
  places_within C below (AtPart i) h = below i h
  places_within C below (AtCell c) h = true≢false (sym h)

  positions_distinct : (Es : List (Set Place)) → ((E : Set Place) → IsIn Es E → IsWithin (IsPart n) E) → AreDistinct Es → AreDistinct (map positions Es)
  positions_distinct [] each d = tt
  positions_distinct (D ∷ Es) each d = (first, positions_distinct Es (λ E h. each E (inr h)) d.1) where
    first : (C : Set ℕ) → IsIn (map positions Es) C → positions D ≡ C → ⊥
    first C h e =
        let t : (E : Set Place) × IsIn Es E × (positions E ≡ C) = IsIn-map positions Es C h in
        let same : positions D ≡ positions t.0 = e ∙ sym t.2 in
        d.0 t.0 t.1 (sym (places_back D (each D (inl refl))) ∙ (ap (λ (C : Set ℕ). places C) same ∙ places_back t.0 (each t.0 (inr t.1))))

  positions_roster : (Q : Set ℕ → Type 0) (Es : List (Set Place)) → IsRoster (λ E. IsWithin (IsPart n) E × Q (positions E)) Es → IsRoster (λ C. IsBelow n C × Q C) (map positions Es)
  positions_roster Q Es all = record {
    distinct = positions_distinct Es (λ E h. ((all.exact E).0 h).0) all.distinct;
    exact = λ C. (
      λ h.
          let t : (E : Set Place) × IsIn Es E × (positions E ≡ C) = IsIn-map positions Es C h in
          let is = (all.exact t.0).0 t.1 in
          subst (λ (C : Set ℕ). IsBelow n C × Q C) t.2 (λ i m. is.0 (AtPart i) m, is.1),
      λ h. map-IsIn positions Es (places C) ((all.exact (places C)).1 (places_within C h.0, h.1)),
    );
  }

  -- the least sets of components
  pub minimal_listed : (R : Set ℕ → Type 0) (all kept ys : List (Set Place)) → IsRoster (IsWithin (IsPart n)) all → Keeps (λ E. R (positions E)) all kept → Keeps (IsLeastIn kept) kept ys → IsRoster (λ C. IsBelow n C × IsMinimal R C) (map positions ys)
  minimal_listed R all kept ys roster keeps least =
      positions_roster (IsMinimal R) ys (roster_alike (λ E. (IsWithin (IsPart n) E × R (positions E)) × IsLeastIn kept E) (λ E. IsWithin (IsPart n) E × IsMinimal R (positions E)) ys to from (kept_roster (IsLeastIn kept) (λ E. IsWithin (IsPart n) E × R (positions E)) kept ys some least))
    where
      some : IsRoster (λ E. IsWithin (IsPart n) E × R (positions E)) kept
      some = kept_roster (λ E. R (positions E)) (IsWithin (IsPart n)) all kept roster keeps

      to : (E : Set Place) → (IsWithin (IsPart n) E × R (positions E)) × IsLeastIn kept E → IsWithin (IsPart n) E × IsMinimal R (positions E)
      to E h = (h.0.0, record { holds = h.0.1; least = smallest }) where
        smallest : (C : Set ℕ) → C ⊆ positions E → R C → positions E ⊆ C
        smallest C within r i m = h.1 (places C) ((some.exact (places C)).1 (places_within C (λ i m. h.0.0 (AtPart i) (within i m)), r)) inside (AtPart i) m where
          inside : places C ⊆ E
          inside (AtPart i) m = within i m
          inside (AtCell c) m = absurd (true≢false (sym m))

      from : (E : Set Place) → IsWithin (IsPart n) E × IsMinimal R (positions E) → (IsWithin (IsPart n) E × R (positions E)) × IsLeastIn kept E
      from E h = ((h.0, h.1.holds), smallest) where
        smallest : (F : Set Place) → IsIn kept F → F ⊆ E → E ⊆ F
        smallest F inside within (AtPart i) m = h.1.least (positions F) (λ i m. within (AtPart i) m) ((some.exact F).0 inside).1 i m
        smallest F inside within (AtCell c) m = absurd (h.0 (AtCell c) m)

module _ (s : PresentView) (all kept ys : List (Set Place)) (roster : IsRoster (IsWithin (IsPart (length s.parts))) all) where
  counted : IsRoster (IsWithin (IsPart (length (circuit_of s).parts))) all
  counted = subst (λ (n : ℕ). IsRoster (IsWithin (IsPart n)) all) (count_parts s) roster

  pub conflicts_listed : Keeps (λ E. AreRefuted (circuit_of s) (positions E)) all kept → Keeps (IsLeastIn kept) kept ys → IsRoster (IsConflict (circuit_of s)) (map positions ys)
  conflicts_listed keeps least = record {
    distinct = (minimal_listed _ (AreRefuted (circuit_of s)) all kept ys counted keeps least).distinct;
    exact = λ C. (
      λ h. let is = ((minimal_listed _ (AreRefuted (circuit_of s)) all kept ys counted keeps least).exact C).0 h in record { positions = is.0; minimal = is.1 },
      λ h. ((minimal_listed _ (AreRefuted (circuit_of s)) all kept ys counted keeps least).exact C).1 (h.positions, h.minimal),
    );
  }

  pub diagnoses_listed : Keeps (λ E. IsRepaired s (positions E)) all kept → Keeps (IsLeastIn kept) kept ys → IsRoster (IsDiagnosis (circuit_of s)) (map positions ys)
  diagnoses_listed keeps least = record {
    distinct = (minimal_listed _ (IsRepaired s) all kept ys counted keeps least).distinct;
    exact = λ C. (
      λ h. let is = ((minimal_listed _ (IsRepaired s) all kept ys counted keeps least).exact C).0 h in record { positions = is.0; minimal = is.1 },
      λ h. ((minimal_listed _ (IsRepaired s) all kept ys counted keeps least).exact C).1 (h.positions, h.minimal),
    );
  }

-- the positions of a list of environments
pub positions_of_sets : (es : List Environment) → position_sets es ≡ map positions (sets es)
positions_of_sets [] = refl
positions_of_sets (e ∷ es) = ap (λ (rest : List (Set ℕ)). positions (members e) ∷ rest) (positions_of_sets es)

-- the components before place n that E has not
pub record AreOthersBelow (n : ℕ) (E F : Set Place) : Type 0 where
  pub parts : (k : ℕ) → F (AtPart k) ≡ (nat_lt k n && not (E (AtPart k)))
  pub cells : AreParts F

module _ (n : ℕ) (E : Set Place) where
  pub others_more : (F G : Set Place) → IsTrue (not (E (AtPart n))) → IsWith F (AtPart n) G → AreOthersBelow n E F → AreOthersBelow (n + 1) E G
  others_more F G without with below = record { parts = λ k. same_bool _ _ (to k) (from k); cells = cells } where
    to : (k : ℕ) → IsTrue (G (AtPart k)) → IsTrue (nat_lt k (n + 1) && not (E (AtPart k)))
    to k h = elim (with.only (AtPart k) h) [
      | inl m ↦
          let old : IsTrue (nat_lt k n) × IsTrue (not (E (AtPart k))) = and_parts (nat_lt k n) (not (E (AtPart k))) (sym (below.parts k) ∙ m) in
          let low = ltb-true k n old.0 in
          and_from _ _ (lt-ltb k (n + 1) (omega arith)) old.1
      | inr e ↦
          let same : k ≡ n = cc in
          and_from _ _ (lt-ltb k (n + 1) (omega arith)) (subst (λ (k : ℕ). IsTrue (not (E (AtPart k)))) (sym same) without)
    ]

    from : (k : ℕ) → IsTrue (nat_lt k (n + 1) && not (E (AtPart k))) → IsTrue (G (AtPart k))
    from k h =
        let new : IsTrue (nat_lt k (n + 1)) × IsTrue (not (E (AtPart k))) = and_parts (nat_lt k (n + 1)) (not (E (AtPart k))) h in
        let low = ltb-true k (n + 1) new.0 in
        elim (cases_lt k n) [
          | inl inside ↦ with.more (AtPart k) (below.parts k ∙ and_from _ _ (lt-ltb k n inside) new.1)
          | inr past ↦ let same : k ≡ n = omega arith in subst (λ (k : ℕ). IsTrue (G (AtPart k))) (sym same) with.has
        ]

    cells : (c : Cell) → G (AtCell c) ≡ false
    cells c = same_bool _ _ (λ h. elim (with.only (AtCell c) h) [ inl m ↦ absurd (true≢false (sym m ∙ below.cells c)) | inr e ↦ absurd (apart c n e) ]) (λ h. absurd (true≢false (sym h))) where
      apart : (c : Cell) (n : ℕ) → AtCell c ≡ AtPart n → ⊥
      apart c n e = cc

  pub others_same : (F : Set Place) → not (E (AtPart n)) ≡ false → AreOthersBelow n E F → AreOthersBelow (n + 1) E F
  others_same F has below = record { parts = λ k. below.parts k ∙ same_bool _ _ (to k) (from k); cells = below.cells } where
    to : (k : ℕ) → IsTrue (nat_lt k n && not (E (AtPart k))) → IsTrue (nat_lt k (n + 1) && not (E (AtPart k)))
    to k h =
        let old : IsTrue (nat_lt k n) × IsTrue (not (E (AtPart k))) = and_parts (nat_lt k n) (not (E (AtPart k))) h in
        let low = ltb-true k n old.0 in
        and_from _ _ (lt-ltb k (n + 1) (omega arith)) old.1

    from : (k : ℕ) → IsTrue (nat_lt k (n + 1) && not (E (AtPart k))) → IsTrue (nat_lt k n && not (E (AtPart k)))
    from k h =
        let new : IsTrue (nat_lt k (n + 1)) × IsTrue (not (E (AtPart k))) = and_parts (nat_lt k (n + 1)) (not (E (AtPart k))) h in
        let low = ltb-true k (n + 1) new.0 in
        elim (cases_lt k n) [
          | inl inside ↦ and_from _ _ (lt-ltb k n inside) new.1
          | inr past ↦ let same : k ≡ n = omega arith in absurd (true≢false (sym (subst (λ (k : ℕ). IsTrue (not (E (AtPart k)))) same new.1) ∙ has))
        ]

-- the other components clash, or the environment repairs the circuit
pub repaired_or_not : (s : PresentView) (E F : Set Place) (b : Bool) → AreOthers (length s.parts) E F → IsDecided b (AreRefuted (circuit_of s) (positions F)) → IsDecided (not b) (IsRepaired s (positions E))
repaired_or_not s E F b are decided = by_answer b (subst (λ (C : Set ℕ). IsDecided b (AreRefuted (circuit_of s) C)) same decided) where
  same : positions F ≡ others (length (circuit_of s).parts) (positions E)
  same = fun_ext are.parts ∙ ap (λ (n : ℕ). others n (positions E)) (count_parts s)

  by_answer : (b : Bool) → IsDecided b (AreRefuted (circuit_of s) (others (length (circuit_of s).parts) (positions E))) → IsDecided (not b) (IsRepaired s (positions E))
  by_answer true clash = λ fine. fine clash
  by_answer false fine = fine

-- no components yet
pub others_none : (E F : Set Place) → IsEmpty F → AreOthersBelow 0 E F
others_none E F empty = record {
  parts = λ k. same_bool (F (AtPart k)) (nat_lt k 0 && not (E (AtPart k))) (λ h. absurd (empty (AtPart k) h)) (λ h. let low = ltb-true k 0 (and_parts (nat_lt k 0) (not (E (AtPart k))) h).0 in absurd (omega arith));
  cells = λ c. same_bool (F (AtCell c)) false (λ h. absurd (empty (AtCell c) h)) (λ h. absurd (true≢false (sym h)));
}

pub others_all : (n : ℕ) (E F : Set Place) → AreOthersBelow n E F → AreOthers n E F
others_all n E F below = record { parts = below.parts; cells = below.cells }
