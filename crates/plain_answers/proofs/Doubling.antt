-- All sets of names, one name more at a time.
use Rattle.std.proofs.Common.{◌≡◌, ◌⊎◌, inl, inr, ℕ, ◌+◌, ◌<◌, Bool, true, false, ◌||◌, ◌&&◌, not, nat_lt, IsTrue, IsSome, is_some, List, [], ◌∷◌, ◌++◌, length, take, get_or, Option, Some, None, slice_get, refl, sym, ap, subst, ◌∙◌, true≢false, add-one, arith}
use Rattle.std.proofs.Math.Path.{fun_ext}
use Rattle.std.proofs.Math.Seq.{take-suc}
use Rattle.std.proofs.lemmas.List.{map-append}
use Rattle.std.proofs.lemmas.Option.{slice_get_within}
use Rattle.std.proofs.lemmas.Bool.{cases_lt, or_left, or_right, or_cases, and_parts}
use Rattle.std.proofs.lemmas.Bool.Decides.{nat_tests}
use Rattle.environment_sets.specs.Sets.{Set}
use Rattle.environment_sets.specs.Lists.{IsIn, AreDistinct, IsRoster}
use Rattle.environment_sets.proofs.Membership.{same_bool, roster_alike}
use Rattle.circuit_model.specs.declared.model.Cell.{Cell}
use Rattle.circuit_model.specs.declared.model.Fact.{Fact}
use Rattle.circuit_model.specs.declared.model.Assumption.TheVariants.{Reading}
use Rattle.circuit_model.specs.Closure.{fact}
use Rattle.circuit_model.specs.Diagnoses.{Place, AtPart, AtCell}
use Rattle.circuit_model.specs.Present.{PresentView, reading_in, IsLawful}
use Rattle.circuit_model.specs.Stock.{IsEnvironment}
use Rattle.circuit_model.specs.Whole.{stock}
use Rattle.plain_answers.specs.declared.environment.Environment.{Environment}
use Rattle.plain_answers.specs.Members.{members}
use Rattle.plain_answers.specs.Sets.{IsWith, IsEmpty}
use Rattle.plain_answers.proofs.WithReadings.{is_some-map, is_some-part}
use Rattle.circuit_model.proofs.SameCells.{same_cell, cell_itself}
use Rattle.circuit_model.proofs.Readings.{Measured, measured_at, rising_apart, reading_in-at}
use Rattle.plain_answers.specs.Subsets.{sets, IsWithin, IsPart, IsPartOrCell, is_same, adding, doubling}

same_place : (k n : Place) → IsTrue (is_same k n) → k ≡ n
same_place (AtPart k) (AtPart n) h = let e : k ≡ n = grind (arith, nat_tests) in ap AtPart e
same_place (AtPart k) (AtCell d) h = absurd (true≢false (sym h))
same_place (AtCell c) (AtPart n) h = absurd (true≢false (sym h))
same_place (AtCell c) (AtCell d) h = ap AtCell (same_cell c d h)

is_same-refl : (n : Place) → IsTrue (is_same n n)
is_same-refl (AtPart n) = grind (arith, nat_tests)
is_same-refl (AtCell c) = cell_itself c

module _ (name : Place) where
  pub with_adding : (E F : Set Place) → IsWith E name F → F ≡ adding name E
  with_adding E F with = fun_ext (λ k. same_bool (F k) (E k || is_same k name) (to k) (from k)) where
    to : (k : Place) → IsTrue (F k) → IsTrue (E k || is_same k name)
    to k h = elim (with.only k h) [
      | inl m ↦ or_left (E k) (is_same k name) m
      | inr e ↦ or_right (E k) (is_same k name) (let P : Place → Type 0 = λ k. IsTrue (is_same k name) in subst P (sym e) (is_same-refl name))
    ]

    from : (k : Place) → IsTrue (E k || is_same k name) → IsTrue (F k)
    from k h = elim (or_cases (E k) (is_same k name) h) [
      | inl m ↦ with.more k m
      | inr s ↦ let P : Place → Type 0 = λ k. IsTrue (F k) in subst P (sym (same_place k name s)) with.has
    ]

  has_name : (E : Set Place) → IsTrue (adding name E name)
  has_name E = or_right (E name) (is_same name name) (is_same-refl name)

  in_doubling : (Es : List (Set Place)) (E : Set Place) → IsIn (doubling name Es) E → IsIn Es E ⊎ ((F : Set Place) × IsIn Es F × (E ≡ adding name F))
  in_doubling [] E h = absurd h
  in_doubling (D ∷ Es) E (inl e) = inl (inl e)
  in_doubling (D ∷ Es) E (inr (inl e)) = inr (D, inl refl, sym e)
  in_doubling (D ∷ Es) E (inr (inr h)) = elim (in_doubling Es E h) [
    | inl i ↦ inl (inr i)
    | inr t ↦ inr (t.0, inr t.1, t.2)
  ]

  doubling_has : (Es : List (Set Place)) (E : Set Place) → IsIn Es E → IsIn (doubling name Es) E
  doubling_has [] E h = h
  doubling_has (D ∷ Es) E (inl e) = inl e
  doubling_has (D ∷ Es) E (inr h) = inr (inr (doubling_has Es E h))

  doubling_more : (Es : List (Set Place)) (F : Set Place) → IsIn Es F → IsIn (doubling name Es) (adding name F)
  doubling_more [] F h = h
  doubling_more (D ∷ Es) F (inl e) = inr (inl (ap (λ (E : Set Place). adding name E) e))
  doubling_more (D ∷ Es) F (inr h) = inr (inr (doubling_more Es F h))

  adding_injective : (D F : Set Place) → (IsTrue (D name) → ⊥) → (IsTrue (F name) → ⊥) → adding name D ≡ adding name F → D ≡ F
  adding_injective D F no_d no_f e = fun_ext (λ k. same_bool (D k) (F k) (along D F no_d e k) (along F D no_f (sym e) k)) where
    along : (D F : Set Place) → (IsTrue (D name) → ⊥) → adding name D ≡ adding name F → (k : Place) → IsTrue (D k) → IsTrue (F k)
    along D F no_d e k h = elim (or_cases (F k) (is_same k name) (subst (λ (E : Set Place). IsTrue (E k)) e (or_left (D k) (is_same k name) h))) [
      | inl m ↦ m
      | inr s ↦ absurd (no_d (let P : Place → Type 0 = λ k. IsTrue (D k) in subst P (same_place k name s) h))
    ]

  doubling_distinct : (Es : List (Set Place)) → ((E : Set Place) → IsIn Es E → IsTrue (E name) → ⊥) → AreDistinct Es → AreDistinct (doubling name Es)
  doubling_distinct [] none d = tt
  doubling_distinct (D ∷ Es) none d = (first, (second, doubling_distinct Es (λ E h. none E (inr h)) d.1)) where
    none_d : IsTrue (D name) → ⊥
    none_d = none D (inl refl)

    none_adding : (F : Set Place) → D ≡ adding name F → ⊥
    none_adding F e = none_d (subst (λ (E : Set Place). IsTrue (E name)) (sym e) (has_name F))

    first : (y : Set Place) → (adding name D ≡ y) ⊎ IsIn (doubling name Es) y → D ≡ y → ⊥
    first y (inl a) e = none_adding D (e ∙ sym a)
    first y (inr h) e = elim (in_doubling Es y h) [
      | inl i ↦ d.0 y i e
      | inr t ↦ none_adding t.0 (e ∙ t.2)
    ]

    second : (y : Set Place) → IsIn (doubling name Es) y → adding name D ≡ y → ⊥
    second y h e = elim (in_doubling Es y h) [
      | inl i ↦ none y (inr i) (subst (λ (E : Set Place). IsTrue (E name)) e (has_name D))
      | inr t ↦ d.0 t.0 t.1 (adding_injective D t.0 none_d (none t.0 (inr t.1)) (e ∙ t.2))
    ]

  module _ (U V : Place → Type 0) (wider : (k : Place) → U k → V k) (named : V name) (only : (k : Place) → V k → U k ⊎ (k ≡ name)) (fresh : U name → ⊥) (Es : List (Set Place)) (all : IsRoster (IsWithin U) Es) where
    to_within : (E : Set Place) → IsIn (doubling name Es) E → IsWithin V E
    to_within E h = elim (in_doubling Es E h) [
      | inl i ↦ λ k m. wider k ((all.exact E).0 i k m)
      | inr t ↦ subst (λ (E : Set Place). IsWithin V E) (sym t.2) (added t.0 ((all.exact t.0).0 t.1))
    ] where
      added : (F : Set Place) → IsWithin U F → IsWithin V (adding name F)
      added F within k m = elim (or_cases (F k) (is_same k name) m) [
        | inl m ↦ wider k (within k m)
        | inr s ↦ subst V (sym (same_place k name s)) named
      ]

    from_within : (E : Set Place) → IsWithin V E → IsIn (doubling name Es) E
    from_within E within = by_name (E name) refl where
      within_without : IsWithin U (λ k. E k && not (is_same k name))
      within_without k m = elim (only k (within k ((and_parts (E k) _ m).0))) [
        | inl u ↦ u
        | inr e ↦
            let P : Place → Type 0 = λ k. IsTrue (E k && not (is_same k name)) in
            let at : IsTrue (E name && not (is_same name name)) = subst P e m in
            absurd (never (E name) (is_same name name) (is_same-refl name) at)
      ] where
        never : (a b : Bool) → IsTrue b → IsTrue (a && not b) → ⊥
        never true true h m = true≢false (sym m)
        never true false h m = true≢false (sym h)
        never false b h m = true≢false (sym m)

      back : IsTrue (E name) → (k : Place) → ((E k && not (is_same k name)) || is_same k name) ≡ E k
      back has k = same_bool ((E k && not (is_same k name)) || is_same k name) (E k) to (λ m. from (E k) (is_same k name) m) where
        to : IsTrue ((E k && not (is_same k name)) || is_same k name) → IsTrue (E k)
        to m = elim (or_cases (E k && not (is_same k name)) (is_same k name) m) [
          | inl m ↦ (and_parts (E k) _ m).0
          | inr s ↦ let P : Place → Type 0 = λ k. IsTrue (E k) in subst P (sym (same_place k name s)) has
        ]

        from : (a b : Bool) → IsTrue a → IsTrue ((a && not b) || b)
        from true true m = refl
        from true false m = refl
        from false b m = absurd (true≢false (sym m))

      by_name : (b : Bool) → E name ≡ b → IsIn (doubling name Es) E
      by_name true is =
          let less : Set Place = λ k. E k && not (is_same k name) in
          subst (λ (E : Set Place). IsIn (doubling name Es) E) (fun_ext (λ k. back is k)) (doubling_more Es less ((all.exact less).1 within_without))
      by_name false is = doubling_has Es E ((all.exact E).1 (λ k m. elim (only k (within k m)) [
        | inl u ↦ u
        | inr e ↦ absurd (let P : Place → Type 0 = λ k. IsTrue (E k) in true≢false (sym (subst P e m) ∙ is))
      ]))

    -- one name more
    pub doubled_roster : IsRoster (IsWithin V) (doubling name Es)
    doubled_roster = record {
      distinct = doubling_distinct Es (λ E h m. fresh ((all.exact E).0 h name m)) all.distinct;
      exact = λ E. (to_within E, from_within E);
    }

  pub doubling_one_more : (Es : List (Set Place)) (E : Set Place) → doubling name (Es ++ E ∷ []) ≡ doubling name Es ++ E ∷ adding name E ∷ []
  doubling_one_more [] E = refl
  doubling_one_more (D ∷ Es) E = ap (λ (rest : List (Set Place)). D ∷ adding name D ∷ rest) (doubling_one_more Es E)

-- one environment more of a list
pub sets_taken : (es : List Environment) (i : ℕ) (e : Environment) → i < length es → sets (take (i + 1) es) ≡ sets (take i es) ++ members (get_or es i e) ∷ []
sets_taken es i e inside =
    let more : take (i + 1) es ≡ take i es ++ get_or es i e ∷ [] = rw add-one (take-suc es i e inside) in
    ap sets more ∙ map-append members (take i es) (get_or es i e ∷ [])

-- no names at all
pub empty_roster : (U : Place → Type 0) (E : Set Place) → ((k : Place) → U k → ⊥) → IsEmpty E → IsRoster (IsWithin U) (E ∷ [])
empty_roster U E none empty = record {
  distinct = (λ y h. absurd h, tt);
  exact = λ F. (
    λ h. elim h [ inl e ↦ subst (λ (F : Set Place). IsWithin U F) e (λ k m. absurd (empty k m)) | inr h ↦ absurd h ],
    λ within. inl (fun_ext (λ k. same_bool (E k) (F k) (λ m. absurd (empty k m)) (λ m. absurd (none k (within k m))))),
  );
}

-- one component more
pub parts_doubled : (n : ℕ) (Es : List (Set Place)) → IsRoster (IsWithin (IsPart n)) Es → IsRoster (IsWithin (IsPart (n + 1))) (doubling (AtPart n) Es)
parts_doubled n Es all = doubled_roster (AtPart n) (IsPart n) (IsPart (n + 1)) wider (omega arith) only (λ h. let low : n < n = h in omega arith) Es all where
  wider : (k : Place) → IsPart n k → IsPart (n + 1) k
  wider (AtPart k) h = omega arith
  wider (AtCell c) h = h

  only : (k : Place) → IsPart (n + 1) k → IsPart n k ⊎ (k ≡ AtPart n)
  only (AtPart k) h = elim (cases_lt k n) [ inl low ↦ inl low | inr high ↦ let same : k ≡ n = omega arith in inr (ap AtPart same) ]
  only (AtCell c) h = absurd h

module _ (s : PresentView) (lawful : IsLawful s) (n : ℕ) (f : Fact) (at : slice_get s.readings n ≡ Some f) where
  pub wider_cell : (k : Place) → IsPartOrCell s n k → IsPartOrCell s (n + 1) k
  wider_cell (AtPart k) h = h
  wider_cell (AtCell c) h = let low = h.2 in (h.0, h.1, omega arith, h.3, h.4)

  -- the last one, or one before
  pub last_or_before : (k : Place) → IsPartOrCell s (n + 1) k → IsPartOrCell s n k ⊎ (k ≡ AtCell f.cell)
  last_or_before (AtPart k) h = inl h
  last_or_before (AtCell c) h = elim (cases_lt h.0 n) [
    | inl low ↦ inl (h.0, h.1, low, h.3, h.4)
    | inr high ↦
        let below = h.2 in
        let last : h.0 ≡ n = omega arith in
        let there : slice_get s.readings n ≡ Some h.1 = subst (λ (k : ℕ). slice_get s.readings k ≡ Some h.1) last h.3 in
        let same : h.1 ≡ f = cc in
        inr (ap AtCell (sym h.4 ∙ ap (λ (f : Fact). f.cell) same))
  ]

  -- one measured cell more
  pub cell_doubled : (Es : List (Set Place)) → IsRoster (IsWithin (IsPartOrCell s n)) Es → IsRoster (IsWithin (IsPartOrCell s (n + 1))) (doubling (AtCell f.cell) Es)
  cell_doubled Es all = doubled_roster (AtCell f.cell) (IsPartOrCell s n) (IsPartOrCell s (n + 1)) wider_cell (n, f, omega arith, at, refl) last_or_before (λ h. rising_apart s.readings lawful.rising h.0 n h.1 f h.2 h.3 at h.4) Es all

-- components alone
pub parts_first : (s : PresentView) (Es : List (Set Place)) → IsRoster (IsWithin (IsPart (length s.parts))) Es → IsRoster (IsWithin (IsPartOrCell s 0)) Es
parts_first s Es all = roster_alike (IsWithin (IsPart (length s.parts))) (IsWithin (IsPartOrCell s 0)) Es (λ E within k m. to k (within k m)) (λ E within k m. from k (within k m)) all where
  to : (k : Place) → IsPart (length s.parts) k → IsPartOrCell s 0 k
  to (AtPart k) h = h
  to (AtCell c) h = absurd h

  from : (k : Place) → IsPartOrCell s 0 k → IsPart (length s.parts) k
  from (AtPart k) h = h
  from (AtCell c) h = let low = h.2 in absurd (omega arith)

-- a component or a measured cell is one of the stock
pub in_stock : (s : PresentView) → IsLawful s → (k : Place) → IsPartOrCell s (length s.readings) k → IsSome (stock s k)
in_stock s lawful (AtPart k) h = let test : nat_lt k (length s.parts) ≡ true = grind (arith, nat_tests) in is_some-part s k ∙ test
in_stock s lawful (AtCell c) h =
    let measured : reading_in s.readings c ≡ Some h.1.value = ap (λ (c : Cell). reading_in s.readings c) (sym h.4) ∙ reading_in-at s lawful h.0 h.1 h.3 in
    is_some-map (λ v. Reading (fact c v)) (reading_in s.readings c) ∙ ap is_some measured

-- and the stock has no others
pub from_stock : (s : PresentView) (k : Place) → IsSome (stock s k) → IsPartOrCell s (length s.readings) k
from_stock s (AtPart k) h = let test : nat_lt k (length s.parts) ≡ true = sym (is_some-part s k) ∙ h in grind (arith, nat_tests)
from_stock s (AtCell c) h = by_reading (reading_in s.readings c) refl (sym (is_some-map (λ v. Reading (fact c v)) (reading_in s.readings c)) ∙ h) where
  by_reading : (o : Option ℕ) → reading_in s.readings c ≡ o → is_some (reading_in s.readings c) ≡ true → IsPartOrCell s (length s.readings) (AtCell c)
  by_reading None is some = absurd (true≢false (sym some ∙ ap is_some is))
  by_reading (Some v) is some =
      let r : Measured s.readings c v = measured_at s.readings c v is in
      (r.0, r.1, slice_get_within s.readings r.0 r.1 r.2, r.2, r.3)

-- all components and all measured cells are the stock
pub stock_last : (s : PresentView) → IsLawful s → (Es : List (Set Place)) → IsRoster (IsWithin (IsPartOrCell s (length s.readings))) Es → IsRoster (IsEnvironment (stock s)) Es
stock_last s lawful Es all = roster_alike (IsWithin (IsPartOrCell s (length s.readings))) (IsEnvironment (stock s)) Es (λ E within k m. in_stock s lawful k (within k m)) (λ E within k m. from_stock s k (within k m)) all
