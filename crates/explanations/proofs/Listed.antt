-- Words by a round, as a list tells them.
use Rattle.std.proofs.Common.{◌≡◌, ℕ, zero, suc, ◌+◌, ◌<◌, ◌≤◌, inl, inr, Bool, true, false, ◌&&◌, nat_le, if◌then◌else◌, IsTrue, List, [], ◌∷◌, length, drop, slice_get, Some, None, add-one, refl, sym, subst, ◌∙◌, arith}
use Rattle.std.proofs.lemmas.Bool.{and_parts, and_from, and_left, and_right, leb-true, le-leb, lt-leb}
use Rattle.environment_sets.specs.Lists.{IsIn}
use Rattle.circuit_model.specs.declared.model.Cell.{Cell}
use Rattle.circuit_model.specs.Present.{is_cell}
use Rattle.circuit_model.proofs.SameCells.{same_cell, cell_itself}
use Rattle.proof_check.specs.Closing.{Timed}
use Rattle.explanations.specs.Words.{AreByRound, word_by}

module _ (round : ℕ) (c : Cell) where
  abbrev is_by : Timed → Bool
  is_by t = is_cell t.fact.cell c && nat_le t.round round

  word_by-first : (t : Timed) (facts : List Timed) → IsTrue (is_by t) → word_by (t ∷ facts) round c ≡ Some t.fact.value
  word_by-first t facts passes = let P : Bool → Type 0 = λ b. (if b then Some t.fact.value else word_by facts round c) ≡ Some t.fact.value in subst P (sym passes) refl

  word_by-rest : (t : Timed) (facts : List Timed) → is_by t ≡ false → word_by (t ∷ facts) round c ≡ word_by facts round c
  word_by-rest t facts fails = let P : Bool → Type 0 = λ b. (if b then Some t.fact.value else word_by facts round c) ≡ word_by facts round c in subst P (sym fails) refl

  -- the fact at the place is one
  pub word_by-here : (facts : List Timed) (i : ℕ) (t : Timed) → slice_get facts i ≡ Some t → IsTrue (is_by t) → word_by (drop i facts) round c ≡ Some t.fact.value
  word_by-here [] i t at passes = absurd (cc)
  word_by-here (u ∷ facts) zero t at passes =
      let same : u ≡ t = cc in
      let P : Timed → Type 0 = λ u. word_by (u ∷ facts) round c ≡ Some t.fact.value in
      subst P (sym same) (word_by-first t facts passes)
  word_by-here (u ∷ facts) (suc i) t at passes = word_by-here facts i t at passes

  later : (facts : List Timed) (i : ℕ) (t : Timed) → slice_get facts i ≡ Some t → is_by t ≡ false → word_by (drop i facts) round c ≡ word_by (drop (suc i) facts) round c
  later [] i t at fails = absurd (cc)
  later (u ∷ facts) zero t at fails =
      let same : u ≡ t = cc in
      let P : Timed → Type 0 = λ u. word_by (u ∷ facts) round c ≡ word_by facts round c in
      subst P (sym same) (word_by-rest t facts fails)
  later (u ∷ facts) (suc i) t at fails = later facts i t at fails

  -- it is none
  pub word_by-later : (facts : List Timed) (i : ℕ) (t : Timed) → slice_get facts i ≡ Some t → is_by t ≡ false → word_by (drop i facts) round c ≡ word_by (drop (i + 1) facts) round c
  word_by-later facts i t at fails = rw add-one (later facts i t at fails)

  none_by : (facts : List Timed) → ((t : Timed) → IsIn facts t → round < t.round) → word_by facts round c ≡ None
  none_by [] past = refl
  none_by (t ∷ facts) past = word_by-rest t facts (and_right (is_cell t.fact.cell c) (nat_le t.round round) (lt-leb t.round round (past t (inl refl)))) ∙ none_by facts (λ u at. past u (inr at))

  -- in order, none is left past the round
  pub word_by-past : (facts : List Timed) → AreByRound facts → (i : ℕ) (t : Timed) → slice_get facts i ≡ Some t → round < t.round → word_by (drop i facts) round c ≡ None
  word_by-past [] rising i t at past = absurd (cc)
  word_by-past (u ∷ facts) rising zero t at past =
      let same : t ≡ u = cc in
      let low : round < u.round = subst (λ (t : Timed). round < t.round) same past in
      none_by (u ∷ facts) (λ v h. elim h [
        | inl e ↦ subst (λ (v : Timed). round < v.round) e low
        | inr later ↦ elim (rising.0 v later) [ inl less ↦ omega (arith, low, less) | inr also ↦ omega (arith, low, also.0) ]
      ])
  word_by-past (u ∷ facts) rising (suc i) t at past = word_by-past facts rising.1 i t at past

  -- a fact at the cell by the round
  pub is_by_from : (t : Timed) → is_cell t.fact.cell c ≡ true → t.round ≤ round → IsTrue (is_by t)
  is_by_from t same by = and_from (is_cell t.fact.cell c) (nat_le t.round round) same (le-leb t.round round by)

  -- one at another cell
  pub is_by-other : (t : Timed) → is_cell t.fact.cell c ≡ false → is_by t ≡ false
  is_by-other t other = and_left (is_cell t.fact.cell c) (nat_le t.round round) other

  -- none is left
  pub word_by-end : (facts : List Timed) (i : ℕ) → length facts ≤ i → word_by (drop i facts) round c ≡ None
  word_by-end [] zero all = refl
  word_by-end [] (suc i) all = refl
  word_by-end (u ∷ facts) zero all = absurd (omega arith)
  word_by-end (u ∷ facts) (suc i) all = word_by-end facts i (omega arith)

  -- a word by the round is that of a fact of the list
  pub record IsListed (facts : List Timed) (v : ℕ) : Type 0 where
    pub timed : Timed
    pub there : IsIn facts timed
    pub cell : timed.fact.cell ≡ c
    pub value : timed.fact.value ≡ v
    pub by : timed.round ≤ round

  test_parts : (t : Timed) → IsTrue (is_by t) → (t.fact.cell ≡ c) × (t.round ≤ round)
  test_parts t passes = let parts : (is_cell t.fact.cell c ≡ true) × (nat_le t.round round ≡ true) = and_parts (is_cell t.fact.cell c) (nat_le t.round round) passes in (same_cell t.fact.cell c parts.0, leb-true t.round round parts.1)

  pub word_by-listed : (facts : List Timed) (v : ℕ) → word_by facts round c ≡ Some v → IsListed facts v
  word_by-listed [] v e = absurd (cc)
  word_by-listed (t ∷ facts) v e =
      elim (is_by t) as (λ b. is_by t ≡ b → IsListed (t ∷ facts) v) [
        | true ↦ λ passes.
            let first = word_by-first t facts passes in
            let parts : (t.fact.cell ≡ c) × (t.round ≤ round) = test_parts t passes in
            let value : t.fact.value ≡ v = cc in
            record { timed = t; there = inl refl; cell = parts.0; value = value; by = parts.1 }
        | false ↦ λ fails.
            let rest : IsListed facts v = word_by-listed facts v (sym (word_by-rest t facts fails) ∙ e) in
            record { timed = rest.timed; there = inr rest.there; cell = rest.cell; value = rest.value; by = rest.by }
      ] refl

  test_from : (t : Timed) → t.fact.cell ≡ c → t.round ≤ round → IsTrue (is_by t)
  test_from t same by = is_by_from t (let P : Cell → Type 0 = λ d. is_cell d c ≡ true in subst P (sym same) (cell_itself c)) by

  -- where a fact of the list is at the cell by the round, there is a word
  pub listed-word_by : (facts : List Timed) (t : Timed) → IsIn facts t → t.fact.cell ≡ c → t.round ≤ round → (v : ℕ) × (word_by facts round c ≡ Some v)
  listed-word_by [] t at same by = absurd at
  listed-word_by (u ∷ facts) t (inl e) same by =
      let P : Timed → Type 0 = λ u. word_by (u ∷ facts) round c ≡ Some t.fact.value in
      (t.fact.value, subst P (sym e) (word_by-first t facts (test_from t same by)))
  listed-word_by (u ∷ facts) t (inr at) same by =
      let r : (v : ℕ) × (word_by facts round c ≡ Some v) = listed-word_by facts t at same by in
      elim (is_by u) as (λ b. is_by u ≡ b → (v : ℕ) × (word_by (u ∷ facts) round c ≡ Some v)) [
        | true ↦ λ passes. (u.fact.value, word_by-first u facts passes)
        | false ↦ λ fails. (r.0, word_by-rest u facts fails ∙ r.1)
      ] refl
