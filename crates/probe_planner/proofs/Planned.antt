-- The best probe so far, cell after cell.
use Rattle.std.proofs.Common.{◌≡◌, ℕ, ◌+◌, ◌*◌, ◌<◌, ◌≤◌, ◌⊎◌, inl, inr, true, false, cond, ◌==◌, ◌&&◌, IsTrue, nat_lt, nat_le, length, Option, Some, None, is_some, MatchOption, refl, sym, ap, ap₂, subst, ◌∙◌, arith}
use Rattle.std.specs.List.{sum_by}
use Rattle.std.proofs.lemmas.Bool.{or_cases, or_left, or_right, and_parts, and_from, ltb-true, lt-ltb, eqb-true, eq-eqb}
use Rattle.std.proofs.lemmas.Bool.Decides.{nat_tests}
use Rattle.circuit_model.specs.declared.model.Cell.{Cell}
use Rattle.circuit_model.specs.Diagnoses.{Circuit}
use Rattle.circuit_model.specs.Present.{PresentView, circuit_of, is_cell_before, reading_in}
use Rattle.circuit_model.specs.Probe.{weight_of, IsScore, IsTotal, IsUnmeasured, Splits, IsBestProbe, HasNoProbe}
use Rattle.circuit_model.proofs.Splitting.{cells_have_one_score, diagnoses_have_one_listing}
use Rattle.circuit_model.proofs.SameCells.{cell_by}
use Rattle.probe_planner.specs.declared.planner.Probe.{Probe}
use Rattle.probe_planner.specs.Planning.{IsBestBefore, IsBestSoFar, lesser_of, better_of, after_cell, first_cell}

-- ---- the order of cells

abbrev Precedes : Cell → Cell → Type 0
Precedes d c = (d.net < c.net) ⊎ ((d.net ≡ c.net) × (d.cycle < c.cycle))

before_is : (d c : Cell) → IsTrue (is_cell_before d c) → Precedes d c
before_is d c h = elim (or_cases (nat_lt d.net c.net) ((d.net == c.net) && nat_lt d.cycle c.cycle) h) [
  | inl low ↦ inl (ltb-true d.net c.net low)
  | inr same ↦ let both = and_parts (d.net == c.net) (nat_lt d.cycle c.cycle) same in inr (eqb-true d.net c.net both.0, ltb-true d.cycle c.cycle both.1)
]

is_before : (d c : Cell) → Precedes d c → IsTrue (is_cell_before d c)
is_before d c (inl low) = or_left (nat_lt d.net c.net) ((d.net == c.net) && nat_lt d.cycle c.cycle) (lt-ltb d.net c.net low)
is_before d c (inr (same, low)) = or_right (nat_lt d.net c.net) ((d.net == c.net) && nat_lt d.cycle c.cycle) (and_from (d.net == c.net) (nat_lt d.cycle c.cycle) (eq-eqb d.net c.net same) (lt-ltb d.cycle c.cycle low))

lower_or_same : (k n : ℕ) → k < n + 1 → (k < n) ⊎ (k ≡ n)
lower_or_same k n h = grind arith

before_after : (d c : Cell) → IsTrue (is_cell_before d (after_cell c)) → IsTrue (is_cell_before d c) ⊎ (d ≡ c)
before_after d c h = elim (before_is d (after_cell c) h) [
  | inl low ↦ inl (is_before d c (inl low))
  | inr (same, low) ↦ elim (lower_or_same d.cycle c.cycle low) [
    | inl lower ↦ inl (is_before d c (inr (same, lower)))
    | inr equal ↦ inr (cell_by d c same equal)
  ]
]

after_before : (d c : Cell) → IsTrue (is_cell_before d c) → IsTrue (is_cell_before d (after_cell c))
after_before d c h = elim (before_is d c h) [
  | inl low ↦ is_before d (after_cell c) (inl low)
  | inr (same, low) ↦ is_before d (after_cell c) (inr (same, omega (arith, low)))
]

itself_before : (c : Cell) → IsTrue (is_cell_before c (after_cell c))
itself_before c = is_before c (after_cell c) (inr (refl, omega arith))

le_is : (m n : ℕ) → nat_le m n ≡ true → m ≤ n
le_is m n e = grind (arith, nat_tests)

less_is : (m n : ℕ) → nat_le m n ≡ false → n < m
less_is m n e = grind (arith, nat_tests)

-- ---- one total

total_unique : (P : Circuit) (m n : ℕ) → IsTotal P m → IsTotal P n → m ≡ n
total_unique P m n s t =
    let same : s.diagnoses ≡ t.diagnoses = diagnoses_have_one_listing P s.diagnoses t.diagnoses s.exact t.exact in
    s.squared ∙ (ap (λ Ds. sum_by (weight_of P) Ds * sum_by (weight_of P) Ds) same ∙ sym t.squared)

-- ---- a cell that is measured, or is not

pub some_not_none : (o : Option ℕ) → is_some o ≡ true → o ≡ None → ⊥
some_not_none None e same = absurd (cc)
some_not_none (Some v) e same = absurd (cc)

module _ (s : PresentView) where
  -- ---- at the start, at the end, and from net to net

  pub none_before : IsBestSoFar s (first_cell 0) None
  none_before d h open_d splits = elim (before_is d (first_cell 0) h) [ inl low ↦ absurd (omega arith) | inr (same, low) ↦ absurd (omega arith) ]

  pub next_net : (net : ℕ) (best : Option Probe) (c : Cell) → c.net ≡ net → s.cycles ≤ c.cycle → IsBestSoFar s c best → IsBestSoFar s (first_cell (net + 1)) best
  next_net net None c same past was = λ d h open_d splits. was d (earlier d h open_d) open_d splits where
    earlier : (d : Cell) → IsTrue (is_cell_before d (first_cell (net + 1))) → IsUnmeasured s d → IsTrue (is_cell_before d c)
    earlier d h open_d = elim (before_is d (first_cell (net + 1)) h) [
      | inl low ↦ elim (lower_or_same d.net net low) [
        | inl lower ↦ is_before d c (inl (omega (arith, lower, same)))
        | inr equal ↦ is_before d c (inr (equal ∙ sym same, let inside = open_d.cycle in omega (arith, inside, past)))
      ]
      | inr (equal, low) ↦ absurd (omega arith)
    ]
  next_net net (Some p) c same past was =
      record {
        before = later (before_is p.cell c was.before);
        unmeasured = was.unmeasured;
        scored = was.scored;
        totalled = was.totalled;
        splits = was.splits;
        least = λ d m h open_d scored. was.least d m (earlier d h open_d) open_d scored;
        first = was.first;
      }
    where
      later : Precedes p.cell c → IsTrue (is_cell_before p.cell (first_cell (net + 1)))
      later (inl low) = is_before p.cell (first_cell (net + 1)) (inl (omega (arith, low, same)))
      later (inr (equal, low)) = is_before p.cell (first_cell (net + 1)) (inl (omega (arith, equal, same)))

      earlier : (d : Cell) → IsTrue (is_cell_before d (first_cell (net + 1))) → IsUnmeasured s d → IsTrue (is_cell_before d c)
      earlier d h open_d = elim (before_is d (first_cell (net + 1)) h) [
        | inl low ↦ elim (lower_or_same d.net net low) [
          | inl lower ↦ is_before d c (inl (omega (arith, lower, same)))
          | inr equal ↦ is_before d c (inr (equal ∙ sym same, let inside = open_d.cycle in omega (arith, inside, past)))
        ]
        | inr (equal, low) ↦ absurd (omega arith)
      ]

  pub best_of_all : (net : ℕ) (best : Option Probe) → length s.nets ≤ net → IsBestSoFar s (first_cell net) best → MatchOption best (HasNoProbe s) (λ p. IsBestProbe s p.cell p.score p.total)
  best_of_all net None all was = λ d open_d splits. was d (is_before d (first_cell net) (inl (let inside = open_d.net in omega (arith, inside, all)))) open_d splits
  best_of_all net (Some p) all was = record {
    unmeasured = was.unmeasured;
    scored = was.scored;
    totalled = was.totalled;
    splits = was.splits;
    least = λ d m open_d scored. was.least d m (is_before d (first_cell net) (inl (let inside = open_d.net in omega (arith, inside, all)))) open_d scored;
    first = was.first;
  }

  -- ---- one cell more

  module _ (c : Cell) where
    -- one that is measured, or does not split, or is no better
    unchanged_none : IsBestSoFar s c None → (IsUnmeasured s c → Splits (circuit_of s) c → ⊥) → IsBestSoFar s (after_cell c) None
    unchanged_none was none d h open_d splits = elim (before_after d c h) [
      | inl before ↦ was d before open_d splits
      | inr same ↦ none (subst (IsUnmeasured s) same open_d) (subst (Splits (circuit_of s)) same splits)
    ]

    unchanged_some : (p : Probe) → IsBestBefore s c p → ((m : ℕ) → IsUnmeasured s c → IsScore (circuit_of s) c m → p.score ≤ m) → IsBestBefore s (after_cell c) p
    unchanged_some p was low = record {
      before = after_before p.cell c was.before;
      unmeasured = was.unmeasured;
      scored = was.scored;
      totalled = was.totalled;
      splits = was.splits;
      least = λ d m h open_d scored. elim (before_after d c h) [
        | inl before ↦ was.least d m before open_d scored
        | inr same ↦ low m (subst (IsUnmeasured s) same open_d) (let Q : Cell → Type 0 = λ e. IsScore (circuit_of s) e m in subst Q same scored)
      ];
      first = was.first;
    }

    pub measured_more : (best : Option Probe) → IsBestSoFar s c best → (reading_in s.readings c ≡ None → ⊥) → IsBestSoFar s (after_cell c) best
    measured_more None was measured = unchanged_none was (λ open_c _. measured open_c.open_cell)
    measured_more (Some p) was measured = unchanged_some p was (λ m open_c _. absurd (measured open_c.open_cell))

    module _ (n t : ℕ) (open_c : IsUnmeasured s c) (scored : IsScore (circuit_of s) c n) (totalled : IsTotal (circuit_of s) t) where
      abbrev probe : Probe
      probe = record { cell = c; score = n; total = t }

      one_score : (m : ℕ) → IsScore (circuit_of s) c m → m ≡ n
      one_score m other = cells_have_one_score (circuit_of s) c m n other scored

      splits_of : (d : Cell) (m : ℕ) → IsScore (circuit_of s) d m → m < t → Splits (circuit_of s) d
      splits_of d m other less = record { low = m; high = t; scored = other; totalled = totalled; below = less }

      -- it does not split
      no_split : t ≤ n → Splits (circuit_of s) c → ⊥
      no_split high splits =
          let low : splits.low ≡ n = one_score splits.low splits.scored in
          let all : splits.high ≡ t = total_unique (circuit_of s) splits.high t splits.totalled totalled in
          let below : splits.low < splits.high = splits.below in
          absurd (omega (arith, low, all, below, high))

      passed_over : (best : Option Probe) → IsBestSoFar s c best → t ≤ n → IsBestSoFar s (after_cell c) best
      passed_over None was high = unchanged_none was (λ _. no_split high)
      passed_over (Some p) was high = unchanged_some p was (λ m _ other.
          let all : p.total ≡ t = total_unique (circuit_of s) p.total t was.totalled totalled in
          let below : p.score < p.total = was.splits in
          let same : m ≡ n = one_score m other in
          omega (arith, all, below, same, high))

      -- it is kept in place of nothing
      first_found : n < t → IsBestSoFar s c None → IsBestBefore s (after_cell c) probe
      first_found less was = record {
        before = itself_before c;
        unmeasured = open_c;
        scored = scored;
        totalled = totalled;
        splits = less;
        least = λ d m h open_d other. elim (before_after d c h) [
          | inl before ↦ elim (lower m n) [ inl le ↦ le | inr lower ↦ absurd (was d before open_d (splits_of d m other (omega (arith, lower, less)))) ]
          | inr same ↦ let equal : m ≡ n = one_score m (let Q : Cell → Type 0 = λ e. IsScore (circuit_of s) e m in subst Q same other) in omega (arith, equal)
        ];
        first = λ d open_d other before. was d before open_d (splits_of d n other less);
      }
        where
          lower : (m n : ℕ) → (n ≤ m) ⊎ (m < n)
          lower m n = grind arith

      -- or in place of one with a larger score
      less_found : n < t → (p : Probe) → n < p.score → IsBestBefore s c p → IsBestBefore s (after_cell c) probe
      less_found less p lower was = record {
        before = itself_before c;
        unmeasured = open_c;
        scored = scored;
        totalled = totalled;
        splits = less;
        least = λ d m h open_d other. elim (before_after d c h) [
          | inl before ↦ let le : p.score ≤ m = was.least d m before open_d other in omega (arith, le, lower)
          | inr same ↦ let equal : m ≡ n = one_score m (let Q : Cell → Type 0 = λ e. IsScore (circuit_of s) e m in subst Q same other) in omega (arith, equal)
        ];
        first = λ d open_d other before. let le : p.score ≤ n = was.least d n before open_d other in absurd (omega (arith, le, lower));
      }

      kept : (p : Probe) → p.score ≤ n → IsBestBefore s c p → IsBestBefore s (after_cell c) p
      kept p le was = unchanged_some p was (λ m _ other. let same : m ≡ n = one_score m other in omega (arith, le, same))

      in_place_of : (best : Option Probe) → n < t → IsBestSoFar s c best → IsBestBefore s (after_cell c) (lesser_of best probe)
      in_place_of None less was = first_found less was
      in_place_of (Some p) less was =
          elim (nat_le p.score n) as (λ b. nat_le p.score n ≡ b → IsBestBefore s (after_cell c) (cond b p probe)) [
            | true ↦ λ e. kept p (le_is p.score n e) was
            | false ↦ λ e. less_found less p (less_is p.score n e) was
          ] refl

      pub one_more : (best : Option Probe) → IsBestSoFar s c best → IsBestSoFar s (after_cell c) (better_of best probe)
      one_more best was =
          elim (nat_le t n) as (λ b. nat_le t n ≡ b → IsBestSoFar s (after_cell c) (cond b best (Some (lesser_of best probe)))) [
            | true ↦ λ e. passed_over best was (le_is t n e)
            | false ↦ λ e. in_place_of best (less_is t n e) was
          ] refl
