-- What a closing lists.
use Rattle.std.proofs.Common.{◌≡◌, ◌≢◌, ℕ, zero, suc, ◌<◌, ◌≤◌, ◌⊎◌, inl, inr, List, [], ◌∷◌, Option, Some, None, refl, sym, ap, subst, ◌∙◌, arith}
use Rattle.std.proofs.lemmas.Bool.{cases_lt, cases_eq}
use Rattle.environment_sets.specs.Sets.{Set}
use Rattle.environment_sets.specs.Lists.{IsIn}
use Rattle.circuit_model.specs.declared.model.Cell.{Cell}
use Rattle.circuit_model.specs.declared.model.Fact.{Fact}
use Rattle.circuit_model.specs.Closure.{fact, ClashesAt}
use Rattle.circuit_model.specs.Diagnoses.{Place}
use Rattle.circuit_model.specs.Derivation.{IsAssumed, HoldsAt, IsRoundOf}
use Rattle.circuit_model.specs.Present.{PresentView, IsLawful, circuit_of}
use Rattle.circuit_model.proofs.SameCells.{fact_by, same_or_other_fact}
use Rattle.circuit_model.proofs.Rounds.{Holds-later}
use Rattle.proof_check.specs.declared.derivation.Ending.{Ending}
use Rattle.proof_check.specs.Closing.{Timed, ClosedView, EndsAt, Closes}
use Rattle.proof_check.proofs.Fitting.{follows_fits}
use Rattle.explanations.specs.Words.{word_by, TellsRound, HasFitting}
use Rattle.explanations.proofs.Listed.{IsListed, word_by-listed, listed-word_by}

-- the fact stands in the list, with its round
pub record HasTimed (facts : List Timed) (f : Fact) : Type 0 where
  pub timed : Timed
  pub there : IsIn facts timed
  pub is : timed.fact ≡ f

timed_or_not : (facts : List Timed) (f : Fact) → HasTimed facts f ⊎ ((t : Timed) → IsIn facts t → t.fact ≡ f → ⊥)
timed_or_not [] f = inr (λ t (bad : ⊥) e. bad)
timed_or_not (u ∷ facts) f = elim (same_or_other_fact u.fact f) [
  | inl e ↦ inl (record { timed = u; there = inl refl; is = e })
  | inr differ ↦ elim (timed_or_not facts f) [
    | inl h ↦ inl (record { timed = h.timed; there = inr h.there; is = h.is })
    | inr none ↦ inr (λ t at e. elim at [ inl same ↦ differ (ap (λ (t : Timed). t.fact) same ∙ e) | inr at ↦ none t at e ])
  ]
]

module _ (s : PresentView) (E : Set Place) where
  -- a fact of which no round is the first holds at none
  no_round : (f : Fact) (last : ℕ) → ((m : ℕ) → m ≤ last → IsRoundOf (circuit_of s) E f m → ⊥) → (n : ℕ) → n ≤ last → (m : ℕ) → m ≤ n → HoldsAt (circuit_of s) E m f → ⊥
  no_round f last none zero low m most h =
      let is : m ≡ 0 = omega arith in
      let P : ℕ → Type 0 = λ k. HoldsAt (circuit_of s) E k f in
      none 0 (omega arith) (record { holds = subst P is h; first = λ k _. omega arith })
  no_round f last none (suc n) low m most h = elim (cases_lt n m) [
    | inl past ↦ none m (omega arith) (record { holds = h; first = λ k holds. elim (cases_lt n k) [ inl above ↦ omega arith | inr below ↦ absurd (no_round f last none n (omega arith) k below holds) ] })
    | inr below ↦ no_round f last none n (omega arith) m below h
  ]

  module _ (c : ClosedView) (closes : Closes s E c) where
    -- what holds by the last round is listed
    pub holds_listed : (n : ℕ) (f : Fact) → n ≤ closes.last → HoldsAt (circuit_of s) E n f → HasTimed c.facts f
    holds_listed n f low h = elim (timed_or_not c.facts f) [
      | inl there ↦ there
      | inr none ↦ absurd (no_round f closes.last (λ m most is_round. let t : Timed = record { fact = f; round = m } in none t ((closes.exact t).1 (is_round, most)) refl) n low n (omega arith) h)
    ]

    -- its round is its first
    pub timed_round : (t : Timed) → IsIn c.facts t → IsRoundOf (circuit_of s) E t.fact t.round
    timed_round t at = ((closes.exact t).0 at).0

    pub timed_low : (t : Timed) → IsIn c.facts t → t.round ≤ closes.last
    timed_low t at = ((closes.exact t).0 at).1

    by_ending : (o : Option Ending) → EndsAt s E closes.last o → (n : ℕ) → n < closes.last → ClashesAt (IsAssumed (circuit_of s) E) n → ⊥
    by_ending None ends n low h = ends.1 (n, h)
    by_ending (Some e) ends n low h = let most : closes.last ≤ n = ends.0.first n h in omega arith

    -- before the last round no cell has two words
    pub one_word : (n : ℕ) → n < closes.last → (d : Cell) (v w : ℕ) → HoldsAt (circuit_of s) E n (fact d v) → HoldsAt (circuit_of s) E n (fact d w) → v ≡ w
    one_word n low d v w a b = elim (cases_eq v w) [
      | inl e ↦ e
      | inr differ ↦ absurd (by_ending c.clash closes.ends n low (inl (record { cell = d; low = v; high = w; low_holds = a; high_holds = b; differ = differ })))
    ]

    -- the listed words are those that held
    pub tells_round : (n : ℕ) → n < closes.last → TellsRound s E c.facts n
    tells_round n low d v = (to v, from) where
      to : (v : ℕ) → word_by c.facts n d ≡ Some v → HoldsAt (circuit_of s) E n (fact d v)
      to v e =
          let l : IsListed n d c.facts v = word_by-listed n d c.facts v e in
          let is : l.timed.fact ≡ fact d v = fact_by l.timed.fact (fact d v) l.cell l.value in
          let P : Fact → Type 0 = λ f. HoldsAt (circuit_of s) E n f in
          subst P is (Holds-later (IsAssumed (circuit_of s) E) l.timed.round n l.timed.fact l.by (timed_round l.timed l.there).holds)

      from : HoldsAt (circuit_of s) E n (fact d v) → word_by c.facts n d ≡ Some v
      from h =
          let t : HasTimed c.facts (fact d v) = holds_listed n (fact d v) (omega arith) h in
          let P : Fact → Type 0 = λ f. HoldsAt (circuit_of s) E n f in
          let by : t.timed.round ≤ n = (timed_round t.timed t.there).first n (subst P (sym t.is) h) in
          let r : (w : ℕ) × (word_by c.facts n d ≡ Some w) = listed-word_by n d c.facts t.timed t.there (ap (λ (f : Fact). f.cell) t.is) by in
          r.1 ∙ ap Some (one_word n low d r.0 v (to r.0 r.1) h)

-- words that follow fit
pub told_fit : (s : PresentView) → IsLawful s → (E : Set Place) (facts : List Timed) (n : ℕ) → TellsRound s E facts n → HasFitting s facts n
told_fit s lawful E facts n told c v e = follows_fits s E lawful (fact c v) (n, (told c v).0 e)
