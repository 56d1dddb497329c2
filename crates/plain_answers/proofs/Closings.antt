-- What the closing of an environment, round by round, says of it.
use Rattle.std.proofs.Common.{◌≡◌, ℕ, zero, suc, ◌+◌, ◌≤◌, [], ◌∷◌, inl, inr, Bool, true, false, if◌then◌else◌, List, Option, Some, None, is_some, slice_get, drop, refl, sym, ap, ap₂, subst, ◌∙◌, true≢false, arith}
use Rattle.std.proofs.lemmas.Bool.{cases_lt, cases_eq}
use Rattle.environment_sets.specs.Sets.{Set}
use Rattle.environment_sets.specs.Lists.{IsIn}
use Rattle.circuit_model.specs.declared.model.Cell.{Cell}
use Rattle.circuit_model.specs.declared.model.Fact.{Fact}
use Rattle.circuit_model.specs.declared.model.Assumption.{Assumption}
use Rattle.circuit_model.specs.Closure.{fact, Holds, Follows}
use Rattle.circuit_model.specs.Derivation.{IsRoundOf}
use Rattle.circuit_model.specs.Diagnoses.{Place}
use Rattle.circuit_model.specs.Present.{PresentView, circuit_of, is_cell}
use Rattle.circuit_model.specs.Stock.{IsChosen, IsRefutedBy}
use Rattle.circuit_model.specs.Whole.{stock}
use Rattle.circuit_model.proofs.Decided.{last_rounds_are_closures}
use Rattle.circuit_model.proofs.Monotony.{Follows-map, Clashes-map}
use Rattle.circuit_model.proofs.Rounds.{Holds-later, Clashes-two_words}
use Rattle.circuit_model.proofs.SameCells.{same_cell, cell_itself}
use Rattle.proof_check.specs.declared.derivation.Ending.{Ending}
use Rattle.proof_check.specs.Closing as rounds
use Rattle.proof_check.specs.Closing.{Timed, ClosedView, EndsAt}
use Rattle.plain_answers.specs.Closing.{AreFacts, IsOfPresent}
use Rattle.plain_answers.specs.Words.{word_in}

-- the fact at the cell, for a word that is listed there
abbrev AtWord : List Timed → Cell → ℕ → Type 0
AtWord facts c v = (t : Timed) × IsIn facts t × (t.fact ≡ fact c v)

-- a word is that of a listed fact
word_listed : (facts : List Timed) (c : Cell) (v : ℕ) → word_in facts c ≡ Some v → AtWord facts c v
word_listed [] c v e = cc
word_listed (t ∷ facts) c v e = by_test (is_cell t.fact.cell c) refl e (λ h. word_listed facts c v h) where
  by_test : (b : Bool) → is_cell t.fact.cell c ≡ b → (if b then Some t.fact.value else word_in facts c) ≡ Some v → (word_in facts c ≡ Some v → AtWord facts c v) → AtWord (t ∷ facts) c v
  by_test true is e later = let value : t.fact.value ≡ v = cc in (t, inl refl, ap₂ (λ (c : Cell) (v : ℕ). fact c v) (same_cell t.fact.cell c is) value)
  by_test false is e later = let r : AtWord facts c v = later e in (r.0, inr r.1, r.2)

-- where a fact is listed, its cell has a word
listed_word : (facts : List Timed) (t : Timed) → IsIn facts t → (v : ℕ) × (word_in facts t.fact.cell ≡ Some v)
listed_word [] t h = absurd h
listed_word (u ∷ facts) t h = by_test (is_cell u.fact.cell t.fact.cell) refl h (λ later. listed_word facts t later) where
  by_test : (b : Bool) → is_cell u.fact.cell t.fact.cell ≡ b → IsIn (u ∷ facts) t → (IsIn facts t → (v : ℕ) × (word_in facts t.fact.cell ≡ Some v)) → (v : ℕ) × ((if b then Some u.fact.value else word_in facts t.fact.cell) ≡ Some v)
  by_test true is h later = (u.fact.value, refl)
  by_test false is (inl e) later =
      let same : is_cell u.fact.cell t.fact.cell ≡ true = ap (λ (u : Timed). is_cell u.fact.cell t.fact.cell) e ∙ cell_itself t.fact.cell in
      absurd (true≢false (sym same ∙ is))
  by_test false is (inr h) later = later h

module _ (s : PresentView) (E F : Set Place) (same : IsOfPresent s E F) where
  from_present : (a : Assumption) → IsChosen (stock s) F a → IsChosen (stock s) E a
  from_present a h = record { name = h.name; chosen = ((same h.name).0 h.chosen).1; named = h.named }

  in_present : (a : Assumption) → IsChosen (stock s) E a → IsChosen (stock s) F a
  in_present a h = record { name = h.name; chosen = (same h.name).1 (ap is_some h.named, h.chosen); named = h.named }

  module _ (closed : ClosedView) (closes : rounds.Closes s F closed) where
    -- a clash is one of the environment
    pub clash_of : is_some closed.clash ≡ true → IsRefutedBy (stock s) E
    clash_of some = by_clash closed.clash some closes.ends where
      by_clash : (o : Option Ending) → is_some o ≡ true → EndsAt s F closes.last o → IsRefutedBy (stock s) E
      by_clash None some ends = absurd (true≢false (sym some))
      by_clash (Some e) some ends = Clashes-map from_present (closes.last, ends.0.holds)

    listed_follows : (c : Cell) (v : ℕ) → word_in closed.facts c ≡ Some v → Follows (IsChosen (stock s) F) (fact c v)
    listed_follows c v e =
        let t : AtWord closed.facts c v = word_listed closed.facts c v e in
        let round : IsRoundOf (circuit_of s) F t.0.fact t.0.round = ((closes.exact t.0).0 t.1).0 in
        subst (λ (f : Fact). Follows (IsChosen (stock s) F) f) t.2 (t.0.round, round.holds)

    -- a fact that is not listed does not hold up to the last round
    module _ (f : Fact) (unlisted : (n : ℕ) → IsIn closed.facts (record { fact = f; round = n }) → ⊥) where
      unlisted_fails : (n : ℕ) → n ≤ closes.last → Holds (IsChosen (stock s) F) n f → ⊥
      unlisted_fails zero low h = unlisted 0 ((closes.exact (record { fact = f; round = 0 })).1 (record { holds = h; first = λ m k. omega arith }, low))
      unlisted_fails (suc n) low h = unlisted (suc n) ((closes.exact (record { fact = f; round = suc n })).1 (record { holds = h; first = first (unlisted_fails n (omega arith)) }, low)) where
        first : (Holds (IsChosen (stock s) F) n f → ⊥) → (m : ℕ) → Holds (IsChosen (stock s) F) m f → suc n ≤ m
        first fails m k = elim (cases_lt n m) [
          | inl above ↦ omega arith
          | inr below ↦ absurd (fails (Holds-later (IsChosen (stock s) F) m n f (omega arith) k))
        ]

    module _ (ends : EndsAt s F closes.last None) where
      same_word : (c : Cell) (v w : ℕ) → Follows (IsChosen (stock s) F) (fact c v) → Follows (IsChosen (stock s) F) (fact c w) → w ≡ v
      same_word c v w h k = elim (cases_eq w v) [
        | inl is ↦ is
        | inr differ ↦ absurd (ends.1 (Clashes-two_words (IsChosen (stock s) F) (record { cell = c; low = w; high = v; low_holds = k; high_holds = h; differ = differ })))
      ]

      follows_listed : (c : Cell) (v : ℕ) → Follows (IsChosen (stock s) F) (fact c v) → word_in closed.facts c ≡ Some v
      follows_listed c v h = by_word (word_in closed.facts c) refl where
        by_word : (o : Option ℕ) → word_in closed.facts c ≡ o → word_in closed.facts c ≡ Some v
        by_word (Some w) is = is ∙ ap Some (same_word c v w h (listed_follows c w is))
        by_word None is = absurd (unlisted_fails (fact c v) unlisted closes.last (omega arith) ((last_rounds_are_closures Place (stock s) F closes.last ends.0 (fact c v)).0 h)) where
          unlisted : (n : ℕ) → IsIn closed.facts (record { fact = fact c v; round = n }) → ⊥
          unlisted n at = let r : (w : ℕ) × (word_in closed.facts c ≡ Some w) = listed_word closed.facts (record { fact = fact c v; round = n }) at in let some = r.1 in cc

      facts_at_end : AreFacts s E closed.facts
      facts_at_end = record {
        consistent = λ r. ends.1 (Clashes-map in_present r);
        exact = λ c v. (
          λ e. Follows-map from_present (fact c v) (listed_follows c v e),
          λ h. follows_listed c v (Follows-map in_present (fact c v) h),
        );
      }

    -- without one, the listed facts are those of the environment
    pub facts_of : is_some closed.clash ≡ false → AreFacts s E closed.facts
    facts_of none = by_clash closed.clash none closes.ends where
      by_clash : (o : Option Ending) → is_some o ≡ false → EndsAt s F closes.last o → AreFacts s E closed.facts
      by_clash None none ends = facts_at_end ends
      by_clash (Some e) none ends = absurd (true≢false none)

-- the words from a place on
pub word_in-drop : (facts : List Timed) (i : ℕ) (t : Timed) (c : Cell) → slice_get facts i ≡ Some t → word_in (drop i facts) c ≡ (if is_cell t.fact.cell c then Some t.fact.value else word_in (drop (i + 1) facts) c)
word_in-drop [] i t c e = cc
word_in-drop (u ∷ facts) zero t c e = let is : u ≡ t = cc in subst (λ (t : Timed). word_in (u ∷ facts) c ≡ (if is_cell t.fact.cell c then Some t.fact.value else word_in facts c)) is refl
word_in-drop (u ∷ facts) (suc i) t c e =
    let next : suc (i + 1) ≡ suc i + 1 = omega arith in
    subst (λ (n : ℕ). word_in (drop i facts) c ≡ (if is_cell t.fact.cell c then Some t.fact.value else word_in (drop n (u ∷ facts)) c)) next (word_in-drop facts i t c e)

module _ (facts : List Timed) (i : ℕ) (t : Timed) (c : Cell) (at : slice_get facts i ≡ Some t) where
  -- the word of a fact at the cell
  pub word_here : is_cell t.fact.cell c ≡ true → word_in (drop i facts) c ≡ Some t.fact.value
  word_here is = word_in-drop facts i t c at ∙ ap (λ (b : Bool). if b then Some t.fact.value else word_in (drop (i + 1) facts) c) is

  -- a fact at another cell is passed over
  pub word_later : is_cell t.fact.cell c ≡ false → word_in (drop i facts) c ≡ word_in (drop (i + 1) facts) c
  word_later is = word_in-drop facts i t c at ∙ ap (λ (b : Bool). if b then Some t.fact.value else word_in (drop (i + 1) facts) c) is
