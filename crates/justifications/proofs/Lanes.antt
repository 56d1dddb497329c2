-- Lanes that are changed one after another.
use Rattle.std.proofs.Common.{◌≡◌, ◌≢◌, ◌⊎◌, ℕ, zero, suc, ◌+◌, ◌<◌, ◌≤◌, inl, inr, true, false, ◌==◌, cond, refl, sym, ap, subst, ◌∙◌, List, [], ◌∷◌, ◌++◌, length, Option, Some, None, IfSome, arith}
use Rattle.std.proofs.lemmas.Bool.{cases_eq}
use Rattle.std.proofs.lemmas.Bool.Decides.{nat_tests}
use Rattle.environment_sets.specs.Lists.{IsIn}
use Rattle.index_lists.specs.Lists.{Lists, list_at, first_of, next_in, without, AreSame, Changes}
use Rattle.index_lists.specs.Chains.{Records, lane_at, keys_in}
use Rattle.index_lists.proofs.Links.{none_is_no_some, without_absent}
use Rattle.justifications.specs.declared.model.Inferred.{Inferred}
use Rattle.justifications.specs.Chained.{with_key}
use Rattle.justifications.specs.Woven.{head_of_inferred}
use Rattle.justifications.specs.Kept.{AreMade, AreChanged}

-- one key linked
pub linked_here : (old new : Lists) (key head : ℕ) → Changes old new head (key ∷ list_at old head) → (h : ℕ) → list_at new h ≡ with_key key (Some head) h (list_at old h)
linked_here old new key head c h = elim (cases_eq head h) [
  | inl e ↦
      let is : (head == h) ≡ true = grind (arith, nat_tests) in
      subst (λ (j : ℕ). list_at new j ≡ key ∷ list_at old j) e c.here ∙ sym (ap (λ b. cond b (key ∷ list_at old h) (list_at old h)) is)
  | inr ne ↦
      let out : (head == h) ≡ false = grind (arith, nat_tests) in
      c.others h (λ e. ne (sym e)) ∙ sym (ap (λ b. cond b (key ∷ list_at old h) (list_at old h)) out)
]

-- one key unlinked
pub unlinked_here : (old new : Lists) (key head : ℕ) → ((h : ℕ) → IsIn (list_at old h) key → head ≡ h) → Changes old new head (without key (list_at old head)) → (h : ℕ) → list_at new h ≡ without key (list_at old h)
unlinked_here old new key head only c h = elim (cases_eq h head) [
  | inl e ↦ subst (λ (j : ℕ). list_at new j ≡ without key (list_at old j)) (sym e) c.here
  | inr ne ↦ c.others h ne ∙ sym (without_absent key (list_at old h) (λ i. ne (sym (only h i))))
]

-- past the last lane no head is said
pub none_past : (lane : ℕ) (x : Inferred) → 4 ≤ lane → head_of_inferred lane x ≡ None
none_past zero x past = absurd (omega arith)
none_past (suc zero) x past = absurd (omega arith)
none_past (suc (suc zero)) x past = absurd (omega arith)
none_past (suc (suc (suc zero))) x past = absurd (omega arith)
none_past (suc (suc (suc (suc lane)))) x past = refl

cases_at : (n l : ℕ) → (l < n) ⊎ (n ≤ l)
cases_at n l = grind arith

module _ (old now new : Records Inferred) (change : ℕ → ℕ → List ℕ → List ℕ) where
  pub changed_next : (lane : ℕ) → AreChanged old now change lane → new.records ≡ now.records → ((h : ℕ) → keys_in new lane h ≡ change lane h (keys_in now lane h)) → ((l : ℕ) → l ≢ lane → lane_at new l ≡ lane_at now l) → AreChanged old new change (lane + 1)
  changed_next lane was records here others = record {
    records = records ∙ was.records;
    done = λ l low h. elim (cases_eq l lane) [
      | inl e ↦
          let at : keys_in new lane h ≡ change lane h (keys_in old lane h) = here h ∙ ap (λ (s : Lists). change lane h (list_at s h)) (was.rest lane (omega arith)) in
          subst (λ (j : ℕ). keys_in new j h ≡ change j h (keys_in old j h)) (sym e) at
      | inr ne ↦ ap (λ (s : Lists). list_at s h) (others l ne) ∙ was.done l (omega arith) h
    ];
    rest = λ l past. others l (λ e. let bad : lane + 1 ≤ lane = subst (λ (j : ℕ). lane + 1 ≤ j) e past in absurd (omega arith)) ∙ was.rest l (omega arith);
  }

module _ (old now : Records Inferred) (change : ℕ → ℕ → List ℕ → List ℕ) where
  pub changed_none : now ≡ old → AreChanged old now change 0
  changed_none e = record {
    records = ap (λ (s : Records Inferred). s.records) e;
    done = λ l low h. absurd (omega arith);
    rest = λ l past. ap (λ (s : Records Inferred). lane_at s l) e;
  }

  pub changed_all : (lane : ℕ) → 4 ≤ lane → AreChanged old now change lane → ((l h : ℕ) → 4 ≤ l → change l h (keys_in old l h) ≡ keys_in old l h) → (l h : ℕ) → keys_in now l h ≡ change l h (keys_in old l h)
  changed_all lane all was past l h = elim (cases_at lane l) [
    | inl low ↦ was.done l low h
    | inr high ↦ ap (λ (s : Lists). list_at s h) (was.rest l high) ∙ sym (past l h (omega (arith, all, high)))
  ]

module _ (old now : Records Inferred) (x : Inferred) where
  pub made_none : now ≡ old → AreMade old now x 0
  made_none e = record {
    records = ap (λ (s : Records Inferred). s.records) e;
    keys = λ l h. ap (λ (s : Records Inferred). keys_in s l h) e;
    made = λ l low. absurd (omega arith);
  }

  pub made_all : (lane : ℕ) → 4 ≤ lane → AreMade old now x lane → (l : ℕ) → IfSome (head_of_inferred l x) (λ h. h < length (lane_at now l).lists)
  made_all lane all m l = elim (cases_at lane l) [
    | inl low ↦ m.made l low
    | inr high ↦ let P : Option ℕ → Type 0 = λ o. IfSome o (λ h. h < length (lane_at now l).lists) in subst P (sym (none_past l x (omega (arith, all, high)))) tt
  ]

module _ (old now new : Records Inferred) (x : Inferred) (lane : ℕ) (was : AreMade old now x lane) (records : new.records ≡ now.records) (same : AreSame (lane_at now lane) (lane_at new lane)) (others : (l : ℕ) → l ≢ lane → lane_at new l ≡ lane_at now l) where
  pub made_keys : (l h : ℕ) → keys_in new l h ≡ keys_in old l h
  made_keys l h = elim (cases_eq l lane) [
    | inl e ↦ subst (λ (j : ℕ). keys_in new j h ≡ keys_in old j h) (sym e) (same.keys h ∙ was.keys lane h)
    | inr ne ↦ ap (λ (s : Lists). list_at s h) (others l ne) ∙ was.keys l h
  ]

  pub made_next : IfSome (head_of_inferred lane x) (λ h. h < length (lane_at new lane).lists) → AreMade old new x (lane + 1)
  made_next m = record {
    records = records ∙ was.records;
    keys = made_keys;
    made = λ l low. elim (cases_eq l lane) [
      | inl e ↦ subst (λ (j : ℕ). IfSome (head_of_inferred j x) (λ h. h < length (lane_at new j).lists)) (sym e) m
      | inr ne ↦ let P : Lists → Type 0 = λ s. IfSome (head_of_inferred l x) (λ h. h < length s.lists) in subst P (sym (others l ne)) (was.made l (omega arith))
    ];
  }

-- the first of two lists, one behind the other
pub first_of_two : (xs ys : List ℕ) (k : ℕ) → first_of xs ≡ Some k → first_of (xs ++ ys) ≡ Some k
first_of_two [] ys k e = absurd (none_is_no_some k e)
first_of_two (x ∷ xs) ys k e = e

pub first_of_second : (xs ys : List ℕ) → first_of xs ≡ None → first_of (xs ++ ys) ≡ first_of ys
first_of_second [] ys e = refl
first_of_second (x ∷ xs) ys e = absurd (none_is_no_some x (sym e))

-- the next of two lists, one behind the other
module _ (key : ℕ) (ys : List ℕ) where
  pub next_of_two : (xs : List ℕ) (k : ℕ) → next_in xs key ≡ Some k → next_in (xs ++ ys) key ≡ Some k
  next_of_two [] k e = absurd (none_is_no_some k e)
  next_of_two (x ∷ xs) k e = elim (cases_eq x key) [
    | inl same ↦
        let is : (x == key) ≡ true = grind (arith, nat_tests) in
        ap (λ b. cond b (first_of (xs ++ ys)) (next_in (xs ++ ys) key)) is ∙ first_of_two xs ys k (sym (ap (λ b. cond b (first_of xs) (next_in xs key)) is) ∙ e)
    | inr ne ↦
        let out : (x == key) ≡ false = grind (arith, nat_tests) in
        ap (λ b. cond b (first_of (xs ++ ys)) (next_in (xs ++ ys) key)) out ∙ next_of_two xs k (sym (ap (λ b. cond b (first_of xs) (next_in xs key)) out) ∙ e)
  ]

  pub next_of_last : (xs : List ℕ) → IsIn xs key → next_in xs key ≡ None → next_in (xs ++ ys) key ≡ first_of ys
  next_of_last [] i e = absurd i
  next_of_last (x ∷ xs) i e = elim (cases_eq x key) [
    | inl same ↦
        let is : (x == key) ≡ true = grind (arith, nat_tests) in
        ap (λ b. cond b (first_of (xs ++ ys)) (next_in (xs ++ ys) key)) is ∙ first_of_second xs ys (sym (ap (λ b. cond b (first_of xs) (next_in xs key)) is) ∙ e)
    | inr ne ↦
        let out : (x == key) ≡ false = grind (arith, nat_tests) in
        let j : IsIn xs key = elim i [ inl same ↦ absurd (ne same) | inr j ↦ j ] in
        ap (λ b. cond b (first_of (xs ++ ys)) (next_in (xs ++ ys) key)) out ∙ next_of_last xs j (sym (ap (λ b. cond b (first_of xs) (next_in xs key)) out) ∙ e)
  ]

  pub next_of_second : (xs : List ℕ) → (IsIn xs key → ⊥) → next_in (xs ++ ys) key ≡ next_in ys key
  next_of_second [] out = refl
  next_of_second (x ∷ xs) out = elim (cases_eq x key) [
    | inl same ↦ absurd (out (inl same))
    | inr ne ↦
        let other : (x == key) ≡ false = grind (arith, nat_tests) in
        ap (λ b. cond b (first_of (xs ++ ys)) (next_in (xs ++ ys) key)) other ∙ next_of_second xs (λ i. out (inr i))
  ]
