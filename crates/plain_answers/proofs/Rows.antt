-- Rows of truth values.
use Rattle.std.proofs.Common.{◌≡◌, ◌≢◌, ◌⊎◌, inl, inr, List, [], ℕ, zero, suc, ◌+◌, ◌<◌, ◌≤◌, Bool, true, false, IsTrue, length, slice_index_or, replicate, true≢false, sym, ap, subst, ◌∙◌, refl, arith}
use Rattle.std.proofs.lemmas.List.{get_or_past}
use Rattle.std.proofs.lemmas.Bool.{cases_lt}
use Rattle.environment_sets.specs.Sets.{◌⊆◌}
use Rattle.circuit_model.specs.declared.model.Cell.{Cell}
use Rattle.circuit_model.specs.Diagnoses.{Place, AtPart, AtCell}
use Rattle.plain_answers.specs.declared.environment.Environment.{Environment}
use Rattle.plain_answers.specs.Members.{IsPartsOf}
use Rattle.plain_answers.specs.Members.{flag_at, members}
use Rattle.plain_answers.specs.Sets.{IsEmpty, IsWith}
use Rattle.circuit_model.proofs.SameCells.{same_or_other}

-- a row of false has nothing set
pub get_or-all_false : (n k : ℕ) → slice_index_or (replicate n false) k false ≡ false
get_or-all_false zero k = refl
get_or-all_false (suc n) zero = refl
get_or-all_false (suc n) (suc k) = get_or-all_false n k

-- nor has a row for each net
pub flag_at-all_false : (n m : ℕ) (c : Cell) → flag_at (replicate n (replicate m false)) c ≡ false
flag_at-all_false n m c = in_row n c.net where
  in_row : (n net : ℕ) → slice_index_or (slice_index_or (replicate n (replicate m false)) net []) c.cycle false ≡ false
  in_row zero net = refl
  in_row (suc n) zero = get_or-all_false m c.cycle
  in_row (suc n) (suc net) = in_row n net

-- where nothing is set, there is no member
pub IsEmpty-members : (e : Environment) → ((k : ℕ) → slice_index_or e.parts k false ≡ false) → ((c : Cell) → flag_at e.cells c ≡ false) → IsEmpty (members e)
IsEmpty-members e parts cells (AtPart place) h = true≢false (sym h ∙ parts place)
IsEmpty-members e parts cells (AtCell c) h = true≢false (sym h ∙ cells c)

-- its components alone
pub parts_of : (parts : List Bool) (cells : List (List Bool)) (n m : ℕ) → IsPartsOf (members (record { parts = parts; cells = cells })) (members (record { parts = parts; cells = replicate n (replicate m false) }))
parts_of parts cells n m = record { parts = λ k. refl; cells = λ c. flag_at-all_false n m c }

-- an environment whose rows are within the rows of another one is within it
pub members_within : (e f : Environment) → ((k : ℕ) → IsTrue (slice_index_or e.parts k false) → IsTrue (slice_index_or f.parts k false)) → ((c : Cell) → IsTrue (flag_at e.cells c) → IsTrue (flag_at f.cells c)) → members e ⊆ members f
members_within e f parts cells (AtPart place) h = parts place h
members_within e f parts cells (AtCell c) h = cells c h

-- one cell more
pub cell_added : (parts : List Bool) (old new : List (List Bool)) (c : Cell) → flag_at new c ≡ true → ((d : Cell) → d ≢ c → flag_at new d ≡ flag_at old d)
    → IsWith (members (record { parts = parts; cells = old })) (AtCell c) (members (record { parts = parts; cells = new }))
cell_added parts old new c here elsewhere = record { more = more; has = here; only = only } where
  more : (k : Place) → IsTrue (members (record { parts = parts; cells = old }) k) → IsTrue (members (record { parts = parts; cells = new }) k)
  more (AtPart place) m = m
  more (AtCell d) m = elim (same_or_other d c) [
    | inl is ↦ subst (λ (d : Cell). IsTrue (flag_at new d)) (sym is) here
    | inr differ ↦ elsewhere d differ ∙ m
  ]

  only : (k : Place) → IsTrue (members (record { parts = parts; cells = new }) k) → IsTrue (members (record { parts = parts; cells = old }) k) ⊎ (k ≡ AtCell c)
  only (AtPart place) m = inl m
  only (AtCell d) m = elim (same_or_other d c) [
    | inl is ↦ inr (ap AtCell is)
    | inr differ ↦ inl (sym (elsewhere d differ) ∙ m)
  ]

-- what is set in the rows before row n is set in the other rows
module _ (rows others : List (List Bool)) where
  pub within_more : (n : ℕ) → ((k : ℕ) → IsTrue (slice_index_or (slice_index_or rows n []) k false) → IsTrue (slice_index_or (slice_index_or others n []) k false)) → ((c : Cell) → c.net < n → IsTrue (flag_at rows c) → IsTrue (flag_at others c)) → (c : Cell) → c.net < n + 1 → IsTrue (flag_at rows c) → IsTrue (flag_at others c)
  within_more n here below c low m = elim (cases_lt c.net n) [
    | inl inside ↦ below c inside m
    | inr past ↦
        let same : c.net ≡ n = omega arith in
        let P : ℕ → Type 0 = λ n. (k : ℕ) → IsTrue (slice_index_or (slice_index_or rows n []) k false) → IsTrue (slice_index_or (slice_index_or others n []) k false) in
        let at : P c.net = subst P (sym same) here in
        at c.cycle m
  ]

  pub within_all : (n : ℕ) → length rows ≤ n → ((c : Cell) → c.net < n → IsTrue (flag_at rows c) → IsTrue (flag_at others c)) → (c : Cell) → IsTrue (flag_at rows c) → IsTrue (flag_at others c)
  within_all n all below c m = elim (cases_lt c.net n) [
    | inl inside ↦ below c inside m
    | inr past ↦
        let none : flag_at rows c ≡ false = ap (λ (row : List Bool). slice_index_or row c.cycle false) (get_or_past rows c.net [] (omega arith)) in
        absurd (true≢false (sym m ∙ none))
  ]
