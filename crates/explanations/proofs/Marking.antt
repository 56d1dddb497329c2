-- Marks on facts.
use Rattle.std.proofs.Common.{◌≡◌, ◌≢◌, ℕ, zero, suc, ◌+◌, ◌<◌, ◌≤◌, ◌⊎◌, inl, inr, Bool, true, false, List, [], ◌∷◌, length, slice_get, get_or, Some, true≢false, refl, sym, ap, subst, ◌∙◌, arith}
use Rattle.std.proofs.Math.ListN.{set}
use Rattle.std.proofs.lemmas.Bool.{cases_eq}
use Rattle.std.proofs.lemmas.List.{length-set}
use Rattle.std.proofs.lemmas.Option.{slice_get_within, slice_get-get_or, get_or_from_slice_get}
use Rattle.environment_sets.specs.Lists.{IsIn}
use Rattle.circuit_model.specs.declared.model.Fact.{Fact}
use Rattle.proof_check.specs.Closing.{Timed}
use Rattle.explanations.specs.Marks.{IsMarked, Marks}

module _ {X : Type 0} where
  set_here : (xs : List X) (i : ℕ) (x : X) → i < length xs → slice_get (set xs i x) i ≡ Some x
  set_here [] i x inside = absurd (omega arith)
  set_here (y ∷ xs) zero x inside = refl
  set_here (y ∷ xs) (suc i) x inside = set_here xs i x (omega arith)

  set_elsewhere : (xs : List X) (i j : ℕ) (x : X) → i ≢ j → slice_get (set xs i x) j ≡ slice_get xs j
  set_elsewhere [] i j x differ = refl
  set_elsewhere (y ∷ xs) zero zero x differ = absurd (differ refl)
  set_elsewhere (y ∷ xs) zero (suc j) x differ = refl
  set_elsewhere (y ∷ xs) (suc i) zero x differ = refl
  set_elsewhere (y ∷ xs) (suc i) (suc j) x differ = set_elsewhere xs i j x (λ e. differ (ap (λ n. suc n) e))

-- a mark that was read
pub marked_there : (marks : List Bool) (i : ℕ) → i < length marks → get_or marks i false ≡ true → IsMarked marks i
marked_there marks i inside e = slice_get-get_or marks i false inside ∙ ap Some e

pub not_marked_there : (marks : List Bool) (i : ℕ) → get_or marks i false ≡ false → IsMarked marks i → ⊥
not_marked_there marks i e h = true≢false (sym (get_or_from_slice_get marks i true false h) ∙ e)

module _ (wanted : List Fact) (facts : List Timed) (old : List Bool) where
  -- below n the places of the wanted facts are marked as well, and no others
  pub record MarksBelow (n : ℕ) (new : List Bool) : Type 0 where
    pub as_many : length new ≡ length old
    pub kept : (i : ℕ) → IsMarked old i → IsMarked new i
    pub marked : (i : ℕ) (t : Timed) → i < n → slice_get facts i ≡ Some t → IsIn wanted t.fact → IsMarked new i
    pub others : (i : ℕ) (t : Timed) → slice_get facts i ≡ Some t → IsMarked new i → IsMarked old i ⊎ IsIn wanted t.fact

  pub marks_none : MarksBelow 0 old
  marks_none = record { as_many = refl; kept = λ i h. h; marked = λ i t low. absurd (omega arith); others = λ i t at h. inl h }

  module _ (n : ℕ) (new : List Bool) (m : MarksBelow n new) (t : Timed) (at : slice_get facts n ≡ Some t) where
    same_there : (i : ℕ) (u : Timed) → n ≡ i → slice_get facts i ≡ Some u → t ≡ u
    same_there i u e there = let P : ℕ → Type 0 = λ i. slice_get facts i ≡ Some t in let also = subst P e at in cc

    pub marks_set : IsIn wanted t.fact → n < length new → MarksBelow (n + 1) (set new n true)
    marks_set is_wanted inside = record { as_many = length-set new n true ∙ m.as_many; kept = kept; marked = marked; others = others } where
      here : (i : ℕ) → n ≡ i → IsMarked (set new n true) i
      here i e = let P : ℕ → Type 0 = λ i. IsMarked (set new n true) i in subst P e (set_here new n true inside)

      kept : (i : ℕ) → IsMarked old i → IsMarked (set new n true) i
      kept i h = elim (cases_eq n i) [ inl e ↦ here i e | inr differ ↦ set_elsewhere new n i true differ ∙ m.kept i h ]

      marked : (i : ℕ) (u : Timed) → i < n + 1 → slice_get facts i ≡ Some u → IsIn wanted u.fact → IsMarked (set new n true) i
      marked i u low there h = elim (cases_eq n i) [ inl e ↦ here i e | inr differ ↦ set_elsewhere new n i true differ ∙ m.marked i u (omega (arith, low, differ)) there h ]

      others : (i : ℕ) (u : Timed) → slice_get facts i ≡ Some u → IsMarked (set new n true) i → IsMarked old i ⊎ IsIn wanted u.fact
      others i u there h = elim (cases_eq n i) [
        | inl e ↦ inr (subst (λ (t : Timed). IsIn wanted t.fact) (same_there i u e there) is_wanted)
        | inr differ ↦ m.others i u there (sym (set_elsewhere new n i true differ) ∙ h)
      ]

    pub marks_kept : (IsIn wanted t.fact → ⊥) → MarksBelow (n + 1) new
    marks_kept other = record { as_many = m.as_many; kept = m.kept; marked = marked; others = m.others } where
      marked : (i : ℕ) (u : Timed) → i < n + 1 → slice_get facts i ≡ Some u → IsIn wanted u.fact → IsMarked new i
      marked i u low there h = elim (cases_eq n i) [
        | inl e ↦ absurd (other (subst (λ (t : Timed). IsIn wanted t.fact) (sym (same_there i u e there)) h))
        | inr differ ↦ m.marked i u (omega (arith, low, differ)) there h
      ]

  pub marks_all : (n : ℕ) (new : List Bool) → length facts ≤ n → MarksBelow n new → Marks wanted facts old new
  marks_all n new all m = record {
    as_many = m.as_many;
    kept = m.kept;
    marked = λ i t at h. m.marked i t (let inside : i < length facts = slice_get_within facts i t at in omega (arith, inside, all)) at h;
    others = m.others;
  }
