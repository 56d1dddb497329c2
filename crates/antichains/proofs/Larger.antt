-- A set that has as many slots as any of a family.
use Rattle.std.proofs.Common.{◌≡◌, ℕ, zero, suc, ◌+◌, ◌≤◌, inl, inr, Bool, true, false, not, ◌&&◌, cond, IsTrue, refl, ap, subst, List, [], ◌∷◌, arith}
use Rattle.std.specs.List.{filter}
use Rattle.environment_sets.specs.Lists.{IsIn}
use Rattle.environment_sets.specs.Sets.{Set, ◌⊆◌, ◌∖◌, IsBelow, size_below}
use Rattle.environment_sets.proofs.Sizes.{size_below-more, size_below-zero}
use Rattle.environment_sets.proofs.Within.{within_holds}

module _ (E F : Set ℕ) (within : E ⊆ F) where
  one_part : (k : ℕ) → cond (F k) 1 0 ≡ cond (E k) 1 0 + cond ((F ∖ E) k) 1 0
  one_part k =
      elim (E k) as (λ e. E k ≡ e → cond (F k) 1 0 ≡ cond e 1 0 + cond (F k && not e) 1 0) [
        | true ↦ λ in_e. let in_f : F k ≡ true = within k in_e in rw in_f refl
        | false ↦ λ out. elim (F k) as (λ f. cond f 1 0 ≡ 0 + cond (f && not false) 1 0) [ true ↦ refl | false ↦ refl ]
      ] refl

  -- a set has as many numbers as a part of it and what is left
  pub size_of_parts : (n : ℕ) → size_below n F ≡ size_below n E + size_below n (F ∖ E)
  size_of_parts zero = rw (size_below-zero F, size_below-zero E, size_below-zero (F ∖ E)) refl
  size_of_parts (suc n) =
      let before : size_below n F ≡ size_below n E + size_below n (F ∖ E) = size_of_parts n in
      let here : cond (F n) 1 0 ≡ cond (E n) 1 0 + cond ((F ∖ E) n) 1 0 = one_part n in
      let f : size_below (n + 1) F ≡ size_below n F + cond (F n) 1 0 = size_below-more n F in
      let e : size_below (n + 1) E ≡ size_below n E + cond (E n) 1 0 = size_below-more n E in
      let d : size_below (n + 1) (F ∖ E) ≡ size_below n (F ∖ E) + cond ((F ∖ E) n) 1 0 = size_below-more n (F ∖ E) in
      let whole : size_below (n + 1) F ≡ size_below (n + 1) E + size_below (n + 1) (F ∖ E) = omega (arith, before, here, f, e, d) in
      let next : n + 1 ≡ suc n = omega arith in
      let P : ℕ → Type 0 = λ m. size_below m F ≡ size_below m E + size_below m (F ∖ E) in
      subst P next whole

  -- a part that has as many numbers is the whole
  pub as_large : (n : ℕ) → IsBelow n F → size_below n F ≤ size_below n E → F ⊆ E
  as_large n low few =
      let parts : size_below n F ≡ size_below n E + size_below n (F ∖ E) = size_of_parts n in
      let none : size_below n (F ∖ E) ≡ 0 = omega (arith, parts, few) in
      within_holds n F E low (rw none refl)

-- what all pass is not shortened
pub filter_keeps : {X : Type 0} (test : X → Bool) (xs : List X) → ((x : X) → IsIn xs x → IsTrue (test x)) → filter test xs ≡ xs
filter_keeps test [] pass = refl
filter_keeps test (x ∷ xs) pass =
    let head : IsTrue (test x) = pass x (inl refl) in
    rw head (ap (λ l. x ∷ l) (filter_keeps test xs (λ y h. pass y (inr h))))
