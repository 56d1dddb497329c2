-- What a sort of a list gives.
use Rattle.std.proofs.Common.{◌≡◌, ℕ, zero, suc, ◌<◌, ◌⊎◌, inl, inr, ◌↔◌, List, [], ◌∷◌, length, get_or, map, refl, sym, ap, subst, ◌∙◌, arith}
use Rattle.std.specs.List.{Contains, swap}
use Rattle.std.specs.List.Sorted.{IsPermutation}
use Rattle.std.proofs.lemmas.Bool.{cases_eq}
use Rattle.std.proofs.lemmas.List.Edits.{Swapped, swapped_from_swap, length-swap}
use Rattle.std.proofs.lemmas.List.Sorted.{IsPermutation-keeps, IsPermutation-sym, Contains-permutation}
use Rattle.environment_sets.specs.Lists.{IsIn, IsRising, AreDistinct}
use Rattle.environment_sets.proofs.Listings.{IsIn-get_or}
use Rattle.environment_sets.proofs.Membership.{IsIn-map, map-IsIn}

-- where an element of a list stood before two were exchanged
place : (a b i : ℕ) → (k : ℕ) × (((i ≡ a) × (k ≡ b)) ⊎ (((i ≡ b) × (k ≡ a)) ⊎ ((i ≡ a → ⊥) × (i ≡ b → ⊥) × (k ≡ i))))
place a b i =
    elim (cases_eq i a) [
      | inl e ↦ (b, inl (e, refl))
      | inr ne ↦ elim (cases_eq i b) [ inl e ↦ (a, inr (inl (e, refl))) | inr other ↦ (i, inr (inr (ne, other, refl))) ]
    ]

module _ {X : Type 0} where
  -- no element stands at two places
  abbrev pub StandOnce : List X → Type 0
  StandOnce xs = (i j : ℕ) (d : X) → i < length xs → j < length xs → get_or xs i d ≡ get_or xs j d → i ≡ j

  once_of_distinct : (xs : List X) → AreDistinct xs → StandOnce xs
  once_of_distinct [] apart i j d low lower same = absurd (omega arith)
  once_of_distinct (x ∷ xs) apart zero zero d low lower same = refl
  once_of_distinct (x ∷ xs) apart zero (suc j) d low lower same = absurd (apart.0 (get_or xs j d) (IsIn-get_or xs j d (omega arith)) same)
  once_of_distinct (x ∷ xs) apart (suc i) zero d low lower same = absurd (apart.0 (get_or xs i d) (IsIn-get_or xs i d (omega arith)) (sym same))
  once_of_distinct (x ∷ xs) apart (suc i) (suc j) d low lower same = ap suc (once_of_distinct xs apart.1 i j d (omega arith) (omega arith) same)

  once_swapped : (xs : List X) (a b : ℕ) → a < length xs → b < length xs → StandOnce xs → StandOnce (swap xs a b)
  once_swapped xs a b low lower once i j d inside within same =
      let s : Swapped (λ k. get_or xs k d) (λ k. get_or (swap xs a b) k d) a b = swapped_from_swap xs (swap xs a b) a b d low lower refl in
      let long : length (swap xs a b) ≡ length xs = length-swap xs a b in
      let p = place a b i in
      let q = place a b j in
      let at : (i : ℕ) (p : (k : ℕ) × (((i ≡ a) × (k ≡ b)) ⊎ (((i ≡ b) × (k ≡ a)) ⊎ ((i ≡ a → ⊥) × (i ≡ b → ⊥) × (k ≡ i))))) → get_or (swap xs a b) i d ≡ get_or xs p.0 d =
      λ i p. elim p.1 [
        | inl (e, f) ↦ ap (λ k. get_or (swap xs a b) k d) e ∙ (s.0 ∙ ap (λ k. get_or xs k d) (sym f))
        | inr (inl (e, f)) ↦ ap (λ k. get_or (swap xs a b) k d) e ∙ (s.1 ∙ ap (λ k. get_or xs k d) (sym f))
        | inr (inr (e, f, g)) ↦ s.2 i e f ∙ ap (λ k. get_or xs k d) (sym g)
      ] in
      let below : (i : ℕ) → i < length xs → (p : (k : ℕ) × (((i ≡ a) × (k ≡ b)) ⊎ (((i ≡ b) × (k ≡ a)) ⊎ ((i ≡ a → ⊥) × (i ≡ b → ⊥) × (k ≡ i))))) → p.0 < length xs =
      λ i h p. elim p.1 [
        | inl (e, f) ↦ omega arith
        | inr (inl (e, f)) ↦ omega arith
        | inr (inr (e, f, g)) ↦ omega arith
      ] in
      let one : p.0 ≡ q.0 = once p.0 q.0 d (below i (omega arith) p) (below j (omega arith) q) (sym (at i p) ∙ (same ∙ at j q)) in
      elim p.1 [
        | inl (e, f) ↦ elim q.1 [ inl (g, h) ↦ omega arith | inr (inl (g, h)) ↦ omega arith | inr (inr (g, h, k)) ↦ absurd (h (omega arith)) ]
        | inr (inl (e, f)) ↦ elim q.1 [ inl (g, h) ↦ omega arith | inr (inl (g, h)) ↦ omega arith | inr (inr (g, h, k)) ↦ absurd (g (omega arith)) ]
        | inr (inr (e, f, g)) ↦ elim q.1 [ inl (h, k) ↦ absurd (f (omega arith)) | inr (inl (h, k)) ↦ absurd (e (omega arith)) | inr (inr (h, k, m)) ↦ omega arith ]
      ]

  pub once_permuted : (xs ys : List X) → AreDistinct xs → IsPermutation xs ys → StandOnce ys
  once_permuted xs ys apart permuted = IsPermutation-keeps xs StandOnce (once_of_distinct xs apart) (λ l a b. once_swapped l a b) ys permuted

  pub IsIn-contains : (xs : List X) (x : X) → Contains xs x → IsIn xs x
  IsIn-contains xs x (k, low, same) = subst (IsIn xs) same (IsIn-get_or xs k x low)

  pub contains-IsIn : (xs : List X) (x : X) → IsIn xs x → Contains xs x
  contains-IsIn [] x h = absurd h
  contains-IsIn (y ∷ xs) x (inl e) = (0, omega arith, e)
  contains-IsIn (y ∷ xs) x (inr h) = let r : (k : ℕ) × (k < length xs) × (get_or xs k x ≡ x) = contains-IsIn xs x h in (suc r.0, omega (arith, r.1), r.2)

  pub IsIn-permutation : (xs ys : List X) → IsPermutation xs ys → (x : X) → IsIn xs x ↔ IsIn ys x
  IsIn-permutation xs ys permuted x = (
    λ h. IsIn-contains ys x (Contains-permutation xs ys x permuted (contains-IsIn xs x h)),
    λ h. IsIn-contains xs x (Contains-permutation ys xs x (IsPermutation-sym xs ys permuted) (contains-IsIn ys x h)),
  )

  -- a list rises where each element comes before those at later places
  pub rising_by_place : (before : X → X → Type 0) (xs : List X) → ((i j : ℕ) (d : X) → i < j → j < length xs → before (get_or xs i d) (get_or xs j d)) → IsRising before xs
  rising_by_place before [] up = tt
  rising_by_place before (x ∷ xs) up = (
    λ y h. let r : Contains xs y = contains-IsIn xs y h in subst (before x) r.2 (up 0 (suc r.0) y (omega arith) (omega (arith, r.1))),
    rising_by_place before xs (λ i j d less low. up (suc i) (suc j) d (omega arith) (omega arith)),
  )

pub rising_map : {X Y : Type 0} (f : X → Y) (before : Y → Y → Type 0) (xs : List X) → IsRising (λ x y. before (f x) (f y)) xs → IsRising before (map f xs)
rising_map f before [] up = tt
rising_map {Y = Y} f before (x ∷ xs) up = (
  λ y h. let r : (z : _) × IsIn xs z × (f z ≡ y) = IsIn-map f xs y h in subst (before (f x)) r.2 (up.0 r.0 r.1),
  rising_map f before xs up.1,
)

pub distinct_unmapped : {X Y : Type 0} (f : X → Y) (xs : List X) → AreDistinct (map f xs) → AreDistinct xs
distinct_unmapped f [] apart = tt
distinct_unmapped f (x ∷ xs) apart = (λ y h same. apart.0 (f y) (map-IsIn f xs y h) (ap f same), distinct_unmapped f xs apart.1)
