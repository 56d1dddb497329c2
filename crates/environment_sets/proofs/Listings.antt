-- Lists of exactly what has a property.
use Rattle.std.proofs.Common.{◌≡◌, ℕ, zero, suc, ◌<◌, ◌⊎◌, inl, inr, Bool, true, false, cond, IsTrue, true≢false, List, [], ◌∷◌, ◌++◌, length, get_or, take, map, Option, Some, None, IsSome, slice_get, ◌+◌, refl, sym, ap, ap₂, subst, ◌∙◌, arith}
use Rattle.std.specs.List.{filter}
use Rattle.std.proofs.lemmas.List.{map-append, take_more}
use Rattle.std.proofs.lemmas.Option.{slice_get_within, get_or_from_slice_get}
use Rattle.environment_sets.specs.declared.environment.Env.{Env}
use Rattle.environment_sets.specs.Members.{members, sets}
use Rattle.environment_sets.specs.Lists.{IsIn, IsRising, IsStrict, AreDistinct, IsListing}

module _ {X : Type 0} where
  pub IsIn-get_or : (xs : List X) (i : ℕ) (d : X) → i < length xs → IsIn xs (get_or xs i d)
  IsIn-get_or [] i d low = absurd (omega arith)
  IsIn-get_or (x ∷ xs) zero d low = inl refl
  IsIn-get_or (x ∷ xs) (suc i) d low = inr (IsIn-get_or xs i d (omega arith))

  -- in one order one property has one list
  one_listing : (before : X → X → Type 0) → IsStrict before → (xs ys : List X) → IsRising before xs → IsRising before ys → ((z : X) → IsIn xs z → IsIn ys z) → ((z : X) → IsIn ys z → IsIn xs z) → xs ≡ ys
  one_listing before apart [] [] r s to from = refl
  one_listing before apart [] (y ∷ ys) r s to from = absurd (from y (inl refl))
  one_listing before apart (x ∷ xs) [] r s to from = absurd (to x (inl refl))
  one_listing before apart (x ∷ xs) (y ∷ ys) r s to from =
      ap₂ (λ a later. a ∷ later) head (one_listing before apart xs ys r.1 s.1 (λ z h. elim (to z (inr h)) [ inl e ↦ absurd (itself z (r.0 z h) (head ∙ e)) | inr k ↦ k ]) (λ z h. elim (from z (inr h)) [ inl e ↦ absurd (itself_back z (s.0 z h) (sym head ∙ e)) | inr k ↦ k ]))
    where
      irreflexive : (a : X) → before a a → ⊥
      irreflexive a h = apart a a h h

      itself : (z : X) → before x z → x ≡ z → ⊥
      itself z h e = irreflexive z (let P : X → Type 0 = λ a. before a z in subst P e h)

      itself_back : (z : X) → before y z → y ≡ z → ⊥
      itself_back z h e = irreflexive z (let P : X → Type 0 = λ a. before a z in subst P e h)

      head : x ≡ y
      head = elim (to x (inl refl)) [
        | inl e ↦ sym e
        | inr h ↦ elim (from y (inl refl)) [ inl e ↦ e | inr k ↦ absurd (apart x y (r.0 y k) (s.0 x h)) ]
      ]

  -- one property has one listing
  pub same_listing : (before : X → X → Type 0) (P : X → Type 0) (xs ys : List X) → IsStrict before → IsListing before P xs → IsListing before P ys → xs ≡ ys
  same_listing before P xs ys strict a b =
      one_listing before strict xs ys a.rising b.rising (λ z h. (b.exact z).1 ((a.exact z).0 h)) (λ z h. (a.exact z).1 ((b.exact z).0 h))

  -- lists with one element more
  pub IsIn-push : (xs : List X) (y x : X) → IsIn (xs ++ y ∷ []) x → IsIn xs x ⊎ (y ≡ x)
  IsIn-push [] y x (inl e) = inr e
  IsIn-push [] y x (inr h) = absurd h
  IsIn-push (z ∷ zs) y x (inl e) = inl (inl e)
  IsIn-push (z ∷ zs) y x (inr h) = elim (IsIn-push zs y x h) [ inl k ↦ inl (inr k) | inr e ↦ inr e ]

  pub IsIn-front : (xs : List X) (y x : X) → IsIn xs x → IsIn (xs ++ y ∷ []) x
  IsIn-front [] y x h = absurd h
  IsIn-front (z ∷ zs) y x (inl e) = inl e
  IsIn-front (z ∷ zs) y x (inr h) = inr (IsIn-front zs y x h)

  pub IsIn-last : (xs : List X) (y x : X) → y ≡ x → IsIn (xs ++ y ∷ []) x
  IsIn-last [] y x e = inl e
  IsIn-last (z ∷ zs) y x e = inr (IsIn-last zs y x e)

  pub IsRising-push : (before : X → X → Type 0) (xs : List X) (y : X) → IsRising before xs → ((x : X) → IsIn xs x → before x y) → IsRising before (xs ++ y ∷ [])
  IsRising-push before [] y r last = (λ x h. absurd h, tt)
  IsRising-push before (z ∷ zs) y r last = (
    λ x h. elim (IsIn-push zs y x h) [ inl k ↦ r.0 x k | inr e ↦ subst (before z) e (last z (inl refl)) ],
    IsRising-push before zs y r.1 (λ x h. last x (inr h)),
  )

  -- what is left of a list by a test
  module _ (test : X → Bool) where
    pub IsIn-filter : (xs : List X) (x : X) → IsIn (filter test xs) x → IsIn xs x × IsTrue (test x)
    IsIn-filter [] x h = absurd h
    IsIn-filter (y ∷ ys) x h =
        elim (test y) as (λ b. test y ≡ b → IsIn (cond b (y ∷ filter test ys) (filter test ys)) x → IsIn (y ∷ ys) x × IsTrue (test x)) [
          | true ↦ λ is h. elim h [
            | inl e ↦ (inl e, ap test (sym e) ∙ is)
            | inr k ↦ let rest : IsIn ys x × IsTrue (test x) = IsIn-filter ys x k in (inr rest.0, rest.1)
          ]
          | false ↦ λ _ k. let rest : IsIn ys x × IsTrue (test x) = IsIn-filter ys x k in (inr rest.0, rest.1)
        ] refl h

    pub IsIn-kept : (xs : List X) (x : X) → IsIn xs x → IsTrue (test x) → IsIn (filter test xs) x
    IsIn-kept [] x h is = absurd h
    IsIn-kept (y ∷ ys) x h is =
        elim (test y) as (λ b. test y ≡ b → IsIn (cond b (y ∷ filter test ys) (filter test ys)) x) [
          | true ↦ λ _. elim h [ inl e ↦ inl e | inr k ↦ inr (IsIn-kept ys x k is) ]
          | false ↦ λ out. elim h [ inl e ↦ absurd (true≢false (sym is ∙ (ap test (sym e) ∙ out))) | inr k ↦ IsIn-kept ys x k is ]
        ] refl

    pub IsRising-filter : (before : X → X → Type 0) (xs : List X) → IsRising before xs → IsRising before (filter test xs)
    IsRising-filter before [] r = tt
    IsRising-filter before (y ∷ ys) r =
        elim (test y) as (λ b. IsRising before (cond b (y ∷ filter test ys) (filter test ys))) [
          | true ↦ (λ x h. r.0 x (IsIn-filter ys x h).0, IsRising-filter before ys r.1)
          | false ↦ IsRising-filter before ys r.1
        ]

module _ {X Y : Type 0} (f : X → Y) where
  pub map-filter : (test : Y → Bool) (xs : List X) → map f (filter (λ x. test (f x)) xs) ≡ filter test (map f xs)
  map-filter test [] = refl
  map-filter test (x ∷ xs) =
      elim (test (f x)) as (λ b. map f (cond b (x ∷ filter (λ x. test (f x)) xs) (filter (λ x. test (f x)) xs)) ≡ cond b (f x ∷ filter test (map f xs)) (filter test (map f xs))) [
        | true ↦ ap (λ ys. f x ∷ ys) (map-filter test xs)
        | false ↦ map-filter test xs
      ]

-- the sets of a list with one environment more
pub sets-push : (es : List Env) (e : Env) → sets (es ++ e ∷ []) ≡ sets es ++ members e ∷ []
sets-push es e = map-append members es (e ∷ [])

-- the front of a list with one element more
pub take_one_more : {X : Type 0} (xs : List X) (i : ℕ) (x : X) → slice_get xs i ≡ Some x → take (i + 1) xs ≡ take i xs ++ x ∷ []
take_one_more xs i x e = take_more xs i x (slice_get_within xs i x e) ∙ ap (λ y. take i xs ++ y ∷ []) (get_or_from_slice_get xs i x x e)

-- what rises in a strict order is distinct
pub rising_is_distinct : {X : Type 0} (before : X → X → Type 0) → IsStrict before → (xs : List X) → IsRising before xs → AreDistinct xs
rising_is_distinct before strict [] rising = tt
rising_is_distinct before strict (x ∷ xs) rising =
    (λ y at same. let first : before x y = rising.0 y at in strict x y first (subst (λ z. before z x) same (subst (λ z. before x z) (sym same) first)), rising_is_distinct before strict xs rising.1)

-- nothing is no thing
pub none_is_not : {X : Type 0} (o : Option X) → o ≡ None → IsSome o → ⊥
none_is_not None e h = true≢false (sym h)
none_is_not (Some x) e h = cc
