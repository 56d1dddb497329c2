-- Membership in lists: joined, longer, mapped, at places and by tests.
use Rattle.std.proofs.Common.{◌≡◌, ℕ, zero, suc, ◌<◌, ◌⊎◌, inl, inr, Bool, true, false, ◌||◌, IsTrue, List, [], ◌∷◌, ◌++◌, length, slice_get, slice_index_or, map, Option, Some, None, is_some, refl, sym, ap, ap₂, subst, ◌∙◌, arith}
use Rattle.std.specs.List.{list_any}
use Rattle.std.proofs.lemmas.Bool.{false≢true}
use Rattle.environment_sets.specs.Lists.{IsIn, IsRising, AreDistinct, IsRoster}

-- truth values that are true together are equal
pub same_bool : (a b : Bool) → (IsTrue a → IsTrue b) → (IsTrue b → IsTrue a) → a ≡ b
same_bool true b to from = sym (to refl)
same_bool false true to from = from refl
same_bool false false to from = refl

pub or-end : (a : Bool) → (a || false) ≡ a
or-end true = refl
or-end false = refl

pub or-assoc : (a b c : Bool) → (a || (b || c)) ≡ ((a || b) || c)
or-assoc true b c = refl
or-assoc false b c = refl

-- where nothing can be found, nothing is
pub none_found : {X : Type 0} (o : Option X) → ((x : X) → o ≡ Some x → ⊥) → o ≡ None
none_found None h = refl
none_found (Some x) h = absurd (h x refl)

pub none_unless_some : {X : Type 0} (o : Option X) → is_some o ≡ false → o ≡ None
none_unless_some None e = refl
none_unless_some (Some x) e = cc

module _ {X : Type 0} where
  -- in two lists, one after the other
  pub IsIn-append : (xs ys : List X) (x : X) → IsIn (xs ++ ys) x → IsIn xs x ⊎ IsIn ys x
  IsIn-append [] ys x h = inr h
  IsIn-append (y ∷ xs) ys x (inl e) = inl (inl e)
  IsIn-append (y ∷ xs) ys x (inr h) = elim (IsIn-append xs ys x h) [ inl a ↦ inl (inr a) | inr b ↦ inr b ]

  pub IsIn-left : (xs ys : List X) (x : X) → IsIn xs x → IsIn (xs ++ ys) x
  IsIn-left [] ys x h = absurd h
  IsIn-left (y ∷ xs) ys x (inl e) = inl e
  IsIn-left (y ∷ xs) ys x (inr h) = inr (IsIn-left xs ys x h)

  pub IsIn-right : (xs ys : List X) (x : X) → IsIn ys x → IsIn (xs ++ ys) x
  IsIn-right [] ys x h = h
  IsIn-right (y ∷ xs) ys x h = inr (IsIn-right xs ys x h)

  -- with one element more between the two
  pub IsIn-more : (xs ys : List X) (z x : X) → IsIn ((xs ++ z ∷ []) ++ ys) x → (z ≡ x) ⊎ IsIn (xs ++ ys) x
  IsIn-more [] ys z x h = h
  IsIn-more (y ∷ xs) ys z x (inl e) = inr (inl e)
  IsIn-more (y ∷ xs) ys z x (inr h) = elim (IsIn-more xs ys z x h) [ inl a ↦ inl a | inr b ↦ inr (inr b) ]

  pub IsIn-still : (xs ys : List X) (z x : X) → IsIn (xs ++ ys) x → IsIn ((xs ++ z ∷ []) ++ ys) x
  IsIn-still [] ys z x h = inr h
  IsIn-still (y ∷ xs) ys z x (inl e) = inl e
  IsIn-still (y ∷ xs) ys z x (inr h) = inr (IsIn-still xs ys z x h)

  pub IsIn-there : (xs ys : List X) (z : X) → IsIn ((xs ++ z ∷ []) ++ ys) z
  IsIn-there [] ys z = inl refl
  IsIn-there (y ∷ xs) ys z = inr (IsIn-there xs ys z)

  -- at places
  pub IsIn-slice_get : (xs : List X) (i : ℕ) (x : X) → slice_get xs i ≡ Some x → IsIn xs x
  IsIn-slice_get [] i x e = absurd (cc)
  IsIn-slice_get (y ∷ xs) zero x e = inl (cc)
  IsIn-slice_get (y ∷ xs) (suc i) x e = inr (IsIn-slice_get xs i x e)

  pub slice_get-IsIn : (xs : List X) (x : X) → IsIn xs x → (i : ℕ) × (slice_get xs i ≡ Some x)
  slice_get-IsIn [] x h = absurd h
  slice_get-IsIn (y ∷ xs) x (inl e) = (0, ap Some e)
  slice_get-IsIn (y ∷ xs) x (inr h) = let at : (k : ℕ) × (slice_get xs k ≡ Some x) = slice_get-IsIn xs x h in (suc at.0, at.1)

  -- what holds at each place holds of each element
  pub each_place : (P : X → Type 0) (xs : List X) (d : X) → ((k : ℕ) → k < length xs → P (slice_index_or xs k d)) → (x : X) → IsIn xs x → P x
  each_place P [] d each x h = absurd h
  each_place P (z ∷ xs) d each x (inl e) = subst P e (each 0 (omega arith))
  each_place P (z ∷ xs) d each x (inr h) = each_place P xs d (λ k inside. each (suc k) (omega arith)) x h

  -- some element passes a test
  pub list_any-IsIn : (p : X → Bool) (xs : List X) (x : X) → IsIn xs x → IsTrue (p x) → IsTrue (list_any p xs)
  list_any-IsIn p [] x h t = absurd h
  list_any-IsIn p (y ∷ xs) x (inl e) t = let P : Bool → Type 0 = λ b. IsTrue (b || list_any p xs) in subst P (sym (ap p e ∙ t)) refl
  list_any-IsIn p (y ∷ xs) x (inr h) t = elim (p y) as (λ b. IsTrue (b || list_any p xs)) [ true ↦ refl | false ↦ list_any-IsIn p xs x h t ]

  pub IsIn-list_any : (p : X → Bool) (xs : List X) → IsTrue (list_any p xs) → (x : X) × IsIn xs x × IsTrue (p x)
  IsIn-list_any p [] h = absurd (false≢true h)
  IsIn-list_any p (y ∷ xs) h =
      elim (p y) as (λ b. p y ≡ b → IsTrue (b || list_any p xs) → (x : X) × IsIn (y ∷ xs) x × IsTrue (p x)) [
        | true ↦ λ is _. (y, inl refl, is)
        | false ↦ λ _ g. let r : (x : X) × IsIn xs x × IsTrue (p x) = IsIn-list_any p xs g in (r.0, inr r.1, r.2)
      ] refl h

  -- lists that rise, one after the other
  pub IsRising-append : (before : X → X → Type 0) (xs ys : List X) → IsRising before xs → IsRising before ys → ((x y : X) → IsIn xs x → IsIn ys y → before x y) → IsRising before (xs ++ ys)
  IsRising-append before [] ys a b across = b
  IsRising-append before (x ∷ xs) ys a b across = (
    λ y h. elim (IsIn-append xs ys y h) [ inl k ↦ a.0 y k | inr k ↦ across x y (inl refl) k ],
    IsRising-append before xs ys a.1 b (λ z y h k. across z y (inr h) k),
  )

  pub IsRising-left : (before : X → X → Type 0) (xs ys : List X) → IsRising before (xs ++ ys) → IsRising before xs
  IsRising-left before [] ys h = tt
  IsRising-left before (x ∷ xs) ys h = (λ y i. h.0 y (IsIn-left xs ys y i), IsRising-left before xs ys h.1)

  -- distinct elements
  pub AreDistinct-append : (xs ys : List X) → AreDistinct xs → AreDistinct ys → ((x : X) → IsIn xs x → IsIn ys x → ⊥) → AreDistinct (xs ++ ys)
  AreDistinct-append xs ys d e apart = IsRising-append (λ x y. x ≡ y → ⊥) xs ys d e (λ x y a b same. apart x a (subst (IsIn ys) (sym same) b))

  pub AreDistinct-push : (xs : List X) (x : X) → AreDistinct xs → (IsIn xs x → ⊥) → AreDistinct (xs ++ x ∷ [])
  AreDistinct-push xs x d out = AreDistinct-append xs (x ∷ []) d ((λ y (bad : ⊥). absurd bad), tt) (λ y a b. elim b [ inl same ↦ out (subst (IsIn xs) (sym same) a) | inr bad ↦ bad ])

  pub AreDistinct-more : (xs ys : List X) (z : X) → AreDistinct (xs ++ ys) → (IsIn (xs ++ ys) z → ⊥) → AreDistinct ((xs ++ z ∷ []) ++ ys)
  AreDistinct-more [] ys z apart new = ((λ y h e. new (subst (λ (w : X). IsIn ys w) (sym e) h)), apart)
  AreDistinct-more (x ∷ xs) ys z apart new = (
    (λ y h e. elim (IsIn-more xs ys z y h) as (λ _. ⊥) [ inl a ↦ new (inl (e ∙ sym a)) | inr b ↦ apart.0 y b e ]),
    AreDistinct-more xs ys z apart.1 (λ h. new (inr h)),
  )

  pub AreDistinct-left : (xs ys : List X) → AreDistinct (xs ++ ys) → AreDistinct xs
  AreDistinct-left xs ys h = IsRising-left (λ x y. x ≡ y → ⊥) xs ys h

module _ {X Y : Type 0} where
  pub map-IsIn : (f : X → Y) (xs : List X) (x : X) → IsIn xs x → IsIn (map f xs) (f x)
  map-IsIn f [] x h = absurd h
  map-IsIn f (y ∷ xs) x (inl e) = inl (ap f e)
  map-IsIn f (y ∷ xs) x (inr h) = inr (map-IsIn f xs x h)

  pub IsIn-map : (f : X → Y) (xs : List X) (y : Y) → IsIn (map f xs) y → (x : X) × IsIn xs x × (f x ≡ y)
  IsIn-map f [] y h = absurd h
  IsIn-map f (x ∷ xs) y (inl e) = (x, inl refl, e)
  IsIn-map f (x ∷ xs) y (inr h) = let r : (z : X) × IsIn xs z × (f z ≡ y) = IsIn-map f xs y h in (r.0, inr r.1, r.2)

  -- functions that agree on a list map it alike
  pub map_alike : (f g : X → Y) (xs : List X) → ((x : X) → IsIn xs x → f x ≡ g x) → map f xs ≡ map g xs
  map_alike f g [] same = refl
  map_alike f g (x ∷ xs) same = ap₂ (λ (y : Y) (ys : List Y). y ∷ ys) (same x (inl refl)) (map_alike f g xs (λ y h. same y (inr h)))

-- a roster of what is the same
pub roster_alike : {X : Type 0} (P Q : X → Type 0) (xs : List X) → ((x : X) → P x → Q x) → ((x : X) → Q x → P x) → IsRoster P xs → IsRoster Q xs
roster_alike P Q xs to from roster = record { distinct = roster.distinct; exact = λ x. (λ h. to x ((roster.exact x).0 h), λ q. (roster.exact x).1 (from x q)) }

module _ {X : Type 0} where
  -- an element stands at one place of a distinct list
  pub one_place : (xs : List X) (i j : ℕ) (x : X) → AreDistinct xs → slice_get xs i ≡ Some x → slice_get xs j ≡ Some x → i ≡ j
  one_place [] i j x d a b = absurd (cc)
  one_place (y ∷ xs) zero zero x d a b = refl
  one_place (y ∷ xs) zero (suc j) x d a b = let same : y ≡ x = cc in absurd (d.0 x (IsIn-slice_get xs j x b) same)
  one_place (y ∷ xs) (suc i) zero x d a b = let same : y ≡ x = cc in absurd (d.0 x (IsIn-slice_get xs i x a) same)
  one_place (y ∷ xs) (suc i) (suc j) x d a b = ap suc (one_place xs i j x d.1 a b)

  -- no element stands in both of two lists that are distinct together
  pub not_in_both : (xs ys : List X) → AreDistinct (xs ++ ys) → (x : X) → IsIn xs x → IsIn ys x → ⊥
  not_in_both [] ys d x h l = absurd h
  not_in_both (y ∷ xs) ys d x (inl e) l = d.0 x (IsIn-right xs ys x l) e
  not_in_both (y ∷ xs) ys d x (inr h) l = not_in_both xs ys d.1 x h l

  -- there is an element at each place
  pub at_place : (xs : List X) (i : ℕ) → i < length xs → (x : X) × (slice_get xs i ≡ Some x)
  at_place [] i low = absurd (omega arith)
  at_place (x ∷ xs) zero low = (x, refl)
  at_place (x ∷ xs) (suc i) low = at_place xs i (omega arith)
