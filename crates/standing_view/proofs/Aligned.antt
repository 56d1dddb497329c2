-- Two lists side by side.
use Rattle.std.proofs.Common.{◌≡◌, ◌⊎◌, inl, inr, Bool, true, false, IsTrue, cond, List, [], ◌∷◌, ◌++◌, length, map, Option, Some, refl, sym, ap, ap₂, ◌∙◌}
use Rattle.environment_sets.specs.Lists.{IsIn, AreDistinct}
use Rattle.standing_view.specs.View.{beside}

heads_alike : {X : Type 0} {x y : X} {xs ys : List X} → x ∷ xs ≡ y ∷ ys → x ≡ y
heads_alike e = cc

tails_alike : {X : Type 0} {x y : X} {xs ys : List X} → x ∷ xs ≡ y ∷ ys → xs ≡ ys
tails_alike e = cc

module _ {A B : Type 0} where
  -- the two stand at one place, each in its list
  abbrev pub StandBeside : List A → List B → A → B → Type 0
  StandBeside [] ys a b = ⊥
  StandBeside (x ∷ xs) [] a b = ⊥
  StandBeside (x ∷ xs) (y ∷ ys) a b = ((x ≡ a) × (y ≡ b)) ⊎ StandBeside xs ys a b

  pub in_first : (xs : List A) (ys : List B) (a : A) (b : B) → StandBeside xs ys a b → IsIn xs a
  in_first [] ys a b h = absurd h
  in_first (x ∷ xs) [] a b h = absurd h
  in_first (x ∷ xs) (y ∷ ys) a b (inl e) = inl e.0
  in_first (x ∷ xs) (y ∷ ys) a b (inr h) = inr (in_first xs ys a b h)

  pub from_first : (xs : List A) (ys : List B) → length xs ≡ length ys → (a : A) → IsIn xs a → (b : B) × StandBeside xs ys a b
  from_first [] ys long a h = absurd h
  from_first (x ∷ xs) [] long a h = cc
  from_first (x ∷ xs) (y ∷ ys) long a (inl e) = (y, inl (e, refl))
  from_first (x ∷ xs) (y ∷ ys) long a (inr h) = let r : (b : B) × StandBeside xs ys a b = from_first xs ys (cc) a h in (r.0, inr r.1)

  pub from_second : (xs : List A) (ys : List B) → length xs ≡ length ys → (b : B) → IsIn ys b → (a : A) × StandBeside xs ys a b
  from_second [] [] long b h = absurd h
  from_second [] (y ∷ ys) long b h = cc
  from_second (x ∷ xs) [] long b h = absurd h
  from_second (x ∷ xs) (y ∷ ys) long b (inl e) = (x, inl (refl, e))
  from_second (x ∷ xs) (y ∷ ys) long b (inr h) = let r : (a : A) × StandBeside xs ys a b = from_second xs ys (cc) b h in (r.0, inr r.1)

  module _ (us : List A) (vs : List B) where
    pub left_or_right : (xs : List A) (ys : List B) → length xs ≡ length ys → (a : A) (b : B) → StandBeside (xs ++ us) (ys ++ vs) a b → StandBeside xs ys a b ⊎ StandBeside us vs a b
    left_or_right [] [] long a b h = inr h
    left_or_right [] (y ∷ ys) long a b h = cc
    left_or_right (x ∷ xs) [] long a b h = cc
    left_or_right (x ∷ xs) (y ∷ ys) long a b (inl e) = inl (inl e)
    left_or_right (x ∷ xs) (y ∷ ys) long a b (inr h) = elim (left_or_right xs ys (cc) a b h) as (λ _. StandBeside (x ∷ xs) (y ∷ ys) a b ⊎ StandBeside us vs a b) [ inl l ↦ inl (inr l) | inr r ↦ inr r ]

    pub on_left : (xs : List A) (ys : List B) (a : A) (b : B) → StandBeside xs ys a b → StandBeside (xs ++ us) (ys ++ vs) a b
    on_left [] ys a b h = absurd h
    on_left (x ∷ xs) [] a b h = absurd h
    on_left (x ∷ xs) (y ∷ ys) a b (inl e) = inl e
    on_left (x ∷ xs) (y ∷ ys) a b (inr h) = inr (on_left xs ys a b h)

    pub on_right : (xs : List A) (ys : List B) → length xs ≡ length ys → (a : A) (b : B) → StandBeside us vs a b → StandBeside (xs ++ us) (ys ++ vs) a b
    on_right [] [] long a b h = h
    on_right [] (y ∷ ys) long a b h = cc
    on_right (x ∷ xs) [] long a b h = cc
    on_right (x ∷ xs) (y ∷ ys) long a b h = inr (on_right xs ys (cc) a b h)

  module _ {Z : Type 0} (f : A → Z) (g : B → Z) where
    -- what two lists have alike, element for element, the two have alike
    pub alike_beside : (xs : List A) (ys : List B) → map f xs ≡ map g ys → (a : A) (b : B) → StandBeside xs ys a b → f a ≡ g b
    alike_beside [] ys same a b h = absurd h
    alike_beside (x ∷ xs) [] same a b h = absurd h
    alike_beside (x ∷ xs) (y ∷ ys) same a b (inl e) = ap f (sym e.0) ∙ (heads_alike same ∙ ap g e.1)
    alike_beside (x ∷ xs) (y ∷ ys) same a b (inr h) = alike_beside xs ys (tails_alike same) a b h

    pub one_alike : (xs : List A) (ys : List B) → map f xs ≡ map g ys → (a : A) → IsIn xs a → (b : B) × (f a ≡ g b)
    one_alike [] ys same a h = absurd h
    one_alike (x ∷ xs) [] same a h = cc
    one_alike (x ∷ xs) (y ∷ ys) same a (inl e) = (y, ap f (sym e) ∙ heads_alike same)
    one_alike (x ∷ xs) (y ∷ ys) same a (inr h) = one_alike xs ys (tails_alike same) a h

    pub all_alike : (xs : List A) (ys : List B) → length xs ≡ length ys → ((a : A) (b : B) → StandBeside xs ys a b → f a ≡ g b) → map f xs ≡ map g ys
    all_alike [] [] long same = refl
    all_alike [] (y ∷ ys) long same = cc
    all_alike (x ∷ xs) [] long same = cc
    all_alike (x ∷ xs) (y ∷ ys) long same = ap₂ (λ (z : Z) (zs : List Z). z ∷ zs) (same x y (inl (refl, refl))) (all_alike xs ys (cc) (λ a b h. same a b (inr h)))

  module _ (test : A → Bool) where
    at_first : (c : Bool) (y b : B) (rest : Option B) → cond c (Some y) rest ≡ Some b → ((c ≡ true) × (y ≡ b)) ⊎ (rest ≡ Some b)
    at_first true y b rest e = let same : y ≡ b = cc in inl (refl, same)
    at_first false y b rest e = inr e

    -- what is found stands beside an element that passes
    pub finds : (xs : List A) (ys : List B) (b : B) → beside test xs ys ≡ Some b → (a : A) × StandBeside xs ys a b × IsTrue (test a)
    finds [] ys b e = cc
    finds (x ∷ xs) [] b e = cc
    finds (x ∷ xs) (y ∷ ys) b e =
        elim (at_first (test x) y b (beside test xs ys) e) as (λ _. (a : A) × StandBeside (x ∷ xs) (y ∷ ys) a b × IsTrue (test a)) [
          | inl here ↦ (x, inl (refl, here.1), here.0)
          | inr later ↦ let r : (a : A) × StandBeside xs ys a b × IsTrue (test a) = finds xs ys b later in (r.0, inr r.1, r.2)
        ]

    -- beside the one element that passes stands what is found
    pub is_found : (xs : List A) (ys : List B) (a : A) (b : B) → AreDistinct xs → IsTrue (test a) → ((x : A) → IsTrue (test x) → x ≡ a) → StandBeside xs ys a b → beside test xs ys ≡ Some b
    is_found [] ys a b apart passes only h = absurd h
    is_found (x ∷ xs) [] a b apart passes only h = absurd h
    is_found (x ∷ xs) (y ∷ ys) a b apart passes only (inl e) = let t : test x ≡ true = ap test e.0 ∙ passes in rw t (ap Some e.1)
    is_found (x ∷ xs) (y ∷ ys) a b apart passes only (inr h) =
        elim (test x) as (λ c. test x ≡ c → cond c (Some y) (beside test xs ys) ≡ Some b) [
          | true ↦ λ t. absurd (apart.0 a (in_first xs ys a b h) (only x t))
          | false ↦ λ _. is_found xs ys a b apart.1 passes only h
        ] refl
