-- How many elements of a list pass a test.
use Rattle.std.proofs.Common.{◌≡◌, ◌+◌, ◌<◌, ◌≤◌, inl, inr, Bool, true, false, cond, IsTrue, List, [], ◌∷◌, map, refl, sym, ap₂, subst, ◌∙◌, arith}
use Rattle.std.specs.List.{count_by}
use Rattle.std.proofs.lemmas.Bool.{false≢true}
use Rattle.std.proofs.lemmas.List.Sums.{sum_by-cons}
use Rattle.environment_sets.specs.Lists.{IsIn}

module _ {X : Type 0} where
  pub count_by-cons : (p : X → Bool) (x : X) (xs : List X) → count_by p (x ∷ xs) ≡ cond (p x) 1 0 + count_by p xs
  count_by-cons p x xs = sum_by-cons (λ y. cond (p y) 1 0) x xs

  -- tests that agree on a list count alike
  pub count_by-agree : (p q : X → Bool) (xs : List X) → ((x : X) → IsIn xs x → p x ≡ q x) → count_by p xs ≡ count_by q xs
  count_by-agree p q [] same = refl
  count_by-agree p q (x ∷ xs) same =
      count_by-cons p x xs ∙ (ap₂ (λ b n. cond b 1 0 + n) (same x (inl refl)) (count_by-agree p q xs (λ y h. same y (inr h))) ∙ sym (count_by-cons q x xs))

  module _ (p q : X → Bool) (all : (x : X) → IsTrue (p x) → IsTrue (q x)) where
    no_more : (a b : Bool) → (IsTrue a → IsTrue b) → cond a 1 0 ≤ cond b 1 0
    no_more true true h = omega arith
    no_more true false h = absurd (false≢true (h refl))
    no_more false b h = omega arith

    one_less : (a b : Bool) → (IsTrue a → ⊥) → IsTrue b → cond a 1 0 < cond b 1 0
    one_less true b out is = absurd (out refl)
    one_less false true out is = omega arith
    one_less false false out is = absurd (false≢true is)

    -- where what passes the one test passes the other, no more pass the one
    pub count_by-le : (xs : List X) → count_by p xs ≤ count_by q xs
    count_by-le [] = omega arith
    count_by-le (x ∷ xs) = omega (arith, count_by-cons p x xs, count_by-cons q x xs, no_more (p x) (q x) (all x), count_by-le xs)

    -- and where an element passes the other alone, fewer pass the one
    pub count_by-lt : (xs : List X) (x : X) → IsIn xs x → (IsTrue (p x) → ⊥) → IsTrue (q x) → count_by p xs < count_by q xs
    count_by-lt [] x h out is = absurd h
    count_by-lt (y ∷ ys) x (inl e) out is =
        let P : X → Type 0 = λ z. (IsTrue (p z) → ⊥) × IsTrue (q z) in
        let at : (IsTrue (p y) → ⊥) × IsTrue (q y) = subst P (sym e) (out, is) in
        omega (arith, count_by-cons p y ys, count_by-cons q y ys, one_less (p y) (q y) at.0 at.1, count_by-le ys)
    count_by-lt (y ∷ ys) x (inr h) out is =
        omega (arith, count_by-cons p y ys, count_by-cons q y ys, no_more (p y) (q y) (all y), count_by-lt ys x h out is)

module _ {X Y : Type 0} where
  -- a count after a map
  pub count_by-map : (p : Y → Bool) (f : X → Y) (xs : List X) → count_by p (map f xs) ≡ count_by (λ x. p (f x)) xs
  count_by-map p f [] = refl
  count_by-map p f (x ∷ xs) = omega (arith, count_by-cons p (f x) (map f xs), count_by-cons (λ y. p (f y)) x xs, count_by-map p f xs)
