-- Primitives of two ports, each of whose words determines the other.
use Rattle.std.proofs.Common.{◌≡◌, ◌≢◌, ℕ, ◌-◌, ◌^◌, ◌<◌, ◌≤◌, ◌⊎◌, inl, inr, false, refl, sym, ap, subst, ◌∙◌, List, [], ◌∷◌, Option, Some, None, IsNone, IfSome, slice_get, arith}
use Rattle.std.specs.Option.{option_map}
use Rattle.std.proofs.lemmas.Nat.{pow_below}
use Rattle.circuit_model.specs.declared.model.Primitive.{Primitive}
use Rattle.circuit_model.specs.declared.model.Primitive.TheVariants.{Buf, Not}
use Rattle.circuit_model.specs.Inference.{IsTuple, Matches, IsUsed, IsInference}
use Rattle.component_models.proofs.Ports.{Known, Forced, Free, Absent, not_refuted}
use Rattle.component_models.proofs.Functions.{two_fit, two_words, zero_ne_one, differ_at}
use Rattle.component_models.proofs.Complements.{complement_of, complement-lt, complement-complement}

-- the tuples of the primitive are two words, each the turn of the other
record IsPair (prim : Primitive) (w : ℕ) (turn : ℕ → ℕ) : Type 1 where
  used : (known : List (Option ℕ)) → IsUsed prim known
  fits : (v : ℕ) → v < 2 ^ w → turn v < 2 ^ w
  twice : (v : ℕ) → v < 2 ^ w → turn (turn v) ≡ v
  tuple_of : (a z : ℕ) → a < 2 ^ w → z < 2 ^ w → z ≡ turn a → IsTuple prim (w ∷ w ∷ w ∷ []) (a ∷ z ∷ [])
  by_words : (C : List ℕ → Type 0) → ((a z : ℕ) → a < 2 ^ w → z < 2 ^ w → z ≡ turn a → C (a ∷ z ∷ [])) → (t : List ℕ) → IsTuple prim (w ∷ w ∷ w ∷ []) t → C t

module _ (prim : Primitive) (w : ℕ) (low : 1 ≤ w) (turn : ℕ → ℕ) (is : IsPair prim w turn) where
  abbrev ws : List ℕ
  ws = w ∷ w ∷ w ∷ []

  abbrev is_exact : Option ℕ → Option ℕ → Type 0
  is_exact a z = IsInference prim ws (a ∷ z ∷ None ∷ []) false (option_map turn z ∷ option_map turn a ∷ None ∷ [])

  one : 1 < 2 ^ w
  one = pow_below 0 w low

  none : 0 < 2 ^ w
  none = omega (arith, one)

  of_first : (a : ℕ) → a < 2 ^ w → IsTuple prim ws (a ∷ turn a ∷ [])
  of_first a p = is.tuple_of a (turn a) p (is.fits a p) refl

  of_second : (z : ℕ) → z < 2 ^ w → IsTuple prim ws (turn z ∷ z ∷ [])
  of_second z p = is.tuple_of (turn z) z (is.fits z p) p (sym (is.twice z p))

  no_third : (t : List ℕ) → IsTuple prim ws t → slice_get t 2 ≡ None
  no_third = is.by_words (λ t. slice_get t 2 ≡ None) (λ a z pa pz e. refl)

  turns_differ : turn 0 ≢ turn 1
  turns_differ e = zero_ne_one (sym (is.twice 0 none) ∙ ap turn e ∙ is.twice 1 one)

  first_known : (a : ℕ) → a < 2 ^ w → is_exact (Some a) None
  first_known a p =
      not_refuted prim ws (Some a ∷ None ∷ None ∷ []) (is.used _) (a ∷ turn a ∷ []) (of_first a p) (refl, tt) None (Some (turn a)) None refl
      (Known a refl)
      (Forced (turn a) refl (is.by_words (λ t. Matches (Some a ∷ None ∷ None ∷ []) t → slice_get t 1 ≡ Some (turn a)) (λ x u px pu e k. ap Some (e ∙ ap turn k.0))))
      (Absent no_third)

  second_known : (z : ℕ) → z < 2 ^ w → is_exact None (Some z)
  second_known z p =
      not_refuted prim ws (None ∷ Some z ∷ None ∷ []) (is.used _) (turn z ∷ z ∷ []) (of_second z p) (refl, tt) (Some (turn z)) None None refl
      (Forced (turn z) refl (is.by_words (λ t. Matches (None ∷ Some z ∷ None ∷ []) t → slice_get t 0 ≡ Some (turn z)) (λ x u px pu e k. ap Some (sym (is.twice x px) ∙ ap turn (sym e ∙ k.0)))))
      (Known z refl)
      (Absent no_third)

  nothing_known : is_exact None None
  nothing_known =
      not_refuted prim ws (None ∷ None ∷ None ∷ []) (is.used _) (0 ∷ turn 0 ∷ []) (of_first 0 none) tt None None None refl
      (Free (0 ∷ turn 0 ∷ []) (1 ∷ turn 1 ∷ []) (of_first 0 none) tt (of_first 1 one) tt (differ_at zero_ne_one))
      (Free (0 ∷ turn 0 ∷ []) (1 ∷ turn 1 ∷ []) (of_first 0 none) tt (of_first 1 one) tt (differ_at turns_differ))
      (Absent no_third)

  pair_is_exact : (a z : Option ℕ) → IfSome a (λ a. a < 2 ^ w) → IfSome z (λ z. z < 2 ^ w) → (IsNone a ⊎ IsNone z) → is_exact a z
  pair_is_exact (Some a) (Some z) p q (inl n) = cc
  pair_is_exact (Some a) (Some z) p q (inr n) = cc
  pair_is_exact (Some a) None p q n = first_known a p
  pair_is_exact None (Some z) p q n = second_known z q
  pair_is_exact None None p q n = nothing_known

module _ (w : ℕ) where
  copies : IsPair Buf w (λ v. v)
  copies = record {
    used = λ _. tt;
    fits = λ v p. p;
    twice = λ v p. refl;
    tuple_of = λ a z p q e. record { fits = two_fit w w (w ∷ []) a z p q; relates = e };
    by_words = λ C here t h. two_words (λ w a z. z ≡ a) w w (w ∷ []) C here t h.fits h.relates;
  }

  inverses : IsPair Not w (complement_of w)
  inverses = record {
    used = λ _. tt;
    fits = complement-lt w;
    twice = complement-complement w;
    tuple_of = λ a z p q e. record { fits = two_fit w w (w ∷ []) a z p q; relates = e };
    by_words = λ C here t h. two_words (λ w a z. z ≡ 2 ^ w - 1 - a) w w (w ∷ []) C here t h.fits h.relates;
  }

  same : (o : Option ℕ) → option_map (λ v. v) o ≡ o
  same None = refl
  same (Some v) = refl

  pub buf_is_exact : 1 ≤ w → (a z : Option ℕ) → IfSome a (λ a. a < 2 ^ w) → IfSome z (λ z. z < 2 ^ w) → (IsNone a ⊎ IsNone z) → IsInference Buf (w ∷ w ∷ w ∷ []) (a ∷ z ∷ None ∷ []) false (z ∷ a ∷ None ∷ [])
  buf_is_exact low a z p q n =
      let forced : option_map (λ v. v) z ∷ option_map (λ v. v) a ∷ None ∷ [] ≡ z ∷ a ∷ None ∷ [] = rw (same z, same a) refl in
      subst (IsInference Buf (w ∷ w ∷ w ∷ []) (a ∷ z ∷ None ∷ []) false) forced (pair_is_exact Buf w low (λ v. v) copies a z p q n)

  pub not_is_exact : 1 ≤ w → (a z : Option ℕ) → IfSome a (λ a. a < 2 ^ w) → IfSome z (λ z. z < 2 ^ w) → (IsNone a ⊎ IsNone z) → IsInference Not (w ∷ w ∷ w ∷ []) (a ∷ z ∷ None ∷ []) false (option_map (complement_of w) z ∷ option_map (complement_of w) a ∷ None ∷ [])
  not_is_exact low = pair_is_exact Not w low (complement_of w) inverses
