-- Relations in which any two words determine the third, and one word alone says nothing.
use Rattle.std.proofs.Common.{◌≡◌, ◌≢◌, ℕ, ◌^◌, ◌<◌, ◌≤◌, ◌⊎◌, inl, inr, false, refl, sym, ap, ◌∙◌, List, [], ◌∷◌, Option, Some, None, IsNone, IfSome, slice_get, arith}
use Rattle.std.proofs.lemmas.Nat.{pow_below}
use Rattle.circuit_model.specs.declared.model.Primitive.{Primitive}
use Rattle.circuit_model.specs.Inference.{IsTuple, Matches, IsUsed, IsInference}
use Rattle.component_models.specs.Tables.{forced_by_two}
use Rattle.component_models.proofs.Ports.{Known, Forced, Free, not_refuted}
use Rattle.component_models.proofs.Functions.{IsFunction, zero_ne_one, differ_at}

-- f is undone, and g z a is the word that f takes with a to z
pub record IsLatin (w : ℕ) (f g : ℕ → ℕ → ℕ) : Type 0 where
  pub other_fits : (z a : ℕ) → z < 2 ^ w → a < 2 ^ w → g z a < 2 ^ w
  pub exchanged : (a b : ℕ) → f a b ≡ f b a
  pub there : (z a : ℕ) → z < 2 ^ w → a < 2 ^ w → f a (g z a) ≡ z
  pub back : (a b : ℕ) → a < 2 ^ w → b < 2 ^ w → g (f a b) a ≡ b

module _ (prim : Primitive) (used : (known : List (Option ℕ)) → IsUsed prim known) (w : ℕ) (low : 1 ≤ w) (f g : ℕ → ℕ → ℕ) (is : IsFunction prim w w w f) (latin : IsLatin w f g) where
  abbrev ws : List ℕ
  ws = w ∷ w ∷ w ∷ []

  abbrev is_exact : Option ℕ → Option ℕ → Option ℕ → Type 0
  is_exact a b z = IsInference prim ws (a ∷ b ∷ z ∷ []) false (forced_by_two f g a b z)

  one : 1 < 2 ^ w
  one = pow_below 0 w low

  none : 0 < 2 ^ w
  none = omega (arith, one)

  -- the tuple with these first words, and the one with this first and last
  of_parts : (a b : ℕ) → a < 2 ^ w → b < 2 ^ w → IsTuple prim ws (a ∷ b ∷ f a b ∷ [])
  of_parts a b p q = is.tuple_of a b (f a b) p q (is.third_fits a b p q) refl

  of_first : (a z : ℕ) → a < 2 ^ w → z < 2 ^ w → IsTuple prim ws (a ∷ g z a ∷ z ∷ [])
  of_first a z p q = is.tuple_of a (g z a) z p (latin.other_fits z a q p) q (sym (latin.there z a q p))

  of_second : (b z : ℕ) → b < 2 ^ w → z < 2 ^ w → IsTuple prim ws (g z b ∷ b ∷ z ∷ [])
  of_second b z p q = is.tuple_of (g z b) b z (latin.other_fits z b q p) p q (sym (latin.exchanged (g z b) b ∙ latin.there z b q p))

  -- other words give other thirds
  second_tells : (a b c : ℕ) → a < 2 ^ w → b < 2 ^ w → c < 2 ^ w → f a b ≡ f a c → b ≡ c
  second_tells a b c p q r e = sym (latin.back a b p q) ∙ ap (λ z. g z a) e ∙ latin.back a c p r

  thirds_differ : (a : ℕ) → a < 2 ^ w → f a 0 ≢ f a 1
  thirds_differ a p e = zero_ne_one (second_tells a 0 1 p none one e)

  thirds_differ' : (b : ℕ) → b < 2 ^ w → f 0 b ≢ f 1 b
  thirds_differ' b p e = thirds_differ b p (latin.exchanged b 0 ∙ e ∙ latin.exchanged 1 b)

  others_differ : (z : ℕ) → z < 2 ^ w → g z 0 ≢ g z 1
  others_differ z p e =
      let first = latin.other_fits z 0 p none in
      thirds_differ (g z 0) first (latin.exchanged (g z 0) 0 ∙ latin.there z 0 p none ∙ sym (latin.there z 1 p one) ∙ latin.exchanged 1 (g z 1) ∙ ap (λ a. f a 1) (sym e))

  parts_known : (a b : ℕ) → a < 2 ^ w → b < 2 ^ w → is_exact (Some a) (Some b) None
  parts_known a b p q =
      not_refuted prim ws (Some a ∷ Some b ∷ None ∷ []) (used _) (a ∷ b ∷ f a b ∷ []) (of_parts a b p q) (refl, (refl, tt)) None None (Some (f a b)) refl
      (Known a refl)
      (Known b refl)
      (Forced (f a b) refl (is.by_words (λ t. Matches (Some a ∷ Some b ∷ None ∷ []) t → slice_get t 2 ≡ Some (f a b)) (λ x y u px py pu e k. let e1 = k.0 in let e2 = k.1.0 in cc)))

  first_and_third_known : (a z : ℕ) → a < 2 ^ w → z < 2 ^ w → is_exact (Some a) None (Some z)
  first_and_third_known a z p q =
      not_refuted prim ws (Some a ∷ None ∷ Some z ∷ []) (used _) (a ∷ g z a ∷ z ∷ []) (of_first a z p q) (refl, (refl, tt)) None (Some (g z a)) None refl
      (Known a refl)
      (Forced (g z a) refl (is.by_words (λ t. Matches (Some a ∷ None ∷ Some z ∷ []) t → slice_get t 1 ≡ Some (g z a)) (λ x y u px py pu e k. let e1 = k.0 in let e2 = k.1.0 in let d = latin.back x y px py in cc)))
      (Known z refl)

  second_and_third_known : (b z : ℕ) → b < 2 ^ w → z < 2 ^ w → is_exact None (Some b) (Some z)
  second_and_third_known b z p q =
      not_refuted prim ws (None ∷ Some b ∷ Some z ∷ []) (used _) (g z b ∷ b ∷ z ∷ []) (of_second b z p q) (refl, (refl, tt)) (Some (g z b)) None None refl
      (Forced (g z b) refl (is.by_words (λ t. Matches (None ∷ Some b ∷ Some z ∷ []) t → slice_get t 0 ≡ Some (g z b)) (λ x y u px py pu e k. let e1 = k.0 in let e2 = k.1.0 in let d = latin.back y x py px in let c = latin.exchanged x y in cc)))
      (Known b refl)
      (Known z refl)

  first_known : (a : ℕ) → a < 2 ^ w → is_exact (Some a) None None
  first_known a p =
      not_refuted prim ws (Some a ∷ None ∷ None ∷ []) (used _) (a ∷ 0 ∷ f a 0 ∷ []) (of_parts a 0 p none) (refl, tt) None None None refl
      (Known a refl)
      (Free (a ∷ 0 ∷ f a 0 ∷ []) (a ∷ 1 ∷ f a 1 ∷ []) (of_parts a 0 p none) (refl, tt) (of_parts a 1 p one) (refl, tt) (λ e. cc))
      (Free (a ∷ 0 ∷ f a 0 ∷ []) (a ∷ 1 ∷ f a 1 ∷ []) (of_parts a 0 p none) (refl, tt) (of_parts a 1 p one) (refl, tt) (differ_at (thirds_differ a p)))

  second_known : (b : ℕ) → b < 2 ^ w → is_exact None (Some b) None
  second_known b p =
      not_refuted prim ws (None ∷ Some b ∷ None ∷ []) (used _) (0 ∷ b ∷ f 0 b ∷ []) (of_parts 0 b none p) (refl, tt) None None None refl
      (Free (0 ∷ b ∷ f 0 b ∷ []) (1 ∷ b ∷ f 1 b ∷ []) (of_parts 0 b none p) (refl, tt) (of_parts 1 b one p) (refl, tt) (λ e. cc))
      (Known b refl)
      (Free (0 ∷ b ∷ f 0 b ∷ []) (1 ∷ b ∷ f 1 b ∷ []) (of_parts 0 b none p) (refl, tt) (of_parts 1 b one p) (refl, tt) (differ_at (thirds_differ' b p)))

  third_known : (z : ℕ) → z < 2 ^ w → is_exact None None (Some z)
  third_known z p =
      not_refuted prim ws (None ∷ None ∷ Some z ∷ []) (used _) (0 ∷ g z 0 ∷ z ∷ []) (of_first 0 z none p) (refl, tt) None None None refl
      (Free (0 ∷ g z 0 ∷ z ∷ []) (1 ∷ g z 1 ∷ z ∷ []) (of_first 0 z none p) (refl, tt) (of_first 1 z one p) (refl, tt) (λ e. cc))
      (Free (0 ∷ g z 0 ∷ z ∷ []) (1 ∷ g z 1 ∷ z ∷ []) (of_first 0 z none p) (refl, tt) (of_first 1 z one p) (refl, tt) (differ_at (others_differ z p)))
      (Known z refl)

  nothing_known : is_exact None None None
  nothing_known =
      not_refuted prim ws (None ∷ None ∷ None ∷ []) (used _) (0 ∷ 0 ∷ f 0 0 ∷ []) (of_parts 0 0 none none) tt None None None refl
      (Free (0 ∷ 0 ∷ f 0 0 ∷ []) (1 ∷ 0 ∷ f 1 0 ∷ []) (of_parts 0 0 none none) tt (of_parts 1 0 one none) tt (λ e. cc))
      (Free (0 ∷ 0 ∷ f 0 0 ∷ []) (0 ∷ 1 ∷ f 0 1 ∷ []) (of_parts 0 0 none none) tt (of_parts 0 1 none one) tt (λ e. cc))
      (Free (0 ∷ 0 ∷ f 0 0 ∷ []) (0 ∷ 1 ∷ f 0 1 ∷ []) (of_parts 0 0 none none) tt (of_parts 0 1 none one) tt (differ_at (thirds_differ 0 none)))

  pub latin_is_exact : (a b z : Option ℕ) → IfSome a (λ a. a < 2 ^ w) → IfSome b (λ b. b < 2 ^ w) → IfSome z (λ z. z < 2 ^ w) → (IsNone a ⊎ (IsNone b ⊎ IsNone z)) → is_exact a b z
  latin_is_exact (Some a) (Some b) (Some z) p q r (inl n) = cc
  latin_is_exact (Some a) (Some b) (Some z) p q r (inr (inl n)) = cc
  latin_is_exact (Some a) (Some b) (Some z) p q r (inr (inr n)) = cc
  latin_is_exact (Some a) (Some b) None p q r n = parts_known a b p q
  latin_is_exact (Some a) None (Some z) p q r n = first_and_third_known a z p r
  latin_is_exact None (Some b) (Some z) p q r n = second_and_third_known b z q r
  latin_is_exact (Some a) None None p q r n = first_known a p
  latin_is_exact None (Some b) None p q r n = second_known b q
  latin_is_exact None None (Some z) p q r n = third_known z r
  latin_is_exact None None None p q r n = nothing_known
