-- Products.
use Rattle.std.proofs.Common.{◌≡◌, ◌≢◌, ℕ, zero, suc, not, zero-mul, pow_pos, ◌+◌, ◌*◌, ◌^◌, ◌<◌, ◌≤◌, Bool, true, false, IsTrue, ◌==◌, if◌then◌else◌, refl, sym, ap, subst, ◌∙◌, List, [], ◌∷◌, Option, Some, None, IfSome, slice_get, arith, mul_comm}
use Rattle.std.proofs.lemmas.Nat.{pow-add, mul-lt, pow_below}
use Rattle.std.proofs.lemmas.Bool.Decides.{nat_tests}
use Rattle.std.proofs.lemmas.Option.{same_Some}
use Rattle.circuit_model.specs.declared.model.Primitive.TheVariants.{Mul}
use Rattle.circuit_model.specs.Inference.{IsTuple, Matches, Refutes, Forces, IsInference}
use Rattle.component_models.specs.Tables.{product_of, IsOtherFactor}
use Rattle.component_models.proofs.Ports.{Known, Forced, Free, not_refuted, of_three_places}
use Rattle.component_models.proofs.Functions.{three_fit, three_words, IsFunction, differ_at}

module _ (wa wb : ℕ) where
  abbrev ws : List ℕ
  ws = wa ∷ wb ∷ (wa + wb) ∷ []

  product_fits : (a b : ℕ) → a < 2 ^ wa → b < 2 ^ wb → a * b < 2 ^ (wa + wb)
  product_fits a b p q = rw (pow-add 2 wa wb) (mul-lt a b (2 ^ wa) (2 ^ wb) p q)

  multiplier : IsFunction Mul wa wb (wa + wb) (λ a b. a * b)
  multiplier = record {
    third_fits = product_fits;
    tuple_of = λ a b z p q r e. record { fits = three_fit wa wb (wa + wb) [] a b z p q r; relates = e };
    by_words = λ C here t h. three_words (λ w a b z. z ≡ a * b) wa wb (wa + wb) C here t h.fits h.relates;
  }

  of_factors : (a b : ℕ) → a < 2 ^ wa → b < 2 ^ wb → IsTuple Mul ws (a ∷ b ∷ a * b ∷ [])
  of_factors a b p q = multiplier.tuple_of a b (a * b) p q (product_fits a b p q) refl

  -- the factors alone
  both_known : (a b : ℕ) → a < 2 ^ wa → b < 2 ^ wb → IsInference Mul ws (Some a ∷ Some b ∷ None ∷ []) false (None ∷ None ∷ Some (a * b) ∷ [])
  both_known a b p q =
      not_refuted Mul ws (Some a ∷ Some b ∷ None ∷ []) tt (a ∷ b ∷ a * b ∷ []) (of_factors a b p q) (refl, (refl, tt)) None None (Some (a * b)) refl
      (Known a refl)
      (Known b refl)
      (Forced (a * b) refl (multiplier.by_words (λ t. Matches (Some a ∷ Some b ∷ None ∷ []) t → slice_get t 2 ≡ Some (a * b)) (λ x y z px py pz e k. let e1 = k.0 in let e2 = k.1.0 in cc)))

  module _ (one_a : 1 < 2 ^ wa) (one_b : 1 < 2 ^ wb) where
    none_a : 0 < 2 ^ wa
    none_a = omega arith

    none_b : 0 < 2 ^ wb
    none_b = omega arith

    first_known : (a : ℕ) → a < 2 ^ wa → IsInference Mul ws (Some a ∷ None ∷ None ∷ []) false (None ∷ None ∷ (if a == 0 then Some 0 else None) ∷ [])
    first_known a p =
        let t0 : IsTuple Mul ws (a ∷ 0 ∷ a * 0 ∷ []) = of_factors a 0 p none_b in
        let t1 : IsTuple Mul ws (a ∷ 1 ∷ a * 1 ∷ []) = of_factors a 1 p one_b in
        elim (a == 0) as (λ r. (a == 0) ≡ r → IsInference Mul ws (Some a ∷ None ∷ None ∷ []) false (None ∷ None ∷ (if r then Some 0 else None) ∷ [])) [
          | true ↦ λ none. let zero : a ≡ 0 = grind (arith, nat_tests) in
              not_refuted Mul ws (Some a ∷ None ∷ None ∷ []) tt (a ∷ 0 ∷ a * 0 ∷ []) t0 (refl, tt) None None (Some 0) refl
              (Known a refl)
              (Free (a ∷ 0 ∷ a * 0 ∷ []) (a ∷ 1 ∷ a * 1 ∷ []) t0 (refl, tt) t1 (refl, tt) (λ e. cc))
              (Forced 0 refl (multiplier.by_words (λ t. Matches (Some a ∷ None ∷ None ∷ []) t → slice_get t 2 ≡ Some 0) (λ x y z px py pz e k. ap Some (let f : x ≡ 0 = k.0 ∙ zero in grind arith))))
          | false ↦ λ some. let differ : a * 0 ≢ a * 1 = grind (arith, nat_tests) in
              not_refuted Mul ws (Some a ∷ None ∷ None ∷ []) tt (a ∷ 0 ∷ a * 0 ∷ []) t0 (refl, tt) None None None refl
              (Known a refl)
              (Free (a ∷ 0 ∷ a * 0 ∷ []) (a ∷ 1 ∷ a * 1 ∷ []) t0 (refl, tt) t1 (refl, tt) (λ e. cc))
              (Free (a ∷ 0 ∷ a * 0 ∷ []) (a ∷ 1 ∷ a * 1 ∷ []) t0 (refl, tt) t1 (refl, tt) (differ_at differ))
        ] refl

    second_known : (b : ℕ) → b < 2 ^ wb → IsInference Mul ws (None ∷ Some b ∷ None ∷ []) false (None ∷ None ∷ (if b == 0 then Some 0 else None) ∷ [])
    second_known b p =
        let t0 : IsTuple Mul ws (0 ∷ b ∷ 0 * b ∷ []) = of_factors 0 b none_a p in
        let t1 : IsTuple Mul ws (1 ∷ b ∷ 1 * b ∷ []) = of_factors 1 b one_a p in
        elim (b == 0) as (λ r. (b == 0) ≡ r → IsInference Mul ws (None ∷ Some b ∷ None ∷ []) false (None ∷ None ∷ (if r then Some 0 else None) ∷ [])) [
          | true ↦ λ none. let zero : b ≡ 0 = grind (arith, nat_tests) in
              not_refuted Mul ws (None ∷ Some b ∷ None ∷ []) tt (0 ∷ b ∷ 0 * b ∷ []) t0 (refl, tt) None None (Some 0) refl
              (Free (0 ∷ b ∷ 0 * b ∷ []) (1 ∷ b ∷ 1 * b ∷ []) t0 (refl, tt) t1 (refl, tt) (λ e. cc))
              (Known b refl)
              (Forced 0 refl (multiplier.by_words (λ t. Matches (None ∷ Some b ∷ None ∷ []) t → slice_get t 2 ≡ Some 0) (λ x y z px py pz e k. ap Some (let f : y ≡ 0 = k.0 ∙ zero in grind arith))))
          | false ↦ λ some. let differ : 0 * b ≢ 1 * b = grind (arith, nat_tests) in
              not_refuted Mul ws (None ∷ Some b ∷ None ∷ []) tt (0 ∷ b ∷ 0 * b ∷ []) t0 (refl, tt) None None None refl
              (Free (0 ∷ b ∷ 0 * b ∷ []) (1 ∷ b ∷ 1 * b ∷ []) t0 (refl, tt) t1 (refl, tt) (λ e. cc))
              (Known b refl)
              (Free (0 ∷ b ∷ 0 * b ∷ []) (1 ∷ b ∷ 1 * b ∷ []) t0 (refl, tt) t1 (refl, tt) (differ_at differ))
        ] refl

    nothing_known : IsInference Mul ws (None ∷ None ∷ None ∷ []) false (None ∷ None ∷ None ∷ [])
    nothing_known =
        let t0 : IsTuple Mul ws (0 ∷ 0 ∷ 0 ∷ []) = of_factors 0 0 none_a none_b in
        let t1 : IsTuple Mul ws (1 ∷ 1 ∷ 1 ∷ []) = of_factors 1 1 one_a one_b in
        not_refuted Mul ws (None ∷ None ∷ None ∷ []) tt (0 ∷ 0 ∷ 0 ∷ []) t0 tt None None None refl
        (Free (0 ∷ 0 ∷ 0 ∷ []) (1 ∷ 1 ∷ 1 ∷ []) t0 tt t1 tt (λ e. cc))
        (Free (0 ∷ 0 ∷ 0 ∷ []) (1 ∷ 1 ∷ 1 ∷ []) t0 tt t1 tt (λ e. cc))
        (Free (0 ∷ 0 ∷ 0 ∷ []) (1 ∷ 1 ∷ 1 ∷ []) t0 tt t1 tt (λ e. cc))

    pub factors_are_exact : (a b : Option ℕ) → IfSome a (λ a. a < 2 ^ wa) → IfSome b (λ b. b < 2 ^ wb) → IsInference Mul ws (a ∷ b ∷ None ∷ []) false (None ∷ None ∷ product_of a b ∷ [])
    factors_are_exact (Some a) (Some b) p q = both_known a b p q
    factors_are_exact (Some a) None p q = first_known a p
    factors_are_exact None (Some b) p q = second_known b q
    factors_are_exact None None p q = nothing_known

  -- the product alone is not used
  pub product_alone : (z : ℕ) → IsInference Mul ws (None ∷ None ∷ Some z ∷ []) false (None ∷ None ∷ None ∷ [])
  product_alone z = record {
    refutes_exactly = (λ (e : IsTrue false). cc, λ (r : Refutes Mul ws (None ∷ None ∷ Some z ∷ [])). absurd r.used);
    forces_exactly = λ p v. (none p v, λ (f : Forces Mul ws (None ∷ None ∷ Some z ∷ []) p v). absurd f.used);
  } where
    none : (p v : ℕ) → slice_get (None ∷ None ∷ None ∷ []) p ≡ Some (Some v) → Forces Mul ws (None ∷ None ∷ Some z ∷ []) p v
    none zero v e = cc
    none (suc zero) v e = cc
    none (suc (suc zero)) v e = cc
    none (suc (suc (suc p))) v e = cc

  -- the product and one factor
  module _ (a z : ℕ) (p : a < 2 ^ wa) (q : z < 2 ^ (wa + wb)) (refuted : Bool) (forced : Option ℕ) (o : IsOtherFactor wb a z refuted forced) where
    abbrev known : List (Option ℕ)
    known = Some a ∷ None ∷ Some z ∷ []

    with_first : (b : ℕ) → b < 2 ^ wb → z ≡ a * b → IsTuple Mul ws (a ∷ b ∷ z ∷ [])
    with_first b r e = multiplier.tuple_of a b z p r q e

    first_refutes : IsTrue refuted → Refutes Mul ws known
    first_refutes e = record {
      used = tt;
      within = of_three_places _ _ _;
      open_port = (1, omega arith, refl);
      no_tuple = multiplier.by_words (λ t. Matches known t → ⊥) (λ x y u px py pu e1 k. o.refutes.0 e y py (let e2 : x ≡ a = k.0 in let e3 : u ≡ z = k.1.0 in cc));
    }

    first_refuted : Refutes Mul ws known → IsTrue refuted
    first_refuted r = o.refutes.1 (λ b s e. r.no_tuple (a ∷ b ∷ z ∷ []) (with_first b s e) (refl, (refl, tt)))

    second_forced : (v : ℕ) → forced ≡ Some v → Forces Mul ws known 1 v
    second_forced v e =
        let f = (o.forces v).0 e in
        record {
          used = tt;
          unknown = refl;
          some_tuple = (a ∷ v ∷ z ∷ [], with_first v f.0 f.1, (refl, (refl, tt)));
          every_tuple = multiplier.by_words (λ t. Matches known t → slice_get t 1 ≡ Some v) (λ x y u px py pu e1 k. ap Some (f.2 y py (let e2 : x ≡ a = k.0 in let e3 : u ≡ z = k.1.0 in cc)));
        }

    second_forces : (v : ℕ) → Forces Mul ws known 1 v → forced ≡ Some v
    second_forces v f =
        let some = f.some_tuple in
        let it : (v < 2 ^ wb) × (z ≡ a * v) = multiplier.by_words (λ t. Matches known t → slice_get t 1 ≡ Some v → (v < 2 ^ wb) × (z ≡ a * v)) (λ x y u px py pu e k at.
        let e2 : x ≡ a = k.0 in let e3 : u ≡ z = k.1.0 in let e4 : y ≡ v = same_Some _ _ at in
        (rw (← e4) py, cc)) some.0 some.1 some.2 (f.every_tuple some.0 some.1 some.2) in
        (o.forces v).1 (it.0, it.1, λ r s e. same_Some _ _ (f.every_tuple (a ∷ r ∷ z ∷ []) (with_first r s e) (refl, (refl, tt))))

    pub first_and_product : IsInference Mul ws known refuted (None ∷ forced ∷ None ∷ [])
    first_and_product = record {
      refutes_exactly = (first_refutes, first_refuted);
      forces_exactly = λ p v. (to p v, from p v);
    } where
      to : (p v : ℕ) → slice_get (None ∷ forced ∷ None ∷ []) p ≡ Some (Some v) → Forces Mul ws known p v
      to zero v e = cc
      to (suc zero) v e = second_forced v (same_Some _ _ e)
      to (suc (suc zero)) v e = cc
      to (suc (suc (suc p))) v e = cc

      from : (p v : ℕ) → Forces Mul ws known p v → slice_get (None ∷ forced ∷ None ∷ []) p ≡ Some (Some v)
      from zero v f = let u = f.unknown in cc
      from (suc zero) v f = ap Some (second_forces v f)
      from (suc (suc zero)) v f = let u = f.unknown in cc
      from (suc (suc (suc p))) v f = let u = f.unknown in cc

  module _ (b z : ℕ) (p : b < 2 ^ wb) (q : z < 2 ^ (wa + wb)) (refuted : Bool) (forced : Option ℕ) (o : IsOtherFactor wa b z refuted forced) where
    abbrev known' : List (Option ℕ)
    known' = None ∷ Some b ∷ Some z ∷ []

    with_second : (a : ℕ) → a < 2 ^ wa → z ≡ b * a → IsTuple Mul ws (a ∷ b ∷ z ∷ [])
    with_second a r e = multiplier.tuple_of a b z r p q (e ∙ mul_comm b a)

    turned_round : (x y u : ℕ) → y ≡ b → u ≡ z → u ≡ x * y → z ≡ b * x
    turned_round x y u e f g = sym f ∙ g ∙ ap (λ k. x * k) e ∙ mul_comm x b

    second_refutes : IsTrue refuted → Refutes Mul ws known'
    second_refutes e = record {
      used = tt;
      within = of_three_places _ _ _;
      open_port = (0, omega arith, refl);
      no_tuple = multiplier.by_words (λ t. Matches known' t → ⊥) (λ x y u px py pu e1 k. o.refutes.0 e x px (turned_round x y u k.0 k.1.0 e1));
    }

    second_refuted : Refutes Mul ws known' → IsTrue refuted
    second_refuted r = o.refutes.1 (λ a s e. r.no_tuple (a ∷ b ∷ z ∷ []) (with_second a s e) (refl, (refl, tt)))

    first_forced : (v : ℕ) → forced ≡ Some v → Forces Mul ws known' 0 v
    first_forced v e =
        let f = (o.forces v).0 e in
        record {
          used = tt;
          unknown = refl;
          some_tuple = (v ∷ b ∷ z ∷ [], with_second v f.0 f.1, (refl, (refl, tt)));
          every_tuple = multiplier.by_words (λ t. Matches known' t → slice_get t 0 ≡ Some v) (λ x y u px py pu e1 k. ap Some (f.2 x px (turned_round x y u k.0 k.1.0 e1)));
        }

    first_forces : (v : ℕ) → Forces Mul ws known' 0 v → forced ≡ Some v
    first_forces v f =
        let some = f.some_tuple in
        let it : (v < 2 ^ wa) × (z ≡ b * v) = multiplier.by_words (λ t. Matches known' t → slice_get t 0 ≡ Some v → (v < 2 ^ wa) × (z ≡ b * v)) (λ x y u px py pu e k at.
        let same : x ≡ v = same_Some _ _ at in
        (rw (← same) px, turned_round x y u k.0 k.1.0 e ∙ ap (λ k. b * k) same)) some.0 some.1 some.2 (f.every_tuple some.0 some.1 some.2) in
        (o.forces v).1 (it.0, it.1, λ r s e. same_Some _ _ (f.every_tuple (r ∷ b ∷ z ∷ []) (with_second r s e) (refl, (refl, tt))))

    pub second_and_product : IsInference Mul ws known' refuted (forced ∷ None ∷ None ∷ [])
    second_and_product = record {
      refutes_exactly = (second_refutes, second_refuted);
      forces_exactly = λ p v. (to p v, from p v);
    } where
      to : (p v : ℕ) → slice_get (forced ∷ None ∷ None ∷ []) p ≡ Some (Some v) → Forces Mul ws known' p v
      to zero v e = first_forced v (same_Some _ _ e)
      to (suc zero) v e = cc
      to (suc (suc zero)) v e = cc
      to (suc (suc (suc p))) v e = cc

      from : (p v : ℕ) → Forces Mul ws known' p v → slice_get (forced ∷ None ∷ None ∷ []) p ≡ Some (Some v)
      from zero v f = ap Some (first_forces v f)
      from (suc zero) v f = let u = f.unknown in cc
      from (suc (suc zero)) v f = let u = f.unknown in cc
      from (suc (suc (suc p))) v f = let u = f.unknown in cc

-- a factor of 0 makes 0 with each word, and nothing else
module _ (w z : ℕ) (low : 1 ≤ w) where
  zero_refutes : IsTrue (not (z == 0)) → (q : ℕ) → q < 2 ^ w → z ≡ 0 * q → ⊥
  zero_refutes e q p k = let none : z ≡ 0 = k ∙ zero-mul q in grind (arith, nat_tests)

  zero_refuted : ((q : ℕ) → q < 2 ^ w → z ≡ 0 * q → ⊥) → IsTrue (not (z == 0))
  zero_refuted h = let some : z ≢ 0 = λ e. h 0 (pow_pos w) e in grind (arith, nat_tests)

  zero_forces : (q : ℕ) → (q < 2 ^ w) × (z ≡ 0 * q) × ((r : ℕ) → r < 2 ^ w → z ≡ 0 * r → r ≡ q) → None ≡ Some q
  zero_forces q h =
      let none : z ≡ 0 = h.1 ∙ zero-mul q in
      let first : 0 ≡ q = h.2 0 (pow_pos w) none in
      let second : 1 ≡ q = h.2 1 (pow_below 0 w low) none in
      absurd (omega arith)

  pub zero_factor : IsOtherFactor w 0 z (not (z == 0)) None
  zero_factor = record {
    refutes = (zero_refutes, zero_refuted);
    forces = λ q. (λ e. cc, zero_forces q);
  }

-- the same for words that may be known
module _ (wa wb : ℕ) (a b z : Option ℕ) (y : ℕ) (third : z ≡ Some y) (fits : IfSome z (λ z. z < 2 ^ (wa + wb))) where
  known_fits : (w x : ℕ) (o : Option ℕ) → o ≡ Some x → IfSome o (λ v. v < 2 ^ w) → x < 2 ^ w
  known_fits w x o e p = let P : Option ℕ → Type 0 = λ o. IfSome o (λ v. v < 2 ^ w) in subst P e p

  pub by_first_and_product : (x : ℕ) → a ≡ Some x → b ≡ None → IfSome a (λ a. a < 2 ^ wa) → (refuted : Bool) (forced : Option ℕ) → IsOtherFactor wb x y refuted forced → IsInference Mul (wa ∷ wb ∷ (wa + wb) ∷ []) (a ∷ b ∷ z ∷ []) refuted (None ∷ forced ∷ None ∷ [])
  by_first_and_product x first second p refuted forced o =
      rw (first, second, third) (first_and_product wa wb x y (known_fits wa x a first p) (known_fits (wa + wb) y z third fits) refuted forced o)

  pub by_second_and_product : (x : ℕ) → a ≡ None → b ≡ Some x → IfSome b (λ b. b < 2 ^ wb) → (refuted : Bool) (forced : Option ℕ) → IsOtherFactor wa x y refuted forced → IsInference Mul (wa ∷ wb ∷ (wa + wb) ∷ []) (a ∷ b ∷ z ∷ []) refuted (forced ∷ None ∷ None ∷ [])
  by_second_and_product x first second p refuted forced o =
      rw (first, second, third) (second_and_product wa wb x y (known_fits wb x b second p) (known_fits (wa + wb) y z third fits) refuted forced o)

  pub by_product_alone : a ≡ None → b ≡ None → IsInference Mul (wa ∷ wb ∷ (wa + wb) ∷ []) (a ∷ b ∷ z ∷ []) false (None ∷ None ∷ None ∷ [])
  by_product_alone first second = rw (first, second, third) (product_alone wa wb y)
