-- Bitwise conjunction.
use Rattle.std.proofs.Common.{◌≡◌, ◌≢◌, ℕ, ◌+◌, ◌-◌, ◌^◌, ◌<◌, ◌⊎◌, inl, inr, min, max, true, false, not, ◌==◌, if◌then◌else◌, refl, sym, ap, ◌∙◌, List, [], ◌∷◌, Option, Some, None, IsNone, IfSome, slice_get, arith, pow_pos, mod-eq_of_lt, bit_and, bit_or}
use Rattle.std.specs.Int.{bit_at}
use Rattle.std.proofs.lemmas.Nat.{and_le_l, and_le_r, and_comm, and_mask, or_lt, or_disjoint, and_assoc, and-not}
use Rattle.std.specs.Int.Bits.{and_self, and_zero_l, and_zero_r}
use Rattle.std.proofs.lemmas.Nat.Bits.{bit_at_and, bit_at_or, bit_at-lt, same_from_bits_below}
use Rattle.std.proofs.lemmas.Bool.Decides.{nat_tests}
use Rattle.circuit_model.specs.declared.model.Primitive.TheVariants.{And}
use Rattle.circuit_model.specs.Inference.{IsTuple, Matches, IsInference}
use Rattle.component_models.specs.Tables.{forced_by_and, refuted_by_and}
use Rattle.component_models.proofs.Ports.{Known, Forced, Free, not_refuted, refuted, of_three_places}
use Rattle.component_models.proofs.Functions.{differ_at}
use Rattle.component_models.proofs.Complements.{bit_at_complement}
use Rattle.component_models.proofs.Bitwise.{and_function}

and-lt : (w a b : ℕ) → a < 2 ^ w → bit_and a b < 2 ^ w
and-lt w a b p = omega (arith, and_le_l a b)

and_absorb : (a b : ℕ) → bit_and a (bit_and a b) ≡ bit_and a b
and_absorb a b = sym (and_assoc b a a) ∙ ap (λ k. bit_and k b) (and_self a)

and_ones : (w a : ℕ) → a < 2 ^ w → bit_and a (2 ^ w - 1) ≡ a
and_ones w a p = and_mask a w ∙ mod-eq_of_lt p

-- where a is not all ones, another word gives the same conjunction
module _ (w a z : ℕ) (p : a < 2 ^ w) (q : z < 2 ^ w) (within : bit_and a z ≡ z) where
  other : ℕ
  other = bit_or z (2 ^ w - 1 - a)

  other-lt : other < 2 ^ w
  unfolding other
  other-lt = or_lt w z (2 ^ w - 1 - a) q (omega (arith, pow_pos w))

  bits_within : (i : ℕ) → min (bit_at a i) (bit_at z i) ≡ bit_at z i
  bits_within i = sym (bit_at_and a z i) ∙ ap (λ k. bit_at k i) within

  at_bit : (A Z N : ℕ) → A < 2 → Z < 2 → N ≡ 1 - A → min A Z ≡ Z → Z ≡ min A (max Z N)
  at_bit A Z N ha hz e h = omega arith

  and_other : z ≡ bit_and a other
  unfolding other
  and_other =
      same_from_bits_below w z (bit_and a (bit_or z (2 ^ w - 1 - a))) q (and-lt w a _ p) (λ i one.
      rw (bit_at_and a (bit_or z (2 ^ w - 1 - a)) i, bit_at_or z (2 ^ w - 1 - a) i) (at_bit (bit_at a i) (bit_at z i) (bit_at (2 ^ w - 1 - a) i) (bit_at-lt a i) (bit_at-lt z i) (bit_at_complement w a i p one) (bits_within i)))

  other_differs : a ≢ 2 ^ w - 1 → other ≢ z
  unfolding other
  other_differs d e =
      let apart : bit_and z (2 ^ w - 1 - a) ≡ 0 = omega (arith, and-not w a z p q, and_comm z (2 ^ w - 1 - a)) in
      let sum : bit_or z (2 ^ w - 1 - a) ≡ z + (2 ^ w - 1 - a) = or_disjoint z (2 ^ w - 1 - a) apart in
      d (omega arith)

module _ (w : ℕ) where
  abbrev ws : List ℕ
  ws = w ∷ w ∷ w ∷ []

  by_words : (C : List ℕ → Type 0) → ((a b z : ℕ) → a < 2 ^ w → b < 2 ^ w → z < 2 ^ w → z ≡ bit_and a b → C (a ∷ b ∷ z ∷ [])) → (t : List ℕ) → IsTuple And ws t → C t
  by_words = (and_function w).by_words

  tuple : (a b z : ℕ) → a < 2 ^ w → b < 2 ^ w → z ≡ bit_and a b → IsTuple And ws (a ∷ b ∷ z ∷ [])
  tuple a b z p q e = (and_function w).tuple_of a b z p q (rw e (and-lt w a b p)) e

  abbrev top : ℕ
  top = 2 ^ w - 1

  top-lt : top < 2 ^ w
  top-lt = omega (arith, pow_pos w)

  abbrev is_exact : Option ℕ → Option ℕ → Option ℕ → Type 0
  is_exact a b z = IsInference And ws (a ∷ b ∷ z ∷ []) (refuted_by_and a b z) (forced_by_and top a b z)

  both_known : (a b : ℕ) → a < 2 ^ w → b < 2 ^ w → is_exact (Some a) (Some b) None
  both_known a b p q =
      not_refuted And ws (Some a ∷ Some b ∷ None ∷ []) tt (a ∷ b ∷ bit_and a b ∷ []) (tuple a b _ p q refl) (refl, (refl, tt)) None None (Some (bit_and a b)) refl (Known a refl) (Known b refl)
      (Forced (bit_and a b) refl (by_words (λ t. Matches (Some a ∷ Some b ∷ None ∷ []) t → slice_get t 2 ≡ Some (bit_and a b)) (λ x y z px py pz e k. let e1 = k.0 in let e2 = k.1.0 in cc)))

  -- the product and one factor
  no_factor : (a z : ℕ) → bit_and a z ≢ z → (t : List ℕ) → IsTuple And ws t → Matches (Some a ∷ None ∷ Some z ∷ []) t → ⊥
  no_factor a z d = by_words (λ t. Matches (Some a ∷ None ∷ Some z ∷ []) t → ⊥) (λ x y u px py pu e k. d (let e1 : x ≡ a = k.0 in let e2 : u ≡ z = k.1.0 in let s = and_absorb x y in cc))

  first_and_product : (a z : ℕ) → a < 2 ^ w → z < 2 ^ w → is_exact (Some a) None (Some z)
  first_and_product a z p q =
      elim (bit_and a z == z) as (λ r. (bit_and a z == z) ≡ r → IsInference And ws (Some a ∷ None ∷ Some z ∷ []) (not r) (None ∷ (if a == top then Some z else None) ∷ None ∷ [])) [
        | false ↦ λ e. let d : bit_and a z ≢ z = grind (arith, nat_tests) in
            elim (a == top) as (λ r. (a == top) ≡ r → IsInference And ws (Some a ∷ None ∷ Some z ∷ []) true (None ∷ (if r then Some z else None) ∷ None ∷ [])) [
              | true ↦ λ full. let all : a ≡ top = grind (arith, nat_tests) in absurd (d (ap (λ k. bit_and k z) all ∙ (and_comm top z ∙ and_ones w z q)))
              | false ↦ λ _. refuted And ws (Some a ∷ None ∷ Some z ∷ []) (record { used = tt; within = of_three_places _ _ _; open_port = (1, omega arith, refl); no_tuple = no_factor a z d })
            ] refl
        | true ↦ λ e. let within : bit_and a z ≡ z = grind (arith, nat_tests) in
            let t0 : IsTuple And ws (a ∷ z ∷ z ∷ []) = tuple a z z p q (sym within) in
            elim (a == top) as (λ r. (a == top) ≡ r → IsInference And ws (Some a ∷ None ∷ Some z ∷ []) false (None ∷ (if r then Some z else None) ∷ None ∷ [])) [
              | true ↦ λ full. not_refuted And ws (Some a ∷ None ∷ Some z ∷ []) tt (a ∷ z ∷ z ∷ []) t0 (refl, (refl, tt)) None (Some z) None refl (Known a refl)
                  (Forced z refl (by_words (λ t. Matches (Some a ∷ None ∷ Some z ∷ []) t → slice_get t 1 ≡ Some z) (λ x y u px py pu s k. let e1 : x ≡ a = k.0 in let e2 : u ≡ z = k.1.0 in let all : a ≡ top = grind (arith, nat_tests) in let same : bit_and top y ≡ y = and_comm top y ∙ and_ones w y py in cc)))
                  (Known z refl)
              | false ↦ λ part. let d : a ≢ top = grind (arith, nat_tests) in
                  let t1 : IsTuple And ws (a ∷ other w a z p q within ∷ z ∷ []) = tuple a _ z p (other-lt w a z p q within) (and_other w a z p q within) in
                  not_refuted And ws (Some a ∷ None ∷ Some z ∷ []) tt (a ∷ z ∷ z ∷ []) t0 (refl, (refl, tt)) None None None refl (Known a refl)
                  (Free (a ∷ other w a z p q within ∷ z ∷ []) (a ∷ z ∷ z ∷ []) t1 (refl, (refl, tt)) t0 (refl, (refl, tt)) (differ_at (other_differs w a z p q within d)))
                  (Known z refl)
            ] refl
      ] refl

  nothing_known : 1 < 2 ^ w → is_exact None None None
  nothing_known one =
      let pos : 0 < 2 ^ w = pow_pos w in
      let t0 : IsTuple And ws (0 ∷ 0 ∷ 0 ∷ []) = tuple 0 0 0 pos pos refl in
      let t1 : IsTuple And ws (1 ∷ 1 ∷ 1 ∷ []) = tuple 1 1 1 one one refl in
      not_refuted And ws (None ∷ None ∷ None ∷ []) tt (0 ∷ 0 ∷ 0 ∷ []) t0 tt None None None refl
      (Free (0 ∷ 0 ∷ 0 ∷ []) (1 ∷ 1 ∷ 1 ∷ []) t0 tt t1 tt (λ e. cc))
      (Free (0 ∷ 0 ∷ 0 ∷ []) (1 ∷ 1 ∷ 1 ∷ []) t0 tt t1 tt (λ e. cc))
      (Free (0 ∷ 0 ∷ 0 ∷ []) (1 ∷ 1 ∷ 1 ∷ []) t0 tt t1 tt (λ e. cc))

  product_known : 1 < 2 ^ w → (z : ℕ) → z < 2 ^ w → is_exact None None (Some z)
  product_known one z q =
      elim (z == top) as (λ r. (z == top) ≡ r → IsInference And ws (None ∷ None ∷ Some z ∷ []) false ((if r then Some top else None) ∷ (if r then Some top else None) ∷ None ∷ [])) [
        | true ↦ λ full. let all : z ≡ top = grind (arith, nat_tests) in
            let t0 : IsTuple And ws (top ∷ top ∷ z ∷ []) = tuple top top z top-lt top-lt (all ∙ sym (and_self top)) in
            not_refuted And ws (None ∷ None ∷ Some z ∷ []) tt (top ∷ top ∷ z ∷ []) t0 (refl, tt) (Some top) (Some top) None refl
            (Forced top refl (by_words (λ t. Matches (None ∷ None ∷ Some z ∷ []) t → slice_get t 0 ≡ Some top) (λ x y u px py pu s k. ap Some (let e : u ≡ z = k.0 in omega (arith, and_le_l x y)))))
            (Forced top refl (by_words (λ t. Matches (None ∷ None ∷ Some z ∷ []) t → slice_get t 1 ≡ Some top) (λ x y u px py pu s k. ap Some (let e : u ≡ z = k.0 in omega (arith, and_le_r x y)))))
            (Known z refl)
        | false ↦ λ part. let d : z ≢ top = grind (arith, nat_tests) in
            let t0 : IsTuple And ws (top ∷ z ∷ z ∷ []) = tuple top z z top-lt q (sym (and_comm top z ∙ and_ones w z q)) in
            let t1 : IsTuple And ws (z ∷ top ∷ z ∷ []) = tuple z top z q top-lt (sym (and_ones w z q)) in
            not_refuted And ws (None ∷ None ∷ Some z ∷ []) tt (top ∷ z ∷ z ∷ []) t0 (refl, tt) None None None refl
            (Free (z ∷ top ∷ z ∷ []) (top ∷ z ∷ z ∷ []) t1 (refl, tt) t0 (refl, tt) (differ_at d))
            (Free (top ∷ z ∷ z ∷ []) (z ∷ top ∷ z ∷ []) t0 (refl, tt) t1 (refl, tt) (differ_at d))
            (Known z refl)
      ] refl

  first_known : 1 < 2 ^ w → (a : ℕ) → a < 2 ^ w → is_exact (Some a) None None
  first_known one a p =
      let t0 : IsTuple And ws (a ∷ 0 ∷ 0 ∷ []) = tuple a 0 0 p (omega arith) (sym (and_zero_r a)) in
      let t1 : IsTuple And ws (a ∷ top ∷ a ∷ []) = tuple a top a p top-lt (sym (and_ones w a p)) in
      let d : 0 ≢ top = omega arith in
      elim (a == 0) as (λ r. (a == 0) ≡ r → IsInference And ws (Some a ∷ None ∷ None ∷ []) false (None ∷ None ∷ (if r then Some 0 else None) ∷ [])) [
        | true ↦ λ none. let zero : a ≡ 0 = grind (arith, nat_tests) in
            not_refuted And ws (Some a ∷ None ∷ None ∷ []) tt (a ∷ 0 ∷ 0 ∷ []) t0 (refl, tt) None None (Some 0) refl (Known a refl)
            (Free (a ∷ 0 ∷ 0 ∷ []) (a ∷ top ∷ a ∷ []) t0 (refl, tt) t1 (refl, tt) (differ_at d))
            (Forced 0 refl (by_words (λ t. Matches (Some a ∷ None ∷ None ∷ []) t → slice_get t 2 ≡ Some 0) (λ x y u px py pu s k. ap Some (let e : x ≡ a = k.0 in omega (arith, and_le_l x y)))))
        | false ↦ λ some. let e : 0 ≢ a = grind (arith, nat_tests) in
            not_refuted And ws (Some a ∷ None ∷ None ∷ []) tt (a ∷ 0 ∷ 0 ∷ []) t0 (refl, tt) None None None refl (Known a refl)
            (Free (a ∷ 0 ∷ 0 ∷ []) (a ∷ top ∷ a ∷ []) t0 (refl, tt) t1 (refl, tt) (differ_at d))
            (Free (a ∷ 0 ∷ 0 ∷ []) (a ∷ top ∷ a ∷ []) t0 (refl, tt) t1 (refl, tt) (differ_at e))
      ] refl

  no_second : (b z : ℕ) → bit_and b z ≢ z → (t : List ℕ) → IsTuple And ws t → Matches (None ∷ Some b ∷ Some z ∷ []) t → ⊥
  no_second b z d = by_words (λ t. Matches (None ∷ Some b ∷ Some z ∷ []) t → ⊥) (λ x y u px py pu e k. d (let e1 : y ≡ b = k.0 in let e2 : u ≡ z = k.1.0 in let c = and_comm x y in let s = and_absorb y x in cc))

  second_and_product : (b z : ℕ) → b < 2 ^ w → z < 2 ^ w → is_exact None (Some b) (Some z)
  second_and_product b z p q =
      elim (bit_and b z == z) as (λ r. (bit_and b z == z) ≡ r → IsInference And ws (None ∷ Some b ∷ Some z ∷ []) (not r) ((if b == top then Some z else None) ∷ None ∷ None ∷ [])) [
        | false ↦ λ e. let d : bit_and b z ≢ z = grind (arith, nat_tests) in
            elim (b == top) as (λ r. (b == top) ≡ r → IsInference And ws (None ∷ Some b ∷ Some z ∷ []) true ((if r then Some z else None) ∷ None ∷ None ∷ [])) [
              | true ↦ λ full. let all : b ≡ top = grind (arith, nat_tests) in absurd (d (ap (λ k. bit_and k z) all ∙ (and_comm top z ∙ and_ones w z q)))
              | false ↦ λ _. refuted And ws (None ∷ Some b ∷ Some z ∷ []) (record { used = tt; within = of_three_places _ _ _; open_port = (0, omega arith, refl); no_tuple = no_second b z d })
            ] refl
        | true ↦ λ e. let within : bit_and b z ≡ z = grind (arith, nat_tests) in
            let t0 : IsTuple And ws (z ∷ b ∷ z ∷ []) = tuple z b z q p (sym (and_comm z b ∙ within)) in
            elim (b == top) as (λ r. (b == top) ≡ r → IsInference And ws (None ∷ Some b ∷ Some z ∷ []) false ((if r then Some z else None) ∷ None ∷ None ∷ [])) [
              | true ↦ λ full. not_refuted And ws (None ∷ Some b ∷ Some z ∷ []) tt (z ∷ b ∷ z ∷ []) t0 (refl, (refl, tt)) (Some z) None None refl
                  (Forced z refl (by_words (λ t. Matches (None ∷ Some b ∷ Some z ∷ []) t → slice_get t 0 ≡ Some z) (λ x y u px py pu s k. let e1 : y ≡ b = k.0 in let e2 : u ≡ z = k.1.0 in let all : b ≡ top = grind (arith, nat_tests) in let same : bit_and x top ≡ x = and_ones w x px in cc)))
                  (Known b refl)
                  (Known z refl)
              | false ↦ λ part. let d : b ≢ top = grind (arith, nat_tests) in
                  let t1 : IsTuple And ws (other w b z p q within ∷ b ∷ z ∷ []) = tuple _ b z (other-lt w b z p q within) p (and_other w b z p q within ∙ and_comm b (other w b z p q within)) in
                  not_refuted And ws (None ∷ Some b ∷ Some z ∷ []) tt (z ∷ b ∷ z ∷ []) t0 (refl, (refl, tt)) None None None refl
                  (Free (other w b z p q within ∷ b ∷ z ∷ []) (z ∷ b ∷ z ∷ []) t1 (refl, (refl, tt)) t0 (refl, (refl, tt)) (differ_at (other_differs w b z p q within d)))
                  (Known b refl)
                  (Known z refl)
            ] refl
      ] refl

  second_known : 1 < 2 ^ w → (b : ℕ) → b < 2 ^ w → is_exact None (Some b) None
  second_known one b p =
      let t0 : IsTuple And ws (0 ∷ b ∷ 0 ∷ []) = tuple 0 b 0 (pow_pos w) p (sym (and_zero_l b)) in
      let t1 : IsTuple And ws (top ∷ b ∷ b ∷ []) = tuple top b b top-lt p (sym (and_comm top b ∙ and_ones w b p)) in
      let d : 0 ≢ top = omega arith in
      elim (b == 0) as (λ r. (b == 0) ≡ r → IsInference And ws (None ∷ Some b ∷ None ∷ []) false (None ∷ None ∷ (if r then Some 0 else None) ∷ [])) [
        | true ↦ λ none. let zero : b ≡ 0 = grind (arith, nat_tests) in
            not_refuted And ws (None ∷ Some b ∷ None ∷ []) tt (0 ∷ b ∷ 0 ∷ []) t0 (refl, tt) None None (Some 0) refl
            (Free (0 ∷ b ∷ 0 ∷ []) (top ∷ b ∷ b ∷ []) t0 (refl, tt) t1 (refl, tt) (differ_at d))
            (Known b refl)
            (Forced 0 refl (by_words (λ t. Matches (None ∷ Some b ∷ None ∷ []) t → slice_get t 2 ≡ Some 0) (λ x y u px py pu s k. ap Some (let e : y ≡ b = k.0 in omega (arith, and_le_r x y)))))
        | false ↦ λ some. let e : 0 ≢ b = grind (arith, nat_tests) in
            not_refuted And ws (None ∷ Some b ∷ None ∷ []) tt (0 ∷ b ∷ 0 ∷ []) t0 (refl, tt) None None None refl
            (Free (0 ∷ b ∷ 0 ∷ []) (top ∷ b ∷ b ∷ []) t0 (refl, tt) t1 (refl, tt) (differ_at d))
            (Known b refl)
            (Free (0 ∷ b ∷ 0 ∷ []) (top ∷ b ∷ b ∷ []) t0 (refl, tt) t1 (refl, tt) (differ_at e))
      ] refl

pub and_is_exact : (w : ℕ) → 1 < 2 ^ w → (a b z : Option ℕ) → IfSome a (λ a. a < 2 ^ w) → IfSome b (λ b. b < 2 ^ w) → IfSome z (λ z. z < 2 ^ w) → (IsNone a ⊎ (IsNone b ⊎ IsNone z)) → IsInference And (w ∷ w ∷ w ∷ []) (a ∷ b ∷ z ∷ []) (refuted_by_and a b z) (forced_by_and (2 ^ w - 1) a b z)
and_is_exact w one (Some a) (Some b) (Some z) p q r (inl n) = cc
and_is_exact w one (Some a) (Some b) (Some z) p q r (inr (inl n)) = cc
and_is_exact w one (Some a) (Some b) (Some z) p q r (inr (inr n)) = cc
and_is_exact w one (Some a) (Some b) None p q r n = both_known w a b p q
and_is_exact w one (Some a) None (Some z) p q r n = first_and_product w a z p r
and_is_exact w one None (Some b) (Some z) p q r n = second_and_product w b z q r
and_is_exact w one (Some a) None None p q r n = first_known w one a p
and_is_exact w one None (Some b) None p q r n = second_known w one b q
and_is_exact w one None None (Some z) p q r n = product_known w one z r
and_is_exact w one None None None p q r n = nothing_known w one
