-- Fewer assumptions have no larger load.
use Rattle.std.proofs.Common.{◌≡◌, suc, ◌≤◌, ◌⊎◌, inl, inr, List, [], ◌∷◌, length, refl, sym, ap, ◌∙◌, arith}
use Rattle.environment_sets.specs.Lists.{IsIn, AreDistinct}
use Rattle.circuit_model.specs.Load.{LoadsGrow}
use Rattle.circuit_model.proofs.SmallerStock.{labels_of_a_part, nogoods_of_a_part}

module _ {X : Type 0} where
  -- the list without one place of x
  removed : (ys : List X) (x : X) → IsIn ys x → (rest : List X) × (length ys ≡ suc (length rest)) × ((z : X) → IsIn ys z → (x ≡ z) ⊎ IsIn rest z)
  removed [] x h = absurd h
  removed (y ∷ ys) x (inl e) = (ys, refl, λ z h. elim h [ inl f ↦ inl (sym e ∙ f) | inr later ↦ inr later ])
  removed (y ∷ ys) x (inr h) =
      let r : (rest : List X) × (length ys ≡ suc (length rest)) × ((z : X) → IsIn ys z → (x ≡ z) ⊎ IsIn rest z) = removed ys x h in
      (y ∷ r.0, ap suc r.1, λ z k. elim k [ inl f ↦ inr (inl f) | inr later ↦ elim (r.2 z later) [ inl e ↦ inl e | inr k ↦ inr (inr k) ] ])

  pub length-le_of_distinct : (xs ys : List X) → AreDistinct xs → ((z : X) → IsIn xs z → IsIn ys z) → length xs ≤ length ys
  length-le_of_distinct [] ys d within = omega arith
  length-le_of_distinct (x ∷ xs) ys d within =
      let r : (rest : List X) × (length ys ≡ suc (length rest)) × ((z : X) → IsIn ys z → (x ≡ z) ⊎ IsIn rest z) = removed ys x (within x (inl refl)) in
      let fewer : length xs ≤ length r.0 = length-le_of_distinct xs r.0 d.1 (λ z h. elim (r.2 z (within z (inr h))) [ inl e ↦ absurd (d.0 z h e) | inr k ↦ k ]) in
      omega (arith, r.1, fewer)

pub loads_grow : (N : Type 0) → LoadsGrow N
loads_grow N S R part m n s r =
    let pairs : length s.pairs ≤ length r.pairs = length-le_of_distinct s.pairs r.pairs s.pairs_exact.distinct (λ z h. (r.pairs_exact.exact z).1 (((labels_of_a_part N S R part z.0 z.1).0 ((s.pairs_exact.exact z).0 h)).0)) in
    let nogoods : length s.nogoods ≤ length r.nogoods = length-le_of_distinct s.nogoods r.nogoods s.nogoods_exact.distinct (λ z h. (r.nogoods_exact.exact z).1 (((nogoods_of_a_part N S R part z).0 ((s.nogoods_exact.exact z).0 h)).0)) in
    omega (arith, s.count, r.count)
