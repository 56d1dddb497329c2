-- Rows of nets, with one net more.
use Rattle.std.proofs.Common.{◌≡◌, ℕ, zero, suc, ◌+◌, ◌-◌, ◌<◌, List, [], ◌∷◌, ◌++◌, length, map, get_or, replicate, slice_get, set, Option, Some, None, refl, sym, ◌∙◌, ap, arith, length-append, length-set}
use Rattle.circuit_model.specs.declared.limits.TheConstants.{MOST_PINS}
use Rattle.circuit_model.specs.Rows.{nets_in, filled, IsRow}

-- nets with so many empty places after them
followed : List ℕ → ℕ → List (Option ℕ)
followed nets n = map Some nets ++ replicate n None

shown_followed : (nets : List ℕ) (n : ℕ) → nets_in (followed nets n) ≡ nets
unfolding followed
shown_followed [] zero = refl
shown_followed [] (suc n) = refl
shown_followed (net ∷ nets) n = ap (λ t. net ∷ t) (shown_followed nets n)

-- a net in the first of the empty places
set_followed : (nets : List ℕ) (n : ℕ) (net : ℕ) → set (followed nets (suc n)) (length nets) (Some net) ≡ followed (nets ++ net ∷ []) n
unfolding followed
set_followed [] n net = refl
set_followed (x ∷ nets) n net = ap (λ t. Some x ∷ t) (set_followed nets n net)

-- the nets that stand in the row are the first of the places
pub shown_at : (places : List (Option ℕ)) (i : ℕ) (d : Option ℕ) (net : ℕ) → i < length (nets_in places) → get_or places i d ≡ Some net → slice_get (nets_in places) i ≡ Some net
shown_at [] i d net h e = absurd (omega arith)
shown_at (None ∷ places) i d net h e = absurd (omega arith)
shown_at (Some x ∷ places) zero d net h e = e
shown_at (Some x ∷ places) (suc i) d net h e = shown_at places i d net (omega arith) e

-- and none of these is empty
pub shown_is_some : (places : List (Option ℕ)) (i : ℕ) (d : Option ℕ) → i < length (nets_in places) → get_or places i d ≡ None → ⊥
shown_is_some [] i d h e = omega arith
shown_is_some (None ∷ places) i d h e = omega arith
shown_is_some (Some x ∷ places) zero d h e = cc
shown_is_some (Some x ∷ places) (suc i) d h e = shown_is_some places i d (omega arith) e

-- a row with one net more in its first empty place
set_row : (places : List (Option ℕ)) (len : ℕ) (net : ℕ) → IsRow places len → len < MOST_PINS → set places len (Some net) ≡ filled (nets_in places ++ net ∷ [])
unfolding followed
set_row places len net h k =
    let n : ℕ = MOST_PINS - length (nets_in places) - 1 in
    let room : MOST_PINS - length (nets_in places) ≡ suc n = omega (arith, h.count) in
    let split : places ≡ followed (nets_in places) (suc n) = sym h.same ∙ ap (followed (nets_in places)) room in
    let left : MOST_PINS - length (nets_in places ++ net ∷ []) ≡ n = omega (arith, length-append (nets_in places) (net ∷ [])) in
    ap (λ p. set p len (Some net)) split ∙ (ap (λ i. set (followed (nets_in places) (suc n)) i (Some net)) (sym h.count)
    ∙ (set_followed (nets_in places) n net ∙ ap (followed (nets_in places ++ net ∷ [])) (sym left)))

shown_filled : (nets : List ℕ) → nets_in (filled nets) ≡ nets
unfolding followed
shown_filled nets = shown_followed nets (MOST_PINS - length nets)

-- what it shows
pub shown_set : (places : List (Option ℕ)) (len : ℕ) (net : ℕ) → IsRow places len → len < MOST_PINS → nets_in (set places len (Some net)) ≡ nets_in places ++ net ∷ []
shown_set places len net h k = ap nets_in (set_row places len net h k) ∙ shown_filled (nets_in places ++ net ∷ [])

-- it is a row again
pub set_is_row : (places : List (Option ℕ)) (len : ℕ) (net : ℕ) → IsRow places len → len < MOST_PINS → IsRow (set places len (Some net)) (len + 1)
set_is_row places len net h k = let shows = shown_set places len net h k in record {
  size = length-set places len (Some net) ∙ h.size;
  within = omega arith;
  same = ap filled shows ∙ sym (set_row places len net h k);
  count = ap length shows ∙ (length-append (nets_in places) (net ∷ []) ∙ ap (λ n. n + 1) h.count);
}
