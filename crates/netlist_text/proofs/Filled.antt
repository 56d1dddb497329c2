-- Rows of names, with one name more.
use Rattle.std.proofs.Common.{◌≡◌, ℕ, zero, suc, ◌+◌, ◌-◌, ◌<◌, List, [], ◌∷◌, ◌++◌, length, map, get_or, replicate, slice_get, set, Option, Some, None, refl, sym, ◌∙◌, ap, arith, length-append, length-set}
use Rattle.circuit_model.specs.declared.limits.TheConstants.{MOST_PINS}
use Rattle.netlist_text.specs.Rows.{shown, filled, IsRow}

-- names with so many empty places after them
followed : List (List ℕ) → ℕ → List (Option (List ℕ))
followed names n = map Some names ++ replicate n None

shown_followed : (names : List (List ℕ)) (n : ℕ) → shown (followed names n) ≡ names
unfolding followed
shown_followed [] zero = refl
shown_followed [] (suc n) = refl
shown_followed (name ∷ names) n = ap (λ t. name ∷ t) (shown_followed names n)

-- a name in the first of the empty places
set_followed : (names : List (List ℕ)) (n : ℕ) (name : List ℕ) → set (followed names (suc n)) (length names) (Some name) ≡ followed (names ++ name ∷ []) n
unfolding followed
set_followed [] n name = refl
set_followed (x ∷ names) n name = ap (λ t. Some x ∷ t) (set_followed names n name)

-- the names that are shown are the first of the places
pub shown_at : (places : List (Option (List ℕ))) (i : ℕ) (d : Option (List ℕ)) (name : List ℕ) → i < length (shown places) → get_or places i d ≡ Some name → slice_get (shown places) i ≡ Some name
shown_at [] i d name h e = absurd (omega arith)
shown_at (None ∷ places) i d name h e = absurd (omega arith)
shown_at (Some x ∷ places) zero d name h e = e
shown_at (Some x ∷ places) (suc i) d name h e = shown_at places i d name (omega arith) e

-- and none of these is empty
pub shown_is_some : (places : List (Option (List ℕ))) (i : ℕ) (d : Option (List ℕ)) → i < length (shown places) → get_or places i d ≡ None → ⊥
shown_is_some [] i d h e = omega arith
shown_is_some (None ∷ places) i d h e = omega arith
shown_is_some (Some x ∷ places) zero d h e = cc
shown_is_some (Some x ∷ places) (suc i) d h e = shown_is_some places i d (omega arith) e

-- a row with one name more in its first empty place
set_row : (places : List (Option (List ℕ))) (len : ℕ) (name : List ℕ) → IsRow places len → len < MOST_PINS → set places len (Some name) ≡ filled (shown places ++ name ∷ [])
unfolding followed
set_row places len name h k =
    let n : ℕ = MOST_PINS - length (shown places) - 1 in
    let room : MOST_PINS - length (shown places) ≡ suc n = omega (arith, h.count) in
    let split : places ≡ followed (shown places) (suc n) = sym h.same ∙ ap (followed (shown places)) room in
    let left : MOST_PINS - length (shown places ++ name ∷ []) ≡ n = omega (arith, length-append (shown places) (name ∷ [])) in
    ap (λ p. set p len (Some name)) split ∙ (ap (λ i. set (followed (shown places) (suc n)) i (Some name)) (sym h.count)
    ∙ (set_followed (shown places) n name ∙ ap (followed (shown places ++ name ∷ [])) (sym left)))

shown_filled : (names : List (List ℕ)) → shown (filled names) ≡ names
unfolding followed
shown_filled names = shown_followed names (MOST_PINS - length names)

-- what it shows
pub shown_set : (places : List (Option (List ℕ))) (len : ℕ) (name : List ℕ) → IsRow places len → len < MOST_PINS → shown (set places len (Some name)) ≡ shown places ++ name ∷ []
shown_set places len name h k = ap shown (set_row places len name h k) ∙ shown_filled (shown places ++ name ∷ [])

-- it is a row again
pub set_is_row : (places : List (Option (List ℕ))) (len : ℕ) (name : List ℕ) → IsRow places len → len < MOST_PINS → IsRow (set places len (Some name)) (len + 1)
set_is_row places len name h k = let shows = shown_set places len name h k in record {
  size = length-set places len (Some name) ∙ h.size;
  within = omega arith;
  same = ap filled shows ∙ sym (set_row places len name h k);
  count = ap length shows ∙ (length-append (shown places) (name ∷ []) ∙ ap (λ n. n + 1) h.count);
}
