-- One slot or one cell more.
use Rattle.std.proofs.Common.{◌≡◌, ℕ, suc, ◌<◌, ◌⊎◌, inl, inr, Bool, true, false, cond, List, [], ◌∷◌, ◌++◌, map, take, drop, Option, Some, None, IsTrue, refl, sym, ap, ap₂, subst, ◌∙◌}
use Rattle.std.specs.List.{insert}
use Rattle.std.proofs.lemmas.Bool.{cond_both}
use Rattle.std.proofs.lemmas.List.{append_assoc, map-append, take-map, drop-map, take-append-drop}
use Rattle.circuit_model.specs.declared.model.Cell.{Cell}
use Rattle.circuit_model.specs.declared.model.Fact.{Fact}
use Rattle.circuit_model.specs.Present.{is_cell, is_cell_before, reading_in, with_reading}
use Rattle.environment_sets.specs.Lists.{IsIn}
use Rattle.environment_sets.specs.Orders.{IsOrder}
use Rattle.environment_sets.proofs.Membership.{IsIn-more, IsIn-still, IsIn-there, AreDistinct-more}
use Rattle.standing_view.specs.Standing.{AreInOrder, place_among}
use Rattle.circuit_model.proofs.SameCells.{same_cell, cell_itself, comes_after, before_trans}

module _ {X : Type 0} where
  -- between the two pieces of the second list
  pub in_between : (xs ys : List X) (i : ℕ) (z : X) → xs ++ insert ys i z ≡ ((xs ++ take i ys) ++ z ∷ []) ++ drop i ys
  in_between xs ys i z = sym (append_assoc (xs ++ take i ys) (z ∷ []) (drop i ys) ∙ append_assoc xs (take i ys) (z ∷ drop i ys))

  pub pieces : (xs ys : List X) (i : ℕ) → xs ++ ys ≡ (xs ++ take i ys) ++ drop i ys
  pieces xs ys i = ap (λ zs. xs ++ zs) (sym (take-append-drop i ys)) ∙ sym (append_assoc xs (take i ys) (drop i ys))

module _ {X Y : Type 0} (f : X → Y) where
  pub map-insert : (xs : List X) (i : ℕ) (x : X) → map f (insert xs i x) ≡ insert (map f xs) i (f x)
  map-insert xs i x =
      map-append f (take i xs) (x ∷ drop i xs)
      ∙ ap₂ (λ (as' bs : List Y). as' ++ f x ∷ bs) (sym (take-map f i xs)) (sym (drop-map f i xs))

module _ (n : ℕ) where
  -- a new number is put at any place of an order
  pub order_more : (xs ys : List ℕ) (z : ℕ) → IsOrder n (xs ++ ys) → z < n → (IsIn (xs ++ ys) z → ⊥) → IsOrder n ((xs ++ z ∷ []) ++ ys)
  order_more xs ys z o low new = record {
    below = λ k h. elim (IsIn-more xs ys z k h) as (λ _. k < n) [ inl e ↦ subst (λ (j : ℕ). j < n) e low | inr h ↦ o.below k h ];
    distinct = AreDistinct-more xs ys z o.distinct new;
  }

  pub order_inserted : (xs ys : List ℕ) (i z : ℕ) → IsOrder n (xs ++ ys) → z < n → (IsIn (xs ++ ys) z → ⊥) → IsOrder n (xs ++ insert ys i z)
  order_inserted xs ys i z o low new =
      let same : xs ++ ys ≡ (xs ++ take i ys) ++ drop i ys = pieces xs ys i in
      let pieced : IsOrder n ((xs ++ take i ys) ++ drop i ys) = subst (λ (zs : List ℕ). IsOrder n zs) same o in
      subst (λ (zs : List ℕ). IsOrder n zs) (sym (in_between xs ys i z)) (order_more (xs ++ take i ys) (drop i ys) z pieced low (λ h. new (subst (λ (zs : List ℕ). IsIn zs z) (sym same) h)))

module _ {X : Type 0} (xs ys : List X) (i : ℕ) (z : X) where
  pub kept_inserted : (x : X) → IsIn (xs ++ ys) x → IsIn (xs ++ insert ys i z) x
  kept_inserted x h = subst (λ (zs : List X). IsIn zs x) (sym (in_between xs ys i z)) (IsIn-still (xs ++ take i ys) (drop i ys) z x (subst (λ (zs : List X). IsIn zs x) (pieces xs ys i) h))

  pub there_inserted : IsIn (xs ++ insert ys i z) z
  there_inserted = subst (λ (zs : List X). IsIn zs z) (sym (in_between xs ys i z)) (IsIn-there (xs ++ take i ys) (drop i ys) z)

  pub in_inserted : (x : X) → IsIn (xs ++ insert ys i z) x → (z ≡ x) ⊎ IsIn (xs ++ ys) x
  in_inserted x h =
      elim (IsIn-more (xs ++ take i ys) (drop i ys) z x (subst (λ (zs : List X). IsIn zs x) (in_between xs ys i z) h)) as (λ _. (z ≡ x) ⊎ IsIn (xs ++ ys) x) [
        | inl e ↦ inl e
        | inr l ↦ inr (subst (λ (zs : List X). IsIn zs x) (sym (pieces xs ys i)) l)
      ]

other_cell : (c d : Cell) → (d ≡ c → ⊥) → is_cell d c ≡ false
other_cell c d ne = elim (is_cell d c) as (λ b. is_cell d c ≡ b → is_cell d c ≡ false) [ true ↦ λ e. absurd (ne (same_cell d c e)) | false ↦ λ e. e ] refl

-- a cell that is not there keeps the order
pub rising_inserted : (c : Cell) (cells : List Cell) → (IsIn cells c → ⊥) → AreInOrder cells → AreInOrder (insert cells (place_among c cells) c)
rising_inserted c [] new h = ((λ y at. absurd at), tt)
rising_inserted c (d ∷ cells) new h =
    cond_both (is_cell_before c d) 0 (suc (place_among c cells)) (λ (i : ℕ). AreInOrder (insert (d ∷ cells) i c))
    (λ first. (
      (λ y at. elim at as (λ _. IsTrue (is_cell_before c y)) [
        | inl e ↦ subst (λ (z : Cell). IsTrue (is_cell_before c z)) e first
        | inr later ↦ before_trans c d y first (h.0 y later)
      ]),
      h,
    ))
    (λ second. (
      (λ y at. elim (in_inserted [] cells (place_among c cells) c y at) as (λ _. IsTrue (is_cell_before d y)) [
        | inl e ↦ subst (λ (z : Cell). IsTrue (is_cell_before d z)) e (comes_after c d (other_cell c d (λ e. new (inl e))) second)
        | inr later ↦ h.0 y later
      ]),
      rising_inserted c cells (λ at. new (inr at)) h.1,
    ))

-- a measurement more stands at its cell's place
pub reading_inserted : (f : Fact) (fs : List Fact) → with_reading f fs ≡ insert fs (place_among f.cell (map (λ f. f.cell) fs)) f
reading_inserted f [] = refl
reading_inserted f (g ∷ fs) =
    cond_both (is_cell_before f.cell g.cell) 0 (suc (place_among f.cell (map (λ f. f.cell) fs))) (λ (i : ℕ). with_reading f (g ∷ fs) ≡ insert (g ∷ fs) i f)
    (λ first. rw first refl)
    (λ second. rw second (ap (λ (hs : List Fact). g ∷ hs) (reading_inserted f fs)))

-- a cell without a word is not measured
pub not_measured : (fs : List Fact) (c : Cell) → reading_in fs c ≡ None → IsIn (map (λ f. f.cell) fs) c → ⊥
not_measured [] c free h = absurd h
not_measured (g ∷ fs) c free (inl e) =
    let here : is_cell g.cell c ≡ true = subst (λ (d : Cell). is_cell g.cell d ≡ true) e (cell_itself g.cell) in
    let some : reading_in (g ∷ fs) c ≡ Some g.value = rw here refl in
    cc
not_measured (g ∷ fs) c free (inr h) = not_measured fs c (later (is_cell g.cell c) g.value (reading_in fs c) free) h
  where
    later : (t : Bool) (v : ℕ) (o : Option ℕ) → cond t (Some v) o ≡ None → o ≡ None
    later true v o h = cc
    later false v o h = h
