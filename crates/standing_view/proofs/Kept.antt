-- What a further slot keeps of what stands.
use Rattle.std.proofs.Common.{◌≡◌, ℕ, ◌+◌, ◌-◌, ◌<◌, ◌≤◌, List, [], ◌∷◌, ◌++◌, length, take, drop, sym, ap, ap₂, ◌∙◌, arith}
use Rattle.std.specs.List.{insert}
use Rattle.std.proofs.lemmas.List.{append_assoc, length_push, length-take-le, take-append-drop, take_at, drop_at}
use Rattle.std.proofs.lemmas.List.Edits.{insert-append_right, length-insert}
use Rattle.circuit_model.specs.declared.model.Cell.{Cell}
use Rattle.circuit_model.specs.declared.limits.TheConstants.{MOST_PARTS, MOST_READINGS}
use Rattle.environment_sets.specs.declared.environment.TheConstants.{SLOTS}
use Rattle.environment_sets.specs.Lists.{IsIn}
use Rattle.standing_view.specs.Standing.{Stands, IsStanding, order_of, place_among, with_part_at, with_reading_at}
use Rattle.standing_view.proofs.Inserted.{order_more, order_inserted, rising_inserted}

module _ {X : Type 0} (order : List X) (n : ℕ) (low : n ≤ length order) (slot : X) where
  -- a slot after the first n
  pub take-put : take (n + 1) (insert order n slot) ≡ take n order ++ slot ∷ []
  take-put =
      let front : List X = take n order ++ slot ∷ [] in
      let long : length front ≡ n + 1 = length_push (take n order) slot ∙ ap (λ (m : ℕ). m + 1) (length-take-le n order low) in
      ap (λ (xs : List X). take (n + 1) xs) (sym (append_assoc (take n order) (slot ∷ []) (drop n order))) ∙ take_at front (drop n order) (n + 1) long

  pub drop-put : drop (n + 1) (insert order n slot) ≡ drop n order
  drop-put =
      let front : List X = take n order ++ slot ∷ [] in
      let long : length front ≡ n + 1 = length_push (take n order) slot ∙ ap (λ (m : ℕ). m + 1) (length-take-le n order low) in
      ap (λ (xs : List X). drop (n + 1) xs) (sym (append_assoc (take n order) (slot ∷ []) (drop n order))) ∙ drop_at front (drop n order) (n + 1) long

  module _ (i : ℕ) where
    -- a slot among those after the first n
    put_after : insert order (n + i) slot ≡ take n order ++ insert (drop n order) i slot
    put_after =
        let at : (n + i) - n ≡ i = omega arith in
        ap (λ (xs : List X). insert xs (n + i) slot) (sym (take-append-drop n order))
        ∙ (insert-append_right (take n order) (drop n order) n (n + i) slot (length-take-le n order low) (omega arith) ∙ ap (λ (j : ℕ). take n order ++ insert (drop n order) j slot) at)

    pub take-put_after : take n (insert order (n + i) slot) ≡ take n order
    take-put_after = ap (λ (xs : List X). take n xs) put_after ∙ take_at (take n order) (insert (drop n order) i slot) n (length-take-le n order low)

    pub drop-put_after : drop n (insert order (n + i) slot) ≡ insert (drop n order) i slot
    drop-put_after = ap (λ (xs : List X). drop n xs) put_after ∙ drop_at (take n order) (insert (drop n order) i slot) n (length-take-le n order low)

pub place-within : (c : Cell) (cells : List Cell) → place_among c cells ≤ length cells
place-within c [] = omega arith
place-within c (d ∷ cells) = grind (arith, place-within c cells)

module _ (st : Stands) (h : IsStanding st) (slot : ℕ) (low : slot < SLOTS) (free : IsIn (order_of st) slot → ⊥) where
  pub part_stands : length st.parts < MOST_PARTS → IsStanding (with_part_at slot st)
  part_stands room = record {
    as_many = h.as_many;
    order = order_more SLOTS st.parts st.slots slot h.order low free;
    rising = h.rising;
    parts = let more : length (st.parts ++ slot ∷ []) ≡ length st.parts + 1 = length_push st.parts slot in omega arith;
    readings = h.readings;
  }

  pub reading_stands : (c : Cell) → (IsIn st.cells c → ⊥) → length st.cells < MOST_READINGS → IsStanding (with_reading_at slot c st)
  reading_stands c new room =
      let place : ℕ = place_among c st.cells in
      let within : place ≤ length st.cells = place-within c st.cells in
      let slots : length (insert st.slots place slot) ≡ length st.slots + 1 = length-insert st.slots place slot (omega (arith, h.as_many)) in
      let cells : length (insert st.cells place c) ≡ length st.cells + 1 = length-insert st.cells place c within in
      record {
        as_many = omega (arith, h.as_many);
        order = order_inserted SLOTS st.parts st.slots place slot h.order low free;
        rising = rising_inserted c st.cells new h.rising;
        parts = h.parts;
        readings = omega arith;
      }

-- what stands, by its lists
abbrev pub stands : List ℕ → List Cell → List ℕ → Stands
stands parts cells slots = record { parts = parts; cells = cells; slots = slots }

module _ (order after : List ℕ) (cells : List Cell) (n : ℕ) (low : n ≤ length order) (slot : ℕ) where
  pub part_put : after ≡ insert order n slot → stands (take (n + 1) after) cells (drop (n + 1) after) ≡ with_part_at slot (stands (take n order) cells (drop n order))
  part_put e =
      ap₂ (λ (parts slots : List ℕ). stands parts cells slots) (ap (λ (xs : List ℕ). take (n + 1) xs) e ∙ take-put order n low slot) (ap (λ (xs : List ℕ). drop (n + 1) xs) e ∙ drop-put order n low slot)

  module _ (later : List Cell) (c : Cell) where
    pub reading_put :
        after ≡ insert order (n + place_among c cells) slot → later ≡ insert cells (place_among c cells) c
        → stands (take n after) later (drop n after) ≡ with_reading_at slot c (stands (take n order) cells (drop n order))
    reading_put e f =
        let place : ℕ = place_among c cells in
        ap (λ (ds : List Cell). stands (take n after) ds (drop n after)) f
        ∙ ap₂ (λ (parts slots : List ℕ). stands parts (insert cells place c) slots) (ap (λ (xs : List ℕ). take n xs) e ∙ take-put_after order n low slot place) (ap (λ (xs : List ℕ). drop n xs) e ∙ drop-put_after order n low slot place)
