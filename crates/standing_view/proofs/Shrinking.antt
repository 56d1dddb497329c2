-- What stands, with one component or one measurement less.
use Rattle.std.proofs.Common.{◌≡◌, ◌≢◌, ℕ, zero, suc, not, ◌+◌, ◌-◌, ◌<◌, ◌≤◌, ◌⊎◌, inl, inr, IsTrue, List, [], ◌∷◌, ◌++◌, length, map, take, drop, Option, Some, IsSome, refl, sym, ap, ap₂, subst, ◌∙◌, append-nil, add-one, arith}
use Rattle.std.specs.List.{remove, slice_get}
use Rattle.std.proofs.lemmas.Bool.{and_from, and_parts, both_ways, not-true, not_from_false, false_from_ne_true, eqb-true, eq-eqb}
use Rattle.std.proofs.lemmas.List.{take-map, length-map, length-take-le, take-append-drop, take_at, drop_at, drop_all, take_more}
use Rattle.std.proofs.lemmas.Option.{slice_get_within, get_or_from_slice_get}
use Rattle.std.proofs.lemmas.List.Edits.{length-remove, remove-append_left, remove-append_right}
use Rattle.circuit_model.specs.declared.model.Cell.{Cell}
use Rattle.circuit_model.specs.declared.model.Fact.{Fact}
use Rattle.circuit_model.specs.declared.model.Assumption.{Assumption}
use Rattle.circuit_model.specs.declared.model.Assumption.TheVariants.{Part, Reading}
use Rattle.circuit_model.specs.declared.present.Component.{Component}
use Rattle.circuit_model.specs.Present.{PresentView, is_cell_before, without_last_part}
use Rattle.circuit_model.specs.Stock.{Stock}
use Rattle.circuit_model.proofs.Settled.{same_set}
use Rattle.circuit_model.proofs.Presents.{IsIn-front_remove, slice_get-append_left}
use Rattle.environment_sets.specs.declared.environment.TheConstants.{SLOTS}
use Rattle.environment_sets.specs.Lists.{IsIn, AreDistinct}
use Rattle.environment_sets.specs.Orders.{IsOrder}
use Rattle.environment_sets.specs.Sets.{only, ◌∖◌}
use Rattle.environment_sets.proofs.Membership.{IsIn-left, IsIn-right, IsIn-slice_get, map_alike, one_place}
use Rattle.environment_sets.proofs.Listings.{IsIn-front, IsIn-push}
use Rattle.label_engine.specs.Engine.{Forgets}
use Rattle.standing_view.specs.Standing.{Stands, IsStanding, order_of, parts_of, readings_of, is_among, without_last_part_at, without_reading_at}
use Rattle.standing_view.specs.View.{StandsFor, IsParked, IsReadingOf}
use Rattle.standing_view.specs.Laws.{TheLastComponentIsForgotten}
use Rattle.standing_view.proofs.Growing.{some_is_not_none}
use Rattle.standing_view.proofs.Kept.{stands}
use Rattle.standing_view.proofs.Parked.{none_is_not_some, remembered_before}
use Rattle.standing_view.proofs.Places.{among_listed, listed_among}
use Rattle.standing_view.proofs.Removed.{rising_removed, order_removed, this_or_removed, not_in_removed}

module _ {X : Type 0} where
  -- the last element taken away
  last_removed : (xs : List X) (n : ℕ) → length xs ≡ n + 1 → remove xs n ≡ take n xs
  last_removed xs n long = ap (λ (ys : List X). take n xs ++ ys) (drop_all (suc n) xs (omega (arith, long))) ∙ append-nil (take n xs)

  take_more_at : (xs : List X) (n : ℕ) (z : X) → slice_get xs n ≡ Some z → take (n + 1) xs ≡ take n xs ++ z ∷ []
  take_more_at xs n z at = let low : n < length xs = slice_get_within xs n z at in take_more xs n z low ∙ ap (λ (x : X). take n xs ++ x ∷ []) (get_or_from_slice_get xs n z z at)

-- without the last of the first list
module _ (xs ys : List ℕ) (n slot : ℕ) (long : length xs ≡ n + 1) where
  pub shorter : take n xs ++ ys ≡ remove (xs ++ ys) n
  shorter = sym (remove-append_left xs ys n (omega (arith, long)) ∙ ap (λ (zs : List ℕ). zs ++ ys) (last_removed xs n long))

  module _ (at : slice_get (xs ++ ys) n ≡ Some slot) where
    pub order_shorter : (b : ℕ) → IsOrder b (xs ++ ys) → IsOrder b (take n xs ++ ys)
    order_shorter b o = subst (λ (zs : List ℕ). IsOrder b zs) (sym shorter) (order_removed b [] (xs ++ ys) n o)

    pub in_longer : (k : ℕ) → IsIn (take n xs ++ ys) k → IsIn (xs ++ ys) k
    in_longer k h = IsIn-front_remove [] (xs ++ ys) n k (subst (λ (zs : List ℕ). IsIn zs k) shorter h)

    pub this_or_shorter : (k : ℕ) → IsIn (xs ++ ys) k → (slot ≡ k) ⊎ IsIn (take n xs ++ ys) k
    this_or_shorter k h = elim (this_or_removed [] (xs ++ ys) n slot k at h) [ inl e ↦ inl e | inr l ↦ inr (subst (λ (zs : List ℕ). IsIn zs k) (sym shorter) l) ]

    pub not_in_shorter : AreDistinct (xs ++ ys) → IsIn (take n xs ++ ys) slot → ⊥
    not_in_shorter apart h = not_in_removed [] (xs ++ ys) n slot apart at (subst (λ (zs : List ℕ). IsIn zs slot) shorter h)

-- a list with what another has, without one number
among_less : (xs ys : List ℕ) (z : ℕ) → (IsIn ys z → ⊥) → ((k : ℕ) → IsIn ys k → IsIn xs k) → ((k : ℕ) → IsIn xs k → (z ≡ k) ⊎ IsIn ys k) → is_among xs ∖ only z ≡ is_among ys
among_less xs ys z out kept from = same_set (is_among xs ∖ only z) (is_among ys) to back
  where
    to : (k : ℕ) → IsTrue ((is_among xs ∖ only z) k) → IsTrue (is_among ys k)
    to k h =
        let parts : IsTrue (is_among xs k) × IsTrue (not (only z k)) = and_parts (is_among xs k) (not (only z k)) h in
        elim (from k (among_listed xs k parts.0)) [
          | inl e ↦ absurd (both_ways (only z k) (not-true (only z k) parts.1) (let P : ℕ → Type 0 = λ j. IsTrue (only z j) in subst P e (eq-eqb z z refl)))
          | inr l ↦ listed_among ys k l
        ]

    back : (k : ℕ) → IsTrue (is_among ys k) → IsTrue ((is_among xs ∖ only z) k)
    back k h =
        let l : IsIn ys k = among_listed ys k h in
        and_from (is_among xs k) (not (only z k)) (listed_among xs k (kept k l))
        (not_from_false (only z k) (false_from_ne_true (only z k) (λ is. out (let P : ℕ → Type 0 = λ j. IsIn ys j in subst P (eqb-true k z is) l))))

-- the second of two lists is distinct where both are
right_distinct : (xs ys : List ℕ) → AreDistinct (xs ++ ys) → AreDistinct ys
right_distinct [] ys d = d
right_distinct (x ∷ xs) ys d = right_distinct xs ys d.1

-- the last component stands no more
module _ (order after : List ℕ) (cells : List Cell) (n slot : ℕ) (low : n + 1 ≤ length order) (at : slice_get order n ≡ Some slot) (after_is : after ≡ remove order n) where
  abbrev Last : ℕ
  Last = length (take (n + 1) order) - 1

  last_is : n ≡ Last
  last_is = let long : length (take (n + 1) order) ≡ n + 1 = length-take-le (n + 1) order low in omega arith

  abbrev Before : Stands
  Before = stands (take (n + 1) order) cells (drop (n + 1) order)

  long_parts : length (take (n + 1) order) ≡ n + 1
  long_parts = length-take-le (n + 1) order low

  taken_front : take n (take (n + 1) order) ≡ take n order
  taken_front = ap (λ (xs : List ℕ). take n xs) (take_more_at order n slot at) ∙ take_at (take n order) (slot ∷ []) n (length-take-le n order (omega (arith, low)))

  order_before : take (n + 1) order ++ drop (n + 1) order ≡ order
  order_before = take-append-drop (n + 1) order

  after_pieces : after ≡ take n order ++ drop (n + 1) order
  after_pieces = after_is ∙ ap (λ (i : ℕ). take n order ++ drop i order) (sym (add-one n))

  pub part_dropped : stands (take n after) cells (drop n after) ≡ without_last_part_at Before
  part_dropped =
      let short : length (take n order) ≡ n = length-take-le n order (omega (arith, low)) in
      ap₂ (λ (parts slots : List ℕ). stands parts cells slots)
      (ap (λ (xs : List ℕ). take n xs) after_pieces ∙ (take_at (take n order) (drop (n + 1) order) n short ∙ (sym taken_front ∙ ap (λ (i : ℕ). take i (take (n + 1) order)) (omega (arith, long_parts)))))
      (ap (λ (xs : List ℕ). drop n xs) after_pieces ∙ drop_at (take n order) (drop (n + 1) order) n short)

  long_last : length (take (n + 1) order) ≡ Last + 1
  long_last = let long : length (take (n + 1) order) ≡ n + 1 = length-take-le (n + 1) order low in omega arith

  pub part_out : IsStanding Before → parts_of Before ∖ only slot ≡ parts_of (without_last_part_at Before)
  part_out h =
      let parts : List ℕ = take (n + 1) order in
      let slots : List ℕ = drop (n + 1) order in
      let front : List ℕ = take n order in
      let there : slice_get (parts ++ slots) Last ≡ Some slot = ap (λ (xs : List ℕ). slice_get xs Last) order_before ∙ (ap (λ (i : ℕ). slice_get order i) (sym last_is) ∙ at) in
      let pushed : parts ≡ front ++ slot ∷ [] = take_more_at order n slot at in
      let left : take Last parts ≡ front = ap (λ (i : ℕ). take i parts) (sym last_is) ∙ taken_front in
      ap (λ (xs : List ℕ). is_among xs ∖ only slot) pushed
      ∙ (among_less (front ++ slot ∷ []) front slot
      (λ l. not_in_shorter parts slots Last slot long_last there h.order.distinct (IsIn-left (take Last parts) slots slot (subst (λ (xs : List ℕ). IsIn xs slot) (sym left) l)))
      (λ k l. IsIn-front front slot k l)
      (λ k l. elim (IsIn-push front slot k l) as (λ _. (slot ≡ k) ⊎ IsIn front k) [ inl old ↦ inr old | inr new ↦ inl new ])
      ∙ ap (λ (xs : List ℕ). is_among xs) (sym left))

  pub part_stands_no_more : IsStanding Before → IsStanding (without_last_part_at Before)
  part_stands_no_more h =
      let parts : List ℕ = take (n + 1) order in
      let slots : List ℕ = drop (n + 1) order in
      let there : slice_get (parts ++ slots) Last ≡ Some slot = ap (λ (xs : List ℕ). slice_get xs Last) order_before ∙ (ap (λ (i : ℕ). slice_get order i) (sym last_is) ∙ at) in
      let short : length (take Last parts) ≡ Last = length-take-le Last parts (omega (arith, long_last)) in
      record {
        as_many = h.as_many;
        order = order_shorter parts slots Last slot long_last there SLOTS h.order;
        rising = h.rising;
        parts = omega (arith, h.parts, short, long_last);
        readings = h.readings;
      }

-- the measurement at the place stands no more
module _ (order after : List ℕ) (cells later : List Cell) (n place slot : ℕ) (low : n ≤ length order) (at : slice_get (drop n order) place ≡ Some slot) (after_is : after ≡ remove order (n + place)) (later_is : later ≡ remove cells place) where
  abbrev Standing : Stands
  Standing = stands (take n order) cells (drop n order)

  pub reading_dropped : stands (take n after) later (drop n after) ≡ without_reading_at place Standing
  reading_dropped =
      let short : length (take n order) ≡ n = length-take-le n order low in
      let at_place : (n + place) - n ≡ place = omega arith in
      let pieces : after ≡ take n order ++ remove (drop n order) place =
      after_is
      ∙ (ap (λ (xs : List ℕ). remove xs (n + place)) (sym (take-append-drop n order))
      ∙ (remove-append_right (take n order) (drop n order) n (n + place) short (omega arith) ∙ ap (λ (j : ℕ). take n order ++ remove (drop n order) j) at_place)) in
      ap (λ (ds : List Cell). stands (take n after) ds (drop n after)) later_is
      ∙ ap₂ (λ (parts slots : List ℕ). stands parts (remove cells place) slots)
      (ap (λ (xs : List ℕ). take n xs) pieces ∙ take_at (take n order) (remove (drop n order) place) n short)
      (ap (λ (xs : List ℕ). drop n xs) pieces ∙ drop_at (take n order) (remove (drop n order) place) n short)

  pub reading_out : IsStanding Standing → readings_of Standing ∖ only slot ≡ readings_of (without_reading_at place Standing)
  reading_out h =
      among_less (drop n order) (remove (drop n order) place) slot
      (not_in_removed [] (drop n order) place slot (right_distinct (take n order) (drop n order) h.order.distinct) at)
      (λ k l. IsIn-front_remove [] (drop n order) place k l) (λ k l. this_or_removed [] (drop n order) place slot k at l)

  pub reading_stands_no_more : IsStanding Standing → IsStanding (without_reading_at place Standing)
  reading_stands_no_more h =
      let low_slot : place < length (drop n order) = slice_get_within (drop n order) place slot at in
      let slots : length (remove (drop n order) place) + 1 ≡ length (drop n order) = length-remove (drop n order) place low_slot in
      let fewer : length (remove cells place) + 1 ≡ length cells = length-remove cells place (omega (arith, h.as_many)) in
      record {
        as_many = omega (arith, h.as_many);
        order = order_removed SLOTS (take n order) (drop n order) place h.order;
        rising = rising_removed (λ c d. IsTrue (is_cell_before c d)) cells place h.rising;
        parts = h.parts;
        readings = omega (arith, h.readings);
      }

pub one_reading_place : (st : Stands) → IsStanding st → (i j slot : ℕ) → slice_get st.slots i ≡ Some slot → slice_get st.slots j ≡ Some slot → i ≡ j
one_reading_place st h i j slot a b = one_place st.slots i j slot (right_distinct st.parts st.slots h.order.distinct) a b

module _ (S R : Stock ℕ) (st : Stands) (P : PresentView) (parked : List Fact) (slot : ℕ) (what : Assumption) (r : StandsFor S st P parked) (at : slice_get st.parts (length st.parts - 1) ≡ Some slot) (m : Forgets S slot what R) where
  abbrev n : ℕ
  n = length st.parts - 1

  long : length st.parts ≡ n + 1
  long = let low : n < length st.parts = slice_get_within st.parts n slot at in omega arith

  same_n : n ≡ length P.parts - 1
  same_n = let same : length st.parts ≡ length P.parts = sym (length-map st.parts S) ∙ (ap (λ (xs : List (Option Assumption)). length xs) r.components ∙ length-map P.parts (λ (c : Component). Some (Part c.part))) in omega arith

  there : slice_get (order_of st) n ≡ Some slot
  there = slice_get-append_left st.parts st.slots n slot at

  abbrev Less : Stands
  Less = without_last_part_at st

  as_before : (k : ℕ) → IsIn (order_of Less) k → R k ≡ S k
  as_before k h = m.others k (λ e. not_in_shorter st.parts st.slots n slot long there r.order.distinct (subst (λ (j : ℕ). IsIn (order_of Less) j) e h))

  stands_there : IsIn (order_of st) slot
  stands_there = IsIn-slice_get (order_of st) n slot there

  each_parked : (g : Fact) → IsIn parked g → IsParked R Less g
  each_parked g l =
      let p : IsParked S st g = r.each_parked g l in
      let ne : p.slot ≢ slot = λ e. p.apart (subst (λ (j : ℕ). IsIn (order_of st) j) (sym e) stands_there) in
      record { slot = p.slot; below = p.below; remembered = m.others p.slot ne ∙ p.remembered; apart = λ h. p.apart (in_longer st.parts st.slots n slot long there p.slot h) }

  all : (k : ℕ) → IsSome (R k) → IsIn (order_of Less) k ⊎ IsReadingOf R parked k
  all k some =
      let ne : k ≢ slot = λ e. none_is_not_some (R k) (ap R e ∙ m.free) some in
      elim (r.all k (subst (λ (o : Option Assumption). IsSome o) (m.others k ne) some)) as (λ _. IsIn (order_of Less) k ⊎ IsReadingOf R parked k) [
        | inl l ↦ elim (this_or_shorter st.parts st.slots n slot long there k l) as (λ _. IsIn (order_of Less) k ⊎ IsReadingOf R parked k) [ inl e ↦ absurd (ne (sym e)) | inr h ↦ inl h ]
        | inr p ↦ inr (record { reading = p.reading; listed = p.listed; remembered = m.others k ne ∙ p.remembered })
      ]

  last_is_forgotten : StandsFor R (without_last_part_at st) (without_last_part P) parked
  last_is_forgotten =
      let v : Component → Option Assumption = λ c. Some (Part c.part) in
      record {
        components =
            map_alike R S (take n st.parts) (λ k h. as_before k (IsIn-left (take n st.parts) st.slots k h))
            ∙ (sym (take-map S n st.parts) ∙ (ap (λ (xs : List (Option Assumption)). take n xs) r.components ∙ (take-map v n P.parts ∙ ap (λ (i : ℕ). map v (take i P.parts)) same_n)));
        measured = r.measured;
        measurements = map_alike R S st.slots (λ k h. as_before k (IsIn-right (take n st.parts) st.slots k h)) ∙ r.measurements;
        order = order_shorter st.parts st.slots n slot long there SLOTS r.order;
        rising = r.rising;
        each_parked = each_parked;
        once = λ k l g a b. r.once k l g (remembered_before S R slot what m k (Reading g) a).1 (remembered_before S R slot what m l (Reading g) b).1;
        all = all;
      }

pub the_last_component_is_forgotten : TheLastComponentIsForgotten
the_last_component_is_forgotten S R st P parked slot what r at m = last_is_forgotten S R st P parked slot what r at m
