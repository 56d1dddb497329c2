-- A slot is free.
use Rattle.std.proofs.Common.{◌≡◌, ◌≢◌, ℕ, zero, suc, ◌+◌, ◌<◌, ◌≤◌, ◌==◌, inl, inr, Bool, true, false, cond, IsTrue, List, [], ◌∷◌, ◌++◌, length, Some, refl, sym, ap, ap₂, subst, ◌∙◌, arith, lit<}
use Rattle.std.proofs.lemmas.Bool.{cases_eq}
use Rattle.std.proofs.lemmas.Bool.Decides.{nat_tests}
use Rattle.std.proofs.lemmas.List.{length-append, length-map}
use Rattle.circuit_model.specs.declared.limits.TheConstants.{MOST_PARTS, MOST_READINGS, MOST_EARLIER}
use Rattle.circuit_model.specs.declared.model.Assumption.TheVariants.{Reading}
use Rattle.circuit_model.specs.declared.model.Cell.{Cell}
use Rattle.circuit_model.specs.declared.model.Fact.{Fact}
use Rattle.circuit_model.specs.Stock.{Stock}
use Rattle.environment_sets.specs.declared.environment.TheConstants.{SLOTS}
use Rattle.environment_sets.specs.Sets.{Set, size_below}
use Rattle.environment_sets.specs.Lists.{IsIn}
use Rattle.environment_sets.proofs.Membership.{IsIn-left, IsIn-right}
use Rattle.environment_sets.proofs.Sizes.{size_below-more, size_below-none, size_below-zero}
use Rattle.standing_view.specs.Standing.{Stands, order_of, is_among}
use Rattle.standing_view.specs.View.{IsParked}
use Rattle.standing_view.specs.Laws.{SomeSlotIsFree}
use Rattle.standing_view.proofs.Named.{as_many_parts, as_many_slots}
use Rattle.standing_view.proofs.Places.{listed_among}

-- what a number adds to the count of a set, by whether the set has it
abbrev count_of : Bool → ℕ
count_of b = cond b 1 0

at_most_one : (b : Bool) → count_of b ≤ 1
at_most_one true = omega arith
at_most_one false = omega arith

-- a set that has each number below n has n of them
full : (n : ℕ) (E : Set ℕ) → ((k : ℕ) → k < n → IsTrue (E k)) → size_below n E ≡ n
full zero E all = size_below-zero E
full (suc n) E all =
    let before : size_below n E ≡ n = full n E (λ k low. all k (omega arith)) in
    let here : count_of (E n) ≡ 1 = ap count_of (all n (omega arith)) in
    let one : suc n ≡ n + 1 = omega arith in
    ap (λ (m : ℕ). size_below m E) one ∙ (size_below-more n E ∙ (ap₂ (λ (a b : ℕ). a + b) before here ∙ sym one))

module _ (E F : Set ℕ) (x : ℕ) (same : (k : ℕ) → k ≢ x → F k ≡ E k) where
  -- sets that differ at one number alone, below it
  as_many : (n : ℕ) → n ≤ x → size_below n F ≡ size_below n E
  as_many zero low = size_below-zero F ∙ sym (size_below-zero E)
  as_many (suc n) low =
      let one : suc n ≡ n + 1 = omega arith in
      let before : size_below n F ≡ size_below n E = as_many n (omega arith) in
      let ne : n ≢ x = omega arith in
      let here : count_of (F n) ≡ count_of (E n) = ap count_of (same n ne) in
      ap (λ (m : ℕ). size_below m F) one ∙ (size_below-more n F ∙ (ap₂ (λ (a b : ℕ). a + b) before here ∙ (sym (size_below-more n E) ∙ ap (λ (m : ℕ). size_below m E) (sym one))))

  -- and above it one has at most one number more
  one_more : (n : ℕ) → size_below n F ≤ size_below n E + 1
  one_more zero = let a : size_below 0 F ≡ 0 = size_below-zero F in omega arith
  one_more (suc n) =
      let one : suc n ≡ n + 1 = omega arith in
      let larger : size_below (n + 1) F ≡ size_below n F + count_of (F n) = size_below-more n F in
      let large : size_below (n + 1) E ≡ size_below n E + count_of (E n) = size_below-more n E in
      let at : size_below (n + 1) F ≤ size_below (n + 1) E + 1 = elim (cases_eq n x) as (λ _. size_below (n + 1) F ≤ size_below (n + 1) E + 1) [
        | inl e ↦ let before : size_below n F ≡ size_below n E = as_many n (omega arith) in let few : count_of (F n) ≤ 1 = at_most_one (F n) in omega arith
        | inr ne ↦ let before : size_below n F ≤ size_below n E + 1 = one_more n in let here : count_of (F n) ≡ count_of (E n) = ap count_of (same n ne) in omega arith
      ] in
      subst (λ (m : ℕ). size_below m F ≤ size_below m E + 1) (sym one) at

-- a list has no more numbers below n than it is long
few_listed : (n : ℕ) (xs : List ℕ) → size_below n (is_among xs) ≤ length xs
few_listed n [] = let none : size_below n (is_among []) ≡ 0 = size_below-none n (is_among []) (λ k _. refl) in omega arith
few_listed n (x ∷ xs) =
    let before : size_below n (is_among xs) ≤ length xs = few_listed n xs in
    let more : size_below n (is_among (x ∷ xs)) ≤ size_below n (is_among xs) + 1 = one_more (is_among xs) (is_among (x ∷ xs)) x (λ k ne. other k ne) n in
    omega arith
  where
    other : (k : ℕ) → k ≢ x → is_among (x ∷ xs) k ≡ is_among xs k
    other k ne = let no : (k == x) ≡ false = grind (arith, nat_tests) in rw no refl

-- a list that has each number below n is no shorter
long_enough : (n : ℕ) (xs : List ℕ) → ((k : ℕ) → k < n → IsIn xs k) → n ≤ length xs
long_enough n xs all =
    let size : size_below n (is_among xs) ≡ n = full n (is_among xs) (λ k low. listed_among xs k (all k low)) in
    let few : size_below n (is_among xs) ≤ length xs = few_listed n xs in
    omega arith

-- the slots of the parked readings
module _ (S : Stock ℕ) (st : Stands) where
  slots_of : (fs : List Fact) → ((f : Fact) → IsIn fs f → IsParked S st f) → List ℕ
  slots_of [] each = []
  slots_of (f ∷ fs) each = (each f (inl refl)).slot ∷ slots_of fs (λ g h. each g (inr h))

  length-slots_of : (fs : List Fact) (each : (f : Fact) → IsIn fs f → IsParked S st f) → length (slots_of fs each) ≡ length fs
  unfolding slots_of
  length-slots_of [] each = refl
  length-slots_of (f ∷ fs) each = let rest : length (slots_of fs (λ g h. each g (inr h))) ≡ length fs = length-slots_of fs (λ g h. each g (inr h)) in ap suc rest

  in_slots_of : (fs : List Fact) (each : (f : Fact) → IsIn fs f → IsParked S st f) (once : (k l : ℕ) (f : Fact) → S k ≡ Some (Reading f) → S l ≡ Some (Reading f) → k ≡ l) (k : ℕ) (f : Fact)
      → IsIn fs f → S k ≡ Some (Reading f) → IsIn (slots_of fs each) k
  unfolding slots_of
  in_slots_of [] each once k f h at = absurd h
  in_slots_of (g ∷ fs) each once k f (inl e) at =
      let p : IsParked S st g = each g (inl refl) in
      inl (once p.slot k f (p.remembered ∙ ap (λ (f : Fact). Some (Reading f)) e) at)
  in_slots_of (g ∷ fs) each once k f (inr h) at = inr (in_slots_of fs (λ g h. each g (inr h)) once k f h at)

-- the limits leave a slot
limits_are_below : MOST_PARTS + MOST_READINGS + MOST_EARLIER < SLOTS
limits_are_below = lit< tt

pub some_slot_is_free : SomeSlotIsFree
some_slot_is_free S st P parked r lawful few taken =
    let aside : List ℕ = slots_of S st parked r.each_parked in
    let many : SLOTS ≤ length (order_of st ++ aside) = long_enough SLOTS (order_of st ++ aside) (λ k low. elim (r.all k (taken k low)) as (λ _. IsIn (order_of st ++ aside) k) [
      | inl l ↦ IsIn-left (order_of st) aside k l
      | inr p ↦ IsIn-right (order_of st) aside k (in_slots_of S st parked r.each_parked r.once k p.reading p.listed p.remembered)
    ]) in
    let parts : length st.parts ≡ length P.parts = as_many_parts S st P parked r in
    let slots : length st.slots ≡ length st.cells = as_many_slots S st P parked r in
    let cells : length st.cells ≡ length P.readings = ap (λ (cells : List Cell). length cells) r.measured ∙ length-map P.readings (λ (f : Fact). f.cell) in
    let standing : length (order_of st) ≡ length st.parts + length st.slots = length-append st.parts st.slots in
    let whole : length (order_of st ++ aside) ≡ length (order_of st) + length aside = length-append (order_of st) aside in
    let besides : length aside ≡ length parked = length-slots_of S st parked r.each_parked in
    none_left (length P.parts) (length P.readings) (length parked) (length (order_of st ++ aside)) (omega arith) many lawful.parts lawful.readings few
  where
    none_left : (p m e n : ℕ) → n ≡ p + m + e → SLOTS ≤ n → p ≤ MOST_PARTS → m ≤ MOST_READINGS → e ≤ MOST_EARLIER → ⊥
    none_left p m e n sum many few_parts few_readings few_earlier = let low : MOST_PARTS + MOST_READINGS + MOST_EARLIER < SLOTS = limits_are_below in omega arith
