-- Minimal hitting sets of the conflicts of a circuit are its diagnoses.
use Rattle.std.proofs.Common.{◌≡◌, ℕ, zero, suc, ◌+◌, ◌<◌, ◌≤◌, nat_lt, ◌⊎◌, inl, inr, ◌↔◌, IsTrue, List, [], ◌∷◌, length, map, Result, Ok, Err, IfOk, IfErr, refl, sym, ap, subst, ◌∙◌, arith, zero-add}
use Rattle.std.proofs.lemmas.Bool.{ltb-true, lt-ltb}
use Rattle.std.specs.List.{range_with_len}
use Rattle.std.proofs.lemmas.Bool.Decides.{nat_tests}
use Rattle.std.proofs.lemmas.List.{length-map}
use Rattle.std.proofs.lemmas.List.FromFn.{length-range_with_len}
use Rattle.circuit_model.specs.declared.limits.TheConstants.{MOST_DIAGNOSES, MOST_PARTS}
use Rattle.circuit_model.specs.declared.present.Component.{Component}
use Rattle.circuit_model.specs.Present.{PresentView, circuit_of}
use Rattle.circuit_model.specs.Diagnoses.{Circuit, IsConflict, IsDiagnosis}
use Rattle.circuit_model.specs.Probe.{positions_in, AreConflicts, AreDiagnoses, HasMoreDiagnosesThan}
use Rattle.circuit_model.proofs.Diagnoses.{diagnoses_are_hitting_sets}
use Rattle.circuit_model.proofs.Loads.{length-le_of_distinct}
use Rattle.environment_sets.specs.declared.environment.Env.{Env}
use Rattle.environment_sets.specs.declared.environment.TheConstants.{SLOTS}
use Rattle.environment_sets.specs.Costs.{ComesBeforeByCost, ListsEach}
use Rattle.environment_sets.specs.Counts.{AreSoMany}
use Rattle.environment_sets.specs.Lists.{IsIn, AreDistinct, IsListing, IsRoster}
use Rattle.environment_sets.specs.Members.{members, sets}
use Rattle.environment_sets.specs.Orders.{IsOrder}
use Rattle.environment_sets.specs.Sets.{Set, ◌⊆◌, IsBelow, Hits, IsMinimalHittingSet}
use Rattle.environment_sets.proofs.Ranges.{in_range, to_range, range_distinct}
use Rattle.environment_sets.proofs.Hitting.{hitting_alike}
use Rattle.hitting_sets.specs.Hitting.{IsMinimalFor}
use Rattle.first_diagnoses.specs.First.{AreFirst}
use Rattle.diagnosis_order.specs.Stops.{IsStopFor}
use Rattle.diagnosis_order.specs.declared.listing.DiagnosisStop.{DiagnosisStop}
use Rattle.diagnosis_order.specs.declared.listing.DiagnosisStop.TheVariants.{TooMany, OutOfMemory}
use Rattle.standing_diagnoses.specs.Listing.{IsBeforeByCost, HasFewDiagnoses, IsStopAt}
use Rattle.standing_view.proofs.PartSets.{hitting_inside}

pub range_order : (n : ℕ) → n ≤ MOST_PARTS → IsOrder SLOTS (range_with_len 0 n)
range_order n few = record { below = λ k h. let r : (0 ≤ k) × (k < 0 + n) = in_range 0 n k h in omega (arith, r.1); distinct = range_distinct 0 n }

module _ (P : Circuit) (Cs : List (Set ℕ)) (are : AreConflicts P Cs) where
  pub listed : (E : Set ℕ) → IsIn Cs E → (k : ℕ) → IsTrue (E k) → IsIn (positions_in P) k
  listed E h k is = subst (IsIn (positions_in P)) (zero-add k) (to_range 0 (length P.parts) k (((are.exact E).0 h).positions k is))

  pub diagnosis : (D : Set ℕ) → IsMinimalHittingSet (IsIn Cs) D → IsDiagnosis P D
  diagnosis D h =
      (diagnoses_are_hitting_sets P D).1
      (hitting_inside_below D h, hitting_alike (IsIn Cs) (IsConflict P) (λ C at. (are.exact C).0 at) (λ C is. (are.exact C).1 is) D h)
    where
      hitting_inside_below : (D : Set ℕ) → IsMinimalHittingSet (IsIn Cs) D → IsBelow (length P.parts) D
      hitting_inside_below D h k is = ltb-true k (length P.parts) (hitting_inside (λ j. nat_lt j (length P.parts)) Cs (λ C at j in_C. lt-ltb j (length P.parts) (((are.exact C).0 at).positions j in_C)) D h k is)

  pub hitting : (D : Set ℕ) → IsDiagnosis P D → IsMinimalHittingSet (IsIn Cs) D
  hitting D h = hitting_alike (IsConflict P) (IsIn Cs) (λ C is. (are.exact C).1 is) (λ C at. (are.exact C).0 at) D ((diagnoses_are_hitting_sets P D).0 h).1

  pub all_diagnoses : (Ds : List (Set ℕ)) → IsListing (IsBeforeByCost P) (IsMinimalHittingSet (IsIn Cs)) Ds → AreDiagnoses P Ds
  all_diagnoses Ds listing = record { rising = listing.rising; exact = λ D. (λ h. diagnosis D ((listing.exact D).0 h), λ h. (listing.exact D).1 (hitting D h)) }

  pub first_diagnoses : (k : ℕ) (Ds : List (Set ℕ)) → AreFirst (IsBeforeByCost P) (IsMinimalHittingSet (IsIn Cs)) k Ds → AreFirst (IsBeforeByCost P) (IsDiagnosis P) k Ds
  first_diagnoses k Ds first = record { rising = first.rising; sound = λ D h. diagnosis D (first.sound D h); few = first.few; others = λ D h. first.others D (hitting D h) }

  pub more_diagnoses : (count : ℕ) → AreSoMany (IsMinimalHittingSet (IsIn Cs)) count → MOST_DIAGNOSES < count → HasMoreDiagnosesThan MOST_DIAGNOSES P
  more_diagnoses count many above = record {
    count = count;
    counted = record {
      listed = many.listed;
      roster = record { distinct = many.roster.distinct; exact = λ D. (λ h. diagnosis D ((many.roster.exact D).0 h), λ h. (many.roster.exact D).1 (hitting D h)) };
      many = many.many;
    };
    more = above;
  }

  pub few_diagnoses : (Ds : List (Set ℕ)) → IsListing (IsBeforeByCost P) (IsMinimalHittingSet (IsIn Cs)) Ds → length Ds ≤ MOST_DIAGNOSES → HasFewDiagnoses P
  few_diagnoses Ds listing low more =
      let short : length more.counted.listed ≤ length Ds = length-le_of_distinct more.counted.listed Ds more.counted.roster.distinct (λ D h. (listing.exact D).1 (hitting D ((more.counted.roster.exact D).0 h))) in
      absurd (omega (arith, short, low, more.counted.many, more.more))

-- by the lists of a present's positions and costs
module _ (s : PresentView) where
  pub order_is : (xs : List ℕ) (n : ℕ) → xs ≡ range_with_len 0 n → n ≡ length s.parts → xs ≡ positions_in (circuit_of s)
  order_is xs n is many = is ∙ ap (λ (m : ℕ). range_with_len 0 m) (many ∙ sym (length-map s.parts (λ (c : Component). c.part)))

  pub slots_of_order : length s.parts ≤ MOST_PARTS → (xs : List ℕ) → xs ≡ positions_in (circuit_of s) → IsOrder SLOTS xs
  slots_of_order few xs is =
      let long : length (map (λ (c : Component). c.part) s.parts) ≡ length s.parts = length-map s.parts (λ (c : Component). c.part) in
      subst (IsOrder SLOTS) (sym is) (range_order (length (map (λ (c : Component). c.part) s.parts)) (omega arith))

  pub as_many_costs : (costs xs : List ℕ) → costs ≡ map (λ (c : Component). c.cost) s.parts → xs ≡ positions_in (circuit_of s) → length costs ≡ length xs
  as_many_costs costs xs same is =
      ap (λ (ys : List ℕ). length ys) same
      ∙ (length-map s.parts (λ (c : Component). c.cost)
      ∙ (sym (length-map s.parts (λ (c : Component). c.part)) ∙ (sym (length-range_with_len 0 (length (map (λ (c : Component). c.part) s.parts))) ∙ ap (λ (ys : List ℕ). length ys) (sym is))))

  module _ (Cs : List (Set ℕ)) (are : AreConflicts (circuit_of s) Cs) (xs costs : List ℕ) (is : xs ≡ positions_in (circuit_of s)) (same : costs ≡ map (λ (c : Component). c.cost) s.parts) where
    pub lists_each : ListsEach xs (IsIn Cs)
    lists_each E h k at = subst (λ (ys : List ℕ). IsIn ys k) (sym is) (listed (circuit_of s) Cs are E h k at)

    by_cost : (Q : (Set ℕ → Set ℕ → Type 0) → Type 0) → Q (ComesBeforeByCost xs costs) → Q (IsBeforeByCost (circuit_of s))
    by_cost Q q =
        let A : List ℕ → Type 0 = λ ys. Q (ComesBeforeByCost ys costs) in
        let B : List ℕ → Type 0 = λ cs. Q (ComesBeforeByCost (positions_in (circuit_of s)) cs) in
        subst B same (subst A is q)

    pub all_of : (Ds : List (Set ℕ)) → IsListing (ComesBeforeByCost xs costs) (IsMinimalHittingSet (IsIn Cs)) Ds → AreDiagnoses (circuit_of s) Ds
    all_of Ds listing = all_diagnoses (circuit_of s) Cs are Ds (by_cost (λ before. IsListing before (IsMinimalHittingSet (IsIn Cs)) Ds) listing)

    pub few_of : (Ds : List (Set ℕ)) → IsListing (ComesBeforeByCost xs costs) (IsMinimalHittingSet (IsIn Cs)) Ds → length Ds ≤ MOST_DIAGNOSES → HasFewDiagnoses (circuit_of s)
    few_of Ds listing low = few_diagnoses (circuit_of s) Cs are Ds (by_cost (λ before. IsListing before (IsMinimalHittingSet (IsIn Cs)) Ds) listing) low

    pub first_diagnoses_of : (k : ℕ) (Ds : List (Set ℕ)) → AreFirst (ComesBeforeByCost xs costs) (IsMinimalHittingSet (IsIn Cs)) k Ds → AreFirst (IsBeforeByCost (circuit_of s)) (IsDiagnosis (circuit_of s)) k Ds
    first_diagnoses_of k Ds first = first_diagnoses (circuit_of s) Cs are k Ds (by_cost (λ before. AreFirst before (IsMinimalHittingSet (IsIn Cs)) k Ds) first)

pub stop_of : (P : Circuit) (es : List Env) → AreConflicts P (sets es) → (stop : DiagnosisStop) → IsStopFor es stop → IsStopAt P stop
stop_of P es are (TooMany count) h = more_diagnoses P (sets es) are count h.0 h.1
stop_of P es are OutOfMemory h = tt

pub if_ok_both : {A E : Type 0} (r : Result A E) (P Q R : A → Type 0) → ((x : A) → P x → Q x → R x) → IfOk r P → IfOk r Q → IfOk r R
if_ok_both (Ok x) P Q R f p q = f x p q
if_ok_both (Err e) P Q R f p q = tt

pub if_err_weaker : {A E : Type 0} (r : Result A E) (P Q : E → Type 0) → ((e : E) → P e → Q e) → IfErr r P → IfErr r Q
if_err_weaker (Ok x) P Q f p = tt
if_err_weaker (Err e) P Q f p = f e p

pub few_sets : (es : List Env) → length es ≤ MOST_DIAGNOSES → length (sets es) ≤ MOST_DIAGNOSES
few_sets es few = let long : length (sets es) ≡ length es = length-map es members in omega (arith, long)
