-- Lists of all diagnoses: their length, and where their elements are.
use Rattle.std.proofs.Common.{◌≡◌, ℕ, ◌<◌, ◌≤◌, ◌⊎◌, inl, inr, List, [], ◌∷◌, length, map, refl, ap, arith}
use Rattle.std.proofs.lemmas.List.{length-map}
use Rattle.circuit_model.specs.declared.limits.TheConstants.{MOST_DIAGNOSES}
use Rattle.circuit_model.specs.declared.model.Fact.{Fact}
use Rattle.circuit_model.specs.declared.present.Component.{Component}
use Rattle.circuit_model.specs.Diagnoses.{IsDiagnosis}
use Rattle.circuit_model.specs.Present.{PresentView, circuit_of}
use Rattle.circuit_model.specs.Probe.{positions_in, AreDiagnoses}
use Rattle.circuit_model.specs.Stock.{Stock}
use Rattle.environment_sets.specs.declared.environment.Env.{Env}
use Rattle.environment_sets.specs.Costs.{ComesBeforeByCost}
use Rattle.environment_sets.specs.Members.{members, sets}
use Rattle.environment_sets.specs.Sets.{Set}
use Rattle.environment_sets.proofs.CostOrder.{cost_order_is_strict}
use Rattle.standing_view.specs.Positions.{positions}
use Rattle.standing_view.specs.Standing.{Stands}
use Rattle.standing_view.specs.View.{StandsFor}
use Rattle.standing_view.proofs.Named.{as_many_parts}
use Rattle.standing_probe.specs.Laws.{FewDiagnosesAreListed}
use Rattle.standing_probe.specs.Ranges.{AreInRange}
use Rattle.environment_sets.proofs.Listings.{rising_is_distinct}

low_or_more : (m n : ℕ) → (m ≤ n) ⊎ (n < m)
low_or_more m n = grind arith

pub few_diagnoses_are_listed : FewDiagnosesAreListed
few_diagnoses_are_listed P Ds are few = elim (low_or_more (length Ds) MOST_DIAGNOSES) [
  | inl low ↦ low
  | inr more ↦ absurd (few (record {
    count = length Ds;
    counted = record {
      listed = Ds;
      roster = record { distinct = rising_is_distinct (ComesBeforeByCost (positions_in P) P.costs) (cost_order_is_strict (positions_in P) P.costs) Ds are.rising; exact = are.exact };
      many = refl;
    };
    more = more;
  }))
]

-- diagnoses are sets of positions of what stands
pub diagnoses_in_range : (S : Stock ℕ) (st : Stands) (s : PresentView) (parked : List Fact) → StandsFor S st s parked → (Ds : List (Set ℕ)) → AreDiagnoses (circuit_of s) Ds → AreInRange st Ds
diagnoses_in_range S st s parked stands Ds are C at k is =
    let is_one : IsDiagnosis (circuit_of s) C = (are.exact C).0 at in
    let low : k < length (map (λ (c : Component). c.part) s.parts) = is_one.positions k is in
    let long : length (map (λ (c : Component). c.part) s.parts) ≡ length s.parts = length-map s.parts (λ (c : Component). c.part) in
    let many : length st.parts ≡ length s.parts = as_many_parts S st s parked stands in
    omega (arith, low, long, many)

-- there are as many sets of slots as sets of positions
pub as_few : (st : Stands) (found environments : List Env) → map (positions st) (sets found) ≡ sets environments → length environments ≤ MOST_DIAGNOSES → length found ≤ MOST_DIAGNOSES
as_few st found environments same few =
    let many : length (map (positions st) (sets found)) ≡ length (sets environments) = ap length same in
    let places : length (map (positions st) (sets found)) ≡ length (sets found) = length-map (sets found) (positions st) in
    let ones : length (sets found) ≡ length found = length-map found members in
    let others : length (sets environments) ≡ length environments = length-map environments members in
    omega (arith, many, places, ones, others, few)
