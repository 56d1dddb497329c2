-- Sums in loops.
use Rattle.std.proofs.Common.{◌≡◌, ℕ, ◌+◌, ◌*◌, ◌-◌, ◌%◌, ◌^◌, ◌<◌, ◌≤◌, cond, List, [], ◌∷◌, ◌++◌, length, get_or, take, drop, map, sym, ap, ap₂, ◌∙◌, arith, zero-add}
use Rattle.std.proofs.lemmas.List.{map-append, take_more, take_all, length-map}
use Rattle.std.proofs.lemmas.List.FromFn.{get_or-range_with_len, length-range_with_len}
use Rattle.std.proofs.Math.Nat.{mod-eq_of_lt}
use Rattle.std.proofs.Math.Pow.{pow-lt}
use Rattle.circuit_model.specs.declared.present.Component.{Component}
use Rattle.circuit_model.specs.Present.{PresentView, circuit_of}
use Rattle.circuit_model.specs.Probe.{positions_in}
use Rattle.environment_sets.specs.declared.environment.Env.{Env}
use Rattle.environment_sets.specs.Costs.{cost_in}
use Rattle.environment_sets.specs.Members.{members, sets}
use Rattle.environment_sets.specs.Sets.{Set}
use Rattle.environment_sets.proofs.CostSums.{cost_step, cost_past}
use Rattle.environment_sets.proofs.Listings.{sets-push}
use Rattle.standing_view.specs.Standing.{Stands}
use Rattle.probe_planner.specs.Covering.{rest}

-- one name more is added
pub added :
    {N : Type 0} (order : List N) (costs : List ℕ) (i : ℕ) (d : N) (E : Set N) (sum n whole : ℕ) → i < length order → length costs ≡ length order → sum + cost_in (drop i order) (drop i costs) E ≡ whole
    → n ≡ cond (E (get_or order i d)) (get_or costs i 0) 0 → sum + n + cost_in (drop (i + 1) order) (drop (i + 1) costs) E ≡ whole
added order costs i d E sum n whole low long so same = joined (cost_in (drop i order) (drop i costs) E) _ (cost_in (drop (i + 1) order) (drop (i + 1) costs) E) (cost_step d order costs i E low long) same so
  where
    joined : (a b r : ℕ) → a ≡ b + r → n ≡ b → sum + a ≡ whole → sum + n + r ≡ whole
    joined a b r e f g = omega arith

-- all are added
pub all_added : {N : Type 0} (order : List N) (costs : List ℕ) (i : ℕ) (E : Set N) (sum whole : ℕ) → length order ≤ i → sum + cost_in (drop i order) (drop i costs) E ≡ whole → sum ≡ whole
all_added order costs i E sum whole high so = rest_is_none (cost_in (drop i order) (drop i costs) E) (cost_past order costs i E high) so
  where
    rest_is_none : (r : ℕ) → r ≡ 0 → sum + r ≡ whole → sum ≡ whole
    rest_is_none r e f = omega arith

-- what stands outside one diagnosis more
pub rests_more :
    (st : Stands) (ds rs : List Env) (i : ℕ) (d r : Env) → i < length ds → d ≡ get_or ds i d → sets rs ≡ map (rest st) (sets (take i ds)) → members r ≡ rest st (members d)
    → sets (rs ++ r ∷ []) ≡ map (rest st) (sets (take (i + 1) ds))
rests_more st ds rs i d r low at were is =
    let longer : take (i + 1) ds ≡ take i ds ++ d ∷ [] = take_more ds i d low ∙ ap (λ e. take i ds ++ e ∷ []) (sym at) in
    let right : map (rest st) (sets (take (i + 1) ds)) ≡ map (rest st) (sets (take i ds)) ++ rest st (members d) ∷ [] =
    ap (λ es. map (rest st) (sets es)) longer ∙ (ap (map (rest st)) (sets-push (take i ds) d) ∙ map-append (rest st) (sets (take i ds)) (members d ∷ [])) in
    sets-push rs r ∙ (ap₂ (λ (Es : List (Set ℕ)) (E : Set ℕ). Es ++ E ∷ []) were is ∙ sym right)

pub rests_all : (st : Stands) (ds : List Env) (i : ℕ) (Rs : List (Set ℕ)) → length ds ≤ i → Rs ≡ map (rest st) (sets (take i ds)) → Rs ≡ map (rest st) (sets ds)
rests_all st ds i Rs high were = were ∙ ap (λ es. map (rest st) (sets es)) (take_all i ds high)

-- the positions of a present's components
module _ (s : PresentView) where
  pub as_many_positions : length (positions_in (circuit_of s)) ≡ length s.parts
  as_many_positions = length-range_with_len 0 (length (circuit_of s).parts) ∙ length-map s.parts (λ (c : Component). c.part)

  pub as_many_costs : length (circuit_of s).costs ≡ length (positions_in (circuit_of s))
  as_many_costs = length-map s.parts (λ (c : Component). c.cost) ∙ sym as_many_positions

  pub place_of_position : (i : ℕ) (E : Set ℕ) → i < length s.parts → cond (E i) (get_or (circuit_of s).costs i 0) 0 ≡ cond (E (get_or (positions_in (circuit_of s)) i 0)) (get_or (circuit_of s).costs i 0) 0
  place_of_position i E low =
      let same : length (circuit_of s).parts ≡ length s.parts = length-map s.parts (λ (c : Component). c.part) in
      let at : get_or (positions_in (circuit_of s)) i 0 ≡ i = get_or-range_with_len 0 (length (circuit_of s).parts) i 0 (omega (arith, low, same)) ∙ zero-add i in
      ap (λ k. cond (E k) (get_or (circuit_of s).costs i 0) 0) (sym at)

-- ---- a power of two as a shift

pub shifted : (most cost : ℕ) → most ≤ 63 → (1 * 2 ^ (most - cost)) % 2 ^ 64 ≡ 2 ^ (most - cost)
shifted most cost small =
    let low : most - cost < 64 = omega arith in
    let fits : 2 ^ (most - cost) < 2 ^ 64 = pow-lt low in
    let one : 1 * 2 ^ (most - cost) ≡ 2 ^ (most - cost) = omega arith in
    ap (λ n. n % 2 ^ 64) one ∙ mod-eq_of_lt fits
