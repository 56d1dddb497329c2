-- What follows from the first environment of a label, and from the conflict of a number.
use Rattle.std.proofs.Common.{◌≡◌, ◌⊎◌, ℕ, zero, suc, ◌-◌, ◌≤◌, ◌<◌, inl, inr, List, length, map, get_or, Some, None, refl, sym, ap, ◌∙◌, arith}
use Rattle.std.proofs.lemmas.Bool.{cases_lt}
use Rattle.std.specs.List.{slice_get}
use Rattle.std.specs.Option.{option_map}
use Rattle.std.proofs.lemmas.List.{length-map}
use Rattle.std.proofs.lemmas.Option.{slice_get-map, slice_get-get_or}
use Rattle.circuit_model.specs.declared.model.Fact.{Fact}
use Rattle.circuit_model.specs.Diagnoses.{Place, IsConflict}
use Rattle.circuit_model.specs.Present.{PresentView, circuit_of}
use Rattle.circuit_model.specs.Probe.{positions_in, AreConflicts}
use Rattle.circuit_model.specs.Stock.{IsInLabel}
use Rattle.circuit_model.specs.Whole.{stock, everything, order_of_present}
use Rattle.circuit_model.proofs.Loads.{length-le_of_distinct}
use Rattle.environment_sets.specs.declared.environment.Env.{Env}
use Rattle.environment_sets.specs.Members.{members, sets}
use Rattle.environment_sets.specs.Orders.{ComesBefore}
use Rattle.environment_sets.specs.Sets.{Set}
use Rattle.environment_sets.specs.Walks.{GivesNext}
use Rattle.environment_sets.proofs.Membership.{IsIn-slice_get}
use Rattle.environment_sets.proofs.OrderLaws.{order_is_strict}
use Rattle.environment_sets.proofs.Listings.{rising_is_distinct}
use Rattle.standing_view.specs.Conflicts.{AreConflictsOf, IsConflictOf}
use Rattle.standing_view.specs.Positions.{positions, AreInParts}
use Rattle.standing_changes.specs.Remembered.{StandsWith}
use Rattle.standing_changes.specs.declared.remembered.Remembered.{Remembered}
use Rattle.session_undo.specs.Checks.{HasNoLabel, LacksConflict}
use Rattle.session_undo.specs.Steps.{IsFirstOfLabel, IsConflictNumber}

module _ (s : PresentView) (f : Fact) where
  -- there is no further environment where there is none
  pub no_label : GivesNext (order_of_present s) (IsInLabel (stock s) f) (everything s) None None → HasNoLabel s f
  no_label none E member = none E (record { member = member; inside = member.environment; after = tt })

  -- the next one where there is none before it is the first
  pub first_of_label : (E : Set Place) → GivesNext (order_of_present s) (IsInLabel (stock s) f) (everything s) None (Some E) → IsFirstOfLabel s f E
  first_of_label E next = record { member = next.further.member; first = λ F member. next.first F (record { member = member; inside = member.environment; after = tt }) }

-- a number that counts none of so many is 0 or greater
counts_none : (n count : ℕ) → ((1 ≤ n) × (n - 1 < count) → ⊥) → (n ≡ 0) ⊎ (count < n)
counts_none zero count out = inl refl
counts_none (suc m) count out = elim (cases_lt m count) [
  | inl low ↦ absurd (out (omega arith, omega (arith, low)))
  | inr more ↦ inr (omega (arith, more))
]

module _ (s : PresentView) (Cs : List (Set ℕ)) (are : AreConflicts (circuit_of s) Cs) where
  -- there are so many conflicts
  pub lacks : (number : ℕ) → ((1 ≤ number) × (number - 1 < length Cs) → ⊥) → LacksConflict s number
  lacks number out = record {
    count = length Cs;
    counted = record {
      listed = Cs;
      roster = record { distinct = rising_is_distinct (ComesBefore (positions_in (circuit_of s))) (order_is_strict ℕ (positions_in (circuit_of s))) Cs are.rising; exact = are.exact };
      many = refl;
    };
    outside = counts_none number (length Cs) out;
  }

  -- and no fewer
  pub lacks_none : (number : ℕ) → 1 ≤ number → number - 1 < length Cs → LacksConflict s number → ⊥
  lacks_none number some low lack =
      let fewer : length Cs ≤ length lack.counted.listed = length-le_of_distinct Cs lack.counted.listed (rising_is_distinct (ComesBefore (positions_in (circuit_of s))) (order_is_strict ℕ (positions_in (circuit_of s))) Cs are.rising) (λ C h. (lack.counted.roster.exact C).1 ((are.exact C).0 h)) in
      let many : length lack.counted.listed ≡ lack.count = lack.counted.many in
      elim lack.outside [ inl none ↦ omega (arith, none, some) | inr more ↦ omega (arith, more, fewer, many, low, some) ]

-- the conflict of a number among those of what stands
module _ (r : Remembered) (s : PresentView) (parked : List Fact) (stands : StandsWith r s parked) (found : List Env) (are : AreConflictsOf r.engine r.standing (sets found)) where
  abbrev at_positions : List (Set ℕ)
  at_positions = map (positions r.standing) (sets found)

  pub conflicts_now : AreConflicts (circuit_of s) at_positions
  conflicts_now = are s parked stands

  pub as_many : length at_positions ≡ length found
  as_many = length-map (sets found) (positions r.standing) ∙ length-map found members

  module _ (i : ℕ) (e : Env) (at : slice_get found i ≡ Some e) where
    pub at_place : slice_get at_positions i ≡ Some (positions r.standing (members e))
    at_place = slice_get-map (positions r.standing) (sets found) i ∙ ap (option_map (positions r.standing)) (slice_get-map members found i ∙ ap (option_map members) at)

    pub is_conflict : IsConflict (circuit_of s) (positions r.standing (members e))
    is_conflict = (conflicts_now.exact (positions r.standing (members e))).0 (IsIn-slice_get at_positions i (positions r.standing (members e)) at_place)

    pub conflict_of : AreInParts r.standing (sets found) → IsConflictOf r.engine r.standing (members e)
    conflict_of inside = record {
      present = s;
      parked = parked;
      stands = stands;
      inside = inside (members e) (IsIn-slice_get (sets found) i (members e) (slice_get-map members found i ∙ ap (option_map members) at));
      conflict = is_conflict;
    }

-- the conflict of the number
pub numbered : (r : Remembered) (s : PresentView) (parked : List Fact) (stands : StandsWith r s parked) (found : List Env) (are : AreConflictsOf r.engine r.standing (sets found)) (number : ℕ) (e : Env) → 1 ≤ number → slice_get found (number - 1) ≡ Some e
    → IsConflictNumber s number (positions r.standing (members e))
numbered r s parked stands found are number e some at = record {
  conflicts = at_positions r s parked stands found are;
  are = conflicts_now r s parked stands found are;
  counted = some;
  at = at_place r s parked stands found are (number - 1) e at;
}

-- what is read at a place that is there
pub read_at : (found : List Env) (i : ℕ) (e : Env) → e ≡ get_or found i e → i < length found → slice_get found i ≡ Some e
read_at found i e is low = slice_get-get_or found i e low ∙ ap (λ (x : Env). Some x) (sym is)
