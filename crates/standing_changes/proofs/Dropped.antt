-- The last component, and its slot.
use Rattle.std.proofs.Common.{◌≡◌, ℕ, ◌+◌, ◌-◌, ◌<◌, ◌++◌, List, [], ◌∷◌, length, take, Option, Some, None, IsSome, refl, sym, ap, ◌∙◌, arith}
use Rattle.std.specs.List.{slice_get}
use Rattle.std.proofs.lemmas.List.{take_more, take_all}
use Rattle.std.proofs.lemmas.Option.{get_or_from_slice_get}
use Rattle.circuit_model.specs.declared.model.Assumption.{Assumption}
use Rattle.circuit_model.specs.declared.model.Fact.{Fact}
use Rattle.circuit_model.specs.declared.present.Component.{Component}
use Rattle.circuit_model.specs.Present.{PresentView, with_part, without_last_part}
use Rattle.circuit_model.specs.Stock.{Stock}
use Rattle.environment_sets.specs.declared.environment.TheConstants.{SLOTS}
use Rattle.environment_sets.specs.Lists.{IsIn}
use Rattle.environment_sets.proofs.Membership.{IsIn-left, IsIn-slice_get}
use Rattle.label_engine.specs.Engine.{Forgets}
use Rattle.standing_view.specs.Standing.{Stands, order_of, without_last_part_at}
use Rattle.standing_view.specs.View.{StandsFor}
use Rattle.standing_view.proofs.Named.{stands_remembered}
use Rattle.standing_view.proofs.Shrinking.{the_last_component_is_forgotten}

-- the last component put back
pub last_again : (s : PresentView) (c : Component) → 0 < length s.parts → slice_get s.parts (length s.parts - 1) ≡ Some c → with_part c (without_last_part s) ≡ s
last_again s c some at =
    let n : ℕ = length s.parts - 1 in
    let low : n < length s.parts = omega (arith, some) in
    let whole : take (n + 1) s.parts ≡ s.parts = take_all (n + 1) s.parts (omega (arith, some)) in
    let parts : take n s.parts ++ c ∷ [] ≡ s.parts = ap (λ (x : Component). take n s.parts ++ x ∷ []) (sym (get_or_from_slice_get s.parts n c c at)) ∙ (sym (take_more s.parts n c low) ∙ whole) in
    ap (λ (ps : List Component). record s { parts = ps }) parts

something : (o : Option Assumption) → IsSome o → (a : Assumption) × (o ≡ Some a)
something None h = cc
something (Some a) h = (a, refl)

module _ (S : Stock ℕ) (st : Stands) (P : PresentView) (parked : List Fact) (r : StandsFor S st P parked) (slot : ℕ) (at : slice_get st.parts (length st.parts - 1) ≡ Some slot) where
  stands_there : IsIn (order_of st) slot
  stands_there = IsIn-left st.parts st.slots slot (IsIn-slice_get st.parts (length st.parts - 1) slot at)

  pub last_below : slot < SLOTS
  last_below = r.order.below slot stands_there

  pub last_remembered : IsSome (S slot)
  last_remembered = stands_remembered S st P parked r slot stands_there

  -- the last component stands no more where its slot is forgotten
  pub last_dropped : (R : Stock ℕ) → ((what : Assumption) → S slot ≡ Some what → Forgets S slot what R) → StandsFor R (without_last_part_at st) (without_last_part P) parked
  last_dropped R forgets =
      let a : (a : Assumption) × (S slot ≡ Some a) = something (S slot) last_remembered in
      the_last_component_is_forgotten S R st P parked slot a.0 r at (forgets a.0 a.1)
