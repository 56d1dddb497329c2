-- What is next among slots is next among the places of a present.
use Rattle.std.proofs.Common.{◌≡◌, ℕ, ◌<◌, inl, inr, ◌⊎◌, List, Option, Some, None, IfSome, sym, ap, subst, ◌∙◌}
use Rattle.std.specs.Option.{option_map}
use Rattle.circuit_model.specs.declared.model.Cell.{Cell}
use Rattle.circuit_model.specs.declared.model.Fact.{Fact}
use Rattle.circuit_model.specs.Closure.{fact}
use Rattle.circuit_model.specs.Diagnoses.{Place}
use Rattle.circuit_model.specs.Present.{PresentView}
use Rattle.circuit_model.specs.Stock.{Stock, IsInLabel, within}
use Rattle.circuit_model.specs.Whole.{stock, everything, order_of_present}
use Rattle.environment_sets.specs.declared.environment.TheConstants.{SLOTS}
use Rattle.environment_sets.specs.Sets.{Set, ◌⊆◌}
use Rattle.environment_sets.specs.Orders.{ComesBefore, ListsAll}
use Rattle.environment_sets.specs.Walks.{ComesAfter, IsFurther, GivesNext, count_left}
use Rattle.environment_sets.specs.declared.environment.Env.{Env}
use Rattle.environment_sets.specs.Members.{members}
use Rattle.label_engine.specs.Engine.{Kept}
use Rattle.label_engine.specs.Questions.{IsAbove, GivesNextNumber, HasLabel, values_left}
use Rattle.label_engine.proofs.Masks.{inside_of}
use Rattle.label_engine.proofs.Values.{next_number_alike}
use Rattle.standing_view.specs.Standing.{Stands, order_of, mask_of}
use Rattle.standing_view.specs.View.{StandsFor, places}
use Rattle.standing_view.specs.Laws.{IsTheSetOf}
use Rattle.standing_view.proofs.Named.{slots_have_its_labels, environments_are_slots, slots_are_environments}
use Rattle.standing_view.proofs.Orders.{the_order_is_the_presents}
use Rattle.standing_view.proofs.Places.{among_listed}

-- the order lists what is inside its mask
pub inside_listed : (st : Stands) (E : Set ℕ) → E ⊆ mask_of st → ListsAll (order_of st) E
inside_listed st E inside k h = among_listed (order_of st) k (inside k h)

module _ (S : Stock ℕ) (st : Stands) (P : PresentView) (parked : List Fact) (r : StandsFor S st P parked) where
  after_to : (last : Option (Set ℕ)) (E : Set ℕ) → ComesAfter (order_of st) last E → ComesAfter (order_of_present P) (option_map (places st) last) (places st E)
  after_to None E h = tt
  after_to (Some D) E h = (the_order_is_the_presents S st P parked r D E).0 h

  after_from : (last : Option (Set ℕ)) (E : Set ℕ) → ComesAfter (order_of_present P) (option_map (places st) last) (places st E) → ComesAfter (order_of st) last E
  after_from None E h = tt
  after_from (Some D) E h = (the_order_is_the_presents S st P parked r D E).1 h

  module _
      (F : Set ℕ → Type 0) (G : Set Place → Type 0) (to : (E : Set ℕ) → E ⊆ mask_of st → F E → G (places st E))
      (from : (E : Set ℕ) → E ⊆ mask_of st → G (places st E) → F E) (last : Option (Set ℕ))
    where
      further_to : (E : Set ℕ) → IsFurther (order_of st) F (mask_of st) last E → IsFurther (order_of_present P) G (everything P) (option_map (places st) last) (places st E)
      further_to E h = record { member = to E h.inside h.member; inside = slots_are_environments S st P parked r E h.inside; after = after_to last E h.after }

      further_from : (E : Set ℕ) → E ⊆ mask_of st → IsFurther (order_of_present P) G (everything P) (option_map (places st) last) (places st E) → IsFurther (order_of st) F (mask_of st) last E
      further_from E inside h = record { member = from E inside h.member; inside = inside; after = after_from last E h.after }

      -- the slots of what is further
      slots_of : (H : Set Place) → IsFurther (order_of_present P) G (everything P) (option_map (places st) last) H → (E : Set ℕ) × IsTheSetOf st H E × IsFurther (order_of st) F (mask_of st) last E
      slots_of H h =
          let E : (E : Set ℕ) × IsTheSetOf st H E = environments_are_slots S st P parked r H h.inside in
          (E.0, E.1, further_from E.0 E.1.inside (subst (λ (K : Set Place). IsFurther (order_of_present P) G (everything P) (option_map (places st) last) K) (sym E.1.is) h))

      pub next_of_places : (next : Option (Set ℕ)) → GivesNext (order_of st) F (mask_of st) last next → GivesNext (order_of_present P) G (everything P) (option_map (places st) last) (option_map (places st) next)
      next_of_places None none = λ H h. let E : (E : Set ℕ) × IsTheSetOf st H E × IsFurther (order_of st) F (mask_of st) last E = slots_of H h in none E.0 E.2
      next_of_places (Some D) next = record {
        further = further_to D next.further;
        first = λ H h.
            let E : (E : Set ℕ) × IsTheSetOf st H E × IsFurther (order_of st) F (mask_of st) last E = slots_of H h in
            elim (next.first E.0 E.2) as (λ _. (places st D ≡ H) ⊎ ComesBefore (order_of_present P) (places st D) H) [
              | inl e ↦ inl (ap (places st) e ∙ E.1.is)
              | inr before ↦ inr (subst (λ (K : Set Place). ComesBefore (order_of_present P) (places st D) K) E.1.is ((the_order_is_the_presents S st P parked r D E.0).0 before))
            ];
      }

  pub next_in_label :
      (f : Fact) (last next : Option (Set ℕ)) → GivesNext (order_of st) (IsInLabel (within (mask_of st) S) f) (mask_of st) last next
      → GivesNext (order_of_present P) (IsInLabel (stock P) f) (everything P) (option_map (places st) last) (option_map (places st) next)
  next_in_label f last next gives =
      next_of_places (IsInLabel (within (mask_of st) S) f) (IsInLabel (stock P) f) (λ E inside. (slots_have_its_labels S st P parked r f E inside).0) (λ E inside. (slots_have_its_labels S st P parked r f E inside).1) last next gives

  pub next_word : (c : Cell) (last next : Option ℕ) → GivesNextNumber (HasLabel (within (mask_of st) S) c) last next → GivesNextNumber (HasLabel (stock P) c) last next
  next_word c last next gives = next_number_alike (HasLabel (within (mask_of st) S) c) (HasLabel (stock P) c) last to from next gives
    where
      to : (v : ℕ) → IsAbove last v → HasLabel (within (mask_of st) S) c v → HasLabel (stock P) c v
      to v _ h = (places st h.0, (slots_have_its_labels S st P parked r (fact c v) h.0 (inside_of (mask_of st) S h.0 h.1.environment)).0 h.1)

      from : (v : ℕ) → IsAbove last v → HasLabel (stock P) c v → HasLabel (within (mask_of st) S) c v
      from v _ h =
          let E : (E : Set ℕ) × IsTheSetOf st h.0 E = environments_are_slots S st P parked r h.0 h.1.environment in
          (E.0, (slots_have_its_labels S st P parked r (fact c v) E.0 E.1.inside).1 (subst (λ (K : Set Place). IsInLabel (stock P) (fact c v) K) (sym E.1.is) h.1))

-- by the order and the mask of what stands
module _ (st : Stands) (order : List ℕ) (M : Set ℕ) (same_order : order ≡ order_of st) (same_mask : M ≡ mask_of st) where
  pub next_standing :
      (S : Stock ℕ) (f : Fact) (last next : Option (Set ℕ)) → GivesNext order (IsInLabel (within M S) f) M last next
      → GivesNext (order_of st) (IsInLabel (within (mask_of st) S) f) (mask_of st) last next
  next_standing S f last next gives =
      let P : List ℕ → Type 0 = λ xs. GivesNext xs (IsInLabel (within M S) f) M last next in
      let Q : Set ℕ → Type 0 = λ N. GivesNext (order_of st) (IsInLabel (within N S) f) N last next in
      subst Q same_mask (subst P same_order gives)

  pub left_standing :
      (es : List (Set ℕ)) (last : Option (Set ℕ)) (next : Option Env) → IfSome next (λ e. count_left SLOTS order M (Some (members e)) es < count_left SLOTS order M last es)
      → IfSome next (λ e. count_left SLOTS (order_of st) (mask_of st) (Some (members e)) es < count_left SLOTS (order_of st) (mask_of st) last es)
  left_standing es last next fewer =
      let P : List ℕ → Type 0 = λ xs. IfSome next (λ e. count_left SLOTS xs M (Some (members e)) es < count_left SLOTS xs M last es) in
      let Q : Set ℕ → Type 0 = λ N. IfSome next (λ e. count_left SLOTS (order_of st) N (Some (members e)) es < count_left SLOTS (order_of st) N last es) in
      subst Q same_mask (subst P same_order fewer)

module _ (st : Stands) (c : Cell) (M : Set ℕ) (same_mask : M ≡ mask_of st) where
  pub word_standing : (S : Stock ℕ) (last next : Option ℕ) → GivesNextNumber (HasLabel (within M S) c) last next → GivesNextNumber (HasLabel (within (mask_of st) S) c) last next
  word_standing S last next gives = let P : Set ℕ → Type 0 = λ N. GivesNextNumber (HasLabel (within N S) c) last next in subst P same_mask gives

  pub words_standing : (kept : List Kept) (last next : Option ℕ) → IfSome next (λ v. values_left kept c M (Some v) < values_left kept c M last) → IfSome next (λ v. values_left kept c (mask_of st) (Some v) < values_left kept c (mask_of st) last)
  words_standing kept last next fewer = let P : Set ℕ → Type 0 = λ N. IfSome next (λ v. values_left kept c N (Some v) < values_left kept c N last) in subst P same_mask fewer
