-- Facts that are put with others, one after another.
use Rattle.std.proofs.Common.{◌≡◌, ◌↔◌, ℕ, ◌+◌, ◌<◌, ◌≤◌, ◌⊎◌, inl, inr, IsTrue, List, [], ◌∷◌, ◌++◌, length, take, map, Some, slice_get, sym, ap, subst, ◌∙◌, append_assoc, ap₂, arith}
use Rattle.std.proofs.lemmas.List.{length-take, map-append}
use Rattle.std.proofs.lemmas.Option.{slice_get_within}
use Rattle.environment_sets.specs.Lists.{IsIn}
use Rattle.environment_sets.proofs.Listings.{IsIn-push, IsIn-front, IsIn-last, take_one_more}
use Rattle.environment_sets.proofs.Membership.{IsIn-slice_get, slice_get-IsIn}
use Rattle.circuit_model.specs.declared.chosen.Chosen.{Chosen}
use Rattle.circuit_model.specs.declared.model.Fact.{Fact}
use Rattle.circuit_model.specs.declared.model.Assumption.TheVariants.{Reading}
use Rattle.circuit_model.specs.Chosen.{chosen_places}
use Rattle.circuit_model.specs.Closure.{fact}
use Rattle.circuit_model.specs.Derivation.{is_fact_before, IsAssumed}
use Rattle.circuit_model.specs.Present.{PresentView, IsLawful, circuit_of}
use Rattle.circuit_model.proofs.Presents.{slice_get-take}
use Rattle.circuit_model.proofs.Readings.{Measured, measured_at, reading_in-at}
use Rattle.proof_check.specs.Closing.{Timed}
use Rattle.proof_check.specs.Ordered.{AreInOrder, HasPut}
use Rattle.proof_check.specs.Turns.{at_round, HasAll, AreSeparate}
use Rattle.proof_check.proofs.Assumed.{cell_chosen, HasReading, reading_assumed, assumed_reading}
use Rattle.proof_check.proofs.Ordered.{IsRising-places, not_before_itself}

-- one fact more at its round
pub listed_more : (timed old : List Timed) (found : List Fact) (i round : ℕ) (f : Fact) (new : List Timed) → slice_get found i ≡ Some f → timed ≡ old ++ map (at_round round) (take i found) → new ≡ timed ++ at_round round f ∷ [] → new ≡ old ++ map (at_round round) (take (i + 1) found)
listed_more timed old found i round f new e was is =
    let more : map (at_round round) (take (i + 1) found) ≡ map (at_round round) (take i found) ++ at_round round f ∷ [] = ap (λ (fs : List Fact). map (at_round round) fs) (take_one_more found i f e) ∙ map-append (at_round round) (take i found) (f ∷ []) in
    is ∙ (ap (λ (ts : List Timed). ts ++ at_round round f ∷ []) was ∙ (append_assoc old (map (at_round round) (take i found)) (at_round round f ∷ []) ∙ ap (λ (ts : List Timed). old ++ ts) (sym more)))

module _ (found old now : List Fact) (i : ℕ) (f : Fact) (at : slice_get found i ≡ Some f) (was : HasAll (take i found) old now) where
  pub held_more : (new : List Fact) → HasPut f now new → HasAll (take (i + 1) found) old new
  held_more new put g = (λ h. to ((put g).0 h), λ h. (put g).1 (from h)) where
    pushed : take (i + 1) found ≡ take i found ++ f ∷ []
    pushed = take_one_more found i f at

    inside : IsIn (take i found ++ f ∷ []) g → IsIn (take (i + 1) found) g
    inside h = let Q : List Fact → Type 0 = λ fs. IsIn fs g in subst Q (sym pushed) h

    to : (f ≡ g) ⊎ IsIn now g → IsIn (take (i + 1) found) g ⊎ IsIn old g
    to (inl e) = inl (inside (IsIn-last (take i found) f g e))
    to (inr h) = elim ((was g).0 h) [ inl k ↦ inl (inside (IsIn-front (take i found) f g k)) | inr k ↦ inr k ]

    from : IsIn (take (i + 1) found) g ⊎ IsIn old g → (f ≡ g) ⊎ IsIn now g
    from (inl h) = elim (IsIn-push (take i found) f g (let Q : List Fact → Type 0 = λ fs. IsIn fs g in subst Q pushed h)) [ inl k ↦ inr ((was g).1 (inl k)) | inr e ↦ inl e ]
    from (inr h) = inr ((was g).1 (inr h))

  -- which was not there
  pub not_held : AreInOrder found → AreSeparate found old → IsIn now f → ⊥
  not_held order separate h = elim ((was f).0 h) [ inl k ↦ not_earlier (slice_get-IsIn (take i found) f k) | inr k ↦ separate f (IsIn-slice_get found i f at) k ] where
    not_earlier : (k : ℕ) × (slice_get (take i found) k ≡ Some f) → ⊥
    not_earlier (k, e) =
        let inside = slice_get_within (take i found) k f e in
        let short = length-take i found in
        let low : k < i = omega arith in
        let there : slice_get found k ≡ Some f = sym (slice_get-take i found k low) ∙ e in
        not_before_itself f (IsRising-places (λ f g. IsTrue (is_fact_before f g)) found k i f f order low there at)

-- all measurements of the environment
pub readings_found : (s : PresentView) (chosen : Chosen) → IsLawful s → (n : ℕ) → length s.readings ≤ n → (found : List Fact) → ((f : Fact) → IsIn found f ↔ ((k : ℕ) × (k < n) × (slice_get s.readings k ≡ Some f) × IsIn chosen.readings f.cell))
    → (f : Fact) → IsIn found f ↔ IsAssumed (circuit_of s) (chosen_places chosen) (Reading f)
readings_found s chosen lawful n all found exact f = (λ h. to ((exact f).0 h), λ h. (exact f).1 (from (reading_assumed (circuit_of s) (chosen_places chosen) f h))) where
  to : ((k : ℕ) × (k < n) × (slice_get s.readings k ≡ Some f) × IsIn chosen.readings f.cell) → IsAssumed (circuit_of s) (chosen_places chosen) (Reading f)
  to (k, low, e, there) = assumed_reading (circuit_of s) (chosen_places chosen) f (record { chosen = (cell_chosen chosen.readings f.cell).0 there; there = reading_in-at s lawful k f e })

  from : HasReading (circuit_of s) (chosen_places chosen) f → (k : ℕ) × (k < n) × (slice_get s.readings k ≡ Some f) × IsIn chosen.readings f.cell
  from h =
      let r : Measured s.readings f.cell f.value = measured_at s.readings f.cell f.value h.there in
      let this : r.1 ≡ f = by_parts r.1 r.3 r.4 in
      let inside : r.0 < length s.readings = slice_get_within s.readings r.0 r.1 r.2 in
      (r.0, omega arith, r.2 ∙ ap Some this, (cell_chosen chosen.readings f.cell).1 h.chosen)
    where
      by_parts : (g : Fact) → g.cell ≡ f.cell → g.value ≡ f.value → g ≡ f
      by_parts g cell value = ap₂ fact cell value
