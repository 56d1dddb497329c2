-- Valid derivations are true, and canonical ones are valid.
use Rattle.std.proofs.Common.{◌≡◌, ℕ, zero, suc, ◌<◌, ◌≤◌, ◌⊎◌, inl, inr, refl, sym, ap, ap₂, subst, ◌∙◌, List, [], ◌∷◌, map, Option, Some, None, slice_get, arith}
use Rattle.std.specs.Option.{option_map}
use Rattle.circuit_model.specs.declared.model.Cell.{Cell}
use Rattle.circuit_model.specs.declared.model.Fact.{Fact}
use Rattle.circuit_model.specs.declared.model.Assumption.TheVariants.{Part}
use Rattle.circuit_model.specs.Closure.{fact, AreHeld, IsForced, IsRefuted, Follows}
use Rattle.environment_sets.specs.Sets.{Set}
use Rattle.environment_sets.specs.Lists.{IsIn, IsRising}
use Rattle.environment_sets.proofs.Membership.{IsIn-slice_get, map-IsIn}
use Rattle.circuit_model.specs.Diagnoses.{Circuit, Place, AtPart}
use Rattle.circuit_model.specs.Derivation.{Justification, by_instance, Step, Measured, Inferred, Ending, Holds, TwoValues, Refuted, Goal, Value, Clash, fact_of, facts_behind, facts_in_clash, facts_at, IsAssumed, HoldsAt, IsRoundOf, IsOfInstance, Justifies, JustifiesClash, IsSupport, AtStart, Behind, IsSooner, AreStepsTo, IsClashOf, IsValidStep, AreValidAfter, IsValidEnding, IsMet, ValidDerivationsAreTrue, CanonicalDerivationsAreValid}
use Rattle.circuit_model.proofs.Monotony.{IsForced-map, IsRefuted-map}
use Rattle.circuit_model.proofs.Rounds.{Follows-forced, Clashes-refuted, Clashes-two_words}

-- each known word with its cell is one of the facts
pub IsIn-facts_at : (cells : List Cell) (known : List (Option ℕ)) (p v : ℕ) (c : Cell) → slice_get known p ≡ Some (Some v) → slice_get cells p ≡ Some c → IsIn (facts_at cells known) (fact c v)
IsIn-facts_at cells [] p v c k e = absurd (cc)
IsIn-facts_at [] (o ∷ known) p v c k e = absurd (cc)
IsIn-facts_at (d ∷ cells) (None ∷ known) zero v c k e = absurd (cc)
IsIn-facts_at (d ∷ cells) (None ∷ known) (suc p) v c k e = IsIn-facts_at cells known p v c k e
IsIn-facts_at (d ∷ cells) (Some w ∷ known) zero v c k e = let word : w ≡ v = cc in let cell : d ≡ c = cc in inl (ap₂ fact cell word)
IsIn-facts_at (d ∷ cells) (Some w ∷ known) (suc p) v c k e = inr (IsIn-facts_at cells known p v c k e)

module _ (P : Circuit) (E : Set Place) where
  forced : (H : Fact → Type 0) (f : Fact) (j : Justification) → Justifies P E H f j → IsForced (IsAssumed P E) H f
  forced H f j s = let i : IsOfInstance P E j s.instance s.known = s.of_instance in record {
    part = i.part;
    assumed = record { name = AtPart j.part; chosen = i.assumed; named = ap (option_map Part) i.at_position };
    instance = s.instance;
    of_part = IsIn-slice_get i.part j.instance s.instance i.at_place;
    known = s.known;
    from = s.held;
    port = s.port;
    at = s.at;
    forces = s.forces;
  }

  refuted : (H : Fact → Type 0) (j : Justification) → JustifiesClash P E H j → IsRefuted (IsAssumed P E) H
  refuted H j s = let i : IsOfInstance P E j s.instance s.known = s.of_instance in record {
    part = i.part;
    assumed = record { name = AtPart j.part; chosen = i.assumed; named = ap (option_map Part) i.at_position };
    instance = s.instance;
    of_part = IsIn-slice_get i.part j.instance s.instance i.at_place;
    known = s.known;
    from = s.held;
    refutes = s.refutes;
  }

  abbrev AreTrue : List Fact → Type 0
  AreTrue facts = (f : Fact) → IsIn facts f → Follows (IsAssumed P E) f

  step_true : (earlier : List Fact) → AreTrue earlier → (s : Step) → IsValidStep P E earlier s → Follows (IsAssumed P E) (fact_of s)
  step_true earlier sound (Measured f) h = (0, h)
  step_true earlier sound (Inferred f part instance ports from) h =
      Follows-forced (IsAssumed P E) f (IsForced-map (λ a x. x) sound (forced (λ g. IsIn earlier g) f (by_instance part instance ports from) h))

  steps_true : (earlier : List Fact) → AreTrue earlier → (steps : List Step) → AreValidAfter P E earlier steps → AreTrue (map fact_of steps)
  steps_true earlier sound [] valid f h = absurd h
  steps_true earlier sound (s ∷ steps) valid f h = elim h [ inl e ↦ sound_with f (inl e) | inr later ↦ steps_true (fact_of s ∷ earlier) sound_with steps valid.1 f later ]
    where
      sound_with : AreTrue (fact_of s ∷ earlier)
      sound_with f (inl e) = let Q : Fact → Type 0 = λ g. Follows (IsAssumed P E) g in subst Q e (step_true earlier sound s valid.0)
      sound_with f (inr h) = sound f h

  ending_true : (shown : List Fact) → AreTrue shown → (goal : Goal) (ending : Ending) → IsValidEnding P E shown goal ending → IsMet P E goal
  ending_true shown sound (Value f) Holds h = sound f h
  ending_true shown sound (Value f) (TwoValues c low high) h = absurd h
  ending_true shown sound (Value f) (Refuted part instance ports from) h = absurd h
  ending_true shown sound Clash Holds h = absurd h
  ending_true shown sound Clash (TwoValues c low high) h =
      let less : low < high = h.0 in
      Clashes-two_words (IsAssumed P E) (record { cell = c; low = low; high = high; low_holds = sound _ h.1; high_holds = sound _ h.2; differ = λ e. omega (arith, e, less) })
  ending_true shown sound Clash (Refuted part instance ports from) h =
      Clashes-refuted (IsAssumed P E) (IsRefuted-map (λ a x. x) sound (refuted (λ g. IsIn shown g) (by_instance part instance ports from) h))

  abbrev Behinds : List Fact → List Step → Type 0
  Behinds earlier steps = (s : Step) → IsIn steps s → (g : Fact) → IsIn (facts_behind s) g → IsIn earlier g ⊎ ((t : Step) × IsIn steps t × (fact_of t ≡ g))

  -- what holds before its round is not of the step or of a later one
  no_later : (n : ℕ) (s t : Step) (g : Fact) → IsRoundOf P E (fact_of s) (suc n) → HoldsAt P E n g → fact_of t ≡ g → IsSooner P E s t → ⊥
  no_later n s t g round holds e sooner =
      let Q : Fact → Type 0 = λ f. HoldsAt P E n f in
      let early : sooner.other ≤ n = sooner.is_other.first n (subst Q (sym e) holds) in
      let late : suc n ≤ sooner.round = round.first sooner.round sooner.is_round.holds in
      elim sooner.sooner [ inl less ↦ omega (arith, early, late, less) | inr same ↦ omega (arith, early, late, same.0) ]

  not_itself : (n : ℕ) (s t : Step) (g : Fact) → IsRoundOf P E (fact_of s) (suc n) → HoldsAt P E n g → fact_of t ≡ g → s ≡ t → ⊥
  not_itself n s t g round holds e same =
      let Q : Fact → Type 0 = λ f. HoldsAt P E n f in
      let here : g ≡ fact_of s = cc in
      let early : suc n ≤ n = round.first n (subst Q here holds) in
      omega (arith, early)

  held_earlier : (H K : Fact → Type 0) (cells : List Cell) (known : List (Option ℕ)) → ((g : Fact) → IsIn (facts_at cells known) g → H g → K g) → AreHeld H cells known → AreHeld K cells known
  held_earlier H K cells known to h = record { wide = h.wide; held = λ p v c a b. to _ (IsIn-facts_at cells known p v c a b) (h.held p v c a b); alike = h.alike }

  head_valid : (earlier : List Fact) (s : Step) (steps : List Step) → ((t : Step) → IsIn steps t → IsSooner P E s t) → Behinds earlier (s ∷ steps) → IsSupport P E s → IsValidStep P E earlier s
  head_valid earlier (Measured f) steps rising behind h = h
  head_valid earlier (Inferred f part instance ports from) steps rising behind (n, round, best) =
      let j : Justification = by_instance part instance ports from in
      let s : Justifies P E (HoldsAt P E n) f j = best.holds in record {
        instance = s.instance;
        known = s.known;
        of_instance = s.of_instance;
        held = held_earlier (HoldsAt P E n) (λ g. IsIn earlier g) s.instance.cells s.known (λ g there holds. is_earlier g (let Q : List Fact → Type 0 = λ gs. IsIn gs g in subst Q (sym s.of_instance.from) there) holds) s.held;
        port = s.port;
        at = s.at;
        forces = s.forces;
      }
    where
      is_earlier : (g : Fact) → IsIn from g → HoldsAt P E n g → IsIn earlier g
      is_earlier g there holds = elim (behind (Inferred f part instance ports from) (inl refl) g there) [
        | inl h ↦ h
        | inr found ↦ elim found.1 [
          | inl same ↦ absurd (not_itself n (Inferred f part instance ports from) found.0 g round holds found.2 same)
          | inr later ↦ absurd (no_later n (Inferred f part instance ports from) found.0 g round holds found.2 (rising found.0 later))
        ]
      ]

  all_valid : (earlier : List Fact) (steps : List Step) → IsRising (IsSooner P E) steps → ((s : Step) → IsIn steps s → IsSupport P E s) → Behinds earlier steps → AreValidAfter P E earlier steps
  all_valid earlier [] rising supports behind = tt
  all_valid earlier (s ∷ steps) rising supports behind = (
    head_valid earlier s steps rising.0 behind (supports s (inl refl)),
    all_valid (fact_of s ∷ earlier) steps rising.1 (λ t h. supports t (inr h)) behind_rest,
  )
    where
      behind_rest : Behinds (fact_of s ∷ earlier) steps
      behind_rest t h g there = elim (behind t (inr h) g there) [
        | inl k ↦ inl (inr k)
        | inr found ↦ elim found.1 [
          | inl same ↦ inl (inl (ap fact_of same ∙ found.2))
          | inr later ↦ inr (found.0, later, found.2)
        ]
      ]

  canonical_steps : (facts : List Fact) (steps : List Step) → AreStepsTo P E facts steps → AreValidAfter P E [] steps
  canonical_steps facts steps a =
      all_valid [] steps a.rising a.supports (λ s h g there. inr (a.complete g (Behind s g (a.reached s h) (a.supports s h) there)))

  shown : (facts : List Fact) (steps : List Step) → AreStepsTo P E facts steps → (f : Fact) → IsIn facts f → IsIn (map fact_of steps) f
  shown facts steps a f h =
      let found : (s : Step) × IsIn steps s × (fact_of s ≡ f) = a.complete f (AtStart f h) in
      let Q : Fact → Type 0 = λ g. IsIn (map fact_of steps) g in
      subst Q found.2 (map-IsIn fact_of steps found.0 found.1)

  clash_valid : (n : ℕ) (ending : Ending) (given : List Fact) → ((f : Fact) → IsIn (facts_in_clash ending) f → IsIn given f) → IsClashOf P E n ending → IsValidEnding P E given Clash ending
  clash_valid n Holds given in_given h = h
  clash_valid n (TwoValues c low high) given in_given h = (h.rising, in_given _ (inl refl), in_given _ (inr (inl refl)))
  clash_valid n (Refuted part instance ports from) given in_given h =
      let j : Justification = by_instance part instance ports from in
      let s : JustifiesClash P E (HoldsAt P E n) j = h.1.holds in record {
        instance = s.instance;
        known = s.known;
        of_instance = s.of_instance;
        held = held_earlier (HoldsAt P E n) (λ g. IsIn given g) s.instance.cells s.known (λ g there _. in_given g (let Q : List Fact → Type 0 = λ gs. IsIn gs g in subst Q (sym s.of_instance.from) there)) s.held;
        refutes = s.refutes;
      }

pub valid_derivations_are_true : ValidDerivationsAreTrue
valid_derivations_are_true P E goal d valid =
    ending_true P E (map fact_of d.steps) (steps_true P E [] (λ f h. absurd h) d.steps valid.steps) goal d.ending valid.ending

pub canonical_derivations_are_valid : CanonicalDerivationsAreValid
canonical_derivations_are_valid P E (Value f) d c = record {
  steps = canonical_steps P E (f ∷ []) d.steps c.steps;
  ending = let Q : Ending → Type 0 = λ e. IsValidEnding P E (map fact_of d.steps) (Value f) e in subst Q (sym c.ending) (shown P E (f ∷ []) d.steps c.steps f (inl refl));
}
canonical_derivations_are_valid P E Clash d c = record {
  steps = canonical_steps P E (facts_in_clash d.ending) d.steps c.steps;
  ending = clash_valid P E c.round d.ending (map fact_of d.steps) (shown P E (facts_in_clash d.ending) d.steps c.steps) c.ending;
}
