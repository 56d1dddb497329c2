-- Valid steps, one more at the end.
use Rattle.std.proofs.Common.{◌≡◌, ℕ, ◌⊎◌, inl, inr, ◌+◌, ◌<◌, ◌≤◌, List, [], ◌∷◌, ◌++◌, length, map, take, drop, get_or, sym, ap, subst, ◌∙◌}
use Rattle.std.proofs.lemmas.List.{take_more, take_all, take-append-drop, map-append}
use Rattle.environment_sets.specs.Sets.{Set}
use Rattle.environment_sets.specs.Lists.{IsIn}
use Rattle.circuit_model.specs.declared.model.Fact.{Fact}
use Rattle.circuit_model.specs.Diagnoses.{Circuit, Place}
use Rattle.circuit_model.specs.Derivation.{Justification, by_instance, Step, Measured, Inferred, fact_of, Justifies, IsValidStep, AreValidAfter}
use Rattle.circuit_model.proofs.Monotony.{AreHeld-map}
use Rattle.proof_check.specs.declared.derivation.Step as rust
use Rattle.proof_check.specs.declared.derivation.Step.TheVariants as variants
use Rattle.proof_check.specs.Written.{step_of, facts_of}

module _ (P : Circuit) (E : Set Place) where
  pub Justifies-map : (H K : Fact → Type 0) (f : Fact) (j : Justification) → ((g : Fact) → H g → K g) → Justifies P E H f j → Justifies P E K f j
  Justifies-map H K f j to h = record { instance = h.instance; known = h.known; of_instance = h.of_instance; held = AreHeld-map to h.held; port = h.port; at = h.at; forces = h.forces }

  step_map : (e k : List Fact) → ((f : Fact) → IsIn e f → IsIn k f) → (s : Step) → IsValidStep P E e s → IsValidStep P E k s
  step_map e k to (Measured f) h = h
  step_map e k to (Inferred f part instance ports from) h = Justifies-map (λ g. IsIn e g) (λ g. IsIn k g) f (by_instance part instance ports from) to h

  -- the first ones of valid steps are valid
  pub valid_before : (earlier : List Fact) (xs ys : List Step) → AreValidAfter P E earlier (xs ++ ys) → AreValidAfter P E earlier xs
  valid_before earlier [] ys h = tt
  valid_before earlier (x ∷ xs) ys h = (h.0, valid_before (fact_of x ∷ earlier) xs ys h.1)

  last_by : (earlier : List Fact) (xs : List Step) (s : Step) → AreValidAfter P E earlier (xs ++ s ∷ []) → (more : List Fact) → ((f : Fact) → IsIn earlier f ⊎ IsIn (map fact_of xs) f → IsIn more f) → IsValidStep P E more s
  last_by earlier [] s h more to = step_map earlier more (λ f at. to f (inl at)) s h.0
  last_by earlier (x ∷ xs) s h more to = last_by (fact_of x ∷ earlier) xs s h.1 more (λ f at. elim at as (λ _. IsIn more f) [
    | inl a ↦ elim a as (λ _. IsIn more f) [ inl e ↦ to f (inr (inl e)) | inr b ↦ to f (inl b) ]
    | inr b ↦ to f (inr (inr b))
  ])

  push_by : (earlier : List Fact) (xs : List Step) (s : Step) → AreValidAfter P E earlier xs → (less : List Fact) → ((f : Fact) → IsIn less f → IsIn earlier f ⊎ IsIn (map fact_of xs) f) → IsValidStep P E less s → AreValidAfter P E earlier (xs ++ s ∷ [])
  push_by earlier [] s v less to h = (step_map less earlier (λ f at. elim (to f at) as (λ _. IsIn earlier f) [ inl a ↦ a | inr b ↦ absurd b ]) s h, tt)
  push_by earlier (x ∷ xs) s v less to h = (
    v.0,
    push_by (fact_of x ∷ earlier) xs s v.1 less (λ f at. elim (to f at) as (λ _. IsIn (fact_of x ∷ earlier) f ⊎ IsIn (map fact_of xs) f) [
      | inl a ↦ inl (inr a)
      | inr b ↦ elim b as (λ _. IsIn (fact_of x ∷ earlier) f ⊎ IsIn (map fact_of xs) f) [ inl e ↦ inl (inl e) | inr k ↦ inr k ]
    ]) h,
  )

  -- the last one of valid steps is valid after the others
  pub valid_last : (xs : List Step) (s : Step) → AreValidAfter P E [] (xs ++ s ∷ []) → IsValidStep P E (map fact_of xs) s
  valid_last xs s h = last_by [] xs s h (map fact_of xs) (λ f at. elim at as (λ _. IsIn (map fact_of xs) f) [ inl a ↦ absurd a | inr b ↦ b ])

  -- one step more
  pub valid_push : (xs : List Step) (s : Step) → AreValidAfter P E [] xs → IsValidStep P E (map fact_of xs) s → AreValidAfter P E [] (xs ++ s ∷ [])
  valid_push xs s v h = push_by [] xs s v (map fact_of xs) (λ f at. inr at) h

  module _ (steps : List rust.Step) (i : ℕ) where
    abbrev no_step : rust.Step
    no_step = variants.Measured (record { cell = record { net = 0; cycle = 0 }; value = 0 })

    steps_more : i < length steps → map step_of (take (i + 1) steps) ≡ map step_of (take i steps) ++ step_of (get_or steps i no_step) ∷ []
    steps_more inside = ap (λ (ss : List rust.Step). map step_of ss) (take_more steps i no_step inside) ∙ map-append step_of (take i steps) (get_or steps i no_step ∷ [])

    -- of valid steps each is valid after those before it
    pub valid_at : i < length steps → AreValidAfter P E [] (map step_of steps) → IsValidStep P E (facts_of (take i steps)) (step_of (get_or steps i no_step))
    valid_at inside v =
        let Q : List Step → Type 0 = λ ss. AreValidAfter P E [] ss in
        let split : map step_of steps ≡ map step_of (take (i + 1) steps) ++ map step_of (drop (i + 1) steps) =
        ap (λ (ss : List rust.Step). map step_of ss) (sym (take-append-drop (i + 1) steps)) ∙ map-append step_of (take (i + 1) steps) (drop (i + 1) steps) in
        valid_last (map step_of (take i steps)) (step_of (get_or steps i no_step)) (subst Q (steps_more inside) (valid_before [] (map step_of (take (i + 1) steps)) (map step_of (drop (i + 1) steps)) (subst Q split v)))

    -- one step more
    pub valid_more : i < length steps → AreValidAfter P E [] (map step_of (take i steps)) → IsValidStep P E (facts_of (take i steps)) (step_of (get_or steps i no_step)) → AreValidAfter P E [] (map step_of (take (i + 1) steps))
    valid_more inside v h =
        let Q : List Step → Type 0 = λ ss. AreValidAfter P E [] ss in
        subst Q (sym (steps_more inside)) (valid_push (map step_of (take i steps)) (step_of (get_or steps i no_step)) v h)

    -- all of them
    pub valid_all : length steps ≤ i → AreValidAfter P E [] (map step_of (take i steps)) → AreValidAfter P E [] (map step_of steps)
    valid_all all v =
        let Q : List rust.Step → Type 0 = λ ss. AreValidAfter P E [] (map step_of ss) in
        let whole : take i steps ≡ steps = take_all i steps all in
        subst Q whole v
