-- The first words that force a fact are its first justification.
use Rattle.std.proofs.Common.{◌≡◌, ℕ, zero, suc, ◌<◌, inl, inr, IsTrue, List, [], ◌∷◌, length, slice_get, get_or, Option, Some, refl, sym, ap, subst, ◌∙◌, arith}
use Rattle.std.specs.Option.{option_map}
use Rattle.std.proofs.lemmas.List.{length-map}
use Rattle.std.proofs.lemmas.Option.{slice_get-map, slice_get-get_or, slice_get_within}
use Rattle.environment_sets.specs.Sets.{Set}
use Rattle.environment_sets.specs.Lists.{IsIn, IsRising}
use Rattle.environment_sets.proofs.Membership.{IsIn-slice_get}
use Rattle.circuit_model.specs.declared.model.Cell.{Cell}
use Rattle.circuit_model.specs.declared.model.Fact.{Fact}
use Rattle.circuit_model.specs.declared.model.Instance.{Instance}
use Rattle.circuit_model.specs.Closure.{AreHeld}
use Rattle.circuit_model.specs.Inference.{Forces}
use Rattle.circuit_model.specs.Diagnoses.{Place, AtPart}
use Rattle.circuit_model.specs.Derivation.{Justification, by_instance, number_of, facts_at, HoldsAt, IsOfInstance, Justifies, IsFirst, IsJustificationBefore}
use Rattle.circuit_model.specs.Present.{PresentView, IsLawful, circuit_of}
use Rattle.proof_check.specs.Closing.{Timed}
use Rattle.proof_check.specs.Written.{given}
use Rattle.proof_check.proofs.Fitting.{IsAtPosition, component_at}
use Rattle.proof_check.proofs.Instances.{cells_of}
use Rattle.explanations.specs.declared.forcing.Forcing.{Forcing}
use Rattle.explanations.specs.Words.{word_by, chosen_words, TellsRound}
use Rattle.explanations.specs.Forcing.{IsForcing, IsForcingIn, IsFirstIn, IsForcingAt, IsFirstAt, words_of}
use Rattle.explanations.proofs.Choices.{AreOf, length-chosen_words, chosen_words-of, known-chosen_words}

-- what is told of words at cells, place by place
module _ (facts : List Timed) (round : ℕ) (instance : Instance) where
  pub word_told : (p v : ℕ) (c : Cell) → slice_get instance.cells p ≡ Some c → slice_get (words_of facts round instance) p ≡ Some (Some v) → word_by facts round c ≡ Some v
  word_told p v c at word =
      let here : Some (word_by facts round c) ≡ Some (Some v) = sym (ap (option_map (word_by facts round)) at) ∙ (sym (slice_get-map (word_by facts round) instance.cells p) ∙ word) in
      cc

  pub told_word : (p v : ℕ) (c : Cell) → slice_get instance.cells p ≡ Some c → word_by facts round c ≡ Some v → slice_get (words_of facts round instance) p ≡ Some (Some v)
  told_word p v c at word = slice_get-map (word_by facts round) instance.cells p ∙ (ap (option_map (word_by facts round)) at ∙ ap Some word)

module _ (s : PresentView) (lawful : IsLawful s) (E : Set Place) (facts : List Timed) (round : ℕ) (told : TellsRound s E facts round) (f : Fact) where
  three_cells : (position : ℕ) (part : List Instance) (place : ℕ) (instance : Instance) → slice_get (circuit_of s).parts position ≡ Some part → slice_get part place ≡ Some instance → length instance.cells ≡ 3
  three_cells position part place instance at_position at_place =
      let c : IsAtPosition s position part = component_at s position part at_position in
      (cells_of s lawful position c.component c.there instance (let Q : List Instance → Type 0 = λ p. IsIn p instance in subst Q (sym c.part) (IsIn-slice_get part place instance at_place))).three

  -- the facts at these ports
  abbrev pub from_words : Instance → ℕ → List Fact
  from_words instance ports = facts_at instance.cells (chosen_words ports (words_of facts round instance))

  words_held : (instance : Instance) → length instance.cells ≡ 3 → (ports : ℕ) → AreHeld (HoldsAt (circuit_of s) E round) instance.cells (chosen_words ports (words_of facts round instance))
  words_held instance three ports = record {
    wide = length-chosen_words ports (words_of facts round instance) ∙ (length-map instance.cells (word_by facts round) ∙ three);
    held = λ p v c known at. (told c v).0 (word p v c known at);
    alike = λ p q v w c known at other there. let one = word p v c known at in let two = word q w c other there in cc;
  }
    where
      word : (p v : ℕ) (c : Cell) → slice_get (chosen_words ports (words_of facts round instance)) p ≡ Some (Some v) → slice_get instance.cells p ≡ Some c → word_by facts round c ≡ Some v
      word p v c known at = word_told facts round instance p v c at (chosen_words-of ports (words_of facts round instance) p v known)

  -- words that force are a justification
  pub justifies : (position : ℕ) → IsTrue (E (AtPart position)) → (part : List Instance) → slice_get (circuit_of s).parts position ≡ Some part → (place : ℕ) (instance : Instance) → slice_get part place ≡ Some instance → (ports : ℕ) → IsForcing instance (words_of facts round instance) f ports
      → Justifies (circuit_of s) E (HoldsAt (circuit_of s) E round) f (by_instance position place ports (from_words instance ports))
  justifies position chosen part at_position place instance at_place ports h = record {
    instance = instance;
    known = chosen_words ports (words_of facts round instance);
    of_instance = record { assumed = chosen; part = part; at_position = at_position; at_place = at_place; ports = sym h.known; from = refl };
    held = words_held instance (three_cells position part place instance at_position at_place) ports;
    port = h.port;
    at = h.at;
    forces = h.forces;
  }

  module _ (j : Justification) (h : Justifies (circuit_of s) E (HoldsAt (circuit_of s) E round) f j) where
    abbrev i : IsOfInstance (circuit_of s) E j h.instance h.known
    i = h.of_instance

    three : length h.instance.cells ≡ 3
    three = three_cells j.part i.part j.instance h.instance i.at_position i.at_place

    wide : length h.known ≡ length (words_of facts round h.instance)
    wide = h.held.wide ∙ sym (length-map h.instance.cells (word_by facts round) ∙ three)

    of_words : AreOf h.known (words_of facts round h.instance)
    of_words p v known =
        let inside : p < length h.known = slice_get_within h.known p (Some v) known in
        let no_cell : Cell = record { net = 0; cycle = 0 } in
        let c : Cell = get_or h.instance.cells p no_cell in
        let at : slice_get h.instance.cells p ≡ Some c = slice_get-get_or h.instance.cells p no_cell (omega (arith, inside, h.held.wide, three)) in
        told_word facts round h.instance p v c at ((told c v).1 (h.held.held p v c known at))

    pub known_are : h.known ≡ chosen_words j.ports (words_of facts round h.instance)
    known_are = known-chosen_words h.known (words_of facts round h.instance) wide of_words ∙ ap (λ n. chosen_words n (words_of facts round h.instance)) (sym i.ports)

    -- a justification has words that force
    pub forcing_of : IsForcing h.instance (words_of facts round h.instance) f j.ports
    forcing_of = record {
      known = ap number_of (sym known_are) ∙ sym i.ports;
      port = h.port;
      at = h.at;
      forces = let Q : List (Option ℕ) → Type 0 = λ ws. Forces h.instance.prim h.instance.widths ws h.port f.value in subst Q known_are h.forces;
    }

    pub forcing_in_part : IsForcingIn facts round f h.of_instance.part j.instance j.ports
    forcing_in_part = record { instance = h.instance; at_place = i.at_place; forcing = forcing_of }

    pub forcing_at_part : IsForcingAt (circuit_of s) facts round f j.part j.instance j.ports
    forcing_at_part = record { part = i.part; at_position = i.at_position; forcing = forcing_in_part }

    -- and its facts are those at the ports
    pub from_are : j.from ≡ from_words h.instance j.ports
    from_are = i.from ∙ ap (facts_at h.instance.cells) known_are

  -- the first words of the first component that has such are the first justification
  pub first_justifies : (position : ℕ) → IsTrue (E (AtPart position)) → (found : Forcing) → IsFirstAt (circuit_of s) facts round f position found → ((p : ℕ) → p < position → IsTrue (E (AtPart p)) → (place ports : ℕ) → IsForcingAt (circuit_of s) facts round f p place ports → ⊥)
      → IsFirst (Justifies (circuit_of s) E (HoldsAt (circuit_of s) E round) f) (by_instance position found.instance found.ports (given found.from))
  first_justifies position chosen found at none = record { holds = holds; first = first } where
    j : Justification
    j = by_instance position found.instance found.ports (given found.from)

    at_first : IsFirstIn facts round f at.part found
    at_first = at.first

    holds : Justifies (circuit_of s) E (HoldsAt (circuit_of s) E round) f (by_instance position found.instance found.ports (given found.from))
    holds =
        let Q : List Fact → Type 0 = λ from. Justifies (circuit_of s) E (HoldsAt (circuit_of s) E round) f (by_instance position found.instance found.ports from) in
        subst Q (sym at_first.from) (justifies position chosen at.part at.at_position found.instance at_first.instance at_first.at_place found.ports at_first.forcing)

    same_part : (k : Justification) (h : Justifies (circuit_of s) E (HoldsAt (circuit_of s) E round) f k) → k.part ≡ position → IsForcingIn facts round f at.part k.instance k.ports
    same_part k h same =
        let o : IsOfInstance (circuit_of s) E k h.instance h.known = h.of_instance in
        let there : slice_get (circuit_of s).parts position ≡ Some o.part = (let Q : ℕ → Type 0 = λ p. slice_get (circuit_of s).parts p ≡ Some o.part in subst Q same o.at_position) in
        let here : slice_get (circuit_of s).parts position ≡ Some at.part = at.at_position in
        let part : o.part ≡ at.part = cc in
        subst (λ (p : List Instance). IsForcingIn facts round f p k.instance k.ports) part (forcing_in_part k h)

    first : (k : Justification) → Justifies (circuit_of s) E (HoldsAt (circuit_of s) E round) f k → IsJustificationBefore k (by_instance position found.instance found.ports (given found.from)) → ⊥
    first k h (inl before) = none k.part before h.of_instance.assumed k.instance k.ports (forcing_at_part k h)
    first k h (inr (same, rest)) = elim (at_first.first k.instance k.ports (same_part k h same)) [
      | inl later ↦ elim rest [ inl before ↦ omega (arith, later, before) | inr here ↦ omega (arith, later, here.0) ]
      | inr there ↦ elim rest [ inl before ↦ omega (arith, there.0, before) | inr here ↦ omega (arith, there.1, here.1) ]
    ]

-- in a rising list a smaller number stands before
pub smaller_before : (xs : List ℕ) → IsRising (λ i j. i < j) xs → (i k a b : ℕ) → slice_get xs i ≡ Some a → slice_get xs k ≡ Some b → b < a → k < i
smaller_before [] rising i k a b e l less = absurd (cc)
smaller_before (x ∷ xs) rising zero zero a b e l less = let same : a ≡ b = cc in absurd (omega arith)
smaller_before (x ∷ xs) rising zero (suc k) a b e l less = let is : x ≡ a = cc in let above : x < b = rising.0 b (IsIn-slice_get xs k b l) in absurd (omega arith)
smaller_before (x ∷ xs) rising (suc i) zero a b e l less = omega arith
smaller_before (x ∷ xs) rising (suc i) (suc k) a b e l less = let r = smaller_before xs rising.1 i k a b e l less in omega (arith, r)
