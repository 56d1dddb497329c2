-- Looking at all justifications, one after another.
use Rattle.std.proofs.Common.{◌≡◌, ℕ, zero, suc, ◌+◌, ◌<◌, ◌≤◌, ◌⊎◌, inl, inr, true, false, IsTrue, List, [], ◌∷◌, length, Option, Some, None, is_some, MatchOption, slice_get, true≢false, refl, sym, subst, ◌∙◌, arith}
use Rattle.std.specs.Option.{option_map}
use Rattle.std.proofs.lemmas.Bool.{cases_eq, false≢true}
use Rattle.std.proofs.lemmas.Option.{slice_get-map, slice_get_within}
use Rattle.environment_sets.specs.Sets.{Set}
use Rattle.environment_sets.specs.Lists.{IsIn}
use Rattle.circuit_model.specs.declared.model.Cell.{Cell}
use Rattle.circuit_model.specs.declared.model.Fact.{Fact}
use Rattle.circuit_model.specs.declared.model.Instance.{Instance}
use Rattle.circuit_model.specs.declared.present.Component.{Component}
use Rattle.circuit_model.specs.Closure.{fact, AreTwoWords}
use Rattle.circuit_model.specs.Inference.{IsUnknownAt}
use Rattle.circuit_model.specs.Diagnoses.{Place, AtPart}
use Rattle.circuit_model.specs.Derivation as derivations
use Rattle.circuit_model.specs.Derivation.{Justification, by_instance, number_of, facts_at, IsJustificationBefore, IsOfInstance, Justifies, JustifiesClash}
use Rattle.circuit_model.specs.Present.{PresentView, circuit_of}
use Rattle.proof_check.specs.declared.derivation.Ending.{Ending}
use Rattle.proof_check.specs.declared.derivation.Ending.TheVariants as endings
use Rattle.proof_check.specs.Written.{ending_of}
use Rattle.proof_check.specs.Checking.{IsInstanceOf, IsPlaced}
use Rattle.proof_check.specs.Rounds.{AreCalm, IsReady, IsForcedAt, IsQuietAt, IsRefutedAt, IsForcedBefore, AreLookedAt, from_here, IsFirstClash, Looks, IsQuietBut, AreElsewhere, IsAtSome}
use Rattle.proof_check.specs.Ordered.{IsFirstPair}
use Rattle.proof_check.specs.Turns.{AreForced, IsClashOfFacts}
use Rattle.proof_check.proofs.Told.{facts_at-there}
use Rattle.proof_check.proofs.HeldWords.{Adds-none, Adds-more, Adds-as}

-- an option with a value
pub at_some : {X : Type 0} (A B : Type 0) (Q : X → Type 0) (o : Option X) → is_some o ≡ true → MatchOption o A Q → MatchOption o B Q
at_some A B Q None is h = absurd (false≢true is)
at_some A B Q (Some x) is h = h

-- an option without a value
pub at_none : {X : Type 0} (A : Type 0) (Q : X → Type 0) (o : Option X) → is_some o ≡ false → MatchOption o A Q → A
at_none A Q None is h = h
at_none A Q (Some x) is h = absurd (true≢false is)

-- where some port has no known word, the number of the others is below that of all three
number_of-open : (known : List (Option ℕ)) (p : ℕ) → length known ≡ 3 → IsUnknownAt known p → number_of known < 7
number_of-open [] p three unknown = absurd (omega arith)
number_of-open (a ∷ []) p three unknown = absurd (omega arith)
number_of-open (a ∷ b ∷ []) p three unknown = absurd (omega arith)
number_of-open (None ∷ None ∷ None ∷ []) p three unknown = omega arith
number_of-open (None ∷ None ∷ Some z ∷ []) p three unknown = omega arith
number_of-open (None ∷ Some b ∷ None ∷ []) p three unknown = omega arith
number_of-open (None ∷ Some b ∷ Some z ∷ []) p three unknown = omega arith
number_of-open (Some a ∷ None ∷ None ∷ []) p three unknown = omega arith
number_of-open (Some a ∷ None ∷ Some z ∷ []) p three unknown = omega arith
number_of-open (Some a ∷ Some b ∷ None ∷ []) p three unknown = omega arith
number_of-open (Some a ∷ Some b ∷ Some z ∷ []) zero three unknown = cc
number_of-open (Some a ∷ Some b ∷ Some z ∷ []) (suc zero) three unknown = cc
number_of-open (Some a ∷ Some b ∷ Some z ∷ []) (suc (suc zero)) three unknown = cc
number_of-open (Some a ∷ Some b ∷ Some z ∷ []) (suc (suc (suc p))) three unknown = cc
number_of-open (a ∷ b ∷ z ∷ y ∷ rest) p three unknown = absurd (omega arith)

module _ (s : PresentView) (E : Set Place) (held : List Fact) where
  abbrev K : Fact → Type 0
  K f = IsIn held f

  -- there is such an instance in a component of the environment, and some port is left out
  record IsPossible (j : Justification) : Type 0 where
    low : j.ports < 7
    chosen : IsTrue (E (AtPart j.part))
    part : List Instance
    at_position : slice_get (circuit_of s).parts j.part ≡ Some part
    inside : j.instance < length part

  possible : (j : Justification) (instance : Instance) (known : List (Option ℕ)) (p : ℕ) → length known ≡ 3 → IsUnknownAt known p → IsOfInstance (circuit_of s) E j instance known → IsPossible j
  possible j instance known p three unknown i = record {
    low = rw i.ports (number_of-open known p three unknown);
    chosen = i.assumed;
    part = i.part;
    at_position = i.at_position;
    inside = slice_get_within i.part j.instance instance i.at_place;
  }

  possible_force : (j : Justification) (f : Fact) → Justifies (circuit_of s) E K f j → IsPossible j
  possible_force j f h = possible j h.instance h.known h.port h.held.wide h.forces.unknown h.of_instance

  possible_clash : (j : Justification) → JustifiesClash (circuit_of s) E K j → IsPossible j
  possible_clash j h = possible j h.instance h.known h.refutes.open_port.0 h.held.wide h.refutes.open_port.2 h.of_instance

  -- where no more justifications are possible, one may go on
  look_on : (next after : Justification) (found : List Fact) → ((j : Justification) → IsPossible j → IsJustificationBefore j after → IsJustificationBefore j next) → ((j : Justification) → IsJustificationBefore j next → IsJustificationBefore j after) → AreLookedAt s E held next found → AreLookedAt s E held after found
  look_on next after found from to looked = record {
    fine = λ j before clash. looked.fine j (from j (possible_clash j clash) before) clash;
    forced = Adds-as (IsForcedBefore s E held next) (IsForcedBefore s E held after) held [] found (λ f (j, before, h). (j, from j (possible_force j f h) before, h)) (λ f (j, before, h). (j, to j before, h)) looked.forced;
  }

  -- nothing comes before the first one
  pub looked_none : AreLookedAt s E held (from_here 0 0 0) []
  looked_none = record {
    fine = λ j before clash. nothing_before j before;
    forced = Adds-none (IsForcedBefore s E held (from_here 0 0 0)) held [] (λ f (j, before, h). absurd (nothing_before j before));
  } where
    nothing_before : (j : Justification) → IsJustificationBefore j (from_here 0 0 0) → ⊥
    nothing_before j (inl low) = omega arith
    nothing_before j (inr (e, inl low)) = omega arith
    nothing_before j (inr (e, inr (k, low))) = omega arith

  -- what looking at all of them says
  pub record AreAllLookedAt (found : List Fact) : Type 0 where
    pub fine : (j : Justification) → JustifiesClash (circuit_of s) E K j → ⊥
    pub entered : (j : Justification) (f : Fact) → Justifies (circuit_of s) E K f j → IsIn held f ⊎ IsIn found f
    pub sound : (f : Fact) → IsIn found f → ((j : Justification) × Justifies (circuit_of s) E K f j) × (IsIn held f → ⊥)

  pub looked_all : (found : List Fact) → AreLookedAt s E held (from_here (length s.parts) 0 0) found → AreAllLookedAt found
  looked_all found looked = record {
    fine = λ j clash. looked.fine j (before_end j (possible_clash j clash)) clash;
    entered = λ j f h. looked.forced.entered f (j, before_end j (possible_force j f h), h);
    sound = λ f h. elim (looked.forced.sound f h) [ inl none ↦ absurd none | inr (b, out) ↦ ((b.0, b.2), out) ];
  } where
    before_end : (j : Justification) → IsPossible j → IsJustificationBefore j (from_here (length s.parts) 0 0)
    before_end j p =
        inl (by_place (slice_get s.parts j.part) refl (sym (slice_get-map (λ (c : Component). c.part) s.parts j.part) ∙ p.at_position))
      where
        by_place : (o : Option Component) → slice_get s.parts j.part ≡ o → option_map (λ (c : Component). c.part) o ≡ Some p.part → j.part < length s.parts
        by_place None is e = cc
        by_place (Some c) is e = slice_get_within s.parts j.part c is

  -- a component that is not one of the environment
  pub look_past : (p : ℕ) (found : List Fact) → (IsTrue (E (AtPart p)) → ⊥) → AreLookedAt s E held (from_here p 0 0) found → AreLookedAt s E held (from_here (p + 1) 0 0) found
  look_past p found out = look_on (from_here p 0 0) (from_here (p + 1) 0 0) found from to where
    from : (j : Justification) → IsPossible j → IsJustificationBefore j (from_here (p + 1) 0 0) → IsJustificationBefore j (from_here p 0 0)
    from j possible (inr (e, inl low)) = absurd (omega arith)
    from j possible (inr (e, inr (k, low))) = absurd (omega arith)
    from j possible (inl low) = elim (cases_eq j.part p) [
      | inl e ↦ absurd (out (subst (λ (p : ℕ). IsTrue (E (AtPart p))) e possible.chosen))
      | inr other ↦ inl (omega arith)
    ]

    to : (j : Justification) → IsJustificationBefore j (from_here p 0 0) → IsJustificationBefore j (from_here (p + 1) 0 0)
    to j (inl low) = inl (omega arith)
    to j (inr (e, inl low)) = absurd (omega arith)
    to j (inr (e, inr (k, low))) = absurd (omega arith)

  -- all instances of a component
  pub look_end : (p n : ℕ) (part : List Instance) (found : List Fact) → slice_get (circuit_of s).parts p ≡ Some part → length part ≤ n → AreLookedAt s E held (from_here p n 0) found → AreLookedAt s E held (from_here (p + 1) 0 0) found
  look_end p n part found at all = look_on (from_here p n 0) (from_here (p + 1) 0 0) found from to where
    from : (j : Justification) → IsPossible j → IsJustificationBefore j (from_here (p + 1) 0 0) → IsJustificationBefore j (from_here p n 0)
    from j possible (inr (e, inl low)) = absurd (omega arith)
    from j possible (inr (e, inr (k, low))) = absurd (omega arith)
    from j possible (inl low) = elim (cases_eq j.part p) [
      | inl e ↦
          let here : slice_get (circuit_of s).parts p ≡ Some possible.part = subst (λ (p : ℕ). slice_get (circuit_of s).parts p ≡ Some possible.part) e possible.at_position in
          let same : possible.part ≡ part = cc in
          let inside : j.instance < length part = subst (λ (part : List Instance). j.instance < length part) same possible.inside in
          inr (e, inl (omega arith))
      | inr other ↦ inl (omega arith)
    ]

    to : (j : Justification) → IsJustificationBefore j (from_here p n 0) → IsJustificationBefore j (from_here (p + 1) 0 0)
    to j (inl low) = inl (omega arith)
    to j (inr (e, h)) = inl (omega arith)

  -- all choices of an instance's ports
  pub look_ports_end : (p i n : ℕ) (found : List Fact) → 7 ≤ n → AreLookedAt s E held (from_here p i n) found → AreLookedAt s E held (from_here p (i + 1) 0) found
  look_ports_end p i n found all = look_on (from_here p i n) (from_here p (i + 1) 0) found from to where
    from : (j : Justification) → IsPossible j → IsJustificationBefore j (from_here p (i + 1) 0) → IsJustificationBefore j (from_here p i n)
    from j possible (inl low) = inl low
    from j possible (inr (e, inr (k, low))) = absurd (omega arith)
    from j possible (inr (e, inl low)) = elim (cases_eq j.instance i) [
      | inl k ↦ let few = possible.low in inr (e, inr (k, omega arith))
      | inr other ↦ inr (e, inl (omega arith))
    ]

    to : (j : Justification) → IsJustificationBefore j (from_here p i n) → IsJustificationBefore j (from_here p (i + 1) 0)
    to j (inl low) = inl low
    to j (inr (e, inl low)) = inr (e, inl (omega arith))
    to j (inr (e, inr (k, low))) = inr (e, inl (omega arith))

  -- the words that are held at the cells of an instance of the present fit its widths
  pub ready_at : AreCalm s held → (instance : Instance) → IsPlaced s instance → IsReady held instance
  ready_at calm instance at = record {
    lawful = at.lawful;
    three = at.three;
    widths = at.widths;
    fit = λ port w v c cell width there. rw (at.of_width port w c cell width) (calm.fit (fact c v) there);
  }

  module _ (p i : ℕ) (instance : Instance) (there : IsInstanceOf s E p i instance) where
    the_instance : (j : Justification) (other : Instance) (known : List (Option ℕ)) → j.part ≡ p → j.instance ≡ i → IsOfInstance (circuit_of s) E j other known → other ≡ instance
    the_instance j other known at_part at_place o =
        let here : slice_get (circuit_of s).parts p ≡ Some o.part = subst (λ (p : ℕ). slice_get (circuit_of s).parts p ≡ Some o.part) at_part o.at_position in
        let good = there.at_position in
        let same : o.part ≡ there.part = cc in
        let this : slice_get there.part i ≡ Some other = subst (λ (i : ℕ). slice_get there.part i ≡ Some other) at_place (subst (λ (part : List Instance). slice_get part j.instance ≡ Some other) same o.at_place) in
        let that = there.at_place in
        cc

    of_here : (k : ℕ) (known : List (Option ℕ)) → k ≡ number_of known → IsOfInstance (circuit_of s) E (by_instance p i k (facts_at instance.cells known)) instance known
    of_here k known number = record { assumed = there.chosen; part = there.part; at_position = there.at_position; at_place = there.at_place; ports = number; from = refl }

    -- a justification at the ports of this number
    record IsHere (k : ℕ) (j : Justification) : Type 0 where
      part : j.part ≡ p
      place : j.instance ≡ i
      ports : j.ports ≡ k

    before_more : (k : ℕ) (j : Justification) → IsJustificationBefore j (from_here p i (k + 1)) → IsJustificationBefore j (from_here p i k) ⊎ IsHere k j
    before_more k j (inl low) = inl (inl low)
    before_more k j (inr (e, inl low)) = inl (inr (e, inl low))
    before_more k j (inr (e, inr (f, low))) = elim (cases_eq j.ports k) [
      | inl is ↦ inr (record { part = e; place = f; ports = is })
      | inr other ↦ inl (inr (e, inr (f, omega arith)))
    ]

    before_less : (k : ℕ) (j : Justification) → IsJustificationBefore j (from_here p i k) → IsJustificationBefore j (from_here p i (k + 1))
    before_less k j (inl low) = inl low
    before_less k j (inr (e, inl low)) = inr (e, inl low)
    before_less k j (inr (e, inr (f, low))) = inr (e, inr (f, omega arith))

    here_before : (k : ℕ) (j : Justification) → IsHere k j → IsJustificationBefore j (from_here p i (k + 1))
    here_before k j h = let is = h.ports in inr (h.part, inr (h.place, omega arith))

    forced_here : (k : ℕ) (j : Justification) (f : Fact) → IsHere k j → Justifies (circuit_of s) E K f j → IsForcedAt held instance k f
    forced_here k j f here h =
        let is : h.instance ≡ instance = the_instance j h.instance h.known here.part here.place h.of_instance in
        let number : k ≡ number_of h.known = sym here.ports ∙ h.of_instance.ports in
        subst (λ (i : Instance). IsForcedAt held i k f) is (record { known = h.known; words = record { number = number; words = h.held }; port = h.port; at = h.at; forces = h.forces })

    justified_here : (k : ℕ) (f : Fact) → IsForcedAt held instance k f → IsForcedBefore s E held (from_here p i (k + 1)) f
    justified_here k f h = (
      by_instance p i k (facts_at instance.cells h.known),
      here_before k (by_instance p i k (facts_at instance.cells h.known)) (record { part = refl; place = refl; ports = refl }),
      record { instance = instance; known = h.known; of_instance = of_here k h.known h.words.number; held = h.words.words; port = h.port; at = h.at; forces = h.forces },
    )

    -- where none of the fresh facts is at its cells, the instance says nothing new
    pub look_past_instance : (fresh found : List Fact) → IsQuietBut s E held fresh → AreElsewhere fresh instance.cells → AreLookedAt s E held (from_here p i 0) found → AreLookedAt s E held (from_here p (i + 1) 0) found
    look_past_instance fresh found quiet elsewhere looked = record {
      fine = λ j before clash. elim (before_next j before) [
        | inl earlier ↦ looked.fine j earlier clash
        | inr here ↦ quiet.fine j (none_fresh j clash.instance clash.known here clash.of_instance) clash
      ];
      forced = record {
        kept = looked.forced.kept;
        sound = λ f h. elim (looked.forced.sound f h) [ inl none ↦ absurd none | inr (b, out) ↦ inr ((b.0, to b.0 b.1, b.2), out) ];
        entered = λ f (j, before, h). elim (before_next j before) [
          | inl earlier ↦ looked.forced.entered f (j, earlier, h)
          | inr here ↦ inl (quiet.known j f (none_fresh j h.instance h.known here h.of_instance) h)
        ];
      };
    } where
      before_next : (j : Justification) → IsJustificationBefore j (from_here p (i + 1) 0) → IsJustificationBefore j (from_here p i 0) ⊎ ((j.part ≡ p) × (j.instance ≡ i))
      before_next j (inl low) = inl (inl low)
      before_next j (inr (e, inr (k, low))) = absurd (omega arith)
      before_next j (inr (e, inl low)) = elim (cases_eq j.instance i) [ inl k ↦ inr (e, k) | inr other ↦ inl (inr (e, inl (omega arith))) ]

      to : (j : Justification) → IsJustificationBefore j (from_here p i 0) → IsJustificationBefore j (from_here p (i + 1) 0)
      to j (inl low) = inl low
      to j (inr (e, inl low)) = inr (e, inl (omega arith))
      to j (inr (e, inr (k, low))) = absurd (omega arith)

      none_fresh : (j : Justification) (other : Instance) (known : List (Option ℕ)) → (j.part ≡ p) × (j.instance ≡ i) → IsOfInstance (circuit_of s) E j other known → (f : Fact) → IsIn j.from f → IsIn fresh f → ⊥
      none_fresh j other known here o f from there =
          let is : other ≡ instance = the_instance j other known here.0 here.1 o in
          let Q : List Fact → Type 0 = λ facts. IsIn facts f in
          let at : (port : ℕ) × (slice_get known port ≡ Some (Some f.value)) × (slice_get other.cells port ≡ Some f.cell) = facts_at-there other.cells known f (subst Q o.from from) in
          elsewhere at.0 f.value f.cell (subst (λ (i : Instance). slice_get i.cells at.0 ≡ Some f.cell) is at.2) there

    -- one choice of ports more
    pub look_more : (k : ℕ) (old new : List Fact) → AreLookedAt s E held (from_here p i k) old → IsQuietAt held instance k old new → AreLookedAt s E held (from_here p i (k + 1)) new
    look_more k old new looked quiet = record {
      fine = λ j before clash. elim (before_more k j before) [
        | inl earlier ↦ looked.fine j earlier clash
        | inr here ↦ refuted_here j here clash
      ];
      forced = Adds-more (IsForcedBefore s E held (from_here p i k)) (IsForcedAt held instance k) (IsForcedBefore s E held (from_here p i (k + 1))) held [] old new parts whole looked.forced quiet.adds;
    } where
      refuted_here : (j : Justification) → IsHere k j → JustifiesClash (circuit_of s) E K j → ⊥
      refuted_here j here h =
          let is : h.instance ≡ instance = the_instance j h.instance h.known here.part here.place h.of_instance in
          let number : k ≡ number_of h.known = sym here.ports ∙ h.of_instance.ports in
          let P : Instance → Type 0 = λ i. IsQuietAt held i k old new in
          (subst P (sym is) quiet).fine h.known (record { number = number; words = h.held }) h.refutes

      parts : (f : Fact) → IsForcedBefore s E held (from_here p i (k + 1)) f → IsForcedBefore s E held (from_here p i k) f ⊎ IsForcedAt held instance k f
      parts f (j, before, h) = elim (before_more k j before) [
        | inl earlier ↦ inl (j, earlier, h)
        | inr here ↦ inr (forced_here k j f here h)
      ]

      whole : (f : Fact) → IsForcedBefore s E held (from_here p i k) f ⊎ IsForcedAt held instance k f → IsForcedBefore s E held (from_here p i (k + 1)) f
      whole f (inl (j, before, h)) = (j, before_less k j before, h)
      whole f (inr h) = justified_here k f h

    -- the first choice of ports at which the words refute
    pub look_clash : (k : ℕ) (old : List Fact) (ending : Ending) → AreLookedAt s E held (from_here p i k) old → IsRefutedAt held p i k instance ending → IsFirstClash s E held (ending_of ending)
    look_clash k old ending looked h =
        let Q : derivations.Ending → Type 0 = λ e. IsFirstClash s E held e in
        subst Q (sym h.told) (record {
          holds = record { instance = instance; known = h.known; of_instance = of_here k h.known h.words.number; held = h.words.words; refutes = h.refutes };
          first = λ j clash before. looked.fine j before clash;
        })

    pub look_clash_at : (k : ℕ) (old new : List Fact) (A : Type 0) (clash : Option Ending) → is_some clash ≡ true → AreLookedAt s E held (from_here p i k) old → MatchOption clash (IsQuietAt held instance k old new) (IsRefutedAt held p i k instance) → MatchOption clash A (λ ending. IsFirstClash s E held (ending_of ending))
    look_clash_at k old new A None is looked h = absurd (false≢true is)
    look_clash_at k old new A (Some ending) is looked h = look_clash k old ending looked h

-- the first clash of facts without two words at a cell
clash_alone : (s : PresentView) (E : Set Place) (held : List Fact) → (AreTwoWords (λ f. IsIn held f) → ⊥) → (e : derivations.Ending) → IsFirstClash s E held e → IsClashOfFacts s E held e
clash_alone s E held alone derivations.Holds h = absurd h
clash_alone s E held alone (derivations.TwoValues c low high) h = absurd h
clash_alone s E held alone (derivations.Refuted part instance ports from) h = (alone, h)

-- what looking at facts without two words at a cell comes to
pub forced_from : (s : PresentView) (E : Set Place) (held found : List Fact) → (AreTwoWords (λ f. IsIn held f) → ⊥) → (clash : Option Ending) → Looks s E held (from_here (length s.parts) 0 0) found clash → MatchOption clash (AreForced s E held found) (λ ending. IsClashOfFacts s E held (ending_of ending))
forced_from s E held found alone None looked = let all : AreAllLookedAt s E held found = looked_all s E held found looked in record { alone = alone; fine = all.fine; entered = all.entered; sound = all.sound }
forced_from s E held found alone (Some ending) clash = clash_alone s E held alone (ending_of ending) clash

-- the first two words of one cell are a clash of the facts
pub pair_clash : (s : PresentView) (E : Set Place) (held : List Fact) (ending : Ending) → IsFirstPair (λ f. IsIn held f) ending → IsClashOfFacts s E held (ending_of ending)
pair_clash s E held endings.Holds h = absurd h
pair_clash s E held (endings.TwoValues c low high) h = h
pair_clash s E held (endings.Refuted part instance ports from) h = absurd h

pub pair_clash_at : (s : PresentView) (E : Set Place) (held : List Fact) (A B : Type 0) (clash : Option Ending) → is_some clash ≡ true → MatchOption clash A (IsFirstPair (λ f. IsIn held f)) → MatchOption clash B (λ ending. IsClashOfFacts s E held (ending_of ending))
pair_clash_at s E held A B None is h = absurd (false≢true is)
pair_clash_at s E held A B (Some ending) is h = pair_clash s E held ending h

-- a fact at one of the cells
pub some_at : (facts : List Fact) (cells : List Cell) (port : ℕ) (c : Cell) → slice_get cells port ≡ Some c → (word : Option ℕ) → is_some word ≡ true → MatchOption word ((v : ℕ) → IsIn facts (fact c v) → ⊥) (λ v. IsIn facts (fact c v)) → IsAtSome facts cells
some_at facts cells port c at None is h = absurd (false≢true is)
some_at facts cells port c at (Some v) is h = record { port = port; cell = c; word = v; at = at; there = h }
