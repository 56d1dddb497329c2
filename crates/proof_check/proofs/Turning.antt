-- The rounds of a closing, one after another.
use Rattle.std.proofs.Common.{◌≡◌, ◌↔◌, ℕ, zero, suc, ◌+◌, ◌-◌, ◌*◌, ◌<◌, ◌≤◌, ◌⊎◌, inl, inr, IsTrue, List, [], ◌∷◌, ◌++◌, length, map, Option, Some, None, slice_get, refl, sym, ap, ap₂, subst, arith}
use Rattle.std.specs.Option.{option_map}
use Rattle.std.proofs.lemmas.Bool.{cases_eq, cases_lt}
use Rattle.std.proofs.lemmas.Nat.{mul-add-lt}
use Rattle.environment_sets.specs.Sets.{Set}
use Rattle.environment_sets.specs.Lists.{IsIn, IsRising}
use Rattle.environment_sets.proofs.Membership.{IsIn-append, IsIn-left, IsIn-right, map-IsIn, IsIn-map, IsIn-slice_get, slice_get-IsIn, IsRising-append}
use Rattle.environment_sets.proofs.Sorting.{rising_map}
use Rattle.circuit_model.specs.declared.limits.TheConstants.{MOST_CYCLES, MOST_NETS}
use Rattle.circuit_model.specs.declared.model.Cell.{Cell}
use Rattle.circuit_model.specs.declared.model.Fact.{Fact}
use Rattle.circuit_model.specs.declared.model.Instance.{Instance}
use Rattle.circuit_model.specs.declared.model.Assumption.TheVariants.{Part}
use Rattle.circuit_model.specs.Closure.{fact, AreHeld, AreTwoWords, IsForced, IsRefuted, ClashesAt}
use Rattle.circuit_model.specs.Diagnoses.{Place, AtPart}
use Rattle.circuit_model.specs.Decided.{IsLastRound}
use Rattle.circuit_model.specs.Derivation as derivations
use Rattle.circuit_model.specs.Derivation.{Justification, by_instance, number_of, facts_at, is_fact_before, IsFirst, IsFirstRound, AreFirstTwoWords, IsAssumed, HoldsAt, IsRoundOf, IsOfInstance, Justifies, JustifiesClash, IsClashOf}
use Rattle.circuit_model.specs.Present.{PresentView, IsLawful, circuit_of}
use Rattle.circuit_model.specs.Whole.{stock}
use Rattle.circuit_model.proofs.Decided.{last_rounds_decide_clashes}
use Rattle.circuit_model.proofs.Monotony.{AreHeld-map, AreTwoWords-map}
use Rattle.circuit_model.proofs.Readings.{Measured, measured_at, IsFactOf-at}
use Rattle.circuit_model.proofs.Rounds.{Holds-later, Follows-within}
use Rattle.circuit_model.proofs.Derivations.{IsIn-facts_at}
use Rattle.proof_check.specs.declared.derivation.Ending.{Ending}
use Rattle.proof_check.specs.Written.{ending_of}
use Rattle.proof_check.specs.Checking.{AreAlike, AllFit}
use Rattle.proof_check.specs.Closing.{Timed, IsEarlier, Closes}
use Rattle.proof_check.specs.Ordered.{AreInOrder}
use Rattle.proof_check.specs.Rounds.{IsQuietBut}
use Rattle.proof_check.specs.Turns.{at_round, HasAll, AreSeparate, IsClashOfFacts, AreForced, HoldsBefore, AreAtRound}
use Rattle.proof_check.proofs.Assumed.{HasPart, part_assumed, HasReading, reading_assumed}
use Rattle.proof_check.proofs.Fitting.{follows_fits, cells_assumed}
use Rattle.proof_check.proofs.Instances.{AreCells}
use Rattle.proof_check.proofs.Ordered.{IsBehind, behind}

-- an order that follows from another one, for the elements of the list
pub IsRising-as : {X : Type 0} (before after : X → X → Type 0) (xs : List X) → ((x y : X) → IsIn xs x → IsIn xs y → before x y → after x y) → IsRising before xs → IsRising after xs
IsRising-as before after [] to up = tt
IsRising-as before after (x ∷ xs) to up = (λ y h. to x y (inl refl) (inr h) (up.0 y h), IsRising-as before after xs (λ y z a b. to y z (inr a) (inr b)) up.1)

-- numbers that rise from m on and are below another one are few
length-below : {X : Type 0} (number : X → ℕ) (m top : ℕ) (xs : List X) → m ≤ top → IsRising (λ x y. number x < number y) xs → ((x : X) → IsIn xs x → m ≤ number x) → ((x : X) → IsIn xs x → number x < top) → length xs + m ≤ top
length-below number m top [] low up from to = omega arith
length-below number m top (x ∷ xs) low up from to =
    let first = from x (inl refl) in
    let last = to x (inl refl) in
    let rest = length-below number (suc m) top xs (omega arith) up.1 (λ y h. let less = up.0 y h in omega arith) (λ y h. to y (inr h)) in
    omega arith

-- the number of the fact's cell, where each net has so many cycles
abbrev number_at : ℕ → Fact → ℕ
number_at cycles f = f.cell.net * cycles + f.cell.cycle

-- facts in order, of which no two are of one cell, are at most as many as cells
pub length-cells : (nets cycles : ℕ) (facts : List Fact) → AreInOrder facts → AreAlike facts → ((f : Fact) → IsIn facts f → (f.cell.net < nets) × (f.cell.cycle < cycles)) → length facts ≤ nets * cycles
length-cells nets cycles facts order alike inside =
    let few = length-below (number_at cycles) 0 (nets * cycles) facts (omega arith) (IsRising-as (λ f g. IsTrue (is_fact_before f g)) (λ f g. number_at cycles f < number_at cycles g) facts rising order) (λ f h. omega arith) low in
    omega arith
  where
    low : (f : Fact) → IsIn facts f → number_at cycles f < nets * cycles
    low f h = let c = inside f h in let less = mul-add-lt f.cell.net cycles f.cell.cycle nets c.0 c.1 in omega arith

    rising : (f g : Fact) → IsIn facts f → IsIn facts g → IsTrue (is_fact_before f g) → number_at cycles f < number_at cycles g
    rising f g a b before =
        let h : IsBehind f g = behind f g before in
        let net = h.net in
        elim (cases_eq f.cell.net g.cell.net) [
          | inl same ↦
              let cycle = h.cycle same in
              elim (cases_eq f.cell.cycle g.cell.cycle) [
                | inl e ↦
                    let word = h.word same e in
                    let cell : f.cell ≡ g.cell = ap₂ (λ (n t : ℕ). let d : Cell = record { net = n; cycle = t } in d) same e in
                    let value : f.value ≡ g.value = alike f g a b cell in
                    absurd (omega arith)
                | inr other ↦ rw same (omega arith)
              ]
          | inr other ↦
              let less = mul-add-lt f.cell.net cycles f.cell.cycle g.cell.net (omega arith) (inside f a).1 in
              omega arith
        ]

module _ (s : PresentView) (E : Set Place) where
  abbrev H : ℕ → Fact → Type 0
  H n f = HoldsAt (circuit_of s) E n f

  -- what is forced has a justification
  pub justified : (K : Fact → Type 0) (f : Fact) → IsForced (IsAssumed (circuit_of s) E) K f → (j : Justification) × Justifies (circuit_of s) E K f j
  justified K f h =
      let part : HasPart (circuit_of s) E h.part = part_assumed (circuit_of s) E h.part h.assumed in
      let place : (k : ℕ) × (slice_get h.part k ≡ Some h.instance) = slice_get-IsIn h.part h.instance h.of_part in (
        by_instance part.position place.0 (number_of h.known) (facts_at h.instance.cells h.known),
        record {
          instance = h.instance;
          known = h.known;
          of_instance = record { assumed = part.chosen; part = h.part; at_position = part.there; at_place = place.1; ports = refl; from = refl };
          held = h.from;
          port = h.port;
          at = h.at;
          forces = h.forces;
        },
      )

  pub justified_clash : (K : Fact → Type 0) → IsRefuted (IsAssumed (circuit_of s) E) K → (j : Justification) × JustifiesClash (circuit_of s) E K j
  justified_clash K h =
      let part : HasPart (circuit_of s) E h.part = part_assumed (circuit_of s) E h.part h.assumed in
      let place : (k : ℕ) × (slice_get h.part k ≡ Some h.instance) = slice_get-IsIn h.part h.instance h.of_part in (
        by_instance part.position place.0 (number_of h.known) (facts_at h.instance.cells h.known),
        record {
          instance = h.instance;
          known = h.known;
          of_instance = record { assumed = part.chosen; part = h.part; at_position = part.there; at_place = place.1; ports = refl; from = refl };
          held = h.from;
          refutes = h.refutes;
        },
      )

  -- and what has one is forced
  IsForced-justified : (K : Fact → Type 0) (f : Fact) (j : Justification) → Justifies (circuit_of s) E K f j → IsForced (IsAssumed (circuit_of s) E) K f
  IsForced-justified K f j h = let i : IsOfInstance (circuit_of s) E j h.instance h.known = h.of_instance in record {
    part = i.part;
    assumed = record { name = AtPart j.part; chosen = i.assumed; named = ap (option_map Part) i.at_position };
    instance = h.instance;
    of_part = IsIn-slice_get i.part j.instance h.instance i.at_place;
    known = h.known;
    from = h.held;
    port = h.port;
    at = h.at;
    forces = h.forces;
  }

  IsRefuted-justified : (K : Fact → Type 0) (j : Justification) → JustifiesClash (circuit_of s) E K j → IsRefuted (IsAssumed (circuit_of s) E) K
  IsRefuted-justified K j h = let i : IsOfInstance (circuit_of s) E j h.instance h.known = h.of_instance in record {
    part = i.part;
    assumed = record { name = AtPart j.part; chosen = i.assumed; named = ap (option_map Part) i.at_position };
    instance = h.instance;
    of_part = IsIn-slice_get i.part j.instance h.instance i.at_place;
    known = h.known;
    from = h.held;
    refutes = h.refutes;
  }

  Justifies-map : (K L : Fact → Type 0) → ((f : Fact) → K f → L f) → (f : Fact) (j : Justification) → Justifies (circuit_of s) E K f j → Justifies (circuit_of s) E L f j
  Justifies-map K L to f j h = record { instance = h.instance; known = h.known; of_instance = h.of_instance; held = AreHeld-map to h.held; port = h.port; at = h.at; forces = h.forces }

  JustifiesClash-map : (K L : Fact → Type 0) → ((f : Fact) → K f → L f) → (j : Justification) → JustifiesClash (circuit_of s) E K j → JustifiesClash (circuit_of s) E L j
  JustifiesClash-map K L to j h = record { instance = h.instance; known = h.known; of_instance = h.of_instance; held = AreHeld-map to h.held; refutes = h.refutes }

  -- earlier rounds
  HoldsBefore-at : (n m : ℕ) (f : Fact) → m < n → H m f → HoldsBefore s E n f
  HoldsBefore-at zero m f less h = absurd (omega arith)
  HoldsBefore-at (suc n) m f less h = Holds-later (IsAssumed (circuit_of s) E) m n f (omega arith) h

  at_before : (n : ℕ) (f : Fact) → HoldsBefore s E n f → (m : ℕ) × (m < n) × H m f
  at_before zero f h = absurd h
  at_before (suc n) f h = (n, omega arith, h)

  -- a round at which the fact holds, and before which it does not
  IsRoundOf-new : (n : ℕ) (f : Fact) → H n f → (HoldsBefore s E n f → ⊥) → IsRoundOf (circuit_of s) E f n
  IsRoundOf-new n f h new = record { holds = h; first = λ m k. elim (cases_lt m n) [ inl less ↦ absurd (new (HoldsBefore-at n m f less k)) | inr past ↦ past ] }

  abbrev Inside : Fact → Type 0
  Inside f = (f.cell.net < length s.nets) × (f.cell.cycle < s.cycles)

  -- what holds is at a cell of the present
  pub follows_inside : IsLawful s → (n : ℕ) (f : Fact) → H n f → (f.cell.net < length s.nets) × (f.cell.cycle < s.cycles)
  follows_inside lawful n f h = Follows-within (IsAssumed (circuit_of s) E) (λ g. Inside g) (record { readings = λ g a. reading_inside g (reading_assumed (circuit_of s) E g a); forced = forced_inside }) f (n, h) where
    reading_inside : (f : Fact) → HasReading (circuit_of s) E f → Inside f
    reading_inside f h =
        let r : Measured s.readings f.cell f.value = measured_at s.readings f.cell f.value h.there in
        let law = IsFactOf-at s lawful r.0 r.1 r.2 in
        let P : Cell → Type 0 = λ c. (c.net < length s.nets) × (c.cycle < s.cycles) in
        subst P r.3 (law.net, law.cycle)

    forced_inside : (f : Fact) → IsForced (IsAssumed (circuit_of s) E) (λ g. Inside g) f → Inside f
    forced_inside f h =
        let at : AreCells s h.instance.cells h.instance.widths = cells_assumed s E lawful h.part h.instance (part_assumed (circuit_of s) E h.part h.assumed) h.of_part in
        (at.at_nets h.port f.cell h.at, at.at_cycles h.port f.cell h.at)

  -- what holds at a round without a clash has one word at a cell
  alike_at : (n : ℕ) → (AreTwoWords (H n) → ⊥) → (f g : Fact) → H n f → H n g → f.cell ≡ g.cell → f.value ≡ g.value
  alike_at n alone f g a b same = elim (cases_eq f.value g.value) [
    | inl e ↦ e
    | inr differ ↦ absurd (alone (record {
      cell = f.cell;
      low = f.value;
      high = g.value;
      low_holds = a;
      high_holds = let Q : Cell → Type 0 = λ c. H n (fact c g.value) in subst Q (sym same) b;
      differ = differ;
    }))
  ]

  module _ (timed : List Timed) (held found : List Fact) (round : ℕ) (at : AreAtRound s E timed held found round) where
    -- two facts of earlier rounds at one cell are one
    held_alike : AreAlike held
    held_alike f g a b same =
        let x : (m : ℕ) × (m < round) × H m f = at_before round f ((at.before f).0 a) in
        let y : (m : ℕ) × (m < round) × H m g = at_before round g ((at.before g).0 b) in
        let low = x.1 in
        let less = y.1 in
        elim (cases_lt x.0 y.0) [
          | inl p ↦ alike_at y.0 (λ two. at.calm y.0 less (inl two)) f g (Holds-later (IsAssumed (circuit_of s) E) x.0 y.0 f (omega arith) x.2) y.2 same
          | inr p ↦ alike_at x.0 (λ two. at.calm x.0 low (inl two)) f g x.2 (Holds-later (IsAssumed (circuit_of s) E) y.0 x.0 g (omega arith) y.2) same
        ]

    -- there are no more rounds than cells
    pub round_low : round ≤ MOST_NETS * MOST_CYCLES + 1
    round_low =
        let few = length-cells (length s.nets) s.cycles held at.held_order held_alike (λ f h. let m : (m : ℕ) × (m < round) × H m f = at_before round f ((at.before f).0 h) in follows_inside at.lawful m.0 f m.2) in
        let most : length s.nets * s.cycles ≤ MOST_NETS * MOST_CYCLES = product (length s.nets) s.cycles at.lawful.nets at.lawful.cycles in
        let long = at.long in
        omega arith
      where
        product : (a b : ℕ) → a ≤ MOST_NETS → b ≤ MOST_CYCLES → a * b ≤ MOST_NETS * MOST_CYCLES
        product a b x y = grind arith

    -- what is found is not held
    pub separate : AreSeparate found held
    separate f a b =
        let m : (m : ℕ) × (m < round) × H m f = at_before round f ((at.before f).0 b) in
        let late = (at.first f a).first m.0 m.2 in
        let early = m.1 in
        omega arith

    -- with what was found listed and held
    module _ (listed : List Timed) (holding : List Fact) (is_listed : listed ≡ timed ++ map (at_round round) found) (is_held : HasAll found held holding) (is_long : length holding ≡ length held + length found) where
      pub holding_exact : (f : Fact) → IsIn holding f ↔ H round f
      holding_exact f = (λ h. to ((is_held f).0 h), λ h. from (at.all f h)) where
        to : IsIn found f ⊎ IsIn held f → H round f
        to (inl new) = (at.first f new).holds
        to (inr old) = let m : (m : ℕ) × (m < round) × H m f = at_before round f ((at.before f).0 old) in let less = m.1 in Holds-later (IsAssumed (circuit_of s) E) m.0 round f (omega arith) m.2

        from : IsIn held f ⊎ IsIn found f → IsIn holding f
        from (inl old) = (is_held f).1 (inr old)
        from (inr new) = (is_held f).1 (inl new)

      pub holding_fit : AllFit s holding
      holding_fit f h = follows_fits s E at.lawful f (round, (holding_exact f).0 h)

      -- what is forced from facts of earlier rounds alone is held, and these do not clash
      pub quiet_but : (round ≡ 0 → ⊥) → IsQuietBut s E holding found
      quiet_but later = quiet_at (round - 1) (omega arith) where
        quiet_at : (m : ℕ) → round ≡ suc m → IsQuietBut s E holding found
        quiet_at m e = record {
          fine = λ j none h. at.calm m (omega arith) (inr (IsRefuted-justified (H m) j (record { instance = h.instance; known = h.known; of_instance = h.of_instance; held = earlier j h.instance h.known none h.of_instance h.held; refutes = h.refutes })));
          known = λ j f none h.
              let forced : IsForced (IsAssumed (circuit_of s) E) (H m) f = IsForced-justified (H m) f j (record { instance = h.instance; known = h.known; of_instance = h.of_instance; held = earlier j h.instance h.known none h.of_instance h.held; port = h.port; at = h.at; forces = h.forces }) in
              let next : H (suc m) f = inr forced in
              (holding_exact f).1 (subst (λ (n : ℕ). H n f) (sym e) next);
        } where
          held_before : (f : Fact) → IsIn held f → H m f
          held_before f h = let P : ℕ → Type 0 = λ n. HoldsBefore s E n f in subst P e ((at.before f).0 h)

          earlier : (j : Justification) (instance : Instance) (known : List (Option ℕ)) → ((f : Fact) → IsIn j.from f → IsIn found f → ⊥) → IsOfInstance (circuit_of s) E j instance known → AreHeld (λ f. IsIn holding f) instance.cells known → AreHeld (H m) instance.cells known
          earlier j instance known none o h = record {
            wide = h.wide;
            held = λ p v c k cell.
                let Q : List Fact → Type 0 = λ facts. IsIn facts (fact c v) in
                let from : IsIn j.from (fact c v) = subst Q (sym o.from) (IsIn-facts_at instance.cells known p v c k cell) in
                elim ((is_held (fact c v)).0 (h.held p v c k cell)) [ inl new ↦ absurd (none (fact c v) from new) | inr old ↦ held_before (fact c v) old ];
            alike = h.alike;
          }

      listed_exact : (t : Timed) → IsIn listed t ↔ (IsRoundOf (circuit_of s) E t.fact t.round × (t.round ≤ round))
      listed_exact t = (
        λ h. to (IsIn-append timed (map (at_round round) found) t (let Q : List Timed → Type 0 = λ ts. IsIn ts t in subst Q is_listed h)),
        λ h. let Q : List Timed → Type 0 = λ ts. IsIn ts t in subst Q (sym is_listed) (from h),
      ) where
        to : IsIn timed t ⊎ IsIn (map (at_round round) found) t → IsRoundOf (circuit_of s) E t.fact t.round × (t.round ≤ round)
        to (inl old) = let e = (at.exact t).0 old in let less = e.1 in (e.0, omega arith)
        to (inr new) =
            let r : (f : Fact) × IsIn found f × (at_round round f ≡ t) = IsIn-map (at_round round) found t new in
            let Q : Timed → Type 0 = λ t. IsRoundOf (circuit_of s) E t.fact t.round × (t.round ≤ round) in
            subst Q r.2 (at.first r.0 r.1, omega arith)

        from : IsRoundOf (circuit_of s) E t.fact t.round × (t.round ≤ round) → IsIn (timed ++ map (at_round round) found) t
        from (is, low) = elim (cases_eq t.round round) [
          | inr other ↦ IsIn-left timed (map (at_round round) found) t ((at.exact t).1 (is, omega arith))
          | inl e ↦
              let here : IsRoundOf (circuit_of s) E t.fact round = subst (λ (n : ℕ). IsRoundOf (circuit_of s) E t.fact n) e is in
              let this : at_round round t.fact ≡ t = ap (λ (n : ℕ). at_round n t.fact) (sym e) in
              let Q : Timed → Type 0 = λ t. IsIn (timed ++ map (at_round round) found) t in
              subst Q this (IsIn-right timed (map (at_round round) found) (at_round round t.fact) (map-IsIn (at_round round) found t.fact (found_now here)))
        ] where
          found_now : IsRoundOf (circuit_of s) E t.fact round → IsIn found t.fact
          found_now here = elim (at.all t.fact here.holds) [
            | inr new ↦ new
            | inl old ↦
                let m : (m : ℕ) × (m < round) × H m t.fact = at_before round t.fact ((at.before t.fact).0 old) in
                let late = here.first m.0 m.2 in
                let early = m.1 in
                absurd (omega arith)
          ]

      listed_rising : IsRising IsEarlier listed
      listed_rising =
          let Q : List Timed → Type 0 = λ ts. IsRising IsEarlier ts in
          subst Q (sym is_listed) (IsRising-append IsEarlier timed (map (at_round round) found) at.rising (rising_map (at_round round) IsEarlier found (IsRising-as (λ f g. IsTrue (is_fact_before f g)) (λ f g. IsEarlier (at_round round f) (at_round round g)) found (λ f g a b less. inr (refl, less)) at.found_order)) across)
        where
          across : (t u : Timed) → IsIn timed t → IsIn (map (at_round round) found) u → IsEarlier t u
          across t u a b =
              let r : (f : Fact) × IsIn found f × (at_round round f ≡ u) = IsIn-map (at_round round) found u b in
              let less : t.round < round = ((at.exact t).0 a).1 in
              let now : round ≡ u.round = ap (λ (u : Timed). u.round) r.2 in
              inl (omega arith)

      first_clash : ClashesAt (IsAssumed (circuit_of s) E) round → IsFirstRound (ClashesAt (IsAssumed (circuit_of s) E)) round
      first_clash h = record { holds = h; first = λ m k. elim (cases_lt m round) [ inl less ↦ absurd (at.calm m less k) | inr past ↦ past ] }

      two_words : (c : Cell) (low high : ℕ) → AreFirstTwoWords (λ f. IsIn holding f) c low high → AreFirstTwoWords (H round) c low high
      two_words c low high h = record {
        low_holds = (holding_exact (fact c low)).0 h.low_holds;
        high_holds = (holding_exact (fact c high)).0 h.high_holds;
        rising = h.rising;
        least = λ v k. h.least v ((holding_exact (fact c v)).1 k);
        first = λ two. h.first (record { cell = two.cell; low = two.low; high = two.high; low_holds = (holding_exact (fact two.cell two.low)).1 two.low_holds; high_holds = (holding_exact (fact two.cell two.high)).1 two.high_holds; differ = two.differ });
      }

      clash_of : (e : derivations.Ending) → IsClashOfFacts s E holding e → IsFirstRound (ClashesAt (IsAssumed (circuit_of s) E)) round × IsClashOf (circuit_of s) E round e
      clash_of derivations.Holds h = absurd h
      clash_of (derivations.TwoValues c low high) h =
          let two : AreFirstTwoWords (H round) c low high = two_words c low high h in
          let less = two.rising in (
            first_clash (inl (record { cell = c; low = low; high = high; low_holds = two.low_holds; high_holds = two.high_holds; differ = λ e. omega arith })),
            two,
          )
      clash_of (derivations.Refuted part instance ports from) h =
          let j : Justification = by_instance part instance ports from in
          let here : JustifiesClash (circuit_of s) E (H round) j = JustifiesClash-map (λ f. IsIn holding f) (H round) (λ f k. (holding_exact f).0 k) j h.1.holds in (
            first_clash (inr (IsRefuted-justified (H round) j here)),
            (
              λ two. h.0 (AreTwoWords-map (λ f k. (holding_exact f).1 k) two),
              record { holds = here; first = λ i k. h.1.first i (JustifiesClash-map (H round) (λ f. IsIn holding f) (λ f k. (holding_exact f).1 k) i k) },
            ),
          )

      -- the round is the last one, with a clash
      pub closes_clash : (ending : Ending) → IsClashOfFacts s E holding (ending_of ending) → Closes s E (record { facts = listed; clash = Some ending })
      closes_clash ending h = record { last = round; rising = listed_rising; exact = listed_exact; ends = clash_of (ending_of ending) h }

      module _ (new : List Fact) (forced : AreForced s E holding new) where
        no_clash : ClashesAt (IsAssumed (circuit_of s) E) round → ⊥
        no_clash (inl two) = forced.alone (AreTwoWords-map (λ f k. (holding_exact f).1 k) two)
        no_clash (inr h) =
            let r : (j : Justification) × JustifiesClash (circuit_of s) E (H round) j = justified_clash (H round) h in
            forced.fine r.0 (JustifiesClash-map (H round) (λ f. IsIn holding f) (λ f k. (holding_exact f).1 k) r.0 r.1)

        -- what holds at the next round is held or found
        next_all : (f : Fact) → H (suc round) f → IsIn holding f ⊎ IsIn new f
        next_all f (inl h) = inl ((holding_exact f).1 h)
        next_all f (inr h) =
            let r : (j : Justification) × Justifies (circuit_of s) E (H round) f j = justified (H round) f h in
            forced.entered r.0 f (Justifies-map (H round) (λ f. IsIn holding f) (λ f k. (holding_exact f).1 k) f r.0 r.1)

        -- the round is the last one, and nothing is added after it
        pub closes_rest : length new ≡ 0 → Closes s E (record { facts = listed; clash = None })
        closes_rest none = record { last = round; rising = listed_rising; exact = listed_exact; ends = (last, λ refuted. no_clash ((last_rounds_decide_clashes Place (stock s) E round last).0 refuted)) } where
          nothing : (xs : List Fact) (f : Fact) → length xs ≡ 0 → IsIn xs f → ⊥
          nothing [] f e h = h
          nothing (x ∷ xs) f e h = omega arith

          last : IsLastRound Place (stock s) E round
          last f h = elim (next_all f h) [ inl old ↦ (holding_exact f).0 old | inr k ↦ absurd (nothing new f none k) ]

        -- there is another round
        goes_on : AreInOrder holding → AreInOrder new → 0 < length new → AreAtRound s E listed holding new (suc round)
        goes_on holding_order new_order more = record {
          lawful = at.lawful;
          rising = listed_rising;
          exact = λ t. (λ h. let e = (listed_exact t).0 h in let low = e.1 in (e.0, omega arith), λ h. let low = h.1 in (listed_exact t).1 (h.0, omega arith));
          before = holding_exact;
          first = λ f h. first_now f h;
          all = next_all;
          calm = λ n less clash. elim (cases_eq n round) [
            | inl e ↦ no_clash (subst (λ (n : ℕ). ClashesAt (IsAssumed (circuit_of s) E) n) e clash)
            | inr other ↦ at.calm n (omega arith) clash
          ];
          held_order = holding_order;
          found_order = new_order;
          long = longer at.some;
          some = inr more;
        } where
          first_now : (f : Fact) → IsIn new f → IsRoundOf (circuit_of s) E f (suc round)
          first_now f h =
              let r = forced.sound f h in
              IsRoundOf-new (suc round) f (inr (IsForced-justified (H round) f r.0.0 (Justifies-map (λ f. IsIn holding f) (H round) (λ f k. (holding_exact f).0 k) f r.0.0 r.0.1))) (λ old. r.1 ((holding_exact f).1 old))

          longer : (round ≡ 0) ⊎ (0 < length found) → suc round ≤ length holding + 1
          longer (inl e) = omega arith
          longer (inr some) = let long = at.long in omega arith

        pub goes_on_at : (next : ℕ) → next ≡ round + 1 → AreInOrder holding → AreInOrder new → 0 < length new → AreAtRound s E listed holding new next
        goes_on_at next e holding_order new_order more =
            let same : suc round ≡ next = omega arith in
            subst (λ (n : ℕ). AreAtRound s E listed holding new n) same (goes_on holding_order new_order more)
