-- What is found for one choice of known words.
use Rattle.std.proofs.Common.{◌≡◌, ◌<◌, ◌↔◌, inl, inr, ℕ, Bool, false, IsTrue, List, length, Option, Some, None, true≢false, refl, sym, ap, subst, ◌∙◌}
use Rattle.circuit_model.specs.declared.model.Cell.{Cell}
use Rattle.circuit_model.specs.declared.model.Fact.{Fact}
use Rattle.circuit_model.specs.declared.model.Instance.{Instance}
use Rattle.circuit_model.specs.Inference.{ports_of, IsUnknownAt, IsInference}
use Rattle.circuit_model.specs.Closure.{fact, AreHeld}
use Rattle.environment_sets.specs.Lists.{IsIn}
use Rattle.propagation.specs.Propagating.{IsKnownAt}
use Rattle.inference_search.specs.declared.inferred.Inferred.{Inferred}
use Rattle.inference_search.specs.Inferences.{facts, inference}
use Rattle.inference_search.specs.Choices.{IsOneOf, Differ, Agree, AreAlike, Uses, GoesFrom, to_fact, IsForcedWord, HasForcedWord, IsMade, IsTold}
use Rattle.circuit_model.proofs.Inferences.{Forces-port}

-- what the test says is what has to be used
Uses-tested : (must : Option Fact) (cells : List Cell) (known : List (Option ℕ)) (a b z : Option Fact)
    → ((f : Fact) → IsOneOf a b z f ↔ IsKnownAt cells known f) → ((f : Fact) → must ≡ Some f → IsOneOf a b z f) → Uses must cells known
Uses-tested None cells known a b z at h = tt
Uses-tested (Some f) cells known a b z at h = (at f).0 (h f refl)

-- where each two of the three agree, no two words are known at one cell
AreAlike-tested : (cells : List Cell) (known : List (Option ℕ)) (a b z : Option Fact) → ((f : Fact) → IsOneOf a b z f ↔ IsKnownAt cells known f) → Agree a b × Agree a z × Agree b z → AreAlike cells known
AreAlike-tested cells known a b z at agree f g there here one = by_case ((at f).1 there) ((at g).1 here) where
  turned : (o p : Option Fact) → Agree o p → o ≡ Some g → p ≡ Some f → f ≡ g
  turned o p h e k = sym (h g f e k (sym one))

  by_case : IsOneOf a b z f → IsOneOf a b z g → f ≡ g
  by_case (inl e) (inl k) = cc
  by_case (inl e) (inr (inl k)) = agree.0 f g e k one
  by_case (inl e) (inr (inr k)) = agree.1 f g e k one
  by_case (inr (inl e)) (inl k) = turned a b agree.0 k e
  by_case (inr (inl e)) (inr (inl k)) = cc
  by_case (inr (inl e)) (inr (inr k)) = agree.2 f g e k one
  by_case (inr (inr e)) (inl k) = turned a z agree.1 k e
  by_case (inr (inr e)) (inr (inl k)) = turned b z agree.2 k e
  by_case (inr (inr e)) (inr (inr k)) = cc

-- where no port is open, nothing is left to say
pub told_with_no_open_port : (slot : ℕ) (instance : Instance) (known : List (Option ℕ)) (found : List Inferred) → instance.ports ≡ ports_of instance.prim
    → ((p : ℕ) × (p < instance.ports) × IsUnknownAt known p → ⊥) → IsTold slot instance known found
told_with_no_open_port slot instance known found ports none = record {
  forced = λ p v c e f. absurd (none (p, rw ports (Forces-port instance.prim instance.widths known p v f), f.unknown));
  refuted = λ r. absurd (none (r.open_port.0, rw ports r.open_port.1, r.open_port.2));
}

module _
    (slot : ℕ) (instance : Instance) (must : Option Fact) (known : List (Option ℕ)) (wide : length known ≡ 3)
    (a b z first second : Option Fact) (at : (f : Fact) → IsOneOf a b z f ↔ IsKnownAt instance.cells known f)
    (using : (f : Fact) → must ≡ Some f → IsOneOf a b z f) (agree : Agree a b × Agree a z × Agree b z)
    (from : (f : Fact) → IsIn (facts first second) f ↔ IsOneOf a b z f)
    (refuted : Bool) (forced : List (Option ℕ)) (said : IsInference instance.prim instance.widths known refuted forced)
  where
    exact : (f : Fact) → IsIn (facts first second) f ↔ IsKnownAt instance.cells known f
    exact f = (λ h. (at f).0 ((from f).0 h), λ h. (from f).1 ((at f).1 h))

    alike : AreAlike instance.cells known
    alike = AreAlike-tested instance.cells known a b z at agree

    uses : Uses must instance.cells known
    uses = Uses-tested must instance.cells known a b z at using

    abbrev clash : Inferred
    clash = record { first = first; second = second; to = None; maker = Some slot }

    held : AreHeld (IsIn (facts first second)) instance.cells known
    held = record {
      wide = wide;
      held = λ p v c e d. (exact (fact c v)).1 (record { port = p; word = e; cell = d });
      alike = λ p q v w c e d k l.
          let same : fact c v ≡ fact c w = alike (fact c v) (fact c w) (record { port = p; word = e; cell = d }) (record { port = q; word = k; cell = l }) refl in
          ap (λ (f : Fact). f.value) same;
    }

    goes_from : GoesFrom must (facts first second)
    goes_from = by_case must uses where
      by_case : (must : Option Fact) → Uses must instance.cells known → GoesFrom must (facts first second)
      by_case None h = tt
      by_case (Some f) h = (exact f).1 h

    pub made_refuted : Differ first second → IsTrue refuted → IsMade slot instance must clash
    made_refuted once is = record {
      maker = refl;
      uses = goes_from;
      once = once;
      leads = λ S part e of_part. inl (record {
        part = part;
        assumed = (slot, refl, e);
        instance = instance;
        of_part = of_part;
        known = known;
        from = held;
        refutes = said.refutes_exactly.0 is;
      });
    }

    pub made_forced : Differ first second → (i : Inferred) → IsForcedWord instance.cells forced clash i → IsMade slot instance must i
    made_forced once i (p, v, c, d, e, is) =
        let P : Inferred → Type 0 = λ i. IsMade slot instance must i in
        subst P (sym is) (record {
          maker = refl;
          uses = goes_from;
          once = once;
          leads = λ S part s of_part. record {
            part = part;
            assumed = (slot, refl, s);
            instance = instance;
            of_part = of_part;
            known = known;
            from = held;
            port = p;
            at = d;
            forces = (said.forces_exactly p v).0 e;
          };
        })

    pub told_refuted : IsTrue refuted → (found : List Inferred) → IsIn found clash → IsTold slot instance known found
    told_refuted is found there = record {
      forced = λ p v c d f. absurd ((said.refutes_exactly.0 is).no_tuple f.some_tuple.0 f.some_tuple.1 f.some_tuple.2);
      refuted = λ r. (inference clash, (clash, there, refl), refl, refl, λ f h. (exact f).0 h);
    }

    pub told_forced : refuted ≡ false → (found : List Inferred) → ((p : ℕ) → HasForcedWord instance.cells forced clash p found) → IsTold slot instance known found
    told_forced fine found there = record {
      forced = λ p v c d f. (inference (to_fact clash c v), (to_fact clash c v, there p v c d ((said.forces_exactly p v).1 f), refl), refl, refl, λ f h. (exact f).0 h);
      refuted = λ r. absurd (true≢false (sym (said.refutes_exactly.1 r) ∙ fine));
    }
