-- The facts that are explained are listed.
use Rattle.std.proofs.Common.{◌≡◌, ℕ, ◌≤◌, inl, inr, List, map, Option, Some, None, subst, arith}
use Rattle.environment_sets.specs.Sets.{Set}
use Rattle.environment_sets.specs.Lists.{IsIn}
use Rattle.environment_sets.proofs.Membership.{map-IsIn}
use Rattle.circuit_model.specs.declared.model.Fact.{Fact}
use Rattle.circuit_model.specs.Stock.{Has, IsRefutedBy}
use Rattle.circuit_model.specs.Diagnoses.{Place, stock_of}
use Rattle.circuit_model.specs.Derivation as derivations
use Rattle.circuit_model.specs.Derivation.{by_instance, facts_in_clash, HoldsAt, JustifiesClash, IsClashOf}
use Rattle.circuit_model.specs.Present.{PresentView, circuit_of}
use Rattle.circuit_model.proofs.Decided.{last_rounds_are_closures}
use Rattle.proof_check.specs.declared.derivation.Ending.{Ending}
use Rattle.proof_check.specs.Written.{ending_of}
use Rattle.proof_check.specs.Closing.{Timed, ClosedView, EndsAt, Closes}
use Rattle.proof_check.proofs.Told.{held_facts}
use Rattle.explanations.proofs.Closings.{HasTimed, holds_listed}

module _ (s : PresentView) (E : Set Place) (c : ClosedView) (closes : Closes s E c) where
  abbrev pub IsListedFact : Fact → Type 0
  IsListedFact f = IsIn (map (λ (t : Timed). t.fact) c.facts) f

  listed : (n : ℕ) (f : Fact) → n ≤ closes.last → HoldsAt (circuit_of s) E n f → IsListedFact f
  listed n f low h =
      let t : HasTimed c.facts f = holds_listed s E c closes n f low h in
      subst (λ (f : Fact). IsListedFact f) t.is (map-IsIn (λ (t : Timed). t.fact) c.facts t.timed t.there)

  -- what follows from a consistent environment
  pub follows_listed : (IsRefutedBy (stock_of (circuit_of s)) E → ⊥) → (f : Fact) → Has (stock_of (circuit_of s)) f E → IsListedFact f
  follows_listed consistent f follows = by_ending c.clash closes.ends where
    by_ending : (o : Option Ending) → EndsAt s E closes.last o → IsListedFact f
    by_ending None ends = listed closes.last f (omega arith) ((last_rounds_are_closures Place (stock_of (circuit_of s)) E closes.last ends.0 f).0 follows)
    by_ending (Some e) ends = absurd (consistent (closes.last, ends.0.holds))

  clash_facts_listed : (e : derivations.Ending) → IsClashOf (circuit_of s) E closes.last e → (f : Fact) → IsIn (facts_in_clash e) f → IsListedFact f
  clash_facts_listed derivations.Holds clash f h = absurd h
  clash_facts_listed (derivations.TwoValues d low high) clash f (inl e) = subst (λ (f : Fact). IsListedFact f) e (listed closes.last _ (omega arith) clash.low_holds)
  clash_facts_listed (derivations.TwoValues d low high) clash f (inr (inl e)) = subst (λ (f : Fact). IsListedFact f) e (listed closes.last _ (omega arith) clash.high_holds)
  clash_facts_listed (derivations.TwoValues d low high) clash f (inr (inr bad)) = absurd bad
  clash_facts_listed (derivations.Refuted part instance ports from) clash f h =
      let j : JustifiesClash (circuit_of s) E (HoldsAt (circuit_of s) E closes.last) (by_instance part instance ports from) = clash.1.holds in
      listed closes.last f (omega arith) (held_facts (HoldsAt (circuit_of s) E closes.last) j.instance.cells j.known j.held f (let Q : List Fact → Type 0 = λ fs. IsIn fs f in subst Q j.of_instance.from h))

  -- the clash that it ends with
  pub ends_with : (e : Ending) → c.clash ≡ Some e → EndsAt s E closes.last (Some e)
  ends_with e is = let Q : Option Ending → Type 0 = λ o. EndsAt s E closes.last o in subst Q is closes.ends

  -- the facts of the clash
  pub clash_listed : (e : Ending) → c.clash ≡ Some e → (f : Fact) → IsIn (facts_in_clash (ending_of e)) f → IsListedFact f
  clash_listed e is f h = clash_facts_listed (ending_of e) (ends_with e is).1 f h
