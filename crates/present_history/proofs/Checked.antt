-- Checks none of which applies.
use Rattle.std.proofs.Common.{◌≡◌, ◌<◌, ℕ, Bool, true, false, not, is_some, cond, List, [], ◌∷◌, length, unwrap_or, Option, Some, None, refl, sym, subst}
use Rattle.std.specs.List.{position}
use Rattle.std.proofs.lemmas.List.Quantifiers.{position-Some}
use Rattle.netlist_text.specs.Checks.{Check, first_misfit}
use Rattle.netlist_text.specs.declared.misfits.Misfit.{Misfit}

-- no check of the list applies
abbrev pub NoneApplies : List Check → Type 0
NoneApplies [] = Unit {0}
NoneApplies (c ∷ checks) = (c.applies ≡ false) × NoneApplies checks

first_and_others : (b : Bool) (m : Misfit) (o : Option Misfit) → cond b (Some m) o ≡ None → (b ≡ false) × (o ≡ None)
first_and_others true m o e = cc
first_and_others false m o e = (refl, e)

pub none_applies : (checks : List Check) → first_misfit checks ≡ None → NoneApplies checks
none_applies [] e = tt
none_applies (c ∷ checks) e = let p = first_and_others c.applies c.misfit (first_misfit checks) e in (p.0, none_applies checks p.1)

pub holds : (b : Bool) → not b ≡ false → b ≡ true
holds true e = refl
holds false e = cc

module _ {X : Type 0} where
  pub nothing_there : (o : Option X) → is_some o ≡ false → o ≡ None
  nothing_there None e = refl
  nothing_there (Some x) e = cc

  pub something_there : (o : Option X) → not (is_some o) ≡ false → (x : X) × (o ≡ Some x)
  something_there None e = cc
  something_there (Some x) e = (x, refl)

-- what is found by a test is there
pub found_within : {X : Type 0} (p : X → Bool) (xs : List X) → not (is_some (position p xs)) ≡ false → unwrap_or (position p xs) 0 < length xs
found_within p [] e = cc
found_within p (x ∷ xs) e =
    let found = something_there (position p (x ∷ xs)) e in
    subst (λ (o : Option ℕ). unwrap_or o 0 < length (x ∷ xs)) (sym found.1) (position-Some p (x ∷ xs) found.0 x found.1).0
