-- What is remembered is within the slots.
use Rattle.std.proofs.Common.{◌≡◌, ℕ, zero, suc, ◌<◌, List, [], ◌∷◌, length, Option, Some, None, IsSome, refl, arith}
use Rattle.std.proofs.lemmas.Bool.{false≢true}
use Rattle.circuit_model.specs.declared.model.Assumption.{Assumption}
use Rattle.assumption_slots.specs.Slots.{stock}

pub stock_within : (slots : List (Option Assumption)) (k : ℕ) (a : Assumption) → stock slots k ≡ Some a → k < length slots
stock_within [] k a e = cc
stock_within (x ∷ slots) zero a e = omega arith
stock_within (x ∷ slots) (suc k) a e = let inside : k < length slots = stock_within slots k a e in omega arith

pub some_within : (slots : List (Option Assumption)) (k : ℕ) → IsSome (stock slots k) → k < length slots
some_within slots k h =
    elim (stock slots k) as (λ o. stock slots k ≡ o → IsSome o → k < length slots) [
      | Some a ↦ λ e _. stock_within slots k a e
      | None ↦ λ _ bad. absurd (false≢true bad)
    ] refl h
