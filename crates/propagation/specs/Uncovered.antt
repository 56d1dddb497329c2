-- How many pairs of a target and an environment are not yet covered.
use Rattle.std.specs.Prelude.{ℕ, zero, suc, ◌+◌, ◌^◌, ◌<◌, Bool, ◌||◌, ◌==◌, cond, Some, None}
use Rattle.circuit_model.specs.declared.model.Fact.{Fact}
use Rattle.circuit_model.specs.Closure.{fact}
use Rattle.environment_sets.specs.declared.environment.TheConstants.{SLOTS}
use Rattle.environment_sets.specs.Sets.{Set, no_elements}
use Rattle.propagation.specs.Propagating.{Target}

-- the sum over the numbers below n; it unfolds in lemmas alone, so no large n is ever counted out
unfoldable pub total : ℕ → (ℕ → ℕ) → ℕ
total zero f = 0
total (suc n) f = total n f + f n

-- the set with the number too
abbrev pub with : ℕ → Set ℕ → Set ℕ
with n E = λ k. (k == n) || E k

-- the sum over the sets that are B from n on
unfoldable pub over_sets : ℕ → (Set ℕ → ℕ) → Set ℕ → ℕ
over_sets zero f B = f B
over_sets (suc n) f B = over_sets n f B + over_sets n f (with n B)

-- 0 where the pair is covered, and else 1
abbrev pub gap : (Target → Set ℕ → Bool) → Target → Set ℕ → ℕ
gap covered t E = cond (covered t E) 0 1

-- the pairs of a target that a fact of the program can be, or the clash, and a set of numbers below SLOTS, that are not covered
unfoldable pub uncovered : (Target → Set ℕ → Bool) → ℕ
uncovered covered =
    over_sets SLOTS (gap covered None) no_elements
    + total (2 ^ 16) (λ net. total (2 ^ 8) (λ cycle. total (2 ^ 64) (λ value. over_sets SLOTS (gap covered (Some (fact (record { net = net; cycle = cycle }) value))) no_elements)))

-- the fact is one that the program can hold
pub record Fits (f : Fact) : Type 0 where
  pub net : f.cell.net < 2 ^ 16
  pub cycle : f.cell.cycle < 2 ^ 8
  pub value : f.value < 2 ^ 64

-- the target is one that the program can hold
abbrev pub TargetFits : Target → Type 0
TargetFits None = Unit {0}
TargetFits (Some f) = Fits f
