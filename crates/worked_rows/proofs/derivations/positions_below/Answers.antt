use Rattle.std.proofs.Common.{◌≡◌, ◌⊎◌, ◌<◌, ◌+◌, ℕ, List, [], ◌∷◌, ◌++◌, inl, inr, subst, arith}
use Rattle.environment_sets.specs.Lists.{IsIn}
use Rattle.environment_sets.proofs.Membership.{IsIn-append}
use Rattle.worked_rows.proofs.derivations.positions_below.Goals as goal

one_more : (places : List ℕ) (n i : ℕ) → ((k : ℕ) → IsIn places k → k < n) → IsIn (places ++ n ∷ []) i → i < n + 1
one_more places n i low h = elim (IsIn-append places (n ∷ []) i h) as (λ _. i < n + 1) [
  | inl there ↦ let below = low i there in omega arith
  | inr last ↦ elim last as (λ _. i < n + 1) [ inl e ↦ omega arith | inr none ↦ absurd none ]
]

pub loop-part-preserved : goal.loop-part-preserved
loop-part-preserved c i h = one_more c.loop-part.places c.loop-part.part i c.loop-part.invariant (let Q : List ℕ → Type 0 = λ ps. IsIn ps i in subst Q c.in_ok-push.ensures.ok h)
