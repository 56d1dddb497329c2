use Rattle.std.proofs.Common.{◌≡◌, ◌<◌, ◌+◌, ℕ, List, [], ◌∷◌, ◌++◌, inl, inr, ap, subst, arith}
use Rattle.environment_sets.specs.Lists.{IsIn}
use Rattle.environment_sets.proofs.Membership.{IsIn-append}
use Rattle.circuit_model.specs.declared.model.Cell.{Cell}
use Rattle.worked_rows.proofs.derivations.push_measured.Goals as goal

one_more : (cells : List Cell) (n t : ℕ) (c : Cell) → ((d : Cell) → IsIn cells d → d.net < n) → IsIn (cells ++ record { net = n; cycle = t } ∷ []) c → c.net < n + 1
one_more cells n t c low h = elim (IsIn-append cells (record { net = n; cycle = t } ∷ []) c h) as (λ _. c.net < n + 1) [
  | inl there ↦ let below = low c there in omega arith
  | inr last ↦ elim last as (λ _. c.net < n + 1) [ inl e ↦ let same : n ≡ c.net = ap (λ (d : Cell). d.net) e in omega arith | inr none ↦ absurd none ]
]

pub returns-then-is_some : goal.returns-then-is_some
returns-then-is_some c d h = one_more c.args.cells.now c.args.net 0 d c.requires (let Q : List Cell → Type 0 = λ ps. IsIn ps d in subst Q c.in_ok-push.ensures.ok h)
