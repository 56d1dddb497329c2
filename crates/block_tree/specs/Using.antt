-- Nets that a block of a definition may have.
use Rattle.std.specs.Prelude.{◌≡◌, ℕ, ◌<◌, ◌≤◌, List, length, map}
use Rattle.std.specs.List.{All}
use Rattle.circuit_model.specs.Present.{PresentView, block_at, width_of}

-- The definition is there and has an inner component, and the nets are there: one for each of its pins, of that pin's width.
pub record MayUse (s : PresentView) (block : ℕ) (nets : List ℕ) : Type 0 where
  pub there : block < length s.blocks
  pub some_inner : 1 ≤ length (block_at s block).inners
  pub within : All (λ net. net < length s.nets) nets
  pub widths : map (width_of s) nets ≡ map (λ p. p.width) (block_at s block).pins
