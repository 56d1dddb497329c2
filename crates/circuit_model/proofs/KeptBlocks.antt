-- How a present is kept after a write to one of its definitions.
use Rattle.std.proofs.Common.{◌≡◌, ℕ, List, Some, slice_get, refl, sym, ap, subst, ◌∙◌}
use Rattle.std.specs.Map.{values_of}
use Rattle.indexmap.specs.IndexMap.{values, set_value_at, with_value_at}
use Rattle.circuit_model.specs.declared.present.Present.TheInside.{Inside}
use Rattle.circuit_model.specs.Blocks.{BlockView}
use Rattle.circuit_model.specs.Present.{PresentView, IsLawful, change_at}
use Rattle.circuit_model.specs.Tables.{StandByName}
use Rattle.circuit_model.specs.Kept.{view_of, IsKept}
use Rattle.circuit_model.proofs.Changes.{change_at_nothing}
use Rattle.circuit_model.proofs.Tables.{values_of-change, StandByName-change}

-- b is read, and w is written
module _ (p : Inside) (block : ℕ) (b w : BlockView) (at : slice_get (values p.blocks) block ≡ Some b) where
  module _ (f : BlockView → BlockView) (is : w ≡ f b) where
    blocks_changed : values_of (set_value_at p.blocks.entries block w) ≡ change_at block f (values p.blocks)
    blocks_changed = ap (λ x. values_of (set_value_at p.blocks.entries block x)) is ∙ values_of-change f p.blocks.entries block b at

    pub view_changed : view_of (record p { blocks = with_value_at p.blocks block w }) ≡ record (view_of p) { blocks = change_at block f (values p.blocks) }
    view_changed = ap (λ (blocks : List BlockView). record (view_of p) { blocks = blocks }) blocks_changed

    -- a change that keeps the name
    pub IsKept_changed : IsKept p → ((x : BlockView) → (f x).name ≡ x.name) → IsLawful (record (view_of p) { blocks = change_at block f (values p.blocks) }) → IsKept (record p { blocks = with_value_at p.blocks block w })
    IsKept_changed h named lawful = record {
      lawful = subst (λ (s : PresentView). IsLawful s) (sym view_changed) lawful;
      part_names = h.part_names;
      block_names = subst (λ x. StandByName (λ (c : BlockView). c.name) (set_value_at p.blocks.entries block x)) (sym is) (StandByName-change (λ (c : BlockView). c.name) p.blocks h.block_names f named block b at);
      room = h.room;
    }

  -- nothing is changed
  module _ (is : w ≡ b) where
    pub view_same : view_of (record p { blocks = with_value_at p.blocks block w }) ≡ view_of p
    view_same = view_changed (λ x. x) is ∙ ap (λ (blocks : List BlockView). record (view_of p) { blocks = blocks }) (change_at_nothing (values p.blocks) block)

    pub IsKept_same : IsKept p → IsKept (record p { blocks = with_value_at p.blocks block w })
    IsKept_same h = IsKept_changed (λ x. x) is h (λ x. refl) (subst (λ (blocks : List BlockView). IsLawful (record (view_of p) { blocks = blocks })) (sym (change_at_nothing (values p.blocks) block)) h.lawful)
