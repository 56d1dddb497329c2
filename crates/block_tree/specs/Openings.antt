-- A present with one of its blocks opened, and what is kept by it.
use Rattle.std.specs.Prelude.{◌≡◌, ℕ, ◌+◌, ◌≤◌, List, length, Some, None, slice_get}
use Rattle.std.specs.List.{All, flat_map}
use Rattle.environment_sets.specs.Sets.{Set, ◌⊆◌}
use Rattle.circuit_model.specs.declared.limits.TheConstants.{LONGEST_NAME, MOST_PARTS}
use Rattle.circuit_model.specs.declared.present.Component.{Component}
use Rattle.circuit_model.specs.Kinds.{block_in}
use Rattle.circuit_model.specs.Diagnoses.{AreRefuted, IsConflict}
use Rattle.circuit_model.specs.Present.{PresentView, named_in, block_at, circuit_of, IsLawful}
use Rattle.circuit_model.specs.Opening.{opened_name, opened_components, opened, positions_of, lift}

-- The component at the place is a block; the names of its inner components, standing free, are new and not too long; and
-- there is room for them.
pub record MayOpen (s : PresentView) (part : ℕ) (c : Component) (block : ℕ) : Type 0 where
  pub there : slice_get s.parts part ≡ Some c
  pub is_block : block_in c.kind ≡ Some block
  pub free : All (λ i. named_in s (opened_name c i) ≡ None) (block_at s block).inners
  pub short : All (λ i. length (opened_name c i) ≤ LONGEST_NAME) (block_at s block).inners
  pub room : length s.parts + length (block_at s block).inners ≤ MOST_PARTS + 1

-- The law of opening: the block's instances are those of its inner components, in order; components of the opened present
-- that clash with all measurements clash, lifted, in the present too; and so it is not so that a conflict of the opened
-- present, lifted, has no conflict of the present within it.
pub record KeepsClashes (s : PresentView) (c : Component) (q : PresentView) : Type 0 where
  pub instances : c.part ≡ flat_map (λ d. d.part) (opened_components s c)
  pub clashes : (C : Set (List ℕ)) → AreRefuted (circuit_of q) (positions_of q.parts C) → AreRefuted (circuit_of s) (positions_of s.parts (lift s c C))
  pub conflicts : (C : Set (List ℕ)) → IsConflict (circuit_of q) (positions_of q.parts C) → ((D : Set ℕ) → IsConflict (circuit_of s) D → D ⊆ positions_of s.parts (lift s c C) → ⊥) → ⊥

-- so it is wherever a block of a lawful present may be opened
abbrev pub OpenedClashesLift : Type 0
OpenedClashesLift = (s : PresentView) (part : ℕ) (c : Component) (block : ℕ) → IsLawful s → MayOpen s part c block → KeepsClashes s c (opened s part c)
