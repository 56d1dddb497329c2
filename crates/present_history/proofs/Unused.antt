-- Nothing is at what was declared last.
use Rattle.std.proofs.Common.{◌≡◌, ◌≢◌, ℕ, ◌-◌, ◌<◌, true, false, ◌==◌, List, [], ◌∷◌, ◌++◌, length, Option, Some, refl, sym, ap, subst, ◌∙◌, arith}
use Rattle.std.specs.Prelude.{slice_index_or}
use Rattle.std.specs.List.{All}
use Rattle.std.specs.Option.{option_map_or}
use Rattle.std.proofs.lemmas.Bool.{both_ways, eq-eqb}
use Rattle.std.proofs.lemmas.List.{length_push}
use Rattle.std.proofs.lemmas.List.Folds.{list_any_at}
use Rattle.std.proofs.lemmas.Option.{unwrap_or-slice_get}
use Rattle.circuit_model.specs.declared.blocks.Inner.{Inner}
use Rattle.circuit_model.specs.declared.present.Component.{Component}
use Rattle.circuit_model.specs.declared.present.Net.{Net}
use Rattle.circuit_model.specs.Blocks.{BlockView, empty_block, IsLawfulBlock, IsLawfulInner}
use Rattle.circuit_model.specs.Kinds.{block_in}
use Rattle.circuit_model.specs.Present.{PresentView, block_at, with_net, with_block, with_pin, with_inner, is_block_of, is_block_in_use, IsUse, HasPins, IsFactOf, IsLawful, IsLawfulComponent, IsUnusedBlock}
use Rattle.circuit_model.proofs.Changes.{length-change_at}
use Rattle.circuit_model.proofs.Moves.{pins_there}
use Rattle.present_history.specs.Undoing.{MayLoseNet, MayLoseBlock, MayLosePin, MayLoseInner}
use Rattle.present_history.proofs.Edits.{unwrap_or-change_at}

-- what is below the length is not the place of a further element
below_last : {X : Type 0} (xs : List X) (x : X) (n : ℕ) → n < length xs → n ≢ length (xs ++ x ∷ []) - 1
below_last xs x n below = λ same. omega (arith, below, same, length_push xs x)

module _ (s : PresentView) (h : IsLawful s) where
  -- a further net may go again
  pub may_lose_net : (n : Net) → MayLoseNet (with_net n s)
  may_lose_net n = record {
    some = omega (arith, length_push s.nets n);
    unused = record {
      ports = λ k d low. let l : IsLawfulComponent s (slice_index_or s.parts k d) = h.each_part k d low in λ i e within. below_last s.nets n _ (l.nets i e within);
      pins = λ k d low. let c : Component = slice_index_or s.parts k d in let l : IsLawfulComponent s c = h.each_part k d low in λ i e within. below_last s.nets n _ (pins_there s c (block_in c.kind) l.pins i e within);
      readings = λ k d low. let l : IsFactOf s (slice_index_or s.readings k d) = h.each_reading k d low in below_last s.nets n _ l.net;
    };
  }

  used_there : (c : Component) (block : ℕ) → HasPins s (block_in c.kind) c → block_in c.kind ≡ Some block → block < length s.blocks
  used_there c block pins is = let u : IsUse s block c = subst (λ (o : Option ℕ). HasPins s o c) is pins in u.there

  -- a further definition may go again
  pub may_lose_block : (name : List ℕ) → MayLoseBlock (with_block name s)
  may_lose_block name = record {
    some = omega (arith, length_push s.blocks (empty_block name));
    unused = λ k d low. let c : Component = slice_index_or s.parts k d in let l : IsLawfulComponent s c = h.each_part k d low in
        λ is. let last : ℕ = length (s.blocks ++ empty_block name ∷ []) - 1 in let there : last < length s.blocks = used_there c last l.pins is in below_last s.blocks (empty_block name) last there refl;
  }

  -- no component is a block of a definition that is not in use
  pub unused_block : (block : ℕ) → is_block_in_use s block ≡ false → IsUnusedBlock s block
  unused_block block free k d low is =
      let c : Component = slice_index_or s.parts k d in
      let here : is_block_of block c ≡ true = ap (λ (o : Option ℕ). option_map_or (λ b. b == block) o false) is ∙ eq-eqb block block refl in
      both_ways (is_block_in_use s block) free (list_any_at (is_block_of block) s.parts k d low here)

  lawful_block : (block : ℕ) → block < length s.blocks → IsLawfulBlock (block_at s block)
  lawful_block block there = subst IsLawfulBlock (sym (unwrap_or-slice_get s.blocks block (empty_block []))) (h.each_block block (empty_block []) there)

  module _ (block : ℕ) (there : block < length s.blocks) (unused : IsUnusedBlock s block) where
    -- a further pin may go again
    pub may_lose_pin : (pin : Net) → MayLosePin (with_pin block pin s) block
    may_lose_pin pin =
        let f : BlockView → BlockView = λ b. record b { pins = b.pins ++ pin ∷ [] } in
        let is : block_at (with_pin block pin s) block ≡ f (block_at s block) = unwrap_or-change_at f s.blocks block (empty_block []) there in
        let l : IsLawfulBlock (block_at s block) = lawful_block block there in
        let pins : List Net = (block_at s block).pins in
        record {
          there = omega (arith, there, length-change_at f s.blocks block);
          some = subst (λ (b : BlockView). 0 < length b.pins) (sym is) (omega (arith, length_push pins pin));
          unused = unused;
          unused_pin = subst (λ (b : BlockView). All (λ i. All (λ k. k ≢ length b.pins - 1) i.pins) b.inners) (sym is)
              (λ k d low. let inner : IsLawfulInner pins (slice_index_or (block_at s block).inners k d) = l.each_inner k d low in λ i e within. below_last pins pin _ (inner.pins_there i e within));
        }

    -- a further inner component may go again
    pub may_lose_inner : (inner : Inner) → MayLoseInner (with_inner block inner s) block
    may_lose_inner inner =
        let f : BlockView → BlockView = λ b. record b { inners = b.inners ++ inner ∷ [] } in
        let is : block_at (with_inner block inner s) block ≡ f (block_at s block) = unwrap_or-change_at f s.blocks block (empty_block []) there in
        record {
          there = omega (arith, there, length-change_at f s.blocks block);
          some = subst (λ (b : BlockView). 0 < length b.inners) (sym is) (omega (arith, length_push (block_at s block).inners inner));
          unused = unused;
        }
