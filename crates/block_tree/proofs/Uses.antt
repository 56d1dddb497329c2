-- A block at nets that it may have.
use Rattle.std.proofs.Common.{◌≡◌, ℕ, ◌+◌, ◌<◌, ◌≤◌, List, [], ◌∷◌, ◌++◌, take, length, map, slice_get, Some, Result, Ok, Err, IfOk, refl, sym, ap, subst, ◌∙◌, arith}
use Rattle.std.specs.Prelude.{slice_index}
use Rattle.std.specs.List.{All, flat_map}
use Rattle.std.proofs.lemmas.List.{length-map, take_more, flat_map_more}
use Rattle.std.proofs.lemmas.List.Elements.{All-cons, All-nil}
use Rattle.circuit_model.specs.declared.limits.TheConstants.{USUAL_COST, MOST_PINS}
use Rattle.circuit_model.specs.declared.model.Instance.{Instance}
use Rattle.circuit_model.specs.declared.blocks.Inner.{Inner}
use Rattle.circuit_model.specs.declared.present.Net.{Net}
use Rattle.circuit_model.specs.Kinds.{instances, three_times}
use Rattle.circuit_model.specs.declared.model.Kind.TheVariants.{Block}
use Rattle.std.proofs.lemmas.Option.{unwrap_or-slice_get, slice_get_within, get_or_from_slice_get}
use Rattle.circuit_model.specs.Blocks.{BlockView, empty_block, nets_for, inner_instances, block_part, IsLawfulInner, IsLawfulBlock}
use Rattle.circuit_model.specs.Present.{PresentView, width_of, block_at, IsUse, IsLawfulComponent, IsLawful}
use Rattle.circuit_model.specs.Opening.{block_component, opened_component}
use Rattle.circuit_model.proofs.Moves.{All-read}
use Rattle.circuit_model.proofs.Openings.{opened_part, opened_lawful}
use Rattle.block_tree.specs.Using.{MayUse}

-- where there is an inner component there is a pin
some_pin : (pins : List Net) (inners : List Inner) → All (IsLawfulInner pins) inners → 1 ≤ length inners → 0 < length pins
some_pin pins [] each some = absurd (omega arith)
some_pin pins (i ∷ inners) each some = let l : IsLawfulInner pins i = each 0 i (omega arith) in let low = l.pins_there 0 0 (omega (arith, l.three)) in omega (arith, low)

first_of_list : (nets : List ℕ) → 0 < length nets → Some (slice_index nets 0) ≡ slice_get nets 0
first_of_list [] h = absurd (omega arith)
first_of_list (net ∷ nets) h = refl

-- a block in a lawful present
module _ (s : PresentView) (lawful : IsLawful s) (block : ℕ) (nets : List ℕ) (h : MayUse s block nets) where
  definition_lawful : IsLawfulBlock (block_at s block)
  definition_lawful = let P : BlockView → Type 0 = λ b. IsLawfulBlock b in subst P (sym (unwrap_or-slice_get s.blocks block (empty_block []))) (lawful.each_block block (empty_block []) h.there)

  as_many : length nets ≡ length (block_at s block).pins
  as_many = sym (length-map nets (width_of s)) ∙ (ap (λ (ws : List ℕ). length ws) h.widths ∙ length-map (block_at s block).pins (λ (p : Net). p.width))

  pub some_net : 0 < length nets
  some_net = omega (arith, as_many, some_pin (block_at s block).pins (block_at s block).inners definition_lawful.each_inner h.some_inner)

  pub few_nets : length nets ≤ MOST_PINS
  few_nets = omega (arith, as_many, definition_lawful.most_pins)

  module _ (name : List ℕ) where
    -- the component is a block of the definition
    pub is_use : IsUse s block (block_component s block name nets)
    is_use = record { there = h.there; some_inner = h.some_inner; nets_there = h.within; widths = h.widths; first = first_of_list nets some_net }

    -- and lawful
    pub use_lawful : IsLawfulComponent s (block_component s block name nets)
    use_lawful = record {
      three = refl;
      nets = let P : ℕ → Type 0 = λ n. n < length s.nets in let n : ℕ = slice_index nets 0 in let first : P n = h.within 0 0 some_net in All-cons P n (n ∷ n ∷ []) first (All-cons P n (n ∷ []) first (All-cons P n [] first (All-nil P)));
      unused = (refl, refl);
      widths = refl;
      value = refl;
      cost_low = omega arith;
      cost_high = omega arith;
      pins = is_use;
      part = refl;
    }

  -- an inner component of the definition
  module _ (place : ℕ) (i : Inner) (at : slice_get (block_at s block).inners place ≡ Some i) where
    pub inner_lawful : IsLawfulInner (block_at s block).pins i
    inner_lawful = All-read (IsLawfulInner (block_at s block).pins) (block_at s block).inners place i at definition_lawful.each_inner

    -- at the nets of its pins
    pub inner_free : IsLawfulComponent s (opened_component s (block_component s block [] nets) i)
    inner_free = opened_lawful s (block_component s block [] nets) block (is_use []) i inner_lawful

    pub inner_pins : All (λ k. k < length nets) i.pins
    inner_pins = λ k d low. let there = inner_lawful.pins_there k d low in omega (arith, there, as_many)

    pub inner_same : instances i.kind (nets_for nets i.pins) (map (width_of s) (nets_for nets i.pins)) s.cycles ≡ inner_instances (block_at s block).pins nets s.cycles i
    inner_same = opened_part s (block_component s block [] nets) block (is_use []) i inner_lawful

-- the answer of a call for the part of an inner component
pub part_of_inner : (s : PresentView) (block place : ℕ) (i : Inner) (nets : List ℕ) → slice_get (block_at s block).inners place ≡ Some i → (at : List ℕ) → at ≡ nets_for nets i.pins
    → instances i.kind (nets_for nets i.pins) (map (width_of s) (nets_for nets i.pins)) s.cycles ≡ inner_instances (block_at s block).pins nets s.cycles i
    → {E : Type 0} (r : Result (List Instance) E) → IfOk r (λ p. p ≡ instances i.kind at (map (width_of s) at) s.cycles)
    → IfOk r (λ p. (x : Inner) × (slice_get (block_at s block).inners place ≡ Some x) × (p ≡ inner_instances (block_at s block).pins nets s.cycles x))
part_of_inner s block place i nets there at is same (Ok p) h = (i, there, h ∙ (ap (λ ns. instances i.kind ns (map (width_of s) ns) s.cycles) is ∙ same))
part_of_inner s block place i nets there at is same (Err e) h = tt

-- the component that is made of these parts
pub made_lawful : (s : PresentView) → IsLawful s → (block : ℕ) (nets : List ℕ) → MayUse s block nets → (name : List ℕ) (first : ℕ) (pins : List ℕ) (part : List Instance)
    → first ≡ slice_index nets 0 → pins ≡ nets → part ≡ block_part (block_at s block) nets s.cycles
    → IsLawfulComponent s (record { name = name; kind = Block block; nets = three_times first; cost = USUAL_COST; pins = pins; part = part })
made_lawful s lawful block nets h name first pins part e f g =
    let whole : IsLawfulComponent s (block_component s block name nets) = use_lawful s lawful block nets h name in
    subst (λ (n : ℕ). IsLawfulComponent s (record { name = name; kind = Block block; nets = three_times n; cost = USUAL_COST; pins = pins; part = part })) (sym e)
    (subst (λ (ns : List ℕ). IsLawfulComponent s (record { name = name; kind = Block block; nets = three_times (slice_index nets 0); cost = USUAL_COST; pins = ns; part = part })) (sym f)
    (subst (λ (is : List Instance). IsLawfulComponent s (record { name = name; kind = Block block; nets = three_times (slice_index nets 0); cost = USUAL_COST; pins = nets; part = is })) (sym g) whole))

-- the pieces of one element more
pub one_more : {X Y : Type 0} (f : X → List Y) (xs : List X) (place : ℕ) (so p new : List Y) → (x : X) × (slice_get xs place ≡ Some x) × (p ≡ f x) → so ≡ flat_map f (take place xs) → new ≡ so ++ p → new ≡ flat_map f (take (place + 1) xs)
one_more f xs place so p new r before gain =
    let x = r.0 in
    let more : take (place + 1) xs ≡ take place xs ++ x ∷ [] = take_more xs place x (slice_get_within xs place x r.1) ∙ ap (λ y. take place xs ++ y ∷ []) (get_or_from_slice_get xs place x x r.1) in
    gain ∙ (ap (λ ys. ys ++ p) before ∙ (ap (λ ys. flat_map f (take place xs) ++ ys) r.2 ∙ (flat_map_more f [] (take place xs) x ∙ ap (λ zs. flat_map f zs) (sym more))))
