-- The inner components of a block, standing free at its nets.
use Rattle.std.proofs.Common.{◌≡◌, ℕ, zero, suc, ◌<◌, inl, inr, List, [], ◌∷◌, length, map, slice_get, Option, IsTrue, refl, sym, ap, subst, ◌∙◌, arith}
use Rattle.std.specs.Prelude.{slice_index, slice_index_or}
use Rattle.std.specs.List.{All, flat_map}
use Rattle.std.specs.Option.{option_map}
use Rattle.std.proofs.lemmas.List.{length-map, get_or-map}
use Rattle.std.proofs.lemmas.Option.{slice_get-map, unwrap_or-slice_get}
use Rattle.std.proofs.lemmas.List.Elements.{All-map, All-head, All-tail}
use Rattle.environment_sets.specs.Lists.{IsIn}
use Rattle.environment_sets.proofs.Membership.{IsIn-append}
use Rattle.circuit_model.specs.declared.model.Instance.{Instance}
use Rattle.circuit_model.specs.declared.blocks.Inner.{Inner}
use Rattle.circuit_model.specs.declared.present.Component.{Component}
use Rattle.circuit_model.specs.declared.present.Net.{Net}
use Rattle.circuit_model.specs.Inference.{ports_of}
use Rattle.circuit_model.specs.Kinds.{primitive_of, RepeatAfter, are_widths, fits_value, instances}
use Rattle.circuit_model.specs.Blocks.{BlockView, empty_block, width_in, nets_for, inner_instances, block_part, IsLawfulInner, IsLawfulBlock}
use Rattle.circuit_model.specs.Present.{PresentView, width_of, block_at, IsUse, HasPins, part_by, IsLawfulComponent, IsLawful}
use Rattle.circuit_model.specs.Opening.{opened_component}

-- one of the pieces has what all of them have together
pub IsIn-flat_map : {X Y : Type 0} (f : X → List Y) (xs : List X) (y : Y) → IsIn (flat_map f xs) y → (x : X) × IsIn xs x × IsIn (f x) y
IsIn-flat_map f [] y h = absurd h
IsIn-flat_map {X} {Y} f (x ∷ xs) y h = elim (IsIn-append (f x) (flat_map f xs) y h) as (λ _. (z : X) × IsIn (x ∷ xs) z × IsIn (f z) y) [
  | inl a ↦ (x, inl refl, a)
  | inr b ↦ let r : (z : X) × IsIn xs z × IsIn (f z) y = IsIn-flat_map f xs y b in (r.0, inr r.1, r.2)
]

-- what holds of each element holds of one of them
pub All-IsIn : {X : Type 0} (P : X → Type 0) (xs : List X) (x : X) → All P xs → IsIn xs x → P x
All-IsIn P [] x h at = absurd at
All-IsIn P (y ∷ xs) x h (inl e) = subst P e (All-head P y xs h)
All-IsIn P (y ∷ xs) x h (inr later) = All-IsIn P xs x (All-tail P y xs h) later

module _ {X Y : Type 0} (f : X → Y) (xs : List X) where
  same_at : (i j : ℕ) → slice_get xs i ≡ slice_get xs j → slice_get (map f xs) i ≡ slice_get (map f xs) j
  same_at i j e = slice_get-map f xs i ∙ (ap (option_map f) e ∙ sym (slice_get-map f xs j))

  -- unused places of a list repeat the last one after f too
  pub repeat_map : (n : ℕ) → RepeatAfter n xs → RepeatAfter n (map f xs)
  repeat_map zero h = tt
  repeat_map (suc zero) h = (same_at 0 1 h.0, same_at 1 2 h.1)
  repeat_map (suc (suc zero)) h = same_at 1 2 h
  repeat_map (suc (suc (suc n))) h = tt

module _ (f g h : ℕ → ℕ) (P : ℕ → Type 0) (same : (k : ℕ) → P k → f (g k) ≡ h k) where
  map_twice : (xs : List ℕ) → All P xs → map f (map g xs) ≡ map h xs
  map_twice [] each = refl
  map_twice (x ∷ xs) each = let e = same x (All-head P x xs each) in let es = map_twice xs (All-tail P x xs each) in cc

-- an inner component of the definition that a component of the present is a block of
module _ (s : PresentView) (c : Component) (block : ℕ) (use' : IsUse s block c) (i : Inner) (l : IsLawfulInner (block_at s block).pins i) where
  abbrev pins : List Net
  pins = (block_at s block).pins

  as_many : length c.pins ≡ length pins
  as_many = sym (length-map c.pins (width_of s)) ∙ (ap (λ (ws : List ℕ). length ws) use'.widths ∙ length-map pins (λ (p : Net). p.width))

  as_wide : (k : ℕ) → k < length pins → width_of s (slice_index c.pins k) ≡ width_in pins k
  as_wide k low = sym (get_or-map (width_of s) c.pins k 0 0 (omega (arith, low, as_many))) ∙ ap (λ (ws : List ℕ). slice_index ws k) use'.widths

  pub opened_widths : map (width_of s) (nets_for c.pins i.pins) ≡ map (width_in pins) i.pins
  opened_widths = map_twice (width_of s) (slice_index c.pins) (width_in pins) (λ k. k < length pins) as_wide i.pins l.pins_there

  -- its instances are those that the block has of it
  pub opened_part : (opened_component s c i).part ≡ inner_instances pins c.pins s.cycles i
  opened_part = ap (λ ws. instances i.kind (nets_for c.pins i.pins) ws s.cycles) opened_widths

  -- it is lawful
  pub opened_lawful : IsLawfulComponent s (opened_component s c i)
  opened_lawful = let e = sym opened_widths in record {
    three = length-map i.pins (slice_index c.pins) ∙ l.three;
    nets = All-map (λ n. n < length s.nets) (slice_index c.pins) i.pins (λ k d low. use'.nets_there (slice_index_or i.pins k d) 0 (let there = l.pins_there k d low in omega (arith, there, as_many)));
    unused = repeat_map (slice_index c.pins) i.pins (ports_of (primitive_of i.kind)) l.unused;
    widths = subst (λ (ws : List ℕ). IsTrue (are_widths i.kind ws)) e l.widths;
    value = subst (λ (ws : List ℕ). IsTrue (fits_value i.kind ws)) e l.value;
    cost_low = omega arith;
    cost_high = omega arith;
    pins = let P : Option ℕ → Type 0 = λ o. HasPins s o (opened_component s c i) in subst P (sym l.plain) refl;
    part = let P : Option ℕ → Type 0 = λ o. (opened_component s c i).part ≡ part_by s o (opened_component s c i) in subst P (sym l.plain) refl;
  }

-- the definition that a component of a lawful present is a block of is lawful
pub block_lawful : (s : PresentView) → IsLawful s → (c : Component) (block : ℕ) → IsUse s block c → IsLawfulBlock (block_at s block)
block_lawful s lawful c block h = let P : BlockView → Type 0 = λ b. IsLawfulBlock b in subst P (sym (unwrap_or-slice_get s.blocks block (empty_block []))) (lawful.each_block block (empty_block []) h.there)

-- an instance of a block is one of an inner component that stands free
pub instance_of_block : (s : PresentView) → IsLawful s → (c : Component) (block : ℕ) → IsUse s block c → (instance : Instance) → IsIn (block_part (block_at s block) c.pins s.cycles) instance
    → (i : Inner) × IsLawfulComponent s (opened_component s c i) × IsIn (opened_component s c i).part instance
instance_of_block s lawful c block h instance at =
    let r : (i : Inner) × IsIn (block_at s block).inners i × IsIn (inner_instances (block_at s block).pins c.pins s.cycles i) instance = IsIn-flat_map (inner_instances (block_at s block).pins c.pins s.cycles) (block_at s block).inners instance at in
    let l : IsLawfulInner (block_at s block).pins r.0 = All-IsIn (IsLawfulInner (block_at s block).pins) (block_at s block).inners r.0 (block_lawful s lawful c block h).each_inner r.1 in
    (r.0, opened_lawful s c block h r.0 l, let P : List Instance → Type 0 = λ is. IsIn is instance in subst P (sym (opened_part s c block h r.0 l)) r.2)
