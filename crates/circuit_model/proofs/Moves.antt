-- What components, measurements and modes keep from one present to another.
use Rattle.std.proofs.Common.{◌≡◌, ℕ, ◌^◌, ◌<◌, ◌≤◌, List, [], ◌∷◌, length, map, slice_get, Option, Some, None, IsTrue, refl, sym, ap, subst, ◌∙◌, arith}
use Rattle.std.specs.Prelude.{slice_index}
use Rattle.std.specs.List.{All}
use Rattle.std.proofs.lemmas.Option.{slice_get_within, get_or_from_slice_get}
use Rattle.std.proofs.lemmas.List.Elements.{All-head, All-tail}
use Rattle.circuit_model.specs.declared.model.Fact.{Fact}
use Rattle.circuit_model.specs.declared.model.Mode.{Mode}
use Rattle.circuit_model.specs.declared.model.Mode.TheVariants.{Stuck, Acts}
use Rattle.circuit_model.specs.declared.model.Kind.{Kind}
use Rattle.circuit_model.specs.declared.present.Component.{Component}
use Rattle.circuit_model.specs.declared.present.DeclaredMode.{DeclaredMode}
use Rattle.circuit_model.specs.declared.present.Net.{Net}
use Rattle.circuit_model.specs.Kinds.{are_widths, fits_value, instances, block_in, MayAct}
use Rattle.circuit_model.specs.Blocks.{BlockView, width_in, block_part}
use Rattle.circuit_model.specs.Present.{PresentView, width_of, block_at, HasPins, part_by, IsLawfulComponent, IsModeFor, IsLawfulMode, IsFactOf, IsLawful}

-- what holds of each element holds of one that was read
pub All-read : {X : Type 0} (P : X → Type 0) (xs : List X) (k : ℕ) (x : X) → slice_get xs k ≡ Some x → All P xs → P x
All-read P xs k x at each = subst P (get_or_from_slice_get xs k x x at) (each k x (slice_get_within xs k x at))

module _ (f g : ℕ → ℕ) where
  pub map_same : (P : ℕ → Type 0) → ((k : ℕ) → P k → f k ≡ g k) → (xs : List ℕ) → All P xs → map f xs ≡ map g xs
  map_same P same [] h = refl
  map_same P same (x ∷ xs) h = let e = same x (All-head P x xs h) in let es = map_same P same xs (All-tail P x xs h) in cc

-- the net is there still, as wide as before
abbrev pub IsKeptNet : PresentView → PresentView → ℕ → Type 0
IsKeptNet s t k = (k < length t.nets) × (width_of t k ≡ width_of s k)

-- the definition is there still, as it was
abbrev pub IsKeptBlock : PresentView → PresentView → ℕ → Type 0
IsKeptBlock s t block = (block < length t.blocks) × (block_at t block ≡ block_at s block)

module _ (s t : PresentView) (cycles : t.cycles ≡ s.cycles) where
  pub kept_widths : (ns : List ℕ) → All (IsKeptNet s t) ns → map (width_of t) ns ≡ map (width_of s) ns
  kept_widths ns h = map_same (width_of t) (width_of s) (IsKeptNet s t) (λ k kept. kept.1) ns h

  kept_pins : (c : Component) (o : Option ℕ) → All (IsKeptNet s t) c.pins → ((block : ℕ) → o ≡ Some block → block < length s.blocks → IsKeptBlock s t block) → HasPins s o c → HasPins t o c
  kept_pins c None nets blocks h = h
  kept_pins c (Some block) nets blocks h = let kept : IsKeptBlock s t block = blocks block refl h.there in record {
    there = kept.0;
    some_inner = let P : BlockView → Type 0 = λ b. 1 ≤ length b.inners in subst P (sym kept.1) h.some_inner;
    nets_there = λ k d low. (nets k d low).0;
    widths = kept_widths c.pins nets ∙ (h.widths ∙ ap (λ (b : BlockView). map (λ (p : Net). p.width) b.pins) (sym kept.1));
    first = h.first;
  }

  kept_part : (c : Component) (o : Option ℕ) → All (IsKeptNet s t) c.nets → ((block : ℕ) → o ≡ Some block → block < length s.blocks → IsKeptBlock s t block) → HasPins s o c → part_by s o c ≡ part_by t o c
  kept_part c None nets blocks h = ap (λ ws. instances c.kind c.nets ws s.cycles) (sym (kept_widths c.nets nets)) ∙ ap (λ n. instances c.kind c.nets (map (width_of t) c.nets) n) (sym cycles)
  kept_part c (Some block) nets blocks h = ap (λ n. block_part (block_at s block) c.pins n) (sym cycles) ∙ ap (λ b. block_part b c.pins t.cycles) (sym (blocks block refl h.there).1)

  -- a component whose nets and definition are kept stays lawful
  pub component_kept : (c : Component) → IsLawfulComponent s c → All (IsKeptNet s t) c.nets → All (IsKeptNet s t) c.pins → ((block : ℕ) → block_in c.kind ≡ Some block → block < length s.blocks → IsKeptBlock s t block) → IsLawfulComponent t c
  component_kept c h nets pins blocks = let e = sym (kept_widths c.nets nets) in record {
    three = h.three;
    nets = λ k d low. (nets k d low).0;
    unused = h.unused;
    widths = subst (λ (ws : List ℕ). IsTrue (are_widths c.kind ws)) e h.widths;
    value = subst (λ (ws : List ℕ). IsTrue (fits_value c.kind ws)) e h.value;
    cost_low = h.cost_low;
    cost_high = h.cost_high;
    pins = kept_pins c (block_in c.kind) pins blocks h.pins;
    part = h.part ∙ kept_part c (block_in c.kind) nets blocks h.pins;
  }

  -- a measurement whose net is kept stays one
  pub fact_kept : (f : Fact) → IsFactOf s f → IsKeptNet s t f.cell.net → IsFactOf t f
  fact_kept f h kept = record {
    net = kept.0;
    cycle = subst (λ (n : ℕ). f.cell.cycle < n) (sym cycles) h.cycle;
    fits = subst (λ (w : ℕ). f.value < 2 ^ w) (sym kept.1) h.fits;
  }

-- the nets of a component's pins are there
pub pins_there : (s : PresentView) (c : Component) (o : Option ℕ) → HasPins s o c → All (λ n. n < length s.nets) c.pins
pins_there s c None h = let P : List ℕ → Type 0 = λ ns. All (λ n. n < length s.nets) ns in subst P (sym h) (λ k d low. absurd (omega arith))
pins_there s c (Some block) h = h.nets_there

-- presents with the same cycles, nets and definitions
module _ (s t : PresentView) (cycles : t.cycles ≡ s.cycles) (nets : t.nets ≡ s.nets) (blocks : t.blocks ≡ s.blocks) where
  same_net : (k : ℕ) → k < length s.nets → IsKeptNet s t k
  same_net k h = (subst (λ (ns : List Net). k < length ns) (sym nets) h, ap (λ (ns : List Net). width_in ns k) nets)

  same_block : (block : ℕ) → block < length s.blocks → IsKeptBlock s t block
  same_block block h = (subst (λ (bs : List BlockView). block < length bs) (sym blocks) h, ap (λ (bs : List BlockView). block_at (record s { blocks = bs }) block) blocks)

  pub component_same : (c : Component) → IsLawfulComponent s c → IsLawfulComponent t c
  component_same c h = component_kept s t cycles c h (λ k d low. same_net _ (h.nets k d low)) (λ k d low. same_net _ (pins_there s c (block_in c.kind) h.pins k d low)) (λ block _ low. same_block block low)

  pub fact_same : (f : Fact) → IsFactOf s f → IsFactOf t f
  fact_same f h = fact_kept s t cycles f h (same_net f.cell.net h.net)

mode_for : (s t : PresentView) (c d : Component) → d.kind ≡ c.kind → width_of t (slice_index d.nets 2) ≡ width_of s (slice_index c.nets 2) → (m : Mode) → IsModeFor s c m → IsModeFor t d m
mode_for s t c d kind width (Stuck value) h = subst (λ (w : ℕ). value < 2 ^ w) (sym width) h
mode_for s t c d kind width (Acts k) h = subst (λ (own : Kind). MayAct own k) (sym kind) h

-- a mode of a component that stands, as to what modes speak of, at a place of the other present
pub mode_moved : (s t : PresentView) (m : DeclaredMode) (h : IsLawfulMode s m) (place : ℕ) (d : Component) → slice_get t.parts place ≡ Some d → d.name ≡ h.component.name → d.kind ≡ h.component.kind → width_of t (slice_index d.nets 2) ≡ width_of s (slice_index h.component.nets 2) → IsLawfulMode t m
mode_moved s t m h place d at name kind width = record {
  place = place;
  component = d;
  there = at;
  named = name ∙ h.named;
  plain = ap block_in kind ∙ h.plain;
  mode = mode_for s t h.component d kind width m.mode h.mode;
  cost_low = h.cost_low;
  cost_high = h.cost_high;
}

-- presents with the same nets and components
pub mode_same : (s t : PresentView) → t.nets ≡ s.nets → t.parts ≡ s.parts → (m : DeclaredMode) → IsLawfulMode s m → IsLawfulMode t m
mode_same s t nets parts m h = mode_moved s t m h h.place h.component (ap (λ (ps : List Component). slice_get ps h.place) parts ∙ h.there) refl refl (ap (λ (ns : List Net). width_in ns (slice_index h.component.nets 2)) nets)

-- the net of the last port of a lawful component is there
pub last_port_there : (s : PresentView) (c : Component) → IsLawfulComponent s c → slice_index c.nets 2 < length s.nets
last_port_there s c h = h.nets 2 0 (omega (arith, h.three))

-- the component of a lawful mode is lawful
pub component_of_mode : (s : PresentView) → IsLawful s → (m : DeclaredMode) (h : IsLawfulMode s m) → IsLawfulComponent s h.component
component_of_mode s lawful m h = All-read (IsLawfulComponent s) s.parts h.place h.component h.there lawful.each_part

-- presents with the same components, and nets as wide as before
pub mode_kept : (s t : PresentView) → IsLawful s → t.parts ≡ s.parts → ((c : Component) (k : ℕ) → slice_get s.parts k ≡ Some c → IsKeptNet s t (slice_index c.nets 2)) → (m : DeclaredMode) → IsLawfulMode s m → IsLawfulMode t m
mode_kept s t lawful parts nets m h = mode_moved s t m h h.place h.component (ap (λ (ps : List Component). slice_get ps h.place) parts ∙ h.there) refl refl (nets h.component h.place h.there).1
