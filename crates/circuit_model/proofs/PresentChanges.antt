-- A present with other modes, costs or definitions, or without its last net, is lawful.
use Rattle.std.proofs.Common.{◌≡◌, ◌≢◌, ℕ, ◌-◌, ◌*◌, ◌<◌, ◌≤◌, inl, inr, List, [], ◌∷◌, ◌++◌, length, map, drop, get_or, slice_get, Option, Some, None, IsTrue, refl, sym, ap, subst, ◌∙◌, arith}
use Rattle.std.specs.Prelude.{slice_index, slice_index_or, unwrap_or}
use Rattle.std.specs.List.{All}
use Rattle.std.specs.Str.{bytes_eq}
use Rattle.std.proofs.lemmas.List.{append_assoc, length_push, map-append, map_push, length-map, length-take, get_or_append_left, get_or-take, take-append-drop, take-map}
use Rattle.std.proofs.Math.Nat.{mul-le-mul_left, mul_comm}
use Rattle.std.proofs.lemmas.Option.{unwrap_or-slice_get}
use Rattle.std.proofs.lemmas.List.Elements.{All-nil, All-push, All-weaker}
use Rattle.environment_sets.specs.Lists.{IsIn, AreDistinct}
use Rattle.environment_sets.proofs.Membership.{IsIn-append, IsIn-map, AreDistinct-more, AreDistinct-push, AreDistinct-left}
use Rattle.word_domain.specs.declared.width.TheConstants.{WIDEST}
use Rattle.circuit_model.specs.declared.limits.TheConstants.{MOST_MODES, MOST_BLOCKS, MOST_PINS, MOST_INNERS, LEAST_COST, MOST_COST}
use Rattle.circuit_model.specs.declared.model.Fact.{Fact}
use Rattle.circuit_model.specs.declared.blocks.Inner.{Inner}
use Rattle.circuit_model.specs.declared.present.Component.{Component}
use Rattle.circuit_model.specs.declared.present.DeclaredMode.{DeclaredMode}
use Rattle.circuit_model.specs.declared.present.Net.{Net}
use Rattle.circuit_model.specs.Names.{is_name}
use Rattle.circuit_model.specs.Kinds.{are_widths, fits_value, block_in}
use Rattle.circuit_model.specs.Blocks.{BlockView, empty_block, names_in, pin_named, inner_named, width_in, IsLawfulInner, IsLawfulBlock}
use Rattle.circuit_model.specs.Present.{PresentView, names_of, block_named, block_at, change_at, without_last, without_last_net, with_cost, with_mode, without_last_mode, with_block, without_last_block, IsLawfulComponent, HasPins, part_by, IsLawfulMode, IsFactOf, IsLawful, IsUnusedNet, IsUnusedBlock}
use Rattle.circuit_model.proofs.Moves.{map_same, All-read, IsKeptNet, IsKeptBlock, component_kept, component_same, fact_kept, fact_same, pins_there, mode_moved, mode_same, mode_kept, last_port_there}
use Rattle.circuit_model.proofs.Changes.{length-change_at, slice_get-change_at, get_or-change_at_other, All-change_at, All-change_each, length-without_last, All-without_last, without_last-split, All-front, AreDistinct-without_last, All-without_last_of, map-change_at}
use Rattle.circuit_model.proofs.Presents.{position-None, not_named, All-more_between}

module _ (s : PresentView) (h : IsLawful s) where
  -- with other modes
  pub IsLawful-with_modes : (modes : List DeclaredMode) → length modes ≤ MOST_MODES → All (IsLawfulMode s) modes → IsLawful (record s { modes = modes })
  IsLawful-with_modes modes most each = let t : PresentView = record s { modes = modes } in record {
    some_cycle = h.some_cycle;
    cycles = h.cycles;
    nets = h.nets;
    cells = h.cells;
    parts = h.parts;
    readings = h.readings;
    modes = most;
    blocks = h.blocks;
    names = h.names;
    distinct = h.distinct;
    block_names = h.block_names;
    widths = h.widths;
    each_part = All-weaker (IsLawfulComponent s) (IsLawfulComponent t) (component_same s t refl refl refl) s.parts h.each_part;
    each_reading = All-weaker (IsFactOf s) (IsFactOf t) (fact_same s t refl refl refl) s.readings h.each_reading;
    rising = h.rising;
    each_mode = All-weaker (IsLawfulMode s) (IsLawfulMode t) (mode_same s t refl refl) modes each;
    each_block = h.each_block;
  }

  pub IsLawful-with_mode : (m : DeclaredMode) → IsLawfulMode s m → length s.modes < MOST_MODES → IsLawful (with_mode m s)
  IsLawful-with_mode m lawful room = IsLawful-with_modes (s.modes ++ m ∷ []) (omega (arith, length_push s.modes m)) (All-push (IsLawfulMode s) s.modes m h.each_mode lawful)

  pub IsLawful-without_last_mode : IsLawful (without_last_mode s)
  IsLawful-without_last_mode = IsLawful-with_modes (without_last s.modes) (omega (arith, h.modes, length-without_last s.modes)) (All-without_last (IsLawfulMode s) s.modes h.each_mode)

  repinned : (cost : ℕ) (c : Component) (o : Option ℕ) → HasPins s o c → HasPins s o (record c { cost = cost })
  repinned cost c None p = p
  repinned cost c (Some block) p = record { there = p.there; some_inner = p.some_inner; nets_there = p.nets_there; widths = p.widths; first = p.first }

  reparted : (cost : ℕ) (c : Component) (o : Option ℕ) → part_by s o c ≡ part_by s o (record c { cost = cost })
  reparted cost c None = refl
  reparted cost c (Some block) = refl

  -- a component with another cost
  recosted : (cost : ℕ) → LEAST_COST ≤ cost → cost ≤ MOST_COST → (c : Component) → IsLawfulComponent s c → IsLawfulComponent s (record c { cost = cost })
  recosted cost low high c l = record { three = l.three; nets = l.nets; unused = l.unused; widths = l.widths; value = l.value; cost_low = low; cost_high = high; pins = repinned cost c (block_in c.kind) l.pins; part = l.part ∙ reparted cost c (block_in c.kind) }

  pub IsLawful-with_cost : (part cost : ℕ) → part < length s.parts → LEAST_COST ≤ cost → cost ≤ MOST_COST → IsLawful (with_cost part cost s)
  IsLawful-with_cost part cost there low high =
      let t = with_cost part cost s in
      let f : Component → Component = λ c. record c { cost = cost } in
      let names : names_of t ≡ names_of s = ap (λ ns. map (λ (n : Net). n.name) s.nets ++ ns) (map-change_at (λ (p : Component). p.name) f (λ c. refl) s.parts part) in
      let moved : (m : DeclaredMode) → IsLawfulMode s m → IsLawfulMode t m = λ m l. elim (slice_get-change_at f s.parts part l.place l.component l.there) as (λ _. IsLawfulMode t m) [
        | inl e ↦ mode_moved s t m l l.place l.component e refl refl refl
        | inr e ↦ mode_moved s t m l l.place (f l.component) e refl refl refl
      ] in
      record {
        some_cycle = h.some_cycle;
        cycles = h.cycles;
        nets = h.nets;
        cells = h.cells;
        parts = omega (arith, h.parts, length-change_at f s.parts part);
        readings = h.readings;
        modes = h.modes;
        blocks = h.blocks;
        names = subst (λ (ns : List (List ℕ)). All (λ n. IsTrue (is_name n)) ns) (sym names) h.names;
        distinct = subst (λ (ns : List (List ℕ)). AreDistinct ns) (sym names) h.distinct;
        block_names = h.block_names;
        widths = h.widths;
        each_part = All-weaker (IsLawfulComponent s) (IsLawfulComponent t) (component_same s t refl refl refl) t.parts (All-change_each (IsLawfulComponent s) f (recosted cost low high) s.parts part h.each_part);
        each_reading = All-weaker (IsFactOf s) (IsFactOf t) (fact_same s t refl refl refl) s.readings h.each_reading;
        rising = h.rising;
        each_mode = All-weaker (IsLawfulMode s) (IsLawfulMode t) moved s.modes h.each_mode;
        each_block = h.each_block;
      }

-- without its last net, where nothing is at it
module _ (s : PresentView) (h : IsLawful s) (some : 0 < length s.nets) (unused : IsUnusedNet s (length s.nets - 1)) where
  kept_net : (k : ℕ) → k < length s.nets → k ≢ length s.nets - 1 → IsKeptNet s (without_last_net s) k
  kept_net k low other =
      let n : ℕ = length s.nets - 1 in
      let w : Net → ℕ = λ p. p.width in
      let below : k < n = omega (arith, low, other) in
      (omega (arith, below, length-take n s.nets), ap (λ (ws : List ℕ). get_or ws k 0) (sym (take-map w n s.nets)) ∙ get_or-take n (map w s.nets) k 0 below)

  pub IsLawful-without_last_net : IsLawful (without_last_net s)
  IsLawful-without_last_net =
      let t = without_last_net s in
      let fewer : length t.nets ≤ length s.nets = length-without_last s.nets in
      let component : (k : ℕ) (d : Component) → k < length s.parts → IsLawfulComponent t (slice_index_or s.parts k d) = λ k d low. let c : Component = slice_index_or s.parts k d in let l : IsLawfulComponent s c = h.each_part k d low in
      component_kept s t refl c l (λ i e at. kept_net _ (l.nets i e at) (unused.ports k d low i e at)) (λ i e at. kept_net _ (pins_there s c (block_in c.kind) l.pins i e at) (unused.pins k d low i e at)) (λ block _ at. (at, refl)) in
      let last_port : (c : Component) (k : ℕ) → slice_get s.parts k ≡ Some c → IsKeptNet s t (slice_index c.nets 2) = λ c k at. let l : IsLawfulComponent s c = All-read (IsLawfulComponent s) s.parts k c at h.each_part in
      kept_net _ (last_port_there s c l) (All-read (λ (c : Component). All (λ n. n ≢ length s.nets - 1) c.nets) s.parts k c at unused.ports 2 0 (omega (arith, l.three))) in
      record {
        some_cycle = h.some_cycle;
        cycles = h.cycles;
        nets = omega (arith, h.nets, fewer);
        cells = let low : length t.nets * s.cycles ≤ length s.nets * s.cycles = rw (mul_comm (length t.nets) s.cycles, mul_comm (length s.nets) s.cycles) (mul-le-mul_left s.cycles fewer) in omega (arith, low, h.cells);
        parts = h.parts;
        readings = h.readings;
        modes = h.modes;
        blocks = h.blocks;
        names = All-without_last_of (λ n. IsTrue (is_name n)) (λ (n : Net). n.name) s.nets (map (λ (p : Component). p.name) s.parts) h.names;
        distinct = AreDistinct-without_last (λ (n : Net). n.name) s.nets (map (λ (p : Component). p.name) s.parts) h.distinct;
        block_names = h.block_names;
        widths = All-without_last (λ (n : Net). (1 ≤ n.width) × (n.width ≤ WIDEST)) s.nets h.widths;
        each_part = component;
        each_reading = λ k d low. let f : Fact = slice_index_or s.readings k d in let l : IsFactOf s f = h.each_reading k d low in fact_kept s t refl f l (kept_net f.cell.net l.net (unused.readings k d low));
        rising = h.rising;
        each_mode = All-weaker (IsLawfulMode s) (IsLawfulMode t) (mode_kept s t h refl last_port) s.modes h.each_mode;
        each_block = h.each_block;
      }

-- the definition that was read
pub block_at_read : (s : PresentView) (block : ℕ) (b : BlockView) → slice_get s.blocks block ≡ Some b → block_at s block ≡ b
block_at_read s block b at = ap (λ o. unwrap_or o (empty_block [])) at

-- with other definitions, where those of which components are blocks stay
module _ (s : PresentView) (h : IsLawful s) where
  IsLawful-with_blocks : (blocks : List BlockView) → length blocks ≤ MOST_BLOCKS → AreDistinct (map (λ b. b.name) blocks) → All IsLawfulBlock blocks
      → ((k : ℕ) (d : Component) → k < length s.parts → (block : ℕ) → block_in (slice_index_or s.parts k d).kind ≡ Some block → block < length s.blocks → IsKeptBlock s (record s { blocks = blocks }) block) → IsLawful (record s { blocks = blocks })
  IsLawful-with_blocks blocks most names each kept = let t : PresentView = record s { blocks = blocks } in record {
    some_cycle = h.some_cycle;
    cycles = h.cycles;
    nets = h.nets;
    cells = h.cells;
    parts = h.parts;
    readings = h.readings;
    modes = h.modes;
    blocks = most;
    names = h.names;
    distinct = h.distinct;
    block_names = names;
    widths = h.widths;
    each_part = λ k d low. let c : Component = slice_index_or s.parts k d in let l : IsLawfulComponent s c = h.each_part k d low in
        component_kept s t refl c l (λ i e at. (l.nets i e at, refl)) (λ i e at. (pins_there s c (block_in c.kind) l.pins i e at, refl)) (kept k d low);
    each_reading = All-weaker (IsFactOf s) (IsFactOf t) (λ f l. fact_kept s t refl f l (l.net, refl)) s.readings h.each_reading;
    rising = h.rising;
    each_mode = All-weaker (IsLawfulMode s) (IsLawfulMode t) (mode_same s t refl refl) s.modes h.each_mode;
    each_block = each;
  }

  at_is : (blocks : List BlockView) (k : ℕ) → block_at (record s { blocks = blocks }) k ≡ get_or blocks k (empty_block [])
  at_is blocks k = unwrap_or-slice_get blocks k (empty_block [])

  lawful_empty : (name : List ℕ) → IsTrue (is_name name) → IsLawfulBlock (empty_block name)
  lawful_empty name is = record {
    name = is;
    most_pins = omega arith;
    most_inners = omega arith;
    names = All-nil (λ n. IsTrue (is_name n));
    distinct = tt;
    widths = All-nil (λ (p : Net). (1 ≤ p.width) × (p.width ≤ WIDEST));
    each_inner = All-nil (IsLawfulInner []);
  }

  free_block : (name : List ℕ) → block_named s name ≡ None → IsIn (map (λ b. b.name) s.blocks) name → ⊥
  free_block name free at = let p = IsIn-map (λ (b : BlockView). b.name) s.blocks name at in not_named name p.0.name p.2 (position-None (λ b. bytes_eq b.name name) s.blocks free p.0 p.1)

  pub IsLawful-with_block : (name : List ℕ) → IsTrue (is_name name) → block_named s name ≡ None → length s.blocks < MOST_BLOCKS → IsLawful (with_block name s)
  IsLawful-with_block name is free room =
      let new : BlockView = empty_block name in
      let blocks : List BlockView = s.blocks ++ new ∷ [] in
      IsLawful-with_blocks blocks (omega (arith, length_push s.blocks new))
      (subst (λ (ns : List (List ℕ)). AreDistinct ns) (sym (map_push (λ (b : BlockView). b.name) s.blocks new)) (AreDistinct-push (map (λ (b : BlockView). b.name) s.blocks) name h.block_names (free_block name free)))
      (All-push IsLawfulBlock s.blocks new h.each_block (lawful_empty name is))
      (λ k d low block is at. (omega (arith, at, length_push s.blocks new), at_is blocks block ∙ (get_or_append_left s.blocks (new ∷ []) (empty_block []) block at ∙ sym (at_is s.blocks block))))

  pub IsLawful-without_last_block : IsUnusedBlock s (length s.blocks - 1) → IsLawful (without_last_block s)
  IsLawful-without_last_block unused =
      let n : ℕ = length s.blocks - 1 in
      let blocks : List BlockView = without_last s.blocks in
      let names : map (λ (b : BlockView). b.name) blocks ++ map (λ (b : BlockView). b.name) (drop n s.blocks) ≡ map (λ (b : BlockView). b.name) s.blocks = sym (map-append (λ (b : BlockView). b.name) blocks (drop n s.blocks)) ∙ ap (λ bs. map (λ (b : BlockView). b.name) bs) (take-append-drop n s.blocks) in
      IsLawful-with_blocks blocks (omega (arith, h.blocks, length-without_last s.blocks))
      (AreDistinct-left (map (λ (b : BlockView). b.name) blocks) (map (λ (b : BlockView). b.name) (drop n s.blocks)) (subst (λ (ns : List (List ℕ)). AreDistinct ns) (sym names) h.block_names))
      (All-without_last IsLawfulBlock s.blocks h.each_block)
      (λ k d low block is at.
      let other : block ≢ n = λ e. unused k d low (is ∙ ap Some e) in
      let below : block < n = omega (arith, at, other) in
      (omega (arith, below, length-take n s.blocks), at_is blocks block ∙ (get_or-take n s.blocks block (empty_block []) below ∙ sym (at_is s.blocks block))))

  -- with a change to a definition that no component is a block of
  pub IsLawful-change_block : (block : ℕ) (f : BlockView → BlockView) → block < length s.blocks → IsUnusedBlock s block → ((b : BlockView) → (f b).name ≡ b.name) → (IsLawfulBlock (block_at s block) → IsLawfulBlock (f (block_at s block))) → IsLawful (record s { blocks = change_at block f s.blocks })
  IsLawful-change_block block f there unused named keeps =
      let blocks : List BlockView = change_at block f s.blocks in
      let d : BlockView = empty_block [] in
      let lawful : IsLawfulBlock (f (get_or s.blocks block d)) = subst (λ (b : BlockView). IsLawfulBlock b → IsLawfulBlock (f b)) (at_is s.blocks block) keeps (h.each_block block d there) in
      IsLawful-with_blocks blocks (omega (arith, h.blocks, length-change_at f s.blocks block))
      (subst (λ (ns : List (List ℕ)). AreDistinct ns) (sym (map-change_at (λ (b : BlockView). b.name) f named s.blocks block)) h.block_names)
      (All-change_at IsLawfulBlock f s.blocks block d there lawful h.each_block)
      (λ k e low used is at.
      let other : used ≢ block = λ same. unused k e low (is ∙ ap Some same) in
      (omega (arith, at, length-change_at f s.blocks block), at_is blocks used ∙ (get_or-change_at_other f s.blocks block used d other there ∙ sym (at_is s.blocks used))))

-- changes of a definition
module _ (b : BlockView) (h : IsLawfulBlock b) where
  free_inside : (name : List ℕ) → pin_named b name ≡ None → inner_named b name ≡ None → IsIn (names_in b) name → ⊥
  free_inside name no_pin no_inner at = elim (IsIn-append (map (λ (p : Net). p.name) b.pins) (map (λ (i : Inner). i.name) b.inners) name at) as (λ _. ⊥) [
    | inl a ↦ let p = IsIn-map (λ (n : Net). n.name) b.pins name a in not_named name p.0.name p.2 (position-None (λ n. bytes_eq n.name name) b.pins no_pin p.0 p.1)
    | inr c ↦ let p = IsIn-map (λ (i : Inner). i.name) b.inners name c in not_named name p.0.name p.2 (position-None (λ i. bytes_eq i.name name) b.inners no_inner p.0 p.1)
  ]

  -- an inner component over other pins, where those at its ports are kept
  inner_kept : (pins : List Net) (i : Inner) → IsLawfulInner b.pins i → All (λ k. (k < length pins) × (width_in pins k ≡ width_in b.pins k)) i.pins → IsLawfulInner pins i
  inner_kept pins i l kept =
      let e : map (width_in b.pins) i.pins ≡ map (width_in pins) i.pins = sym (map_same (width_in pins) (width_in b.pins) (λ k. (k < length pins) × (width_in pins k ≡ width_in b.pins k)) (λ k both. both.1) i.pins kept) in
      record {
        plain = l.plain;
        three = l.three;
        pins_there = λ k d low. (kept k d low).0;
        unused = l.unused;
        widths = subst (λ (ws : List ℕ). IsTrue (are_widths i.kind ws)) e l.widths;
        value = subst (λ (ws : List ℕ). IsTrue (fits_value i.kind ws)) e l.value;
      }

  pub lawful_with_pin : (pin : Net) → pin_named b pin.name ≡ None → inner_named b pin.name ≡ None → length b.pins < MOST_PINS → IsTrue (is_name pin.name) → 1 ≤ pin.width → pin.width ≤ WIDEST → IsLawfulBlock (record b { pins = b.pins ++ pin ∷ [] })
  lawful_with_pin pin no_pin no_inner room name low high =
      let pins : List Net = b.pins ++ pin ∷ [] in
      let w : Net → ℕ = λ p. p.width in
      let front : List (List ℕ) = map (λ (p : Net). p.name) b.pins in
      let back : List (List ℕ) = map (λ (i : Inner). i.name) b.inners in
      let names : map (λ (p : Net). p.name) pins ++ back ≡ (front ++ pin.name ∷ []) ++ back = ap (λ ns. ns ++ back) (map_push (λ (p : Net). p.name) b.pins pin) in
      let kept : (k : ℕ) → k < length b.pins → (k < length pins) × (width_in pins k ≡ width_in b.pins k) = λ k at. (
        omega (arith, at, length_push b.pins pin),
        let fits : k < length (map w b.pins) = omega (arith, at, length-map b.pins w) in
            ap (λ ws. slice_index ws k) (map_push w b.pins pin) ∙ get_or_append_left (map w b.pins) (pin.width ∷ []) 0 k fits,
      ) in
      record {
        name = h.name;
        most_pins = omega (arith, room, length_push b.pins pin);
        most_inners = h.most_inners;
        names = subst (λ (ns : List (List ℕ)). All (λ n. IsTrue (is_name n)) ns) (sym names) (All-more_between (λ n. IsTrue (is_name n)) front back pin.name h.names name);
        distinct = subst (λ (ns : List (List ℕ)). AreDistinct ns) (sym names) (AreDistinct-more front back pin.name h.distinct (free_inside pin.name no_pin no_inner));
        widths = All-push (λ (p : Net). (1 ≤ p.width) × (p.width ≤ WIDEST)) b.pins pin h.widths (low, high);
        each_inner = λ k d at. let l : IsLawfulInner b.pins (slice_index_or b.inners k d) = h.each_inner k d at in inner_kept pins (slice_index_or b.inners k d) l (λ i e within. kept _ (l.pins_there i e within));
      }

  pub lawful_without_last_pin : All (λ i. All (λ k. k ≢ length b.pins - 1) i.pins) b.inners → IsLawfulBlock (record b { pins = without_last b.pins })
  lawful_without_last_pin unused =
      let n : ℕ = length b.pins - 1 in
      let pins : List Net = without_last b.pins in
      let w : Net → ℕ = λ p. p.width in
      let back : List (List ℕ) = map (λ (i : Inner). i.name) b.inners in
      let kept : (k : ℕ) → k < length b.pins → k ≢ n → (k < length pins) × (width_in pins k ≡ width_in b.pins k) = λ k at other. let below : k < n = omega (arith, at, other) in
      (omega (arith, below, length-take n b.pins), ap (λ (ws : List ℕ). get_or ws k 0) (sym (take-map w n b.pins)) ∙ get_or-take n (map w b.pins) k 0 below) in
      record {
        name = h.name;
        most_pins = omega (arith, h.most_pins, length-without_last b.pins);
        most_inners = h.most_inners;
        names = All-without_last_of (λ n. IsTrue (is_name n)) (λ (p : Net). p.name) b.pins back h.names;
        distinct = AreDistinct-without_last (λ (p : Net). p.name) b.pins back h.distinct;
        widths = All-without_last (λ (p : Net). (1 ≤ p.width) × (p.width ≤ WIDEST)) b.pins h.widths;
        each_inner = λ k d at. let l : IsLawfulInner b.pins (slice_index_or b.inners k d) = h.each_inner k d at in inner_kept pins (slice_index_or b.inners k d) l (λ i e within. kept _ (l.pins_there i e within) (unused k d at i e within));
      }

  pub lawful_with_inner : (inner : Inner) → pin_named b inner.name ≡ None → inner_named b inner.name ≡ None → IsLawfulInner b.pins inner → length b.inners < MOST_INNERS → IsTrue (is_name inner.name) → IsLawfulBlock (record b { inners = b.inners ++ inner ∷ [] })
  lawful_with_inner inner no_pin no_inner lawful room name =
      let front : List (List ℕ) = map (λ (p : Net). p.name) b.pins in
      let back : List (List ℕ) = map (λ (i : Inner). i.name) b.inners in
      let names : front ++ map (λ (i : Inner). i.name) (b.inners ++ inner ∷ []) ≡ (front ++ back) ++ inner.name ∷ [] = ap (λ ns. front ++ ns) (map_push (λ (i : Inner). i.name) b.inners inner) ∙ sym (append_assoc front back (inner.name ∷ [])) in
      record {
        name = h.name;
        most_pins = h.most_pins;
        most_inners = omega (arith, room, length_push b.inners inner);
        names = subst (λ (ns : List (List ℕ)). All (λ n. IsTrue (is_name n)) ns) (sym names) (All-push (λ n. IsTrue (is_name n)) (front ++ back) inner.name h.names name);
        distinct = subst (λ (ns : List (List ℕ)). AreDistinct ns) (sym names) (AreDistinct-push (front ++ back) inner.name h.distinct (free_inside inner.name no_pin no_inner));
        widths = h.widths;
        each_inner = All-push (IsLawfulInner b.pins) b.inners inner h.each_inner lawful;
      }

  pub lawful_without_last_inner : IsLawfulBlock (record b { inners = without_last b.inners })
  lawful_without_last_inner =
      let n : ℕ = length b.inners - 1 in
      let front : List (List ℕ) = map (λ (p : Net). p.name) b.pins in
      let kept : List (List ℕ) = map (λ (i : Inner). i.name) (without_last b.inners) in
      let gone : List (List ℕ) = map (λ (i : Inner). i.name) (drop n b.inners) in
      let whole : names_in b ≡ (front ++ kept) ++ gone = ap (λ is. front ++ map (λ (i : Inner). i.name) is) (sym (without_last-split b.inners)) ∙ (ap (λ ns. front ++ ns) (map-append (λ (i : Inner). i.name) (without_last b.inners) (drop n b.inners)) ∙ sym (append_assoc front kept gone)) in
      record {
        name = h.name;
        most_pins = h.most_pins;
        most_inners = omega (arith, h.most_inners, length-without_last b.inners);
        names = All-front (λ n. IsTrue (is_name n)) (front ++ kept) gone (subst (λ (ns : List (List ℕ)). All (λ n. IsTrue (is_name n)) ns) whole h.names);
        distinct = AreDistinct-left (front ++ kept) gone (subst (λ (ns : List (List ℕ)). AreDistinct ns) whole h.distinct);
        widths = h.widths;
        each_inner = All-without_last (IsLawfulInner b.pins) b.inners h.each_inner;
      }
