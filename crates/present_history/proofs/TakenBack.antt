-- Each change of a present is taken back.
use Rattle.std.proofs.Common.{◌≡◌, ℕ, zero, suc, ◌<◌, nat_lt, false, not, is_some, List, [], ◌∷◌, ◌++◌, length, slice_get, unwrap_or, Option, Some, None, IsSome, refl, sym, ap, subst, arith}
use Rattle.std.specs.Option.{option_and_then, option_map_or}
use Rattle.std.specs.Str.{bytes_eq}
use Rattle.std.proofs.lemmas.Bool.{cond-true}
use Rattle.std.proofs.lemmas.Bool.Decides.{nat_tests}
use Rattle.circuit_model.specs.declared.limits.TheConstants.{USUAL_COST}
use Rattle.circuit_model.specs.declared.model.Cell.{Cell}
use Rattle.circuit_model.specs.declared.model.Fact.{Fact}
use Rattle.circuit_model.specs.declared.blocks.Inner.{Inner}
use Rattle.circuit_model.specs.declared.present.Component.{Component}
use Rattle.circuit_model.specs.declared.present.DeclaredMode.{DeclaredMode}
use Rattle.circuit_model.specs.declared.present.Net.{Net}
use Rattle.circuit_model.specs.Blocks.{BlockView, empty_block}
use Rattle.circuit_model.specs.Closure.{fact}
use Rattle.circuit_model.specs.Opening.{block_component}
use Rattle.circuit_model.specs.Present.{PresentView, named_in, part_named, reading_in, is_block_in_use, without_last, with_cycles, with_net, with_part, with_cost, with_mode, with_block, with_pin, with_inner, with_standing, without_standing, IsLawful, IsLawfulComponent}
use Rattle.circuit_model.proofs.Changes.{length-change_at}
use Rattle.circuit_model.proofs.Moves.{All-read}
use Rattle.circuit_model.proofs.Presents.{IsUnusedPart-with_part}
use Rattle.std.proofs.lemmas.List.{length_push}
use Rattle.netlist_text.specs.Checks.{checks_of_change, first_misfit}
use Rattle.netlist_text.specs.Lookups.{cell_of, block_place, block_of, net_places, pins_of}
use Rattle.netlist_text.specs.Placing.{changed, component_at, stuck_mode, acting_mode, inner_at, IsOfPresent}
use Rattle.netlist_text.specs.declared.requests.Change.{Change}
use Rattle.netlist_text.specs.declared.requests.Change.TheVariants as asked
use Rattle.present_history.specs.declared.undoing.Undoing.TheVariants as back
use Rattle.present_history.specs.Undoing.{cell_in, reading_there, undoing_of, TakesBack}
use Rattle.present_history.proofs.Checked.{none_applies, holds, nothing_there, something_there, found_within}
use Rattle.present_history.proofs.Edits.{without_last-push, change_at_back}
use Rattle.present_history.proofs.Standing.{taken_out, reading_in-put, may_stand, stands_again}
use Rattle.present_history.proofs.Unused.{may_lose_net, may_lose_block, may_lose_pin, may_lose_inner, unused_block}

none_below : (n : ℕ) → nat_lt 0 n ≡ false → n ≡ 0
none_below n e = grind (arith, nat_tests)

-- the cell of a cycle that the present has
pub cell_in-there : (s : PresentView) (net : List ℕ) (cycle : ℕ) → not (nat_lt cycle s.cycles) ≡ false → cell_in s net cycle ≡ cell_of s net cycle
cell_in-there s net cycle there = ap (λ (n : ℕ). cell_of s net n) (cond-true (nat_lt cycle s.cycles) cycle 0 (holds (nat_lt cycle s.cycles) there))

module _ (s : PresentView) (h : IsLawful s) where
  cycles_back : (count : ℕ) → length s.nets ≡ 0 → TakesBack (back.Cycles s.cycles) (with_cycles count s) s
  cycles_back count empty = record {
    may = record { empty = empty; low = h.some_cycle; high = h.cycles };
    is = refl;
  }

  net_back : (n : Net) → TakesBack back.Net (with_net n s) s
  net_back n = record {
    may = may_lose_net s h n;
    is = ap (λ (nets : List Net). record s { nets = nets }) (without_last-push s.nets n);
  }

  part_back : (c : Component) → named_in s c.name ≡ None → TakesBack back.Part (with_part c s) s
  part_back c free = record {
    may = record { some = omega (arith, length_push s.parts c); unused = IsUnusedPart-with_part c s h free };
    is = ap (λ (parts : List Component). record s { parts = parts }) (without_last-push s.parts c);
  }

  mode_back : (m : DeclaredMode) → TakesBack back.Mode (with_mode m s) s
  mode_back m = record {
    may = omega (arith, length_push s.modes m);
    is = ap (λ (modes : List DeclaredMode). record s { modes = modes }) (without_last-push s.modes m);
  }

  block_back : (name : List ℕ) → TakesBack back.Block (with_block name s) s
  block_back name = record {
    may = may_lose_block s h name;
    is = ap (λ (blocks : List BlockView). record s { blocks = blocks }) (without_last-push s.blocks (empty_block name));
  }

  pin_back : (block : ℕ) (pin : Net) → block < length s.blocks → is_block_in_use s block ≡ false → TakesBack (back.Pin block) (with_pin block pin s) s
  pin_back block pin there free = record {
    may = may_lose_pin s h block there (unused_block s h block free) pin;
    is = ap (λ (blocks : List BlockView). record s { blocks = blocks }) (change_at_back (λ (b : BlockView). record b { pins = b.pins ++ pin ∷ [] }) (λ (b : BlockView). record b { pins = without_last b.pins }) s.blocks block (λ b at. ap (λ (pins : List Net). record b { pins = pins }) (without_last-push b.pins pin)));
  }

  inner_back : (block : ℕ) (inner : Inner) → block < length s.blocks → is_block_in_use s block ≡ false → TakesBack (back.Inner block) (with_inner block inner s) s
  inner_back block inner there free = record {
    may = may_lose_inner s h block there (unused_block s h block free) inner;
    is = ap (λ (blocks : List BlockView). record s { blocks = blocks }) (change_at_back (λ (b : BlockView). record b { inners = b.inners ++ inner ∷ [] }) (λ (b : BlockView). record b { inners = without_last b.inners }) s.blocks block (λ b at. ap (λ (inners : List Inner). record b { inners = inners }) (without_last-push b.inners inner)));
  }

  -- the cost of the component at the place, where there is one
  abbrev cost_at : Option ℕ → ℕ
  cost_at o = option_map_or (λ (c : Component). c.cost) (option_and_then (slice_get s.parts) o) USUAL_COST

  cost_back_at : (place cost : ℕ) (c : Component) → slice_get s.parts place ≡ Some c → place < length s.parts → TakesBack (back.Cost place (cost_at (Some place))) (with_cost place cost s) s
  cost_back_at place cost c at there =
      let l : IsLawfulComponent s c = All-read (IsLawfulComponent s) s.parts place c at h.each_part in
      let before : cost_at (Some place) ≡ c.cost = ap (λ (o : Option Component). option_map_or (λ (c : Component). c.cost) o USUAL_COST) at in
      let set : ℕ → Component → Component = λ n c. record c { cost = n } in
      record {
        may = record {
          there = omega (arith, there, length-change_at (set cost) s.parts place);
          low = omega (arith, before, l.cost_low);
          high = omega (arith, before, l.cost_high);
        };
        is = ap (λ (parts : List Component). record s { parts = parts }) (change_at_back (set cost) (set (cost_at (Some place))) s.parts place
            (λ d there. ap (λ (o : Option Component). record d { cost = option_map_or (λ (c : Component). c.cost) o USUAL_COST }) there));
      }

  cost_back : (o : Option ℕ) (cost : ℕ) → not (is_some o) ≡ false → unwrap_or o 0 < length s.parts → TakesBack (back.Cost (unwrap_or o 0) (cost_at o)) (with_cost (unwrap_or o 0) cost s) s
  cost_back None cost some there = cc
  cost_back (Some place) cost some there = let r = read s.parts place there in cost_back_at place cost r.0 r.1 there
    where
      read : (cs : List Component) (k : ℕ) → k < length cs → (c : Component) × (slice_get cs k ≡ Some c)
      read [] k low = absurd (omega arith)
      read (c ∷ cs) zero low = (c, refl)
      read (c ∷ cs) (suc k) low = read cs k (omega arith)

  measure_back : (f : Fact) (c : Cell) → c ≡ f.cell → reading_in s.readings f.cell ≡ None → TakesBack (back.Measured c) (with_standing f s) s
  measure_back f c same free = subst (λ (c : Cell). TakesBack (back.Measured c) (with_standing f s) s) (sym same) (record {
    may = subst (λ (o : Option ℕ). IsSome o) (sym (reading_in-put f s.readings free)) refl;
    is = ap (λ (rs : List Fact). record s { readings = rs }) (taken_out f s.readings free);
  })

  retract_back_at : (c : Cell) (v : ℕ) → reading_in s.readings c ≡ Some v → TakesBack (back.Retracted (fact c v)) (without_standing c s) s
  retract_back_at c v e = record { may = may_stand s h c v e; is = stands_again s h c v e }

  retract_back : (c d : Cell) → d ≡ c → not (is_some (reading_in s.readings c)) ≡ false → TakesBack (back.Retracted (reading_there s d)) (without_standing c s) s
  retract_back c d same there =
      let found : (v : ℕ) × (reading_in s.readings c ≡ Some v) = something_there (reading_in s.readings c) there in
      let is : fact c found.0 ≡ reading_there s c = ap (λ (o : Option ℕ). fact c (unwrap_or o 0)) (sym found.1) in
      subst (λ (d : Cell). TakesBack (back.Retracted (reading_there s d)) (without_standing c s) s) (sym same)
      (subst (λ (f : Fact). TakesBack (back.Retracted f) (without_standing c s) s) is (retract_back_at c found.0 found.1))

-- Each change of a present to which no check applies is taken back.
pub taken_back : (s : PresentView) (change : Change) → IsLawful s → IsOfPresent change → first_misfit (checks_of_change s change) ≡ None → TakesBack (undoing_of s change) (changed s change) s
taken_back s (asked.Cycles count) h of free = let p = none_applies (checks_of_change s (asked.Cycles count)) free in cycles_back s h count (none_below (length s.nets) p.1.0)
taken_back s (asked.Net name width) h of free = net_back s h (record { name = name; width = width })
taken_back s (asked.Add name kind nets) h of free = let p = none_applies (checks_of_change s (asked.Add name kind nets)) free in part_back s h (component_at s name kind (net_places s nets)) (nothing_there (named_in s name) p.0)
taken_back s (asked.Cost name cost) h of free = let p = none_applies (checks_of_change s (asked.Cost name cost)) free in cost_back s h (part_named s name) cost p.0 (found_within (λ p. bytes_eq p.name name) s.parts p.0)
taken_back s (asked.Stuck name value cost) h of free = mode_back s h (stuck_mode name value cost)
taken_back s (asked.Acts name kind cost) h of free = mode_back s h (acting_mode name kind cost)
taken_back s (asked.Define block) h of free = block_back s h block
taken_back s (asked.Pin block name width) h of free = let p = none_applies (checks_of_change s (asked.Pin block name width)) free in pin_back s h (block_place s block) (record { name = name; width = width }) (found_within (λ b. bytes_eq b.name block) s.blocks p.0) p.1.1.1.0
taken_back s (asked.Inside block name kind nets) h of free = let p = none_applies (checks_of_change s (asked.Inside block name kind nets)) free in inner_back s h (block_place s block) (inner_at name kind (pins_of (block_of s block) nets)) (found_within (λ b. bytes_eq b.name block) s.blocks p.0) p.1.1.1.1.1.0
taken_back s (asked.UseBlock block name nets) h of free = let p = none_applies (checks_of_change s (asked.UseBlock block name nets)) free in part_back s h (block_component s (block_place s block) name (net_places s nets)) (nothing_there (named_in s name) p.1.0)
taken_back s (asked.Measure net cycle value) h of free = let p = none_applies (checks_of_change s (asked.Measure net cycle value)) free in
    measure_back s h (fact (cell_of s net cycle) value) (cell_in s net cycle) (cell_in-there s net cycle p.1.0) (nothing_there (reading_in s.readings (cell_of s net cycle)) p.1.1.1.1.0)
taken_back s (asked.Retract net cycle) h of free = let p = none_applies (checks_of_change s (asked.Retract net cycle)) free in
    retract_back s h (cell_of s net cycle) (cell_in s net cycle) (cell_in-there s net cycle p.1.0) p.1.1.0
taken_back s asked.Undo h of free = absurd of

module _ (s : PresentView) (net : List ℕ) (cycle : ℕ) where
  -- what takes a measurement back that no check refuses
  pub undoing_of-measure : (value : ℕ) → first_misfit (checks_of_change s (asked.Measure net cycle value)) ≡ None → undoing_of s (asked.Measure net cycle value) ≡ back.Measured (cell_of s net cycle)
  undoing_of-measure value free = let p = none_applies (checks_of_change s (asked.Measure net cycle value)) free in ap back.Measured (cell_in-there s net cycle p.1.0)

  -- and what takes a retraction back
  pub undoing_of-retract : first_misfit (checks_of_change s (asked.Retract net cycle)) ≡ None → undoing_of s (asked.Retract net cycle) ≡ back.Retracted (reading_there s (cell_of s net cycle))
  undoing_of-retract free = let p = none_applies (checks_of_change s (asked.Retract net cycle)) free in ap (λ (c : Cell). back.Retracted (reading_there s c)) (cell_in-there s net cycle p.1.0)
