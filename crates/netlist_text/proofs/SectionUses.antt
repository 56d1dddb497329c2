-- The section of the components, with those that are blocks.
use Rattle.std.proofs.Common.{◌≡◌, ℕ, ◌≤◌, ◌<◌, ◌==◌, true, nat_lt, List, [], ◌∷◌, ◌++◌, length, map, slice_get, Option, Some, None, Ok, codes, refl, sym, subst, ◌∙◌, ap, ap₂, arith}
use Rattle.std.specs.Prelude.{slice_index}
use Rattle.std.specs.List.{All, list_all}
use Rattle.std.specs.Str.{bytes_eq}
use Rattle.std.proofs.lemmas.Bool.{and_from, and_parts, lt-ltb, eq-eqb}
use Rattle.std.proofs.lemmas.List.{length-map}
use Rattle.std.proofs.lemmas.List.Elements.{All-head}
use Rattle.std.proofs.lemmas.Option.{get_or_from_slice_get}
use Rattle.std.proofs.lemmas.Slice.Eq.{bytes_eq-Decides}
use Rattle.circuit_model.specs.Blocks.{BlockView, IsLawfulBlock, IsLawfulInner, block_part}
use Rattle.circuit_model.specs.Kinds.{block_in, RepeatAfter, RepeatsLast, three_times}
use Rattle.circuit_model.specs.Names.{is_name}
use Rattle.circuit_model.specs.Opening.{block_component}
use Rattle.circuit_model.specs.Present.{PresentView, IsLawful, IsUse, HasPins, part_by, block_at, block_named, width_of}
use Rattle.circuit_model.specs.declared.limits.TheConstants.{MOST_PINS, USUAL_COST}
use Rattle.circuit_model.specs.declared.model.Instance.{Instance}
use Rattle.circuit_model.specs.declared.model.Kind.{Kind}
use Rattle.circuit_model.specs.declared.model.Kind.TheVariants as kind
use Rattle.circuit_model.specs.declared.present.Component.{Component}
use Rattle.netlist_text.specs.Checks.{has_pins}
use Rattle.netlist_text.specs.Lookups.{net_places}
use Rattle.netlist_text.specs.Show.{name_at, component_words, component_words_by}
use Rattle.netlist_text.specs.declared.requests.Change.TheVariants as change
use Rattle.netlist_text.specs.declared.requests.Request.TheVariants as request
use Rattle.netlist_text.proofs.Spaced.{Leads, AllLead, AreWords, asked_by, leads}
use Rattle.netlist_text.proofs.ShownWords.{known_word, name_word}
use Rattle.netlist_text.proofs.ShownParts.{block-there}
use Rattle.netlist_text.proofs.ReadBack.{use_asks, room_of_few}
use Rattle.netlist_text.proofs.NamedPlaces.{All-place, position_at}
use Rattle.netlist_text.proofs.NetNames.{are_names_at, found_all, known_all}
use Rattle.netlist_text.proofs.SectionNets.{nets_distinct}
use Rattle.netlist_text.proofs.SectionParts.{usual, net_names_are, with_usual, part_is_name, no_net, no_part, lawful_part, room_left, one_more, part_leads}
use Rattle.netlist_text.proofs.SectionBlocks.{block_name}
use Rattle.netlist_text.proofs.Sections.{line_section}

-- a kind that is a block
kind_of_block : (k : Kind) (block : ℕ) → block_in k ≡ Some block → k ≡ kind.Block block
kind_of_block kind.Buf block e = cc
kind_of_block kind.Not block e = cc
kind_of_block kind.And block e = cc
kind_of_block kind.Or block e = cc
kind_of_block kind.Xor block e = cc
kind_of_block kind.Nand block e = cc
kind_of_block kind.Nor block e = cc
kind_of_block kind.Xnor block e = cc
kind_of_block kind.Add block e = cc
kind_of_block kind.Mul block e = cc
kind_of_block (kind.Const value) block e = cc
kind_of_block (kind.Reg reset) block e = cc
kind_of_block (kind.Block other) block e = let same : other ≡ block = cc in ap kind.Block same

-- three places that repeat the first pin's net
repeated : (nets pins : List ℕ) → length nets ≡ 3 → RepeatAfter 1 nets → slice_get nets 0 ≡ slice_get pins 0 → nets ≡ three_times (slice_index pins 0)
repeated [] pins size r first = absurd (omega arith)
repeated (a ∷ []) pins size r first = absurd (omega arith)
repeated (a ∷ b ∷ []) pins size r first = absurd (omega arith)
repeated (a ∷ b ∷ c ∷ d ∷ nets) pins size r first = absurd (omega arith)
repeated (a ∷ b ∷ c ∷ []) pins size r first =
    let here = r.0 in
    let next = r.1 in
    let one : a ≡ b = cc in
    let two : b ≡ c = cc in
    let net : slice_index pins 0 ≡ a = get_or_from_slice_get pins 0 a 0 (sym first) in
    ap (λ x. a ∷ x ∷ c ∷ []) (sym one) ∙ (ap (λ x. a ∷ a ∷ x ∷ []) (sym (one ∙ two)) ∙ ap (λ (x : ℕ). three_times x) (sym net))

-- a definition with an inner component has a pin
some_pin : (b : BlockView) → IsLawfulBlock b → 1 ≤ length b.inners → 1 ≤ length b.pins
some_pin b h some = of_inners b.inners h.each_inner some
  where
    of_places : (places : List ℕ) → length places ≡ 3 → All (λ k. k < length b.pins) places → 1 ≤ length b.pins
    of_places [] e w = absurd (omega arith)
    of_places (k ∷ places) e w = let below : k < length b.pins = All-head (λ k. k < length b.pins) k places w in omega (arith, below)

    of_inners : (inners : List _) → All (IsLawfulInner b.pins) inners → 1 ≤ length inners → 1 ≤ length b.pins
    of_inners [] each some = absurd (omega arith)
    of_inners (i ∷ inners) each some = let li = All-head (IsLawfulInner b.pins) i inners each in of_places i.pins li.three li.pins_there

-- names are words
names_are_words : (names : List (List ℕ)) → list_all is_name names ≡ true → AreWords 32 names
names_are_words [] h = tt
names_are_words (n ∷ names) h = let p = and_parts (is_name n) (list_all is_name names) h in (name_word n p.0, names_are_words names p.1)

use_line_asks : (block name : List ℕ) (nets : List (List ℕ)) → is_name block ≡ true → is_name name ≡ true → list_all is_name nets ≡ true → 1 ≤ length nets → length nets ≤ MOST_PINS
    → asked_by (codes "use" ∷ block ∷ name ∷ nets) ≡ Ok (request.Change (change.UseBlock block name nets))
use_line_asks block name [] b n ks some few = absurd (omega arith)
use_line_asks block name (net ∷ nets) b n ks some few = let p = and_parts (is_name net) (list_all is_name nets) ks in use_asks block name net nets b n p.0 p.1 (omega (arith, few))

module _ (s : PresentView) (h : IsLawful s) (front : List Component) (c : Component) (rest : List Component) (e : s.parts ≡ front ++ c ∷ rest) (block : ℕ) (is : block_in c.kind ≡ Some block) where
  the_use : IsUse s block c
  the_use = let P : Option ℕ → Type 0 = λ o. HasPins s o c in subst P is (lawful_part s h front c rest e).pins

  the_block : IsLawfulBlock (block_at s block)
  the_block = All-place IsLawfulBlock s.blocks block (block_at s block) (block-there s block the_use.there) h.each_block

  block_is : usual c ≡ block_component s block c.name c.pins
  block_is =
      let l = lawful_part s h front c rest e in
      let same : c.kind ≡ kind.Block block = kind_of_block c.kind block is in
      let R : Kind → Type 0 = λ k. RepeatsLast k c.nets in
      let nets : c.nets ≡ three_times (slice_index c.pins 0) = repeated c.nets c.pins l.three (subst R same l.unused) the_use.first in
      let P : Option ℕ → Type 0 = λ o. c.part ≡ part_by s o c in
      let part : c.part ≡ block_part (block_at s block) c.pins s.cycles = subst P is l.part in
      ap₂ (λ (k : Kind) (nets : List ℕ). let d : Component = record { name = c.name; kind = k; nets = nets; cost = USUAL_COST; pins = c.pins; part = c.part } in d) same nets
      ∙ ap (λ (part : List Instance). let d : Component = record { name = c.name; kind = kind.Block block; nets = three_times (slice_index c.pins 0); cost = USUAL_COST; pins = c.pins; part = part } in d) part

  use_leads : Leads (with_usual s h front) (component_words_by s (Some block) c) (with_usual s h (front ++ c ∷ []))
  use_leads =
      let u = the_use in
      let b = block_at s block in
      let lb = the_block in
      let names : List (List ℕ) = map (name_at s.nets) c.pins in
      let name = part_is_name s h front c rest e in
      let named : is_name b.name ≡ true = lb.name in
      let there : block_named (with_usual s h front) b.name ≡ Some block = position_at block_name s.blocks block b h.block_names (block-there s block u.there) in
      let places : net_places s names ≡ c.pins = found_all s.nets (nets_distinct s h) c.pins u.nets_there in
      let known = known_all s.nets (nets_distinct s h) c.pins u.nets_there in
      let all_names : list_all is_name names ≡ true = are_names_at s.nets (net_names_are s h) c.pins u.nets_there in
      let size : length names ≡ length c.pins = length-map c.pins (name_at s.nets) in
      let sized : length c.pins ≡ length b.pins = sym (length-map c.pins (width_of s)) ∙ (ap length u.widths ∙ length-map b.pins (λ p. p.width)) in
      let some = some_pin b lb u.some_inner in
      let most = lb.most_pins in
      let inner = u.some_inner in
      let pins : has_pins b (length names) ≡ true = and_from (nat_lt 0 (length b.inners)) (length names == length b.pins) (lt-ltb 0 (length b.inners) (omega (arith, inner))) (eq-eqb (length names) (length b.pins) (size ∙ sized)) in
      let widths : bytes_eq (map (width_of s) c.pins) (map (λ p. p.width) b.pins) ≡ true = (bytes_eq-Decides (map (width_of s) c.pins) (map (λ p. p.width) b.pins)).1 u.widths in
      let room = room_left s h front c rest e in
      leads 32 (component_words_by s (Some block) c) (with_usual s h front) (with_usual s h (front ++ c ∷ [])) (Ok (request.Change (change.UseBlock b.name c.name names)))
      (known_word (codes "use") refl, (name_word b.name named, (name_word c.name name, names_are_words names all_names)))
      (room_of_few (component_words_by s (Some block) c) (omega (arith, size, sized, most)))
      (use_line_asks b.name c.name names named name all_names (omega (arith, size, sized, some)) (omega (arith, size, sized, most))) (
        tt,
        record {
          free = rw (there, no_net s h front c rest e, no_part s h front c rest e, pins, known, places, widths, room) refl;
          made = rw (there, places) (one_more s h front c rest e (block_component s block c.name c.pins) block_is);
        },
      )

module _ (s : PresentView) (h : IsLawful s) where
  component_leads : (front : List Component) (c : Component) (rest : List Component) → s.parts ≡ front ++ c ∷ rest → Leads (with_usual s h front) (component_words s c) (with_usual s h (front ++ c ∷ []))
  component_leads front c rest e = by_kind (block_in c.kind) refl
    where
      by_kind : (o : Option ℕ) → block_in c.kind ≡ o → Leads (with_usual s h front) (component_words_by s o c) (with_usual s h (front ++ c ∷ []))
      by_kind None is = part_leads s h front c rest e is
      by_kind (Some block) is = use_leads s h front c rest e block is

  pub part_section : AllLead (with_usual s h []) (map (component_words s) s.parts) (with_usual s h s.parts)
  part_section = line_section (component_words s) (with_usual s h) s.parts component_leads
