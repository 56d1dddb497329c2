-- The section of the definitions of blocks, with their pins and inner components.
use Rattle.std.proofs.Common.{◌≡◌, ℕ, ◌≤◌, true, false, nat_le, List, [], ◌∷◌, ◌++◌, length, map, Some, None, Ok, codes, lit≤, refl, sym, subst, ◌∙◌, ap, append_assoc, arith}
use Rattle.std.specs.List.{All, flat_map}
use Rattle.std.proofs.lemmas.Bool.{and_from, le-leb, lt-leb}
use Rattle.std.proofs.lemmas.List.{map-append}
use Rattle.environment_sets.specs.Lists.{IsIn, AreDistinct}
use Rattle.environment_sets.proofs.Membership.{IsIn-left, IsIn-right, AreDistinct-left}
use Rattle.word_domain.specs.Words.{is_width}
use Rattle.word_domain.specs.declared.width.TheConstants.{WIDEST}
use Rattle.circuit_model.specs.Blocks.{BlockView, names_in, pin_named, inner_named, width_in, IsLawfulBlock, IsLawfulInner}
use Rattle.circuit_model.specs.Kinds.{are_widths, fits_value}
use Rattle.circuit_model.specs.Names.{is_name}
use Rattle.circuit_model.specs.Present.{PresentView, IsLawful, block_named, with_pin, with_inner}
use Rattle.circuit_model.specs.declared.limits.TheConstants.{MOST_BLOCKS, MOST_PINS, MOST_INNERS}
use Rattle.circuit_model.specs.declared.blocks.Inner.{Inner}
use Rattle.circuit_model.specs.declared.present.Net.{Net}
use Rattle.circuit_model.proofs.Changes.{All-front}
use Rattle.netlist_text.specs.Lookups.{block_of, pins_of}
use Rattle.netlist_text.specs.Show.{name_at, part_words, pin_words, inner_words, block_lines}
use Rattle.netlist_text.specs.declared.requests.Change.TheVariants as change
use Rattle.netlist_text.specs.declared.requests.Request.TheVariants as request
use Rattle.netlist_text.proofs.Spaced.{Leads, AllLead, AllLead-append, leads}
use Rattle.netlist_text.proofs.ShownWords.{known_word, name_word, number_word}
use Rattle.netlist_text.proofs.ReadBack.{define_asks, pin_asks, inside_asks, room_of_few}
use Rattle.netlist_text.proofs.NamedPlaces.{at_seam, within_seam, All-seam, new_at_seam, position_at, position_new}
use Rattle.netlist_text.proofs.NetNames.{net_name, found_all, known_all, fits_nets, has_number}
use Rattle.netlist_text.proofs.SectionNets.{present_of}
use Rattle.netlist_text.proofs.SectionCosts.{change_at-seam}
use Rattle.netlist_text.proofs.Sections.{section, line_section}

abbrev pub block_name : BlockView → List ℕ
block_name b = b.name

abbrev pub inner_name : Inner → List ℕ
inner_name i = i.name

module _ (s : PresentView) (h : IsLawful s) where
  -- the present with these definitions
  abbrev pub with_blocks : List BlockView → PresentView
  with_blocks front = present_of s.cycles s.nets front [] [] []

  module _ (front : List BlockView) (b : BlockView) (rest : List BlockView) (e : s.blocks ≡ front ++ b ∷ rest) where
    lawful_block : IsLawfulBlock b
    lawful_block = let Q : List BlockView → Type 0 = All IsLawfulBlock in All-seam IsLawfulBlock front rest b (subst Q e h.each_block)

    -- the definition as far as it is read
    abbrev part_of_it : List Net → List Inner → BlockView
    part_of_it pins inners = record { name = b.name; pins = pins; inners = inners }

    abbrev with_it : List Net → List Inner → PresentView
    with_it pins inners = with_blocks (front ++ part_of_it pins inners ∷ [])

    names_split : map block_name s.blocks ≡ map block_name front ++ b.name ∷ map block_name rest
    names_split = ap (map block_name) e ∙ map-append block_name front (b ∷ rest)

    split_names : AreDistinct (map block_name front ++ b.name ∷ map block_name rest)
    split_names = let Q : List (List ℕ) → Type 0 = AreDistinct in subst Q names_split h.block_names

    not_yet : block_named (with_blocks front) b.name ≡ None
    not_yet = position_new block_name front b.name (new_at_seam (map block_name front) (map block_name rest) b.name split_names)

    front_names : AreDistinct (map block_name front ++ b.name ∷ [])
    front_names =
        let Q : List (List ℕ) → Type 0 = AreDistinct in
        AreDistinct-left (map block_name front ++ b.name ∷ []) (map block_name rest) (subst Q (sym (append_assoc (map block_name front) (b.name ∷ []) (map block_name rest))) split_names)

    its_place : (pins : List Net) (inners : List Inner) → block_named (with_it pins inners) b.name ≡ Some (length front)
    its_place pins inners =
        let Q : List (List ℕ) → Type 0 = AreDistinct in
        let it : BlockView = part_of_it pins inners in
        position_at block_name (front ++ it ∷ []) (length front) it (subst Q (sym (map-append block_name front (it ∷ []))) front_names) (at_seam front [] it)

    it_is : (pins : List Net) (inners : List Inner) → block_of (with_it pins inners) b.name ≡ part_of_it pins inners
    it_is pins inners = rw (its_place pins inners, at_seam front [] (part_of_it pins inners)) refl

    its_name : is_name b.name ≡ true
    its_name = lawful_block.name

    define_leads : Leads (with_blocks front) (codes "define" ∷ b.name ∷ []) (with_it [] [])
    define_leads =
        let size = within_seam front rest b in
        let count : length s.blocks ≡ length (front ++ b ∷ rest) = ap length e in
        let most = h.blocks in
        let room : nat_le MOST_BLOCKS (length front) ≡ false = lt-leb MOST_BLOCKS (length front) (omega (arith, size, count, most)) in
        leads 32 (codes "define" ∷ b.name ∷ []) (with_blocks front) (with_it [] []) (Ok (request.Change (change.Define b.name)))
        (known_word (codes "define") refl, (name_word b.name its_name, tt)) (lit≤ tt) (define_asks b.name its_name)
        (tt, record { free = rw (not_yet, room) refl; made = refl })

    pin_names : All (λ n. is_name n ≡ true) (map net_name b.pins)
    pin_names = All-front (λ n. is_name n ≡ true) (map net_name b.pins) (map inner_name b.inners) lawful_block.names

    pin_leads : (before : List Net) (p : Net) (after : List Net) → b.pins ≡ before ++ p ∷ after → Leads (with_it before []) (pin_words b.name p) (with_it (before ++ p ∷ []) [])
    pin_leads before p after split =
        let l = lawful_block in
        let names : map net_name b.pins ≡ map net_name before ++ p.name ∷ map net_name after = ap (map net_name) split ∙ map-append net_name before (p ∷ after) in
        let Q : List (List ℕ) → Type 0 = AreDistinct in
        let A : List (List ℕ) → Type 0 = All (λ n. is_name n ≡ true) in
        let W : List Net → Type 0 = All (λ p. (1 ≤ p.width) × (p.width ≤ WIDEST)) in
        let distinct : AreDistinct (map net_name before ++ p.name ∷ map net_name after) = subst Q names (AreDistinct-left (map net_name b.pins) (map inner_name b.inners) l.distinct) in
        let name : is_name p.name ≡ true = All-seam (λ n. is_name n ≡ true) (map net_name before) (map net_name after) p.name (subst A names pin_names) in
        let width : (1 ≤ p.width) × (p.width ≤ WIDEST) = All-seam (λ p. (1 ≤ p.width) × (p.width ≤ WIDEST)) before after p (subst W split l.widths) in
        let low = width.0 in
        let high = width.1 in
        let number = number_word p.width (omega (arith, high)) in
        let wide : is_width p.width ≡ true = and_from (nat_le 1 p.width) (nat_le p.width WIDEST) (le-leb 1 p.width low) (le-leb p.width WIDEST high) in
        let new : pin_named (part_of_it before []) p.name ≡ None = position_new net_name before p.name (new_at_seam (map net_name before) (map net_name after) p.name distinct) in
        let size = within_seam before after p in
        let count : length b.pins ≡ length (before ++ p ∷ after) = ap length split in
        let most = l.most_pins in
        let room : nat_le MOST_PINS (length before) ≡ false = lt-leb MOST_PINS (length before) (omega (arith, size, count, most)) in
        let made : with_it (before ++ p ∷ []) [] ≡ with_pin (length front) p (with_it before []) = ap with_blocks (sym (change_at-seam (λ (b : BlockView). record b { pins = b.pins ++ p ∷ [] }) front [] (part_of_it before []))) in
        leads 32 (pin_words b.name p) (with_it before []) (with_it (before ++ p ∷ []) []) (Ok (request.Change (change.Pin b.name p.name p.width)))
        (known_word (codes "pin") refl, (name_word b.name its_name, (name_word p.name name, (number.word, tt)))) (lit≤ tt) (pin_asks p.width number b.name p.name its_name name)
        (tt, record { free = rw (its_place before [], at_seam front [] (part_of_it before []), new, wide, room) refl; made = rw (its_place before []) made })

    inner_leads : (before : List Inner) (i : Inner) (after : List Inner) → b.inners ≡ before ++ i ∷ after → Leads (with_it b.pins before) (inner_words b.name b.pins i) (with_it b.pins (before ++ i ∷ []))
    inner_leads before i after split =
        let l = lawful_block in
        let N : List Inner → Type 0 = All (IsLawfulInner b.pins) in
        let li : IsLawfulInner b.pins i = All-seam (IsLawfulInner b.pins) before after i (subst N split l.each_inner) in
        let pins : List (List ℕ) = map net_name b.pins in
        let inners : map inner_name b.inners ≡ map inner_name before ++ i.name ∷ map inner_name after = ap (map inner_name) split ∙ map-append inner_name before (i ∷ after) in
        let names : names_in b ≡ (pins ++ map inner_name before) ++ i.name ∷ map inner_name after = ap (λ ns. pins ++ ns) inners ∙ sym (append_assoc pins (map inner_name before) (i.name ∷ map inner_name after)) in
        let Q : List (List ℕ) → Type 0 = AreDistinct in
        let A : List (List ℕ) → Type 0 = All (λ n. is_name n ≡ true) in
        let new : IsIn (pins ++ map inner_name before) i.name → ⊥ = new_at_seam (pins ++ map inner_name before) (map inner_name after) i.name (subst Q names l.distinct) in
        let name : is_name i.name ≡ true = All-seam (λ n. is_name n ≡ true) (pins ++ map inner_name before) (map inner_name after) i.name (subst A names l.names) in
        let no_pin : pin_named (part_of_it b.pins before) i.name ≡ None = position_new net_name b.pins i.name (λ k. new (IsIn-left pins (map inner_name before) i.name k)) in
        let no_inner : inner_named (part_of_it b.pins before) i.name ≡ None = position_new inner_name before i.name (λ k. new (IsIn-right pins (map inner_name before) i.name k)) in
        let distinct_pins : AreDistinct pins = AreDistinct-left pins (map inner_name b.inners) l.distinct in
        let known = known_all b.pins distinct_pins i.pins li.pins_there in
        let places : pins_of (part_of_it b.pins before) (map (name_at b.pins) i.pins) ≡ i.pins = found_all b.pins distinct_pins i.pins li.pins_there in
        let widths : are_widths i.kind (map (width_in b.pins) i.pins) ≡ true = li.widths in
        let value : fits_value i.kind (map (width_in b.pins) i.pins) ≡ true = li.value in
        let fits = fits_nets b.pins pin_names i.kind i.name i.pins name li.three li.pins_there li.plain li.unused (has_number b.pins l.widths i.kind i.pins li.value) in
        let words : List (List ℕ) = part_words i.kind i.name (map (name_at b.pins) i.pins) in
        let short : length words ≤ 5 = fits.1.short in
        let size = within_seam before after i in
        let count : length b.inners ≡ length (before ++ i ∷ after) = ap length split in
        let most = l.most_inners in
        let room : nat_le MOST_INNERS (length before) ≡ false = lt-leb MOST_INNERS (length before) (omega (arith, size, count, most)) in
        let made : with_it b.pins (before ++ i ∷ []) ≡ with_inner (length front) i (with_it b.pins before) = ap with_blocks (sym (change_at-seam (λ (b : BlockView). record b { inners = b.inners ++ i ∷ [] }) front [] (part_of_it b.pins before))) in
        leads 32 (inner_words b.name b.pins i) (with_it b.pins before) (with_it b.pins (before ++ i ∷ [])) (Ok (request.Change (change.Inside b.name i.name i.kind (map (name_at b.pins) i.pins))))
        (known_word (codes "inside") refl, (name_word b.name its_name, fits.1.words)) (room_of_few (inner_words b.name b.pins i) (omega (arith, short))) (inside_asks i.kind b.name i.name (map (name_at b.pins) i.pins) fits.0 its_name fits.1) (
          tt,
          record {
            free = rw (its_place b.pins before, at_seam front [] (part_of_it b.pins before), no_pin, no_inner, known, places, widths, value, room) refl;
            made = rw (its_place b.pins before, at_seam front [] (part_of_it b.pins before), places) made;
          },
        )

    block_leads : AllLead (with_blocks front) (block_lines b) (with_blocks (front ++ b ∷ []))
    block_leads = (
      with_it [] [],
      define_leads,
      AllLead-append (with_it [] []) (with_it b.pins []) (with_it b.pins b.inners) (map (pin_words b.name) b.pins) (map (inner_words b.name b.pins) b.inners)
          (line_section (pin_words b.name) (λ (pins : List Net). with_it pins []) b.pins pin_leads)
          (line_section (inner_words b.name b.pins) (λ (inners : List Inner). with_it b.pins inners) b.inners inner_leads),
    )

  pub block_section : AllLead (with_blocks []) (flat_map block_lines s.blocks) (with_blocks s.blocks)
  block_section = section block_lines with_blocks s.blocks block_leads
