-- The section of the measurements.
use Rattle.std.proofs.Common.{◌≡◌, ◌^◌, ◌<◌, true, false, nat_le, nat_lt, List, [], ◌∷◌, ◌++◌, length, map, Some, None, Ok, codes, decimal, lit≤, IsTrue, refl, sym, subst, ap, arith, inl, inr}
use Rattle.std.specs.List.{All}
use Rattle.std.proofs.lemmas.Bool.{lt-leb, lt-ltb}
use Rattle.std.proofs.lemmas.Bool.Decides.{nat_tests}
use Rattle.environment_sets.specs.Lists.{IsIn, IsRising}
use Rattle.circuit_model.proofs.SameCells.{before_apart}
use Rattle.circuit_model.specs.Names.{is_name}
use Rattle.circuit_model.specs.Present.{PresentView, IsLawful, IsFactOf, is_cell_before, reading_in, with_reading, net_named, width_of}
use Rattle.circuit_model.specs.declared.limits.TheConstants.{MOST_READINGS}
use Rattle.circuit_model.specs.declared.model.Cell.{Cell}
use Rattle.circuit_model.specs.declared.model.Fact.{Fact}
use Rattle.netlist_text.specs.Show.{name_at, cell_text, reading_words}
use Rattle.netlist_text.specs.declared.requests.Change.TheVariants as change
use Rattle.netlist_text.specs.declared.requests.Request.TheVariants as request
use Rattle.netlist_text.proofs.Spaced.{Leads, AllLead, leads}
use Rattle.netlist_text.proofs.ShownWords.{known_word, wider_word, number_word, word_below, cell_word}
use Rattle.netlist_text.proofs.ReadBack.{measure_asks}
use Rattle.netlist_text.proofs.NamedPlaces.{within_seam, All-seam, IsRising-seam}
use Rattle.netlist_text.proofs.NetNames.{found, is_name_at, narrow}
use Rattle.netlist_text.proofs.SectionNets.{present_of, nets_distinct}
use Rattle.netlist_text.proofs.SectionParts.{net_names_are}
use Rattle.netlist_text.proofs.Sections.{line_section}

not_before : (c d : Cell) → IsTrue (is_cell_before c d) → is_cell_before d c ≡ false
not_before c d h = grind (arith, nat_tests)

-- a measurement that comes after all others is put last
with_reading-last : (f : Fact) (front : List Fact) → ((g : Fact) → IsIn front g → IsTrue (is_cell_before g.cell f.cell)) → with_reading f front ≡ front ++ f ∷ []
with_reading-last f [] h = refl
with_reading-last f (g ∷ front) h = rw (not_before g.cell f.cell (h g (inl refl))) (ap (λ t. g ∷ t) (with_reading-last f front (λ k i. h k (inr i))))

-- and its cell is not measured by them
reading_in-later : (f : Fact) (front : List Fact) → ((g : Fact) → IsIn front g → IsTrue (is_cell_before g.cell f.cell)) → reading_in front f.cell ≡ None
reading_in-later f [] h = refl
reading_in-later f (g ∷ front) h = rw (before_apart g.cell f.cell (h g (inl refl))) (reading_in-later f front (λ k i. h k (inr i)))

module _ (s : PresentView) (h : IsLawful s) where
  abbrev pub with_readings : List Fact → PresentView
  with_readings front = present_of s.cycles s.nets s.blocks s.parts s.modes front

  reading_leads : (front : List Fact) (f : Fact) (rest : List Fact) → s.readings ≡ front ++ f ∷ rest → Leads (with_readings front) (reading_words s f) (with_readings (front ++ f ∷ []))
  reading_leads front f rest e =
      let Q : List Fact → Type 0 = All (IsFactOf s) in
      let l : IsFactOf s f = All-seam (IsFactOf s) front rest f (subst Q e h.each_reading) in
      let R : List Fact → Type 0 = IsRising (λ f g. IsTrue (is_cell_before f.cell g.cell)) in
      let before : (g : Fact) → IsIn front g → IsTrue (is_cell_before g.cell f.cell) = IsRising-seam (λ f g. IsTrue (is_cell_before f.cell g.cell)) front rest f (subst R e h.rising) in
      let name = name_at s.nets f.cell.net in
      let named : is_name name ≡ true = is_name_at s.nets (net_names_are s h) f.cell.net l.net in
      let there : net_named (with_readings front) name ≡ Some f.cell.net = found s.nets (nets_distinct s h) f.cell.net l.net in
      let cycle_below = l.cycle in
      let most_cycles = h.cycles in
      let few : f.cell.cycle < 100 = omega (arith, cycle_below, most_cycles) in
      let cell = cell_word name f.cell.cycle named few in
      let number = number_word f.value (word_below (width_of s f.cell.net) f.value (narrow s.nets h.widths f.cell.net) l.fits) in
      let cycle_ok : nat_lt f.cell.cycle s.cycles ≡ true = lt-ltb f.cell.cycle s.cycles l.cycle in
      let fits : nat_lt f.value (2 ^ width_of s f.cell.net) ≡ true = lt-ltb f.value (2 ^ width_of s f.cell.net) l.fits in
      let size = within_seam front rest f in
      let count : length s.readings ≡ length (front ++ f ∷ rest) = ap length e in
      let most = h.readings in
      let room : nat_le MOST_READINGS (length front) ≡ false = lt-leb MOST_READINGS (length front) (omega (arith, size, count, most)) in
      let none : reading_in front f.cell ≡ None = reading_in-later f front before in
      leads 36 (reading_words s f) (with_readings front) (with_readings (front ++ f ∷ [])) (Ok (request.Change (change.Measure name f.cell.cycle f.value)))
      (wider_word (codes "measure") (known_word (codes "measure") refl), (cell.is_word, (wider_word (decimal f.value) number.word, tt))) (lit≤ tt) (measure_asks f.value number (cell_text s f.cell) name f.cell.cycle named cell) (
        tt,
        record {
          free = rw (there, cycle_ok, fits, room, none) refl;
          made = rw there (ap with_readings (sym (with_reading-last f front before)));
        },
      )

  pub reading_section : AllLead (with_readings []) (map (reading_words s) s.readings) (with_readings s.readings)
  reading_section = line_section (reading_words s) with_readings s.readings reading_leads
