-- The text of a lawful present, read line by line from the empty present, leads to that present.
use Rattle.std.proofs.Common.{◌≡◌, ℕ, true, nat_le, List, [], ◌∷◌, ◌++◌, map, codes, decimal, Ok, lit≤, refl, arith}
use Rattle.std.specs.List.{flat_map}
use Rattle.std.proofs.lemmas.Bool.{and_from, le-leb}
use Rattle.circuit_model.specs.Present.{PresentView, empty_present, IsLawful}
use Rattle.circuit_model.specs.declared.limits.TheConstants.{MOST_CYCLES}
use Rattle.netlist_text.specs.Checks.{is_count_of_cycles}
use Rattle.netlist_text.specs.Replay.{ShowAndReadBack}
use Rattle.netlist_text.specs.Show.{net_words, block_lines, component_words, cost_lines, mode_words, reading_words, present_lines}
use Rattle.netlist_text.specs.declared.requests.Change.TheVariants as change
use Rattle.netlist_text.specs.declared.requests.Request.TheVariants as request
use Rattle.netlist_text.proofs.Spaced.{Leads, AllLead, AllLead-append, leads, lines_of_text}
use Rattle.netlist_text.proofs.ShownWords.{known_word, number_word}
use Rattle.netlist_text.proofs.ReadBack.{head_asks, end_asks, cycles_asks}
use Rattle.netlist_text.proofs.SectionNets.{present_of, net_section}
use Rattle.netlist_text.proofs.SectionParts.{usual}
use Rattle.netlist_text.proofs.SectionBlocks.{block_section}
use Rattle.netlist_text.proofs.SectionUses.{part_section}
use Rattle.netlist_text.proofs.SectionCosts.{cost_section}
use Rattle.netlist_text.proofs.SectionModes.{mode_section}
use Rattle.netlist_text.proofs.SectionReadings.{reading_section}

module _ (s : PresentView) (h : IsLawful s) where
  head_leads : Leads empty_present (codes "#" ∷ codes "gde" ∷ codes "2" ∷ []) empty_present
  head_leads = leads 32 (codes "#" ∷ codes "gde" ∷ codes "2" ∷ []) empty_present empty_present (Ok request.Nothing) (known_word (codes "#") refl, (known_word (codes "gde") refl, (known_word (codes "2") refl, tt))) (lit≤ tt) head_asks refl

  end_leads : Leads s (codes "#" ∷ codes "end" ∷ []) s
  end_leads = leads 32 (codes "#" ∷ codes "end" ∷ []) s s (Ok request.Nothing) (known_word (codes "#") refl, (known_word (codes "end") refl, tt)) (lit≤ tt) end_asks refl

  cycles_leads : Leads empty_present (codes "cycles" ∷ decimal s.cycles ∷ []) (present_of s.cycles [] [] [] [] [])
  cycles_leads =
      let some = h.some_cycle in
      let most = h.cycles in
      let number = number_word s.cycles (omega (arith, most)) in
      let count : is_count_of_cycles s.cycles ≡ true = and_from (nat_le 1 s.cycles) (nat_le s.cycles MOST_CYCLES) (le-leb 1 s.cycles some) (le-leb s.cycles MOST_CYCLES most) in
      leads 32 (codes "cycles" ∷ decimal s.cycles ∷ []) empty_present (present_of s.cycles [] [] [] [] []) (Ok (request.Change (change.Cycles s.cycles)))
      (known_word (codes "cycles") refl, (number.word, tt)) (lit≤ tt) (cycles_asks s.cycles number) (tt, record { free = rw count refl; made = refl })

  all_lead : AllLead empty_present (present_lines s) s
  all_lead =
      let head : List (List (List ℕ)) = (codes "#" ∷ codes "gde" ∷ codes "2" ∷ []) ∷ (codes "cycles" ∷ decimal s.cycles ∷ []) ∷ [] in
      let nets : List (List (List ℕ)) = map net_words s.nets in
      let blocks : List (List (List ℕ)) = flat_map block_lines s.blocks in
      let parts : List (List (List ℕ)) = map (component_words s) s.parts in
      let costs : List (List (List ℕ)) = flat_map cost_lines s.parts in
      let modes : List (List (List ℕ)) = map mode_words s.modes in
      let readings : List (List (List ℕ)) = map (reading_words s) s.readings in
      let p0 : PresentView = present_of s.cycles [] [] [] [] [] in
      let p1 : PresentView = present_of s.cycles s.nets [] [] [] [] in
      let p2 : PresentView = present_of s.cycles s.nets s.blocks [] [] [] in
      let p3 : PresentView = present_of s.cycles s.nets s.blocks (map usual s.parts) [] [] in
      let p4 : PresentView = present_of s.cycles s.nets s.blocks s.parts [] [] in
      let p5 : PresentView = present_of s.cycles s.nets s.blocks s.parts s.modes [] in
      AllLead-append empty_present s s (head ++ nets ++ blocks ++ parts ++ costs ++ modes ++ readings) ((codes "#" ∷ codes "end" ∷ []) ∷ [])
      (AllLead-append empty_present p5 s (head ++ nets ++ blocks ++ parts ++ costs ++ modes) readings
      (AllLead-append empty_present p4 p5 (head ++ nets ++ blocks ++ parts ++ costs) modes
      (AllLead-append empty_present p3 p4 (head ++ nets ++ blocks ++ parts) costs
      (AllLead-append empty_present p2 p3 (head ++ nets ++ blocks) parts
      (AllLead-append empty_present p1 p2 (head ++ nets) blocks
      (AllLead-append empty_present p0 p1 head nets (empty_present, head_leads, (p0, cycles_leads, refl)) (net_section s h))
      (block_section s h)) (part_section s h)) (cost_section s h)) (mode_section s h)) (reading_section s h))
      (s, end_leads, refl)

pub shown_again : ShowAndReadBack
shown_again s h = lines_of_text empty_present s (present_lines s) (all_lead s h)
