-- A section of the text: its lines take a present without the section to the one with it.
use Rattle.std.proofs.Common.{◌≡◌, ℕ, List, [], ◌∷◌, ◌++◌, map, refl, sym, subst, ◌∙◌, ap, append_assoc}
use Rattle.std.specs.List.{flat_map}
use Rattle.std.proofs.lemmas.List.{append-nil}
use Rattle.std.proofs.lemmas.List.Concat.{flat_map_single}
use Rattle.circuit_model.specs.Present.{PresentView}
use Rattle.netlist_text.proofs.Spaced.{Leads, AllLead, AllLead-append}

module _ {X : Type 0} (lines : X → List (List (List ℕ))) (at : List X → PresentView) (all : List X)
    (step : (front : List X) (x : X) (rest : List X) → all ≡ front ++ x ∷ rest → AllLead (at front) (lines x) (at (front ++ x ∷ []))) where
  section_after : (front rest : List X) → all ≡ front ++ rest → AllLead (at front) (flat_map lines rest) (at all)
  section_after front [] e = ap at (e ∙ append-nil front)
  section_after front (x ∷ rest) e =
      AllLead-append (at front) (at (front ++ x ∷ [])) (at all) (lines x) (flat_map lines rest) (step front x rest e) (section_after (front ++ x ∷ []) rest (e ∙ sym (append_assoc front (x ∷ []) rest)))

  -- the lines of each element lead from the present with what stands in front of it to the one with it too
  pub section : AllLead (at []) (flat_map lines all) (at all)
  section = section_after [] all refl

-- the same, where each element has one line
pub line_section : {X : Type 0} (words : X → List (List ℕ)) (at : List X → PresentView) (all : List X)
    → ((front : List X) (x : X) (rest : List X) → all ≡ front ++ x ∷ rest → Leads (at front) (words x) (at (front ++ x ∷ []))) → AllLead (at []) (map words all) (at all)
line_section {X} words at all step =
    let P : List (List (List ℕ)) → Type 0 = λ lines. AllLead (at []) lines (at all) in
    subst P (flat_map_single words all) (section (λ (x : X). words x ∷ []) at all (λ front x rest e. (at (front ++ x ∷ []), step front x rest e, refl)))
