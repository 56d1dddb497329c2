-- The section of the costs: each component that was placed at the usual cost gets its own.
use Rattle.std.proofs.Common.{◌≡◌, ℕ, true, nat_le, List, [], ◌∷◌, ◌++◌, length, map, drop, Some, Ok, codes, decimal, lit≤, refl, sym, subst, ◌∙◌, ap, append_assoc, arith, inl, inr}
use Rattle.std.specs.List.{flat_map}
use Rattle.std.proofs.Math.Seq.{drop-append_seam, drop-length}
use Rattle.std.proofs.lemmas.Bool.{and_from, le-leb, cases_eq, eq-eqb, ne_eqb}
use Rattle.std.proofs.lemmas.List.{append-nil, map-append}
use Rattle.environment_sets.specs.Lists.{AreDistinct}
use Rattle.circuit_model.specs.Present.{PresentView, IsLawful, part_named, change_at, with_cost}
use Rattle.circuit_model.specs.declared.limits.TheConstants.{USUAL_COST, LEAST_COST, MOST_COST}
use Rattle.circuit_model.specs.declared.present.Component.{Component}
use Rattle.netlist_text.specs.Checks.{is_cost}
use Rattle.netlist_text.specs.Show.{cost_lines}
use Rattle.netlist_text.specs.declared.requests.Change.TheVariants as change
use Rattle.netlist_text.specs.declared.requests.Request.TheVariants as request
use Rattle.netlist_text.proofs.Spaced.{Leads, AllLead, leads}
use Rattle.netlist_text.proofs.ShownWords.{known_word, name_word, number_word}
use Rattle.netlist_text.proofs.ReadBack.{cost_asks}
use Rattle.netlist_text.proofs.NamedPlaces.{at_seam, position_at}
use Rattle.netlist_text.proofs.SectionNets.{present_of, part_name}
use Rattle.netlist_text.proofs.SectionParts.{usual, names-usual, part_is_name, lawful_part}
use Rattle.netlist_text.proofs.Sections.{section}

distinct_right : (xs ys : List (List ℕ)) → AreDistinct (xs ++ ys) → AreDistinct ys
distinct_right [] ys d = d
distinct_right (x ∷ xs) ys d = distinct_right xs ys d.1

-- the element after the front is changed
pub change_at-seam : {X : Type 0} (f : X → X) (front rest : List X) (x : X) → change_at (length front) f (front ++ x ∷ rest) ≡ front ++ f x ∷ rest
change_at-seam f [] rest x = refl
change_at-seam f (y ∷ front) rest x = ap (λ t. y ∷ t) (change_at-seam f front rest x)

module _ (s : PresentView) (h : IsLawful s) where
  pub parts_distinct : AreDistinct (map part_name s.parts)
  parts_distinct = distinct_right (map (λ n. n.name) s.nets) (map part_name s.parts) h.distinct

  -- the present with these components
  abbrev pub with_parts : List Component → PresentView
  with_parts parts = present_of s.cycles s.nets s.blocks parts [] []

  -- those in front have their costs
  abbrev pub with_costs : List Component → PresentView
  with_costs front = with_parts (front ++ map usual (drop (length front) s.parts))

  module _ (front : List Component) (c : Component) (rest : List Component) (e : s.parts ≡ front ++ c ∷ rest) where
    before_it : with_costs front ≡ with_parts (front ++ usual c ∷ map usual rest)
    before_it = ap (λ t. with_parts (front ++ map usual t)) (ap (drop (length front)) e ∙ drop-append_seam front (c ∷ rest))

    after_it : with_costs (front ++ c ∷ []) ≡ with_parts (front ++ c ∷ map usual rest)
    after_it =
        let split : s.parts ≡ (front ++ c ∷ []) ++ rest = e ∙ sym (append_assoc front (c ∷ []) rest) in
        ap (λ t. with_parts ((front ++ c ∷ []) ++ map usual t)) (ap (drop (length (front ++ c ∷ []))) split ∙ drop-append_seam (front ++ c ∷ []) rest)
        ∙ ap with_parts (append_assoc front (c ∷ []) (map usual rest))

    -- it is found by its name
    there : part_named (with_parts (front ++ usual c ∷ map usual rest)) c.name ≡ Some (length front)
    there =
        let parts : List Component = front ++ usual c ∷ map usual rest in
        let Q : List (List ℕ) → Type 0 = AreDistinct in
        let names : map part_name s.parts ≡ map part_name parts =
        ap (map part_name) e ∙ (map-append part_name front (c ∷ rest) ∙ (ap (λ t. map part_name front ++ c.name ∷ t) (sym (names-usual rest)) ∙ sym (map-append part_name front (usual c ∷ map usual rest)))) in
        position_at part_name parts (length front) (usual c) (subst Q names parts_distinct) (at_seam front (map usual rest) (usual c))

    cost_leads : Leads (with_costs front) (codes "cost" ∷ c.name ∷ decimal c.cost ∷ []) (with_costs (front ++ c ∷ []))
    cost_leads =
        let l = lawful_part s h front c rest e in
        let name = part_is_name s h front c rest e in
        let low = l.cost_low in
        let high = l.cost_high in
        let number = number_word c.cost (omega (arith, high)) in
        let cost_ok : is_cost c.cost ≡ true = and_from (nat_le LEAST_COST c.cost) (nat_le c.cost MOST_COST) (le-leb LEAST_COST c.cost low) (le-leb c.cost MOST_COST high) in
        let old : PresentView = with_parts (front ++ usual c ∷ map usual rest) in
        let new : PresentView = with_parts (front ++ c ∷ map usual rest) in
        let made : new ≡ with_cost (length front) c.cost old = ap with_parts (sym (change_at-seam (λ d. record d { cost = c.cost }) front (map usual rest) (usual c))) in
        let P : PresentView → Type 0 = λ p. Leads p (codes "cost" ∷ c.name ∷ decimal c.cost ∷ []) new in
        let R : PresentView → Type 0 = λ p. Leads (with_costs front) (codes "cost" ∷ c.name ∷ decimal c.cost ∷ []) p in
        subst R (sym after_it) (subst P (sym before_it) (leads 32 (codes "cost" ∷ c.name ∷ decimal c.cost ∷ []) old new (Ok (request.Change (change.Cost c.name c.cost)))
        (known_word (codes "cost") refl, (name_word c.name name, (number.word, tt))) (lit≤ tt) (cost_asks c.cost number c.name name)
        (tt, record { free = rw (there, cost_ok) refl; made = rw there made })))

    costs_lead : AllLead (with_costs front) (cost_lines c) (with_costs (front ++ c ∷ []))
    costs_lead = elim (cases_eq c.cost USUAL_COST) [
      | inl same ↦ rw (eq-eqb c.cost USUAL_COST same) (after_it ∙ (ap (λ cost. with_parts (front ++ (record c { cost = cost }) ∷ map usual rest)) same ∙ sym before_it))
      | inr other ↦ rw (ne_eqb c.cost USUAL_COST other) (with_costs (front ++ c ∷ []), cost_leads, refl)
    ]

  pub cost_section : AllLead (with_parts (map usual s.parts)) (flat_map cost_lines s.parts) (with_parts s.parts)
  cost_section =
      let whole : with_costs s.parts ≡ with_parts s.parts = ap (λ t. with_parts (s.parts ++ map usual t)) (drop-length s.parts) ∙ ap with_parts (append-nil s.parts) in
      let P : PresentView → Type 0 = λ p. AllLead (with_parts (map usual s.parts)) (flat_map cost_lines s.parts) p in
      subst P whole (section cost_lines with_costs s.parts costs_lead)
