-- The section of the components, each placed at the usual cost.
use Rattle.std.proofs.Common.{◌≡◌, ℕ, ◌≤◌, true, false, nat_le, List, [], ◌∷◌, ◌++◌, length, map, Option, None, Ok, refl, sym, subst, ◌∙◌, ap, ap₂, append_assoc, arith}
use Rattle.std.specs.List.{All}
use Rattle.std.proofs.lemmas.Bool.{lt-leb}
use Rattle.std.proofs.lemmas.List.{map-append, length-map}
use Rattle.std.proofs.lemmas.List.Elements.{All-tail}
use Rattle.environment_sets.specs.Lists.{IsIn, AreDistinct}
use Rattle.environment_sets.proofs.Membership.{IsIn-left, IsIn-right}
use Rattle.circuit_model.specs.Kinds.{block_in, are_widths, fits_value, instances}
use Rattle.circuit_model.specs.Names.{is_name}
use Rattle.circuit_model.specs.Present.{PresentView, IsLawful, IsLawfulComponent, HasPins, part_by, names_of, net_named, part_named, width_of, with_part}
use Rattle.circuit_model.specs.declared.limits.TheConstants.{MOST_PARTS, USUAL_COST}
use Rattle.circuit_model.specs.declared.model.Instance.{Instance}
use Rattle.circuit_model.specs.declared.present.Component.{Component}
use Rattle.circuit_model.proofs.Changes.{All-front}
use Rattle.netlist_text.specs.Lookups.{net_places}
use Rattle.netlist_text.specs.Placing.{component_at}
use Rattle.netlist_text.specs.Show.{name_at, part_words}
use Rattle.netlist_text.specs.declared.requests.Change.TheVariants as change
use Rattle.netlist_text.specs.declared.requests.Request.TheVariants as request
use Rattle.netlist_text.proofs.Spaced.{Leads, leads}
use Rattle.netlist_text.proofs.ReadBack.{add_asks, room_of_few}
use Rattle.netlist_text.proofs.NamedPlaces.{within_seam, All-seam, new_at_seam, position_new}
use Rattle.netlist_text.proofs.NetNames.{net_name, found_all, known_all, fits_nets, has_number}
use Rattle.netlist_text.proofs.SectionNets.{present_of, part_name, nets_distinct}

-- the component at the usual cost
abbrev pub usual : Component → Component
usual c = record c { cost = USUAL_COST }

pub names-usual : (parts : List Component) → map part_name (map usual parts) ≡ map part_name parts
names-usual [] = refl
names-usual (c ∷ parts) = ap (λ t. c.name ∷ t) (names-usual parts)

pub All-right : {X : Type 0} (P : X → Type 0) (xs ys : List X) → All P (xs ++ ys) → All P ys
All-right P [] ys h = h
All-right P (x ∷ xs) ys h = All-right P xs ys (All-tail P x (xs ++ ys) h)

module _ (s : PresentView) (h : IsLawful s) where
  pub net_names_are : All (λ n. is_name n ≡ true) (map net_name s.nets)
  net_names_are = All-front (λ n. is_name n ≡ true) (map net_name s.nets) (map part_name s.parts) h.names

  -- the present with the nets and the definitions, and these components at the usual cost
  abbrev pub with_usual : List Component → PresentView
  with_usual front = present_of s.cycles s.nets s.blocks (map usual front) [] []

  module _ (front : List Component) (c : Component) (rest : List Component) (e : s.parts ≡ front ++ c ∷ rest) where
    part_split : map part_name s.parts ≡ map part_name front ++ c.name ∷ map part_name rest
    part_split = ap (map part_name) e ∙ map-append part_name front (c ∷ rest)

    pub part_is_name : is_name c.name ≡ true
    part_is_name =
        let P : List ℕ → Type 0 = λ n. is_name n ≡ true in
        let Q : List (List ℕ) → Type 0 = All P in
        let parts : All P (map part_name s.parts) = All-right P (map net_name s.nets) (map part_name s.parts) h.names in
        All-seam P (map part_name front) (map part_name rest) c.name (subst Q part_split parts)

    -- its name is none of a net or of a component before it
    new_part : IsIn (map net_name s.nets ++ map part_name front) c.name → ⊥
    new_part =
        let Q : List (List ℕ) → Type 0 = AreDistinct in
        let nets : List (List ℕ) = map net_name s.nets in
        let split : names_of s ≡ (nets ++ map part_name front) ++ c.name ∷ map part_name rest =
        ap (λ ns. nets ++ ns) part_split ∙ sym (append_assoc nets (map part_name front) (c.name ∷ map part_name rest)) in
        new_at_seam (nets ++ map part_name front) (map part_name rest) c.name (subst Q split h.distinct)

    pub no_net : net_named (with_usual front) c.name ≡ None
    no_net = position_new net_name s.nets c.name (λ i. new_part (IsIn-left (map net_name s.nets) (map part_name front) c.name i))

    pub no_part : part_named (with_usual front) c.name ≡ None
    no_part =
        let P : List (List ℕ) → Type 0 = λ ns. IsIn ns c.name in
        position_new part_name (map usual front) c.name (λ i. new_part (IsIn-right (map net_name s.nets) (map part_name front) c.name (subst P (names-usual front) i)))

    pub lawful_part : IsLawfulComponent s c
    lawful_part = let Q : List Component → Type 0 = All (IsLawfulComponent s) in All-seam (IsLawfulComponent s) front rest c (subst Q e h.each_part)

    pub room_left : nat_le MOST_PARTS (length (map usual front)) ≡ false
    room_left =
        let size = within_seam front rest c in
        let count : length s.parts ≡ length (front ++ c ∷ rest) = ap length e in
        let most = h.parts in
        lt-leb MOST_PARTS (length (map usual front)) (omega (arith, length-map front usual, size, count, most))

    pub one_more : (d : Component) → usual c ≡ d → with_usual (front ++ c ∷ []) ≡ with_part d (with_usual front)
    one_more d same = ap (λ parts. present_of s.cycles s.nets s.blocks parts [] []) (map-append usual front (c ∷ []) ∙ ap (λ d. map usual front ++ d ∷ []) same)

    -- the line of a component that is no block
    module _ (plain : block_in c.kind ≡ None) where
      no_pins : c.pins ≡ []
      no_pins = let P : Option ℕ → Type 0 = λ o. HasPins s o c in subst P plain lawful_part.pins

      its_part : c.part ≡ instances c.kind c.nets (map (width_of s) c.nets) s.cycles
      its_part = let P : Option ℕ → Type 0 = λ o. c.part ≡ part_by s o c in subst P plain lawful_part.part

      made_so : usual c ≡ component_at s c.name c.kind c.nets
      made_so = ap₂ (λ (pins : List ℕ) (part : List Instance). let d : Component = record { name = c.name; kind = c.kind; nets = c.nets; cost = USUAL_COST; pins = pins; part = part } in d) no_pins its_part

      pub part_leads : Leads (with_usual front) (part_words c.kind c.name (map (name_at s.nets) c.nets)) (with_usual (front ++ c ∷ []))
      part_leads =
          let l = lawful_part in
          let name = part_is_name in
          let fits = fits_nets s.nets net_names_are c.kind c.name c.nets name l.three l.nets plain l.unused (has_number s.nets h.widths c.kind c.nets l.value) in
          let places : net_places s (map (name_at s.nets) c.nets) ≡ c.nets = found_all s.nets (nets_distinct s h) c.nets l.nets in
          let few_enough : (n : ℕ) → n ≤ 5 → n ≤ 31 = λ n k. omega (arith, k) in
          let known = known_all s.nets (nets_distinct s h) c.nets l.nets in
          let widths : are_widths c.kind (map (width_of s) c.nets) ≡ true = l.widths in
          let value : fits_value c.kind (map (width_of s) c.nets) ≡ true = l.value in
          leads 32 (part_words c.kind c.name (map (name_at s.nets) c.nets)) (with_usual front) (with_usual (front ++ c ∷ [])) (Ok (request.Change (change.Add c.name c.kind (map (name_at s.nets) c.nets))))
          fits.1.words (room_of_few (part_words c.kind c.name (map (name_at s.nets) c.nets)) (few_enough (length (part_words c.kind c.name (map (name_at s.nets) c.nets))) fits.1.short)) (add_asks c.kind c.name (map (name_at s.nets) c.nets) fits.0 fits.1) (
            tt,
            record {
              free = rw (no_net, no_part, known, places, widths, value, room_left) refl;
              made = one_more (component_at s c.name c.kind (net_places s (map (name_at s.nets) c.nets))) (made_so ∙ ap (component_at s c.name c.kind) (sym places));
            },
          )
