-- The section of the nets.
use Rattle.std.proofs.Common.{◌≡◌, ℕ, ◌+◌, ◌*◌, ◌≤◌, true, false, nat_le, nat_lt, List, [], ◌∷◌, ◌++◌, length, map, None, Ok, codes, lit≤, refl, subst, ◌∙◌, ap, arith}
use Rattle.std.specs.List.{All}
use Rattle.std.proofs.Math.Nat.{mul-le-mul_right}
use Rattle.std.proofs.lemmas.Bool.{and_from, le-leb, lt-leb, le-ltb}
use Rattle.std.proofs.lemmas.List.{map-append}
use Rattle.std.proofs.lemmas.List.Elements.{All-nil, All-cons, All-head, All-tail}
use Rattle.environment_sets.specs.Lists.{IsIn, AreDistinct}
use Rattle.environment_sets.proofs.Membership.{AreDistinct-left}
use Rattle.word_domain.specs.Words.{is_width}
use Rattle.word_domain.specs.declared.width.TheConstants.{WIDEST}
use Rattle.circuit_model.specs.Blocks.{BlockView}
use Rattle.circuit_model.specs.Names.{is_name}
use Rattle.circuit_model.specs.Present.{PresentView, IsLawful, names_of, net_named}
use Rattle.circuit_model.specs.declared.limits.TheConstants.{MOST_NETS, MOST_CELLS}
use Rattle.circuit_model.specs.declared.model.Fact.{Fact}
use Rattle.circuit_model.specs.declared.present.Component.{Component}
use Rattle.circuit_model.specs.declared.present.DeclaredMode.{DeclaredMode}
use Rattle.circuit_model.specs.declared.present.Net.{Net}
use Rattle.circuit_model.proofs.Changes.{All-front}
use Rattle.netlist_text.specs.Show.{net_words}
use Rattle.netlist_text.specs.declared.requests.Change.TheVariants as change
use Rattle.netlist_text.specs.declared.requests.Request.TheVariants as request
use Rattle.netlist_text.proofs.Spaced.{Leads, AllLead, leads}
use Rattle.netlist_text.proofs.ShownWords.{known_word, name_word, number_word}
use Rattle.netlist_text.proofs.ReadBack.{net_asks}
use Rattle.netlist_text.proofs.NamedPlaces.{within_seam, All-seam, new_at_seam, position_new}
use Rattle.netlist_text.proofs.NetNames.{net_name}
use Rattle.netlist_text.proofs.Sections.{line_section}

-- a present of these parts
abbrev pub present_of : ℕ → List Net → List BlockView → List Component → List DeclaredMode → List Fact → PresentView
present_of cycles nets blocks parts modes readings = record { cycles = cycles; nets = nets; parts = parts; readings = readings; modes = modes; blocks = blocks }

abbrev pub part_name : Component → List ℕ
part_name c = c.name

-- the names of the nets of a lawful present are names, and distinct
module _ (s : PresentView) (h : IsLawful s) where
  pub nets_distinct : AreDistinct (map net_name s.nets)
  nets_distinct = AreDistinct-left (map net_name s.nets) (map part_name s.parts) h.distinct

  module _ (front : List Net) (n : Net) (rest : List Net) (e : s.nets ≡ front ++ n ∷ rest) where
    names_split : map net_name s.nets ≡ map net_name front ++ n.name ∷ map net_name rest
    names_split = ap (map net_name) e ∙ map-append net_name front (n ∷ rest)

    new_net : IsIn (map net_name front) n.name → ⊥
    new_net = let P : List (List ℕ) → Type 0 = AreDistinct in new_at_seam (map net_name front) (map net_name rest) n.name (subst P names_split nets_distinct)

    pub width_fits : (1 ≤ n.width) × (n.width ≤ WIDEST)
    width_fits =
        let P : Net → Type 0 = λ n. (1 ≤ n.width) × (n.width ≤ WIDEST) in
        let Q : List Net → Type 0 = All P in
        All-seam P front rest n (subst Q e h.widths)

    pub net_named_so : is_name n.name ≡ true
    net_named_so =
        let P : List ℕ → Type 0 = λ n. is_name n ≡ true in
        let Q : List (List ℕ) → Type 0 = All P in
        let names : List (List ℕ) = map net_name front ++ n.name ∷ map net_name rest in
        let all : names_of s ≡ names ++ map part_name s.parts = ap (λ ns. ns ++ map part_name s.parts) names_split in
        All-seam P (map net_name front) (map net_name rest) n.name (All-front P names (map part_name s.parts) (subst Q all h.names))

    -- a net's line, read where the nets before it stand
    net_leads : Leads (present_of s.cycles front [] [] [] []) (net_words n) (present_of s.cycles (front ++ n ∷ []) [] [] [] [])
    net_leads =
        let low = width_fits.0 in
        let high = width_fits.1 in
        let number = number_word n.width (omega (arith, high)) in
        let name = net_named_so in
        let size = within_seam front rest n in
        let count : length s.nets ≡ length (front ++ n ∷ rest) = ap length e in
        let most = h.nets in
        let cells = h.cells in
        let more : (length front + 1) * s.cycles ≤ length s.nets * s.cycles = mul-le-mul_right s.cycles (omega (arith, size, count)) in
        let free : net_named (present_of s.cycles front [] [] [] []) n.name ≡ None = position_new net_name front n.name new_net in
        let wide : is_width n.width ≡ true = and_from (nat_le 1 n.width) (nat_le n.width WIDEST) (le-leb 1 n.width low) (le-leb n.width WIDEST high) in
        let room : nat_le MOST_NETS (length front) ≡ false = lt-leb MOST_NETS (length front) (omega (arith, size, count, most)) in
        let fits : nat_lt MOST_CELLS ((length front + 1) * s.cycles) ≡ false = le-ltb MOST_CELLS ((length front + 1) * s.cycles) (omega (arith, more, cells)) in
        leads 32 (net_words n) (present_of s.cycles front [] [] [] []) (present_of s.cycles (front ++ n ∷ []) [] [] [] []) (Ok (request.Change (change.Net n.name n.width)))
        (known_word (codes "net") refl, (name_word n.name name, (number.word, tt))) (lit≤ tt) (net_asks n.width number n.name name)
        (tt, record { free = rw (free, wide, room, fits) refl; made = refl })

  pub net_section : AllLead (present_of s.cycles [] [] [] [] []) (map net_words s.nets) (present_of s.cycles s.nets [] [] [] [])
  net_section = line_section net_words (λ (front : List Net). present_of s.cycles front [] [] [] []) s.nets net_leads
