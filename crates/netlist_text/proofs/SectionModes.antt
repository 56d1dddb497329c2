-- The section of the modes.
use Rattle.std.proofs.Common.{◌≡◌, ℕ, ◌^◌, ◌≤◌, true, false, nat_le, nat_lt, List, [], ◌∷◌, ◌++◌, length, map, slice_get, Option, Some, None, Ok, codes, lit≤, refl, sym, subst, ◌∙◌, ap, arith}
use Rattle.std.specs.Prelude.{slice_index}
use Rattle.std.specs.List.{All}
use Rattle.std.specs.Str.{bytes_eq}
use Rattle.std.proofs.lemmas.Bool.{and_from, le-leb, lt-leb, lt-ltb, true≢false}
use Rattle.circuit_model.specs.Kinds.{block_in, class_of, are_one_class, MayAct}
use Rattle.circuit_model.specs.Names.{is_name}
use Rattle.circuit_model.specs.Present.{PresentView, IsLawful, IsLawfulMode, IsModeFor, part_named, width_of}
use Rattle.circuit_model.specs.declared.limits.TheConstants.{MOST_MODES, LEAST_COST, MOST_COST}
use Rattle.circuit_model.specs.declared.model.Kind.{Kind}
use Rattle.circuit_model.specs.declared.model.Kind.TheVariants as kind
use Rattle.circuit_model.specs.declared.model.Mode.{Mode}
use Rattle.circuit_model.specs.declared.model.Mode.TheVariants.{Stuck, Acts}
use Rattle.circuit_model.specs.declared.present.Component.{Component}
use Rattle.circuit_model.specs.declared.present.DeclaredMode.{DeclaredMode}
use Rattle.circuit_model.specs.declared.rules.Class.{Class}
use Rattle.circuit_model.specs.declared.rules.Class.TheVariants.{OneInput, TwoInputs, Alone}
use Rattle.circuit_model.proofs.Presents.{other_bytes}
use Rattle.netlist_text.specs.Checks.{is_cost}
use Rattle.netlist_text.specs.Lookups.{word_of_kind, acting_kind_named, may_act_as}
use Rattle.netlist_text.specs.Parts.{part_named as part_word_named}
use Rattle.netlist_text.specs.Show.{mode_words, mode_words_by}
use Rattle.netlist_text.specs.declared.requests.Change.TheVariants as change
use Rattle.netlist_text.specs.declared.requests.Request.TheVariants as request
use Rattle.netlist_text.proofs.Spaced.{Leads, AllLead, leads}
use Rattle.netlist_text.proofs.ShownWords.{known_word, name_word, number_word, word_below}
use Rattle.netlist_text.proofs.ReadBack.{stuck_asks, acts_asks}
use Rattle.netlist_text.proofs.NamedPlaces.{within_seam, All-seam, All-place, position_at, slice_get-name}
use Rattle.netlist_text.proofs.NetNames.{net_name, narrow}
use Rattle.netlist_text.proofs.SectionNets.{present_of, part_name}
use Rattle.netlist_text.proofs.SectionParts.{All-right}
use Rattle.netlist_text.proofs.SectionCosts.{parts_distinct}
use Rattle.netlist_text.proofs.Sections.{line_section}

alone : (c : Class) → are_one_class c Alone ≡ true → ⊥
alone OneInput e = true≢false (sym e)
alone TwoInputs e = true≢false (sym e)
alone Alone e = true≢false (sym e)

other_way : (a b : Class) → are_one_class a b ≡ true → are_one_class b a ≡ true
other_way OneInput OneInput e = e
other_way OneInput TwoInputs e = e
other_way OneInput Alone e = e
other_way TwoInputs OneInput e = e
other_way TwoInputs TwoInputs e = e
other_way TwoInputs Alone e = e
other_way Alone OneInput e = e
other_way Alone TwoInputs e = e
other_way Alone Alone e = e

kind_is_name : (k : Kind) → is_name (word_of_kind k) ≡ true
kind_is_name kind.Buf = refl
kind_is_name kind.Not = refl
kind_is_name kind.And = refl
kind_is_name kind.Or = refl
kind_is_name kind.Xor = refl
kind_is_name kind.Nand = refl
kind_is_name kind.Nor = refl
kind_is_name kind.Xnor = refl
kind_is_name kind.Add = refl
kind_is_name kind.Mul = refl
kind_is_name (kind.Const value) = refl
kind_is_name (kind.Reg reset) = refl
kind_is_name (kind.Block block) = refl

-- a kind of a class is named by its word
acting_known : (c : Class) (k : Kind) → are_one_class c (class_of k) ≡ true → acting_kind_named (word_of_kind k) ≡ Some k
unfolding part_word_named
acting_known c kind.Buf e = refl
acting_known c kind.Not e = refl
acting_known c kind.And e = refl
acting_known c kind.Or e = refl
acting_known c kind.Xor e = refl
acting_known c kind.Nand e = refl
acting_known c kind.Nor e = refl
acting_known c kind.Xnor e = refl
acting_known c kind.Add e = refl
acting_known c kind.Mul e = absurd (alone c e)
acting_known c (kind.Const value) e = absurd (alone c e)
acting_known c (kind.Reg reset) e = absurd (alone c e)
acting_known c (kind.Block block) e = absurd (alone c e)

acts_so : (own k : Kind) → MayAct own k → may_act_as own (word_of_kind k) ≡ true
acts_so own k h =
    let known : acting_kind_named (word_of_kind k) ≡ Some k = acting_known (class_of own) k h.0 in
    let itself : acting_kind_named (word_of_kind own) ≡ Some own = acting_known (class_of k) own (other_way (class_of own) (class_of k) h.0) in
    let apart : bytes_eq (word_of_kind k) (word_of_kind own) ≡ false =
    other_bytes (word_of_kind k) (word_of_kind own) (λ e. h.1 (let both : ◌≡◌ {A = Option Kind} (Some own) (Some k) = sym itself ∙ (ap acting_kind_named (sym e) ∙ known) in cc)) in
    let one : are_one_class (class_of own) (class_of k) ≡ true = h.0 in
    rw (known, one, apart) refl

module _ (s : PresentView) (h : IsLawful s) where
  abbrev pub with_modes : List DeclaredMode → PresentView
  with_modes front = present_of s.cycles s.nets s.blocks s.parts front []

  module _ (front : List DeclaredMode) (place : ℕ) (c : Component) (name : List ℕ) (cost : ℕ) (there : slice_get s.parts place ≡ Some c) (named : c.name ≡ name) (plain : block_in c.kind ≡ None) (low : LEAST_COST ≤ cost) (high : cost ≤ MOST_COST)
      (room : nat_le MOST_MODES (length front) ≡ false) where
    its_name : is_name name ≡ true
    its_name =
        let P : List ℕ → Type 0 = λ n. is_name n ≡ true in
        let parts : All P (map part_name s.parts) = All-right P (map net_name s.nets) (map part_name s.parts) h.names in
        subst P named (All-place P (map part_name s.parts) place c.name (slice_get-name part_name s.parts place c there) parts)

    its_place : part_named (with_modes front) name ≡ Some place
    its_place =
        let P : List ℕ → Type 0 = λ n. part_named (with_modes front) n ≡ Some place in
        subst P named (position_at part_name s.parts place c (parts_distinct s h) there)

    cost_ok : is_cost cost ≡ true
    cost_ok = and_from (nat_le LEAST_COST cost) (nat_le cost MOST_COST) (le-leb LEAST_COST cost low) (le-leb cost MOST_COST high)

    by_mode : (m : Mode) → IsModeFor s c m → Leads (with_modes front) (mode_words_by m name cost) (with_modes (front ++ (record { name = name; mode = m; cost = cost }) ∷ []))
    by_mode (Stuck value) fits =
        let number = number_word cost (omega (arith, high)) in
        let shown = number_word value (word_below (width_of s (slice_index c.nets 2)) value (narrow s.nets h.widths (slice_index c.nets 2)) fits) in
        let small : nat_lt value (2 ^ width_of s (slice_index c.nets 2)) ≡ true = lt-ltb value (2 ^ width_of s (slice_index c.nets 2)) fits in
        leads 32 (mode_words_by (Stuck value) name cost) (with_modes front) (with_modes (front ++ (record { name = name; mode = Stuck value; cost = cost }) ∷ [])) (Ok (request.Change (change.Stuck name value cost)))
        (known_word (codes "stuck") refl, (name_word name its_name, (shown.word, (number.word, tt)))) (lit≤ tt) (stuck_asks cost number name value its_name shown)
        (tt, record { free = rw (its_place, there, plain, small, cost_ok, room) refl; made = refl })
    by_mode (Acts k) may =
        let number = number_word cost (omega (arith, high)) in
        let known : acting_kind_named (word_of_kind k) ≡ Some k = acting_known (class_of c.kind) k may.0 in
        leads 32 (mode_words_by (Acts k) name cost) (with_modes front) (with_modes (front ++ (record { name = name; mode = Acts k; cost = cost }) ∷ [])) (Ok (request.Change (change.Acts name (word_of_kind k) cost)))
        (known_word (codes "acts") refl, (name_word name its_name, (name_word (word_of_kind k) (kind_is_name k), (number.word, tt)))) (lit≤ tt) (acts_asks cost number name (word_of_kind k) its_name (kind_is_name k))
        (tt, record { free = rw (its_place, there, acts_so c.kind k may, cost_ok, room) refl; made = rw known refl })

  mode_leads : (front : List DeclaredMode) (m : DeclaredMode) (rest : List DeclaredMode) → s.modes ≡ front ++ m ∷ rest → Leads (with_modes front) (mode_words m) (with_modes (front ++ m ∷ []))
  mode_leads front m rest e =
      let Q : List DeclaredMode → Type 0 = All (IsLawfulMode s) in
      let l : IsLawfulMode s m = All-seam (IsLawfulMode s) front rest m (subst Q e h.each_mode) in
      let size = within_seam front rest m in
      let count : length s.modes ≡ length (front ++ m ∷ rest) = ap length e in
      let most = h.modes in
      let room : nat_le MOST_MODES (length front) ≡ false = lt-leb MOST_MODES (length front) (omega (arith, size, count, most)) in
      by_mode front l.place l.component m.name m.cost l.there l.named l.plain l.cost_low l.cost_high room m.mode l.mode

  pub mode_section : AllLead (with_modes []) (map mode_words s.modes) (with_modes s.modes)
  mode_section = line_section mode_words with_modes s.modes mode_leads
