-- What words at the ports of an instance force.
use Rattle.std.proofs.Common.{◌≡◌, ◌↔◌, ℕ, zero, suc, ◌<◌, ◌^◌, inl, inr, Bool, List, [], ◌∷◌, length, slice_get, Option, Some, None, MatchOption, refl, sym, ap, subst, ◌∙◌, arith}
use Rattle.std.specs.Option.{option_map}
use Rattle.std.proofs.lemmas.Bool.{cases_lt, cases_order}
use Rattle.std.proofs.lemmas.List.{length-map}
use Rattle.std.proofs.lemmas.Option.{slice_get-map}
use Rattle.environment_sets.proofs.Membership.{IsIn-slice_get}
use Rattle.circuit_model.specs.declared.model.Cell.{Cell}
use Rattle.circuit_model.specs.declared.model.Fact.{Fact}
use Rattle.circuit_model.specs.declared.model.Instance.{Instance}
use Rattle.circuit_model.specs.declared.present.Component.{Component}
use Rattle.circuit_model.specs.Inference.{Forces, IsInference, WordsFit}
use Rattle.circuit_model.specs.Diagnoses.{Circuit}
use Rattle.circuit_model.specs.Derivation.{number_of, facts_at}
use Rattle.circuit_model.specs.Present.{PresentView, IsLawful}
use Rattle.proof_check.specs.Closing.{Timed}
use Rattle.proof_check.specs.Written.{given, at_two_places}
use Rattle.proof_check.proofs.Instances.{AreCells, cells_of}
use Rattle.proof_check.proofs.Told.{facts_at-few, given-at_two_places}
use Rattle.explanations.specs.Words.{word_by, chosen_words, HasFitting}
use Rattle.explanations.specs.Forcing.{IsLeast, IsForcing, IsForcingIn, IsFirstIn, IsForcingAt, IsFirstAt, words_of, AllFit}
use Rattle.explanations.specs.declared.forcing.Forcing.{Forcing}
use Rattle.explanations.proofs.Choices.{length-chosen_words, number_of-low}

-- what is said of the words at these ports is what they force
pub said_exactly : (instance : Instance) (words : List (Option ℕ)) (f : Fact) (ports : ℕ) (known : List (Option ℕ)) (refuted : Bool) (forced : List (Option ℕ)) → known ≡ chosen_words ports words → number_of known ≡ ports → IsInference instance.prim instance.widths known refuted forced
    → ((port : ℕ) × (slice_get instance.cells port ≡ Some f.cell) × (slice_get forced port ≡ Some (Some f.value))) ↔ IsForcing instance words f ports
said_exactly instance words f ports known refuted forced are number said = (
  λ r. record {
    known = ap number_of (sym are) ∙ number;
    port = r.0;
    at = r.1;
    forces = let Q : List (Option ℕ) → Type 0 = λ ws. Forces instance.prim instance.widths ws r.0 f.value in subst Q are ((said.forces_exactly r.0 f.value).0 r.2);
  },
  λ h. (h.port, h.at, (said.forces_exactly h.port f.value).1 (let Q : List (Option ℕ) → Type 0 = λ ws. Forces instance.prim instance.widths ws h.port f.value in subst Q (sym are) h.forces)),
)

pub least_from : (Q : ℕ → Type 0) (k : ℕ) → Q k → ((m : ℕ) → m < k → Q m → ⊥) → IsLeast Q k
least_from Q k holds none = record { holds = holds; least = λ m h. elim (cases_lt m k) [ inl less ↦ absurd (none m less h) | inr most ↦ most ] }

-- no number past those of three ports
pub forcing_low : (instance : Instance) (words : List (Option ℕ)) (f : Fact) (ports : ℕ) → length words ≡ 3 → IsForcing instance words f ports → ports < 8
forcing_low instance words f ports wide h = rw (← h.known) (number_of-low (chosen_words ports words) (length-chosen_words ports words ∙ wide))

-- some place is left out
unknown_low : (known : List (Option ℕ)) → length known ≡ 3 → (p : ℕ) → slice_get known p ≡ Some None → number_of known < 7
unknown_low [] wide p e = absurd (omega arith)
unknown_low (a ∷ []) wide p e = absurd (omega arith)
unknown_low (a ∷ b ∷ []) wide p e = absurd (omega arith)
unknown_low (a ∷ b ∷ z ∷ []) wide p e = low a b z p e where
  low : (a b z : Option ℕ) (p : ℕ) → slice_get (a ∷ b ∷ z ∷ []) p ≡ Some None → number_of (a ∷ b ∷ z ∷ []) < 7
  low None None None p e = omega arith
  low None None (Some z) p e = omega arith
  low None (Some b) None p e = omega arith
  low None (Some b) (Some z) p e = omega arith
  low (Some a) None None p e = omega arith
  low (Some a) None (Some z) p e = omega arith
  low (Some a) (Some b) None p e = omega arith
  low (Some a) (Some b) (Some z) zero e = cc
  low (Some a) (Some b) (Some z) (suc zero) e = cc
  low (Some a) (Some b) (Some z) (suc (suc zero)) e = cc
  low (Some a) (Some b) (Some z) (suc (suc (suc p))) e = cc
unknown_low (a ∷ b ∷ z ∷ y ∷ rest) wide p e = absurd (omega arith)

-- so the facts at the ports stand at two places
pub given-facts : (instance : Instance) (words : List (Option ℕ)) (f : Fact) (ports : ℕ) → length instance.cells ≡ 3 → length words ≡ 3 → IsForcing instance words f ports → given (at_two_places (facts_at instance.cells (chosen_words ports words))) ≡ facts_at instance.cells (chosen_words ports words)
given-facts instance words f ports three wide h =
    let known : List (Option ℕ) = chosen_words ports words in
    let three_known : length known ≡ 3 = length-chosen_words ports words ∙ wide in
    given-at_two_places (facts_at instance.cells known) (facts_at-few instance.cells known three three_known (unknown_low known three_known h.port h.forces.unknown))

module _ (s : PresentView) (lawful : IsLawful s) (facts : List Timed) (round : ℕ) (fit : HasFitting s facts round) where
  -- the words of an instance of the present fit its widths
  pub words_fit : (position : ℕ) (c : Component) → slice_get s.parts position ≡ Some c → AllFit facts round c.part
  words_fit position c there place instance at = record { three = cells.three; fit = each } where
    cells : AreCells s instance.cells instance.widths
    cells = cells_of s lawful position c there instance (IsIn-slice_get c.part place instance at)

    by_cell : (p w v : ℕ) (o : Option Cell) → slice_get instance.widths p ≡ Some w → slice_get instance.cells p ≡ o → option_map (word_by facts round) o ≡ Some (Some v) → v < 2 ^ w
    by_cell p w v None width is e = cc
    by_cell p w v (Some d) width is e =
        let there : word_by facts round d ≡ Some v = cc in
        rw (cells.of_width p w d is width) (fit d v there)

    each : WordsFit instance.widths (words_of facts round instance)
    each p w v width word = by_cell p w v (slice_get instance.cells p) width refl (sym (slice_get-map (word_by facts round) instance.cells p) ∙ word)

module _ (facts : List Timed) (round : ℕ) (f : Fact) (part : List Instance) (place : ℕ) (instance : Instance) (at : slice_get part place ≡ Some instance) where
  -- what is forced at a place is forced at the instance there
  pub forcing_there : (ports : ℕ) → IsForcingIn facts round f part place ports → IsForcing instance (words_of facts round instance) f ports
  forcing_there ports h =
      let there = h.at_place in
      let same : h.instance ≡ instance = cc in
      subst (λ (i : Instance). IsForcing i (words_of facts round i) f ports) same h.forcing

  -- the first place, and the least ports there
  pub first_in : (found : Forcing) → found.instance ≡ place → length instance.cells ≡ 3 → ((p : ℕ) → p < place → (ports : ℕ) → IsForcingIn facts round f part p ports → ⊥) → IsLeast (IsForcing instance (words_of facts round instance) f) found.ports
      → found.from ≡ at_two_places (facts_at instance.cells (chosen_words found.ports (words_of facts round instance))) → IsFirstIn facts round f part found
  first_in found is three none least from = record {
    instance = instance;
    at_place = let Q : ℕ → Type 0 = λ p. slice_get part p ≡ Some instance in subst Q (sym is) at;
    forcing = least.holds;
    from = ap given from ∙ given-facts instance (words_of facts round instance) f found.ports three (length-map instance.cells (word_by facts round) ∙ three) least.holds;
    first = λ p ports h. elim (cases_order place p) [
      | inl same ↦ let Q : ℕ → Type 0 = λ p. IsForcingIn facts round f part p ports in inr (is ∙ same, least.least ports (forcing_there ports (subst Q (sym same) h)))
      | inr differ ↦ elim differ [ inl less ↦ inl (omega (arith, is, less)) | inr less ↦ absurd (none p less ports h) ]
    ];
  }

-- the same of the component at a position
pub forcing_at_position : (P : Circuit) (facts : List Timed) (round : ℕ) (f : Fact) (position : ℕ) (part : List Instance) → slice_get P.parts position ≡ Some part → (o : Option Forcing) → MatchOption o ((place ports : ℕ) → IsForcingIn facts round f part place ports → ⊥) (IsFirstIn facts round f part)
    → MatchOption o ((place ports : ℕ) → IsForcingAt P facts round f position place ports → ⊥) (IsFirstAt P facts round f position)
forcing_at_position P facts round f position part at None none = λ place ports h.
    let there = h.at_position in
    let same : h.part ≡ part = cc in
    none place ports (subst (λ (p : List Instance). IsForcingIn facts round f p place ports) same h.forcing)
forcing_at_position P facts round f position part at (Some found) first = record { part = part; at_position = at; first = first }
