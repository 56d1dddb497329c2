-- Inner components at pins that were found are lawful.
use Rattle.std.proofs.Common.{◌≡◌, ◌∙◌, ℕ, zero, suc, true, List, length, map, None, IsTrue, ap, sym, subst}
use Rattle.circuit_model.specs.declared.model.Kind.{Kind}
use Rattle.circuit_model.specs.Blocks.{BlockView, IsLawfulInner}
use Rattle.circuit_model.specs.Inference.{ports_of}
use Rattle.circuit_model.specs.Kinds.{RepeatsLast, primitive_of, are_widths, fits_value, block_in}
use Rattle.circuit_model.proofs.Openings.{repeat_map}
use Rattle.netlist_text.specs.Found.{ArePins}
use Rattle.netlist_text.specs.Lookups.{pin_of, pin_widths_at}
use Rattle.netlist_text.specs.Placing.{inner_at}

pub inner_lawful : (b : BlockView) (name : List ℕ) (kind : Kind) (names : List (List ℕ)) (places widths : List ℕ) → block_in kind ≡ None → RepeatsLast kind names → ArePins b names places → length places ≡ 3
    → widths ≡ pin_widths_at b places → are_widths kind widths ≡ true → fits_value kind widths ≡ true → IsLawfulInner b.pins (inner_at name kind places)
inner_lawful b name kind names places widths plain unused pins three is rule value = record {
  plain = plain;
  three = three;
  pins_there = pins.within;
  unused = subst (λ (xs : List ℕ). RepeatsLast kind xs) (sym pins.found) (repeat_map (pin_of b) names (ports_of (primitive_of kind)) unused);
  widths = subst (λ (ws : List ℕ). IsTrue (are_widths kind ws)) is rule;
  value = subst (λ (ws : List ℕ). IsTrue (fits_value kind ws)) is value;
}
