-- Modes that a component may have are lawful.
use Rattle.std.proofs.Common.{◌≡◌, ℕ, ◌^◌, ◌<◌, ◌≤◌, false, is_some, List, Option, Some, None, refl, sym, subst, IsTrue}
use Rattle.std.specs.Prelude.{unwrap_or}
use Rattle.std.specs.List.{slice_get}
use Rattle.circuit_model.specs.declared.model.Kind.{Kind}
use Rattle.circuit_model.specs.declared.model.Kind.TheVariants as kind
use Rattle.circuit_model.specs.declared.rules.Class.{Class}
use Rattle.circuit_model.specs.declared.present.Component.{Component}
use Rattle.circuit_model.specs.declared.limits.TheConstants.{LEAST_COST, MOST_COST}
use Rattle.circuit_model.specs.Kinds.{class_of, are_one_class, block_in, MayAct}
use Rattle.circuit_model.specs.Present.{PresentView, part_named, IsLawfulMode}
use Rattle.environment_sets.proofs.Membership.{none_unless_some}
use Rattle.netlist_text.specs.Lookups.{is_block, last_width, acting_kind_named}
use Rattle.netlist_text.specs.Placing.{stuck_mode, acting_mode}
use Rattle.netlist_text.proofs.Acting.{never}
use Rattle.netlist_text.proofs.Names.{found_has_name}

plain : (own : Kind) (c : Class) → IsTrue (are_one_class (class_of own) c) → block_in own ≡ None
plain kind.Buf c h = refl
plain kind.Not c h = refl
plain kind.And c h = refl
plain kind.Or c h = refl
plain kind.Xor c h = refl
plain kind.Nand c h = refl
plain kind.Nor c h = refl
plain kind.Xnor c h = refl
plain kind.Add c h = refl
plain kind.Mul c h = refl
plain (kind.Const value) c h = refl
plain (kind.Reg reset) c h = refl
plain (kind.Block block) c h = absurd (never c h)

module _ (s : PresentView) (name : List ℕ) (place : ℕ) (c : Component) (found : part_named s name ≡ Some place) (there : slice_get s.parts place ≡ Some c) (cost : ℕ) (low : LEAST_COST ≤ cost) (high : cost ≤ MOST_COST) where
  pub stuck_lawful : (value width : ℕ) → is_block c ≡ false → width ≡ last_width s c → value < 2 ^ width → IsLawfulMode s (stuck_mode name value cost)
  stuck_lawful value width other is fits = record {
    place = place;
    component = c;
    there = there;
    named = found_has_name (λ (p : Component). p.name) s.parts name place c found there;
    plain = none_unless_some (block_in c.kind) other;
    mode = subst (λ (w : ℕ). value < 2 ^ w) is fits;
    cost_low = low;
    cost_high = high;
  }

  pub acts_lawful : (act : List ℕ) (k : Kind) → acting_kind_named act ≡ Some k → MayAct c.kind k → IsLawfulMode s (acting_mode name act cost)
  acts_lawful act k is may = record {
    place = place;
    component = c;
    there = there;
    named = found_has_name (λ (p : Component). p.name) s.parts name place c found there;
    plain = plain c.kind (class_of k) may.0;
    mode = subst (λ (o : Option Kind). MayAct c.kind (unwrap_or o kind.Buf)) (sym is) may;
    cost_low = low;
    cost_high = high;
  }
