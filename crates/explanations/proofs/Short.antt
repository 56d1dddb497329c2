-- How many instances a component has.
use Rattle.std.proofs.Common.{◌≡◌, ℕ, ◌<◌, ◌^◌, length, slice_get, Some, arith}
use Rattle.circuit_model.specs.declared.present.Component.{Component}
use Rattle.circuit_model.specs.Present.{PresentView, IsLawful}
use Rattle.proof_check.proofs.Lengths.{length-part}

module _ (s : PresentView) (lawful : IsLawful s) where
  -- a component of the present has few instances
  pub few_of_part : (position : ℕ) (c : Component) → slice_get s.parts position ≡ Some c → length c.part < 2 ^ 16
  few_of_part position c at = let few = length-part s lawful position c at in omega (arith, few)
