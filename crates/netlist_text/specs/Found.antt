-- Names that were found in a present.
use Rattle.std.specs.Prelude.{◌≡◌, ℕ, ◌<◌, true, is_some, List, length, None, MatchResult, Result}
use Rattle.std.specs.List.{All, list_all}
use Rattle.circuit_model.specs.Blocks.{BlockView, pin_named}
use Rattle.circuit_model.specs.Present.{PresentView, net_named}
use Rattle.netlist_text.specs.Checks.{checks_of_change, first_misfit}
use Rattle.netlist_text.specs.Lookups.{net_places, pins_of}
use Rattle.netlist_text.specs.Placing.{changed, IsRefusedBy}
use Rattle.netlist_text.specs.declared.misfits.Misfit.{Misfit}
use Rattle.netlist_text.specs.declared.requests.Change.{Change}

-- each name is a net's, and these are their places
pub record AreNets (s : PresentView) (names : List (List ℕ)) (places : List ℕ) : Type 0 where
  pub known : list_all (λ name. is_some (net_named s name)) names ≡ true
  pub found : places ≡ net_places s names
  pub within : All (λ place. place < length s.nets) places

-- each name is a pin's of the definition, and these are their places
pub record ArePins (b : BlockView) (names : List (List ℕ)) (places : List ℕ) : Type 0 where
  pub known : list_all (λ name. is_some (pin_named b name)) names ≡ true
  pub found : places ≡ pins_of b names
  pub within : All (λ place. place < length b.pins) places

-- no check applies, and the change is made
pub record IsMade (old : PresentView) (change : Change) (new : PresentView) : Type 0 where
  pub free : first_misfit (checks_of_change old change) ≡ None
  pub made : new ≡ changed old change

-- it is refused, and changes nothing
pub record IsRefused (old : PresentView) (change : Change) (m : Misfit) (new : PresentView) : Type 0 where
  pub by : IsRefusedBy old change m
  pub same : new ≡ old

-- the change is made, or refused
abbrev pub Places : PresentView → Change → Result (Unit {0}) Misfit → PresentView → Type 0
Places old change result new = MatchResult result (λ done. IsMade old change new) (λ m. IsRefused old change m new)
