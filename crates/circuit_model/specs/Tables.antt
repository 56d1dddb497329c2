-- Tables by names, as the lists that they stand for.
use Rattle.std.specs.Prelude.{◌≡◌, ℕ, List, map}
use Rattle.std.specs.Map.{keys_of, values_of}
use Rattle.circuit_model.specs.declared.present.Net.{Net}

-- the nets of these names and widths
abbrev pub nets_of : List (List ℕ × ℕ) → List Net
nets_of entries = map (λ e. record { name = e.0; width = e.1 }) entries

-- each stands under its own name
abbrev pub StandByName : {X : Type 0} → (X → List ℕ) → List (List ℕ × X) → Type 0
StandByName name entries = keys_of entries ≡ map name (values_of entries)
