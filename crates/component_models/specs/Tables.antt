-- The words that are forced at each port, by cases on the known ones.
use Rattle.std.specs.Prelude.{◌≡◌, ◌↔◌, IsTrue, ℕ, ◌+◌, ◌-◌, ◌*◌, ◌%◌, ◌^◌, ◌<◌, List, [], ◌∷◌, Option, Some, None, Bool, false, not, ◌==◌, bit_and, if◌then◌else◌}

-- two words force the one at the port that is left: the third of a and b, or the other of z and one of them
abbrev pub forced_by_two : (ℕ → ℕ → ℕ) → (ℕ → ℕ → ℕ) → Option ℕ → Option ℕ → Option ℕ → List (Option ℕ)
forced_by_two third other (Some a) (Some b) None = None ∷ None ∷ Some (third a b) ∷ []
forced_by_two third other (Some a) None (Some z) = None ∷ Some (other z a) ∷ None ∷ []
forced_by_two third other None (Some b) (Some z) = Some (other z b) ∷ None ∷ None ∷ []
forced_by_two third other _ _ _ = None ∷ None ∷ None ∷ []

-- the sum of two words of w bits, without its carry
abbrev pub sum_of : ℕ → ℕ → ℕ → ℕ
sum_of w a b = (a + b) % 2 ^ w

-- what is to be added to the second for the first, without carry
abbrev pub difference_of : ℕ → ℕ → ℕ → ℕ
difference_of w z a = (z + (2 ^ w - a)) % 2 ^ w

-- a conjunction of words forces these, where m is the greatest word
abbrev pub forced_by_and : ℕ → Option ℕ → Option ℕ → Option ℕ → List (Option ℕ)
forced_by_and m (Some a) (Some b) None = None ∷ None ∷ Some (bit_and a b) ∷ []
forced_by_and m (Some a) None (Some z) = None ∷ (if a == m then Some z else None) ∷ None ∷ []
forced_by_and m None (Some b) (Some z) = (if b == m then Some z else None) ∷ None ∷ None ∷ []
forced_by_and m (Some a) None None = None ∷ None ∷ (if a == 0 then Some 0 else None) ∷ []
forced_by_and m None (Some b) None = None ∷ None ∷ (if b == 0 then Some 0 else None) ∷ []
forced_by_and m None None (Some z) = (if z == m then Some m else None) ∷ (if z == m then Some m else None) ∷ None ∷ []
forced_by_and m _ _ _ = None ∷ None ∷ None ∷ []

-- a conjunction is refuted where it has a bit that one of its words lacks
abbrev pub refuted_by_and : Option ℕ → Option ℕ → Option ℕ → Bool
refuted_by_and (Some a) None (Some z) = not (bit_and a z == z)
refuted_by_and None (Some b) (Some z) = not (bit_and b z == z)
refuted_by_and _ _ _ = false

-- the product that the known factors force
abbrev pub product_of : Option ℕ → Option ℕ → Option ℕ
product_of (Some a) (Some b) = Some (a * b)
product_of (Some a) None = if a == 0 then Some 0 else None
product_of None (Some b) = if b == 0 then Some 0 else None
product_of None None = None

-- what a factor and the product say of the other factor, a word of w bits: they refute exactly where none makes the
-- product, and force the one that makes it exactly where no other does
pub record IsOtherFactor (w factor product : ℕ) (refuted : Bool) (forced : Option ℕ) : Type 0 where
  pub refutes : IsTrue refuted ↔ ((q : ℕ) → q < 2 ^ w → product ≡ factor * q → ⊥)
  pub forces : (q : ℕ) → (forced ≡ Some q) ↔ ((q < 2 ^ w) × (product ≡ factor * q) × ((r : ℕ) → r < 2 ^ w → product ≡ factor * r → r ≡ q))
