-- What is made of sets.
use Rattle.std.specs.Prelude.{◌≡◌, ◌⊎◌, IsTrue}
use Rattle.environment_sets.specs.Sets.{Set, ◌⊆◌}

module _ {N : Type 0} where
  -- no name is in the set
  abbrev pub IsEmpty : Set N → Type 0
  IsEmpty E = (k : N) → IsTrue (E k) → ⊥

  -- F is E with the name
  pub record IsWith (E : Set N) (name : N) (F : Set N) : Type 0 where
    pub more : E ⊆ F
    pub has : IsTrue (F name)
    pub only : (k : N) → IsTrue (F k) → IsTrue (E k) ⊎ (k ≡ name)
