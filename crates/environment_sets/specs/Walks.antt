-- Walks through sets in order, from each to the next.
use Rattle.std.specs.Prelude.{◌≡◌, ◌⊎◌, ℕ, Bool, true, ◌&&◌, Option, Some, None, List, [], ◌∷◌}
use Rattle.std.specs.List.{count_by}
use Rattle.std.specs.Option.{option_map}
use Rattle.std.specs.Ordering.{is_lt}
use Rattle.environment_sets.specs.declared.environment.Env.{Env}
use Rattle.environment_sets.specs.declared.environment.TheConstants.{SLOTS}
use Rattle.environment_sets.specs.Sets.{Set, ◌⊆◌, is_within}
use Rattle.environment_sets.specs.Members.{members, sets, HasMember}
use Rattle.environment_sets.specs.Orders.{compare_in, ComesBefore}

module _ {N : Type 0} where
  -- where there is no last set, each comes after it
  abbrev pub ComesAfter : List N → Option (Set N) → Set N → Type 0
  ComesAfter order None E = Unit {0}
  ComesAfter order (Some last) E = ComesBefore order last E

  -- a member inside the mask that comes after the last
  pub record IsFurther (order : List N) (Family : Set N → Type 0) (mask : Set N) (last : Option (Set N)) (E : Set N) : Type 0 where
    pub member : Family E
    pub inside : E ⊆ mask
    pub after : ComesAfter order last E

  -- the first of those
  pub record IsNext (order : List N) (Family : Set N → Type 0) (mask : Set N) (last : Option (Set N)) (E : Set N) : Type 0 where
    pub further : IsFurther order Family mask last E
    pub first : (F : Set N) → IsFurther order Family mask last F → (E ≡ F) ⊎ ComesBefore order E F

  -- the answer is the next one, and there is none exactly where no further one is there
  abbrev pub GivesNext : List N → (Set N → Type 0) → Set N → Option (Set N) → Option (Set N) → Type 0
  GivesNext order Family mask last None = (E : Set N) → IsFurther order Family mask last E → ⊥
  GivesNext order Family mask last (Some E) = IsNext order Family mask last E

  -- each set is the next after the one before, and after the last one there is none
  abbrev pub IsWalk : List N → (Set N → Type 0) → Set N → Option (Set N) → List (Set N) → Type 0
  IsWalk order Family mask last [] = GivesNext order Family mask last None
  IsWalk order Family mask last (E ∷ rest) = GivesNext order Family mask last (Some E) × IsWalk order Family mask (Some E) rest

  -- the test that a set comes after the last one
  abbrev pub is_after : List N → Option (Set N) → Set N → Bool
  is_after order None E = true
  is_after order (Some last) E = is_lt (compare_in order last E)

-- how many of the sets, of numbers below n, are inside the mask and come after the last
abbrev pub count_left : ℕ → List ℕ → Set ℕ → Option (Set ℕ) → List (Set ℕ) → ℕ
count_left n order mask last Es = count_by (λ E. is_within n E mask && is_after order last E) Es

-- the answer is the next of the environments inside the mask
abbrev pub GivesNextEnv : List ℕ → List Env → Env → Option Env → Option Env → Type 0
GivesNextEnv order es mask last next = GivesNext order (HasMember es) (members mask) (option_map members last) (option_map members next)

-- how many of the environments are inside the mask and come after the last
abbrev pub envs_left : List ℕ → List Env → Env → Option Env → ℕ
envs_left order es mask last = count_left SLOTS order (members mask) (option_map members last) (sets es)
