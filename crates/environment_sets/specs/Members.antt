-- The slots of an environment, and the sets of a list of environments.
use Rattle.std.specs.Prelude.{ℕ, ◌/◌, ◌%◌, ◌==◌, Bool, List, map, slice_index}
use Rattle.std.specs.Int.{bit_at}
use Rattle.environment_sets.specs.declared.environment.Env.{Env}
use Rattle.environment_sets.specs.declared.environment.TheConstants.{WORD_BITS}
use Rattle.environment_sets.specs.Sets.{Set}
use Rattle.environment_sets.specs.Lists.{IsIn}

-- whether the bit of the word is set
abbrev pub has_bit : ℕ → ℕ → Bool
has_bit word k = bit_at word k == 1

-- the slots whose bits are set, in words side by side
abbrev pub slots_in : List ℕ → Set ℕ
slots_in words k = has_bit (slice_index words (k / WORD_BITS)) (k % WORD_BITS)

-- the slots of the environment
unfoldable pub members : Env → Set ℕ
members e = slots_in e.words

-- the sets of slots of the environments
abbrev pub sets : List Env → List (Set ℕ)
sets es = map members es

-- an environment of the list has exactly these slots
abbrev pub HasMember : List Env → Set ℕ → Type 0
HasMember es E = IsIn (sets es) E
