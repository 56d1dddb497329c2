-- Signatures: one word from which most pairs of sets are seen to be no subset of each other.
use Rattle.std.specs.Prelude.{◌≡◌, ◌↔◌, ℕ, ◌%◌, ◌<◌, IsTrue, List, [], ◌∷◌, bit_or}
use Rattle.environment_sets.specs.declared.environment.Env.{Env}
use Rattle.environment_sets.specs.declared.environment.TheConstants.{WORD_BITS}
use Rattle.environment_sets.specs.Sets.{Set}
use Rattle.environment_sets.specs.Members.{has_bit}

-- the bits that are set in any of the words
abbrev pub union_of : List ℕ → ℕ
union_of [] = 0
union_of (word ∷ words) = bit_or word (union_of words)

-- the union of the environment's words
unfoldable pub signature : Env → ℕ
signature e = union_of e.words

-- a number of the set leaves the rest, divided by the bits of a word
abbrev pub HasRest : Set ℕ → ℕ → Type 0
HasRest E rest = (k : ℕ) × IsTrue (E k) × (k % WORD_BITS ≡ rest)

-- a bit of the word is set exactly where a number of the set leaves its place
abbrev pub IsSignature : ℕ → Set ℕ → Type 0
IsSignature word E = (rest : ℕ) → rest < WORD_BITS → IsTrue (has_bit word rest) ↔ HasRest E rest
