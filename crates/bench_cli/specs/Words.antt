-- The words of the command line.
use Rattle.std.specs.Prelude.{◌≡◌, ◌⊎◌, ℕ, ◌≤◌, true, List, [], ◌∷◌, ◌++◌, codes, map, Option, String}
use Rattle.std.specs.Io.KnownBytes.{Appends}
use Rattle.std.specs.String.{string_bytes}
use Rattle.netlist_text.specs.Words.{is_number, number_of}
use Rattle.workload_maker.specs.declared.making.TheConstants.{MOST_BOXES}
use Rattle.bench_cli.specs.declared.Status.{Status}
use Rattle.bench_cli.specs.declared.Status.TheVariants.{Usage, WriteFault}

-- the words are `run`
abbrev pub IsPlainRun : {Z : Type 0} → List (String Z) → Type 0
IsPlainRun words = map string_bytes words ≡ codes "run" ∷ []

-- the words are `run order` and a number
pub record IsOrderedRun {Z : Type 0} (words : List (String Z)) : Type 0 where
  pub digits : List ℕ
  pub are : map string_bytes words ≡ codes "run" ∷ codes "order" ∷ digits ∷ []
  pub number : is_number digits ≡ true

-- the words ask for a session
abbrev pub IsRun : {Z : Type 0} → List (String Z) → Type 0
IsRun words = IsPlainRun words ⊎ IsOrderedRun words

-- the word is a number of boxes that can be made
pub record IsBoxCount (word : List ℕ) : Type 0 where
  pub number : is_number word ≡ true
  pub least : 1 ≤ number_of word
  pub most : number_of word ≤ MOST_BOXES

-- the words are `make`, a number of boxes and a seed
pub record IsMake {Z : Type 0} (words : List (String Z)) : Type 0 where
  pub count : List ℕ
  pub seed : List ℕ
  pub are : map string_bytes words ≡ codes "make" ∷ count ∷ seed ∷ []
  pub of_count : IsBoxCount count
  pub of_seed : is_number seed ≡ true

-- the line that says which words there are
abbrev pub usage_line : List ℕ
usage_line = codes "usage: gde run | run order N | make N SEED | audit\n"

-- The usage line was written, or a front of it where a write failed.
abbrev pub TellsUsage : Status → (before now : Option (List ℕ)) → Type 0
TellsUsage Usage before now = Appends before now usage_line
TellsUsage WriteFault before now = (front rest : List ℕ) × (usage_line ≡ front ++ rest) × Appends before now front
TellsUsage status before now = ⊥
