-- What the scanners of a line answer.
use Rattle.std.specs.Prelude.{◌≡◌, ℕ, ◌≤◌, ◌<◌, true, false, List, [], ◌∷◌, ◌++◌, length, take, drop}
use Rattle.netlist_text.specs.Words.{words_of, is_blank}

-- nothing is left, or a blank comes first
abbrev pub BeginsBlank : List ℕ → Type 0
BeginsBlank [] = Unit {0}
BeginsBlank (b ∷ bytes) = is_blank b ≡ true

-- nothing is left, or a word comes first
abbrev pub BeginsWord : List ℕ → Type 0
BeginsWord [] = Unit {0}
BeginsWord (b ∷ bytes) = is_blank b ≡ false

-- each byte is a blank
abbrev pub AreBlanks : List ℕ → Type 0
AreBlanks [] = Unit {0}
AreBlanks (b ∷ bytes) = (is_blank b ≡ true) × AreBlanks bytes

-- no byte is a blank
abbrev pub HasNoBlank : List ℕ → Type 0
HasNoBlank [] = Unit {0}
HasNoBlank (b ∷ bytes) = (is_blank b ≡ false) × HasNoBlank bytes

-- all blanks at the front are left out
pub record SkipsBlanks (bytes rest : List ℕ) : Type 0 where
  pub blanks : List ℕ
  pub split : bytes ≡ blanks ++ rest
  pub each : AreBlanks blanks
  pub begins : BeginsWord rest

-- the first n bytes have no blank, and then comes a blank or nothing
pub record EndsWord (bytes : List ℕ) (n : ℕ) : Type 0 where
  pub within : n ≤ length bytes
  pub each : HasNoBlank (take n bytes)
  pub ends : BeginsBlank (drop n bytes)

-- the words are this one, which isn't empty, and those of the rest
pub record FindsWord (bytes word rest : List ℕ) : Type 0 where
  pub some : 0 < length word
  pub words : words_of bytes ≡ word ∷ words_of rest
