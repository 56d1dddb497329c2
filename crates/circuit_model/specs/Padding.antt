-- A name in an array: its bytes, and zeros after them.
use Rattle.std.specs.Prelude.{◌≡◌, ℕ, ◌-◌, ◌≤◌, ◌++◌, List, length, take, drop, replicate, IsTrue}
use Rattle.std.proofs.Common.{arith}
use Rattle.std.proofs.lemmas.List.{length-take-le, take-append-drop}
use Rattle.circuit_model.specs.Names.{is_name}
use Rattle.circuit_model.specs.declared.limits.TheConstants.{LONGEST_NAME}

-- the first bytes are the name
abbrev pub shown : List ℕ → ℕ → List ℕ
shown bytes len = take len bytes

-- the name, and zeros up to the longest one
abbrev pub padded : List ℕ → List ℕ
padded name = name ++ replicate (LONGEST_NAME - length name) 0

-- an array as long as the longest name, with a name in its first places and zeros after it
pub record IsPadded (bytes : List ℕ) (len : ℕ) : Type 0 where
  pub size : length bytes ≡ LONGEST_NAME
  pub within : len ≤ LONGEST_NAME
  pub zeros : drop len bytes ≡ replicate (LONGEST_NAME - len) 0
  pub name : IsTrue (is_name (shown bytes len))

-- the name is as long as is kept
pub length-shown : (bytes : List ℕ) (len : ℕ) → IsPadded bytes len → length (shown bytes len) ≡ len
length-shown bytes len h = length-take-le len bytes (omega (arith, h.size, h.within))

-- the name, padded again, is the array
pub padded-shown : (bytes : List ℕ) (len : ℕ) → IsPadded bytes len → padded (shown bytes len) ≡ bytes
padded-shown bytes len h = rw (length-shown bytes len h, ← h.zeros) (take-append-drop len bytes)
