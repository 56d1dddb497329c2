-- Lists of keys, one for each head, in which a key stands at most once.
use Rattle.std.specs.Prelude.{◌≡◌, ◌≢◌, ℕ, ◌==◌, not, if◌then◌else◌, List, [], ◌∷◌, length, filter, Option, Some, None, slice_index_or}
use Rattle.environment_sets.specs.Lists.{IsIn}

-- what contracts see of a lane: the keys of each head from first to last, and below which number keys have room
pub record Lists : Type 0 where
  pub lists : List (List ℕ)
  pub room : ℕ

-- the keys of the head; past the last head there are none
abbrev pub list_at : Lists → ℕ → List ℕ
list_at s head = slice_index_or s.lists head []

-- the first of the keys
abbrev pub first_of : List ℕ → Option ℕ
first_of [] = None
first_of (k ∷ keys) = Some k

-- the key that comes after this one
abbrev pub next_in : List ℕ → ℕ → Option ℕ
next_in [] key = None
next_in (k ∷ keys) key = if k == key then first_of keys else next_in keys key

-- the keys without this one
abbrev pub without : ℕ → List ℕ → List ℕ
without key keys = filter (λ k. not (k == key)) keys

-- the key stands in no list
abbrev pub IsInNone : Lists → ℕ → Type 0
IsInNone s key = (head : ℕ) → IsIn (list_at s head) key → ⊥

-- the key stands in some list
abbrev pub IsInSome : Lists → ℕ → Type 0
IsInSome s key = (head : ℕ) × IsIn (list_at s head) key

-- the head has these keys, and all else is as before
pub record Changes (old new : Lists) (head : ℕ) (keys : List ℕ) : Type 0 where
  pub here : list_at new head ≡ keys
  pub others : (h : ℕ) → h ≢ head → list_at new h ≡ list_at old h
  pub heads : length new.lists ≡ length old.lists
  pub room : new.room ≡ old.room

-- each head has the same keys
pub record AreSame (old new : Lists) : Type 0 where
  pub keys : (h : ℕ) → list_at new h ≡ list_at old h
