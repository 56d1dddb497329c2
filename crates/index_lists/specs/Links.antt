-- How lists of keys are linked. No public clause cites this module.
use Rattle.std.specs.Prelude.{◌≡◌, ◌≢◌, ℕ, zero, suc, List, [], ◌∷◌, length, map, Option, Some, None, slice_index_or, slice_set}
use Rattle.environment_sets.specs.Lists.{IsIn}
use Rattle.index_lists.specs.declared.lane.Place.{Place}
use Rattle.index_lists.specs.Lists.{Lists, first_of}

-- where the key stands, if it stands in a list
abbrev pub place_at : List (Option Place) → ℕ → Option Place
place_at places key = slice_index_or places key None

-- the first key of the head
abbrev pub first_at : List (Option ℕ) → ℕ → Option ℕ
first_at firsts head = slice_index_or firsts head None

-- the key behind a place
abbrev pub after_of : Option Place → Option ℕ
after_of None = None
after_of (Some p) = p.after

-- the key before a place
abbrev pub before_of : Option Place → Option ℕ
before_of None = None
before_of (Some p) = p.before

-- the keys from this one on, at most so many
abbrev pub walk : List (Option Place) → ℕ → Option ℕ → List ℕ
walk places zero key = []
walk places (suc n) None = []
walk places (suc n) (Some k) = k ∷ walk places n (after_of (place_at places k))

-- the keys from this one on
unfoldable pub keys_from : List (Option Place) → Option ℕ → List ℕ
keys_from places key = walk places (length places) key

-- the keys from the head's first one on
abbrev pub keys_at : List (Option ℕ) → List (Option Place) → ℕ → List ℕ
keys_at firsts places head = keys_from places (first_at firsts head)

-- what contracts see
abbrev pub lists_of : List (Option ℕ) → List (Option Place) → Lists
lists_of firsts places = record { lists = map (keys_from places) firsts; room = length places }

-- the place of a key of the head, between two others
abbrev pub between : ℕ → Option ℕ → Option ℕ → Place
between head before after = record { head = head; before = before; after = after }

-- each of the keys stands between its neighbours in the list of the head
abbrev pub IsChain : List (Option Place) → ℕ → Option ℕ → List ℕ → Type 0
IsChain places head before [] = Unit {0}
IsChain places head before (k ∷ keys) = (place_at places k ≡ Some (between head before (first_of keys))) × IsChain places head (Some k) keys

-- the keys of each head stand between their neighbours, and whatever stands somewhere is one of them
pub record AreLinked (firsts : List (Option ℕ)) (places : List (Option Place)) : Type 0 where
  pub chains : (h : ℕ) → IsChain places h None (keys_at firsts places h)
  pub begins : (h : ℕ) → first_at firsts h ≡ first_of (keys_at firsts places h)
  pub stands : (k : ℕ) (p : Place) → place_at places k ≡ Some p → IsIn (keys_at firsts places p.head) k

-- the key stands in front of what was first, and no other key stands elsewhere
pub record IsPutInFront (old new : List (Option Place)) (key head : ℕ) (first : Option ℕ) : Type 0 where
  pub here : place_at new key ≡ Some (between head None first)
  pub next : (k : ℕ) (p : Place) → first ≡ Some k → place_at old k ≡ Some p → place_at new k ≡ Some (between p.head (Some key) p.after)
  pub others : (k : ℕ) → k ≢ key → (first ≡ Some k → ⊥) → place_at new k ≡ place_at old k
  pub long : length new ≡ length old

-- the key stands nowhere, its neighbours stand beside each other, and no other key stands elsewhere
pub record IsCutOut (old new : List (Option Place)) (key : ℕ) (before after : Option ℕ) : Type 0 where
  pub gone : place_at new key ≡ None
  pub front : (k : ℕ) (p : Place) → before ≡ Some k → (after ≡ Some k → ⊥) → place_at old k ≡ Some p → place_at new k ≡ Some (between p.head p.before after)
  pub back : (k : ℕ) (p : Place) → after ≡ Some k → (before ≡ Some k → ⊥) → place_at old k ≡ Some p → place_at new k ≡ Some (between p.head before p.after)
  pub others : (k : ℕ) → k ≢ key → (before ≡ Some k → ⊥) → (after ≡ Some k → ⊥) → place_at new k ≡ place_at old k
  pub long : length new ≡ length old

-- the place with another key behind it
abbrev pub with_after : Option ℕ → Option Place → Option Place
with_after after None = None
with_after after (Some p) = Some (between p.head p.before after)

-- the place with another key before it
abbrev pub with_before : Option ℕ → Option Place → Option Place
with_before before None = None
with_before before (Some p) = Some (between p.head before p.after)

-- where there is such a key, its place is changed
abbrev pub changed_at : (Option Place → Option Place) → Option ℕ → List (Option Place) → List (Option Place)
changed_at change None places = places
changed_at change (Some k) places = slice_set places k (change (place_at places k))

-- where there is no key before, what comes after is the first of the head
abbrev pub first_past : Option ℕ → ℕ → Option ℕ → List (Option ℕ) → List (Option ℕ)
first_past None head after firsts = slice_set firsts head after
first_past (Some k) head after firsts = firsts
