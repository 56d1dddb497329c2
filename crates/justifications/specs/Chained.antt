-- Records in chains: in each lane a record stands in the list of the head that it says, and in no other.
use Rattle.std.specs.Prelude.{◌≡◌, ℕ, ◌==◌, if◌then◌else◌, List, ◌∷◌, filter, is_some, Option, Some, None}
use Rattle.environment_sets.specs.Lists.{IsRoster}
use Rattle.index_lists.specs.Lists.{Lists, list_at, without}
use Rattle.index_lists.specs.Chains.{Records, record_at, lane_at, keys_in}

-- the keys after one key was put in front of those of the head that it says, if it says one
abbrev pub with_key : ℕ → Option ℕ → ℕ → List ℕ → List ℕ
with_key key None head keys = keys
with_key key (Some said) head keys = if said == head then key ∷ keys else keys

-- each head has exactly the keys that say it, each once
abbrev pub AreChained : Lists → (ℕ → Option ℕ) → Type 0
AreChained s says = (head : ℕ) → IsRoster (λ key. says key ≡ Some head) (list_at s head)

module _ {T : Type 0} where
  -- the head that a record says in a lane, where there is a record
  abbrev pub said_by : (T → Option ℕ) → Option T → Option ℕ
  said_by head None = None
  said_by head (Some x) = head x

  -- in each lane each record stands in the list of the head that it says there
  abbrev pub AreAllChained : (ℕ → T → Option ℕ) → Records T → Type 0
  AreAllChained heads s = (lane : ℕ) → AreChained (lane_at s lane) (λ key. said_by (heads lane) (record_at s key))

  -- each key has the record that it had, and each head its keys
  pub record AreAlike (old new : Records T) : Type 0 where
    pub records : (key : ℕ) → record_at new key ≡ record_at old key
    pub keys : (lane head : ℕ) → keys_in new lane head ≡ keys_in old lane head

  -- a new key has the record, in front of its lists; all else is as before
  pub record IsAdded (heads : ℕ → T → Option ℕ) (old new : Records T) (key : ℕ) (x : T) : Type 0 where
    pub free : record_at old key ≡ None
    pub there : record_at new key ≡ Some x
    pub others : (k : ℕ) → (k ≡ key → ⊥) → record_at new k ≡ record_at old k
    pub keys : (lane head : ℕ) → keys_in new lane head ≡ with_key key (heads lane x) head (keys_in old lane head)

  -- the key has no record and stands in no list; all else is as before
  pub record IsRemoved (old new : Records T) (key : ℕ) : Type 0 where
    pub gone : record_at new key ≡ None
    pub others : (k : ℕ) → (k ≡ key → ⊥) → record_at new k ≡ record_at old k
    pub keys : (lane head : ℕ) → keys_in new lane head ≡ without key (keys_in old lane head)

  -- what has the property has no record any more; all else is as before, and lists keep their order
  pub record AreDropped (P : T → Type 0) (old new : Records T) : Type 0 where
    pub gone : (key : ℕ) (x : T) → record_at old key ≡ Some x → P x → record_at new key ≡ None
    pub others : (key : ℕ) → ((x : T) → record_at old key ≡ Some x → P x → ⊥) → record_at new key ≡ record_at old key
    pub keys : (lane head : ℕ) → keys_in new lane head ≡ filter (λ key. is_some (record_at new key)) (keys_in old lane head)
