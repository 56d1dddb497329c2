-- Records under keys, each in at most one list of each lane.
use Rattle.std.specs.Prelude.{◌≡◌, ◌≢◌, ℕ, List, [], length, Option, None, slice_index_or, refl}
use Rattle.std.specs.Coded.{Coded, code_by, coded×, coded_ℕ, coded_list, coded_option}
use Rattle.environment_sets.specs.Lists.{IsIn}
use Rattle.index_lists.specs.Lists.{Lists, list_at}

-- the record under each key, if there is one, and the lists of each lane
pub record Records (T : Type 0) : Type 0 where
  pub records : List (Option T)
  pub lanes : List Lists

-- records and lists are stored as the pair of the fields
abbrev pub lists_code : Coded Lists
lists_code = code_by (List (List ℕ) × ℕ) (coded× (coded_list (coded_list coded_ℕ)) coded_ℕ) (λ s. (s.lists, s.room)) (λ p. record { lists = p.0; room = p.1 }) (λ _. refl)

abbrev pub records_code : {T : Type 0} → Coded T → Coded (Records T)
records_code {T} code =
    code_by (List (Option T) × List Lists) (coded× (coded_list (coded_option code)) (coded_list lists_code)) (λ s. (s.records, s.lanes)) (λ p. record { records = p.0; lanes = p.1 }) (λ _. refl)

-- a lane with no head
abbrev pub no_lists : Lists
no_lists = record { lists = []; room = 0 }

module _ {T : Type 0} where
  -- the record under the key
  abbrev pub record_at : Records T → ℕ → Option T
  record_at s key = slice_index_or s.records key None

  -- the lists of the lane
  abbrev pub lane_at : Records T → ℕ → Lists
  lane_at s lane = slice_index_or s.lanes lane no_lists

  -- the keys of the head in the lane
  abbrev pub keys_in : Records T → ℕ → ℕ → List ℕ
  keys_in s lane head = list_at (lane_at s lane) head

  -- the same lists, and as many heads
  pub record HaveSameLists (old new : Records T) : Type 0 where
    pub keys : (lane head : ℕ) → keys_in new lane head ≡ keys_in old lane head
    pub heads : (lane : ℕ) → length (lane_at new lane).lists ≡ length (lane_at old lane).lists

  -- the key has this, and every other key what it had
  pub record Has (old new : Records T) (key : ℕ) (what : Option T) : Type 0 where
    pub there : record_at new key ≡ what
    pub others : (k : ℕ) → k ≢ key → record_at new k ≡ record_at old k

  -- the key stands in no list of any lane
  abbrev pub IsInNoLane : Records T → ℕ → Type 0
  IsInNoLane s key = (lane head : ℕ) → IsIn (keys_in s lane head) key → ⊥
