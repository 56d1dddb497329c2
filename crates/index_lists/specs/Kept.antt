-- How records are kept. No public clause cites this module.
use Rattle.std.specs.Prelude.{◌≡◌, ℕ, ◌<◌, ◌≤◌, List, length, Option, None, IsSome, slice_index_or}
use Rattle.environment_sets.specs.Lists.{IsIn}
use Rattle.index_lists.specs.Lists.{Lists, list_at}
use Rattle.index_lists.specs.Chains.{no_lists}

-- the lists of the lane
abbrev pub lane_of : List Lists → ℕ → Lists
lane_of lanes lane = slice_index_or lanes lane no_lists

-- the same lists, with no less room
pub record IsWider (old new : Lists) : Type 0 where
  pub keys : (h : ℕ) → list_at new h ≡ list_at old h
  pub heads : length new.lists ≡ length old.lists
  pub grows : old.room ≤ new.room

-- there are four lanes; in each of them a key that has a record has room, and what stands in a list has a record
pub record AreKept {T : Type 0} (records : List (Option T)) (lanes : List Lists) : Type 0 where
  pub four : length lanes ≡ 4
  pub room : (lane key : ℕ) → lane < 4 → IsSome (slice_index_or records key None) → key < (slice_index_or lanes lane no_lists).room
  pub there : (lane head key : ℕ) → IsIn (list_at (slice_index_or lanes lane no_lists) head) key → IsSome (slice_index_or records key None)
