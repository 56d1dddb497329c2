-- Lists of environments with their signatures.
use Rattle.std.specs.Prelude.{◌≡◌, ◌<◌, ◌≤◌, ◌+◌, ◌-◌, ◌/◌, ℕ, List, Some, bit_and, length, map, slice_get, slice_index, vec_len, vec_capacity}
use Rattle.environment_sets.specs.declared.environment.Env.{Env}
use Rattle.environment_sets.specs.declared.environment.TheConstants.{SLOTS}
use Rattle.environment_sets.specs.Sets.{Set, ◌⊆◌, size_below}
use Rattle.environment_sets.specs.Members.{members}
use Rattle.environment_sets.specs.Signatures.{signature}
use Rattle.antichains.specs.declared.signed_list.SignedList.{SignedList}
use Rattle.antichains.specs.declared.signed_list.TheConstants.{BLOCK}

-- how many slots the environment has
abbrev pub size_of : Env → ℕ
size_of e = size_below SLOTS (members e)

-- how many blocks so many signatures take
abbrev pub blocks_of : ℕ → ℕ
blocks_of count = (count + BLOCK - 1) / BLOCK

-- what stands for a block has no bit that a signature of the block lacks
pub record AreShared (signatures shared : List ℕ) : Type 0 where
  pub blocks : length shared ≡ blocks_of (length signatures)
  pub part : (k : ℕ) → k < length signatures → bit_and (slice_index shared (k / BLOCK)) (slice_index signatures k) ≡ slice_index shared (k / BLOCK)

-- the same of the signatures below the place
pub record AreSharedBelow (signatures shared : List ℕ) (i : ℕ) : Type 0 where
  pub blocks : length shared ≡ blocks_of (length signatures)
  pub part : (k : ℕ) → k < i → bit_and (slice_index shared (k / BLOCK)) (slice_index signatures k) ≡ slice_index shared (k / BLOCK)

-- there are as many numbers as environments, and below the place each is f of the environment there
pub record AreWritten (f : Env → ℕ) (es : List Env) (ws : List ℕ) (i : ℕ) : Type 0 where
  pub long : length ws ≡ length es
  pub below : (k : ℕ) → k < i → slice_index ws k ≡ slice_index (map f es) k

-- none of the environments before the place has the property
abbrev pub NoneBefore : (Env → Type 0) → List Env → ℕ → Type 0
NoneBefore P es i = (k : ℕ) (e : Env) → k < i → slice_get es k ≡ Some e → P e → ⊥

-- there is an environment at the place, and none before it has the property
pub record IsBehindNone (P : Env → Type 0) (es : List Env) (place : ℕ) : Type 0 where
  pub inside : place < length es
  pub none : NoneBefore P es place

-- what stands for the block is part of the signature
abbrev pub MayCover : List ℕ → ℕ → ℕ → Type 0
MayCover shared signature block = bit_and (slice_index shared block) signature ≡ slice_index shared block

-- of the blocks from the one on, none before the end has its part in the signature
abbrev pub NoneMayCover : List ℕ → ℕ → ℕ → ℕ → Type 0
NoneMayCover shared signature from end = (k : ℕ) → from ≤ k → k < end → MayCover shared signature k → ⊥

-- the last block before the end that has its part in the signature
pub record IsLastThatMayCover (shared : List ℕ) (signature end block : ℕ) : Type 0 where
  pub before : block < end
  pub may : MayCover shared signature block
  pub last : NoneMayCover shared signature (block + 1) end

-- no environment of the block is a subset of the set
abbrev pub NoneInBlock : ℕ → List Env → Set ℕ → Type 0
NoneInBlock block es E = (k : ℕ) (e : Env) → k / BLOCK ≡ block → slice_get es k ≡ Some e → members e ⊆ E → ⊥

-- an environment stands at the place and is a subset of the set
abbrev pub HasSubsetAt : List Env → ℕ → Set ℕ → Type 0
HasSubsetAt es place E = (e : Env) × (slice_get es place ≡ Some e) × (members e ⊆ E)

-- the signature and the size of each environment stand at its place, and for each block what its signatures have
pub record IsSigned (s : SignedList) : Type 0 where
  pub signatures : s.signatures.items ≡ map signature s.list.items
  pub shared : AreShared s.signatures.items s.shared.items
  pub sizes : s.sizes.items ≡ map size_of s.list.items

-- the signatures and the sizes of the environments before the place stand there, and there are at least so many environments
pub record IsSignedBefore (s : SignedList) (from : ℕ) : Type 0 where
  pub within : from ≤ length s.list.items
  pub signatures : (k : ℕ) → k < from → slice_index s.signatures.items k ≡ slice_index (map signature s.list.items) k
  pub sizes : (k : ℕ) → k < from → slice_index s.sizes.items k ≡ slice_index (map size_of s.list.items) k

-- there is room for one environment more
pub record HasRoom (s : SignedList) : Type 0 where
  pub list : vec_len s.list < vec_capacity s.list
  pub signatures : vec_len s.signatures < vec_capacity s.signatures
  pub shared : vec_len s.shared < vec_capacity s.shared
  pub sizes : vec_len s.sizes < vec_capacity s.sizes
