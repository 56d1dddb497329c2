-- How nodes are found by their facts. No public clause cites this module.
use Rattle.std.specs.Prelude.{◌≡◌, ◌⊎◌, ℕ, ◌==◌, ◌&&◌, ◌<◌, ◌≤◌, Bool, List, length, filter, is_some, Option, Some, None, IsSome, IfSome}
use Rattle.std.specs.Map.{lookup}
use Rattle.circuit_model.specs.declared.model.Fact.{Fact}
use Rattle.index_lists.specs.Chains.{Records, record_at, lane_at, keys_in}
use Rattle.justifications.specs.declared.model.Inferred.{Inferred}
use Rattle.justifications.specs.declared.model.TheConstants.{MOST_NODES}
use Rattle.justifications.specs.declared.table.Named.{Named}
use Rattle.justifications.specs.Chained.{AreAllChained, said_by}
use Rattle.justifications.specs.Woven.{Woven, IsFit, inferred_at, head_of_fact, head_of_inferred}

-- the key of a fact
abbrev pub key_of : Fact → Named
key_of fact = record { net = fact.cell.net; cycle = fact.cell.cycle; value = fact.value }

-- the test that the table makes of a key
abbrev pub is_key : Named → Named → Bool
is_key a b = (a.net == b.net) && ((a.cycle == b.cycle) && (a.value == b.value))

-- the number under the fact
abbrev pub number_in : List (Named × ℕ) → Fact → Option ℕ
number_in entries fact = lookup (is_key (key_of fact)) entries

-- each fact has the number of its node
pub record AreTold (entries : List (Named × ℕ)) (facts : Records Fact) : Type 0 where
  pub found : (fact : Fact) (n : ℕ) → number_in entries fact ≡ Some n → record_at facts n ≡ Some fact
  pub told : (n : ℕ) (fact : Fact) → record_at facts n ≡ Some fact → number_in entries fact ≡ Some n

-- the nodes, each found by its fact, and in the list of its cell
pub record AreNodes (entries : List (Named × ℕ)) (facts : Records Fact) : Type 0 where
  pub told : AreTold entries facts
  pub chained : AreAllChained head_of_fact facts
  pub numbers : (n : ℕ) → IsSome (record_at facts n) → n < MOST_NODES

-- each recorded inference is fit, and in the lists of what it names
pub record AreInferences (w : Woven) : Type 0 where
  pub chained : AreAllChained head_of_inferred w.inferences
  pub fit : (j : ℕ) (x : Inferred) → inferred_at w j ≡ Some x → IsFit w x

-- both
pub record AreKept (entries : List (Named × ℕ)) (w : Woven) : Type 0 where
  pub nodes : AreNodes entries w.facts
  pub inferences : AreInferences w

-- the fact has this number, or none, and each other what it had
pub record IsEntered (old new : List (Named × ℕ)) (fact : Fact) (what : Option ℕ) : Type 0 where
  pub here : number_in new fact ≡ what
  pub others : (f : Fact) → (f ≡ fact → ⊥) → number_in new f ≡ number_in old f

-- no head that the inference says is past the numbers of nodes
abbrev pub IsLow : Inferred → Type 0
IsLow x = (lane : ℕ) → IfSome (head_of_inferred lane x) (λ head. head ≤ MOST_NODES)

-- the heads that the inference says are made in the lanes before this one, and all else is as before
pub record AreMade (old now : Records Inferred) (x : Inferred) (lane : ℕ) : Type 0 where
  pub records : now.records ≡ old.records
  pub keys : (l head : ℕ) → keys_in now l head ≡ keys_in old l head
  pub made : (l : ℕ) → l < lane → IfSome (head_of_inferred l x) (λ head. head < length (lane_at now l).lists)

-- the lists of the lanes before this one are changed, and those from it on are as before
pub record AreChanged (old now : Records Inferred) (change : ℕ → ℕ → List ℕ → List ℕ) (lane : ℕ) : Type 0 where
  pub records : now.records ≡ old.records
  pub done : (l : ℕ) → l < lane → (head : ℕ) → keys_in now l head ≡ change l head (keys_in old l head)
  pub rest : (l : ℕ) → lane ≤ l → lane_at now l ≡ lane_at old l

-- while those that say the head are dropped: each is as before or was one of them, and all is in its lists
pub record AreDropping (old now : Records Inferred) (lane head : ℕ) : Type 0 where
  pub chained : AreAllChained head_of_inferred now
  pub low : (key : ℕ) → IfSome (record_at now key) IsLow
  pub left : (key : ℕ) → (record_at now key ≡ record_at old key) ⊎ ((record_at now key ≡ None) × (said_by (head_of_inferred lane) (record_at old key) ≡ Some head))
  pub keys : (l h : ℕ) → keys_in now l h ≡ filter (λ key. is_some (record_at now key)) (keys_in old l h)
