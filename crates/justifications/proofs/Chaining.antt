-- Records that stay chained while one is added or removed.
use Rattle.std.proofs.Common.{◌≡◌, ℕ, true≢false, refl, sym, ap, subst, ◌∙◌, List, [], length, Option, Some, None, IsSome, arith}
use Rattle.std.proofs.lemmas.List.{get_or_past}
use Rattle.environment_sets.specs.Lists.{IsIn, IsRoster}
use Rattle.index_lists.specs.Lists.{Lists, list_at}
use Rattle.index_lists.specs.Chains.{Records, record_at, lane_at, keys_in}
use Rattle.index_lists.proofs.Links.{none_is_no_some}
use Rattle.justifications.specs.Chained.{said_by, AreAllChained, AreAlike, IsAdded, IsRemoved}
use Rattle.justifications.proofs.Rosters.{roster_of, roster_none, put_roster, cut_roster}

pub some_is : {T : Type 0} (o : Option T) → IsSome o → (x : T) × (o ≡ Some x)
some_is None s = absurd (true≢false (sym s))
some_is (Some x) s = (x, refl)

no_heads : (s : Lists) → length s.lists ≡ 0 → (head : ℕ) → list_at s head ≡ []
no_heads s none head = get_or_past s.lists head [] (omega arith)

module _ {T : Type 0} (heads : ℕ → T → Option ℕ) where
  abbrev says : Records T → ℕ → ℕ → Option ℕ
  says s lane key = said_by (heads lane) (record_at s key)

  said_of : (lane : ℕ) (o p : Option T) → o ≡ p → said_by (heads lane) o ≡ said_by (heads lane) p
  said_of lane o p e = ap (λ q. said_by (heads lane) q) e

  -- no record and no head
  pub nothing_chained : (s : Records T) → ((k : ℕ) → record_at s k ≡ None) → ((lane : ℕ) → length (lane_at s lane).lists ≡ 0) → AreAllChained heads s
  nothing_chained s none empty lane head = roster_none _ (keys_in s lane head) (no_heads (lane_at s lane) (empty lane) head) (λ k e. none_is_no_some head (sym (said_of lane (record_at s k) None (none k)) ∙ e))

  module _ (old new : Records T) (chained : AreAllChained heads old) where
    -- a key with no record stands in no list
    pub nowhere : (key : ℕ) → record_at old key ≡ None → (lane head : ℕ) → IsIn (keys_in old lane head) key → ⊥
    nowhere key none lane head i = none_is_no_some head (sym (said_of lane (record_at old key) None none) ∙ ((chained lane head).exact key).0 i)

    -- a key with a record stands where it says
    pub stands : (key : ℕ) (x : T) → record_at old key ≡ Some x → (lane head : ℕ) → heads lane x ≡ Some head → IsIn (keys_in old lane head) key
    stands key x at lane head e = ((chained lane head).exact key).1 (said_of lane (record_at old key) (Some x) at ∙ e)

    pub alike_chained : AreAlike old new → AreAllChained heads new
    alike_chained a lane head = subst (λ (l : List ℕ). IsRoster (λ k. says new lane k ≡ Some head) l) (sym (a.keys lane head)) (roster_of (keys_in old lane head) (chained lane head)
        (λ k e. said_of lane (record_at new k) (record_at old k) (a.records k) ∙ e) (λ k e. sym (said_of lane (record_at new k) (record_at old k) (a.records k)) ∙ e))

    pub added_chained : (key : ℕ) (x : T) → IsAdded heads old new key x → AreAllChained heads new
    added_chained key x a lane head =
        let here : says new lane key ≡ heads lane x = said_of lane (record_at new key) (Some x) a.there in
        subst (λ (l : List ℕ). IsRoster (λ k. says new lane k ≡ Some head) l) (sym (a.keys lane head))
        (put_roster (λ k. says old lane k ≡ Some head) (λ k. says new lane k ≡ Some head) key (keys_in old lane head) (chained lane head)
        (λ e. none_is_no_some head (sym (said_of lane (record_at old key) None a.free) ∙ e))
        (λ k ne e. said_of lane (record_at new k) (record_at old k) (a.others k ne) ∙ e)
        (λ k ne e. sym (said_of lane (record_at new k) (record_at old k) (a.others k ne)) ∙ e)
        (heads lane x) head (λ e. here ∙ e) (λ e. sym here ∙ e))

    pub removed_chained : (key : ℕ) → IsRemoved old new key → AreAllChained heads new
    removed_chained key a lane head =
        subst (λ (l : List ℕ). IsRoster (λ k. says new lane k ≡ Some head) l) (sym (a.keys lane head))
        (cut_roster (λ k. says old lane k ≡ Some head) (λ k. says new lane k ≡ Some head) key (keys_in old lane head) (chained lane head)
        (λ e. none_is_no_some head (sym (said_of lane (record_at new key) None a.gone) ∙ e))
        (λ k ne e. said_of lane (record_at new k) (record_at old k) (a.others k ne) ∙ e)
        (λ k ne e. sym (said_of lane (record_at new k) (record_at old k) (a.others k ne)) ∙ e))
