-- Lists that grow.
use Rattle.std.proofs.Common.{◌≡◌, inl, inr, ℕ, ◌+◌, ◌<◌, ◌≤◌, List, [], ◌∷◌, ◌++◌, length, slice_index_or, sym, subst, below_more, arith}
use Rattle.environment_sets.specs.Lists.{IsIn}
use Rattle.environment_sets.proofs.Listings.{IsIn-push, IsIn-front}
use Rattle.environment_sets.proofs.Membership.{each_place}
use Rattle.inference_search.specs.declared.inferred.Inferred.{Inferred}
use Rattle.inference_search.specs.Choices.{Stays, Finds}

module _ (Q : Inferred → Type 0) where
  pub Finds-same : (Done : List Inferred → Type 0) (old : List Inferred) → Done old → Finds Q Done old old
  Finds-same Done old done = record { stays = λ i h. h; only = λ i h. inl h; done = done }

  pub Finds-push : (Done : List Inferred → Type 0) (old new : List Inferred) (i : Inferred) → new ≡ old ++ i ∷ [] → Q i → Done (old ++ i ∷ []) → Finds Q Done old new
  Finds-push Done old new i is q done =
      let P : List Inferred → Type 0 = λ new. Finds Q Done old new in
      let has : (j : Inferred) → i ≡ j → Q j = λ j e. subst Q e q in
      subst P (sym is) (record {
        stays = λ j h. IsIn-front old i j h;
        only = λ j h. elim (IsIn-push old i j h) [ inl h ↦ inl h | inr e ↦ inr (has j e) ];
        done = done;
      })

  -- one after another: what was done stays done
  pub Finds-next : (Done : ℕ → List Inferred → Type 0) → ((k : ℕ) (xs ys : List Inferred) → Stays xs ys → Done k xs → Done k ys)
      → (n : ℕ) (old mid new : List Inferred) → Finds Q (λ found. (k : ℕ) → k < n → Done k found) old mid → Finds Q (Done n) mid new
      → Finds Q (λ found. (k : ℕ) → k < n + 1 → Done k found) old new
  Finds-next Done keeps n old mid new before now = record {
    stays = λ i h. now.stays i (before.stays i h);
    only = λ i h. elim (now.only i h) [ inl h ↦ before.only i h | inr q ↦ inr q ];
    done = below_more (λ (k : ℕ). Done k new) n (λ k inside. keeps k mid new now.stays (before.done k inside)) now.done;
  }

  pub Finds-map : (R : Inferred → Type 0) (Done Is : List Inferred → Type 0) (old new : List Inferred) → ((i : Inferred) → Q i → R i) → (Done new → Is new) → Finds Q Done old new → Finds R Is old new
  Finds-map R Done Is old new to is found = record {
    stays = found.stays;
    only = λ i h. elim (found.only i h) [ inl h ↦ inl h | inr q ↦ inr (to i q) ];
    done = is found.done;
  }

  -- the same over a list
  module _ {X : Type 0} (Done : X → List Inferred → Type 0) (keeps : (x : X) (xs ys : List Inferred) → Stays xs ys → Done x xs → Done x ys) (all : List X) (d : X) where
    pub Finds-more : (n : ℕ) (old mid new : List Inferred) (read : List X) → read ≡ all → Finds Q (λ found. (k : ℕ) → k < n → Done (slice_index_or all k d) found) old mid → Finds Q (Done (slice_index_or read n d)) mid new
        → Finds Q (λ found. (k : ℕ) → k < n + 1 → Done (slice_index_or all k d) found) old new
    Finds-more n old mid new read is before now =
        let Step : List X → Type 0 = λ read. Finds Q (Done (slice_index_or read n d)) mid new in
        Finds-next (λ k. Done (slice_index_or all k d)) (λ k. keeps (slice_index_or all k d)) n old mid new before (subst Step is now)

    pub Finds-all : (n : ℕ) (old new : List Inferred) → length all ≤ n → Finds Q (λ found. (k : ℕ) → k < n → Done (slice_index_or all k d) found) old new
        → Finds Q (λ found. (x : X) → IsIn all x → Done x found) old new
    Finds-all n old new reached found = record {
      stays = found.stays;
      only = found.only;
      done = each_place (λ (x : X). Done x new) all d (λ k inside. found.done k (omega arith));
    }
