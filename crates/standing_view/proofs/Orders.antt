-- Sets of slots come in the order of their places.
use Rattle.std.proofs.Common.{◌≡◌, ℕ, ◌+◌, Bool, not, ◌&&◌, cond, if◌then◌else◌, List, [], ◌∷◌, map, nat_cmp, Ordering, Less, Greater, refl, sym, ap₂, ◌∙◌}
use Rattle.std.specs.List.{count_by}
use Rattle.std.proofs.lemmas.List.Sums.{sum_by-cons}
use Rattle.environment_sets.specs.Sets.{Set}
use Rattle.environment_sets.specs.Orders.{first_of_both, by_first, compare_in}
use Rattle.standing_view.specs.Standing.{order_of}
use Rattle.circuit_model.specs.Whole.{order_of_present}
use Rattle.standing_view.specs.View.{places}
use Rattle.standing_view.specs.Laws.{TheOrderIsThePresents}
use Rattle.standing_view.proofs.Named.{same_answers}

module _ {N M : Type 0} (E : Set N) (F : Set M) where
  same_count : (xs : List N) (ys : List M) → map E xs ≡ map F ys → count_by E xs ≡ count_by F ys
  same_count [] [] same = refl
  same_count [] (y ∷ ys) same = cc
  same_count (x ∷ xs) [] same = cc
  same_count (x ∷ xs) (y ∷ ys) same =
      let head : E x ≡ F y = cc in
      let tail : map E xs ≡ map F ys = cc in
      sum_by-cons (λ k. cond (E k) 1 0) x xs ∙ (ap₂ (λ (b : Bool) (n : ℕ). cond b 1 0 + n) head (same_count xs ys tail) ∙ sym (sum_by-cons (λ k. cond (F k) 1 0) y ys))

  module _ (G : Set N) (H : Set M) where
    -- by what the two sets have of the names alone
    same_first : (xs : List N) (ys : List M) → map E xs ≡ map F ys → map G xs ≡ map H ys → by_first xs E G ≡ by_first ys F H
    same_first [] [] same others = refl
    same_first [] (y ∷ ys) same others = cc
    same_first (x ∷ xs) [] same others = cc
    same_first (x ∷ xs) (y ∷ ys) same others =
        let head : E x ≡ F y = cc in
        let tail : map E xs ≡ map F ys = cc in
        let other : G x ≡ H y = cc in
        let rest : map G xs ≡ map H ys = cc in
        at_name head other (same_first xs ys tail rest)
      where
        at_name : {a b c d : Bool} {r s : Ordering} → a ≡ b → c ≡ d → r ≡ s → (if a && not c then Less else (if c && not a then Greater else r)) ≡ (if b && not d then Less else (if d && not b then Greater else s))
        at_name e f g = cc

module _ {N M : Type 0} (E G : Set N) (F H : Set M) where
  pub same_comparison : (xs : List N) (ys : List M) → map E xs ≡ map F ys → map G xs ≡ map H ys → compare_in xs E G ≡ compare_in ys F H
  same_comparison xs ys same others =
      let sizes : nat_cmp (count_by E xs) (count_by G xs) ≡ nat_cmp (count_by F ys) (count_by H ys) = ap₂ nat_cmp (same_count E F xs ys same) (same_count G H xs ys others) in
      ap₂ first_of_both sizes (same_first E F G H xs ys same others)

pub the_order_is_the_presents : TheOrderIsThePresents
the_order_is_the_presents S st P parked r E F =
    let same : compare_in (order_of st) E F ≡ compare_in (order_of_present P) (places st E) (places st F) =
    same_comparison E F (places st E) (places st F) (order_of st) (order_of_present P) (same_answers S st P parked r E) (same_answers S st P parked r F) in
    (λ (e : compare_in (order_of st) E F ≡ Less). sym same ∙ e, λ (e : compare_in (order_of_present P) (places st E) (places st F) ≡ Less). same ∙ e)
