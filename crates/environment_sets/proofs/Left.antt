-- Fewer are left after each step of a walk.
use Rattle.std.proofs.Common.{◌≡◌, ℕ, ◌<◌, Bool, ◌&&◌, IsTrue, Option, Some, None, Ordering, Less, Equal, Greater, List, refl, ap}
use Rattle.std.specs.Ordering.{is_lt}
use Rattle.std.proofs.lemmas.Bool.{false≢true, and_from, and_parts}
use Rattle.environment_sets.specs.Sets.{Set, is_within}
use Rattle.environment_sets.specs.Lists.{IsIn}
use Rattle.environment_sets.specs.Orders.{compare_in, ComesBefore}
use Rattle.environment_sets.specs.Walks.{ComesAfter, IsFurther, is_after, count_left}
use Rattle.environment_sets.proofs.Counting.{count_by-lt}
use Rattle.environment_sets.proofs.OrderLaws.{order_is_strict, order_is_transitive}
use Rattle.environment_sets.proofs.Within.{holds_within}

less : (o : Ordering) → IsTrue (is_lt o) → o ≡ Less
less Less h = refl
less Equal h = absurd (false≢true h)
less Greater h = absurd (false≢true h)

module _ {N : Type 0} (order : List N) where
  pub is_after_of : (last : Option (Set N)) (E : Set N) → ComesAfter order last E → IsTrue (is_after order last E)
  is_after_of None E h = refl
  is_after_of (Some last) E h = ap is_lt h

  pub after_holds : (last : Option (Set N)) (E : Set N) → IsTrue (is_after order last E) → ComesAfter order last E
  after_holds None E h = tt
  after_holds (Some last) E h = less (compare_in order last E) h

  not_after_itself : (E : Set N) → IsTrue (is_after order (Some E) E) → ⊥
  not_after_itself E h = let before : ComesBefore order E E = after_holds (Some E) E h in order_is_strict N order E E before before

  later : (last : Option (Set N)) (E F : Set N) → ComesAfter order last E → IsTrue (is_after order (Some E) F) → IsTrue (is_after order last F)
  later None E F after h = refl
  later (Some last) E F after h = ap is_lt (order_is_transitive N order last E F after (after_holds (Some E) F h))

-- fewer come after a further set than after the last one
pub count_left-falls : (n : ℕ) (order : List ℕ) (Es : List (Set ℕ)) (mask : Set ℕ) (last : Option (Set ℕ)) (E : Set ℕ) → IsFurther order (IsIn Es) mask last E → count_left n order mask (Some E) Es < count_left n order mask last Es
count_left-falls n order Es mask last E further =
    let inside : Set ℕ → Bool = λ F. is_within n F mask in
    count_by-lt
    (λ F. inside F && is_after order (Some E) F)
    (λ F. inside F && is_after order last F)
    (λ F h. let both = and_parts (inside F) (is_after order (Some E) F) h in and_from (inside F) (is_after order last F) both.0 (later order last E F further.after both.1))
    Es
    E
    further.member
    (λ h. not_after_itself order E (and_parts (inside E) (is_after order (Some E) E) h).1)
    (and_from (inside E) (is_after order last E) (holds_within n E mask further.inside) (is_after_of order last E further.after))
