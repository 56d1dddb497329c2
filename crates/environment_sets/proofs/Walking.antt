-- A walk lists what it goes through.
use Rattle.std.proofs.Common.{◌⊎◌, inl, inr, Option, Some, None, List, [], ◌∷◌, ◌++◌, subst}
use Rattle.environment_sets.specs.Sets.{Set, ◌⊆◌}
use Rattle.environment_sets.specs.Lists.{IsIn, IsRising, IsListing}
use Rattle.environment_sets.specs.Orders.{ComesBefore}
use Rattle.environment_sets.specs.Walks.{ComesAfter, IsFurther, IsNext, GivesNext, IsWalk}
use Rattle.environment_sets.specs.Laws.{WalksListAll}
use Rattle.environment_sets.proofs.Listings.{IsIn-push, IsIn-front, IsIn-last, IsRising-push}
use Rattle.environment_sets.proofs.OrderLaws.{order_is_transitive}

module _ {N : Type 0} (order : List N) where
  ComesAfter-along : (last : Option (Set N)) (E F : Set N) → ComesAfter order last E → ComesBefore order E F → ComesAfter order last F
  ComesAfter-along None E F after before = tt
  ComesAfter-along (Some last) E F after before = order_is_transitive N order last E F after before

  module _ (Family : Set N → Type 0) (mask : Set N) where
    pub walk_lists : (last : Option (Set N)) (walk : List (Set N)) → IsWalk order Family mask last walk → IsListing (ComesBefore order) (IsFurther order Family mask last) walk
    walk_lists last [] none = record { rising = tt; exact = λ E. (λ h. absurd h, λ further. none E further) }
    walk_lists last (E ∷ rest) (next, later) =
        let listing : IsListing (ComesBefore order) (IsFurther order Family mask (Some E)) rest = walk_lists (Some E) rest later in
        record {
          rising = (λ F h. ((listing.exact F).0 h).after, listing.rising);
          exact = λ F. (
            λ h. elim h [
              | inl e ↦ subst (IsFurther order Family mask last) e next.further
              | inr h ↦
                  let further : IsFurther order Family mask (Some E) F = (listing.exact F).0 h in
                  record { member = further.member; inside = further.inside; after = ComesAfter-along last E F next.further.after further.after }
            ],
            λ further. elim (next.first F further) [
              | inl e ↦ inl e
              | inr before ↦ inr ((listing.exact F).1 (record { member = further.member; inside = further.inside; after = before }))
            ],
          );
        }

-- ---- a list that a walk goes on to fill

module _ {N : Type 0} (order : List N) (Family : Set N → Type 0) where
  -- the sets of the family are listed up to the last one: those that are not come after it
  pub record ListsTo (last : Option (Set N)) (sets : List (Set N)) : Type 0 where
    pub rising : IsRising (ComesBefore order) sets
    pub sound : (E : Set N) → IsIn sets E → Family E
    pub covered : (E : Set N) → Family E → IsIn sets E ⊎ ComesAfter order last E
    pub below : (E F : Set N) → IsIn sets E → ComesAfter order last F → ComesBefore order E F

  -- at the start
  pub ListsTo-none : ListsTo None []
  ListsTo-none = record { rising = tt; sound = λ E h. absurd h; covered = λ E h. inr tt; below = λ E F h after. absurd h }

  module _ (mask : Set N) (all : (E : Set N) → Family E → E ⊆ mask) (last : Option (Set N)) (sets : List (Set N)) (was : ListsTo last sets) where
    -- one step more
    pub ListsTo-more : (E : Set N) → IsNext order Family mask last E → ListsTo (Some E) (sets ++ E ∷ [])
    ListsTo-more E next = record {
      rising = IsRising-push (ComesBefore order) sets E was.rising (λ F h. was.below F E h next.further.after);
      sound = λ F h. elim (IsIn-push sets E F h) [ inl before ↦ was.sound F before | inr e ↦ subst Family e next.further.member ];
      covered = λ F member. elim (was.covered F member) [
        | inl before ↦ inl (IsIn-front sets E F before)
        | inr after ↦ elim (next.first F (record { member = member; inside = all F member; after = after })) [
          | inl e ↦ inl (IsIn-last sets E F e)
          | inr later ↦ inr later
        ]
      ];
      below = λ F G h after. elim (IsIn-push sets E F h) [
        | inl before ↦ order_is_transitive N order F E G (was.below F E before next.further.after) after
        | inr e ↦ let P : Set N → Type 0 = λ x. ComesBefore order x G in subst P e after
      ];
    }

    -- at the end, where there is no next one, it is the listing
    pub ListsTo-all : GivesNext order Family mask last None → IsListing (ComesBefore order) Family sets
    ListsTo-all none = record {
      rising = was.rising;
      exact = λ E. (was.sound E, λ member. elim (was.covered E member) [ inl h ↦ h | inr after ↦ absurd (none E (record { member = member; inside = all E member; after = after })) ]);
    }

pub walks_list_all : (N : Type 0) → WalksListAll N
walks_list_all N order Es mask walk is =
    let listing : IsListing (ComesBefore order) (IsFurther order (IsIn Es) mask None) walk = walk_lists order (IsIn Es) mask None walk is in
    record {
      rising = listing.rising;
      exact = λ E. (
        λ h. (((listing.exact E).0 h).member, ((listing.exact E).0 h).inside),
        λ (member, inside). (listing.exact E).1 (record { member = member; inside = inside; after = tt }),
      );
    }
