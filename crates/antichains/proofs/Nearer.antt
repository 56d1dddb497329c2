-- The next set of a walk, from one set more.
use Rattle.std.proofs.Common.{◌≡◌, ◌⊎◌, inl, inr, ℕ, ◌+◌, ◌<◌, Option, Some, None, refl, sym, ap, subst, ◌∙◌, List, [], ◌∷◌, ◌++◌, length, take, get_or}
use Rattle.std.specs.Option.{option_map, IfSome}
use Rattle.std.proofs.lemmas.List.{map-append, take_more}
use Rattle.environment_sets.specs.declared.environment.Env.{Env}
use Rattle.environment_sets.specs.Members.{members, sets, HasMember}
use Rattle.environment_sets.specs.Sets.{Set, ◌⊆◌}
use Rattle.environment_sets.specs.Lists.{IsIn}
use Rattle.environment_sets.specs.Orders.{ComesBefore, ListsAll}
use Rattle.environment_sets.specs.Walks.{ComesAfter, IsFurther, IsNext, GivesNext, count_left}
use Rattle.environment_sets.proofs.Listings.{IsIn-push, IsIn-front, IsIn-last}
use Rattle.environment_sets.proofs.OrderLaws.{order_is_transitive, order_is_total}
use Rattle.environment_sets.proofs.Left.{count_left-falls}
use Rattle.antichains.specs.Nearest.{IsBehind, IsNearer, IsPassed}

module _ {N : Type 0} (order : List N) (mask : Set N) (last : Option (Set N)) where
  abbrev Further : List (Set N) → Set N → Type 0
  Further Es = IsFurther order (IsIn Es) mask last

  pub none_found : GivesNext order (IsIn []) mask last None
  none_found E further = absurd further.member

  front : (Es : List (Set N)) (M E : Set N) → Further Es E → Further (Es ++ M ∷ []) E
  front Es M E further = record { member = IsIn-front Es M E further.member; inside = further.inside; after = further.after }

  split : (Es : List (Set N)) (M E : Set N) → Further (Es ++ M ∷ []) E → Further Es E ⊎ (M ≡ E)
  split Es M E further = elim (IsIn-push Es M E further.member) [ inl h ↦ inl (record { member = h; inside = further.inside; after = further.after }) | inr e ↦ inr e ]

  -- a set that is no further one changes nothing
  pub GivesNext-stays : (Es : List (Set N)) (M : Set N) (next : Option (Set N)) → ((M ⊆ mask) × ComesAfter order last M → ⊥) → GivesNext order (IsIn Es) mask last next → GivesNext order (IsIn (Es ++ M ∷ [])) mask last next
  GivesNext-stays Es M None out none = λ E further. elim (split Es M E further) [
    | inl before ↦ none E before
    | inr e ↦ let P : Set N → Type 0 = λ F. (F ⊆ mask) × ComesAfter order last F in out (subst P (sym e) (further.inside, further.after))
  ]
  GivesNext-stays Es M (Some F) out next =
      record {
        further = front Es M F next.further;
        first = λ E further. elim (split Es M E further) [
          | inl before ↦ next.first E before
          | inr e ↦ let P : Set N → Type 0 = λ G. (G ⊆ mask) × ComesAfter order last G in absurd (out (subst P (sym e) (further.inside, further.after)))
        ];
      }

  -- a set that is behind what was found changes nothing
  pub GivesNext-behind : (Es : List (Set N)) (M : Set N) (next : Option (Set N)) → IsBehind order next M → GivesNext order (IsIn Es) mask last next → GivesNext order (IsIn (Es ++ M ∷ [])) mask last next
  GivesNext-behind Es M None behind none = absurd behind
  GivesNext-behind Es M (Some F) behind next = record {
    further = front Es M F next.further;
    first = λ E further. elim (split Es M E further) [ inl before ↦ next.first E before | inr e ↦ inr (subst (ComesBefore order F) e behind) ];
  }

  -- a further set that is not behind what was found is the next one
  pub GivesNext-nearer : (Es : List (Set N)) (M : Set N) (next : Option (Set N)) → ListsAll order mask → IsNearer order mask last next M → GivesNext order (IsIn Es) mask last next → GivesNext order (IsIn (Es ++ M ∷ [])) mask last (Some M)
  GivesNext-nearer Es M None listed nearer none = record {
    further = record { member = IsIn-last Es M M refl; inside = nearer.inside; after = nearer.after };
    first = λ E further. elim (split Es M E further) [ inl before ↦ absurd (none E before) | inr e ↦ inl e ];
  }
  GivesNext-nearer Es M (Some F) listed nearer next = record {
    further = record { member = IsIn-last Es M M refl; inside = nearer.inside; after = nearer.after };
    first = λ E further. elim (split Es M E further) [
      | inr e ↦ inl e
      | inl before ↦ elim (order_is_total N order F M (λ k h. listed k (next.further.inside k h)) (λ k h. listed k (nearer.inside k h))) [
        | inl wrong ↦ absurd (nearer.ahead wrong)
        | inr (inl same) ↦ subst (λ (G : Set N). (G ≡ E) ⊎ ComesBefore order G E) same (next.first E before)
        | inr (inr earlier) ↦ elim (next.first E before) [
          | inl e ↦ inr (subst (ComesBefore order M) e earlier)
          | inr later ↦ inr (order_is_transitive N order M F E earlier later)
        ]
      ]
    ];
  }

sets_take : (es : List Env) (i : ℕ) (e : Env) → i < length es → e ≡ get_or es i e → sets (take (i + 1) es) ≡ sets (take i es) ++ members e ∷ []
sets_take es i e low is = ap sets (take_more es i e low ∙ ap (λ x. take i es ++ x ∷ []) (sym is)) ∙ map-append members (take i es) (e ∷ [])

module _ (order : List ℕ) (mask : Set ℕ) (last : Option (Set ℕ)) (es : List Env) (i : ℕ) (e : Env) (low : i < length es) (is : e ≡ get_or es i e) where
  abbrev Gives : ℕ → Option (Set ℕ) → Type 0
  Gives n next = GivesNext order (HasMember (take n es)) mask last next

  pub next_passed : (next : Option (Set ℕ)) → IsPassed order mask last next (members e) → Gives i next → Gives (i + 1) next
  next_passed next passed gives =
      let P : List (Set ℕ) → Type 0 = λ Es. GivesNext order (IsIn Es) mask last next in
      subst P (sym (sets_take es i e low is)) (elim passed [
        | inl out ↦ GivesNext-stays order mask last (sets (take i es)) (members e) next out gives
        | inr behind ↦ GivesNext-behind order mask last (sets (take i es)) (members e) next behind gives
      ])

  pub next_nearer : (next : Option (Set ℕ)) → ListsAll order mask → IsNearer order mask last next (members e) → Gives i next → Gives (i + 1) (Some (members e))
  next_nearer next listed nearer gives =
      let P : List (Set ℕ) → Type 0 = λ Es. GivesNext order (IsIn Es) mask last (Some (members e)) in
      subst P (sym (sets_take es i e low is)) (GivesNext-nearer order mask last (sets (take i es)) (members e) next listed nearer gives)

-- what was found is inside the mask
pub found_listed : (order : List ℕ) (Family : Set ℕ → Type 0) (mask : Set ℕ) (last : Option (Set ℕ)) (next : Option Env) → ListsAll order mask → GivesNext order Family mask last (option_map members next) → (x : Env) → next ≡ Some x → ListsAll order (members x)
found_listed order Family mask last next listed gives x e =
    let P : Option Env → Type 0 = λ n. GivesNext order Family mask last (option_map members n) in
    let found : IsNext order Family mask last (members x) = subst P e gives in
    λ k h. listed k (found.further.inside k h)

-- fewer are left after what was found
pub falls : (n : ℕ) (order : List ℕ) (es : List Env) (mask : Set ℕ) (last : Option (Set ℕ)) (next : Option Env) → GivesNext order (HasMember es) mask last (option_map members next) → IfSome next (λ e. count_left n order mask (Some (members e)) (sets es) < count_left n order mask last (sets es))
falls n order es mask last None gives = tt
falls n order es mask last (Some e) gives = count_left-falls n order (sets es) mask last (members e) gives.further
