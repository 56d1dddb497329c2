-- What records and lanes keep.
use Rattle.std.proofs.Common.{◌≡◌, ◌≢◌, ℕ, ◌+◌, ◌<◌, ◌≤◌, inl, inr, refl, sym, ap, subst, ◌∙◌, List, length, get_or, set, Option, Some, None, IsSome, arith, get_or-set_same, get_or-set_other}
use Rattle.std.proofs.lemmas.Bool.{cases_eq}
use Rattle.environment_sets.specs.Lists.{IsIn}
use Rattle.index_lists.specs.Lists.{Lists, list_at, AreSame, Changes}
use Rattle.index_lists.specs.Chains.{no_lists}
use Rattle.index_lists.specs.Kept.{lane_of, IsWider, AreKept}
use Rattle.environment_sets.proofs.Listings.{none_is_not}

module _ {T : Type 0} (records : List (Option T)) (lanes lanes' : List Lists) (lane : ℕ) (kept : AreKept records lanes) (long : length lanes' ≡ length lanes) (others : (l : ℕ) → l ≢ lane → lane_of lanes' l ≡ lane_of lanes l) where
  -- what one lane is changed to
  pub kept_with : (lane_of lanes' lane).room ≡ (lane_of lanes lane).room → ((h k : ℕ) → IsIn (list_at (lane_of lanes' lane) h) k → IsSome (get_or records k None)) → AreKept records lanes'
  kept_with room has = record {
    four = long ∙ kept.four;
    room = λ l k low some. elim (cases_eq l lane) [
      | inl e ↦
          let was : k < (lane_of lanes l).room = kept.room l k low some in
          let P : ℕ → Type 0 = λ j. k < (lane_of lanes j).room → k < (lane_of lanes' j).room in
          subst P (sym e) (λ h. omega (arith, room)) was
      | inr ne ↦ let P : Lists → Type 0 = λ s. k < s.room in subst P (sym (others l ne)) (kept.room l k low some)
    ];
    there = λ l h k i. elim (cases_eq l lane) [
      | inl e ↦ has h k (let P : ℕ → Type 0 = λ j. IsIn (list_at (lane_of lanes' j) h) k in subst P e i)
      | inr ne ↦ kept.there l h k (let P : Lists → Type 0 = λ s. IsIn (list_at s h) k in subst P (others l ne) i)
    ];
  }

  pub kept_changed : (head : ℕ) (keys : List ℕ) → Changes (lane_of lanes lane) (lane_of lanes' lane) head keys → ((k : ℕ) → IsIn keys k → IsSome (get_or records k None)) → AreKept records lanes'
  kept_changed head keys c has = kept_with c.room (λ h k i. elim (cases_eq h head) [
    | inl e ↦ has k (let P : List ℕ → Type 0 = λ l. IsIn l k in subst P c.here (let Q : ℕ → Type 0 = λ j. IsIn (list_at (lane_of lanes' lane) j) k in subst Q e i))
    | inr ne ↦ kept.there lane h k (let P : List ℕ → Type 0 = λ l. IsIn l k in subst P (c.others h ne) i)
  ])

  pub kept_same : (lane_of lanes' lane).room ≡ (lane_of lanes lane).room → AreSame (lane_of lanes lane) (lane_of lanes' lane) → AreKept records lanes'
  kept_same room same = kept_with room (λ h k i. kept.there lane h k (let P : List ℕ → Type 0 = λ l. IsIn l k in subst P (same.keys h) i))

-- lanes that are no less wide
pub kept_wider : {T : Type 0} (records : List (Option T)) (lanes lanes' : List Lists) → AreKept records lanes → length lanes' ≡ length lanes → ((l : ℕ) → IsWider (lane_of lanes l) (lane_of lanes' l)) → AreKept records lanes'
kept_wider records lanes lanes' kept long wider = record {
  four = long ∙ kept.four;
  room = λ l k low some. let was : k < (lane_of lanes l).room = kept.room l k low some in omega (arith, (wider l).grows);
  there = λ l h k i. kept.there l h k (let P : List ℕ → Type 0 = λ s. IsIn s k in subst P ((wider l).keys h) i);
}

-- one record less, of a key in no list
pub kept_taken :
    {T : Type 0} (records records' : List (Option T)) (lanes : List Lists) (key : ℕ) → AreKept records lanes → get_or records' key None ≡ None → ((k : ℕ) → k ≢ key → get_or records' k None ≡ get_or records k None)
    → ((l h : ℕ) → IsIn (list_at (lane_of lanes l) h) key → ⊥) → AreKept records' lanes
kept_taken {T} records records' lanes key kept gone others free = record {
  four = kept.four;
  room = λ l k low some.
      let ne : k ≢ key = λ e. none_is_not (get_or records' k None) (ap (λ (j : ℕ). get_or records' j None) e ∙ gone) some in
      kept.room l k low (let P : Option T → Type 0 = λ o. IsSome o in subst P (others k ne) some);
  there = λ l h k i.
      let ne : k ≢ key = λ e. free l h (let P : ℕ → Type 0 = λ j. IsIn (list_at (lane_of lanes l) h) j in subst P e i) in
      let P : Option T → Type 0 = λ o. IsSome o in subst P (sym (others k ne)) (kept.there l h k i);
}

-- one record more, of a key that has room
pub kept_put :
    {T : Type 0} (records records' : List (Option T)) (lanes : List Lists) (key : ℕ) (x : T) → AreKept records lanes → get_or records' key None ≡ Some x → ((k : ℕ) → k ≢ key → get_or records' k None ≡ get_or records k None)
    → ((l : ℕ) → l < 4 → key < (lane_of lanes l).room) → AreKept records' lanes
kept_put {T} records records' lanes key x kept there others low = record {
  four = kept.four;
  room = λ l k below some. elim (cases_eq k key) [
    | inl e ↦ let P : ℕ → Type 0 = λ j. j < (lane_of lanes l).room in subst P (sym e) (low l below)
    | inr ne ↦ kept.room l k below (let P : Option T → Type 0 = λ o. IsSome o in subst P (others k ne) some)
  ];
  there = λ l h k i. elim (cases_eq k key) [
    | inl e ↦ let P : Option T → Type 0 = λ o. IsSome o in subst P (sym (ap (λ (j : ℕ). get_or records' j None) e ∙ there)) refl
    | inr ne ↦ let P : Option T → Type 0 = λ o. IsSome o in subst P (sym (others k ne)) (kept.there l h k i)
  ];
}

-- a key with no record stands in no list
pub stands_nowhere : {T : Type 0} (records : List (Option T)) (lanes : List Lists) → AreKept records lanes → (key : ℕ) → get_or records key None ≡ None → (l h : ℕ) → IsIn (list_at (lane_of lanes l) h) key → ⊥
stands_nowhere records lanes kept key none l h i = none_is_not (get_or records key None) none (kept.there l h key i)

-- one lane after another is made wider
pub record AreWider (old now : List Lists) (count place : ℕ) : Type 0 where
  pub wider : (l : ℕ) → IsWider (lane_of old l) (lane_of now l)
  pub made : (l : ℕ) → l < place → count ≤ (lane_of now l).room

pub same_width : (s : Lists) → IsWider s s
same_width s = record { keys = λ h. refl; heads = refl; grows = omega arith }

pub one_wider : (old now : List Lists) (count place : ℕ) (new : Lists) → place < length now → ((l : ℕ) → IsWider (lane_of old l) (lane_of now l)) → IsWider (lane_of now place) new → (l : ℕ) → IsWider (lane_of old l) (lane_of (set now place new) l)
one_wider old now count place new low was wider l = elim (cases_eq l place) [
  | inl e ↦
      let P : Lists → Type 0 = λ s. IsWider (lane_of old place) s in
      let Q : ℕ → Type 0 = λ j. IsWider (lane_of old j) (lane_of (set now place new) j) in
      let w = was place in
      subst Q (sym e) (subst P (sym (get_or-set_same now place new no_lists low)) (record { keys = λ h. wider.keys h ∙ w.keys h; heads = wider.heads ∙ w.heads; grows = omega (arith, wider.grows, w.grows) }))
  | inr ne ↦ let P : Lists → Type 0 = λ s. IsWider (lane_of old l) s in subst P (sym (get_or-set_other now place l new no_lists ne)) (was l)
]

pub one_made : (now : List Lists) (count place : ℕ) (new : Lists) → place < length now → ((l : ℕ) → l < place → count ≤ (lane_of now l).room) → count ≤ new.room → (l : ℕ) → l < place + 1 → count ≤ (lane_of (set now place new) l).room
one_made now count place new low was made l below = elim (cases_eq l place) [
  | inl e ↦
      let P : Lists → Type 0 = λ s. count ≤ s.room in
      let Q : ℕ → Type 0 = λ j. count ≤ (lane_of (set now place new) j).room in
      subst Q (sym e) (subst P (sym (get_or-set_same now place new no_lists low)) made)
  | inr ne ↦ let P : Lists → Type 0 = λ s. count ≤ s.room in subst P (sym (get_or-set_other now place l new no_lists ne)) (was l (omega arith))
]
