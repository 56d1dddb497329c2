-- What the edits of a lane change.
use Rattle.std.proofs.Common.{◌≡◌, ◌≢◌, ℕ, zero, suc, ◌-◌, ◌<◌, ◌≤◌, Bool, true, false, cond, ◌++◌, take, replicate, inl, inr, refl, sym, ap, subst, ◌∙◌, List, [], ◌∷◌, length, set, get_or, Option, Some, None, IsSome, IfSome, arith, length-set, get_or-set_same, get_or-set_other}
use Rattle.std.proofs.lemmas.Bool.{cases_lt}
use Rattle.std.proofs.lemmas.List.{get_or_past, length-map, take_all}
use Rattle.environment_sets.specs.Lists.{IsIn}
use Rattle.index_lists.specs.declared.lane.Place.{Place}
use Rattle.index_lists.specs.Lists.{Lists, first_of, next_in, without, list_at, IsInNone, IsInSome, Changes}
use Rattle.index_lists.specs.Links.{place_at, first_at, keys_at, lists_of, between, AreLinked, IsPutInFront, IsCutOut, with_after, with_before, changed_at, first_past}
use Rattle.index_lists.proofs.Links.{none_is_no_some, same_some, first_in_it, place_within, stands_in, distinct, list_at-lists_of, put_in_front, now_here, now_other, before_has_it, after_has_it, cut_out, left_other, next_is, not_beside_itself, IsApart}

abbrev pub nothing : (X : Type 0) → Option X
nothing X = None

-- one place changed
changed_here : (change : Option Place → Option Place) (places : List (Option Place)) (k : ℕ) → k < length places → place_at (changed_at change (Some k) places) k ≡ change (place_at places k)
changed_here change places k low = get_or-set_same places k (change (place_at places k)) None low

changed_other : (change : Option Place → Option Place) (o : Option ℕ) (places : List (Option Place)) (k : ℕ) → (o ≡ Some k → ⊥) → place_at (changed_at change o places) k ≡ place_at places k
changed_other change None places k out = refl
changed_other change (Some j) places k out = get_or-set_other places j k (change (place_at places j)) None (λ e. out (ap (λ (n : ℕ). Some n) (sym e)))

length-changed : (change : Option Place → Option Place) (o : Option ℕ) (places : List (Option Place)) → length (changed_at change o places) ≡ length places
length-changed change None places = refl
length-changed change (Some j) places = length-set places j (change (place_at places j))

first_low : (firsts : List (Option ℕ)) (h k : ℕ) → first_at firsts h ≡ Some k → h < length firsts
first_low firsts h k at =
    elim (cases_lt h (length firsts)) [
      | inl low ↦ low
      | inr past ↦ absurd (none_is_no_some k (sym (get_or_past firsts h None past) ∙ at))
    ]

module _ (firsts : List (Option ℕ)) (places : List (Option Place)) (linked : AreLinked firsts places) where
  abbrev Seen : Lists
  Seen = lists_of firsts places

  seen_in : (h k : ℕ) → IsIn (list_at Seen h) k → IsIn (keys_at firsts places h) k
  seen_in h k i = subst (λ (l : List ℕ). IsIn l k) (list_at-lists_of firsts places h) i

  in_seen : (h k : ℕ) → IsIn (keys_at firsts places h) k → IsIn (list_at Seen h) k
  in_seen h k i = subst (λ (l : List ℕ). IsIn l k) (sym (list_at-lists_of firsts places h)) i

  -- a key in no list has no place
  pub free_place : (key : ℕ) → IsInNone Seen key → place_at places key ≡ None
  free_place key free =
      elim (place_at places key) as (λ o. place_at places key ≡ o → o ≡ None) [
        | None ↦ λ _. refl
        | Some p ↦ λ at. absurd (free p.head (in_seen p.head key (linked.stands key p at)))
      ] refl

  pub first_within : (h : ℕ) → IfSome (first_at firsts h) (λ k. k < length places)
  first_within h =
      elim (first_at firsts h) as (λ o. first_at firsts h ≡ o → IfSome o (λ k. k < length places)) [
        | None ↦ λ _. tt
        | Some k ↦ λ at.
            let i : IsIn (keys_at firsts places h) k = first_in_it (keys_at firsts places h) k (sym (linked.begins h) ∙ at) in
            let r = stands_in places h None (keys_at firsts places h) (linked.chains h) k i in
            place_within places k (between h r.0 r.1) r.2
      ] refl

  -- a key is put in front
  module _ (key head : ℕ) (low : key < length places) (made : head < length firsts) (free : place_at places key ≡ None) where
    abbrev First : Option ℕ
    First = first_at firsts head

    abbrev Firsts : List (Option ℕ)
    Firsts = set firsts head (Some key)

    abbrev Places : List (Option Place)
    Places = set (changed_at (with_before (Some key)) First places) key (Some (between head None First))

    long : length (changed_at (with_before (Some key)) First places) ≡ length places
    long = length-changed (with_before (Some key)) First places

    is_put : IsPutInFront places Places key head First
    is_put = record {
      here = get_or-set_same (changed_at (with_before (Some key)) First places) key (Some (between head None First)) None (omega (arith, long, low));
      next = λ k p e at.
          let ne : k ≢ key = λ s. none_is_no_some p (sym free ∙ (ap (λ (j : ℕ). place_at places j) (sym s) ∙ at)) in
          get_or-set_other (changed_at (with_before (Some key)) First places) key k (Some (between head None First)) None ne
          ∙ (ap (λ (o : Option ℕ). place_at (changed_at (with_before (Some key)) o places) k) e ∙ (changed_here (with_before (Some key)) places k (place_within places k p at) ∙ ap (with_before (Some key)) at));
      others = λ k ne out. get_or-set_other (changed_at (with_before (Some key)) First places) key k (Some (between head None First)) None ne ∙ changed_other (with_before (Some key)) First places k out;
      long = length-set (changed_at (with_before (Some key)) First places) key (Some (between head None First)) ∙ long;
    }

    here : first_at Firsts head ≡ Some key
    here = get_or-set_same firsts head (Some key) None made

    others : (h : ℕ) → h ≢ head → first_at Firsts h ≡ first_at firsts h
    others h ne = get_or-set_other firsts head h (Some key) None ne

    pub front_linked : AreLinked Firsts Places
    front_linked = (put_in_front firsts Firsts places Places key head linked free is_put here others).linked

    pub front_changes : Changes Seen (lists_of Firsts Places) head (key ∷ list_at Seen head)
    front_changes = record {
      here = (put_in_front firsts Firsts places Places key head linked free is_put here others).keys head ∙ (now_here firsts Firsts places Places key head linked free is_put here others ∙ ap (λ (l : List ℕ). key ∷ l) (sym (list_at-lists_of firsts places head)));
      others = λ h ne. (put_in_front firsts Firsts places Places key head linked free is_put here others).keys h ∙ (now_other firsts Firsts places Places key head linked free is_put here others h ne ∙ sym (list_at-lists_of firsts places h));
      heads = length-map Firsts _ ∙ (length-set firsts head (Some key) ∙ sym (length-map firsts _));
      room = is_put.long;
    }

  -- a key is cut out
  module _ (key head : ℕ) (before after : Option ℕ) (stood : place_at places key ≡ Some (between head before after)) where
    abbrev Keys : List ℕ
    Keys = keys_at firsts places head

    inside : IsIn Keys key
    inside = linked.stands key (between head before after) stood

    pub key_low : key < length places
    key_low = place_within places key (between head before after) stood

    low_of : (w : ℕ) → IsIn Keys w → w < length places
    low_of w i = let r = stands_in places head None Keys (linked.chains head) w i in place_within places w (between head r.0 r.1) r.2

    back_low : (w : ℕ) → before ≡ Some w → w < length places
    back_low w e =
        let at : place_at places key ≡ Some (between head (Some w) after) = stood ∙ ap (λ (o : Option ℕ). Some (between head o after)) e in
        elim (before_has_it places head key w None Keys (linked.chains head) inside after at) [ inl bad ↦ absurd (none_is_no_some w bad.0) | inr r ↦ low_of w r.0 ]

    front_low : (w : ℕ) → after ≡ Some w → w < length places
    front_low w e = low_of w (after_has_it places head key w None Keys (linked.chains head) inside before (stood ∙ ap (λ (o : Option ℕ). Some (between head before o)) e)).0

    some_low : (o : Option ℕ) → ((w : ℕ) → o ≡ Some w → w < length places) → IfSome o (λ k. k < length places)
    some_low None h = tt
    some_low (Some w) h = h w refl

    pub before_low : IfSome before (λ k. k < length places)
    before_low = some_low before back_low

    pub after_low : IfSome after (λ k. k < length places)
    after_low = some_low after front_low

    pub head_low : head < length firsts
    head_low = let f = first_there Keys inside in first_low firsts head f.0 (linked.begins head ∙ f.1)
      where
        first_there : (keys : List ℕ) → IsIn keys key → (x : ℕ) × (first_of keys ≡ Some x)
        first_there [] i = absurd i
        first_there (x ∷ keys) i = (x, refl)

    apart : IsApart key before after
    apart = not_beside_itself places head key before after None Keys (linked.chains head) (distinct places head Keys (linked.chains head)) inside (λ z e i. none_is_no_some z e) stood

    abbrev Once : List (Option Place)
    Once = changed_at (with_after after) before places

    abbrev Both : List (Option Place)
    Both = changed_at (with_before before) after Once

    abbrev Uncut : List (Option Place)
    Uncut = set Both key None

    abbrev Later : List (Option ℕ)
    Later = first_past before head after firsts

    long_once : length Once ≡ length places
    long_once = length-changed (with_after after) before places

    long_both : length Both ≡ length places
    long_both = length-changed (with_before before) after Once ∙ long_once

    is_cut : IsCutOut places Uncut key before after
    is_cut = record {
      gone = get_or-set_same Both key None None (omega (arith, long_both, key_low));
      front = λ k p f ng at.
          get_or-set_other Both key k None None (λ e. apart.not_before (f ∙ ap (λ (n : ℕ). Some n) e))
          ∙ (changed_other (with_before before) after Once k ng ∙ (ap (λ (o : Option ℕ). place_at (changed_at (with_after after) o places) k) f ∙ (changed_here (with_after after) places k (place_within places k p at) ∙ ap (with_after after) at)));
      back = λ k p g nf at.
          get_or-set_other Both key k None None (λ e. apart.not_after (g ∙ ap (λ (n : ℕ). Some n) e))
          ∙ (ap (λ (o : Option ℕ). place_at (changed_at (with_before before) o Once) k) g
          ∙ (changed_here (with_before before) Once k (let low : k < length places = place_within places k p at in omega (arith, long_once)) ∙ ap (with_before before) (changed_other (with_after after) before places k nf ∙ at)));
      others = λ k ne nf ng. get_or-set_other Both key k None None ne ∙ (changed_other (with_before before) after Once k ng ∙ changed_other (with_after after) before places k nf);
      long = length-set Both key None ∙ long_both;
    }

    top : before ≡ None → first_at Later head ≡ after
    top e = ap (λ (o : Option ℕ). first_at (first_past o head after firsts) head) e ∙ get_or-set_same firsts head after None head_low

    kept : (z : ℕ) → before ≡ Some z → first_at Later head ≡ first_at firsts head
    kept z e = ap (λ (o : Option ℕ). first_at (first_past o head after firsts) head) e

    rest : (h : ℕ) → h ≢ head → first_at Later h ≡ first_at firsts h
    rest h ne = elim before as (λ o. first_at (first_past o head after firsts) h ≡ first_at firsts h) [ None ↦ get_or-set_other firsts head h after None ne | Some k ↦ refl ]

    length-later : length Later ≡ length firsts
    length-later = elim before as (λ o. length (first_past o head after firsts) ≡ length firsts) [ None ↦ length-set firsts head after | Some k ↦ refl ]

    pub cut_linked : AreLinked Later Uncut
    cut_linked = (cut_out firsts Later places Uncut key head before after linked stood is_cut top kept rest).linked

    changes : Changes Seen (lists_of Later Uncut) head (without key (list_at Seen head))
    changes = record {
      here = (cut_out firsts Later places Uncut key head before after linked stood is_cut top kept rest).keys head ∙ ap (without key) (sym (list_at-lists_of firsts places head));
      others = λ h ne. (cut_out firsts Later places Uncut key head before after linked stood is_cut top kept rest).keys h ∙ (left_other firsts Later places Uncut key head before after linked stood is_cut top kept rest h ne ∙ sym (list_at-lists_of firsts places h));
      heads = length-map Later _ ∙ (length-later ∙ sym (length-map firsts _));
      room = is_cut.long;
    }

    same_head : (h : ℕ) → IsIn (list_at Seen h) key → head ≡ h
    same_head h i =
        let r = stands_in places h None (keys_at firsts places h) (linked.chains h) key (seen_in h key i) in
        ap (λ (p : Place). p.head) (same_some (between head before after) (between h r.0 r.1) (sym stood ∙ r.2))

    pub cut_changes : (h : ℕ) → IsIn (list_at Seen h) key → Changes Seen (lists_of Later Uncut) h (without key (list_at Seen h))
    cut_changes h i = let P : ℕ → Type 0 = λ j. Changes Seen (lists_of Later Uncut) j (without key (list_at Seen j)) in subst P (same_head h i) changes

    pub next_after : (h : ℕ) → IsIn (list_at Seen h) key → after ≡ next_in (list_at Seen h) key
    next_after h i =
        let j = seen_in h key i in
        let at : place_at places key ≡ Some (between h before after) = stood ∙ ap (λ (n : ℕ). Some (between n before after)) (same_head h i) in
        sym (next_is places h key before after None (keys_at firsts places h) (linked.chains h) j at) ∙ ap (λ (l : List ℕ). next_in l key) (sym (list_at-lists_of firsts places h))

  pub some_place : (key : ℕ) → IsInSome Seen key → IsSome (place_at places key)
  some_place key s =
      let r = stands_in places s.0 None (keys_at firsts places s.0) (linked.chains s.0) key (seen_in s.0 key s.1) in
      let P : Option Place → Type 0 = λ o. IsSome o in
      subst P (sym r.2) refl

-- more places with nothing
module _ {X : Type 0} where
  nothing_more : (more k : ℕ) → get_or (replicate more (nothing X)) k None ≡ None
  nothing_more zero k = refl
  nothing_more (suc more) zero = refl
  nothing_more (suc more) (suc k) = nothing_more more k

  with_more : (xs : List (Option X)) (more k : ℕ) → get_or (xs ++ replicate more (nothing X)) k None ≡ get_or xs k None
  with_more [] more k = nothing_more more k
  with_more (x ∷ xs) more zero = refl
  with_more (x ∷ xs) more (suc k) = with_more xs more k

  pub grown : (ok : Bool) (old new : List (Option X)) (len count : ℕ) → len ≡ length old → len ≤ count → new ≡ cond ok (take count old ++ replicate (count - len) (nothing X)) old → (k : ℕ) → get_or new k None ≡ get_or old k None
  grown true old new len count long low is k = ap (λ (l : List (Option X)). get_or l k None) (is ∙ ap (λ (l : List (Option X)). l ++ replicate (count - len) (nothing X)) (take_all count old (omega (arith, long, low)))) ∙ with_more old (count - len) k
  grown false old new len count long low is k = ap (λ (l : List (Option X)). get_or l k None) is
