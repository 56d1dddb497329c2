-- Where a table has a name, and how it changes with the list that it stands for.
use Rattle.std.proofs.Common.{◌≡◌, ℕ, zero, suc, ◌-◌, ◌+◌, ◌==◌, ◌&&◌, Bool, cond, ltb, not, List, [], ◌∷◌, ◌++◌, length, map, take, slice_get, Some, None, refl, sym, ap, ap₂, subst, ◌∙◌}
use mathlib.Core.Path.{fun_ext}
use Rattle.std.specs.List.{position, prefix_len, remove}
use Rattle.std.specs.Str.{bytes_eq}
use Rattle.std.specs.Map.{keys_of, values_of, lookup}
use Rattle.std.proofs.lemmas.List.{length-map, map_push, take-map}
use Rattle.indexmap.specs.IndexMap.{IndexMap, keys, insert_entry, set_value_at}
use Rattle.indexmap.proofs.CallerLemmas.{insert_entry-new, keys-with_value_at}
use Rattle.circuit_model.specs.declared.present.Net.{Net}
use Rattle.circuit_model.specs.Present.{without_last, change_at}
use Rattle.circuit_model.specs.Tables.{nets_of, StandByName}
use Rattle.std.proofs.lemmas.Option.{same_Some}
use Rattle.circuit_model.specs.Padding.{padded}
use Rattle.circuit_model.proofs.Paddings.{named_as}
use Rattle.circuit_model.proofs.Presents.{passed, map-remove}
use Rattle.circuit_model.proofs.Changes.{map-change_at}

module _ {X Y : Type 0} (f : X → Y) (p : Y → Bool) where
  prefix_len-map : (xs : List X) → prefix_len p (map f xs) ≡ prefix_len (λ x. p (f x)) xs
  prefix_len-map [] = refl
  prefix_len-map (x ∷ xs) = ap (λ n. cond (p (f x)) (1 + n) 0) (prefix_len-map xs)

-- the first that passes among the images
pub position-map : {X Y : Type 0} (f : X → Y) (p : Y → Bool) (xs : List X) → position p (map f xs) ≡ position (λ x. p (f x)) xs
position-map f p xs = ap₂ (λ i n. cond (ltb i n) (Some i) None) (prefix_len-map f (λ y. not (p y)) xs) (length-map xs f)

-- the test that a table makes of a name
abbrev pub is_key : (name other : List ℕ) → Bool
is_key name other = bytes_eq (padded name) (padded other) && (length name == length other)

-- the place that a table finds is that of the name
pub position-key : (name : List ℕ) (names : List (List ℕ)) → position (is_key name) names ≡ position (λ n. bytes_eq n name) names
position-key name names = ap (λ t. position t names) (fun_ext (named_as name))

-- a name that stands at no place has no entry
pub lookup-None : {K X : Type 0} (t : K → Bool) (es : List (K × X)) → position t (keys_of es) ≡ None → lookup t es ≡ None
lookup-None t [] none = refl
lookup-None t (e ∷ es) none = let both = passed (t e.0) (prefix_len (λ x. not (t x)) (keys_of es)) (length (keys_of es)) none in ap (λ b. cond b (Some e.1) (lookup t es)) both.0 ∙ lookup-None t es both.1

module _ {X S : Type 0} (m : IndexMap (List ℕ) X S) (name : List ℕ) (x : X) where
  -- what has a new name goes last
  pub insert-new : position (λ n. bytes_eq n name) (keys m) ≡ None → insert_entry is_key m.entries name x ≡ m.entries ++ (name, x) ∷ []
  insert-new none = insert_entry-new is_key m name x (lookup-None (is_key name) m.entries (position-key name (keys m) ∙ none))

abbrev net_of : List ℕ × ℕ → Net
net_of e = record { name = e.0; width = e.1 }

-- the nets of a table
module _ (es : List (List ℕ × ℕ)) where
  pub position-nets_of : (name : List ℕ) → position (λ n. bytes_eq n name) (keys_of es) ≡ position (λ n. bytes_eq n.name name) (nets_of es)
  position-nets_of name = position-map (λ (e : List ℕ × ℕ). e.0) (λ n. bytes_eq n name) es ∙ sym (position-map net_of (λ n. bytes_eq n.name name) es)

  pub nets_of-without_last : (n : ℕ) → n ≡ length es → nets_of (take (n - 1) es) ≡ without_last (nets_of es)
  nets_of-without_last n count = sym (take-map net_of (n - 1) es) ∙ ap (λ k. take (k - 1) (nets_of es)) (count ∙ sym (length-map es net_of))

pub nets_of-insert : {S : Type 0} (m : IndexMap (List ℕ) ℕ S) (name : List ℕ) (width : ℕ) → position (λ n. bytes_eq n.name name) (nets_of m.entries) ≡ None
    → nets_of (insert_entry is_key m.entries name width) ≡ nets_of m.entries ++ record { name = name; width = width } ∷ []
nets_of-insert m name width none = ap nets_of (insert-new m name width (position-nets_of m.entries name ∙ none)) ∙ map_push net_of m.entries (name, width)

-- the values of a table
module _ {X : Type 0} (es : List (List ℕ × X)) where
  values_of-push : (n : List ℕ) (x : X) → values_of (es ++ (n, x) ∷ []) ≡ values_of es ++ x ∷ []
  values_of-push n x = map_push (λ (e : List ℕ × X). e.1) es (n, x)

  values_of-take : (n : ℕ) → values_of (take n es) ≡ take n (values_of es)
  values_of-take n = sym (take-map (λ (e : List ℕ × X). e.1) n es)

  pub values_of-without_last : (n : ℕ) → n ≡ length es → values_of (take (n - 1) es) ≡ without_last (values_of es)
  values_of-without_last n count = values_of-take (n - 1) ∙ ap (λ k. take (k - 1) (values_of es)) (count ∙ sym (length-map es (λ (e : List ℕ × X). e.1)))

  pub values_of-remove : (place : ℕ) → values_of (remove es place) ≡ remove (values_of es) place
  values_of-remove place = map-remove (λ (e : List ℕ × X). e.1) es place

pub values_of-change : {X : Type 0} (f : X → X) (es : List (List ℕ × X)) (place : ℕ) (x : X) → slice_get (values_of es) place ≡ Some x → values_of (set_value_at es place (f x)) ≡ change_at place f (values_of es)
values_of-change f [] place x at = refl
values_of-change f (e ∷ es) zero x at = ap (λ y. f y ∷ values_of es) (sym (same_Some e.1 x at))
values_of-change f (e ∷ es) (suc place) x at = ap (λ xs. e.1 ∷ xs) (values_of-change f es place x at)

-- what stands under its own name
module _ {X : Type 0} (name : X → List ℕ) (es : List (List ℕ × X)) (h : StandByName name es) where
  pub position-by_name : (n : List ℕ) → position (λ m. bytes_eq m n) (keys_of es) ≡ position (λ x. bytes_eq (name x) n) (values_of es)
  position-by_name n = ap (λ ns. position (λ m. bytes_eq m n) ns) h ∙ position-map name (λ m. bytes_eq m n) (values_of es)

  StandByName-push : (x : X) → StandByName name (es ++ (name x, x) ∷ [])
  StandByName-push x = map_push (λ (e : List ℕ × X). e.0) es (name x, x) ∙ (ap (λ ns. ns ++ name x ∷ []) h ∙ (sym (map_push name (values_of es) x) ∙ ap (map name) (sym (values_of-push es (name x) x))))

  pub StandByName-take : (n : ℕ) → StandByName name (take n es)
  StandByName-take n = sym (take-map (λ (e : List ℕ × X). e.0) n es) ∙ (ap (take n) h ∙ (take-map name n (values_of es) ∙ ap (map name) (sym (values_of-take es n))))

  pub StandByName-remove : (place : ℕ) → StandByName name (remove es place)
  StandByName-remove place = map-remove (λ (e : List ℕ × X). e.0) es place ∙ (ap (λ ns. remove ns place) h ∙ (sym (map-remove name (values_of es) place) ∙ ap (map name) (sym (values_of-remove es place))))

module _ {X S : Type 0} (name : X → List ℕ) (m : IndexMap (List ℕ) X S) (h : StandByName name m.entries) where
  entries-insert : (x : X) → position (λ y. bytes_eq (name y) (name x)) (values_of m.entries) ≡ None → insert_entry is_key m.entries (name x) x ≡ m.entries ++ (name x, x) ∷ []
  entries-insert x none = insert-new m (name x) x (position-by_name name m.entries h (name x) ∙ none)

  pub values_of-insert : (x : X) → position (λ y. bytes_eq (name y) (name x)) (values_of m.entries) ≡ None → values_of (insert_entry is_key m.entries (name x) x) ≡ values_of m.entries ++ x ∷ []
  values_of-insert x none = ap values_of (entries-insert x none) ∙ values_of-push m.entries (name x) x

  pub StandByName-insert : (x : X) → position (λ y. bytes_eq (name y) (name x)) (values_of m.entries) ≡ None → StandByName name (insert_entry is_key m.entries (name x) x)
  StandByName-insert x none = subst (λ es. StandByName name es) (sym (entries-insert x none)) (StandByName-push name m.entries h x)

  pub StandByName-change : (f : X → X) → ((x : X) → name (f x) ≡ name x) → (place : ℕ) (x : X) → slice_get (values_of m.entries) place ≡ Some x → StandByName name (set_value_at m.entries place (f x))
  StandByName-change f same place x at = keys-with_value_at m place (f x) ∙ (h ∙ sym (ap (map name) (values_of-change f m.entries place x at) ∙ map-change_at name f same (values_of m.entries) place))
