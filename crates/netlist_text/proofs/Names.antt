-- What is found by a name.
use Rattle.std.proofs.Common.{◌≡◌, ℕ, zero, suc, ◌<◌, Bool, false, is_some, List, [], ◌∷◌, ◌++◌, length, map, get_or, Option, Some, None, refl, sym, ap, subst, ◌∙◌, inl, inr, arith}
use Rattle.std.specs.List.{All, list_all, position, slice_get}
use Rattle.std.specs.Str.{bytes_eq}
use Rattle.std.proofs.lemmas.List.Quantifiers.{position-Some}
use Rattle.std.proofs.lemmas.Option.{get_or_from_slice_get}
use Rattle.std.proofs.lemmas.Slice.Eq.{bytes_eq-Decides}
use Rattle.environment_sets.specs.Lists.{IsIn, AreDistinct}
use Rattle.environment_sets.proofs.Membership.{none_found, IsIn-right, map-IsIn}
use Rattle.environment_sets.proofs.Listings.{IsIn-get_or}
use Rattle.circuit_model.specs.declared.present.Component.{Component}
use Rattle.circuit_model.specs.declared.present.Net.{Net}
use Rattle.circuit_model.specs.Present.{PresentView, names_of, net_named, part_named}
use Rattle.circuit_model.specs.Blocks.{BlockView, pin_named}
use Rattle.netlist_text.specs.Found.{AreNets, ArePins}

pub three : {X : Type 0} (xs : List X) (a b z : X) → length xs ≡ 3 → a ≡ get_or xs 0 a → b ≡ get_or xs 1 b → z ≡ get_or xs 2 z → xs ≡ a ∷ b ∷ z ∷ []
three [] a b z n p q r = cc
three (x ∷ []) a b z n p q r = absurd (omega arith)
three (x ∷ y ∷ []) a b z n p q r = absurd (omega arith)
three (x ∷ y ∷ u ∷ []) a b z n p q r = rw (p, q, r) refl
three (x ∷ y ∷ u ∷ v ∷ xs) a b z n p q r = absurd (omega arith)

module _ (s : PresentView) (a b z : List ℕ) where
  abbrev known : List ℕ → Bool
  known name = is_some (net_named s name)

  pub first_missing : net_named s a ≡ None → list_all known (a ∷ b ∷ z ∷ []) ≡ false
  first_missing e = rw e refl

  pub second_missing : (i : ℕ) → net_named s a ≡ Some i → net_named s b ≡ None → list_all known (a ∷ b ∷ z ∷ []) ≡ false
  second_missing i d e = rw (d, e) refl

  pub third_missing : (i j : ℕ) → net_named s a ≡ Some i → net_named s b ≡ Some j → net_named s z ≡ None → list_all known (a ∷ b ∷ z ∷ []) ≡ false
  third_missing i j c d e = rw (c, d, e) refl

  pub found : (i j k : ℕ) → net_named s a ≡ Some i → net_named s b ≡ Some j → net_named s z ≡ Some k → i < length s.nets → j < length s.nets → k < length s.nets → AreNets s (a ∷ b ∷ z ∷ []) (i ∷ j ∷ k ∷ [])
  found i j k c d e p q r = record {
    known = rw (c, d, e) refl;
    found = rw (c, d, e) refl;
    within = each;
  } where
    each : All (λ place. place < length s.nets) (i ∷ j ∷ k ∷ [])
    each zero d h = p
    each (suc zero) d h = q
    each (suc (suc zero)) d h = r
    each (suc (suc (suc n))) d h = absurd (omega arith)

module _ (d : BlockView) (a b z : List ℕ) where
  abbrev is_pin : List ℕ → Bool
  is_pin name = is_some (pin_named d name)

  pub first_unpinned : pin_named d a ≡ None → list_all is_pin (a ∷ b ∷ z ∷ []) ≡ false
  first_unpinned e = rw e refl

  pub second_unpinned : (i : ℕ) → pin_named d a ≡ Some i → pin_named d b ≡ None → list_all is_pin (a ∷ b ∷ z ∷ []) ≡ false
  second_unpinned i f e = rw (f, e) refl

  pub third_unpinned : (i j : ℕ) → pin_named d a ≡ Some i → pin_named d b ≡ Some j → pin_named d z ≡ None → list_all is_pin (a ∷ b ∷ z ∷ []) ≡ false
  third_unpinned i j c f e = rw (c, f, e) refl

  pub found_pins : (i j k : ℕ) → pin_named d a ≡ Some i → pin_named d b ≡ Some j → pin_named d z ≡ Some k → i < length d.pins → j < length d.pins → k < length d.pins → ArePins d (a ∷ b ∷ z ∷ []) (i ∷ j ∷ k ∷ [])
  found_pins i j k c f e p q r = record {
    known = rw (c, f, e) refl;
    found = rw (c, f, e) refl;
    within = each;
  } where
    each : All (λ place. place < length d.pins) (i ∷ j ∷ k ∷ [])
    each zero x h = p
    each (suc zero) x h = q
    each (suc (suc zero)) x h = r
    each (suc (suc (suc n))) x h = absurd (omega arith)

module _ {X : Type 0} (name_of : X → List ℕ) where
  -- what is found has the name
  pub found_has_name : (xs : List X) (name : List ℕ) (i : ℕ) (x : X) → position (λ y. bytes_eq (name_of y) name) xs ≡ Some i → slice_get xs i ≡ Some x → name_of x ≡ name
  found_has_name xs name i x found at =
      let passes = (position-Some (λ (y : X). bytes_eq (name_of y) name) xs i x found).1 in
      (bytes_eq-Decides (name_of x) name).0 (ap (λ (y : X). bytes_eq (name_of y) name) (sym (get_or_from_slice_get xs i x x at)) ∙ passes)

  -- and so the name is one of theirs
  pub found_is_in : (xs : List X) (name : List ℕ) (i : ℕ) → position (λ y. bytes_eq (name_of y) name) xs ≡ Some i → IsIn (map name_of xs) name
  found_is_in [] name i found = cc
  found_is_in (y ∷ xs) name i found =
      let p = position-Some (λ (x : X). bytes_eq (name_of x) name) (y ∷ xs) i y found in
      let same : name_of (get_or (y ∷ xs) i y) ≡ name = (bytes_eq-Decides (name_of (get_or (y ∷ xs) i y)) name).0 p.1 in
      subst (λ (n : List ℕ). IsIn (map name_of (y ∷ xs)) n) same (map-IsIn name_of (y ∷ xs) (get_or (y ∷ xs) i y) (IsIn-get_or (y ∷ xs) i y p.0))

-- what is distinct has nothing in both halves
in_one_half : {X : Type 0} (xs ys : List X) (z : X) → AreDistinct (xs ++ ys) → IsIn xs z → IsIn ys z → ⊥
in_one_half [] ys z apart a b = elim a [ ]
in_one_half (x ∷ xs) ys z apart (inl e) b = apart.0 z (IsIn-right xs ys z b) e
in_one_half (x ∷ xs) ys z apart (inr a) b = in_one_half xs ys z apart.1 a b

-- a net's name is no component's
pub net_is_no_part : (s : PresentView) → AreDistinct (names_of s) → (name : List ℕ) (i : ℕ) → net_named s name ≡ Some i → part_named s name ≡ None
net_is_no_part s apart name i found =
    none_found (part_named s name) (λ j also.
    in_one_half (map (λ (n : Net). n.name) s.nets) (map (λ (p : Component). p.name) s.parts) name apart
    (found_is_in (λ (n : Net). n.name) s.nets name i found) (found_is_in (λ (p : Component). p.name) s.parts name j also))
