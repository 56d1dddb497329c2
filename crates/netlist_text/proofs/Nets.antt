-- Nets by names, in a row, and their widths beside those of pins.
use Rattle.std.proofs.Common.{◌≡◌, ℕ, zero, suc, ◌+◌, ◌<◌, ◌≤◌, Bool, true, false, is_some, List, [], ◌∷◌, ◌++◌, length, map, take, get_or, Some, None, refl, sym, ap, ap₂, subst, ◌∙◌, arith}
use Rattle.std.proofs.lemmas.Bool.{false_from_ne_true}
use Rattle.std.specs.List.{list_all, slice_get}
use Rattle.std.specs.Str.{bytes_eq}
use Rattle.std.proofs.lemmas.List.{take_more, take_all, map-append}
use Rattle.std.proofs.lemmas.List.Elements.{All-push}
use Rattle.std.proofs.lemmas.List.Folds.{list_all-append, list_all_at}
use Rattle.std.proofs.lemmas.Option.{slice_get_within, get_or_from_slice_get}
use Rattle.std.proofs.lemmas.Slice.Eq.{bytes_eq-Decides}
use Rattle.circuit_model.specs.Present.{PresentView, net_named}
use Rattle.netlist_text.specs.Found.{AreNets}
use Rattle.netlist_text.specs.Lookups.{net_place, net_places}

module _ (s : PresentView) (names : List (List ℕ)) (i : ℕ) (name : List ℕ) (at : slice_get names i ≡ Some name) where
  abbrev is_net : List ℕ → Bool
  is_net n = is_some (net_named s n)

  pub a_net_missing : net_named s name ≡ None → list_all is_net names ≡ false
  a_net_missing none = list_all_at is_net names i name (slice_get_within names i name at) (ap is_net (get_or_from_slice_get names i name name at) ∙ ap is_some none)

  pub one_more_net : (row : List ℕ) (n : ℕ) → AreNets s (take i names) row → net_named s name ≡ Some n → n < length s.nets → AreNets s (take (i + 1) names) (row ++ n ∷ [])
  one_more_net row n before named there =
      let front : List (List ℕ) = take i names in
      let longer : take (i + 1) names ≡ front ++ name ∷ [] = take_more names i name (slice_get_within names i name at) ∙ ap (λ (x : List ℕ). front ++ x ∷ []) (get_or_from_slice_get names i name name at) in
      let last : net_place s name ≡ n = rw named refl in
      let known : list_all is_net (front ++ name ∷ []) ≡ true = list_all-append is_net front (name ∷ []) ∙ rw (before.known, named) refl in
      let found : row ++ n ∷ [] ≡ net_places s (front ++ name ∷ []) =
      ap (λ (xs : List ℕ). xs ++ n ∷ []) before.found ∙ (ap (λ (m : ℕ). net_places s front ++ m ∷ []) (sym last) ∙ sym (map-append (net_place s) front (name ∷ []))) in
      subst (λ (xs : List (List ℕ)). AreNets s xs (row ++ n ∷ [])) (sym longer)
      (record { known = known; found = found; within = All-push (λ place. place < length s.nets) row n before.within there })

-- all of the names
pub all_nets : (s : PresentView) (names : List (List ℕ)) (i : ℕ) (row : List ℕ) → length names ≤ i → AreNets s (take i names) row → AreNets s names row
all_nets s names i row done h = subst (λ (xs : List (List ℕ)). AreNets s xs row) (take_all i names done) h

same_lists : (xs ys : List ℕ) → length xs ≡ length ys → ((k : ℕ) → k < length xs → get_or xs k 0 ≡ get_or ys k 0) → xs ≡ ys
same_lists [] [] long each = refl
same_lists [] (y ∷ ys) long each = absurd (omega arith)
same_lists (x ∷ xs) [] long each = absurd (omega arith)
same_lists (x ∷ xs) (y ∷ ys) long each = ap₂ (λ (z : ℕ) (zs : List ℕ). z ∷ zs) (each 0 (omega arith)) (same_lists xs ys (omega arith) (λ k low. each (suc k) (omega arith)))

-- all widths that were compared are all widths
pub all_alike : (xs ys : List ℕ) (i : ℕ) → length xs ≡ length ys → length xs ≤ i → ((k : ℕ) → k < i → get_or xs k 0 ≡ get_or ys k 0) → true ≡ bytes_eq xs ys
all_alike xs ys i long done each = sym ((bytes_eq-Decides xs ys).1 (same_lists xs ys long (λ k low. each k (omega arith))))

pub one_differs : (xs ys : List ℕ) (k : ℕ) → (get_or xs k 0 ≡ get_or ys k 0 → ⊥) → false ≡ bytes_eq xs ys
one_differs xs ys k apart = sym (false_from_ne_true (bytes_eq xs ys) (λ is. apart (ap (λ (zs : List ℕ). get_or zs k 0) ((bytes_eq-Decides xs ys).0 is))))

-- what stands at a place of a list, after f
pub read_after : (f : ℕ → ℕ) (xs : List ℕ) (k n : ℕ) → slice_get xs k ≡ Some n → get_or (map f xs) k 0 ≡ f n
read_after f [] k n at = cc
read_after f (x ∷ xs) zero n at = let same : x ≡ n = cc in ap f same
read_after f (x ∷ xs) (suc k) n at = read_after f xs k n at
