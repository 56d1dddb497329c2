-- Nets by their names, and the line of a component at nets. (Pins are such nets too.)
use Rattle.std.proofs.Common.{◌≡◌, ℕ, zero, suc, ◌^◌, ◌≤◌, ◌<◌, true, is_some, unwrap_or, List, [], ◌∷◌, length, map, slice_get, get_or, Option, Some, None, refl, ◌∙◌, ap, arith}
use Rattle.std.specs.Prelude.{slice_index}
use Rattle.std.specs.List.{All, list_all, position}
use Rattle.std.specs.Str.{bytes_eq}
use Rattle.std.proofs.lemmas.Bool.{and_from, ltb-true}
use Rattle.std.proofs.lemmas.List.Elements.{All-head, All-tail}
use Rattle.std.proofs.lemmas.Option.{slice_get-get_or}
use Rattle.environment_sets.specs.Lists.{AreDistinct}
use Rattle.word_domain.specs.declared.width.TheConstants.{WIDEST}
use Rattle.circuit_model.specs.Blocks.{width_in}
use Rattle.circuit_model.specs.Kinds.{block_in, RepeatAfter, RepeatsLast, fits_value, primitive_of}
use Rattle.circuit_model.specs.Inference.{ports_of}
use Rattle.circuit_model.specs.Names.{is_name}
use Rattle.circuit_model.specs.declared.model.Kind.{Kind}
use Rattle.circuit_model.specs.declared.model.Kind.TheVariants as kind
use Rattle.circuit_model.specs.declared.present.Net.{Net}
use Rattle.netlist_text.specs.Show.{name_at}
use Rattle.netlist_text.specs.declared.parts.PartWord.{PartWord}
use Rattle.netlist_text.proofs.ShownWords.{number_word, word_below}
use Rattle.netlist_text.proofs.ReadBack.{FitsPart, fits_part, HasNumber}
use Rattle.netlist_text.proofs.NamedPlaces.{position_at}

abbrev pub net_name : Net → List ℕ
net_name n = n.name

-- the net with the name
abbrev pub found_in : List Net → List ℕ → Option ℕ
found_in nets name = position (λ n. bytes_eq n.name name) nets

-- what a name needs where a list of names has names alone
pub is_name_at : (nets : List Net) → All (λ n. is_name n ≡ true) (map net_name nets) → (k : ℕ) → k < length nets → is_name (name_at nets k) ≡ true
is_name_at [] h k w = absurd (omega arith)
is_name_at (n ∷ nets) h zero w = All-head (λ n. is_name n ≡ true) n.name (map net_name nets) h
is_name_at (n ∷ nets) h (suc k) w = is_name_at nets (All-tail (λ n. is_name n ≡ true) n.name (map net_name nets) h) k (omega arith)

pub are_names_at : (nets : List Net) → All (λ n. is_name n ≡ true) (map net_name nets) → (ks : List ℕ) → All (λ k. k < length nets) ks → list_all is_name (map (name_at nets) ks) ≡ true
are_names_at nets h [] w = refl
are_names_at nets h (k ∷ ks) w =
    and_from (is_name (name_at nets k)) (list_all is_name (map (name_at nets) ks)) (is_name_at nets h k (All-head (λ k. k < length nets) k ks w)) (are_names_at nets h ks (All-tail (λ k. k < length nets) k ks w))

module _ (nets : List Net) (d : AreDistinct (map net_name nets)) where
  -- each net is found by its name
  pub found : (k : ℕ) → k < length nets → found_in nets (name_at nets k) ≡ Some k
  found k w =
      let none : Net = record { name = []; width = 0 } in
      let here : slice_get nets k ≡ Some (get_or nets k none) = slice_get-get_or nets k none w in
      rw here (position_at net_name nets k (get_or nets k none) d here)

  pub found_all : (ks : List ℕ) → All (λ k. k < length nets) ks → map (λ name. unwrap_or (found_in nets name) 0) (map (name_at nets) ks) ≡ ks
  found_all [] w = refl
  found_all (k ∷ ks) w =
      let here = found k (All-head (λ k. k < length nets) k ks w) in
      let there = found_all ks (All-tail (λ k. k < length nets) k ks w) in
      ap (λ o. unwrap_or o 0 ∷ map (λ name. unwrap_or (found_in nets name) 0) (map (name_at nets) ks)) here ∙ ap (λ t. k ∷ t) there

  pub known_all : (ks : List ℕ) → All (λ k. k < length nets) ks → list_all (λ name. is_some (found_in nets name)) (map (name_at nets) ks) ≡ true
  known_all [] w = refl
  known_all (k ∷ ks) w =
      and_from (is_some (found_in nets (name_at nets k))) (list_all (λ name. is_some (found_in nets name)) (map (name_at nets) ks)) (ap is_some (found k (All-head (λ k. k < length nets) k ks w))) (known_all ks (All-tail (λ k. k < length nets) k ks w))

-- a width is at most the widest
pub narrow : (nets : List Net) → All (λ n. (1 ≤ n.width) × (n.width ≤ WIDEST)) nets → (k : ℕ) → width_in nets k ≤ 32
narrow [] h k = omega arith
narrow (n ∷ nets) h zero = (All-head (λ n. (1 ≤ n.width) × (n.width ≤ WIDEST)) n nets h).1
narrow (n ∷ nets) h (suc k) = narrow nets (All-tail (λ n. (1 ≤ n.width) × (n.width ≤ WIDEST)) n nets h) k

narrow_at : (nets : List Net) → All (λ n. (1 ≤ n.width) × (n.width ≤ WIDEST)) nets → (ks : List ℕ) (i : ℕ) → slice_index (map (width_in nets) ks) i ≤ 32
narrow_at nets h [] i = omega arith
narrow_at nets h (k ∷ ks) zero = narrow nets h k
narrow_at nets h (k ∷ ks) (suc i) = narrow_at nets h ks i

-- the value of a kind that fits has few digits
pub has_number : (nets : List Net) → All (λ n. (1 ≤ n.width) × (n.width ≤ WIDEST)) nets → (k : Kind) (ks : List ℕ) → fits_value k (map (width_in nets) ks) ≡ true → HasNumber k
has_number nets h kind.Buf ks f = tt
has_number nets h kind.Not ks f = tt
has_number nets h kind.And ks f = tt
has_number nets h kind.Or ks f = tt
has_number nets h kind.Xor ks f = tt
has_number nets h kind.Nand ks f = tt
has_number nets h kind.Nor ks f = tt
has_number nets h kind.Xnor ks f = tt
has_number nets h kind.Add ks f = tt
has_number nets h kind.Mul ks f = tt
has_number nets h (kind.Const value) ks f =
    let width : ℕ = slice_index (map (width_in nets) ks) 0 in
    number_word value (word_below width value (narrow_at nets h ks 0) (ltb-true value (2 ^ width) f))
has_number nets h (kind.Reg reset) ks f =
    let width : ℕ = slice_index (map (width_in nets) ks) 1 in
    number_word reset (word_below width reset (narrow_at nets h ks 1) (ltb-true reset (2 ^ width) f))
has_number nets h (kind.Block block) ks f = tt

RepeatAfter-map : {X Y : Type 0} (f : X → Y) (n : ℕ) (a b c : X) → RepeatAfter n (a ∷ b ∷ c ∷ []) → RepeatAfter n (f a ∷ f b ∷ f c ∷ [])
RepeatAfter-map f zero a b c h = tt
RepeatAfter-map f (suc zero) a b c h =
    let e = h.0 in let g = h.1 in
    let one : a ≡ b = cc in let two : b ≡ c = cc in (ap (λ x. Some (f x)) one, ap (λ x. Some (f x)) two)
RepeatAfter-map f (suc (suc zero)) a b c h = let same : b ≡ c = cc in ap (λ x. Some (f x)) same
RepeatAfter-map f (suc (suc (suc n))) a b c h = tt

-- the line of a component at three nets
pub fits_nets : (nets : List Net) → All (λ n. is_name n ≡ true) (map net_name nets) → (k : Kind) (name : List ℕ) (ks : List ℕ) → is_name name ≡ true → length ks ≡ 3 → All (λ k. k < length nets) ks → block_in k ≡ None → RepeatsLast k ks → HasNumber k
    → (w : PartWord) × FitsPart k name (map (name_at nets) ks) w
fits_nets nets h k name [] n size w plain repeats number = absurd (omega arith)
fits_nets nets h k name (x ∷ []) n size w plain repeats number = absurd (omega arith)
fits_nets nets h k name (x ∷ y ∷ []) n size w plain repeats number = absurd (omega arith)
fits_nets nets h k name (x ∷ y ∷ z ∷ u ∷ ks) n size w plain repeats number = absurd (omega arith)
fits_nets nets h k name (x ∷ y ∷ z ∷ []) n size w plain repeats number =
    let P : ℕ → Type 0 = λ k. k < length nets in
    let first : x < length nets = All-head P x (y ∷ z ∷ []) w in
    let after = All-tail P x (y ∷ z ∷ []) w in
    let second : y < length nets = All-head P y (z ∷ []) after in
    let third : z < length nets = All-head P z [] (All-tail P y (z ∷ []) after) in
    fits_part name (name_at nets x) (name_at nets y) (name_at nets z) n (is_name_at nets h x first) (is_name_at nets h y second) (is_name_at nets h z third) k plain
    (RepeatAfter-map (name_at nets) (ports_of (primitive_of k)) x y z repeats) number
