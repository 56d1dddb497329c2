-- What a further net, component or measurement keeps of a lawful present.
use Rattle.std.proofs.Common.{◌≡◌, ◌≢◌, ℕ, zero, suc, ◌+◌, ◌-◌, ◌*◌, ◌<◌, ◌≤◌, inl, inr, Bool, false, cond, not, ltb, List, [], ◌∷◌, ◌++◌, length, map, take, drop, Option, Some, None, IsTrue, refl, sym, ap, subst, ◌∙◌, arith, suc-ne-zero}
use Rattle.std.specs.Prelude.{slice_index, slice_index_or}
use Rattle.std.specs.List.{slice_get, All, position, prefix_len, remove}
use Rattle.std.specs.Str.{bytes_eq}
use Rattle.std.proofs.lemmas.Bool.{false≢true, false_from_ne_true}
use Rattle.std.proofs.lemmas.Bool.Decides.{nat_tests}
use Rattle.std.proofs.lemmas.Slice.Eq.{bytes_eq-Decides}
use Rattle.std.proofs.lemmas.List.{append-nil, append_assoc, length_push, map-append, length-map, get_or_append_left, get_or-map, take-append-drop, drop_at, length-take}
use Rattle.std.proofs.Math.Seq.{take-append_seam}
use Rattle.std.proofs.lemmas.Option.{slice_get_within, get_or_from_slice_get, same_Some}
use Rattle.std.proofs.lemmas.List.Elements.{All-cons, All-head, All-tail, All-push, All-take, All-drop, All-append, All-weaker}
use Rattle.environment_sets.specs.Lists.{IsIn, AreDistinct}
use Rattle.environment_sets.proofs.Membership.{IsIn-append, IsIn-left, IsIn-right, IsIn-map, map-IsIn, IsIn-slice_get, slice_get-IsIn, AreDistinct-more, AreDistinct-left}
use Rattle.circuit_model.specs.declared.model.Fact.{Fact}
use Rattle.circuit_model.specs.declared.present.Component.{Component}
use Rattle.circuit_model.specs.declared.present.Net.{Net}
use Rattle.circuit_model.specs.Names.{is_name}
use Rattle.circuit_model.specs.Kinds.{block_in}
use Rattle.circuit_model.specs.declared.present.DeclaredMode.{DeclaredMode}
use Rattle.circuit_model.proofs.Changes.{All-back, All-front}
use Rattle.circuit_model.proofs.Moves.{All-read, IsKeptNet, component_kept, component_same, fact_kept, pins_there, mode_moved, mode_kept, last_port_there, component_of_mode}
use Rattle.circuit_model.specs.Present.{PresentView, names_of, circuit_of, net_named, part_named, net_or_part, named_in, width_of, with_cycles, with_net, with_part, without_last_part, without_part, IsLawfulComponent, IsLawfulMode, IsFactOf, IsLawful, IsUnusedPart}
use Rattle.circuit_model.specs.declared.limits.TheConstants.{MOST_CYCLES, MOST_NETS, MOST_CELLS, MOST_PARTS}
use Rattle.word_domain.specs.declared.width.TheConstants.{WIDEST}

pub other_bytes : (xs ys : List ℕ) → (xs ≡ ys → ⊥) → bytes_eq xs ys ≡ false
other_bytes xs ys apart = false_from_ne_true (bytes_eq xs ys) (λ e. apart ((bytes_eq-Decides xs ys).0 e))

-- the circuit has as many parts
pub count_parts : (s : PresentView) → length s.parts ≡ length (circuit_of s).parts
count_parts s = sym (length-map s.parts (λ (c : Component). c.part))

pub passed : (b : Bool) (i n : ℕ) → cond (ltb (cond (not b) (1 + i) 0) (suc n)) (Some (cond (not b) (1 + i) 0)) None ≡ None → (b ≡ false) × (cond (ltb i n) (Some i) None ≡ None)
passed b i n h = (grind (arith, nat_tests), grind (arith, nat_tests))

module _ {X : Type 0} where
  -- no element passes where no place is found
  pub position-None : (p : X → Bool) (xs : List X) → position p xs ≡ None → (x : X) → IsIn xs x → p x ≡ false
  position-None p [] none x h = elim h [ ]
  position-None p (y ∷ xs) none x (inl e) = ap p (sym e) ∙ (passed (p y) (prefix_len (λ x. not (p x)) xs) (length xs) none).0
  position-None p (y ∷ xs) none x (inr later) = position-None p xs (passed (p y) (prefix_len (λ x. not (p x)) xs) (length xs) none).1 x later

  -- a new element that has what each has
  pub All-more_between : (P : X → Type 0) (xs ys : List X) (z : X) → All P (xs ++ ys) → P z → All P ((xs ++ z ∷ []) ++ ys)
  All-more_between P [] ys z h p = All-cons P z ys p h
  All-more_between P (x ∷ xs) ys z h p = All-cons P x ((xs ++ z ∷ []) ++ ys) (All-head P x (xs ++ ys) h) (All-more_between P xs ys z (All-tail P x (xs ++ ys) h) p)

module _ {X : Type 0} where
  pub slice_get-append_left : (xs ys : List X) (k : ℕ) (x : X) → slice_get xs k ≡ Some x → slice_get (xs ++ ys) k ≡ Some x
  slice_get-append_left [] ys k x e = cc
  slice_get-append_left (y ∷ xs) ys zero x e = e
  slice_get-append_left (y ∷ xs) ys (suc k) x e = slice_get-append_left xs ys k x e

  pub slice_get_push : (xs : List X) (x : X) → slice_get (xs ++ x ∷ []) (length xs) ≡ Some x
  slice_get_push [] x = refl
  slice_get_push (y ∷ xs) x = slice_get_push xs x

  pub slice_get-take : (n : ℕ) (xs : List X) (k : ℕ) → k < n → slice_get (take n xs) k ≡ slice_get xs k
  slice_get-take zero xs k h = absurd (omega arith)
  slice_get-take (suc n) [] k h = refl
  slice_get-take (suc n) (x ∷ xs) zero h = refl
  slice_get-take (suc n) (x ∷ xs) (suc k) h = slice_get-take n xs k (omega arith)

net_or_part-None : (net part : Option ℕ) → net_or_part net part ≡ None → (net ≡ None) × (part ≡ None)
net_or_part-None None None h = (refl, refl)
net_or_part-None None (Some j) h = cc
net_or_part-None (Some i) part h = cc

pub no_net : (s : PresentView) (name : List ℕ) → named_in s name ≡ None → net_named s name ≡ None
no_net s name free = (net_or_part-None (net_named s name) (part_named s name) free).0

pub no_part : (s : PresentView) (name : List ℕ) → named_in s name ≡ None → part_named s name ≡ None
no_part s name free = (net_or_part-None (net_named s name) (part_named s name) free).1

pub not_named : (name other : List ℕ) → other ≡ name → bytes_eq other name ≡ false → ⊥
not_named name other e apart = false≢true (sym apart ∙ (bytes_eq-Decides other name).1 e)

-- a free name is no name of a net or of a component
pub free_is_new : (s : PresentView) (name : List ℕ) → named_in s name ≡ None → IsIn (names_of s) name → ⊥
free_is_new s name free h =
    let nets : List (List ℕ) = map (λ (n : Net). n.name) s.nets in
    let parts : List (List ℕ) = map (λ (p : Component). p.name) s.parts in
    let none = net_or_part-None (net_named s name) (part_named s name) free in
    elim (IsIn-append nets parts name h) as (λ _. ⊥) [
      | inl a ↦ let p = IsIn-map (λ (n : Net). n.name) s.nets name a in not_named name p.0.name p.2 (position-None (λ n. bytes_eq n.name name) s.nets none.0 p.0 p.1)
      | inr b ↦ let p = IsIn-map (λ (c : Component). c.name) s.parts name b in not_named name p.0.name p.2 (position-None (λ c. bytes_eq c.name name) s.parts none.1 p.0 p.1)
    ]

-- the width of a net that was read
pub width_of-read : (s : PresentView) (net : ℕ) (n : Net) → slice_get s.nets net ≡ Some n → width_of s net ≡ n.width
width_of-read s net n h =
    let w : Net → ℕ = λ n. n.width in
    let fits : net < length s.nets = slice_get_within s.nets net n h in
    get_or-map w s.nets net n 0 fits ∙ ap w (get_or_from_slice_get s.nets net n n h)

module _ (n : Net) (s : PresentView) where
  pub width_of-with_net : (k : ℕ) → k < length s.nets → width_of (with_net n s) k ≡ width_of s k
  width_of-with_net k h =
      let w : Net → ℕ = λ n. n.width in
      let fits : k < length (map w s.nets) = omega (arith, length-map s.nets w) in
      ap (λ ws. slice_index ws k) (map-append w s.nets (n ∷ [])) ∙ get_or_append_left (map w s.nets) (n.width ∷ []) 0 k fits

  fits_with_net : (k : ℕ) → k < length s.nets → k < length (with_net n s).nets
  fits_with_net k h = omega (arith, length_push s.nets n)

  kept_with_net : (k : ℕ) → k < length s.nets → IsKeptNet s (with_net n s) k
  kept_with_net k h = (fits_with_net k h, width_of-with_net k h)

  pub IsLawfulComponent-with_net : (c : Component) → IsLawfulComponent s c → IsLawfulComponent (with_net n s) c
  IsLawfulComponent-with_net c h = component_kept s (with_net n s) refl c h (λ k d low. kept_with_net _ (h.nets k d low)) (λ k d low. kept_with_net _ (pins_there s c (block_in c.kind) h.pins k d low)) (λ block _ low. (low, refl))

  pub IsFactOf-with_net : (f : Fact) → IsFactOf s f → IsFactOf (with_net n s) f
  IsFactOf-with_net f h = fact_kept s (with_net n s) refl f h (kept_with_net f.cell.net h.net)

  IsLawfulMode-with_net : IsLawful s → (m : DeclaredMode) → IsLawfulMode s m → IsLawfulMode (with_net n s) m
  IsLawfulMode-with_net lawful = mode_kept s (with_net n s) lawful refl (λ c k at. kept_with_net _ (last_port_there s c (All-read (IsLawfulComponent s) s.parts k c at lawful.each_part)))

-- a net with a free name keeps a present lawful
pub IsLawful-with_net : (n : Net) (s : PresentView) → IsLawful s → named_in s n.name ≡ None → length s.nets < MOST_NETS → (length s.nets + 1) * s.cycles ≤ MOST_CELLS → IsTrue (is_name n.name) → 1 ≤ n.width → n.width ≤ WIDEST → IsLawful (with_net n s)
IsLawful-with_net n s h free room cells name low high =
    let more = length_push s.nets n in
    let nets : List (List ℕ) = map (λ (n : Net). n.name) s.nets in
    let parts : List (List ℕ) = map (λ (p : Component). p.name) s.parts in
    let names : names_of (with_net n s) ≡ (nets ++ n.name ∷ []) ++ parts = ap (λ ns. ns ++ parts) (map-append (λ (n : Net). n.name) s.nets (n ∷ [])) in
    record {
      some_cycle = h.some_cycle;
      cycles = h.cycles;
      nets = omega arith;
      cells = rw more cells;
      parts = h.parts;
      readings = h.readings;
      names = subst (λ (ns : List (List ℕ)). All (λ n. IsTrue (is_name n)) ns) (sym names) (All-more_between (λ n. IsTrue (is_name n)) nets parts n.name h.names name);
      distinct = subst (λ (ns : List (List ℕ)). AreDistinct ns) (sym names) (AreDistinct-more nets parts n.name h.distinct (free_is_new s n.name free));
      widths = All-push (λ (n : Net). (1 ≤ n.width) × (n.width ≤ WIDEST)) s.nets n h.widths (low, high);
      each_part = All-weaker (IsLawfulComponent s) (IsLawfulComponent (with_net n s)) (IsLawfulComponent-with_net n s) s.parts h.each_part;
      each_reading = All-weaker (IsFactOf s) (IsFactOf (with_net n s)) (IsFactOf-with_net n s) s.readings h.each_reading;
      rising = h.rising;
      modes = h.modes;
      blocks = h.blocks;
      block_names = h.block_names;
      each_block = h.each_block;
      each_mode = All-weaker (IsLawfulMode s) (IsLawfulMode (with_net n s)) (IsLawfulMode-with_net n s h) s.modes h.each_mode;
    }

module _ (c : Component) (s : PresentView) where
  pub IsLawfulComponent-with_part : (d : Component) → IsLawfulComponent s d → IsLawfulComponent (with_part c s) d
  IsLawfulComponent-with_part d h = component_same s (with_part c s) refl refl refl d h

  pub IsFactOf-with_part : (f : Fact) → IsFactOf s f → IsFactOf (with_part c s) f
  IsFactOf-with_part f h = record { net = h.net; cycle = h.cycle; fits = h.fits }

  IsLawfulMode-with_part : (m : DeclaredMode) → IsLawfulMode s m → IsLawfulMode (with_part c s) m
  IsLawfulMode-with_part m h = mode_moved s (with_part c s) m h h.place h.component (slice_get-append_left s.parts (c ∷ []) h.place h.component h.there) refl refl refl

  -- no mode is one of a component with a free name
  pub IsUnusedPart-with_part : IsLawful s → named_in s c.name ≡ None → IsUnusedPart (with_part c s) (length (with_part c s).parts - 1)
  IsUnusedPart-with_part h free d at =
      let last : length (s.parts ++ c ∷ []) - 1 ≡ length s.parts = omega (arith, length_push s.parts c) in
      let is : c ≡ d = same_Some c d (sym (slice_get_push s.parts c) ∙ (sym (ap (λ n. slice_get (s.parts ++ c ∷ []) n) last) ∙ at)) in
      λ k e low same. let m : DeclaredMode = slice_index_or s.modes k e in let mode : IsLawfulMode s m = h.each_mode k e low in
      free_is_new s c.name free (IsIn-right (map (λ (n : Net). n.name) s.nets) (map (λ (p : Component). p.name) s.parts) c.name
      (subst (λ (name : List ℕ). IsIn (map (λ (p : Component). p.name) s.parts) name) (mode.named ∙ (same ∙ ap (λ (p : Component). p.name) (sym is)))
      (map-IsIn (λ (p : Component). p.name) s.parts mode.component (IsIn-slice_get s.parts mode.place mode.component mode.there))))

  -- a lawful component with a free name keeps a present lawful
  pub IsLawful-with_part : IsLawful s → named_in s c.name ≡ None → length s.parts < MOST_PARTS → IsLawfulComponent s c → IsTrue (is_name c.name) → IsLawful (with_part c s)
  IsLawful-with_part h free room lawful name =
      let more = length_push s.parts c in
      let nets : List (List ℕ) = map (λ (n : Net). n.name) s.nets in
      let parts : List (List ℕ) = map (λ (p : Component). p.name) s.parts in
      let whole : names_of s ++ [] ≡ names_of s = append-nil (names_of s) in
      let names : names_of (with_part c s) ≡ (names_of s ++ c.name ∷ []) ++ [] =
      ap (λ ps. nets ++ ps) (map-append (λ (p : Component). p.name) s.parts (c ∷ [])) ∙ (sym (append_assoc nets parts (c.name ∷ [])) ∙ sym (append-nil (names_of s ++ c.name ∷ []))) in
      let new : IsIn (names_of s ++ []) c.name → ⊥ = λ at. free_is_new s c.name free (subst (λ (ns : List (List ℕ)). IsIn ns c.name) whole at) in
      record {
        some_cycle = h.some_cycle;
        cycles = h.cycles;
        nets = h.nets;
        cells = h.cells;
        parts = omega arith;
        readings = h.readings;
        names = subst (λ (ns : List (List ℕ)). All (λ n. IsTrue (is_name n)) ns) (sym names) (All-more_between (λ n. IsTrue (is_name n)) (names_of s) [] c.name (subst (λ (ns : List (List ℕ)). All (λ n. IsTrue (is_name n)) ns) (sym whole) h.names) name);
        distinct = subst (λ (ns : List (List ℕ)). AreDistinct ns) (sym names) (AreDistinct-more (names_of s) [] c.name (subst (λ (ns : List (List ℕ)). AreDistinct ns) (sym whole) h.distinct) new);
        widths = h.widths;
        each_part = All-push (IsLawfulComponent (with_part c s)) s.parts c (All-weaker (IsLawfulComponent s) (IsLawfulComponent (with_part c s)) IsLawfulComponent-with_part s.parts h.each_part) (IsLawfulComponent-with_part c lawful);
        each_reading = All-weaker (IsFactOf s) (IsFactOf (with_part c s)) IsFactOf-with_part s.readings h.each_reading;
        rising = h.rising;
        modes = h.modes;
        blocks = h.blocks;
        block_names = h.block_names;
        each_block = h.each_block;
        each_mode = All-weaker (IsLawfulMode s) (IsLawfulMode (with_part c s)) IsLawfulMode-with_part s.modes h.each_mode;
      }

-- a present without its last component is lawful
module _ (s : PresentView) where
  component_without : (d : Component) → IsLawfulComponent s d → IsLawfulComponent (without_last_part s) d
  component_without d h = component_same s (without_last_part s) refl refl refl d h

  fact_without : (f : Fact) → IsFactOf s f → IsFactOf (without_last_part s) f
  fact_without f h = record { net = h.net; cycle = h.cycle; fits = h.fits }

  mode_without : IsUnusedPart s (length s.parts - 1) → (k : ℕ) (d : DeclaredMode) → k < length s.modes → IsLawfulMode s (slice_index_or s.modes k d) → IsLawfulMode (without_last_part s) (slice_index_or s.modes k d)
  mode_without unused k d low h =
      let within : h.place < length s.parts = slice_get_within s.parts h.place h.component h.there in
      let other : h.place ≢ length s.parts - 1 = λ e. unused h.component (ap (λ n. slice_get s.parts n) (sym e) ∙ h.there) k d low (sym h.named) in
      mode_moved s (without_last_part s) (slice_index_or s.modes k d) h h.place h.component (slice_get-take (length s.parts - 1) s.parts h.place (omega (arith, within, other)) ∙ h.there) refl refl refl

  pub IsLawful-without_last : IsLawful s → IsUnusedPart s (length s.parts - 1) → IsLawful (without_last_part s)
  IsLawful-without_last h unused =
      let n : ℕ = length s.parts - 1 in
      let nets : List (List ℕ) = map (λ (n : Net). n.name) s.nets in
      let front : List (List ℕ) = map (λ (p : Component). p.name) (take n s.parts) in
      let rest : List (List ℕ) = map (λ (p : Component). p.name) (drop n s.parts) in
      let parts : front ++ rest ≡ map (λ (p : Component). p.name) s.parts = sym (map-append (λ (p : Component). p.name) (take n s.parts) (drop n s.parts)) ∙ ap (λ ps. map (λ (p : Component). p.name) ps) (take-append-drop n s.parts) in
      let names : names_of s ≡ (nets ++ front) ++ rest = ap (λ ps. nets ++ ps) (sym parts) ∙ sym (append_assoc nets front rest) in
      record {
        some_cycle = h.some_cycle;
        cycles = h.cycles;
        nets = h.nets;
        cells = h.cells;
        parts = let few : length (take n s.parts) ≤ length s.parts = omega (arith, length-take n s.parts) in omega (arith, few, h.parts);
        readings = h.readings;
        names = All-front (λ n. IsTrue (is_name n)) (nets ++ front) rest (subst (λ (ns : List (List ℕ)). All (λ n. IsTrue (is_name n)) ns) names h.names);
        distinct = AreDistinct-left (nets ++ front) rest (subst (λ (ns : List (List ℕ)). AreDistinct ns) names h.distinct);
        widths = h.widths;
        each_part = All-weaker (IsLawfulComponent s) (IsLawfulComponent (without_last_part s)) component_without (take n s.parts) (All-take (IsLawfulComponent s) n s.parts h.each_part);
        each_reading = All-weaker (IsFactOf s) (IsFactOf (without_last_part s)) fact_without s.readings h.each_reading;
        rising = h.rising;
        modes = h.modes;
        blocks = h.blocks;
        block_names = h.block_names;
        each_block = h.each_block;
        each_mode = λ k d low. mode_without unused k d low (h.each_mode k d low);
      }

-- the elements of a list without one of them
module _ {X : Type 0} where
  pub IsIn-remove : (xs : List X) (place : ℕ) (x : X) → IsIn (remove xs place) x → (k : ℕ) × (k ≢ place) × (slice_get xs k ≡ Some x)
  IsIn-remove [] zero x h = absurd h
  IsIn-remove [] (suc place) x h = absurd h
  IsIn-remove (y ∷ xs) zero x h = let r : (k : ℕ) × (slice_get xs k ≡ Some x) = slice_get-IsIn xs x h in (suc r.0, suc-ne-zero r.0, r.1)
  IsIn-remove (y ∷ xs) (suc place) x (inl e) = (0, (λ z. suc-ne-zero place (sym z)), ap Some e)
  IsIn-remove (y ∷ xs) (suc place) x (inr h) = let r : (k : ℕ) × (k ≢ place) × (slice_get xs k ≡ Some x) = IsIn-remove xs place x h in (suc r.0, (λ e. r.1 (omega (arith, e))), r.2)

  pub remove-IsIn : (xs : List X) (place k : ℕ) (x : X) → k ≢ place → slice_get xs k ≡ Some x → IsIn (remove xs place) x
  remove-IsIn [] place k x other e = cc
  remove-IsIn (y ∷ xs) zero zero x other e = absurd (other refl)
  remove-IsIn (y ∷ xs) zero (suc k) x other e = IsIn-slice_get xs k x e
  remove-IsIn (y ∷ xs) (suc place) zero x other e = inl (let is : y ≡ x = cc in is)
  remove-IsIn (y ∷ xs) (suc place) (suc k) x other e = inr (remove-IsIn xs place k x (λ z. other (ap suc z)) e)

  pub All-remove : (P : X → Type 0) (xs : List X) (place : ℕ) → All P xs → All P (remove xs place)
  All-remove P xs place h = All-append P (take place xs) (drop (suc place) xs) (All-take P place xs h) (All-drop P (suc place) xs h)

  pub length-remove_le : (xs : List X) (place : ℕ) → length (remove xs place) ≤ length xs
  length-remove_le [] zero = omega arith
  length-remove_le [] (suc place) = omega arith
  length-remove_le (x ∷ xs) zero = omega arith
  length-remove_le (x ∷ xs) (suc place) = let fewer = length-remove_le xs place in omega (arith, fewer)

module _ {X Y : Type 0} (f : X → Y) where
  pub map-remove : (xs : List X) (place : ℕ) → map f (remove xs place) ≡ remove (map f xs) place
  map-remove [] zero = refl
  map-remove [] (suc place) = refl
  map-remove (x ∷ xs) zero = refl
  map-remove (x ∷ xs) (suc place) = ap (λ ys. f x ∷ ys) (map-remove xs place)

module _ {X : Type 0} where
  pub IsIn-front_remove : (ns xs : List X) (place : ℕ) (x : X) → IsIn (ns ++ remove xs place) x → IsIn (ns ++ xs) x
  IsIn-front_remove ns xs place x h = elim (IsIn-append ns (remove xs place) x h) as (λ _. IsIn (ns ++ xs) x) [
    | inl a ↦ IsIn-left ns xs x a
    | inr b ↦ let r : (k : ℕ) × (k ≢ place) × (slice_get xs k ≡ Some x) = IsIn-remove xs place x b in IsIn-right ns xs x (IsIn-slice_get xs r.0 x r.2)
  ]

  AreDistinct-remove : (xs : List X) (place : ℕ) → AreDistinct xs → AreDistinct (remove xs place)
  AreDistinct-remove [] zero h = h
  AreDistinct-remove [] (suc place) h = h
  AreDistinct-remove (x ∷ xs) zero h = h.1
  AreDistinct-remove (x ∷ xs) (suc place) h = ((λ y at. h.0 y (IsIn-front_remove [] xs place y at)), AreDistinct-remove xs place h.1)

  pub AreDistinct-front_remove : (ns xs : List X) (place : ℕ) → AreDistinct (ns ++ xs) → AreDistinct (ns ++ remove xs place)
  AreDistinct-front_remove [] xs place h = AreDistinct-remove xs place h
  AreDistinct-front_remove (n ∷ ns) xs place h = ((λ y at. h.0 y (IsIn-front_remove ns xs place y at)), AreDistinct-front_remove ns xs place h.1)

  pub All-front_remove : (P : X → Type 0) (ns xs : List X) (place : ℕ) → All P (ns ++ xs) → All P (ns ++ remove xs place)
  All-front_remove P ns xs place h = All-append P ns (remove xs place) (All-front P ns xs h) (All-remove P xs place (All-back P ns xs h))

-- a present without one component is lawful
module _ (s : PresentView) (part : ℕ) where
  mode_without_part : IsUnusedPart s part → (k : ℕ) (d : DeclaredMode) → k < length s.modes → IsLawfulMode s (slice_index_or s.modes k d) → IsLawfulMode (without_part part s) (slice_index_or s.modes k d)
  mode_without_part unused k d low h =
      let other : h.place ≢ part = λ e. unused h.component (ap (λ n. slice_get s.parts n) (sym e) ∙ h.there) k d low (sym h.named) in
      let moved : (j : ℕ) × (slice_get (remove s.parts part) j ≡ Some h.component) = slice_get-IsIn (remove s.parts part) h.component (remove-IsIn s.parts part h.place h.component other h.there) in
      mode_moved s (without_part part s) (slice_index_or s.modes k d) h moved.0 h.component moved.1 refl refl refl

  pub IsLawful-without_part : IsLawful s → IsUnusedPart s part → IsLawful (without_part part s)
  IsLawful-without_part h unused =
      let t = without_part part s in
      let nets : List (List ℕ) = map (λ (n : Net). n.name) s.nets in
      let names : nets ++ remove (map (λ (p : Component). p.name) s.parts) part ≡ names_of t = ap (λ ps. nets ++ ps) (sym (map-remove (λ (p : Component). p.name) s.parts part)) in
      record {
        some_cycle = h.some_cycle;
        cycles = h.cycles;
        nets = h.nets;
        cells = h.cells;
        parts = let fewer = length-remove_le s.parts part in omega (arith, fewer, h.parts);
        readings = h.readings;
        modes = h.modes;
        blocks = h.blocks;
        names = subst (λ (ns : List (List ℕ)). All (λ n. IsTrue (is_name n)) ns) names (All-front_remove (λ n. IsTrue (is_name n)) nets (map (λ (p : Component). p.name) s.parts) part h.names);
        distinct = subst (λ (ns : List (List ℕ)). AreDistinct ns) names (AreDistinct-front_remove nets (map (λ (p : Component). p.name) s.parts) part h.distinct);
        block_names = h.block_names;
        widths = h.widths;
        each_part = All-remove (IsLawfulComponent t) s.parts part (All-weaker (IsLawfulComponent s) (IsLawfulComponent t) (component_same s t refl refl refl) s.parts h.each_part);
        each_reading = All-weaker (IsFactOf s) (IsFactOf t) (λ f l. record { net = l.net; cycle = l.cycle; fits = l.fits }) s.readings h.each_reading;
        rising = h.rising;
        each_mode = λ k d low. mode_without_part unused k d low (h.each_mode k d low);
        each_block = h.each_block;
      }

-- where no nets are there, there are neither components nor measurements, and any lawful number of cycles will do
module _ (n : ℕ) (s : PresentView) (empty : length s.nets ≡ 0) where
  no_component : (c : Component) → IsLawfulComponent s c → IsLawfulComponent (with_cycles n s) c
  no_component c h = absurd (let low = h.nets 0 0 (omega (arith, h.three)) in omega (arith, low, empty))

  no_fact : (f : Fact) → IsFactOf s f → IsFactOf (with_cycles n s) f
  no_fact f h = absurd (let low = h.net in omega (arith, low, empty))

  no_mode : IsLawful s → (m : DeclaredMode) → IsLawfulMode s m → IsLawfulMode (with_cycles n s) m
  no_mode lawful m h = absurd (let low = last_port_there s h.component (component_of_mode s lawful m h) in omega (arith, low, empty))

  pub IsLawful-with_cycles : IsLawful s → 1 ≤ n → n ≤ MOST_CYCLES → IsLawful (with_cycles n s)
  IsLawful-with_cycles h some most = record {
    some_cycle = some;
    cycles = most;
    nets = h.nets;
    cells = rw empty (omega arith);
    parts = h.parts;
    readings = h.readings;
    names = h.names;
    distinct = h.distinct;
    widths = h.widths;
    each_part = All-weaker (IsLawfulComponent s) (IsLawfulComponent (with_cycles n s)) no_component s.parts h.each_part;
    each_reading = All-weaker (IsFactOf s) (IsFactOf (with_cycles n s)) no_fact s.readings h.each_reading;
    rising = h.rising;
    modes = h.modes;
    blocks = h.blocks;
    block_names = h.block_names;
    each_block = h.each_block;
    each_mode = All-weaker (IsLawfulMode s) (IsLawfulMode (with_cycles n s)) (no_mode h) s.modes h.each_mode;
  }
