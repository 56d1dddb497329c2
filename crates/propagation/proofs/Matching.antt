-- Words at three ports: what matches them, what they use, and what kept sets beside them weigh.
use Rattle.std.proofs.Common.{◌≡◌, ℕ, zero, suc, ◌+◌, ◌*◌, ◌^◌, ◌≤◌, ◌<◌, ◌⊎◌, inl, inr, true, false, cond, refl, sym, ap, subst, List, [], ◌∷◌, length, Option, Some, None, slice_get, arith}
use Rattle.circuit_model.specs.declared.model.Primitive.{Primitive}
use Rattle.circuit_model.specs.declared.model.Primitive.TheVariants.{Buf, Not, And, Or, Xor, Nand, Nor, Xnor, Add, Mul, Const}
use Rattle.circuit_model.specs.Inference.{WordsFit, IsTuple, Matches, IsUsed, Forces}
use Rattle.environment_sets.specs.Sets.{Set, ◌⊆◌, size_below}
use Rattle.propagation.proofs.Uncovered.{lower_or_last}

abbrev no_words : List ℕ
no_words = []

-- a tuple that matches has each known word
pub Matches-at : (known : List (Option ℕ)) (t : List ℕ) (p v : ℕ) → Matches known t → slice_get known p ≡ Some (Some v) → slice_get t p ≡ Some v
Matches-at [] t p v m e = cc
Matches-at (None ∷ known) [] zero v m e = cc
Matches-at (None ∷ known) [] (suc p) v m e = absurd (let no : slice_get no_words p ≡ Some v = Matches-at known [] p v m e in cc)
Matches-at (None ∷ known) (x ∷ t) zero v m e = cc
Matches-at (None ∷ known) (x ∷ t) (suc p) v m e = Matches-at known t p v m e
Matches-at (Some y ∷ known) [] p v m e = absurd m
Matches-at (Some y ∷ known) (x ∷ t) zero v m e = let same : x ≡ y = m.0 in cc
Matches-at (Some y ∷ known) (x ∷ t) (suc p) v m e = Matches-at known t p v m.1 e

-- and one that has each known word matches
pub Matches-from : (known : List (Option ℕ)) (t : List ℕ) → ((p v : ℕ) → slice_get known p ≡ Some (Some v) → slice_get t p ≡ Some v) → Matches known t
Matches-from [] t each = tt
Matches-from (None ∷ known) [] each = Matches-from known [] (λ p v e. absurd (let no : slice_get no_words (suc p) ≡ Some v = each (suc p) v e in cc))
Matches-from (None ∷ known) (x ∷ t) each = Matches-from known t (λ p v e. each (suc p) v e)
Matches-from (Some y ∷ known) [] each = let no : slice_get no_words zero ≡ Some y = each zero y refl in cc
Matches-from (Some y ∷ known) (x ∷ t) each = ((let word : Some x ≡ Some y = each zero y refl in cc), Matches-from known t (λ p v e. each (suc p) v e))

-- three words alike fit where each width has room for them
alike_fit : (widths : List ℕ) (v : ℕ) → ((p w : ℕ) → slice_get widths p ≡ Some w → v < 2 ^ w) → WordsFit widths (Some v ∷ Some v ∷ Some v ∷ [])
alike_fit widths v room p w u width word = let same : v ≡ u = one_word p word in subst (λ (n : ℕ). n < 2 ^ w) same (room p w width)
  where
    one_word : (p : ℕ) → slice_get (Some v ∷ Some v ∷ Some v ∷ []) p ≡ Some (Some u) → v ≡ u
    one_word zero e = cc
    one_word (suc zero) e = cc
    one_word (suc (suc zero)) e = cc
    one_word (suc (suc (suc p))) e = cc

-- a product whose widths have more than one word each forces nothing where nothing is known
never_forced : (widths t : List ℕ) (q u : ℕ) → IsTuple Mul widths t → ((p w : ℕ) → slice_get widths p ≡ Some w → 1 < 2 ^ w) → ((s : List ℕ) → IsTuple Mul widths s → slice_get s q ≡ Some u) → ⊥
never_forced [] t q u tuple wide every = absurd tuple.relates
never_forced (w ∷ widths) t q u tuple wide every =
    let low : slice_get (0 ∷ 0 ∷ 0 ∷ []) q ≡ Some u = every (0 ∷ 0 ∷ 0 ∷ []) (record { fits = alike_fit (w ∷ widths) 0 (λ p x e. let room : 1 < 2 ^ x = wide p x e in omega (arith, room)); relates = refl }) in
    let high : slice_get (1 ∷ 1 ∷ 1 ∷ []) q ≡ Some u = every (1 ∷ 1 ∷ 1 ∷ []) (record { fits = alike_fit (w ∷ widths) 1 wide; relates = refl }) in
    apart q low high
  where
    apart : (p : ℕ) → slice_get (0 ∷ 0 ∷ 0 ∷ []) p ≡ Some u → slice_get (1 ∷ 1 ∷ 1 ∷ []) p ≡ Some u → ⊥
    apart zero low high = let x : 0 ≡ u = cc in let y : 1 ≡ u = cc in omega (arith, x, y)
    apart (suc zero) low high = let x : 0 ≡ u = cc in let y : 1 ≡ u = cc in omega (arith, x, y)
    apart (suc (suc zero)) low high = let x : 0 ≡ u = cc in let y : 1 ≡ u = cc in omega (arith, x, y)
    apart (suc (suc (suc p))) low high = cc

-- words among which those of an inference are, are used
pub used_more :
    (prim : Primitive) (widths : List ℕ) → ((p w : ℕ) → slice_get widths p ≡ Some w → 1 < 2 ^ w) → (a b z : Option ℕ) (q u : ℕ) → Forces prim widths (a ∷ b ∷ z ∷ []) q u
    → (x y o : Option ℕ) → (x ≡ None → a ≡ None) → (y ≡ None → b ≡ None) → IsUsed prim (x ∷ y ∷ o ∷ [])
used_more Buf widths wide a b z q u forces x y o none_x none_y = tt
used_more Not widths wide a b z q u forces x y o none_x none_y = tt
used_more And widths wide a b z q u forces x y o none_x none_y = tt
used_more Or widths wide a b z q u forces x y o none_x none_y = tt
used_more Xor widths wide a b z q u forces x y o none_x none_y = tt
used_more Nand widths wide a b z q u forces x y o none_x none_y = tt
used_more Nor widths wide a b z q u forces x y o none_x none_y = tt
used_more Xnor widths wide a b z q u forces x y o none_x none_y = tt
used_more Add widths wide a b z q u forces x y o none_x none_y = tt
used_more (Const value) widths wide a b z q u forces x y o none_x none_y = tt
used_more Mul widths wide a b z q u forces (Some x) y o none_x none_y = tt
used_more Mul widths wide a b z q u forces None (Some y) o none_x none_y = tt
used_more Mul widths wide a b z q u forces None None None none_x none_y = tt
used_more Mul widths wide (Some a) b z q u forces None None (Some o) none_x none_y = absurd (let no : Some a ≡ None = none_x refl in cc)
used_more Mul widths wide None (Some b) z q u forces None None (Some o) none_x none_y = absurd (let no : Some b ≡ None = none_y refl in cc)
used_more Mul widths wide None None (Some z) q u forces None None (Some o) none_x none_y = absurd forces.used
used_more Mul widths wide None None None q u forces None None (Some o) none_x none_y =
    absurd (never_forced widths forces.some_tuple.0 q u forces.some_tuple.1 wide (λ s tuple. forces.every_tuple s tuple (anything s)))
  where
    anything : (s : List ℕ) → Matches (None ∷ None ∷ None ∷ []) s
    anything s = Matches-from (None ∷ None ∷ None ∷ []) s nowhere
      where
        nowhere : (p v : ℕ) → slice_get (None ∷ None ∷ None ∷ []) p ≡ Some (Some v) → slice_get s p ≡ Some v
        nowhere zero v e = cc
        nowhere (suc zero) v e = cc
        nowhere (suc (suc zero)) v e = cc
        nowhere (suc (suc (suc p))) v e = cc

pub three_of : (xs : List (Option ℕ)) → length xs ≡ 3 → (a : Option ℕ) × (b : Option ℕ) × (z : Option ℕ) × (xs ≡ a ∷ b ∷ z ∷ [])
three_of [] e = absurd (omega arith)
three_of (a ∷ []) e = absurd (omega arith)
three_of (a ∷ b ∷ []) e = absurd (omega arith)
three_of (a ∷ b ∷ z ∷ []) e = (a, b, z, refl)
three_of (a ∷ b ∷ z ∷ x ∷ xs) e = absurd (omega arith)

pub used_of :
    (prim : Primitive) (widths : List ℕ) → ((p w : ℕ) → slice_get widths p ≡ Some w → 1 < 2 ^ w) → (others now : List (Option ℕ)) (q u : ℕ) → length others ≡ 3 → length now ≡ 3 → Forces prim widths others q u
    → ((p : ℕ) → p < 3 → slice_get now p ≡ Some None → slice_get others p ≡ Some None) → IsUsed prim now
used_of prim widths wide others now q u others_wide now_wide forces none =
    let x = three_of others others_wide in
    let y = three_of now now_wide in
    let forces' : Forces prim widths (x.0 ∷ x.1 ∷ x.2 ∷ []) q u = subst (λ (k : List (Option ℕ)). Forces prim widths k q u) x.3 forces in
    let none' : (p : ℕ) → p < 3 → slice_get (y.0 ∷ y.1 ∷ y.2 ∷ []) p ≡ Some None → slice_get (x.0 ∷ x.1 ∷ x.2 ∷ []) p ≡ Some None =
    subst (λ (k : List (Option ℕ)). (p : ℕ) → p < 3 → slice_get k p ≡ Some None → slice_get (x.0 ∷ x.1 ∷ x.2 ∷ []) p ≡ Some None) y.3
    (subst (λ (k : List (Option ℕ)). (p : ℕ) → p < 3 → slice_get now p ≡ Some None → slice_get k p ≡ Some None) x.3 none) in
    subst (IsUsed prim) (sym y.3)
    (used_more prim widths wide x.0 x.1 x.2 q u forces' y.0 y.1 y.2
    (λ e. let is : Some x.0 ≡ Some None = none' 0 (omega arith) (ap Some e) in cc)
    (λ e. let is : Some x.1 ≡ Some None = none' 1 (omega arith) (ap Some e) in cc))

-- fewer slots in a smaller set
pub size_grows : (n : ℕ) (G E : Set ℕ) → G ⊆ E → size_below n G ≤ size_below n E
unfolding size_below
size_grows zero G E within = omega arith
size_grows (suc n) G E within =
    let rest : size_below n G ≤ size_below n E = size_grows n G E within in
    elim (G n) as (λ b. G n ≡ b → size_below n G + cond b 1 0 ≤ size_below n E + cond (E n) 1 0) [
      | false ↦ λ _. omega (arith, rest)
      | true ↦ λ is. let there : E n ≡ true = within n is in rw there (omega (arith, rest))
    ] refl

-- a set of so many slots weighs so much: more than two smaller ones
unfoldable pub weight_of : ℕ → ℕ
weight_of zero = 1
weight_of (suc n) = 3 * weight_of n

pub weight_of-positive : (n : ℕ) → 0 < weight_of n
unfolding weight_of
weight_of-positive zero = omega arith
weight_of-positive (suc n) = omega (arith, weight_of-positive n)

pub weight_of-less : (n m : ℕ) → n < m → 3 * weight_of n ≤ weight_of m
unfolding weight_of
weight_of-less n zero h = absurd (omega arith)
weight_of-less n (suc m) h =
    elim (lower_or_last n m h) [
      | inl less ↦ omega (arith, weight_of-less n m less)
      | inr same ↦ rw same (omega arith)
    ]
