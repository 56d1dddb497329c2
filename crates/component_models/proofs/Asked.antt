-- From the widths and the known words by name to the lists that hold them.
use Rattle.std.proofs.Common.{◌≡◌, ℕ, zero, suc, ◌+◌, ◌^◌, ◌<◌, ◌==◌, Bool, false, List, [], ◌∷◌, length, get_or, Option, Some, None, slice_get, refl, sym, ap, subst, arith}
use Rattle.std.proofs.lemmas.Bool.{and_parts, eqb-true, ltb-true}
use Rattle.circuit_model.specs.declared.model.Primitive.{Primitive}
use Rattle.circuit_model.specs.declared.model.Primitive.TheVariants.{And, Mul, Const}
use Rattle.circuit_model.specs.Inference.{ports_of, IsOfPorts, IsInference}
use Rattle.circuit_model.specs.Lawful.{AreLawfulWidths}
use Rattle.component_models.specs.Asking.{HasOpenPort}
use Rattle.component_models.proofs.Constants.{const_is_exact}
use Rattle.component_models.proofs.Fitting.{places}

equal_widths : (widths : List ℕ) (d : ℕ) → length widths ≡ 3 → AreLawfulWidths And widths → widths ≡ get_or widths 0 d ∷ get_or widths 0 d ∷ get_or widths 0 d ∷ []
equal_widths [] d three h = absurd (omega (arith, three))
equal_widths (a ∷ []) d three h = absurd (omega (arith, three))
equal_widths (a ∷ b ∷ []) d three h = absurd (omega (arith, three))
equal_widths (a ∷ b ∷ z ∷ []) d three h =
    let both = and_parts (a == b) (b == z) h.0 in
    let first : a ≡ b = eqb-true a b both.0 in
    let second : b ≡ z = eqb-true b z both.1 in
    cc
equal_widths (a ∷ b ∷ z ∷ x ∷ widths) d three h = absurd (omega (arith, three))

-- no word is known past the ports
unknown_past : (prim : Primitive) (n : ℕ) → ports_of prim ≡ n → (known : List (Option ℕ)) → IsOfPorts prim known → (p : ℕ) (o : Option ℕ) → n < p + 1 → slice_get known p ≡ Some o → o ≡ None
unknown_past prim n e known of_ports p None past at = refl
unknown_past prim n e known of_ports p (Some v) past at = let within : p < ports_of prim = of_ports p v at in absurd (omega arith)

two_places : (prim : Primitive) → ports_of prim ≡ 2 → (known : List (Option ℕ)) → length known ≡ 3 → IsOfPorts prim known → known ≡ get_or known 0 None ∷ get_or known 1 None ∷ None ∷ []
two_places prim e [] n of_ports = absurd (omega (arith, n))
two_places prim e (a ∷ []) n of_ports = absurd (omega (arith, n))
two_places prim e (a ∷ b ∷ []) n of_ports = absurd (omega (arith, n))
two_places prim e (a ∷ b ∷ z ∷ []) n of_ports = let none : z ≡ None = unknown_past prim 2 e (a ∷ b ∷ z ∷ []) of_ports 2 z (omega arith) refl in ap (λ z. a ∷ b ∷ z ∷ []) none
two_places prim e (a ∷ b ∷ z ∷ x ∷ known) n of_ports = absurd (omega (arith, n))

one_place : (prim : Primitive) → ports_of prim ≡ 1 → (known : List (Option ℕ)) → length known ≡ 3 → IsOfPorts prim known → slice_get known 0 ≡ Some None → known ≡ None ∷ None ∷ None ∷ []
one_place prim e [] n of_ports unknown = absurd (omega (arith, n))
one_place prim e (a ∷ []) n of_ports unknown = absurd (omega (arith, n))
one_place prim e (a ∷ b ∷ []) n of_ports unknown = absurd (omega (arith, n))
one_place prim e (a ∷ b ∷ z ∷ []) n of_ports unknown =
    let first : a ≡ None = cc in
    let second : b ≡ None = unknown_past prim 1 e (a ∷ b ∷ z ∷ []) of_ports 1 b (omega arith) refl in
    let third : z ≡ None = unknown_past prim 1 e (a ∷ b ∷ z ∷ []) of_ports 2 z (omega arith) refl in
    cc
one_place prim e (a ∷ b ∷ z ∷ x ∷ known) n of_ports unknown = absurd (omega (arith, n))

module _ (prim : Primitive) (widths : List ℕ) (known : List (Option ℕ)) (three_widths : length widths ≡ 3) (three : length known ≡ 3) (d : ℕ) (refuted : Bool) (forced : List (Option ℕ)) where
  abbrev w : ℕ
  w = get_or widths 0 d

  abbrev alike : List ℕ
  alike = w ∷ w ∷ w ∷ []

  pub of_three_ports : AreLawfulWidths And widths → IsInference prim alike (get_or known 0 None ∷ get_or known 1 None ∷ get_or known 2 None ∷ []) refuted forced → IsInference prim widths known refuted forced
  of_three_ports lawful i =
      let C : List ℕ → Type 0 = λ ws. IsInference prim ws known refuted forced in
      let D : List (Option ℕ) → Type 0 = λ ks. IsInference prim alike ks refuted forced in
      subst C (sym (equal_widths widths d three_widths lawful)) (subst D (sym (places known three)) i)

  pub of_two_ports : AreLawfulWidths And widths → ports_of prim ≡ 2 → IsOfPorts prim known → IsInference prim alike (get_or known 0 None ∷ get_or known 1 None ∷ None ∷ []) refuted forced → IsInference prim widths known refuted forced
  of_two_ports lawful two of_ports i =
      let C : List ℕ → Type 0 = λ ws. IsInference prim ws known refuted forced in
      let D : List (Option ℕ) → Type 0 = λ ks. IsInference prim alike ks refuted forced in
      subst C (sym (equal_widths widths d three_widths lawful)) (subst D (sym (two_places prim two known three of_ports)) i)

first_is_open : (value : ℕ) (known : List (Option ℕ)) → HasOpenPort (Const value) known → slice_get known 0 ≡ Some None
first_is_open value known (zero, low, e) = e
first_is_open value known (suc p, low, e) = absurd (omega arith)

pub of_constant : (value : ℕ) (widths : List ℕ) → length widths ≡ 3 → AreLawfulWidths (Const value) widths → (known : List (Option ℕ)) → length known ≡ 3 → IsOfPorts (Const value) known → HasOpenPort (Const value) known → (refuted : Bool) (forced : List (Option ℕ)) → refuted ≡ false → forced ≡ Some value ∷ None ∷ None ∷ [] → IsInference (Const value) widths known refuted forced
of_constant value [] three h known n of_ports unknown refuted forced r f = absurd (omega (arith, three))
of_constant value (w ∷ widths) three h known n of_ports unknown refuted forced r f =
    rw (one_place (Const value) refl known n of_ports (first_is_open value known unknown), r, f) (const_is_exact value w widths (ltb-true value (2 ^ w) h.1))

product_widths : (widths : List ℕ) (d e : ℕ) → length widths ≡ 3 → AreLawfulWidths Mul widths → widths ≡ get_or widths 0 d ∷ get_or widths 1 e ∷ (get_or widths 0 d + get_or widths 1 e) ∷ []
product_widths [] d e three h = absurd (omega (arith, three))
product_widths (a ∷ []) d e three h = absurd (omega (arith, three))
product_widths (a ∷ b ∷ []) d e three h = absurd (omega (arith, three))
product_widths (a ∷ b ∷ z ∷ []) d e three h = ap (λ z. a ∷ b ∷ z ∷ []) (eqb-true z (a + b) h.0)
product_widths (a ∷ b ∷ z ∷ x ∷ widths) d e three h = absurd (omega (arith, three))

pub of_multiplier : (widths : List ℕ) (d e : ℕ) → length widths ≡ 3 → AreLawfulWidths Mul widths → (known : List (Option ℕ)) → length known ≡ 3 → (refuted : Bool) (forced : List (Option ℕ)) → IsInference Mul (get_or widths 0 d ∷ get_or widths 1 e ∷ (get_or widths 0 d + get_or widths 1 e) ∷ []) (get_or known 0 None ∷ get_or known 1 None ∷ get_or known 2 None ∷ []) refuted forced → IsInference Mul widths known refuted forced
of_multiplier widths d e three_widths lawful known three refuted forced i =
    let C : List ℕ → Type 0 = λ ws. IsInference Mul ws known refuted forced in
    let D : List (Option ℕ) → Type 0 = λ ks. IsInference Mul (get_or widths 0 d ∷ get_or widths 1 e ∷ (get_or widths 0 d + get_or widths 1 e) ∷ []) ks refuted forced in
    subst C (sym (product_widths widths d e three_widths lawful)) (subst D (sym (places known three)) i)
