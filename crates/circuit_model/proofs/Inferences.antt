-- What an inference says of the ports and of the widths.
use Rattle.std.proofs.Common.{◌≡◌, ℕ, zero, suc, ◌<◌, ◌^◌, List, [], ◌∷◌, length, Option, Some, None, slice_get, refl, ◌∙◌, ap, arith}
use Rattle.std.specs.Option.{option_map}
use Rattle.std.proofs.lemmas.Option.{slice_get-map, slice_get_within}
use Rattle.circuit_model.specs.declared.model.Primitive.{Primitive}
use Rattle.circuit_model.specs.declared.model.Primitive.TheVariants.{Buf, Not, And, Or, Xor, Nand, Nor, Xnor, Add, Mul, Const}
use Rattle.circuit_model.specs.Inference.{ports_of, IsOne, AreTwo, AreThree, Relates, IsTuple, Matches, IsOfPorts, Forces}

IsOne-length : (R : ℕ → Type 0) (widths t : List ℕ) → IsOne R widths t → length t ≡ 1
IsOne-length R (w ∷ _) (z ∷ []) h = refl
IsOne-length R _ _ h = absurd h

AreTwo-length : (R : ℕ → ℕ → ℕ → Type 0) (widths t : List ℕ) → AreTwo R widths t → length t ≡ 2
AreTwo-length R (w ∷ _) (a ∷ z ∷ []) h = refl
AreTwo-length R _ _ h = absurd h

AreThree-length : (R : ℕ → ℕ → ℕ → ℕ → Type 0) (widths t : List ℕ) → AreThree R widths t → length t ≡ 3
AreThree-length R (w ∷ _) (a ∷ b ∷ z ∷ []) h = refl
AreThree-length R _ _ h = absurd h

-- a tuple of a relation has a word for each port
pub Relates-length : (prim : Primitive) (widths t : List ℕ) → Relates prim widths t → length t ≡ ports_of prim
Relates-length Buf widths t h = AreTwo-length _ widths t h
Relates-length Not widths t h = AreTwo-length _ widths t h
Relates-length And widths t h = AreThree-length _ widths t h
Relates-length Or widths t h = AreThree-length _ widths t h
Relates-length Xor widths t h = AreThree-length _ widths t h
Relates-length Nand widths t h = AreThree-length _ widths t h
Relates-length Nor widths t h = AreThree-length _ widths t h
Relates-length Xnor widths t h = AreThree-length _ widths t h
Relates-length Add widths t h = AreThree-length _ widths t h
Relates-length Mul widths t h = AreThree-length _ widths t h
Relates-length (Const value) widths t h = IsOne-length _ widths t h

-- a word of a tuple fits the width at its port
pub word_fits : (prim : Primitive) (widths t : List ℕ) (p w v : ℕ) → IsTuple prim widths t → slice_get widths p ≡ Some w → slice_get t p ≡ Some v → v < 2 ^ w
word_fits prim widths t p w v tuple width word = tuple.fits p w v width (slice_get-map Some t p ∙ ap (option_map Some) word)

-- a tuple has a word where one is known
pub Matches-within : (known : List (Option ℕ)) (t : List ℕ) (p v : ℕ) → Matches known t → slice_get known p ≡ Some (Some v) → p < length t
Matches-within [] t p v m e = cc
Matches-within (None ∷ known) [] zero v m e = cc
Matches-within (None ∷ known) [] (suc p) v m e = absurd (let below : p < 0 = Matches-within known [] p v m e in omega arith)
Matches-within (None ∷ known) (x ∷ t) zero v m e = cc
Matches-within (None ∷ known) (x ∷ t) (suc p) v m e = omega (arith, Matches-within known t p v m e)
Matches-within (Some y ∷ known) [] p v m e = absurd m
Matches-within (Some y ∷ known) (x ∷ t) zero v m e = omega arith
Matches-within (Some y ∷ known) (x ∷ t) (suc p) v m e = omega (arith, Matches-within known t p v m.1 e)

module _ (prim : Primitive) (widths : List ℕ) (known : List (Option ℕ)) where
  -- a word is forced at a port
  pub Forces-port : (port v : ℕ) → Forces prim widths known port v → port < ports_of prim
  Forces-port port v h =
      let t : List ℕ = h.some_tuple.0 in
      let there : slice_get t port ≡ Some v = h.every_tuple t h.some_tuple.1 h.some_tuple.2 in
      let inside : port < length t = slice_get_within t port v there in
      rw (← Relates-length prim widths t h.some_tuple.1.relates) inside

  -- words that force are at ports
  pub Forces-of_ports : (port v : ℕ) → Forces prim widths known port v → IsOfPorts prim known
  Forces-of_ports port v h p w e =
      let t : List ℕ = h.some_tuple.0 in
      let inside : p < length t = Matches-within known t p w h.some_tuple.2 e in
      rw (← Relates-length prim widths t h.some_tuple.1.relates) inside
