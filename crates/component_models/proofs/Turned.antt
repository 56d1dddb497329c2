-- One kind from another, by complementing the words at some ports.
use Rattle.std.proofs.Common.{◌≡◌, ℕ, zero, suc, ◌^◌, ◌<◌, Bool, true, false, IsTrue, refl, sym, ap, ap₂, subst, ◌∙◌, List, [], ◌∷◌, Option, Some, None, IfSome, slice_get, arith, bit_and, bit_xor}
use Rattle.std.specs.Option.{option_map}
use Rattle.std.proofs.lemmas.Option.{same_Some}
use Rattle.circuit_model.specs.declared.model.Primitive.{Primitive}
use Rattle.circuit_model.specs.declared.model.Primitive.TheVariants.{And, Or, Xor, Nand, Nor, Xnor}
use Rattle.circuit_model.specs.Inference.{ports_of, IsTuple, Matches, IsUnknownAt, IsUsed, Refutes, Forces, IsInference}
use Rattle.component_models.proofs.Functions.{IsFunction}
use Rattle.component_models.proofs.Complements.{complement_of, complement-lt, complement-complement}
use Rattle.component_models.proofs.Bitwise.{and_function, or_function, xor_function, nand_function, nor_function, xnor_function}

-- the complement of a word of w bits, where asked
abbrev pub turn : ℕ → Bool → ℕ → ℕ
turn w true v = complement_of w v
turn w false v = v

turn-lt : (w : ℕ) (b : Bool) (v : ℕ) → v < 2 ^ w → turn w b v < 2 ^ w
turn-lt w true v p = complement-lt w v p
turn-lt w false v p = p

turn-turn : (w : ℕ) (b : Bool) (v : ℕ) → v < 2 ^ w → turn w b (turn w b v) ≡ v
turn-turn w true v p = complement-complement w v p
turn-turn w false v p = refl

abbrev pub turn_known : ℕ → Bool → Option ℕ → Option ℕ
turn_known w b = option_map (turn w b)

-- two kinds, each tuple of the one turned at its ports being one of the other
record AreTurned (w : ℕ) (P Q : Primitive) (f g h : Bool) : Type 1 where
  open_ports : ports_of P ≡ ports_of Q
  used : (known : List (Option ℕ)) → IsUsed P known
  used' : (known : List (Option ℕ)) → IsUsed Q known
  shape : (C : List ℕ → Type 0) → ((a b z : ℕ) → a < 2 ^ w → b < 2 ^ w → z < 2 ^ w → C (a ∷ b ∷ z ∷ [])) → (t : List ℕ) → IsTuple P (w ∷ w ∷ w ∷ []) t → C t
  shape' : (C : List ℕ → Type 0) → ((a b z : ℕ) → a < 2 ^ w → b < 2 ^ w → z < 2 ^ w → C (a ∷ b ∷ z ∷ [])) → (t : List ℕ) → IsTuple Q (w ∷ w ∷ w ∷ []) t → C t
  there : (a b z : ℕ) → IsTuple P (w ∷ w ∷ w ∷ []) (a ∷ b ∷ z ∷ []) → IsTuple Q (w ∷ w ∷ w ∷ []) (turn w f a ∷ turn w g b ∷ turn w h z ∷ [])
  back : (a b z : ℕ) → IsTuple Q (w ∷ w ∷ w ∷ []) (a ∷ b ∷ z ∷ []) → IsTuple P (w ∷ w ∷ w ∷ []) (turn w f a ∷ turn w g b ∷ turn w h z ∷ [])

swapped : (w : ℕ) (P Q : Primitive) (f g h : Bool) → AreTurned w P Q f g h → AreTurned w Q P f g h
swapped w P Q f g h r = record { open_ports = sym r.open_ports; used = r.used'; used' = r.used; shape = r.shape'; shape' = r.shape; there = r.back; back = r.there }

abbrev pub turn_all : ℕ → Bool → Bool → Bool → List ℕ → List ℕ
turn_all w f g h (a ∷ b ∷ z ∷ []) = turn w f a ∷ turn w g b ∷ turn w h z ∷ []
turn_all w f g h t = t

match_head : (w : ℕ) (f : Bool) (o : Option ℕ) (v : ℕ) (known known' : List (Option ℕ)) (t t' : List ℕ) → (Matches known t → Matches known' t') → Matches (o ∷ known) (v ∷ t) → Matches (turn_known w f o ∷ known') (turn w f v ∷ t')
match_head w f None v known known' t t' rest m = rest m
match_head w f (Some x) v known known' t t' rest m = (ap (turn w f) m.0, rest m.1)

turn_known-twice : (w : ℕ) (f : Bool) (o : Option ℕ) → IfSome o (λ v. v < 2 ^ w) → turn_known w f (turn_known w f o) ≡ o
turn_known-twice w f None p = refl
turn_known-twice w f (Some v) p = ap Some (turn-turn w f v p)

turn_known-fits : (w : ℕ) (f : Bool) (o : Option ℕ) → IfSome o (λ v. v < 2 ^ w) → IfSome (turn_known w f o) (λ v. v < 2 ^ w)
turn_known-fits w f None p = p
turn_known-fits w f (Some v) p = turn-lt w f v p

abbrev pub turn_at : ℕ → Bool → Bool → Bool → ℕ → ℕ → ℕ
turn_at w f g h zero = turn w f
turn_at w f g h (suc zero) = turn w g
turn_at w f g h (suc (suc p)) = turn w h

turn-Some : (w : ℕ) (f : Bool) (x v : ℕ) → x < 2 ^ w → Some (turn w f x) ≡ Some v → Some x ≡ Some (turn w f v)
turn-Some w f x v p e = ap Some (sym (turn-turn w f x p) ∙ ap (turn w f) (same_Some _ _ e))

module _ (w : ℕ) (P Q : Primitive) (f g h : Bool) (r : AreTurned w P Q f g h) (a b z : Option ℕ) (pa : IfSome a (λ v. v < 2 ^ w)) (pb : IfSome b (λ v. v < 2 ^ w)) (pz : IfSome z (λ v. v < 2 ^ w)) where
  abbrev widths : List ℕ
  widths = w ∷ w ∷ w ∷ []

  abbrev known : List (Option ℕ)
  known = a ∷ b ∷ z ∷ []

  abbrev known' : List (Option ℕ)
  known' = turn_known w f a ∷ turn_known w g b ∷ turn_known w h z ∷ []

  tuple_there : (t : List ℕ) → IsTuple P widths t → Matches known t → IsTuple Q widths (turn_all w f g h t) × Matches known' (turn_all w f g h t)
  tuple_there t tuple m =
      r.shape (λ t. IsTuple P widths t → Matches known t → IsTuple Q widths (turn_all w f g h t) × Matches known' (turn_all w f g h t)) (λ x y u px py pu k n.
      (r.there x y u k, match_head w f a x _ _ _ _ (match_head w g b y _ _ _ _ (match_head w h z u _ _ _ _ (λ e. e))) n)) t tuple tuple m

  tuple_back : (t : List ℕ) → IsTuple Q widths t → Matches known' t → IsTuple P widths (turn_all w f g h t) × Matches known (turn_all w f g h t)
  tuple_back t tuple m =
      r.shape' (λ t. IsTuple Q widths t → Matches known' t → IsTuple P widths (turn_all w f g h t) × Matches known (turn_all w f g h t)) (λ x y u px py pu k n.
      let again : Matches (turn_known w f (turn_known w f a) ∷ turn_known w g (turn_known w g b) ∷ turn_known w h (turn_known w h z) ∷ []) (turn w f x ∷ turn w g y ∷ turn w h u ∷ []) = match_head w f (turn_known w f a) x _ _ _ _ (match_head w g (turn_known w g b) y _ _ _ _ (match_head w h (turn_known w h z) u _ _ _ _ (λ e. e))) n in
      (r.back x y u k, back_again (turn w f x ∷ turn w g y ∷ turn w h u ∷ []) again)) t tuple tuple m
    where
      same : turn_known w f (turn_known w f a) ∷ turn_known w g (turn_known w g b) ∷ turn_known w h (turn_known w h z) ∷ [] ≡ known
      same = rw (turn_known-twice w f a pa, turn_known-twice w g b pb, turn_known-twice w h z pz) refl

      back_again : (t : List ℕ) → Matches (turn_known w f (turn_known w f a) ∷ turn_known w g (turn_known w g b) ∷ turn_known w h (turn_known w h z) ∷ []) t → Matches known t
      back_again t m = let C : List (Option ℕ) → Type 0 = λ k. Matches k t in subst C same m

  turn_none : (q : Bool) (o : Option ℕ) → Some o ≡ Some None → Some (turn_known w q o) ≡ Some None
  turn_none q None e = refl
  turn_none q (Some x) e = cc

  unknown_there : (p : ℕ) → IsUnknownAt known p → IsUnknownAt known' p
  unknown_there zero e = turn_none f a e
  unknown_there (suc zero) e = turn_none g b e
  unknown_there (suc (suc zero)) e = turn_none h z e
  unknown_there (suc (suc (suc p))) e = cc

  turn_some : (q : Bool) (o : Option ℕ) (v : ℕ) → Some (turn_known w q o) ≡ Some (Some v) → (x : ℕ) × (Some o ≡ Some (Some x))
  turn_some q None v e = cc
  turn_some q (Some x) v e = (x, refl)

  known_back : (p v : ℕ) → slice_get known' p ≡ Some (Some v) → (x : ℕ) × (slice_get known p ≡ Some (Some x))
  known_back zero v e = turn_some f a v e
  known_back (suc zero) v e = turn_some g b v e
  known_back (suc (suc zero)) v e = turn_some h z v e
  known_back (suc (suc (suc p))) v e = cc

  refutes_there : Refutes P widths known → Refutes Q widths known'
  refutes_there k = record {
    used = r.used' known';
    within = λ p v e. let old : (x : ℕ) × (slice_get known p ≡ Some (Some x)) = known_back p v e in let low : p < ports_of P = k.within p old.0 old.1 in (let C : ℕ → Type 0 = λ n. p < n in subst C r.open_ports low);
    open_port = (k.open_port.0, let low : k.open_port.0 < ports_of P = k.open_port.1 in (let C : ℕ → Type 0 = λ n. k.open_port.0 < n in subst C r.open_ports low), unknown_there k.open_port.0 k.open_port.2);
    no_tuple = λ t tuple m. let n = tuple_back t tuple m in k.no_tuple (turn_all w f g h t) n.0 n.1;
  }

  at_port : (v : ℕ) (p : ℕ) (t : List ℕ) → IsTuple Q widths t → slice_get (turn_all w f g h t) p ≡ Some v → slice_get t p ≡ Some (turn_at w f g h p v)
  at_port v p = r.shape' (λ t. slice_get (turn_all w f g h t) p ≡ Some v → slice_get t p ≡ Some (turn_at w f g h p v)) (λ x y u px py pu. here p x y u px py pu)
    where
      here : (p x y u : ℕ) → x < 2 ^ w → y < 2 ^ w → u < 2 ^ w → slice_get (turn w f x ∷ turn w g y ∷ turn w h u ∷ []) p ≡ Some v → slice_get (x ∷ y ∷ u ∷ []) p ≡ Some (turn_at w f g h p v)
      here zero x y u px py pu e = turn-Some w f x v px e
      here (suc zero) x y u px py pu e = turn-Some w g y v py e
      here (suc (suc zero)) x y u px py pu e = turn-Some w h u v pu e
      here (suc (suc (suc p))) x y u px py pu e = cc

  forces_there : (p v : ℕ) → Forces P widths known p v → Forces Q widths known' p (turn_at w f g h p v)
  forces_there p v k =
      let there = tuple_there k.some_tuple.0 k.some_tuple.1 k.some_tuple.2 in
      record {
        used = r.used' known';
        unknown = unknown_there p k.unknown;
        some_tuple = (turn_all w f g h k.some_tuple.0, there.0, there.1);
        every_tuple = λ t tuple m. let n = tuple_back t tuple m in at_port v p t tuple (k.every_tuple (turn_all w f g h t) n.0 n.1);
      }

module _ (w : ℕ) (P Q : Primitive) (f g h : Bool) (r : AreTurned w P Q f g h) (a b z : Option ℕ) (pa : IfSome a (λ v. v < 2 ^ w)) (pb : IfSome b (λ v. v < 2 ^ w)) (pz : IfSome z (λ v. v < 2 ^ w)) where
  same_known : turn_known w f (turn_known w f a) ∷ turn_known w g (turn_known w g b) ∷ turn_known w h (turn_known w h z) ∷ [] ≡ a ∷ b ∷ z ∷ []
  same_known = rw (turn_known-twice w f a pa, turn_known-twice w g b pb, turn_known-twice w h z pz) refl

  refutes_back : Refutes Q (w ∷ w ∷ w ∷ []) (turn_known w f a ∷ turn_known w g b ∷ turn_known w h z ∷ []) → Refutes P (w ∷ w ∷ w ∷ []) (a ∷ b ∷ z ∷ [])
  refutes_back k = subst (Refutes P (w ∷ w ∷ w ∷ [])) same_known (refutes_there w Q P f g h (swapped w P Q f g h r) _ _ _ (turn_known-fits w f a pa) (turn_known-fits w g b pb) (turn_known-fits w h z pz) k)

  forces_back : (p v : ℕ) → Forces Q (w ∷ w ∷ w ∷ []) (turn_known w f a ∷ turn_known w g b ∷ turn_known w h z ∷ []) p v → Forces P (w ∷ w ∷ w ∷ []) (a ∷ b ∷ z ∷ []) p (turn_at w f g h p v)
  forces_back p v k = let C : List (Option ℕ) → Type 0 = λ known. Forces P (w ∷ w ∷ w ∷ []) known p (turn_at w f g h p v) in subst C same_known (forces_there w Q P f g h (swapped w P Q f g h r) _ _ _ (turn_known-fits w f a pa) (turn_known-fits w g b pb) (turn_known-fits w h z pz) p v k)

  word_fits : (p v : ℕ) → Forces Q (w ∷ w ∷ w ∷ []) (turn_known w f a ∷ turn_known w g b ∷ turn_known w h z ∷ []) p v → v < 2 ^ w
  word_fits p v k = r.shape' (λ t. slice_get t p ≡ Some v → v < 2 ^ w) (λ x y u px py pu. here p x y u px py pu) k.some_tuple.0 k.some_tuple.1 (k.every_tuple k.some_tuple.0 k.some_tuple.1 k.some_tuple.2)
    where
      moved : (x : ℕ) → x < 2 ^ w → Some x ≡ Some v → v < 2 ^ w
      moved x p e = let q : x ≡ v = same_Some _ _ e in omega arith

      here : (p x y u : ℕ) → x < 2 ^ w → y < 2 ^ w → u < 2 ^ w → slice_get (x ∷ y ∷ u ∷ []) p ≡ Some v → v < 2 ^ w
      here zero x y u px py pu e = moved x px e
      here (suc zero) x y u px py pu e = moved y py e
      here (suc (suc zero)) x y u px py pu e = moved u pu e
      here (suc (suc (suc p))) x y u px py pu e = cc

  module _ (out : Bool) (fa fb fz : Option ℕ) (i : IsInference P (w ∷ w ∷ w ∷ []) (a ∷ b ∷ z ∷ []) out (fa ∷ fb ∷ fz ∷ [])) where
    turned_some : (q : Bool) (o : Option ℕ) (v : ℕ) → Some (turn_known w q o) ≡ Some (Some v) → (x : ℕ) × (Some o ≡ Some (Some x)) × (turn w q x ≡ v)
    turned_some q None v e = cc
    turned_some q (Some x) v e = (x, refl, same_Some _ _ (same_Some _ _ e))

    some_turned : (q : Bool) (o : Option ℕ) (v : ℕ) → v < 2 ^ w → Some o ≡ Some (Some (turn w q v)) → Some (turn_known w q o) ≡ Some (Some v)
    some_turned q o v p e = ap Some (ap (turn_known w q) (same_Some _ _ e) ∙ ap Some (turn-turn w q v p))

    turned_inference : IsInference Q (w ∷ w ∷ w ∷ []) (turn_known w f a ∷ turn_known w g b ∷ turn_known w h z ∷ []) out (turn_known w f fa ∷ turn_known w g fb ∷ turn_known w h fz ∷ [])
    turned_inference = record {
      refutes_exactly = (λ (e : IsTrue out). refutes_there w P Q f g h r a b z pa pb pz (i.refutes_exactly.0 e), λ (k : Refutes Q (w ∷ w ∷ w ∷ []) (turn_known w f a ∷ turn_known w g b ∷ turn_known w h z ∷ [])). i.refutes_exactly.1 (refutes_back k));
      forces_exactly = λ p v. (to p v, from p v);
    } where
      move : (p x v : ℕ) → turn_at w f g h p x ≡ v → Forces P (w ∷ w ∷ w ∷ []) (a ∷ b ∷ z ∷ []) p x → Forces Q (w ∷ w ∷ w ∷ []) (turn_known w f a ∷ turn_known w g b ∷ turn_known w h z ∷ []) p v
      move p x v e k = subst (Forces Q (w ∷ w ∷ w ∷ []) (turn_known w f a ∷ turn_known w g b ∷ turn_known w h z ∷ []) p) e (forces_there w P Q f g h r a b z pa pb pz p x k)

      to : (p v : ℕ) → slice_get (turn_known w f fa ∷ turn_known w g fb ∷ turn_known w h fz ∷ []) p ≡ Some (Some v) → Forces Q (w ∷ w ∷ w ∷ []) (turn_known w f a ∷ turn_known w g b ∷ turn_known w h z ∷ []) p v
      to zero v e = let t = turned_some f fa v e in move 0 t.0 v t.2 ((i.forces_exactly 0 t.0).0 t.1)
      to (suc zero) v e = let t = turned_some g fb v e in move 1 t.0 v t.2 ((i.forces_exactly 1 t.0).0 t.1)
      to (suc (suc zero)) v e = let t = turned_some h fz v e in move 2 t.0 v t.2 ((i.forces_exactly 2 t.0).0 t.1)
      to (suc (suc (suc p))) v e = cc

      from : (p v : ℕ) → Forces Q (w ∷ w ∷ w ∷ []) (turn_known w f a ∷ turn_known w g b ∷ turn_known w h z ∷ []) p v → slice_get (turn_known w f fa ∷ turn_known w g fb ∷ turn_known w h fz ∷ []) p ≡ Some (Some v)
      from zero v k = some_turned f fa v (word_fits 0 v k) ((i.forces_exactly 0 (turn w f v)).1 (forces_back 0 v k))
      from (suc zero) v k = some_turned g fb v (word_fits 1 v k) ((i.forces_exactly 1 (turn w g v)).1 (forces_back 1 v k))
      from (suc (suc zero)) v k = some_turned h fz v (word_fits 2 v k) ((i.forces_exactly 2 (turn w h v)).1 (forces_back 2 v k))
      from (suc (suc (suc p))) v k = absurd (beyond (i.forces_exactly (suc (suc (suc p))) (turn w h v)).1 (forces_back (suc (suc (suc p))) v k)) where
        beyond : (Forces P (w ∷ w ∷ w ∷ []) (a ∷ b ∷ z ∷ []) (suc (suc (suc p))) (turn w h v) → slice_get (fa ∷ fb ∷ fz ∷ []) (suc (suc (suc p))) ≡ Some (Some (turn w h v))) → Forces P (w ∷ w ∷ w ∷ []) (a ∷ b ∷ z ∷ []) (suc (suc (suc p))) (turn w h v) → ⊥
        beyond e k = let n = e k in cc

-- a kind whose function is that of another one between complements
module _ (w : ℕ) (P Q : Primitive) (s r : Bool) (f : ℕ → ℕ → ℕ) (open_ports : ports_of P ≡ ports_of Q) (used : (known : List (Option ℕ)) → IsUsed P known) (used' : (known : List (Option ℕ)) → IsUsed Q known) (is : IsFunction P w w w f) (is' : IsFunction Q w w w (λ a b. turn w r (f (turn w s a) (turn w s b)))) where
  abbrev ws : List ℕ
  ws = w ∷ w ∷ w ∷ []

  turned_there : (t : List ℕ) → IsTuple P ws t → IsTuple Q ws (turn_all w s s r t)
  turned_there = is.by_words (λ t. IsTuple Q ws (turn_all w s s r t)) (λ a b z p q k e.
      is'.tuple_of (turn w s a) (turn w s b) (turn w r z) (turn-lt w s a p) (turn-lt w s b q) (turn-lt w r z k) (ap (turn w r) (e ∙ sym (ap₂ f (turn-turn w s a p) (turn-turn w s b q)))))

  turned_back : (t : List ℕ) → IsTuple Q ws t → IsTuple P ws (turn_all w s s r t)
  turned_back = is'.by_words (λ t. IsTuple P ws (turn_all w s s r t)) (λ a b z p q k e.
      is.tuple_of (turn w s a) (turn w s b) (turn w r z) (turn-lt w s a p) (turn-lt w s b q) (turn-lt w r z k) (ap (turn w r) e ∙ turn-turn w r _ (is.third_fits (turn w s a) (turn w s b) (turn-lt w s a p) (turn-lt w s b q))))

  turned : AreTurned w P Q s s r
  turned = record {
    open_ports = open_ports;
    used = used;
    used' = used';
    shape = λ C here. is.by_words C (λ a b z p q k _. here a b z p q k);
    shape' = λ C here. is'.by_words C (λ a b z p q k _. here a b z p q k);
    there = λ a b z. turned_there (a ∷ b ∷ z ∷ []);
    back = λ a b z. turned_back (a ∷ b ∷ z ∷ []);
  }

  turned_is_exact : (a b z : Option ℕ) → IfSome a (λ a. a < 2 ^ w) → IfSome b (λ b. b < 2 ^ w) → IfSome z (λ z. z < 2 ^ w) → (out : Bool) (fa fb fz : Option ℕ) → IsInference P ws (turn_known w s a ∷ turn_known w s b ∷ turn_known w r z ∷ []) out (fa ∷ fb ∷ fz ∷ []) → IsInference Q ws (a ∷ b ∷ z ∷ []) out (turn_known w s fa ∷ turn_known w s fb ∷ turn_known w r fz ∷ [])
  turned_is_exact a b z pa pb pz out fa fb fz i =
      let C : List (Option ℕ) → Type 0 = λ known. IsInference Q ws known out (turn_known w s fa ∷ turn_known w s fb ∷ turn_known w r fz ∷ []) in
      subst C (same_known w P Q s s r turned a b z pa pb pz) (turned_inference w P Q s s r turned _ _ _ (turn_known-fits w s a pa) (turn_known-fits w s b pb) (turn_known-fits w r z pz) out fa fb fz i)

-- where nothing is complemented
unturned : (w : ℕ) (o : Option ℕ) → turn_known w false o ≡ o
unturned w None = refl
unturned w (Some v) = refl

module _ (w : ℕ) (a b z : Option ℕ) (pa : IfSome a (λ v. v < 2 ^ w)) (pb : IfSome b (λ v. v < 2 ^ w)) (pz : IfSome z (λ v. v < 2 ^ w)) (out : Bool) (fa fb fz : Option ℕ) where
  abbrev alike : List ℕ
  alike = w ∷ w ∷ w ∷ []

  abbrev other : Option ℕ → Option ℕ
  other = option_map (complement_of w)

  at_inputs : (P : Primitive) (k : Option ℕ) → IsInference P alike (a ∷ b ∷ k ∷ []) out (fa ∷ fb ∷ fz ∷ []) → IsInference P alike (turn_known w false a ∷ turn_known w false b ∷ k ∷ []) out (fa ∷ fb ∷ fz ∷ [])
  at_inputs P k i = rw (unturned w a, unturned w b) i

  at_output : (P : Primitive) → IsInference P alike (other a ∷ other b ∷ z ∷ []) out (fa ∷ fb ∷ fz ∷ []) → IsInference P alike (turn_known w true a ∷ turn_known w true b ∷ turn_known w false z ∷ []) out (fa ∷ fb ∷ fz ∷ [])
  at_output P i = rw (unturned w z) i

  inputs_alone : turn_known w false fa ∷ turn_known w false fb ∷ other fz ∷ [] ≡ fa ∷ fb ∷ other fz ∷ []
  inputs_alone = rw (unturned w fa, unturned w fb) refl

  output_alone : other fa ∷ other fb ∷ turn_known w false fz ∷ [] ≡ other fa ∷ other fb ∷ fz ∷ []
  output_alone = rw (unturned w fz) refl

  pub or_is_exact : IsInference And alike (other a ∷ other b ∷ other z ∷ []) out (fa ∷ fb ∷ fz ∷ []) → IsInference Or alike (a ∷ b ∷ z ∷ []) out (other fa ∷ other fb ∷ other fz ∷ [])
  or_is_exact = turned_is_exact w And Or true true bit_and refl (λ _. tt) (λ _. tt) (and_function w) (or_function w) a b z pa pb pz out fa fb fz

  pub nand_is_exact : IsInference And alike (a ∷ b ∷ other z ∷ []) out (fa ∷ fb ∷ fz ∷ []) → IsInference Nand alike (a ∷ b ∷ z ∷ []) out (fa ∷ fb ∷ other fz ∷ [])
  nand_is_exact i = subst (IsInference Nand alike (a ∷ b ∷ z ∷ []) out) inputs_alone (turned_is_exact w And Nand false true bit_and refl (λ _. tt) (λ _. tt) (and_function w) (nand_function w) a b z pa pb pz out fa fb fz (at_inputs And (other z) i))

  pub nor_is_exact : IsInference And alike (other a ∷ other b ∷ z ∷ []) out (fa ∷ fb ∷ fz ∷ []) → IsInference Nor alike (a ∷ b ∷ z ∷ []) out (other fa ∷ other fb ∷ fz ∷ [])
  nor_is_exact i = subst (IsInference Nor alike (a ∷ b ∷ z ∷ []) out) output_alone (turned_is_exact w And Nor true false bit_and refl (λ _. tt) (λ _. tt) (and_function w) (nor_function w) a b z pa pb pz out fa fb fz (at_output And i))

  pub xnor_is_exact : IsInference Xor alike (a ∷ b ∷ other z ∷ []) out (fa ∷ fb ∷ fz ∷ []) → IsInference Xnor alike (a ∷ b ∷ z ∷ []) out (fa ∷ fb ∷ other fz ∷ [])
  xnor_is_exact i = subst (IsInference Xnor alike (a ∷ b ∷ z ∷ []) out) inputs_alone (turned_is_exact w Xor Xnor false true bit_xor refl (λ _. tt) (λ _. tt) (xor_function w) (xnor_function w) a b z pa pb pz out fa fb fz (at_inputs Xor (other z) i))
