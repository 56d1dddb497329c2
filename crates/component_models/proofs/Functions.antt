-- The words of tuples; primitives of three ports, whose third word is a function of the first two.
use Rattle.std.proofs.Common.{◌≡◌, ◌≢◌, ℕ, zero, suc, ◌^◌, ◌<◌, refl, sym, List, [], ◌∷◌, map, Option, Some, slice_get}
use Rattle.std.proofs.Math.Nat.{suc-ne-zero}
use Rattle.std.proofs.lemmas.Option.{same_Some}
use Rattle.circuit_model.specs.declared.model.Primitive.{Primitive}
use Rattle.circuit_model.specs.Inference.{AreTwo, AreThree, WordsFit, IsTuple}

-- a tuple of a relation of two words is two words that fit, and one of three words is three
pub two_words : (R : ℕ → ℕ → ℕ → Type 0) (wa wz : ℕ) (ws : List ℕ) (C : List ℕ → Type 0) → ((a z : ℕ) → a < 2 ^ wa → z < 2 ^ wz → R wa a z → C (a ∷ z ∷ [])) → (t : List ℕ) → WordsFit (wa ∷ wz ∷ ws) (map Some t) → AreTwo R (wa ∷ wz ∷ ws) t → C t
two_words R wa wz ws C here (a ∷ z ∷ []) f h = here a z (f 0 wa a refl refl) (f 1 wz z refl refl) h
two_words R wa wz ws C here [] f h = absurd h
two_words R wa wz ws C here (a ∷ []) f h = absurd h
two_words R wa wz ws C here (a ∷ z ∷ x ∷ t) f h = absurd h

pub three_words : (R : ℕ → ℕ → ℕ → ℕ → Type 0) (wa wb wz : ℕ) (C : List ℕ → Type 0) → ((a b z : ℕ) → a < 2 ^ wa → b < 2 ^ wb → z < 2 ^ wz → R wa a b z → C (a ∷ b ∷ z ∷ [])) → (t : List ℕ) → WordsFit (wa ∷ wb ∷ wz ∷ []) (map Some t) → AreThree R (wa ∷ wb ∷ wz ∷ []) t → C t
three_words R wa wb wz C here (a ∷ b ∷ z ∷ []) f h = here a b z (f 0 wa a refl refl) (f 1 wb b refl refl) (f 2 wz z refl refl) h
three_words R wa wb wz C here [] f h = absurd h
three_words R wa wb wz C here (a ∷ []) f h = absurd h
three_words R wa wb wz C here (a ∷ b ∷ []) f h = absurd h
three_words R wa wb wz C here (a ∷ b ∷ z ∷ x ∷ t) f h = absurd h

-- such words fit
pub one_fits : (w : ℕ) (ws : List ℕ) (z : ℕ) → z < 2 ^ w → WordsFit (w ∷ ws) (Some z ∷ [])
one_fits w ws z below zero u v width word = let same_width : w ≡ u = cc in let same_word : z ≡ v = cc in rw (← same_width, ← same_word) below
one_fits w ws z below (suc p) u v width word = cc

pub two_fit : (wa wz : ℕ) (ws : List ℕ) (a z : ℕ) → a < 2 ^ wa → z < 2 ^ wz → WordsFit (wa ∷ wz ∷ ws) (Some a ∷ Some z ∷ [])
two_fit wa wz ws a z first second zero u v width word = one_fits wa (wz ∷ ws) a first 0 u v width word
two_fit wa wz ws a z first second (suc p) u v width word = one_fits wz ws z second p u v width word

pub three_fit : (wa wb wz : ℕ) (ws : List ℕ) (a b z : ℕ) → a < 2 ^ wa → b < 2 ^ wb → z < 2 ^ wz → WordsFit (wa ∷ wb ∷ wz ∷ ws) (Some a ∷ Some b ∷ Some z ∷ [])
three_fit wa wb wz ws a b z first second third zero u v width word = one_fits wa (wb ∷ wz ∷ ws) a first 0 u v width word
three_fit wa wb wz ws a b z first second third (suc p) u v width word = two_fit wb wz ws b z second third p u v width word

-- the tuples of the primitive are three words that fit, the third the function of the others
pub record IsFunction (prim : Primitive) (wa wb wz : ℕ) (f : ℕ → ℕ → ℕ) : Type 1 where
  pub third_fits : (a b : ℕ) → a < 2 ^ wa → b < 2 ^ wb → f a b < 2 ^ wz
  pub tuple_of : (a b z : ℕ) → a < 2 ^ wa → b < 2 ^ wb → z < 2 ^ wz → z ≡ f a b → IsTuple prim (wa ∷ wb ∷ wz ∷ []) (a ∷ b ∷ z ∷ [])
  pub by_words : (C : List ℕ → Type 0) → ((a b z : ℕ) → a < 2 ^ wa → b < 2 ^ wb → z < 2 ^ wz → z ≡ f a b → C (a ∷ b ∷ z ∷ [])) → (t : List ℕ) → IsTuple prim (wa ∷ wb ∷ wz ∷ []) t → C t

pub zero_ne_one : ◌≢◌ {A = ℕ} 0 1
zero_ne_one e = suc-ne-zero 0 (sym e)

pub differ_at : {x y : ℕ} → x ≢ y → Some x ≡ Some y → ⊥
differ_at d e = d (same_Some _ _ e)
