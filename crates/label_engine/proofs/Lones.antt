-- Which components are one instance.
use Rattle.std.proofs.Common.{◌≡◌, ℕ, zero, suc, ◌^◌, ◌≤◌, ◌<◌, subst, List, [], ◌∷◌, length, Some, slice_get, arith}
use Rattle.std.proofs.Math.Pow.{pow-lt}
use Rattle.circuit_model.specs.declared.model.Instance.{Instance}
use Rattle.circuit_model.specs.declared.model.Assumption.TheVariants.{Part}
use Rattle.circuit_model.specs.Lawful.{IsLawfulInstance}
use Rattle.label_engine.specs.Sources.{HaveOwnCells, AreWide, IsLonePart}

more_than_one : (n : ℕ) → 1 ≤ n → 1 < 2 ^ n
more_than_one n low = let more : 2 ^ 0 < 2 ^ n = pow-lt {i = 0} {j = n} low in more

pub wide_each : (a b z : ℕ) → 1 ≤ a → 1 ≤ b → 1 ≤ z → AreWide (a ∷ b ∷ z ∷ [])
wide_each a b z la lb lz zero w e = let same : a ≡ w = cc in subst (λ (n : ℕ). 1 < 2 ^ n) same (more_than_one a la)
wide_each a b z la lb lz (suc zero) w e = let same : b ≡ w = cc in subst (λ (n : ℕ). 1 < 2 ^ n) same (more_than_one b lb)
wide_each a b z la lb lz (suc (suc zero)) w e = let same : z ≡ w = cc in subst (λ (n : ℕ). 1 < 2 ^ n) same (more_than_one z lz)
wide_each a b z la lb lz (suc (suc (suc p))) w e = cc

one_of : (part : List Instance) (instance : Instance) → length part ≡ 1 → slice_get part 0 ≡ Some instance → part ≡ instance ∷ []
one_of [] instance one at = cc
one_of (i ∷ []) instance one at = let same : i ≡ instance = cc in cc
one_of (i ∷ j ∷ part) instance one at = absurd (omega (arith, one))

pub lone_part : (part : List Instance) (instance : Instance) → length part ≡ 1 → slice_get part 0 ≡ Some instance → IsLawfulInstance instance → AreWide instance.widths → HaveOwnCells instance.cells instance.ports → IsLonePart part
lone_part part instance one at lawful wide own S slot named = record {
  instance = instance;
  named = subst (λ (p : List Instance). S slot ≡ Some (Part p)) (one_of part instance one at) named;
  celled = λ p low. own.celled p (rw lawful.ports low);
  apart = λ p q c lp lq. own.apart p q c (rw lawful.ports lp) (rw lawful.ports lq);
  wide = wide;
}
