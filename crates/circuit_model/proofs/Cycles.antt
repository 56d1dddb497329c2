-- The instances that a component stands for, one after the other; they are lawful.
use Rattle.std.proofs.Common.{◌≡◌, ℕ, zero, suc, ◌+◌, ◌^◌, ◌<◌, ◌≤◌, List, [], ◌∷◌, ◌++◌, length, IsTrue, refl, sym, ap, ◌∙◌, arith, add-one, pow_pos}
use Rattle.std.specs.Prelude.{slice_index}
use Rattle.std.proofs.lemmas.Bool.{lt-ltb}
use Rattle.std.proofs.lemmas.List.Elements.{All-nil, All-cons}
use Rattle.circuit_model.specs.declared.model.Kind.{Kind}
use Rattle.circuit_model.specs.declared.model.Kind.TheVariants.{Const, Reg, Block}
use Rattle.circuit_model.specs.declared.model.Instance.{Instance}
use Rattle.circuit_model.specs.Kinds.{primitive_of, are_widths, fits_value, instance_at, each_cycle, reset_instance, carry_instance, register, instances}
use Rattle.circuit_model.specs.Lawful.{width_rule, has_room, IsLawfulInstance, AreLawful}

more_cycles : (at : ℕ → Instance) (c n : ℕ) → each_cycle at c (suc n) ≡ each_cycle at c n ++ at (c + n) ∷ []
more_cycles at c zero = ap (λ k. at k ∷ []) (omega arith)
more_cycles at c (suc n) = let e : suc c + n ≡ c + suc n = omega arith in
    ap (λ is. at c ∷ is) (more_cycles at (suc c) n ∙ ap (λ k. each_cycle at (suc c) n ++ at k ∷ []) e)

-- one cycle more adds one instance
pub each_cycle-more : (at : ℕ → Instance) (n : ℕ) → each_cycle at 0 (n + 1) ≡ each_cycle at 0 n ++ at n ∷ []
each_cycle-more at n = let e : 0 + n ≡ n = omega arith in
    ap (each_cycle at 0) (add-one n) ∙ (more_cycles at 0 n ∙ ap (λ k. each_cycle at 0 n ++ at k ∷ []) e)

pub register-more : (reset : ℕ) (nets widths : List ℕ) (n : ℕ) → 1 ≤ n → register reset nets widths (n + 1) ≡ register reset nets widths n ++ carry_instance nets widths n ∷ []
register-more reset nets widths zero h = absurd (omega arith)
register-more reset nets widths (suc n) h = let e : 1 + n ≡ suc n = omega arith in let first = reset_instance reset nets widths in let carry = carry_instance nets widths in
    ap (register reset nets widths) (add-one (suc n)) ∙ ap (λ is. first ∷ is) (more_cycles carry 1 n ∙ ap (λ k. each_cycle carry 1 n ++ carry k ∷ []) e)

-- a list that gained what its counterpart gains
pub pushed : {is before more after : List Instance} {i j : Instance} → more ≡ is ++ i ∷ [] → is ≡ before → i ≡ j → after ≡ before ++ j ∷ [] → more ≡ after
pushed {is} {before} {more} {after} {i} {j} gain same equal next = gain ∙ (ap (λ xs. xs ++ i ∷ []) same ∙ (ap (λ x. before ++ x ∷ []) equal ∙ sym next))

module _ (at : ℕ → Instance) (lawful : (k : ℕ) → IsLawfulInstance (at k)) where
  AreLawful-each_cycle : (c n : ℕ) → AreLawful (each_cycle at c n)
  AreLawful-each_cycle c zero = All-nil IsLawfulInstance
  AreLawful-each_cycle c (suc n) = All-cons IsLawfulInstance (at c) (each_cycle at (suc c) n) (lawful c) (AreLawful-each_cycle (suc c) n)

-- the value of a constant fits
room_of : (kind : Kind) (widths : List ℕ) → IsTrue (fits_value kind widths) → IsTrue (has_room (width_rule (primitive_of kind)) widths)
room_of (Const value) widths v = v
room_of (Block block) widths v = lt-ltb 0 (2 ^ slice_index widths 0) (pow_pos (slice_index widths 0))
room_of kind widths v = refl

lawful_at : (kind : Kind) (nets widths : List ℕ) (k : ℕ) → IsTrue (are_widths kind widths) → IsTrue (fits_value kind widths) → IsLawfulInstance (instance_at (primitive_of kind) nets widths k)
lawful_at kind nets widths k h v = record { ports = refl; widths = (h, room_of kind widths v) }

lawful_cycles : (kind : Kind) (nets widths : List ℕ) (n : ℕ) → IsTrue (are_widths kind widths) → IsTrue (fits_value kind widths) → AreLawful (each_cycle (instance_at (primitive_of kind) nets widths) 0 n)
lawful_cycles kind nets widths n h v = AreLawful-each_cycle (instance_at (primitive_of kind) nets widths) (λ k. lawful_at kind nets widths k h v) 0 n

lawful_register : (reset : ℕ) (nets widths : List ℕ) (n : ℕ) → IsTrue (are_widths (Reg reset) widths) → IsTrue (fits_value (Reg reset) widths) → AreLawful (register reset nets widths n)
lawful_register reset nets widths zero h v = All-nil IsLawfulInstance
lawful_register reset nets widths (suc n) h v =
    All-cons IsLawfulInstance (reset_instance reset nets widths) (each_cycle (carry_instance nets widths) 1 n) (record { ports = refl; widths = (refl, v) })
    (AreLawful-each_cycle (carry_instance nets widths) (λ k. record { ports = refl; widths = (h, refl) }) 1 n)

-- the instances of a component with lawful widths are lawful
pub AreLawful-instances : (kind : Kind) (nets widths : List ℕ) (n : ℕ) → IsTrue (are_widths kind widths) → IsTrue (fits_value kind widths) → AreLawful (instances kind nets widths n)
AreLawful-instances (Reg reset) nets widths n h v = lawful_register reset nets widths n h v
AreLawful-instances (Block block) nets widths n h v = All-nil IsLawfulInstance
AreLawful-instances kind nets widths n h v = lawful_cycles kind nets widths n h v
