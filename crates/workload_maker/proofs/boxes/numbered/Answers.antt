use Rattle.std.proofs.Common.{◌≡◌, ◌≤◌, ◌++◌, IsTrue, ℕ, ◌+◌, length, List, [], ◌∷◌, Bool, true, false, Some, None, refl, ◌∙◌, arith, take, drop, set}
use Rattle.std.specs.Prelude.{if◌then◌else◌, nat_le, ◌&&◌, decimal}
use Rattle.std.proofs.lemmas.Bool.Decides.{nat_tests}
use Rattle.std.proofs.lemmas.Fmt.{decimal_digit}
use Rattle.workload_maker.proofs.boxes.numbered.Goals as goal

-- what is given only under a test
given : {A : Type 0} (b : Bool) (x y : A) → Some y ≡ (if b then Some x else None) → y ≡ x
given true x y e = cc
given false x y e = cc

is_short : (a : Bool) (n : ℕ) → IsTrue (a && nat_le n 2) → n ≤ 2
is_short true n h = grind (arith, nat_tests)
is_short false n h = grind (arith, nat_tests)

-- the bytes after a short name
written : (name : List ℕ) (d : ℕ) → length name ≤ 2
    → take (length name + 2) (set (set (name ++ drop (length name) (0 ∷ 0 ∷ 0 ∷ 0 ∷ [])) (length name) 95) (length name + 1) d) ≡ name ++ (95 ∷ []) ++ (d ∷ [])
written [] d h = refl
written (a ∷ []) d h = refl
written (a ∷ b ∷ []) d h = refl
written (a ∷ b ∷ e ∷ more) d h = absurd (omega arith)

pub returns : goal.returns
returns c =
    let bytes = c.copy_from_slice.ensures.after in
    let short : length c.args.name.now ≤ 2 = is_short _ _ c.requires.name in
    let digit : decimal c.args.number ≡ (48 + c.args.number) ∷ [] = decimal_digit _ (omega arith) in
    given _ _ _ c.in-Some.ensures ∙ rw (bytes, digit) (written _ _ short)
