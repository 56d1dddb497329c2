-- Text that is put in parts.
use Rattle.std.proofs.Common.{◌≡◌, ℕ, Bool, true, false, List, [], ◌++◌, Ok, Err, refl, sym, ◌∙◌, ap, subst, append_assoc, arith}
use Rattle.bench_io.proofs.Bytes.{Appends-then, Rose-later, Appends-nothing}
use Rattle.bench_io.specs.Streams.{Telling}
use Rattle.bench_io.specs.Writing.{Writes}
use Rattle.bench_io.specs.Puts.{Puts, PutsBy}

-- one part after another
by_case-then : (x y z : Bool) (a b c : Telling) (t u : List ℕ) → PutsBy x y a b t → PutsBy y z b c u → PutsBy x z a c (t ++ u)
by_case-then false false false a b c t u p q = (Appends-then a.bytes b.bytes c.bytes t u p.0 q.0, q.1 ∙ p.1)
by_case-then false false true a b c t u p ((front, rest, e, w), h, r) =
    ((t ++ front, rest, ap (λ v. t ++ v) e ∙ sym (append_assoc t front rest), Appends-then a.bytes b.bytes c.bytes t front p.0 w), omega (arith, p.1), Rose-later _ _ _ (omega (arith, p.1)) r)
by_case-then false true false a b c t u p q = absurd q
by_case-then false true true a b c t u ((front, rest, e, w), h, r) q =
    let P : Telling → Type 0 = λ o. PutsBy false true a o (t ++ u) in
    subst P (sym q) ((front, rest ++ u, ap (λ v. v ++ u) e ∙ append_assoc front rest u, w), h, r)
by_case-then true false z a b c t u p q = absurd p
by_case-then true true false a b c t u p q = absurd q
by_case-then true true true a b c t u p q = q ∙ p

by_case-nothing : (x : Bool) (a : Telling) → PutsBy x x a a []
by_case-nothing false a = (Appends-nothing a.bytes, refl)
by_case-nothing true a = refl

pub Puts-then : {x y z : Bool} {a b c : Telling} {t u : List ℕ} → Puts x y a b t → Puts y z b c u → Puts x z a c (t ++ u)
Puts-then p q = record { by_case = by_case-then _ _ _ _ _ _ _ _ p.by_case q.by_case }

pub Puts-nothing : (x : Bool) (a : Telling) → Puts x x a a []
Puts-nothing x a = record { by_case = by_case-nothing x a }

pub Puts-as : {x y : Bool} {a b : Telling} {t u : List ℕ} → t ≡ u → Puts x y a b t → Puts x y a b u
Puts-as {x} {y} {a} {b} e p = let P : List ℕ → Type 0 = λ v. Puts x y a b v in subst P e p

-- at a failure a front of the text was written
pub Writes-failed : {T E : Type 0} {x : Bool} {a b : Telling} {t : List ℕ} {e : E} → x ≡ true → Puts false x a b t → Writes {T = T} a b (Err e) t
Writes-failed {x = true} h p = let q = p.by_case in record { whole = tt; front = q.0; cause = record { later = q.1; kept = tt; failed = q.2 } }
Writes-failed {x = false} h p = cc

-- with no failure the whole text was
pub Writes-done : {T E : Type 0} {x : Bool} {a b : Telling} {t : List ℕ} {u : T} → x ≡ false → Puts false x a b t → Writes {E = E} a b (Ok u) t
Writes-done {x = true} h p = cc
Writes-done {x = false} h p = let q = p.by_case in record { whole = q.0; front = tt; cause = record { later = omega (arith, q.1); kept = q.1; failed = tt } }
