-- A name that is put in an array of zeros.
use Rattle.std.proofs.Common.{◌≡◌, ℕ, ◌==◌, ◌≤◌, ◌++◌, ◌&&◌, List, [], ◌∷◌, length, take, drop, IsTrue, refl, sym, ap, ◌∙◌, arith}
use Rattle.std.proofs.lemmas.Bool.{and_parts, and_from, leb-true, eqb-true, eq-eqb, false≢true}
use Rattle.std.proofs.lemmas.Bool.Decides.{Decides-like, same_from_decides}
use Rattle.std.proofs.lemmas.Slice.Eq.{bytes_eq-Decides}
use Rattle.std.proofs.lemmas.List.{length-append, length-drop, take_at, drop_at, drop-replicate}
use Rattle.std.specs.Prelude.{replicate}
use Rattle.std.specs.Str.{bytes_eq}
use Rattle.circuit_model.specs.Names.{is_name}
use Rattle.circuit_model.specs.declared.limits.TheConstants.{LONGEST_NAME}
use Rattle.circuit_model.specs.Padding.{padded, IsPadded}

pub is_name-fits : (name : List ℕ) → IsTrue (is_name name) → length name ≤ LONGEST_NAME
is_name-fits [] h = absurd (false≢true h)
is_name-fits (b ∷ bytes) h = leb-true (length (b ∷ bytes)) LONGEST_NAME (and_parts _ _ h).1

abbrev zeros : List ℕ
zeros = replicate LONGEST_NAME 0

-- the name in the array's first places, and what is left of the zeros
pub IsPadded-filled : (filled name : List ℕ) → IsTrue (is_name name) → filled ≡ name → IsPadded (filled ++ drop (length name) zeros) (length name)
IsPadded-filled filled name h e = let fits = is_name-fits name h in rw e (record {
  size = omega (arith, length-append name (drop (length name) zeros), length-drop (length name) zeros);
  within = fits;
  zeros = rw (drop_at name (drop (length name) zeros) (length name) refl) (drop-replicate (length name) LONGEST_NAME 0);
  name = rw (take_at name (drop (length name) zeros) (length name) refl) h;
})

padded_apart : (a b : List ℕ) → padded a ≡ padded b → length a ≡ length b → a ≡ b
padded_apart a b e n = sym (take_at a _ (length a) refl) ∙ (ap (take (length a)) e ∙ (ap (λ k. take k (padded b)) n ∙ take_at b _ (length b) refl))

-- names are equal where their arrays and their lengths are
pub same_padded : (a b : List ℕ) → (bytes_eq (padded a) (padded b) && (length a == length b)) ≡ bytes_eq a b
same_padded a b = same_from_decides {P = a ≡ b} _ _ (
  (λ t. let both = and_parts (bytes_eq (padded a) (padded b)) (length a == length b) t in padded_apart a b ((bytes_eq-Decides (padded a) (padded b)).0 both.0) (eqb-true _ _ both.1)),
  (λ e. and_from _ _ ((bytes_eq-Decides (padded a) (padded b)).1 (ap padded e)) (eq-eqb _ _ (ap length e))),
)
    (bytes_eq-Decides a b)

-- the test that a table makes of a name
pub named_as : (name other : List ℕ) → (bytes_eq (padded name) (padded other) && (length name == length other)) ≡ bytes_eq other name
named_as name other = same_padded name other ∙ same_from_decides {P = name ≡ other} _ _ (bytes_eq-Decides name other) (Decides-like (bytes_eq other name) sym sym (bytes_eq-Decides other name))
