-- Signatures of sets.
use Rattle.std.proofs.Common.{◌≡◌, ℕ, zero, suc, ◌+◌, ◌*◌, ◌/◌, ◌^◌, ◌<◌, inl, inr, ◌⊎◌, max, Bool, true, false, ◌||◌, IsTrue, refl, sym, ap, subst, ◌∙◌, List, [], ◌∷◌, get_or, bit_and, bit_or, arith}
use Rattle.std.specs.Int.{bit_at}
use Rattle.std.proofs.lemmas.Bool.{false≢true}
use Rattle.std.proofs.lemmas.Nat.{mod-mul-add, and_le_l, or_lt, pow_pos}
use Rattle.std.proofs.lemmas.Nat.Bits.{bit_at_or, same_from_bits}
use Rattle.environment_sets.specs.declared.environment.Env.{Env}
use Rattle.environment_sets.specs.declared.environment.TheConstants.{WORD_BITS}
use Rattle.environment_sets.specs.Members.{members, has_bit, slots_in}
use Rattle.environment_sets.specs.Signatures.{union_of, signature, HasRest, IsSignature}
use Rattle.environment_sets.specs.Laws.{SubsetsHaveLess}
use Rattle.environment_sets.proofs.Words.{absorbed, has_bit-zero, has_bit-and, has_bit-or, same_word, slots_in-at}

-- a word of the list has the bit
abbrev HasWordWith : List ℕ → ℕ → Type 0
HasWordWith ws b = (i : ℕ) × IsTrue (has_bit (get_or ws i 0) b)

either : (p q : Bool) → IsTrue (p || q) → IsTrue p ⊎ IsTrue q
either true q h = inl refl
either false q h = inr h

left_of : (p q : Bool) → IsTrue p → IsTrue (p || q)
left_of true q h = refl
left_of false q h = absurd (false≢true h)

right_of : (p q : Bool) → IsTrue q → IsTrue (p || q)
right_of true q h = refl
right_of false q h = h

bit_of_union : (ws : List ℕ) (b : ℕ) → IsTrue (has_bit (union_of ws) b) → HasWordWith ws b
bit_of_union [] b h = absurd (false≢true (sym (has_bit-zero b) ∙ h))
bit_of_union (w ∷ ws) b h =
    elim (either (has_bit w b) (has_bit (union_of ws) b) (sym (has_bit-or w (union_of ws) b) ∙ h)) [
      | inl here ↦ (0, here)
      | inr later ↦ let found : HasWordWith ws b = bit_of_union ws b later in (suc found.0, found.1)
    ]

union_has_bit : (ws : List ℕ) (i b : ℕ) → IsTrue (has_bit (get_or ws i 0) b) → IsTrue (has_bit (union_of ws) b)
union_has_bit [] i b h = h
union_has_bit (w ∷ ws) zero b h = has_bit-or w (union_of ws) b ∙ left_of (has_bit w b) (has_bit (union_of ws) b) h
union_has_bit (w ∷ ws) (suc i) b h = has_bit-or w (union_of ws) b ∙ right_of (has_bit w b) (has_bit (union_of ws) b) (union_has_bit ws i b h)

pub signature_of_words : (ws : List ℕ) → IsSignature (union_of ws) (slots_in ws)
signature_of_words ws rest low = (
  λ h.
      let found : HasWordWith ws rest = bit_of_union ws rest h in
      (found.0 * WORD_BITS + rest, slots_in-at ws found.0 rest low ∙ found.1, mod-mul-add found.0 WORD_BITS rest low),
  λ (k, inside, is). let P : ℕ → Type 0 = λ r. IsTrue (has_bit (get_or ws (k / WORD_BITS) 0) r) in union_has_bit ws (k / WORD_BITS) rest (subst P is inside),
)

pub is_signature : (e : Env) → IsSignature (signature e) (members e)
unfolding members signature
is_signature e = signature_of_words e.words

union_fits : (ws : List ℕ) → ((i : ℕ) → get_or ws i 0 < 2 ^ WORD_BITS) → union_of ws < 2 ^ WORD_BITS
union_fits [] fit = pow_pos WORD_BITS
union_fits (w ∷ ws) fit = or_lt WORD_BITS w (union_of ws) (fit 0) (union_fits ws (λ i. fit (suc i)))

signature_fits : (e : Env) → signature e < 2 ^ WORD_BITS
unfolding signature
signature_fits e = union_fits e.words e.fit

pub subsets_have_less : SubsetsHaveLess
subsets_have_less e f within =
    let a : ℕ = signature e in
    let b : ℕ = signature f in
    same_word WORD_BITS (bit_and a b) a (omega (arith, and_le_l a b, signature_fits e)) (signature_fits e) (λ k low. has_bit-and a b k ∙ absorbed (has_bit a k) (has_bit b k) (λ h.
    let found : HasRest (members e) k = (is_signature e k low).0 h in
    (is_signature f k low).1 (found.0, within found.0 found.1, found.2)))

or_assoc : (a b c : ℕ) → bit_or (bit_or a b) c ≡ bit_or a (bit_or b c)
or_assoc a b c =
    same_from_bits _ _ (λ i. bit_at_or (bit_or a b) c i ∙ (ap (λ m. max m (bit_at c i)) (bit_at_or a b i) ∙ (assoc (bit_at a i) (bit_at b i) (bit_at c i) ∙ (ap (λ m. max (bit_at a i) m) (sym (bit_at_or b c i)) ∙ sym (bit_at_or a (bit_or b c) i)))))
  where
    assoc : (x y z : ℕ) → max (max x y) z ≡ max x (max y z)
    assoc x y z = omega arith

-- one word more is joined
pub union_with_next : (ws : List ℕ) (done w : ℕ) → bit_or (bit_or done w) (union_of ws) ≡ bit_or done (union_of (w ∷ ws))
union_with_next ws done w = or_assoc done w (union_of ws)
