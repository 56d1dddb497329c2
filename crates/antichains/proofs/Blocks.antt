-- What all signatures of a block have.
use Rattle.std.proofs.Common.{◌≡◌, ◌≢◌, ℕ, ◌+◌, ◌-◌, ◌*◌, ◌/◌, ◌%◌, ◌<◌, ◌≤◌, inl, inr, min, Some, Bool, true, false, ◌==◌, cond, refl, sym, ap, subst, ◌∙◌, List, [], ◌∷◌, ◌++◌, length, get_or, set, bit_and, arith, get_or-set_same, get_or-set_other, length-set, length-append}
use Rattle.std.specs.Int.Bits.{and_self}
use Rattle.std.proofs.lemmas.Bool.{cases_lt, cases_eq}
use Rattle.std.proofs.lemmas.Bool.Decides.{nat_tests}
use Rattle.std.proofs.lemmas.Nat.{and_assoc, and_comm}
use Rattle.std.specs.List.{slice_get}
use Rattle.std.proofs.lemmas.List.{get_or_append_left, length-map}
use Rattle.std.proofs.lemmas.Option.{slice_get_within}
use Rattle.std.proofs.Math.Seq.{get_or-append_seam}
use Rattle.environment_sets.specs.declared.environment.Env.{Env}
use Rattle.environment_sets.specs.Members.{members}
use Rattle.environment_sets.specs.Sets.{◌⊆◌}
use Rattle.environment_sets.specs.Lists.{IsIn}
use Rattle.environment_sets.specs.Signatures.{signature}
use Rattle.environment_sets.proofs.Membership.{slice_get-IsIn}
use Rattle.antichains.specs.Signed.{blocks_of, AreShared, AreSharedBelow, IsSigned, NoneInBlock, NoneMayCover}
use Rattle.antichains.specs.declared.signed_list.SignedList.{SignedList}
use Rattle.antichains.proofs.Signing.{own_number, subset_needs}
use Rattle.antichains.specs.declared.signed_list.TheConstants.{BLOCK}

-- a word is part of another: each of its bits is set there
abbrev pub IsPart : ℕ → ℕ → Type 0
IsPart a b = bit_and a b ≡ a

pub part_of_part : (a b c : ℕ) → IsPart a b → IsPart b c → IsPart a c
part_of_part a b c p q = ap (λ x. bit_and x c) (sym p) ∙ (and_assoc c a b ∙ (ap (bit_and a) q ∙ p))

-- what two words share is part of the second
part_of_second : (a b : ℕ) → IsPart (bit_and a b) b
part_of_second a b = and_assoc b a b ∙ ap (bit_and a) (and_self b)

part_of_first : (a b : ℕ) → IsPart (bit_and a b) a
part_of_first a b = ap (λ x. bit_and x a) (and_comm a b) ∙ (part_of_second b a ∙ and_comm b a)

-- what is left of a block with one signature more, as the code computes it
abbrev pub left_with : List ℕ → ℕ → ℕ → ℕ
left_with shared place w = cond (place % BLOCK == 0) w (bit_and (get_or shared (place / BLOCK) 0) w)

module _ (ws shared : List ℕ) (i : ℕ) (so : AreSharedBelow ws shared i) (low : i < length ws) where
  abbrev w : ℕ
  w = get_or ws i 0

  inside : i / BLOCK < length shared
  inside = omega (arith, so.blocks, low)

  new_part : (first : Bool) (k : ℕ) → (i % BLOCK == 0) ≡ first → k < i → k / BLOCK ≡ i / BLOCK → IsPart (cond first w (bit_and (get_or shared (i / BLOCK) 0) w)) (get_or ws k 0)
  new_part true k is lower same = absurd (grind (arith, nat_tests))
  new_part false k is lower same =
      let a : ℕ = get_or shared (i / BLOCK) 0 in
      let before : IsPart a (get_or ws k 0) = subst (λ (b : ℕ). IsPart (get_or shared b 0) (get_or ws k 0)) same (so.part k lower) in
      part_of_part (bit_and a w) a (get_or ws k 0) (part_of_first a w) before

  own_part : (first : Bool) → IsPart (cond first w (bit_and (get_or shared (i / BLOCK) 0) w)) w
  own_part true = and_self w
  own_part false = part_of_second (get_or shared (i / BLOCK) 0) w

  pub one_more_shared : AreSharedBelow ws (set shared (i / BLOCK) (left_with shared i w)) (i + 1)
  one_more_shared =
      let v : ℕ = left_with shared i w in
      let here : get_or (set shared (i / BLOCK) v) (i / BLOCK) 0 ≡ v = get_or-set_same shared (i / BLOCK) v 0 inside in
      record {
        blocks = length-set shared (i / BLOCK) v ∙ so.blocks;
        part = λ k lower. elim (cases_eq (k / BLOCK) (i / BLOCK)) [
          | inr other ↦
              let earlier : k < i = grind arith in
              subst (λ (a : ℕ). IsPart a (get_or ws k 0)) (sym (get_or-set_other shared (i / BLOCK) (k / BLOCK) v 0 other)) (so.part k earlier)
          | inl same ↦
              let at : get_or (set shared (i / BLOCK) v) (k / BLOCK) 0 ≡ v = ap (λ b. get_or (set shared (i / BLOCK) v) b 0) same ∙ here in
              subst (λ (a : ℕ). IsPart a (get_or ws k 0)) (sym at) (elim (cases_lt k i) [
                | inl earlier ↦ new_part (i % BLOCK == 0) k refl earlier same
                | inr high ↦ let is : k ≡ i = omega (arith, lower, high) in subst (λ (j : ℕ). IsPart v (get_or ws j 0)) (sym is) (own_part (i % BLOCK == 0))
              ])
        ];
      }

pub fewer_shared : (ws shared : List ℕ) (i j : ℕ) → j ≤ i → AreSharedBelow ws shared i → AreSharedBelow ws shared j
fewer_shared ws shared i j fewer so = record { blocks = so.blocks; part = λ k low. so.part k (omega (arith, low, fewer)) }

pub all_shared : (ws shared : List ℕ) (i : ℕ) → length ws ≤ i → AreSharedBelow ws shared i → AreShared ws shared
all_shared ws shared i all so = record { blocks = so.blocks; part = λ k low. so.part k (omega (arith, low, all)) }

-- ---- one signature more behind the others

module _ (ws shared : List ℕ) (w : ℕ) (are : AreShared ws shared) where
  longer : length (ws ++ w ∷ []) ≡ length ws + 1
  longer = length-append ws (w ∷ [])

  last : get_or (ws ++ w ∷ []) (length ws) 0 ≡ w
  last = get_or-append_seam ws w [] 0

  before_last : (k : ℕ) → k < length ws → IsPart (get_or shared (k / BLOCK) 0) (get_or (ws ++ w ∷ []) k 0)
  before_last k low = subst (λ (v : ℕ). IsPart (get_or shared (k / BLOCK) 0) v) (sym (get_or_append_left ws (w ∷ []) 0 k low)) (are.part k low)

  -- it is in the last block
  pub shared_with_one : length ws % BLOCK ≢ 0 → AreShared (ws ++ w ∷ []) (set shared (length ws / BLOCK) (left_with shared (length ws) w))
  shared_with_one begun =
      let so : AreSharedBelow (ws ++ w ∷ []) shared (length ws) = record { blocks = omega (arith, are.blocks, longer, begun); part = before_last } in
      let done : AreSharedBelow (ws ++ w ∷ []) (set shared (length ws / BLOCK) (left_with shared (length ws) (get_or (ws ++ w ∷ []) (length ws) 0))) (length ws + 1) = one_more_shared (ws ++ w ∷ []) shared (length ws) so (omega (arith, longer)) in
      all_shared (ws ++ w ∷ []) (set shared (length ws / BLOCK) (left_with shared (length ws) w)) (length ws + 1) (omega (arith, longer)) (subst (λ (v : ℕ). AreSharedBelow (ws ++ w ∷ []) (set shared (length ws / BLOCK) (left_with shared (length ws) v)) (length ws + 1)) last done)

  -- it is the first one of a block
  pub first_of_block : length ws % BLOCK ≡ 0 → AreShared (ws ++ w ∷ []) (shared ++ w ∷ [])
  first_of_block full =
      let count : length (shared ++ w ∷ []) ≡ length shared + 1 = length-append shared (w ∷ []) in
      record {
        blocks = omega (arith, count, are.blocks, longer, full);
        part = λ k low. elim (cases_lt k (length ws)) [
          | inl earlier ↦
              let inside : k / BLOCK < length shared = omega (arith, earlier, are.blocks, full) in
              subst (λ (a : ℕ). IsPart a (get_or (ws ++ w ∷ []) k 0)) (sym (get_or_append_left shared (w ∷ []) 0 (k / BLOCK) inside)) (before_last k earlier)
          | inr high ↦
              let is : k ≡ length ws = omega (arith, low, high, longer) in
              let block : k / BLOCK ≡ length shared = omega (arith, is, are.blocks, full) in
              let here : get_or (shared ++ w ∷ []) (k / BLOCK) 0 ≡ w = ap (λ b. get_or (shared ++ w ∷ []) b 0) block ∙ get_or-append_seam shared w [] 0 in
              let there : get_or (ws ++ w ∷ []) k 0 ≡ w = ap (λ j. get_or (ws ++ w ∷ []) j 0) is ∙ last in
              rw (here, there) (and_self w)
        ];
      }

-- ---- environments of which none has a property, block by block

module _ (P : Env → Type 0) (es : List Env) where
  -- none in the block, from the place on
  abbrev pub NoneBehindIn : ℕ → ℕ → Type 0
  NoneBehindIn block i = (k : ℕ) (e : Env) → i ≤ k → k / BLOCK ≡ block → slice_get es k ≡ Some e → P e → ⊥

  pub none_behind_end : (block end : ℕ) → end ≡ block * BLOCK + min BLOCK (length es - block * BLOCK) → NoneBehindIn block end
  none_behind_end block end is k e past in_block at holds = let low : k < length es = slice_get_within es k e at in absurd (omega (arith, low, past, is, in_block))

  pub none_behind_in_more : (block i : ℕ) → 0 < i → NoneBehindIn block i → ((e : Env) → slice_get es (i - 1) ≡ Some e → P e → ⊥) → NoneBehindIn block (i - 1)
  none_behind_in_more block i some none here k e past in_block at holds =
      elim (cases_lt k i) [
        | inl low ↦ let same : k ≡ i - 1 = omega (arith, low, past) in here e (subst (λ (n : ℕ). slice_get es n ≡ Some e) same at) holds
        | inr high ↦ none k e high in_block at holds
      ]

  pub none_in_block : (block i : ℕ) → i ≤ block * BLOCK → NoneBehindIn block i → (k : ℕ) (e : Env) → k / BLOCK ≡ block → slice_get es k ≡ Some e → P e → ⊥
  none_in_block block i first none k e in_block at holds = none k e (omega (arith, first, in_block)) in_block at holds

  -- none in the blocks from this one on
  abbrev pub NoneFromBlock : ℕ → Type 0
  NoneFromBlock block = (k : ℕ) (e : Env) → block ≤ k / BLOCK → slice_get es k ≡ Some e → P e → ⊥

  pub none_from_last_block : (block : ℕ) → blocks_of (length es) ≤ block → NoneFromBlock block
  none_from_last_block block all k e past at holds = let low : k < length es = slice_get_within es k e at in absurd (omega (arith, low, past, all))

  pub none_from_block_back : (block end : ℕ) → NoneFromBlock end → ((b k : ℕ) (e : Env) → block ≤ b → b < end → k / BLOCK ≡ b → slice_get es k ≡ Some e → P e → ⊥) → NoneFromBlock block
  none_from_block_back block end none here k e past at holds =
      elim (cases_lt (k / BLOCK) end) [
        | inl low ↦ here (k / BLOCK) k e past low refl at holds
        | inr high ↦ none k e high at holds
      ]

  pub none_in_any_block : NoneFromBlock 0 → (e : Env) → IsIn es e → P e → ⊥
  none_in_any_block none e there holds = let at : (k : ℕ) × (slice_get es k ≡ Some e) = slice_get-IsIn es e there in none at.0 e (omega arith) at.1 holds

-- what is no part of a signature stands for a block in which none is a subset
pub not_in_block : (s : SignedList) (env : Env) (block : ℕ) → IsSigned s → (IsPart (get_or s.shared.items block 0) (signature env) → ⊥) → NoneInBlock block s.list.items (members env)
not_in_block s env block signed out k e in_block at within =
    let low : k < length s.list.items = slice_get_within s.list.items k e at in
    let long : length s.signatures.items ≡ length s.list.items = ap length signed.signatures ∙ length-map s.list.items signature in
    let own : get_or s.signatures.items k 0 ≡ signature e = own_number signature s.list.items s.signatures.items k 0 (get_or s.signatures.items k 0) e signed.signatures refl at in
    let shared : IsPart (get_or s.shared.items (k / BLOCK) 0) (get_or s.signatures.items k 0) = signed.shared.part k (omega (arith, low, long)) in
    let of_e : IsPart (get_or s.shared.items (k / BLOCK) 0) (signature e) = subst (λ (w : ℕ). IsPart (get_or s.shared.items (k / BLOCK) 0) w) own shared in
    let of_block : IsPart (get_or s.shared.items block 0) (signature e) = subst (λ (b : ℕ). IsPart (get_or s.shared.items b 0) (signature e)) in_block of_e in
    out (part_of_part (get_or s.shared.items block 0) (signature e) (signature env) of_block (subset_needs e env (signature e) (signature env) refl refl within))

-- none is a subset from this block on: not in what was looked through, not in this one, and not in those between
module _ (s : SignedList) (env : Env) (word block end : ℕ) (signed : IsSigned s) (is : word ≡ signature env) (passed : NoneFromBlock (λ e. members e ⊆ members env) s.list.items end) where
  passed_over : (from b : ℕ) → NoneMayCover s.shared.items word from end → from ≤ b → b < end → NoneInBlock b s.list.items (members env)
  passed_over from b none low high = not_in_block s env b signed (λ part. none b low high (subst (λ (w : ℕ). IsPart (get_or s.shared.items b 0) w) (sym is) part))

  pub none_from_this : NoneMayCover s.shared.items word (block + 1) end → NoneInBlock block s.list.items (members env) → NoneFromBlock (λ e. members e ⊆ members env) s.list.items block
  none_from_this none here = none_from_block_back (λ e. members e ⊆ members env) s.list.items block end passed (λ b k e low high in_block at within. elim (cases_eq b block) [
    | inl same ↦ here k e (in_block ∙ same) at within
    | inr other ↦ passed_over (block + 1) b none (omega (arith, low, other)) high k e in_block at within
  ])

  pub none_at_all : NoneMayCover s.shared.items word 0 end → NoneFromBlock (λ e. members e ⊆ members env) s.list.items 0
  none_at_all none = none_from_block_back (λ e. members e ⊆ members env) s.list.items 0 end passed (λ b k e low high in_block at within. passed_over 0 b none low high k e in_block at within)
