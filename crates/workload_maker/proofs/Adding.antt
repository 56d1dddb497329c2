-- One box more, and that each line of a box is one of the grammar's.
use Rattle.std.proofs.Common.{◌≡◌, ◌<◌, ◌≤◌, ◌++◌, ◌+◌, ◌-◌, ℕ, suc, List, [], refl, sym, ◌∙◌, ap, subst, rules, arith, append_assoc, append-nil}
use Rattle.std.specs.List.{All}
use Rattle.std.proofs.lemmas.List.Elements.{All-append, All-from_recursion}
use Rattle.rand_xoshiro.specs.SplitMix64.{mix_u64}
use Rattle.netlist_text.specs.declared.requests.Change.{Change}
use Rattle.netlist_text.specs.Grammar.{IsPadded}
use Rattle.workload_maker.specs.Boxes.{polybox, boxes, boxes_from, nets, components, readings, inputs_of}

-- the first of the boxes that are left, and the others
boxes_from-first : (b n state : ℕ) → b < n → boxes_from (b + 1) (n - b) state ≡ polybox (b + 1) (mix_u64 state).0 ++ boxes_from (b + 1 + 1) (n - (b + 1)) (mix_u64 state).1
boxes_from-first b n state more =
    let left : n - b ≡ suc (n - (b + 1)) = omega arith in
    let next : b + 1 + 1 ≡ suc (b + 1) = omega arith in
    rw (left, next) refl

-- what is made and what is left, after one box more
pub one_more : (before now all : List Change) (b n state word next : ℕ) → b < n → before ++ boxes_from (b + 1) (n - b) state ≡ all → now ≡ before ++ polybox (b + 1) word
    → word ≡ (mix_u64 state).0 → next ≡ (mix_u64 state).1 → now ++ boxes_from (b + 1 + 1) (n - (b + 1)) next ≡ all
one_more before now all b n state word next more made added is_word is_next =
    rw (added, is_word, is_next) (append_assoc before (polybox (b + 1) (mix_u64 state).0) _ ∙ ap (λ (xs : List Change). before ++ xs) (sym (boxes_from-first b n state more)) ∙ made)

-- unused places repeat the last one in each line of a box
pub polybox-padded : (b word : ℕ) → All IsPadded (polybox b word)
unfolding polybox
polybox-padded b word =
    All-append IsPadded (nets b ++ components b) (readings b (inputs_of word))
    (All-append IsPadded (nets b) (components b) (All-from_recursion IsPadded (nets b) (search rules)) (All-from_recursion IsPadded (components b) (search rules)))
    (All-from_recursion IsPadded (readings b (inputs_of word)) (search rules))

-- and in no lines
pub none_padded : (made : List Change) → made ≡ [] → All IsPadded made
none_padded made empty =
    let P : List Change → Type 0 = All IsPadded in
    subst P (sym empty) (All-from_recursion IsPadded [] tt)

-- and in the lines before it and its own
pub padded_more : (before now : List Change) (b word : ℕ) → All IsPadded before → now ≡ before ++ polybox b word → All IsPadded now
padded_more before now b word padded added =
    let P : List Change → Type 0 = All IsPadded in
    subst P (sym added) (All-append IsPadded before (polybox b word) padded (polybox-padded b word))

-- before the first box
pub none_made : (made : List Change) (n seed state : ℕ) → made ≡ [] → state ≡ seed → made ++ boxes_from 1 (n - 0) state ≡ boxes n seed
none_made made n seed state empty same =
    let all : n - 0 ≡ n = omega arith in
    rw (empty, same, all) refl

-- after the last one
pub all_made : (made all : List Change) (b n state : ℕ) → n ≤ b → made ++ boxes_from (b + 1) (n - b) state ≡ all → made ≡ all
all_made made all b n state done made_so =
    let none : n - b ≡ 0 = omega arith in
    sym (append-nil made) ∙ rw none at made_so
