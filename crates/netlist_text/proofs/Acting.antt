-- The kinds that a component may act as, by their words.
use Rattle.std.proofs.Common.{◌≡◌, ℕ, Bool, true, false, not, ◌&&◌, ◌⊎◌, inl, inr, if◌then◌else◌, IsTrue, List, codes, Option, Some, None, refl, sym, ap, subst, ◌∙◌}
use Rattle.std.proofs.lemmas.Bool.{both_ways, false_from_ne_true}
use Rattle.std.specs.Option.{option_and_then}
use Rattle.std.specs.Str.{bytes_eq}
use Rattle.std.proofs.lemmas.Slice.Eq.{bytes_eq-Decides}
use Rattle.circuit_model.specs.declared.model.Kind.{Kind}
use Rattle.circuit_model.specs.declared.model.Kind.TheVariants as kind
use Rattle.circuit_model.specs.declared.rules.Class.{Class}
use Rattle.circuit_model.specs.declared.rules.Class.TheVariants.{OneInput, TwoInputs, Alone}
use Rattle.circuit_model.specs.Kinds.{class_of, are_one_class, MayAct}
use Rattle.netlist_text.specs.Parts as parts
use Rattle.netlist_text.specs.Lookups.{acting_kind, acting_kind_named, word_of_kind, may_act_as}
use Rattle.netlist_text.specs.declared.parts.PartWord.{PartWord}
use Rattle.netlist_text.specs.declared.parts.PartWord.TheVariants.{Buf, Not, And, Or, Xor, Nand, Nor, Xnor, Add, Mul, Const, Reg}

-- the bytes of the word
text : PartWord → List ℕ
text Buf = codes "buf"
text Not = codes "not"
text And = codes "and"
text Or = codes "or"
text Xor = codes "xor"
text Nand = codes "nand"
text Nor = codes "nor"
text Xnor = codes "xnor"
text Add = codes "add"
text Mul = codes "mul"
text Const = codes "const"
text Reg = codes "reg"

step : (b : Bool) (w : PartWord) (rest : Option PartWord) (v : PartWord) → (if b then Some w else rest) ≡ Some v → ((b ≡ true) × (w ≡ v)) ⊎ (rest ≡ Some v)
step true w rest v h = inl (refl, cc)
step false w rest v h = inr h

none_is_not_some : (v : PartWord) → None ≡ Some v → ⊥
none_is_not_some v h = cc

here : (name : List ℕ) (w v : PartWord) → (bytes_eq name (text w) ≡ true) × (w ≡ v) → bytes_eq name (text v) ≡ true
here name w v h = subst (λ (u : PartWord). bytes_eq name (text u) ≡ true) h.1 h.0

-- a word is what it is read as
word_is : (name : List ℕ) (v : PartWord) → parts.part_named name ≡ Some v → bytes_eq name (text v) ≡ true
unfolding parts.part_named text
word_is name v h = elim (step (bytes_eq name (codes "buf")) Buf _ v h) as (λ _. bytes_eq name (text v) ≡ true) [ inl e ↦ here name Buf v e | inr h0 ↦ elim (step (bytes_eq name (codes "not")) Not _ v h0) as (λ _. bytes_eq name (text v) ≡ true) [ inl e ↦ here name Not v e | inr h1 ↦ elim (step (bytes_eq name (codes "and")) And _ v h1) as (λ _. bytes_eq name (text v) ≡ true) [ inl e ↦ here name And v e | inr h2 ↦ elim (step (bytes_eq name (codes "or")) Or _ v h2) as (λ _. bytes_eq name (text v) ≡ true) [ inl e ↦ here name Or v e | inr h3 ↦ elim (step (bytes_eq name (codes "xor")) Xor _ v h3) as (λ _. bytes_eq name (text v) ≡ true) [ inl e ↦ here name Xor v e | inr h4 ↦ elim (step (bytes_eq name (codes "nand")) Nand _ v h4) as (λ _. bytes_eq name (text v) ≡ true) [ inl e ↦ here name Nand v e | inr h5 ↦ elim (step (bytes_eq name (codes "nor")) Nor _ v h5) as (λ _. bytes_eq name (text v) ≡ true) [ inl e ↦ here name Nor v e | inr h6 ↦ elim (step (bytes_eq name (codes "xnor")) Xnor _ v h6) as (λ _. bytes_eq name (text v) ≡ true) [ inl e ↦ here name Xnor v e | inr h7 ↦ elim (step (bytes_eq name (codes "add")) Add _ v h7) as (λ _. bytes_eq name (text v) ≡ true) [ inl e ↦ here name Add v e | inr h8 ↦ elim (step (bytes_eq name (codes "mul")) Mul _ v h8) as (λ _. bytes_eq name (text v) ≡ true) [ inl e ↦ here name Mul v e | inr h9 ↦ elim (step (bytes_eq name (codes "const")) Const _ v h9) as (λ _. bytes_eq name (text v) ≡ true) [ inl e ↦ here name Const v e | inr h10 ↦ elim (step (bytes_eq name (codes "reg")) Reg _ v h10) as (λ _. bytes_eq name (text v) ≡ true) [ inl e ↦ here name Reg v e | inr h11 ↦ absurd (none_is_not_some v h11) ] ] ] ] ] ] ] ] ] ] ] ]

same : (a b : Kind) → Some a ≡ Some b → a ≡ b
same a b h = cc

-- the word of a kind that it may act as
same_word : (v : PartWord) (k : Kind) → acting_kind v ≡ Some k → text v ≡ word_of_kind k
unfolding text
same_word Buf k h = ap word_of_kind (same kind.Buf k h)
same_word Not k h = ap word_of_kind (same kind.Not k h)
same_word And k h = ap word_of_kind (same kind.And k h)
same_word Or k h = ap word_of_kind (same kind.Or k h)
same_word Xor k h = ap word_of_kind (same kind.Xor k h)
same_word Nand k h = ap word_of_kind (same kind.Nand k h)
same_word Nor k h = ap word_of_kind (same kind.Nor k h)
same_word Xnor k h = ap word_of_kind (same kind.Xnor k h)
same_word Add k h = ap word_of_kind (same kind.Add k h)
same_word Mul k h = cc
same_word Const k h = cc
same_word Reg k h = cc

by_word : (o : Option PartWord) (name : List ℕ) (k : Kind) → ((v : PartWord) → o ≡ Some v → bytes_eq name (text v) ≡ true) → option_and_then acting_kind o ≡ Some k → name ≡ word_of_kind k
by_word None name k h e = cc
by_word (Some v) name k h e = (bytes_eq-Decides name (text v)).0 (h v refl) ∙ same_word v k e

-- the name of a kind that a component may act as is its word
word_again : (name : List ℕ) (k : Kind) → acting_kind_named name ≡ Some k → name ≡ word_of_kind k
word_again name k e = by_word (parts.part_named name) name k (word_is name) e

pub never : (c : Class) → IsTrue (are_one_class Alone c) → ⊥
never OneInput h = cc
never TwoInputs h = cc
never Alone h = cc

-- and a kind of a class is what its word stands for
named_again : (own : Kind) (c : Class) → IsTrue (are_one_class (class_of own) c) → acting_kind_named (word_of_kind own) ≡ Some own
unfolding parts.part_named
named_again kind.Buf c h = refl
named_again kind.Not c h = refl
named_again kind.And c h = refl
named_again kind.Or c h = refl
named_again kind.Xor c h = refl
named_again kind.Nand c h = refl
named_again kind.Nor c h = refl
named_again kind.Xnor c h = refl
named_again kind.Add c h = refl
named_again kind.Mul c h = absurd (never c h)
named_again (kind.Const value) c h = absurd (never c h)
named_again (kind.Reg reset) c h = absurd (never c h)
named_again (kind.Block block) c h = absurd (never c h)

yes : (one apart : Bool) → IsTrue one → apart ≡ false → (one && not apart) ≡ true
yes true false h e = refl
yes true true h e = cc
yes false apart h e = cc

no : (one apart : Bool) → (IsTrue one → apart ≡ false → ⊥) → (one && not apart) ≡ false
no true true h = refl
no true false h = absurd (h refl refl)
no false apart h = refl

module _ (own k : Kind) (name : List ℕ) (e : acting_kind_named name ≡ Some k) where
  pub may : MayAct own k → may_act_as own name ≡ true
  may h =
      rw e (yes (are_one_class (class_of own) (class_of k)) (bytes_eq name (word_of_kind own)) h.0
      (false_from_ne_true (bytes_eq name (word_of_kind own)) (λ is.
      let named : name ≡ word_of_kind own = (bytes_eq-Decides name (word_of_kind own)).0 is in
      h.1 (same own k (sym (named_again own (class_of k) h.0) ∙ (ap acting_kind_named (sym named) ∙ e))))))

  pub may_not : (MayAct own k → ⊥) → may_act_as own name ≡ false
  may_not h =
      rw e (no (are_one_class (class_of own) (class_of k)) (bytes_eq name (word_of_kind own)) (λ one apart.
      h (one, λ is. both_ways (bytes_eq name (word_of_kind own)) apart ((bytes_eq-Decides name (word_of_kind own)).1 (word_again name k e ∙ ap word_of_kind (sym is))))))

pub no_kind : (own : Kind) (name : List ℕ) → acting_kind_named name ≡ None → may_act_as own name ≡ false
no_kind own name e = rw e refl
