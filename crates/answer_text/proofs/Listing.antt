-- The words of a cell with their labels, listed one after another.
use Rattle.std.proofs.Common.{◌≡◌, ℕ, ◌<◌, ◌≤◌, ◌⊎◌, inl, inr, true, false, ◌==◌, refl, sym, subst, ap, ◌∙◌, List, [], ◌∷◌, ◌++◌, map, Option, Some, None, arith, append_assoc}
use Rattle.std.proofs.lemmas.Bool.Decides.{nat_tests}
use Rattle.environment_sets.specs.Sets.{Set}
use Rattle.environment_sets.specs.Lists.{IsIn, IsRising, IsListing}
use Rattle.environment_sets.specs.Orders.{ComesBefore}
use Rattle.environment_sets.proofs.Membership.{IsIn-append, IsIn-left, IsIn-right, IsRising-append}
use Rattle.circuit_model.specs.declared.model.Cell.{Cell}
use Rattle.circuit_model.specs.Closure.{fact}
use Rattle.circuit_model.specs.Diagnoses.{Place}
use Rattle.circuit_model.specs.Present.{PresentView}
use Rattle.circuit_model.specs.Whole.{order_of_present, stock}
use Rattle.circuit_model.specs.Printed.{Labelled, IsPrintedBefore, IsPrintedLabel}
use Rattle.circuit_model.specs.Stock.{IsInLabel}
use Rattle.label_engine.specs.Questions.{IsAbove, IsNextNumber, GivesNextNumber, HasLabel}
use Rattle.answer_text.specs.Labels.{labelled}
use Rattle.answer_text.specs.Texts.{label_line, label_lines}

module _ (v : ℕ) where
  of_labelled : (sets : List (Set Place)) (l : Labelled) → IsIn (map (labelled v) sets) l → (l.word ≡ v) × IsIn sets l.environment
  of_labelled [] l h = absurd h
  of_labelled (E ∷ sets) l (inl e) = (sym (ap (λ (k : Labelled). k.word) e), inl (ap (λ (k : Labelled). k.environment) e))
  of_labelled (E ∷ sets) l (inr h) = let r = of_labelled sets l h in (r.0, inr r.1)

  to_labelled : (sets : List (Set Place)) (l : Labelled) → l.word ≡ v → IsIn sets l.environment → IsIn (map (labelled v) sets) l
  to_labelled [] l e h = absurd h
  to_labelled (E ∷ sets) l e (inl same) = inl (let P : Set Place → Type 0 = λ F. labelled v F ≡ l in let Q : ℕ → Type 0 = λ w. labelled w l.environment ≡ l in subst P (sym same) (subst Q e refl))
  to_labelled (E ∷ sets) l e (inr h) = inr (to_labelled sets l e h)

  rising_labelled : (s : PresentView) (sets : List (Set Place)) → IsRising (ComesBefore (order_of_present s)) sets → IsRising (IsPrintedBefore s) (map (labelled v) sets)
  rising_labelled s [] r = tt
  rising_labelled s (E ∷ sets) r = (
    λ l h. let k = of_labelled sets l h in inr (sym k.0, r.0 l.environment k.1),
    rising_labelled s sets r.1,
  )

module _ (s : PresentView) (c : Cell) where
  abbrev Member : Labelled → Type 0
  Member l = IsInLabel (stock s) (fact c l.word) l.environment

  -- the words with their environments are listed up to the last word
  pub record ListsWords (last : Option ℕ) (label : List Labelled) : Type 0 where
    pub rising : IsRising (IsPrintedBefore s) label
    pub sound : (l : Labelled) → IsIn label l → Member l
    pub covered : (l : Labelled) → Member l → IsIn label l ⊎ IsAbove last l.word
    pub below : (l : Labelled) (v : ℕ) → IsIn label l → IsAbove last v → l.word < v

  pub words_none : ListsWords None []
  words_none = record { rising = tt; sound = λ l h. absurd h; covered = λ l h. inr tt; below = λ l v h above. absurd h }

  at_or_above : (v w : ℕ) → v ≤ w → (w ≡ v) ⊎ (v < w)
  at_or_above v w h =
      elim (w == v) as (λ b. (w == v) ≡ b → (w ≡ v) ⊎ (v < w)) [
        | true ↦ λ e. inl (grind (arith, nat_tests))
        | false ↦ λ e. inr (grind (arith, nat_tests))
      ] refl

  module _ (last : Option ℕ) (label : List Labelled) (was : ListsWords last label) where
    pub words_more : (v : ℕ) (sets : List (Set Place)) → IsNextNumber (HasLabel (stock s) c) last v → IsListing (ComesBefore (order_of_present s)) (IsInLabel (stock s) (fact c v)) sets → ListsWords (Some v) (label ++ map (labelled v) sets)
    words_more v sets next listed = record {
      rising = IsRising-append (IsPrintedBefore s) label (map (labelled v) sets) was.rising (rising_labelled v s sets listed.rising) (λ k l h i. inl (let w = of_labelled v sets l i in let low : k.word < v = was.below k v h next.above in omega (arith, low, w.0)));
      sound = λ l h. elim (IsIn-append label (map (labelled v) sets) l h) [
        | inl before ↦ was.sound l before
        | inr now ↦ let w = of_labelled v sets l now in let P : ℕ → Type 0 = λ u. IsInLabel (stock s) (fact c u) l.environment in subst P (sym w.0) ((listed.exact l.environment).0 w.1)
      ];
      covered = λ l member. elim (was.covered l member) [
        | inl before ↦ inl (IsIn-left label (map (labelled v) sets) l before)
        | inr above ↦ elim (at_or_above v l.word (next.least l.word (l.environment, member) above)) [
          | inl e ↦ inl (IsIn-right label (map (labelled v) sets) l (to_labelled v sets l e ((listed.exact l.environment).1 (let P : ℕ → Type 0 = λ u. IsInLabel (stock s) (fact c u) l.environment in subst P e member))))
          | inr later ↦ inr later
        ]
      ];
      below = λ l u h above. elim (IsIn-append label (map (labelled v) sets) l h) [
        | inl before ↦ let low : l.word < v = was.below l v before next.above in omega (arith, low, above)
        | inr now ↦ let w = of_labelled v sets l now in omega (arith, w.0, above)
      ];
    }

    pub words_all : GivesNextNumber (HasLabel (stock s) c) last None → IsPrintedLabel s c label
    words_all none = record {
      rising = was.rising;
      exact = λ l. (was.sound l, λ member. elim (was.covered l member) [ inl h ↦ h | inr above ↦ absurd (none l.word (l.environment, member) above) ]);
    }

  pub lines-append : (ks ls : List Labelled) → label_lines s c (ks ++ ls) ≡ label_lines s c ks ++ label_lines s c ls
  lines-append [] ls = refl
  lines-append (k ∷ ks) ls = ap (λ t. label_line s (fact c k.word) k.environment ++ t) (lines-append ks ls) ∙ sym (append_assoc (label_line s (fact c k.word) k.environment) (label_lines s c ks) (label_lines s c ls))
