use Rattle.std.proofs.Common.{◌≡◌, ◌<◌, ◌+◌, ℕ, List, [], ◌∷◌, ◌++◌, sym, subst, ◌∙◌, ap, arith}
use Rattle.environment_sets.specs.Sets.{Set}
use Rattle.environment_sets.specs.Lists.{IsRoster}
use Rattle.circuit_model.specs.Diagnoses.{Place, AtPart, AtCell}
use Rattle.plain_answers.specs.declared.environment.Environment.{Environment}
use Rattle.plain_answers.specs.Members.{members}
use Rattle.plain_answers.specs.Subsets.{sets, IsWithin, IsPart, doubling}
use Rattle.plain_answers.proofs.Doubling.{parts_doubled, empty_roster}
use Rattle.plain_answers.proofs.subsets.part_sets.Goals as goal

no_part : (k : Place) → IsPart 0 k → ⊥
no_part (AtPart k) h = let low : k < 0 = h in omega arith
no_part (AtCell c) h = h

pub loop-place-init : goal.loop-place-init
loop-place-init c =
    let is : c.push.new.self.items ≡ c.empty.result ∷ [] = c.in_ok-push.ensures.items ∙ ap (λ (es : List Environment). es ++ c.empty.result ∷ []) c.new-all.ensures.items in
    subst (λ (es : List Environment). IsRoster (IsWithin (IsPart 0)) (sets es)) (sym is) (empty_roster (IsPart 0) (members c.empty.result) no_part c.empty.ensures)

pub loop-place-preserved : goal.loop-place-preserved
loop-place-preserved c =
    let is : sets c.in_ok-all.all.items ≡ doubling (AtPart c.loop-place.place) (sets c.loop-place.all.items) =
    c.in_ok-all.ensures ∙ ap (λ (es : List Environment). doubling (AtPart c.loop-place.place) (sets es)) c.deref.ensures.value in
    subst (λ (Es : List (Set Place)). IsRoster (IsWithin (IsPart (c.loop-place.place + 1))) Es) (sym is) (parts_doubled c.loop-place.place (sets c.loop-place.all.items) c.loop-place.invariant)

pub returns : goal.returns
returns c =
    let all : c.loop-place.place ≡ c.parts-place-end.result = omega arith in
    subst (λ (n : ℕ). IsRoster (IsWithin (IsPart n)) (sets c.loop-place.all.items)) (all ∙ c.parts-place-end.ensures.value) c.loop-place.invariant
