-- Facts with commas between them, and the lines of steps.
use Rattle.std.proofs.Common.{◌≡◌, ℕ, ◌+◌, ◌<◌, List, [], ◌∷◌, ◌++◌, codes, length, map, take, slice_get, get_or, zero, suc, inl, inr, Option, Some, None, sym, ap, ◌∙◌, append_assoc}
use Rattle.std.proofs.lemmas.List.{take_more, map-append, append-nil}
use Rattle.std.proofs.lemmas.Option.{get_or_from_slice_get, slice_get_within}
use Rattle.environment_sets.specs.Lists.{IsIn}
use Rattle.environment_sets.proofs.Membership.{IsIn-slice_get, map-IsIn}
use Rattle.circuit_model.specs.declared.model.Fact.{Fact}
use Rattle.circuit_model.specs.Derivation as derivations
use Rattle.circuit_model.specs.Present.{PresentView}
use Rattle.proof_check.specs.declared.derivation.Step.{Step}
use Rattle.proof_check.specs.Written.{step_of, given}
use Rattle.answer_text.specs.Derivations.{step_line, step_lines, IsNamedStep}

-- two texts with a comma between them
pub with_comma : (t u : List ℕ) → (t ++ codes ",") ++ u ≡ t ++ 44 ∷ u
with_comma t u = append_assoc t (codes ",") u

lines-push : (s : PresentView) (steps : List derivations.Step) (t : derivations.Step) → step_lines s (steps ++ t ∷ []) ≡ step_lines s steps ++ step_line s t
lines-push s [] t = append-nil (step_line s t)
lines-push s (u ∷ steps) t = ap (λ x. step_line s u ++ x) (lines-push s steps t) ∙ sym (append_assoc (step_line s u) (step_lines s steps) (step_line s t))

-- one line more
pub steps_more : (s : PresentView) (steps : List Step) (i : ℕ) (t : Step) → slice_get steps i ≡ Some t → step_lines s (map step_of (take (i + 1) steps)) ≡ step_lines s (map step_of (take i steps)) ++ step_line s (step_of t)
steps_more s steps i t at =
    let within : i < length steps = slice_get_within steps i t at in
    let more : take (i + 1) steps ≡ take i steps ++ t ∷ [] = take_more steps i t within ∙ ap (λ x. take i steps ++ x ∷ []) (get_or_from_slice_get steps i t t at) in
    ap (λ (ts : List Step). step_lines s (map step_of ts)) more ∙ (ap (step_lines s) (map-append step_of (take i steps) (t ∷ [])) ∙ lines-push s (map step_of (take i steps)) (step_of t))

-- what a step at a place names is in the present
pub named_at : (s : PresentView) (steps : List Step) → ((t : derivations.Step) → IsIn (map step_of steps) t → IsNamedStep s t) → (i : ℕ) (t : Step) → slice_get steps i ≡ Some t → IsNamedStep s (step_of t)
named_at s steps named i t at = named (step_of t) (map-IsIn step_of steps t (IsIn-slice_get steps i t at))

-- a fact that stands at a place is one of those that are there
pub given_at : (from : List (Option Fact)) (i : ℕ) (f : Fact) → get_or from i None ≡ Some f → IsIn (given from) f
given_at [] i f at = absurd (cc)
given_at (None ∷ from) zero f at = absurd (cc)
given_at (Some g ∷ from) zero f at = inl (cc)
given_at (None ∷ from) (suc i) f at = given_at from i f at
given_at (Some g ∷ from) (suc i) f at = inr (given_at from i f at)
