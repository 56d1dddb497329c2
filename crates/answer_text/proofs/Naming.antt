-- The names of the components in a set, and the lines of several sets.
use Rattle.std.proofs.Common.{◌≡◌, ℕ, suc, ◌+◌, ◌<◌, Bool, true, false, if◌then◌else◌, List, [], ◌∷◌, ◌++◌, codes, Some, length, length-take-le, take, slice_get, refl, sym, ap, ◌∙◌, append_assoc, arith}
use Rattle.std.proofs.lemmas.List.{take_more, map-append, append-nil}
use Rattle.std.proofs.lemmas.Option.{get_or_from_slice_get, slice_get_within}
use Rattle.circuit_model.specs.declared.present.Component.{Component}
use Rattle.circuit_model.specs.Present.{PresentView}
use Rattle.environment_sets.specs.declared.environment.Env.{Env}
use Rattle.environment_sets.specs.Members.{members, sets}
use Rattle.environment_sets.specs.Sets.{Set}
use Rattle.answer_text.specs.Texts.{component_names, components_text, components_lines}
use Rattle.answer_text.proofs.Joining.{if_chosen, if_left}

-- one name more, if it is chosen
either : (b : Bool) (name : List ℕ) (L M Y : List (List ℕ)) → L ≡ M ++ Y → (if b then name ∷ L else L) ≡ (if b then name ∷ M else M) ++ Y
either true name L M Y e = ap (λ t. name ∷ t) e
either false name L M Y e = e

names-push : (C : Set ℕ) (k j : ℕ) (parts : List Component) (p : Component) → j ≡ k + length parts → component_names C k (parts ++ p ∷ []) ≡ component_names C k parts ++ (if C j then p.name ∷ [] else [])
names-push C k j [] p e = let f : j ≡ k = omega arith in rw f refl
names-push C k j (q ∷ parts) p e = either (C k) q.name _ _ _ (names-push C (suc k) j parts p (omega arith))

names-more : (C : Set ℕ) (parts : List Component) (i : ℕ) (p : Component) → slice_get parts i ≡ Some p → component_names C 0 (take (i + 1) parts) ≡ component_names C 0 (take i parts) ++ (if C i then p.name ∷ [] else [])
names-more C parts i p e =
    let within : i < length parts = slice_get_within parts i p e in
    let size : i ≡ 0 + length (take i parts) = omega (arith, length-take-le i parts (omega arith)) in
    ap (λ t. component_names C 0 t) (take_more parts i p within ∙ ap (λ x. take i parts ++ x ∷ []) (get_or_from_slice_get parts i p p e)) ∙ names-push C 0 i (take i parts) p size

pub names-chosen : (C : Set ℕ) (parts : List Component) (i : ℕ) (p : Component) → slice_get parts i ≡ Some p → C i ≡ true → component_names C 0 (take i parts) ++ p.name ∷ [] ≡ component_names C 0 (take (i + 1) parts)
names-chosen C parts i p e h = sym (if_chosen (C i) _ _ p.name h (names-more C parts i p e))

pub names-left : (C : Set ℕ) (parts : List Component) (i : ℕ) (p : Component) → slice_get parts i ≡ Some p → C i ≡ false → component_names C 0 (take i parts) ≡ component_names C 0 (take (i + 1) parts)
names-left C parts i p e h = sym (if_left (C i) _ _ p.name h (names-more C parts i p e))

lines-push : (s : PresentView) (Cs : List (Set ℕ)) (C : Set ℕ) → components_lines s (Cs ++ C ∷ []) ≡ components_lines s Cs ++ (components_text s C ++ codes "\n")
lines-push s [] C = append-nil (components_text s C ++ codes "\n")
lines-push s (D ∷ Cs) C = ap (λ t. (components_text s D ++ codes "\n") ++ t) (lines-push s Cs C) ∙ sym (append_assoc (components_text s D ++ codes "\n") (components_lines s Cs) (components_text s C ++ codes "\n"))

pub lines_more : (s : PresentView) (es : List Env) (i : ℕ) (e : Env) → slice_get es i ≡ Some e → components_lines s (sets (take (i + 1) es)) ≡ components_lines s (sets (take i es)) ++ (components_text s (members e) ++ codes "\n")
lines_more s es i e at =
    let within : i < length es = slice_get_within es i e at in
    let more : take (i + 1) es ≡ take i es ++ e ∷ [] = take_more es i e within ∙ ap (λ x. take i es ++ x ∷ []) (get_or_from_slice_get es i e e at) in
    ap (λ (xs : List Env). components_lines s (sets xs)) more ∙ (ap (components_lines s) (map-append members (take i es) (e ∷ [])) ∙ lines-push s (sets (take i es)) (members e))
