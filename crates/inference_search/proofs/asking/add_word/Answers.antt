use Rattle.std.proofs.Common.{◌≡◌, ℕ, Some, [], ◌∷◌, ◌++◌, refl, subst}
use Rattle.environment_sets.specs.Lists.{IsIn}
use Rattle.inference_search.specs.Choices.{to_fact}
use Rattle.environment_sets.proofs.Listings.{IsIn-last}
use Rattle.inference_search.proofs.Finding.{Finds-push}
use Rattle.inference_search.proofs.asking.add_word.Goals as goal

pub returns-in-Some : goal.returns-in-Some
returns-in-Some c =
    let there : (v : ℕ) → c.args.word ≡ Some v → IsIn (c.args.found.now.items ++ to_fact c.args.clash c.args.cell c.in-Some.value ∷ []) (to_fact c.args.clash c.args.cell v) =
    λ v e.
    let is : c.args.word ≡ Some c.in-Some.value = c.in-Some.is in
    let same : c.in-Some.value ≡ v = cc in
    let P : ℕ → Type 0 = λ v. IsIn (c.args.found.now.items ++ to_fact c.args.clash c.args.cell c.in-Some.value ∷ []) (to_fact c.args.clash c.args.cell v) in
    subst P same (IsIn-last c.args.found.now.items _ (to_fact c.args.clash c.args.cell c.in-Some.value) refl) in
    Finds-push _ _ c.args.found.now.items c.push.new.self.items (to_fact c.args.clash c.args.cell c.in-Some.value) c.in_ok-push.ensures.items (c.in-Some.value, c.in-Some.is, refl) there
