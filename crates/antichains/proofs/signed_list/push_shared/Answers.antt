use Rattle.std.proofs.Common.{ℕ, ◌≡◌, ◌++◌, ◌∷◌, [], ◌/◌, List, length, set, sym, ap, subst, ◌∙◌}
use Rattle.std.proofs.lemmas.List.{with_items_is}
use Rattle.std.specs.Vec.{with_items}
use Rattle.antichains.specs.Signed.{AreShared}
use Rattle.antichains.specs.declared.signed_list.TheConstants.{BLOCK}
use Rattle.antichains.proofs.Blocks.{left_with, shared_with_one, first_of_block}
use Rattle.antichains.proofs.signed_list.push_shared.Goals as goal

pub returns-then-signatures-eq0 : goal.returns-then-signatures-eq0
returns-then-signatures-eq0 c =
    let ws : List ℕ = c.args.signatures.now in
    subst (λ (l : List ℕ). AreShared (ws ++ c.args.signature ∷ []) l) (sym c.push_signature.ensures) (first_of_block ws c.args.shared.now.items c.args.signature c.requires.shared c.if-signatures-eq0.true)

pub returns-else-signatures-eq0 : goal.returns-else-signatures-eq0
returns-else-signatures-eq0 c =
    let ws : List ℕ = c.args.signatures.now in
    let old = c.args.shared.now in
    let w : ℕ = c.args.signature in
    let items : (with_items old c.share.new.shared).items ≡ c.share.new.shared = with_items_is old c.share.new.shared (c.share.auto.shared ∙ c.deref_mut.ensures.len) in
    let written : c.share.new.shared ≡ set old.items (length ws / BLOCK) (left_with old.items (length ws) w) = c.share.ensures ∙ ap (λ l. set l (length ws / BLOCK) (left_with l (length ws) w)) c.deref_mut.ensures.value in
    subst (λ (l : List ℕ). AreShared (ws ++ w ∷ []) l) (sym (items ∙ written)) (shared_with_one ws old.items w c.requires.shared c.if-signatures-eq0.false)
