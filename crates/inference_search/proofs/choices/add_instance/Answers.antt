use Rattle.std.proofs.Common.{true≢false, sym, ◌∙◌}
use Rattle.std.proofs.lemmas.Result.{IfOk-weaker}
use Rattle.inference_search.proofs.Finding.{Finds-same, Finds-map}
use Rattle.inference_search.proofs.Trying.{not_used, done_from_all}
use Rattle.inference_search.proofs.choices.add_instance.Goals as goal

pub returns-then-not-can_use : goal.returns-then-not-can_use
returns-then-not-can_use c =
    let s = c.args.asking.now in
    Finds-same _ _ _ (λ known held uses. absurd (not_used s.must s.instance.cells known
    (λ e. true≢false (sym (c.can_use.ensures.none e) ∙ c.if-not-can_use.true))
    (λ p f e d. true≢false (sym (c.can_use.ensures.at p f e d) ∙ c.if-not-can_use.true))
    uses))

pub returns : goal.returns
returns c =
    let s = c.args.asking.now in
    IfOk-weaker _ _ _
    (λ x found. Finds-map _ _ _ _ _ _ (λ i q. q)
    (λ done. done_from_all s.slot s.must c.args.facts.now s.instance c.requires.ports _ _ _ c.in_ok-choices.ensures _ done)
    found)
    c.try_all.ensures
