use Rattle.std.proofs.Common.{refl, ◌≡◌, length, true≢false, sym, ◌∙◌, arith}
use Rattle.std.proofs.lemmas.Result.{IfOk-weaker}
use Rattle.environment_sets.proofs.Listings.{IsIn-last}
use Rattle.inference_search.proofs.Finding.{Finds-same, Finds-push, Finds-map}
use Rattle.inference_search.proofs.Choosing.{told_with_no_open_port, made_refuted, made_forced, told_refuted, told_forced}
use Rattle.inference_search.proofs.asking.add_choice.Goals as goal

pub returns-then-said : goal.returns-then-said
returns-then-said c =
    let wide : length c.args.known ≡ 3 = omega arith in
    let s = c.args.asking.now in
    let using = c.are_using.ensures.0 c.if-not-are_using.false in
    let agree = c.all_agree.ensures.0 c.if-not-all_agree.false in
    Finds-push _ _ _ _ _ c.in_ok-push.ensures.items
    (made_refuted s.slot s.instance s.must c.args.known wide _ _ _ _ _ c.facts_at-facts.ensures.facts using agree c.antecedents_of-from.ensures.facts _ _ c.consequences-said.ensures c.antecedents_of-from.ensures.once c.if-said.true)
    (λ alike uses. told_refuted s.slot s.instance s.must c.args.known wide _ _ _ _ _ c.facts_at-facts.ensures.facts using agree c.antecedents_of-from.ensures.facts _ _ c.consequences-said.ensures c.if-said.true _ (IsIn-last _ _ _ refl))

pub returns : goal.returns
returns c =
    let wide : length c.args.known ≡ 3 = omega arith in
    let s = c.args.asking.now in
    let using = c.are_using.ensures.0 c.if-not-are_using.false in
    let agree = c.all_agree.ensures.0 c.if-not-all_agree.false in
    IfOk-weaker _ _ _
    (λ x found. Finds-map _ _ _ _ _ _
    (made_forced s.slot s.instance s.must c.args.known wide _ _ _ _ _ c.facts_at-facts.ensures.facts using agree c.antecedents_of-from.ensures.facts _ _ c.consequences-said.ensures c.antecedents_of-from.ensures.once)
    (λ there alike uses. told_forced s.slot s.instance s.must c.args.known wide _ _ _ _ _ c.facts_at-facts.ensures.facts using agree c.antecedents_of-from.ensures.facts _ _ c.consequences-said.ensures c.if-said.false _ there)
    found)
    c.add_forced.ensures

pub returns-then-not-has_open_port : goal.returns-then-not-has_open_port
returns-then-not-has_open_port c =
    let s = c.args.asking.now in
    Finds-same _ _ _ (λ alike uses. told_with_no_open_port s.slot s.instance c.args.known _ c.requires.ports (λ open_port. true≢false (sym (c.has_open_port.ensures.1 open_port) ∙ c.if-not-has_open_port.true)))
