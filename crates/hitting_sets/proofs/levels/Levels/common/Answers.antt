use Rattle.std.proofs.Common.{◌≡◌, ◌<◌, ◌≤◌, List, length, get_or, subst, sym, ap, ◌∙◌, arith, true≢false}
use Rattle.std.proofs.lemmas.List.{length-map, take_more_same}
use Rattle.environment_sets.specs.declared.environment.Env.{Env}
use Rattle.hitting_sets.specs.declared.levels.Level.{Level}
use Rattle.hitting_sets.specs.Levels.{conflicts_of}
use Rattle.hitting_sets.proofs.Kept.{at_level, common_ends, common_within}
use Rattle.hitting_sets.proofs.levels.Levels.common.Goals as goal

pub returns-then-not-is_same-clause-longest : goal.returns-then-not-is_same-clause-longest
returns-then-not-is_same-clause-longest c = λ n inside same.
    let levels = c.self.inside.list.items in
    let i = c.loop-i.i in
    let d = c.index-conflicts-i.result in
    let long : length (conflicts_of levels) ≡ length levels = length-map levels (λ (l : Level). l.conflict) in
    let low : i < length levels = omega arith in
    let here : c.index.result.now.conflict ≡ get_or (conflicts_of levels) i d = at_level levels i c.index.result.now d low c.index.ensures in
    let P : List Env → Type 0 = λ es. get_or es i d ≡ get_or c.args.conflicts.now i d → ⊥ in
    let differ : get_or (conflicts_of levels) i d ≡ get_or c.args.conflicts.now i d → ⊥ = λ e. true≢false (sym (c.is_same.ensures.1 (here ∙ (e ∙ sym c.index-conflicts-i.is))) ∙ c.if-not-is_same.true) in
    common_ends c.args.self.now c.args.conflicts.now i n d (omega (arith, ap length c.self.view_is)) (omega arith) (subst P c.self.view_is differ) same

pub loop-i-preserved : goal.loop-i-preserved
loop-i-preserved c =
    let levels = c.self.inside.list.items in
    let i = c.loop-i.i in
    let d = c.index-conflicts-i.result in
    let long : length (conflicts_of levels) ≡ length levels = length-map levels (λ (l : Level). l.conflict) in
    let low : i < length levels = omega arith in
    let here : c.index.result.now.conflict ≡ get_or (conflicts_of levels) i d = at_level levels i c.index.result.now d low c.index.ensures in
    take_more_same c.args.self.now c.args.conflicts.now i d (omega (arith, ap length c.self.view_is)) (omega arith) c.loop-i.invariant (ap (λ es. get_or es i d) (sym c.self.view_is) ∙ (sym here ∙ (c.is_same.ensures.0 c.if-not-is_same.false ∙ c.index-conflicts-i.is)))

pub returns-clause-longest : goal.returns-clause-longest
returns-clause-longest c = λ n inside same.
    let levels = c.self.inside.list.items in
    let long : length (conflicts_of levels) ≡ length levels = length-map levels (λ (l : Level). l.conflict) in
    let within : n ≤ length c.args.self.now = common_within c.args.self.now c.args.conflicts.now n inside same in
    omega (arith, ap length c.self.view_is)
