use Rattle.std.proofs.Common.{◌≡◌, ◌+◌, ◌-◌, ◌<◌, List, [], ◌∷◌, take, length, subst, sym, ap, ◌∙◌, arith}
use Rattle.std.proofs.lemmas.List.{length-map}
use Rattle.environment_sets.specs.declared.environment.Env.{Env}
use Rattle.hitting_sets.specs.declared.levels.Level.{Level}
use Rattle.hitting_sets.specs.Hitting.{AreMinimalFor}
use Rattle.hitting_sets.specs.Levels.{conflicts_of}
use Rattle.hitting_sets.proofs.Kept.{slice_get_at, minimal_for_none}
use Rattle.hitting_sets.proofs.levels.Levels.sets_of.Goals as goal

pub returns-then-prefix-eq0 : goal.returns-then-prefix-eq0
returns-then-prefix-eq0 c =
    let P : List Env → Type 0 = λ es. AreMinimalFor (take c.args.prefix c.args.self.now) es in
    let none : take c.args.prefix c.args.self.now ≡ [] = ap (λ n. take n c.args.self.now) c.if-prefix-eq0.true in
    let Q : List Env → Type 0 = λ es. AreMinimalFor es (c.self.inside.nothing ∷ []) in
    subst P (sym c.from_ref.ensures.value) (subst Q (sym none) (minimal_for_none c.self.inside.nothing c.self.invariant.0))

pub returns : goal.returns
returns c =
    let levels = c.self.inside.list.items in
    let level = c.index.result.now in
    let long : length (conflicts_of levels) ≡ length levels = length-map levels (λ (l : Level). l.conflict) in
    let same : length (conflicts_of levels) ≡ length c.args.self.now = ap length c.self.view_is in
    let low : c.args.prefix - 1 < length levels = omega (arith, c.requires) in
    let there = c.self.invariant.1 (c.args.prefix - 1) level (slice_get_at levels (c.args.prefix - 1) level low c.index.ensures) in
    let whole : take (c.args.prefix - 1 + 1) (conflicts_of levels) ≡ take c.args.prefix c.args.self.now =
    ap (λ n. take n (conflicts_of levels)) (omega arith) ∙ ap (take c.args.prefix) c.self.view_is in
    let P : List Env → Type 0 = λ es. AreMinimalFor es level.sets.items in
    let Q : List Env → Type 0 = λ es. AreMinimalFor (take c.args.prefix c.args.self.now) es in
    subst Q (sym c.deref.ensures.value) (subst P whole there)
