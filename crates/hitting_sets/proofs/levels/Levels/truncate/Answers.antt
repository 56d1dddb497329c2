use Rattle.std.proofs.Common.{take, subst, sym, ap, ◌∙◌}
use Rattle.std.proofs.lemmas.List.{take-map}
use Rattle.hitting_sets.specs.declared.levels.Level.{Level}
use Rattle.hitting_sets.specs.Levels.{conflicts_of, AreLevels}
use Rattle.hitting_sets.proofs.Kept.{levels_take}
use Rattle.hitting_sets.proofs.levels.Levels.truncate.Goals as goal

pub invariant_of-self : goal.invariant_of-self
invariant_of-self c =
    (c.self.invariant.0, subst AreLevels (sym c.truncate.ensures.items) (levels_take c.args.len c.self.inside.list.items c.self.invariant.1))

pub returns : goal.returns
returns c =
    ap conflicts_of c.truncate.ensures.items
    ∙ (sym (take-map (λ (l : Level). l.conflict) c.args.len c.self.inside.list.items) ∙ ap (take c.args.len) c.self.view_is)
