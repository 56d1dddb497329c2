use Rattle.std.proofs.Common.{List, [], ◌∷◌, ◌++◌, subst, sym, ◌∙◌}
use Rattle.environment_sets.specs.declared.environment.Env.{Env}
use Rattle.hitting_sets.specs.declared.levels.Level.{Level}
use Rattle.hitting_sets.specs.Hitting.{AreMinimalFor}
use Rattle.hitting_sets.specs.Levels.{AreLevels}
use Rattle.hitting_sets.proofs.Kept.{levels_push}
use Rattle.hitting_sets.proofs.levels.Levels.push.Goals as goal

pub invariant_of-self : goal.invariant_of-self
invariant_of-self c = (c.self.invariant.0, subst AreLevels (sym c.in_err-push.ensures.items) c.self.invariant.1)

pub invariant_of-self-2 : goal.invariant_of-self-2
invariant_of-self-2 c =
    let last : Level = record { conflict = c.args.conflict; sets = c.in_ok-sets.sets } in
    let P : List Env → Type 0 = λ es. AreMinimalFor (es ++ c.args.conflict ∷ []) c.in_ok-sets.sets.items in (
      c.self.invariant.0,
      subst AreLevels (sym c.in_ok-push.ensures.items) (levels_push c.self.inside.list.items last c.self.invariant.1 (subst P (c.requires ∙ sym c.self.view_is) c.in_ok-sets.ensures)),
    )
