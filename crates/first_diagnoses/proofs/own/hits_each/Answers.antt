use Rattle.std.proofs.Common.{List, take, refl, sym, subst}
use Rattle.std.proofs.lemmas.Bool.{both_ways, false≢true}
use Rattle.std.proofs.lemmas.List.{take_all}
use Rattle.environment_sets.specs.declared.environment.Env.{Env}
use Rattle.environment_sets.specs.Sets.{HitsEach}
use Rattle.environment_sets.specs.Members.{members, sets, HasMember}
use Rattle.environment_sets.proofs.Membership.{map-IsIn}
use Rattle.hitting_sets.proofs.Rosters.{IsIn-at, has_more}
use Rattle.hitting_sets.proofs.Steps.{take_item}
use Rattle.hitting_sets.proofs.Widening.{hits_more}
use Rattle.first_diagnoses.proofs.own.hits_each.Goals as goal

pub loop-conflict-init : goal.loop-conflict-init
loop-conflict-init c = λ C h. absurd h

pub loop-conflict-preserved : goal.loop-conflict-preserved
loop-conflict-preserved c =
    let conflicts = c.args.conflicts.now in
    let i = c.loop-conflict.conflict-index in
    let item = c.conflict-item.result in
    let P : List Env → Type 0 = λ es. HitsEach (HasMember es) (members c.args.set.now) in
    subst P (sym (take_item conflicts i item c.loop-conflict-test.true c.conflict-item.is))
    (hits_more (sets (take i conflicts)) (members item) _ (has_more (take i conflicts) item) (members c.args.set.now) c.loop-conflict.invariant (c.meets.ensures.0 c.if-not-meets.false))

pub returns-then-not-meets : goal.returns-then-not-meets
returns-then-not-meets c = (
  λ is. absurd (false≢true is),
  λ hits.
      let there : HasMember c.args.conflicts.now (members c.conflict-item.result) =
      map-IsIn members c.args.conflicts.now c.conflict-item.result (IsIn-at c.args.conflicts.now c.loop-conflict.conflict-index c.conflict-item.result c.loop-conflict-test.true c.conflict-item.is) in
      absurd (both_ways c.meets.result c.if-not-meets.true (c.meets.ensures.1 (hits (members c.conflict-item.result) there))),
)

pub returns : goal.returns
returns c = (
  λ _. subst (λ (es : List Env). HitsEach (HasMember es) (members c.args.set.now)) (take_all c.loop-conflict.conflict-index c.args.conflicts.now c.loop-conflict-test.false) c.loop-conflict.invariant,
  λ _. refl,
)
