use Rattle.std.proofs.Common.{inl, ◌≡◌, ◌+◌, ◌<◌, ℕ, List, [], ◌∷◌, ◌++◌, get_or, take, sym, ap, subst, ◌∙◌, length}
use Rattle.std.proofs.lemmas.List.{take_more, take_all}
use Rattle.environment_sets.specs.declared.environment.Env.{Env}
use Rattle.environment_sets.specs.Members.{members, HasMember}
use Rattle.environment_sets.specs.Families.{IsCovered}
use Rattle.label_engine.specs.Update.{HasUnionsWith}
use Rattle.label_engine.proofs.Walked.{none_yet, one_more, all_reached}
use Rattle.label_engine.proofs.update.add_unions_with.Goals as goal

pub loop-env-init : goal.loop-env-init
loop-env-init c = none_yet c.args.item.now c.args.nodes.now c.args.due.now.items

pub loop-env-preserved : goal.loop-env-preserved
loop-env-preserved c =
    let label : List Env = c.args.label.now in
    let i : ℕ = c.loop-env.env-index in
    let env : Env = c.env-item.result in
    let low : i < length label = (let P : List Env → Type 0 = λ l. i < length l in subst P c.members-env-items.ensures.all c.loop-env-test.true) in
    let at : get_or label i env ≡ env = (let P : List Env → Type 0 = λ l. get_or l i env ≡ env in subst P c.members-env-items.ensures.all (sym c.env-item.is)) in
    let front : take (i + 1) label ≡ take i label ++ env ∷ [] = take_more label i env low ∙ ap (λ (e : Env). take i label ++ e ∷ []) at in
    rw front (one_more c.args.item.now c.args.nodes.now (take i label) env c.args.due.now.items c.loop-env.due.items c.add_union.new.due.items c.loop-env.invariant c.in_ok-add_union.ensures)

pub add_union-requires-clause-completing : goal.add_union-requires-clause-completing
add_union-requires-clause-completing c = λ slots is. c.completing_with-completing.ensures c.args.nodes.now.nogoods c.requires.completing slots is

pub returns : goal.returns
returns c =
    let whole : take c.loop-env.env-index c.args.label.now ≡ c.args.label.now = take_all c.loop-env.env-index c.args.label.now (rw (← c.members-env-items.ensures.all) c.loop-env-test.false) in
    let P : List Env → Type 0 = λ l. HasUnionsWith c.args.item.now c.args.nodes.now l c.args.due.now.items c.loop-env.due.items in
    subst P whole c.loop-env.invariant

pub returns-then-covers_from : goal.returns-then-covers_from
returns-then-covers_from c =
    let cover : IsCovered (HasMember c.in-Some.kept.now) (members c.begun_union-begun.result.env) = c.covers_from.ensures.covered.0 c.if-covers_from.true in
    all_reached c.args.item.now c.args.nodes.now c.args.label.now c.args.due.now.items c.begun_union-begun.result c.begun_union-begun.ensures (inl (cover.0, c.in-Some.ensures cover.0 cover.1, cover.2))
