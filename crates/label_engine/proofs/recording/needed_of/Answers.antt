use Rattle.std.proofs.Common.{ℕ, List, get_or, take, None, subst}
use Rattle.std.proofs.lemmas.List.{take_more, take_all}
use Rattle.inference_search.specs.declared.inferred.Inferred.{Inferred}
use Rattle.label_engine.specs.Update.{AreNeeded}
use Rattle.label_engine.proofs.Needed.{none_needed, needs_one_more}
use Rattle.label_engine.proofs.recording.needed_of.Goals as goal

pub loop-inferred-init : goal.loop-inferred-init
loop-inferred-init c = rw c.new-needed.ensures.items (none_needed c.args.recorded.now)

pub loop-inferred-preserved : goal.loop-inferred-preserved
loop-inferred-preserved c =
    let found : List Inferred = c.args.found.now in
    let i : ℕ = c.loop-inferred.inferred-index in
    let nothing : Inferred = record { first = None; second = None; to = None; maker = None } in
    rw (take_more found i nothing c.loop-inferred-test.true) (needs_one_more c.args.recorded.now (take i found) c.loop-inferred.needed.items c.add_needed.new.needed.items (get_or found i nothing) c.loop-inferred.invariant c.in_ok-add_needed.ensures)

pub returns : goal.returns
returns c =
    let found : List Inferred = c.args.found.now in
    let i : ℕ = c.loop-inferred.inferred-index in
    let P : List Inferred → Type 0 = λ l. AreNeeded c.args.recorded.now l c.loop-inferred.needed.items in
    subst P (take_all i found c.loop-inferred-test.false) c.loop-inferred.invariant
