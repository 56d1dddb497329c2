use Rattle.std.proofs.Common.{◌≡◌, ◌<◌, ℕ, Option, Some, None, length, slice_get, arith, refl, sym, subst}
use Rattle.std.proofs.lemmas.Bool.{both_ways}
use Rattle.std.proofs.lemmas.Option.{slice_get_read}
use Rattle.environment_sets.specs.Members.{members}
use Rattle.fact_index.proofs.Gathered.{fewer_left}
use Rattle.labelled_nodes.specs.declared.node.Node.{Node}
use Rattle.labelled_nodes.specs.Nodes.{facts_of}
use Rattle.label_engine.proofs.Values.{AreWalked, begun, cell_at, passed_over, taken_in, all_walked}
use Rattle.label_engine.proofs.questions.word_after.Goals as goal
use Rattle.label_engine.proofs.questions.word_after.Goals.{then-is_left, else-is_left}

pub loop-next-init : goal.loop-next-init
loop-next-init c = begun c.args.nodes.now.list c.args.cell (members c.args.mask.now) c.args.last c.last_at-next.result c.last_at-next.ensures

pub loop-next-smaller : goal.loop-next-smaller
loop-next-smaller c =
    let nodes = c.args.nodes.now.list in
    let was : AreWalked nodes c.args.cell (members c.args.mask.now) c.args.last c.loop-next.found (Some c.in-Some.place) = rw (← c.in-Some.is) c.loop-next.invariant in
    let inside : c.in-Some.place < length nodes = let before = was.next_is.before in let within = was.within in omega (arith, before, within) in
    let there = slice_get_read nodes (length nodes) c.in-Some.place c.index-list-place.result refl inside (rw (← c.list.ensures) c.index-list-place.is) in
    rw c.in-Some.is (fewer_left (facts_of nodes) c.index-list-place.result.fact.cell c.in-Some.place c.before-next.result (c.before-next.ensures c.index-list-place.result there))

pub loop-next-preserved : goal.loop-next-preserved
loop-next-preserved c =
    let nodes = c.args.nodes.now.list in
    let cell = c.args.cell in
    let mask = members c.args.mask.now in
    let last = c.args.last in
    let place = c.in-Some.place in
    let node : Node = c.index-list-place.result in
    let next = c.before-next.result in
    let was : AreWalked nodes cell mask last c.loop-next.found (Some place) = rw (← c.in-Some.is) c.loop-next.invariant in
    let inside : place < length nodes = let before = was.next_is.before in let within = was.within in omega (arith, before, within) in
    let there : slice_get nodes place ≡ Some node = slice_get_read nodes (length nodes) place node refl inside (rw (← c.list.ensures) c.index-list-place.is) in
    let gives = cell_at nodes cell mask last c.loop-next.found place was node there next (c.before-next.ensures node there) in
    let P : Option ℕ → Type 0 = λ found. AreWalked nodes cell mask last found next in
    elim c.if-is_left.branch [
      | then-is_left w ↦ subst P (sym w.found-is) (taken_in nodes cell mask last c.loop-next.found place was node there next w.least_of.result gives (c.is_left.ensures.0 w.if-is_left.true) w.least_of.ensures)
      | else-is_left w ↦ subst P (sym w.found-is) (passed_over nodes cell mask last c.loop-next.found place was node there next gives (λ left. both_ways c.is_left.result w.if-is_left.false (c.is_left.ensures.1 left)))
    ]

pub returns : goal.returns
returns c =
    let was : AreWalked c.args.nodes.now.list c.args.cell (members c.args.mask.now) c.args.last c.loop-next.found None = rw (← c.in_default.is) c.loop-next.invariant in
    all_walked c.args.nodes.now.list c.args.cell (members c.args.mask.now) c.args.last c.loop-next.found was
