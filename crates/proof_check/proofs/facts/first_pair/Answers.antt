use Rattle.std.proofs.Common.{◌≡◌, ◌-◌, true, get_or, true≢false, sym, subst, ◌∙◌, arith}
use Rattle.std.proofs.lemmas.Option.{slice_get-get_or}
use Rattle.circuit_model.specs.declared.model.Cell.{Cell}
use Rattle.circuit_model.specs.Present.{is_cell}
use Rattle.circuit_model.proofs.SameCells.{same_cell, cell_itself}
use Rattle.proof_check.proofs.Ordered.{AreApart-more, no_pair, pair_found, no_fact}
use Rattle.proof_check.proofs.facts.first_pair.Goals as goal

itself : (d e : Cell) → d ≡ e → is_cell d e ≡ true
itself d e same = subst (λ (e : Cell). is_cell d e ≡ true) same (cell_itself d)

pub loop-i-init : goal.loop-i-init
loop-i-init c = λ k f g low at there same. omega arith

pub loop-i-preserved : goal.loop-i-preserved
loop-i-preserved c =
    AreApart-more c.args.facts.now c.requires c.loop-i.i (get_or c.args.facts.now (c.loop-i.i - 1) no_fact) (get_or c.args.facts.now c.loop-i.i no_fact) (omega arith) (slice_get-get_or c.args.facts.now (c.loop-i.i - 1) no_fact (omega arith)) (slice_get-get_or c.args.facts.now c.loop-i.i no_fact (omega arith))
    (λ same. true≢false (sym (itself _ _ same) ∙ (sym c.eq.ensures ∙ c.if-eq.false))) c.loop-i.invariant

pub returns-then-eq : goal.returns-then-eq
returns-then-eq c =
    pair_found c.args.facts.now c.requires c.loop-i.i (get_or c.args.facts.now (c.loop-i.i - 1) no_fact) (get_or c.args.facts.now c.loop-i.i no_fact) (omega arith) (slice_get-get_or c.args.facts.now (c.loop-i.i - 1) no_fact (omega arith)) (slice_get-get_or c.args.facts.now c.loop-i.i no_fact (omega arith))
    (same_cell _ _ (sym c.eq.ensures ∙ c.if-eq.true)) c.loop-i.invariant

pub returns : goal.returns
returns c = no_pair c.args.facts.now c.requires c.loop-i.i c.loop-i.invariant (omega arith)
