use Rattle.std.proofs.Common.{ap, arith}
use Rattle.circuit_model.specs.Derivation as derivations
use Rattle.proof_check.specs.Rounds.{AreHeldAt}
use Rattle.proof_check.proofs.HeldWords.{AreHeldAt-ports, no_words, IsQuietAt-said, IsQuietAt-none, WordsFit-held, told_from}
use Rattle.proof_check.proofs.held.look_at_ports.Goals as goal

pub returns-in_default : goal.returns-in_default
returns-in_default c =
    IsQuietAt-none c.args.held.now c.args.site.now.instance c.args.ports c.args.found.now (no_words c.args.held.now c.requires.alike c.args.site.now.instance.cells c.args.site.now.words c.args.ports c.requires.ready.three (omega (arith, c.requires.ports)) c.requires.words c.in_default.ensures)

pub conclusions-said-requires-clause-fit : goal.conclusions-said-requires-clause-fit
conclusions-said-requires-clause-fit c =
    let at : AreHeldAt c.args.held.now c.args.site.now.instance.cells c.args.ports c.in-Some.known = AreHeldAt-ports c.args.held.now c.requires.alike c.args.site.now.instance.cells c.args.site.now.words c.args.ports c.in-Some.known c.requires.ready.three c.requires.words c.in-Some.ensures in
    WordsFit-held c.args.held.now c.args.site.now.instance c.args.ports c.in-Some.known c.requires.ready at

pub returns-then-said : goal.returns-then-said
returns-then-said c =
    let at : AreHeldAt c.args.held.now c.args.site.now.instance.cells c.args.ports c.in-Some.known = AreHeldAt-ports c.args.held.now c.requires.alike c.args.site.now.instance.cells c.args.site.now.words c.args.ports c.in-Some.known c.requires.ready.three c.requires.words c.in-Some.ensures in
    record {
      known = c.in-Some.known;
      words = at;
      refutes = c.conclusions-said.ensures.refutes_exactly.0 c.if-said.true;
      told = ap (derivations.Refuted c.args.site.now.part c.args.site.now.place c.args.ports) (told_from c.args.site.now.instance.cells c.args.ports c.in-Some.known c.facts_known.result c.requires.ready.three at.words.wide (omega (arith, c.requires.ports)) at.number c.facts_known.ensures);
    }

pub returns : goal.returns
returns c =
    let at : AreHeldAt c.args.held.now c.args.site.now.instance.cells c.args.ports c.in-Some.known = AreHeldAt-ports c.args.held.now c.requires.alike c.args.site.now.instance.cells c.args.site.now.words c.args.ports c.in-Some.known c.requires.ready.three c.requires.words c.in-Some.ensures in
    IsQuietAt-said c.args.held.now c.requires.alike c.args.site.now.instance c.args.ports c.in-Some.known c.requires.ready.three at c.conclusions-said.result.refuted c.conclusions-said.result.forced c.conclusions-said.ensures c.args.found.now c.add_words.new.found c.if-said.false c.in_ok-add_words.ensures
