use Rattle.std.proofs.Common.{true≢false, sym, ◌∙◌}
use Rattle.proof_check.proofs.HeldWords.{Adds-put}
use Rattle.proof_check.proofs.held.add_word.Goals as goal

pub returns : goal.returns
returns c = Adds-put c.args.held.now c.args.found.now c.put.new.self c.args.cell c.args.word c.in-Some.value c.in-Some.is (λ h. true≢false (sym (c.has.ensures.1 h) ∙ c.if-has.false)) c.in_ok-put.ensures.ok
