use Rattle.std.proofs.Common.{◌≡◌, ◌∙◌, sym, ap, subst, Result, IfOk}
use Rattle.netlist_text.specs.Grammar.{reading_of, reading_from, AsksPadded}
use Rattle.netlist_text.specs.Words.{words_of}
use Rattle.netlist_text.specs.declared.faults.LineFault.{LineFault}
use Rattle.netlist_text.specs.declared.requests.Request.{Request}
use Rattle.netlist_text.proofs.Padded.{reading_is_padded}
use Rattle.netlist_text.proofs.Reading.{not_printable, silent, by_command}
use Rattle.netlist_text.proofs.lines.read_line.Goals as goal

pub returns-then-not-has_only_printable-clause-reading : goal.returns-then-not-has_only_printable-clause-reading
returns-then-not-has_only_printable-clause-reading c = sym (not_printable c.args.bytes.now (sym c.has_only_printable.ensures ∙ c.if-not-has_only_printable.true))

pub returns-then-is_silent-clause-reading : goal.returns-then-is_silent-clause-reading
returns-then-is_silent-clause-reading c =
    sym (silent c.args.bytes.now (sym c.has_only_printable.ensures ∙ c.if-not-has_only_printable.false) (sym c.is_silent.ensures ∙ c.if-is_silent.true))

pub returns-in-Ok-clause-reading : goal.returns-in-Ok-clause-reading
returns-in-Ok-clause-reading c =
    let reads = by_command c.args.bytes.now (sym c.has_only_printable.ensures ∙ c.if-not-has_only_printable.false) (sym c.is_silent.ensures ∙ c.if-is_silent.false) in
    c.read_by.ensures ∙ (ap (λ command. reading_from command (words_of c.args.bytes.now)) (sym c.in-Ok.is ∙ c.command_of.ensures) ∙ sym reads)

pub returns-in-Ok-clause-padded : goal.returns-in-Ok-clause-padded
returns-in-Ok-clause-padded c =
    let reads = by_command c.args.bytes.now (sym c.has_only_printable.ensures ∙ c.if-not-has_only_printable.false) (sym c.is_silent.ensures ∙ c.if-is_silent.false) in
    let is : c.read_by.result ≡ reading_of c.args.bytes.now =
    c.read_by.ensures ∙ (ap (λ command. reading_from command (words_of c.args.bytes.now)) (sym c.in-Ok.is ∙ c.command_of.ensures) ∙ sym reads) in
    let P : Result Request LineFault → Type 0 = λ reading. IfOk reading AsksPadded in
    subst P (sym is) (reading_is_padded c.args.bytes.now)

pub returns-in-Err-clause-reading : goal.returns-in-Err-clause-reading
returns-in-Err-clause-reading c =
    let reads = by_command c.args.bytes.now (sym c.has_only_printable.ensures ∙ c.if-not-has_only_printable.false) (sym c.is_silent.ensures ∙ c.if-is_silent.false) in
    ap (λ command. reading_from command (words_of c.args.bytes.now)) (sym c.in-Err.is ∙ c.command_of.ensures) ∙ sym reads
