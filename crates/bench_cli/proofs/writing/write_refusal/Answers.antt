use Rattle.std.proofs.Common.{append_assoc, ◌≡◌, ◌++◌, List, ℕ, decimal, codes, ◌∙◌}
use Rattle.session_undo.specs.Replies.{refusal_line}
use Rattle.bench_cli.proofs.writing.write_refusal.Goals as goal

joined_line : (n : ℕ) (digits text : List ℕ) → digits ≡ decimal n → codes "no " ++ (digits ++ (codes " " ++ (text ++ codes "\n"))) ≡ refusal_line n text
joined_line n digits text e = rw e (simp append_assoc)

pub returns : goal.returns
returns g c =
    let e = joined_line c.args.number c.as_bytes-digits.result.now c.args.text.now (c.as_bytes-digits.ensures.value ∙ c.format.ensures.text) in
    rw (← e) c.write_pieces.ensures
