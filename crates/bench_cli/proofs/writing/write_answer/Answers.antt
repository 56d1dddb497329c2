use Rattle.std.proofs.Common.{[], codes, refl}
use Rattle.session_undo.specs.Replies.{Text, Refused, NoMemory}
use Rattle.bench_cli.proofs.writing.write_answer.Goals as goal

pub returns-in-Nothing : goal.returns-in-Nothing
returns-in-Nothing g c = rw c.in-Nothing.is (Text [], refl, c.write_all.ensures)

pub returns-in-Accepted : goal.returns-in-Accepted
returns-in-Accepted g c = rw c.in-Accepted.is (Text (codes "ok\n"), refl, c.write_all-in-Accepted.ensures)

pub returns-in-Told : goal.returns-in-Told
returns-in-Told g c = let w = c.write_told.ensures in rw c.in-Told.is (Text w.0, (w.0, refl, w.1), w.2)

pub returns-in-Refused : goal.returns-in-Refused
returns-in-Refused g c = rw c.in-Refused.is (Refused c.in-Refused.refusal, refl, rw (← c.number.ensures, ← c.text.ensures) c.write_refusal.ensures)

pub returns-in-NoMemory : goal.returns-in-NoMemory
returns-in-NoMemory g c = rw c.in-NoMemory.is (NoMemory, refl, c.write_refusal-in-NoMemory.ensures)
