-- How a summary ends.
use Rattle.std.proofs.Common.{◌≡◌, ℕ, Bool, true, false, ◌||◌, List, [], ◌∷◌, ◌++◌, Option, Result, Ok, Err, codes, refl, sym, ◌∙◌, ap, subst, arith, append_assoc}
use Rattle.std.proofs.lemmas.List.{append-nil}
use Rattle.std.specs.Io.KnownBytes.{Appends}
use Rattle.bench_io.specs.Puts.{Puts}
use Rattle.bench_io.specs.Streams.{Telling}
use Rattle.circuit_model.specs.Present.{PresentView}
use Rattle.probe_planner.specs.declared.planner.Probe as planner
use Rattle.session_undo.specs.Replies.{Reply}
use Rattle.session_undo.specs.declared.refusals.Stop.{Stop}
use Rattle.session_undo.specs.declared.refusals.Stop.TheVariants as stop
use Rattle.bench_cli.specs.Replies.{is_refused, is_no_memory}
use Rattle.bench_cli.specs.Statuses.{status_by}
use Rattle.bench_cli.specs.Summary.{Tells, EndsWith, texts_of, want_memory, status_of, status_of_stop, status_of_findings, found_no_memory, was_refused, reply_for, count_reply, probe_reply, replies_of}
use Rattle.bench_cli.specs.declared.Status.{Status}
use Rattle.bench_cli.specs.declared.Status.TheVariants.{WriteFault}
use Rattle.bench_cli.specs.declared.making.Findings.{Findings}
use Rattle.bench_cli.proofs.Sessions.{no_write_fault}

-- a write failed
pub ends_failed : (failed : Bool) (replies : List Reply) (before now : Telling) → failed ≡ true → Puts false failed before now (texts_of replies) → EndsWith WriteFault replies before now
ends_failed true replies before now is p = let q = p.by_case in record { told = q.0; write_fault = λ _. q.2; write_counted = λ _. refl; later = q.1 }
ends_failed false replies before now is p = cc

tells_whole : (no_memory refused : Bool) (replies : List Reply) (before now : Option (List ℕ)) → status_by no_memory refused ≡ status_of replies → Appends before now (texts_of replies)
    → Tells (status_by no_memory refused) replies before now
tells_whole true refused replies before now is h = record { by_replies = is; written = h }
tells_whole false true replies before now is h = record { by_replies = is; written = h }
tells_whole false false replies before now is h = record { by_replies = is; written = h }

-- all was written
pub ends_whole : (failed no_memory refused : Bool) (status : Status) (replies : List Reply) (before now : Telling) → failed ≡ false → Puts false failed before now (texts_of replies)
    → status ≡ status_by no_memory refused → status_by no_memory refused ≡ status_of replies → EndsWith status replies before now
ends_whole true no_memory refused status replies before now is p e f = cc
ends_whole false no_memory refused status replies before now is p e f =
    let q = p.by_case in
    let P : Status → Type 0 = λ s. EndsWith s replies before now in
    subst P (sym e) (record {
      told = tells_whole no_memory refused replies before.bytes now.bytes f q.0;
      write_fault = λ w. no_write_fault no_memory refused w;
      write_counted = λ more. absurd (omega (arith, q.1, more));
      later = omega (arith, q.1);
    })

count_memory : (word : List ℕ) (found : Result ℕ Stop) → is_no_memory (count_reply word found) ≡ found_no_memory found
count_memory word (Ok count) = refl
count_memory word (Err why) = refl

count_refused : (word : List ℕ) (found : Result ℕ Stop) → is_refused (count_reply word found) ≡ was_refused found
count_refused word (Ok count) = refl
count_refused word (Err why) = refl

probe_memory : (s : PresentView) (found : Result (Option planner.Probe) Stop) → is_no_memory (probe_reply s found) ≡ found_no_memory found
probe_memory s (Ok best) = refl
probe_memory s (Err why) = refl

probe_refused : (s : PresentView) (found : Result (Option planner.Probe) Stop) → is_refused (probe_reply s found) ≡ was_refused found
probe_refused s (Ok best) = refl
probe_refused s (Err why) = refl

three_in_a_row : (a b c : Bool) → a || b || c ≡ a || (b || (c || false))
three_in_a_row true b c = refl
three_in_a_row false true c = refl
three_in_a_row false false true = refl
three_in_a_row false false false = refl

three : (a b c a' b' c' : Bool) → a' ≡ a → b' ≡ b → c' ≡ c → a || b || c ≡ a' || (b' || (c' || false))
three a b c a' b' c' d e f = rw (d, e, f) (three_in_a_row a b c)

-- the status of the findings is that of the replies that tell them
pub status_is_of_replies : (s : PresentView) (count : ℕ) (f : Findings) → status_of_findings f ≡ status_of (replies_of s count f)
status_is_of_replies s count f =
    let memory = three _ _ _ _ _ _ (count_memory (codes "conflicts") f.conflicts) (count_memory (codes "diagnoses") f.diagnoses) (probe_memory s f.best) in
    let refused = three _ _ _ _ _ _ (count_refused (codes "conflicts") f.conflicts) (count_refused (codes "diagnoses") f.diagnoses) (probe_refused s f.best) in
    ap (λ b. status_by b (was_refused f.conflicts || was_refused f.diagnoses || was_refused f.best)) memory ∙ ap (λ b. status_by (want_memory (replies_of s count f)) b) refused

-- so is that of what stopped the boxes
pub status_is_of_stop : (why : Stop) → status_by (is_no_memory (reply_for why)) (is_refused (reply_for why)) ≡ status_of (reply_for why ∷ [])
status_is_of_stop (stop.Refused refusal) = refl
status_is_of_stop stop.OutOfMemory = refl

pub status_as_flags : (why : Stop) → status_of_stop why ≡ status_by (is_no_memory (reply_for why)) (is_refused (reply_for why))
status_as_flags (stop.Refused refusal) = refl
status_as_flags stop.OutOfMemory = refl

-- four texts, one after another
pub texts_in_a_row : (a b c d : List ℕ) → ((a ++ b) ++ c) ++ d ≡ a ++ (b ++ (c ++ (d ++ [])))
texts_in_a_row a b c d = simp (append_assoc, append-nil) refl
