-- A run of the program that tells a summary.
use Rattle.std.proofs.Common.{◌≡◌, ◌↔◌, inl, inr, ℕ, Bool, false, IsTrue, List, subst, arith}
use Rattle.std.specs.Prelude.{String}
use Rattle.bench_io.specs.Streams.{Telling}
use Rattle.netlist_text.specs.Words as lines
use Rattle.session_undo.specs.Replies.{Reply}
use Rattle.bench_cli.specs.Program.{Performs}
use Rattle.bench_cli.specs.Summary.{IsSummary, EndsWith, Tells}
use Rattle.bench_cli.specs.Words.{IsPlainRun, IsOrderedRun, IsRun, IsMake}
use Rattle.bench_cli.specs.declared.Status.{Status}
use Rattle.bench_cli.proofs.Causes.{too_much_unread}

-- the words ask for no session
pub no_run : {Z : Type 0} (words : List (String Z)) (plain ordered : Bool) → (IsTrue plain ↔ IsPlainRun words) → (IsTrue ordered ↔ IsOrderedRun words)
    → plain ≡ false → ordered ≡ false → IsRun words → ⊥
no_run words plain ordered p q e f (inl run) = let yes = p.1 run in cc
no_run words plain ordered p q e f (inr run) = let yes = q.1 run in cc

-- the summary that was told is the one that the words ask for
pub performs_make : {Z : Type 0} (words : List (String Z)) (status : Status) (source before now : Telling) (count seed : ℕ)
    → IsMake words → (IsRun words → ⊥)
    → ((asked : IsMake words) → count ≡ lines.number_of asked.count) → ((asked : IsMake words) → seed ≡ lines.number_of asked.seed)
    → (replies : List Reply) × IsSummary count seed replies × EndsWith status replies before now
    → Performs words status source source before now
performs_make words status source before now count seed make no_session of_count of_seed told =
    let replies = told.0 in
    let end = told.2 in
    let P : Status → Type 0 = λ s. Tells s replies before.bytes now.bytes in
    record {
      run = λ run. absurd (no_session run);
      make = λ asked.
          let C : ℕ → Type 0 = λ n. IsSummary n seed replies in
          let S : ℕ → Type 0 = λ n. IsSummary (lines.number_of asked.count) n replies in
          record { replies = replies; is = subst S (of_seed asked) (subst C (of_count asked) told.1); told = end.told };
      other_words = λ _ other. absurd (other make);
      write_fault = end.write_fault;
      write_counted = end.write_counted;
      usage = (λ e. absurd (subst P e end.told), λ other. absurd (other.1 make));
      read_fault = λ e. absurd (subst P e end.told);
      read_counted = λ more. absurd (omega (arith, more));
      too_much = too_much_unread status (λ e. subst P e end.told) source.bytes;
      complete = λ run. absurd (no_session run);
      source_later = omega arith;
      sink_later = end.later;
    }
