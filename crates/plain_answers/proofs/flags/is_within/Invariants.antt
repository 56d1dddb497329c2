use Rattle.std.proofs.Common.{ℕ, ◌<◌, IsTrue, false, slice_index_or}
use Rattle.plain_answers.proofs.flags.is_within.Given as goal

abbrev pub invariant-loop-place : goal.invariant-loop-place
invariant-loop-place l = (k : ℕ) → k < l.place → IsTrue (slice_index_or l.flags k false) → IsTrue (slice_index_or l.others k false)
