-- A reader or a writer of std that is taken for a source or a sink.
use Rattle.std.specs.Prelude.{ℕ}

-- the reader or the writer, and how often it has failed
pub record Adapting (Stream : Type 0) : Type 0 where
  pub stream : Stream
  pub failures : ℕ
