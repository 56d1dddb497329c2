use Rattle.std.proofs.Common.{◌≡◌, ℕ, get_or, bit_and, refl, sym, ◌∙◌, arith}
use Rattle.environment_sets.specs.Members.{members}
use Rattle.environment_sets.proofs.Words.{IsJoined-none, IsJoined-more, IsJoined-all, slots_in-meet}
use Rattle.environment_sets.proofs.environment.Env.meet.Goals as goal

pub loop-i-init : goal.loop-i-init
loop-i-init c = IsJoined-none _ _ _ _ refl

pub loop-i-preserved : goal.loop-i-preserved
loop-i-preserved c = IsJoined-more bit_and _ _ _ c.loop-i.i c.loop-i.invariant (omega arith)

pub returns : goal.returns
unfolding members
returns c =
    let xs = c.args.self.words in
    let ys = c.args.other.words in
    let each : (k : ℕ) → get_or c.loop-i.words k 0 ≡ bit_and (get_or xs k 0) (get_or ys k 0) = IsJoined-all bit_and xs ys c.loop-i.words c.loop-i.i refl (c.args.other.full ∙ sym c.args.self.full) (omega (arith, c.args.self.full)) c.loop-i.invariant in
    slots_in-meet xs ys c.loop-i.words each
