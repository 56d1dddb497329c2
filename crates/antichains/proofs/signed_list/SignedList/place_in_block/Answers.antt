use Rattle.std.proofs.Common.{◌≡◌, ℕ, Some, get_or, true≢false, sym, ◌∙◌, ◌-◌, arith, length, ◌<◌}
use Rattle.std.specs.List.{slice_get}
use Rattle.std.proofs.lemmas.Option.{slice_get-get_or}
use Rattle.environment_sets.specs.Sets.{◌⊆◌}
use Rattle.environment_sets.specs.Members.{members}
use Rattle.antichains.proofs.Blocks.{none_behind_end, none_behind_in_more, none_in_block}
use Rattle.antichains.proofs.signed_list.SignedList.place_in_block.Goals as goal

pub loop-place-init : goal.loop-place-init
loop-place-init c = none_behind_end (λ e. members e ⊆ members c.args.env.now) c.args.self.now.list.items c.args.block _ (omega (arith, c.min.ensures, c.len.ensures, c.args.self.now.list.ok.0))

pub returns-then-is_subset_at : goal.returns-then-is_subset_at
returns-then-is_subset_at c =
    let es = c.args.self.now.list.items in
    let i : ℕ = c.loop-place.place - 1 in
    let env = c.args.env.now in
    let low : i < length es = omega (arith, c.loop-place.auto.place, c.min.ensures, c.len.ensures, c.args.self.now.list.ok.0, c.loop-place-test.true) in
    let at : slice_get es i ≡ Some (get_or es i env) = slice_get-get_or es i env low in
    (get_or es i env, at, (c.is_subset_at.ensures (get_or es i env) at).0 c.if-is_subset_at.true)

pub loop-place-preserved : goal.loop-place-preserved
loop-place-preserved c =
    none_behind_in_more (λ e. members e ⊆ members c.args.env.now) c.args.self.now.list.items c.args.block c.loop-place.place (omega (arith, c.loop-place-test.true)) c.loop-place.invariant
    (λ e at within. true≢false (sym ((c.is_subset_at.ensures e at).1 within) ∙ c.if-is_subset_at.false))

pub returns : goal.returns
returns c = none_in_block (λ e. members e ⊆ members c.args.env.now) c.args.self.now.list.items c.args.block c.loop-place.place c.loop-place-test.false c.loop-place.invariant
