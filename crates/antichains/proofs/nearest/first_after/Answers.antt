use Rattle.std.proofs.Common.{◌≡◌, ◌<◌, ℕ, ◌+◌, length, take, get_or, Option, Some, sym, ap, subst, ◌∙◌, arith}
use Rattle.std.specs.List.{slice_get}
use Rattle.std.specs.Option.{option_map, option_copied}
use Rattle.std.proofs.lemmas.List.{get_or_default}
use Rattle.std.proofs.lemmas.Option.{slice_get-get_or}
use Rattle.environment_sets.specs.declared.environment.Env.{Env}
use Rattle.environment_sets.specs.Members.{members, HasMember}
use Rattle.environment_sets.specs.Orders.{ListsAll}
use Rattle.environment_sets.specs.Walks.{GivesNext}
use Rattle.antichains.specs.Nearest.{IsLess, IsMore, IsPassed}
use Rattle.antichains.specs.Signed.{size_of}
use Rattle.antichains.proofs.Nearer.{next_nearer, next_passed, found_listed}
use Rattle.antichains.proofs.Signing.{own_number}
use Rattle.antichains.proofs.Walked.{of_copied, smaller_is_passed, larger_is_passed}
use Rattle.antichains.proofs.nearest.first_after.Goals as goal
use Rattle.antichains.proofs.nearest.first_after.Goals.{then-is_nearer, else-is_nearer}

pub loop-place-preserved-then-is_less : goal.loop-place-preserved-then-is_less
loop-place-preserved-then-is_less c =
    let order = c.args.order.now in
    let mask = members c.args.mask.now in
    let last : Option Env = option_copied c.args.last in
    let es = c.args.signed.now.list.items in
    let i : ℕ = c.loop-place.place in
    let e : Env = get_or es i c.args.mask.now in
    let low : i < length es = omega (arith, c.args.signed.now.list.ok.0, c.len-place-end.ensures, c.loop-place-test.true) in
    let at : slice_get es i ≡ Some e = slice_get-get_or es i c.args.mask.now low in
    let is : e ≡ get_or es i e = get_or_default es i c.args.mask.now e low in
    let size : c.index-size.result.now ≡ size_of e = own_number size_of es c.args.signed.now.sizes.items i _ c.index-size.result.now e c.requires.signed.sizes c.index-size.ensures at in
    let less : IsLess c.index-size.result.now c.size_if-least.result = c.is_less.ensures.0 c.if-is_less.true in
    let bound : IsLess c.index-size.result.now (option_map size_of last) = subst (λ (b : Option ℕ). IsLess c.index-size.result.now b) c.size_if-least.ensures less in
    let below : IsLess (size_of e) (option_map size_of last) = subst (λ (n : ℕ). IsLess n (option_map size_of last)) size bound in
    let found = option_map members c.loop-place.next in
    let passed : IsPassed order mask (option_map members last) found (members e) = smaller_is_passed order mask c.requires.slots c.requires.mask_listed e last found (of_copied c.args.last (λ l. ListsAll order (members l)) c.requires.last_listed) below in
    record { gives = next_passed order mask (option_map members last) es i e low is found passed c.loop-place.invariant.gives; most = c.loop-place.invariant.most }

pub loop-place-preserved-then-is_more : goal.loop-place-preserved-then-is_more
loop-place-preserved-then-is_more c =
    let order = c.args.order.now in
    let mask = members c.args.mask.now in
    let last = option_map members (option_copied c.args.last) in
    let es = c.args.signed.now.list.items in
    let i : ℕ = c.loop-place.place in
    let e : Env = get_or es i c.args.mask.now in
    let low : i < length es = omega (arith, c.args.signed.now.list.ok.0, c.len-place-end.ensures, c.loop-place-test.true) in
    let at : slice_get es i ≡ Some e = slice_get-get_or es i c.args.mask.now low in
    let is : e ≡ get_or es i e = get_or_default es i c.args.mask.now e low in
    let size : c.index-size.result.now ≡ size_of e = own_number size_of es c.args.signed.now.sizes.items i _ c.index-size.result.now e c.requires.signed.sizes c.index-size.ensures at in
    let next : Option Env = c.loop-place.next in
    let more : IsMore c.index-size.result.now c.loop-place.most = c.is_more.ensures.0 c.if-is_more.true in
    let bound : IsMore c.index-size.result.now (option_map size_of next) = subst (λ (b : Option ℕ). IsMore c.index-size.result.now b) c.loop-place.invariant.most more in
    let above : IsMore (size_of e) (option_map size_of next) = subst (λ (n : ℕ). IsMore n (option_map size_of next)) size bound in
    let listed = found_listed order _ mask last next c.requires.mask_listed c.loop-place.invariant.gives in
    let passed : IsPassed order mask last (option_map members next) (members e) = larger_is_passed order mask c.requires.slots c.requires.mask_listed e last next listed above in
    record { gives = next_passed order mask last es i e low is (option_map members next) passed c.loop-place.invariant.gives; most = c.loop-place.invariant.most }

pub loop-place-preserved : goal.loop-place-preserved
loop-place-preserved c =
    let order = c.args.order.now in
    let mask = members c.args.mask.now in
    let last = option_map members (option_copied c.args.last) in
    let es = c.args.signed.now.list.items in
    let i : ℕ = c.loop-place.place in
    let e : Env = c.index-member.result.now in
    let is : e ≡ get_or es i e = c.index-member.ensures in
    let low : i < length es = omega (arith, c.args.signed.now.list.ok.0, c.len-place-end.ensures, c.loop-place-test.true) in
    let at : slice_get es i ≡ Some e = slice_get-get_or es i e low ∙ ap (λ x. Some x) (sym is) in
    let size : c.index-size.result.now ≡ size_of e = own_number size_of es c.args.signed.now.sizes.items i _ c.index-size.result.now e c.requires.signed.sizes c.index-size.ensures at in
    let found = option_map members c.loop-place.next in
    let P : Option Env → Type 0 = λ n. GivesNext order (HasMember (take (i + 1) es)) mask last (option_map members n) in
    elim c.if-is_nearer.branch [
      | then-is_nearer w ↦ record {
        gives = subst P (sym w.next-is) (next_nearer order mask last es i e low is found c.requires.mask_listed w.if-is_nearer.ensures c.loop-place.invariant.gives);
        most = w.most-is ∙ (ap (λ n. Some n) size ∙ sym (ap (option_map size_of) w.next-is));
      }
      | else-is_nearer w ↦ record {
        gives = subst P (sym w.next-is) (next_passed order mask last es i e low is found w.if-is_nearer.ensures c.loop-place.invariant.gives);
        most = w.most-is ∙ (c.loop-place.invariant.most ∙ sym (ap (option_map size_of) w.next-is));
      }
    ]
