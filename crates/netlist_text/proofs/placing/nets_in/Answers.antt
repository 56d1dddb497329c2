use Rattle.std.proofs.Common.{◌≡◌, ℕ, ◌<◌, ◌++◌, ◌∷◌, [], List, length, sym, ap, ◌∙◌, arith, take}
use Rattle.std.proofs.lemmas.List.{take_more, take_all}
use Rattle.std.proofs.lemmas.Option.{get_or_from_slice_get, slice_get_within}
use Rattle.netlist_text.proofs.placing.nets_in.Goals as goal

pub loop-place-preserved : goal.loop-place-preserved
loop-place-preserved c =
    let row : List ℕ = c.args.row.now in
    let place : ℕ = c.loop-place.place in
    let sofar : c.loop-place.nets.items ≡ take place row = c.loop-place.invariant in
    let low : place < length row = slice_get_within row place c.at.result c.at.ensures in
    c.in_ok-push.ensures.items
    ∙ (ap (λ (xs : List ℕ). xs ++ c.at.result ∷ []) sofar
    ∙ sym (take_more row place c.at.result low ∙ ap (λ (x : ℕ). take place row ++ x ∷ []) (get_or_from_slice_get row place c.at.result c.at.result c.at.ensures)))

pub returns : goal.returns
returns c =
    let sofar : c.loop-place.nets.items ≡ take c.loop-place.place c.args.row.now = c.loop-place.invariant in
    sofar ∙ take_all c.loop-place.place c.args.row.now (omega arith)
