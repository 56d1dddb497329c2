use Rattle.std.proofs.Common.{◌≡◌, Some, true≢false, sym, ap, ◌∙◌}
use Rattle.index_lists.specs.Chains.{keys_in}
use Rattle.justifications.specs.Woven.{antecedent, name_of}
use Rattle.justifications.proofs.Lanes.{next_of_two, next_of_last, next_of_second}
use Rattle.justifications.proofs.Uses.{use_recorded, use_first, not_use_first, use_second}
use Rattle.justifications.proofs.links.next_use_in.Goals as goal

pub get-inferred-requires : goal.get-inferred-requires
get-inferred-requires c = use_recorded c.args.chains.now c.requires.chained c.args.node c.args.just.place c.requires.listed

pub behind_in-requires-clause-listed : goal.behind_in-requires-clause-listed
behind_in-requires-clause-listed c =
    let x = c.get-inferred.result.now in
    let out : antecedent 0 x ≡ Some c.args.node → ⊥ = λ e. true≢false (sym (c.is_first_antecedent.ensures.1 e) ∙ c.if-not-is_first_antecedent.true) in
    (c.args.node, use_second c.args.chains.now c.requires.chained c.args.node c.args.just.place c.requires.listed x c.get-inferred.ensures out)

pub returns-then-not-is_first_antecedent : goal.returns-then-not-is_first_antecedent
returns-then-not-is_first_antecedent c =
    let s = c.args.chains.now in
    let x = c.get-inferred.result.now in
    let out : antecedent 0 x ≡ Some c.args.node → ⊥ = λ e. true≢false (sym (c.is_first_antecedent.ensures.1 e) ∙ c.if-not-is_first_antecedent.true) in
    c.behind_in.ensures c.args.node (use_second s c.requires.chained c.args.node c.args.just.place c.requires.listed x c.get-inferred.ensures out)
    ∙ sym (next_of_second c.args.just.place (keys_in s 1 c.args.node) (keys_in s 0 c.args.node) (not_use_first s c.requires.chained c.args.node c.args.just.place c.requires.listed x c.get-inferred.ensures out))

pub returns-in-Some : goal.returns-in-Some
returns-in-Some c =
    let s = c.args.chains.now in
    let x = c.get-inferred.result.now in
    let is : antecedent 0 x ≡ Some c.args.node = c.is_first_antecedent.ensures.0 c.if-not-is_first_antecedent.false in
    let here = use_first s c.requires.chained c.args.node c.args.just.place c.requires.listed x c.get-inferred.ensures is in
    sym (next_of_two c.args.just.place (keys_in s 1 c.args.node) (keys_in s 0 c.args.node) c.in-Some.next.place (sym (c.behind_in-2.ensures c.args.node here) ∙ ap name_of c.in-Some.is))

pub returns : goal.returns
returns c =
    let s = c.args.chains.now in
    let x = c.get-inferred.result.now in
    let is : antecedent 0 x ≡ Some c.args.node = c.is_first_antecedent.ensures.0 c.if-not-is_first_antecedent.false in
    let here = use_first s c.requires.chained c.args.node c.args.just.place c.requires.listed x c.get-inferred.ensures is in
    c.first_in.ensures ∙ sym (next_of_last c.args.just.place (keys_in s 1 c.args.node) (keys_in s 0 c.args.node) here (sym (c.behind_in-2.ensures c.args.node here) ∙ ap name_of c.in_default.is))
