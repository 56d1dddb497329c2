use Rattle.std.proofs.Common.{rules, ◌≡◌, ◌<◌, ◌≤◌, ℕ, Bool, true, filter, get_or, length, map, not, IsTrue, Some, List, sym, ap, subst, ◌∙◌, arith}
use Rattle.std.specs.List.{slice_get}
use Rattle.std.proofs.lemmas.Fn.{filter_same}
use Rattle.std.proofs.lemmas.Option.{slice_get_within}
use Rattle.environment_sets.specs.declared.environment.Env.{Env}
use Rattle.environment_sets.specs.Members.{members}
use Rattle.environment_sets.specs.Signatures.{signature}
use Rattle.environment_sets.proofs.Membership.{slice_get-IsIn}
use Rattle.antichains.specs.Signed.{size_of, NoneBefore}
use Rattle.antichains.proofs.Larger.{filter_keeps}
use Rattle.antichains.proofs.Signing.{front_left, front_mapped}
use Rattle.std.proofs.lemmas.Bool.{false_from_ne_true}
use Rattle.antichains.specs.Signed.{IsBehindNone}
use Rattle.antichains.proofs.signed_list.SignedList.drop_slot.Goals as goal

pub sign_from-requires-clause-front : goal.sign_from-requires-clause-front
sign_from-requires-clause-front c =
    let old = c.args.self.now.list.items in
    let first = c.in-Some.first in
    let test : Env → Bool = λ (e : Env). not (members e c.args.slot) in
    let left : c.retain.new.self.items ≡ filter test old = filter_same _ test _ (λ x b q k. search rules) _ _ c.retain.ensures.filtered in
    let behind : IsBehindNone (λ e. IsTrue (members e c.args.slot)) old first = subst (λ (es : List Env). IsBehindNone (λ e. IsTrue (members e c.args.slot)) es first) c.deref.ensures.value c.in-Some.ensures in
    let inside : first ≤ length old = let low : first < length old = behind.inside in omega (arith, low) in
    let passes : (k : ℕ) (e : Env) → k < first → slice_get old k ≡ Some e → test e ≡ true = λ k e low at. ap not (false_from_ne_true (members e c.args.slot) (behind.none k e low at)) in
    record {
      within = subst (λ (es : List Env). first ≤ length es) (sym left) (front_left test old first inside passes);
      signatures = λ k low. ap (λ ws. get_or ws k 0) c.requires.signed.signatures ∙ (front_mapped test signature old first inside passes k low ∙ ap (λ (es : List Env). get_or (map signature es) k 0) (sym left));
      sizes = λ k low. ap (λ ws. get_or ws k 0) c.requires.signed.sizes ∙ (front_mapped test size_of old first inside passes k low ∙ ap (λ (es : List Env). get_or (map size_of es) k 0) (sym left));
    }

pub returns-in-Some-clause-left : goal.returns-in-Some-clause-left
returns-in-Some-clause-left c = ap (λ v. v.items) c.sign_from.ensures.same ∙ filter_same _ (λ (e : Env). not (members e c.args.slot)) _ (λ x b q k. search rules) _ _ c.retain.ensures.filtered

pub returns-in_default-clause-left : goal.returns-in_default-clause-left
returns-in_default-clause-left c =
    let old = c.args.self.now.list.items in
    let none : NoneBefore (λ e. IsTrue (members e c.args.slot)) old (length old) = subst (λ (es : List Env). NoneBefore (λ e. IsTrue (members e c.args.slot)) es (length es)) c.deref.ensures.value c.in_default.ensures in
    sym (filter_keeps (λ (e : Env). not (members e c.args.slot)) old (λ e there. let at : (k : ℕ) × (slice_get old k ≡ Some e) = slice_get-IsIn old e there in ap not (false_from_ne_true (members e c.args.slot) (none at.0 e (slice_get_within old at.0 e at.1) at.1))))
