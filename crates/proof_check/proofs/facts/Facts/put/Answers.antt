use Rattle.std.proofs.Common.{◌≡◌, inl, inr, List, slice_get, Some, true≢false, sym, subst, ◌∙◌}
use Rattle.std.specs.List.{insert}
use Rattle.environment_sets.specs.Lists.{IsIn}
use Rattle.environment_sets.proofs.Membership.{IsIn-slice_get}
use Rattle.circuit_model.specs.declared.model.Fact.{Fact}
use Rattle.proof_check.specs.Ordered.{AreInOrder, HasPut, IsPlaceOf}
use Rattle.proof_check.proofs.Ordered.{HasPut-insert, AreInOrder-insert}
use Rattle.proof_check.proofs.facts.Facts.put.Goals as goal

pub returns-then-stands_at-clause-ok : goal.returns-then-stands_at-clause-ok
returns-then-stands_at-clause-ok c = λ g. (
  λ h. inr h,
  λ h.
      let same : c.deref-2.result.now ≡ c.args.self.now = cc in
      let here : IsIn c.args.self.now c.args.fact = subst (λ (xs : List Fact). IsIn xs c.args.fact) same (IsIn-slice_get c.deref-2.result.now c.place_for-place.result c.args.fact (c.stands_at.ensures.0 c.if-stands_at.true)) in
      elim h [ inl e ↦ subst (λ (f : Fact). IsIn c.args.self.now f) e here | inr k ↦ k ],
)

pub returns-clause-ok : goal.returns-clause-ok
returns-clause-ok c =
    let items : c.insert.new.self.items ≡ insert c.self.inside.list.items c.place_for-place.result c.args.fact = c.in_ok-insert.ensures.items in
    let same : c.self.inside.list.items ≡ c.args.self.now = cc in
    let Q : List Fact → Type 0 = λ old. HasPut c.args.fact old c.insert.new.self.items in
    let R : List Fact → Type 0 = λ new. HasPut c.args.fact c.self.inside.list.items new in
    subst Q same (subst R (sym items) (HasPut-insert c.args.fact c.self.inside.list.items c.place_for-place.result))

pub invariant_of-self-2 : goal.invariant_of-self-2
invariant_of-self-2 c =
    let items : c.insert.new.self.items ≡ insert c.self.inside.list.items c.place_for-place.result c.args.fact = c.in_ok-insert.ensures.items in
    let place : IsPlaceOf c.self.inside.list.items c.args.fact c.place_for-place.result = subst (λ (xs : List Fact). IsPlaceOf xs c.args.fact c.place_for-place.result) c.deref.ensures.value c.place_for-place.ensures in
    let R : List Fact → Type 0 = λ new. AreInOrder new in
    subst R (sym items) (AreInOrder-insert c.self.inside.list.items c.args.fact c.place_for-place.result c.self.invariant place.within place.before place.after (λ e.
    true≢false (sym (c.stands_at.ensures.1 (subst (λ (xs : List Fact). slice_get xs c.place_for-place.result ≡ Some c.args.fact) (sym c.deref-2.ensures.value) e)) ∙ c.if-stands_at.false)))

pub returns-then-stands_at-clause-long : goal.returns-then-stands_at-clause-long
returns-then-stands_at-clause-long c = λ out.
    let same : c.deref-2.result.now ≡ c.args.self.now = cc in
    let here : IsIn c.args.self.now c.args.fact = subst (λ (xs : List Fact). IsIn xs c.args.fact) same (IsIn-slice_get c.deref-2.result.now c.place_for-place.result c.args.fact (c.stands_at.ensures.0 c.if-stands_at.true)) in
    absurd (out here)

pub returns-clause-order : goal.returns-clause-order
returns-clause-order c =
    let items : c.insert.new.self.items ≡ insert c.self.inside.list.items c.place_for-place.result c.args.fact = c.in_ok-insert.ensures.items in
    let place : IsPlaceOf c.self.inside.list.items c.args.fact c.place_for-place.result = subst (λ (xs : List Fact). IsPlaceOf xs c.args.fact c.place_for-place.result) c.deref.ensures.value c.place_for-place.ensures in
    let R : List Fact → Type 0 = λ new. AreInOrder new in
    subst R (sym items) (AreInOrder-insert c.self.inside.list.items c.args.fact c.place_for-place.result c.self.invariant place.within place.before place.after (λ e.
    true≢false (sym (c.stands_at.ensures.1 (subst (λ (xs : List Fact). slice_get xs c.place_for-place.result ≡ Some c.args.fact) (sym c.deref-2.ensures.value) e)) ∙ c.if-stands_at.false)))
