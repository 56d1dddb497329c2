use Rattle.std.proofs.Common.{rules, ◌≡◌, ◌<◌, ℕ, Option, Some, None, List, [], ◌∷◌, ◌++◌, length, arith, sym, subst}
use Rattle.environment_sets.specs.declared.environment.Env.{Env}
use Rattle.first_diagnoses.specs.declared.waiting.Waiting.{Waiting}
use Rattle.first_diagnoses.specs.Waits.{AreWaiting, IsSoughtIn, AreHeavier, IsLeastOf}
use Rattle.first_diagnoses.proofs.ByWeight.{AreLighter, IsNextWeight, WaitFor, weights_left, none_lighter, all_wait, all_first, full_first, next_lighter, weights_fall, all_of_round, next_waits, wait_on}
use Rattle.first_diagnoses.proofs.listing.lightest_sets.Goals as goal

pub loop-next-init : goal.loop-next-init
loop-next-init c =
    let p = c.args.problem.now in
    let w : Waiting = record { least = 0; branch = c.all-all.result } in
    let first : c.push.new.self.items ≡ w ∷ [] = subst (λ (ws : List Waiting). c.push.new.self.items ≡ ws ++ w ∷ []) c.new-waiting.ensures.items c.in_ok-push.ensures.items in
    record {
      room = subst (λ (es : List Env). length es < c.args.limit) (sym c.new-found.ensures.items) (omega (arith, c.requires.room));
      lighter = subst (AreLighter p (Some 0)) (sym c.new-found.ensures.items) (none_lighter p);
      wait = subst (WaitFor p (Some 0)) (sym first) (all_wait p w (record { decided = c.all-all.ensures.branch; bound = λ D sought. omega arith }) c.all-all.ensures.sought);
    }

pub add_round-requires-clause-waiting : goal.add_round-requires-clause-waiting
add_round-requires-clause-waiting c = subst (AreWaiting c.args.problem.now) (sym c.deref.ensures.value) c.loop-next.invariant.wait.branches

pub returns-then-len-limit : goal.returns-then-len-limit
returns-then-len-limit c =
    let p = c.args.problem.now in
    let weight = c.in-Some.weight in
    let old = c.loop-next.found.items in
    let new = c.add_round.new.found.items in
    let earlier : AreLighter p (Some weight) old = subst (λ (next : Option ℕ). AreLighter p next old) c.in-Some.is c.loop-next.invariant.lighter in
    let wait : WaitFor p (Some weight) c.deref.result.now =
    subst (WaitFor p (Some weight)) (sym c.deref.ensures.value) (subst (λ (next : Option ℕ). WaitFor p next c.loop-next.waiting.items) c.in-Some.is c.loop-next.invariant.wait) in
    full_first p c.all-all.result c.all-all.ensures.sought weight c.args.limit old new c.loop-next.invariant.room earlier
    (all_of_round p c.all-all.result c.all-all.ensures.sought weight c.deref.result.now wait c.args.limit old new c.in_ok-later.ensures.first)
    (omega (arith, c.if-len-limit.true))

pub loop-next-preserved : goal.loop-next-preserved
loop-next-preserved c =
    let p = c.args.problem.now in
    let all = c.all-all.result in
    let sought = c.all-all.ensures.sought in
    let weight = c.in-Some.weight in
    let old = c.loop-next.found.items in
    let new = c.add_round.new.found.items in
    let later = c.in_ok-later.later.items in
    let fewer : length new < c.args.limit = omega (arith, c.if-len-limit.false) in
    let earlier : AreLighter p (Some weight) old = subst (λ (next : Option ℕ). AreLighter p next old) c.in-Some.is c.loop-next.invariant.lighter in
    let wait : WaitFor p (Some weight) c.deref.result.now =
    subst (WaitFor p (Some weight)) (sym c.deref.ensures.value) (subst (λ (next : Option ℕ). WaitFor p next c.loop-next.waiting.items) c.in-Some.is c.loop-next.invariant.wait) in
    let left : AreHeavier p (IsSoughtIn p c.deref.result.now) weight later = c.in_ok-later.ensures.rest fewer in
    let least : IsLeastOf later c.least_of-next.result = subst (λ (ws : List Waiting). IsLeastOf ws c.least_of-next.result) c.deref-in-Some.ensures.value c.least_of-next.ensures in
    let between : IsNextWeight p all weight c.least_of-next.result = next_waits p all sought weight c.deref.result.now wait later left c.least_of-next.result least in
    record {
      room = fewer;
      lighter = next_lighter p all sought weight c.args.limit old new c.loop-next.invariant.room earlier (all_of_round p all sought weight c.deref.result.now wait c.args.limit old new c.in_ok-later.ensures.first) fewer c.least_of-next.result between;
      wait = wait_on p all sought weight c.deref.result.now wait later left c.least_of-next.result between;
    }

pub loop-next-smaller : goal.loop-next-smaller
loop-next-smaller c =
    let p = c.args.problem.now in
    let weight = c.in-Some.weight in
    let later = c.in_ok-later.later.items in
    let wait : WaitFor p (Some weight) c.deref.result.now =
    subst (WaitFor p (Some weight)) (sym c.deref.ensures.value) (subst (λ (next : Option ℕ). WaitFor p next c.loop-next.waiting.items) c.in-Some.is c.loop-next.invariant.wait) in
    let left : AreHeavier p (IsSoughtIn p c.deref.result.now) weight later = c.in_ok-later.ensures.rest (omega (arith, c.if-len-limit.false)) in
    let least : IsLeastOf later c.least_of-next.result = subst (λ (ws : List Waiting). IsLeastOf ws c.least_of-next.result) c.deref-in-Some.ensures.value c.least_of-next.ensures in
    subst (λ (next : Option ℕ). weights_left c.least_of-next.result < weights_left next) (sym c.in-Some.is)
    (weights_fall p c.all-all.result weight c.least_of-next.result (search rules) (next_waits p c.all-all.result c.all-all.ensures.sought weight c.deref.result.now wait later left c.least_of-next.result least))

pub returns : goal.returns
returns c =
    let listed : AreLighter c.args.problem.now None c.loop-next.found.items = subst (λ (next : Option ℕ). AreLighter c.args.problem.now next c.loop-next.found.items) c.in_default.is c.loop-next.invariant.lighter in
    all_first c.args.problem.now c.args.limit c.loop-next.found.items (omega (arith, c.loop-next.invariant.room)) listed
