-- Generated boxes that are run, and what is answered about them.
use Rattle.std.proofs.Common.{◌≡◌, ℕ, ◌+◌, ◌<◌, ◌≤◌, inl, inr, List, [], ◌∷◌, length, codes, get_or, drop, Option, Some, None, Result, Ok, Err, refl, sym, ◌∙◌, ap, subst}
use Rattle.std.proofs.lemmas.List.{drop_all, drop_more, length-map}
use Rattle.answer_text.specs.Texts.{best_line}
use Rattle.circuit_model.specs.Diagnoses.{IsConflict, IsDiagnosis}
use Rattle.circuit_model.specs.Present.{PresentView, circuit_of}
use Rattle.circuit_model.specs.Probe.{positions_in, AreConflicts}
use Rattle.environment_sets.specs.Counts.{AreSoMany}
use Rattle.environment_sets.specs.Lists.{IsStrict, IsListing}
use Rattle.environment_sets.specs.Members.{members, sets}
use Rattle.environment_sets.specs.declared.environment.Env.{Env}
use Rattle.environment_sets.proofs.CostOrder.{cost_order_is_strict}
use Rattle.environment_sets.proofs.OrderLaws.{order_is_strict}
use Rattle.netlist_text.specs.declared.requests.Change.{Change}
use Rattle.netlist_text.specs.declared.requests.Query.{Query}
use Rattle.netlist_text.specs.declared.requests.Query.TheVariants.{Conflicts, Diagnose, Probe}
use Rattle.netlist_text.specs.declared.requests.Request.TheVariants as request
use Rattle.probe_planner.specs.declared.planner.Probe as planner
use Rattle.session_undo.specs.Presents.{State, empty, after}
use Rattle.session_undo.specs.Serving.{Answers, IsFree, IsStoppedBy}
use Rattle.session_undo.specs.declared.answers.Answer.TheVariants as answer
use Rattle.session_undo.specs.declared.refusals.Refusal.{Refusal}
use Rattle.session_undo.specs.declared.refusals.Stop.{Stop}
use Rattle.session_undo.specs.declared.refusals.Stop.TheVariants as stop
use Rattle.workload_maker.specs.Boxes.{boxes}
use Rattle.bench_cli.specs.Summary.{Accepts, Refuses, StopsWith, Finds, IsBest, AreFindings, IsLineFor, SaysCount, SaysProbe, Best, NoProbe, AnswersQuestions, IsSummary, Unmade, Stopped, count_reply, probe_reply, reply_for, replies_of}
use Rattle.bench_cli.specs.declared.making.Findings.{Findings}
use Rattle.environment_sets.proofs.Listings.{rising_is_distinct}

-- what is left of the changes goes on from here as all of them do from the old state
pub record Advances (old : State) (changes : List Change) (i : ℕ) (now : State) : Type 0 where
  pub accepted : (t : State) → Accepts now (drop i changes) t → Accepts old changes t
  pub refused : (r : Refusal) → Refuses now (drop i changes) r → Refuses old changes r

pub Advances-none : (old : State) (changes : List Change) → Advances old changes 0 old
Advances-none old changes = record { accepted = λ t h. h; refused = λ r h. h }

-- one change more was accepted
pub Advances-more : (old now new : State) (changes : List Change) (i : ℕ) (change : Change) → i < length changes → change ≡ get_or changes i change
    → Advances old changes i now → IsFree now (request.Change change) → new ≡ after now change → Advances old changes (i + 1) new
Advances-more old now new changes i change low at p free same =
    let left : drop i changes ≡ change ∷ drop (i + 1) changes = drop_more changes i change low ∙ ap (λ x. x ∷ drop (i + 1) changes) (sym at) in
    record {
      accepted = λ t h.
          let P : List Change → Type 0 = λ xs. Accepts now xs t in
          let Q : State → Type 0 = λ s. Accepts s (drop (i + 1) changes) t in
          p.accepted t (subst P (sym left) (free, subst Q same h));
      refused = λ r h.
          let P : List Change → Type 0 = λ xs. Refuses now xs r in
          let Q : State → Type 0 = λ s. Refuses s (drop (i + 1) changes) r in
          p.refused r (subst P (sym left) (inr (free, subst Q same h)));
    }

-- the next change was stopped
pub Advances-stopped : (old now : State) (changes : List Change) (i : ℕ) (change : Change) (s : Stop) → i < length changes → change ≡ get_or changes i change
    → Advances old changes i now → IsStoppedBy now (request.Change change) s → StopsWith old changes s
Advances-stopped old now changes i change (stop.Refused r) low at p refused =
    let left : drop i changes ≡ change ∷ drop (i + 1) changes = drop_more changes i change low ∙ ap (λ x. x ∷ drop (i + 1) changes) (sym at) in
    let P : List Change → Type 0 = λ xs. Refuses now xs r in
    p.refused r (subst P (sym left) (inl refused))
Advances-stopped old now changes i change stop.OutOfMemory low at p wants = tt

-- no change is left
pub Advances-all : (old now : State) (changes : List Change) (i : ℕ) → length changes ≤ i → Advances old changes i now → Accepts old changes now
Advances-all old now changes i past p = let P : List Change → Type 0 = λ xs. Accepts now xs now in p.accepted now (subst P (sym (drop_all i changes past)) refl)

-- a listing in a strict order has as many elements as there are
listing_counts : {X : Type 0} (before : X → X → Type 0) (P : X → Type 0) → IsStrict before → (xs : List X) → IsListing before P xs → AreSoMany P (length xs)
listing_counts before P strict xs are = record {
  listed = xs;
  roster = record { distinct = rising_is_distinct before strict xs are.rising; exact = are.exact };
  many = refl;
}

-- the conflicts are as many as are listed
pub conflicts_counted : (s : PresentView) (found : List Env) → AreConflicts (circuit_of s) (sets found) → AreSoMany (IsConflict (circuit_of s)) (length found)
conflicts_counted s found are =
    let P : ℕ → Type 0 = λ n. AreSoMany (IsConflict (circuit_of s)) n in
    let as_many : length (sets found) ≡ length found = length-map found members in
    subst P as_many (listing_counts _ _ (order_is_strict _ (positions_in (circuit_of s))) (sets found) are)

-- the answer to `diagnose` has as many diagnoses as there are
pub diagnoses_counted : (s : State) (found : List Env) → Answers s Diagnose (answer.Diagnoses found) → AreSoMany (IsDiagnosis (circuit_of s.present)) (length found)
diagnoses_counted s found (inl h) =
    let P : ℕ → Type 0 = λ n. AreSoMany (IsDiagnosis (circuit_of s.present)) n in
    let as_many : length (sets found) ≡ length found = length-map found members in
    subst P as_many (listing_counts _ _ (cost_order_is_strict (positions_in (circuit_of s.present)) _) (sets found) h.1)
diagnoses_counted s found (inr h) = let asks = h.asks in cc

-- the line of what stopped a question
stopped_line : (s : State) (query : Query) (Says : List ℕ → Type 0) (why : Stop) → IsStoppedBy s (request.Query query) why → IsLineFor s query Says (reply_for why)
stopped_line s query Says (stop.Refused refusal) h = h
stopped_line s query Says stop.OutOfMemory h = h

count_is_told : {X : Type 0} (s : State) (query : Query) (word : List ℕ) (P : X → Type 0) (found : Result ℕ Stop) → Finds s query (AreSoMany P) found
    → IsLineFor s query (SaysCount word P) (count_reply word found)
count_is_told s query word P (Ok count) h = (h.0, record { count = count; counted = h.1; text = refl })
count_is_told s query word P (Err why) h = stopped_line s query (SaysCount word P) why h

best_is_told : (s : PresentView) (best : Option planner.Probe) → IsBest s best → SaysProbe s (best_line s best)
best_is_told s None h = NoProbe h refl
best_is_told s (Some p) h = Best p.cell p.score p.total h refl

probe_is_told : (s : State) (found : Result (Option planner.Probe) Stop) → Finds s Probe (IsBest s.present) found → IsLineFor s Probe (SaysProbe s.present) (probe_reply s.present found)
probe_is_told s (Ok best) h = (h.0, best_is_told s.present best h.1)
probe_is_told s (Err why) h = stopped_line s Probe (SaysProbe s.present) why h

-- the findings are the answers
pub findings_are_told : (s : State) (count : ℕ) (findings : Findings) → AreFindings s findings → AnswersQuestions s count (replies_of s.present count findings)
findings_are_told s count findings h = record {
  conflicts = _;
  diagnoses = _;
  probe = _;
  each = refl;
  of_conflicts = count_is_told s Conflicts (codes "conflicts") (IsConflict (circuit_of s.present)) findings.conflicts h.conflicts;
  of_diagnoses = count_is_told s Diagnose (codes "diagnoses") (IsDiagnosis (circuit_of s.present)) findings.diagnoses h.diagnoses;
  of_probe = probe_is_told s findings.best h.best;
}

-- what stopped the boxes is the summary
pub stop_is_told : (count seed : ℕ) (why : Stop) → StopsWith empty (boxes count seed) why → IsSummary count seed (reply_for why ∷ [])
stop_is_told count seed (stop.Refused refusal) h = Stopped refusal h refl
stop_is_told count seed stop.OutOfMemory h = Unmade refl
