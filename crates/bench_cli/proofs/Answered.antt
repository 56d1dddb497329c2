-- An answer to a question, as its reply.
use Rattle.std.proofs.Common.{◌≡◌, ℕ, inl, inr, List, Some, None, refl, sym, subst}
use Rattle.circuit_model.specs.declared.model.Cell.{Cell}
use Rattle.circuit_model.specs.Chosen.{chosen_places}
use Rattle.environment_sets.specs.Members.{sets}
use Rattle.netlist_text.specs.declared.requests.Query.{Query}
use Rattle.netlist_text.specs.declared.requests.Request.TheVariants as request
use Rattle.proof_check.specs.Written.{derivation_of}
use Rattle.session_undo.specs.Answers.{IsToldAs}
use Rattle.session_undo.specs.Presents.{State}
use Rattle.session_undo.specs.Replies.{Reply, Text}
use Rattle.session_undo.specs.Serving.{Answers, IsFree}
use Rattle.session_undo.specs.Steps.{IsAnswer, IsLabelReply, Best, NoProbe}
use Rattle.session_undo.specs.declared.answers.Answer.{Answer}
use Rattle.session_undo.specs.declared.answers.Answer.TheVariants as answer
use Rattle.bench_cli.specs.Serving.{Serves}

-- the text of an answer to the question is its reply
pub told_answers : (s : State) (query : Query) (a : Answer) (text : List ℕ) → Answers s query a → IsToldAs s a text → IsAnswer s.present query text
told_answers s query (answer.Label cell) text h told =
    let P : Query → Type 0 = λ q. IsAnswer s.present q text in
    let Q : Cell → Type 0 = λ c. IsLabelReply s.present c text in
    subst P (sym h.asks) (subst Q h.is told)
told_answers s query (answer.Conflicts found) text h told = let P : Query → Type 0 = λ q. IsAnswer s.present q text in subst P (sym h.0) (record { sets = sets found; are = h.1; lines = told })
told_answers s query (answer.Diagnoses found) text (inl h) told = let P : Query → Type 0 = λ q. IsAnswer s.present q text in subst P (sym h.0) (record { sets = sets found; are = h.1; lines = told })
told_answers s query (answer.Diagnoses found) text (inr h) told = let P : Query → Type 0 = λ q. IsAnswer s.present q text in subst P (sym h.asks) (record { sets = sets found; are = h.are; lines = told })
told_answers s query (answer.Probe None) text h told = let P : Query → Type 0 = λ q. IsAnswer s.present q text in subst P (sym h.asks) (NoProbe h.is told)
told_answers s query (answer.Probe (Some p)) text h told = let P : Query → Type 0 = λ q. IsAnswer s.present q text in subst P (sym h.asks) (Best p.cell p.score p.total h.is told)
told_answers s query (answer.Explained under derivation) text (inl h) told =
    let P : Query → Type 0 = λ q. IsAnswer s.present q text in
    subst P (sym h.asks) (record { environment = chosen_places under; first = h.first; told = record { derivation = derivation_of derivation; canonical = h.canonical; lines = told } })
told_answers s query (answer.Explained under derivation) text (inr h) told =
    let P : Query → Type 0 = λ q. IsAnswer s.present q text in
    subst P (sym h.asks) (record { conflict = h.conflict; numbered = h.numbered; environment = chosen_places under; first = h.first; told = record { derivation = derivation_of derivation; canonical = h.canonical; lines = told } })
told_answers s query answer.Show text h told = let P : Query → Type 0 = λ q. IsAnswer s.present q text in subst P (sym h) told

-- a question that was answered was served
pub answered : (old new : State) (query : Query) (a : Answer) (reply : Reply) → IsFree old (request.Query query) → Answers old query a → new ≡ old → (told : (text : List ℕ) × (reply ≡ Text text) × IsToldAs new a text) → Serves old (request.Query query) reply new
answered old new query a reply free h same told =
    let P : State → Type 0 = λ s. IsToldAs s a told.0 in
    let Q : Reply → Type 0 = λ r. Serves old (request.Query query) r new in
    subst Q (sym told.1) (free, (told.0, refl, told_answers old query a told.0 h (subst P same told.2), same))
