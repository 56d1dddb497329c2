-- Runs that grow by one line.
use Rattle.std.proofs.Common.{◌≡◌, ℕ, ◌||◌, List, [], ◌∷◌, ◌++◌, refl, sym, ◌∙◌, ap, subst, append_assoc}
use Rattle.environment_sets.proofs.Membership.{or-end, or-assoc}
use Rattle.session_undo.specs.Replies.{text_of}
use Rattle.bench_cli.specs.Replies.{Exchange, transcript, lines_of_exchanges, has_refused, has_no_memory, is_refused, is_no_memory}
use Rattle.session_undo.specs.Presents.{State}
use Rattle.session_undo.specs.Steps.{Takes}
use Rattle.bench_cli.specs.Runs.{Run}

pub Run-more : (s t u : State) (es : List Exchange) (e : Exchange) → Run s es t → Takes t e.line e.reply u → Run s (es ++ e ∷ []) u
Run-more s t u [] e r k = let P : State → Type 0 = λ z. Takes z e.line e.reply u in (u, subst P r k, refl)
Run-more s t u (x ∷ es) e (mid, k, r) l = (mid, k, Run-more mid t u es e r l)

append-end : (xs : List ℕ) → xs ++ [] ≡ [] ++ xs
append-end [] = refl
append-end (x ∷ xs) = ap (λ t. x ∷ t) (append-end xs)

pub transcript-more : (es : List Exchange) (e : Exchange) → transcript (es ++ e ∷ []) ≡ transcript es ++ text_of e.reply
transcript-more [] e = append-end (text_of e.reply)
transcript-more (x ∷ es) e = ap (λ t. text_of x.reply ++ t) (transcript-more es e) ∙ sym (append_assoc (text_of x.reply) (transcript es) (text_of e.reply))

pub lines-more : (es : List Exchange) (e : Exchange) → lines_of_exchanges (es ++ e ∷ []) ≡ lines_of_exchanges es ++ e.line ∷ []
lines-more [] e = refl
lines-more (x ∷ es) e = ap (λ t. x.line ∷ t) (lines-more es e)

pub refused-more : (es : List Exchange) (e : Exchange) → has_refused (es ++ e ∷ []) ≡ (has_refused es || is_refused e.reply)
refused-more [] e = or-end (is_refused e.reply)
refused-more (x ∷ es) e = ap (λ t. is_refused x.reply || t) (refused-more es e) ∙ or-assoc (is_refused x.reply) (has_refused es) (is_refused e.reply)

pub no_memory-more : (es : List Exchange) (e : Exchange) → has_no_memory (es ++ e ∷ []) ≡ (has_no_memory es || is_no_memory e.reply)
no_memory-more [] e = or-end (is_no_memory e.reply)
no_memory-more (x ∷ es) e = ap (λ t. is_no_memory x.reply || t) (no_memory-more es e) ∙ or-assoc (is_no_memory x.reply) (has_no_memory es) (is_no_memory e.reply)
