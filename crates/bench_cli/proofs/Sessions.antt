-- A session so far, and how it ends.
use Rattle.std.proofs.Common.{◌≡◌, ◌≢◌, ◌⊎◌, ℕ, ◌+◌, ◌≤◌, ◌<◌, Bool, true, false, ◌||◌, List, [], ◌∷◌, ◌++◌, length, take, drop, Option, Some, None, Ok, Err, refl, sym, ◌∙◌, ap, subst, append_assoc, arith, inl, inr, length-append}
use Rattle.std.specs.Io.KnownBytes.{Appends, Consumes, IsAtEnd}
use Rattle.std.proofs.Math.Seq.{take-append_seam, drop-append_seam}
use Rattle.std.proofs.lemmas.Bool.{true≢false}
use Rattle.std.proofs.lemmas.List.{append-nil}
use Rattle.bench_io.specs.Lines.{HasNoNewline, lines_of, whole_lines_of, session_lines}
use Rattle.bench_io.specs.Streams.{Telling}
use Rattle.bench_io.specs.declared.limits.TheConstants.{MOST_BYTES, BUFFER_ROOM}
use Rattle.bench_io.specs.Reading.{Reading, lines_ahead}
use Rattle.bench_io.proofs.LineLaws.{some_byte}
use Rattle.bench_io.proofs.Bytes.{Consumes-then, Consumes-nothing, Appends-then}
use Rattle.session_undo.specs.Replies.{Reply, text_of}
use Rattle.bench_cli.specs.Replies.{Exchange, transcript, lines_of_exchanges, has_refused, has_no_memory, is_refused, is_no_memory}
use Rattle.session_undo.specs.Presents.{State, empty}
use Rattle.bench_cli.specs.Answering.{IsReply}
use Rattle.bench_cli.specs.Turns.{Steps, ReadSofar, Cuts, CountsEnding, status_at, tally_after}
use Rattle.bench_cli.specs.Session.{ReadsAll, ReadsTo, ReadsMost, ReadsSome, WhereTold, AnswersAll, Outcome, WritesPart}
use Rattle.bench_cli.specs.Statuses.{status_by}
use Rattle.bench_io.specs.Causes.{Rose}
use Rattle.bench_cli.specs.declared.Status.TheVariants.{ReadFault, WriteFault}
use Rattle.bench_cli.specs.declared.session.Tally.{Tally}
use Rattle.bench_cli.specs.declared.session.Ending.{Ending}
use Rattle.bench_cli.specs.declared.session.Ending.TheVariants as ending
use Rattle.bench_cli.specs.declared.turn.LineAnswer.{LineAnswer}
use Rattle.bench_cli.proofs.Lines.{Cuts-more, Cuts-last, Cuts-nothing, Cuts-whole, Cuts-all, Cuts-session}
use Rattle.bench_cli.proofs.Runs.{Run-more, transcript-more, lines-more, refused-more, no_memory-more}

-- where the bytes that were given and held, and those that were read, are these parts
parts-newline : (given held read t after : List ℕ) → held ++ read ≡ t ++ 10 ∷ after → (given ++ held) ++ read ≡ (given ++ (t ++ 10 ∷ [])) ++ after
parts-newline given held read t after e = append_assoc given held read ∙ (ap (λ u. given ++ u) e
    ∙ (ap (λ u. given ++ u) (sym (append_assoc t (10 ∷ []) after)) ∙ sym (append_assoc given (t ++ 10 ∷ []) after)))

parts-end : (given held read t after : List ℕ) → held ++ read ≡ t → after ≡ [] → (given ++ held) ++ read ≡ (given ++ t) ++ after
parts-end given held read t after e z = append_assoc given held read ∙ (ap (λ u. given ++ u) e ∙ rw z (sym (append-nil (given ++ t))))

stepped-by : (es : List Exchange) (t₀ t₁ t₂ : Telling) (r r' : Reading) (s s' : State) (answer : LineAnswer) (reply : Reply)
    (p : ReadSofar es t₀ t₁ r s) (q : Steps r r' s s' t₁ t₂ (Ok answer)) → IsReply s' answer reply
    → ((r.held ++ q.read ≡ q.answer.1.line ++ 10 ∷ r'.held) × (r'.has_ended ≡ false))
    ⊎ ((r.held ++ q.read ≡ q.answer.1.line) × (q.answer.1.line ≢ []) × (r'.held ≡ []) × (r'.has_ended ≡ true) × IsAtEnd t₂.bytes)
    → (n : ReadSofar (es ++ record { line = q.answer.1.line; reply = reply } ∷ []) t₀ t₂ r' s') × (length p.given < length n.given)
stepped-by es t₀ t₁ t₂ r r' s s' answer reply p q is (inl k) =
    let line = q.answer.1.line in
    let last : Exchange = record { line = line; reply = reply } in
    let e = parts-newline p.given r.held q.read line r'.held k.0 in
    let P : List ℕ → Type 0 = λ u. Consumes t₀.bytes t₂.bytes u in
    let Q : List (List ℕ) → Type 0 = λ u. Cuts (p.given ++ (line ++ 10 ∷ [])) u r'.has_ended in (
      record {
        run = Run-more _ _ _ es last p.run (q.answer.1.takes reply is);
        given = p.given ++ (line ++ 10 ∷ []);
        consumed = subst P e (Consumes-then _ _ _ _ _ p.consumed q.consumed);
        cuts = subst Q (sym (lines-more es last)) (Cuts-more _ _ _ _ line p.cuts q.answer.0 k.1 q.answer.1.begins.without_newline);
        taken = q.taken ∙ (ap (λ m. m + length q.read) p.taken ∙ (sym (length-append (p.given ++ r.held) q.read) ∙ ap length e));
        within = q.answer.1.begins.within;
        goes_on = q.answer.1.begins.goes_on;
        room = q.room;
        ended = λ g. absurd (true≢false (sym g ∙ k.1));
        kept = q.cause ∙ p.kept;
      },
      omega (arith, length-append p.given (line ++ 10 ∷ []), length-append line (10 ∷ [])),
    )
stepped-by es t₀ t₁ t₂ r r' s s' answer reply p q is (inr k) =
    let line = q.answer.1.line in
    let last : Exchange = record { line = line; reply = reply } in
    let e = parts-end p.given r.held q.read line r'.held k.0 k.2 in
    let P : List ℕ → Type 0 = λ u. Consumes t₀.bytes t₂.bytes u in
    let Q : List (List ℕ) → Type 0 = λ u. Cuts (p.given ++ line) u r'.has_ended in (
      record {
        run = Run-more _ _ _ es last p.run (q.answer.1.takes reply is);
        given = p.given ++ line;
        consumed = subst P e (Consumes-then _ _ _ _ _ p.consumed q.consumed);
        cuts = subst Q (sym (lines-more es last)) (Cuts-last _ _ _ _ line p.cuts q.answer.0 k.3 q.answer.1.begins.without_newline k.1);
        taken = q.taken ∙ (ap (λ m. m + length q.read) p.taken ∙ (sym (length-append (p.given ++ r.held) q.read) ∙ ap length e));
        within = q.answer.1.begins.within;
        goes_on = q.answer.1.begins.goes_on;
        room = q.room;
        ended = λ g. (k.2, k.4);
        kept = q.cause ∙ p.kept;
      },
      omega (arith, length-append p.given line, some_byte line k.1),
    )

-- a line was read and answered
pub stepped : (es : List Exchange) (t₀ t₁ t₂ : Telling) (r r' : Reading) (s s' : State) (answer : LineAnswer) (reply : Reply)
    (p : ReadSofar es t₀ t₁ r s) (q : Steps r r' s s' t₁ t₂ (Ok answer)) → IsReply s' answer reply
    → (n : ReadSofar (es ++ record { line = q.answer.1.line; reply = reply } ∷ []) t₀ t₂ r' s') × (length p.given < length n.given)
stepped es t₀ t₁ t₂ r r' s s' answer reply p q is = stepped-by es t₀ t₁ t₂ r r' s s' answer reply p q is q.answer.1.begins.cut

-- the measure falls with each line
pub ahead_falls : (es es' : List Exchange) (t₀ t₁ t₂ : Telling) (r r' : Reading) (s s' : State)
    (p : ReadSofar es t₀ t₁ r s) (n : ReadSofar es' t₀ t₂ r' s') → length p.given < length n.given → lines_ahead r' < lines_ahead r
ahead_falls es es' t₀ t₁ t₂ r r' s s' p n h =
    omega (arith, p.taken, n.taken, p.within, n.within, length-append p.given r.held, length-append n.given r'.held)

nothing_more : (held left : List ℕ) → (held ≡ []) × (left ≡ []) → held ++ left ≡ []
nothing_more held left e = rw (e.0, e.1) refl

no_parts : (a b : List ℕ) → a ++ b ≡ [] → (a ≡ []) × (b ≡ [])
no_parts [] b e = (refl, e)
no_parts (x ∷ a) b e = absurd (cc)

at_end : (ended : Bool) (left rest : List ℕ) → left ≡ rest → (ended ≡ true → left ≡ []) → (ended ≡ true) ⊎ (rest ≡ []) → rest ≡ []
at_end ended left rest same h (inl e) = sym same ∙ h e
at_end ended left rest same h (inr e) = e

told_to : (es : List Exchange) (l₀ l₂ : Option (List ℕ)) (given more : List ℕ) (ended : Bool) → Cuts given (lines_of_exchanges es) ended → ended ≡ false → HasNoNewline more
    → Consumes l₀ l₂ (given ++ more) → length (given ++ more) ≤ MOST_BYTES → WhereTold l₀ l₂ (ReadsTo (lines_of_exchanges es))
told_to es None l₂ given more ended c e h k fits = tt
told_to es (Some input) None given more ended c e h k fits = absurd k
told_to es (Some input) (Some left) given more ended c e h k fits = record {
  taken = given ++ more;
  split = k;
  fits = fits;
  each = sym (Cuts-whole given _ ended more c e h);
}

most_parts : (given front : List ℕ) (last : ℕ) (left : List ℕ) → (given ++ (front ++ last ∷ [])) ++ left ≡ (given ++ front) ++ (last ∷ left)
most_parts given front last left = simp append_assoc

told_most : (es : List Exchange) (l₀ l₂ : Option (List ℕ)) (given front : List ℕ) (last : ℕ) (ended : Bool) → Cuts given (lines_of_exchanges es) ended → ended ≡ false → HasNoNewline front
    → Consumes l₀ l₂ (given ++ (front ++ last ∷ [])) → length given + length front ≡ MOST_BYTES → WhereTold l₀ l₂ (ReadsMost (lines_of_exchanges es))
told_most es None l₂ given front last ended c e h k size = tt
told_most es (Some input) None given front last ended c e h k size = absurd k
told_most es (Some input) (Some left) given front last ended c e h k size =
    let n : length (given ++ front) ≡ MOST_BYTES = length-append given front ∙ size in
    let split : input ≡ (given ++ front) ++ (last ∷ left) = k ∙ most_parts given front last left in
    let split' : input ≡ ((given ++ front) ++ last ∷ []) ++ left = k ∙ ap (λ t. t ++ left) (sym (append_assoc given front (last ∷ []))) in
    let n' : length ((given ++ front) ++ last ∷ []) ≡ MOST_BYTES + 1 = length-append (given ++ front) (last ∷ []) ∙ ap (λ m. m + 1) n in
    let front_is : take MOST_BYTES input ≡ given ++ front = ap (λ t. take MOST_BYTES t) split ∙ (ap (λ m. take m ((given ++ front) ++ (last ∷ left))) (sym n) ∙ take-append_seam (given ++ front) (last ∷ left)) in
    record {
      more = omega (arith, n, ap length split, length-append (given ++ front) (last ∷ left));
      each = sym (Cuts-whole given _ ended front c e h) ∙ ap whole_lines_of (sym front_is);
      rest = sym (ap (λ t. drop (MOST_BYTES + 1) t) split' ∙ (ap (λ m. drop m (((given ++ front) ++ last ∷ []) ++ left)) (sym n') ∙ drop-append_seam ((given ++ front) ++ last ∷ []) left));
    }

told_some : (es : List Exchange) (l₀ l₁ : Option (List ℕ)) (given held : List ℕ) (ended : Bool) → Cuts given (lines_of_exchanges es) ended
    → Consumes l₀ l₁ (given ++ held) → length (given ++ held) ≤ MOST_BYTES → length held ≤ BUFFER_ROOM → (ended ≡ true → (held ≡ []) × IsAtEnd l₁)
    → WhereTold l₀ l₁ (ReadsSome (lines_of_exchanges es))
told_some es None l₁ given held ended c k fits near at_end = tt
told_some es (Some input) None given held ended c k fits near at_end = absurd k
told_some es (Some input) (Some left) given held ended c k fits near at_end =
    let split : input ≡ given ++ (held ++ left) = k ∙ append_assoc given held left in
    let first = Cuts-session given (held ++ left) _ ended c (omega (arith, fits, length-append given held)) (λ e. nothing_more held left (at_end e)) in
    record {
      read = given;
      ahead = held;
      split = split;
      fits = fits;
      near = near;
      each = sym (Cuts-all given _ ended c);
      after = first.0;
      first = ap session_lines split ∙ first.1;
    }

-- the lines so far are the first ones, whatever comes
pub reads_some : (es : List Exchange) (t₀ t₁ : Telling) (r : Reading) (s : State) → ReadSofar es t₀ t₁ r s → WhereTold t₀.bytes t₁.bytes (ReadsSome (lines_of_exchanges es))
reads_some es t₀ t₁ r s p = told_some es t₀.bytes t₁.bytes p.given r.held r.has_ended p.cuts p.consumed (omega (arith, p.taken, p.within)) p.room p.ended

told_all : (es : List Exchange) (l₀ l₁ l₂ : Option (List ℕ)) (given held read : List ℕ) (ended : Bool) → Cuts given (lines_of_exchanges es) ended
    → Consumes l₀ l₁ (given ++ held) → length (given ++ held) ≤ MOST_BYTES → (ended ≡ true → (held ≡ []) × IsAtEnd l₁)
    → Consumes l₁ l₂ read → held ++ read ≡ [] → (ended ≡ true) ⊎ IsAtEnd l₂ → WhereTold l₀ l₂ (ReadsAll (lines_of_exchanges es))
told_all es None l₁ l₂ given held read ended c k fits was taken none now = tt
told_all es (Some input) None l₂ given held read ended c k fits was taken none now = absurd k
told_all es (Some input) (Some left) None given held read ended c k fits was taken none now = absurd taken
told_all es (Some input) (Some left) (Some rest) given held read ended c k fits was taken none now =
    let parts = no_parts held read none in
    let same : left ≡ rest = taken ∙ ap (λ t. t ++ rest) parts.1 in
    let end : rest ≡ [] = at_end ended left rest same (λ e. (was e).1) now in
    let all : input ≡ given = k ∙ rw (parts.0, same, end) (append-nil (given ++ []) ∙ append-nil given) in
    record {
      fits = omega (arith, fits, length-append given held, ap length all);
      each = sym (Cuts-all given _ ended c) ∙ ap lines_of (sym all);
      end = end;
    }

-- the end was met
pub reads_all : (es : List Exchange) (t₀ t₁ t₂ : Telling) (r r' : Reading) (s s' : State)
    → ReadSofar es t₀ t₁ r s → Steps r r' s s' t₁ t₂ (Err ending.End) → WhereTold t₀.bytes t₂.bytes (ReadsAll (lines_of_exchanges es))
reads_all es t₀ t₁ t₂ r r' s s' p q =
    told_all es t₀.bytes t₁.bytes t₂.bytes p.given r.held q.read r.has_ended p.cuts p.consumed (omega (arith, p.taken, p.within)) p.ended q.consumed q.answer.0 q.answer.1

-- a read failed
pub reads_to : (es : List Exchange) (t₀ t₁ t₂ : Telling) (r r' : Reading) (s s' : State)
    → ReadSofar es t₀ t₁ r s → Steps r r' s s' t₁ t₂ (Err ending.Failed) → WhereTold t₀.bytes t₂.bytes (ReadsTo (lines_of_exchanges es))
reads_to es t₀ t₁ t₂ r r' s s' p q = told_to es t₀.bytes t₂.bytes p.given (r.held ++ q.read) r.has_ended p.cuts q.answer.0 q.answer.1
    (let P : List ℕ → Type 0 = λ u. Consumes t₀.bytes t₂.bytes u in subst P (append_assoc p.given r.held q.read) (Consumes-then _ _ _ _ _ p.consumed q.consumed))
    (omega (arith, p.taken, q.taken, q.answer.2, length-append p.given r.held, length-append r.held q.read, length-append p.given (r.held ++ q.read)))

-- too much came
pub reads_most : (es : List Exchange) (t₀ t₁ t₂ : Telling) (r r' : Reading) (s s' : State)
    → ReadSofar es t₀ t₁ r s → Steps r r' s s' t₁ t₂ (Err ending.TooMuch) → WhereTold t₀.bytes t₂.bytes (ReadsMost (lines_of_exchanges es))
reads_most es t₀ t₁ t₂ r r' s s' p q = told_most es t₀.bytes t₂.bytes p.given q.answer.1 q.answer.2 r.has_ended p.cuts q.answer.0 q.answer.4
    (let P : List ℕ → Type 0 = λ u. Consumes t₀.bytes t₂.bytes u in subst P (append_assoc p.given r.held q.read ∙ ap (λ u. p.given ++ u) q.answer.3) (Consumes-then _ _ _ _ _ p.consumed q.consumed))
    (omega (arith, p.taken, q.taken, q.answer.5, length-append p.given r.held, length-append r.held q.read, ap length q.answer.3, length-append q.answer.1 (q.answer.2 ∷ [])))

-- nothing was read yet
pub begun : (t : Telling) (r : Reading) → r.held ≡ [] → r.taken ≡ 0 → r.has_ended ≡ false → r.is_over ≡ false → ReadSofar [] t t r empty
begun t r held taken ended over = record {
  run = refl;
  given = [];
  consumed = let P : List ℕ → Type 0 = λ u. Consumes t.bytes t.bytes u in subst P (sym held) (Consumes-nothing t.bytes);
  cuts = let P : Bool → Type 0 = λ b. Cuts [] [] b in subst P (sym ended) Cuts-nothing;
  taken = taken ∙ ap length (sym held);
  within = omega (arith, taken);
  goes_on = over;
  room = omega (arith, ap length held);
  ended = λ e. absurd (true≢false (sym e ∙ ended));
  kept = refl;
}

all_answered : (no_memory refused : Bool) (es : List Exchange) (l₀ l₂ h₀ h₁ : Option (List ℕ)) → no_memory ≡ has_no_memory es → refused ≡ has_refused es
    → WhereTold l₀ l₂ (ReadsAll (lines_of_exchanges es)) → Appends h₀ h₁ (transcript es)
    → AnswersAll (status_by no_memory refused) es l₀ l₂ h₀ h₁
all_answered no_memory refused es l₀ l₂ h₀ h₁ a b k w = record { reads = k; written = w; by_replies = rw (a, b) refl }

outcome_at_end : (no_memory refused : Bool) (es : List Exchange) (l₀ l₂ h₀ h₁ : Option (List ℕ)) → AnswersAll (status_by no_memory refused) es l₀ l₂ h₀ h₁
    → Outcome (status_by no_memory refused) es l₀ l₂ h₀ h₁
outcome_at_end true refused es l₀ l₂ h₀ h₁ k = inl k
outcome_at_end false true es l₀ l₂ h₀ h₁ k = k
outcome_at_end false false es l₀ l₂ h₀ h₁ k = k

-- how a session ends that stops
pub outcome_of : (why : Ending) (t : Tally) (es : List Exchange) (t₀ t₁ t₂ : Telling) (h₀ h₁ : Option (List ℕ)) (r r' : Reading) (s s' : State)
    → ReadSofar es t₀ t₁ r s → Appends h₀ h₁ (transcript es) → t.refused ≡ has_refused es → t.no_memory ≡ has_no_memory es
    → Steps r r' s s' t₁ t₂ (Err why) → Outcome (status_at why t) es t₀.bytes t₂.bytes h₀ h₁
outcome_of ending.End t es t₀ t₁ t₂ h₀ h₁ r r' s s' p w a b q =
    outcome_at_end t.no_memory t.refused es _ _ h₀ h₁ (all_answered t.no_memory t.refused es _ _ h₀ h₁ b a (reads_all es t₀ t₁ t₂ r r' s s' p q) w)
outcome_of ending.Failed t es t₀ t₁ t₂ h₀ h₁ r r' s s' p w a b q = (reads_to es t₀ t₁ t₂ r r' s s' p q, w)
outcome_of ending.TooMuch t es t₀ t₁ t₂ h₀ h₁ r r' s s' p w a b q = (reads_most es t₀ t₁ t₂ r r' s s' p q, w)

-- the reply to the last line was written in part
pub writes_part : (es : List Exchange) (last : Exchange) (h₀ h₁ h₂ : Option (List ℕ)) → Appends h₀ h₁ (transcript es)
    → ((front : List ℕ) × (rest : List ℕ) × (text_of last.reply ≡ front ++ rest) × Appends h₁ h₂ front) → WritesPart (es ++ last ∷ []) h₀ h₂
writes_part es last h₀ h₁ h₂ w (front, rest, split, k) = record {
  first = es;
  last = last;
  front = front;
  rest = rest;
  each = refl;
  split = split;
  written = Appends-then _ _ _ _ _ w k;
}

-- the reply to the last line was written whole
pub writes_whole : (es : List Exchange) (last : Exchange) (h₀ h₁ h₂ : Option (List ℕ)) → Appends h₀ h₁ (transcript es) → Appends h₁ h₂ (text_of last.reply)
    → Appends h₀ h₂ (transcript (es ++ last ∷ []))
writes_whole es last h₀ h₁ h₂ w k = let P : List ℕ → Type 0 = λ u. Appends h₀ h₂ u in subst P (sym (transcript-more es last)) (Appends-then _ _ _ _ _ w k)

pub noted_refused : (t t' : Tally) (es : List Exchange) (last : Exchange) → t' ≡ tally_after t last.reply → t.refused ≡ has_refused es → t'.refused ≡ has_refused (es ++ last ∷ [])
noted_refused t t' es last e h = ap (λ u. u.refused) e ∙ (ap (λ b. b || is_refused last.reply) h ∙ sym (refused-more es last))

pub noted_no_memory : (t t' : Tally) (es : List Exchange) (last : Exchange) → t' ≡ tally_after t last.reply → t.no_memory ≡ has_no_memory es → t'.no_memory ≡ has_no_memory (es ++ last ∷ [])
noted_no_memory t t' es last e h = ap (λ u. u.no_memory) e ∙ (ap (λ b. b || is_no_memory last.reply) h ∙ sym (no_memory-more es last))

-- a session that ends without a failed read keeps the count
pub failed_read : (why : Ending) (t : Tally) (a b c : ℕ) → b ≡ a → CountsEnding b c (Err why) → a < c → status_at why t ≡ ReadFault
failed_read ending.End t a b c kept cause more = absurd (omega arith)
failed_read ending.Failed t a b c kept cause more = refl
failed_read ending.TooMuch t a b c kept cause more = absurd (omega arith)

-- one that was read to its end has no fault
no_read_fault : {A : Type 0} (no_memory refused : Bool) → status_by no_memory refused ≡ ReadFault → A
no_read_fault true refused e = cc
no_read_fault false true e = cc
no_read_fault false false e = cc

pub no_write_fault : {A : Type 0} (no_memory refused : Bool) → status_by no_memory refused ≡ WriteFault → A
no_write_fault true refused e = cc
no_write_fault false true e = cc
no_write_fault false false e = cc

-- where a failed read is told, the count rose
pub read_failed : (why : Ending) (t : Tally) (a b c : ℕ) → b ≡ a → CountsEnding b c (Err why) → status_at why t ≡ ReadFault → Rose a c
read_failed ending.End t a b c kept cause e = no_read_fault t.no_memory t.refused e
read_failed ending.Failed t a b c kept cause e = let P : ℕ → Type 0 = λ n. Rose n c in subst P kept cause
read_failed ending.TooMuch t a b c kept cause e = cc

-- no ending tells of a failed write
pub never_written : {A : Type 0} (why : Ending) (t : Tally) → status_at why t ≡ WriteFault → A
never_written ending.End t e = no_write_fault t.no_memory t.refused e
never_written ending.Failed t e = cc
never_written ending.TooMuch t e = cc
