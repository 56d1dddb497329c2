-- The lines of bytes that are cut at a newline, and what a call of a reader gives of them.
use Rattle.std.proofs.Common.{◌≡◌, ◌≢◌, ℕ, ◌+◌, ◌<◌, ◌==◌, false, List, [], ◌∷◌, ◌++◌, length, Option, Some, Ok, Err, refl, sym, ◌∙◌, ap, append_assoc, arith, inl, inr, length-append}
use Rattle.std.proofs.lemmas.List.{append-nil}
use Rattle.bench_io.specs.Lines.{HasNoNewline, lines_of, whole_lines_of}
use Rattle.bench_io.specs.Reading.{Reading, Begins, lines_ahead}
use Rattle.bench_io.specs.Laws.{CutsLines, CallsGiveFirst, IsSpent, lines_in}
use Rattle.bench_io.specs.declared.lines.Line.TheVariants.{Text, TooLong, End}
use Rattle.bench_io.proofs.Bytes.{no_bytes}

-- a byte that is no newline is not one by the test either
pub not_newline : (b : ℕ) → (b ≡ 10 → ⊥) → (b == 10) ≡ false
not_newline b h = grind arith

pub lines_of-cut : (line rest : List ℕ) → HasNoNewline line → lines_of (line ++ 10 ∷ rest) ≡ line ∷ lines_of rest
lines_of-cut [] rest h = refl
lines_of-cut (b ∷ line) rest h = rw (not_newline b h.0, lines_of-cut line rest h.1) refl

pub whole_lines_of-cut : (line rest : List ℕ) → HasNoNewline line → whole_lines_of (line ++ 10 ∷ rest) ≡ line ∷ whole_lines_of rest
whole_lines_of-cut [] rest h = refl
whole_lines_of-cut (b ∷ line) rest h = rw (not_newline b h.0, whole_lines_of-cut line rest h.1) refl

pub lines_of-last : (rest : List ℕ) → HasNoNewline rest → rest ≢ [] → lines_of rest ≡ rest ∷ []
lines_of-last [] h ne = absurd (ne refl)
lines_of-last (b ∷ []) h ne = rw (not_newline b h.0) refl
lines_of-last (b ∷ c ∷ rest) h ne = rw (not_newline b h.0, lines_of-last (c ∷ rest) h.1 (λ e. cc)) refl

pub whole_lines_of-rest : (rest : List ℕ) → HasNoNewline rest → whole_lines_of rest ≡ []
whole_lines_of-rest [] h = refl
whole_lines_of-rest (b ∷ rest) h = rw (not_newline b h.0, whole_lines_of-rest rest h.1) refl

pub cuts_lines : CutsLines
cuts_lines = record { nothing = refl; newline = lines_of-cut; last = lines_of-last; whole = whole_lines_of-cut; not_whole = whole_lines_of-rest }

-- a line that is not empty has a byte
pub some_byte : (line : List ℕ) → line ≢ [] → 0 < length line
some_byte [] ne = absurd (ne refl)
some_byte (b ∷ line) ne = omega arith

-- fewer lines are ahead after a line
pub lines_ahead-Begins : (old new : Reading) (read line : List ℕ) (left : Option (List ℕ)) → new.taken ≡ old.taken + length read → Begins (old.held ++ read) line left new
    → lines_ahead new < lines_ahead old
lines_ahead-Begins old new read line left taken b = elim b.cut [
  | inl c ↦ omega (arith, ap length c.0, length-append old.held read, length-append line (10 ∷ new.held), b.within)
  | inr c ↦ omega (arith, ap length c.0, length-append old.held read, some_byte line c.1, ap length c.2, b.within)
]

-- what was left comes after what was taken of it
taken_first : (held read left_before left_now : List ℕ) → left_before ≡ read ++ left_now → held ++ left_before ≡ (held ++ read) ++ left_now
taken_first held read left_before left_now e = ap (λ t. held ++ t) e ∙ sym (append_assoc held read left_now)

-- the first line of what was held and left, where the bytes that were held or taken begin with it
pub lines_in-Begins : (old new : Reading) (read line left_before left_now : List ℕ) → left_before ≡ read ++ left_now → Begins (old.held ++ read) line (Some left_now) new
    → lines_in old left_before ≡ line ∷ lines_in new left_now
lines_in-Begins old new read line left_before left_now e b =
    let first = ap lines_of (taken_first old.held read left_before left_now e) in
    elim b.cut [
      | inl c ↦ first ∙ (ap (λ t. lines_of (t ++ left_now)) c.0 ∙ (ap lines_of (append_assoc line (10 ∷ new.held) left_now) ∙ lines_of-cut line (new.held ++ left_now) b.without_newline))
      | inr c ↦ first ∙ (ap (λ t. lines_of (t ++ left_now)) c.0 ∙ (ap (λ t. lines_of (line ++ t)) c.4 ∙ (ap lines_of (append-nil line) ∙ (lines_of-last line b.without_newline c.1
          ∙ ap (λ t. line ∷ lines_of t) (sym (ap (λ t. t ++ left_now) c.2 ∙ c.4))))))
    ]

pub IsSpent-Begins : (bytes line left_now : List ℕ) (new : Reading) → Begins bytes line (Some left_now) new → IsSpent new left_now
IsSpent-Begins bytes line left_now new b = λ e. elim b.cut [
  | inl c ↦ absurd (cc (c.1, e))
  | inr c ↦ c.4
]

-- no line is left, where no byte was held or taken at the end of the input
none_left : (held read left_before left_now : List ℕ) → left_before ≡ read ++ left_now → held ++ read ≡ [] → left_now ≡ [] → lines_of (held ++ left_before) ≡ []
none_left held read left_before left_now e none left = ap lines_of (taken_first held read left_before left_now e ∙ (ap (λ t. t ++ left_now) none ∙ left))

none_after : (held read left_before : List ℕ) → held ++ read ≡ [] → left_before ≡ [] → lines_of (held ++ left_before) ≡ []
none_after held read left_before none left =
    let no_held : held ≡ [] = no_bytes held (omega (arith, ap length none, length-append held read)) in
    ap lines_of (ap (λ t. held ++ t) left ∙ (append-nil held ∙ no_held))

pub calls_give_first : CallsGiveFirst
calls_give_first old new left_before left_now faults_before faults_now (Ok (Text line)) spent r = (
  r.answer.1,
  lines_in-Begins old new r.read line.now left_before left_now r.consumed r.answer.2,
  IsSpent-Begins _ _ _ _ r.answer.2,
)
calls_give_first old new left_before left_now faults_before faults_now (Ok TooLong) spent r = (
  r.answer.1,
  r.answer.2,
  lines_in-Begins old new r.read r.answer.1 left_before left_now r.consumed r.answer.3,
  IsSpent-Begins _ _ _ _ r.answer.3,
)
calls_give_first old new left_before left_now faults_before faults_now (Ok End) spent r = elim r.answer.1 [
  | inl e ↦ none_after old.held r.read left_before r.answer.0 (spent e)
  | inr e ↦ none_left old.held r.read left_before left_now r.consumed r.answer.0 e
]
calls_give_first old new left_before left_now faults_before faults_now (Err stop) spent r = tt
