-- Lines of bytes that are known in parts.
use Rattle.std.proofs.Common.{◌≡◌, ◌≢◌, ℕ, ◌+◌, ◌-◌, ◌≤◌, ◌<◌, Bool, true, false, List, [], ◌∷◌, ◌++◌, length, take, refl, sym, ◌∙◌, ap, append_assoc, arith, length-append, nat_lt}
use Rattle.std.proofs.Math.Seq.{take-append-add}
use Rattle.std.proofs.lemmas.Bool.{true≢false}
use Rattle.std.proofs.lemmas.List.{append-nil}
use Rattle.bench_io.specs.Lines.{lines_of, whole_lines_of, session_lines, HasNoNewline}
use Rattle.bench_io.specs.declared.limits.TheConstants.{MOST_BYTES}
use Rattle.bench_io.proofs.LineLaws.{lines_of-cut, lines_of-last, whole_lines_of-cut, whole_lines_of-rest}
use Rattle.bench_cli.specs.Turns.{Cuts}

pub Cuts-nothing : Cuts [] [] false
Cuts-nothing = record { all = λ e x. refl; whole = λ e x. refl; at_end = λ e. absurd (true≢false (sym e)) }

regroup : (a t x : List ℕ) → (a ++ (t ++ 10 ∷ [])) ++ x ≡ a ++ (t ++ 10 ∷ x)
regroup a t x = append_assoc a (t ++ 10 ∷ []) x ∙ ap (λ u. a ++ u) (append_assoc t (10 ∷ []) x)

-- one line more, with its newline
pub Cuts-more : (given : List ℕ) (lines : List (List ℕ)) (ended after : Bool) (t : List ℕ) → Cuts given lines ended → ended ≡ false → after ≡ false → HasNoNewline t
    → Cuts (given ++ (t ++ 10 ∷ [])) (lines ++ t ∷ []) after
Cuts-more given lines ended after t c e f h = record {
  all = λ _ x. ap lines_of (regroup given t x) ∙ (c.all e (t ++ 10 ∷ x) ∙ (ap (λ u. lines ++ u) (lines_of-cut t x h) ∙ sym (append_assoc lines (t ∷ []) (lines_of x))));
  whole = λ _ x. ap whole_lines_of (regroup given t x) ∙ (c.whole e (t ++ 10 ∷ x) ∙ (ap (λ u. lines ++ u) (whole_lines_of-cut t x h) ∙ sym (append_assoc lines (t ∷ []) (whole_lines_of x))));
  at_end = λ g. absurd (true≢false (sym g ∙ f));
}

-- the last line, which has none
pub Cuts-last : (given : List ℕ) (lines : List (List ℕ)) (ended after : Bool) (t : List ℕ) → Cuts given lines ended → ended ≡ false → after ≡ true → HasNoNewline t → t ≢ []
    → Cuts (given ++ t) (lines ++ t ∷ []) after
Cuts-last given lines ended after t c e f h ne = record {
  all = λ g. absurd (true≢false (sym f ∙ g));
  whole = λ g. absurd (true≢false (sym f ∙ g));
  at_end = λ _. c.all e t ∙ ap (λ u. lines ++ u) (lines_of-last t h ne);
}

-- the lines before some bytes with no newline
pub Cuts-whole : (given : List ℕ) (lines : List (List ℕ)) (ended : Bool) (t : List ℕ) → Cuts given lines ended → ended ≡ false → HasNoNewline t
    → whole_lines_of (given ++ t) ≡ lines
Cuts-whole given lines ended t c e h = c.whole e t ∙ (ap (λ u. lines ++ u) (whole_lines_of-rest t h) ∙ append-nil lines)

-- all the lines, at the end
pub Cuts-all : (given : List ℕ) (lines : List (List ℕ)) (ended : Bool) → Cuts given lines ended → lines_of given ≡ lines
Cuts-all given lines true c = c.at_end refl
Cuts-all given lines false c = ap lines_of (sym (append-nil given)) ∙ (c.all refl [] ∙ append-nil lines)

lt_true : (a b : ℕ) → nat_lt a b ≡ true → a < b
lt_true a b e = grind arith

-- the front of a long list that begins with given
take_long : (given more : List ℕ) (n : ℕ) → length given ≤ n → take n (given ++ more) ≡ given ++ take (n - length given) more
take_long given more n h =
    let e : n ≡ length given + (n - length given) = omega arith in
    ap (λ k. take k (given ++ more)) e ∙ take-append-add given more (n - length given)

is_long : (given more : List ℕ) (lines : List (List ℕ)) (ended : Bool) → Cuts given lines ended → length given ≤ MOST_BYTES → (ended ≡ true → more ≡ [])
    → nat_lt MOST_BYTES (length (given ++ more)) ≡ true → (after : List (List ℕ)) × (session_lines (given ++ more) ≡ lines ++ after)
is_long given more lines true c h g e =
    let z : length more ≡ 0 = ap length (g refl) in
    absurd (omega (arith, lt_true _ _ e, length-append given more))
is_long given more lines false c h g e = (
  whole_lines_of (take (MOST_BYTES - length given) more),
  rw e (ap whole_lines_of (take_long given more MOST_BYTES h) ∙ c.whole refl _),
)

is_short : (given more : List ℕ) (lines : List (List ℕ)) (ended : Bool) → Cuts given lines ended → length given ≤ MOST_BYTES → (ended ≡ true → more ≡ [])
    → nat_lt MOST_BYTES (length (given ++ more)) ≡ false → (after : List (List ℕ)) × (session_lines (given ++ more) ≡ lines ++ after)
is_short given more lines true c h g e = ([], rw e (ap (λ t. lines_of (given ++ t)) (g refl) ∙ (ap lines_of (append-nil given) ∙ (c.at_end refl ∙ sym (append-nil lines)))))
is_short given more lines false c h g e = (lines_of more, rw e (c.all refl more))

-- the lines so far are the first of the session's
pub Cuts-session : (given more : List ℕ) (lines : List (List ℕ)) (ended : Bool) → Cuts given lines ended → length given ≤ MOST_BYTES → (ended ≡ true → more ≡ [])
    → (after : List (List ℕ)) × (session_lines (given ++ more) ≡ lines ++ after)
Cuts-session given more lines ended c h g = elim (nat_lt MOST_BYTES (length (given ++ more))) as (λ b. (nat_lt MOST_BYTES (length (given ++ more)) ≡ b) →
    (after : List (List ℕ)) × (session_lines (given ++ more) ≡ lines ++ after)) [
      | true ↦ λ e. is_long given more lines ended c h g e
      | false ↦ λ e. is_short given more lines ended c h g e
    ] refl
