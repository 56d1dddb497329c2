-- The slots of an environment.
use Rattle.std.proofs.Common.{◌≡◌, ℕ, ◌^◌, ◌<◌, inl, inr, List, length, get_or, sym, ◌∙◌, arith}
use Rattle.std.proofs.lemmas.Bool.{cases_lt, true≢false}
use mathlib.Core.HLevel.{is_prop→PathP}
use denote.Struct.Props.{props}
use Rattle.environment_sets.specs.declared.environment.Env.{Env}
use Rattle.environment_sets.specs.declared.environment.TheConstants.{SLOTS, WORD_BITS, WORDS}
use Rattle.environment_sets.specs.Members.{members}
use Rattle.environment_sets.specs.Laws.{SlotsAreBelow, SameSlotsAreEqual}
use Rattle.environment_sets.proofs.Words.{slots_in-past, same_words}

pub slots_are_below : SlotsAreBelow
unfolding members
slots_are_below e k h =
    elim (cases_lt k SLOTS) [
      | inl low ↦ low
      | inr high ↦ absurd (true≢false (sym h ∙ slots_in-past e.words k (omega (arith, e.full))))
    ]

pub same_slots_are_equal : SameSlotsAreEqual
unfolding members
same_slots_are_equal e f same = equal e f (same_words e.words f.words (e.full ∙ sym f.full) e.fit f.fit same)
  where
    fit_prop : (ws : List ℕ) → IsProp ((i : ℕ) → get_or ws i 0 < 2 ^ WORD_BITS)
    fit_prop ws = hlevel props

    full_prop : (ws : List ℕ) → IsProp (length ws ≡ WORDS)
    full_prop ws = hlevel props

    equal : (e f : Env) → e.words ≡ f.words → e ≡ f
    equal e f same = λ i. record {
      words = same i;
      full = is_prop→PathP (λ j. length (same j) ≡ WORDS) (λ j. full_prop (same j)) e.full f.full i;
      fit = is_prop→PathP (λ j. (k : ℕ) → get_or (same j) k 0 < 2 ^ WORD_BITS) (λ j. fit_prop (same j)) e.fit f.fit i;
    }
