-- When each status of a session comes.
use Rattle.std.proofs.Common.{◌≡◌, ◌↔◌, ℕ, ◌+◌, ◌≤◌, List, ◌++◌, length, Option, Some, None, arith, inl, inr, ap, length-append, length-drop, refl}
use Rattle.std.specs.Io.KnownBytes.{Keeps}
use Rattle.bench_io.specs.Streams.{Telling}
use Rattle.bench_io.specs.declared.limits.TheConstants.{MOST_BYTES}
use Rattle.bench_cli.specs.Causes.{TakesTooMuch}
use Rattle.bench_cli.specs.Replies.{Exchange}
use Rattle.bench_cli.specs.Session.{WhereTold, Outcome, Session, ReadsAll, ReadsTo, ReadsMost, ReadsSome}
use Rattle.bench_cli.specs.declared.Status.{Status}
use Rattle.bench_cli.specs.declared.Status.TheVariants.{Done, SomeRefused, Usage, ReadFault, WriteFault, TooMuch, NoMemory}

where_map : (P Q : List ℕ → List ℕ → Type 0) → ((i l : List ℕ) → P i l → Q i l) → (input left : Option (List ℕ)) → WhereTold input left P → WhereTold input left Q
where_map P Q f None left k = tt
where_map P Q f (Some input) None k = absurd k
where_map P Q f (Some input) (Some left) k = f input left k

where_kept : (input left : Option (List ℕ)) → Keeps input left → WhereTold input left (λ i l. l ≡ i)
where_kept None left k = tt
where_kept (Some input) None k = absurd k
where_kept (Some input) (Some left) k = k

-- the status isn't `TooMuch`, and no more bytes came than a session may have
neither : (s : Status) (i l : List ℕ) → (s ≡ TooMuch → ⊥) → length i ≤ MOST_BYTES + length l → (s ≡ TooMuch) ↔ TakesTooMuch i l
neither s i l n h = (λ e. absurd (n e), λ t. absurd (omega (arith, h, t)))

from_all : (s : Status) → (s ≡ TooMuch → ⊥) → (lines : List (List ℕ)) (i l : List ℕ) → ReadsAll lines i l → (s ≡ TooMuch) ↔ TakesTooMuch i l
from_all s n lines i l k = neither s i l n (omega (arith, k.fits))

from_kept : (s : Status) → (s ≡ TooMuch → ⊥) → (i l : List ℕ) → l ≡ i → (s ≡ TooMuch) ↔ TakesTooMuch i l
from_kept s n i l e = neither s i l n (omega (arith, ap length e))

from_front : (s : Status) → (s ≡ TooMuch → ⊥) → (lines : List (List ℕ)) (i l : List ℕ) → ReadsTo lines i l → (s ≡ TooMuch) ↔ TakesTooMuch i l
from_front s n lines i l k = neither s i l n (omega (arith, ap length k.split, length-append k.taken l, k.fits))

from_some : (s : Status) → (s ≡ TooMuch → ⊥) → (lines : List (List ℕ)) (i l : List ℕ) → ReadsSome lines i l → (s ≡ TooMuch) ↔ TakesTooMuch i l
from_some s n lines i l k = neither s i l n
    (omega (arith, ap length k.split, length-append k.read (k.ahead ++ l), length-append k.ahead l, length-append k.read k.ahead, k.fits))

from_most : (lines : List (List ℕ)) (i l : List ℕ) → ReadsMost lines i l → (TooMuch ≡ TooMuch) ↔ TakesTooMuch i l
from_most lines i l k = (λ _. omega (arith, k.more, ap length k.rest, length-drop (MOST_BYTES + 1) i), λ _. refl)

exactly : (s : Status) (es : List Exchange) (l₀ l₁ h₀ h₁ : Option (List ℕ)) → Outcome s es l₀ l₁ h₀ h₁ → WhereTold l₀ l₁ (λ i l. (s ≡ TooMuch) ↔ TakesTooMuch i l)
exactly Done es l₀ l₁ h₀ h₁ k = where_map _ _ (from_all Done (λ e. cc) _) l₀ l₁ k.reads
exactly SomeRefused es l₀ l₁ h₀ h₁ k = where_map _ _ (from_all SomeRefused (λ e. cc) _) l₀ l₁ k.reads
exactly Usage es l₀ l₁ h₀ h₁ k = absurd k
exactly ReadFault es l₀ l₁ h₀ h₁ k = where_map _ _ (from_front ReadFault (λ e. cc) _) l₀ l₁ k.0
exactly WriteFault es l₀ l₁ h₀ h₁ k = where_map _ _ (from_some WriteFault (λ e. cc) _) l₀ l₁ k.0
exactly TooMuch es l₀ l₁ h₀ h₁ k = where_map _ _ (from_most _) l₀ l₁ k.0
exactly NoMemory es l₀ l₁ h₀ h₁ (inl k) = where_map _ _ (from_all NoMemory (λ e. cc) _) l₀ l₁ k.reads
exactly NoMemory es l₀ l₁ h₀ h₁ (inr k) = where_map _ _ (from_kept NoMemory (λ e. cc)) l₀ l₁ (where_kept l₀ l₁ k.unread)

pub too_much_exactly : (s : Status) (t₀ t₁ k₀ k₁ : Telling) → Session s t₀ t₁ k₀ k₁ → WhereTold t₀.bytes t₁.bytes (λ i l. (s ≡ TooMuch) ↔ TakesTooMuch i l)
too_much_exactly s t₀ t₁ k₀ k₁ k = exactly s k.exchanges t₀.bytes t₁.bytes k₀.bytes k₁.bytes k.outcome

-- no more was taken where nothing was
pub too_much_unread : (s : Status) → (s ≡ TooMuch → ⊥) → (input : Option (List ℕ)) → WhereTold input input (λ i l. (s ≡ TooMuch) ↔ TakesTooMuch i l)
too_much_unread s n None = tt
too_much_unread s n (Some input) = from_kept s n input input refl
