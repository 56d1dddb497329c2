-- Pieces with commas between them, put one after another.
use Rattle.std.proofs.Common.{◌≡◌, ℕ, ◌+◌, ◌<◌, Bool, true, false, if◌then◌else◌, cond, List, [], ◌∷◌, ◌++◌, Some, refl, sym, subst, ◌∙◌, ap, append_assoc, length, take, slice_get, map}
use Rattle.std.specs.List.{filter, join_with_byte}
use Rattle.std.proofs.lemmas.List.{map-append, append-nil}
use Rattle.std.proofs.lemmas.List.Elements.{filter_more}
use Rattle.std.proofs.lemmas.Option.{get_or_from_slice_get, slice_get_within}
use Rattle.environment_sets.specs.Sets.{Set}
use Rattle.circuit_model.specs.declared.model.Fact.{Fact}
use Rattle.circuit_model.specs.Diagnoses.{Place, AtCell}
use Rattle.circuit_model.specs.Present.{PresentView}
use Rattle.bench_io.specs.Streams.{Telling}
use Rattle.bench_io.specs.Puts.{Puts}
use Rattle.netlist_text.specs.Show.{cell_text}
use Rattle.answer_text.specs.Texts.{cells_in}
use Rattle.bench_io.proofs.PutParts.{Puts-then, Puts-as, Puts-nothing}

abbrev pub is_nil : {X : Type 0} → List X → Bool
is_nil [] = true
is_nil (x ∷ xs) = false

is_nil-push : {X : Type 0} (xs : List X) (x : X) → is_nil (xs ++ x ∷ []) ≡ false
is_nil-push [] x = refl
is_nil-push (y ∷ xs) x = refl

join-push : (xs : List (List ℕ)) (x : List ℕ) → join_with_byte 44 (xs ++ x ∷ []) ≡ join_with_byte 44 xs ++ (if is_nil xs then x else 44 ∷ x)
join-push [] x = refl
join-push (y ∷ []) x = refl
join-push (y ∷ z ∷ xs) x = rw (join-push (z ∷ xs) x) (sym (append_assoc y _ _))

-- the pieces so far were put, with commas between them; and whether none was
pub record PutsPieces (failed_before failed_now : Bool) (before now : Telling) (is_first : Bool) (pieces : List (List ℕ)) : Type 0 where
  pub puts : Puts failed_before failed_now before now (join_with_byte 44 pieces)
  pub first : is_first ≡ is_nil pieces

pub PutsPieces-none : (x : Bool) (a : Telling) → PutsPieces x x a a true []
PutsPieces-none x a = record { puts = Puts-nothing x a; first = refl }

pub PutsPieces-push : {x y z : Bool} {a b c : Telling} {first : Bool} {pieces : List (List ℕ)} (piece : List ℕ) → PutsPieces x y a b first pieces → Puts y z b c (if first then piece else 44 ∷ piece)
    → PutsPieces x z a c false (pieces ++ piece ∷ [])
PutsPieces-push {pieces = pieces} piece p q = record {
  puts = Puts-as (sym (join-push pieces piece)) (Puts-then p.puts (rw p.first at q));
  first = sym (is_nil-push pieces piece);
}

pub PutsPieces-as : {x y : Bool} {a b : Telling} {first : Bool} {pieces others : List (List ℕ)} → pieces ≡ others → PutsPieces x y a b first pieces → PutsPieces x y a b first others
PutsPieces-as {x} {y} {a} {b} {first} e p = let P : List (List ℕ) → Type 0 = λ ps. PutsPieces x y a b first ps in subst P e p

pub cells-more : (s : PresentView) (E : Set Place) (readings : List Fact) (i : ℕ) (f : Fact) → slice_get readings i ≡ Some f → cells_in s E (take (i + 1) readings) ≡ cells_in s E (take i readings) ++ (if E (AtCell f.cell) then cell_text s f.cell ∷ [] else [])
cells-more s E readings i f e =
    let within : i < length readings = slice_get_within readings i f e in
    ap (map (λ f. cell_text s f.cell)) (filter_more (λ f. E (AtCell f.cell)) readings i f within)
    ∙ (map-append (λ (f : Fact). cell_text s f.cell) (filter (λ f. E (AtCell f.cell)) (take i readings)) _
    ∙ ap (λ t. cells_in s E (take i readings) ++ t) (rw (get_or_from_slice_get readings i f f e) (chosen (E (AtCell f.cell)))))
  where
    chosen : (b : Bool) → map (λ (f : Fact). cell_text s f.cell) (cond b (f ∷ []) []) ≡ (if b then cell_text s f.cell ∷ [] else [])
    chosen true = refl
    chosen false = refl

pub if_chosen : (b : Bool) (L M : List (List ℕ)) (x : List ℕ) → b ≡ true → L ≡ M ++ (if b then x ∷ [] else []) → L ≡ M ++ x ∷ []
if_chosen true L M x h e = e
if_chosen false L M x h e = cc

pub if_left : (b : Bool) (L M : List (List ℕ)) (x : List ℕ) → b ≡ false → L ≡ M ++ (if b then x ∷ [] else []) → L ≡ M
if_left true L M x h e = cc
if_left false L M x h e = e ∙ append-nil M

pub cells-chosen : (s : PresentView) (E : Set Place) (readings : List Fact) (i : ℕ) (f : Fact) → slice_get readings i ≡ Some f → E (AtCell f.cell) ≡ true → cells_in s E (take i readings) ++ cell_text s f.cell ∷ [] ≡ cells_in s E (take (i + 1) readings)
cells-chosen s E readings i f e h = sym (if_chosen (E (AtCell f.cell)) _ _ (cell_text s f.cell) h (cells-more s E readings i f e))

pub cells-left : (s : PresentView) (E : Set Place) (readings : List Fact) (i : ℕ) (f : Fact) → slice_get readings i ≡ Some f → E (AtCell f.cell) ≡ false → cells_in s E (take i readings) ≡ cells_in s E (take (i + 1) readings)
cells-left s E readings i f e h = sym (if_left (E (AtCell f.cell)) _ _ (cell_text s f.cell) h (cells-more s E readings i f e))
