-- The text of a present, put in parts.
use Rattle.std.proofs.Common.{◌≡◌, ℕ, ◌+◌, ◌<◌, Bool, List, [], ◌∷◌, ◌++◌, codes, decimal, length, map, take, slice_get, get_or, unwrap_or, Some, refl, sym, ◌∙◌, ap, append_assoc, arith}
use Rattle.std.specs.List.{flat_map}
use denote.Ref.{Bor}
use Rattle.std.proofs.lemmas.List.{append-nil, take_more, map-append}
use Rattle.std.proofs.lemmas.List.Concat.{flat_map-append}
use Rattle.std.proofs.lemmas.Option.{slice_get-get_or}
use Rattle.bench_io.specs.Puts.{Puts}
use Rattle.bench_io.specs.Streams.{Telling}
use Rattle.bench_io.proofs.PutParts.{Puts-then, Puts-as}
use Rattle.circuit_model.specs.Blocks.{empty_block}
use Rattle.circuit_model.specs.Present.{PresentView, block_at}
use Rattle.netlist_text.specs.Show.{after_spaces, spaced, words_in, text_of_lines, net_words, block_lines, component_words, cost_lines, mode_words, reading_words, text_of}
use Rattle.environment_sets.proofs.Listings.{take_one_more}

pub after_spaces-append : (xs ys : List (List ℕ)) → after_spaces (xs ++ ys) ≡ after_spaces xs ++ after_spaces ys
after_spaces-append [] ys = refl
after_spaces-append (x ∷ xs) ys = ap (λ t. 32 ∷ (x ++ t)) (after_spaces-append xs ys) ∙ ap (λ t. 32 ∷ t) (sym (append_assoc x (after_spaces xs) (after_spaces ys)))

words_in-append : (xs ys : List (Bor (List ℕ))) → words_in (xs ++ ys) ≡ words_in xs ++ words_in ys
words_in-append [] ys = refl
words_in-append (x ∷ xs) ys = ap (λ t. x.now ∷ t) (words_in-append xs ys)

-- one word more
pub words-more : (xs : List (Bor (List ℕ))) (i : ℕ) (d : Bor (List ℕ)) → i < length xs → after_spaces (words_in (take i xs)) ++ (codes " " ++ (get_or xs i d).now) ≡ after_spaces (words_in (take (i + 1) xs))
words-more xs i d h =
    let word = (get_or xs i d).now in
    let last : after_spaces (word ∷ []) ≡ 32 ∷ word = append-nil (32 ∷ word) in
    sym (ap (λ t. after_spaces (words_in t)) (take_more xs i d h) ∙ (ap after_spaces (words_in-append (take i xs) (get_or xs i d ∷ [])) ∙ (after_spaces-append (words_in (take i xs)) (word ∷ []) ∙ ap (λ t. after_spaces (words_in (take i xs)) ++ t) last)))

-- a line that ends with a number
pub line-with : (first digits : List ℕ) (words : List (List ℕ)) → (((first ++ after_spaces words) ++ codes " ") ++ digits) ++ codes "\n" ≡ text_of_lines ((first ∷ words ++ digits ∷ []) ∷ [])
line-with first digits words =
    let last : after_spaces (digits ∷ []) ≡ 32 ∷ digits = append-nil (32 ∷ digits) in
    ap (λ t. t ++ codes "\n") (append_assoc (first ++ after_spaces words) (codes " ") digits ∙ (append_assoc first (after_spaces words) (32 ∷ digits)
    ∙ ap (λ t. first ++ t) (ap (λ t. after_spaces words ++ t) (sym last) ∙ sym (after_spaces-append words (digits ∷ [])))))

pub text_of_lines-append : (xs ys : List (List (List ℕ))) → text_of_lines (xs ++ ys) ≡ text_of_lines xs ++ text_of_lines ys
text_of_lines-append [] ys = refl
text_of_lines-append (x ∷ xs) ys = ap (λ t. spaced x ++ 10 ∷ t) (text_of_lines-append xs ys) ∙ sym (append_assoc (spaced x) (10 ∷ text_of_lines xs) (text_of_lines ys))

module _ {X : Type 0} {x y z : Bool} {a b c : Telling} (xs : List X) (i : ℕ) (element : X) (e : slice_get xs i ≡ Some element) where
  -- the lines of one element more
  pub Puts-lines_more : (lines : X → List (List (List ℕ))) → Puts x y a b (text_of_lines (flat_map lines (take i xs))) → Puts y z b c (text_of_lines (lines element)) → Puts x z a c (text_of_lines (flat_map lines (take (i + 1) xs)))
  Puts-lines_more lines p q =
      let more : flat_map lines (take (i + 1) xs) ≡ flat_map lines (take i xs) ++ lines element =
      ap (flat_map lines) (take_one_more xs i element e) ∙ (flat_map-append lines (take i xs) (element ∷ []) ∙ ap (λ t. flat_map lines (take i xs) ++ t) (append-nil (lines element))) in
      Puts-as (sym (ap text_of_lines more ∙ text_of_lines-append (flat_map lines (take i xs)) (lines element))) (Puts-then p q)

  -- the line of one element more
  pub Puts-line_more : (words : X → List (List ℕ)) → Puts x y a b (text_of_lines (map words (take i xs))) → Puts y z b c (text_of_lines (words element ∷ [])) → Puts x z a c (text_of_lines (map words (take (i + 1) xs)))
  Puts-line_more words p q =
      let more : map words (take (i + 1) xs) ≡ map words (take i xs) ++ words element ∷ [] =
      ap (map words) (take_one_more xs i element e) ∙ map-append words (take i xs) (element ∷ []) in
      Puts-as (sym (ap text_of_lines more ∙ text_of_lines-append (map words (take i xs)) (words element ∷ []))) (Puts-then p q)

-- a line whose words are put in two parts
pub words-line : (first : List ℕ) (xs ys : List (List ℕ)) → ((first ++ after_spaces xs) ++ after_spaces ys) ++ codes "\n" ≡ text_of_lines ((first ∷ (xs ++ ys)) ∷ [])
words-line first xs ys = ap (λ t. t ++ codes "\n") (append_assoc first (after_spaces xs) (after_spaces ys) ∙ ap (λ t. first ++ t) (sym (after_spaces-append xs ys)))

-- the line of a measurement
pub reading-line : (cell digits : List ℕ) → (((codes "measure " ++ cell) ++ codes " ") ++ digits) ++ codes "\n" ≡ text_of_lines ((codes "measure" ∷ cell ∷ digits ∷ []) ∷ [])
reading-line cell digits = ap (λ t. ((t ++ codes " ") ++ digits) ++ codes "\n") (ap (λ t. codes "measure" ++ t) (sym (append-nil (32 ∷ cell)))) ∙ line-with (codes "measure") digits (cell ∷ [])

-- one name more
pub names-more : {X : Type 0} (f : X → List ℕ) (xs : List X) (i : ℕ) (x : X) → slice_get xs i ≡ Some x → after_spaces (map f (take i xs)) ++ after_spaces (f x ∷ []) ≡ after_spaces (map f (take (i + 1) xs))
names-more f xs i x e = sym (ap (λ t. after_spaces (map f t)) (take_one_more xs i x e) ∙ (ap after_spaces (map-append f (take i xs) (x ∷ [])) ∙ after_spaces-append (map f (take i xs)) (f x ∷ [])))

-- a row of three
pub three-names : {Y : Type 0} (f : ℕ → Y) (xs : List ℕ) → length xs ≡ 3 → f (get_or xs 0 0) ∷ f (get_or xs 1 0) ∷ f (get_or xs 2 0) ∷ [] ≡ map f xs
three-names f [] e = absurd (omega arith)
three-names f (x ∷ []) e = absurd (omega arith)
three-names f (x ∷ y ∷ []) e = absurd (omega arith)
three-names f (x ∷ y ∷ z ∷ []) e = refl
three-names f (x ∷ y ∷ z ∷ u ∷ xs) e = absurd (omega arith)

-- a line with two numbers
pub line-with_two : (first name digits more : List ℕ) → (((((first ++ after_spaces (name ∷ [])) ++ codes " ") ++ digits) ++ codes " ") ++ more) ++ codes "\n" ≡ text_of_lines ((first ∷ name ∷ digits ∷ more ∷ []) ∷ [])
line-with_two first name digits more =
    let front : ((first ++ after_spaces (name ∷ [])) ++ codes " ") ++ digits ≡ first ++ after_spaces (name ∷ digits ∷ []) =
    append_assoc (first ++ after_spaces (name ∷ [])) (codes " ") digits ∙ (append_assoc first (after_spaces (name ∷ [])) (32 ∷ digits)
    ∙ ap (λ t. first ++ t) (ap (λ t. after_spaces (name ∷ []) ++ t) (sym (append-nil (32 ∷ digits))) ∙ sym (after_spaces-append (name ∷ []) (digits ∷ [])))) in
    ap (λ t. ((t ++ codes " ") ++ more) ++ codes "\n") front ∙ line-with first more (name ∷ digits ∷ [])

-- a line whose words are put in three parts, with a number at its end
pub words-line_with : (first digits : List ℕ) (xs ys : List (List ℕ)) → ((((first ++ after_spaces xs) ++ after_spaces ys) ++ codes " ") ++ digits) ++ codes "\n" ≡ text_of_lines ((first ∷ ((xs ++ ys) ++ digits ∷ [])) ∷ [])
words-line_with first digits xs ys = ap (λ t. ((t ++ codes " ") ++ digits) ++ codes "\n") (append_assoc first (after_spaces xs) (after_spaces ys) ∙ ap (λ t. first ++ t) (sym (after_spaces-append xs ys))) ∙ line-with first digits (xs ++ ys)

-- the line of an inner component
pub inner-line : (first block kind : List ℕ) (words : List (List ℕ)) → (((first ++ after_spaces (block ∷ [])) ++ after_spaces (kind ∷ [])) ++ after_spaces words) ++ codes "\n" ≡ text_of_lines ((first ∷ block ∷ kind ∷ words) ∷ [])
inner-line first block kind words =
    ap (λ t. (t ++ after_spaces words) ++ codes "\n") (append_assoc first (after_spaces (block ∷ [])) (after_spaces (kind ∷ [])) ∙ ap (λ t. first ++ t) (sym (after_spaces-append (block ∷ []) (kind ∷ []))))
    ∙ words-line first (block ∷ kind ∷ []) words

-- the lines of a definition
pub block-text : (first : List (List ℕ)) (pins inners : List (List (List ℕ))) → (text_of_lines (first ∷ []) ++ text_of_lines pins) ++ text_of_lines inners ≡ text_of_lines (first ∷ pins ++ inners)
block-text first pins inners = ap (λ t. t ++ text_of_lines inners) (sym (text_of_lines-append (first ∷ []) pins)) ∙ sym (text_of_lines-append (first ∷ pins) inners)

-- a definition that is there
pub block-there : (s : PresentView) (block : ℕ) → block < length s.blocks → slice_get s.blocks block ≡ Some (block_at s block)
block-there s block h = let e = slice_get-get_or s.blocks block (empty_block []) h in e ∙ ap (λ o. Some (unwrap_or o (empty_block []))) (sym e)

-- all lines of a present
pub present-text : (s : PresentView) → (((((((text_of_lines ((codes "#" ∷ codes "gde" ∷ codes "2" ∷ []) ∷ []) ++ text_of_lines ((codes "cycles" ∷ decimal s.cycles ∷ []) ∷ [])) ++ text_of_lines (map net_words s.nets)) ++ text_of_lines (flat_map block_lines s.blocks))
    ++ text_of_lines (map (component_words s) s.parts)) ++ text_of_lines (flat_map cost_lines s.parts)) ++ text_of_lines (map mode_words s.modes)) ++ text_of_lines (map (reading_words s) s.readings)) ++ text_of_lines ((codes "#" ∷ codes "end" ∷ []) ∷ []) ≡ text_of s
present-text s =
    let head : List (List (List ℕ)) = (codes "#" ∷ codes "gde" ∷ codes "2" ∷ []) ∷ (codes "cycles" ∷ decimal s.cycles ∷ []) ∷ [] in
    let last : List (List (List ℕ)) = (codes "#" ∷ codes "end" ∷ []) ∷ [] in
    let nets : List (List (List ℕ)) = map net_words s.nets in
    let blocks : List (List (List ℕ)) = flat_map block_lines s.blocks in
    let parts : List (List (List ℕ)) = map (component_words s) s.parts in
    let costs : List (List (List ℕ)) = flat_map cost_lines s.parts in
    let modes : List (List (List ℕ)) = map mode_words s.modes in
    let readings : List (List (List ℕ)) = map (reading_words s) s.readings in
    sym (text_of_lines-append (head ++ nets ++ blocks ++ parts ++ costs ++ modes ++ readings) last
    ∙ ap (λ t. t ++ text_of_lines last) (text_of_lines-append (head ++ nets ++ blocks ++ parts ++ costs ++ modes) readings
    ∙ ap (λ t. t ++ text_of_lines readings) (text_of_lines-append (head ++ nets ++ blocks ++ parts ++ costs) modes
    ∙ ap (λ t. t ++ text_of_lines modes) (text_of_lines-append (head ++ nets ++ blocks ++ parts) costs
    ∙ ap (λ t. t ++ text_of_lines costs) (text_of_lines-append (head ++ nets ++ blocks) parts
    ∙ ap (λ t. t ++ text_of_lines parts) (text_of_lines-append (head ++ nets) blocks
    ∙ ap (λ t. t ++ text_of_lines blocks) (text_of_lines-append head nets)))))))
