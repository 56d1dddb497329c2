-- Words that are held at an instance's ports.
use Rattle.std.proofs.Common.{◌≡◌, ℕ, zero, suc, ◌+◌, ◌*◌, ◌<◌, ◌≤◌, ◌⊎◌, inl, inr, Bool, true, false, if◌then◌else◌, List, [], ◌∷◌, length, Option, Some, None, is_some, slice_get, get_or, true≢false, refl, sym, ap, ap₂, subst, ◌∙◌, arith}
use Rattle.std.proofs.lemmas.Bool.{cases_eq}
use Rattle.std.proofs.lemmas.Option.{slice_get-get_or, slice_get_within}
use Rattle.environment_sets.specs.Lists.{IsIn}
use Rattle.circuit_model.specs.declared.model.Cell.{Cell}
use Rattle.circuit_model.specs.declared.model.Fact.{Fact}
use Rattle.circuit_model.specs.declared.model.Instance.{Instance}
use Rattle.circuit_model.specs.Closure.{fact, AreHeld}
use Rattle.circuit_model.specs.Inference.{Forces, Refutes, IsInference, WordsFit}
use Rattle.circuit_model.specs.Derivation.{number_of, facts_at}
use Rattle.proof_check.specs.declared.written.TheConstants.{CHOICES}
use Rattle.proof_check.specs.Written.{given, at_two_places}
use Rattle.proof_check.specs.Checking.{AreAlike}
use Rattle.proof_check.specs.Ordered.{HasPut}
use Rattle.proof_check.specs.Rounds.{no_cell, kept, kept_for, AreAtPorts, AreWordsOf, IsKept, AreKept, AreHeldAt, IsReady, Adds, IsWordAt, IsWordBelow, IsForcedAt, IsQuietAt}
use Rattle.proof_check.proofs.Told.{AreThree, three_of, by_threes, given-at_two_places, facts_at-few}

-- nothing is added where Q holds of no fact
pub Adds-none : (Q : Fact → Type 0) (held xs : List Fact) → ((f : Fact) → Q f → IsIn held f) → Adds Q held xs xs
Adds-none Q held xs all = record { kept = λ f h. h; sound = λ f h. inl h; entered = λ f q. inl (all f q) }

-- one addition after another
pub Adds-more : (Q R S : Fact → Type 0) (held a b c : List Fact) → ((f : Fact) → S f → Q f ⊎ R f) → ((f : Fact) → Q f ⊎ R f → S f) → Adds Q held a b → Adds R held b c → Adds S held a c
Adds-more Q R S held a b c parts whole x y = record { kept = λ f h. y.kept f (x.kept f h); sound = sound; entered = λ f h. entered f (parts f h) } where
  sound : (f : Fact) → IsIn c f → IsIn a f ⊎ (S f × (IsIn held f → ⊥))
  sound f h = elim (y.sound f h) [
    | inl old ↦ elim (x.sound f old) [ inl older ↦ inl older | inr new ↦ inr (whole f (inl new.0), new.1) ]
    | inr new ↦ inr (whole f (inr new.0), new.1)
  ]

  entered : (f : Fact) → Q f ⊎ R f → IsIn held f ⊎ IsIn c f
  entered f (inl q) = elim (x.entered f q) [ inl h ↦ inl h | inr h ↦ inr (y.kept f h) ]
  entered f (inr r) = y.entered f r

-- told by another family
pub Adds-as : (Q S : Fact → Type 0) (held a b : List Fact) → ((f : Fact) → S f → Q f) → ((f : Fact) → Q f → S f) → Adds Q held a b → Adds S held a b
Adds-as Q S held a b from to x = record {
  kept = x.kept;
  sound = λ f h. elim (x.sound f h) [ inl old ↦ inl old | inr new ↦ inr (to f new.0, new.1) ];
  entered = λ f q. x.entered f (from f q);
}

the_word : (c : Cell) (v : ℕ) (f : Fact) → IsWordAt c (Some v) f → fact c v ≡ f
the_word c v f (cell, word) = let value : v ≡ f.value = cc in ap₂ fact cell value

pub Adds-no_word : (held xs : List Fact) (c : Cell) (o : Option ℕ) → o ≡ None → Adds (IsWordAt c o) held xs xs
Adds-no_word held xs c o e = Adds-none (IsWordAt c o) held xs (λ f (cell, word). absurd (cc))

pub Adds-held : (held xs : List Fact) (c : Cell) (o : Option ℕ) (v : ℕ) → o ≡ Some v → IsIn held (fact c v) → Adds (IsWordAt c o) held xs xs
Adds-held held xs c o v e there =
    let P : Option ℕ → Type 0 = λ o. Adds (IsWordAt c o) held xs xs in
    subst P (sym e) (Adds-none (IsWordAt c (Some v)) held xs (λ f w. subst (λ (f : Fact). IsIn held f) (the_word c v f w) there))

pub Adds-put : (held old new : List Fact) (c : Cell) (o : Option ℕ) (v : ℕ) → o ≡ Some v → (IsIn held (fact c v) → ⊥) → HasPut (fact c v) old new → Adds (IsWordAt c o) held old new
Adds-put held old new c o v e out put =
    let P : Option ℕ → Type 0 = λ o. Adds (IsWordAt c o) held old new in
    subst P (sym e) (record {
      kept = λ f h. (put f).1 (inr h);
      sound = λ f h. elim ((put f).0 h) [ inl is ↦ inr ((ap (λ (f : Fact). f.cell) is, ap (λ (f : Fact). Some f.value) is), λ k. out (subst (λ (f : Fact). IsIn held f) (sym is) k)) | inr k ↦ inl k ];
      entered = λ f w. inr ((put f).1 (inl (the_word c v f w)));
    })

module _ (cells : List Cell) (words : List (Option ℕ)) (held : List Fact) where
  pub AddsBelow-none : (xs : List Fact) → Adds (IsWordBelow 0 cells words) held xs xs
  AddsBelow-none xs = Adds-none (IsWordBelow 0 cells words) held xs (λ f w. absurd (let low = w.1 in omega arith))

  pub AddsBelow-more : (n : ℕ) (c : Cell) (o : Option ℕ) (a b x : List Fact) → slice_get cells n ≡ Some c → slice_get words n ≡ Some o → Adds (IsWordBelow n cells words) held a b → Adds (IsWordAt c o) held b x → Adds (IsWordBelow (n + 1) cells words) held a x
  AddsBelow-more n c o a b x cell word = Adds-more (IsWordBelow n cells words) (IsWordAt c o) (IsWordBelow (n + 1) cells words) held a b x parts whole where
    parts : (f : Fact) → IsWordBelow (n + 1) cells words f → IsWordBelow n cells words f ⊎ IsWordAt c o f
    parts f (port, low, at, said) = elim (cases_eq port n) [
      | inl e ↦
          let here : slice_get cells n ≡ Some f.cell = subst (λ (k : ℕ). slice_get cells k ≡ Some f.cell) e at in
          let this : slice_get words n ≡ Some (Some f.value) = subst (λ (k : ℕ). slice_get words k ≡ Some (Some f.value)) e said in
          inr (cc, cc)
      | inr other ↦ inl (port, omega arith, at, said)
    ]

    whole : (f : Fact) → IsWordBelow n cells words f ⊎ IsWordAt c o f → IsWordBelow (n + 1) cells words f
    whole f (inl (port, low, at, said)) = (port, omega arith, at, said)
    whole f (inr (at, said)) = (n, omega arith, cell ∙ ap Some at, word ∙ ap Some said)

-- the number of one word's place
abbrev bit : Option ℕ → ℕ
bit o = number_of (o ∷ [])

bit-low : (o : Option ℕ) → bit o ≤ 1
bit-low None = omega arith
bit-low (Some v) = omega arith

number_of-cons : (o : Option ℕ) (os : List (Option ℕ)) → number_of (o ∷ os) ≡ 2 * number_of os + bit o
number_of-cons None os = omega arith
number_of-cons (Some v) os = omega arith

number_of-three : (a b z : Option ℕ) → number_of (a ∷ b ∷ z ∷ []) ≡ 4 * bit z + 2 * bit b + bit a
number_of-three a b z =
    let first = number_of-cons a (b ∷ z ∷ []) in
    let second = number_of-cons b (z ∷ []) in
    omega arith

choice_of : (a b z : Option ℕ) → number_of (a ∷ b ∷ z ∷ []) < 7 → get_or CHOICES (number_of (a ∷ b ∷ z ∷ [])) [] ≡ is_some a ∷ is_some b ∷ is_some z ∷ []
choice_of None None None low = refl
choice_of None None (Some z) low = refl
choice_of None (Some b) None low = refl
choice_of None (Some b) (Some z) low = refl
choice_of (Some a) None None low = refl
choice_of (Some a) None (Some z) low = refl
choice_of (Some a) (Some b) None low = refl
choice_of (Some a) (Some b) (Some z) low = absurd (omega arith)

module _ (held : List Fact) where
  kept_held : (c : Cell) (chosen : Bool) (o : Option ℕ) (v : ℕ) → IsKept held c chosen o → o ≡ Some v → IsIn held (fact c v)
  kept_held c false o v none e = absurd (cc)
  kept_held c true None v none e = absurd (cc)
  kept_held c true (Some w) v there e = let same : w ≡ v = cc in subst (λ (v : ℕ). IsIn held (fact c v)) same there

  kept_bit : (c : Cell) (x o : Option ℕ) → ((v : ℕ) → x ≡ Some v → IsIn held (fact c v)) → IsKept held c (is_some x) o → bit o ≡ bit x
  kept_bit c None o there none = ap bit none
  kept_bit c (Some v) None there none = absurd (none v (there v refl))
  kept_bit c (Some v) (Some w) there is = refl

  -- the words at chosen places are kept there
  kept_one : (c : Cell) (chosen : Bool) (word : Option ℕ) → IsKept held c true word → IsKept held c chosen (if chosen then word else None)
  kept_one c true word h = h
  kept_one c false word h = refl

  AreKept-of : (choice : List Bool) (cells : List Cell) (words : List (Option ℕ)) → AreWordsOf held cells words → AreKept held cells choice (kept words choice)
  AreKept-of choice cells words h = record {
    wide = refl;
    first = kept_one (get_or cells 0 no_cell) (get_or choice 0 false) (get_or words 0 None) h.first;
    second = kept_one (get_or cells 1 no_cell) (get_or choice 1 false) (get_or words 1 None) h.second;
    third = kept_one (get_or cells 2 no_cell) (get_or choice 2 false) (get_or words 2 None) h.third;
  }

  module _ (alike : AreAlike held) where
    kept_three : (choice : List Bool) (c d e : Cell) (a b z : Option ℕ) → AreKept held (c ∷ d ∷ e ∷ []) choice (a ∷ b ∷ z ∷ []) → AreHeld (λ f. IsIn held f) (c ∷ d ∷ e ∷ []) (a ∷ b ∷ z ∷ [])
    kept_three choice c d e a b z kept = record { wide = refl; held = there; alike = λ p q v w x k at l on. alike (fact x v) (fact x w) (there p v x k at) (there q w x l on) refl } where
      there : (p v : ℕ) (x : Cell) → slice_get (a ∷ b ∷ z ∷ []) p ≡ Some (Some v) → slice_get (c ∷ d ∷ e ∷ []) p ≡ Some x → IsIn held (fact x v)
      there zero v x k at = let cell : c ≡ x = cc in subst (λ (x : Cell). IsIn held (fact x v)) cell (kept_held c (get_or choice 0 false) a v kept.first (cc))
      there (suc zero) v x k at = let cell : d ≡ x = cc in subst (λ (x : Cell). IsIn held (fact x v)) cell (kept_held d (get_or choice 1 false) b v kept.second (cc))
      there (suc (suc zero)) v x k at = let cell : e ≡ x = cc in subst (λ (x : Cell). IsIn held (fact x v)) cell (kept_held e (get_or choice 2 false) z v kept.third (cc))
      there (suc (suc (suc p))) v x k at = cc

    -- words that are kept are held
    pub AreHeld-kept : (choice : List Bool) (cells : List Cell) (known : List (Option ℕ)) → length cells ≡ 3 → length known ≡ 3 → AreKept held cells choice known → AreHeld (λ f. IsIn held f) cells known
    AreHeld-kept choice cells known = by_threes (λ (cells : List Cell) (known : List (Option ℕ)). AreKept held cells choice known → AreHeld (λ f. IsIn held f) cells known) (kept_three choice) cells known

    number_three : (c d e : Cell) (a b z x y w : Option ℕ) → number_of (x ∷ y ∷ w ∷ []) < 7 → AreHeld (λ f. IsIn held f) (c ∷ d ∷ e ∷ []) (x ∷ y ∷ w ∷ []) → AreKept held (c ∷ d ∷ e ∷ []) (get_or CHOICES (number_of (x ∷ y ∷ w ∷ [])) []) (a ∷ b ∷ z ∷ []) → number_of (a ∷ b ∷ z ∷ []) ≡ number_of (x ∷ y ∷ w ∷ [])
    number_three c d e a b z x y w low h kept =
        let P : List Bool → Type 0 = λ choice. AreKept held (c ∷ d ∷ e ∷ []) choice (a ∷ b ∷ z ∷ []) in
        let k : AreKept held (c ∷ d ∷ e ∷ []) (is_some x ∷ is_some y ∷ is_some w ∷ []) (a ∷ b ∷ z ∷ []) = subst P (choice_of x y w low) kept in
        let first : bit a ≡ bit x = kept_bit c x a (λ v is. h.held 0 v c (ap Some is) refl) k.first in
        let second : bit b ≡ bit y = kept_bit d y b (λ v is. h.held 1 v d (ap Some is) refl) k.second in
        let third : bit z ≡ bit w = kept_bit e w z (λ v is. h.held 2 v e (ap Some is) refl) k.third in
        let all = number_of-three a b z in
        let others = number_of-three x y w in
        omega arith

    -- where words are held at the ports of this number, those that are kept are at these
    pub number_of-kept : (cells : List Cell) (ports : ℕ) (known other : List (Option ℕ)) → length cells ≡ 3 → length known ≡ 3 → ports < 7 → AreKept held cells (get_or CHOICES ports []) known → AreHeldAt held cells ports other → number_of known ≡ ports
    number_of-kept cells ports known other three wide low kept at =
        let cs : AreThree cells = three_of cells three in
        let ks : AreThree known = three_of known wide in
        let os : AreThree other = three_of other at.words.wide in
        let K : ℕ → List Cell → List (Option ℕ) → Type 0 = λ ports cells known. AreKept held cells (get_or CHOICES ports []) known in
        let H : List Cell → List (Option ℕ) → Type 0 = λ cells other. AreHeld (λ f. IsIn held f) cells other in
        let number : ports ≡ number_of (os.a ∷ os.b ∷ os.z ∷ []) = at.number ∙ ap number_of os.are in
        let k : K (number_of (os.a ∷ os.b ∷ os.z ∷ [])) (cs.a ∷ cs.b ∷ cs.z ∷ []) (ks.a ∷ ks.b ∷ ks.z ∷ []) =
        subst (λ (n : ℕ). K n (cs.a ∷ cs.b ∷ cs.z ∷ []) (ks.a ∷ ks.b ∷ ks.z ∷ [])) number (subst (λ (cells : List Cell). K ports cells (ks.a ∷ ks.b ∷ ks.z ∷ [])) cs.are (subst (λ (known : List (Option ℕ)). K ports cells known) ks.are kept)) in
        let h : H (cs.a ∷ cs.b ∷ cs.z ∷ []) (os.a ∷ os.b ∷ os.z ∷ []) = subst (λ (cells : List Cell). H cells (os.a ∷ os.b ∷ os.z ∷ [])) cs.are (subst (λ (other : List (Option ℕ)). H cells other) os.are at.words) in
        let is = number_three cs.a cs.b cs.z ks.a ks.b ks.z os.a os.b os.z (omega arith) h k in
        ap number_of ks.are ∙ (is ∙ sym number)

    -- held words at the ports of this number are held at exactly these
    pub AreHeldAt-ports : (cells : List Cell) (words : List (Option ℕ)) (ports : ℕ) (known : List (Option ℕ)) → length cells ≡ 3 → AreWordsOf held cells words → AreAtPorts words ports known → AreHeldAt held cells ports known
    AreHeldAt-ports cells words ports known three of_cells at = record {
      number = at.number;
      words = let H : List (Option ℕ) → Type 0 = λ known. AreHeld (λ f. IsIn held f) cells known in subst H (sym at.are) (AreHeld-kept (get_or CHOICES ports []) cells (kept_for words ports) three refl (AreKept-of (get_or CHOICES ports []) cells words of_cells));
    }

    -- where some port of this number has no held word, no words are held at exactly these
    pub no_words : (cells : List Cell) (words : List (Option ℕ)) (ports : ℕ) → length cells ≡ 3 → ports < 7 → AreWordsOf held cells words → (number_of (kept_for words ports) ≡ ports → ⊥) → (known : List (Option ℕ)) → AreHeldAt held cells ports known → ⊥
    no_words cells words ports three low of_cells other known at = other (number_of-kept cells ports (kept_for words ports) known three refl low (AreKept-of (get_or CHOICES ports []) cells words of_cells) at)

    same_word : (c : Cell) (a x : Option ℕ) → bit a ≡ bit x → ((v : ℕ) → a ≡ Some v → IsIn held (fact c v)) → ((v : ℕ) → x ≡ Some v → IsIn held (fact c v)) → a ≡ x
    same_word c None None e one other = refl
    same_word c None (Some w) e one other = absurd (omega arith)
    same_word c (Some v) None e one other = absurd (omega arith)
    same_word c (Some v) (Some w) e one other = ap Some (alike (fact c v) (fact c w) (one v refl) (other w refl) refl)

    words_of_three : (c d e : Cell) (a b z x y w : Option ℕ) → number_of (a ∷ b ∷ z ∷ []) ≡ number_of (x ∷ y ∷ w ∷ []) → AreHeld (λ f. IsIn held f) (c ∷ d ∷ e ∷ []) (a ∷ b ∷ z ∷ []) → AreHeld (λ f. IsIn held f) (c ∷ d ∷ e ∷ []) (x ∷ y ∷ w ∷ []) → a ∷ b ∷ z ∷ [] ≡ x ∷ y ∷ w ∷ []
    words_of_three c d e a b z x y w number one other =
        let all = number_of-three a b z in
        let others = number_of-three x y w in
        let la = bit-low a in let lb = bit-low b in let lz = bit-low z in
        let lx = bit-low x in let ly = bit-low y in let lw = bit-low w in
        let na : bit a ≡ bit x = omega arith in
        let nb : bit b ≡ bit y = omega arith in
        let nz : bit z ≡ bit w = omega arith in
        let first : a ≡ x = same_word c a x na (λ v is. one.held 0 v c (ap Some is) refl) (λ v is. other.held 0 v c (ap Some is) refl) in
        let second : b ≡ y = same_word d b y nb (λ v is. one.held 1 v d (ap Some is) refl) (λ v is. other.held 1 v d (ap Some is) refl) in
        let third : z ≡ w = same_word e z w nz (λ v is. one.held 2 v e (ap Some is) refl) (λ v is. other.held 2 v e (ap Some is) refl) in
        cc

    -- held words at the same ports are the same
    pub same_words : (cells : List Cell) (ports : ℕ) (known other : List (Option ℕ)) → length cells ≡ 3 → AreHeldAt held cells ports known → AreHeldAt held cells ports other → known ≡ other
    same_words cells ports known other three one at =
        let cs : AreThree cells = three_of cells three in
        let ks : AreThree known = three_of known one.words.wide in
        let os : AreThree other = three_of other at.words.wide in
        let H : List Cell → List (Option ℕ) → Type 0 = λ cells other. AreHeld (λ f. IsIn held f) cells other in
        let k : H (cs.a ∷ cs.b ∷ cs.z ∷ []) (ks.a ∷ ks.b ∷ ks.z ∷ []) = subst (λ (cells : List Cell). H cells (ks.a ∷ ks.b ∷ ks.z ∷ [])) cs.are (subst (λ (known : List (Option ℕ)). H cells known) ks.are one.words) in
        let h : H (cs.a ∷ cs.b ∷ cs.z ∷ []) (os.a ∷ os.b ∷ os.z ∷ []) = subst (λ (cells : List Cell). H cells (os.a ∷ os.b ∷ os.z ∷ [])) cs.are (subst (λ (other : List (Option ℕ)). H cells other) os.are at.words) in
        let number : number_of (ks.a ∷ ks.b ∷ ks.z ∷ []) ≡ number_of (os.a ∷ os.b ∷ os.z ∷ []) = sym (ap number_of ks.are) ∙ (sym one.number ∙ (at.number ∙ ap number_of os.are)) in
        ks.are ∙ (words_of_three cs.a cs.b cs.z ks.a ks.b ks.z os.a os.b os.z number k h ∙ sym os.are)

    -- held words at an instance's ports
    module _ (instance : Instance) (ports : ℕ) (known : List (Option ℕ)) (three : length instance.cells ≡ 3) (at : AreHeldAt held instance.cells ports known) (refuted : Bool) (forced : List (Option ℕ)) (said : IsInference instance.prim instance.widths known refuted forced) where
      others_same : (Q : List (Option ℕ) → Type 0) (other : List (Option ℕ)) → AreHeldAt held instance.cells ports other → Q other → Q known
      others_same Q other there q = subst Q (same_words instance.cells ports other known three there at) q

      pub IsQuietAt-said : (old new : List Fact) → refuted ≡ false → Adds (IsWordBelow 3 instance.cells forced) held old new → IsQuietAt held instance ports old new
      IsQuietAt-said old new calm adds = record {
        fine = λ other there r. true≢false (sym (said.refutes_exactly.1 (others_same (λ (known : List (Option ℕ)). Refutes instance.prim instance.widths known) other there r)) ∙ calm);
        adds = Adds-as (IsWordBelow 3 instance.cells forced) (IsForcedAt held instance ports) held old new from to adds;
      } where
        from : (f : Fact) → IsForcedAt held instance ports f → IsWordBelow 3 instance.cells forced f
        from f h =
            let low : h.port < length instance.cells = slice_get_within instance.cells h.port f.cell h.at in
            (h.port, omega arith, h.at, (said.forces_exactly h.port f.value).1 (others_same (λ (known : List (Option ℕ)). Forces instance.prim instance.widths known h.port f.value) h.known h.words h.forces))

        to : (f : Fact) → IsWordBelow 3 instance.cells forced f → IsForcedAt held instance ports f
        to f (port, low, cell, word) = record { known = known; words = at; port = port; at = cell; forces = (said.forces_exactly port f.value).0 word }

  -- where there are no such words, nothing is said
  pub IsQuietAt-none : (instance : Instance) (ports : ℕ) (xs : List Fact) → ((known : List (Option ℕ)) → AreHeldAt held instance.cells ports known → ⊥) → IsQuietAt held instance ports xs xs
  IsQuietAt-none instance ports xs none = record {
    fine = λ known at r. none known at;
    adds = Adds-none (IsForcedAt held instance ports) held xs (λ f h. absurd (none h.known h.words));
  }

  -- held words fit the widths
  pub WordsFit-held : (instance : Instance) (ports : ℕ) (known : List (Option ℕ)) → IsReady held instance → AreHeldAt held instance.cells ports known → WordsFit instance.widths known
  WordsFit-held instance ports known ready at p w v width word =
      let low : p < length instance.widths = slice_get_within instance.widths p w width in
      let c : Cell = get_or instance.cells p no_cell in
      let cell : slice_get instance.cells p ≡ Some c = slice_get-get_or instance.cells p no_cell (omega (arith, ready.three, ready.widths)) in
      ready.fit p w v c cell width (at.words.held p v c word cell)

-- the facts at two places are those at the ports
pub told_from : (cells : List Cell) (ports : ℕ) (known : List (Option ℕ)) (from : List (Option Fact)) → length cells ≡ 3 → length known ≡ 3 → ports < 7 → ports ≡ number_of known → from ≡ at_two_places (facts_at cells known) → given from ≡ facts_at cells known
told_from cells ports known from three wide low number told = ap given told ∙ given-at_two_places (facts_at cells known) (facts_at-few cells known three wide (rw (← number) low))
