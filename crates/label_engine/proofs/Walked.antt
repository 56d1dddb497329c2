-- The unions with each environment of the other_fact's label, one after another.
use Rattle.std.proofs.Common.{◌≡◌, ℕ, ◌⊎◌, inl, inr, refl, sym, ap, subst, ◌∙◌, List, [], ◌∷◌, ◌++◌}
use Rattle.std.proofs.lemmas.Bool.{or_left}
use Rattle.environment_sets.proofs.Membership.{IsIn-append, IsIn-left, IsIn-right}
use Rattle.environment_sets.specs.declared.environment.Env.{Env}
use Rattle.environment_sets.specs.Sets.{Set, ◌∪◌, ◌⊆◌}
use Rattle.environment_sets.specs.Members.{members, HasMember}
use Rattle.label_engine.specs.declared.insertion.Insertion.{Insertion}
use Rattle.label_engine.specs.declared.update.Pending.{Pending}
use Rattle.propagation.specs.Propagating.{Target, IsReached}
use Rattle.labelled_nodes.specs.Nodes.{Labelled, KeptIn}
use Rattle.label_engine.specs.Update.{made_by, union_of, IsUnion, BeginsUnions, IsAddedOrReached, HasUnionsWith}

member_front : (xs ys : List Env) (E : Set ℕ) → HasMember xs E → HasMember (xs ++ ys) E
member_front [] ys E h = absurd h
member_front (x ∷ xs) ys E (inl e) = inl e
member_front (x ∷ xs) ys E (inr h) = inr (member_front xs ys E h)

member_back : (xs : List Env) (y : Env) → HasMember (xs ++ y ∷ []) (members y)
member_back [] y = inl refl
member_back (x ∷ xs) y = inr (member_back xs y)

member_either : (xs : List Env) (y : Env) (E : Set ℕ) → HasMember (xs ++ y ∷ []) E → HasMember xs E ⊎ (members y ≡ E)
member_either [] y E (inl e) = inr e
member_either [] y E (inr bad) = absurd bad
member_either (x ∷ xs) y E (inl e) = inl (inl e)
member_either (x ∷ xs) y E (inr h) = elim (member_either xs y E h) [ inl a ↦ inl (inr a) | inr b ↦ inr b ]

pub none_yet : (item : Pending) (nodes : Labelled) (old : List Insertion) → HasUnionsWith item nodes [] old old
none_yet item nodes old = record { stays = λ d i. i; each = λ E h. absurd h; only = λ d i. inl i }

-- the union with one environment more is due, or reached
pub one_more :
    (item : Pending) (nodes : Labelled) (envs : List Env) (env : Env) (old mid new : List Insertion)
    → HasUnionsWith item nodes envs old mid → IsAddedOrReached item nodes (members env) mid new → HasUnionsWith item nodes (envs ++ env ∷ []) old new
one_more item nodes envs env old mid new was (inl (d, is, added)) =
    let P : List Insertion → Type 0 = λ l. HasUnionsWith item nodes (envs ++ env ∷ []) old l in
    subst P (sym added) (record {
      stays = λ x i. IsIn-left mid (d ∷ []) x (was.stays x i);
      each = λ E h. elim (member_either envs env E h) [
        | inl before ↦ elim (was.each E before) [ inl r ↦ inl (r.0, IsIn-left mid (d ∷ []) r.0 r.1, r.2) | inr reached ↦ inr reached ]
        | inr same ↦ inl (d, IsIn-right mid (d ∷ []) d (inl refl), (let P : Set ℕ → Type 0 = λ F. IsUnion item F d in subst P same is))
      ];
      only = λ x i. elim (IsIn-append mid (d ∷ []) x i) [
        | inl o ↦ elim (was.only x o) [ inl first ↦ inl first | inr r ↦ inr (r.0, member_front envs (env ∷ []) r.0 r.1, r.2) ]
        | inr l ↦ elim l [
          | inl e ↦ inr (members env, member_back envs env, (let P : Insertion → Type 0 = λ y. IsUnion item (members env) y in subst P e is))
          | inr bad ↦ absurd bad
        ]
      ];
    })
one_more item nodes envs env old mid new was (inr (same, reached)) =
    let P : List Insertion → Type 0 = λ l. HasUnionsWith item nodes (envs ++ env ∷ []) old l in
    let R : Set ℕ → Type 0 = λ F. IsReached (KeptIn nodes) item.inferred.to (union_of item F) in
    subst P (sym same) (record {
      stays = was.stays;
      each = λ E h. elim (member_either envs env E h) [
        | inl before ↦ was.each E before
        | inr at ↦ inr (subst R at reached)
      ];
      only = λ x i. elim (was.only x i) [ inl first ↦ inl first | inr r ↦ inr (r.0, member_front envs (env ∷ []) r.0 r.1, r.2) ];
    })

-- where what all unions have is reached, each of them is
pub all_reached : (item : Pending) (nodes : Labelled) (envs : List Env) (old : List Insertion) (begun : Insertion) → BeginsUnions item begun → IsReached (KeptIn nodes) begun.target (members begun.env) → HasUnionsWith item nodes envs old old
all_reached item nodes envs old begun begins reached = record {
  stays = λ d i. i;
  each = λ E h. inr (
      let P : Target → Type 0 = λ t. IsReached (KeptIn nodes) t (members begun.env) in
      let within : members begun.env ⊆ union_of item E = λ k in_begun. or_left ((members item.env ∪ made_by item.inferred.maker) k) (E k) (sym (ap (λ (F : Set ℕ). F k) begins.joined) ∙ in_begun) in
      elim (subst P begins.target reached) [ inl c ↦ inl (c.0, c.1, λ k i. within k (c.2 k i)) | inr c ↦ inr (c.0, c.1, λ k i. within k (c.2 k i)) ]);
  only = λ d i. inl i;
}
