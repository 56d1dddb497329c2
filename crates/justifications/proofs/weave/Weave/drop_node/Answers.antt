use Rattle.std.proofs.Common.{◌≡◌, [], IsSome, sym, subst}
use Rattle.justifications.specs.declared.model.Target.TheVariants.{Node}
use Rattle.justifications.specs.Woven.{Woven, fact_at, uses_of, supports_of}
use Rattle.justifications.proofs.Chaining.{some_is}
use Rattle.justifications.proofs.Removing.{node_removed}
use Rattle.justifications.proofs.weave.Weave.drop_node.Goals as goal

pub invariant_of-self : goal.invariant_of-self
invariant_of-self c =
    let s = c.self.inside in
    let w : Woven = record { facts = s.facts; inferences = s.inferences } in
    let P : Woven → Type 0 = λ v. IsSome (fact_at v c.args.node.place) in
    let Q : Woven → Type 0 = λ v. uses_of v c.args.node.place ≡ [] in
    let R : Woven → Type 0 = λ v. supports_of v (Node c.args.node) ≡ [] in
    let it = some_is (fact_at w c.args.node.place) (subst P (sym c.self.view_is) c.requires.there) in
    node_removed s.table.entries c.remove_node.new.table.entries w c.remove_node.new.facts c.self.invariant c.args.node (subst Q (sym c.self.view_is) c.requires.unused) (subst R (sym c.self.view_is) c.requires.unsupported)
    c.remove_node.ensures.removed it.0 it.1 (c.remove_node.ensures.struck it.0 it.1)
