use Rattle.std.proofs.Common.{◌≡◌, ℕ, Some, None, sym, subst}
use Rattle.justifications.specs.Woven.{Woven, fact_at}
use Rattle.justifications.specs.Kept.{number_in}
use Rattle.justifications.proofs.Keeping.{node_made}
use Rattle.justifications.proofs.Tables.{untold}
use Rattle.justifications.proofs.weave.Weave.node_of.Goals as goal

pub invariant_of-self : goal.invariant_of-self
invariant_of-self c =
    let s = c.self.inside in
    let w : Woven = record { facts = s.facts; inferences = s.inferences } in
    let P : Woven → Type 0 = λ v. (n : ℕ) → fact_at v n ≡ Some c.args.fact → ⊥ in
    let none : number_in s.table.entries c.args.fact ≡ None = untold s.table.entries s.facts c.self.invariant.nodes.told c.args.fact (subst P (sym c.self.view_is) c.in_default.ensures) in
    node_made s.table.entries c.add_node.new.table.entries w c.add_node.new.facts c.self.invariant c.args.fact c.add_node.result none c.add_node.ensures.added c.add_node.ensures.entered c.add_node.ensures.low c.add_node.ensures.err
    c.add_node.ensures.err_table
