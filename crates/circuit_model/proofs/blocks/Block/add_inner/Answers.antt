use Rattle.std.proofs.Common.{◌≡◌, ◌++◌, [], ◌∷◌, ℕ, List, None, ap, sym, subst, ◌∙◌}
use Rattle.std.specs.Map.{values_of}
use Rattle.circuit_model.specs.declared.blocks.Inner.{Inner}
use Rattle.circuit_model.specs.Blocks.{BlockView, inner_named}
use Rattle.circuit_model.specs.Tables.{nets_of, StandByName}
use Rattle.circuit_model.proofs.Tables.{values_of-insert, StandByName-insert}
use Rattle.circuit_model.proofs.blocks.Block.add_inner.Goals as goal

pub invariant_of-self-2 : goal.invariant_of-self-2
invariant_of-self-2 c =
    let p = c.self.inside in
    let named : Inner → List ℕ = λ i. i.name in
    let none = subst (λ (b : BlockView). inner_named b c.args.inner.name ≡ None) (sym c.self.view_is) c.requires in
    subst (λ es. StandByName named es) (sym c.in_ok-insert.ensures.entries) (StandByName-insert named p.inners c.self.invariant c.args.inner none)

pub returns-clause-ok : goal.returns-clause-ok
returns-clause-ok c =
    let p = c.self.inside in
    let named : Inner → List ℕ = λ i. i.name in
    let none = subst (λ (b : BlockView). inner_named b c.args.inner.name ≡ None) (sym c.self.view_is) c.requires in
    let items = ap values_of c.in_ok-insert.ensures.entries ∙ values_of-insert named p.inners c.self.invariant c.args.inner none in
    ap (λ (inners : List Inner). record { name = p.name; pins = nets_of p.pins.entries; inners = inners }) items ∙ ap (λ (b : BlockView). record b { inners = b.inners ++ c.args.inner ∷ [] }) c.self.view_is
