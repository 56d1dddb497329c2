use Rattle.std.proofs.Common.{◌<◌, List, [], ℕ, IsTrue, map, length, sym, subst}
use Rattle.std.specs.List.{All}
use Rattle.circuit_model.specs.declared.blocks.Inner.{Inner}
use Rattle.circuit_model.specs.Kinds.{are_widths, fits_value}
use Rattle.circuit_model.specs.Blocks.{IsLawfulInner}
use Rattle.circuit_model.specs.Present.{PresentView, block_at, width_of, IsLawfulComponent}
use Rattle.circuit_model.specs.Opening.{block_component, opened_component}
use Rattle.block_tree.proofs.Uses.{part_of_inner, inner_lawful, inner_free, inner_pins, inner_same}
use Rattle.block_tree.proofs.parts.inner_part.Goals as goal

pub nets_for-requires : goal.nets_for-requires
nets_for-requires c =
    let i : Inner = record { name = c.inner_at-kind.result.0; kind = c.inner_at-kind.result.1; pins = c.inner_at-kind.result.2 } in
    inner_pins c.args.present.now c.requires.lawful c.args.block c.args.nets.now c.requires.usable c.args.place i c.inner_at-kind.ensures.inner

pub part_at-requires-clause-plain : goal.part_at-requires-clause-plain
part_at-requires-clause-plain c =
    let i : Inner = record { name = c.inner_at-kind.result.0; kind = c.inner_at-kind.result.1; pins = c.inner_at-kind.result.2 } in
    let l : IsLawfulInner (block_at c.args.present.now c.args.block).pins i = inner_lawful c.args.present.now c.requires.lawful c.args.block c.args.nets.now c.requires.usable c.args.place i c.inner_at-kind.ensures.inner in
    l.plain

pub part_at-requires-clause-within : goal.part_at-requires-clause-within
part_at-requires-clause-within c =
    let s : PresentView = c.args.present.now in
    let i : Inner = record { name = c.inner_at-kind.result.0; kind = c.inner_at-kind.result.1; pins = c.inner_at-kind.result.2 } in
    let l : IsLawfulComponent s (opened_component s (block_component s c.args.block [] c.args.nets.now) i) = inner_free s c.requires.lawful c.args.block c.args.nets.now c.requires.usable c.args.place i c.inner_at-kind.ensures.inner in
    subst (λ (ns : List ℕ). All (λ n. n < length s.nets) ns) (sym c.nets_for.ensures) l.nets

pub part_at-requires-clause-widths : goal.part_at-requires-clause-widths
part_at-requires-clause-widths c =
    let s : PresentView = c.args.present.now in
    let i : Inner = record { name = c.inner_at-kind.result.0; kind = c.inner_at-kind.result.1; pins = c.inner_at-kind.result.2 } in
    let l : IsLawfulComponent s (opened_component s (block_component s c.args.block [] c.args.nets.now) i) = inner_free s c.requires.lawful c.args.block c.args.nets.now c.requires.usable c.args.place i c.inner_at-kind.ensures.inner in
    subst (λ (ns : List ℕ). IsTrue (are_widths i.kind (map (width_of s) ns))) (sym c.nets_for.ensures) l.widths

pub part_at-requires-clause-value : goal.part_at-requires-clause-value
part_at-requires-clause-value c =
    let s : PresentView = c.args.present.now in
    let i : Inner = record { name = c.inner_at-kind.result.0; kind = c.inner_at-kind.result.1; pins = c.inner_at-kind.result.2 } in
    let l : IsLawfulComponent s (opened_component s (block_component s c.args.block [] c.args.nets.now) i) = inner_free s c.requires.lawful c.args.block c.args.nets.now c.requires.usable c.args.place i c.inner_at-kind.ensures.inner in
    subst (λ (ns : List ℕ). IsTrue (fits_value i.kind (map (width_of s) ns))) (sym c.nets_for.ensures) l.value

pub returns : goal.returns
returns c =
    let s : PresentView = c.args.present.now in
    let i : Inner = record { name = c.inner_at-kind.result.0; kind = c.inner_at-kind.result.1; pins = c.inner_at-kind.result.2 } in
    let same = inner_same s c.requires.lawful c.args.block c.args.nets.now c.requires.usable c.args.place i c.inner_at-kind.ensures.inner in
    part_of_inner s c.args.block c.args.place i c.args.nets.now c.inner_at-kind.ensures.inner c.nets_for.result c.nets_for.ensures same c.part_at.result c.part_at.ensures
