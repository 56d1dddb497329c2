use Rattle.std.proofs.Common.{◌∙◌, ◌<◌, ap, sym, slice_get, length, arith}
use Rattle.netlist_text.specs.Rows.{shown}
use Rattle.netlist_text.proofs.Filled.{shown_at, shown_is_some}
use Rattle.netlist_text.proofs.name_list.NameList.at.Goals as goal

pub unreachable-requires : goal.unreachable-requires
unreachable-requires c =
    let inside : c.args.place < length (shown c.self.inside.names) = omega (arith, c.requires, ap length c.self.view_is) in
    shown_is_some c.self.inside.names c.args.place c.index-names-place.result inside c.in-None.is

pub returns : goal.returns
returns c =
    let inside : c.args.place < length (shown c.self.inside.names) = omega (arith, c.requires, ap length c.self.view_is) in
    sym (ap (λ names. slice_get names c.args.place) c.self.view_is) ∙ shown_at c.self.inside.names c.args.place c.index-names-place.result c.in-Some.name inside c.in-Some.is
