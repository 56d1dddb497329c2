use Rattle.std.proofs.Common.{◌≡◌, map, ◌<◌, [], ◌∷◌, length, ap, arith, take_all}
use Rattle.bench_io.proofs.PutParts.{Puts-then, Puts-as, Puts-nothing}
use Rattle.netlist_text.proofs.NamedPlaces.{All-place}
use Rattle.netlist_text.proofs.ShownParts.{names-more}
use Rattle.netlist_text.specs.Show.{after_spaces, name_at}
use Rattle.netlist_text.proofs.show.put_net_names.Goals as goal

pub loop-place-init : goal.loop-place-init
loop-place-init g c = Puts-nothing _ _

pub net_at-name-requires : goal.net_at-name-requires
net_at-name-requires g c = All-place (λ n. n < length c.args.present.now.nets) c.args.nets.now c.loop-place.place c.at.result c.at.ensures c.requires

pub loop-place-preserved : goal.loop-place-preserved
loop-place-preserved g c =
    let named : c.bytes.result.now ≡ name_at c.args.present.now.nets c.at.result = rw c.net_at-name.ensures c.bytes.ensures.bytes in
    Puts-as (names-more (name_at c.args.present.now.nets) c.args.nets.now c.loop-place.place c.at.result c.at.ensures) (Puts-then c.loop-place.invariant (Puts-as (ap (λ w. after_spaces (w ∷ [])) named) c.put_words-failed.ensures))

pub returns : goal.returns
returns g c = Puts-as (ap (λ xs. after_spaces (map (name_at c.args.present.now.nets) xs)) (take_all c.loop-place.place c.args.nets.now (omega (arith, c.len-place-end.ensures.count)))) c.loop-place.invariant
