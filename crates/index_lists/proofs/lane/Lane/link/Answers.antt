use Rattle.std.proofs.Common.{◌≡◌, ℕ, ◌<◌, ◌∙◌, length, sym, subst, arith}
use Rattle.std.specs.Vec.{with_items}
use Rattle.std.proofs.lemmas.List.{with_items_is, length-map}
use Rattle.index_lists.specs.declared.lane.Lane.TheInside.{Inside}
use Rattle.index_lists.specs.Lists.{Lists, IsInNone}
use Rattle.index_lists.specs.Links.{lists_of, keys_from}
use Rattle.index_lists.proofs.Edits.{free_place, first_within, front_linked, front_changes}
use Rattle.index_lists.proofs.lane.Lane.link.Goals as goal

made_now : (s : Inside) (now : Lists) (head : ℕ) → lists_of s.firsts.items s.places.items ≡ now → head < length now.lists → head < length s.firsts.items
made_now s now head is made =
    let low : head < length (lists_of s.firsts.items s.places.items).lists = (let P : Lists → Type 0 = λ l. head < length l.lists in subst P (sym is) made) in
    omega (arith, length-map s.firsts.items (keys_from s.places.items))

pub put_in_front-requires-clause-first : goal.put_in_front-requires-clause-first
put_in_front-requires-clause-first c = rw (c.deref_mut.ensures.value, c.deref_mut-2.ensures.value) (first_within c.self.inside.firsts.items c.self.inside.places.items c.self.invariant c.args.head)

pub invariant_of-self : goal.invariant_of-self
invariant_of-self c =
    let s = c.self.inside in
    let firsts : (with_items s.firsts c.put_in_front.new.firsts).items ≡ c.put_in_front.new.firsts = with_items_is s.firsts c.put_in_front.new.firsts (c.put_in_front.auto.firsts ∙ c.deref_mut.ensures.len) in
    let places : (with_items s.places c.put_in_front.new.places).items ≡ c.put_in_front.new.places = with_items_is s.places c.put_in_front.new.places (c.put_in_front.auto.places ∙ c.deref_mut-2.ensures.len) in
    let P : Lists → Type 0 = λ l. IsInNone l c.args.key in
    let Q : Lists → Type 0 = λ l. c.args.key < l.room in
    rw (firsts, places, c.put_in_front.ensures.firsts, c.put_in_front.ensures.places, c.deref_mut.ensures.value, c.deref_mut-2.ensures.value)
    (front_linked s.firsts.items s.places.items c.self.invariant c.args.key c.args.head (subst Q (sym c.self.view_is) c.requires.room) (made_now s c.args.self.now c.args.head c.self.view_is c.requires.made)
    (free_place s.firsts.items s.places.items c.self.invariant c.args.key (subst P (sym c.self.view_is) c.requires.free)))

pub returns : goal.returns
returns c =
    let s = c.self.inside in
    let firsts : (with_items s.firsts c.put_in_front.new.firsts).items ≡ c.put_in_front.new.firsts = with_items_is s.firsts c.put_in_front.new.firsts (c.put_in_front.auto.firsts ∙ c.deref_mut.ensures.len) in
    let places : (with_items s.places c.put_in_front.new.places).items ≡ c.put_in_front.new.places = with_items_is s.places c.put_in_front.new.places (c.put_in_front.auto.places ∙ c.deref_mut-2.ensures.len) in
    let P : Lists → Type 0 = λ l. IsInNone l c.args.key in
    let Q : Lists → Type 0 = λ l. c.args.key < l.room in
    rw (← c.self.view_is, firsts, places, c.put_in_front.ensures.firsts, c.put_in_front.ensures.places, c.deref_mut.ensures.value, c.deref_mut-2.ensures.value)
    (front_changes s.firsts.items s.places.items c.self.invariant c.args.key c.args.head (subst Q (sym c.self.view_is) c.requires.room) (made_now s c.args.self.now c.args.head c.self.view_is c.requires.made)
    (free_place s.firsts.items s.places.items c.self.invariant c.args.key (subst P (sym c.self.view_is) c.requires.free)))
