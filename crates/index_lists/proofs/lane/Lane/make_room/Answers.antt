use Rattle.std.proofs.Common.{ap, sym, refl, ◌∙◌, arith}
use Rattle.index_lists.specs.Lists.{Lists, list_at}
use Rattle.index_lists.proofs.Links.{alike, list_at-lists_of}
use Rattle.index_lists.proofs.Edits.{grown}
use Rattle.index_lists.proofs.lane.Lane.make_room.Goals as goal

pub invariant_of-self : goal.invariant_of-self
invariant_of-self c =
    let s = c.self.inside in
    let same = grown _ s.places.items c.resize.new.self.items _ c.args.count s.places.ok.0 (omega arith) c.resize.ensures.items in
    (alike s.firsts.items s.firsts.items s.places.items c.resize.new.self.items (λ h. refl) same c.self.invariant).linked

pub returns-clause-same : goal.returns-clause-same
returns-clause-same c =
    let s = c.self.inside in
    let same = grown _ s.places.items c.resize.new.self.items _ c.args.count s.places.ok.0 (omega arith) c.resize.ensures.items in
    record {
      keys = λ h.
          (alike s.firsts.items s.firsts.items s.places.items c.resize.new.self.items (λ h. refl) same c.self.invariant).keys h
          ∙ (sym (list_at-lists_of s.firsts.items s.places.items h) ∙ ap (λ (l : Lists). list_at l h) c.self.view_is);
    }
