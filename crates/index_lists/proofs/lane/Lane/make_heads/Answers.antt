use Rattle.std.proofs.Common.{ap, sym, refl, ◌∙◌, arith}
use Rattle.index_lists.specs.Lists.{Lists, list_at}
use Rattle.index_lists.proofs.Links.{alike, list_at-lists_of}
use Rattle.index_lists.proofs.Edits.{grown}
use Rattle.index_lists.proofs.lane.Lane.make_heads.Goals as goal

pub invariant_of-self : goal.invariant_of-self
invariant_of-self c =
    let s = c.self.inside in
    let same = grown _ s.firsts.items c.resize.new.self.items _ c.args.count s.firsts.ok.0 (omega arith) c.resize.ensures.items in
    (alike s.firsts.items c.resize.new.self.items s.places.items s.places.items same (λ k. refl) c.self.invariant).linked

pub returns-clause-same : goal.returns-clause-same
returns-clause-same c =
    let s = c.self.inside in
    let same = grown _ s.firsts.items c.resize.new.self.items _ c.args.count s.firsts.ok.0 (omega arith) c.resize.ensures.items in
    record {
      keys = λ h.
          (alike s.firsts.items c.resize.new.self.items s.places.items s.places.items same (λ k. refl) c.self.invariant).keys h
          ∙ (sym (list_at-lists_of s.firsts.items s.places.items h) ∙ ap (λ (l : Lists). list_at l h) c.self.view_is);
    }
