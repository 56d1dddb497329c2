use Rattle.std.proofs.Common.{rules, tests}
use Rattle.std.proofs.lemmas.Iterator.{YieldsList-from_slice}
use Rattle.std.proofs.lemmas.Iterator.Search.{any_from_yields_List}
use Rattle.environment_sets.specs.declared.environment.Env.{Env}
use Rattle.environment_sets.specs.declared.environment.TheConstants.{SLOTS}
use Rattle.environment_sets.specs.Members.{members}
use Rattle.environment_sets.specs.Sets.{is_within}
use Rattle.probe_planner.specs.Covering.{covers}
use Rattle.probe_planner.proofs.labels.covers.Goals as goal

pub returns : goal.returns
unfolding covers
returns c = any_from_yields_List (λ (e : Env). is_within SLOTS (members e) (members c.args.env.now)) _ _ _ c.any.ensures.ran (YieldsList-from_slice c.args.label.now cc) (λ x b q k. search (rules, tests))
