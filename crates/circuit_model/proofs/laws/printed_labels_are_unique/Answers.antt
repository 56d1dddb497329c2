use Rattle.std.proofs.Common.{inl, inr, arith}
use Rattle.environment_sets.specs.Lists.{IsStrict}
use Rattle.environment_sets.proofs.Listings.{same_listing}
use Rattle.environment_sets.proofs.OrderLaws.{order_is_strict}
use Rattle.circuit_model.specs.Closure.{fact}
use Rattle.circuit_model.specs.Stock.{IsInLabel}
use Rattle.circuit_model.specs.Diagnoses.{Place}
use Rattle.circuit_model.specs.Present.{PresentView}
use Rattle.circuit_model.specs.Printed.{IsPrintedBefore}
use Rattle.circuit_model.specs.Whole.{stock, order_of_present}
use Rattle.circuit_model.proofs.laws.printed_labels_are_unique.Goals as goal

strict : (s : PresentView) → IsStrict (IsPrintedBefore s)
strict s k l (inl a) (inl b) = omega (arith, a, b)
strict s k l (inl a) (inr b) = omega (arith, a, b.0)
strict s k l (inr a) (inl b) = omega (arith, a.0, b)
strict s k l (inr a) (inr b) = order_is_strict Place (order_of_present s) k.environment l.environment a.1 b.1

pub returns : goal.returns
returns c = λ s cell ls ms a b. same_listing (IsPrintedBefore s) (λ l. IsInLabel (stock s) (fact cell l.word) l.environment) ls ms (strict s) a b
