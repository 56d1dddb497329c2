use Rattle.component_models.proofs.Multiplying.{by_first_and_product, by_second_and_product, by_product_alone, factors_are_exact}
use Rattle.component_models.proofs.products.infer_product.Goals as goal
use Rattle.component_models.proofs.products.infer_product.Goals.{in-Some-None, in-None-Some, in-None-None}

pub returns-in_default : goal.returns-in_default
returns-in_default c =
    rw (c.in_default.is, c.product.ensures.value) (factors_are_exact c.args.a_width c.args.b_width c.product.ensures.a_words c.product.ensures.b_words c.args.a c.args.b c.requires.a_fits c.requires.b_fits)

pub returns : goal.returns
returns c =
    elim c.match-a.branch [
      | in-Some-None w ↦ rw w.result-is (by_first_and_product c.args.a_width c.args.b_width c.args.a c.args.b c.args.z c.in-Some.z c.in-Some.is c.requires.z_fits w.in-Some-None.a w.in-Some-None.is-0 w.in-Some-None.is-1 c.requires.a_fits _ _ w.other_factor-refuted.ensures)
      | in-None-Some w ↦ rw w.result-is (by_second_and_product c.args.a_width c.args.b_width c.args.a c.args.b c.args.z c.in-Some.z c.in-Some.is c.requires.z_fits w.in-None-Some.b w.in-None-Some.is-0 w.in-None-Some.is-1 c.requires.b_fits _ _ w.other_factor-refuted-in-None-Some.ensures)
      | in-None-None w ↦ rw w.result-is (by_product_alone c.args.a_width c.args.b_width c.args.a c.args.b c.args.z c.in-Some.z c.in-Some.is c.requires.z_fits w.in-None-None.is-0 w.in-None-None.is-1)
    ]
