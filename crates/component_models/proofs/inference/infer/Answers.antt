use Rattle.std.proofs.Common.{◌≡◌, ℕ, length, refl, subst, Option, List, rules}
use Rattle.circuit_model.specs.declared.model.Primitive.{Primitive}
use Rattle.circuit_model.specs.declared.model.Primitive.TheVariants.{Buf, Not, Const, And, Or, Xor, Nand, Nor, Xnor, Add, Mul}
use Rattle.circuit_model.specs.Inference.{IsOfPorts}
use Rattle.component_models.specs.Asking.{HasOpenPort}
use Rattle.circuit_model.specs.Lawful.{AreLawfulWidths}
use Rattle.component_models.proofs.Asked.{of_two_ports, of_three_ports, of_constant, of_multiplier}
use Rattle.component_models.proofs.Fitting.{forced_words_fit}
use Rattle.component_models.proofs.inference.infer.Goals as goal

lawful_at : (prim kind : Primitive) (widths : List ℕ) → prim ≡ kind → AreLawfulWidths prim widths → AreLawfulWidths kind widths
lawful_at prim kind widths e h = let C : Primitive → Type 0 = λ p. AreLawfulWidths p widths in subst C e h

of_ports_at : (prim kind : Primitive) (known : List (Option ℕ)) → prim ≡ kind → IsOfPorts prim known → IsOfPorts kind known
of_ports_at prim kind known e h = let C : Primitive → Type 0 = λ p. IsOfPorts p known in subst C e h

buf : goal.returns-in-Buf-clause-exact
buf c =
    let three : length c.args.known ≡ 3 = search rules in
    let three_widths : length c.args.widths ≡ 3 = search rules in
    rw c.in-Buf.is (of_two_ports Buf c.args.widths c.args.known three_widths three _ _ _ (lawful_at _ Buf c.args.widths c.in-Buf.is c.requires.widths) refl (of_ports_at _ Buf c.args.known c.in-Buf.is c.requires.ports) c.infer_buf.ensures)

not : goal.returns-in-Not-clause-exact
not c =
    let three : length c.args.known ≡ 3 = search rules in
    let three_widths : length c.args.widths ≡ 3 = search rules in
    rw c.in-Not.is (of_two_ports Not c.args.widths c.args.known three_widths three _ _ _ (lawful_at _ Not c.args.widths c.in-Not.is c.requires.widths) refl (of_ports_at _ Not c.args.known c.in-Not.is c.requires.ports) c.infer_not.ensures)

and : goal.returns-in-And-clause-exact
and c =
    let three : length c.args.known ≡ 3 = search rules in
    let three_widths : length c.args.widths ≡ 3 = search rules in
    rw c.in-And.is (of_three_ports And c.args.widths c.args.known three_widths three _ _ _ (lawful_at _ And c.args.widths c.in-And.is c.requires.widths) c.infer_and.ensures.exact)

or : goal.returns-in-Or-clause-exact
or c =
    let three : length c.args.known ≡ 3 = search rules in
    let three_widths : length c.args.widths ≡ 3 = search rules in
    rw c.in-Or.is (of_three_ports Or c.args.widths c.args.known three_widths three _ _ _ (lawful_at _ Or c.args.widths c.in-Or.is c.requires.widths) c.infer_or.ensures)

xor : goal.returns-in-Xor-clause-exact
xor c =
    let three : length c.args.known ≡ 3 = search rules in
    let three_widths : length c.args.widths ≡ 3 = search rules in
    rw c.in-Xor.is (of_three_ports Xor c.args.widths c.args.known three_widths three _ _ _ (lawful_at _ Xor c.args.widths c.in-Xor.is c.requires.widths) c.infer_xor.ensures.exact)

nand : goal.returns-in-Nand-clause-exact
nand c =
    let three : length c.args.known ≡ 3 = search rules in
    let three_widths : length c.args.widths ≡ 3 = search rules in
    rw c.in-Nand.is (of_three_ports Nand c.args.widths c.args.known three_widths three _ _ _ (lawful_at _ Nand c.args.widths c.in-Nand.is c.requires.widths) c.infer_nand.ensures)

nor : goal.returns-in-Nor-clause-exact
nor c =
    let three : length c.args.known ≡ 3 = search rules in
    let three_widths : length c.args.widths ≡ 3 = search rules in
    rw c.in-Nor.is (of_three_ports Nor c.args.widths c.args.known three_widths three _ _ _ (lawful_at _ Nor c.args.widths c.in-Nor.is c.requires.widths) c.infer_nor.ensures)

xnor : goal.returns-in-Xnor-clause-exact
xnor c =
    let three : length c.args.known ≡ 3 = search rules in
    let three_widths : length c.args.widths ≡ 3 = search rules in
    rw c.in-Xnor.is (of_three_ports Xnor c.args.widths c.args.known three_widths three _ _ _ (lawful_at _ Xnor c.args.widths c.in-Xnor.is c.requires.widths) c.infer_xnor.ensures)

sum : goal.returns-in-Add-clause-exact
sum c =
    let three : length c.args.known ≡ 3 = search rules in
    let three_widths : length c.args.widths ≡ 3 = search rules in
    rw c.in-Add.is (of_three_ports Add c.args.widths c.args.known three_widths three _ _ _ (lawful_at _ Add c.args.widths c.in-Add.is c.requires.widths) c.infer_sum.ensures)

constant : goal.returns-in-Const-clause-exact
constant c =
    let three : length c.args.known ≡ 3 = search rules in
    let three_widths : length c.args.widths ≡ 3 = search rules in
    let value = c.in-Const.value in
    let C : Primitive → Type 0 = λ p. HasOpenPort p c.args.known in
    rw c.in-Const.is (of_constant value c.args.widths three_widths (lawful_at _ (Const value) c.args.widths c.in-Const.is c.requires.widths) c.args.known three (of_ports_at _ (Const value) c.args.known c.in-Const.is c.requires.ports) (subst C c.in-Const.is c.requires.open_port) _ _ c.infer_const.ensures.refuted c.infer_const.ensures.forced)

pub returns-in-Buf-clause-exact : goal.returns-in-Buf-clause-exact
returns-in-Buf-clause-exact c = buf c

pub returns-in-Buf-clause-fit : goal.returns-in-Buf-clause-fit
returns-in-Buf-clause-fit c = forced_words_fit _ _ _ _ _ (buf c)

pub returns-in-Not-clause-exact : goal.returns-in-Not-clause-exact
returns-in-Not-clause-exact c = not c

pub returns-in-Not-clause-fit : goal.returns-in-Not-clause-fit
returns-in-Not-clause-fit c = forced_words_fit _ _ _ _ _ (not c)

pub returns-in-And-clause-exact : goal.returns-in-And-clause-exact
returns-in-And-clause-exact c = and c

pub returns-in-And-clause-fit : goal.returns-in-And-clause-fit
returns-in-And-clause-fit c = forced_words_fit _ _ _ _ _ (and c)

pub returns-in-Or-clause-exact : goal.returns-in-Or-clause-exact
returns-in-Or-clause-exact c = or c

pub returns-in-Or-clause-fit : goal.returns-in-Or-clause-fit
returns-in-Or-clause-fit c = forced_words_fit _ _ _ _ _ (or c)

pub returns-in-Xor-clause-exact : goal.returns-in-Xor-clause-exact
returns-in-Xor-clause-exact c = xor c

pub returns-in-Xor-clause-fit : goal.returns-in-Xor-clause-fit
returns-in-Xor-clause-fit c = forced_words_fit _ _ _ _ _ (xor c)

pub returns-in-Nand-clause-exact : goal.returns-in-Nand-clause-exact
returns-in-Nand-clause-exact c = nand c

pub returns-in-Nand-clause-fit : goal.returns-in-Nand-clause-fit
returns-in-Nand-clause-fit c = forced_words_fit _ _ _ _ _ (nand c)

pub returns-in-Nor-clause-exact : goal.returns-in-Nor-clause-exact
returns-in-Nor-clause-exact c = nor c

pub returns-in-Nor-clause-fit : goal.returns-in-Nor-clause-fit
returns-in-Nor-clause-fit c = forced_words_fit _ _ _ _ _ (nor c)

pub returns-in-Xnor-clause-exact : goal.returns-in-Xnor-clause-exact
returns-in-Xnor-clause-exact c = xnor c

pub returns-in-Xnor-clause-fit : goal.returns-in-Xnor-clause-fit
returns-in-Xnor-clause-fit c = forced_words_fit _ _ _ _ _ (xnor c)

pub returns-in-Add-clause-exact : goal.returns-in-Add-clause-exact
returns-in-Add-clause-exact c = sum c

pub returns-in-Add-clause-fit : goal.returns-in-Add-clause-fit
returns-in-Add-clause-fit c = forced_words_fit _ _ _ _ _ (sum c)

pub returns-in-Const-clause-exact : goal.returns-in-Const-clause-exact
returns-in-Const-clause-exact c = constant c

pub returns-in-Const-clause-fit : goal.returns-in-Const-clause-fit
returns-in-Const-clause-fit c = forced_words_fit _ _ _ _ _ (constant c)

product : goal.returns-in-Mul-clause-exact
product c =
    let three : length c.args.known ≡ 3 = search rules in
    let three_widths : length c.args.widths ≡ 3 = search rules in
    rw c.in-Mul.is (of_multiplier c.args.widths _ _ three_widths (lawful_at _ Mul c.args.widths c.in-Mul.is c.requires.widths) c.args.known three _ _ c.infer_product.ensures)

pub returns-in-Mul-clause-exact : goal.returns-in-Mul-clause-exact
returns-in-Mul-clause-exact c = product c

pub returns-in-Mul-clause-fit : goal.returns-in-Mul-clause-fit
returns-in-Mul-clause-fit c = forced_words_fit _ _ _ _ _ (product c)
