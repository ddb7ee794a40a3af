-- `worfelli_struct_params`: by the reply to the bank's own reading. An accepted one puts the settings into the two arrays, and a refused one leaves
-- both as they were.
use mathlib.Core.Path.{sym, ap, ◌∙◌}
use Rattle.bank.specs.Replies.{Reply, of_reading}
use Rattle.worfelli.specs.OutParameters.{refusal, numbers, codes}
use Rattle.worfelli.proofs.readings.worfelli_struct_params.Goals as goal

pub returns-in-Ok : goal.returns-in-Ok
unfolding of_reading refusal numbers codes
returns-in-Ok c =
    let a = c.args in
    let e = ap (of_reading Reply.params) (sym c.in-Ok.is) ∙ c.params.ensures in
    record {
      refusal = ap refusal e;
      numbers = c.put_params.ensures.numbers ∙ ap (λ (y : Reply). numbers y a.numbers.now) e;
      codes = c.put_params.ensures.codes ∙ ap (λ (y : Reply). codes y a.codes.now) e;
    }

pub returns-in-Err : goal.returns-in-Err
unfolding of_reading refusal numbers codes
returns-in-Err c =
    let a = c.args in
    let e = ap (of_reading Reply.params) (sym c.in-Err.is) ∙ c.params.ensures in
    record {
      refusal = c.number.ensures ∙ ap refusal e;
      numbers = ap (λ (y : Reply). numbers y a.numbers.now) e;
      codes = ap (λ (y : Reply). codes y a.codes.now) e;
    }
