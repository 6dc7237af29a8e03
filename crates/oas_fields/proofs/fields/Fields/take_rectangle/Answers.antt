use Rattle.oas_fields.proofs.PlainLemmas.{rectangle_taken}
use Rattle.oas_fields.proofs.fields.Fields.take_rectangle.Goals as goal

pub returns : goal.returns
returns c = record {
  fields = λ past before. rectangle_taken c.args.current.now past c.args.self.now c.put_rectangle.new.self before c.put_rectangle.ensures;
  placement = c.put_rectangle.ensures.placement;
  text = c.put_rectangle.ensures.text;
}
