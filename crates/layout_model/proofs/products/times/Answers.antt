use Rattle.layout_model.proofs.ProductLemmas.{product_small, product_bits}
use Rattle.layout_model.proofs.products.times.Goals as goal

pub returns-clause-value : goal.returns-clause-value
returns-clause-value c = product_bits c.args.factor c.args.value c.requires c.ranges.value

pub returns-clause-small : goal.returns-clause-small
returns-clause-small c = rw (product_bits c.args.factor c.args.value c.requires c.ranges.value)
    (product_small c.args.factor c.args.value c.requires c.ranges.value)
