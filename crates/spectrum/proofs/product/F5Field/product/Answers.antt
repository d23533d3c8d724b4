-- The product from halves is the law of `Products`.
use Rattle.spectrum.proofs.Products.{product_5}
use Rattle.spectrum.proofs.product.F5Field.product.Goals as goal

pub returns : goal.returns
returns c = product_5 c.args.a c.args.c c.requires.0 c.requires.1
