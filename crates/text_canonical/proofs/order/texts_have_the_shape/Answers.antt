use Rattle.text_canonical.proofs.order.Shaped.{text_is_shaped}
use Rattle.text_canonical.proofs.order.texts_have_the_shape.Goals as goal

pub returns : goal.returns
returns c = text_is_shaped
