-- No second outcome fits: every contract says that the outcome is what one function says of what is handed in.
use mathlib.Core.Path.{◌≡◌, sym, ◌∙◌}
use Rattle.plan.specs.Outcome.{Says}

pub says-once : {E X : Type 0} (f : E → X) (e : E) (x y : X) → Says f e x → Says f e y → x ≡ y
says-once f e x y p q = p ∙ sym q
